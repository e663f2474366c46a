-- `kinds::usual::two_at` meets its contract. Assumes nothing.
use Rattle.std.proofs.Common.{◌∙◌}
use Rattle.kinds.proofs.UsualLaws.{pair_is}
use Rattle.kinds.proofs.usual.two_at.Goals as goal

pub returns : goal.returns
returns c = c.two_of.ensures ∙ pair_is c.args.lo c.args.hi c.args.t.now c.args.i
