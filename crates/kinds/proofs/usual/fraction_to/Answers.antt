-- `kinds::usual::fraction_to` meets its contract. Assumes nothing.
use Rattle.kinds.proofs.UsualLaws.{fraction_none, fraction_some}
use Rattle.kinds.proofs.usual.fraction_to.Goals as goal

pub returns-then-end-eq19 : goal.returns-then-end-eq19
returns-then-end-eq19 c = fraction_none c.args.t.now c.args.end c.if-end-eq19.true c.requires.2

pub returns-then-t-eq46 : goal.returns-then-t-eq46
returns-then-t-eq46 c =
    let n = c.in_ok-nanos.ensures in
    fraction_some c.args.t.now c.args.end c.in_ok-nanos.nanos c.if-t-eq46.true n.0 n.1 c.requires.2 n.2
