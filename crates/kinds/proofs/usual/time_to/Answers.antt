-- `kinds::usual::time_to` meets its contract. Assumes nothing.
use Rattle.kinds.proofs.UsualLaws.{time_lem, end_is}
use Rattle.kinds.proofs.usual.time_to.Goals as goal

pub fraction_to-requires : goal.fraction_to-requires
fraction_to-requires c = (c.requires.least, c.requires.most, end_is _ _ c.requires)

pub returns-then-t : goal.returns-then-t
returns-then-t c = time_lem c.args.t.now c.args.end c.in_ok-hour.ensures c.in_ok-minute.ensures c.in_ok-second.ensures c.if-t.true c.in_ok-fraction.ensures
