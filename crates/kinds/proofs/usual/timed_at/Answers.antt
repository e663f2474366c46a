-- `kinds::usual::timed_at` meets its contract. Assumes nothing.
use Rattle.kinds.proofs.UsualLaws.{timed_stamp}
use Rattle.kinds.proofs.usual.timed_at.Goals as goal

pub returns-then-t-eq84 : goal.returns-then-t-eq84
returns-then-t-eq84 c = timed_stamp c.args.t.now c.in_ok-end.end c.in_ok-date.ensures c.if-t-eq84.true c.in_ok-time.ensures c.in_ok-utc.ensures
