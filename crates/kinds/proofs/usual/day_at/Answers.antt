-- `kinds::usual::day_at` meets its contract. Assumes nothing.
use Rattle.kinds.proofs.UsualLaws.{day_lem}
use Rattle.kinds.proofs.usual.day_at.Goals as goal

pub returns-then-t : goal.returns-then-t
returns-then-t c =
    rw (c.from.ensures, c.from-then-t.ensures)
    (day_lem c.args.t.now c.in_ok-high.ensures c.in_ok-low.ensures c.in_ok-month.ensures c.in_ok-day.ensures c.if-t.true)
