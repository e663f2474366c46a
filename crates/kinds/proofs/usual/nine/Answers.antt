-- `kinds::usual::nine` meets its contract. Assumes nothing.
use Rattle.kinds.proofs.UsualLaws.{nine_digits}
use Rattle.kinds.proofs.usual.nine.Goals as goal

pub returns : goal.returns
returns c =
    rw (c.from-a.ensures, c.from-b.ensures, c.from-c.ensures, c.from-d.ensures, c.from-e.ensures)
    (nine_digits c.args.t.now c.in_ok-two_at.ensures c.in_ok-two_at-2.ensures c.in_ok-two_at-3.ensures c.in_ok-two_at-4.ensures c.in_ok-digit_of.ensures c.requires)
