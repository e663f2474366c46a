-- The loop's invariant: the digits from place i on are 0. Assumes nothing.
use Rattle.std.proofs.Common.{◌≡◌, length, take}
use Rattle.text.specs.Digits.{last_nonzero}
use Rattle.text.proofs.digits.last_nonzero.Given as goal

abbrev pub invariant-loop-i : goal.invariant-loop-i
invariant-loop-i l = (length l.ds ≡ 9) × (last_nonzero l.ds ≡ last_nonzero (take l.i l.ds))
