-- The loop's invariant: the digits from place i on are done, and `rest` is what is left of the value. Assumes nothing.
use Rattle.std.proofs.Common.{◌≡◌, ◌-◌, ◌/◌, ◌^◌, length, drop}
use Rattle.text.specs.Digits.{digits}
use Rattle.text.proofs.digits.low_nine.Given as goal

abbrev pub invariant-loop-i : goal.invariant-loop-i
invariant-loop-i l = (length l.out ≡ 9) × (l.rest ≡ l.value / 10 ^ (9 - l.i)) × (drop l.i l.out ≡ digits (9 - l.i) l.value)
