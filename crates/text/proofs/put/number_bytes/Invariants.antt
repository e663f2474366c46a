-- `text::put::number_bytes` meets its contract. The loop keeps: the digits counted and those of what is left are one more than the number's.
-- Assumes nothing.
use mathlib.Core.Path.{◌≡◌}
use Prim.Native.Nat.{◌+◌, ◌^◌, ◌<◌}
use Rattle.text.specs.Digits.{width}
use Rattle.text.proofs.put.number_bytes.Given as goal

abbrev pub invariant-loop-rest : goal.invariant-loop-rest
invariant-loop-rest l = (l.n < 2 ^ 64) × (l.count + width l.rest ≡ 1 + width l.n)

abbrev pub decreases-loop-rest : goal.decreases-loop-rest
decreases-loop-rest l = l.rest
