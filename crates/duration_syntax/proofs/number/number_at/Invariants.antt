-- `duration_syntax::number::number_at` meets its contract. The invariant: the digits read so far, and those that are left. Assumes nothing.
use Rattle.std.proofs.Common.{◌≡◌}
use Rattle.duration_syntax.proofs.RunLaws.{Begun}
use Rattle.duration_syntax.proofs.number.number_at.Given as goal

abbrev pub invariant-loop-b : goal.invariant-loop-b
invariant-loop-b l = (l.digits ≡ l.b-index) × Begun l.t l.b-index l.value
