-- `time_syntax::fraction::fraction_of` meets its contract. The invariant: what is left to read gives the whole answer, and the sum fits.
-- Assumes nothing.
use Rattle.std.proofs.Common.{◌≡◌, ◌+◌, ◌*◌, ◌≤◌, drop}
use Rattle.time_syntax.specs.Read.{digits_from, fraction_of}
use Rattle.time_syntax.proofs.fraction.fraction_of.Given as goal

abbrev pub invariant-loop-b : goal.invariant-loop-b
invariant-loop-b l = (l.digits ≡ l.b-index) × (l.nanos + 10 * l.weight ≤ 1000000000) × (digits_from l.point (drop l.b-index l.t) l.digits l.weight l.nanos ≡ fraction_of l.point l.t)
