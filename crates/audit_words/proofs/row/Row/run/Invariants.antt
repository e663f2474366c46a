-- `audit_words::row::Row::run` meets its contract: a byte takes at most four columns, and three are left after the place where none starts. Assumes nothing.
use Rattle.std.proofs.Common.{◌+◌, ◌≤◌, length}
use Rattle.audit_words.proofs.row.Row.run.Given as goal

abbrev pub invariant-loop-b : goal.invariant-loop-b
invariant-loop-b g l = (length l.initial.self ≤ length l.self) × (length l.self ≤ l.end + 3)
