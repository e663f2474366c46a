-- `tail_syntax::notes::notes_at` meets its contract. The invariant: what is left gives the whole answer. The measure: what is left.
-- Assumes nothing.
use Rattle.std.proofs.Common.{◌≡◌, length}
use Rattle.tail_syntax.specs.Read.{walk, none}
use Rattle.tail_syntax.proofs.notes.notes_at.Given as goal

abbrev pub invariant-loop-r : goal.invariant-loop-r
invariant-loop-r l = walk (length l.r) l.r l.w ≡ walk (length l.t) l.t none

abbrev pub decreases-loop-r : goal.decreases-loop-r
decreases-loop-r l = length l.r
