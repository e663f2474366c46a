-- `tail_syntax::notes::notes_at` meets its contract. Assumes nothing.
use Rattle.std.proofs.Common.{sym, ◌∙◌}
use Rattle.tail_syntax.proofs.Walks.{turn}
use Rattle.tail_syntax.proofs.notes.notes_at.Goals as goal

pub loop-r-preserved : goal.loop-r-preserved
loop-r-preserved c = rw (c.walk_step-w.ensures, c.after_note-r.ensures) (turn _ _ _ (sym c.note_at.ensures ∙ c.in-Some.is) ∙ c.loop-r.invariant)
