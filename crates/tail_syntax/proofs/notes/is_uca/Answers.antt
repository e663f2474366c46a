-- `tail_syntax::notes::is_uca` meets its contract where the key has not four bytes. Assumes nothing.
use Rattle.std.proofs.Common.{arith}
use Rattle.tail_syntax.proofs.Kept.{other_key}
use Rattle.tail_syntax.proofs.notes.is_uca.Goals as goal

pub returns-in_default : goal.returns-in_default
returns-in_default c = rw (← c.part.ensures) (other_key c.part.result.now (λ e. omega (arith, e, c.in_default.len_below)))

pub returns-in_default-6 : goal.returns-in_default-6
returns-in_default-6 c = rw (← c.part.ensures) (other_key c.part.result.now (λ e. omega (arith, e, c.in_default.len_at_least)))
