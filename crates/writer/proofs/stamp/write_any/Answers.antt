-- `writer::stamp::write_any` meets its contract, by the length's answer: a refusal, or the text written. Assumes nothing.
use mathlib.Core.Path.{◌≡◌}
use mathlib.Core.Bool.{Bool, true, false}
use mathlib.Core.List.{List}
use Prim.Native.Nat.{ℕ}
use native.Mathlib.Omega.{arith}
use borrow.Author.Rules.{rules}
use lib.ListN.{length}
use lib.Seq.{sets}
use Rattle.std.specs.Prelude.{Ok, Err}
use Rattle.text.specs.declared.refusal.Refusal.{Refusal}
use Rattle.text.specs.Answer.{Answer, judge, length_of, fit_of, Wrote}
use Rattle.text.proofs.OutLaws.{at_front}
use Rattle.writer.specs.Stamp.{stamp_text, fields_ok, names_ok, parts_ok, stamp_judged}
use Rattle.writer.proofs.stamp.write_any.Goals as goal

written : (f n p : Bool) (t b b' : List ℕ) (count r : Answer) → count ≡ length_of (judge f n p t) → r ≡ fit_of count (length b)
    → ((k : Refusal) → r ≡ Err k → b' ≡ b) → ((m : ℕ) → r ≡ Ok m → b' ≡ sets b 0 t) → Wrote (judge f n p t) b b' r
written true true true t b b' count r e a kept put = grind (arith, at_front)
written true true false t b b' count r e a kept put = grind arith
written true false p t b b' count r e a kept put = grind arith
written false n p t b b' count r e a kept put = grind arith

pub returns : goal.returns
unfolding stamp_judged
returns c =
    written (fields_ok c.args.s) (names_ok c.args.lent.now c.args.s) (parts_ok c.args.s) (stamp_text c.args.lent.now c.args.s) c.args.buf.now _ _ _ c.stamp_length.ensures
    c.write_with.ensures.answer c.write_with.ensures.refused (λ m e. let put = c.write_with.ensures.put_there m e in search rules)
