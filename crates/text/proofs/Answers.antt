-- What the answers of length functions and writers tell, once for every kind of record. Assumes nothing.
--     both          a test of two parts was passed, so each was
--     accepted      a count was given, so each test was passed, and the record has its text
--     fitted        what `fit` answers of a `Refusal` is the writer's answer
--     refused       the writer's answer is a refusal: the buffer stays as it was
--     determined    the contract leaves no choice: the same record and buffer give the same answer and the same buffer
use mathlib.Core.Path.{◌≡◌, refl, sym, ap, ◌∙◌}
use mathlib.Core.Bool.{Bool, true, false, cond, ◌&&◌, false≢true}
use mathlib.Core.List.{List}
use Prim.Native.Nat.{ℕ, ◌≤◌, ◌<◌}
use native.Mathlib.Omega.{arith}
use lib.Dec.{leb}
use lib.ListN.{length}
use Rattle.std.proofs.lemmas.Bool.{leb-true, leb-false}
use Rattle.std.specs.Prelude.{Ok, Err}
use Rattle.text.specs.declared.refusal.Refusal.{Refusal}
use Rattle.text.specs.declared.refusal.Refusal.TheVariants.{NoRoom}
use Rattle.text.specs.Answer.{Judged, Answer, judge, fit_of, answer_of, Wrote}

pub both : (a b : Bool) → (a && b) ≡ true → (a ≡ true) × (b ≡ true)
both true b e = (refl, e)
both false b e = absurd (false≢true e)

pub fitted : (count r : Answer) (room : ℕ) → ((n : ℕ) → count ≡ Ok n → n ≤ room → r ≡ Ok n) → ((n : ℕ) → count ≡ Ok n → room < n → (k : Refusal) × (r ≡ Err k) × (k ≡ NoRoom)) →
    ((k : Refusal) → count ≡ Err k → r ≡ Err k) → r ≡ fit_of count room
fitted (Err k) r room fits no_room refused = refused k refl
fitted (Ok n) r room fits no_room refused = go (leb n room) refl
  where
    go : (f : Bool) → leb n room ≡ f → r ≡ cond f (Ok n) (Err NoRoom)
    go true l = fits n refl (leb-true n room l)
    go false l = let q = no_room n refl (leb-false n room l) in q.1 ∙ ap Err q.2

pub refused : (j : Judged) {b : List ℕ} {k : Refusal} → Err k ≡ answer_of j b → Wrote j b b (Err k)
refused (Err m) e = record { answer = e; buffer = refl }
refused (Ok t) {b} {k} e = go (leb (length t) (length b)) refl e
  where
    go : (f : Bool) → leb (length t) (length b) ≡ f → Err k ≡ cond f (Ok (length t)) (Err NoRoom) → Wrote (Ok t) b b (Err k)
    go true l e = let z : ◌≡◌ {A = ℕ} 0 1 = cc in absurd (omega arith)
    go false l e = record { answer = rw l e; buffer = rw l refl }

-- where a count was given
pub record Accepted (f n p : Bool) (t : List ℕ) : Type 0 where
  pub fields : f ≡ true
  pub names : n ≡ true
  pub parts : p ≡ true
  pub text : judge f n p t ≡ Ok t

no_count : {n : ℕ} {k : Refusal} → Ok n ≡ Err k → ⊥
no_count e = let z : ◌≡◌ {A = ℕ} 0 1 = cc in omega arith

pub accepted : (fields names parts : Bool) (t b : List ℕ) {n : ℕ} → Ok n ≡ answer_of (judge fields names parts t) b → Accepted fields names parts t
accepted true true true t b e = record { fields = refl; names = refl; parts = refl; text = refl }
accepted true true false t b e = absurd (no_count e)
accepted true false parts t b e = absurd (no_count e)
accepted false names parts t b e = absurd (no_count e)

pub determined : {j : Judged} {b b₁ b₂ : List ℕ} {r₁ r₂ : Answer} → Wrote j b b₁ r₁ → Wrote j b b₂ r₂ → (r₁ ≡ r₂) × (b₁ ≡ b₂)
determined p q = (p.answer ∙ sym q.answer, p.buffer ∙ sym q.buffer)
