-- What a public writer and its length function answer, once for every kind of record. A record is judged first: it has its
-- text, or it is refused. The answers and the buffer afterwards follow from that alone.
-- Assumes nothing: these are definitions.
use Rattle.std.specs.Prelude.{◌≡◌, Bool, true, false, cond, List, ◌++◌, ℕ, leb, length, drop, Result, Ok, Err}
use Rattle.text.specs.declared.refusal.Refusal.{Refusal}
use Rattle.text.specs.declared.refusal.Refusal.TheVariants.{NoRoom, BadField, BadName, BadParts}

-- a record's text, or its refusal
abbrev pub Judged : Type 0
Judged = Result (List ℕ) Refusal

-- a count of bytes, or a refusal
abbrev pub Answer : Type 0
Answer = Result ℕ Refusal

-- a test that a record has to pass, and the refusal if it does not: tests stand in the order of their refusals
abbrev pub check : Bool → Refusal → Judged → Judged
check true k j = j
check false k j = Err k

-- the order of the refusals: fields, names, parts; then the text
abbrev pub judge : Bool → Bool → Bool → List ℕ → Judged
judge fields names parts t = check fields BadField (check names BadName (check parts BadParts (Ok t)))

-- the length function's answer
abbrev pub length_of : Judged → Answer
length_of (Ok t) = Ok (length t)
length_of (Err k) = Err k

-- the writer's answer: the length's, if there is room for it
abbrev pub fit_of : Answer → ℕ → Answer
fit_of (Ok n) room = cond (leb n room) (Ok n) (Err NoRoom)
fit_of (Err k) room = Err k

abbrev pub answer_of : Judged → List ℕ → Answer
answer_of j b = fit_of (length_of j) (length b)

-- the buffer afterwards: the text at its front, if there is room for it; else as it was
abbrev pub buffer_of : Judged → List ℕ → List ℕ
buffer_of (Ok t) b = cond (leb (length t) (length b)) (t ++ drop (length t) b) b
buffer_of (Err k) b = b

-- the contract of a public writer: it gives the answer and the whole buffer afterwards, for every record and every buffer
pub record Wrote (j : Judged) (b b' : List ℕ) (r : Answer) : Type 0 where
  pub answer : r ≡ answer_of j b
  pub buffer : b' ≡ buffer_of j b
