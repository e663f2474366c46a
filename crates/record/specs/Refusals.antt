-- What a reading answers as a number. Assumes nothing: these are definitions.
use Rattle.std.specs.Prelude.{ℕ, Result, Ok, Err}
use Rattle.text.specs.declared.refusal.Refusal.{Refusal}
use Rattle.text.specs.Refusal.{number}
use Rattle.record.specs.declared.shown.Shown.{Shown}

-- what is read of a text: what it shows, or why it is refused
abbrev pub Reading : Type 0
Reading = Result Shown Refusal

-- 0 if a text was accepted, else its refusal's number
abbrev pub refusal_of : Reading → ℕ
refusal_of (Ok shown) = 0
refusal_of (Err k) = number k
