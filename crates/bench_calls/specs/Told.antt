-- What a writer answered as one number. Assumes nothing: these are definitions.
use Rattle.std.specs.Prelude.{ℕ, ◌+◌, Result, Ok, Err}
use Rattle.text.specs.declared.refusal.Refusal.{Refusal}
use Rattle.text.specs.Refusal.{number}

-- the count of bytes, or 1,000 and the refusal's number
abbrev pub told : Result ℕ Refusal → ℕ
told (Ok n) = n
told (Err k) = 1000 + number k
