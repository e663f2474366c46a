-- How a year is written. Assumes nothing: these are definitions.
use Rattle.std.specs.Prelude.{ℕ, List, ◌∷◌, Bool, if◌then◌else◌, ◌&&◌, nat_le, Option, Some, None, Result, Ok, Err}
use Rattle.text.specs.declared.refusal.Refusal.{Refusal}
use Rattle.record.specs.declared.shown.Shown.{Shown}
use Rattle.audit_tally.specs.declared.kinds.YearWidth.{YearWidth}
use Rattle.audit_tally.specs.declared.kinds.YearWidth.TheVariants.{Four, Seven}

abbrev pub is_digit : ℕ → Bool
is_digit b = nat_le 48 b && nat_le b 57

-- the width of the year at the start of a text with a date: a year of four digits has three in front, and one with a sign has two after the sign
abbrev pub written_width : List ℕ → Option YearWidth
written_width (a ∷ b ∷ c ∷ rest) = if is_digit b && is_digit c then (if is_digit a then Some Four else Some Seven) else None
written_width _ = None

-- the same of a text that was read: none without a date
abbrev pub year_width : Result Shown Refusal → List ℕ → Option YearWidth
year_width (Err k) line = None
year_width (Ok shown) line = width_if_dated shown.date line
  where
    width_if_dated : {D : Type 0} → Option D → List ℕ → Option YearWidth
    width_if_dated None line = None
    width_if_dated (Some d) line = written_width line
