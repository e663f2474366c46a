-- Stamps as most are: a date of a four-digit year and a time to the second or finer with its separators, in UTC or with nothing said of that, and no
-- names. What the quick writer keeps of such a stamp, and that it is the stamp's own text. Assumes nothing: these are definitions.
use Rattle.std.specs.Prelude.{Bool, true, false, cond, ◌≡◌, List, [], ◌∷◌, ◌++◌, ℕ, Option, Some, None, Ok}
use Rattle.text.specs.Digits.{decimal}
use Rattle.text.specs.Put.{mark}
use Rattle.record.specs.declared.stamp.Precision.{Precision}
use Rattle.record.specs.declared.stamp.Precision.TheVariants.{Auto, Minute, Digit}
use Rattle.record.specs.declared.stamp.Clock.{Clock}
use Rattle.record.specs.declared.stamp.Date.{Date}
use Rattle.record.specs.declared.stamp.Time.{Time}
use Rattle.record.specs.declared.stamp.UtcOffset.{UtcOffset}
use Rattle.record.specs.declared.stamp.UtcOffset.TheVariants as utc
use Rattle.record.specs.declared.stamp.Offset.{Offset}
use Rattle.record.specs.declared.stamp.Stamp.{Stamp}
use Rattle.date_writer.specs.Date.{year_text, date_text, date_ok}
use Rattle.time_writer.specs.Time.{time_text, time_ok}
use Rattle.writer.specs.Stamp.{shows, stamp_judged}

-- whether `Z` is shown; None for an offset that is hidden or not `Z`
abbrev pub zulu_in : UtcOffset → Option Bool
zulu_in utc.Z = Some true
zulu_in (utc.Offset s) = None

abbrev pub zulu_of : Option Offset → Option Bool
zulu_of None = Some false
zulu_of (Some o) = cond (shows o.show) (zulu_in o.offset) None

abbrev pub shows_seconds : Precision → Bool
shows_seconds Auto = true
shows_seconds Minute = false
shows_seconds (Digit d) = true

-- `HH:MM:SS`
unfoldable pub clock_text : Clock → List ℕ
clock_text c = decimal 2 c.hour ++ (58 ∷ []) ++ decimal 2 c.minute ++ (58 ∷ []) ++ decimal 2 c.second

unfoldable pub usual_text : Date → Time → Bool → List ℕ
usual_text d t zulu = date_text d ++ (84 ∷ []) ++ time_text t ++ mark zulu 90

-- what holds of its date, whose year has the four digits of y, and of its time
pub record UsualParts (y : ℕ) (d : Date) (t : Time) : Type 0 where
  pub year : year_text d.year ≡ decimal 4 y
  pub date : date_ok d ≡ true
  pub time : time_ok t ≡ true
  pub separated : t.include_sep ≡ true
  pub seconds : shows_seconds t.precision ≡ true

-- what is kept of a stamp is its text, whatever text is lent beside it
abbrev pub Kept : Stamp → Date → Time → Bool → Type 0
Kept s d t zulu = (lent : List ℕ) → stamp_judged lent s ≡ Ok (usual_text d t zulu)
