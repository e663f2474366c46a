-- The text of a duration, and which durations have one. Assumes nothing: these are definitions.
use Rattle.std.specs.Prelude.{Bool, true, false, cond, not, ◌&&◌, ◌||◌, List, [], ◌∷◌, ◌++◌, ℕ, zero, suc, eqb, leb, Option, Some, None, is_none}
use Rattle.text.specs.Digits.{number}
use Rattle.text.specs.Put.{mark}
use Rattle.text.specs.Answer.{Judged, judge}
use Rattle.record.specs.declared.stamp.Precision.{Precision}
use Rattle.record.specs.declared.stamp.Precision.TheVariants.{Auto, Minute, Digit}
use Rattle.record.specs.declared.stamp.Sign.{Sign}
use Rattle.record.specs.declared.stamp.Sign.TheVariants.{Negative, Zero, Positive}
use Rattle.record.specs.declared.duration.DateDuration.{DateDuration}
use Rattle.record.specs.declared.duration.TimeDuration.{TimeDuration}
use Rattle.record.specs.declared.duration.TimeDuration.TheVariants as time
use Rattle.record.specs.declared.duration.Duration.{Duration}
use Rattle.precision.specs.Precision.{precision_ok, sub_second}
use Rattle.duration.specs.declared.held.TimeNumbers.{TimeNumbers}

-- ---- what a duration holds: its numbers, where an absent part counts as 0, and its settings

abbrev pub date_numbers : Option DateDuration → DateDuration
date_numbers None = record { years = 0; months = 0; weeks = 0; days = 0 }
date_numbers (Some d) = d

abbrev pub time_numbers : Option TimeDuration → TimeNumbers
time_numbers None = record { hours = 0; minutes = 0; seconds = 0; fraction = 0 }
time_numbers (Some (time.Hours h f)) = record { hours = h; minutes = 0; seconds = 0; fraction = f }
time_numbers (Some (time.Minutes h m f)) = record { hours = h; minutes = m; seconds = 0; fraction = f }
time_numbers (Some (time.Seconds h m s f)) = record { hours = h; minutes = m; seconds = s; fraction = f }

abbrev pub in_seconds : Option TimeDuration → Bool
in_seconds None = false
in_seconds (Some (time.Hours h f)) = false
in_seconds (Some (time.Minutes h m f)) = false
in_seconds (Some (time.Seconds h m s f)) = true

abbrev pub negative : Sign → Bool
negative Negative = true
negative Zero = false
negative Positive = false

abbrev pub minute : Precision → Bool
minute Auto = false
minute Minute = true
minute (Digit d) = false

abbrev pub digit : Precision → Bool
digit Auto = false
digit Minute = false
digit (Digit d) = true

abbrev pub nonzero : ℕ → Bool
nonzero n = not (eqb n 0)

-- ---- the text

-- a number and the letter of its unit; nothing for 0
unfoldable pub unit : ℕ → ℕ → List ℕ
unit zero letter = []
unit (suc n) letter = number (suc n) ++ (letter ∷ [])

-- years Y, months M, weeks W, days D
unfoldable pub date_units : DateDuration → List ℕ
date_units n = unit n.years 89 ++ unit n.months 77 ++ unit n.weeks 87 ++ unit n.days 68

-- the Seconds form writes its seconds if they are not 0, if the fraction is not, if there is no date and hours and minutes are 0, or under Digit
unfoldable pub seconds_shown : Duration → Bool
seconds_shown d =
    let n = time_numbers d.time in
    in_seconds d.time
    && (nonzero n.seconds || nonzero n.fraction || (is_none d.date && eqb n.hours 0 && eqb n.minutes 0) || digit d.precision)

-- the seconds with their fraction, S
unfoldable pub seconds_text : Precision → TimeNumbers → List ℕ
seconds_text p n = number n.seconds ++ sub_second p n.fraction ++ (83 ∷ [])

-- hours H, minutes M, and the seconds if they are written
unfoldable pub time_units : Precision → Bool → TimeNumbers → List ℕ
time_units p shown n = unit n.hours 72 ++ unit n.minutes 77 ++ cond shown (seconds_text p n) []

-- T before the time's units, if there are any
abbrev pub designated : List ℕ → List ℕ
designated [] = []
designated (b ∷ t) = 84 ∷ b ∷ t

-- all that stands after P
unfoldable pub parts_text : Duration → List ℕ
parts_text d =
    date_units (date_numbers d.date) ++ designated (time_units d.precision (seconds_shown d) (time_numbers d.time))

-- Temporal's TemporalDurationToString, without rounding: `-` if Negative, P, the parts
unfoldable pub duration_text : Duration → List ℕ
duration_text d = mark (negative d.sign) 45 ++ (80 ∷ []) ++ parts_text d

-- ---- which durations have a text

-- the fraction is one of nanoseconds, Digit shows at most nine digits, and Minute stands in no Seconds duration
unfoldable pub duration_ok : Duration → Bool
duration_ok d =
    leb (time_numbers d.time).fraction 999999999 && precision_ok d.precision && not (minute d.precision && in_seconds d.time)

-- a text is not empty
abbrev pub some : List ℕ → Bool
some [] = false
some (b ∷ t) = true

-- not all are 0
abbrev pub any_date : DateDuration → Bool
any_date n = nonzero n.years || nonzero n.months || nonzero n.weeks || nonzero n.days

abbrev pub any_time : TimeNumbers → Bool
any_time n = nonzero n.hours || nonzero n.minutes || nonzero n.seconds || nonzero n.fraction

-- a unit of the time is written, given whether the seconds are
abbrev pub time_shown : Bool → TimeNumbers → Bool
time_shown shown n = nonzero n.hours || nonzero n.minutes || shown

-- there is a part to write; not all parts and the fraction of a negative duration are 0, as given; a fraction stands on seconds only
unfoldable pub duration_parts_ok : Duration → Bool
duration_parts_ok d =
    some (parts_text d)
    && (not (negative d.sign) || any_date (date_numbers d.date) || any_time (time_numbers d.time))
    && (in_seconds d.time || eqb (time_numbers d.time).fraction 0)

unfoldable pub duration_judged : Duration → Judged
duration_judged d = judge (duration_ok d) true (duration_parts_ok d) (duration_text d)
