-- What a duration's text says: the refusals 5, 6, 8 and 14 in that order, and what an accepted text shows. First by what was read of the text, as
-- the code has it, then by the syntax tree (`meant`). `proofs/MeaningLaws.antt` shows that the two are the same. Assumes nothing: these are definitions.
use Rattle.std.specs.Prelude.{ℕ, Bool, cond, ◌&&◌, ◌||◌, List, [], ltb, eqb, length, Option, Some, None, ok_or, Result, Ok, Err}
use Rattle.text.specs.declared.refusal.Refusal.{Refusal}
use Rattle.text.specs.declared.refusal.Refusal.TheVariants.{TooLong, BadText, LongFraction, TooLarge}
use Rattle.text.specs.Digits.{value_of}
use Rattle.record.specs.declared.stamp.Sign.{Sign}
use Rattle.time_syntax.specs.declared.fraction.Fraction.{Fraction}
use Rattle.time_syntax.specs.Read.{nanos_in, digits_in}
use Rattle.time_syntax.specs.Syntax.{nanos_of}
use Rattle.duration_syntax.specs.declared.part.Part.{Part}
use Rattle.duration_syntax.specs.declared.raw.TimeParts.{TimeParts}
use Rattle.duration_syntax.specs.declared.raw.DurationRaw.{DurationRaw}
use Rattle.duration_reader.specs.declared.meaning.DurationShown.{DurationShown}
use Rattle.duration_syntax.specs.Read.{duration}
use Rattle.duration_syntax.specs.Syntax.{PartTree, absent, whole, fractional, TimeTree, none, marked, sign_kept, DurationTree}

-- what is read of a text: what it shows, or why it is refused
abbrev pub DurationReading : Type 0
DurationReading = Result DurationShown Refusal

-- ---- what is shown of numbers: absent parts are 0; all zero gives sign Zero, else `-` Negative, `+` or no sign Positive

abbrev pub all_zero : DurationShown → Bool
all_zero d =
    eqb d.years 0 && eqb d.months 0 && eqb d.weeks 0 && eqb d.days 0
    && eqb d.hours 0 && eqb d.minutes 0 && eqb d.seconds 0 && eqb d.nanoseconds 0

abbrev pub sign_of : Option ℕ → Sign
sign_of None = Sign.Positive
sign_of (Some b) = cond (eqb b 45) Sign.Negative Sign.Positive

unfoldable pub shown_of : DurationShown → DurationShown
shown_of d = cond (all_zero d) (record d { sign = Sign.Zero }) d

-- the refusals of a text of the grammar, in their order: more than nine digits in the fraction; a number too large
abbrev pub judged : Bool → Bool → DurationShown → DurationReading
judged long large shown = cond long (Err LongFraction) (cond large (Err TooLarge) (Ok shown))

-- ---- by what was read

infixl 10 ◌>>=◌
abbrev pub ◌>>=◌ : {A B : Type 0} → Result A Refusal → (A → Result B Refusal) → Result B Refusal
Ok x >>= f = f x
Err e >>= f = Err e

abbrev pub part_value : Option Part → Option ℕ
part_value None = Some 0
part_value (Some p) = p.number.value

-- a number up to a limit
abbrev pub limited : ℕ → ℕ → Result ℕ Refusal
limited limit n = cond (ltb limit n) (Err TooLarge) (Ok n)

-- a part's number of at most 64 bits, and of at most 32
abbrev pub wide : Option Part → Result ℕ Refusal
wide p = ok_or (part_value p) TooLarge

abbrev pub narrow : Option Part → Result ℕ Refusal
narrow p = wide p >>= limited 4294967295

-- the parts of a time, where it has one
abbrev pub hours_in : Option TimeParts → Option Part
hours_in None = None
hours_in (Some t) = t.hours

abbrev pub minutes_in : Option TimeParts → Option Part
minutes_in None = None
minutes_in (Some t) = t.minutes

abbrev pub seconds_in : Option TimeParts → Option Part
seconds_in None = None
seconds_in (Some t) = t.seconds

abbrev pub part_fraction : Option Part → Option Fraction
part_fraction None = None
part_fraction (Some p) = p.fraction

abbrev pub fraction_of : Option TimeParts → Option Fraction
fraction_of t = part_fraction (seconds_in t)

-- the sign and the numbers
unfoldable pub numbers : DurationRaw → DurationReading
numbers d = do
  years ← narrow d.date.years
  months ← narrow d.date.months
  weeks ← narrow d.date.weeks
  days ← wide d.date.days
  hours ← wide (hours_in d.time)
  minutes ← wide (minutes_in d.time)
  seconds ← wide (seconds_in d.time)
  Ok (record {
    sign = sign_of d.sign;
    years = years;
    months = months;
    weeks = weeks;
    days = days;
    hours = hours;
    minutes = minutes;
    seconds = seconds;
    nanoseconds = nanos_in (fraction_of d.time);
  })

unfoldable pub answer : DurationRaw → DurationReading
answer d = cond (ltb 9 (digits_in (fraction_of d.time))) (Err LongFraction) (numbers d >>= λ n. Ok (shown_of n))

abbrev pub answer_of : Option DurationRaw → DurationReading
answer_of None = Err BadText
answer_of (Some d) = answer d

-- the answer to any text
unfoldable pub read_duration : List ℕ → DurationReading
read_duration l = cond (ltb 1024 (length l)) (Err TooLong) (answer_of (duration l))

-- ---- by the tree

-- the digits of a part, and those of its fraction
abbrev pub number_digits : PartTree → List ℕ
number_digits absent = []
number_digits (whole ds b) = ds
number_digits (fractional ds p fs b) = ds

abbrev pub fraction_digits : PartTree → List ℕ
fraction_digits absent = []
fraction_digits (whole ds b) = []
fraction_digits (fractional ds p fs b) = fs

-- the parts of a time, where it has one
abbrev pub hours_of : TimeTree → PartTree
hours_of none = absent
hours_of (marked b h m s) = h

abbrev pub minutes_of : TimeTree → PartTree
minutes_of none = absent
minutes_of (marked b h m s) = m

abbrev pub seconds_of : TimeTree → PartTree
seconds_of none = absent
seconds_of (marked b h m s) = s

-- the sign and the numbers
abbrev pub means : DurationTree → DurationShown
means t =
    record {
      sign = sign_of (sign_kept t.sign);
      years = value_of (number_digits t.date.years);
      months = value_of (number_digits t.date.months);
      weeks = value_of (number_digits t.date.weeks);
      days = value_of (number_digits t.date.days);
      hours = value_of (number_digits (hours_of t.time));
      minutes = value_of (number_digits (minutes_of t.time));
      seconds = value_of (number_digits (seconds_of t.time));
      nanoseconds = nanos_of (fraction_digits (seconds_of t.time));
    }

-- a number too large: 32 bits for years, months, weeks; 64 for the rest
abbrev pub over : DurationShown → Bool
over d =
    ltb 4294967295 d.years || ltb 4294967295 d.months || ltb 4294967295 d.weeks || ltb 18446744073709551615 d.days
    || ltb 18446744073709551615 d.hours || ltb 18446744073709551615 d.minutes || ltb 18446744073709551615 d.seconds

unfoldable pub meant : DurationTree → DurationReading
meant t = judged (ltb 9 (length (fraction_digits (seconds_of t.time)))) (over (means t)) (shown_of (means t))
