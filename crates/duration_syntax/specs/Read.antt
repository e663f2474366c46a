-- What a duration's text reads as, from the front. `proofs/Exact.antt` shows that these definitions invert the grammar of `Syntax.antt`.
-- Assumes nothing: these are definitions.
use Rattle.std.specs.Prelude.{ℕ, ◌+◌, ◌*◌, Bool, true, false, cond, ◌&&◌, ◌||◌, List, ltb, leb, eqb, length, drop, Option, Some, None, is_some}
use Rattle.std.specs.Char.{to_ascii_uppercase}
use Rattle.text.specs.Walk.{front}
use Rattle.text.specs.Digits.{value_of}
use Rattle.names.specs.Grammar.{sign_byte}
use Rattle.time_syntax.specs.declared.fraction.Fraction.{Fraction}
use Rattle.time_syntax.specs.Read.{run, fraction_at, has_digits, past_fraction}
use Rattle.duration_syntax.specs.declared.number.Number.{Number}
use Rattle.duration_syntax.specs.declared.part.Part.{Part}
use Rattle.duration_syntax.specs.declared.raw.DateParts.{DateParts}
use Rattle.duration_syntax.specs.declared.raw.TimeParts.{TimeParts}
use Rattle.duration_syntax.specs.declared.raw.DurationRaw.{DurationRaw}

-- ---- a number

-- a number of at most 64 bits; none where it is larger
abbrev pub value_is : ℕ → Option ℕ
value_is n = cond (leb n 18446744073709551615) (Some n) None

-- one digit more
abbrev pub value_more : Option ℕ → ℕ → Option ℕ
value_more (Some n) d = value_is (n * 10 + d)
value_more None d = None

-- how many digits there are, and what they stand for
abbrev pub number_of : List ℕ → Number
number_of ds = record { digits = length ds; value = value_is (value_of ds) }

unfoldable pub number_at : List ℕ → Number
number_at l = number_of (run l)

-- ---- a part: a number, a fraction where one may stand, and the unit's letter

abbrev pub fraction_if : Bool → List ℕ → Option Fraction
fraction_if fractional l = cond fractional (fraction_at l) None

-- there are digits, a point has digits too, and the letter is the unit's
unfoldable pub part_fits : ℕ → Part → Bool
part_fits upper p = ltb 0 p.number.digits && has_digits p.fraction && eqb (to_ascii_uppercase p.letter) upper

unfoldable pub part_of : ℕ → Part → Option Part
part_of upper p = cond (part_fits upper p) (Some p) None

-- from the number and what follows it
abbrev pub part_from : ℕ → Bool → Number → List ℕ → Option Part
part_from upper fractional n l =
    part_of upper (record { number = n; fraction = fraction_if fractional l; letter = front (past_fraction (fraction_if fractional l) l) })

-- the part of one unit at the front
unfoldable pub part_at : ℕ → Bool → List ℕ → Option Part
part_at upper fractional l = part_from upper fractional (number_at l) (drop (number_at l).digits l)

-- what follows a part
abbrev pub after_part : Option Part → List ℕ → List ℕ
after_part None l = l
after_part (Some p) l = drop 1 (past_fraction p.fraction (drop p.number.digits l))

abbrev pub past_part : ℕ → Bool → List ℕ → List ℕ
past_part upper fractional l = after_part (part_at upper fractional l) l

-- ---- the date: Y M W D in order

unfoldable pub date_at : List ℕ → DateParts
date_at l =
    record {
      years = part_at 89 false l;
      months = part_at 77 false (past_part 89 false l);
      weeks = part_at 87 false (past_part 77 false (past_part 89 false l));
      days = part_at 68 false (past_part 87 false (past_part 77 false (past_part 89 false l)));
    }

unfoldable pub after_date : DateParts → List ℕ → List ℕ
after_date d l = after_part d.days (after_part d.weeks (after_part d.months (after_part d.years l)))

-- ---- the time: `T`, then H M S in order, a fraction on S only

unfoldable pub time_parts_at : ℕ → List ℕ → TimeParts
time_parts_at mark l =
    record {
      mark = mark;
      hours = part_at 72 false l;
      minutes = part_at 77 false (past_part 72 false l);
      seconds = part_at 83 true (past_part 77 false (past_part 72 false l));
    }

unfoldable pub time_at : List ℕ → Option TimeParts
time_at l = cond (eqb (to_ascii_uppercase (front l)) 84) (Some (time_parts_at (front l) (drop 1 l))) None

abbrev pub after_time : Option TimeParts → List ℕ → List ℕ
after_time None l = l
after_time (Some t) l = after_part t.seconds (after_part t.minutes (after_part t.hours (drop 1 l)))

-- ---- the whole text

-- the byte of a sign at the front
unfoldable pub sign_at : List ℕ → Option ℕ
sign_at l = cond (sign_byte (front l)) (Some (front l)) None

abbrev pub after_sign : Option ℕ → List ℕ → List ℕ
after_sign None l = l
after_sign (Some s) l = drop 1 l

abbrev pub in_date : DateParts → Bool
in_date d = is_some d.years || is_some d.months || is_some d.weeks || is_some d.days

abbrev pub in_time : TimeParts → Bool
in_time t = is_some t.hours || is_some t.minutes || is_some t.seconds

-- a part stands in the time; and none is needed where there is no `T`
abbrev pub some_time : Option TimeParts → Bool
some_time None = false
some_time (Some t) = in_time t

abbrev pub whole_time : Option TimeParts → Bool
whole_time None = true
whole_time (Some t) = in_time t

-- `P`, at least one part, at least one after `T`, and no byte left
unfoldable pub duration_fits : DurationRaw → ℕ → Bool
duration_fits d left = eqb (to_ascii_uppercase d.start) 80 && (in_date d.date || some_time d.time) && whole_time d.time && eqb left 0

unfoldable pub duration_of : DurationRaw → ℕ → Option DurationRaw
duration_of d left = cond (duration_fits d left) (Some d) None

-- from the date on, from the time on
abbrev pub from_time : Option ℕ → ℕ → DateParts → List ℕ → Option DurationRaw
from_time s p d l = duration_of (record { sign = s; start = p; date = d; time = time_at l }) (length (after_time (time_at l) l))

abbrev pub from_date : Option ℕ → ℕ → List ℕ → Option DurationRaw
from_date s p l = from_time s p (date_at l) (after_date (date_at l) l)

unfoldable pub duration_from : Option ℕ → List ℕ → Option DurationRaw
duration_from s l = from_date s (front l) (drop 1 l)

unfoldable pub duration : List ℕ → Option DurationRaw
duration l = duration_from (sign_at l) (after_sign (sign_at l) l)
