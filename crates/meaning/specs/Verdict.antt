-- Why a text of at most 1,024 bytes is refused: refusals 6 to 11 in document 01's order. Assumes nothing: these are definitions.
use Rattle.std.specs.Prelude.{ℕ, Bool, false, cond, not, ◌&&◌, ◌||◌, List, map, ltb, Option, Some, None, is_some, Result, Ok, Err}
use Rattle.std.specs.Char.{to_ascii_lowercase}
use Rattle.std.specs.Result.{result_and}
use Rattle.text.specs.Walk.{same_bytes}
use Rattle.text.specs.declared.refusal.Refusal.{Refusal}
use Rattle.text.specs.declared.refusal.Refusal.TheVariants.{BadText, UnknownCritical, LongFraction, OtherCalendar, CalendarClash, BadDay}
use Rattle.names.specs.Name.{iso8601}
use Rattle.iso.specs.Gregorian.{valid_date}
use Rattle.record.specs.declared.stamp.Date.{Date}
use Rattle.record.specs.Refusals.{Reading}
use Rattle.time_syntax.specs.declared.UtcRead.{UtcRead}
use Rattle.time_syntax.specs.Read.{fraction_in, digits_in}
use Rattle.tail_syntax.specs.declared.bracket.NameRead.{NameRead}
use Rattle.tail_syntax.specs.Read.{part_of}
use Rattle.grammar.specs.declared.ClockRead.{ClockRead}
use Rattle.meaning.specs.declared.Faults.{Faults}
use Rattle.meaning.specs.declared.Parts.{Parts}
use Rattle.meaning.specs.Shown.{shown}

-- the order: an unknown critical annotation, a long fraction, another calendar, a clash of calendars, a day not in its month
unfoldable pub verdict : Faults → Result (Unit {0}) Refusal
verdict f =
    cond f.unknown (Err UnknownCritical)
    (cond f.fraction (Err LongFraction) (cond f.calendar (Err OtherCalendar) (cond f.clash (Err CalendarClash) (cond f.day (Err BadDay) (Ok tt)))))

-- before all of them: a text that is not of the grammar, of which nothing was read
abbrev pub read_by : {W : Type 0} → (W → Reading) → Option W → Reading
read_by read None = Err BadText
read_by read (Some w) = read w

-- ---- each fault

-- more than nine digits, in a time or in an offset
abbrev pub utc_digits : UtcRead → ℕ
utc_digits (UtcRead.Z b) = 0
utc_digits (UtcRead.Offset o) = digits_in (fraction_in o.time.seconds)

abbrev pub utc_long : Option UtcRead → Bool
utc_long None = false
utc_long (Some u) = ltb 9 (utc_digits u)

abbrev pub clock_long : ClockRead → Bool
clock_long c = ltb 9 (digits_in (fraction_in c.time.seconds)) || utc_long c.utc

abbrev pub long_fraction : Option ClockRead → Bool
long_fraction None = false
long_fraction (Some c) = clock_long c

-- there is a `u-ca`, and the first is another calendar than iso8601, ASCII case ignored
unfoldable pub other_calendar : Option NameRead → List ℕ → Bool
other_calendar calendar l = is_some calendar && not (same_bytes (map to_ascii_lowercase (part_of calendar l)) iso8601)

-- the day is not in its month
abbrev pub late_date : Date → Bool
late_date d = not (valid_date d.year d.month d.day)

abbrev pub late_part : Option Date → Bool
late_part None = false
late_part (Some d) = late_date d

-- ---- all of them, of a text whose calendar is one that it may not have, or is none such
unfoldable pub faults_of : Bool → Parts → Faults
faults_of calendar p =
    record {
      unknown = p.tail.notes.unknown;
      fraction = long_fraction p.clock;
      calendar = calendar;
      clash = p.tail.notes.clash;
      day = late_part p.date;
    }

-- what a text of n bytes is read as, of which these are the parts
abbrev pub answer : Bool → ℕ → Parts → Reading
answer calendar n p = result_and (verdict (faults_of calendar p)) (Ok (shown n p))
