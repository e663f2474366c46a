-- What is read of a text: the parts that it shows. Assumes nothing: these are definitions.
use Rattle.std.specs.Prelude.{ℕ, ◌-◌, ◌<◌, Bool, cond, ltb, ℤ, pos, neg_ℤ, option_map, option_and_then}
use Rattle.record.specs.declared.stamp.Date.{Date}
use Rattle.record.specs.declared.stamp.Clock.{Clock}
use Rattle.record.specs.declared.shown.ShownOffset.{ShownOffset}
use Rattle.record.specs.declared.shown.ShownOffset.TheVariants as offset
use Rattle.record.specs.declared.shown.MarkedName.{MarkedName}
use Rattle.record.specs.declared.shown.Shown.{Shown}
use Rattle.date_syntax.specs.declared.DateRead.{DateRead}
use Rattle.date_syntax.specs.declared.MonthDayRead.{MonthDayRead}
use Rattle.time_syntax.specs.declared.TimeRead.{TimeRead}
use Rattle.time_syntax.specs.declared.UtcRead.{UtcRead}
use Rattle.time_syntax.specs.Read.{second_in, fraction_in, nanos_in}
use Rattle.tail_syntax.specs.declared.bracket.NameRead.{NameRead}
use Rattle.meaning.specs.declared.Parts.{Parts}

-- a year from its sign and its number
abbrev pub signed_year : Bool → ℕ → ℤ
signed_year negative year = cond negative (neg_ℤ (pos year)) (pos year)

-- the years of the grammar have at most six digits
abbrev pub Small : DateRead → Type 0
Small d = d.year < 1000000

abbrev pub shown_date : DateRead → Date
shown_date d = record { year = signed_year d.negative d.year; month = d.month; day = d.day }

-- a month-day text has the year 1972
abbrev pub shown_month_day : MonthDayRead → Date
shown_month_day d = record { year = pos 1972; month = d.month; day = d.day }

-- second 60 is read as 59
abbrev pub second : ℕ → ℕ
second s = cond (ltb s 60) s 59

-- a time as it stands; absent seconds and fractions are 0
abbrev pub clock_of : TimeRead → Clock
clock_of t = record { hour = t.hour; minute = t.minute; second = second_in t.seconds; nanosecond = nanos_in (fraction_in t.seconds) }

abbrev pub shown_time : TimeRead → Clock
shown_time t = record { hour = t.hour; minute = t.minute; second = second (second_in t.seconds); nanosecond = nanos_in (fraction_in t.seconds) }

abbrev pub shown_utc : UtcRead → ShownOffset
shown_utc (UtcRead.Z b) = offset.Z
shown_utc (UtcRead.Offset o) = offset.At (record { negative = o.negative; clock = clock_of o.time })

-- a name is a place and a length in the text read, of n bytes: `left` bytes from its start to the end
abbrev pub marked_name : ℕ → NameRead → MarkedName
marked_name n m = record { name = record { at = n - m.left; len = m.size }; critical = m.critical }

-- the whole, of a text of n bytes
unfoldable pub shown : ℕ → Parts → Shown
shown n p =
    record {
      date = p.date;
      time = option_map (λ c. shown_time c.time) p.clock;
      offset = option_map shown_utc (option_and_then (λ c. c.utc) p.clock);
      zone = option_map (marked_name n) p.tail.zone;
      calendar = option_map (marked_name n) p.tail.notes.calendar;
    }
