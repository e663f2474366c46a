-- WHAT A TEXT MEANS, by its syntax tree, as document 01 has it: what it says, and which of the refusals 7 to 11 it has. Assumes nothing: these are definitions.
use Rattle.std.specs.Prelude.{ℕ, Bool, false, not, ◌&&◌, ◌||◌, List, [], ◌∷◌, map, ltb, pos, length, Option, Some, None, is_some, Result}
use Rattle.std.specs.Char.{to_ascii_lowercase}
use Rattle.text.specs.Walk.{same_bytes}
use Rattle.text.specs.declared.refusal.Refusal.{Refusal}
use Rattle.names.specs.Name.{iso8601}
use Rattle.record.specs.declared.stamp.Date.{Date}
use Rattle.record.specs.declared.stamp.Clock.{Clock}
use Rattle.record.specs.declared.shown.ShownOffset.{ShownOffset}
use Rattle.record.specs.declared.shown.ShownOffset.TheVariants.{Z, At}
use Rattle.date_syntax.specs.Syntax as dates
use Rattle.time_syntax.specs.Syntax as times
use Rattle.tail_syntax.specs.Syntax as tails
use Rattle.grammar.specs.Syntax.{PartTree, date_only, at, StampTree, stamp_text, TimeTextTree, time_text_text, YearMonthTextTree, year_month_text_text, MonthDayTextTree, month_day_text_text}
use Rattle.meaning.specs.Shown.{signed_year, second}
use Rattle.meaning.specs.Verdict.{verdict, late_date}
use Rattle.meaning.specs.Said.{NameSaid, said, Said, Told, tell}

-- ---- dates: a year-month text has day 1, a month-day text the year 1972
abbrev pub date_says : dates.DateTree → Date
date_says t = record { year = signed_year t.year.negative t.year.year; month = t.month; day = t.day }

abbrev pub year_month_says : dates.YearMonthTree → Date
year_month_says t = record { year = signed_year t.year.negative t.year.year; month = t.month; day = 1 }

abbrev pub month_day_says : dates.MonthDayTree → Date
month_day_says t = record { year = pos 1972; month = t.month; day = t.day }

-- ---- times: second 60 is read as 59; absent seconds and fractions are 0
abbrev pub second_of : times.SecsTree → ℕ
second_of times.none = 0
second_of (times.whole s) = second s
second_of (times.part s p ds) = second s

abbrev pub fraction_of : times.SecsTree → List ℕ
fraction_of times.none = []
fraction_of (times.whole s) = []
fraction_of (times.part s p ds) = ds

abbrev pub time_says : times.TimeTree → Clock
time_says t = record { hour = t.hour; minute = t.minute; second = second_of t.secs; nanosecond = times.nanos_of (fraction_of t.secs) }

abbrev pub utc_says : times.UtcTree → Option ShownOffset
utc_says times.absent = None
utc_says (times.zulu b) = Some Z
utc_says (times.offset negative t) = Some (At (record { negative = negative; clock = time_says t }))

abbrev pub part_time : PartTree → Option Clock
part_time date_only = None
part_time (at b c) = Some (time_says c.time)

abbrev pub part_offset : PartTree → Option ShownOffset
part_offset date_only = None
part_offset (at b c) = utc_says c.utc

-- ---- names: the zone; of the annotations the first `u-ca`
abbrev pub zone_says : tails.ZoneTree → Option NameSaid
zone_says tails.no_zone = None
zone_says (tails.one_zone c n) = said c n

abbrev pub first_says : List tails.NoteTree → Option NameSaid
first_says [] = None
first_says (n ∷ ns) = said n.critical n.value

abbrev pub calendar_says : List tails.NoteTree → Option NameSaid
calendar_says ns = first_says (tails.calendars ns)

-- ---- refusal 8: a fraction of more than nine digits, in the time or in the offset
abbrev pub utc_fraction : times.UtcTree → List ℕ
utc_fraction times.absent = []
utc_fraction (times.zulu b) = []
utc_fraction (times.offset negative t) = fraction_of t.secs

abbrev pub clock_long : times.TimeTree → times.UtcTree → Bool
clock_long t u = ltb 9 (length (fraction_of t.secs)) || ltb 9 (length (utc_fraction u))

abbrev pub part_long : PartTree → Bool
part_long date_only = false
part_long (at b c) = clock_long c.time c.utc

-- ---- refusal 9: a calendar other than iso8601, ASCII case ignored: the first `u-ca` alone is judged
abbrev pub other_calendar_said : List tails.NoteTree → Bool
other_calendar_said ns = is_some (tails.first_calendar ns) && not (same_bytes (map to_ascii_lowercase (tails.calendar_name ns)) iso8601)

-- ---- each kind of text: why it is refused, if it is; what it says; its meaning
unfoldable pub stamp_refusal : StampTree → Result (Unit {0}) Refusal
stamp_refusal w =
    verdict (record {
      unknown = tails.strange w.tail.notes;
      fraction = part_long w.part;
      calendar = false;
      clash = tails.clashes w.tail.notes;
      day = late_date (date_says w.date);
    })

unfoldable pub stamp_says : StampTree → Said
stamp_says w =
    record {
      date = Some (date_says w.date);
      time = part_time w.part;
      offset = part_offset w.part;
      zone = zone_says w.tail.zone;
      calendar = calendar_says w.tail.notes;
    }

abbrev pub stamp_means : StampTree → Told
stamp_means w = tell (length (stamp_text w)) (stamp_refusal w) (stamp_says w)

unfoldable pub time_text_refusal : TimeTextTree → Result (Unit {0}) Refusal
time_text_refusal w =
    verdict (record {
      unknown = tails.strange w.tail.notes;
      fraction = clock_long w.clock.time w.clock.utc;
      calendar = false;
      clash = tails.clashes w.tail.notes;
      day = false;
    })

unfoldable pub time_text_says : TimeTextTree → Said
time_text_says w =
    record {
      date = None;
      time = Some (time_says w.clock.time);
      offset = utc_says w.clock.utc;
      zone = zone_says w.tail.zone;
      calendar = calendar_says w.tail.notes;
    }

abbrev pub time_text_means : TimeTextTree → Told
time_text_means w = tell (length (time_text_text w)) (time_text_refusal w) (time_text_says w)

-- a year-month or a month-day text, of the date that it stands for and its tail
unfoldable pub partial_refusal : Date → tails.TailTree → Result (Unit {0}) Refusal
partial_refusal d t =
    verdict (record {
      unknown = tails.strange t.notes;
      fraction = false;
      calendar = other_calendar_said t.notes;
      clash = tails.clashes t.notes;
      day = late_date d;
    })

unfoldable pub partial_says : Date → tails.TailTree → Said
partial_says d t =
    record { date = Some d; time = None; offset = None; zone = zone_says t.zone; calendar = calendar_says t.notes }

abbrev pub year_month_text_means : YearMonthTextTree → Told
year_month_text_means w =
    tell (length (year_month_text_text w)) (partial_refusal (year_month_says w.date) w.tail) (partial_says (year_month_says w.date) w.tail)

abbrev pub month_day_text_means : MonthDayTextTree → Told
month_day_text_means w =
    tell (length (month_day_text_text w)) (partial_refusal (month_day_says w.day) w.tail) (partial_says (month_day_says w.day) w.tail)
