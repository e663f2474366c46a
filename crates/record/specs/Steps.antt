-- The steps that make a stamp: each sets one part, whole, and keeps the others. Assumes nothing: these are definitions.
use Rattle.std.specs.Prelude.{Bool, true, cond, ◌&&◌, ℕ, ◌+◌, ◌*◌, leb, Some, None}
use Rattle.record.specs.declared.stamp.Date.{Date}
use Rattle.record.specs.declared.stamp.Precision.{Precision}
use Rattle.record.specs.declared.stamp.Precision.TheVariants.{Minute}
use Rattle.record.specs.declared.stamp.Sign.{Sign}
use Rattle.record.specs.declared.stamp.UtcOffset.{UtcOffset}
use Rattle.record.specs.declared.stamp.UtcOffset.TheVariants.{Z, Offset}
use Rattle.record.specs.declared.stamp.DisplayOffset.{DisplayOffset}
use Rattle.record.specs.declared.stamp.DisplayTimeZone.{DisplayTimeZone}
use Rattle.record.specs.declared.stamp.DisplayCalendar.{DisplayCalendar}
use Rattle.record.specs.declared.stamp.Name.{Name}
use Rattle.record.specs.declared.stamp.Stamp.{Stamp}

abbrev pub sub_second : ℕ → ℕ → ℕ → Bool
sub_second ms us ns = leb ms 999 && leb us 999 && leb ns 999

-- three sub-second fields as one; a field over 999 gives a nanosecond that no writer takes
unfoldable pub nanosecond_of : ℕ → ℕ → ℕ → ℕ
nanosecond_of ms us ns = cond (sub_second ms us ns) (ms * 1000000 + us * 1000 + ns) 1000000000

abbrev pub no_parts : Stamp
no_parts =
    record {
      date = None;
      time = None;
      offset = None;
      zone = None;
      calendar = None;
    }

abbrev pub with_date : Stamp → Date → Stamp
with_date s date = record { date = Some date; time = s.time; offset = s.offset; zone = s.zone; calendar = s.calendar }

-- separators are on
abbrev pub with_time : Stamp → ℕ → ℕ → ℕ → ℕ → Precision → Stamp
with_time s hour minute second nanosecond precision =
    record {
      date = s.date;
      time =
          Some
          (record {
            clock = record { hour = hour; minute = minute; second = second; nanosecond = nanosecond };
            precision = precision;
            include_sep = true;
          });
      offset = s.offset;
      zone = s.zone;
      calendar = s.calendar;
    }

abbrev pub with_offset : Stamp → DisplayOffset → UtcOffset → Stamp
with_offset s show offset =
    record {
      date = s.date;
      time = s.time;
      offset = Some (record { show = show; offset = offset });
      zone = s.zone;
      calendar = s.calendar;
    }

-- hours and minutes, shown as such; separators are on
abbrev pub with_minute_offset : Stamp → Sign → ℕ → ℕ → DisplayOffset → Stamp
with_minute_offset s sign hour minute show =
    with_offset s show
    (Offset
    (record {
      sign = sign;
      time =
          record {
            clock = record { hour = hour; minute = minute; second = 0; nanosecond = 0 };
            precision = Minute;
            include_sep = true;
          };
    }))

abbrev pub with_z : Stamp → DisplayOffset → Stamp
with_z s show = with_offset s show Z

abbrev pub with_timezone : Stamp → Name → DisplayTimeZone → Stamp
with_timezone s name show =
    record {
      date = s.date;
      time = s.time;
      offset = s.offset;
      zone = Some (record { show = show; name = name });
      calendar = s.calendar;
    }

abbrev pub with_calendar : Stamp → Name → DisplayCalendar → Stamp
with_calendar s name show =
    record {
      date = s.date;
      time = s.time;
      offset = s.offset;
      zone = s.zone;
      calendar = Some (record { show = show; name = name });
    }
