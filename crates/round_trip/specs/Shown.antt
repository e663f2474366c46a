-- THE SHOWN RECORD: what the text of a stamp shows of it, and so what reading that text gives back; and the stamps that demand 3 speaks of.
-- Assumes nothing: these are definitions.
use Rattle.std.specs.Prelude.{ℕ, ◌-◌, ◌%◌, ◌^◌, Bool, true, false, ◌≡◌, List, Option, Some, None, is_some, option_map}
use Rattle.record.specs.declared.stamp.Calendar.{Calendar}
use Rattle.record.specs.declared.stamp.Offset.{Offset}
use Rattle.record.specs.declared.stamp.Zone.{Zone}
use Rattle.record.specs.declared.shown.ShownOffset.TheVariants.{Z, At}
use Rattle.record.specs.declared.stamp.Precision.{Precision}
use Rattle.record.specs.declared.stamp.Precision.TheVariants.{Auto, Minute, Digit}
use Rattle.record.specs.declared.stamp.Clock.{Clock}
use Rattle.record.specs.declared.stamp.Time.{Time}
use Rattle.record.specs.declared.stamp.Sign.{Sign}
use Rattle.record.specs.declared.stamp.Sign.TheVariants.{Negative, Zero, Positive}
use Rattle.record.specs.declared.stamp.UtcOffset.{UtcOffset}
use Rattle.record.specs.declared.stamp.UtcOffset.TheVariants as utc
use Rattle.record.specs.declared.stamp.DisplayOffset.{DisplayOffset}
use Rattle.record.specs.declared.stamp.DisplayOffset.TheVariants as display
use Rattle.record.specs.declared.stamp.Stamp.{Stamp}
use Rattle.record.specs.declared.shown.ShownOffset.{ShownOffset}
use Rattle.record.specs.Separators.{separators_on}
use Rattle.tail_writer.specs.declared.annotation.Mark.{Mark}
use Rattle.tail_writer.specs.declared.annotation.Mark.TheVariants.{Hidden, Plain, Critical}
use Rattle.tail_writer.specs.Annotation.{name_in}
use Rattle.tail_writer.specs.Zone.{zone_mark}
use Rattle.tail_writer.specs.Calendar.{is_iso, calendar_mark}
use Rattle.writer.specs.Stamp.{fields_ok, names_ok, parts_ok}
use Rattle.meaning.specs.Said.{NameSaid, said, Said}

-- ---- a time of day, cut by its precision: under Minute second and nanosecond are 0, Digit(d) cuts the nanosecond to d digits
abbrev pub second_shown : Precision → ℕ → ℕ
second_shown Auto s = s
second_shown Minute s = 0
second_shown (Digit d) s = s

abbrev pub nanosecond_shown : Precision → ℕ → ℕ
nanosecond_shown Auto n = n
nanosecond_shown Minute n = 0
nanosecond_shown (Digit d) n = n - n % 10 ^ (9 - d)

abbrev pub clock_shown : Time → Clock
clock_shown t =
    record {
      hour = t.clock.hour;
      minute = t.clock.minute;
      second = second_shown t.precision t.clock.second;
      nanosecond = nanosecond_shown t.precision t.clock.nanosecond;
    }

abbrev pub time_shown : Option Time → Option Clock
time_shown t = option_map clock_shown t

-- ---- an offset, cut by its own precision: sign Zero counts as Positive; Negative stays, also at zero; nothing under Never
abbrev pub is_negative : Sign → Bool
is_negative Negative = true
is_negative Zero = false
is_negative Positive = false

abbrev pub utc_shown : UtcOffset → ShownOffset
utc_shown utc.Z = Z
utc_shown (utc.Offset o) = At (record { negative = is_negative o.sign; clock = clock_shown o.time })

abbrev pub unless_hidden : DisplayOffset → ShownOffset → Option ShownOffset
unless_hidden display.Auto o = Some o
unless_hidden display.Never o = None

abbrev pub offset_shown : Option Offset → Option ShownOffset
offset_shown None = None
offset_shown (Some o) = unless_hidden o.show (utc_shown o.offset)

-- ---- a name with its critical mark: hidden as the writers hide it, a calendar under Auto exactly where it is `iso8601`
abbrev pub name_shown : Mark → List ℕ → Option NameSaid
name_shown Hidden name = None
name_shown Plain name = said false name
name_shown Critical name = said true name

abbrev pub zone_shown : List ℕ → Option Zone → Option NameSaid
zone_shown lent None = None
zone_shown lent (Some z) = name_shown (zone_mark z.show) (name_in lent z.name)

abbrev pub calendar_shown : List ℕ → Option Calendar → Option NameSaid
calendar_shown lent None = None
calendar_shown lent (Some c) = name_shown (calendar_mark c.show (is_iso lent c)) (name_in lent c.name)

-- ---- the whole: hidden and absent parts are absent, and no setting is part of it
unfoldable pub shown_record : List ℕ → Stamp → Said
shown_record lent s =
    record {
      date = s.date;
      time = time_shown s.time;
      offset = offset_shown s.offset;
      zone = zone_shown lent s.zone;
      calendar = calendar_shown lent s.calendar;
    }

-- ---- a stamp that the writer accepts: it has none of the refusals 2, 3, 4
pub record Accepted (lent : List ℕ) (s : Stamp) : Type 0 where
  pub fields : fields_ok s ≡ true
  pub names : names_ok lent s ≡ true
  pub parts : parts_ok s ≡ true

-- a stamp that makes a line: the writer accepts it, it has a date, and separators are on
pub record Line (lent : List ℕ) (s : Stamp) : Type 0 where
  pub accepted : Accepted lent s
  pub dated : is_some s.date ≡ true
  pub separated : separators_on s ≡ true
