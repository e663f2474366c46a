-- The examples of document 01 and of its decided points for the writers of stamps and their parts, computed. Assumes nothing.
use Prim.Native.Nat.{ℕ}
use Prim.Native.String.{String}
use mathlib.Core.Path.{◌≡◌, refl}
use mathlib.Core.Bool.{Bool, true, false}
use mathlib.Core.List.{List, ◌++◌}
use lib.IntN.{ℤ, pos, negsuc}
use lib.ListN.{replicate}
use Rattle.text.specs.Digits.{last_nonzero, fraction}
use Rattle.std.specs.Prelude.{Ok, Err}
use Rattle.text.specs.declared.refusal.Refusal.TheVariants.{NoRoom, BadField, BadName, BadParts}
use Rattle.text.specs.Answer.{Judged, answer_of, buffer_of}
use Rattle.text.proofs.Quoted.{bytes}
use Rattle.iso.specs.Gregorian.{leap_rule, is_leap, month_lengths, days_in_month, valid_date}
use Rattle.record.specs.declared.stamp.Date.{Date}
use Rattle.record.specs.declared.stamp.Precision.{Precision}
use Rattle.record.specs.declared.stamp.Precision.TheVariants.{Auto, Minute, Digit}
use Rattle.record.specs.declared.stamp.Time.{Time}
use Rattle.record.specs.declared.stamp.Sign.{Sign}
use Rattle.record.specs.declared.stamp.Sign.TheVariants.{Negative, Zero, Positive}
use Rattle.record.specs.declared.stamp.UtcOffset.TheVariants as from-utc
use Rattle.record.specs.declared.stamp.DisplayOffset.{DisplayOffset}
use Rattle.record.specs.declared.stamp.DisplayOffset.TheVariants as offset
use Rattle.record.specs.declared.stamp.Offset.{Offset}
use Rattle.record.specs.declared.stamp.Name.{Name}
use Rattle.record.specs.declared.stamp.DisplayTimeZone.{DisplayTimeZone}
use Rattle.record.specs.declared.stamp.DisplayTimeZone.TheVariants as zone
use Rattle.record.specs.declared.stamp.Zone.{Zone}
use Rattle.record.specs.declared.stamp.DisplayCalendar.{DisplayCalendar}
use Rattle.record.specs.declared.stamp.DisplayCalendar.TheVariants as calendar
use Rattle.record.specs.declared.stamp.Calendar.{Calendar}
use Rattle.record.specs.declared.stamp.Stamp.{Stamp}
use Rattle.record.specs.Steps.{no_parts, with_date, with_time, with_minute_offset, with_z, with_timezone, with_calendar}
use Rattle.precision.specs.Precision.{sub_second}
use Rattle.names.specs.Field.{digit, pair_of, field}
use Rattle.names.specs.Scan.{word_step, join_step, dot_step, run_step, part_step, value_step, zone_step, whole_of, run_of, calendar_run, numeric_of, numeric_run, zone_run}
use Rattle.names.specs.Name.{name_inside, name_ok, zone_name_ok, calendar_name_ok}
use Rattle.date_writer.specs.Date.{year_text, date_text, date_ok, date_judged}
use Rattle.time_writer.specs.Time.{seconds, time_text, clock_ok, time_ok, time_judged}
use Rattle.time_writer.specs.Offset.{signed_text, offset_text, offset_ok, offset_judged}
use Rattle.tail_writer.specs.Annotation.{bracketed}
use Rattle.tail_writer.specs.Zone.{zone_text, zone_ok, zone_judged}
use Rattle.tail_writer.specs.Calendar.{is_iso, calendar_text, calendar_ok, calendar_judged}
use Rattle.writer.specs.Stamp.{stamp_text, fields_ok, names_ok, parts_ok, stamp_judged}

-- ---- records in a line each: settings first, then values
abbrev day : ℤ → ℕ → ℕ → Date
day y m d = record { year = y; month = m; day = d }

abbrev clock : Bool → Precision → ℕ → ℕ → ℕ → ℕ → Time
clock sep p h m s ns = record { clock = record { hour = h; minute = m; second = s; nanosecond = ns }; precision = p; include_sep = sep }

abbrev at : Precision → ℕ → ℕ → ℕ → ℕ → Time
at p h m s ns = clock true p h m s ns

abbrev shift : DisplayOffset → Sign → Time → Offset
shift o s t = record { show = o; offset = from-utc.Offset (record { sign = s; time = t }) }

abbrev z : DisplayOffset → Offset
z o = record { show = o; offset = from-utc.Z }

-- names of the lent text: `UTC`, `iso8601`, `ISO8601`; and what is none: `..` as a zone, `a-` as a calendar
lent : List ℕ
lent = bytes "UTCiso8601ISO8601..a-"

abbrev name : ℕ → ℕ → Name
name at len = record { at = at; len = len }

abbrev utc : Name
utc = name 0 3

abbrev iso : Name
iso = name 3 7

abbrev ISO : Name
ISO = name 10 7

abbrev dots : Name
dots = name 17 2

abbrev dash : Name
dash = name 19 2

abbrev in-zone : DisplayTimeZone → Name → Zone
in-zone s n = record { show = s; name = n }

abbrev in-calendar : DisplayCalendar → Name → Calendar
in-calendar s n = record { show = s; name = n }

is : String → Judged
is s = Ok (bytes s)

-- document 01's stamp of 45 bytes
last : Stamp
last =
    with_calendar
    (with_timezone (with_z (with_time (with_date no_parts (day (pos 9999) 12 31)) 23 59 59 999999999 (Digit 3)) offset.Auto) utc zone.Critical)
    iso calendar.Critical

table :
    -- dates: the year's three forms, its range, and a day of its own year
    (date_judged (day (pos 9999) 12 31) ≡ is "9999-12-31")
    × (date_judged (day (pos 0) 1 1) ≡ is "0000-01-01")
    × (date_judged (day (pos 10000) 1 1) ≡ is "+010000-01-01")
    × (date_judged (day (negsuc 0) 12 31) ≡ is "-000001-12-31")
    × (date_judged (day (pos 999999) 12 31) ≡ is "+999999-12-31")
    × (date_judged (day (pos 1000000) 1 1) ≡ Err BadField)
    × (date_judged (day (pos 2024) 2 29) ≡ is "2024-02-29")
    × (date_judged (day (pos 2023) 2 29) ≡ Err BadField)
    -- times: each precision; cut, never rounded; separators off; what is hidden is tested
    × (time_judged (at Auto 10 15 0 0) ≡ is "10:15:00")
    × (time_judged (at (Digit 3) 10 15 0 0) ≡ is "10:15:00.000")
    × (time_judged (at (Digit 0) 10 15 0 999999999) ≡ is "10:15:00")
    × (time_judged (at Auto 10 15 0 123456789) ≡ is "10:15:00.123456789")
    × (time_judged (at (Digit 3) 10 15 0 123456789) ≡ is "10:15:00.123")
    × (time_judged (at (Digit 4) 10 15 0 123456789) ≡ is "10:15:00.1234")
    × (time_judged (at Auto 10 15 0 120000000) ≡ is "10:15:00.12")
    × (time_judged (at Minute 10 15 59 999999999) ≡ is "10:15")
    × (time_judged (clock false Auto 10 15 0 5) ≡ is "101500.000000005")
    × (time_judged (at Minute 0 0 60 0) ≡ Err BadField)
    × (time_judged (at Minute 0 0 0 1000000000) ≡ Err BadField)
    × (time_judged (at (Digit 10) 0 0 0 0) ≡ Err BadField)
    × (time_judged (at Auto 24 0 0 0) ≡ Err BadField)
    -- offsets: Negative stays at zero, Zero is `+`; under Never nothing is written and all is tested
    × (offset_judged (z offset.Auto) ≡ is "Z")
    × (offset_judged (shift offset.Auto Negative (at Minute 0 0 0 0)) ≡ is "-00:00")
    × (offset_judged (shift offset.Auto Zero (at Minute 0 0 0 0)) ≡ is "+00:00")
    × (offset_judged (shift offset.Auto Positive (at Auto 1 2 3 4)) ≡ is "+01:02:03.000000004")
    × (offset_judged (shift offset.Auto Negative (clock false Minute 5 30 0 0)) ≡ is "-0530")
    × (offset_judged (shift offset.Never Positive (at Minute 1 0 0 0)) ≡ is "")
    × (offset_judged (shift offset.Never Positive (at Minute 24 0 0 0)) ≡ Err BadField)
    -- zones: a name is a place and a length in the lent text, wholly inside it, and tested under Never too
    × (zone_judged lent (in-zone zone.Auto utc) ≡ is "[UTC]")
    × (zone_judged lent (in-zone zone.Critical utc) ≡ is "[!UTC]")
    × (zone_judged lent (in-zone zone.Never utc) ≡ is "")
    × (zone_judged lent (in-zone zone.Never dots) ≡ Err BadName)
    × (zone_judged lent (in-zone zone.Auto (name 19 2)) ≡ is "[a-]")
    × (zone_judged lent (in-zone zone.Auto (name 19 3)) ≡ Err BadName)
    × (zone_judged lent (in-zone zone.Auto (name 18446744073709551615 1)) ≡ Err BadName)
    × (zone_judged lent (in-zone zone.Auto (name 0 0)) ≡ Err BadName)
    -- calendars: Auto hides exactly `iso8601`
    × (calendar_judged lent (in-calendar calendar.Auto iso) ≡ is "")
    × (calendar_judged lent (in-calendar calendar.Auto ISO) ≡ is "[u-ca=ISO8601]")
    × (calendar_judged lent (in-calendar calendar.Always iso) ≡ is "[u-ca=iso8601]")
    × (calendar_judged lent (in-calendar calendar.Critical iso) ≡ is "[!u-ca=iso8601]")
    × (calendar_judged lent (in-calendar calendar.Never ISO) ≡ is "")
    × (calendar_judged lent (in-calendar calendar.Never dash) ≡ Err BadName)
    -- stamps: 45 bytes, into a buffer of 44, and into one of 46, whose last byte stays
    × (stamp_judged lent last ≡ is "9999-12-31T23:59:59.999Z[!UTC][!u-ca=iso8601]")
    × (answer_of (stamp_judged lent last) (replicate 44 7) ≡ Err NoRoom)
    × (buffer_of (stamp_judged lent last) (replicate 44 7) ≡ replicate 44 7)
    × (answer_of (stamp_judged lent last) (replicate 46 7) ≡ Ok 45)
    × (buffer_of (stamp_judged lent last) (replicate 46 7) ≡ bytes "9999-12-31T23:59:59.999Z[!UTC][!u-ca=iso8601]" ++ replicate 1 7)
    -- a time alone has no `T`; a hidden offset needs no time, a shown one does, `Z` too; neither date nor time
    × (stamp_judged lent (with_time no_parts 10 15 0 0 Auto) ≡ is "10:15:00")
    × (stamp_judged lent (with_z (with_date no_parts (day (pos 2024) 5 6)) offset.Never) ≡ is "2024-05-06")
    × (stamp_judged lent (with_z (with_date no_parts (day (pos 2024) 5 6)) offset.Auto) ≡ Err BadParts)
    × (stamp_judged lent (with_minute_offset (with_date no_parts (day (pos 2024) 5 6)) Positive 1 0 offset.Auto) ≡ Err BadParts)
    × (stamp_judged lent no_parts ≡ Err BadParts)
    × (stamp_judged lent (with_timezone no_parts utc zone.Auto) ≡ Err BadParts)
    -- 2 before 3 before 4, over all parts, hidden too
    × (stamp_judged lent (with_timezone (with_minute_offset no_parts Zero 0 60 offset.Never) dots zone.Never) ≡ Err BadField)
    × (stamp_judged lent (with_timezone no_parts dots zone.Never) ≡ Err BadName)
    × (stamp_judged lent (with_calendar no_parts dash calendar.Never) ≡ Err BadName)
unfolding lent is last bytes
    date_judged date_ok valid_date days_in_month month_lengths is_leap leap_rule date_text year_text
    time_judged time_ok clock_ok time_text seconds sub_second fraction last_nonzero offset_judged offset_ok offset_text signed_text
    zone_judged zone_ok zone_text calendar_judged calendar_ok calendar_text is_iso bracketed
    zone_name_ok calendar_name_ok name_ok name_inside zone_run calendar_run numeric_run numeric_of field pair_of digit
    run_of whole_of zone_step value_step part_step run_step dot_step join_step word_step
    stamp_judged fields_ok names_ok parts_ok stamp_text
table = (refl, refl, refl, refl, refl, refl, refl, refl, refl, refl, refl, refl, refl, refl, refl, refl, refl, refl, refl, refl, refl, refl, refl, refl, refl, refl, refl, refl, refl, refl, refl, refl, refl, refl, refl, refl, refl, refl, refl, refl, refl, refl, refl, refl, refl, refl, refl, refl, refl, refl, refl, refl, refl, refl, refl, refl)
