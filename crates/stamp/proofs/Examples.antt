-- EVERY WORKED EXAMPLE that document 01 marks [P], in its order and in one theorem, `examples`: computed. Assumes nothing.
use Prim.Native.Nat.{ℕ}
use Prim.Native.String.{String}
use mathlib.Core.Path.{◌≡◌, refl}
use mathlib.Core.Bool.{true, false}
use mathlib.Core.List.{List}
use lib.IntN.{ℤ, pos, negsuc}
use lib.ListN.{replicate}
use Rattle.text.specs.Digits.{last_nonzero, fraction, width_by, width, number}
use Rattle.std.specs.Prelude.{Some, None, Ok, Err}
use Rattle.text.specs.declared.refusal.Refusal.TheVariants.{NoRoom}
use Rattle.text.specs.Answer.{Judged, length_of, answer_of, buffer_of}
use Rattle.text.proofs.Quoted.{bytes}
use Rattle.iso.specs.Gregorian.{leap_rule, is_leap, month_lengths, days_in_month, valid_date}
use Rattle.record.specs.declared.stamp.Date.{Date}
use Rattle.record.specs.declared.stamp.Precision.{Precision}
use Rattle.record.specs.declared.stamp.Precision.TheVariants.{Auto, Digit}
use Rattle.record.specs.declared.stamp.Time.{Time}
use Rattle.record.specs.declared.stamp.Sign.TheVariants.{Negative, Positive}
use Rattle.record.specs.declared.stamp.DisplayOffset.TheVariants as offset
use Rattle.record.specs.declared.stamp.Name.{Name}
use Rattle.record.specs.declared.stamp.DisplayTimeZone.TheVariants as zone
use Rattle.record.specs.declared.stamp.DisplayCalendar.TheVariants as calendar
use Rattle.record.specs.declared.stamp.Calendar.{Calendar}
use Rattle.record.specs.declared.stamp.Stamp.{Stamp}
use Rattle.record.specs.declared.duration.TimeDuration.TheVariants.{Seconds}
use Rattle.record.specs.declared.goal.Goal.TheVariants as goal
use Rattle.record.specs.Refusals.{Reading, refusal_of}
use Rattle.record.specs.Steps.{no_parts, with_date, with_time, with_z, with_timezone, with_calendar}
use Rattle.precision.specs.Precision.{sub_second}
use Rattle.names.specs.Field.{digit, pair_of, field}
use Rattle.names.specs.Scan.{word_step, join_step, dot_step, key_step, run_step, part_step, value_step, zone_step, whole_of, run_of, key_run, calendar_run, numeric_of, numeric_run, zone_run}
use Rattle.names.specs.Name.{name_inside, name_ok, zone_name_ok, calendar_name_ok}
use Rattle.date_writer.specs.Date.{year_text, date_text, date_ok, date_judged}
use Rattle.time_writer.specs.Time.{seconds, time_text, clock_ok, time_ok, time_judged}
use Rattle.time_writer.specs.Offset.{signed_text, offset_text, offset_ok}
use Rattle.tail_writer.specs.Annotation.{bracketed}
use Rattle.tail_writer.specs.Zone.{zone_text, zone_ok}
use Rattle.tail_writer.specs.Calendar.{is_iso, calendar_text, calendar_ok}
use Rattle.partial_writer.specs.Partial.{month_day_text, month_day_judged}
use Rattle.writer.specs.Stamp.{stamp_text, fields_ok, names_ok, parts_ok, stamp_judged}
use Rattle.duration.specs.Duration.{unit, date_units, seconds_shown, seconds_text, time_units, parts_text, duration_text, duration_ok, duration_parts_ok, duration_judged}
use Rattle.date_syntax.specs.Read.{marked as dash, plain as four, signed, year, year_month as year_month-at, date as date-at}
use Rattle.time_syntax.specs.Read.{fraction_of, fraction_at, minute_at, seconds_at, time, past, utc as utc-at}
use Rattle.tail_syntax.specs.Read.{opened, inside, ended, zone as zone-at, note, walk_step, notes, tail}
use Rattle.grammar.specs.Read.{clock_at, timed_at, stamp}
use Rattle.meaning.specs.Shown.{shown}
use Rattle.meaning.specs.Verdict.{verdict, faults_of}
use Rattle.kinds.specs.Kinds.{stamp_answer, read_stamp}
use Rattle.reader.specs.Goals.{read_goal}
use Rattle.recogniser.specs.Plain.{plain_clock, plain, recognises}

abbrev day : ℤ → ℕ → ℕ → Date
day y m d = record { year = y; month = m; day = d }

abbrev at : Precision → ℕ → ℕ → ℕ → ℕ → Time
at p h m s ns = record { clock = record { hour = h; minute = m; second = s; nanosecond = ns }; precision = p; include_sep = true }

pub lent : List ℕ
lent = bytes "UTCiso8601"

abbrev UTC : Name
UTC = record { at = 0; len = 3 }

abbrev iso : Name
iso = record { at = 3; len = 7 }

-- the first example: 9999-12-31, 23:59:59, nanosecond 999,999,999, Digit(3), Z, zone UTC Critical, calendar iso8601 Critical
pub last : Stamp
last =
    with_calendar
    (with_timezone (with_z (with_time (with_date no_parts (day (pos 9999) 12 31)) 23 59 59 999999999 (Digit 3)) offset.Auto) UTC zone.Critical)
    iso calendar.Critical

pub always : Calendar
always = record { show = calendar.Always; name = iso }

pub is : String → Judged
is s = Ok (bytes s)

-- what a text is read as by the stamp goal
pub read : String → Reading
read s = read_goal goal.Stamp (bytes s)

-- a date alone
pub only : Date → Reading
only d = Ok (record { date = Some d; time = None; offset = None; zone = None; calendar = None })

pub examples :
    (stamp_judged lent last ≡ is "9999-12-31T23:59:59.999Z[!UTC][!u-ca=iso8601]")
    × (length_of (stamp_judged lent last) ≡ Ok 45)
    × (answer_of (stamp_judged lent last) (replicate 44 0) ≡ Err NoRoom)
    × (buffer_of (stamp_judged lent last) (replicate 44 0) ≡ replicate 44 0)
    × (date_judged (day (pos 10000) 1 1) ≡ is "+010000-01-01")
    × (date_judged (day (negsuc 0) 12 31) ≡ is "-000001-12-31")
    × (time_judged (at Auto 10 15 0 0) ≡ is "10:15:00")
    × (time_judged (at (Digit 3) 10 15 0 0) ≡ is "10:15:00.000")
    × (month_day_judged lent (day (pos 1972) 5 6) always ≡ is "1972-05-06[u-ca=iso8601]")
    × (length_of (month_day_judged lent (day (pos 1972) 5 6) always) ≡ Ok 24)
    × (duration_judged (record { precision = Auto; sign = Negative; date = Some (record { years = 1; months = 2; weeks = 0; days = 0 }); time = Some (Seconds 0 0 3 4) }) ≡ is "-P1Y2MT3.000000004S")
    × (duration_judged (record { precision = Auto; sign = Positive; date = None; time = Some (Seconds 0 0 0 0) }) ≡ is "PT0S")
    × (refusal_of (read "2023-02-30") ≡ 11)
    × (read "+000000-01-01" ≡ only (day (pos 0) 1 1))
    × (recognises (bytes "+000000-01-01") ≡ false)
    × (refusal_of (read "2024-05-06[u-ca=iso8601][!u-ca=iso8601]") ≡ 10)
    × (refusal_of (read "2024-05-06[u-ca=iso8601][u-ca=iso8601]") ≡ 0)
unfolding lent last always is read only bytes
    date_judged date_ok valid_date days_in_month month_lengths is_leap leap_rule date_text year_text
    time_judged time_ok clock_ok time_text seconds sub_second fraction last_nonzero offset_ok offset_text signed_text
    zone_ok zone_text calendar_ok calendar_text is_iso bracketed
    zone_name_ok calendar_name_ok name_ok name_inside zone_run calendar_run key_run numeric_run numeric_of field pair_of digit
    run_of whole_of zone_step value_step part_step run_step key_step dot_step join_step word_step
    month_day_judged month_day_text stamp_judged fields_ok names_ok parts_ok stamp_text
    duration_judged duration_ok duration_parts_ok duration_text parts_text date_units time_units seconds_shown seconds_text unit number width width_by
    dash four signed year year_month-at date-at fraction_of fraction_at minute_at seconds_at time past utc-at
    opened inside ended zone-at note walk_step notes tail
    clock_at timed_at stamp shown verdict faults_of stamp_answer read_stamp
    plain_clock plain recognises
examples = (refl, refl, refl, refl, refl, refl, refl, refl, refl, refl, refl, refl, refl, refl, refl, refl, refl)
