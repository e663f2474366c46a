-- The examples of document 01 and of its decided points for month-days and year-months, computed. Assumes nothing.
use Prim.Native.Nat.{ℕ}
use Prim.Native.String.{String}
use mathlib.Core.Path.{◌≡◌, refl}
use mathlib.Core.List.{List}
use lib.IntN.{ℤ, pos}
use Rattle.std.specs.Prelude.{Ok, Err}
use Rattle.text.specs.declared.refusal.Refusal.TheVariants.{BadField, BadName}
use Rattle.text.specs.Answer.{Judged, length_of}
use Rattle.text.proofs.Quoted.{bytes}
use Rattle.iso.specs.Gregorian.{leap_rule, is_leap, month_lengths, days_in_month, valid_date}
use Rattle.record.specs.declared.stamp.Date.{Date}
use Rattle.record.specs.declared.stamp.Name.{Name}
use Rattle.record.specs.declared.stamp.DisplayCalendar.{DisplayCalendar}
use Rattle.record.specs.declared.stamp.DisplayCalendar.TheVariants as calendar
use Rattle.record.specs.declared.stamp.Calendar.{Calendar}
use Rattle.names.specs.Scan.{word_step, join_step, dot_step, run_step, part_step, value_step, whole_of, run_of, calendar_run}
use Rattle.names.specs.Name.{name_inside, name_ok, calendar_name_ok}
use Rattle.date_writer.specs.Date.{year_text, date_ok}
use Rattle.tail_writer.specs.Annotation.{bracketed}
use Rattle.tail_writer.specs.Calendar.{is_iso, calendar_text, calendar_ok}
use Rattle.partial_writer.specs.Partial.{month_day_text, year_month_text, month_day_judged, year_month_judged}

abbrev day : ℤ → ℕ → ℕ → Date
day y m d = record { year = y; month = m; day = d }

-- names of the lent text: `iso8601`, `ISO8601`; and what is none: `a-`
lent : List ℕ
lent = bytes "iso8601ISO8601a-"

abbrev name : ℕ → ℕ → Name
name at len = record { at = at; len = len }

abbrev iso : Name
iso = name 0 7

abbrev ISO : Name
ISO = name 7 7

abbrev dash : Name
dash = name 14 2

abbrev in-calendar : DisplayCalendar → Name → Calendar
in-calendar s n = record { show = s; name = n }

is : String → Judged
is s = Ok (bytes s)

table :
    -- month-days: the year is written under Always and Critical and for another calendar, and tested where it is not; 2 comes before 3
    (month_day_judged lent (day (pos 1972) 5 6) (in-calendar calendar.Always iso) ≡ is "1972-05-06[u-ca=iso8601]")
    × (length_of (month_day_judged lent (day (pos 1972) 5 6) (in-calendar calendar.Always iso)) ≡ Ok 24)
    × (month_day_judged lent (day (pos 1972) 5 6) (in-calendar calendar.Auto iso) ≡ is "05-06")
    × (month_day_judged lent (day (pos 1972) 5 6) (in-calendar calendar.Never iso) ≡ is "05-06")
    × (month_day_judged lent (day (pos 1972) 5 6) (in-calendar calendar.Never ISO) ≡ is "1972-05-06")
    × (month_day_judged lent (day (pos 1972) 2 29) (in-calendar calendar.Auto iso) ≡ is "02-29")
    × (month_day_judged lent (day (pos 2023) 2 29) (in-calendar calendar.Auto iso) ≡ Err BadField)
    × (month_day_judged lent (day (pos 2023) 2 29) (in-calendar calendar.Auto dash) ≡ Err BadField)
    × (month_day_judged lent (day (pos 1972) 5 6) (in-calendar calendar.Never dash) ≡ Err BadName)
    -- year-months: the same with the day
    × (year_month_judged lent (day (pos 2024) 5 1) (in-calendar calendar.Auto iso) ≡ is "2024-05")
    × (year_month_judged lent (day (pos 10000) 5 1) (in-calendar calendar.Critical iso) ≡ is "+010000-05-01[!u-ca=iso8601]")
    × (year_month_judged lent (day (pos 2024) 5 1) (in-calendar calendar.Auto ISO) ≡ is "2024-05-01[u-ca=ISO8601]")
    × (year_month_judged lent (day (pos 2024) 5 32) (in-calendar calendar.Auto iso) ≡ Err BadField)
    × (year_month_judged lent (day (pos 2024) 5 1) (in-calendar calendar.Auto dash) ≡ Err BadName)
unfolding lent is bytes
    date_ok valid_date days_in_month month_lengths is_leap leap_rule year_text
    calendar_ok calendar_text is_iso bracketed
    calendar_name_ok name_ok name_inside calendar_run run_of whole_of value_step part_step run_step dot_step join_step word_step
    month_day_judged month_day_text year_month_judged year_month_text
table = (refl, refl, refl, refl, refl, refl, refl, refl, refl, refl, refl, refl, refl, refl)
