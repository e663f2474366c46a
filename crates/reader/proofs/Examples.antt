-- The texts of document 01's worked examples, read for their goals, computed: which are accepted, and with which number the others are refused. Assumes nothing.
use Prim.Native.Nat.{ℕ}
use Prim.Native.String.{String}
use mathlib.Core.Path.{◌≡◌, refl}
use Rattle.text.proofs.Quoted.{bytes}
use Rattle.names.specs.Field.{digit, pair_of, field}
use Rattle.names.specs.Scan.{word_step, join_step, dot_step, key_step, run_step, part_step, value_step, zone_step, whole_of, run_of, key_run, calendar_run, numeric_of, numeric_run, zone_run}
use Rattle.iso.specs.Gregorian.{leap_rule, is_leap, month_lengths, days_in_month, valid_date}
use Rattle.record.specs.Refusals.{refusal_of}
use Rattle.record.specs.declared.goal.Goal.{Goal}
use Rattle.record.specs.declared.goal.Goal.TheVariants as goal
use Rattle.date_syntax.specs.Read.{marked as dash, plain, signed, year, date, year_month, dashes, month_day}
use Rattle.time_syntax.specs.Read.{fraction_of, fraction_at, minute_at, seconds_at, time, past, utc}
use Rattle.tail_syntax.specs.Read.{opened, inside, ended, zone, note, walk_step, notes, tail}
use Rattle.grammar.specs.Read.{clock_at, timed_at, stamp, time_text, year_month_text, month_day_text}
use Rattle.meaning.specs.Shown.{shown}
use Rattle.meaning.specs.Verdict.{verdict, other_calendar, faults_of}
use Rattle.kinds.specs.Kinds.{stamp_answer, read_stamp, time_answer, read_time, year_month_answer, read_year_month, month_day_answer, read_month_day}
use Rattle.reader.specs.Goals.{read_plain, read_goal}

-- 0 if the text is accepted for the goal, else its refusal's number
refused : Goal → String → ℕ
refused g s = refusal_of (read_goal g (bytes s))

stamps :
    (refused goal.Stamp "2024-05-06T10:15:30.5+05:30[Europe/Berlin][u-ca=gregory]" ≡ 0)
    × (refused goal.Stamp "2023-02-30" ≡ 11)
    × (refused goal.Stamp "2023-13-01" ≡ 6)
    × (refused goal.Stamp "+000000-01-01" ≡ 0)
    × (refused goal.Stamp "" ≡ 6)
    × (refused goal.Stamp "2024-05-06[u-ca=iso8601][!u-ca=iso8601]" ≡ 10)
    × (refused goal.Stamp "2024-05-06[u-ca=iso8601][u-ca=iso8601]" ≡ 0)
    × (refused goal.Stamp "2024-05-06[!a=b]" ≡ 7)
    × (refused goal.Stamp "2024-05-06[!a=b][" ≡ 6)
    × (refused goal.Stamp "2024-05-06T10:15:00+00:00:00.1234567890" ≡ 8)
    × (refused goal.Plain "2024-05-06T10:15Z" ≡ 12)
    × (refused goal.Zoned "2024-05-06T10:15Z" ≡ 13)
    × (refused goal.Instant "2024-05-06T10:15" ≡ 13)
    × (refused goal.Instant "2024-05-06T10:15-00:00" ≡ 0)
unfolding refused bytes digit pair_of field word_step join_step dot_step key_step run_step part_step value_step zone_step whole_of run_of key_run calendar_run numeric_of numeric_run zone_run leap_rule is_leap month_lengths days_in_month valid_date dash plain signed year year_month date fraction_of fraction_at minute_at seconds_at time past utc opened inside ended zone note walk_step notes tail clock_at timed_at stamp shown verdict faults_of stamp_answer read_stamp read_plain
stamps = (refl, refl, refl, refl, refl, refl, refl, refl, refl, refl, refl, refl, refl, refl)

others :
    (refused goal.MonthDay "02-29" ≡ 0)
    × (refused goal.MonthDay "02-30" ≡ 11)
    × (refused goal.MonthDay "2023-02-30" ≡ 6)
    × (refused goal.YearMonth "2024-05[u-ca=hebrew]" ≡ 9)
    × (refused goal.YearMonth "2024-05[u-ca=ISO8601]" ≡ 0)
    × (refused goal.YearMonth "2024-05-06" ≡ 0)
    × (refused goal.Time "10:15Z" ≡ 12)
    × (refused goal.Time "2024-05-06T10:15Z" ≡ 6)
    × (refused goal.Time "2024-05-06" ≡ 13)
    × (refused goal.Time "T10:15:60.5" ≡ 0)
unfolding refused bytes digit pair_of field word_step join_step dot_step key_step run_step part_step value_step zone_step whole_of run_of key_run calendar_run numeric_of numeric_run zone_run leap_rule is_leap month_lengths days_in_month valid_date dash plain signed year year_month date dashes month_day fraction_of fraction_at minute_at seconds_at time past utc opened inside ended zone note walk_step notes tail clock_at timed_at stamp time_text year_month_text month_day_text shown verdict other_calendar faults_of stamp_answer read_stamp time_answer read_time year_month_answer read_year_month month_day_answer read_month_day read_plain
others = (refl, refl, refl, refl, refl, refl, refl, refl, refl, refl)
