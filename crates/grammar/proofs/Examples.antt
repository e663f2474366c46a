-- What could be read of texts that are not of the grammar, computed. Assumes nothing.
use Prim.Native.Nat.{ℕ}
use Prim.Native.String.{String}
use mathlib.Core.Bool.{Bool, true, false}
use mathlib.Core.Path.{◌≡◌, refl}
use Rattle.text.proofs.Quoted.{bytes}
use Rattle.std.proofs.Common.{Option, Some, None}
use Rattle.names.specs.Field.{digit, pair_of, field}
use Rattle.names.specs.Scan.{word_step, join_step, dot_step, key_step, run_step, part_step, value_step, zone_step, whole_of, run_of, key_run, calendar_run, numeric_of, numeric_run, zone_run}
use Rattle.date_syntax.specs.declared.DateRead.{DateRead}
use Rattle.date_syntax.specs.Read.{marked as dash, plain, signed, year, date, year_month, dashes, month_day}
use Rattle.time_syntax.specs.declared.TimeRead.{TimeRead}
use Rattle.time_syntax.specs.declared.UtcRead.TheVariants.{Z}
use Rattle.time_syntax.specs.Read.{fraction_of, fraction_at, minute_at, seconds_at, time, past, utc}
use Rattle.tail_syntax.specs.declared.tail.Tail.{Tail}
use Rattle.tail_syntax.specs.Read.{opened, inside, ended, zone, note, walk_step, notes, tail}
use Rattle.grammar.specs.declared.pieces.StampPieces.{StampPieces}
use Rattle.grammar.specs.Pieces.{clock_pieces, timed_pieces, stamp_pieces, time_text_pieces, year_month_pieces, month_day_pieces}

of_stamp : String → StampPieces
of_stamp s = stamp_pieces (bytes s)

-- a date in 2024, a time of day to the minute, one annotation
in_2024 : ℕ → ℕ → Option DateRead
in_2024 m d = Some (record { negative = false; year = 2024; wide = false; month = m; day = d })

minute : ℕ → ℕ → Option TimeRead
minute h m = Some (record { hour = h; minute = m; seconds = None })

annotated : Bool → Option Tail
annotated critical = Some (record { zone = None; notes = record { calendar = None; unknown = critical; clash = false; more = true } })

stamps :
    (of_stamp "2024-05-06x" ≡ record { date = in_2024 5 6; clock = None; tail = None })
    × (of_stamp "[!x=y]" ≡ record { date = None; clock = None; tail = annotated true })
    × (of_stamp "2024-05-06T10:15Zx" ≡ record { date = in_2024 5 6; clock = Some (record { lead = Some 84; time = minute 10 15; utc = Some (Some (Z 90)) }); tail = None })
    × (of_stamp "2024-05-06 [a=b]" ≡ record { date = in_2024 5 6; clock = Some (record { lead = Some 32; time = None; utc = Some None }); tail = annotated false })
unfolding of_stamp in_2024 minute annotated bytes digit pair_of field word_step join_step dot_step key_step run_step part_step value_step zone_step whole_of run_of key_run calendar_run numeric_of numeric_run zone_run dash plain signed year year_month date fraction_of fraction_at minute_at seconds_at time past utc opened inside ended zone note walk_step notes tail clock_pieces timed_pieces stamp_pieces
stamps = (refl, refl, refl, refl)

others :
    (time_text_pieces (bytes "T10:15x") ≡ record { part = record { lead = Some 84; time = minute 10 15; utc = Some None }; tail = None })
    × (year_month_pieces (bytes "2024-05x") ≡ record { part = in_2024 5 1; tail = None })
    × (month_day_pieces (bytes "[a=b]") ≡ record { part = None; tail = annotated false })
unfolding in_2024 minute annotated bytes digit pair_of field word_step join_step dot_step key_step run_step part_step value_step zone_step whole_of run_of key_run calendar_run numeric_of numeric_run zone_run dash plain signed year year_month dashes month_day fraction_of fraction_at minute_at seconds_at time past utc opened inside ended zone note walk_step notes tail clock_pieces timed_pieces time_text_pieces year_month_pieces month_day_pieces
others = (refl, refl, refl)
