-- Durations of document 01's grammar and texts that are none, computed. Assumes nothing.
use Prim.Native.Nat.{ℕ}
use Prim.Native.String.{String}
use mathlib.Core.Path.{◌≡◌, refl}
use Rattle.std.specs.Prelude.{Ok, Err}
use Rattle.text.specs.declared.refusal.Refusal.TheVariants.{BadText, LongFraction, TooLarge}
use Rattle.text.proofs.Quoted.{bytes}
use Rattle.text.specs.Digits.{value_from}
use Rattle.record.specs.declared.stamp.Sign.{Sign}
use Rattle.record.specs.declared.stamp.Sign.TheVariants.{Negative, Zero, Positive}
use Rattle.time_syntax.specs.Read.{fraction_of, fraction_at}
use Rattle.duration_syntax.specs.Read.{number_at, part_fits, part_of, part_at, date_at, after_date, time_parts_at, time_at, sign_at, duration_fits, duration_of, duration_from, duration}
use Rattle.duration_reader.specs.Meaning.{DurationReading, shown_of, numbers, answer, read_duration}

-- a quoted text as its bytes, and the answer to it
read : String → DurationReading
read s = read_duration (bytes s)

-- a sign, years, months, weeks, days, hours, minutes, seconds, nanoseconds
is : Sign → ℕ → ℕ → ℕ → ℕ → ℕ → ℕ → ℕ → ℕ → DurationReading
is sign y o w d h m s n =
    Ok (record { sign = sign; years = y; months = o; weeks = w; days = d; hours = h; minutes = m; seconds = s; nanoseconds = n })

accepted :
    (read "P1Y2M3W4DT5H6M7.000000008S" ≡ is Positive 1 2 3 4 5 6 7 8)
    × (read "PT0S" ≡ is Zero 0 0 0 0 0 0 0 0)
    × (read "-PT0S" ≡ is Zero 0 0 0 0 0 0 0 0)
    × (read "-P1D" ≡ is Negative 0 0 0 1 0 0 0 0)
    × (read "+P1D" ≡ is Positive 0 0 0 1 0 0 0 0)
    × (read "p1y" ≡ is Positive 1 0 0 0 0 0 0 0)
    × (read "-p1y2m3w4dt5h6m7s" ≡ is Negative 1 2 3 4 5 6 7 0)
    × (read "P00000000001Y" ≡ is Positive 1 0 0 0 0 0 0 0)
    × (read "P4294967295Y" ≡ is Positive 4294967295 0 0 0 0 0 0 0)
    × (read "P18446744073709551615D" ≡ is Positive 0 0 0 18446744073709551615 0 0 0 0)
    × (read "PT1.5S" ≡ is Positive 0 0 0 0 0 0 1 500000000)
    × (read "PT1,5S" ≡ is Positive 0 0 0 0 0 0 1 500000000)
    × (read "-PT0.000000001S" ≡ is Negative 0 0 0 0 0 0 0 1)
unfolding bytes read is value_from fraction_of fraction_at number_at part_fits part_of part_at date_at after_date time_parts_at time_at sign_at duration_fits duration_of duration_from duration shown_of numbers answer read_duration
accepted = (refl, refl, refl, refl, refl, refl, refl, refl, refl, refl, refl, refl, refl)

refused :
    (read "P4294967296Y" ≡ Err TooLarge)
    × (read "P18446744073709551616D" ≡ Err TooLarge)
    × (read "PT1.1234567890S" ≡ Err LongFraction)
    × (read "P4294967296YT1.1234567890S" ≡ Err LongFraction)
    × (read "PT1.5H" ≡ Err BadText)
    × (read "PT1.S" ≡ Err BadText)
    × (read "P" ≡ Err BadText)
    × (read "PT" ≡ Err BadText)
    × (read "P1YT" ≡ Err BadText)
    × (read "P1M1Y" ≡ Err BadText)
    × (read "P1Y1Y" ≡ Err BadText)
    × (read "P1Y " ≡ Err BadText)
    × (read "" ≡ Err BadText)
unfolding bytes read value_from fraction_of fraction_at number_at part_fits part_of part_at date_at after_date time_parts_at time_at sign_at duration_fits duration_of duration_from duration shown_of numbers answer read_duration
refused = (refl, refl, refl, refl, refl, refl, refl, refl, refl, refl, refl, refl, refl)
