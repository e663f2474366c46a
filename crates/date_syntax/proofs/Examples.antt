-- Dates of document 01's grammar and texts that are none, computed. Assumes nothing.
use Prim.Native.Nat.{ℕ}
use mathlib.Core.Bool.{Bool, true, false}
use mathlib.Core.Path.{◌≡◌, refl}
use Rattle.std.specs.Prelude.{Option, Some, None}
use Rattle.text.proofs.Quoted.{bytes}
use Rattle.names.specs.Field.{digit, pair_of, field}
use Rattle.date_syntax.specs.declared.DateRead.{DateRead}
use Rattle.date_syntax.specs.declared.MonthDayRead.{MonthDayRead}
use Rattle.date_syntax.specs.Read.{marked, plain, signed, year, date, year_month, dashes, month_day}

abbrev got : Bool → ℕ → Bool → ℕ → ℕ → Option DateRead
got s y w m d = Some (record { negative = s; year = y; wide = w; month = m; day = d })

abbrev month_day_got : Bool → ℕ → ℕ → Option MonthDayRead
month_day_got s m d = Some (record { dashes = s; month = m; day = d })

dates :
    (date (bytes "2024-05-06") ≡ got false 2024 false 5 6)
    × (date (bytes "-000001-12-31") ≡ got true 1 true 12 31)
    × (date (bytes "+000000-01-01T") ≡ got false 0 true 1 1)
    × (date (bytes "2023-02-30") ≡ got false 2023 false 2 30)
    × (date (bytes "-000000-01-01") ≡ None)
    × (date (bytes "2023-13-01") ≡ None)
    × (date (bytes "2023-00-01") ≡ None)
    × (date (bytes "2023-01-32") ≡ None)
    × (date (bytes "2023-01-00") ≡ None)
    × (date (bytes "20240506") ≡ None)
    × (date (bytes "") ≡ None)
unfolding bytes digit pair_of field marked plain signed year year_month date
dates = (refl, refl, refl, refl, refl, refl, refl, refl, refl, refl, refl)

months :
    (year_month (bytes "2024-05") ≡ got false 2024 false 5 1)
    × (year_month (bytes "+002024-05") ≡ got false 2024 true 5 1)
    × (year_month (bytes "-000000-05") ≡ None)
    × (month_day (bytes "02-29") ≡ month_day_got false 2 29)
    × (month_day (bytes "--02-30") ≡ month_day_got true 2 30)
    × (month_day (bytes "-02-29") ≡ None)
    × (month_day (bytes "0229") ≡ None)
unfolding bytes digit pair_of field marked plain signed year year_month dashes month_day
months = (refl, refl, refl, refl, refl, refl, refl)
