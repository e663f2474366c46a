-- The definitions at a few dates and times, computed. Assumes nothing.
use mathlib.Core.Path.{◌≡◌, refl}
use mathlib.Core.Bool.{true, false}
use lib.IntN.{pos, negsuc}
use Rattle.iso.specs.Gregorian.{leap_rule, is_leap, month_lengths, days_in_month, valid_date}
use Rattle.iso.specs.TimeOfDay.{valid_time}

dates :
    (valid_date (pos 2023) 2 30 ≡ false)
    -- a century is a leap year if 400 divides it
    × (valid_date (pos 1900) 2 29 ≡ false)
    × (valid_date (pos 2000) 2 29 ≡ true)
    -- the years 0 and -4, and the year 1972 of month-day texts
    × (valid_date (pos 0) 2 29 ≡ true)
    × (valid_date (negsuc 3) 2 29 ≡ true)
    × (valid_date (pos 1972) 2 29 ≡ true)
    -- every year counts, also one that no text has
    × (valid_date (pos 1000000) 1 1 ≡ true)
    × (valid_date (negsuc 2147483647) 12 31 ≡ true)
    -- day 0 and day 32
    × (valid_date (pos 2024) 1 0 ≡ false)
    × (valid_date (pos 2024) 1 32 ≡ false)
unfolding valid_date days_in_month month_lengths is_leap leap_rule
dates = (refl, refl, refl, refl, refl, refl, refl, refl, refl, refl)

no_months : (days_in_month (pos 2024) 0 ≡ 0) × (days_in_month (pos 2024) 13 ≡ 0) × (days_in_month (pos 2024) 255 ≡ 0)
unfolding days_in_month month_lengths is_leap leap_rule
no_months = (refl, refl, refl)

times :
    (valid_time 23 59 59 999 999 999 ≡ true)
    × (valid_time 24 0 0 0 0 0 ≡ false)
    × (valid_time 0 0 60 0 0 0 ≡ false)
    × (valid_time 0 0 0 0 1000 0 ≡ false)
times = (refl, refl, refl, refl)
