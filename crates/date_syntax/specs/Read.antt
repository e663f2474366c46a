-- What a date, a year-month and a month-day at the front of a text read as. `proofs/Exact` shows that these invert the grammar of `Syntax`.
-- Assumes nothing: these are definitions.
use Rattle.std.specs.Prelude.{ℕ, ◌+◌, ◌*◌, Bool, true, false, cond, ◌&&◌, Option, Some, None, List, drop, eqb}
use Rattle.text.specs.Walk.{front}
use Rattle.names.specs.Field.{field}
use Rattle.date_syntax.specs.declared.Year.{Year}
use Rattle.date_syntax.specs.declared.DateRead.{DateRead}
use Rattle.date_syntax.specs.declared.MonthDayRead.{MonthDayRead}

-- `-` and two digits whose number is from lo to hi
unfoldable pub marked : ℕ → ℕ → List ℕ → Option ℕ
marked lo hi l = cond (eqb (front l) 45) (field lo hi (drop 1 l)) None

-- a year of four digits, from its two pairs
abbrev pub four_of : Option ℕ → Option ℕ → Option Year
four_of (Some a) (Some b) = Some (record { negative = false; year = a * 100 + b; wide = false })
four_of (Some a) None = None
four_of None b = None

-- a year of a sign and six digits, from its three pairs; `-000000` is no year
abbrev pub six_of : Bool → Option ℕ → Option ℕ → Option ℕ → Option Year
six_of s (Some a) (Some b) (Some c) =
    let y = a * 10000 + b * 100 + c in cond (s && eqb y 0) None (Some (record { negative = s; year = y; wide = true }))
six_of s (Some a) (Some b) None = None
six_of s (Some a) None c = None
six_of s None b c = None

unfoldable pub plain : List ℕ → Option Year
plain l = four_of (field 0 99 l) (field 0 99 (drop 2 l))

unfoldable pub signed : Bool → List ℕ → Option Year
signed s l = six_of s (field 0 99 l) (field 0 99 (drop 2 l)) (field 0 99 (drop 4 l))

-- the year at the front: four digits, or a sign and six
unfoldable pub year : List ℕ → Option Year
year l = cond (eqb (front l) 43) (signed false (drop 1 l)) (cond (eqb (front l) 45) (signed true (drop 1 l)) (plain l))

-- the bytes that it takes
abbrev pub year_len : Year → ℕ
year_len y = cond y.wide 7 4

-- ---- the year-month at the front, which has day 1, and what follows it

abbrev pub year_month_of : Year → Option ℕ → Option DateRead
year_month_of y (Some m) = Some (record { negative = y.negative; year = y.year; wide = y.wide; month = m; day = 1 })
year_month_of y None = None

abbrev pub year_month_from : Option Year → List ℕ → Option DateRead
year_month_from (Some y) l = year_month_of y (marked 1 12 (drop (year_len y) l))
year_month_from None l = None

unfoldable pub year_month : List ℕ → Option DateRead
year_month l = year_month_from (year l) l

abbrev pub after_year_month : Option DateRead → List ℕ → List ℕ
after_year_month (Some d) l = drop (cond d.wide 10 7) l
after_year_month None l = l

-- ---- the date at the front: a year-month, and a day after it

abbrev pub date_of : DateRead → Option ℕ → Option DateRead
date_of d (Some n) = Some (record { negative = d.negative; year = d.year; wide = d.wide; month = d.month; day = n })
date_of d None = None

abbrev pub date_from : Option DateRead → List ℕ → Option DateRead
date_from (Some d) l = date_of d (marked 1 31 (after_year_month (Some d) l))
date_from None l = None

unfoldable pub date : List ℕ → Option DateRead
date l = date_from (year_month l) l

abbrev pub after_date : Option DateRead → List ℕ → List ℕ
after_date (Some d) l = drop (cond d.wide 13 10) l
after_date None l = l

-- ---- the month-day at the front, and what follows it

-- `--`
unfoldable pub dashes : ℕ → ℕ → Bool
dashes a b = eqb a 45 && eqb b 45

abbrev pub month_day_of : Bool → Option ℕ → Option ℕ → Option MonthDayRead
month_day_of s (Some m) (Some d) = Some (record { dashes = s; month = m; day = d })
month_day_of s (Some m) None = None
month_day_of s None d = None

abbrev pub month_day_at : Bool → List ℕ → Option MonthDayRead
month_day_at s l = month_day_of s (field 1 12 l) (marked 1 31 (drop 2 l))

unfoldable pub month_day : List ℕ → Option MonthDayRead
month_day l = cond (dashes (front l) (front (drop 1 l))) (month_day_at true (drop 2 l)) (month_day_at false l)

abbrev pub after_month_day : Option MonthDayRead → List ℕ → List ℕ
after_month_day (Some d) l = drop (cond d.dashes 7 5) l
after_month_day None l = l
