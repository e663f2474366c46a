-- The text of a date, and which dates have one. Assumes nothing: these are definitions.
use Rattle.std.specs.Prelude.{Bool, true, cond, ◌&&◌, List, ◌∷◌, ◌++◌, ℕ, suc, ltb, leb, ℤ, pos, negsuc, nat_abs}
use Rattle.text.specs.Digits.{decimal}
use Rattle.text.specs.Answer.{Judged, judge}
use Rattle.iso.specs.Gregorian.{valid_date}
use Rattle.record.specs.declared.stamp.Date.{Date}

-- Temporal's PadISOYear: 0 to 9999 as four digits, any other year as a sign and six
unfoldable pub year_text : ℤ → List ℕ
year_text (pos n) = cond (ltb n 10000) (decimal 4 n) (43 ∷ decimal 6 n)
year_text (negsuc n) = 45 ∷ decimal 6 (suc n)

-- `-` and two digits: the month, the day
abbrev pub dashed : ℕ → List ℕ
dashed n = 45 ∷ decimal 2 n

-- year, month and day: the first three parts of Temporal's ISODateTimeToString
unfoldable pub date_text : Date → List ℕ
date_text d = year_text d.year ++ dashed d.month ++ dashed d.day

-- the year within ±999,999, and a date of its own year
unfoldable pub date_ok : Date → Bool
date_ok d = leb (nat_abs d.year) 999999 && valid_date d.year d.month d.day

unfoldable pub date_judged : Date → Judged
date_judged d = judge (date_ok d) true true (date_text d)
