-- The text of a date, by the year's sign and magnitude; its length; and what the test of a date tells. Assumes nothing.
--     text_negative, text_four, text_six    the three forms of a year
--     years                                 the set of these, for what writes or counts a year
--     year_most, date_most                  the longest year and date
--     date_in                               month and day of a date that passes its test have two digits
use mathlib.Core.Path.{◌≡◌, refl}
use mathlib.Core.Bool.{Bool, true, false, cond}
use mathlib.Core.List.{◌∷◌}
use Prim.Native.Nat.{◌<◌, ◌≤◌}
use native.Mathlib.Omega.{arith}
use borrow.Author.Tests.{lt-ltb, le-ltb, ltb-true}
use lib.Dec.{ltb, leb}
use lib.IntN.{ℤ, pos, negsuc, nat_abs}
use lib.ListN.{length, length-append}
use lib.Signed.{lt_z}
use mir.Facts.{to_z-of_z}
use Rattle.text.specs.Digits.{decimal}
use Rattle.text.proofs.Answers.{both}
use Rattle.iso.specs.Gregorian.{valid_date}
use Rattle.iso.proofs.DateLaws.{valid_date_in}
use Rattle.record.specs.declared.stamp.Date.{Date}
use Rattle.date_writer.specs.Date.{year_text, date_text, date_ok}

pub text_negative : (z : ℤ) → lt_z z (pos 0) ≡ true → year_text z ≡ 45 ∷ decimal 6 (nat_abs z)
unfolding year_text
text_negative (pos n) h = absurd (omega (arith, ltb-true n 0 h))
text_negative (negsuc n) h = refl

pub text_four : (z : ℤ) → lt_z z (pos 0) ≡ false → nat_abs z < 10000 → year_text z ≡ decimal 4 (nat_abs z)
unfolding year_text
text_four (pos n) h small = rw (lt-ltb n 10000 small)
text_four (negsuc n) h small = cc

pub text_six : (z : ℤ) → lt_z z (pos 0) ≡ false → 10000 ≤ nat_abs z → year_text z ≡ 43 ∷ decimal 6 (nat_abs z)
unfolding year_text
text_six (pos n) h large = rw (le-ltb n 10000 large)
text_six (negsuc n) h large = cc

-- a year by its bits is the year, and its text has one of three forms
pub ruleset years = (to_z-of_z, text_negative, text_four, text_six)

pub year_most : (z : ℤ) → length (year_text z) ≤ 7
unfolding year_text
year_most (pos n) = go (ltb n 10000)
  where
    go : (small : Bool) → length (cond small (decimal 4 n) (43 ∷ decimal 6 n)) ≤ 7
    go true = omega arith
    go false = omega arith
year_most (negsuc n) = omega arith

pub date_most : (d : Date) → length (date_text d) ≤ 13
unfolding date_text
date_most d = simp length-append (omega (arith, year_most d.year))

pub date_in : (d : Date) → date_ok d ≡ true → (d.month < 100) × (d.day < 100)
unfolding date_ok
date_in d e = let v = valid_date_in d.year d.month d.day (both (leb (nat_abs d.year) 999999) (valid_date d.year d.month d.day) e).1 in (omega arith, omega arith)
