-- What is shown of a fraction, as the code has it: by what `u32_to_digits` and `digits_shown` give. Assumes nothing.
--     shown_as     the text is that of the digits and the count: at most nine are shown, whatever is asked for
--     sub_second_most   so it has at most ten bytes, with the point
--     auto_nine, digit_nine               where that is all nine digits
--     auto_none, minute-none, digit-none  where that is nothing
use mathlib.Core.Path.{◌≡◌, refl, sym, ap, ◌∙◌}
use mathlib.Core.List.{List, ◌∷◌}
use Prim.Native.Nat.{ℕ, zero, suc, ◌<◌, ◌≤◌, ◌%◌, min}
use native.Mathlib.Omega.{arith}
use native.Mathlib.Decide.{dec_lt}
use lib.Dec.{lit<, lit≤}
use lib.ListN.{length, take}
use lib.Seq.{take_all}
use Rattle.text.specs.Digits.{digits, shown, decimal, last_nonzero, pointed, fraction}
use Rattle.text.proofs.DigitLaws.{length_digits, last_found, fraction_none, length-fraction}
use Rattle.record.specs.declared.stamp.Precision.{Precision}
use Rattle.precision.specs.Precision.{digits_shown, sub_second}

-- there are nine digits, and no more of them are shown however many are asked for
fraction_capped : (k n : ℕ) → fraction k (digits 9 n) ≡ fraction (min k 9) (digits 9 n)
unfolding fraction
fraction_capped k n = go (dec_lt 9 k)
  where
    go : Dec (9 < k) → pointed (shown (take k (digits 9 n))) ≡ pointed (shown (take (min k 9) (digits 9 n)))
    go (yes more) =
        let e : min k 9 ≡ 9 = omega arith in
        rw e (ap (λ (l : List ℕ). pointed (shown l)) (take_all k (digits 9 n) (omega (arith, length_digits 9 n)) ∙ sym (take_all 9 (digits 9 n) (omega (arith, length_digits 9 n)))))
    go (no few) = let e : min k 9 ≡ k = omega arith in rw e

pub shown_as : (p : Precision) (n : ℕ) → sub_second p n ≡ fraction (min (digits_shown p (last_nonzero (digits 9 n))) 9) (digits 9 n)
unfolding sub_second
shown_as p n = fraction_capped (digits_shown p (last_nonzero (digits 9 n))) n

-- a fraction of at most nine digits, and what a precision shows of one
fraction_most : (n k : ℕ) → k ≤ 9 → length (fraction k (digits 9 n)) ≤ 10
fraction_most n zero h = rw (fraction_none 0 (digits 9 n) refl) (omega arith)
fraction_most n (suc k) h = omega (arith, length-fraction (suc k) (digits 9 n) (λ e. omega arith) h)

pub sub_second_most : (p : Precision) (n : ℕ) → length (sub_second p n) ≤ 10
unfolding sub_second
sub_second_most p n = let k = digits_shown p (last_nonzero (digits 9 n)) in
    rw (fraction_capped k n) (fraction_most n (min k 9) (omega arith))

-- ---- all nine digits, and none
pub all_nine : (k n : ℕ) → 9 ≤ k → fraction k (digits 9 n) ≡ 46 ∷ decimal 9 n
unfolding fraction
all_nine k n h = rw (take_all k (digits 9 n) (omega (arith, length_digits 9 n)))

pub last_nine : (n : ℕ) → (n % 10 ≡ 0 → ⊥) → last_nonzero (digits 9 n) ≡ 9
last_nine n z = last_found 9 (digits 9 n) (lit< tt) (lit≤ tt) (λ e. z (omega arith))

pub last_none : (n : ℕ) → n ≡ 0 → last_nonzero (digits 9 n) ≡ 0
unfolding last_nonzero
last_none n e = rw e
