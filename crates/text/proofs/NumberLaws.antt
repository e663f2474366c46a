-- The laws of a number written without leading zeros. All come from those of digits (`DigitLaws`), at the number of digits `width n`.
--     ten_ind                       induction by the quotient by ten, as the recursive writer goes
--     width_small, width_more       1 below ten, else one more than the quotient's
--     below_width, width_least      n has no more digits than `width n`, and no fewer
--     width_le                      a bound on n bounds its width: 20 for 64 bits
--     number_small, number_more     the text: the quotient's, then the last digit
--     length-number                 its length is the width
--     number_back                   reading it gives n
--     number_only                   digits without a leading zero that stand for n are those written
-- Assumes nothing.
use mathlib.Core.Path.{◌≡◌, refl, sym, ap, ◌∙◌}
use mathlib.Core.List.{List, [], ◌∷◌, ◌++◌, map-append}
use Prim.Native.Nat.{ℕ, zero, suc, ◌+◌, ◌*◌, ◌/◌, ◌%◌, ◌^◌, ◌<◌, ◌≤◌}
use native.Mathlib.Nat.{pow-suc, mul_assoc, mul_comm, mul-le-mul_right, le_trans, lt_of_lt_of_le}
use native.Mathlib.Decide.{dec_lt}
use native.Mathlib.Omega.{arith}
use borrow.Author.Tests.{lt-ltb, le-ltb}
use lib.ListN.{length}
use Rattle.text.specs.Digits.{digits, shown, unshown, decimal, AllDigits, value_from, value_of, width_by, width, number, NoLeadingZero}
use Rattle.text.proofs.DigitLaws.{ten_pos, length-decimal, digits_snoc, value_below, digits_value, unshown-shown}

module _ (P : ℕ → Type 0) (base : (n : ℕ) → n < 10 → P n) (step : (n : ℕ) → 10 ≤ n → P (n / 10) → P n) where
  ten_by : (f n : ℕ) → n ≤ f → P n
  ten_by zero n h = base n (omega arith)
  ten_by (suc f) n h = go (dec_lt n 10) (λ k. ten_by f (n / 10) (omega arith))
    where
      go : Dec (n < 10) → (10 ≤ n → P (n / 10)) → P n
      go (yes small) ih = base n small
      go (no large) ih = let k : 10 ≤ n = omega arith in step n k (ih k)

  pub ten_ind : (n : ℕ) → P n
  ten_ind n = ten_by n n (omega arith)

-- ---- how many digits
by_small : (f n : ℕ) → n < 10 → width_by f n ≡ 1
unfolding width_by
by_small zero n h = refl
by_small (suc f) n h = rw (lt-ltb n 10 h, width_by)

by_more : (f n : ℕ) → 10 ≤ n → width_by (suc f) n ≡ suc (width_by f (n / 10))
unfolding width_by
by_more f n h = rw (le-ltb n 10 h, width_by)

-- steps beyond those that are enough change nothing
enough : (n f : ℕ) → n ≤ f → width_by f n ≡ width n
unfolding width
enough = ten_ind (λ n. (f : ℕ) → n ≤ f → width_by f n ≡ width_by n n)
    (λ n small f h. by_small f n small ∙ sym (by_small n n small))
    (λ n large ih f h. more n large ih f n h (omega arith) ∙ sym (more n large ih n n (omega arith) (omega arith)))
  where
    more : (n : ℕ) → 10 ≤ n → ((f : ℕ) → n / 10 ≤ f → width_by f (n / 10) ≡ width_by (n / 10) (n / 10)) → (f m : ℕ) → n ≤ f → m ≡ n → width_by f n ≡ suc (width_by (n / 10) (n / 10))
    more n large ih zero m h e = absurd (omega arith)
    more n large ih (suc f) m h e = by_more f n large ∙ ap suc (ih f (omega arith))

pub width_small : (n : ℕ) → n < 10 → width n ≡ 1
unfolding width
width_small n h = by_small n n h

pub width_more : (n : ℕ) → 10 ≤ n → width n ≡ suc (width (n / 10))
width_more n h =
    sym (enough n (suc n) (omega arith)) ∙ by_more n n h ∙ ap suc (enough (n / 10) n (omega arith))

pub width_pos : (n : ℕ) → 0 < width n
width_pos = ten_ind (λ n. 0 < width n) (λ n h. omega (arith, width_small n h)) (λ n h ih. omega (arith, width_more n h))

pub below_width : (n : ℕ) → n < 10 ^ width n
below_width = ten_ind (λ n. n < 10 ^ width n)
    (λ n h. rw (width_small n h) h)
    (λ n h ih. rw (width_more n h, pow-suc 10 (width (n / 10))) (omega arith))

pub width_least : (n : ℕ) → 10 ≤ n → 10 ^ width (n / 10) ≤ n
width_least = ten_ind (λ n. 10 ≤ n → 10 ^ width (n / 10) ≤ n)
    (λ n h k. absurd (omega arith))
    (λ n h ih k. go n h ih (dec_lt (n / 10) 10))
  where
    go : (n : ℕ) → 10 ≤ n → (10 ≤ n / 10 → 10 ^ width (n / 10 / 10) ≤ n / 10) → Dec (n / 10 < 10) → 10 ^ width (n / 10) ≤ n
    go n h ih (yes small) = rw (width_small (n / 10) small) h
    go n h ih (no large) =
        let k : 10 ≤ n / 10 = omega arith in
        let l : 10 ^ width (n / 10 / 10) ≤ n / 10 = ih k in
        rw (width_more (n / 10) k, pow-suc 10 (width (n / 10 / 10))) (omega arith)

pub width_le : (k n : ℕ) → n < 10 ^ suc k → width n ≤ suc k
width_le zero n h = omega (arith, width_small n h)
width_le (suc k) n h = go (dec_lt n 10) (width_le k (n / 10))
  where
    go : Dec (n < 10) → (n / 10 < 10 ^ suc k → width (n / 10) ≤ suc k) → width n ≤ suc (suc k)
    go (yes small) ih = omega (arith, width_small n small)
    go (no large) ih =
        let l : n / 10 < 10 ^ suc k = omega (arith, pow-suc 10 (suc k)) in
        omega (arith, width_more n (omega arith), ih l)

-- ---- the text
pub length-number : (n : ℕ) → length (number n) ≡ width n
unfolding number
length-number n = length-decimal (width n) n

pub number_small : (n : ℕ) → n < 10 → number n ≡ (48 + n) ∷ []
unfolding number
number_small n h =
    let e : n / 1 % 10 ≡ n = omega arith in
    rw (width_small n h, e)

pub number_more : (n : ℕ) → 10 ≤ n → number n ≡ number (n / 10) ++ ((48 + n % 10) ∷ [])
unfolding number
number_more n h = ap (λ (w : ℕ). decimal w n) (width_more n h) ∙ ap shown (digits_snoc (width (n / 10)) n) ∙ simp map-append

-- ---- read back
pub number_back : (n : ℕ) → value_of (unshown (number n)) ≡ n
unfolding number
number_back n = ap value_of (unshown-shown (digits (width n) n)) ∙ value_below (width n) n (below_width n)

-- ---- the only text: the first digit fixes how many there are
width_is : (k n : ℕ) → 10 ^ k ≤ n → n < 10 ^ suc k → width n ≡ suc k
width_is zero n h l = width_small n l
width_is (suc k) n h l =
    let p : 10 ^ suc k ≡ 10 ^ k * 10 = pow-suc 10 k in
    let q : 10 ^ suc (suc k) ≡ 10 ^ suc k * 10 = pow-suc 10 (suc k) in
    let o = ten_pos k in
    width_more n (omega arith) ∙ ap suc (width_is k (n / 10) (omega arith) (omega arith))

value_bounds : (ds : List ℕ) (a : ℕ) → AllDigits ds → (a * 10 ^ length ds ≤ value_from a ds) × (value_from a ds < suc a * 10 ^ length ds)
unfolding value_from
value_bounds [] a h = (omega arith, omega arith)
value_bounds (d ∷ ds) a h =
    let w = 10 ^ length ds in
    let ih = value_bounds ds (a * 10 + d) h.1 in
    let x : a * (10 * w) ≤ (a * 10 + d) * w = rw (← mul_assoc a 10 w) (mul-le-mul_right w (omega arith)) in
    let y : suc (a * 10 + d) * w ≤ suc a * (10 * w) = rw (← mul_assoc (suc a) 10 w) (mul-le-mul_right w (omega (arith, h.0))) in
    rw (pow-suc 10 (length ds), mul_comm w 10) (le_trans x ih.0, lt_of_lt_of_le ih.1 y)

zero_first : (d : ℕ) → 0 * 10 + d ≡ d
zero_first d = omega arith

width_value : (ds : List ℕ) → AllDigits ds → NoLeadingZero ds → width (value_of ds) ≡ length ds
unfolding value_from
width_value [] h z = absurd z
width_value (d ∷ []) h z = rw (zero_first d) (width_small d h.0)
width_value (d ∷ e ∷ ds) h z =
    let k = length (e ∷ ds) in
    let b = value_bounds (e ∷ ds) d h.1 in
    let p : 10 ^ suc k ≡ 10 ^ k * 10 = pow-suc 10 k in
    let lo : 1 * 10 ^ k ≤ d * 10 ^ k = mul-le-mul_right (10 ^ k) z in
    let hi : suc d * 10 ^ k ≤ 10 * 10 ^ k = mul-le-mul_right (10 ^ k) h.0 in
    rw (zero_first d) (width_is k (value_from d (e ∷ ds)) (omega arith) (omega arith))

pub number_only : (ds : List ℕ) → AllDigits ds → NoLeadingZero ds → shown ds ≡ number (value_of ds)
unfolding number
number_only ds h z = ap shown (sym (digits_value ds h)) ∙ ap (λ (k : ℕ). decimal k (value_of ds)) (sym (width_value ds h z))
