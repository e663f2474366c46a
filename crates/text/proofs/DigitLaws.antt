-- The laws of decimal digits, each stated once over the number of digits k.
--     length_digits, length-decimal    k digits are k bytes
--     digit_small, all_digits          each is below ten
--     digits_snoc                      the last digit apart: by quotient and remainder, as a recursive writer goes
--     value_digits, value_below        read back they stand for n mod 10 ^ k: for n itself below it
--     digits_injective                 two numbers below 10 ^ k with the same k digits are one
--     digits_value                     digits stand for a number whose digits they are
--     unshown-shown, decimal_back      from bytes to digits, and what reading a padded number gives
--     span_more, length_span           digits from a place to a place
--     split_more, split_div            a loop that splits a number into digits
--     last_skip, last_found, last_le   the place of the last digit that is not 0
--     fraction_none, fraction_some     a fraction is nothing, or a point and digits
-- Assumes nothing.
use mathlib.Core.Path.{◌≡◌, refl, sym, ap, ◌∙◌}
use mathlib.Core.List.{List, [], ◌∷◌, ◌++◌, map-append, append-nil}
use Prim.Native.Nat.{ℕ, zero, suc, ◌+◌, ◌*◌, ◌/◌, ◌%◌, ◌^◌, ◌<◌, ◌≤◌, ◌-◌, zero-le, suc-le-suc}
use native.Mathlib.Nat.{le_of_lt, pow-suc, pow-succ', div-div-eq-div-mul, one-le-pow, mod-eq_of_lt, mul_assoc, mul_comm, add-zero, add-suc, suc-add, zero-add, add-mul, add_assoc}
use native.Mathlib.Numerals.{add-one}
use native.Mathlib.Omega.{arith}
use lib.Arith.{mod-mul, digits_div, digits_mod}
use lib.Dec.{lit<}
use lib.ListN.{length, get_or, take, drop, set, length-map}
use lib.Seq.{slice, take-suc, length-take-le, drop-append-le, length-slice, set_split, drop_at, append_snoc}
use Rattle.text.specs.Digits.{digits, shown, unshown, decimal, AllDigits, value_from, value_of, last_step, last_nonzero, fraction}

pub length_digits : (k n : ℕ) → length (digits k n) ≡ k
length_digits zero n = refl
length_digits (suc k) n = ap suc (length_digits k n)

pub length-decimal : (k n : ℕ) → length (decimal k n) ≡ k
length-decimal k n = length-map (digits k n) (λ d. 48 + d) ∙ length_digits k n

-- each is a digit, also past the end, where `get_or` gives 0
pub digit_small : (k n i : ℕ) → get_or (digits k n) i 0 < 10
digit_small zero n i = lit< tt
digit_small (suc k) n zero = omega arith
digit_small (suc k) n (suc i) = digit_small k n i

-- the last digit apart: by quotient and remainder, as a recursive writer and a reader have it
pub digits_snoc : (k n : ℕ) → digits (suc k) n ≡ digits k (n / 10) ++ (n % 10 ∷ [])
digits_snoc zero n = let e : n / 1 % 10 ≡ n % 10 = omega arith in rw e
digits_snoc (suc k) n = rw (digits_snoc k n, pow-succ' 10 k, ← div-div-eq-div-mul n 10 (10 ^ k))

-- a number below 100 by its quotient and its remainder
pub two : (n : ℕ) → n < 100 → decimal 2 n ≡ (48 + n / 10) ∷ (48 + n % 10) ∷ []
two n h =
    let hi : n / 10 % 10 ≡ n / 10 = omega arith in
    let lo : n / 1 % 10 ≡ n % 10 = omega arith in
    rw (hi, lo)

-- one digit more of a span
pub span_more : (f i : ℕ) (ds : List ℕ) → f ≤ i → i < length ds → shown (slice f (i + 1) ds) ≡ shown (slice f i ds) ++ ((48 + get_or ds i 0) ∷ [])
span_more f i ds h k =
    let e : length (take i ds) ≡ i = length-take-le i ds (omega arith) in
    let g : f ≤ length (take i ds) = omega arith in
    rw (add-one, take-suc ds i 0, drop-append-le, map-append)

pub length_span : (f t : ℕ) (ds : List ℕ) → t ≤ length ds → length (shown (slice f t ds)) ≡ t - f
length_span f t ds h = length-map (slice f t ds) (λ d. 48 + d) ∙ length-slice f t ds h

-- ---- a loop that splits a number into m digits, from the last one on: places i and up are done, and the number is divided down
module _ (m i n : ℕ) (pos : 0 < i) (le : i ≤ m) where
  step : m - (i - 1) ≡ suc (m - i)
  step = omega arith

  pub split_more : (l : List ℕ) → length l ≡ m → drop i l ≡ digits (m - i) n → drop (i - 1) (set l (i - 1) (n / 10 ^ (m - i) % 10)) ≡ digits (m - (i - 1)) n
  split_more l e h =
      let d = n / 10 ^ (m - i) % 10 in
      let k : i - 1 < length l = omega arith in
      let j : suc (i - 1) ≡ i = omega arith in
      rw (step, set_split l (i - 1) d k, drop_at (take (i - 1) l) (d ∷ drop (suc (i - 1)) l) (i - 1) (length-take-le (i - 1) l (le_of_lt k)), j, h)

  pub split_div : n / 10 ^ (m - i) / 10 ≡ n / 10 ^ (m - (i - 1))
  split_div = rw (step, pow-suc, div-div-eq-div-mul)

-- ---- the place of the last digit that is not 0, from the end
last_zero : (p : List ℕ) → last_nonzero (p ++ (0 ∷ [])) ≡ last_nonzero p
unfolding last_nonzero
last_zero [] = refl
last_zero (d ∷ p) = ap (last_step d) (last_zero p)

last_one : (d : ℕ) → (d ≡ 0 → ⊥) → last_step d 0 ≡ 1
last_one zero h = absurd (h refl)
last_one (suc d) h = refl

last_here : (p : List ℕ) (d : ℕ) → (d ≡ 0 → ⊥) → last_nonzero (p ++ (d ∷ [])) ≡ suc (length p)
unfolding last_nonzero
last_here [] d h = last_one d h
last_here (x ∷ p) d h = ap (last_step x) (last_here p d h)

module _ (i : ℕ) (ds : List ℕ) (pos : 0 < i) (le : i ≤ length ds) where
  one_off : take i ds ≡ take (i - 1) ds ++ (get_or ds (i - 1) 0 ∷ [])
  one_off =
      let j : i ≡ suc (i - 1) = omega arith in
      let k : i - 1 < length ds = omega arith in
      ap (λ (n : ℕ). take n ds) j ∙ take-suc ds (i - 1) 0 k

  pub last_skip : get_or ds (i - 1) 0 ≡ 0 → last_nonzero (take i ds) ≡ last_nonzero (take (i - 1) ds)
  last_skip e = rw (one_off, e) (last_zero (take (i - 1) ds))

  pub last_found : (get_or ds (i - 1) 0 ≡ 0 → ⊥) → last_nonzero (take i ds) ≡ i
  last_found h =
      let k : i - 1 ≤ length ds = omega arith in
      rw one_off (last_here (take (i - 1) ds) (get_or ds (i - 1) 0) h ∙ omega (arith, length-take-le (i - 1) ds k))

step_le : (d m : ℕ) {n : ℕ} → m ≤ n → last_step d m ≤ suc n
step_le zero zero h = zero-le
step_le (suc d) zero h = suc-le-suc zero-le
step_le d (suc m) h = suc-le-suc h

pub last_le : (ds : List ℕ) → last_nonzero ds ≤ length ds
unfolding last_nonzero
last_le [] = zero-le
last_le (d ∷ ds) = step_le d (last_nonzero ds) (last_le ds)

-- ---- what they stand for
pub ten_pos : (k : ℕ) → 0 < 10 ^ k
ten_pos k = one-le-pow k 10 (lit< tt)

pub all_digits : (k n : ℕ) → AllDigits (digits k n)
all_digits zero n = tt
all_digits (suc k) n = (omega arith, all_digits k n)

-- one digit more on the left: the digit's weight, and the rest
mod_ten : (k n : ℕ) → n % 10 ^ suc k ≡ n / 10 ^ k % 10 * 10 ^ k + n % 10 ^ k
mod_ten k n = rw (pow-suc 10 k, mul_comm (10 ^ k) 10) (mod-mul n (lit< tt) (ten_pos k))

weigh : (a d w r : ℕ) → (a * 10 + d) * w + r ≡ a * (10 * w) + (d * w + r)
weigh a d w r = rw (add-mul (a * 10) d w, mul_assoc a 10 w, add_assoc (a * (10 * w)) (d * w) r)

value_from-digits : (k a n : ℕ) → value_from a (digits k n) ≡ a * 10 ^ k + n % 10 ^ k
unfolding value_from
value_from-digits zero a n = omega arith
value_from-digits (suc k) a n =
    let d = n / 10 ^ k % 10 in
    value_from-digits k (a * 10 + d) n
    ∙ weigh a d (10 ^ k) (n % 10 ^ k)
    ∙ rw (mod_ten k n, pow-suc 10 k, mul_comm (10 ^ k) 10)

pub value_digits : (k n : ℕ) → value_of (digits k n) ≡ n % 10 ^ k
value_digits k n = value_from-digits k 0 n ∙ omega arith

pub value_below : (k n : ℕ) → n < 10 ^ k → value_of (digits k n) ≡ n
value_below k n h = value_digits k n ∙ mod-eq_of_lt h

pub digits_injective : (k n m : ℕ) → n < 10 ^ k → m < 10 ^ k → digits k n ≡ digits k m → n ≡ m
digits_injective k n m hn hm e = sym (value_below k n hn) ∙ ap value_of e ∙ value_below k m hm

-- digits stand for a number whose digits they are; `a` is what stands before them
digits-value_from : (ds : List ℕ) (j a : ℕ) → AllDigits ds → digits (j + length ds) (value_from a ds) ≡ digits j a ++ ds
unfolding value_from
digits-value_from [] j a h = ap (λ (k : ℕ). digits k a) (add-zero j) ∙ sym (append-nil (digits j a))
digits-value_from (d ∷ ds) j a h =
    ap (λ (k : ℕ). digits k (value_from (a * 10 + d) ds)) (add-suc j (length ds) ∙ sym (suc-add j (length ds)))
    ∙ digits-value_from ds (suc j) (a * 10 + d) h.1
    ∙ ap (λ (l : List ℕ). l ++ ds) (digits_snoc j (a * 10 + d))
    ∙ ap (λ (q : ℕ). (digits j q ++ ((a * 10 + d) % 10 ∷ [])) ++ ds) (digits_div a h.0)
    ∙ ap (λ (e : ℕ). (digits j a ++ (e ∷ [])) ++ ds) (digits_mod a h.0)
    ∙ append_snoc (digits j a) d ds

pub digits_value : (ds : List ℕ) → AllDigits ds → digits (length ds) (value_of ds) ≡ ds
digits_value ds h = ap (λ (k : ℕ). digits k (value_of ds)) (sym (zero-add (length ds))) ∙ digits-value_from ds 0 0 h

-- ---- read back from bytes
pub unshown-shown : (ds : List ℕ) → unshown (shown ds) ≡ ds
unshown-shown [] = refl
unshown-shown (d ∷ ds) = let e : 48 + d - 48 ≡ d = omega arith in rw (e, unshown-shown ds)

pub decimal_back : (k n : ℕ) → n < 10 ^ k → value_of (unshown (decimal k n)) ≡ n
decimal_back k n h = ap value_of (unshown-shown (digits k n)) ∙ value_below k n h

-- ---- a fraction: nothing, or a point and the digits
pub fraction_none : (k : ℕ) (ds : List ℕ) → k ≡ 0 → fraction k ds ≡ []
unfolding fraction
fraction_none k ds h = rw h

pub fraction_some : (k : ℕ) (ds : List ℕ) → (k ≡ 0 → ⊥) → k ≤ length ds → fraction k ds ≡ (46 ∷ []) ++ shown (slice 0 k ds)
unfolding fraction
fraction_some zero ds h l = absurd (h refl)
fraction_some (suc k) [] h l = absurd (omega arith)
fraction_some (suc k) (d ∷ ds) h l = refl

pub length-fraction : (k : ℕ) (ds : List ℕ) → (k ≡ 0 → ⊥) → k ≤ length ds → length (fraction k ds) ≡ 1 + k
length-fraction k ds h l = omega (arith, ap length (fraction_some k ds h l), length_span 0 k ds l)
