-- The leap rule is read off the magnitude; it is the rule by divisors over the integers, negative years too. Assumes nothing.
use mathlib.Core.Path.{◌≡◌, refl, sym, ap, ◌∙◌}
use mathlib.Core.Bool.{Bool, true, false, not, ◌||◌, and-eq-true_iff, or-true, false≢true}
use mathlib.Core.Logic.{◌↔◌, ◌⊎◌, inl, inr}
use Prim.Native.Nat.{ℕ, zero, suc, ◌*◌, ◌/◌, ◌%◌}
use native.Mathlib.Nat.{mul-mod_left, div-add-mod'}
use native.Mathlib.Omega.{arith}
use borrow.Author.Tests.{eqb-true, eqb-false, eq-eqb, ne_eqb}
use lib.Dec.{eqb}
use lib.IntN.{ℤ, pos, negsuc, neg_ℤ, nat_abs, ◌*ℤ◌, pos-*ℤ-pos, negsuc-*ℤ-pos}
use Rattle.iso.specs.Gregorian.{leap_rule, is_leap}

-- y is k times some integer
pub record Multiple (k : ℕ) (y : ℤ) : Type 0 where
  pub times : ℤ
  pub whole : y ≡ times *ℤ pos k

-- the rule as the calendar has it
abbrev pub LeapYear : ℤ → Type 0
LeapYear y = Multiple 4 y × ((Multiple 100 y → ⊥) ⊎ Multiple 400 y)

abs_neg : (n : ℕ) → nat_abs (neg_ℤ (pos n)) ≡ n
abs_neg zero = refl
abs_neg (suc n) = refl

abs_times : (q : ℤ) (k : ℕ) → nat_abs (q *ℤ pos k) ≡ nat_abs q * k
abs_times (pos n) k = ap nat_abs (pos-*ℤ-pos n k)
abs_times (negsuc n) k = ap nat_abs (negsuc-*ℤ-pos n k) ∙ abs_neg (suc n * k)

no_rest : {k : ℕ} {y : ℤ} → Multiple k y → nat_abs y % k ≡ 0
no_rest {k} m = ap (λ (z : ℤ). nat_abs z % k) m.whole ∙ ap (λ (n : ℕ). n % k) (abs_times m.times k) ∙ mul-mod_left _ k

by_quotient : (n k : ℕ) → n % k ≡ 0 → n ≡ n / k * k
by_quotient n k h = omega (arith, div-add-mod' n k)

-- a negative number by the magnitude of its quotient
minus : (n q k : ℕ) → suc n ≡ q * k → Multiple k (negsuc n)
minus n zero k h = absurd (omega arith)
minus n (suc q) k h = record { times = negsuc q; whole = ap (λ (m : ℕ). neg_ℤ (pos m)) h ∙ sym (negsuc-*ℤ-pos q k) }

divided : (k : ℕ) (y : ℤ) → nat_abs y % k ≡ 0 → Multiple k y
divided k (pos n) h = record { times = pos (n / k); whole = ap pos (by_quotient n k h) ∙ sym (pos-*ℤ-pos (n / k) k) }
divided k (negsuc n) h = minus n (suc n / k) k (by_quotient (suc n) k h)

module _ (y : ℤ) where
  unless : (hundred four-hundred : Bool) → eqb (nat_abs y % 100) 0 ≡ hundred → eqb (nat_abs y % 400) 0 ≡ four-hundred
      → (not hundred || four-hundred) ≡ true → (Multiple 100 y → ⊥) ⊎ Multiple 400 y
  unless false b e f h = inl (λ m. eqb-false _ _ e (no_rest m))
  unless true true e f h = inr (divided 400 y (eqb-true _ _ f))
  unless true false e f h = absurd (false≢true h)

  leap_year : is_leap y ≡ true → LeapYear y
  unfolding is_leap leap_rule
  leap_year h =
      let tests = (and-eq-true_iff _ _).0 h in
      (divided 4 y (eqb-true _ _ tests.0), unless _ _ refl refl tests.1)

  is_leap_lem : LeapYear y → is_leap y ≡ true
  unfolding is_leap leap_rule
  is_leap_lem (four, inl f) = rw (eq-eqb _ _ (no_rest four), ne_eqb _ _ (λ e. f (divided 100 y e)))
  is_leap_lem (four, inr m) = rw (eq-eqb _ _ (no_rest four), eq-eqb _ _ (no_rest m), or-true)

pub leap_by_divisors : (y : ℤ) → (is_leap y ≡ true) ↔ LeapYear y
leap_by_divisors y = (leap_year y, is_leap_lem y)
