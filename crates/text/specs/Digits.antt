-- Decimal digits: the one definition that every number of the product is written and read by. Assumes nothing: these are definitions.
use Rattle.std.specs.Prelude.{true, false, List, [], ◌∷◌, map, ℕ, zero, suc, ◌+◌, ◌*◌, ◌-◌, ◌/◌, ◌%◌, ◌^◌, ◌≤◌, ◌<◌, ltb, get_or, take}

-- the k low digits of n, the most significant first
abbrev pub digits : ℕ → ℕ → List ℕ
digits zero n = []
digits (suc k) n = (n / 10 ^ k % 10) ∷ digits k n

-- digits as bytes, '0' is 48; and bytes as digits
abbrev pub shown : List ℕ → List ℕ
shown ds = map (λ d. 48 + d) ds

abbrev pub unshown : List ℕ → List ℕ
unshown cs = map (λ c. c - 48) cs

-- n in k decimal digits, padded with zeros
abbrev pub decimal : ℕ → ℕ → List ℕ
decimal k n = shown (digits k n)

-- every element is a digit
abbrev pub AllDigits : List ℕ → Type 0
AllDigits [] = Unit {0}
AllDigits (d ∷ ds) = (d < 10) × AllDigits ds

-- the number that digits stand for, read from the left after the number a
unfoldable pub value_from : ℕ → List ℕ → ℕ
value_from a [] = a
value_from a (d ∷ ds) = value_from (a * 10 + d) ds

abbrev pub value_of : List ℕ → ℕ
value_of ds = value_from 0 ds

-- from and to lie in nine digits, in order, and ds holds digits
pub record Span (ds : List ℕ) (from to : ℕ) : Type 0 where
  pub order : from ≤ to
  pub inside : to ≤ 9
  pub small : (i : ℕ) → get_or ds i 0 < 10

-- the place, from 1 on, of the last digit that is not 0; 0 if all are 0
abbrev pub last_step : ℕ → ℕ → ℕ
last_step d (suc k) = suc (suc k)
last_step zero zero = 0
last_step (suc d) zero = 1

unfoldable pub last_nonzero : List ℕ → ℕ
last_nonzero [] = 0
last_nonzero (d ∷ ds) = last_step d (last_nonzero ds)

-- '.' before digits, if there are any
abbrev pub pointed : List ℕ → List ℕ
pointed [] = []
pointed (d ∷ ds) = 46 ∷ d ∷ ds

-- the first k of nine digits as a fraction
unfoldable pub fraction : ℕ → List ℕ → List ℕ
fraction k ds = pointed (shown (take k ds))

-- how many digits n has: 1 below ten, else one more than its quotient by ten has. `f` bounds the steps: n of them are enough
unfoldable pub width_by : ℕ → ℕ → ℕ
width_by zero n = 1
width_by (suc f) n = elim (ltb n 10) [ true ↦ 1 | false ↦ suc (width_by f (n / 10)) ]

unfoldable pub width : ℕ → ℕ
width n = width_by n n

-- a number in as many digits as it has
unfoldable pub number : ℕ → List ℕ
number n = decimal (width n) n

-- digits without a leading zero: one digit, or the first is not 0
abbrev pub NoLeadingZero : List ℕ → Type 0
NoLeadingZero [] = ⊥
NoLeadingZero (d ∷ []) = Unit {0}
NoLeadingZero (d ∷ e ∷ ds) = 0 < d
