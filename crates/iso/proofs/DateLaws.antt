-- What a valid date says of its month and its day, and which days are valid in every year. Assumes nothing.
use mathlib.Core.Path.{◌≡◌}
use mathlib.Core.Bool.{Bool, true, false, ◌&&◌, and-eq-true_iff}
use mathlib.Core.List.{List, [], ◌∷◌}
use Prim.Native.Nat.{ℕ, zero, suc, ◌<◌, ◌≤◌}
use native.Mathlib.Omega.{arith}
use borrow.Author.Rules.{rules}
use borrow.Author.Tests.{le-leb, leb-true}
use native.Mathlib.Decide.{dec_lt}
use lib.IntN.{ℤ}
use lib.Dec.{leb}
use lib.ListN.{length, get_or, get_or-eq_default}
use Rattle.iso.specs.Gregorian.{is_leap, month_lengths, days_in_month, valid_date}

-- no entry of a list exceeds b
abbrev AtMost : ℕ → List ℕ → Type 0
AtMost b [] = Unit {0}
AtMost b (x ∷ xs) = (x ≤ b) × AtMost b xs

entry_at_most : (b : ℕ) (xs : List ℕ) (k : ℕ) → AtMost b xs → get_or xs k 0 ≤ b
entry_at_most b [] k h = omega arith
entry_at_most b (x ∷ xs) zero h = h.0
entry_at_most b (x ∷ xs) (suc k) h = entry_at_most b xs k h.1

lengths_at_most : (leap : Bool) → AtMost 31 (month_lengths leap)
unfolding month_lengths
lengths_at_most true = search rules
lengths_at_most false = search rules

pub days_in_month_at_most : (y : ℤ) (m : ℕ) → days_in_month y m ≤ 31
unfolding days_in_month
days_in_month_at_most y m = entry_at_most 31 (month_lengths (is_leap y)) m (lengths_at_most (is_leap y))

pub no_month : (y : ℤ) (m : ℕ) → 12 < m → days_in_month y m ≡ 0
unfolding days_in_month month_lengths
no_month y m h = get_or-eq_default (month_lengths (is_leap y)) 0 h

has_days : (y : ℤ) (m : ℕ) → 1 ≤ days_in_month y m → (1 ≤ m) × (m ≤ 12)
unfolding days_in_month month_lengths
has_days y zero h = absurd (omega arith)
has_days y (suc m) h = go (dec_lt 12 (suc m))
  where
    go : Dec (12 < suc m) → (1 ≤ suc m) × (suc m ≤ 12)
    go (yes after) = absurd (omega (arith, no_month y (suc m) after))
    go (no within) = (omega arith, omega arith)

pub valid_date_in : (y : ℤ) (m d : ℕ) → valid_date y m d ≡ true → (1 ≤ m) × (m ≤ 12) × (1 ≤ d) × (d ≤ 31)
unfolding valid_date
valid_date_in y m d h =
    let tests = (and-eq-true_iff _ _).0 h in
    let from : 1 ≤ d = leb-true _ _ tests.0 in
    let upto : d ≤ days_in_month y m = leb-true _ _ tests.1 in
    let month = has_days y m (omega arith) in
    (month.0, month.1, from, omega (arith, days_in_month_at_most y m))

-- ---- every month has 28 days

-- no entry of a list is below b
abbrev AtLeast : ℕ → List ℕ → Type 0
AtLeast b [] = Unit {0}
AtLeast b (x ∷ xs) = (b ≤ x) × AtLeast b xs

entry_at_least : (b : ℕ) (xs : List ℕ) (k : ℕ) → AtLeast b xs → k < length xs → b ≤ get_or xs k 0
entry_at_least b [] k h l = absurd (omega arith)
entry_at_least b (x ∷ xs) zero h l = h.0
entry_at_least b (x ∷ xs) (suc k) h l = entry_at_least b xs k h.1 (omega arith)

-- no entry after the first is
abbrev LaterAtLeast : ℕ → List ℕ → Type 0
LaterAtLeast b [] = Unit {0}
LaterAtLeast b (x ∷ xs) = AtLeast b xs

later_at_least : (b : ℕ) (xs : List ℕ) (k : ℕ) → LaterAtLeast b xs → 1 ≤ k → k < length xs → b ≤ get_or xs k 0
later_at_least b [] k h p q = absurd (omega arith)
later_at_least b (x ∷ xs) zero h p q = absurd (omega arith)
later_at_least b (x ∷ xs) (suc k) h p q = entry_at_least b xs k h (omega arith)

lengths_at_least : (leap : Bool) (m : ℕ) → 1 ≤ m → m ≤ 12 → 28 ≤ get_or (month_lengths leap) m 0
unfolding month_lengths
lengths_at_least true m p q = later_at_least 28 (month_lengths true) m (search rules) p (omega arith)
lengths_at_least false m p q = later_at_least 28 (month_lengths false) m (search rules) p (omega arith)

pub in_every_year : (y : ℤ) (m d : ℕ) → (leb 1 m && leb m 12 && leb 1 d && leb d 28) ≡ true → true ≡ valid_date y m d
unfolding valid_date days_in_month
in_every_year y m d h =
    let r = (and-eq-true_iff _ _).0 h in
    let q = (and-eq-true_iff _ _).0 r.0 in
    let p = (and-eq-true_iff _ _).0 q.0 in
    let n = lengths_at_least (is_leap y) m (leb-true 1 m p.0) (leb-true m 12 p.1) in
    rw (q.1, le-leb d (get_or (month_lengths (is_leap y)) m 0) (omega (arith, leb-true d 28 r.1)))
