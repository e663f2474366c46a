-- The text of a duration: its units and their lengths, and when there is a part to write. Assumes nothing.
--     unit_none, unit_some      a unit: nothing for 0, else the number and its letter
--     absent                    a part is absent where it is not there
--     unit_most                 a unit's length, by how many digits its number has at most
--     some_units, some_parts    there is something to write exactly if a number that is written is not 0
--     time_as                   the time by its pieces: `T` where one of them is written
use mathlib.Core.Path.{◌≡◌, refl, sym, ap, ◌∙◌}
use mathlib.Core.Bool.{Bool, true, false, cond, not, ◌||◌, false≢true}
use mathlib.Core.List.{List, [], ◌∷◌, ◌++◌}
use Prim.Native.Nat.{ℕ, zero, suc, ◌^◌, ◌<◌, ◌≤◌}
use native.Mathlib.Omega.{arith}
use borrow.Author.Tests.{ne_eqb}
use lib.ListN.{length, length-append}
use Rattle.std.specs.Prelude.{Option, Some, None, is_some, is_none}
use Rattle.text.specs.Digits.{number}
use Rattle.text.specs.Put.{mark}
use Rattle.text.proofs.NumberLaws.{length-number, width_le}
use Rattle.record.specs.declared.stamp.Precision.{Precision}
use Rattle.record.specs.declared.duration.DateDuration.{DateDuration}
use Rattle.record.specs.declared.duration.Duration.{Duration}
use Rattle.precision.specs.Precision.{sub_second}
use Rattle.duration.specs.declared.held.TimeNumbers.{TimeNumbers}
use Rattle.duration.specs.Duration.{date_numbers, time_numbers, nonzero, unit, date_units, seconds_shown, seconds_text, time_units, time_shown, designated, parts_text, some, any_date}

pub unit_none : (n letter : ℕ) → n ≡ 0 → unit n letter ≡ []
unfolding unit
unit_none n letter h = rw h

pub unit_some : (n letter : ℕ) → (n ≡ 0 → ⊥) → unit n letter ≡ number n ++ (letter ∷ [])
unfolding unit
unit_some zero letter h = absurd (h refl)
unit_some (suc n) letter h = refl

pub absent : {A : Type 0} (o : Option A) → is_none o ≡ not (is_some o)
absent None = refl
absent (Some x) = refl

-- ---- lengths
-- a number of at most k + 1 digits
pub unit_most : (k n letter : ℕ) → n < 10 ^ suc k → length (unit n letter) ≤ suc (suc k)
unfolding unit
unit_most k zero letter h = omega arith
unit_most k (suc n) letter h = simp length-append (omega (arith, length-number (suc n), width_le k (suc n) h))

-- ---- something to write
or-true : (a : Bool) → (a || true) ≡ true
or-true true = refl
or-true false = refl

some-append : (a b : List ℕ) → some (a ++ b) ≡ (some a || some b)
some-append [] b = refl
some-append (x ∷ a) b = refl

some_snoc : (a : List ℕ) (x : ℕ) → some (a ++ (x ∷ [])) ≡ true
some_snoc a x = some-append a (x ∷ []) ∙ or-true (some a)

some-unit : (n letter : ℕ) → some (unit n letter) ≡ nonzero n
unfolding unit
some-unit zero letter = refl
some-unit (suc n) letter = some_snoc (number (suc n)) letter ∙ ap not (sym (ne_eqb (suc n) 0 (λ e. omega arith)))

some-date : (n : DateDuration) → some (date_units n) ≡ any_date n
unfolding date_units
some-date n = simp (some-append, some-unit)

some-seconds : (p : Precision) (shown : Bool) (n : TimeNumbers) → some (cond shown (seconds_text p n) []) ≡ shown
unfolding seconds_text
some-seconds p true n = some_snoc (number n.seconds ++ sub_second p n.fraction) 83
some-seconds p false n = refl

pub some_units : (p : Precision) (shown : Bool) (n : TimeNumbers) → some (time_units p shown n) ≡ time_shown shown n
unfolding time_units
some_units p shown n = simp (some-append, some-unit, some-seconds)

some-designated : (t : List ℕ) → some (designated t) ≡ some t
some-designated [] = refl
some-designated (x ∷ t) = refl

pub some_parts : (d : Duration) → some (parts_text d) ≡ (any_date (date_numbers d.date) || time_shown (seconds_shown d) (time_numbers d.time))
unfolding parts_text
some_parts d = simp (some-append, some-date, some-designated, some_units)

-- ---- the time by its pieces
designated_by : (s : Bool) (t : List ℕ) → some t ≡ s → designated t ≡ mark s 84 ++ t
designated_by true [] e = absurd (false≢true e)
designated_by false [] e = refl
designated_by true (x ∷ t) e = refl
designated_by false (x ∷ t) e = absurd (false≢true (sym e))

module _ (p : Precision) (shown : Bool) (n : TimeNumbers) where
  regroup : (s : Bool) → mark s 84 ++ time_units p shown n ≡ mark s 84 ++ unit n.hours 72 ++ unit n.minutes 77 ++ cond shown (seconds_text p n) []
  unfolding time_units
  regroup true = refl
  regroup false = refl

  pub time_as : designated (time_units p shown n) ≡ mark (time_shown shown n) 84 ++ unit n.hours 72 ++ unit n.minutes 77 ++ cond shown (seconds_text p n) []
  time_as = designated_by (time_shown shown n) (time_units p shown n) (some_units p shown n) ∙ regroup (time_shown shown n)
