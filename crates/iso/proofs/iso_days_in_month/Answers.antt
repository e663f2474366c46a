-- `iso::iso_days_in_month` meets its contract: but for February the lengths are the same in every year. Assumes nothing.
use mathlib.Core.Path.{◌≡◌, sym, ◌∙◌}
use mathlib.Core.Bool.{Bool, true, false}
use Prim.Native.Nat.{ℕ}
use mir.Facts.{to_z-of_z}
use lib.IntN.{ℤ}
use lib.ListN.{get_or, set}
use lib.Seq.{get_or-set_other}
use Rattle.iso.specs.Gregorian.{is_leap, month_lengths, days_in_month}
use Rattle.iso.proofs.DateLaws.{no_month}
use Rattle.iso.proofs.iso_days_in_month.Goals as goal

february : (y : ℤ) (m : ℕ) (leap : Bool) → m ≡ 2 → leap ≡ is_leap y → get_or (month_lengths leap) 2 0 ≡ days_in_month y m
unfolding days_in_month
february y m leap e f = rw (e, ← f)

-- the code's table is that of the definition with February cleared
other : (y : ℤ) (m : ℕ) → (m ≡ 2 → ⊥) → get_or (set (month_lengths (is_leap y)) 2 0) m 0 ≡ days_in_month y m
unfolding days_in_month
other y m f = get_or-set_other (month_lengths (is_leap y)) 2 m 0 0 f

pub returns-then-month-gt12 : goal.returns-then-month-gt12
returns-then-month-gt12 c = sym (no_month _ _ c.if-month-gt12.true)

pub returns-then-is_leap : goal.returns-then-is_leap
unfolding month_lengths
returns-then-is_leap c = february _ _ true c.if-month-eq2.true (sym c.if-is_leap.true ∙ rw (to_z-of_z c.ranges.year) at c.is_leap.ensures)

pub returns-else-is_leap : goal.returns-else-is_leap
unfolding month_lengths
returns-else-is_leap c = february _ _ false c.if-month-eq2.true (sym c.if-is_leap.false ∙ rw (to_z-of_z c.ranges.year) at c.is_leap.ensures)

pub returns-else-month-eq2 : goal.returns-else-month-eq2
unfolding month_lengths
returns-else-month-eq2 c = other _ _ c.if-month-eq2.false
