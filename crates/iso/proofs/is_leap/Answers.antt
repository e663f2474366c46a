-- `iso::is_leap` meets its contract: it is the rule. A signed argument of a call stands in what the call ensures by its bits: `rw (to_z-of_z ..) at` makes it the
-- number again. Assumes nothing.
use mathlib.Core.Path.{◌≡◌}
use mathlib.Core.Bool.{not, ◌&&◌, ◌||◌}
use Prim.Native.Nat.{ℕ, ◌%◌}
use mir.Facts.{to_z-of_z}
use lib.Dec.{eqb}
use lib.IntN.{ℤ, nat_abs}
use Rattle.iso.specs.Gregorian.{leap_rule, is_leap}
use Rattle.iso.proofs.is_leap.Goals as goal

by_rule : (y : ℤ) (n : ℕ) → n ≡ nat_abs y → (eqb (n % 4) 0 && (not (eqb (n % 100) 0) || eqb (n % 400) 0)) ≡ is_leap y
unfolding is_leap leap_rule
by_rule y n e = rw e

pub returns : goal.returns
returns c = by_rule _ _ (rw (to_z-of_z c.ranges.year) at c.magnitude-n.ensures)
