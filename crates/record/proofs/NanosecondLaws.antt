-- Three sub-second fields as one nanosecond: within a second if each is at most 999, and beyond it otherwise. Assumes nothing.
use mathlib.Core.Path.{◌≡◌}
use mathlib.Core.Bool.{true, false, ◌&&◌, and-eq-true_iff}
use Prim.Native.Nat.{ℕ, ◌≤◌}
use native.Mathlib.Omega.{arith}
use borrow.Author.Tests.{leb-true}
use lib.Dec.{leb}
use Rattle.record.specs.Steps.{sub_second, nanosecond_of}

-- three tests that hold together, whatever their bounds
pub each_at_most : (ms us ns a b c : ℕ) → (leb ms a && leb us b && leb ns c) ≡ true → (ms ≤ a) × (us ≤ b) × (ns ≤ c)
each_at_most ms us ns a b c h =
    let tests = (and-eq-true_iff _ _).0 h in
    let first = (and-eq-true_iff _ _).0 tests.0 in
    (leb-true _ _ first.0, leb-true _ _ first.1, leb-true _ _ tests.1)

module _ (ms us ns : ℕ) where
  pub nanosecond_within : sub_second ms us ns ≡ true → nanosecond_of ms us ns ≤ 999999999
  unfolding nanosecond_of
  nanosecond_within h = rw h (omega (arith, each_at_most ms us ns 999 999 999 h))

  pub nanosecond_beyond : sub_second ms us ns ≡ false → 1000000000 ≤ nanosecond_of ms us ns
  unfolding nanosecond_of
  nanosecond_beyond h = rw h (omega arith)
