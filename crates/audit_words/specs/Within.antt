-- How far a piece of a row reaches. Assumes nothing: these are definitions.
use Rattle.std.specs.Prelude.{ℕ, ◌+◌, ◌≤◌}

-- r is a place that lies at most n after the place at
pub record Within (at n r : ℕ) : Type 0 where
  pub onward : at ≤ r
  pub most : r ≤ at + n
