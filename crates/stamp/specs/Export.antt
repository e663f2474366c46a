-- What the exported recogniser answers. Assumes nothing: these are definitions.
use Rattle.std.specs.Prelude.{ℕ, Bool, true, false, ◌≡◌, List}
use Rattle.recogniser.specs.Recognised.{Recognised}

-- yes and no as numbers
abbrev pub one_if : Bool → ℕ
one_if true = 1
one_if false = 0

-- 1 exactly if some accepted stamp with a date, separators on, writes the text; else 0
pub record Answered (l : List ℕ) (r : ℕ) : Type 0 where
  pub yes : Bool
  pub recognised : Recognised l yes
  pub number : r ≡ one_if yes
