-- The goals of a reading and their numbers, 0 to 6. Assumes nothing: these are definitions.
use Rattle.std.specs.Prelude.{List, [], ◌∷◌, ℕ, get_or, Result, Ok, Err}
use Rattle.record.specs.declared.goal.Goal.{Goal}
use Rattle.record.specs.declared.goal.Goal.TheVariants.{Stamp, Plain, Zoned, Instant, Time, YearMonth, MonthDay}
use Rattle.text.specs.declared.refusal.Refusal.{Refusal}
use Rattle.text.specs.declared.refusal.Refusal.TheVariants.{NoSuchGoal}

abbrev pub goal_number : Goal → ℕ
goal_number Stamp = 0
goal_number Plain = 1
goal_number Zoned = 2
goal_number Instant = 3
goal_number Time = 4
goal_number YearMonth = 5
goal_number MonthDay = 6

-- the goals that have a number, each at its own place
unfoldable pub choices : List (Result Goal Refusal)
choices = Ok Stamp ∷ Ok Plain ∷ Ok Zoned ∷ Ok Instant ∷ Ok Time ∷ Ok YearMonth ∷ Ok MonthDay ∷ []

unfoldable pub goal_of : ℕ → Result Goal Refusal
goal_of number = get_or choices number (Err NoSuchGoal)
