-- Goals and their numbers: each goal is that of its own number, and no other number has one. Assumes nothing.
use mathlib.Core.Path.{◌≡◌, refl}
use Prim.Native.Nat.{ℕ, ◌<◌}
use lib.ListN.{get_or-eq_default}
use Rattle.record.specs.declared.goal.Goal.{Goal}
use Rattle.record.specs.declared.goal.Goal.TheVariants.{Stamp, Plain, Zoned, Instant, Time, YearMonth, MonthDay}
use Rattle.std.specs.Prelude.{Ok, Err}
use Rattle.text.specs.declared.refusal.Refusal.TheVariants.{NoSuchGoal}
use Rattle.record.specs.Goals.{goal_number, choices, goal_of}

pub goal_of-number : (g : Goal) → goal_of (goal_number g) ≡ Ok g
unfolding goal_of choices
goal_of-number Stamp = refl
goal_of-number Plain = refl
goal_of-number Zoned = refl
goal_of-number Instant = refl
goal_of-number Time = refl
goal_of-number YearMonth = refl
goal_of-number MonthDay = refl

pub no_goal : (n : ℕ) → 6 < n → goal_of n ≡ Err NoSuchGoal
unfolding goal_of choices
no_goal n h = get_or-eq_default choices (Err NoSuchGoal) h
