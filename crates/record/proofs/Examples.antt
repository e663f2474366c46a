-- The definitions at a few values, computed. Assumes nothing.
use mathlib.Core.Path.{◌≡◌, refl}
use mathlib.Core.Bool.{true, false}
use Rattle.std.specs.Prelude.{Ok, Err}
use Rattle.text.specs.declared.refusal.Refusal.TheVariants.{NoSuchGoal}
use Rattle.record.specs.declared.goal.Goal.TheVariants.{Stamp, MonthDay}
use Rattle.record.specs.declared.stamp.Precision.TheVariants.{Auto, Minute}
use Rattle.record.specs.declared.stamp.Sign.TheVariants.{Negative, Positive}
use Rattle.record.specs.declared.stamp.UtcOffset.TheVariants.{Offset}
use Rattle.record.specs.declared.stamp.DisplayOffset.TheVariants.{Never}
use Rattle.record.specs.Goals.{choices, goal_of}
use Rattle.record.specs.Separators.{separators_on}
use Rattle.record.specs.Steps.{nanosecond_of, no_parts, with_time, with_offset, with_minute_offset, with_z}

goals : (goal_of 0 ≡ Ok Stamp) × (goal_of 6 ≡ Ok MonthDay) × (goal_of 7 ≡ Err NoSuchGoal) × (goal_of 4294967295 ≡ Err NoSuchGoal)
unfolding goal_of choices
goals = (refl, refl, refl, refl)

-- 0 ms, 1000 us, 0 ns is beyond a second, and not the 1 ms that it would add up to
nanoseconds :
    (nanosecond_of 123 456 789 ≡ 123456789)
    × (nanosecond_of 999 999 999 ≡ 999999999)
    × (nanosecond_of 1 0 0 ≡ 1000000)
    × (nanosecond_of 0 1000 0 ≡ 1000000000)
    × (nanosecond_of 65535 65535 65535 ≡ 1000000000)
unfolding nanosecond_of
nanoseconds = (refl, refl, refl, refl, refl)

-- a part that is set again is replaced whole
replaced : with_z (with_minute_offset no_parts Negative 5 30 Never) Never ≡ with_z no_parts Never
replaced = refl

-- a hidden offset counts; an absent part and Z do not
separators :
    (separators_on no_parts ≡ true)
    × (separators_on (with_z (with_time no_parts 10 15 0 0 Auto) Never) ≡ true)
    × (separators_on (with_minute_offset no_parts Positive 1 0 Never) ≡ true)
    × (separators_on
    (with_offset no_parts Never
    (Offset
    (record {
      sign = Positive;
      time =
          record {
            clock = record { hour = 1; minute = 0; second = 0; nanosecond = 0 };
            precision = Minute;
            include_sep = false;
          };
    })))
    ≡ false)
unfolding separators_on
separators = (refl, refl, refl, refl)
