-- What was read as one number: the sum of its fields, wrapped at 64 bits, with a 1 for each part that is there. Assumes nothing: these are definitions.
use Rattle.std.specs.Prelude.{ℕ, ◌+◌, ◌%◌, ◌^◌, Bool, true, false, ℤ, pos, int_lt, unsigned_abs, Option, Some, None, Ok, Err}
use Rattle.text.specs.Refusal.{number}
use Rattle.record.specs.declared.stamp.Clock.{Clock}
use Rattle.record.specs.declared.stamp.Date.{Date}
use Rattle.record.specs.declared.shown.SignedClock.{SignedClock}
use Rattle.record.specs.declared.shown.ShownOffset.{ShownOffset}
use Rattle.record.specs.declared.shown.ShownOffset.TheVariants.{Z, At}
use Rattle.record.specs.declared.shown.MarkedName.{MarkedName}
use Rattle.record.specs.declared.shown.Shown.{Shown}
use Rattle.record.specs.Refusals.{Reading}

unfoldable pub plus : ℕ → ℕ → ℕ
plus a b = (a + b) % 2 ^ 64

abbrev pub one_if : Bool → ℕ
one_if true = 1
one_if false = 0

unfoldable pub is_negative : ℤ → Bool
is_negative z = int_lt z (pos 0)

-- 1 more than its own sum for a part that is there
abbrev pub part_sum : {A : Type 0} → (A → ℕ) → Option A → ℕ
part_sum sum None = 0
part_sum sum (Some a) = plus 1 (sum a)

unfoldable pub clock_sum : Clock → ℕ
clock_sum c = plus (plus c.hour c.minute) (plus c.second c.nanosecond)

unfoldable pub year_sum : ℤ → ℕ
year_sum z = plus (unsigned_abs z) (one_if (is_negative z))

unfoldable pub day_sum : Date → ℕ
day_sum d = plus (year_sum d.year) (plus d.month d.day)

unfoldable pub signed_sum : SignedClock → ℕ
signed_sum o = plus (one_if o.negative) (clock_sum o.clock)

abbrev pub offset_sum : Option ShownOffset → ℕ
offset_sum None = 0
offset_sum (Some Z) = 1
offset_sum (Some (At o)) = plus 2 (signed_sum o)

unfoldable pub marked_sum : MarkedName → ℕ
marked_sum m = plus (plus m.name.at m.name.len) (one_if m.critical)

unfoldable pub shown_sum : Shown → ℕ
shown_sum s =
    plus
    (plus (part_sum day_sum s.date) (part_sum clock_sum s.time))
    (plus (offset_sum s.offset) (plus (part_sum marked_sum s.zone) (part_sum marked_sum s.calendar)))

-- a refusal's number as it is; 1,000 more for what was accepted
abbrev pub reading_sum : Reading → ℕ
reading_sum (Ok s) = plus 1000 (shown_sum s)
reading_sum (Err k) = number k
