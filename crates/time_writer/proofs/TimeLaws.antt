-- What the test of a time tells, and the longest time. Assumes nothing.
--     clock_in, time_in    the fields of a time that passes its test
--     time_most            the longest time
use mathlib.Core.Path.{◌≡◌}
use mathlib.Core.Bool.{true}
use mathlib.Core.List.{List}
use Prim.Native.Nat.{ℕ, ◌≤◌}
use native.Mathlib.Omega.{arith}
use borrow.Author.Tests.{leb-true}
use lib.ListN.{length, length-append}
use Rattle.text.proofs.OutLaws.{mark_most}
use Rattle.text.proofs.Answers.{both}
use Rattle.record.specs.declared.stamp.Precision.{Precision}
use Rattle.record.specs.declared.stamp.Precision.TheVariants.{Auto, Minute, Digit}
use Rattle.record.specs.declared.stamp.Clock.{Clock}
use Rattle.record.specs.declared.stamp.Time.{Time}
use Rattle.precision.specs.Precision.{precision_ok}
use Rattle.precision.proofs.SubSecond.{sub_second_most}
use Rattle.time_writer.specs.Time.{seconds, unless_minute, time_text, clock_ok, time_ok}

pub record ClockIn (c : Clock) : Type 0 where
  pub hour : c.hour ≤ 23
  pub minute : c.minute ≤ 59
  pub second : c.second ≤ 59
  pub nanosecond : c.nanosecond ≤ 999999999

pub clock_in : (c : Clock) → clock_ok c ≡ true → ClockIn c
unfolding clock_ok
clock_in c e =
    let n = both _ _ e in
    let s = both _ _ n.0 in
    let m = both _ _ s.0 in
    record { hour = leb-true _ _ m.0; minute = leb-true _ _ m.1; second = leb-true _ _ s.1; nanosecond = leb-true _ _ n.1 }

pub time_in : (t : Time) → time_ok t ≡ true → ClockIn t.clock × (precision_ok t.precision ≡ true)
unfolding time_ok
time_in t e = let p = both _ _ e in (clock_in t.clock p.0, p.1)

unless_minute_most : (p : Precision) (r : List ℕ) → length (unless_minute p r) ≤ length r
unless_minute_most Auto r = omega arith
unless_minute_most Minute r = omega arith
unless_minute_most (Digit d) r = omega arith

seconds_most : (t : Time) → length (seconds t) ≤ 13
unfolding seconds
seconds_most t = simp length-append (omega (arith, mark_most t.include_sep 58, sub_second_most t.precision t.clock.nanosecond))

pub time_most : (t : Time) → length (time_text t) ≤ 18
unfolding time_text
time_most t =
    simp length-append (omega (arith, mark_most t.include_sep 58, unless_minute_most t.precision (seconds t), seconds_most t))
