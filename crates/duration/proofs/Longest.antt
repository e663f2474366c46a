-- The longest text of a duration: no numbers of 32 and 64 bits give more than 130 bytes, and one duration has 130. Assumes nothing.
use mathlib.Core.Path.{◌≡◌, refl}
use mathlib.Core.Bool.{Bool, true, false, cond}
use mathlib.Core.List.{[]}
use Prim.Native.Nat.{◌^◌, ◌<◌, ◌≤◌}
use native.Mathlib.Omega.{arith}
use lib.ListN.{length, length-append}
use Rattle.std.specs.Prelude.{Some, Ok}
use Rattle.text.specs.Digits.{last_nonzero, fraction, width_by, width, number}
use Rattle.text.specs.Answer.{length_of}
use Rattle.text.proofs.NumberLaws.{length-number, width_le}
use Rattle.text.proofs.OutLaws.{mark_most}
use Rattle.record.specs.declared.stamp.Precision.{Precision}
use Rattle.record.specs.declared.stamp.Precision.TheVariants.{Auto}
use Rattle.record.specs.declared.stamp.Sign.TheVariants.{Negative}
use Rattle.record.specs.declared.duration.TimeDuration.TheVariants.{Seconds}
use Rattle.record.specs.declared.duration.DateDuration.{DateDuration}
use Rattle.record.specs.declared.duration.Duration.{Duration}
use Rattle.precision.specs.Precision.{sub_second}
use Rattle.precision.proofs.SubSecond.{sub_second_most}
use Rattle.duration.specs.declared.held.TimeNumbers.{TimeNumbers}
use Rattle.duration.specs.Duration.{date_numbers, time_numbers, negative, unit, date_units, seconds_shown, seconds_text, time_units, time_shown, designated, parts_text, duration_text, duration_ok, duration_parts_ok, duration_judged}
use Rattle.duration.proofs.DurationLaws.{unit_most, time_as}

-- numbers that their types hold
pub record DateFits (n : DateDuration) : Type 0 where
  pub years : n.years < 2 ^ 32
  pub months : n.months < 2 ^ 32
  pub weeks : n.weeks < 2 ^ 32
  pub days : n.days < 2 ^ 64

pub record TimeFits (n : TimeNumbers) : Type 0 where
  pub hours : n.hours < 2 ^ 64
  pub minutes : n.minutes < 2 ^ 64
  pub seconds : n.seconds < 2 ^ 64

pub date_most : (n : DateDuration) → DateFits n → length (date_units n) ≤ 54
unfolding date_units
date_most n f =
    simp length-append (omega (
      arith,
      unit_most 9 n.years 89 (omega arith),
      unit_most 9 n.months 77 (omega arith),
      unit_most 9 n.weeks 87 (omega arith),
      unit_most 19 n.days 68 (omega arith),
    ))

module _ (p : Precision) (n : TimeNumbers) (f : TimeFits n) where
  seconds_most : (shown : Bool) → length (cond shown (seconds_text p n) []) ≤ 31
  unfolding seconds_text
  seconds_most true =
      simp length-append (omega (arith, length-number n.seconds, width_le 19 n.seconds (omega arith), sub_second_most p n.fraction))
  seconds_most false = omega arith

  time_most : (shown : Bool) → length (designated (time_units p shown n)) ≤ 74
  time_most shown =
      rw (time_as p shown n) (simp length-append (omega (
        arith,
        mark_most (time_shown shown n) 84,
        unit_most 19 n.hours 72 (omega arith),
        unit_most 19 n.minutes 77 (omega arith),
        seconds_most shown,
      )))

pub longest : (d : Duration) → DateFits (date_numbers d.date) → TimeFits (time_numbers d.time) → length (duration_text d) ≤ 130
unfolding duration_text parts_text
longest d fd ft =
    simp length-append (omega (
      arith,
      mark_most (negative d.sign) 45,
      date_most _ fd,
      time_most d.precision (time_numbers d.time) ft (seconds_shown d),
    ))

abbrev pub largest : Duration
largest =
    record {
      precision = Auto;
      sign = Negative;
      date = Some (record { years = 4294967295; months = 4294967295; weeks = 4294967295; days = 18446744073709551615 });
      time = Some (Seconds 18446744073709551615 18446744073709551615 18446744073709551615 999999999);
    }

pub longest_has : length_of (duration_judged largest) ≡ Ok 130
unfolding duration_judged duration_ok duration_parts_ok duration_text parts_text date_units time_units seconds_shown seconds_text unit sub_second fraction last_nonzero number width width_by
longest_has = refl
