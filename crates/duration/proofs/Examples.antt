-- Durations of document 01 and of its decided points, computed. Assumes nothing.
use mathlib.Core.Path.{◌≡◌, refl}
use Prim.Native.Nat.{ℕ}
use lib.ListN.{replicate}
use Rattle.std.specs.Prelude.{Option, Some, None, Ok, Err}
use Rattle.text.specs.Digits.{last_nonzero, fraction, width_by, width, number}
use Rattle.text.specs.declared.refusal.Refusal.TheVariants.{NoRoom, BadField, BadParts}
use Rattle.text.specs.Answer.{answer_of}
use Rattle.text.proofs.Quoted.{bytes}
use Rattle.record.specs.declared.stamp.Precision.{Precision}
use Rattle.record.specs.declared.stamp.Precision.TheVariants.{Auto, Minute, Digit}
use Rattle.record.specs.declared.stamp.Sign.{Sign}
use Rattle.record.specs.declared.stamp.Sign.TheVariants.{Negative, Zero, Positive}
use Rattle.record.specs.declared.duration.DateDuration.{DateDuration}
use Rattle.record.specs.declared.duration.TimeDuration.{TimeDuration}
use Rattle.record.specs.declared.duration.TimeDuration.TheVariants.{Hours, Minutes, Seconds}
use Rattle.record.specs.declared.duration.Duration.{Duration}
use Rattle.precision.specs.Precision.{sub_second}
use Rattle.duration.specs.Duration.{unit, date_units, seconds_shown, seconds_text, time_units, parts_text, duration_text, duration_ok, duration_parts_ok, duration_judged}

abbrev of : Precision → Sign → Option DateDuration → Option TimeDuration → Duration
of p s d t = record { precision = p; sign = s; date = d; time = t }

abbrev days : ℕ → ℕ → ℕ → ℕ → Option DateDuration
days y m w d = Some (record { years = y; months = m; weeks = w; days = d })

table :
    (duration_judged (of Auto Negative (days 1 2 0 0) (Some (Seconds 0 0 3 4))) ≡ Ok (bytes "-P1Y2MT3.000000004S"))
    -- no date; where there is a date it counts, also if it is all 0
    × (duration_judged (of Auto Positive None (Some (Seconds 0 0 0 0))) ≡ Ok (bytes "PT0S"))
    × (duration_judged (of Auto Positive (days 0 0 0 0) (Some (Seconds 0 0 0 0))) ≡ Err BadParts)
    -- every unit; seconds of 0 under Digit, and without it
    × (duration_judged (of Auto Positive (days 1 2 3 4) (Some (Seconds 5 6 7 500000000))) ≡ Ok (bytes "P1Y2M3W4DT5H6M7.5S"))
    × (duration_judged (of (Digit 2) Positive (days 1 0 0 0) (Some (Seconds 0 0 0 0))) ≡ Ok (bytes "P1YT0.00S"))
    × (duration_judged (of Auto Positive None (Some (Seconds 0 10 0 0))) ≡ Ok (bytes "PT10M"))
    × (duration_judged (of Auto Positive (days 0 0 0 10) (Some (Seconds 0 0 0 0))) ≡ Ok (bytes "P10D"))
    -- sign Zero writes none; Hours and Minutes ignore Minute and Digit(9)
    × (duration_judged (of Auto Zero None (Some (Hours 1 0))) ≡ Ok (bytes "PT1H"))
    × (duration_judged (of Minute Zero None (Some (Minutes 1 0 0))) ≡ Ok (bytes "PT1H"))
    × (duration_judged (of (Digit 9) Zero None (Some (Hours 1 0))) ≡ Ok (bytes "PT1H"))
    -- Digit(10), a fraction of a whole second, and Minute in a Seconds duration; 2 comes before 4
    × (duration_judged (of (Digit 10) Positive None (Some (Hours 1 0))) ≡ Err BadField)
    × (duration_judged (of Auto Positive None (Some (Seconds 0 0 0 1000000000))) ≡ Err BadField)
    × (duration_judged (of Minute Positive None (Some (Seconds 0 0 1 0))) ≡ Err BadField)
    × (duration_judged (of Auto Positive None (Some (Hours 1 1000000000))) ≡ Err BadField)
    -- a fraction on hours; no part
    × (duration_judged (of Auto Positive None (Some (Hours 1 5))) ≡ Err BadParts)
    × (duration_judged (of Auto Positive None (Some (Minutes 0 0 0))) ≡ Err BadParts)
    × (duration_judged (of Auto Positive None None) ≡ Err BadParts)
    -- negative and 0 as given, and 0 only as shown
    × (duration_judged (of Auto Negative None (Some (Seconds 0 0 0 0))) ≡ Err BadParts)
    × (duration_judged (of (Digit 3) Negative None (Some (Seconds 0 0 0 5))) ≡ Ok (bytes "-PT0.000S"))
    -- into four bytes, and into three
    × (answer_of (duration_judged (of Auto Positive None (Some (Seconds 0 0 0 0)))) (replicate 4 0) ≡ Ok 4)
    × (answer_of (duration_judged (of Auto Positive None (Some (Seconds 0 0 0 0)))) (replicate 3 0) ≡ Err NoRoom)
unfolding bytes duration_judged duration_ok duration_parts_ok duration_text parts_text date_units time_units seconds_shown seconds_text unit sub_second fraction last_nonzero number width width_by
table =
    (refl, refl, refl, refl, refl, refl, refl, refl, refl, refl, refl, refl, refl, refl, refl, refl, refl, refl, refl, refl, refl)
