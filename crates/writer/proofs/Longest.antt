-- The longest text of a stamp: no stamp that passes its tests has more than 190 bytes, and one stamp has 190. Assumes nothing.
use mathlib.Core.Path.{◌≡◌, refl}
use mathlib.Core.Bool.{Bool, true}
use mathlib.Core.List.{List}
use Prim.Native.Nat.{ℕ, ◌≤◌}
use native.Mathlib.Omega.{arith}
use lib.IntN.{pos}
use lib.ListN.{length, length-append, replicate}
use Rattle.std.specs.Prelude.{Option, Some, None, is_some, Ok}
use Rattle.text.specs.Digits.{last_nonzero, fraction}
use Rattle.text.specs.Answer.{length_of}
use Rattle.text.proofs.OutLaws.{mark_most}
use Rattle.record.specs.declared.stamp.Precision.TheVariants as precision
use Rattle.record.specs.declared.stamp.Time.{Time}
use Rattle.record.specs.declared.stamp.Sign.TheVariants.{Positive}
use Rattle.record.specs.declared.stamp.UtcOffset.TheVariants.{Offset}
use Rattle.record.specs.declared.stamp.DisplayOffset.TheVariants as show-offset
use Rattle.record.specs.declared.stamp.Name.{Name}
use Rattle.record.specs.declared.stamp.DisplayTimeZone.TheVariants as show-zone
use Rattle.record.specs.declared.stamp.DisplayCalendar.TheVariants as show-calendar
use Rattle.record.specs.declared.stamp.Stamp.{Stamp}
use Rattle.precision.specs.Precision.{sub_second}
use Rattle.iso.specs.Gregorian.{leap_rule, is_leap, month_lengths, days_in_month, valid_date}
use Rattle.names.specs.Scan.{word_step, join_step, dot_step, run_step, part_step, value_step, zone_step, whole_of, run_of, calendar_run, zone_run}
use Rattle.names.specs.Name.{name_inside, name_ok, zone_name_ok, calendar_name_ok}
use Rattle.date_writer.specs.Date.{year_text, date_text, date_ok}
use Rattle.time_writer.specs.Time.{seconds, time_text, clock_ok, time_ok}
use Rattle.time_writer.specs.Offset.{signed_text, offset_text, offset_ok}
use Rattle.tail_writer.specs.Annotation.{bracketed}
use Rattle.tail_writer.specs.Zone.{zone_text, zone_ok}
use Rattle.tail_writer.specs.Calendar.{is_iso, calendar_text, calendar_ok}
use Rattle.date_writer.proofs.DateLaws.{date_most}
use Rattle.time_writer.proofs.TimeLaws.{time_most}
use Rattle.time_writer.proofs.OffsetLaws.{offset_most}
use Rattle.tail_writer.proofs.AnnotationLaws.{zone_most, calendar_most}
use Rattle.writer.specs.Stamp.{part_text, part_ok, timed_text, stamp_text, fields_ok, names_ok, parts_ok, stamp_judged}
use Rattle.writer.proofs.StampLaws.{fields_in, names_in}

part_most : {A : Type 0} (ok : A → Bool) (text : A → List ℕ) {m : ℕ} → ((x : A) → ok x ≡ true → length (text x) ≤ m)
    → (o : Option A) → part_ok ok o ≡ true → length (part_text text o) ≤ m
part_most ok text h None e = omega arith
part_most ok text h (Some x) e = h x e

-- with its `T`
timed_most : (dated : Bool) (t : Time) → length (timed_text dated t) ≤ 19
timed_most dated t = simp length-append (omega (arith, mark_most dated 84, time_most t))

pub longest : (lent : List ℕ) (s : Stamp) → fields_ok s ≡ true → names_ok lent s ≡ true → length (stamp_text lent s) ≤ 190
unfolding stamp_text
longest lent s f n =
    let fs = fields_in s f in
    let ns = names_in lent s n in
    simp length-append (omega (
      arith,
      part_most date_ok date_text (λ d e. date_most d) s.date fs.0,
      part_most time_ok (timed_text (is_some s.date)) (λ t e. timed_most (is_some s.date) t) s.time fs.1,
      part_most offset_ok offset_text (λ o e. offset_most o) s.offset fs.2,
      part_most (zone_ok lent) (zone_text lent) (zone_most lent) s.zone ns.0,
      part_most (calendar_ok lent) (calendar_text lent) (calendar_most lent) s.calendar ns.1,
    ))

-- a year of six digits, a time and an offset of nine digits each, and 64 letters as the name of both zone and calendar
abbrev last-nanosecond : Time
last-nanosecond =
    record {
      clock = record { hour = 23; minute = 59; second = 59; nanosecond = 999999999 };
      precision = precision.Auto;
      include_sep = true;
    }

abbrev letters : Name
letters = record { at = 0; len = 64 }

abbrev pub largest : Stamp
largest =
    record {
      date = Some (record { year = pos 999999; month = 12; day = 31 });
      time = Some last-nanosecond;
      offset = Some (record { show = show-offset.Auto; offset = Offset (record { sign = Positive; time = last-nanosecond }) });
      zone = Some (record { show = show-zone.Critical; name = letters });
      calendar = Some (record { show = show-calendar.Critical; name = letters });
    }

pub longest_has : length_of (stamp_judged (replicate 64 97) largest) ≡ Ok 190
unfolding stamp_judged fields_ok names_ok parts_ok stamp_text
    date_ok valid_date days_in_month month_lengths is_leap leap_rule date_text year_text
    time_ok clock_ok time_text seconds sub_second fraction last_nonzero offset_ok offset_text signed_text
    zone_ok zone_text calendar_ok calendar_text is_iso bracketed
    zone_name_ok calendar_name_ok name_ok name_inside zone_run calendar_run run_of whole_of zone_step value_step part_step run_step dot_step join_step word_step
longest_has = refl
