-- What is kept of the canonical tree of a stamp is plain.
--     join          two tests are passed, so their conjunction is
--     canon-plain   of a stamp with a date, separators on, that the writer accepts
-- Assumes nothing.
use Prim.Native.Nat.{ℕ, ◌≤◌}
use native.Mathlib.Nat.{min-le_left}
use native.Mathlib.Omega.{arith}
use mathlib.Core.Bool.{Bool, true, false, not, ◌&&◌, ◌||◌}
use mathlib.Core.Path.{◌≡◌, refl, ap, ◌∙◌}
use mathlib.Core.List.{List, [], ◌∷◌}
use borrow.Author.Tests.{le-leb, ltb-false}
use lib.Dec.{ltb, leb}
use lib.IntN.{ℤ, pos, negsuc, nat_abs}
use lib.ListN.{length, take, drop, length-take}
use Rattle.std.specs.Prelude.{Option, Some, None}
use Rattle.text.specs.Digits.{digits, last_nonzero}
use Rattle.text.proofs.Answers.{both}
use Rattle.iso.specs.Gregorian.{valid_date}
use Rattle.record.specs.declared.stamp.Calendar.{Calendar}
use Rattle.record.specs.declared.stamp.Offset.{Offset}
use Rattle.record.specs.declared.stamp.Zone.{Zone}
use Rattle.record.specs.declared.stamp.Date.{Date}
use Rattle.record.specs.declared.stamp.Precision.{Precision}
use Rattle.record.specs.declared.stamp.Precision.TheVariants.{Auto, Minute, Digit}
use Rattle.record.specs.declared.stamp.Time.{Time}
use Rattle.record.specs.declared.stamp.UtcOffset.{UtcOffset}
use Rattle.record.specs.declared.stamp.UtcOffset.TheVariants as utc
use Rattle.record.specs.declared.stamp.DisplayOffset.{DisplayOffset}
use Rattle.record.specs.declared.stamp.DisplayOffset.TheVariants as display
use Rattle.record.specs.declared.stamp.Stamp.{Stamp}
use Rattle.names.proofs.Exact.{zone_name_exact, calendar_name_exact}
use Rattle.tail_writer.specs.declared.annotation.Mark.{Mark}
use Rattle.tail_writer.specs.declared.annotation.Mark.TheVariants.{Hidden, Plain, Critical}
use Rattle.tail_writer.specs.Annotation.{name_in}
use Rattle.date_writer.specs.Date.{date_ok}
use Rattle.time_writer.specs.Time.{time_ok}
use Rattle.tail_writer.specs.Zone.{zone_mark, zone_ok}
use Rattle.tail_writer.specs.Calendar.{is_iso, calendar_mark, calendar_ok}
use Rattle.writer.specs.Stamp.{part_ok}
use Rattle.time_syntax.specs.Read.{fraction_in}
use Rattle.time_syntax.specs.Syntax as times
use Rattle.tail_syntax.specs.Read.{walk_step, none}
use Rattle.tail_syntax.specs.Syntax as tails
use Rattle.grammar.specs.Syntax as trees
use Rattle.meaning.specs.Shown.{shown_date}
use Rattle.meaning.specs.Verdict.{late_date}
use Rattle.round_trip.specs.Shown.{Line}
use Rattle.round_trip.specs.Canon.{year_tree, date_tree, fraction_digits, fraction_tree, secs_tree, time_tree, utc_tree, display_tree, offset_tree, part_tree, zone_of, zone_tree, notes_of, notes_tree, canon}
use Rattle.round_trip.proofs.Canonical.{time_ok_lem, parts_in}
use Rattle.round_trip.proofs.Says.{take_short, year_says}
use Rattle.recogniser.specs.Plain.{plain_fraction, plain_time, plain_utc, plain_clock, plain_name, plain_notes, plain}

pub join : {a b : Bool} → a ≡ true → b ≡ true → (a && b) ≡ true
join e f = rw (e, f)

-- ---- the date
year-plain : (y : ℤ) → (not (year_tree y).wide || (year_tree y).negative || leb 10000 (year_tree y).year) ≡ true
year-plain (pos n) = go (ltb n 10000) refl
  where
    go : (four : Bool) → ltb n 10000 ≡ four → (not (not four) || false || leb 10000 n) ≡ true
    go true e = refl
    go false e = le-leb 10000 n (ltb-false n 10000 e)
year-plain (negsuc n) = refl

date-plain : (d : Date) → date_ok d ≡ true → not (late_date (shown_date (trees.date_is (date_tree d)))) ≡ true
unfolding date_ok
date-plain d e =
    let v = (both (leb (nat_abs d.year) 999999) (valid_date d.year d.month d.day) e).1 in
    ap (λ (b : Bool). not (not b)) (ap (λ (y : ℤ). valid_date y d.month d.day) (year_says d.year) ∙ v)

-- ---- times
abbrev pub FractionPlain : times.SecsTree → Type 0
FractionPlain s = part_ok plain_fraction (fraction_in (times.secs_kept s)) ≡ true

fraction-plain : (s : ℕ) (ds : List ℕ) → length ds ≤ 9 → FractionPlain (fraction_tree s ds)
fraction-plain s [] h = refl
fraction-plain s (d ∷ ds) h = le-leb (length (d ∷ ds)) 9 h

secs_plain : (p : Precision) (s n : ℕ) → FractionPlain (secs_tree p s n)
secs_plain Auto s n = fraction-plain s (fraction_digits Auto n) (take_short (last_nonzero (digits 9 n)) n)
secs_plain Minute s n = refl
secs_plain (Digit d) s n = fraction-plain s (fraction_digits (Digit d) n) (take_short d n)

time-plain : (t : Time) → time_ok t ≡ true → plain_time (times.time_is (time_tree t)) ≡ true
time-plain t e = join (le-leb _ 59 (time_ok_lem t e).1) (secs_plain t.precision t.clock.second t.clock.nanosecond)

utc-plain : (u : UtcOffset) → part_ok plain_utc (trees.utc_is (utc_tree u)) ≡ true
utc-plain utc.Z = refl
utc-plain (utc.Offset o) = secs_plain o.time.precision o.time.clock.second o.time.clock.nanosecond

offset_plain : (p : Option Offset) → part_ok plain_utc (trees.utc_is (offset_tree p)) ≡ true
offset_plain None = refl
offset_plain (Some o) = go o.show
  where
    go : (d : DisplayOffset) → part_ok plain_utc (trees.utc_is (display_tree d (utc_tree o.offset))) ≡ true
    go display.Auto = utc-plain o.offset
    go display.Never = refl

part_plain : (t : Option Time) (o : Option Offset) → part_ok time_ok t ≡ true → part_ok plain_clock (trees.part_kept (part_tree t o)) ≡ true
unfolding plain_clock
part_plain None o e = refl
part_plain (Some t) o e = join (time-plain t e) (offset_plain o)

-- ---- names
name_short : (lent : List ℕ) (at len : ℕ) → len ≤ 64 → length (take len (drop at lent)) ≤ 64
name_short lent at len h = rw (length-take len (drop at lent)) (omega (arith, min-le_left len (length (drop at lent))))

zone-plain : (lent : List ℕ) (p : Option Zone) (r : List ℕ) → part_ok (zone_ok lent) p ≡ true → part_ok plain_name (tails.zone_kept (zone_tree lent p) r) ≡ true
unfolding zone_ok
zone-plain lent None r e = refl
zone-plain lent (Some z) r e = go (zone_mark z.show)
  where
    short : length (name_in lent z.name) ≤ 64
    short = name_short lent z.name.at z.name.len ((zone_name_exact lent z.name.at z.name.len).0 e).1

    go : (m : Mark) → part_ok plain_name (tails.zone_kept (zone_of m (name_in lent z.name)) r) ≡ true
    go Hidden = refl
    go Plain = le-leb _ 64 short
    go Critical = le-leb _ 64 short

notes-plain : (lent : List ℕ) (p : Option Calendar) → part_ok (calendar_ok lent) p ≡ true → plain_notes (tails.notes_kept (notes_tree lent p) none) ≡ true
unfolding calendar_ok walk_step
notes-plain lent None e = refl
notes-plain lent (Some c) e = go (calendar_mark c.show (is_iso lent c))
  where
    short : length (name_in lent c.name) ≤ 64
    short = name_short lent c.name.at c.name.len ((calendar_name_exact lent c.name.at c.name.len).0 e).1

    go : (m : Mark) → plain_notes (tails.notes_kept (notes_of m (name_in lent c.name)) none) ≡ true
    go Hidden = refl
    go Plain = le-leb _ 64 short
    go Critical = le-leb _ 64 short

-- ---- the whole
pub canon-plain : (lent : List ℕ) (s : Stamp) (d : Date) → Line lent s → s.date ≡ Some d → plain (trees.stamp_kept (canon lent d s)) ≡ true
unfolding plain canon
canon-plain lent s d line e =
    let p = parts_in line in
    join (join (join (year-plain d.year) (date-plain d (rw e at p.date))) (part_plain s.time s.offset p.time))
    (join (zone-plain lent s.zone (tails.notes_text (notes_tree lent s.calendar)) p.zone) (notes-plain lent s.calendar p.calendar))
