-- What the canonical tree says is the shown record, and it has none of the refusals 5 to 11: it means the shown record.
--     canon_means    of a stamp with a date, separators on, that the writer accepts
-- Assumes nothing.
use Prim.Native.Nat.{ℕ, ◌≤◌, suc-le-suc}
use native.Mathlib.Nat.{min-le_right}
use native.Mathlib.Omega.{arith}
use mathlib.Core.Bool.{true, false, not, ◌||◌}
use mathlib.Core.Path.{◌≡◌, refl, sym, ap, ◌∙◌}
use mathlib.Core.List.{List, [], ◌∷◌}
use borrow.Author.Tests.{lt-ltb, le-ltb}
use lib.Dec.{leb}
use lib.IntN.{ℤ, pos, negsuc, nat_abs}
use lib.ListN.{length, take, length-take}
use Rattle.std.specs.Prelude.{Option, Some, None, is_some, Ok}
use Rattle.text.specs.Digits.{digits, last_nonzero}
use Rattle.text.proofs.Answers.{both}
use Rattle.iso.specs.Gregorian.{valid_date}
use Rattle.record.specs.declared.stamp.Calendar.{Calendar}
use Rattle.record.specs.declared.stamp.Offset.{Offset}
use Rattle.record.specs.declared.stamp.Zone.{Zone}
use Rattle.record.specs.declared.stamp.Date.{Date}
use Rattle.record.specs.declared.stamp.Precision.{Precision}
use Rattle.record.specs.declared.stamp.Precision.TheVariants.{Auto, Minute, Digit}
use Rattle.record.specs.declared.stamp.Time.{Time}
use Rattle.record.specs.declared.stamp.UtcOffset.{UtcOffset}
use Rattle.record.specs.declared.stamp.UtcOffset.TheVariants as utc
use Rattle.record.specs.declared.stamp.DisplayOffset.{DisplayOffset}
use Rattle.record.specs.declared.stamp.DisplayOffset.TheVariants as display
use Rattle.record.specs.declared.stamp.Stamp.{Stamp}
use Rattle.tail_writer.specs.declared.annotation.Mark.{Mark}
use Rattle.tail_writer.specs.declared.annotation.Mark.TheVariants.{Hidden, Plain, Critical}
use Rattle.date_writer.specs.Date.{date_ok}
use Rattle.time_writer.specs.Time.{time_ok}
use Rattle.time_writer.specs.Offset.{utc_ok, offset_ok}
use Rattle.tail_writer.specs.Annotation.{name_in}
use Rattle.tail_writer.specs.Zone.{zone_mark}
use Rattle.tail_writer.specs.Calendar.{is_iso, calendar_mark}
use Rattle.time_writer.proofs.TimeLaws.{time_in}
use Rattle.writer.specs.Stamp.{part_ok, shows_offset}
use Rattle.writer.proofs.Longest.{longest}
use Rattle.time_syntax.specs.Syntax as times
use Rattle.time_syntax.proofs.NanoLaws.{nanos_cut, nanos_last}
use Rattle.tail_syntax.specs.Syntax as tails
use Rattle.grammar.specs.Syntax as trees
use Rattle.meaning.specs.Shown.{signed_year}
use Rattle.meaning.specs.Verdict.{verdict, late_date}
use Rattle.meaning.specs.Trees.{date_says, second_of, fraction_of, time_says, utc_says, part_time, part_offset, zone_says, calendar_says, utc_fraction, part_long, stamp_refusal, stamp_says, stamp_means}
use Rattle.round_trip.specs.Shown.{second_shown, nanosecond_shown, clock_shown, time_shown, utc_shown, unless_hidden, offset_shown, name_shown, zone_shown, calendar_shown, shown_record, Line}
use Rattle.round_trip.specs.Canon.{year_tree, date_tree, fraction_digits, fraction_tree, secs_tree, time_tree, utc_tree, display_tree, offset_tree, part_tree, zone_of, zone_tree, notes_of, notes_tree, canon}
use Rattle.round_trip.proofs.Canonical.{offset_none, parts_in, canonical}

-- ---- the date
pub year_says : (y : ℤ) → signed_year (year_tree y).negative (year_tree y).year ≡ y
year_says (pos n) = refl
year_says (negsuc n) = refl

date_says_lem : (d : Date) → date_says (date_tree d) ≡ d
date_says_lem d = λ i. record { year = year_says d.year i; month = d.month; day = d.day }

date_in_month : (d : Date) → date_ok d ≡ true → late_date (date_says (date_tree d)) ≡ false
unfolding date_ok
date_in_month d e = ap late_date (date_says_lem d) ∙ ap not (both (leb (nat_abs d.year) 999999) (valid_date d.year d.month d.day) e).1

-- ---- a time
record SecsSay (p : Precision) (s n : ℕ) (t : times.SecsTree) : Type 0 where
  second : second_of t ≡ second_shown p s
  nanosecond : times.nanos_of (fraction_of t) ≡ nanosecond_shown p n
  short : length (fraction_of t) ≤ 9

fraction_says : (s : ℕ) (ds : List ℕ) → s ≤ 59 → (second_of (fraction_tree s ds) ≡ s) × (fraction_of (fraction_tree s ds) ≡ ds)
fraction_says s [] h = (rw (lt-ltb s 60 (suc-le-suc h)), refl)
fraction_says s (d ∷ ds) h = (rw (lt-ltb s 60 (suc-le-suc h)), refl)

pub take_short : (k n : ℕ) → length (take k (digits 9 n)) ≤ 9
take_short k n = rw (length-take k (digits 9 n)) (min-le_right k 9)

no_digits : times.nanos_of [] ≡ 0
unfolding times.nanos_of
no_digits = refl

secs_say : (p : Precision) (s n : ℕ) → s ≤ 59 → n ≤ 999999999 → SecsSay p s n (secs_tree p s n)
secs_say Auto s n h m =
    let f = fraction_says s (fraction_digits Auto n) h in
    record { second = f.0; nanosecond = ap times.nanos_of f.1 ∙ nanos_last n (suc-le-suc m); short = rw f.1 (take_short (last_nonzero (digits 9 n)) n) }
secs_say Minute s n h m = record { second = refl; nanosecond = no_digits; short = omega arith }
secs_say (Digit d) s n h m =
    let f = fraction_says s (fraction_digits (Digit d) n) h in
    record { second = f.0; nanosecond = ap times.nanos_of f.1 ∙ nanos_cut d n (suc-le-suc m); short = rw f.1 (take_short d n) }

time_secs : (t : Time) → time_ok t ≡ true → SecsSay t.precision t.clock.second t.clock.nanosecond (time_tree t).secs
time_secs t e = let c = (time_in t e).0 in secs_say t.precision t.clock.second t.clock.nanosecond c.second c.nanosecond

time_says_lem : (t : Time) → time_ok t ≡ true → time_says (time_tree t) ≡ clock_shown t
time_says_lem t e = let f = time_secs t e in λ i. record { hour = t.clock.hour; minute = t.clock.minute; second = f.second i; nanosecond = f.nanosecond i }

-- ---- the offset
utc_says_lem : (u : UtcOffset) → utc_ok u ≡ true → utc_says (utc_tree u) ≡ Some (utc_shown u)
utc_says_lem utc.Z e = refl
utc_says_lem (utc.Offset o) e = rw (time_says_lem o.time e)

offset_says : (p : Option Offset) → part_ok offset_ok p ≡ true → utc_says (offset_tree p) ≡ offset_shown p
unfolding offset_ok
offset_says None e = refl
offset_says (Some o) e = go o.show
  where
    go : (d : DisplayOffset) → utc_says (display_tree d (utc_tree o.offset)) ≡ unless_hidden d (utc_shown o.offset)
    go display.Auto = utc_says_lem o.offset e
    go display.Never = refl

utc_short : (u : UtcOffset) → utc_ok u ≡ true → length (utc_fraction (utc_tree u)) ≤ 9
utc_short utc.Z e = omega arith
utc_short (utc.Offset o) e = (time_secs o.time e).short

offset_short : (p : Option Offset) → part_ok offset_ok p ≡ true → length (utc_fraction (offset_tree p)) ≤ 9
unfolding offset_ok
offset_short None e = omega arith
offset_short (Some o) e = go o.show
  where
    go : (d : DisplayOffset) → length (utc_fraction (display_tree d (utc_tree o.offset))) ≤ 9
    go display.Auto = utc_short o.offset e
    go display.Never = omega arith

-- ---- the time with its offset
record PartSays (t : Option Time) (o : Option Offset) (p : trees.PartTree) : Type 0 where
  time : part_time p ≡ time_shown t
  offset : part_offset p ≡ offset_shown o
  short : part_long p ≡ false

part_says : (t : Option Time) (o : Option Offset) → part_ok time_ok t ≡ true → part_ok offset_ok o ≡ true → (not (shows_offset o) || is_some t) ≡ true → PartSays t o (part_tree t o)
part_says None o e f h = record { time = refl; offset = (offset_none o h).1; short = refl }
part_says (Some t) o e f h =
    record {
      time = ap Some (time_says_lem t e);
      offset = offset_says o f;
      short = rw (le-ltb 9 (length (fraction_of (time_tree t).secs)) (time_secs t e).short, le-ltb 9 (length (utc_fraction (offset_tree o))) (offset_short o f));
    }

-- ---- the zone and the calendar
zone_of_says : (m : Mark) (name : List ℕ) → zone_says (zone_of m name) ≡ name_shown m name
zone_of_says Hidden name = refl
zone_of_says Plain name = refl
zone_of_says Critical name = refl

zone_says_lem : (lent : List ℕ) (p : Option Zone) → zone_says (zone_tree lent p) ≡ zone_shown lent p
zone_says_lem lent None = refl
zone_says_lem lent (Some z) = zone_of_says (zone_mark z.show) (name_in lent z.name)

record NotesSay (notes : List tails.NoteTree) : Type 0 where
  known : tails.strange notes ≡ false
  single : tails.clashes notes ≡ false

notes_of_say : (m : Mark) (name : List ℕ) → (calendar_says (notes_of m name) ≡ name_shown m name) × NotesSay (notes_of m name)
notes_of_say Hidden name = (refl, record { known = refl; single = refl })
notes_of_say Plain name = (refl, record { known = refl; single = refl })
notes_of_say Critical name = (refl, record { known = refl; single = refl })

notes_say : (lent : List ℕ) (p : Option Calendar) → (calendar_says (notes_tree lent p) ≡ calendar_shown lent p) × NotesSay (notes_tree lent p)
notes_say lent None = (refl, record { known = refl; single = refl })
notes_say lent (Some c) = notes_of_say (calendar_mark c.show (is_iso lent c)) (name_in lent c.name)

-- ---- the whole
module _ (lent : List ℕ) (s : Stamp) (line : Line lent s) (d : Date) (e : s.date ≡ Some d) where
  clock_says : PartSays s.time s.offset (part_tree s.time s.offset)
  clock_says = let p = parts_in line in part_says s.time s.offset p.time p.offset p.timed

  canon_says : stamp_says (canon lent d s) ≡ shown_record lent s
  unfolding stamp_says canon shown_record
  canon_says =
      λ i.
      record {
        date = (ap Some (date_says_lem d) ∙ sym e) i;
        time = clock_says.time i;
        offset = clock_says.offset i;
        zone = zone_says_lem lent s.zone i;
        calendar = (notes_say lent s.calendar).0 i;
      }

  no_refusal : stamp_refusal (canon lent d s) ≡ Ok tt
  unfolding stamp_refusal verdict canon
  no_refusal =
      let notes = (notes_say lent s.calendar).1 in
      rw (notes.known, clock_says.short, notes.single, date_in_month d (rw e at (parts_in line).date))

  -- the canonical tree means the shown record
  pub canon_means : stamp_means (canon lent d s) ≡ Ok (shown_record lent s)
  canon_means =
      let l = longest lent s line.accepted.fields line.accepted.names in
      let n : length (trees.stamp_text (canon lent d s)) ≤ 1024 = rw (← (canonical lent s line d e).text) (omega arith) in
      rw (le-ltb 1024 (length (trees.stamp_text (canon lent d s))) n, no_refusal, canon_says)
