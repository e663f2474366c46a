-- What is written is the text of the canonical tree, and that tree is of the grammar.
--     canonical      of a stamp with a date, separators on, that the writer accepts
--     parts_in       what is known of the parts of such a stamp; dated, its date
--     offset_none    an offset without time is neither written nor shown
-- Assumes nothing.
use Prim.Native.Nat.{ℕ, zero, suc, ◌≤◌}
use native.Mathlib.Omega.{arith}
use mathlib.Core.Bool.{Bool, true, false, cond, not, ◌||◌, false≢true}
use mathlib.Core.Path.{◌≡◌, refl, sym, ap, ◌∙◌}
use mathlib.Core.List.{List, [], ◌∷◌, ◌++◌, append_assoc, append-nil}
use borrow.Author.Tests.{ltb-true, leb-true}
use lib.Dec.{ltb, leb}
use lib.IntN.{ℤ, pos, negsuc, nat_abs}
use lib.ListN.{take}
use Rattle.std.specs.Prelude.{Option, Some, None, is_some}
use Rattle.text.specs.Digits.{digits, shown, decimal, AllDigits, last_nonzero, pointed, fraction}
use Rattle.text.proofs.DigitLaws.{all_digits}
use Rattle.text.proofs.Answers.{both}
use Rattle.iso.specs.Gregorian.{valid_date}
use Rattle.iso.proofs.DateLaws.{valid_date_in}
use Rattle.record.specs.declared.stamp.Calendar.{Calendar}
use Rattle.record.specs.declared.stamp.Offset.{Offset}
use Rattle.record.specs.declared.stamp.Zone.{Zone}
use Rattle.record.specs.declared.stamp.Date.{Date}
use Rattle.record.specs.declared.stamp.Precision.{Precision}
use Rattle.record.specs.declared.stamp.Precision.TheVariants.{Auto, Minute, Digit}
use Rattle.record.specs.declared.stamp.Time.{Time}
use Rattle.record.specs.declared.stamp.Sign.{Sign}
use Rattle.record.specs.declared.stamp.Sign.TheVariants.{Negative, Zero, Positive}
use Rattle.record.specs.declared.stamp.UtcOffset.{UtcOffset}
use Rattle.record.specs.declared.stamp.UtcOffset.TheVariants as utc
use Rattle.record.specs.declared.stamp.DisplayOffset.{DisplayOffset}
use Rattle.record.specs.declared.stamp.DisplayOffset.TheVariants as display
use Rattle.record.specs.declared.stamp.Stamp.{Stamp}
use Rattle.record.specs.Separators.{time_separators, utc_separators, offset_separators, separators_on}
use Rattle.names.specs.Grammar.{ZoneName, CalendarName}
use Rattle.names.proofs.Exact.{zone_name_exact, calendar_name_exact}
use Rattle.precision.specs.Precision.{sub_second}
use Rattle.tail_writer.specs.declared.annotation.Mark.{Mark}
use Rattle.tail_writer.specs.declared.annotation.Mark.TheVariants.{Hidden, Plain, Critical}
use Rattle.date_writer.specs.Date.{year_text, dashed, date_text, date_ok}
use Rattle.time_writer.specs.Time.{seconds, unless_minute, time_text, time_ok}
use Rattle.time_writer.specs.Offset.{sign_byte, signed_text, utc_text, unless_never, offset_text, utc_ok, offset_ok}
use Rattle.tail_writer.specs.Annotation.{name_in, bracketed, annotation}
use Rattle.tail_writer.specs.Zone.{zone_mark, zone_text, zone_ok}
use Rattle.tail_writer.specs.Calendar.{calendar_key, is_iso, calendar_mark, calendar_text, calendar_ok}
use Rattle.time_writer.proofs.TimeLaws.{time_in}
use Rattle.writer.specs.Stamp.{part_text, part_ok, timed_text, stamp_text, shows, shows_offset, parts_ok}
use Rattle.writer.proofs.StampLaws.{fields_in, names_in}
use Rattle.date_syntax.specs.Syntax as dates
use Rattle.time_syntax.specs.Read.{second_in}
use Rattle.time_syntax.specs.Syntax as times
use Rattle.tail_syntax.specs.Syntax as tails
use Rattle.grammar.specs.Syntax as trees
use Rattle.round_trip.specs.Shown.{is_negative, utc_shown, unless_hidden, offset_shown, Line}
use Rattle.round_trip.specs.Canon.{year_tree, date_tree, fraction_digits, fraction_tree, secs_tree, time_tree, utc_tree, display_tree, offset_tree, part_tree, zone_of, zone_tree, notes_of, notes_tree, canon}

-- ---- the date
year_text_lem : (y : ℤ) → year_text y ≡ dates.year_text (year_tree y)
unfolding year_text
year_text_lem (pos n) = go (ltb n 10000)
  where
    go : (four : Bool) → cond four (decimal 4 n) (43 ∷ decimal 6 n) ≡ dates.year_form (not four) false n
    go true = refl
    go false = refl
year_text_lem (negsuc n) = refl

date_text_lem : (d : Date) → date_text d ≡ dates.date_text (date_tree d)
unfolding date_text
date_text_lem d = rw (year_text_lem d.year) (append_assoc (dates.year_text (year_tree d.year)) (dashed d.month) (dashed d.day))

year_ok : (y : ℤ) → nat_abs y ≤ 999999 → dates.YearOk (year_tree y)
year_ok (pos n) h = go (ltb n 10000) refl
  where
    go : (four : Bool) → ltb n 10000 ≡ four → dates.YearForm (not four) false n
    go true e = (refl, ltb-true n 10000 e)
    go false e = (omega arith, λ s z. false≢true s)
year_ok (negsuc n) h = (omega arith, λ s z. omega arith)

date_ok_lem : (d : Date) → date_ok d ≡ true → dates.DateOk (date_tree d)
unfolding date_ok
date_ok_lem d e =
    let t = both (leb (nat_abs d.year) 999999) (valid_date d.year d.month d.day) e in
    let v = valid_date_in d.year d.month d.day t.1 in
    record { year = year_ok d.year (leb-true _ _ t.0); month = (v.0, v.1); day = (v.2, v.3) }

-- ---- a time
fraction_text : (s : ℕ) (ds : List ℕ) → 58 ∷ decimal 2 s ++ pointed (shown ds) ≡ times.secs_text (fraction_tree s ds)
fraction_text s [] = refl
fraction_text s (d ∷ ds) = refl

secs_text_lem : (p : Precision) (s n : ℕ) → unless_minute p (58 ∷ decimal 2 s ++ sub_second p n) ≡ times.secs_text (secs_tree p s n)
unfolding sub_second fraction
secs_text_lem Auto s n = fraction_text s (fraction_digits Auto n)
secs_text_lem Minute s n = refl
secs_text_lem (Digit d) s n = fraction_text s (fraction_digits (Digit d) n)

time_text_lem : (t : Time) → t.include_sep ≡ true → time_text t ≡ times.time_text (time_tree t)
unfolding time_text seconds times.time_text
time_text_lem t e =
    rw e
    (ap (λ (l : List ℕ). decimal 2 t.clock.hour ++ (58 ∷ decimal 2 t.clock.minute ++ l))
    (secs_text_lem t.precision t.clock.second t.clock.nanosecond))

all_take : (k : ℕ) (ds : List ℕ) → AllDigits ds → AllDigits (take k ds)
all_take zero ds a = tt
all_take (suc k) [] a = tt
all_take (suc k) (d ∷ ds) a = (a.0, all_take k ds a.1)

fraction_ok : (s : ℕ) (ds : List ℕ) → s ≤ 59 → AllDigits ds → times.SecsOk (fraction_tree s ds) × (second_in (times.secs_kept (fraction_tree s ds)) ≤ 59)
fraction_ok s [] h a = (omega arith, h)
fraction_ok s (d ∷ ds) h a = ((omega arith, refl, omega arith, a), h)

secs_ok : (p : Precision) (s n : ℕ) → s ≤ 59 → times.SecsOk (secs_tree p s n) × (second_in (times.secs_kept (secs_tree p s n)) ≤ 59)
secs_ok Auto s n h = fraction_ok s (fraction_digits Auto n) h (all_take (last_nonzero (digits 9 n)) (digits 9 n) (all_digits 9 n))
secs_ok Minute s n h = (tt, omega arith)
secs_ok (Digit d) s n h = fraction_ok s (fraction_digits (Digit d) n) h (all_take d (digits 9 n) (all_digits 9 n))

-- its second is at most 59, as an offset wants it
pub time_ok_lem : (t : Time) → time_ok t ≡ true → times.TimeOk (time_tree t) × (second_in (times.secs_kept (time_tree t).secs) ≤ 59)
time_ok_lem t e =
    let c = (time_in t e).0 in
    let s = secs_ok t.precision t.clock.second t.clock.nanosecond c.second in
    (record { hour = c.hour; minute = c.minute; secs = s.0 }, s.1)

-- ---- the offset
sign_byte_lem : (s : Sign) → sign_byte s ≡ cond (is_negative s) 45 43
sign_byte_lem Negative = refl
sign_byte_lem Zero = refl
sign_byte_lem Positive = refl

utc_text_lem : (u : UtcOffset) → utc_separators u ≡ true → utc_text u ≡ times.utc_text (utc_tree u)
unfolding signed_text times.utc_text
utc_text_lem utc.Z e = refl
utc_text_lem (utc.Offset o) e = rw (sign_byte_lem o.sign, time_text_lem o.time e)

offset_text_lem : (p : Option Offset) → offset_separators p ≡ true → part_text offset_text p ≡ times.utc_text (offset_tree p)
unfolding offset_text times.utc_text
offset_text_lem None e = refl
offset_text_lem (Some o) e = go o.show
  where
    go : (d : DisplayOffset) → unless_never d (utc_text o.offset) ≡ times.utc_text (display_tree d (utc_tree o.offset))
    go display.Auto = utc_text_lem o.offset e
    go display.Never = refl

utc_ok_lem : (u : UtcOffset) → utc_ok u ≡ true → times.UtcOk (utc_tree u)
utc_ok_lem utc.Z e = refl
utc_ok_lem (utc.Offset o) e = time_ok_lem o.time e

offset_ok_lem : (p : Option Offset) → part_ok offset_ok p ≡ true → times.UtcOk (offset_tree p)
unfolding offset_ok
offset_ok_lem None e = tt
offset_ok_lem (Some o) e = go o.show
  where
    go : (d : DisplayOffset) → times.UtcOk (display_tree d (utc_tree o.offset))
    go display.Auto = utc_ok_lem o.offset e
    go display.Never = tt

-- an offset without time is hidden
pub offset_none : (p : Option Offset) → (not (shows_offset p) || false) ≡ true → (part_text offset_text p ≡ []) × (None ≡ offset_shown p)
unfolding offset_text
offset_none None h = (refl, refl)
offset_none (Some o) h = go o.show h
  where
    go : (d : DisplayOffset) → (not (shows d) || false) ≡ true → (unless_never d (utc_text o.offset) ≡ []) × (None ≡ unless_hidden d (utc_shown o.offset))
    go display.Auto h = absurd (false≢true h)
    go display.Never h = (refl, refl)

-- ---- the time with its offset, after `T`
part_text_lem : (t : Option Time) (o : Option Offset) → time_separators t ≡ true → offset_separators o ≡ true → (not (shows_offset o) || is_some t) ≡ true
    → part_text (timed_text true) t ++ part_text offset_text o ≡ trees.part_text (part_tree t o)
part_text_lem None o e f h = (offset_none o h).0
part_text_lem (Some t) o e f h = rw (time_text_lem t e, offset_text_lem o f)

part_ok_lem : (t : Option Time) (o : Option Offset) → part_ok time_ok t ≡ true → part_ok offset_ok o ≡ true → trees.PartOk (part_tree t o)
part_ok_lem None o e f = tt
part_ok_lem (Some t) o e f = (refl, record { time = (time_ok_lem t e).0; utc = offset_ok_lem o f })

-- ---- the zone and the calendar
zone_of_text : (m : Mark) (name : List ℕ) → annotation m [] name ≡ tails.zone_text (zone_of m name)
unfolding bracketed
zone_of_text Hidden name = refl
zone_of_text Plain name = refl
zone_of_text Critical name = refl

zone_text_lem : (lent : List ℕ) (p : Option Zone) → part_text (zone_text lent) p ≡ tails.zone_text (zone_tree lent p)
unfolding zone_text
zone_text_lem lent None = refl
zone_text_lem lent (Some z) = zone_of_text (zone_mark z.show) (name_in lent z.name)

notes_of_text : (m : Mark) (name : List ℕ) → annotation m calendar_key name ≡ tails.notes_text (notes_of m name)
unfolding bracketed
notes_of_text Hidden name = refl
notes_of_text Plain name = sym (append-nil _)
notes_of_text Critical name = sym (append-nil _)

notes_text_lem : (lent : List ℕ) (p : Option Calendar) → part_text (calendar_text lent) p ≡ tails.notes_text (notes_tree lent p)
unfolding calendar_text
notes_text_lem lent None = refl
notes_text_lem lent (Some c) = notes_of_text (calendar_mark c.show (is_iso lent c)) (name_in lent c.name)

zone_of_ok : (m : Mark) (name : List ℕ) → ZoneName name → tails.ZoneOk (zone_of m name)
zone_of_ok Hidden name h = tt
zone_of_ok Plain name h = h
zone_of_ok Critical name h = h

zone_ok_lem : (lent : List ℕ) (p : Option Zone) → part_ok (zone_ok lent) p ≡ true → tails.ZoneOk (zone_tree lent p)
unfolding zone_ok
zone_ok_lem lent None e = tt
zone_ok_lem lent (Some z) e = zone_of_ok (zone_mark z.show) (name_in lent z.name) ((zone_name_exact lent z.name.at z.name.len).0 e).3

notes_of_ok : (m : Mark) (name : List ℕ) → CalendarName name → tails.NotesOk (notes_of m name)
notes_of_ok Hidden name h = tt
notes_of_ok Plain name h = (((refl, (refl, (refl, (refl, tt)))), h), tt)
notes_of_ok Critical name h = (((refl, (refl, (refl, (refl, tt)))), h), tt)

notes_ok : (lent : List ℕ) (p : Option Calendar) → part_ok (calendar_ok lent) p ≡ true → tails.NotesOk (notes_tree lent p)
unfolding calendar_ok
notes_ok lent None e = tt
notes_ok lent (Some c) e =
    notes_of_ok (calendar_mark c.show (is_iso lent c)) (name_in lent c.name) ((calendar_name_exact lent c.name.at c.name.len).0 e).3

-- ---- what is known of the parts of a stamp that makes a line
pub record PartsIn (lent : List ℕ) (s : Stamp) : Type 0 where
  pub date : part_ok date_ok s.date ≡ true
  pub time : part_ok time_ok s.time ≡ true
  pub offset : part_ok offset_ok s.offset ≡ true
  pub zone : part_ok (zone_ok lent) s.zone ≡ true
  pub calendar : part_ok (calendar_ok lent) s.calendar ≡ true
  pub timed : (not (shows_offset s.offset) || is_some s.time) ≡ true
  pub time_separated : time_separators s.time ≡ true
  pub offset_separated : offset_separators s.offset ≡ true

pub parts_in : {lent : List ℕ} {s : Stamp} → Line lent s → PartsIn lent s
unfolding parts_ok separators_on
parts_in {lent} {s} line =
    let fields = fields_in s line.accepted.fields in
    let names = names_in lent s line.accepted.names in
    let on = both _ _ line.separated in
    record {
      date = fields.0;
      time = fields.1;
      offset = fields.2;
      zone = names.0;
      calendar = names.1;
      timed = (both (is_some s.date || is_some s.time) _ line.accepted.parts).1;
      time_separated = on.0;
      offset_separated = on.1;
    }

-- ---- the whole
regroup : (a b c d e : List ℕ) → a ++ b ++ c ++ d ++ e ≡ a ++ ((b ++ c) ++ (d ++ e))
regroup a b c d e = simp append_assoc

-- w is of the grammar, and its text is what is written of s
pub record Canonical (lent : List ℕ) (s : Stamp) (w : trees.StampTree) : Type 0 where
  pub ok : trees.StampOk w
  pub text : stamp_text lent s ≡ trees.stamp_text w

module _ (lent : List ℕ) (s : Stamp) (line : Line lent s) (d : Date) (e : s.date ≡ Some d) where
  canon_text : stamp_text lent s ≡ trees.stamp_text (canon lent d s)
  unfolding stamp_text canon
  canon_text =
      let p = parts_in line in
      let t = part_text (timed_text true) s.time in
      let o = part_text offset_text s.offset in
      let z = part_text (zone_text lent) s.zone in
      let c = part_text (calendar_text lent) s.calendar in
      ap (λ (p : Option Date). part_text date_text p ++ part_text (timed_text (is_some p)) s.time ++ o ++ z ++ c) e
      ∙ regroup (date_text d) t o z c
      ∙ rw (date_text_lem d, part_text_lem s.time s.offset p.time_separated p.offset_separated p.timed, zone_text_lem lent s.zone, notes_text_lem lent s.calendar) refl

  canon_ok : trees.StampOk (canon lent d s)
  unfolding canon
  canon_ok =
      let p = parts_in line in
      record {
        date = date_ok_lem d (rw e at p.date);
        part = part_ok_lem s.time s.offset p.time p.offset;
        tail = record { zone = zone_ok_lem lent s.zone p.zone; notes = notes_ok lent s.calendar p.calendar };
      }

  -- the text of a stamp with a date d, separators on, that the writer accepts, is the text of its canonical tree, which is well formed
  pub canonical : Canonical lent s (canon lent d s)
  canonical = record { ok = canon_ok; text = canon_text }

-- the date of a stamp that has one
pub dated : (p : Option Date) → is_some p ≡ true → (d : Date) × (p ≡ Some d)
dated None e = absurd (false≢true e)
dated (Some d) e = (d, refl)
