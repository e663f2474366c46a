-- The stamp of a plain tree: its canonical tree is the tree itself, and the writer accepts it.
--     stamp_of, lent_of    the stamp, with its settings, and the text that its names are lent in
--     canon_back         the canonical tree of that stamp is the tree
--     line_of            the writer accepts it; it has a date, and separators are on
-- Assumes nothing.
use Prim.Native.Nat.{ℕ, zero, suc, ◌≤◌, ◌<◌}
use native.Mathlib.Omega.{arith}
use mathlib.Core.Bool.{Bool, true, false, cond, not, ◌&&◌, ◌||◌, false≢true}
use mathlib.Core.Path.{◌≡◌, refl, sym, ap, ◌∙◌}
use mathlib.Core.List.{List, [], ◌∷◌, ◌++◌}
use borrow.Author.Tests.{lt-ltb, le-ltb, le-leb, leb-true, eqb-true}
use lib.Dec.{leb, eqb}
use lib.IntN.{nat_abs}
use lib.ListN.{length, take, drop, length-append}
use lib.Seq.{take-append_seam, drop-append_seam, take-length}
use Rattle.std.specs.Prelude.{Option, Some, None, is_some}
use Rattle.text.proofs.Answers.{both}
use Rattle.iso.specs.Gregorian.{valid_date}
use Rattle.record.specs.declared.stamp.Calendar.{Calendar}
use Rattle.record.specs.declared.stamp.Offset.{Offset}
use Rattle.record.specs.declared.stamp.Zone.{Zone}
use Rattle.record.specs.declared.stamp.Precision.{Precision}
use Rattle.record.specs.declared.stamp.Precision.TheVariants.{Minute, Digit}
use Rattle.record.specs.declared.stamp.Time.{Time}
use Rattle.record.specs.declared.stamp.Sign.TheVariants.{Negative, Positive}
use Rattle.record.specs.declared.stamp.UtcOffset.TheVariants as utc
use Rattle.record.specs.declared.stamp.DisplayOffset.TheVariants as display
use Rattle.record.specs.declared.stamp.DisplayTimeZone.TheVariants as zone-show
use Rattle.record.specs.declared.stamp.DisplayCalendar.TheVariants as calendar-show
use Rattle.record.specs.declared.stamp.Stamp.{Stamp}
use Rattle.record.specs.Separators.{time_separators, offset_separators, separators_on}
use Rattle.names.proofs.Exact.{zone_reads, calendar_reads, zone_name_exact, calendar_name_exact}
use Rattle.precision.specs.Precision.{precision_ok}
use Rattle.date_writer.specs.Date.{date_ok}
use Rattle.time_writer.specs.Time.{clock_ok, time_ok}
use Rattle.time_writer.specs.Offset.{offset_ok}
use Rattle.tail_writer.specs.Zone.{zone_mark, zone_ok}
use Rattle.tail_writer.specs.Calendar.{is_iso, calendar_mark, calendar_ok}
use Rattle.writer.specs.Stamp.{part_ok, fields_ok, names_ok, shows_offset, parts_ok}
use Rattle.date_syntax.specs.Syntax as dates
use Rattle.time_syntax.specs.Read.{second_in}
use Rattle.time_syntax.specs.Syntax as times
use Rattle.time_syntax.proofs.NanoLaws.{nanos_digits}
use Rattle.tail_syntax.specs.Syntax as tails
use Rattle.tail_syntax.proofs.Kept.{uca_key, Alone, nothing, only}
use Rattle.grammar.specs.Syntax as trees
use Rattle.meaning.specs.Shown.{signed_year}
use Rattle.meaning.specs.Trees.{date_says, fraction_of}
use Rattle.round_trip.specs.Shown.{is_negative, Line}
use Rattle.round_trip.specs.Canon.{year_tree, fraction_tree, secs_tree, time_tree, offset_tree, part_tree, zone_of, zone_tree, notes_of, notes_tree, canon}
use Rattle.recogniser.proofs.Canonical.{join, FractionPlain}

-- ---- the stamp of a tree: a fraction is shown by as many digits as it has, a calendar always
abbrev precision_of : times.SecsTree → Precision
precision_of times.none = Minute
precision_of (times.whole s) = Digit 0
precision_of (times.part s p ds) = Digit (length ds)

abbrev time_of : times.TimeTree → Time
time_of t =
    record {
      clock =
          record {
            hour = t.hour;
            minute = t.minute;
            second = second_in (times.secs_kept t.secs);
            nanosecond = times.nanos_of (fraction_of t.secs);
          };
      precision = precision_of t.secs;
      include_sep = true;
    }

abbrev offset_of : times.UtcTree → Option Offset
offset_of times.absent = None
offset_of (times.zulu b) = Some (record { show = display.Auto; offset = utc.Z })
offset_of (times.offset negative t) =
    Some (record { show = display.Auto; offset = utc.Offset (record { sign = cond negative Negative Positive; time = time_of t }) })

abbrev time_part_of : trees.PartTree → Option Time
time_part_of trees.date_only = None
time_part_of (trees.at b c) = Some (time_of c.time)

abbrev offset_part_of : trees.PartTree → Option Offset
offset_part_of trees.date_only = None
offset_part_of (trees.at b c) = offset_of c.utc

abbrev zone_part_of : tails.ZoneTree → Option Zone
zone_part_of tails.no_zone = None
zone_part_of (tails.one_zone c n) = Some (record { show = cond c zone-show.Critical zone-show.Auto; name = record { at = 0; len = length n } })

abbrev calendar_part_of : ℕ → List tails.NoteTree → Option Calendar
calendar_part_of a [] = None
calendar_part_of a (n ∷ ns) =
    Some (record { show = cond n.critical calendar-show.Critical calendar-show.Always; name = record { at = a; len = length n.value } })

abbrev pub lent_of : tails.TailTree → List ℕ
lent_of t = tails.zone_name_of t.zone ++ tails.first_value t.notes

abbrev pub stamp_of : trees.StampTree → Stamp
stamp_of w =
    record {
      date = Some (date_says w.date);
      time = time_part_of w.part;
      offset = offset_part_of w.part;
      zone = zone_part_of w.tail.zone;
      calendar = calendar_part_of (length (tails.zone_name_of w.tail.zone)) w.tail.notes;
    }

-- ---- the date
year_back : (w s : Bool) (y : ℕ) → dates.YearForm w s y → (not w || s || leb 10000 y) ≡ true → year_tree (signed_year s y) ≡ record { negative = s; year = y; wide = w }
year_back false false y ok e = rw (lt-ltb y 10000 ok.1)
year_back false true y ok e = absurd (false≢true (sym ok.0))
year_back true false y ok e = rw (le-ltb y 10000 (leb-true 10000 y e))
year_back true true zero ok e = absurd (ok.1 refl refl)
year_back true true (suc n) ok e = refl

year_small : (w s : Bool) (y : ℕ) → dates.YearForm w s y → nat_abs (signed_year s y) ≤ 999999
year_small false false y ok = omega (arith, ok.1)
year_small false true y ok = absurd (false≢true (sym ok.0))
year_small true false y ok = omega (arith, ok.0)
year_small true true zero ok = omega arith
year_small true true (suc n) ok = omega (arith, ok.0)

-- ---- times: of the grammar, a second of at most 59, a fraction in the writer's form
pub record TimePlain (t : times.TimeTree) : Type 0 where
  pub ok : times.TimeOk t
  pub second : second_in (times.secs_kept t.secs) ≤ 59
  pub fraction : FractionPlain t.secs

some-digits : (s : ℕ) (ds : List ℕ) → 0 < length ds → fraction_tree s ds ≡ times.part s 46 ds
some-digits s [] h = absurd (omega arith)
some-digits s (d ∷ ds) h = refl

secs_back : (s : times.SecsTree) → times.SecsOk s → FractionPlain s
    → secs_tree (precision_of s) (second_in (times.secs_kept s)) (times.nanos_of (fraction_of s)) ≡ s
secs_back times.none ok e = refl
secs_back (times.whole s) ok e = refl
secs_back (times.part s p ds) ok e =
    let b = both (eqb p 46) (leb (length ds) 9) e in
    let f = (nanos_digits ds ok.3 (leb-true (length ds) 9 b.1)).1 in
    ap (fraction_tree s) f ∙ some-digits s ds ok.2 ∙ ap (λ (q : ℕ). times.part s q ds) (sym (eqb-true p 46 b.0))

secs_nanos : (s : times.SecsTree) → times.SecsOk s → FractionPlain s → times.nanos_of (fraction_of s) ≤ 999999999
unfolding times.nanos_of
secs_nanos times.none ok e = omega arith
secs_nanos (times.whole s) ok e = omega arith
secs_nanos (times.part s p ds) ok e =
    let b = both (eqb p 46) (leb (length ds) 9) e in
    omega (arith, (nanos_digits ds ok.3 (leb-true (length ds) 9 b.1)).0)

secs_precision : (s : times.SecsTree) → FractionPlain s → precision_ok (precision_of s) ≡ true
secs_precision times.none e = refl
secs_precision (times.whole s) e = refl
secs_precision (times.part s p ds) e = (both (eqb p 46) (leb (length ds) 9) e).1

time_back : (t : times.TimeTree) → TimePlain t → time_tree (time_of t) ≡ t
time_back t p = λ i. record { hour = t.hour; minute = t.minute; secs = secs_back t.secs p.ok.secs p.fraction i }

time_accepted : (t : times.TimeTree) → TimePlain t → time_ok (time_of t) ≡ true
unfolding time_ok clock_ok
time_accepted t p =
    join
    (join (join (join (le-leb t.hour 23 p.ok.hour) (le-leb t.minute 59 p.ok.minute)) (le-leb _ 59 p.second))
    (le-leb _ 999999999 (secs_nanos t.secs p.ok.secs p.fraction)))
    (secs_precision t.secs p.fraction)

-- ---- how a time stands to UTC
abbrev pub UtcPlain : times.UtcTree → Type 0
UtcPlain times.absent = Unit {0}
UtcPlain (times.zulu b) = b ≡ 90
UtcPlain (times.offset negative t) = TimePlain t

sign_back : (negative : Bool) → is_negative (cond negative Negative Positive) ≡ negative
sign_back true = refl
sign_back false = refl

utc_back : (u : times.UtcTree) → UtcPlain u → offset_tree (offset_of u) ≡ u
utc_back times.absent p = refl
utc_back (times.zulu b) p = ap times.zulu (sym p)
utc_back (times.offset negative t) p = rw (sign_back negative, time_back t p)

utc_accepted : (u : times.UtcTree) → UtcPlain u → (part_ok offset_ok (offset_of u) ≡ true) × (offset_separators (offset_of u) ≡ true)
unfolding offset_ok
utc_accepted times.absent p = (refl, refl)
utc_accepted (times.zulu b) p = (refl, refl)
utc_accepted (times.offset negative t) p = (time_accepted t p, refl)

-- ---- the time with its offset
abbrev pub PartPlain : trees.PartTree → Type 0
PartPlain trees.date_only = Unit {0}
PartPlain (trees.at b c) = (b ≡ 84) × TimePlain c.time × UtcPlain c.utc

part_back : (p : trees.PartTree) → PartPlain p → part_tree (time_part_of p) (offset_part_of p) ≡ p
part_back trees.date_only q = refl
part_back (trees.at b c) q = λ i. trees.at (sym q.0 i) (record { time = time_back c.time q.1 i; utc = utc_back c.utc q.2 i })

shown_or_timed : (u : times.UtcTree) → (not (shows_offset (offset_of u)) || true) ≡ true
shown_or_timed times.absent = refl
shown_or_timed (times.zulu b) = refl
shown_or_timed (times.offset negative t) = refl

record PartAccepted (p : trees.PartTree) : Type 0 where
  time : part_ok time_ok (time_part_of p) ≡ true
  offset : part_ok offset_ok (offset_part_of p) ≡ true
  timed : (not (shows_offset (offset_part_of p)) || is_some (time_part_of p)) ≡ true
  separated : (time_separators (time_part_of p) && offset_separators (offset_part_of p)) ≡ true

part_accepted : (p : trees.PartTree) → PartPlain p → PartAccepted p
part_accepted trees.date_only q = record { time = refl; offset = refl; timed = refl; separated = refl }
part_accepted (trees.at b c) q =
    let u = utc_accepted c.utc q.2 in
    record { time = time_accepted c.time q.1; offset = u.0; timed = shown_or_timed c.utc; separated = u.1 }

-- ---- the zone, at the front of the lent text
abbrev pub ZonePlain : tails.ZoneTree → Type 0
ZonePlain tails.no_zone = Unit {0}
ZonePlain (tails.one_zone c n) = length n ≤ 64

zone_back : (z : tails.ZoneTree) (r : List ℕ) → zone_tree (tails.zone_name_of z ++ r) (zone_part_of z) ≡ z
zone_back tails.no_zone r = refl
zone_back (tails.one_zone c n) r = rw (take-append_seam n r) (go c)
  where
    go : (c : Bool) → zone_of (zone_mark (cond c zone-show.Critical zone-show.Auto)) n ≡ tails.one_zone c n
    go true = refl
    go false = refl

zone_accepted : (z : tails.ZoneTree) (r : List ℕ) → tails.ZoneOk z → ZonePlain z → part_ok (zone_ok (tails.zone_name_of z ++ r)) (zone_part_of z) ≡ true
unfolding zone_ok
zone_accepted tails.no_zone r ok p = refl
zone_accepted (tails.one_zone c n) r ok p =
    (zone_name_exact (n ++ r) 0 (length n)).1
    (zone_reads.some n ok, p, rw (length-append n r) (omega arith), rw (take-append_seam n r) ok)

-- ---- the calendar, after it
module _ (z : List ℕ) where
  value_in : (v : List ℕ) → take (length v) (drop (length z) (z ++ v)) ≡ v
  value_in v = rw (drop-append_seam z v) (take-length v)

  notes_back : (ns : List tails.NoteTree) → Alone ns → notes_tree (z ++ tails.first_value ns) (calendar_part_of (length z) ns) ≡ ns
  notes_back ns nothing = refl
  notes_back ns (only n u) = rw (value_in n.value) (go n.critical refl (is_iso _ _))
    where
      go : (c : Bool) → n.critical ≡ c → (iso : Bool)
          → notes_of (calendar_mark (cond c calendar-show.Critical calendar-show.Always) iso) n.value ≡ n ∷ []
      go true e iso = λ i. record { critical = sym e i; key = sym (uca_key n.key u) i; value = n.value } ∷ []
      go false e iso = λ i. record { critical = sym e i; key = sym (uca_key n.key u) i; value = n.value } ∷ []

  notes_accepted : (ns : List tails.NoteTree) → tails.NotesOk ns → Alone ns → length (tails.first_value ns) ≤ 64
      → part_ok (calendar_ok (z ++ tails.first_value ns)) (calendar_part_of (length z) ns) ≡ true
  unfolding calendar_ok
  notes_accepted ns ok nothing h = refl
  notes_accepted ns ok (only n u) h =
      (calendar_name_exact (z ++ n.value) (length z) (length n.value)).1
      (calendar_reads.some n.value ok.0.1, h, rw (length-append z n.value) (omega arith), rw (value_in n.value) ok.0.1)

-- ---- the whole
pub record PlainTree (w : trees.StampTree) : Type 0 where
  pub ok : trees.StampOk w
  pub year : (not w.date.year.wide || w.date.year.negative || leb 10000 w.date.year.year) ≡ true
  pub day : valid_date (signed_year w.date.year.negative w.date.year.year) w.date.month w.date.day ≡ true
  pub part : PartPlain w.part
  pub zone : ZonePlain w.tail.zone
  pub notes : Alone w.tail.notes
  pub short : length (tails.first_value w.tail.notes) ≤ 64

module _ (w : trees.StampTree) (p : PlainTree w) where
  pub canon_back : canon (lent_of w.tail) (date_says w.date) (stamp_of w) ≡ w
  unfolding canon
  canon_back =
      λ i.
      record {
        date =
            record {
              year = year_back w.date.year.wide w.date.year.negative w.date.year.year p.ok.date.year p.year i;
              month = w.date.month;
              day = w.date.day;
            };
        part = part_back w.part p.part i;
        tail =
            record {
              zone = zone_back w.tail.zone (tails.first_value w.tail.notes) i;
              notes = notes_back (tails.zone_name_of w.tail.zone) w.tail.notes p.notes i;
            };
      }

  pub line_of : Line (lent_of w.tail) (stamp_of w)
  unfolding fields_ok names_ok parts_ok date_ok separators_on
  line_of =
      let a = part_accepted w.part p.part in
      let y = year_small w.date.year.wide w.date.year.negative w.date.year.year p.ok.date.year in
      record {
        accepted =
            record {
              fields = join (join (join (le-leb _ 999999 y) p.day) a.time) a.offset;
              names =
                  join (zone_accepted w.tail.zone (tails.first_value w.tail.notes) p.ok.tail.zone p.zone)
                  (notes_accepted (tails.zone_name_of w.tail.zone) w.tail.notes p.ok.tail.notes p.notes p.short);
              parts = a.timed;
            };
        dated = refl;
        separated = a.separated;
      }
