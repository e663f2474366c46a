-- What is read of a text is what its syntax tree means.
--     stamp_refusal_lem, time_text_refusal_lem, partial_refusal_lem        why a text of the grammar is refused is the stated function of its tree
--     stamp_says_lem, time_text_says_lem, partial_says_lem                 so is what it says
--     outside                                                              a text that is not of the grammar is refused for that
-- Assumes nothing.
use Rattle.std.proofs.Common.{◌≡◌, ℕ, ◌≤◌, Bool, false, lt-ltb, arith, List, [], ◌∷◌, ◌++◌, length, Option, Some, None, Err, option_map, option_and_then, slice_get, is_some, refl, sym, ◌∙◌, ap, append_assoc}
use Rattle.std.proofs.lemmas.Option.{some_pair_parts}
use Rattle.text.specs.declared.refusal.Refusal.TheVariants.{BadText}
use Rattle.record.specs.declared.stamp.Date.{Date}
use Rattle.record.specs.Refusals.{Reading}
use Rattle.date_syntax.specs.Syntax as dates
use Rattle.time_syntax.specs.Syntax as times
use Rattle.time_syntax.specs.Read.{second_in, fraction_in, nanos_in, digits_in}
use Rattle.tail_syntax.specs.declared.bracket.NameRead.{NameRead}
use Rattle.tail_syntax.specs.Read.{part_of}
use Rattle.tail_syntax.specs.Syntax as tails
use Rattle.tail_syntax.proofs.Kept.{notes-told, zone_part_told, calendar_part_told}
use Rattle.grammar.specs.declared.ClockRead.{ClockRead}
use Rattle.grammar.specs.Syntax.{date_is, utc_is, clock_text, clock_kept, PartTree, date_only, at, part_text, PartOk, part_kept, StampTree, stamp_text, StampOk, lead_text, TimeTextTree, time_text_text, TimeTextOk}
use Rattle.meaning.specs.declared.Parts.{Parts}
use Rattle.meaning.specs.Shown.{second, shown_time, shown_utc, shown_date, marked_name, shown}
use Rattle.meaning.specs.Verdict.{verdict, read_by, long_fraction, other_calendar, faults_of}
use Rattle.meaning.specs.Said.{said, name_said, said_by}
use Rattle.meaning.specs.Trees.{second_of, fraction_of, time_says, utc_says, part_time, part_offset, zone_says, first_says, calendar_says, part_long, other_calendar_said, stamp_refusal, stamp_says, time_text_refusal, time_text_says, partial_refusal, partial_says}

-- ---- what follows the minute
secs_digits : (s : times.SecsTree) → digits_in (fraction_in (times.secs_kept s)) ≡ length (fraction_of s)
secs_digits times.none = refl
secs_digits (times.whole s) = refl
secs_digits (times.part s p ds) = refl

secs_nanos : (s : times.SecsTree) → nanos_in (fraction_in (times.secs_kept s)) ≡ times.nanos_of (fraction_of s)
unfolding times.nanos_of
secs_nanos times.none = refl
secs_nanos (times.whole s) = refl
secs_nanos (times.part s p ds) = refl

secs_second : (s : times.SecsTree) → second (second_in (times.secs_kept s)) ≡ second_of s
secs_second times.none = refl
secs_second (times.whole s) = refl
secs_second (times.part s p ds) = refl

small_second : (s : ℕ) → s ≤ 59 → second s ≡ s
small_second s h = rw (lt-ltb s 60 (omega arith))

-- ---- times
time-shown : (t : times.TimeTree) → shown_time (times.time_is t) ≡ time_says t
time-shown t = rw (secs_second t.secs, secs_nanos t.secs)

utc-shown : (u : times.UtcTree) → times.UtcOk u → option_map shown_utc (utc_is u) ≡ utc_says u
utc-shown times.absent ok = refl
utc-shown (times.zulu b) ok = refl
utc-shown (times.offset negative t) ok = rw (← secs_second t.secs, small_second _ ok.1, secs_nanos t.secs)

clock_shown : (p : PartTree) → option_map (λ (c : ClockRead). shown_time c.time) (part_kept p) ≡ part_time p
clock_shown date_only = refl
clock_shown (at b c) = ap Some (time-shown c.time)

offset_shown : (p : PartTree) → PartOk p → option_map shown_utc (option_and_then (λ (c : ClockRead). c.utc) (part_kept p)) ≡ part_offset p
offset_shown date_only ok = refl
offset_shown (at b c) ok = utc-shown c.utc ok.1.utc

part_long_lem : (p : PartTree) → long_fraction (part_kept p) ≡ part_long p
part_long_lem date_only = refl
part_long_lem (at b c) = go c.utc
  where
    go : (u : times.UtcTree) → long_fraction (part_kept (at b (record { time = c.time; utc = u }))) ≡ part_long (at b (record { time = c.time; utc = u }))
    go times.absent = rw (secs_digits c.time.secs)
    go (times.zulu z) = rw (secs_digits c.time.secs)
    go (times.offset negative t) = rw (secs_digits c.time.secs, secs_digits t.secs)

-- ---- names, in any text that ends in the tail
zone_named : (t : tails.TailTree) (p : List ℕ)
    → name_said (p ++ tails.tail_text t) (option_map (marked_name (length (p ++ tails.tail_text t))) (tails.tail_kept t).zone) ≡ zone_says t.zone
zone_named t p = go t.zone (zone_part_told t p)
  where
    l : List ℕ
    l = p ++ tails.tail_text t

    go : (z : tails.ZoneTree) → part_of (tails.zone_kept z (tails.notes_text t.notes)) l ≡ tails.zone_name_of z
        → name_said l (option_map (marked_name (length l)) (tails.zone_kept z (tails.notes_text t.notes))) ≡ zone_says z
    go tails.no_zone e = refl
    go (tails.one_zone c n) e = ap (said c) e

name_first : (cs : List tails.NoteTree) (l : List ℕ) (o : Option NameRead)
    → option_map {U = Bool × ℕ} (λ (n : NameRead). (n.critical, n.size)) o ≡ option_map {U = Bool × ℕ} (λ (n : tails.NoteTree). (n.critical, length n.value)) (slice_get cs 0)
    → part_of o l ≡ tails.first_value cs → name_said l (option_map (marked_name (length l)) o) ≡ first_says cs
name_first [] l None e h = refl
name_first (n ∷ cs) l None e h = absurd (cc)
name_first [] l (Some m) e h = absurd (cc)
name_first (n ∷ cs) l (Some m) e h = rw ((some_pair_parts _ _ _ _ e).0, h)

calendar_named : (t : tails.TailTree) (p : List ℕ)
    → name_said (p ++ tails.tail_text t) (option_map (marked_name (length (p ++ tails.tail_text t))) (tails.tail_kept t).notes.calendar) ≡ calendar_says t.notes
calendar_named t p = name_first (tails.calendars t.notes) (p ++ tails.tail_text t) _ (notes-told t.notes).calendar (calendar_part_told t p)

-- ---- what is said, of a text l that is p and then the tail
abbrev pub parts : Option Date → Option ClockRead → tails.TailTree → Parts
parts d c t = record { date = d; clock = c; tail = tails.tail_kept t }

says_of : (d : Option Date) (c : Option ClockRead) (t : tails.TailTree) (l p : List ℕ) → l ≡ p ++ tails.tail_text t
    → said_by l (shown (length l) (parts d c t))
    ≡ record {
      date = d;
      time = option_map (λ (c : ClockRead). shown_time c.time) c;
      offset = option_map shown_utc (option_and_then (λ (c : ClockRead). c.utc) c);
      zone = zone_says t.zone;
      calendar = calendar_says t.notes;
    }
unfolding said_by shown
says_of d c t l p e = rw (e, zone_named t p, calendar_named t p)

-- ---- each kind of text
module _ (w : StampTree) (ok : StampOk w) where
  pub stamp_refusal_lem : verdict (faults_of false (parts (Some (shown_date (date_is w.date))) (part_kept w.part) w.tail)) ≡ stamp_refusal w
  unfolding faults_of stamp_refusal
  stamp_refusal_lem =
      let t = notes-told w.tail.notes in
      rw (t.unknown, part_long_lem w.part, t.clash)

  pub stamp_says_lem : said_by (stamp_text w) (shown (length (stamp_text w)) (parts (Some (shown_date (date_is w.date))) (part_kept w.part) w.tail)) ≡ stamp_says w
  unfolding stamp_says
  stamp_says_lem =
      says_of _ (part_kept w.part) w.tail (stamp_text w) (dates.date_text w.date ++ part_text w.part)
      (sym (append_assoc (dates.date_text w.date) (part_text w.part) (tails.tail_text w.tail)))
      ∙ rw (clock_shown w.part, offset_shown w.part ok.part)

module _ (w : TimeTextTree) (ok : TimeTextOk w) where
  pub time_text_refusal_lem : verdict (faults_of false (parts None (Some (clock_kept w.lead w.clock)) w.tail)) ≡ time_text_refusal w
  unfolding faults_of time_text_refusal
  time_text_refusal_lem =
      let t = notes-told w.tail.notes in
      rw (t.unknown, part_long_lem (at 0 w.clock), t.clash)

  pub time_text_says_lem : said_by (time_text_text w) (shown (length (time_text_text w)) (parts None (Some (clock_kept w.lead w.clock)) w.tail)) ≡ time_text_says w
  unfolding time_text_says
  time_text_says_lem =
      says_of None (Some (clock_kept w.lead w.clock)) w.tail (time_text_text w) (lead_text w.lead ++ clock_text w.clock)
      (sym (append_assoc (lead_text w.lead) (clock_text w.clock) (tails.tail_text w.tail)))
      ∙ rw (time-shown w.clock.time, utc-shown w.clock.utc ok.clock.utc)

other_told : (t : tails.TailTree) (p : List ℕ) → other_calendar (tails.tail_kept t).notes.calendar (p ++ tails.tail_text t) ≡ other_calendar_said t.notes
unfolding other_calendar
other_told t p = rw (found, calendar_part_told t p)
  where
    is_map : {A B : Type 0} (f : A → B) (o : Option A) → is_some (option_map f o) ≡ is_some o
    is_map f None = refl
    is_map f (Some x) = refl

    found : is_some (tails.tail_kept t).notes.calendar ≡ is_some (tails.first_calendar t.notes)
    found = sym (is_map _ (tails.tail_kept t).notes.calendar) ∙ ap is_some (notes-told t.notes).calendar ∙ is_map _ (tails.first_calendar t.notes)

-- a year-month or a month-day text, of the date that it stands for: p is the text before its tail
module _ (d : Date) (t : tails.TailTree) (p : List ℕ) where
  pub partial_refusal_lem : verdict (faults_of (other_calendar (tails.tail_kept t).notes.calendar (p ++ tails.tail_text t)) (parts (Some d) None t)) ≡ partial_refusal d t
  unfolding faults_of partial_refusal
  partial_refusal_lem =
      let n = notes-told t.notes in
      rw (n.unknown, other_told t p, n.clash)

  pub partial_says_lem : said_by (p ++ tails.tail_text t) (shown (length (p ++ tails.tail_text t)) (parts (Some d) None t)) ≡ partial_says d t
  unfolding partial_says
  partial_says_lem = says_of (Some d) None t (p ++ tails.tail_text t) p refl

-- ---- a text that is not of the grammar
pub outside : {W : Type 0} (read : W → Reading) → read_by read None ≡ Err BadText
outside read = refl
