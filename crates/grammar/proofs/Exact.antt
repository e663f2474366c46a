-- Whole texts are read exactly: the readers invert the grammar.
--     clock_exact                                     a time and its UTC part, whatever byte stands before them
--     stamp_exact, time_text_exact                    whole texts
--     year_month_text_exact, month_day_text_exact
-- Assumes nothing.
use Rattle.std.proofs.Common.{◌≡◌, ℕ, Bool, true, false, cond, List, [], ◌∷◌, ◌++◌, ◌+◌, ◌/◌, ◌%◌, drop, Option, Some, None, option_map, option_and_then, is_some, refl, sym, ◌∙◌, ap, append_assoc, arith, ne_eqb}
use Rattle.std.proofs.lemmas.Option.{option_and_then_some, same_Some}
use mathlib.Core.Bool.{false≢true}
use Rattle.text.specs.Walk.{front}
use Rattle.text.specs.Inverse.{Inverse, Exact}
use Rattle.names.proofs.Exact.{Ended}
use Rattle.names.proofs.FieldLaws.{front-cons}
use Rattle.date_syntax.specs.declared.DateRead.{DateRead}
use Rattle.date_syntax.specs.declared.MonthDayRead.{MonthDayRead}
use Rattle.date_syntax.specs.Read.{date, after_date}
use Rattle.date_syntax.specs.Syntax as dates
use Rattle.date_syntax.proofs.Exact.{date_exact, year_month_exact, month_day_exact}
use Rattle.time_syntax.specs.declared.TimeRead.{TimeRead}
use Rattle.time_syntax.specs.declared.UtcRead.{UtcRead}
use Rattle.time_syntax.specs.Read.{time, past, utc, past_utc}
use Rattle.time_syntax.specs.Syntax as times
use Rattle.time_syntax.proofs.Exact.{time_exact, utc_exact, utc_quiet}
use Rattle.tail_syntax.specs.declared.tail.Tail.{Tail}
use Rattle.tail_syntax.specs.Read.{tail}
use Rattle.tail_syntax.specs.Syntax as tails
use Rattle.tail_syntax.proofs.Enclosed.{mapped}
use Rattle.tail_syntax.proofs.Exact.{tail_reads, tail_sound, tail_closed}
use Rattle.grammar.specs.declared.ClockRead.{ClockRead}
use Rattle.grammar.specs.declared.StampRead.{StampRead}
use Rattle.grammar.specs.declared.Tailed.{Tailed}
use Rattle.grammar.specs.Read.{is_sep, is_lead, clock_at, past_clock, after_clock, with_tail, timed_at, stamp_from, stamp, time_text, year_month_text, month_day_text}
use Rattle.grammar.specs.Syntax.{date_is, year_month_is, month_day_is, utc_is, ClockTree, clock_text, ClockOk, clock_kept, PartTree, date_only, at, StampTree, part_text, stamp_text, PartOk, StampOk, part_kept, stamp_kept, TimeTextTree, lead_text, time_text_text, LeadOk, TimeTextOk, time_text_kept, YearMonthTextTree, year_month_text_text, YearMonthTextOk, year_month_text_kept, MonthDayTextTree, month_day_text_text, MonthDayTextOk, month_day_text_kept}

-- ---- for every kind of part: where one was read, its tree
some_is : {A : Type 0} (o : Option A) → is_some o ≡ true → (x : A) × (o ≡ Some x)
some_is (Some x) e = (x, refl)
some_is None e = absurd (false≢true e)

module _ {Tree X : Type 0} {read : List ℕ → Option X} {after : Option X → List ℕ → List ℕ} {text : Tree → List ℕ} {Ok : Tree → Type 0}
    {kept : Tree → Option X} {After : List ℕ → Type 0} (i : Inverse Tree (Option X) read is_some after text Ok kept After) where
  part_sound : (l : List ℕ) {x : X} → read l ≡ Some x → (t : Tree) × Ok t × (Some x ≡ kept t) × (l ≡ text t ++ after (Some x) l)
  part_sound l e =
      let s = i.sound l (ap is_some e) in
      (s.0, s.1, sym e ∙ s.2, s.3 ∙ ap (λ (o : Option X). text s.0 ++ after o l) e)

-- ---- what may follow a part: the tail of a text
closed_of : (l : List ℕ) → Ended 91 l → times.Closed l
closed_of [] e = times.ended
closed_of (b ∷ r) e = rw e (times.bracket r)

tail_follows : (t : tails.TailTree) → tails.TailOk t → times.Closed (tails.tail_text t)
tail_follows t ok = closed_of (tails.tail_text t) (tail_closed t ok)

tailed_is : {X : Type 0} {x x' : X} {t t' : Tail} → x ≡ x' → t ≡ t' → ◌≡◌ {A = Tailed X} (record { part = x; tail = t }) (record { part = x'; tail = t' })
tailed_is e f = λ i. record { part = e i; tail = f i }

-- ---- a part and the tail, for every kind of part
module _ {Tree X : Type 0} {read : List ℕ → Option X} {after : Option X → List ℕ → List ℕ} {text : Tree → List ℕ} {Ok : Tree → Type 0}
    {kept : Tree → Option X} {After : List ℕ → Type 0} (i : Inverse Tree (Option X) read is_some after text Ok kept After)
    (value : Tree → X) (is : (t : Tree) → kept t ≡ Some (value t)) where
  abbrev whole : List ℕ → Option (Tailed X)
  whole l = option_and_then (λ (x : X). with_tail x (after (Some x) l)) (read l)

  whole_reads : (t : Tree) (q : tails.TailTree) → Ok t → tails.TailOk q → After (tails.tail_text q)
      → whole (text t ++ tails.tail_text q) ≡ Some (record { part = value t; tail = tails.tail_kept q })
  whole_reads t q ok okq a =
      let r = tails.tail_text q in
      let e = i.reads t r ok a ∙ is t in
      let p : after (Some (value t)) (text t ++ r) ≡ r = rw (is t) at (i.passes t r ok) in
      rw (e, p, tail_reads q okq)

  whole_sound : (l : List ℕ) {v : Tailed X} → whole l ≡ Some v
      → (t : Tree) × (q : tails.TailTree) × Ok t × tails.TailOk q × (v ≡ record { part = value t; tail = tails.tail_kept q }) × (l ≡ text t ++ tails.tail_text q)
  whole_sound l {v} e =
      option_and_then_some _ (read l) v e (λ x f g.
      let s = part_sound i l f in
      let m = mapped _ (tail (after (Some x) l)) g in
      let q = tail_sound (after (Some x) l) m.1 in
      let k = same_Some _ _ (s.2 ∙ is s.0) in
      (s.0, q.0, s.1, q.1, sym m.2 ∙ tailed_is k q.2, s.3 ∙ ap (λ (r : List ℕ). text s.0 ++ r) q.3))

-- ---- whole texts are exact, where what is read of each is what is kept of its tree
exact_of : {Tree X : Type 0} {read : List ℕ → Option X} {text : Tree → List ℕ} {Ok : Tree → Type 0} (kept : Tree → X)
    → ((t : Tree) → Ok t → read (text t) ≡ Some (kept t))
    → ((l : List ℕ) (v : X) → read l ≡ Some v → (t : Tree) × Ok t × (v ≡ kept t) × (l ≡ text t))
    → Exact Tree (Option X) read is_some text Ok (λ t. Some (kept t))
exact_of {read = read} kept reads sound =
    record {
      reads = reads;
      accepts = λ t ok. refl;
      sound = λ l g.
          (let x = some_is (read l) g in
          let s = sound l x.0 x.1 in
          (s.0, s.1, x.1 ∙ ap Some s.2, s.3));
    }

-- ---- a time and its UTC part
time-kept : (t : times.TimeTree) → times.time_kept t ≡ Some (times.time_is t)
unfolding times.time_kept
time-kept t = refl

utc-kept : (u : times.UtcTree) → times.utc_kept u ≡ Some (utc_is u)
unfolding times.utc_kept
utc-kept times.absent = refl
utc-kept (times.zulu b) = refl
utc-kept (times.offset negative t) = refl

clock_joined : (c : ClockTree) (r : List ℕ) → clock_text c ++ r ≡ times.time_text c.time ++ (times.utc_text c.utc ++ r)
clock_joined c r = append_assoc (times.time_text c.time) (times.utc_text c.utc) r

time_passes : (t : times.TimeTree) (r : List ℕ) → times.TimeOk t → past (times.time_is t) (times.time_text t ++ r) ≡ r
time_passes t r ok = rw (time-kept t) at (time_exact.passes t r ok)

utc_passes : (u : times.UtcTree) (r : List ℕ) → times.UtcOk u → past_utc (utc_is u) (times.utc_text u ++ r) ≡ r
utc_passes u r ok = rw (utc-kept u) at (utc_exact.passes u r ok)

clock_is : {b : Option ℕ} {a a' : TimeRead} {u u' : Option UtcRead} → a ≡ a' → u ≡ u'
    → ◌≡◌ {A = ClockRead} (record { lead = b; time = a; utc = u }) (record { lead = b; time = a'; utc = u' })
clock_is {b} e f = λ i. record { lead = b; time = e i; utc = f i }

module _ (lead : Option ℕ) where
  clock_reads : (c : ClockTree) (r : List ℕ) → ClockOk c → times.Closed r → clock_at lead (clock_text c ++ r) ≡ Some (clock_kept lead c)
  unfolding clock_at
  clock_reads c r ok closed =
      let m = times.utc_text c.utc ++ r in
      rw (
        clock_joined c r,
        time_exact.reads c.time m ok.time (utc_quiet c.utc ok.utc closed) ∙ time-kept c.time,
        time_passes c.time m ok.time,
        utc_exact.reads c.utc r ok.utc closed ∙ utc-kept c.utc,
      )

  clock_passes : (c : ClockTree) (r : List ℕ) → ClockOk c → past_clock (clock_kept lead c) (clock_text c ++ r) ≡ r
  clock_passes c r ok =
      rw (clock_joined c r, time_passes c.time (times.utc_text c.utc ++ r) ok.time) (utc_passes c.utc r ok.utc)

  clock_of : (l : List ℕ) {v : ClockRead} → clock_at lead l ≡ Some v
      → (c : ClockTree) × ClockOk c × (v ≡ clock_kept lead c) × (l ≡ clock_text c ++ past_clock v l)
  unfolding clock_at
  clock_of l {v} e =
      option_and_then_some _ (time l) v e (λ x f g.
      option_and_then_some _ (utc (past x l)) v g (λ y h k.
      let r = past x l in
      let t = part_sound time_exact l f in
      let u = part_sound utc_exact r h in
      let c : ClockTree = record { time = t.0; utc = u.0 } in
      let p = same_Some _ _ k in
      let n : past_utc y r ≡ past_clock v l = ap (λ (v : ClockRead). past_clock v l) p in (
        c,
        record { time = t.1; utc = u.1 },
        sym p ∙ clock_is (same_Some _ _ (t.2 ∙ time-kept t.0)) (same_Some _ _ (u.2 ∙ utc-kept u.0)),
        t.3 ∙ ap (λ (m : List ℕ). times.time_text t.0 ++ m) u.3 ∙ sym (clock_joined c (past_utc y r)) ∙ ap (λ (m : List ℕ). clock_text c ++ m) n,
      )))

  pub clock_exact : Inverse ClockTree (Option ClockRead) (clock_at lead) is_some after_clock clock_text ClockOk (λ c. Some (clock_kept lead c)) times.Closed
  clock_exact =
      record {
        reads = clock_reads;
        accepts = λ c ok. refl;
        passes = clock_passes;
        sound = λ l g.
            (let x = some_is (clock_at lead l) g in
            let s = clock_of l x.1 in
            (s.0, s.1, x.1 ∙ ap Some s.2, s.3 ∙ ap (λ (o : Option ClockRead). clock_text s.0 ++ after_clock o l) (sym x.1)));
      }

  -- with the tail after them
  timed_reads : (c : ClockTree) (q : tails.TailTree) → ClockOk c → tails.TailOk q
      → timed_at lead (clock_text c ++ tails.tail_text q) ≡ Some (record { part = clock_kept lead c; tail = tails.tail_kept q })
  unfolding timed_at
  timed_reads c q ok okq = whole_reads clock_exact (clock_kept lead) (λ c. refl) c q ok okq (tail_follows q okq)

  timed_sound : (l : List ℕ) {v : Tailed ClockRead} → timed_at lead l ≡ Some v
      → (c : ClockTree) × (q : tails.TailTree) × ClockOk c × tails.TailOk q × (v ≡ record { part = clock_kept lead c; tail = tails.tail_kept q })
      × (l ≡ clock_text c ++ tails.tail_text q)
  unfolding timed_at
  timed_sound l e = whole_sound clock_exact (clock_kept lead) (λ c. refl) l e

-- ---- a stamp text
-- the tail starts with no separator
tail_no_sep : (l : List ℕ) → Ended 91 l → is_sep (front l) ≡ false
tail_no_sep [] e = refl
tail_no_sep (b ∷ r) e = rw e refl

stamp_is : {d d' : DateRead} {c c' : Option ClockRead} {t t' : Tail} → d ≡ d' → c ≡ c' → t ≡ t'
    → ◌≡◌ {A = StampRead} (record { date = d; clock = c; tail = t }) (record { date = d'; clock = c'; tail = t' })
stamp_is e f g = λ i. record { date = e i; clock = f i; tail = g i }

from_reads : (d : DateRead) (p : PartTree) (q : tails.TailTree) → PartOk p → tails.TailOk q
    → stamp_from d (part_text p ++ tails.tail_text q) ≡ Some (record { date = d; clock = part_kept p; tail = tails.tail_kept q })
from_reads d date_only q ok okq = rw (tail_no_sep (tails.tail_text q) (tail_closed q okq), tail_reads q okq)
from_reads d (at b c) q ok okq = rw (ok.0, timed_reads (Some b) c q ok.1 okq)

stamp_reads : (w : StampTree) → StampOk w → stamp (stamp_text w) ≡ Some (stamp_kept w)
unfolding stamp
stamp_reads w ok =
    let r = part_text w.part ++ tails.tail_text w.tail in
    rw (date_exact.reads w.date r ok.date tt, date_exact.passes w.date r ok.date) (from_reads (date_is w.date) w.part w.tail ok.part ok.tail)

-- what stands after a date
record From (d : DateRead) (r : List ℕ) (v : StampRead) : Type 0 where
  part : PartTree
  tail : tails.TailTree
  ok : PartOk part
  ok_tail : tails.TailOk tail
  read : v ≡ record { date = d; clock = part_kept part; tail = tails.tail_kept tail }
  text : r ≡ part_text part ++ tails.tail_text tail

no_zero : (b : ℕ) → is_sep b ≡ true → b ≡ 0 → ⊥
no_zero b e z = let f : is_sep 0 ≡ true = rw z at e in false≢true f

from_sound : (d : DateRead) (r : List ℕ) {v : StampRead} → stamp_from d r ≡ Some v → From d r v
from_sound d r {v} e = go (is_sep (front r)) refl e
  where
    go : (s : Bool) → is_sep (front r) ≡ s
        → cond s (option_map {U = StampRead} (λ (t : Tailed ClockRead). record { date = d; clock = Some t.part; tail = t.tail }) (timed_at (Some (front r)) (drop 1 r)))
        (option_map {U = StampRead} (λ (t : Tail). record { date = d; clock = None; tail = t }) (tail r)) ≡ Some v → From d r v
    go false f e =
        let m = mapped _ (tail r) e in
        let q = tail_sound r m.1 in
        record { part = date_only; tail = q.0; ok = tt; ok_tail = q.1; read = sym m.2 ∙ stamp_is refl refl q.2; text = q.3 }
    go true f e =
        let m = mapped _ (timed_at (Some (front r)) (drop 1 r)) e in
        let t = timed_sound (Some (front r)) (drop 1 r) m.1 in
        record {
          part = at (front r) t.0;
          tail = t.1;
          ok = (f, t.2);
          ok_tail = t.3;
          read = sym m.2 ∙ ap (λ (t : Tailed ClockRead). record { date = d; clock = Some t.part; tail = t.tail }) t.4;
          text = front-cons r (no_zero (front r) f) ∙ ap (λ (m : List ℕ). front r ∷ m) t.5;
        }

stamp_sound : (l : List ℕ) (v : StampRead) → stamp l ≡ Some v → (w : StampTree) × StampOk w × (v ≡ stamp_kept w) × (l ≡ stamp_text w)
unfolding stamp
stamp_sound l v e =
    option_and_then_some _ (date l) v e (λ x f g.
    let d = part_sound date_exact l f in
    let r = from_sound x (after_date (Some x) l) g in
    let w : StampTree = record { date = d.0; part = r.part; tail = r.tail } in (
      w,
      record { date = d.1; part = r.ok; tail = r.ok_tail },
      r.read ∙ stamp_is (same_Some _ _ d.2) refl refl,
      d.3 ∙ ap (λ (m : List ℕ). dates.date_text d.0 ++ m) r.text,
    ))

pub stamp_exact : Exact StampTree (Option StampRead) stamp is_some stamp_text StampOk (λ w. Some (stamp_kept w))
stamp_exact = exact_of stamp_kept stamp_reads stamp_sound

-- ---- a time text
-- a time starts with no `T` and no `t`
clock_no_lead : (c : ClockTree) (r : List ℕ) → is_lead (front (clock_text c ++ r)) ≡ false
unfolding times.time_text
clock_no_lead c r =
    let d = c.time.hour / 10 % 10 in
    rw (ne_eqb (48 + d) 84 (λ z. omega arith), ne_eqb (48 + d) 116 (λ z. omega arith))

time_text_reads : (w : TimeTextTree) → TimeTextOk w → time_text (time_text_text w) ≡ Some (time_text_kept w)
unfolding time_text
time_text_reads w ok = go w.lead ok.lead
  where
    go : (b : Option ℕ) → LeadOk b
        → time_text (lead_text b ++ (clock_text w.clock ++ tails.tail_text w.tail)) ≡ Some (record { part = clock_kept b w.clock; tail = tails.tail_kept w.tail })
    go None o = rw (clock_no_lead w.clock (tails.tail_text w.tail)) (timed_reads None w.clock w.tail ok.clock ok.tail)
    go (Some b) o = rw o (timed_reads (Some b) w.clock w.tail ok.clock ok.tail)

no_zero_lead : (b : ℕ) → is_lead b ≡ true → b ≡ 0 → ⊥
no_zero_lead b e z = let f : is_lead 0 ≡ true = rw z at e in false≢true f

time_text_sound : (l : List ℕ) (v : Tailed ClockRead) → time_text l ≡ Some v
    → (w : TimeTextTree) × TimeTextOk w × (v ≡ time_text_kept w) × (l ≡ time_text_text w)
unfolding time_text
time_text_sound l v e = go (is_lead (front l)) refl e
  where
    go : (s : Bool) → is_lead (front l) ≡ s → cond s (timed_at (Some (front l)) (drop 1 l)) (timed_at None l) ≡ Some v
        → (w : TimeTextTree) × TimeTextOk w × (v ≡ time_text_kept w) × (l ≡ time_text_text w)
    go true f e =
        let t = timed_sound (Some (front l)) (drop 1 l) e in (
          record { lead = Some (front l); clock = t.0; tail = t.1 },
          record { lead = f; clock = t.2; tail = t.3 },
          t.4,
          front-cons l (no_zero_lead (front l) f) ∙ ap (λ (m : List ℕ). front l ∷ m) t.5,
        )
    go false f e =
        let t = timed_sound None l e in
        (record { lead = None; clock = t.0; tail = t.1 }, record { lead = tt; clock = t.2; tail = t.3 }, t.4, t.5)

pub time_text_exact : Exact TimeTextTree (Option (Tailed ClockRead)) time_text is_some time_text_text TimeTextOk (λ w. Some (time_text_kept w))
time_text_exact = exact_of time_text_kept time_text_reads time_text_sound

-- ---- a year-month text and a month-day text
pub year_month_text_exact : Exact YearMonthTextTree (Option (Tailed DateRead)) year_month_text is_some year_month_text_text YearMonthTextOk (λ w. Some (year_month_text_kept w))
unfolding year_month_text
year_month_text_exact =
    exact_of year_month_text_kept (λ w ok. whole_reads year_month_exact year_month_is (λ t. refl) w.date w.tail ok.date ok.tail tt) (λ l v e.
    let s = whole_sound year_month_exact year_month_is (λ t. refl) l e in
    (record { date = s.0; tail = s.1 }, record { date = s.2; tail = s.3 }, s.4, s.5))

pub month_day_text_exact : Exact MonthDayTextTree (Option (Tailed MonthDayRead)) month_day_text is_some month_day_text_text MonthDayTextOk (λ w. Some (month_day_text_kept w))
unfolding month_day_text
month_day_text_exact =
    exact_of month_day_text_kept (λ w ok. whole_reads month_day_exact month_day_is (λ t. refl) w.day w.tail ok.day ok.tail tt) (λ l v e.
    let s = whole_sound month_day_exact month_day_is (λ t. refl) l e in
    (record { day = s.0; tail = s.1 }, record { day = s.2; tail = s.3 }, s.4, s.5))
