-- The reading definitions invert the grammar of a time and of what says how it stands to UTC.
--     time_exact, utc_exact         what is read is what is kept of a tree of the grammar, whatever may stand after its text; and the other way
--     closed_quiet, utc_quiet       what may stand after a time: the end, `[`, or a UTC part that such a text follows
-- Assumes nothing.
use Prim.Native.Nat.{ℕ, ◌+◌, ◌≤◌}
use native.Mathlib.Omega.{arith}
use mathlib.Core.Bool.{Bool, true, false, cond, false≢true}
use mathlib.Core.Path.{◌≡◌, refl, sym, ◌∙◌, ap}
use mathlib.Core.List.{List, ◌∷◌, ◌++◌}
use lib.Dec.{ltb, eqb}
use lib.ListN.{length, drop, length-map}
use lib.Seq.{drop-drop, drop_at}
use borrow.Author.Tests.{lt-ltb, ltb-true, eqb-true, eqb-false}
use Rattle.std.specs.Prelude.{Option, Some, None, is_some}
use Rattle.text.specs.Walk.{front}
use Rattle.text.specs.Digits.{decimal, shown}
use Rattle.text.specs.Inverse.{Inverse}
use Rattle.names.specs.Grammar.{sign_byte}
use Rattle.names.specs.Field.{field}
use Rattle.names.proofs.FieldLaws.{front-cons, field_text, field_sound}
use Rattle.time_syntax.specs.declared.Seconds.{Seconds}
use Rattle.time_syntax.specs.declared.TimeRead.{TimeRead}
use Rattle.time_syntax.specs.declared.UtcRead.{UtcRead}
use Rattle.time_syntax.specs.Read.{◌>>=◌, run, point_byte, fraction_of, fraction_at, minute_at, seconds_of, seconds_at, second_in, time, past_seconds, past, after_time, zulu_byte, offset_of, shifted, utc, after_utc}
use Rattle.time_syntax.specs.Syntax.{SecsTree, none, whole, part, TimeTree, secs_text, time_text, SecsOk, TimeOk, secs_kept, time_is, time_kept, Quiet, UtcTree, absent, zulu, offset, utc_text, UtcOk, utc_kept, Closed, ended, bracket}
use Rattle.time_syntax.proofs.Bytes.{one_of}
use Rattle.time_syntax.proofs.RunLaws.{run_text, run_sound, fraction-run}

-- ---- what a step that may fail tells where it did not

held : {A : Type 0} (b : Bool) {x k : A} → cond b (Some x) None ≡ Some k → (b ≡ true) × (k ≡ x)
held true e = (refl, cc)
held false e = cc

some : {A B : Type 0} (o : Option A) (f : A → Option B) → is_some (o >>= f) ≡ true → (a : A) × (o ≡ Some a) × (is_some (f a) ≡ true)
some None f e = absurd (false≢true e)
some (Some a) f e = (a, refl, e)

-- ---- what follows the minute

secs_text_lem : (t : SecsTree) (r : List ℕ) → SecsOk t → Quiet r → seconds_at (secs_text t ++ r) ≡ Some (secs_kept t)
unfolding seconds_at fraction_at
secs_text_lem none r o q = rw q.colon
secs_text_lem (whole s) r o q = rw (field_text 0 60 s r (omega arith) (omega arith) o, q.point)
secs_text_lem (part s p ds) r o q =
    rw (
      field_text 0 60 s (p ∷ shown ds ++ r) (omega (arith, o.0)) (omega arith) o.0,
      o.1,
      fraction-run p (shown ds ++ r),
      run_text ds r o.3 q.digit,
      lt-ltb 0 (length ds) o.2,
    )

-- a tree whose text stands at the front of l, of which k was kept
abbrev Stands : (Tree Kept : Type 0) → (Tree → Type 0) → (Tree → Kept) → (Tree → List ℕ) → List ℕ → Kept → Type 0
Stands Tree Kept Ok kept text l k = (t : Tree) × (r : List ℕ) × Ok t × (k ≡ kept t) × (l ≡ text t ++ r)

abbrev SecsStands : List ℕ → Option Seconds → Type 0
SecsStands = Stands SecsTree (Option Seconds) SecsOk secs_kept secs_text

-- the text of the second and a fraction, from what follows the second
after-second : (s : ℕ) (l : List ℕ) {k : Option Seconds} → s ≤ 60 → seconds_of (fraction_at l) s ≡ Some k → SecsStands (58 ∷ decimal 2 s ++ l) k
unfolding fraction_at
after-second s l {k} h e = go (point_byte (front l)) refl e
  where
    go : (t : Bool) → point_byte (front l) ≡ t → seconds_of (cond t (Some (fraction_of (front l) (drop 1 l))) None) s ≡ Some k
        → SecsStands (58 ∷ decimal 2 s ++ l) k
    go false f e = (whole s, l, h, cc, refl)
    go true f e =
        let ds = run (drop 1 l) in
        let d = run_sound (drop 1 l) in
        let h' = held (ltb 0 (length ds)) {x = secs_kept (part s (front l) ds)} (rw (fraction-run (front l) (drop 1 l)) at e) in
        let x = one_of (front l) 46 44 f (λ b. eqb b 0 ≡ false) refl refl in
        let u : l ≡ front l ∷ drop 1 l = front-cons l (eqb-false _ _ x) in
        let v = d.1 in
        (part s (front l) ds, drop (length ds) (drop 1 l), (h, f, ltb-true _ _ h'.0, d.0), h'.1, cc)

secs_sound : (l : List ℕ) {k : Option Seconds} → seconds_at l ≡ Some k → SecsStands l k
unfolding seconds_at
secs_sound l {k} e = go (eqb (front l) 58) refl (field 0 60 (drop 1 l)) refl e
  where
    go : (t : Bool) → eqb (front l) 58 ≡ t → (n : Option ℕ) → field 0 60 (drop 1 l) ≡ n
        → cond t (n >>= seconds_of (fraction_at (drop 3 l))) (Some None) ≡ Some k → SecsStands l k
    go false f n g e = (none, l, tt, cc, refl)
    go true f None g e = cc
    go true f (Some s) g e =
        let n = field_sound 0 60 (drop 1 l) g in
        let x : front l ≡ 58 = eqb-true (front l) 58 f in
        let u : l ≡ front l ∷ drop 1 l = front-cons l (λ z. omega arith) in
        let w : drop 2 (drop 1 l) ≡ drop 3 l = drop-drop 2 1 l in
        let y = n.3 in
        let z : l ≡ 58 ∷ decimal 2 s ++ drop 3 l = cc in
        let a = after-second s (drop 3 l) n.1 e in
        (a.0, a.1, a.2, a.3, z ∙ a.4)

-- ---- the time

time_text_lem : (t : TimeTree) (r : List ℕ) → TimeOk t → Quiet r → time (time_text t ++ r) ≡ time_kept t
unfolding time minute_at time_text time_kept
time_text_lem t r o q =
    rw (
      field_text 0 23 t.hour (58 ∷ decimal 2 t.minute ++ secs_text t.secs ++ r) (omega (arith, o.hour)) (omega arith) o.hour,
      field_text 0 59 t.minute (secs_text t.secs ++ r) (omega (arith, o.minute)) (omega arith) o.minute,
      secs_text_lem t.secs r o.secs q,
    )

time-past : (t : TimeTree) (r : List ℕ) → TimeOk t → after_time (time_kept t) (time_text t ++ r) ≡ r
unfolding time_kept time_text past
time-past t r o = go t.secs o.secs
  where
    go : (s : SecsTree) → SecsOk s → past_seconds (secs_kept s) (secs_text s ++ r) ≡ r
    go none o = refl
    go (whole s) o = refl
    go (part s p ds) o = drop_at (shown ds) r (length ds) (length-map ds (λ d. 48 + d))

minute_sound : (l : List ℕ) {m : ℕ} → minute_at l ≡ Some m → (m ≤ 59) × (l ≡ 58 ∷ decimal 2 m ++ drop 3 l)
unfolding minute_at
minute_sound l {m} e = go (eqb (front l) 58) refl e
  where
    go : (t : Bool) → eqb (front l) 58 ≡ t → cond t (field 0 59 (drop 1 l)) None ≡ Some m → (m ≤ 59) × (l ≡ 58 ∷ decimal 2 m ++ drop 3 l)
    go false f e = cc
    go true f e =
        let n = field_sound 0 59 (drop 1 l) e in
        let x : front l ≡ 58 = eqb-true (front l) 58 f in
        let u : l ≡ front l ∷ drop 1 l = front-cons l (λ z. omega arith) in
        let w : drop 2 (drop 1 l) ≡ drop 3 l = drop-drop 2 1 l in
        let y = n.3 in
        (n.1, cc)

time_of : (l : List ℕ) {h m : ℕ} {s : Option Seconds} → field 0 23 l ≡ Some h → minute_at (drop 2 l) ≡ Some m → seconds_at (drop 5 l) ≡ Some s
    → time l ≡ Some (record { hour = h; minute = m; seconds = s })
unfolding time
time_of l e f g = rw (e, f, g)

time_stands : (l : List ℕ) → is_some (time l) ≡ true → Stands TimeTree (Option TimeRead) TimeOk time_kept time_text l (time l)
unfolding time time_kept time_text
time_stands l e =
    let h = some (field 0 23 l) _ e in
    let m = some (minute_at (drop 2 l)) _ h.2 in
    let s = some (seconds_at (drop 5 l)) _ m.2 in
    let x = field_sound 0 23 l h.1 in
    let y = minute_sound (drop 2 l) m.1 in
    let z = secs_sound (drop 5 l) s.1 in
    let w : drop 3 (drop 2 l) ≡ drop 5 l = drop-drop 3 2 l in
    let u = x.3 in
    let v = y.1 in
    let q = z.4 in (
      record { hour = h.0; minute = m.0; secs = z.0 },
      z.1,
      record { hour = x.1; minute = y.0; secs = z.2 },
      time_of l h.1 m.1 s.1 ∙ ap (λ (s : Option Seconds). Some (record { hour = h.0; minute = m.0; seconds = s })) z.3,
      cc,
    )

-- what was kept fixes what follows: the rest of the text after the tree's own
left : {Tree Kept : Type 0} (Ok : Tree → Type 0) (kept : Tree → Kept) (text : Tree → List ℕ) (after : Kept → List ℕ → List ℕ)
    → ((t : Tree) (r : List ℕ) → Ok t → after (kept t) (text t ++ r) ≡ r) → (l : List ℕ) (k : Kept)
    → Stands Tree Kept Ok kept text l k → (t : Tree) × Ok t × (k ≡ kept t) × (l ≡ text t ++ after k l)
left Ok kept text after p l k (t, r, o, e, x) =
    let y : after k l ≡ r = ap (λ k. after k l) e ∙ ap (after (kept t)) x ∙ p t r o in
    (t, o, e, x ∙ ap (λ (r : List ℕ). text t ++ r) (sym y))

pub time_exact : Inverse TimeTree (Option TimeRead) time is_some after_time time_text TimeOk time_kept Quiet
unfolding time_kept
time_exact =
    record {
      reads = time_text_lem;
      accepts = λ t o. refl;
      passes = time-past;
      sound = λ l e. left TimeOk time_kept time_text after_time time-past l (time l) (time_stands l e);
    }

-- ---- what may stand after a time

pub closed_quiet : {r : List ℕ} → Closed r → Quiet r
closed_quiet ended = record { colon = refl; point = refl; digit = refl }
closed_quiet (bracket l) = record { colon = refl; point = refl; digit = refl }

pub utc_quiet : (u : UtcTree) {r : List ℕ} → UtcOk u → Closed r → Quiet (utc_text u ++ r)
unfolding utc_text
utc_quiet absent o c = closed_quiet c
utc_quiet (zulu b) {r} o c =
    one_of b 90 122 o (λ b. Quiet (b ∷ r)) (record { colon = refl; point = refl; digit = refl }) (record { colon = refl; point = refl; digit = refl })
utc_quiet (offset true t) o c = record { colon = refl; point = refl; digit = refl }
utc_quiet (offset false t) o c = record { colon = refl; point = refl; digit = refl }

-- ---- how a time stands to UTC

-- an offset is read from what is kept of its time
offset_kept : (negative : Bool) (t : TimeTree) → second_in (secs_kept t.secs) ≤ 59 → shifted (time_kept t >>= offset_of negative) ≡ utc_kept (offset negative t)
unfolding time_kept utc_kept
offset_kept negative t h = rw (lt-ltb (second_in (secs_kept t.secs)) 60 (omega arith))

closed_absent : {r : List ℕ} → Closed r → utc r ≡ Some None
unfolding utc
closed_absent ended = refl
closed_absent (bracket l) = refl

utc_text_lem : (u : UtcTree) (r : List ℕ) → UtcOk u → Closed r → utc (utc_text u ++ r) ≡ utc_kept u
unfolding utc utc_text utc_kept
utc_text_lem absent r o c = closed_absent c
utc_text_lem (zulu b) r o c = rw o
utc_text_lem (offset true t) r o c = rw (time_text_lem t r o.0 (closed_quiet c)) (offset_kept true t o.1)
utc_text_lem (offset false t) r o c = rw (time_text_lem t r o.0 (closed_quiet c)) (offset_kept false t o.1)

utc-past : (u : UtcTree) (r : List ℕ) → UtcOk u → after_utc (utc_kept u) (utc_text u ++ r) ≡ r
unfolding utc_text utc_kept time_kept
utc-past absent r o = refl
utc-past (zulu b) r o = refl
utc-past (offset negative t) r o = time-past t r o.0

-- where an offset was read, a time was, and its second is at most 59
good_offset : (negative : Bool) (t : Option TimeRead) → is_some (shifted (t >>= offset_of negative)) ≡ true → is_some t ≡ true
good_offset negative (Some t) e = refl
good_offset negative None e = e

offset_second : (negative : Bool) (t : TimeTree) → is_some (shifted (time_kept t >>= offset_of negative)) ≡ true → second_in (secs_kept t.secs) ≤ 59
unfolding time_kept utc_kept
offset_second negative t e = go (ltb (second_in (secs_kept t.secs)) 60) refl e
  where
    go : (b : Bool) → ltb (second_in (secs_kept t.secs)) 60 ≡ b → is_some (shifted (cond b (Some (record { negative = negative; time = time_is t })) None)) ≡ true
        → second_in (secs_kept t.secs) ≤ 59
    go true f e = omega (arith, ltb-true (second_in (secs_kept t.secs)) 60 f)
    go false f e = absurd (false≢true e)

utc_stands : (l : List ℕ) → is_some (utc l) ≡ true → Stands UtcTree (Option (Option UtcRead)) UtcOk utc_kept utc_text l (utc l)
unfolding utc utc_text utc_kept
utc_stands l e = go (zulu_byte (front l)) refl (sign_byte (front l)) refl e
  where
    go : (z : Bool) → zulu_byte (front l) ≡ z → (s : Bool) → sign_byte (front l) ≡ s
        → is_some (cond z (Some (Some (UtcRead.Z (front l)))) (cond s (shifted (time (drop 1 l) >>= offset_of (eqb (front l) 45))) (Some None))) ≡ true
        → Stands UtcTree (Option (Option UtcRead)) UtcOk utc_kept utc_text l
        (cond z (Some (Some (UtcRead.Z (front l)))) (cond s (shifted (time (drop 1 l) >>= offset_of (eqb (front l) 45))) (Some None)))
    go true f s g e =
        let x : eqb (front l) 0 ≡ false = one_of (front l) 90 122 f (λ b. eqb b 0 ≡ false) refl refl in
        (zulu (front l), drop 1 l, f, refl, front-cons l (eqb-false _ _ x))
    go false f true g e =
        let negative = eqb (front l) 45 in
        let x : eqb (front l) 0 ≡ false = one_of (front l) 43 45 g (λ b. eqb b 0 ≡ false) refl refl in
        let y : cond (eqb (front l) 45) 45 43 ≡ front l = one_of (front l) 43 45 g (λ b. cond (eqb b 45) 45 43 ≡ b) refl refl in
        let t = time_stands (drop 1 l) (good_offset negative (time (drop 1 l)) e) in
        let h = offset_second negative t.0 (ap (λ (k : Option TimeRead). is_some (shifted (k >>= offset_of negative))) (sym t.3) ∙ e) in
        let u : l ≡ front l ∷ drop 1 l = front-cons l (eqb-false _ _ x) in
        let v = t.4 in
        (offset negative t.0, t.1, (t.2, h), ap (λ (k : Option TimeRead). shifted (k >>= offset_of negative)) t.3 ∙ offset_kept negative t.0 h, cc)
    go false f false g e = (absent, l, tt, refl, refl)

pub utc_exact : Inverse UtcTree (Option (Option UtcRead)) utc is_some after_utc utc_text UtcOk utc_kept Closed
unfolding utc_kept
utc_exact =
    record {
      reads = utc_text_lem;
      accepts = utc_good_lem;
      passes = utc-past;
      sound = λ l e. left UtcOk utc_kept utc_text after_utc utc-past l (utc l) (utc_stands l e);
    }
  where
    utc_good_lem : (u : UtcTree) → UtcOk u → is_some (utc_kept u) ≡ true
    utc_good_lem absent o = refl
    utc_good_lem (zulu b) o = refl
    utc_good_lem (offset negative t) o = refl
