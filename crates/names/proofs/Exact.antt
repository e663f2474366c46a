-- The scanner takes exactly the names of document 01, and the public checks accept exactly those of 1 to 64 bytes inside the text.
--     key_reads, calendar_reads, zone_reads      for the reader, as the record `Reads`: the run takes a name up to the end or the stop byte
--                                                (`zone_reads.text n (93 ∷ r) h refl`), what it takes is a name, and no name is empty
--     key_exact, calendar_exact, zone_exact      a text is a name exactly if it is not empty and the run takes all of it
--     calendar_name_exact, zone_name_exact       what the public checks say yes to
--     key_no_zone                                a key up to its `=` is not read as a zone's name up to a `]`
-- Assumes nothing.
use Prim.Native.Nat.{ℕ, zero, suc, ◌+◌, ◌≤◌, ◌<◌}
use native.Mathlib.Omega.{arith}
use mathlib.Core.Bool.{Bool, true, false, cond, false≢true}
use mathlib.Core.Logic.{◌↔◌}
use mathlib.Core.Path.{◌≡◌, refl, sym, ◌∙◌, ap}
use mathlib.Core.List.{List, [], ◌∷◌, ◌++◌, append-nil}
use lib.ListN.{length, take, drop, length-drop}
use lib.Seq.{take-length, length-take-le, drop-drop}
use lib.Dec.{eqb}
use borrow.Author.Tests.{le-leb, eq-eqb, ne_eqb, eqb-true, leb-true}
use Rattle.std.specs.Prelude.{Option, Some, None}
use Rattle.std.specs.Bool.{then_some}
use Rattle.text.specs.Walk.{front}
use Rattle.text.specs.Digits.{decimal}
use Rattle.text.proofs.Answers.{both}
use Rattle.names.specs.Grammar.{key_byte, sign_byte, All, Joined, ZonePart, ZoneName, numeric, named, CalendarName, Key}
use Rattle.names.specs.declared.scan.State.{State}
use Rattle.names.specs.declared.scan.State.TheVariants.{Start, Whole, Dot, Dots}
use Rattle.names.specs.Scan.{word_step, join_step, dot_step, key_step, run_step, part_step, value_step, zone_step, run_of, key_run, calendar_run, numeric_of, numeric_run, zone_run}
use Rattle.names.specs.Name.{name_inside, took, name_ok, zone_name_ok, calendar_name_ok}
use Rattle.names.proofs.Machine.{runs, runs_less, Stops, run_text, run_sound, before_mark}
use Rattle.names.proofs.Names.{key_machine, value_machine, zone_machine}
use Rattle.names.proofs.FieldLaws.{front-cons, field_text, field_sound}

-- a text has ended, or goes on with the stop byte
abbrev pub Ended : ℕ → List ℕ → Type 0
Ended stop [] = Unit {0}
Ended stop (b ∷ r) = b ≡ stop

pub record Reads (run : List ℕ → Option ℕ) (Name : List ℕ → Type 0) (stop : ℕ) : Type 0 where
  pub text : (n r : List ℕ) → Name n → Ended stop r → run (n ++ r) ≡ Some (length n)
  pub sound : (l : List ℕ) {k : ℕ} → run l ≡ Some k → Name (take k l) × (k ≤ length l)
  pub some : (n : List ℕ) → Name n → 0 < length n

-- ---- what follows for each kind
took_true : (o : Option ℕ) (n : ℕ) → took o n ≡ true → o ≡ Some n
took_true (Some m) n e = ap Some (eqb-true m n e)
took_true None n e = absurd (false≢true e)

module _ {run : List ℕ → Option ℕ} {Name : List ℕ → Type 0} {stop : ℕ} (r : Reads run Name stop) where
  exact_of : (l : List ℕ) → Name l ↔ ((0 < length l) × (run l ≡ Some (length l)))
  exact_of l = (
    λ n. (r.some l n, ap run (sym (append-nil l)) ∙ r.text l [] n tt),
    λ w. rw (take-length l) at (r.sound l w.1).0,
  )

  name_exact_of : (l : List ℕ) (at len : ℕ) → (name_ok run l at len ≡ true) ↔ ((1 ≤ len) × (len ≤ 64) × (at + len ≤ length l) × Name (take len (drop at l)))
  unfolding name_ok name_inside
  name_exact_of l at len = (
    λ e.
        let p = both _ _ e in
        let q = both _ _ p.0 in
        let s = both _ _ q.0 in
        let a = leb-true (at + len) (length l) s.0 in
        let b = leb-true 1 len s.1 in
        (b, leb-true len 64 q.1, a, (exact_of _).1 (omega (arith, size a), took_true _ len p.1 ∙ ap Some (sym (size a)))),
    λ w.
        rw (le-leb (at + len) (length l) w.2, le-leb 1 len w.0, le-leb len 64 w.1)
        (ap (λ (o : Option ℕ). took o len) ((exact_of _).0 w.3).1 ∙ eq-eqb _ _ (size w.2)),
  )
    where
      size : at + len ≤ length l → length (take len (drop at l)) ≡ len
      size h = length-take-le len (drop at l) (omega (arith, length-drop at l))

-- ---- a kind of name that one machine takes
machine_reads : (f : State → ℕ → Option State) (Name : List ℕ → Type 0) (stop : ℕ) → ((l : List ℕ) → Name l ↔ (runs f l Start ≡ Some Whole)) → f Whole stop ≡ None → Reads (run_of f) Name stop
machine_reads f Name stop exact s =
    record {
      text = λ n r h e. run_text f n r ((exact n).0 h) (stops r e);
      sound = λ l {k} e. (let a = run_sound f l e in ((exact _).1 a.0, a.1));
      some = some;
    }
  where
    stops : (r : List ℕ) → Ended stop r → Stops f Whole r
    stops [] e = tt
    stops (b ∷ r) e = ap (f Whole) e ∙ s

    some : (n : List ℕ) → Name n → 0 < length n
    some [] h = let z = (exact []).0 h in absurd (cc)
    some (b ∷ n) h = omega arith

pub key_reads : Reads key_run Key 61
unfolding key_run key_step word_step
key_reads = machine_reads key_step Key 61 key_machine refl

pub calendar_reads : Reads calendar_run CalendarName 93
unfolding calendar_run value_step join_step run_step word_step
calendar_reads = machine_reads value_step CalendarName 93 value_machine refl

parts_reads : Reads (run_of zone_step) (Joined ZonePart 47) 93
unfolding zone_step join_step part_step dot_step word_step
parts_reads = machine_reads zone_step (Joined ZonePart 47) 93 zone_machine refl

-- ---- zones: a sign, and `HH:MM` after it, or parts
numeric_text : (s h m : ℕ) (r : List ℕ) → sign_byte s ≡ true → h ≤ 23 → m ≤ 59 → zone_run ((s ∷ decimal 2 h ++ (58 ∷ decimal 2 m)) ++ r) ≡ Some 6
unfolding zone_run numeric_run numeric_of
numeric_text s h m r e p q =
    rw (e, field_text 0 23 h (58 ∷ decimal 2 m ++ r) (omega arith) (omega arith) p, field_text 0 59 m r (omega arith) (omega arith) q)

passed : (t : Bool) {k : ℕ} → then_some t 6 ≡ Some k → (t ≡ true) × (k ≡ 6)
passed true e = (refl, cc)
passed false e = absurd (cc)

numeric_of_inv : (x : Option ℕ) (b : ℕ) (y : Option ℕ) {k : ℕ} → numeric_of x b y ≡ Some k → (h : ℕ) × (m : ℕ) × (x ≡ Some h) × (b ≡ 58) × (y ≡ Some m) × (k ≡ 6)
unfolding numeric_of
numeric_of_inv (Some h) b (Some m) e = let p = passed (eqb b 58) e in (h, m, refl, eqb-true b 58 p.0, refl, p.1)
numeric_of_inv (Some h) b None e = absurd (cc)
numeric_of_inv None b y e = absurd (cc)

numeric_sound : (l : List ℕ) {k : ℕ} → sign_byte (front l) ≡ true → numeric_run l ≡ Some k → ZoneName (take k l) × (k ≤ length l)
unfolding numeric_run
numeric_sound l {k} s e =
    let i = numeric_of_inv _ _ _ e in
    let h = i.0 in
    let m = i.1 in
    let a = field_sound 0 23 (drop 1 l) i.2 in
    let b = field_sound 0 59 (drop 4 l) i.4 in
    let c = i.3 in
    let u : l ≡ front l ∷ drop 1 l = front-cons l (λ z. false≢true (rw z at s)) in
    let v : drop 1 l ≡ decimal 2 h ++ drop 2 (drop 1 l) = a.3 in
    let w : drop 2 (drop 1 l) ≡ drop 3 l = drop-drop 2 1 l in
    let x : drop 3 l ≡ front (drop 3 l) ∷ drop 1 (drop 3 l) = front-cons (drop 3 l) (λ z. omega arith) in
    let y : drop 1 (drop 3 l) ≡ drop 4 l = drop-drop 1 3 l in
    let z : drop 4 l ≡ decimal 2 m ++ drop 2 (drop 4 l) = b.3 in
    let t : l ≡ (front l ∷ decimal 2 h ++ (58 ∷ decimal 2 m)) ++ drop 2 (drop 4 l) = cc in
    let f : take 6 l ≡ front l ∷ decimal 2 h ++ (58 ∷ decimal 2 m) = ap (take 6) t in
    rw i.5 (rw f (numeric s a.1 b.1), omega (arith, ap length t))

-- a name of parts does not start with a sign
no_sign : (b : ℕ) → (b ≡ 43 → ⊥) → (b ≡ 45 → ⊥) → sign_byte b ≡ false
no_sign b p q = rw (ne_eqb b 43 p, ne_eqb b 45 q)

parts_sign : (n r : List ℕ) → runs zone_step n Start ≡ Some Whole → sign_byte (front (n ++ r)) ≡ false
unfolding zone_step join_step part_step dot_step word_step
parts_sign [] r h = absurd (cc)
parts_sign (b ∷ n) r h =
    let i = runs_less zone_step b n Start h in
    no_sign b (λ z. stopped z i.1 refl) (λ z. stopped z i.1 refl)
  where
    stopped : {c : ℕ} {m : State} → b ≡ c → zone_step Start b ≡ Some m → zone_step Start c ≡ None → ⊥
    stopped z e g = let y = ap (zone_step Start) z in cc

zone_text_lem : (n r : List ℕ) → ZoneName n → Ended 93 r → zone_run (n ++ r) ≡ Some (length n)
unfolding zone_run
zone_text_lem n r (numeric {s} {h} {m} e p q) d = numeric_text s h m r e p q
zone_text_lem n r (named j) d = rw (parts_sign n r ((zone_machine n).0 j)) (parts_reads.text n r j d)

pub zone_reads : Reads zone_run ZoneName 93
unfolding zone_run
zone_reads =
    record {
      text = zone_text_lem;
      sound = λ l {k} e. sound l k (sign_byte (front l)) refl e;
      some = some;
    }
  where
    sound : (l : List ℕ) (k : ℕ) (t : Bool) → sign_byte (front l) ≡ t → cond t (numeric_run l) (run_of zone_step l) ≡ Some k
        → ZoneName (take k l) × (k ≤ length l)
    sound l k true s e = numeric_sound l s e
    sound l k false s e = let p = parts_reads.sound l e in (named p.0, p.1)

    some : (n : List ℕ) → ZoneName n → 0 < length n
    some n (numeric e p q) = omega arith
    some n (named j) = parts_reads.some n j

-- ---- the theorems
pub key_exact : (l : List ℕ) → Key l ↔ ((0 < length l) × (key_run l ≡ Some (length l)))
key_exact = exact_of key_reads

pub calendar_exact : (l : List ℕ) → CalendarName l ↔ ((0 < length l) × (calendar_run l ≡ Some (length l)))
calendar_exact = exact_of calendar_reads

pub zone_exact : (l : List ℕ) → ZoneName l ↔ ((0 < length l) × (zone_run l ≡ Some (length l)))
zone_exact = exact_of zone_reads

pub calendar_name_exact : (l : List ℕ) (at len : ℕ)
    → (calendar_name_ok l at len ≡ true) ↔ ((1 ≤ len) × (len ≤ 64) × (at + len ≤ length l) × CalendarName (take len (drop at l)))
unfolding calendar_name_ok
calendar_name_exact = name_exact_of calendar_reads

pub zone_name_exact : (l : List ℕ) (at len : ℕ)
    → (zone_name_ok l at len ≡ true) ↔ ((1 ≤ len) × (len ≤ 64) × (at + len ≤ length l) × ZoneName (take len (drop at l)))
unfolding zone_name_ok
zone_name_exact = name_exact_of zone_reads

-- ---- the one place where the reading grammar looks ambiguous: `[` of a zone or of an annotation
zone_stops : (q : State) → zone_step q 61 ≡ None
unfolding zone_step join_step part_step dot_step word_step
zone_stops Start = refl
zone_stops Whole = refl
zone_stops Dot = refl
zone_stops Dots = refl

-- the bytes of a key, and its `=`, are no `]`
no_close : (k r : List ℕ) (n : ℕ) → All key_byte k → n ≤ length k → front (drop n (k ++ (61 ∷ r))) ≡ 93 → ⊥
no_close [] r zero a h e = omega arith
no_close [] r (suc n) a h e = omega arith
no_close (b ∷ k) r zero a h e = false≢true (rw e at a.0)
no_close (b ∷ k) r (suc n) a h e = no_close k r n a.1 (omega arith) e

pub key_no_zone : (k r : List ℕ) {n : ℕ} → Key k → zone_run (k ++ (61 ∷ r)) ≡ Some n → front (drop n (k ++ (61 ∷ r))) ≡ 93 → ⊥
unfolding zone_run
key_no_zone [] r h e = absurd h
key_no_zone (b ∷ k) r {n} h e =
    let s = no_sign b (λ z. false≢true (rw z at h.0)) (λ z. false≢true (rw z at h.0)) in
    let p : run_of zone_step (b ∷ k ++ (61 ∷ r)) ≡ Some n = rw s at e in
    no_close (b ∷ k) r n (rw h.0, h.1) (before_mark zone_step 61 zone_stops (b ∷ k) r n Start (run_sound zone_step (b ∷ k ++ (61 ∷ r)) p).0)
