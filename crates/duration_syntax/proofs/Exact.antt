-- The reading definitions invert the grammar of a duration.
--     duration_exact     what is read of a whole text is what is kept of a tree of the grammar, and the other way
-- Assumes nothing.
use Prim.Native.Nat.{ℕ, ◌≤◌}
use native.Mathlib.Omega.{arith}
use mathlib.Core.Bool.{Bool, true, false, cond, not, ◌&&◌, ◌||◌, false≢true}
use mathlib.Core.Path.{◌≡◌, refl, sym, ◌∙◌, ap}
use mathlib.Core.List.{List, [], ◌∷◌, ◌++◌, append_assoc, append-nil}
use lib.Dec.{eqb}
use lib.ListN.{length, drop}
use borrow.Author.Tests.{eq-eqb, ne_eqb, eqb-true, eqb-false}
use Rattle.std.specs.Prelude.{Option, Some, None, is_some}
use Rattle.std.specs.Char.{to_ascii_uppercase}
use Rattle.text.specs.Walk.{front}
use Rattle.text.specs.Inverse.{Exact}
use Rattle.text.proofs.Answers.{both}
use Rattle.names.specs.Grammar.{digit_byte, sign_byte}
use Rattle.names.proofs.FieldLaws.{front-cons}
use Rattle.time_syntax.proofs.Bytes.{one_of}
use Rattle.duration_syntax.specs.declared.part.Part.{Part}
use Rattle.duration_syntax.specs.declared.raw.DateParts.{DateParts}
use Rattle.duration_syntax.specs.declared.raw.TimeParts.{TimeParts}
use Rattle.duration_syntax.specs.declared.raw.DurationRaw.{DurationRaw}
use Rattle.duration_syntax.specs.Read.{part_at, past_part, date_at, after_date, time_parts_at, time_at, after_time, sign_at, after_sign, in_date, some_time, whole_time, duration_fits, duration_of, duration_from, duration}
use Rattle.duration_syntax.specs.Syntax.{PartTree, absent, whole, fractional, part_text, PartOk, part_kept, present, DateTree, date_text, DateOk, date_kept, date_some, TimeTree, none, marked, time_text, TimeOk, time_kept, time_some, SignTree, unsigned, signed, sign_text, SignOk, sign_kept, DurationTree, duration_text, DurationOk, duration_kept}
use Rattle.duration_syntax.proofs.PartLaws.{letter_past, letter_digit, letter_some, part_exact, part_quiet, part_other}

-- ---- parts in a row, each of another unit: each is read in its turn, and what follows it is what is left

pub record Slot : Type 0 where
  pub upper : ℕ
  pub may : Bool
  pub tree : PartTree

abbrev slot : ℕ → Bool → PartTree → Slot
slot upper may tree = record { upper = upper; may = may; tree = tree }

abbrev texts : List Slot → List ℕ → List ℕ
texts [] r = r
texts (s ∷ ss) r = part_text s.tree ++ texts ss r

-- none of them is of this unit
abbrev others : ℕ → List Slot → Bool
others upper [] = true
others upper (s ∷ ss) = not (eqb s.upper upper) && others upper ss

abbrev Row : List Slot → Type 0
Row [] = Unit {0}
Row (s ∷ ss) = (65 ≤ s.upper) × PartOk s.upper s.may s.tree × (others s.upper ss ≡ true) × Row ss

differs : (a b : ℕ) → not (eqb a b) ≡ true → a ≡ b → ⊥
differs a b e f = false≢true (rw (eq-eqb a b f) at e)

module _ (r : List ℕ) (q : digit_byte (front r) ≡ false) where
  row_none : (upper : ℕ) (may : Bool) (ss : List Slot) → 65 ≤ upper → others upper ss ≡ true → Row ss
      → part_at upper may (texts ss r) ≡ None
  row_none upper may [] h e o = part_quiet upper may r q
  row_none upper may (s ∷ ss) h e o =
      let b = both (not (eqb s.upper upper)) (others upper ss) e in
      part_other upper may s.upper s.may h o.0 (differs _ _ b.0) s.tree (texts ss r) o.1 (row_none upper may ss h b.1 o.3)

  module _ (s : Slot) (ss : List Slot) (o : Row (s ∷ ss)) where
    reads : part_at s.upper s.may (texts (s ∷ ss) r) ≡ part_kept s.tree
    reads = (part_exact s.upper s.may o.0).reads s.tree (texts ss r) o.1 (row_none s.upper s.may ss o.0 o.2 o.3)

    passes : past_part s.upper s.may (texts (s ∷ ss) r) ≡ texts ss r
    passes = rw reads ((part_exact s.upper s.may o.0).passes s.tree (texts ss r) o.1)

-- ---- the date

module _ (d : DateTree) where
  abbrev days_on : List Slot
  days_on = slot 68 false d.days ∷ []

  abbrev weeks_on : List Slot
  weeks_on = slot 87 false d.weeks ∷ days_on

  abbrev months_on : List Slot
  months_on = slot 77 false d.months ∷ weeks_on

  abbrev years_on : List Slot
  years_on = slot 89 false d.years ∷ months_on

  date_split : (r : List ℕ) → date_text d ++ r ≡ texts years_on r
  date_split r = simp append_assoc

  date_text_lem : (r : List ℕ) → DateOk d → digit_byte (front r) ≡ false → date_at (date_text d ++ r) ≡ date_kept d
  unfolding date_at
  date_text_lem r o q =
      let o₃ : Row days_on = (omega arith, o.days, refl, tt) in
      let o₂ : Row weeks_on = (omega arith, o.weeks, refl, o₃) in
      let o₁ : Row months_on = (omega arith, o.months, refl, o₂) in
      let o₀ : Row years_on = (omega arith, o.years, refl, o₁) in
      ap date_at (date_split r)
      ∙ rw (
        passes r q (slot 89 false d.years) months_on o₀,
        passes r q (slot 77 false d.months) weeks_on o₁,
        passes r q (slot 87 false d.weeks) days_on o₂,
        reads r q (slot 89 false d.years) months_on o₀,
        reads r q (slot 77 false d.months) weeks_on o₁,
        reads r q (slot 87 false d.weeks) days_on o₂,
        reads r q (slot 68 false d.days) [] o₃,
      )

  date-past : (r : List ℕ) → DateOk d → after_date (date_kept d) (date_text d ++ r) ≡ r
  unfolding after_date
  date-past r o =
      ap (after_date (date_kept d)) (date_split r)
      ∙ rw (
        (part_exact 89 false (omega arith)).passes d.years (texts months_on r) o.years,
        (part_exact 77 false (omega arith)).passes d.months (texts weeks_on r) o.months,
        (part_exact 87 false (omega arith)).passes d.weeks (texts days_on r) o.weeks,
        (part_exact 68 false (omega arith)).passes d.days r o.days,
      )

date_sound : (l : List ℕ) → (d : DateTree) × DateOk d × (date_at l ≡ date_kept d) × (l ≡ date_text d ++ after_date (date_at l) l)
unfolding date_at after_date
date_sound l =
    let l₁ = past_part 89 false l in
    let l₂ = past_part 77 false l₁ in
    let l₃ = past_part 87 false l₂ in
    let y = (part_exact 89 false (omega arith)).sound l refl in
    let m = (part_exact 77 false (omega arith)).sound l₁ refl in
    let w = (part_exact 87 false (omega arith)).sound l₂ refl in
    let d = (part_exact 68 false (omega arith)).sound l₃ refl in
    let tree : DateTree = record { years = y.0; months = m.0; weeks = w.0; days = d.0 } in
    let e₀ = y.2 in
    let e₁ = m.2 in
    let e₂ = w.2 in
    let e₃ = d.2 in
    let f₀ = y.3 in
    let f₁ = m.3 in
    let f₂ = w.3 in
    let f₃ = d.3 in
    let s = date_split tree (past_part 68 false l₃) in
    (tree, record { years = y.1; months = m.1; weeks = w.1; days = d.1 }, cc, cc)

-- ---- the time

module _ (h m s : PartTree) where
  abbrev seconds_on : List Slot
  seconds_on = slot 83 true s ∷ []

  abbrev minutes_on : List Slot
  minutes_on = slot 77 false m ∷ seconds_on

  abbrev hours_on : List Slot
  hours_on = slot 72 false h ∷ minutes_on

-- what may stand after a time: no digit and no `T`
pub record Quiet (r : List ℕ) : Type 0 where
  pub digit : digit_byte (front r) ≡ false
  pub mark : eqb (to_ascii_uppercase (front r)) 84 ≡ false

time_split : (b : ℕ) (h m s : PartTree) (r : List ℕ) → time_text (marked b h m s) ++ r ≡ b ∷ texts (hours_on h m s) r
time_split b h m s r = simp append_assoc

time_text_lem : (t : TimeTree) (r : List ℕ) → TimeOk t → Quiet r → time_at (time_text t ++ r) ≡ time_kept t
unfolding time_at time_parts_at
time_text_lem none r o q = rw q.mark
time_text_lem (marked b h m s) r o q =
    let o₂ : Row (seconds_on h m s) = (omega arith, o.seconds, refl, tt) in
    let o₁ : Row (minutes_on h m s) = (omega arith, o.minutes, refl, o₂) in
    let o₀ : Row (hours_on h m s) = (omega arith, o.hours, refl, o₁) in
    ap time_at (time_split b h m s r)
    ∙ rw (
      eq-eqb (to_ascii_uppercase b) 84 o.mark,
      passes r q.digit (slot 72 false h) (minutes_on h m s) o₀,
      passes r q.digit (slot 77 false m) (seconds_on h m s) o₁,
      reads r q.digit (slot 72 false h) (minutes_on h m s) o₀,
      reads r q.digit (slot 77 false m) (seconds_on h m s) o₁,
      reads r q.digit (slot 83 true s) [] o₂,
    )

time-past : (t : TimeTree) (r : List ℕ) → TimeOk t → after_time (time_kept t) (time_text t ++ r) ≡ r
time-past none r o = refl
time-past (marked b h m s) r o =
    ap (after_time (time_kept (marked b h m s))) (time_split b h m s r)
    ∙ rw (
      (part_exact 72 false (omega arith)).passes h (texts (minutes_on h m s) r) o.hours,
      (part_exact 77 false (omega arith)).passes m (texts (seconds_on h m s) r) o.minutes,
      (part_exact 83 true (omega arith)).passes s r o.seconds,
    )

there_kept : (t : PartTree) → is_some (part_kept t) ≡ present t
unfolding part_kept
there_kept absent = refl
there_kept (whole ds b) = refl
there_kept (fractional ds p fs b) = refl

kept_there : {k : Option Part} (t : PartTree) → k ≡ part_kept t → is_some k ≡ present t
kept_there t e = ap (λ (k : Option Part). is_some k) e ∙ there_kept t

time-some : {h m s : Option Part} (t u v : PartTree) → h ≡ part_kept t → m ≡ part_kept u → s ≡ part_kept v
    → (is_some h || is_some m || is_some s) ≡ (present t || present u || present v)
time-some t u v e f g = rw (kept_there t e, kept_there u f, kept_there v g)

time_sound : (l : List ℕ) → whole_time (time_at l) ≡ true
    → (t : TimeTree) × TimeOk t × (time_at l ≡ time_kept t) × (l ≡ time_text t ++ after_time (time_at l) l)
unfolding time_at time_parts_at
time_sound l g = go (eqb (to_ascii_uppercase (front l)) 84) refl g
  where
    go : (t : Bool) → eqb (to_ascii_uppercase (front l)) 84 ≡ t → whole_time (cond t (Some (time_parts_at (front l) (drop 1 l))) None) ≡ true
        → (u : TimeTree) × TimeOk u × (cond t (Some (time_parts_at (front l) (drop 1 l))) None ≡ time_kept u)
        × (l ≡ time_text u ++ after_time (cond t (Some (time_parts_at (front l) (drop 1 l))) None) l)
    go false e g = (none, tt, refl, refl)
    go true e g =
        let b = front l in
        let k = eqb-true (to_ascii_uppercase b) 84 e in
        let z = letter_some b (omega arith) k in
        let l₀ = drop 1 l in
        let l₁ = past_part 72 false l₀ in
        let l₂ = past_part 77 false l₁ in
        let h = (part_exact 72 false (omega arith)).sound l₀ refl in
        let m = (part_exact 77 false (omega arith)).sound l₁ refl in
        let s = (part_exact 83 true (omega arith)).sound l₂ refl in
        let e₀ = h.2 in
        let e₁ = m.2 in
        let e₂ = s.2 in
        let f₀ = h.3 in
        let f₁ = m.3 in
        let f₂ = s.3 in
        let x : l ≡ b ∷ l₀ = front-cons l (eqb-false _ _ z) in
        let y = time_split b h.0 m.0 s.0 (past_part 83 true l₂) in
        let some = sym (time-some h.0 m.0 s.0 e₀ e₁ e₂) ∙ g in
        (marked b h.0 m.0 s.0, record { mark = k; hours = h.1; minutes = m.1; seconds = s.1; some = some }, cc, cc)

-- ---- the sign

sign_text_lem : (s : SignTree) (l : List ℕ) → SignOk s → sign_byte (front l) ≡ false
    → (sign_at (sign_text s ++ l) ≡ sign_kept s) × (after_sign (sign_kept s) (sign_text s ++ l) ≡ l)
unfolding sign_at
sign_text_lem unsigned l o q = (rw q, refl)
sign_text_lem (signed b) l o q = (rw o, refl)

sign_sound : (l : List ℕ) → (s : SignTree) × SignOk s × (sign_at l ≡ sign_kept s) × (l ≡ sign_text s ++ after_sign (sign_at l) l)
unfolding sign_at
sign_sound l = go (sign_byte (front l)) refl
  where
    go : (t : Bool) → sign_byte (front l) ≡ t
        → (s : SignTree) × SignOk s × (cond t (Some (front l)) None ≡ sign_kept s) × (l ≡ sign_text s ++ after_sign (cond t (Some (front l)) None) l)
    go false e = (unsigned, tt, refl, refl)
    go true e =
        let z : eqb (front l) 0 ≡ false = one_of (front l) 43 45 e (λ b. eqb b 0 ≡ false) refl refl in
        (signed (front l), e, refl, front-cons l (eqb-false _ _ z))

letter_sign : {upper : ℕ} (b : ℕ) → 65 ≤ upper → to_ascii_uppercase b ≡ upper → sign_byte b ≡ false
letter_sign b h e =
    let k = letter_past b h e in
    rw (ne_eqb b 43 (λ z. omega arith), ne_eqb b 45 (λ z. omega arith))

-- ---- the whole

date-some : (d : DateTree) → in_date (date_kept d) ≡ date_some d
date-some d = rw (there_kept d.years, there_kept d.months, there_kept d.weeks, there_kept d.days)

time_in : (t : TimeTree) → TimeOk t → some_time (time_kept t) ≡ time_some t
time_in none o = refl
time_in (marked b h m s) o = time-some h m s refl refl refl ∙ o.some

time-good : (t : TimeTree) → TimeOk t → whole_time (time_kept t) ≡ true
time-good none o = refl
time-good (marked b h m s) o = time_in (marked b h m s) o

-- at least one part: as the reader finds it, and as the grammar has it
some_part : {p : DateParts} {q : Option TimeParts} (d : DateTree) (t : TimeTree) → p ≡ date_kept d → q ≡ time_kept t → TimeOk t
    → (in_date p || some_time q) ≡ (date_some d || time_some t)
some_part d t e f o = rw (ap in_date e ∙ date-some d, ap some_time f ∙ time_in t o)

time-front : (t : TimeTree) → TimeOk t → digit_byte (front (time_text t)) ≡ false
time-front none o = refl
time-front (marked b h m s) o = letter_digit b (omega arith) o.mark

time-whole : (t : TimeTree) → TimeOk t → time_at (time_text t) ≡ time_kept t
time-whole t o = ap time_at (sym (append-nil (time_text t))) ∙ time_text_lem t [] o (record { digit = refl; mark = refl })

time_end : (t : TimeTree) → TimeOk t → after_time (time_kept t) (time_text t) ≡ []
time_end t o = ap (after_time (time_kept t)) (sym (append-nil (time_text t))) ∙ time-past t [] o

from_text : (s : Option ℕ) (p : ℕ) (d : DateTree) (t : TimeTree) → to_ascii_uppercase p ≡ 80 → DateOk d → TimeOk t → (date_some d || time_some t) ≡ true
    → duration_from s (p ∷ date_text d ++ time_text t) ≡ Some (record { sign = s; start = p; date = date_kept d; time = time_kept t })
unfolding duration_from duration_of duration_fits
from_text s p d t e o q some =
    rw (
      date_text_lem d (time_text t) o (time-front t q),
      date-past d (time_text t) o,
      time-whole t q,
      time_end t q,
      eq-eqb (to_ascii_uppercase p) 80 e,
      some_part d t refl refl q ∙ some,
      time-good t q,
    )

duration_text_lem : (t : DurationTree) → DurationOk t → duration (duration_text t) ≡ duration_kept t
unfolding duration duration_text duration_kept
duration_text_lem t o =
    let s = sign_text_lem t.sign (t.start ∷ date_text t.date ++ time_text t.time) o.sign (letter_sign t.start (omega arith) o.start) in
    rw (s.0, s.1) (from_text (sign_kept t.sign) t.start t.date t.time o.start o.date o.time o.some)

no_bytes : (l : List ℕ) → length l ≡ 0 → l ≡ []
no_bytes [] e = refl
no_bytes (b ∷ l) e = absurd (omega arith)

good_fits : (t : Bool) (d : DurationRaw) → is_some (cond t (Some d) None) ≡ true → (t ≡ true) × (cond t (Some d) None ≡ Some d)
good_fits true d e = (refl, refl)
good_fits false d e = absurd (false≢true e)

-- what was read after the sign, from the parts of it that stand there
from_sound : (s : Option ℕ) (l : List ℕ) → is_some (duration_from s l) ≡ true
    → (d : DateTree) × (t : TimeTree) × (to_ascii_uppercase (front l) ≡ 80) × DateOk d × TimeOk t × ((date_some d || time_some t) ≡ true) × (l ≡ front l ∷ date_text d ++ time_text t)
    × (duration_from s l ≡ Some (record { sign = s; start = front l; date = date_kept d; time = time_kept t }))
unfolding duration_from duration_of duration_fits
from_sound s l g =
    let l₁ = drop 1 l in
    let l₂ = after_date (date_at l₁) l₁ in
    let l₃ = after_time (time_at l₂) l₂ in
    let raw : DurationRaw = record { sign = s; start = front l; date = date_at l₁; time = time_at l₂ } in
    let (f, is) = good_fits (duration_fits raw (length l₃)) raw g in
    let (a, none_left) = both _ _ f in
    let (b, good) = both _ _ a in
    let (c, some) = both _ _ b in
    let k = eqb-true (to_ascii_uppercase (front l)) 80 c in
    let d = date_sound l₁ in
    let t = time_sound l₂ good in
    let e₀ = d.2 in
    let e₁ = t.2 in
    let x : l ≡ front l ∷ l₁ = front-cons l (eqb-false _ _ (letter_some (front l) (omega arith) k)) in
    let y : l₁ ≡ date_text d.0 ++ l₂ = d.3 in
    let n : l₃ ≡ [] = no_bytes l₃ (eqb-true _ _ none_left) in
    let z : l₂ ≡ time_text t.0 = t.3 ∙ ap (λ (r : List ℕ). time_text t.0 ++ r) n ∙ append-nil (time_text t.0) in (
      d.0,
      t.0,
      k,
      d.1,
      t.1,
      sym (some_part d.0 t.0 e₀ e₁ t.1) ∙ some,
      cc,
      cc,
    )

duration_sound : (l : List ℕ) → is_some (duration l) ≡ true
    → (t : DurationTree) × DurationOk t × (duration l ≡ duration_kept t) × (l ≡ duration_text t)
unfolding duration duration_text duration_kept
duration_sound l g =
    let s = sign_sound l in
    let l₁ = after_sign (sign_at l) l in
    let f = from_sound (sign_at l) l₁ g in
    let e₀ = s.2 in
    let x = s.3 in
    let y = f.6 in
    let z = f.7 in (
      record { sign = s.0; start = front l₁; date = f.0; time = f.1 },
      record { sign = s.1; start = f.2; date = f.3; time = f.4; some = f.5 },
      cc,
      cc,
    )

pub duration_exact : Exact DurationTree (Option DurationRaw) duration is_some duration_text DurationOk duration_kept
unfolding duration_kept
duration_exact = record { reads = duration_text_lem; accepts = λ t o. refl; sound = duration_sound }
