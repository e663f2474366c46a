-- The part of one unit is read exactly, once over the unit's letter and over whether a fraction may stand there.
--     part_exact     what is read is what is kept of a tree of the grammar, and the other way
--     part_quiet     where no digit stands there is no part
--     part_other     a part of another unit is none of this one
-- Assumes nothing.
use Prim.Native.Nat.{ℕ, ◌+◌, ◌-◌, ◌≤◌, ◌<◌}
use native.Mathlib.Omega.{arith}
use mathlib.Core.Bool.{Bool, true, false, cond, ◌&&◌}
use mathlib.Core.Path.{◌≡◌, refl, sym, ◌∙◌, ap}
use mathlib.Core.List.{List, [], ◌∷◌, ◌++◌, append_assoc}
use lib.Dec.{ltb, leb, eqb}
use lib.ListN.{length, drop, length-map}
use lib.Seq.{drop_at}
use borrow.Author.Tests.{lt-ltb, ltb-true, lt-leb, eq-eqb, ne_eqb, eqb-true, eqb-false}
use Rattle.std.specs.Prelude.{Option, Some, None}
use Rattle.std.specs.Char.{to_ascii_uppercase}
use Rattle.text.specs.Walk.{front}
use Rattle.text.specs.Digits.{shown, AllDigits}
use Rattle.text.specs.Inverse.{Inverse}
use Rattle.text.proofs.Answers.{both}
use Rattle.names.specs.Grammar.{digit_byte}
use Rattle.names.proofs.FieldLaws.{front-cons}
use Rattle.time_syntax.specs.declared.fraction.Fraction.{Fraction}
use Rattle.time_syntax.specs.Read.{run, point_byte, fraction_of, fraction_at, has_digits, past_fraction}
use Rattle.time_syntax.proofs.Bytes.{one_of}
use Rattle.time_syntax.proofs.RunLaws.{run_text, run_sound, fraction_is, fraction-run}
use Rattle.duration_syntax.specs.declared.number.Number.{Number}
use Rattle.duration_syntax.specs.declared.part.Part.{Part}
use Rattle.duration_syntax.specs.Read.{number_of, number_at, fraction_if, part_fits, part_of, part_from, part_at, after_part}
use Rattle.duration_syntax.specs.Syntax.{PartTree, absent, whole, fractional, part_text, FractionOk, PartOk, part_kept}

and-false : (t : Bool) → (t && false) ≡ false
and-false true = refl
and-false false = refl

-- ---- letters: a byte whose capital is one is past the digits and the points

capital_le : (b : ℕ) → to_ascii_uppercase b ≤ b
capital_le b = go (ltb b 97) (ltb b 123)
  where
    go : (t u : Bool) → cond t b (cond u (b - 32) b) ≤ b
    go true u = omega arith
    go false true = omega arith
    go false false = omega arith

module _ {upper : ℕ} (b : ℕ) (h : 65 ≤ upper) (e : to_ascii_uppercase b ≡ upper) where
  pub letter_past : 65 ≤ b
  letter_past = omega (arith, capital_le b)

  pub letter_digit : digit_byte b ≡ false
  letter_digit = rw (lt-leb b 57 (omega (arith, letter_past)), and-false (leb 48 b))

  pub letter_point : point_byte b ≡ false
  letter_point = rw (ne_eqb b 46 (λ z. omega (arith, letter_past)), ne_eqb b 44 (λ z. omega (arith, letter_past)))

  pub letter_some : eqb b 0 ≡ false
  letter_some = ne_eqb b 0 (λ z. omega (arith, letter_past))

point_some : (p : ℕ) → point_byte p ≡ true → eqb p 0 ≡ false
point_some p e = one_of p 46 44 e (λ b. eqb b 0 ≡ false) refl refl

point_digit : (p : ℕ) → point_byte p ≡ true → digit_byte p ≡ false
point_digit p e = one_of p 46 44 e (λ b. digit_byte b ≡ false) refl refl

-- ---- the text of a fraction

fraction_text : (p : ℕ) (fs r : List ℕ) → FractionOk p fs → digit_byte (front r) ≡ false → fraction_at (p ∷ shown fs ++ r) ≡ Some (fraction_is p fs)
unfolding fraction_at
fraction_text p fs r o q = rw o.point (ap Some (fraction-run p (shown fs ++ r) ∙ ap (fraction_is p) (run_text fs r o.digits q)))

drop-shown : (ds r : List ℕ) → drop (length ds) (shown ds ++ r) ≡ r
drop-shown ds r = drop_at (shown ds) r (length ds) (length-map ds (λ d. 48 + d))

fraction-past : (p : ℕ) (fs r : List ℕ) → past_fraction (Some (fraction_is p fs)) (p ∷ shown fs ++ r) ≡ r
fraction-past p fs r = drop-shown fs r

-- ---- the tests of a part

abbrev part : Number → Option Fraction → ℕ → Part
part n f b = record { number = n; fraction = f; letter = b }

module _ (upper : ℕ) (n : Number) (f : Option Fraction) (b : ℕ) where
  no_letter : (to_ascii_uppercase b ≡ upper → ⊥) → part_of upper (part n f b) ≡ None
  unfolding part_of part_fits
  no_letter h = rw (ne_eqb (to_ascii_uppercase b) upper h, and-false (ltb 0 n.digits && has_digits f))

  fits : 0 < n.digits → has_digits f ≡ true → to_ascii_uppercase b ≡ upper → part_of upper (part n f b) ≡ Some (part n f b)
  unfolding part_of part_fits
  fits h g e = rw (lt-ltb 0 n.digits h, g, eq-eqb (to_ascii_uppercase b) upper e)

module _ (upper : ℕ) (may : Bool) where
  -- the number, and then what follows it
  part_number : (ds m : List ℕ) → AllDigits ds → digit_byte (front m) ≡ false → part_at upper may (shown ds ++ m) ≡ part_from upper may (number_of ds) m
  unfolding part_at number_at
  part_number ds m a q = rw (run_text ds m a q, drop-shown ds m)

  pub part_quiet : (r : List ℕ) → digit_byte (front r) ≡ false → part_at upper may r ≡ None
  unfolding part_of part_fits
  part_quiet r q = part_number [] r tt q

-- no fraction before a letter
no_fraction_lem : (may : Bool) (b : ℕ) (r : List ℕ) → point_byte b ≡ false → fraction_if may (b ∷ r) ≡ None
unfolding fraction_at
no_fraction_lem true b r q = rw q
no_fraction_lem false b r q = refl

-- what follows a number reads as its fraction and its letter
module _ (upper : ℕ) (may : Bool) (n : Number) where
  from_letter : (b : ℕ) (r : List ℕ) → point_byte b ≡ false → part_from upper may n (b ∷ r) ≡ part_of upper (part n None b)
  from_letter b r q = rw (no_fraction_lem may b r q)

  from_fraction : (p : ℕ) (fs : List ℕ) (b : ℕ) (r : List ℕ) → FractionOk p fs → digit_byte b ≡ false → may ≡ true
      → part_from upper may n (p ∷ shown fs ++ (b ∷ r)) ≡ part_of upper (part n (Some (fraction_is p fs)) b)
  from_fraction p fs b r o q m = rw (m, fraction_text p fs (b ∷ r) o q, fraction-past p fs (b ∷ r))

-- ---- the text of a part is read as what is kept of it

text_whole : (ds : List ℕ) (b : ℕ) (r : List ℕ) → part_text (whole ds b) ++ r ≡ shown ds ++ (b ∷ r)
unfolding part_text
text_whole ds b r = append_assoc (shown ds) (b ∷ []) r

text_fractional : (ds : List ℕ) (p : ℕ) (fs : List ℕ) (b : ℕ) (r : List ℕ)
    → part_text (fractional ds p fs b) ++ r ≡ shown ds ++ (p ∷ shown fs ++ (b ∷ r))
unfolding part_text
text_fractional ds p fs b r = simp append_assoc

module _ (upper : ℕ) (may : Bool) (h : 65 ≤ upper) where
  part_text_lem : (t : PartTree) (r : List ℕ) → PartOk upper may t → part_at upper may r ≡ None
      → part_at upper may (part_text t ++ r) ≡ part_kept t
  unfolding part_text part_kept
  part_text_lem absent r o q = q
  part_text_lem (whole ds b) r o q =
      ap (part_at upper may) (text_whole ds b r)
      ∙ part_number upper may ds (b ∷ r) o.digits (letter_digit b h o.letter)
      ∙ from_letter upper may (number_of ds) b r (letter_point b h o.letter)
      ∙ fits upper (number_of ds) None b o.some refl o.letter
  part_text_lem (fractional ds p fs b) r o q =
      ap (part_at upper may) (text_fractional ds p fs b r)
      ∙ part_number upper may ds (p ∷ shown fs ++ (b ∷ r)) o.0.digits (point_digit p o.1.point)
      ∙ from_fraction upper may (number_of ds) p fs b r o.1 (letter_digit b h o.0.letter) o.2
      ∙ fits upper (number_of ds) (Some (fraction_is p fs)) b o.0.some (rw (lt-ltb 0 (length fs) o.1.some)) o.0.letter

  part_past : (t : PartTree) (r : List ℕ) → PartOk upper may t → after_part (part_kept t) (part_text t ++ r) ≡ r
  unfolding part_kept part_text
  part_past absent r o = refl
  part_past (whole ds b) r o = rw (text_whole ds b r, drop-shown ds (b ∷ r))
  part_past (fractional ds p fs b) r o =
      rw (text_fractional ds p fs b r, drop-shown ds (p ∷ shown fs ++ (b ∷ r)), fraction-past p fs (b ∷ r))

  -- ---- what was read stands there

  -- a tree whose text stands at the front of l, of which k was kept
  abbrev Stands : List ℕ → Option Part → Type 0
  Stands l k = (t : PartTree) × (r : List ℕ) × PartOk upper may t × (k ≡ part_kept t) × (l ≡ part_text t ++ r)

  some_letter : (l : List ℕ) → to_ascii_uppercase (front l) ≡ upper → l ≡ front l ∷ drop 1 l
  some_letter l e = front-cons l (eqb-false _ _ (letter_some (front l) h e))

  -- from a number's digits, what follows them, and the tests of the fraction f and of the letter after it
  module _ (ds m : List ℕ) (some : 0 < length ds) (a : AllDigits ds) where
    abbrev Made : Option Fraction → Type 0
    Made f =
        has_digits f ≡ true → to_ascii_uppercase (front (past_fraction f m)) ≡ upper
        → Stands (shown ds ++ m) (Some (part (number_of ds) f (front (past_fraction f m))))

    made_whole : Made None
    unfolding part_kept
    made_whole g e =
        let u : m ≡ front m ∷ drop 1 m = some_letter m e in
        let v = text_whole ds (front m) (drop 1 m) in
        (whole ds (front m), drop 1 m, record { some = some; digits = a; letter = e }, refl, cc)

    made_fractional : point_byte (front m) ≡ true → may ≡ true → Made (Some (fraction_is (front m) (run (drop 1 m))))
    unfolding part_kept
    made_fractional q may g e =
        let p = front m in
        let fs = run (drop 1 m) in
        let r = drop (length fs) (drop 1 m) in
        let x : eqb (front m) 0 ≡ false = point_some (front m) q in
        let k = run_sound (drop 1 m) in
        let u : m ≡ front m ∷ drop 1 m = front-cons m (eqb-false _ _ x) in
        let v : drop 1 m ≡ shown fs ++ r = k.1 in
        let w : r ≡ front r ∷ drop 1 r = some_letter r e in
        let t = text_fractional ds p fs (front r) (drop 1 r) in (
          fractional ds p fs (front r),
          drop 1 r,
          (record { some = some; digits = a; letter = e }, record { point = q; some = ltb-true _ _ g; digits = k.0 }, may),
          refl,
          cc,
        )

    made : Made (fraction_if may m)
    unfolding fraction_at
    made = go may refl (point_byte (front m)) refl
      where
        go : (t : Bool) → may ≡ t → (p : Bool) → point_byte (front m) ≡ p
            → Made (cond t (cond p (Some (fraction_of (front m) (drop 1 m))) None) None)
        go true e true q = rw (fraction-run (front m) (drop 1 m)) (made_fractional q e)
        go true e false q = made_whole
        go false e p q = made_whole

  part_stands : (l : List ℕ) → Stands l (part_at upper may l)
  unfolding part_at number_at part_of part_fits part_kept part_text
  part_stands l = go (part_fits upper p) refl
    where
      m : List ℕ
      m = drop (length (run l)) l

      p : Part
      p = part (number_of (run l)) (fraction_if may m) (front (past_fraction (fraction_if may m) m))

      go : (t : Bool) → part_fits upper p ≡ t → Stands l (cond t (Some p) None)
      go true e =
          let p = both _ _ e in
          let q = both _ _ p.0 in
          let k = run_sound l in
          let s = made (run l) m (ltb-true _ _ q.0) k.0 q.1 (eqb-true _ _ p.1) in
          (s.0, s.1, s.2, s.3, k.1 ∙ s.4)
      go false e = (absent, l, tt, refl, refl)

  part_sound : (l : List ℕ)
      → (t : PartTree) × PartOk upper may t × (part_at upper may l ≡ part_kept t) × (l ≡ part_text t ++ after_part (part_at upper may l) l)
  part_sound l =
      let (t, r, o, e, x) = part_stands l in
      let y : after_part (part_at upper may l) l ≡ r = ap (λ (k : Option Part). after_part k l) e ∙ ap (after_part (part_kept t)) x ∙ part_past t r o in
      (t, o, e, x ∙ ap (λ (r : List ℕ). part_text t ++ r) (sym y))

  pub part_exact :
      Inverse PartTree (Option Part) (part_at upper may) (λ k. true) after_part part_text (PartOk upper may) part_kept (λ r. part_at upper may r ≡ None)
  part_exact = record { reads = part_text_lem; accepts = λ t o. refl; passes = part_past; sound = λ l e. part_sound l }

-- ---- a part of another unit is none of this one

pub part_other : (upper : ℕ) (may : Bool) (other : ℕ) (might : Bool) → 65 ≤ upper → 65 ≤ other → (other ≡ upper → ⊥)
    → (t : PartTree) (r : List ℕ) → PartOk other might t → part_at upper may r ≡ None → part_at upper may (part_text t ++ r) ≡ None
unfolding part_text
part_other upper may other might h k d absent r o q = q
part_other upper may other might h k d (whole ds b) r o q =
    ap (part_at upper may) (text_whole ds b r)
    ∙ part_number upper may ds (b ∷ r) o.digits (letter_digit b k o.letter)
    ∙ from_letter upper may (number_of ds) b r (letter_point b k o.letter)
    ∙ no_letter upper (number_of ds) None b (λ e. d (sym o.letter ∙ e))
part_other upper may other might h k d (fractional ds p fs b) r o q =
    ap (part_at upper may) (text_fractional ds p fs b r)
    ∙ part_number upper may ds (p ∷ shown fs ++ (b ∷ r)) o.0.digits (point_digit p o.1.point)
    ∙ go may refl
  where
    go : (t : Bool) → may ≡ t → part_from upper may (number_of ds) (p ∷ shown fs ++ (b ∷ r)) ≡ None
    go true m =
        from_fraction upper may (number_of ds) p fs b r o.1 (letter_digit b k o.0.letter) m
        ∙ no_letter upper (number_of ds) (Some (fraction_is p fs)) b (λ e. d (sym o.0.letter ∙ e))
    go false m = rw m (no_letter upper (number_of ds) None p (λ e. omega (arith, capital_le p, one_of p 46 44 o.1.point (λ b. b ≤ 46) (omega arith) (omega arith))))
