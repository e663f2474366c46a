-- The reader of a year, and that of a dash and two digits, accept exactly the texts of the grammar. Assumes nothing.
--     marked_text, marked_sound    `-` and two digits from lo to hi
--     year_text_lem, year_sound        four digits, or a sign and six
use Prim.Native.Nat.{ℕ, ◌+◌, ◌*◌, ◌/◌, ◌%◌, ◌<◌, ◌≤◌}
use native.Mathlib.Omega.{arith}
use mathlib.Core.Bool.{Bool, true, false, cond, ◌&&◌}
use mathlib.Core.Path.{◌≡◌, refl, sym, ◌∙◌, ap}
use mathlib.Core.List.{List, ◌∷◌, ◌++◌}
use lib.ListN.{drop}
use lib.Seq.{drop-drop}
use lib.Dec.{eqb}
use borrow.Author.Tests.{ne_eqb, eqb-true, eqb-false}
use Rattle.std.specs.Prelude.{Option, Some, None}
use Rattle.text.specs.Walk.{front}
use Rattle.text.specs.Digits.{decimal}
use Rattle.names.specs.Field.{field}
use Rattle.names.proofs.FieldLaws.{front-cons, field_text, field_sound}
use Rattle.date_syntax.specs.declared.Year.{Year}
use Rattle.date_syntax.specs.Read.{marked, four_of, six_of, plain, signed, year, year_len}
use Rattle.date_syntax.specs.Syntax.{YearTree, year_form, year_text, YearForm, YearOk}

-- ---- a dash and two digits
pub marked_text : (lo hi n : ℕ) (r : List ℕ) → n < 100 → lo ≤ n → n ≤ hi → marked lo hi (45 ∷ decimal 2 n ++ r) ≡ Some n
unfolding marked
marked_text lo hi n r h p q = field_text lo hi n r h p q

pub marked_sound : (lo hi : ℕ) (l : List ℕ) {n : ℕ} → marked lo hi l ≡ Some n → (lo ≤ n) × (n ≤ hi) × (l ≡ 45 ∷ decimal 2 n ++ drop 3 l)
unfolding marked
marked_sound lo hi l {n} h = go (eqb (front l) 45) refl h
  where
    go : (b : Bool) → eqb (front l) 45 ≡ b → cond b (field lo hi (drop 1 l)) None ≡ Some n → (lo ≤ n) × (n ≤ hi) × (l ≡ 45 ∷ decimal 2 n ++ drop 3 l)
    go false e h = absurd (cc)
    go true e h =
        let f = field_sound lo hi (drop 1 l) h in
        let x : front l ≡ 45 = eqb-true (front l) 45 e in
        let u : l ≡ front l ∷ drop 1 l = front-cons l (λ z. omega arith) in
        let v : drop 1 l ≡ decimal 2 n ++ drop 2 (drop 1 l) = f.3 in
        let w : drop 2 (drop 1 l) ≡ drop 3 l = drop-drop 2 1 l in
        (f.0, f.1, cc)

-- ---- years by their pairs of digits
abbrev pub year_of : Bool → ℕ → Bool → Year
year_of s y w = record { negative = s; year = y; wide = w }

four_split : (y : ℕ) → decimal 4 y ≡ decimal 2 (y / 100) ++ decimal 2 (y % 100)
four_split y =
    let a : y / 1000 % 10 ≡ y / 100 / 10 % 10 = omega arith in
    let b : y / 100 % 10 ≡ y / 100 / 1 % 10 = omega arith in
    let c : y / 10 % 10 ≡ y % 100 / 10 % 10 = omega arith in
    let d : y / 1 % 10 ≡ y % 100 / 1 % 10 = omega arith in
    rw (a, b, c, d)

six_split : (y : ℕ) → decimal 6 y ≡ decimal 2 (y / 10000) ++ decimal 2 (y / 100 % 100) ++ decimal 2 (y % 100)
six_split y =
    let a : y / 100000 % 10 ≡ y / 10000 / 10 % 10 = omega arith in
    let b : y / 10000 % 10 ≡ y / 10000 / 1 % 10 = omega arith in
    let c : y / 1000 % 10 ≡ y / 100 % 100 / 10 % 10 = omega arith in
    let d : y / 100 % 10 ≡ y / 100 % 100 / 1 % 10 = omega arith in
    let e : y / 10 % 10 ≡ y % 100 / 10 % 10 = omega arith in
    let f : y / 1 % 10 ≡ y % 100 / 1 % 10 = omega arith in
    rw (a, b, c, d, e, f)

plain_text : (y : ℕ) (r : List ℕ) → y < 10000 → plain (decimal 4 y ++ r) ≡ Some (year_of false y false)
unfolding plain
plain_text y r h =
    let a = field_text 0 99 (y / 100) (decimal 2 (y % 100) ++ r) (omega arith) (omega arith) (omega arith) in
    let b = field_text 0 99 (y % 100) r (omega arith) (omega arith) (omega arith) in
    let e : y / 100 * 100 + y % 100 ≡ y = omega arith in
    ap (λ (l : List ℕ). four_of (field 0 99 (l ++ r)) (field 0 99 (drop 2 (l ++ r)))) (four_split y)
    ∙ ap (λ (n : Option ℕ). four_of n (field 0 99 (decimal 2 (y % 100) ++ r))) a
    ∙ ap (four_of (Some (y / 100))) b
    ∙ ap (λ (n : ℕ). Some (year_of false n false)) e

no_zero : (s : Bool) (y : ℕ) → (s ≡ true → y ≡ 0 → ⊥) → (s && eqb y 0) ≡ false
no_zero true y k = ne_eqb y 0 (k refl)
no_zero false y k = refl

signed_text_lem : (s : Bool) (y : ℕ) (r : List ℕ) → y < 1000000 → (s ≡ true → y ≡ 0 → ⊥) → signed s (decimal 6 y ++ r) ≡ Some (year_of s y true)
unfolding signed
signed_text_lem s y r h z =
    let a = field_text 0 99 (y / 10000) (decimal 2 (y / 100 % 100) ++ (decimal 2 (y % 100) ++ r)) (omega arith) (omega arith) (omega arith) in
    let b = field_text 0 99 (y / 100 % 100) (decimal 2 (y % 100) ++ r) (omega arith) (omega arith) (omega arith) in
    let c = field_text 0 99 (y % 100) r (omega arith) (omega arith) (omega arith) in
    let e : y / 10000 * 10000 + y / 100 % 100 * 100 + y % 100 ≡ y = omega arith in
    ap (λ (l : List ℕ). six_of s (field 0 99 (l ++ r)) (field 0 99 (drop 2 (l ++ r))) (field 0 99 (drop 4 (l ++ r)))) (six_split y)
    ∙ ap (λ (n : Option ℕ). six_of s n (field 0 99 (decimal 2 (y / 100 % 100) ++ (decimal 2 (y % 100) ++ r))) (field 0 99 (decimal 2 (y % 100) ++ r))) a
    ∙ ap (λ (n : Option ℕ). six_of s (Some (y / 10000)) n (field 0 99 (decimal 2 (y % 100) ++ r))) b
    ∙ ap (six_of s (Some (y / 10000)) (Some (y / 100 % 100))) c
    ∙ ap (λ (n : ℕ). cond (s && eqb n 0) None (Some (year_of s n true))) e
    ∙ ap (λ (t : Bool). cond t None (Some (year_of s y true))) (no_zero s y z)

-- the text of a year is read as that year
form_text : (w s : Bool) (y : ℕ) (r : List ℕ) → YearForm w s y → year (year_form w s y ++ r) ≡ Some (year_of s y w)
unfolding year
form_text false s y r ok =
    simp (ne_eqb (48 + y / 1000 % 10) 43 (λ z. omega arith), ne_eqb (48 + y / 1000 % 10) 45 (λ z. omega arith)) (rw ok.0 (plain_text y r ok.1))
form_text true true y r ok = signed_text_lem true y r ok.0 ok.1
form_text true false y r ok = signed_text_lem false y r ok.0 ok.1

pub year_text_lem : (t : YearTree) (r : List ℕ) → YearOk t → year (year_text t ++ r) ≡ Some (year_of t.negative t.year t.wide)
year_text_lem t r ok = form_text t.wide t.negative t.year r ok

-- ---- the other way
four_inv : (x y : Option ℕ) {z : Year} → four_of x y ≡ Some z → (a : ℕ) × (b : ℕ) × (x ≡ Some a) × (y ≡ Some b) × (z ≡ year_of false (a * 100 + b) false)
four_inv (Some a) (Some b) e = (a, b, refl, refl, cc)
four_inv (Some a) None e = absurd (cc)
four_inv None y e = absurd (cc)

plain_sound : (l : List ℕ) {z : Year} → plain l ≡ Some z → (n : ℕ) × (z ≡ year_of false n false) × (n < 10000) × (l ≡ decimal 4 n ++ drop 4 l)
unfolding plain
plain_sound l e =
    let i = four_inv _ _ e in
    let a = i.0 in
    let b = i.1 in
    let n = a * 100 + b in
    let g = field_sound 0 99 l i.2 in
    let h = field_sound 0 99 (drop 2 l) i.3 in
    let x : n / 100 ≡ a = omega arith in
    let z : n % 100 ≡ b = omega arith in
    let d : drop 2 (drop 2 l) ≡ drop 4 l = drop-drop 2 2 l in
    let f : decimal 4 n ≡ decimal 2 a ++ decimal 2 b = four_split n ∙ rw (x, z) in
    (n, i.4, omega arith, g.3 ∙ ap (λ (m : List ℕ). decimal 2 a ++ m) (h.3 ∙ ap (λ (m : List ℕ). decimal 2 b ++ m) d) ∙ sym (ap (λ (m : List ℕ). m ++ drop 4 l) f))

-- a test whose first side is none
untested : (t : Bool) {x z : Year} → cond t None (Some x) ≡ Some z → (t ≡ false) × (z ≡ x)
untested true e = absurd (cc)
untested false e = (refl, cc)

six_inv : (s : Bool) (x y w : Option ℕ) {z : Year} → six_of s x y w ≡ Some z
    → (a : ℕ) × (b : ℕ) × (c : ℕ) × (x ≡ Some a) × (y ≡ Some b) × (w ≡ Some c)
    × ((s && eqb (a * 10000 + b * 100 + c) 0) ≡ false) × (z ≡ year_of s (a * 10000 + b * 100 + c) true)
six_inv s (Some a) (Some b) (Some c) e =
    let u = untested (s && eqb (a * 10000 + b * 100 + c) 0) e in
    (a, b, c, refl, refl, refl, u.0, u.1)
six_inv s (Some a) (Some b) None e = absurd (cc)
six_inv s (Some a) None w e = absurd (cc)
six_inv s None y w e = absurd (cc)

minus_none : (s : Bool) (n : ℕ) → (s && eqb n 0) ≡ false → s ≡ true → n ≡ 0 → ⊥
minus_none true n e h z = eqb-false n 0 e z
minus_none false n e h z = let o : ◌≡◌ {A = ℕ} 0 1 = cc in omega arith

signed_sound : (s : Bool) (l : List ℕ) {z : Year} → signed s l ≡ Some z
    → (n : ℕ) × (z ≡ year_of s n true) × (n < 1000000) × (s ≡ true → n ≡ 0 → ⊥) × (l ≡ decimal 6 n ++ drop 6 l)
unfolding signed
signed_sound s l e =
    let i = six_inv s _ _ _ e in
    let a = i.0 in
    let b = i.1 in
    let c = i.2 in
    let n = a * 10000 + b * 100 + c in
    let g = field_sound 0 99 l i.3 in
    let h = field_sound 0 99 (drop 2 l) i.4 in
    let k = field_sound 0 99 (drop 4 l) i.5 in
    let x : n / 10000 ≡ a = omega arith in
    let z : n / 100 % 100 ≡ b = omega arith in
    let o : n % 100 ≡ c = omega arith in
    let d : drop 2 (drop 2 l) ≡ drop 4 l = drop-drop 2 2 l in
    let d' : drop 2 (drop 4 l) ≡ drop 6 l = drop-drop 2 4 l in
    let f : decimal 6 n ≡ decimal 2 a ++ decimal 2 b ++ decimal 2 c = six_split n ∙ rw (x, z, o) in (
      n,
      i.7,
      omega arith,
      minus_none s n i.6,
      g.3
          ∙ ap (λ (m : List ℕ). decimal 2 a ++ m) (h.3 ∙ ap (λ (m : List ℕ). decimal 2 b ++ m) (d ∙ k.3 ∙ ap (λ (m : List ℕ). decimal 2 c ++ m) d'))
          ∙ sym (ap (λ (m : List ℕ). m ++ drop 6 l) f),
    )

-- what is read as a year is a year of the grammar, and its text stands there
abbrev pub YearFound : List ℕ → Year → Type 0
YearFound l z = YearForm z.wide z.negative z.year × (l ≡ year_form z.wide z.negative z.year ++ drop (year_len z) l)

pub year_sound : (l : List ℕ) {z : Year} → year l ≡ Some z → YearFound l z
unfolding year
year_sound l {z} e = go (eqb (front l) 43) refl (eqb (front l) 45) refl e
  where
    wide : (s : Bool) (b : ℕ) → cond s 45 43 ≡ b → front l ≡ b → (b ≡ 0 → ⊥) → signed s (drop 1 l) ≡ Some z → YearFound l z
    wide s b f g i e =
        let h = signed_sound s (drop 1 l) e in
        let u : l ≡ front l ∷ drop 1 l = front-cons l (λ z. i (sym g ∙ z)) in
        let v : drop 1 l ≡ decimal 6 h.0 ++ drop 6 (drop 1 l) = h.4 in
        let x : drop 6 (drop 1 l) ≡ drop 7 l = drop-drop 6 1 l in
        rw h.1
        ((h.2, h.3), u ∙ ap (λ (m : ℕ). m ∷ drop 1 l) (g ∙ sym f) ∙ ap (λ (m : List ℕ). cond s 45 43 ∷ m) (v ∙ ap (λ (m : List ℕ). decimal 6 h.0 ++ m) x))

    go : (a : Bool) → eqb (front l) 43 ≡ a → (b : Bool) → eqb (front l) 45 ≡ b
        → cond a (signed false (drop 1 l)) (cond b (signed true (drop 1 l)) (plain l)) ≡ Some z → YearFound l z
    go true f b g e = wide false 43 refl (eqb-true _ _ f) (λ z. omega arith) e
    go false f true g e = wide true 45 refl (eqb-true _ _ g) (λ z. omega arith) e
    go false f false g e = let h = plain_sound l e in rw h.1 ((refl, h.2), h.3)
