-- A field of two digits is read exactly: the text of a number in range is read as that number, and what is read is that text.
-- Assumes nothing.
use Prim.Native.Nat.{ℕ, ◌+◌, ◌-◌, ◌*◌, ◌/◌, ◌%◌, ◌≤◌, ◌<◌}
use native.Mathlib.Omega.{arith}
use native.Mathlib.Nat.{div-add-mod'}
use mathlib.Core.Bool.{Bool, true, false, cond, ◌&&◌}
use mathlib.Core.Path.{◌≡◌, refl, ◌∙◌, ap}
use mathlib.Core.List.{List, [], ◌∷◌, ◌++◌}
use lib.ListN.{drop}
use lib.Seq.{drop-drop}
use lib.Dec.{leb}
use borrow.Author.Tests.{le-leb, leb-true}
use Rattle.std.specs.Prelude.{Option, Some, None}
use Rattle.text.specs.Walk.{front}
use Rattle.text.specs.Digits.{decimal}
use Rattle.text.proofs.DigitLaws.{two}
use Rattle.text.proofs.Answers.{both}
use Rattle.names.specs.Grammar.{digit_byte}
use Rattle.names.specs.Field.{digit, pair_of, field}

-- a text whose first byte is not 0 has one
pub front-cons : (l : List ℕ) → (front l ≡ 0 → ⊥) → l ≡ front l ∷ drop 1 l
front-cons [] h = absurd (h refl)
front-cons (b ∷ l) h = refl

digit_text : (d : ℕ) → d < 10 → digit (48 + d) ≡ Some d
unfolding digit
digit_text d h =
    let x = le-leb 48 (48 + d) (omega arith) in
    let y = le-leb (48 + d) 57 (omega arith) in
    let e : 48 + d - 48 ≡ d = omega arith in
    rw (x, y) (ap Some e)

-- the text of a number in range is read as that number, whatever follows
pub field_text : (lo hi n : ℕ) (r : List ℕ) → n < 100 → lo ≤ n → n ≤ hi → field lo hi (decimal 2 n ++ r) ≡ Some n
unfolding field pair_of
field_text lo hi n r h p q =
    ap (λ (l : List ℕ). field lo hi (l ++ r)) (two n h)
    ∙ simp (digit_text (n / 10) (omega arith), digit_text (n % 10) (omega arith), div-add-mod' n 10, le-leb lo n p, le-leb n hi q)

-- a value that a test lets through
passed : (t : Bool) {x n : ℕ} → cond t (Some x) None ≡ Some n → (t ≡ true) × (x ≡ n)
passed true e = (refl, cc)
passed false e = absurd (cc)

-- a byte that is read as a digit is that digit's
digit_sound : (b : ℕ) {d : ℕ} → digit b ≡ Some d → (d < 10) × (b ≡ 48 + d)
unfolding digit
digit_sound b e =
    let p = passed (digit_byte b) e in
    let q = both (leb 48 b) (leb b 57) p.0 in
    (omega (arith, leb-true b 57 q.1), omega (arith, leb-true 48 b q.0))

pair_sound : (lo hi : ℕ) (x y : Option ℕ) {n : ℕ} → pair_of lo hi x y ≡ Some n
    → (a : ℕ) × (b : ℕ) × (x ≡ Some a) × (y ≡ Some b) × (n ≡ a * 10 + b) × (lo ≤ n) × (n ≤ hi)
unfolding pair_of
pair_sound lo hi (Some a) (Some b) e =
    let p = passed (leb lo (a * 10 + b) && leb (a * 10 + b) hi) e in
    let q = both (leb lo (a * 10 + b)) (leb (a * 10 + b) hi) p.0 in
    (a, b, refl, refl, omega arith, omega (arith, leb-true lo (a * 10 + b) q.0), omega (arith, leb-true (a * 10 + b) hi q.1))
pair_sound lo hi (Some a) None e = absurd (cc)
pair_sound lo hi None y e = absurd (cc)

-- what is read as a number is in range, and its text stands there
pub field_sound : (lo hi : ℕ) (l : List ℕ) {n : ℕ} → field lo hi l ≡ Some n → (lo ≤ n) × (n ≤ hi) × (n < 100) × (l ≡ decimal 2 n ++ drop 2 l)
unfolding field
field_sound lo hi l {n} e =
    let i = pair_sound lo hi (digit (front l)) (digit (front (drop 1 l))) e in
    let a = digit_sound (front l) i.2 in
    let b = digit_sound (front (drop 1 l)) i.3 in
    let t : decimal 2 n ≡ (48 + n / 10) ∷ (48 + n % 10) ∷ [] = two n (omega arith) in
    let x : front l ≡ 48 + n / 10 = omega arith in
    let y : front (drop 1 l) ≡ 48 + n % 10 = omega arith in
    let u : l ≡ front l ∷ drop 1 l = front-cons l (λ z. omega arith) in
    let v : drop 1 l ≡ front (drop 1 l) ∷ drop 1 (drop 1 l) = front-cons (drop 1 l) (λ z. omega arith) in
    let w : drop 1 (drop 1 l) ≡ drop 2 l = drop-drop 1 1 l in
    (i.5, i.6, omega arith, cc)
