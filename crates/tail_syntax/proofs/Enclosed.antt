-- An opening bracket with its mark, and a name up to the byte that ends it: read exactly, for every kind of name. Assumes nothing.
use Rattle.std.proofs.Common.{◌≡◌, ℕ, ◌<◌, Bool, true, false, cond, eqb, List, [], ◌∷◌, ◌++◌, length, take, drop, Option, Some, None, option_map, refl, ap, append_assoc, arith, drop-drop, take-append-drop, eq-eqb, ne_eqb, eqb-true}
use Rattle.std.proofs.lemmas.Option.{none-some, same_Some}
use Rattle.std.specs.Bool.{then_some}
use mathlib.Core.Bool.{false≢true}
use lib.Seq.{drop-append_seam}
use Rattle.text.specs.Walk.{front}
use Rattle.names.specs.Grammar.{ZoneName, numeric, named, Joined, one, more, ZonePart, Key}
use Rattle.names.proofs.FieldLaws.{front-cons}
use Rattle.names.proofs.Exact.{Reads}
use Rattle.tail_syntax.specs.declared.bracket.NameRead.{NameRead}
use Rattle.tail_syntax.specs.Read.{opened, inside, ended, closed, past}
use Rattle.tail_syntax.specs.Syntax.{bracket, name_kept}

pub some_then : {A : Type 0} (ok : Bool) {x y : A} → then_some ok x ≡ Some y → (ok ≡ true) × (x ≡ y)
some_then true e = (refl, cc)
some_then false e = absurd (none-some _ e)

pub mapped : {A B : Type 0} (f : A → B) (o : Option A) {y : B} → option_map f o ≡ Some y → (x : A) × (o ≡ Some x) × (f x ≡ y)
mapped f None e = absurd (none-some _ e)
mapped f (Some x) e = (x, refl, same_Some _ _ e)

-- ---- the bracket

-- what stands in it starts with no `!`, so its own mark is read
pub opened_text : (c : Bool) (l : List ℕ) → (front l ≡ 33 → ⊥) → opened (bracket c ++ l) ≡ Some c
unfolding opened
opened_text true l h = refl
opened_text false l h = ap Some (ne_eqb (front l) 33 h)

pub opened_end : opened [] ≡ None
unfolding opened
opened_end = refl

pub inside_text : (c : Bool) (l : List ℕ) → inside c (bracket c ++ l) ≡ l
unfolding inside
inside_text true l = refl
inside_text false l = refl

-- the other way: what starts with `[` is a bracket and what stands in it
pub opened_sound : (l : List ℕ) {c : Bool} → opened l ≡ Some c → l ≡ bracket c ++ inside c l
unfolding opened inside
opened_sound l {c} e = go c (some_then _ e).1
  where
    first : l ≡ 91 ∷ drop 1 l
    first =
        let a = eqb-true (front l) 91 (some_then _ e).0 in
        let x = front-cons l (λ z. omega arith) in
        cc

    go : (c : Bool) → eqb (front (drop 1 l)) 33 ≡ c → l ≡ bracket c ++ cond c (drop 2 l) (drop 1 l)
    go false e = first
    go true e =
        let m : front (drop 1 l) ≡ 33 = eqb-true _ _ e in
        let y : drop 1 l ≡ front (drop 1 l) ∷ drop 1 (drop 1 l) = front-cons (drop 1 l) (λ z. omega arith) in
        let z : drop 1 (drop 1 l) ≡ drop 2 l = drop-drop 1 1 l in
        let x = first in
        cc

-- ---- a name, of any kind, up to the byte that ends it

-- at the front of l stands a name of n bytes, and then the byte `stop`
pub record NameAt (Name : List ℕ → Type 0) (stop : ℕ) (l : List ℕ) (n : ℕ) : Type 0 where
  pub name : List ℕ
  pub ok : Name name
  pub text : l ≡ name ++ (stop ∷ past n l)

module _ {run : List ℕ → Option ℕ} {Name : List ℕ → Type 0} {stop : ℕ} (r : Reads run Name stop) where
  pub name-ended : (n l : List ℕ) → Name n → ended stop (run (n ++ (stop ∷ l))) (n ++ (stop ∷ l)) ≡ Some (length n)
  unfolding ended
  name-ended n l h = rw (r.text n (stop ∷ l) h refl, drop-append_seam n (stop ∷ l), eq-eqb stop stop refl)

  pub name_sound : (l : List ℕ) {n : ℕ} → 0 < stop → ended stop (run l) l ≡ Some n → NameAt Name stop l n
  unfolding ended
  name_sound l {n} h e = go (run l) refl e
    where
      go : (k : Option ℕ) → run l ≡ k → ended stop k l ≡ Some n → NameAt Name stop l n
      go None f e = absurd (none-some _ e)
      go (Some k) f e =
          let p = some_then _ e in
          let s = r.sound l (rw p.1 at f) in
          let m : front (drop n l) ≡ stop = rw p.1 at (eqb-true _ _ p.0) in
          let x : take n l ++ drop n l ≡ l = take-append-drop n l in
          let y : drop n l ≡ front (drop n l) ∷ past n l = front-cons (drop n l) (λ z. omega arith) in
          record { name = take n l; ok = s.0; text = cc }

pub closed_text : (c : Bool) (n r : List ℕ) (name : Option ℕ) → ended 93 name (n ++ (93 ∷ r)) ≡ Some (length n)
    → closed c name (n ++ (93 ∷ r)) ≡ Some (name_kept c n r)
closed_text c n r name e = rw e

pub closed_sound : (c : Bool) (l : List ℕ) (name : Option ℕ) {v : NameRead} → closed c name l ≡ Some v
    → (n : ℕ) × (ended 93 name l ≡ Some n) × (record { critical = c; left = length l; size = n } ≡ v)
closed_sound c l name e = mapped _ (ended 93 name l) e

-- what follows a name and the byte that ends it
pub past-name : (n : List ℕ) (b : ℕ) (l : List ℕ) → past (length n) (n ++ (b ∷ l)) ≡ l
past-name n b l = ap (drop 1) (drop-append_seam n (b ∷ l))

-- ---- no name starts with `!`

pub key_start_lem : (k l : List ℕ) → Key k → front (k ++ l) ≡ 33 → ⊥
key_start_lem [] l h e = h
key_start_lem (b ∷ k) l h e = false≢true (rw e at h.0)

part_start_lem : (p l : List ℕ) → ZonePart p → front (p ++ l) ≡ 33 → ⊥
part_start_lem [] l h e = h.word
part_start_lem (b ∷ p) l h e = false≢true (rw e at h.word.0)

parts_start : (n r : List ℕ) → Joined ZonePart 47 n → front (n ++ r) ≡ 33 → ⊥
parts_start n r (one h) e = part_start_lem n r h e
parts_start n r (more {p} {l} h j) e = part_start_lem p ((47 ∷ l) ++ r) h (rw append_assoc at e)

pub zone_start : (n l : List ℕ) → ZoneName n → front (n ++ l) ≡ 33 → ⊥
zone_start n l (numeric s h m) e = false≢true (rw e at s)
zone_start n l (named j) e = parts_start n l j e
