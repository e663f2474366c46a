-- The laws by which the steps of a writer are put together. None has a side condition on the place: a store past the end changes nothing.
--     joined       a text put in two steps, the second right after the first
--     stepwise     the set that a writer of several steps names
--     at_front     a text put at the front of a buffer, and what is left of the buffer: what a public writer names
--     take_more    one byte more of a text
--     one_more     that byte put after those before it
--     mark_most    a mark has at most one byte
-- Assumes nothing.
use mathlib.Core.Path.{◌≡◌, ◌∙◌, refl}
use mathlib.Core.Bool.{Bool, true, false}
use mathlib.Core.List.{List, [], ◌∷◌, ◌++◌}
use Prim.Native.Nat.{ℕ, suc, ◌+◌, ◌<◌, ◌≤◌}
use native.Mathlib.Nat.{add-zero, add-suc, suc-add, zero-add}
use native.Mathlib.Numerals.{add-one}
use native.Mathlib.Omega.{arith}
use lib.ListN.{length, set, length-append, get_or, take, drop}
use lib.Seq.{sets, sets-eq, take-suc}
use Rattle.text.specs.Put.{Put, mark}

pub joined : (l a b : List ℕ) (i : ℕ) → sets l i (a ++ b) ≡ sets (sets l i a) (i + length a) b
joined l [] b i = rw add-zero
joined l (x ∷ a) b i = rw (add-suc, ← suc-add) (joined (set l i x) a b (suc i))

pub ruleset stepwise = (joined, length-append)

pub at_front : (b t : List ℕ) → length t ≤ length b → sets b 0 t ≡ t ++ drop (length t) b
at_front b t h = sets-eq t b 0 (omega arith) ∙ rw zero-add

pub take_more : (t : List ℕ) (i : ℕ) → i < length t → take (i + 1) t ≡ take i t ++ (get_or t i 0 ∷ [])
take_more t i h = rw add-one (take-suc t i 0 h)

pub one_more : (b t c u : List ℕ) (at r s x : ℕ) → u ≡ t ++ (x ∷ []) → s ≡ r + 1 → Put b at t c r → Put b at u (set c r x) s
one_more b t c u at r s x e f p = record {
  next = rw (e, length-append) (omega (arith, f, p.next));
  text = rw (e, joined, p.text, ← p.next) refl;
}

pub mark_most : (on : Bool) (b : ℕ) → length (mark on b) ≤ 1
mark_most true b = omega arith
mark_most false b = omega arith
