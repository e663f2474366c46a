-- What it means that a reading definition inverts a grammar: said once, for every part of a text. Assumes nothing: this is a definition.
use Rattle.std.specs.Prelude.{Bool, true, ◌≡◌, List, ◌++◌, ℕ}

-- Trees have a text, and some are of the grammar (Ok). `read` reads from the front of a text; `good` says whether something was read, and `past` what
-- follows it. `kept` is what is kept of a tree. `After` is what may stand after such a text. The grammar's texts are read as what is kept of their
-- trees, whatever follows; and where something was read, a text of the grammar stands there, and that is what was kept of it.
pub record Inverse (Tree Read : Type 0) (read : List ℕ → Read) (good : Read → Bool) (past : Read → List ℕ → List ℕ) (text : Tree → List ℕ)
    (Ok : Tree → Type 0) (kept : Tree → Read) (After : List ℕ → Type 0) : Type 0 where
  pub reads : (t : Tree) (r : List ℕ) → Ok t → After r → read (text t ++ r) ≡ kept t
  pub accepts : (t : Tree) → Ok t → good (kept t) ≡ true
  pub passes : (t : Tree) (r : List ℕ) → Ok t → past (kept t) (text t ++ r) ≡ r
  pub sound : (l : List ℕ) → good (read l) ≡ true → (t : Tree) × Ok t × (read l ≡ kept t) × (l ≡ text t ++ past (read l) l)

-- the same for whole texts: nothing may follow
pub record Exact (Tree Read : Type 0) (read : List ℕ → Read) (good : Read → Bool) (text : Tree → List ℕ) (Ok : Tree → Type 0) (kept : Tree → Read) : Type 0
  where
    pub reads : (t : Tree) → Ok t → read (text t) ≡ kept t
    pub accepts : (t : Tree) → Ok t → good (kept t) ≡ true
    pub sound : (l : List ℕ) → good (read l) ≡ true → (t : Tree) × Ok t × (read l ≡ kept t) × (l ≡ text t)
