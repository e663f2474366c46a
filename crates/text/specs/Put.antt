-- What an inner writer promises and asks, for every writer of the library. Assumes nothing: these are definitions.
use Rattle.std.specs.Prelude.{◌≡◌, Bool, true, false, List, [], ◌∷◌, ℕ, ◌+◌, ◌≤◌, length}
use Rattle.std.proofs.lemmas.List.Edits.{sets}

-- t fits into b from place at
pub record Room (b : List ℕ) (at : ℕ) (t : List ℕ) : Type 0 where
  pub room : at + length t ≤ length b

-- b' is b with t stored from place at, and r is the place after it
pub record Put (b : List ℕ) (at : ℕ) (t b' : List ℕ) (r : ℕ) : Type 0 where
  pub next : r ≡ at + length t
  pub text : b' ≡ sets b at t

-- r is the length of t, which is at most m
pub record Count (t : List ℕ) (m r : ℕ) : Type 0 where
  pub count : r ≡ length t
  pub most : r ≤ m

-- a byte that is written or not: `:` if separators are on, `!` of what is critical
abbrev pub mark : Bool → ℕ → List ℕ
mark true b = b ∷ []
mark false b = []
