-- What readers walk on. Assumes nothing: these are definitions.
use Rattle.std.specs.Prelude.{Bool, true, false, ◌&&◌, List, [], ◌∷◌, ℕ, eqb, get_or}

-- the first byte of a text; 0 at its end, which is no byte of the grammar
abbrev pub front : List ℕ → ℕ
front l = get_or l 0 0

-- the two texts are the same, byte by byte
abbrev pub same_bytes : List ℕ → List ℕ → Bool
same_bytes [] [] = true
same_bytes [] (b ∷ m) = false
same_bytes (a ∷ l) [] = false
same_bytes (a ∷ l) (b ∷ m) = eqb a b && same_bytes l m
