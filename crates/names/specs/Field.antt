-- What a field of two digits reads as. Assumes nothing: these are definitions.
use Rattle.std.specs.Prelude.{ℕ, ◌+◌, ◌-◌, ◌*◌, ◌&&◌, cond, Option, Some, None, List, leb, drop}
use Rattle.text.specs.Walk.{front}
use Rattle.names.specs.Grammar.{digit_byte}

-- the value of a digit's byte
unfoldable pub digit : ℕ → Option ℕ
digit b = cond (digit_byte b) (Some (b - 48)) None

-- two digits' values as a number from lo to hi
unfoldable pub pair_of : ℕ → ℕ → Option ℕ → Option ℕ → Option ℕ
pair_of lo hi (Some a) (Some b) = cond (leb lo (a * 10 + b) && leb (a * 10 + b) hi) (Some (a * 10 + b)) None
pair_of lo hi (Some a) None = None
pair_of lo hi None d = None

-- two digits at the front whose number is from lo to hi
unfoldable pub field : ℕ → ℕ → List ℕ → Option ℕ
field lo hi l = pair_of lo hi (digit (front l)) (digit (front (drop 1 l)))
