-- A quoted text as its bytes, so that worked examples read as document 01 has them. Assumes nothing.
use Prim.Native.Nat.{ℕ}
use Prim.Native.Char.{code}
use Prim.Native.String.{String}
use Prim.Native.String as str
use mathlib.Core.List.{List, [], ◌∷◌}

unfoldable pub bytes : String → List ℕ
bytes str.[] = []
bytes (str.◌∷◌ c s) = code c ∷ bytes s
