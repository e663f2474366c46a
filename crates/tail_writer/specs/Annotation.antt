-- What stands in brackets after a stamp. Names are places in one text that is lent beside the record. Assumes nothing: these are definitions.
use Rattle.std.specs.Prelude.{Bool, true, false, List, [], ◌∷◌, ◌++◌, ℕ, ◌+◌, ◌≤◌, length, take, drop}
use Rattle.text.specs.Put.{mark}
use Rattle.record.specs.declared.stamp.Name.{Name}
use Rattle.tail_writer.specs.declared.annotation.Mark.{Mark}
use Rattle.tail_writer.specs.declared.annotation.Mark.TheVariants.{Hidden, Plain, Critical}

-- the bytes of a name in the lent text
abbrev pub name_in : List ℕ → Name → List ℕ
name_in lent n = take n.len (drop n.at lent)

-- a name that lies wholly inside the lent text and has at most 64 bytes: what a length asks
pub record NameFits (lent : List ℕ) (n : Name) : Type 0 where
  pub inside : n.at + n.len ≤ length lent
  pub short : n.len ≤ 64

-- RFC 9557: `[name]` or `[key=value]`, with `!` after the bracket where it is critical; the key has its `=`
unfoldable pub bracketed : Bool → List ℕ → List ℕ → List ℕ
bracketed critical key name = (91 ∷ []) ++ mark critical 33 ++ key ++ name ++ (93 ∷ [])

abbrev pub annotation : Mark → List ℕ → List ℕ → List ℕ
annotation Hidden key name = []
annotation Plain key name = bracketed false key name
annotation Critical key name = bracketed true key name
