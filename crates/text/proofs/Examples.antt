-- The definitions at a few numbers, computed. Assumes nothing.
use mathlib.Core.Path.{◌≡◌, refl}
use mathlib.Core.List.{[], ◌∷◌}
use Rattle.text.specs.Digits.{digits, last_nonzero, width_by, width, number, value_from, value_of}

table :
    -- the low nine digits of 4,000,000,120, and the place of their last that is not 0
    (digits 9 4000000120 ≡ 0 ∷ 0 ∷ 0 ∷ 0 ∷ 0 ∷ 0 ∷ 1 ∷ 2 ∷ 0 ∷ [])
    × (last_nonzero (digits 9 4000000120) ≡ 8)
    × (last_nonzero (digits 9 1000000000) ≡ 0)
    -- 0 and 120 in as many digits as they have, and the largest width
    × (number 0 ≡ 48 ∷ [])
    × (number 120 ≡ 49 ∷ 50 ∷ 48 ∷ [])
    × (width 18446744073709551615 ≡ 20)
    -- leading zeros do not count
    × (value_of (0 ∷ 1 ∷ 2 ∷ []) ≡ 12)
unfolding last_nonzero width_by width number value_from
table = (refl, refl, refl, refl, refl, refl, refl)
