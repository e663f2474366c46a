-- What a row holds after a writer put a text at its end, and the room of a number. Assumes nothing.
use Rattle.std.proofs.Common.{◌≡◌, ℕ, ◌+◌, ◌≤◌, ◌<◌, ◌^◌, List, ◌++◌, length, take, ap, arith, length-append, length-take-le}
use Rattle.std.proofs.Math.Seq.{take-append_seam}
use Rattle.std.proofs.lemmas.List.Edits.{sets, sets-eq}
use Rattle.text.proofs.NumberLaws.{width_le, length-number}
use Rattle.text.specs.Digits.{number}

pub take_sets : (b s : List ℕ) (at : ℕ) → at + length s ≤ length b → take (at + length s) (sets b at s) ≡ take at b ++ s
take_sets b s at h =
    let e : length (take at b ++ s) ≡ at + length s = omega (arith, length-append (take at b) s, length-take-le at b (omega arith)) in
    rw (sets-eq s b at h, ← e) (take-append_seam (take at b ++ s) _)

-- a number of 64 bits has at most 20 digits
pub number_most : (n : ℕ) → n < 2 ^ 64 → length (number n) ≤ 20
number_most n h = omega (arith, length-number n, width_le 19 n (omega arith))

-- where a row has room for 20 bytes more, its buffer has room for a number
pub number_room : (b row : List ℕ) (at n : ℕ) → take at b ≡ row → at ≤ length b → length row + 20 ≤ length b → n < 2 ^ 64 → at + length (number n) ≤ length b
number_room b row at n e inside room fits = omega (arith, number_most n fits, ap length e, length-take-le at b inside)
