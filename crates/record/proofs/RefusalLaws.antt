-- What `refusal_number` answers of a reading: the number of document 01. Assumes nothing.
--     told     0 where it was accepted, and the number of its refusal where it was refused: that is `refusal_of`
use mathlib.Core.Path.{◌≡◌, refl}
use Prim.Native.Nat.{ℕ}
use Rattle.std.specs.Prelude.{Ok, Err}
use Rattle.text.specs.declared.refusal.Refusal.{Refusal}
use Rattle.text.specs.Refusal.{number}
use Rattle.record.specs.declared.shown.Shown.{Shown}
use Rattle.record.specs.Refusals.{Reading, refusal_of}

pub told : (r : Reading) (n : ℕ) → ((s : Shown) → r ≡ Ok s → n ≡ 0) → ((k : Refusal) → r ≡ Err k → n ≡ number k) → n ≡ refusal_of r
told (Ok s) n accepted refused = accepted s refl
told (Err k) n accepted refused = refused k refl
