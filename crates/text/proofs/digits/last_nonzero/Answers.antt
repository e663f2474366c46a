-- `text::digits::last_nonzero` meets its contract: the two laws of its last digit are named at the function. Assumes nothing.
use mathlib.Core.Path.{◌≡◌, sym}
use native.Mathlib.Omega.{arith}
use Rattle.text.specs.Digits.{last_nonzero}
use Rattle.text.proofs.digits.last_nonzero.Goals as goal

pub returns : goal.returns
unfolding last_nonzero
returns c = let z : c.loop-i.i ≡ 0 = omega arith in
    sym (rw z at c.loop-i.invariant.1)
