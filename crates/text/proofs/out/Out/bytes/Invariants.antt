-- The bytes before the place in the text were put, from where the writer stands. Assumes nothing.
use Prim.Native.Nat.{◌+◌}
use lib.ListN.{take}
use Rattle.text.specs.Put.{Put}
use Rattle.text.proofs.out.Out.bytes.Given as goal

abbrev pub invariant-loop-i : goal.invariant-loop-i
invariant-loop-i l = Put l.initial.buf l.at (take l.i l.s) l.buf (l.at + l.i)
