-- The loop's invariant: the digits before place i are in the buffer. Assumes nothing.
use Rattle.std.proofs.Math.Seq.{slice}
use Rattle.text.specs.Out.{Puts}
use Rattle.text.specs.Digits.{shown}
use Rattle.text.proofs.out.Out.digits.Given as goal

abbrev pub invariant-loop-i : goal.invariant-loop-i
invariant-loop-i l = Puts l.initial.self (shown (slice l.from l.i l.ds)) l.self
