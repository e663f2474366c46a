-- `text::digits::low_nine` meets its contract: the loop keeps its invariant. Assumes nothing.
use native.Mathlib.Omega.{arith}
use lib.ListN.{length-set}
use Rattle.text.proofs.DigitLaws.{split_more, split_div}
use Rattle.text.proofs.digits.low_nine.Goals as goal

pub loop-i-preserved : goal.loop-i-preserved
loop-i-preserved c = (rw length-set c.loop-i.invariant.0, rw c.loop-i.invariant.1 (split_div 9 c.loop-i.i c.args.value (omega arith) (omega arith)), rw c.loop-i.invariant.1 (split_more 9 c.loop-i.i c.args.value (omega arith) (omega arith) c.loop-i.out c.loop-i.invariant.0 c.loop-i.invariant.2))
