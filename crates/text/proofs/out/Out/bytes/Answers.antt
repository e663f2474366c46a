-- `text::out::Out::bytes` meets its contract: the loop keeps its invariant. Assumes nothing.
use native.Mathlib.Omega.{arith}
use Rattle.text.proofs.OutLaws.{take_more, one_more}
use Rattle.text.proofs.out.Out.bytes.Goals as goal

pub loop-i-preserved : goal.loop-i-preserved
loop-i-preserved c = one_more _ _ _ _ _ _ _ _ (take_more _ _ c.loop-i-test.true) (omega arith) c.loop-i.invariant
