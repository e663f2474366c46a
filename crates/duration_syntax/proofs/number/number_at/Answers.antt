-- `duration_syntax::number::number_at` meets its contract: a digit read is one digit more, and another byte ends the number. Assumes nothing.
use Rattle.std.proofs.Common.{refl, arith}
use Rattle.time_syntax.proofs.Bytes.{no_digit}
use Rattle.time_syntax.proofs.RunLaws.{run_stop, run_end}
use Rattle.duration_syntax.proofs.RunLaws.{begun, another, whole}
use Rattle.duration_syntax.proofs.number.number_at.Goals as goal

pub loop-b-init : goal.loop-b-init
loop-b-init c = (refl, begun _)

pub loop-b-preserved : goal.loop-b-preserved
loop-b-preserved c =
    (omega arith, rw c.more-value.ensures (another _ c.loop-b.b-index c.loop-b.value c.loop-b-test.true c.in-Some.ensures c.loop-b.invariant.1))

pub returns-in_default : goal.returns-in_default
returns-in_default c =
    let e = run_stop _ c.loop-b.b-index c.loop-b-test.true (no_digit _ c.in_default.ensures) in
    rw c.loop-b.invariant.0 (whole _ c.loop-b.b-index c.loop-b.value e c.loop-b.invariant.1)

pub returns-after-loop-b : goal.returns-after-loop-b
returns-after-loop-b c = rw c.loop-b.invariant.0 (whole _ c.loop-b.b-index c.loop-b.value (run_end _ c.loop-b.b-index c.loop-b-test.false) c.loop-b.invariant.1)
