-- `text::put::number_bytes` meets its contract. The loop keeps: the digits counted and those of what is left are one more than the number's.
-- Assumes nothing.
use native.Mathlib.Omega.{arith}
use Rattle.text.proofs.NumberLaws.{width_small, width_more, width_pos, width_le, length-number}
use Rattle.text.proofs.put.number_bytes.Goals as goal

pub overflow_add-count : goal.overflow_add-count
overflow_add-count c = omega (arith, width_le 19 c.args.n (omega arith), width_pos c.loop-rest.rest)

pub loop-rest-preserved : goal.loop-rest-preserved
loop-rest-preserved c = (c.loop-rest.invariant.0, omega (arith, width_more c.loop-rest.rest (omega arith)))

pub returns : goal.returns
returns c = let e = width_small c.loop-rest.rest (omega arith) in
    let m = width_le 19 c.args.n (omega (arith, c.loop-rest.invariant.0)) in
    record { count = omega (arith, length-number c.args.n); most = omega arith }
