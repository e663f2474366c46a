-- `writer::stamp::write_stamp` meets its contract: what is kept of a stamp as most are is its text, which has at most 30 bytes. Assumes nothing.
use native.Mathlib.Omega.{arith}
use Rattle.text.proofs.OutLaws.{at_front}
use Rattle.writer.proofs.UsualLaws.{usual_most}
use Rattle.writer.proofs.stamp.write_stamp.Goals as goal

pub put-requires : goal.put-requires
put-requires c = let most = usual_most c.in-Some.u.parts c.in-Some.u.zulu in record { room = omega arith }

pub returns-in-Some : goal.returns-in-Some
returns-in-Some c =
    let most = usual_most c.in-Some.u.parts c.in-Some.u.zulu in
    let is = c.in-Some.ensures c.args.lent.now in
    grind (arith, at_front)
