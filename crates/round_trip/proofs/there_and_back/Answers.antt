-- `round_trip::there_and_back` meets its contract, by the writer's answer. Assumes nothing.
use Rattle.std.proofs.lemmas.Result.{err_from_is_err_and}
use Rattle.round_trip.proofs.Back.{there_and_back_lem}
use Rattle.round_trip.proofs.there_and_back.Goals as goal

pub returns-in_err-n : goal.returns-in_err-n
returns-in_err-n c =
    let p = err_from_is_err_and c.from_residual.result c.from_residual.ensures.1 in
    there_and_back_lem _ _ _ c.write_stamp.ensures (rw (c.in_err-n.was, p.1, p.2))

pub returns : goal.returns
returns c = there_and_back_lem _ _ _ c.write_stamp.ensures (rw c.in_ok-n.was c.read_front.ensures)
