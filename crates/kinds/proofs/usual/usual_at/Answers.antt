-- `kinds::usual::usual_at` meets its contract. Assumes nothing.
use Rattle.kinds.proofs.UsualLaws.{day_stamp}
use Rattle.kinds.proofs.usual.usual_at.Goals as goal

pub returns-in_ok-date-in-10 : goal.returns-in_ok-date-in-10
returns-in_ok-date-in-10 c = day_stamp c.args.t.now c.in-10.is c.in_ok-date-in-10.ensures
