-- `kinds::usual::utc_from` meets its contract. Assumes nothing.
use Rattle.kinds.proofs.UsualLaws.{utc_none, utc_zulu, utc_offset}
use Rattle.kinds.proofs.usual.utc_from.Goals as goal

pub returns-then-t-end : goal.returns-then-t-end
returns-then-t-end c = utc_none c.args.t.now c.args.end c.if-t-end.true

pub returns-then-t-end-eq1 : goal.returns-then-t-end-eq1
returns-then-t-end-eq1 c = utc_zulu c.args.t.now c.args.end c.requires c.if-t-end-eq1.true

pub returns : goal.returns
returns c =
    utc_offset c.args.t.now c.args.end c.in_ok-hour.ensures c.in_ok-minute.ensures c.requires c.if-t-end.false c.if-t-end-eq1.false
