-- `kinds::usual::stamp_answer` meets its contract. Assumes nothing.
use Rattle.std.proofs.Common.{ap, ◌∙◌, Ok}
use Rattle.kinds.proofs.UsualLaws.{usual_small, usual_late, usual_shown_lem}
use Rattle.kinds.proofs.usual.stamp_answer.Goals as goal

pub shown_date-date-requires : goal.shown_date-date-requires
shown_date-date-requires c = usual_small _ c.in-Some.ensures

pub returns-then-late_date : goal.returns-then-late_date
returns-then-late_date c = usual_late _ c.in-Some.ensures c.shown_date-date.ensures c.if-late_date.ensures

pub returns : goal.returns
returns c = ap Ok c.shown_of.ensures ∙ usual_shown_lem _ c.in-Some.ensures c.shown_date-date.ensures c.if-late_date.ensures
