-- `writer::usual::usual_of` meets its contract: the tests that a stamp passed say that it has this text. Assumes nothing.
use mathlib.Core.Path.{sym, ◌∙◌}
use Rattle.text.proofs.Answers.{both}
use Rattle.writer.proofs.UsualLaws.{usually}
use Rattle.writer.proofs.usual.usual_of.Goals as goal

pub returns-then-date_ok-time_ok : goal.returns-then-date_ok-time_ok
returns-then-date_ok-time_ok c =
    let m = c.in-Some-Some-None-None in
    let tests = both _ _ (both _ _ (both _ _ c.if-date_ok-time_ok.true).0).0 in
    usually c.args.s m.is-0 m.is-1 m.is-2 m.is-3 c.in_ok-zulu.ensures (sym c.date_ok.ensures ∙ tests.0) (sym c.time_ok.ensures ∙ tests.1)
