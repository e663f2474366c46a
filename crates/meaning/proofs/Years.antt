-- The years of the grammar are small. Assumes nothing.
use Rattle.std.proofs.Common.{◌≡◌, ℕ, ◌<◌, Bool, true, false, List, Some, sym, ◌∙◌, ap, arith, is_some}
use Rattle.std.proofs.lemmas.Option.{same_Some}
use Rattle.date_syntax.specs.declared.DateRead.{DateRead}
use Rattle.date_syntax.specs.Syntax.{YearForm}
use Rattle.grammar.specs.declared.StampRead.{StampRead}
use Rattle.grammar.specs.declared.Tailed.{Tailed}
use Rattle.grammar.specs.Read.{stamp, year_month_text}
use Rattle.grammar.proofs.Exact.{stamp_exact, year_month_text_exact}
use Rattle.meaning.specs.Shown.{Small}

form_small : (w s : Bool) (y : ℕ) → YearForm w s y → y < 1000000
form_small false s y ok = omega (arith, ok.1)
form_small true s y ok = ok.0

pub stamp_small : (l : List ℕ) {w : StampRead} → stamp l ≡ Some w → Small w.date
stamp_small l {w} e =
    let t = stamp_exact.sound l (ap is_some e) in
    let d = same_Some _ _ (sym e ∙ t.2) in
    let y = t.0.date.year in
    rw d (form_small y.wide y.negative y.year t.1.date.year)

pub year_month_small : (l : List ℕ) {w : Tailed DateRead} → year_month_text l ≡ Some w → Small w.part
year_month_small l {w} e =
    let t = year_month_text_exact.sound l (ap is_some e) in
    let d = same_Some _ _ (sym e ∙ t.2) in
    let y = t.0.date.year in
    rw d (form_small y.wide y.negative y.year t.1.date.year)
