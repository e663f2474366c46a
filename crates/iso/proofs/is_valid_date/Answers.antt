-- `iso::is_valid_date` meets its contract: a day that its month has in every year, or the definition's two tests of the day. Assumes nothing.
use mathlib.Core.Path.{ap, sym, ◌∙◌}
use mathlib.Core.Bool.{◌&&◌}
use Prim.Native.Nat.{ℕ}
use mir.Facts.{to_z-of_z}
use lib.Dec.{leb}
use Rattle.iso.specs.Gregorian.{valid_date}
use Rattle.iso.proofs.DateLaws.{in_every_year}
use Rattle.iso.proofs.is_valid_date.Goals as goal

pub returns-then-in_every_year : goal.returns-then-in_every_year
returns-then-in_every_year c = c.if-in_every_year.true ∙ in_every_year _ _ _ (sym c.in_every_year.ensures ∙ c.if-in_every_year.true)

pub returns-else-in_every_year : goal.returns-else-in_every_year
unfolding valid_date
returns-else-in_every_year c = ap (λ (days : ℕ). leb 1 c.args.day && leb c.args.day days)
    (rw (to_z-of_z c.ranges.year) at c.iso_days_in_month.ensures)
