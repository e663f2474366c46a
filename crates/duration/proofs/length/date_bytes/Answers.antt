-- `duration::length::date_bytes` meets its contract: years, months and weeks have at most ten digits. Assumes nothing.
use native.Mathlib.Omega.{arith}
use borrow.Author.Rules.{rules}
use Rattle.text.proofs.OutLaws.{stepwise}
use Rattle.duration.specs.Duration.{date_units}
use Rattle.duration.proofs.Longest.{date_most}
use Rattle.duration.proofs.length.date_bytes.Goals as goal

pub returns : goal.returns
unfolding date_units
returns c = let most = date_most c.args.n (search rules) in grind (arith, stepwise)
