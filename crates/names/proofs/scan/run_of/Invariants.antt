-- `names::scan::run_of` meets its contract. The invariant: what the machine takes from here on is what it takes from the start.
-- Assumes nothing.
use Rattle.std.proofs.Common.{◌≡◌, drop}
use Rattle.names.specs.declared.scan.State.TheVariants.{Start}
use Rattle.names.specs.Scan.{scan_from}
use Rattle.names.proofs.scan.run_of.Given as goal

abbrev pub invariant-loop-i : goal.invariant-loop-i
invariant-loop-i g l = scan_from g.M.Machine.step (drop l.i l.t) l.state l.i ≡ scan_from g.M.Machine.step l.t Start 0
