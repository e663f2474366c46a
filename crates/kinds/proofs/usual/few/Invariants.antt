-- `kinds::usual::few` meets its contract: the digits so far, and those that are left, give the whole fraction. Assumes nothing.
use Rattle.std.proofs.Common.{◌≡◌, ◌+◌, ◌-◌, ◌*◌, ◌/◌, ◌≤◌, drop}
use Rattle.time_syntax.specs.Read.{digits_from, fraction_of}
use Rattle.kinds.specs.Usual.{unit}
use Rattle.kinds.proofs.usual.few.Given as goal

abbrev pub invariant-loop-i : goal.invariant-loop-i
invariant-loop-i l =
    record {
      small : (l.v + 1) * unit (l.i - 20) ≤ 1000000000;
      read : fraction_of 46 (drop 20 l.t) ≡ digits_from 46 (drop l.i l.t) (l.i - 20) (unit (l.i - 20) / 10) (l.v * unit (l.i - 20));
    }
