-- The times of a day, by the six numbers that the Rust keeps. Assumes nothing: these are definitions.
use Rattle.std.specs.Prelude.{Bool, ◌&&◌, ℕ, leb}

-- hour 0 to 23, minute and second 0 to 59, each sub-second field 0 to 999
abbrev pub valid_time : ℕ → ℕ → ℕ → ℕ → ℕ → ℕ → Bool
valid_time hour minute second millisecond microsecond nanosecond =
    leb hour 23 && leb minute 59 && leb second 59 && leb millisecond 999 && leb microsecond 999 && leb nanosecond 999
