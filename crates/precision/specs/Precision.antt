-- How a precision shows the fraction of a second. Assumes nothing: these are definitions.
use Rattle.std.specs.Prelude.{Bool, true, List, ℕ, leb}
use Rattle.text.specs.Digits.{digits, last_nonzero, fraction}
use Rattle.record.specs.declared.stamp.Precision.{Precision}
use Rattle.record.specs.declared.stamp.Precision.TheVariants.{Auto, Minute, Digit}

-- how many of nine digits are shown, given the place of the last that is not 0: Auto drops trailing zeros, Digit(d) cuts to d digits
abbrev pub digits_shown : Precision → ℕ → ℕ
digits_shown Auto last = last
digits_shown Minute last = 0
digits_shown (Digit d) last = d

-- a precision that a record may have: Digit(d) with d at most 9
abbrev pub precision_ok : Precision → Bool
precision_ok Auto = true
precision_ok Minute = true
precision_ok (Digit d) = leb d 9

-- Temporal's FormatFractionalSeconds, cut and never rounded: no point where no digit is shown
unfoldable pub sub_second : Precision → ℕ → List ℕ
sub_second p nanosecond = fraction (digits_shown p (last_nonzero (digits 9 nanosecond))) (digits 9 nanosecond)
