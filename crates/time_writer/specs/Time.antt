-- The text of a time of day, and which times have one. Assumes nothing: these are definitions.
use Rattle.std.specs.Prelude.{Bool, true, ◌&&◌, List, [], ◌++◌, ℕ, leb}
use Rattle.text.specs.Digits.{decimal}
use Rattle.text.specs.Put.{mark}
use Rattle.text.specs.Answer.{Judged, judge}
use Rattle.record.specs.declared.stamp.Precision.{Precision}
use Rattle.record.specs.declared.stamp.Precision.TheVariants.{Auto, Minute, Digit}
use Rattle.record.specs.declared.stamp.Clock.{Clock}
use Rattle.record.specs.declared.stamp.Time.{Time}
use Rattle.precision.specs.Precision.{precision_ok, sub_second}

-- the seconds and the fraction, `:` before them if separators are on; which Minute does not show
unfoldable pub seconds : Time → List ℕ
seconds t = mark t.include_sep 58 ++ decimal 2 t.clock.second ++ sub_second t.precision t.clock.nanosecond

abbrev pub unless_minute : Precision → List ℕ → List ℕ
unless_minute Auto r = r
unless_minute Minute r = []
unless_minute (Digit d) r = r

-- Temporal's FormatTimeString
unfoldable pub time_text : Time → List ℕ
time_text t =
    decimal 2 t.clock.hour ++ mark t.include_sep 58 ++ decimal 2 t.clock.minute ++ unless_minute t.precision (seconds t)

-- each field in its range, shown or not
unfoldable pub clock_ok : Clock → Bool
clock_ok c = leb c.hour 23 && leb c.minute 59 && leb c.second 59 && leb c.nanosecond 999999999

unfoldable pub time_ok : Time → Bool
time_ok t = clock_ok t.clock && precision_ok t.precision

unfoldable pub time_judged : Time → Judged
time_judged t = judge (time_ok t) true true (time_text t)
