-- When a stamp has separators on: its time and its offset both do, hidden or not; an absent part or `Z` does not count.
-- Assumes nothing: these are definitions.
use Rattle.std.specs.Prelude.{Bool, true, ◌&&◌, Option, Some, None}
use Rattle.record.specs.declared.stamp.Time.{Time}
use Rattle.record.specs.declared.stamp.UtcOffset.{UtcOffset}
use Rattle.record.specs.declared.stamp.UtcOffset.TheVariants as utc
use Rattle.record.specs.declared.stamp.Offset.{Offset}
use Rattle.record.specs.declared.stamp.Stamp.{Stamp}

abbrev pub time_separators : Option Time → Bool
time_separators None = true
time_separators (Some t) = t.include_sep

abbrev pub utc_separators : UtcOffset → Bool
utc_separators utc.Z = true
utc_separators (utc.Offset o) = o.time.include_sep

abbrev pub offset_separators : Option Offset → Bool
offset_separators None = true
offset_separators (Some o) = utc_separators o.offset

unfoldable pub separators_on : Stamp → Bool
separators_on s = time_separators s.time && offset_separators s.offset
