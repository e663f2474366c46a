-- The text of a zone, and which zones have one. Assumes nothing: these are definitions.
use Rattle.std.specs.Prelude.{Bool, true, List, [], ℕ}
use Rattle.text.specs.Answer.{Judged, judge}
use Rattle.record.specs.declared.stamp.DisplayTimeZone.{DisplayTimeZone}
use Rattle.record.specs.declared.stamp.DisplayTimeZone.TheVariants as show
use Rattle.record.specs.declared.stamp.Zone.{Zone}
use Rattle.names.specs.Name.{zone_name_ok}
use Rattle.tail_writer.specs.declared.annotation.Mark.{Mark}
use Rattle.tail_writer.specs.declared.annotation.Mark.TheVariants.{Hidden, Plain, Critical}
use Rattle.tail_writer.specs.Annotation.{name_in, annotation}

-- nothing under Never
abbrev pub zone_mark : DisplayTimeZone → Mark
zone_mark show.Auto = Plain
zone_mark show.Never = Hidden
zone_mark show.Critical = Critical

-- Temporal's FormatTimeZoneAnnotation: `[name]`, or `[!name]` under Critical
unfoldable pub zone_text : List ℕ → Zone → List ℕ
zone_text lent z = annotation (zone_mark z.show) [] (name_in lent z.name)

-- tested even if hidden
unfoldable pub zone_ok : List ℕ → Zone → Bool
zone_ok lent z = zone_name_ok lent z.name.at z.name.len

unfoldable pub zone_judged : List ℕ → Zone → Judged
zone_judged lent z = judge true (zone_ok lent z) true (zone_text lent z)
