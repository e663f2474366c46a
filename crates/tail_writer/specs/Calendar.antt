-- The text of a calendar, and which calendars have one. Assumes nothing: these are definitions.
use Rattle.std.specs.Prelude.{Bool, true, cond, List, [], ◌∷◌, ℕ}
use Rattle.text.specs.Answer.{Judged, judge}
use Rattle.text.specs.Walk.{same_bytes}
use Rattle.record.specs.declared.stamp.DisplayCalendar.{DisplayCalendar}
use Rattle.record.specs.declared.stamp.DisplayCalendar.TheVariants as show
use Rattle.record.specs.declared.stamp.Calendar.{Calendar}
use Rattle.names.specs.Name.{calendar_name_ok, iso8601}
use Rattle.tail_writer.specs.declared.annotation.Mark.{Mark}
use Rattle.tail_writer.specs.declared.annotation.Mark.TheVariants.{Hidden, Plain, Critical}
use Rattle.tail_writer.specs.Annotation.{name_in, annotation}

-- the key `u-ca=`
abbrev pub calendar_key : List ℕ
calendar_key = 117 ∷ 45 ∷ 99 ∷ 97 ∷ 61 ∷ []

-- the name is exactly `iso8601`
unfoldable pub is_iso : List ℕ → Calendar → Bool
is_iso lent c = same_bytes (name_in lent c.name) iso8601

-- nothing under Never, nothing under Auto when the name is exactly `iso8601`
abbrev pub calendar_mark : DisplayCalendar → Bool → Mark
calendar_mark show.Auto iso = cond iso Hidden Plain
calendar_mark show.Always iso = Plain
calendar_mark show.Never iso = Hidden
calendar_mark show.Critical iso = Critical

-- Temporal's FormatCalendarAnnotation: `[u-ca=name]`, with `!` under Critical
unfoldable pub calendar_text : List ℕ → Calendar → List ℕ
calendar_text lent c = annotation (calendar_mark c.show (is_iso lent c)) calendar_key (name_in lent c.name)

-- tested even if hidden
unfoldable pub calendar_ok : List ℕ → Calendar → Bool
calendar_ok lent c = calendar_name_ok lent c.name.at c.name.len

unfoldable pub calendar_judged : List ℕ → Calendar → Judged
calendar_judged lent c = judge true (calendar_ok lent c) true (calendar_text lent c)
