-- The text of a whole stamp, and which stamps have one. Assumes nothing: these are definitions.
use Rattle.std.specs.Prelude.{Bool, true, false, not, ◌&&◌, ◌||◌, List, [], ◌++◌, ℕ, Option, Some, None, is_some}
use Rattle.text.specs.Put.{mark}
use Rattle.text.specs.Answer.{Judged, judge}
use Rattle.record.specs.declared.stamp.Time.{Time}
use Rattle.record.specs.declared.stamp.DisplayOffset.{DisplayOffset}
use Rattle.record.specs.declared.stamp.DisplayOffset.TheVariants.{Auto, Never}
use Rattle.record.specs.declared.stamp.Offset.{Offset}
use Rattle.record.specs.declared.stamp.Stamp.{Stamp}
use Rattle.date_writer.specs.Date.{date_text, date_ok}
use Rattle.time_writer.specs.Time.{time_text, time_ok}
use Rattle.time_writer.specs.Offset.{offset_text, offset_ok}
use Rattle.tail_writer.specs.Zone.{zone_text, zone_ok}
use Rattle.tail_writer.specs.Calendar.{calendar_text, calendar_ok}

-- ---- parts: an absent part has no text, and passes each test
abbrev pub part_text : {A : Type 0} → (A → List ℕ) → Option A → List ℕ
part_text text None = []
part_text text (Some x) = text x

abbrev pub part_ok : {A : Type 0} → (A → Bool) → Option A → Bool
part_ok ok None = true
part_ok ok (Some x) = ok x

-- ---- the text: date, `T` if both, time, offset, zone, calendar (Temporal's ISODateTimeToString, with RFC 9557's annotations)
-- `T` before a time that follows a date
abbrev pub timed_text : Bool → Time → List ℕ
timed_text dated t = mark dated 84 ++ time_text t

unfoldable pub stamp_text : List ℕ → Stamp → List ℕ
stamp_text lent s =
    part_text date_text s.date ++ part_text (timed_text (is_some s.date)) s.time ++ part_text offset_text s.offset
    ++ part_text (zone_text lent) s.zone ++ part_text (calendar_text lent) s.calendar

-- ---- refusal 2: a field of any part, shown or hidden
unfoldable pub fields_ok : Stamp → Bool
fields_ok s = part_ok date_ok s.date && part_ok time_ok s.time && part_ok offset_ok s.offset

-- ---- refusal 3: a name of any part, shown or hidden
unfoldable pub names_ok : List ℕ → Stamp → Bool
names_ok lent s = part_ok (zone_ok lent) s.zone && part_ok (calendar_ok lent) s.calendar

-- ---- refusal 4: neither date nor time, or a shown offset without time
abbrev pub shows : DisplayOffset → Bool
shows Auto = true
shows Never = false

abbrev pub shows_offset : Option Offset → Bool
shows_offset None = false
shows_offset (Some o) = shows o.show

unfoldable pub parts_ok : Stamp → Bool
parts_ok s = (is_some s.date || is_some s.time) && (not (shows_offset s.offset) || is_some s.time)

unfoldable pub stamp_judged : List ℕ → Stamp → Judged
stamp_judged lent s = judge (fields_ok s) (names_ok lent s) (parts_ok s) (stamp_text lent s)
