-- THE CANONICAL TREE of a stamp with a date, separators on: the syntax tree whose text is written. Assumes nothing: these are definitions.
use Rattle.std.specs.Prelude.{ℕ, suc, true, false, not, List, [], ◌∷◌, ltb, ℤ, pos, negsuc, take, Option, Some, None}
use Rattle.text.specs.Digits.{digits, last_nonzero}
use Rattle.record.specs.declared.stamp.Calendar.{Calendar}
use Rattle.record.specs.declared.stamp.Offset.{Offset}
use Rattle.record.specs.declared.stamp.Zone.{Zone}
use Rattle.record.specs.declared.stamp.Date.{Date}
use Rattle.record.specs.declared.stamp.Precision.{Precision}
use Rattle.record.specs.declared.stamp.Precision.TheVariants.{Auto, Minute, Digit}
use Rattle.record.specs.declared.stamp.Time.{Time}
use Rattle.record.specs.declared.stamp.UtcOffset.{UtcOffset}
use Rattle.record.specs.declared.stamp.UtcOffset.TheVariants as utc
use Rattle.record.specs.declared.stamp.DisplayOffset.{DisplayOffset}
use Rattle.record.specs.declared.stamp.DisplayOffset.TheVariants as display
use Rattle.record.specs.declared.stamp.Stamp.{Stamp}
use Rattle.precision.specs.Precision.{digits_shown}
use Rattle.tail_writer.specs.declared.annotation.Mark.{Mark}
use Rattle.tail_writer.specs.declared.annotation.Mark.TheVariants.{Hidden, Plain, Critical}
use Rattle.tail_writer.specs.Annotation.{name_in}
use Rattle.tail_writer.specs.Zone.{zone_mark}
use Rattle.tail_writer.specs.Calendar.{is_iso, calendar_mark}
use Rattle.date_syntax.specs.Syntax as dates
use Rattle.time_syntax.specs.Syntax as times
use Rattle.tail_syntax.specs.Read.{uca}
use Rattle.tail_syntax.specs.Syntax as tails
use Rattle.grammar.specs.Syntax.{PartTree, date_only, at, StampTree}
use Rattle.round_trip.specs.Shown.{is_negative}

-- ---- the date: 0 to 9999 as four digits, any other year as a sign and six
abbrev pub year_tree : ℤ → dates.YearTree
year_tree (pos n) = record { negative = false; year = n; wide = not (ltb n 10000) }
year_tree (negsuc n) = record { negative = true; year = suc n; wide = true }

abbrev pub date_tree : Date → dates.DateTree
date_tree d = record { year = year_tree d.year; month = d.month; day = d.day }

-- ---- a time: the digits of its fraction that the precision shows, after `.` where there are any
abbrev pub fraction_digits : Precision → ℕ → List ℕ
fraction_digits p n = take (digits_shown p (last_nonzero (digits 9 n))) (digits 9 n)

abbrev pub fraction_tree : ℕ → List ℕ → times.SecsTree
fraction_tree s [] = times.whole s
fraction_tree s (d ∷ ds) = times.part s 46 (d ∷ ds)

abbrev pub secs_tree : Precision → ℕ → ℕ → times.SecsTree
secs_tree Auto s n = fraction_tree s (fraction_digits Auto n)
secs_tree Minute s n = times.none
secs_tree (Digit d) s n = fraction_tree s (fraction_digits (Digit d) n)

abbrev pub time_tree : Time → times.TimeTree
time_tree t = record { hour = t.clock.hour; minute = t.clock.minute; secs = secs_tree t.precision t.clock.second t.clock.nanosecond }

-- ---- the offset: `Z`, or a sign and a time; nothing under Never
abbrev pub utc_tree : UtcOffset → times.UtcTree
utc_tree utc.Z = times.zulu 90
utc_tree (utc.Offset o) = times.offset (is_negative o.sign) (time_tree o.time)

abbrev pub display_tree : DisplayOffset → times.UtcTree → times.UtcTree
display_tree display.Auto u = u
display_tree display.Never u = times.absent

abbrev pub offset_tree : Option Offset → times.UtcTree
offset_tree None = times.absent
offset_tree (Some o) = display_tree o.show (utc_tree o.offset)

abbrev pub part_tree : Option Time → Option Offset → PartTree
part_tree None o = date_only
part_tree (Some t) o = at 84 (record { time = time_tree t; utc = offset_tree o })

-- ---- the zone, and the calendar as the one annotation
abbrev pub zone_of : Mark → List ℕ → tails.ZoneTree
zone_of Hidden name = tails.no_zone
zone_of Plain name = tails.one_zone false name
zone_of Critical name = tails.one_zone true name

abbrev pub zone_tree : List ℕ → Option Zone → tails.ZoneTree
zone_tree lent None = tails.no_zone
zone_tree lent (Some z) = zone_of (zone_mark z.show) (name_in lent z.name)

abbrev pub notes_of : Mark → List ℕ → List tails.NoteTree
notes_of Hidden name = []
notes_of Plain name = record { critical = false; key = uca; value = name } ∷ []
notes_of Critical name = record { critical = true; key = uca; value = name } ∷ []

abbrev pub notes_tree : List ℕ → Option Calendar → List tails.NoteTree
notes_tree lent None = []
notes_tree lent (Some c) = notes_of (calendar_mark c.show (is_iso lent c)) (name_in lent c.name)

-- ---- the whole, of a stamp whose date is d
unfoldable pub canon : List ℕ → Date → Stamp → StampTree
canon lent d s =
    record { date = date_tree d; part = part_tree s.time s.offset; tail = record { zone = zone_tree lent s.zone; notes = notes_tree lent s.calendar } }
