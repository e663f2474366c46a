-- The numbers that document 01 gives to the refusals. Assumes nothing: this is a definition.
use Rattle.std.specs.Prelude.{ℕ}
use Rattle.text.specs.declared.refusal.Refusal.{Refusal}
use Rattle.text.specs.declared.refusal.Refusal.TheVariants.{NoRoom, BadField, BadName, BadParts, TooLong, BadText, UnknownCritical, LongFraction, OtherCalendar, CalendarClash, BadDay, ForbiddenZ, MissingPart, TooLarge, NoSuchGoal}

abbrev pub number : Refusal → ℕ
-- the buffer is shorter than the exact length
number NoRoom = 1
-- a field out of its range, shown or hidden
number BadField = 2
-- a zone or calendar name not of its grammar, over 64 bytes, or not wholly inside the text lent with it
number BadName = 3
-- parts that do not go together, or none to write
number BadParts = 4
-- a text over 1,024 bytes
number TooLong = 5
-- a text not of the grammar
number BadText = 6
-- a critical annotation other than `u-ca`
number UnknownCritical = 7
-- a fraction of more than nine digits
number LongFraction = 8
-- a calendar other than iso8601 on a year-month or month-day text
number OtherCalendar = 9
-- a second or later `u-ca` where it or the first is critical
number CalendarClash = 10
-- a day not in its month
number BadDay = 11
-- `Z` where the goal forbids it
number ForbiddenZ = 12
-- a zone, time or offset missing where the goal needs it
number MissingPart = 13
-- a duration's number too large
number TooLarge = 14
-- no such goal number
number NoSuchGoal = 15
