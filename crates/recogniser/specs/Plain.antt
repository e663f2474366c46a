-- What was read of a stamp text is in the one form that the writer writes. `proofs/Theorem.antt` shows that these are exactly the texts that some
-- stamp has. Assumes nothing: these are definitions.
use Rattle.std.specs.Prelude.{ℕ, Bool, false, cond, not, ◌&&◌, ◌||◌, List, leb, ltb, eqb, length, Option, Some, None}
use Rattle.date_syntax.specs.declared.DateRead.{DateRead}
use Rattle.time_syntax.specs.declared.fraction.Fraction.{Fraction}
use Rattle.time_syntax.specs.declared.TimeRead.{TimeRead}
use Rattle.time_syntax.specs.declared.UtcRead.{UtcRead}
use Rattle.time_syntax.specs.Read.{second_in, fraction_in}
use Rattle.tail_syntax.specs.declared.bracket.NameRead.{NameRead}
use Rattle.tail_syntax.specs.declared.notes.Notes.{Notes}
use Rattle.tail_syntax.specs.declared.tail.Tail.{Tail}
use Rattle.grammar.specs.declared.ClockRead.{ClockRead}
use Rattle.grammar.specs.declared.StampRead.{StampRead}
use Rattle.grammar.specs.Read.{stamp}
use Rattle.writer.specs.Stamp.{part_ok}
use Rattle.meaning.specs.Shown.{shown_date}
use Rattle.meaning.specs.Verdict.{late_date}

-- a year of four digits where they suffice
abbrev pub plain_date : DateRead → Bool
plain_date d = not d.wide || d.negative || leb 10000 d.year

-- a fraction with `.` and at most nine digits
abbrev pub plain_fraction : Fraction → Bool
plain_fraction f = eqb f.point 46 && leb f.digits 9

abbrev pub plain_time : TimeRead → Bool
plain_time t = leb (second_in t.seconds) 59 && part_ok plain_fraction (fraction_in t.seconds)

abbrev pub plain_utc : UtcRead → Bool
plain_utc (UtcRead.Z b) = eqb b 90
plain_utc (UtcRead.Offset o) = part_ok plain_fraction (fraction_in o.time.seconds)

-- `T`, a time and how it stands to UTC
abbrev pub plain_lead : Option ℕ → Bool
plain_lead None = false
plain_lead (Some b) = eqb b 84

unfoldable pub plain_clock : ClockRead → Bool
plain_clock c = plain_lead c.lead && plain_time c.time && part_ok plain_utc c.utc

-- names of at most 64 bytes, and no annotation besides one calendar
abbrev pub plain_name : NameRead → Bool
plain_name n = leb n.size 64

abbrev pub plain_notes : Notes → Bool
plain_notes w = not w.more && part_ok plain_name w.calendar

abbrev pub plain_tail : Tail → Bool
plain_tail t = part_ok plain_name t.zone && plain_notes t.notes

-- the whole: the day is in its month
unfoldable pub plain : StampRead → Bool
plain w = plain_date w.date && not (late_date (shown_date w.date)) && part_ok plain_clock w.clock && plain_tail w.tail

-- a text that is not of the grammar is none, nor is one over 190 bytes
abbrev pub plain_read : Option StampRead → Bool
plain_read None = false
plain_read (Some w) = plain w

unfoldable pub recognises : List ℕ → Bool
recognises l = cond (ltb 190 (length l)) false (plain_read (stamp l))
