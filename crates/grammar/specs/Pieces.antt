-- What can be read of a text that is not of the grammar, by parts. A part that cannot be read is None, and takes no byte: what follows it is read
-- from where it would start. Assumes nothing: these are definitions.
use Rattle.std.specs.Prelude.{ℕ, cond, List, drop, Option, Some, None}
use Rattle.text.specs.Walk.{front}
use Rattle.date_syntax.specs.declared.DateRead.{DateRead}
use Rattle.date_syntax.specs.declared.MonthDayRead.{MonthDayRead}
use Rattle.date_syntax.specs.Read.{date, after_date, year_month, after_year_month, month_day, after_month_day}
use Rattle.time_syntax.specs.Read.{time, after_time, utc, after_utc}
use Rattle.tail_syntax.specs.Read.{tail}
use Rattle.grammar.specs.declared.pieces.ClockPieces.{ClockPieces}
use Rattle.grammar.specs.declared.pieces.StampPieces.{StampPieces}
use Rattle.grammar.specs.declared.pieces.Pieces.{Pieces}
use Rattle.grammar.specs.Read.{is_sep, is_lead}

-- ---- a time and its UTC part, and what follows them; the byte before them is kept with them
unfoldable pub clock_pieces : Option ℕ → List ℕ → ClockPieces
clock_pieces lead l = let t = time l in record { lead = lead; time = t; utc = utc (after_time t l) }

abbrev pub past_pieces : ClockPieces → List ℕ → List ℕ
past_pieces c l = after_utc c.utc (after_time c.time l)

-- ---- a part, and the tail after it
abbrev pub before_tail : {P : Type 0} → P → List ℕ → Pieces P
before_tail p l = record { part = p; tail = tail l }

unfoldable pub timed_pieces : Option ℕ → List ℕ → Pieces ClockPieces
timed_pieces lead l = let c = clock_pieces lead l in before_tail c (past_pieces c l)

-- ---- a stamp text: a date; a separator, a time and its UTC part, or none; the tail
abbrev pub stamp_pieces_from : Option DateRead → List ℕ → StampPieces
stamp_pieces_from d l =
    let t = timed_pieces (Some (front l)) (drop 1 l) in
    cond (is_sep (front l)) (record { date = d; clock = Some t.part; tail = t.tail }) (record { date = d; clock = None; tail = tail l })

unfoldable pub stamp_pieces : List ℕ → StampPieces
stamp_pieces l = let d = date l in stamp_pieces_from d (after_date d l)

-- ---- a time text: `T` or `t` or neither, a time and its UTC part, the tail
unfoldable pub time_text_pieces : List ℕ → Pieces ClockPieces
time_text_pieces l = cond (is_lead (front l)) (timed_pieces (Some (front l)) (drop 1 l)) (timed_pieces None l)

-- ---- a year-month text and a month-day text, each with the tail
unfoldable pub year_month_pieces : List ℕ → Pieces (Option DateRead)
year_month_pieces l = let d = year_month l in before_tail d (after_year_month d l)

unfoldable pub month_day_pieces : List ℕ → Pieces (Option MonthDayRead)
month_day_pieces l = let d = month_day l in before_tail d (after_month_day d l)
