-- What whole texts read as. `proofs/Exact` shows that these invert the grammar of `Syntax`. Assumes nothing: these are definitions.
use Rattle.std.specs.Prelude.{ℕ, Bool, cond, ◌||◌, List, drop, eqb, Option, Some, None, option_map}
use Rattle.text.specs.Walk.{front}
use Rattle.date_syntax.specs.declared.DateRead.{DateRead}
use Rattle.date_syntax.specs.declared.MonthDayRead.{MonthDayRead}
use Rattle.date_syntax.specs.Read.{date, after_date, year_month, after_year_month, month_day, after_month_day}
use Rattle.time_syntax.specs.Read.{time, past, utc, past_utc}
use Rattle.tail_syntax.specs.Read.{◌>>=◌, tail}
use Rattle.grammar.specs.declared.ClockRead.{ClockRead}
use Rattle.grammar.specs.declared.StampRead.{StampRead}
use Rattle.grammar.specs.declared.Tailed.{Tailed}

-- `T`, `t` or space; `T` or `t`
abbrev pub is_sep : ℕ → Bool
is_sep b = eqb b 84 || eqb b 116 || eqb b 32

abbrev pub is_lead : ℕ → Bool
is_lead b = eqb b 84 || eqb b 116

-- ---- a time and its UTC part, and what follows them; the byte before them is kept with them
unfoldable pub clock_at : Option ℕ → List ℕ → Option ClockRead
clock_at lead l = do
  t ← time l
  u ← utc (past t l)
  Some (record { lead = lead; time = t; utc = u })

abbrev pub past_clock : ClockRead → List ℕ → List ℕ
past_clock c l = past_utc c.utc (past c.time l)

-- where there is none, the whole text
abbrev pub after_clock : Option ClockRead → List ℕ → List ℕ
after_clock None l = l
after_clock (Some c) l = past_clock c l

-- ---- a part that was read, and the tail after it
abbrev pub with_tail : {P : Type 0} → P → List ℕ → Option (Tailed P)
with_tail p l = option_map (λ t. record { part = p; tail = t }) (tail l)

unfoldable pub timed_at : Option ℕ → List ℕ → Option (Tailed ClockRead)
timed_at lead l = do
  c ← clock_at lead l
  with_tail c (past_clock c l)

-- ---- a stamp text: a date; a separator, a time and its UTC part, or none; the tail
abbrev pub stamp_from : DateRead → List ℕ → Option StampRead
stamp_from d l =
    cond (is_sep (front l)) (option_map (λ t. record { date = d; clock = Some t.part; tail = t.tail }) (timed_at (Some (front l)) (drop 1 l)))
    (option_map (λ t. record { date = d; clock = None; tail = t }) (tail l))

unfoldable pub stamp : List ℕ → Option StampRead
stamp l = do
  d ← date l
  stamp_from d (after_date (Some d) l)

-- ---- a time text: `T` or `t` or neither, a time and its UTC part, the tail
unfoldable pub time_text : List ℕ → Option (Tailed ClockRead)
time_text l = cond (is_lead (front l)) (timed_at (Some (front l)) (drop 1 l)) (timed_at None l)

-- ---- a year-month text and a month-day text, each with the tail
unfoldable pub year_month_text : List ℕ → Option (Tailed DateRead)
year_month_text l = do
  d ← year_month l
  with_tail d (after_year_month (Some d) l)

unfoldable pub month_day_text : List ℕ → Option (Tailed MonthDayRead)
month_day_text l = do
  d ← month_day l
  with_tail d (after_month_day (Some d) l)
