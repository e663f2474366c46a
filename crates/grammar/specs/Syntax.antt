-- THE GRAMMAR of whole texts, production by production as document 01 has them: the syntax trees, the one text of each, which are of the
-- grammar, and what a reader keeps of them. Assumes nothing: these are definitions.
use Rattle.std.specs.Prelude.{ℕ, true, ◌≡◌, List, [], ◌∷◌, ◌++◌, Option, Some, None}
use Rattle.date_syntax.specs.declared.DateRead.{DateRead}
use Rattle.date_syntax.specs.declared.MonthDayRead.{MonthDayRead}
use Rattle.date_syntax.specs.Syntax as dates
use Rattle.time_syntax.specs.declared.UtcRead.{UtcRead}
use Rattle.time_syntax.specs.Syntax as times
use Rattle.tail_syntax.specs.Syntax as tails
use Rattle.grammar.specs.declared.ClockRead.{ClockRead}
use Rattle.grammar.specs.declared.StampRead.{StampRead}
use Rattle.grammar.specs.declared.Tailed.{Tailed}
use Rattle.grammar.specs.Read.{is_sep, is_lead}

-- ---- what is kept of the parts, each by itself: of a date, of a year-month, which has day 1, of a month-day, and of a UTC part
abbrev pub date_is : dates.DateTree → DateRead
date_is t = record { negative = t.year.negative; year = t.year.year; wide = t.year.wide; month = t.month; day = t.day }

abbrev pub year_month_is : dates.YearMonthTree → DateRead
year_month_is t = record { negative = t.year.negative; year = t.year.year; wide = t.year.wide; month = t.month; day = 1 }

abbrev pub month_day_is : dates.MonthDayTree → MonthDayRead
month_day_is t = record { dashes = t.dashes; month = t.month; day = t.day }

abbrev pub utc_is : times.UtcTree → Option UtcRead
utc_is times.absent = None
utc_is (times.zulu b) = Some (UtcRead.Z b)
utc_is (times.offset negative t) = Some (UtcRead.Offset (record { negative = negative; time = times.time_is t }))

-- ---- a time, then `Z`, `z`, an offset or nothing
pub record ClockTree : Type 0 where
  pub time : times.TimeTree
  pub utc : times.UtcTree

abbrev pub clock_text : ClockTree → List ℕ
clock_text c = times.time_text c.time ++ times.utc_text c.utc

pub record ClockOk (c : ClockTree) : Type 0 where
  pub time : times.TimeOk c.time
  pub utc : times.UtcOk c.utc

-- with the byte before it, if there is one
abbrev pub clock_kept : Option ℕ → ClockTree → ClockRead
clock_kept lead c = record { lead = lead; time = times.time_is c.time; utc = utc_is c.utc }

-- ---- stamp text: a date; then nothing, or `T`, `t` or space and a clock; then the tail
pub data PartTree : Type 0 where
  date_only : PartTree
  at : ℕ → ClockTree → PartTree

pub record StampTree : Type 0 where
  pub date : dates.DateTree
  pub part : PartTree
  pub tail : tails.TailTree

abbrev pub part_text : PartTree → List ℕ
part_text date_only = []
part_text (at b c) = b ∷ clock_text c

abbrev pub stamp_text : StampTree → List ℕ
stamp_text w = dates.date_text w.date ++ (part_text w.part ++ tails.tail_text w.tail)

abbrev pub PartOk : PartTree → Type 0
PartOk date_only = Unit {0}
PartOk (at b c) = (is_sep b ≡ true) × ClockOk c

pub record StampOk (w : StampTree) : Type 0 where
  pub date : dates.DateOk w.date
  pub part : PartOk w.part
  pub tail : tails.TailOk w.tail

abbrev pub part_kept : PartTree → Option ClockRead
part_kept date_only = None
part_kept (at b c) = Some (clock_kept (Some b) c)

abbrev pub stamp_kept : StampTree → StampRead
stamp_kept w = record { date = date_is w.date; clock = part_kept w.part; tail = tails.tail_kept w.tail }

-- ---- time text: nothing, `T` or `t`; then a clock and the tail
pub record TimeTextTree : Type 0 where
  pub lead : Option ℕ
  pub clock : ClockTree
  pub tail : tails.TailTree

abbrev pub lead_text : Option ℕ → List ℕ
lead_text None = []
lead_text (Some b) = b ∷ []

abbrev pub time_text_text : TimeTextTree → List ℕ
time_text_text w = lead_text w.lead ++ (clock_text w.clock ++ tails.tail_text w.tail)

abbrev pub LeadOk : Option ℕ → Type 0
LeadOk None = Unit {0}
LeadOk (Some b) = is_lead b ≡ true

pub record TimeTextOk (w : TimeTextTree) : Type 0 where
  pub lead : LeadOk w.lead
  pub clock : ClockOk w.clock
  pub tail : tails.TailOk w.tail

abbrev pub time_text_kept : TimeTextTree → Tailed ClockRead
time_text_kept w = record { part = clock_kept w.lead w.clock; tail = tails.tail_kept w.tail }

-- ---- year-month text: `YYYY-MM` and the tail
pub record YearMonthTextTree : Type 0 where
  pub date : dates.YearMonthTree
  pub tail : tails.TailTree

abbrev pub year_month_text_text : YearMonthTextTree → List ℕ
year_month_text_text w = dates.year_month_text w.date ++ tails.tail_text w.tail

pub record YearMonthTextOk (w : YearMonthTextTree) : Type 0 where
  pub date : dates.YearMonthOk w.date
  pub tail : tails.TailOk w.tail

abbrev pub year_month_text_kept : YearMonthTextTree → Tailed DateRead
year_month_text_kept w = record { part = year_month_is w.date; tail = tails.tail_kept w.tail }

-- ---- month-day text: `MM-DD` or `--MM-DD`, and the tail
pub record MonthDayTextTree : Type 0 where
  pub day : dates.MonthDayTree
  pub tail : tails.TailTree

abbrev pub month_day_text_text : MonthDayTextTree → List ℕ
month_day_text_text w = dates.month_day_text w.day ++ tails.tail_text w.tail

pub record MonthDayTextOk (w : MonthDayTextTree) : Type 0 where
  pub day : dates.MonthDayOk w.day
  pub tail : tails.TailOk w.tail

abbrev pub month_day_text_kept : MonthDayTextTree → Tailed MonthDayRead
month_day_text_kept w = record { part = month_day_is w.day; tail = tails.tail_kept w.tail }
