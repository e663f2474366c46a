-- The texts of a month-day and of a year-month, and which have one. Assumes nothing: these are definitions.
use Rattle.std.specs.Prelude.{Bool, true, cond, not, List, [], ◌∷◌, ◌++◌, ℕ, ℤ}
use Rattle.text.specs.Digits.{decimal}
use Rattle.text.specs.Answer.{Judged, judge}
use Rattle.record.specs.declared.stamp.Date.{Date}
use Rattle.record.specs.declared.stamp.DisplayCalendar.{DisplayCalendar}
use Rattle.record.specs.declared.stamp.DisplayCalendar.TheVariants.{Auto, Always, Never, Critical}
use Rattle.record.specs.declared.stamp.Calendar.{Calendar}
use Rattle.date_writer.specs.Date.{year_text, dashed, date_ok}
use Rattle.tail_writer.specs.Calendar.{is_iso, calendar_text, calendar_ok}

-- the whole date is written when the calendar is Always or Critical or not `iso8601`
abbrev pub whole_date : DisplayCalendar → Bool → Bool
whole_date Auto iso = not iso
whole_date Always iso = true
whole_date Never iso = not iso
whole_date Critical iso = true

abbrev pub whole : List ℕ → Calendar → Bool
whole lent c = whole_date c.show (is_iso lent c)

-- Temporal's TemporalMonthDayToString: `year-` first where the whole date is written
abbrev pub leading_year : Bool → ℤ → List ℕ
leading_year w year = cond w (year_text year ++ (45 ∷ [])) []

unfoldable pub month_day_text : List ℕ → Date → Calendar → List ℕ
month_day_text lent d c = leading_year (whole lent c) d.year ++ decimal 2 d.month ++ dashed d.day ++ calendar_text lent c

-- Temporal's TemporalYearMonthToString: `-day` last where the whole date is written
abbrev pub trailing_day : Bool → ℕ → List ℕ
trailing_day w day = cond w (dashed day) []

unfoldable pub year_month_text : List ℕ → Date → Calendar → List ℕ
year_month_text lent d c = year_text d.year ++ dashed d.month ++ trailing_day (whole lent c) d.day ++ calendar_text lent c

unfoldable pub month_day_judged : List ℕ → Date → Calendar → Judged
month_day_judged lent d c = judge (date_ok d) (calendar_ok lent c) true (month_day_text lent d c)

unfoldable pub year_month_judged : List ℕ → Date → Calendar → Judged
year_month_judged lent d c = judge (date_ok d) (calendar_ok lent c) true (year_month_text lent d c)
