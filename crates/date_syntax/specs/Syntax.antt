-- The grammar of dates, production by production as document 01 has them: the trees, their texts, and which are of the grammar.
-- Assumes nothing: these are definitions.
use Rattle.std.specs.Prelude.{ℕ, ◌≤◌, ◌<◌, Bool, true, false, cond, ◌≡◌, Option, Some, List, [], ◌∷◌, ◌++◌}
use Rattle.text.specs.Digits.{decimal}
use Rattle.date_syntax.specs.declared.DateRead.{DateRead}
use Rattle.date_syntax.specs.declared.MonthDayRead.{MonthDayRead}

-- a year: its sign, its number, and whether it is written with a sign and six digits
pub record YearTree : Type 0 where
  pub negative : Bool
  pub year : ℕ
  pub wide : Bool

-- four digits, or a sign and six
abbrev pub year_form : Bool → Bool → ℕ → List ℕ
year_form false s y = decimal 4 y
year_form true s y = cond s 45 43 ∷ decimal 6 y

abbrev pub year_text : YearTree → List ℕ
year_text t = year_form t.wide t.negative t.year

-- a year of four digits has no sign; `-000000` is none
abbrev pub YearForm : Bool → Bool → ℕ → Type 0
YearForm false s y = (s ≡ false) × (y < 10000)
YearForm true s y = (y < 1000000) × (s ≡ true → y ≡ 0 → ⊥)

abbrev pub YearOk : YearTree → Type 0
YearOk t = YearForm t.wide t.negative t.year

-- month 01 to 12, day 01 to 31
abbrev pub Month : ℕ → Type 0
Month m = (1 ≤ m) × (m ≤ 12)

abbrev pub Day : ℕ → Type 0
Day d = (1 ≤ d) × (d ≤ 31)

-- ---- `YYYY-MM-DD`
pub record DateTree : Type 0 where
  pub year : YearTree
  pub month : ℕ
  pub day : ℕ

abbrev pub date_text : DateTree → List ℕ
date_text t = year_text t.year ++ (45 ∷ decimal 2 t.month ++ (45 ∷ decimal 2 t.day))

pub record DateOk (t : DateTree) : Type 0 where
  pub year : YearOk t.year
  pub month : Month t.month
  pub day : Day t.day

abbrev pub date_kept : DateTree → Option DateRead
date_kept t = Some (record { negative = t.year.negative; year = t.year.year; wide = t.year.wide; month = t.month; day = t.day })

-- ---- `YYYY-MM`, which has day 1
pub record YearMonthTree : Type 0 where
  pub year : YearTree
  pub month : ℕ

abbrev pub year_month_text : YearMonthTree → List ℕ
year_month_text t = year_text t.year ++ (45 ∷ decimal 2 t.month)

pub record YearMonthOk (t : YearMonthTree) : Type 0 where
  pub year : YearOk t.year
  pub month : Month t.month

abbrev pub year_month_kept : YearMonthTree → Option DateRead
year_month_kept t = Some (record { negative = t.year.negative; year = t.year.year; wide = t.year.wide; month = t.month; day = 1 })

-- ---- `MM-DD` or `--MM-DD`
pub record MonthDayTree : Type 0 where
  pub dashes : Bool
  pub month : ℕ
  pub day : ℕ

abbrev pub dash_text : Bool → List ℕ
dash_text true = 45 ∷ 45 ∷ []
dash_text false = []

abbrev pub month_day_text : MonthDayTree → List ℕ
month_day_text t = dash_text t.dashes ++ (decimal 2 t.month ++ (45 ∷ decimal 2 t.day))

pub record MonthDayOk (t : MonthDayTree) : Type 0 where
  pub month : Month t.month
  pub day : Day t.day

abbrev pub month_day_kept : MonthDayTree → Option MonthDayRead
month_day_kept t = Some (record { dashes = t.dashes; month = t.month; day = t.day })

-- anything may follow: the fields have fixed widths
abbrev pub Anything : List ℕ → Type 0
Anything r = Unit {0}
