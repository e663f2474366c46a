-- The readers of dates, year-months and month-days invert the grammar: theorems `date_exact`, `year_month_exact`, `month_day_exact`. Assumes nothing.
use Prim.Native.Nat.{ℕ, ◌+◌, ◌/◌, ◌%◌}
use native.Mathlib.Omega.{arith}
use mathlib.Core.Bool.{Bool, true, false, cond, false≢true}
use mathlib.Core.Path.{◌≡◌, refl, sym, ◌∙◌, ap}
use mathlib.Core.List.{List, ◌∷◌, ◌++◌, append_assoc}
use lib.ListN.{drop}
use lib.Seq.{drop-drop}
use lib.Dec.{eqb}
use borrow.Author.Tests.{ne_eqb, eqb-true}
use Rattle.std.specs.Prelude.{Option, Some, None}
use Rattle.std.specs.Option.{is_some, option_and_then}
use Rattle.text.specs.Walk.{front}
use Rattle.text.specs.Digits.{decimal}
use Rattle.text.specs.Inverse.{Inverse}
use Rattle.text.proofs.Answers.{both}
use Rattle.names.specs.Field.{field}
use Rattle.names.proofs.FieldLaws.{front-cons, field_text, field_sound}
use Rattle.date_syntax.specs.declared.Year.{Year}
use Rattle.date_syntax.specs.declared.DateRead.{DateRead}
use Rattle.date_syntax.specs.declared.MonthDayRead.{MonthDayRead}
use Rattle.date_syntax.specs.Read.{marked, year, year_len, year_month_of, year_month_from, year_month, after_year_month, date_of, date_from, date, after_date, dashes, month_day_of, month_day_at, month_day, after_month_day}
use Rattle.date_syntax.specs.Syntax.{year_form, year_text, DateTree, date_text, DateOk, date_kept, YearMonthTree, year_month_text, YearMonthOk, year_month_kept, MonthDayTree, dash_text, month_day_text, MonthDayOk, month_day_kept, Anything}
use Rattle.date_syntax.proofs.YearLaws.{marked_text, marked_sound, year_text_lem, year_sound}

-- ---- `YYYY-MM`
year-past : (w s : Bool) (y : ℕ) (r : List ℕ) → drop (cond w 7 4) (year_form w s y ++ r) ≡ r
year-past false s y r = refl
year-past true s y r = refl

year_month_reads : (t : YearMonthTree) (r : List ℕ) → YearMonthOk t → Anything r → year_month (year_month_text t ++ r) ≡ year_month_kept t
unfolding year_month
year_month_reads t r ok any =
    let rest = 45 ∷ decimal 2 t.month ++ r in
    let e : year_month_text t ++ r ≡ year_text t.year ++ rest = append_assoc (year_text t.year) (45 ∷ decimal 2 t.month) r in
    let m = marked_text 1 12 t.month r (omega (arith, ok.month.1)) ok.month.0 ok.month.1 in
    rw (e, year_text_lem t.year rest ok.year, year-past t.year.wide t.year.negative t.year.year rest, m)

year_month-past : (w s : Bool) (y m : ℕ) (r : List ℕ) → drop (cond w 10 7) ((year_form w s y ++ (45 ∷ decimal 2 m)) ++ r) ≡ r
year_month-past false s y m r = refl
year_month-past true s y m r = refl

YearMonthFound : List ℕ → Type 0
YearMonthFound l = (t : YearMonthTree) × YearMonthOk t × (year_month l ≡ year_month_kept t) × (l ≡ year_month_text t ++ after_year_month (year_month l) l)

three_more : (w : Bool) (l : List ℕ) → drop 3 (drop (cond w 7 4) l) ≡ drop (cond w 10 7) l
three_more false l = drop-drop 3 4 l
three_more true l = drop-drop 3 7 l

year_month_sound : (l : List ℕ) → is_some (year_month l) ≡ true → YearMonthFound l
unfolding year_month YearMonthFound
year_month_sound l h = go (year l) refl h
  where
    month : (y : Year) → year l ≡ Some y → (m : Option ℕ) → marked 1 12 (drop (year_len y) l) ≡ m → is_some (year_month_of y m) ≡ true → YearMonthFound l
    month y e None g h = absurd (false≢true h)
    month y e (Some n) g h =
        let f = year_sound l e in
        let m = marked_sound 1 12 (drop (year_len y) l) g in
        let t : YearMonthTree = record { year = record { negative = y.negative; year = y.year; wide = y.wide }; month = n } in
        let k : year_month l ≡ year_month_kept t = rw (e, g) in (
          t,
          record { year = f.0; month = (m.0, m.1) },
          k,
          f.1
              ∙ ap (λ (i : List ℕ). year_text t.year ++ i) (m.2 ∙ ap (λ (i : List ℕ). 45 ∷ decimal 2 n ++ i) (three_more y.wide l))
              ∙ sym (append_assoc (year_text t.year) (45 ∷ decimal 2 n) (drop (cond y.wide 10 7) l))
              ∙ ap (λ (i : Option DateRead). year_month_text t ++ after_year_month i l) (sym k),
        )

    go : (y : Option Year) → year l ≡ y → is_some (year_month_from y l) ≡ true → YearMonthFound l
    go None e h = absurd (false≢true h)
    go (Some y) e h = month y e (marked 1 12 (drop (year_len y) l)) refl h

pub year_month_exact : Inverse YearMonthTree (Option DateRead) year_month is_some after_year_month year_month_text YearMonthOk year_month_kept Anything
unfolding YearMonthFound
year_month_exact =
    record {
      reads = year_month_reads;
      accepts = λ t ok. refl;
      passes = λ t r ok. year_month-past t.year.wide t.year.negative t.year.year t.month r;
      sound = year_month_sound;
    }

-- ---- `YYYY-MM-DD`: a year-month, and a day after it
abbrev start : DateTree → YearMonthTree
start t = record { year = t.year; month = t.month }

date_split : (t : DateTree) (r : List ℕ) → date_text t ++ r ≡ year_month_text (start t) ++ (45 ∷ decimal 2 t.day ++ r)
date_split t r = simp append_assoc

date_reads : (t : DateTree) (r : List ℕ) → DateOk t → Anything r → date (date_text t ++ r) ≡ date_kept t
unfolding date
date_reads t r ok any =
    let rest = 45 ∷ decimal 2 t.day ++ r in
    let y = year_month_reads (start t) rest (record { year = ok.year; month = ok.month }) any in
    let d = marked_text 1 31 t.day r (omega (arith, ok.day.1)) ok.day.0 ok.day.1 in
    rw (date_split t r, y, year_month-past t.year.wide t.year.negative t.year.year t.month rest, d)

date-past : (w s : Bool) (y m d : ℕ) (r : List ℕ) → drop (cond w 13 10) ((year_form w s y ++ (45 ∷ decimal 2 m ++ (45 ∷ decimal 2 d))) ++ r) ≡ r
date-past false s y m d r = refl
date-past true s y m d r = refl

DateFound : List ℕ → Type 0
DateFound l = (t : DateTree) × DateOk t × (date l ≡ date_kept t) × (l ≡ date_text t ++ after_date (date l) l)

three_past : (w : Bool) (l : List ℕ) → drop 3 (drop (cond w 10 7) l) ≡ drop (cond w 13 10) l
three_past false l = drop-drop 3 7 l
three_past true l = drop-drop 3 10 l

date_sound : (l : List ℕ) → is_some (date l) ≡ true → DateFound l
unfolding date DateFound YearMonthFound
date_sound l h = go (year_month l) refl h
  where
    day : (y : DateRead) → year_month l ≡ Some y → YearMonthFound l → (n : Option ℕ) → marked 1 31 (after_year_month (Some y) l) ≡ n → is_some (date_of y n) ≡ true → DateFound l
    day y e f None g h = absurd (false≢true h)
    day y e f (Some n) g h =
        let m = marked_sound 1 31 (after_year_month (Some y) l) g in
        let t : DateTree = record { year = f.0.year; month = f.0.month; day = n } in
        let s : Some y ≡ year_month_kept f.0 = sym e ∙ f.2 in
        let k : date l ≡ date_kept t = rw (e, g) (ap (option_and_then (λ (d : DateRead). date_of d (Some n))) s) in
        let w : y.wide ≡ t.year.wide = cc in
        let x : after_year_month (year_month l) l ≡ 45 ∷ decimal 2 n ++ drop (cond t.year.wide 13 10) l =
        ap (λ (i : Option DateRead). after_year_month i l) e ∙ m.2 ∙ ap (λ (i : List ℕ). 45 ∷ decimal 2 n ++ i) (three_past y.wide l ∙ ap (λ (i : Bool). drop (cond i 13 10) l) w) in (
          t,
          record { year = f.1.year; month = f.1.month; day = (m.0, m.1) },
          k,
          f.3
              ∙ ap (λ (i : List ℕ). year_month_text f.0 ++ i) x
              ∙ sym (date_split t (drop (cond t.year.wide 13 10) l))
              ∙ ap (λ (i : Option DateRead). date_text t ++ after_date i l) (sym k),
        )

    go : (y : Option DateRead) → year_month l ≡ y → is_some (date_from y l) ≡ true → DateFound l
    go None e h = absurd (false≢true h)
    go (Some y) e h = day y e (year_month_sound l (ap is_some e)) (marked 1 31 (after_year_month (Some y) l)) refl h

pub date_exact : Inverse DateTree (Option DateRead) date is_some after_date date_text DateOk date_kept Anything
unfolding DateFound
date_exact =
    record {
      reads = date_reads;
      accepts = λ t ok. refl;
      passes = λ t r ok. date-past t.year.wide t.year.negative t.year.year t.month t.day r;
      sound = date_sound;
    }

-- ---- `MM-DD` or `--MM-DD`
at_reads : (s : Bool) (t : MonthDayTree) (r : List ℕ) → MonthDayOk t
    → month_day_at s (decimal 2 t.month ++ (45 ∷ decimal 2 t.day ++ r)) ≡ Some (record { dashes = s; month = t.month; day = t.day })
at_reads s t r ok =
    let m = field_text 1 12 t.month (45 ∷ decimal 2 t.day ++ r) (omega (arith, ok.month.1)) ok.month.0 ok.month.1 in
    let d = marked_text 1 31 t.day r (omega (arith, ok.day.1)) ok.day.0 ok.day.1 in
    rw (m, d)

month_day_reads : (t : MonthDayTree) (r : List ℕ) → MonthDayOk t → Anything r → month_day (month_day_text t ++ r) ≡ month_day_kept t
unfolding month_day dashes
month_day_reads t r ok any = go t.dashes
  where
    no_dash : eqb (48 + t.month / 10 % 10) 45 ≡ false
    no_dash = ne_eqb (48 + t.month / 10 % 10) 45 (λ z. omega arith)

    go : (s : Bool) → month_day ((dash_text s ++ (decimal 2 t.month ++ (45 ∷ decimal 2 t.day))) ++ r) ≡ Some (record { dashes = s; month = t.month; day = t.day })
    go true = at_reads true t r ok
    go false = rw no_dash (at_reads false t r ok)

month_day-past : (s : Bool) (m d : ℕ) (r : List ℕ) → drop (cond s 7 5) ((dash_text s ++ (decimal 2 m ++ (45 ∷ decimal 2 d))) ++ r) ≡ r
month_day-past true m d r = refl
month_day-past false m d r = refl

MonthDayFound : List ℕ → Type 0
MonthDayFound l = (t : MonthDayTree) × MonthDayOk t × (month_day l ≡ month_day_kept t) × (l ≡ month_day_text t ++ after_month_day (month_day l) l)

-- what stands at l, after the dashes
pub record At (s : Bool) (l : List ℕ) : Type 0 where
  pub month : ℕ
  pub day : ℕ
  pub ok : MonthDayOk (record { dashes = s; month = month; day = day })
  pub read : month_day_at s l ≡ Some (record { dashes = s; month = month; day = day })
  pub text : l ≡ decimal 2 month ++ (45 ∷ decimal 2 day ++ drop 5 l)

at_sound : (s : Bool) (l : List ℕ) → is_some (month_day_at s l) ≡ true → At s l
at_sound s l h = go (field 1 12 l) refl (marked 1 31 (drop 2 l)) refl h
  where
    go : (m : Option ℕ) → field 1 12 l ≡ m → (d : Option ℕ) → marked 1 31 (drop 2 l) ≡ d → is_some (month_day_of s m d) ≡ true → At s l
    go None e d g h = absurd (false≢true h)
    go (Some m) e None g h = absurd (false≢true h)
    go (Some m) e (Some d) g h =
        let f = field_sound 1 12 l e in
        let k = marked_sound 1 31 (drop 2 l) g in
        record {
          month = m;
          day = d;
          ok = record { month = (f.0, f.1); day = (k.0, k.1) };
          read = rw (e, g);
          text = f.3 ∙ ap (λ (i : List ℕ). decimal 2 m ++ i) (k.2 ∙ ap (λ (i : List ℕ). 45 ∷ decimal 2 d ++ i) (drop-drop 3 2 l));
        }

month_day_sound : (l : List ℕ) → is_some (month_day l) ≡ true → MonthDayFound l
unfolding month_day dashes MonthDayFound
month_day_sound l h = go (dashes (front l) (front (drop 1 l))) refl h
  where
    go : (s : Bool) → dashes (front l) (front (drop 1 l)) ≡ s → is_some (cond s (month_day_at true (drop 2 l)) (month_day_at false l)) ≡ true → MonthDayFound l
    go true e h =
        let a = at_sound true (drop 2 l) h in
        let t : MonthDayTree = record { dashes = true; month = a.month; day = a.day } in
        let b = both (eqb (front l) 45) (eqb (front (drop 1 l)) 45) e in
        let x : front l ≡ 45 = eqb-true _ _ b.0 in
        let y : front (drop 1 l) ≡ 45 = eqb-true _ _ b.1 in
        let u : l ≡ front l ∷ drop 1 l = front-cons l (λ z. omega arith) in
        let v : drop 1 l ≡ front (drop 1 l) ∷ drop 1 (drop 1 l) = front-cons (drop 1 l) (λ z. omega arith) in
        let w : drop 1 (drop 1 l) ≡ drop 2 l = drop-drop 1 1 l in
        let n : drop 5 (drop 2 l) ≡ drop 7 l = drop-drop 5 2 l in
        let two : l ≡ 45 ∷ 45 ∷ drop 2 l = cc in
        let k : month_day l ≡ month_day_kept t = rw e a.read in (
          t,
          a.ok,
          k,
          two
              ∙ ap (λ (i : List ℕ). 45 ∷ 45 ∷ i) (a.text ∙ ap (λ (i : List ℕ). decimal 2 a.month ++ (45 ∷ decimal 2 a.day ++ i)) n)
              ∙ ap (λ (i : Option MonthDayRead). month_day_text t ++ after_month_day i l) (sym k),
        )
    go false e h =
        let a = at_sound false l h in
        let t : MonthDayTree = record { dashes = false; month = a.month; day = a.day } in
        let k : month_day l ≡ month_day_kept t = rw e a.read in
        (t, a.ok, k, a.text ∙ ap (λ (i : Option MonthDayRead). month_day_text t ++ after_month_day i l) (sym k))

pub month_day_exact : Inverse MonthDayTree (Option MonthDayRead) month_day is_some after_month_day month_day_text MonthDayOk month_day_kept Anything
unfolding MonthDayFound
month_day_exact =
    record {
      reads = month_day_reads;
      accepts = λ t ok. refl;
      passes = λ t r ok. month_day-past t.dashes t.month t.day r;
      sound = month_day_sound;
    }
