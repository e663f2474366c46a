-- What a text says is what its tree means.
--     meaning           the answer to a text of the grammar is the stated function of its tree
--     refused_long      a text over 1,024 bytes is refused as too long
--     refused_other     any other text that is not of the grammar, as not of it
-- Assumes nothing.
use Prim.Native.Nat.{ℕ, ◌≤◌, ◌<◌}
use native.Mathlib.Omega.{arith}
use mathlib.Core.Bool.{Bool, true, false, cond, ◌||◌}
use mathlib.Core.Path.{◌≡◌, refl, ◌∙◌, ap}
use mathlib.Core.List.{List}
use lib.Dec.{ltb, leb}
use lib.ListN.{length}
use borrow.Author.Tests.{lt-ltb, le-ltb, ltb-true, leb-true, leb-false}
use Rattle.std.specs.Prelude.{Option, Some, None, is_some, ok_or, Result, Ok, Err}
use Rattle.text.specs.declared.refusal.Refusal.{Refusal}
use Rattle.text.specs.declared.refusal.Refusal.TheVariants.{TooLong, BadText, TooLarge}
use Rattle.text.specs.Digits.{value_from, value_of}
use Rattle.time_syntax.specs.Read.{nanos_in, digits_in}
use Rattle.time_syntax.specs.Syntax.{nanos_of}
use Rattle.duration_syntax.specs.declared.raw.DurationRaw.{DurationRaw}
use Rattle.duration_reader.specs.declared.meaning.DurationShown.{DurationShown}
use Rattle.duration_syntax.specs.Read.{value_is, duration}
use Rattle.duration_syntax.specs.Syntax.{PartTree, absent, whole, fractional, part_kept, date_kept, TimeTree, none, marked, time_kept, sign_kept, DurationTree, duration_text, DurationOk, duration_kept}
use Rattle.duration_reader.specs.Meaning.{shown_of, ◌>>=◌, limited, wide, narrow, hours_in, minutes_in, seconds_in, part_fraction, numbers, answer, answer_of, read_duration, number_digits, fraction_digits, hours_of, minutes_of, seconds_of, means, over, meant}
use Rattle.duration_syntax.proofs.Exact.{duration_exact}

-- ---- a part: its number, up to 64 bits and up to 32, and its fraction

abbrev number_of_tree : PartTree → ℕ
number_of_tree t = value_of (number_digits t)

value_limited : (n : ℕ) → ok_or (value_is n) TooLarge ≡ limited 18446744073709551615 n
value_limited n = go (leb n 18446744073709551615) refl
  where
    go : (t : Bool) → leb n 18446744073709551615 ≡ t → ok_or (cond t (Some n) None) TooLarge ≡ limited 18446744073709551615 n
    go true e = rw (le-ltb 18446744073709551615 n (leb-true n 18446744073709551615 e))
    go false e = rw (lt-ltb 18446744073709551615 n (leb-false n 18446744073709551615 e))

-- a number up to the larger limit, and then up to the smaller
twice_limited : (n : ℕ) → (limited 18446744073709551615 n >>= limited 4294967295) ≡ limited 4294967295 n
twice_limited n = go (ltb 18446744073709551615 n) refl
  where
    go : (t : Bool) → ltb 18446744073709551615 n ≡ t → (cond t (Err TooLarge) (Ok n) >>= limited 4294967295) ≡ limited 4294967295 n
    go true e = rw (lt-ltb 4294967295 n (omega (arith, ltb-true 18446744073709551615 n e)))
    go false e = refl

wide-kept : (t : PartTree) → wide (part_kept t) ≡ limited 18446744073709551615 (number_of_tree t)
unfolding part_kept value_from
wide-kept absent = refl
wide-kept (whole ds b) = value_limited (value_of ds)
wide-kept (fractional ds p fs b) = value_limited (value_of ds)

narrow-kept : (t : PartTree) → narrow (part_kept t) ≡ limited 4294967295 (number_of_tree t)
narrow-kept t = ap (λ (r : Result ℕ Refusal). r >>= limited 4294967295) (wide-kept t) ∙ twice_limited (number_of_tree t)

fraction-kept : (t : PartTree)
    → (nanos_in (part_fraction (part_kept t)) ≡ nanos_of (fraction_digits t)) × (digits_in (part_fraction (part_kept t)) ≡ length (fraction_digits t))
unfolding part_kept nanos_of
fraction-kept absent = (refl, refl)
fraction-kept (whole ds b) = (refl, refl)
fraction-kept (fractional ds p fs b) = (refl, refl)

-- ---- the parts of a time

module _ (t : TimeTree) where
  hours-kept : hours_in (time_kept t) ≡ part_kept (hours_of t)
  unfolding part_kept
  hours-kept = elim t as (λ t. hours_in (time_kept t) ≡ part_kept (hours_of t)) [ none ↦ refl | marked b h m s ↦ refl ]

  minutes-kept : minutes_in (time_kept t) ≡ part_kept (minutes_of t)
  unfolding part_kept
  minutes-kept = elim t as (λ t. minutes_in (time_kept t) ≡ part_kept (minutes_of t)) [ none ↦ refl | marked b h m s ↦ refl ]

  seconds-kept : seconds_in (time_kept t) ≡ part_kept (seconds_of t)
  unfolding part_kept
  seconds-kept = elim t as (λ t. seconds_in (time_kept t) ≡ part_kept (seconds_of t)) [ none ↦ refl | marked b h m s ↦ refl ]

-- ---- the whole

-- a step that a number over a limit stops; and two tests in a row are one
limited_then : {A : Type 0} (limit n : ℕ) (f : ℕ → Result A Refusal) → (limited limit n >>= f) ≡ cond (ltb limit n) (Err TooLarge) (f n)
limited_then limit n f = go (ltb limit n)
  where
    go : (t : Bool) → (cond t (Err TooLarge) (Ok n) >>= f) ≡ cond t (Err TooLarge) (f n)
    go true = refl
    go false = refl

either : {A : Type 0} (a b : Bool) (x y : A) → cond a x (cond b x y) ≡ cond (a || b) x y
either true b x y = refl
either false b x y = refl

or_assoc : (a b c : Bool) → (a || (b || c)) ≡ (a || b || c)
or_assoc true b c = refl
or_assoc false b c = refl

told : (b : Bool) (d : DurationShown) (f : DurationShown → DurationShown)
    → (cond b (Err TooLarge) (Ok d) >>= λ n. Ok (f n)) ≡ cond b (Err TooLarge) (Ok (f d))
told true d f = refl
told false d f = refl

raw_of : DurationTree → DurationRaw
raw_of t = record { sign = sign_kept t.sign; start = t.start; date = date_kept t.date; time = time_kept t.time }

numbers-kept : (t : DurationTree) → numbers (raw_of t) ≡ cond (over (means t)) (Err TooLarge) (Ok (means t))
unfolding numbers raw_of
numbers-kept t =
    rw (
      hours-kept t.time,
      minutes-kept t.time,
      seconds-kept t.time,
      narrow-kept t.date.years,
      narrow-kept t.date.months,
      narrow-kept t.date.weeks,
      wide-kept t.date.days,
      wide-kept (hours_of t.time),
      wide-kept (minutes_of t.time),
      wide-kept (seconds_of t.time),
      (fraction-kept (seconds_of t.time)).0,
    )
    (simp (limited_then, either) (simp or_assoc))

kept_means : (t : DurationTree) → answer_of (duration_kept t) ≡ meant t
unfolding duration_kept answer raw_of meant
kept_means t =
    rw (numbers-kept t, seconds-kept t.time, (fraction-kept (seconds_of t.time)).1, told (over (means t)) (means t) shown_of)

-- ---- every text

pub meaning : (t : DurationTree) → DurationOk t → length (duration_text t) ≤ 1024 → read_duration (duration_text t) ≡ meant t
unfolding read_duration
meaning t o h = rw (le-ltb 1024 (length (duration_text t)) h) (ap answer_of (duration_exact.reads t o) ∙ kept_means t)

pub refused_long : (l : List ℕ) → 1024 < length l → read_duration l ≡ Err TooLong
unfolding read_duration
refused_long l h = rw (lt-ltb 1024 (length l) h)

pub refused_other : (l : List ℕ) → length l ≤ 1024 → ((t : DurationTree) → DurationOk t → l ≡ duration_text t → ⊥) → read_duration l ≡ Err BadText
unfolding read_duration
refused_other l h f = rw (le-ltb 1024 (length l) h) (go (duration l) refl)
  where
    go : (r : Option DurationRaw) → duration l ≡ r → answer_of r ≡ Err BadText
    go None e = refl
    go (Some d) e = let s = duration_exact.sound l (ap (λ (r : Option DurationRaw). is_some r) e) in absurd (f s.0 s.1 s.3)
