-- Stamp texts as most are, by the places of their bytes: what their parts are read as, and where their fractions end. These say nothing that must be
-- believed: the readers' contracts cite `Kinds`. Assumes nothing: these are definitions.
use Rattle.std.specs.Prelude.{◌≡◌, ℕ, zero, suc, ◌+◌, ◌-◌, ◌/◌, ◌^◌, ◌≤◌, Bool, true, false, ◌||◌, ltb, List, [], length, drop, ◌==◌, slice_index, Option, Some, None, option_map, option_and_then}
use Rattle.names.specs.Grammar.{sign_byte}
use Rattle.record.specs.declared.stamp.Date.{Date}
use Rattle.record.specs.declared.shown.Shown.{Shown}
use Rattle.date_syntax.specs.declared.DateRead.{DateRead}
use Rattle.date_syntax.specs.Read.{date}
use Rattle.time_syntax.specs.declared.fraction.Fraction.{Fraction}
use Rattle.time_syntax.specs.declared.TimeRead.{TimeRead}
use Rattle.time_syntax.specs.declared.UtcRead.{UtcRead}
use Rattle.time_syntax.specs.Read.{digits_from, fraction_of, fraction_at, has_digits, digits_in, past_fraction, fraction_in, time, past, utc, past_utc}
use Rattle.tail_syntax.specs.Read.{none}
use Rattle.grammar.specs.declared.ClockRead.{ClockRead}
use Rattle.grammar.specs.Read.{stamp}
use Rattle.meaning.specs.Shown.{shown_time, shown_utc}
use Rattle.meaning.specs.Verdict.{utc_long, long_fraction}
use Rattle.kinds.specs.declared.usual.Usual.{Usual}

-- how many nanoseconds the last of k digits of a fraction counts by
abbrev pub unit : ℕ → ℕ
unit k = 10 ^ (9 - k)

-- what stands where a fraction ends: `Z`, nothing, or the sign of an offset
abbrev pub end_byte : ℕ → Bool
end_byte b = b == 90 || b == 0 || sign_byte b

-- the digits of l from place 20 up to place e are of v nanoseconds
abbrev pub Tells : List ℕ → ℕ → ℕ → Type 0
Tells l e v = fraction_of 46 (drop 20 l) ≡ digits_from 46 (drop e l) (e - 20) (unit (e - 20) / 10) v

-- what follows place e of l, k bytes: nothing, `Z`, or a sign, two bytes, `:` and two bytes
abbrev pub Rest : List ℕ → ℕ → ℕ → Type 0
Rest l e zero = Unit {0}
Rest l e (suc zero) = slice_index l e ≡ 90
Rest l e (suc (suc k)) = (k ≡ 4) × (sign_byte (slice_index l e) ≡ true) × (slice_index l (e + 3) ≡ 58)

-- the fraction of l may end at place e
pub record EndIs (l : List ℕ) (e : ℕ) : Type 0 where
  pub least : 19 ≤ e
  pub most : e ≤ length l
  pub rest : Rest l e (length l - e)

-- ---- the parts, each as its grammar reads it: the date, of a year of four digits; the fraction after the second, up to place e; the time up to there;
-- and how it stands to UTC, up to the end
pub record DayAt (l : List ℕ) (d : DateRead) : Type 0 where
  pub date : date l ≡ Some d
  pub plain : d.wide ≡ false

pub record FractionAt (l : List ℕ) (e : ℕ) (f : Option Fraction) : Type 0 where
  pub fraction : fraction_at (drop 19 l) ≡ f
  pub some : has_digits f ≡ true
  pub few : ltb 9 (digits_in f) ≡ false
  pub after : past_fraction f (drop 19 l) ≡ drop e l

pub record TimeAt (l : List ℕ) (e : ℕ) (t : TimeRead) : Type 0 where
  pub time : time (drop 11 l) ≡ Some t
  pub few : ltb 9 (digits_in (fraction_in t.seconds)) ≡ false
  pub after : past t (drop 11 l) ≡ drop e l

pub record UtcAt (l : List ℕ) (e : ℕ) (u : Option UtcRead) : Type 0 where
  pub utc : utc (drop e l) ≡ Some u
  pub few : utc_long u ≡ false
  pub after : past_utc u (drop e l) ≡ []

-- ---- the whole: it has no zone and no annotations, and no fraction of more than nine digits
pub record UsualIs (l : List ℕ) (u : Usual) : Type 0 where
  pub read : stamp l ≡ Some (record { date = u.date; clock = u.clock; tail = record { zone = None; notes = none } })
  pub few : long_fraction u.clock ≡ false

-- what it shows
abbrev pub usual_shown : Date → Option ClockRead → Shown
usual_shown d c =
    record {
      date = Some d;
      time = option_map (λ c. shown_time c.time) c;
      offset = option_map shown_utc (option_and_then (λ c. c.utc) c);
      zone = None;
      calendar = None;
    }
