-- Stamp texts as most are, by the places of their bytes: what is read there is what the grammar reads. Assumes nothing.
--     pair_is                                    two digits at a place
--     day_lem                                    a date
--     step, more, nine_digits                    the digits of a fraction: one more, and nine
--     fraction_none, fraction_some               what stands up to where the fraction ends
--     time_lem                                   a time, with its fraction
--     utc_none, utc_zulu, utc_offset             what follows it
--     end_is                                     where the fraction may end
--     day_stamp, timed_stamp                     the whole
--     usual_small, usual_late, usual_shown_lem   what it is read as
use Rattle.std.proofs.Common.{◌≡◌, ℕ, zero, suc, ◌+◌, ◌-◌, ◌*◌, ◌/◌, ◌<◌, ◌≤◌, Bool, true, false, ◌&&◌, ◌||◌, eqb, List, [], ◌∷◌, ◌++◌, length, get_or, drop, Option, Some, None, Ok, Err, refl, ap, sym, ◌∙◌, add-zero, mul-le-mul_right, mul_assoc, add-mul, mul-le-mul_left, pow-suc, add-one, arith, drop_of_length-le, get_or-drop, drop-drop, lt-ltb, le-ltb, ne_eqb, eqb-true}
use mathlib.Core.Bool.{or-true}
use Rattle.text.specs.Walk.{front}
use Rattle.text.proofs.DigitLaws.{two, ten_pos}
use Rattle.text.proofs.Answers.{both}
use Rattle.names.specs.Grammar.{digit_byte, sign_byte}
use Rattle.names.specs.Field.{digit, pair_of, field}
use Rattle.names.proofs.FieldLaws.{field_sound}
use Rattle.record.specs.declared.stamp.Date.{Date}
use Rattle.date_syntax.specs.declared.DateRead.{DateRead}
use Rattle.date_syntax.specs.Read.{marked, plain, year, year_month, date}
use Rattle.time_syntax.specs.declared.fraction.Fraction.{Fraction}
use Rattle.time_syntax.specs.declared.TimeRead.{TimeRead}
use Rattle.time_syntax.specs.declared.UtcRead.{UtcRead}
use Rattle.time_syntax.specs.Read.{digits_from, fraction_of, point_byte, fraction_at, minute_at, seconds_at, time, past, zulu_byte, utc, past_utc}
use Rattle.time_syntax.proofs.Bytes.{one_of, digit_is}
use Rattle.time_syntax.proofs.FractionLaws.{one, pair_step}
use Rattle.tail_syntax.specs.Read.{opened, zone, none, notes, tail}
use Rattle.grammar.specs.Read.{stamp, clock_at, timed_at}
use Rattle.text.specs.declared.refusal.Refusal.TheVariants.{BadDay}
use Rattle.meaning.specs.Shown.{Small, shown_date, shown}
use Rattle.meaning.specs.Verdict.{verdict, late_date, faults_of}
use Rattle.meaning.proofs.Years.{stamp_small}
use Rattle.kinds.specs.declared.usual.Usual.{Usual}
use Rattle.kinds.specs.Kinds.{stamp_answer}
use Rattle.kinds.specs.Usual.{unit, end_byte, Tells, Rest, EndIs, DayAt, FractionAt, TimeAt, UtcAt, UsualIs, usual_shown}

-- the byte at a place
front-drop : (l : List ℕ) (i : ℕ) → front (drop i l) ≡ get_or l i 0
front-drop l i = get_or-drop i l 0 0 ∙ ap (λ (k : ℕ). get_or l k 0) (add-zero i)

-- two digits there
pub pair_is : (lo hi : ℕ) (l : List ℕ) (i : ℕ) → pair_of lo hi (digit (get_or l i 0)) (digit (get_or l (i + 1) 0)) ≡ field lo hi (drop i l)
unfolding field
pair_is lo hi l i = rw (front-drop l i, drop-drop 1 i l, front-drop l (i + 1))

-- a digit at the front of a field
front-digit : (l : List ℕ) {n : ℕ} → field 0 99 l ≡ Some n → front l ≡ 48 + n / 10
front-digit l {n} e = let h = field_sound 0 99 l e in ap front h.3 ∙ ap (λ (m : List ℕ). front (m ++ drop 2 l)) (two n h.2)

-- ---- the date
marked_is : (l : List ℕ) (lo hi i : ℕ) {n : ℕ} → get_or l i 0 ≡ 45 → field lo hi (drop (i + 1) l) ≡ Some n → marked lo hi (drop i l) ≡ Some n
unfolding marked
marked_is l lo hi i e f = rw (front-drop l i, e, drop-drop 1 i l, f)

pub day_lem : (l : List ℕ) {a b m d : ℕ} → Some a ≡ field 0 99 l → Some b ≡ field 0 99 (drop 2 l) → Some m ≡ field 1 12 (drop 5 l) → Some d ≡ field 1 31 (drop 8 l)
    → (eqb (get_or l 4 0) 45 && eqb (get_or l 7 0) 45) ≡ true → DayAt l (record { negative = false; year = a * 100 + b; wide = false; month = m; day = d })
unfolding date year_month year plain
day_lem l {a} ea eb em ed dashes =
    let b = both (eqb (get_or l 4 0) 45) (eqb (get_or l 7 0) 45) dashes in
    let x = front-digit l (sym ea) in
    let m = marked_is l 1 12 4 (eqb-true _ 45 b.0) (sym em) in
    let d = marked_is l 1 31 7 (eqb-true _ 45 b.1) (sym ed) in
    record { date = rw (ne_eqb (front l) 43 (λ z. omega arith), ne_eqb (front l) 45 (λ z. omega arith), ← ea, ← eb, m, d); plain = refl }

-- ---- the fraction

end_byte_lem : (b : ℕ) → end_byte b ≡ true → (P : ℕ → Type 0) → P 90 → P 0 → P 43 → P 45 → P b
end_byte_lem b e P z n p m = go (eqb b 90 || eqb b 0) refl e
  where
    go : (t : Bool) → (eqb b 90 || eqb b 0) ≡ t → (t || sign_byte b) ≡ true → P b
    go true f e = one_of b 90 0 f P z n
    go false f e = one_of b 43 45 e P p m

stops : (p : ℕ) (l : List ℕ) (n w v : ℕ) → end_byte (front l) ≡ true → digits_from p l n w v ≡ record { point = p; nanos = v; digits = n }
stops p [] n w v e = refl
stops p (b ∷ l) n w v e = rw (end_byte_lem b e (λ c. digit_byte c ≡ false) refl refl refl refl)

-- a digit at place i, after n others
digit-step : (l : List ℕ) (i n w v : ℕ) {d : ℕ} → digit (get_or l i 0) ≡ Some d → i < length l
    → digits_from 46 (drop i l) n w v ≡ digits_from 46 (drop (i + 1) l) (n + 1) (w / 10) (v + d * w)
digit-step l i n w v e k = let h = digit_is (get_or l i 0) (sym e) in rw h.1 (one 46 l i n w v k h.0)

-- each digit counts a tenth of the one before
tenfold : (k : ℕ) → k < 9 → unit k ≡ 10 * unit (suc k)
tenfold k h = let e : 9 - k ≡ suc (9 - suc k) = omega arith in rw (e, pow-suc 10 (9 - suc k)) (omega arith)

-- one more digit, of k at place i
pub step : (l : List ℕ) (i k v : ℕ) {d : ℕ} → i < length l → digit (get_or l i 0) ≡ Some d → k < 9
    → digits_from 46 (drop i l) k (unit k / 10) (v * unit k) ≡ digits_from 46 (drop (i + 1) l) (k + 1) (unit (k + 1) / 10) ((v * 10 + d) * unit (k + 1))
step l i k v {d} h e g =
    let u = unit (suc k) in
    let t : unit k / 10 ≡ u = rw (tenfold k g) (omega arith) in
    let s : v * unit k + d * u ≡ (v * 10 + d) * u = rw (tenfold k g, add-mul (v * 10) d u, mul_assoc v 10 u) refl in
    digit-step l i k (unit k / 10) (v * unit k) e h ∙ rw (t, s, add-one k) refl

-- and the number stays small
pub more : (v d k : ℕ) → d < 10 → k < 9 → (v + 1) * unit k ≤ 1000000000 → ((v * 10 + d + 1) * unit (k + 1) ≤ 1000000000) × (v * 10 + d < 1000000000)
more v d k h g m =
    let u = unit (k + 1) in
    let t : unit k ≡ 10 * u = rw (add-one k) (tenfold k g) in
    let a : (v * 10 + d + 1) * u ≤ (v + 1) * 10 * u = mul-le-mul_right u (omega arith) in
    let b : (v * 10 + d + 1) * u ≤ (v + 1) * unit k = rw (mul_assoc (v + 1) 10 u, ← t) at a in
    let p : (v * 10 + d + 1) * 1 ≤ (v * 10 + d + 1) * u = mul-le-mul_left (v * 10 + d + 1) (ten_pos (9 - (k + 1))) in
    (omega (arith, b, m), omega (arith, b, m, p))

pub within : (v k : ℕ) → (v + 1) * unit k ≤ 1000000000 → v * unit k ≤ 1000000000
within v k m = let a : v * unit k ≤ (v + 1) * unit k = mul-le-mul_right (unit k) (omega arith) in omega (arith, a, m)

-- nine digits as four pairs and one
pub nine_digits : (l : List ℕ) {a b c d e : ℕ} → Some a ≡ field 0 99 (drop 20 l) → Some b ≡ field 0 99 (drop 22 l) → Some c ≡ field 0 99 (drop 24 l)
    → Some d ≡ field 0 99 (drop 26 l) → Some e ≡ digit (get_or l 28 0) → 29 ≤ length l
    → Tells l 29 (a * 10000000 + b * 100000 + c * 1000 + d * 10 + e)
unfolding fraction_of
nine_digits l ea eb ec ed ee n =
    pair_step 46 (drop 20 l) 0 10000000 0 (sym ea)
    ∙ rw (drop-drop 2 20 l)
    (pair_step 46 (drop 22 l) 2 100000 _ (sym eb)
    ∙ rw (drop-drop 2 22 l)
    (pair_step 46 (drop 24 l) 4 1000 _ (sym ec)
    ∙ rw (drop-drop 2 24 l)
    (pair_step 46 (drop 26 l) 6 10 _ (sym ed)
    ∙ rw (drop-drop 2 26 l) (digit-step l 28 8 1 _ (sym ee) (omega arith) ∙ ap (λ (v : ℕ). digits_from 46 (drop 29 l) 9 0 v) (omega arith)))))

-- nothing stands there
pub fraction_none : (l : List ℕ) (e : ℕ) → e ≡ 19 → end_byte (front (drop e l)) ≡ true → FractionAt l e None
unfolding fraction_at
fraction_none l e i end =
    let p = end_byte_lem (front (drop 19 l)) (rw i at end) (λ b. point_byte b ≡ false) refl refl refl refl in
    record { fraction = rw p; some = refl; few = refl; after = rw i }

-- a point and its digits
pub fraction_some : (l : List ℕ) (e v : ℕ) → get_or l 19 0 ≡ 46 → 20 < e → e < 30 → end_byte (front (drop e l)) ≡ true → Tells l e v
    → FractionAt l e (Some (record { point = 46; nanos = v; digits = e - 20 }))
unfolding fraction_at
fraction_some l e v point least most end tells =
    let i : 20 + (e - 20) ≡ e = omega arith in
    record {
      fraction = rw (front-drop l 19, point, drop-drop 1 19 l) (ap Some (tells ∙ stops 46 (drop e l) (e - 20) (unit (e - 20) / 10) v end));
      some = lt-ltb 0 (e - 20) (omega arith);
      few = le-ltb 9 (e - 20) (omega arith);
      after = rw (drop-drop 1 19 l, drop-drop (e - 20) 20 l, i);
    }

-- ---- the time
pub time_lem : (l : List ℕ) (e : ℕ) {h m s : ℕ} {f : Option Fraction} → Some h ≡ field 0 23 (drop 11 l) → Some m ≡ field 0 59 (drop 14 l) → Some s ≡ field 0 60 (drop 17 l)
    → (eqb (get_or l 13 0) 58 && eqb (get_or l 16 0) 58) ≡ true → FractionAt l e f → TimeAt l e (record { hour = h; minute = m; seconds = Some (record { second = s; fraction = f }) })
unfolding time minute_at seconds_at past
time_lem l e eh em es colons at =
    let p = both (eqb (get_or l 13 0) 58) (eqb (get_or l 16 0) 58) colons in
    let a = eqb-true _ 58 p.0 in
    let b = eqb-true _ 58 p.1 in
    record {
      time =
          rw (
            drop-drop 2 11 l,
            drop-drop 5 11 l,
            front-drop l 13,
            front-drop l 16,
            a,
            b,
            drop-drop 1 13 l,
            drop-drop 1 16 l,
            drop-drop 3 16 l,
            ← eh,
            ← em,
            ← es,
            at.fraction,
            at.some,
          );
      few = at.few;
      after = rw (drop-drop 5 11 l, drop-drop 3 16 l) at.after;
    }

-- ---- what follows it

pub end_is : (l : List ℕ) (e : ℕ) → EndIs l e → end_byte (front (drop e l)) ≡ true
end_is l e h = go (length l - e) refl h.rest
  where
    go : (k : ℕ) → length l - e ≡ k → Rest l e k → end_byte (front (drop e l)) ≡ true
    go zero i r = rw (drop_of_length-le l {i = e} (omega arith)) refl
    go (suc zero) i r = rw (front-drop l e, r) refl
    go (suc (suc k)) i r = rw (front-drop l e, r.1) (or-true (eqb (get_or l e 0) 90 || eqb (get_or l e 0) 0))

-- nothing, `Z`, and an offset are read as what they are
pub utc_none : (l : List ℕ) (e : ℕ) → length l ≡ e → UtcAt l e None
unfolding utc
utc_none l e i = let d = drop_of_length-le l {i = e} (omega arith) in record { utc = rw d; few = refl; after = d }

pub utc_zulu : (l : List ℕ) (e : ℕ) → EndIs l e → length l - e ≡ 1 → UtcAt l e (Some (UtcRead.Z 90))
unfolding utc
utc_zulu l e h i =
    let z : get_or l e 0 ≡ 90 = rw i at h.rest in
    record { utc = rw (front-drop l e, z); few = refl; after = drop-drop 1 e l ∙ drop_of_length-le l {i = e + 1} (omega arith) }

offset_rest : (l : List ℕ) (e : ℕ) → EndIs l e → (length l ≡ e → ⊥) → (length l - e ≡ 1 → ⊥)
    → (length l - e ≡ 6) × (sign_byte (get_or l e 0) ≡ true) × (get_or l (e + 3) 0 ≡ 58)
offset_rest l e h n o = go (length l - e) refl h.rest
  where
    go : (k : ℕ) → length l - e ≡ k → Rest l e k → (length l - e ≡ 6) × (sign_byte (get_or l e 0) ≡ true) × (get_or l (e + 3) 0 ≡ 58)
    go zero i r = let m = h.most in absurd (n (omega arith))
    go (suc zero) i r = absurd (o i)
    go (suc (suc k)) i r = (omega (arith, r.0), r.1, r.2)

module _ (l : List ℕ) (e : ℕ) {h m : ℕ} (eh : Some h ≡ field 0 23 (drop (e + 1) l)) (em : Some m ≡ field 0 59 (drop (e + 4) l)) where
  short_time : length l - e ≡ 6 → get_or l (e + 3) 0 ≡ 58 → time (drop (e + 1) l) ≡ Some (record { hour = h; minute = m; seconds = None })
  unfolding time minute_at seconds_at
  short_time six colon =
      let a : e + 1 + 2 ≡ e + 3 = omega arith in
      let b : e + 3 + 1 ≡ e + 4 = omega arith in
      rw (
        drop-drop 2 (e + 1) l,
        drop-drop 5 (e + 1) l,
        a,
        front-drop l (e + 3),
        colon,
        drop-drop 1 (e + 3) l,
        b,
        drop_of_length-le l {i = e + 1 + 5} (omega arith),
        ← eh,
        ← em,
      )

  pub utc_offset : EndIs l e → (length l ≡ e → ⊥) → (length l - e ≡ 1 → ⊥)
      → UtcAt l e (Some (UtcRead.Offset (record { negative = eqb (get_or l e 0) 45; time = record { hour = h; minute = m; seconds = None } })))
  unfolding utc past
  utc_offset end n o =
      let r = offset_rest l e end n o in
      let z = one_of (get_or l e 0) 43 45 r.1 (λ b. zulu_byte b ≡ false) refl refl in
      record {
        utc = rw (front-drop l e, z, r.1, drop-drop 1 e l, short_time r.0 r.2);
        few = refl;
        after = rw (drop-drop 1 e l, drop-drop 5 (e + 1) l) (drop_of_length-le l {i = e + 1 + 5} (let s = r.0 in omega arith));
      }

-- ---- the whole
no_tail : tail [] ≡ Some (record { zone = None; notes = none })
unfolding tail zone opened notes
no_tail = refl

pub day_stamp : (l : List ℕ) {d : DateRead} → length l ≡ 10 → DayAt l d → UsualIs l (record { date = d; clock = None })
unfolding stamp
day_stamp l i at = record { read = rw (at.date, at.plain, drop_of_length-le l {i = 10} (omega arith), no_tail); few = refl }

pub timed_stamp : (l : List ℕ) (e : ℕ) {d : DateRead} {t : TimeRead} {u : Option UtcRead} → DayAt l d → get_or l 10 0 ≡ 84 → TimeAt l e t → UtcAt l e u
    → UsualIs l (record { date = d; clock = Some (record { lead = Some 84; time = t; utc = u }) })
unfolding stamp timed_at clock_at
timed_stamp l e {t = x} {u = y} at lead t u =
    let utc_read : utc (past x (drop 11 l)) ≡ Some y = rw t.after u.utc in
    let tail_read : tail (past_utc y (past x (drop 11 l))) ≡ Some (record { zone = None; notes = none }) = rw t.after (rw u.after no_tail) in
    record {
      read = rw (at.date, at.plain, front-drop l 10, lead, drop-drop 1 10 l, t.time, utc_read, tail_read);
      few = rw (t.few, u.few);
    }

-- ---- what it is read as
module _ (l : List ℕ) {u : Usual} (is : UsualIs l u) where
  pub usual_small : Small u.date
  usual_small = stamp_small l is.read

  pub usual_late : {d : Date} → d ≡ shown_date u.date → true ≡ late_date d → Err BadDay ≡ stamp_answer l
  unfolding stamp_answer faults_of verdict
  usual_late e late = let h : late_date (shown_date u.date) ≡ true = ap late_date (sym e) ∙ sym late in rw (is.read, is.few, h)

  pub usual_shown_lem : {d : Date} → d ≡ shown_date u.date → false ≡ late_date d → Ok (usual_shown d u.clock) ≡ stamp_answer l
  unfolding stamp_answer faults_of verdict shown
  usual_shown_lem e late = let h : late_date (shown_date u.date) ≡ false = ap late_date (sym e) ∙ sym late in rw (is.read, is.few, h, e)
