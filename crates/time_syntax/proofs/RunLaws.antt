-- The digits at the front of a text, once for the fraction of a second and for the numbers of a duration.
--     run_text, run_sound             the digits of a text are read whatever other byte follows; and what was read stands there
--     run_more, run_stop, run_end     one turn of a loop over them
--     fraction-run                    a fraction is its point and the digits at the front after it
-- Assumes nothing.
use Prim.Native.Nat.{ℕ, ◌+◌, ◌-◌, ◌*◌, ◌/◌, ◌≤◌, ◌<◌}
use native.Mathlib.Numerals.{add-one}
use native.Mathlib.Omega.{arith}
use mathlib.Core.Bool.{Bool, true, false, cond}
use mathlib.Core.Path.{◌≡◌, refl, ◌∙◌}
use mathlib.Core.List.{List, [], ◌∷◌, ◌++◌}
use lib.ListN.{length, get_or, drop, drop_of_length-le}
use lib.Seq.{drop-cons}
use Rattle.text.specs.Walk.{front}
use Rattle.text.specs.Digits.{shown, AllDigits}
use Rattle.names.specs.Grammar.{digit_byte}
use Rattle.time_syntax.specs.declared.fraction.Fraction.{Fraction}
use Rattle.time_syntax.specs.Read.{run, digits_from, fraction_of}
use Rattle.time_syntax.specs.Syntax.{weighed, nanos_of}
use Rattle.time_syntax.proofs.Bytes.{digit_range, digit-shown}

-- ---- the text of digits

pub run_text : (ds r : List ℕ) → AllDigits ds → digit_byte (front r) ≡ false → run (shown ds ++ r) ≡ ds
run_text [] [] a q = refl
run_text [] (b ∷ r) a q = rw q
run_text (d ∷ ds) r a q = let e : 48 + d - 48 ≡ d = omega arith in rw (digit-shown d a.0, e, run_text ds r a.1 q)

pub run_sound : (l : List ℕ) → AllDigits (run l) × (l ≡ shown (run l) ++ drop (length (run l)) l)
run_sound [] = (tt, refl)
run_sound (b ∷ l) = go (digit_byte b) refl (run_sound l)
  where
    go : (t : Bool) → digit_byte b ≡ t → AllDigits (run l) × (l ≡ shown (run l) ++ drop (length (run l)) l)
        → AllDigits (cond t ((b - 48) ∷ run l) [])
        × (b ∷ l ≡ shown (cond t ((b - 48) ∷ run l) []) ++ drop (length (cond t ((b - 48) ∷ run l) [])) (b ∷ l))
    go true e s =
        let h = digit_range b e in
        let x : b ≡ 48 + (b - 48) = omega (arith, h.0) in
        let y = s.1 in
        ((omega (arith, h.1), s.0), cc)
    go false e s = (tt, refl)

-- ---- a loop over them

module _ (t : List ℕ) (i : ℕ) where
  pub run_more : i < length t → digit_byte (get_or t i 0) ≡ true → run (drop i t) ≡ (get_or t i 0 - 48) ∷ run (drop (i + 1) t)
  run_more h e = rw (drop-cons t i 0, add-one, e)

  pub run_stop : i < length t → digit_byte (get_or t i 0) ≡ false → run (drop i t) ≡ []
  run_stop h e = rw (drop-cons t i 0, e)

  pub run_end : length t ≤ i → run (drop i t) ≡ []
  run_end h = rw (drop_of_length-le t h)

-- ---- a fraction

same : {p v u n m : ℕ} → v ≡ u → n ≡ m → ◌≡◌ {A = Fraction} (record { point = p; nanos = v; digits = n }) (record { point = p; nanos = u; digits = m })
same {p} e f = λ i. record { point = p; nanos = e i; digits = f i }

digits-run : (p : ℕ) (l : List ℕ) (n w v : ℕ)
    → digits_from p l n w v ≡ record { point = p; nanos = v + weighed w (run l); digits = n + length (run l) }
digits-run p [] n w v = same (omega arith) (omega arith)
digits-run p (b ∷ l) n w v = go (digit_byte b) (digits-run p l (n + 1) (w / 10) (v + (b - 48) * w))
  where
    go : (t : Bool) → digits_from p l (n + 1) (w / 10) (v + (b - 48) * w)
        ≡ record { point = p; nanos = v + (b - 48) * w + weighed (w / 10) (run l); digits = n + 1 + length (run l) }
        → cond t (digits_from p l (n + 1) (w / 10) (v + (b - 48) * w)) (record { point = p; nanos = v; digits = n })
        ≡ record {
          point = p;
          nanos = v + weighed w (cond t ((b - 48) ∷ run l) []);
          digits = n + length (cond t ((b - 48) ∷ run l) []);
        }
    go true e = e ∙ same (omega arith) (omega arith)
    go false e = same (omega arith) (omega arith)

abbrev pub fraction_is : ℕ → List ℕ → Fraction
fraction_is p ds = record { point = p; nanos = nanos_of ds; digits = length ds }

pub fraction-run : (p : ℕ) (l : List ℕ) → fraction_of p l ≡ fraction_is p (run l)
unfolding fraction_of nanos_of
fraction-run p l = digits-run p l 0 100000000 0 ∙ same (omega arith) (omega arith)
