-- The number at the front of a text.
--     begun, another, whole     the digits so far of a loop over them: none, one more, all
-- Assumes nothing.
use Prim.Native.Nat.{ℕ, ◌+◌, ◌*◌, ◌<◌}
use native.Mathlib.Omega.{arith}
use mathlib.Core.Bool.{Bool, true, false, cond}
use mathlib.Core.Path.{◌≡◌, refl, sym, ap, ◌∙◌}
use mathlib.Core.List.{List, [], ◌∷◌}
use lib.Dec.{leb}
use lib.ListN.{length, get_or, drop}
use borrow.Author.Tests.{leb-false, lt-leb}
use Rattle.std.specs.Prelude.{Option, Some, None}
use Rattle.text.specs.Digits.{value_from, value_of}
use Rattle.names.specs.Field.{digit}
use Rattle.time_syntax.specs.Read.{run}
use Rattle.time_syntax.proofs.Bytes.{digit_is}
use Rattle.time_syntax.proofs.RunLaws.{run_more}
use Rattle.duration_syntax.specs.declared.number.Number.{Number}
use Rattle.duration_syntax.specs.Read.{value_is, value_more, number_at}

-- one digit more of a value
value_more_lem : (n d : ℕ) → value_more (value_is n) d ≡ value_is (n * 10 + d)
value_more_lem n d = go (leb n 18446744073709551615) refl
  where
    go : (t : Bool) → leb n 18446744073709551615 ≡ t → value_more (cond t (Some n) None) d ≡ value_is (n * 10 + d)
    go true e = refl
    go false e = rw (lt-leb (n * 10 + d) 18446744073709551615 (omega (arith, leb-false n 18446744073709551615 e)))

-- ---- the loop: i digits of the text t were read, whose value is v

pub record Begun (t : List ℕ) (i : ℕ) (v : Option ℕ) : Type 0 where
  pub number : ℕ
  pub value : v ≡ value_is number
  pub digits : i + length (run (drop i t)) ≡ length (run t)
  pub whole : value_from number (run (drop i t)) ≡ value_of (run t)

pub begun : (t : List ℕ) → Begun t 0 (Some 0)
begun t = record { number = 0; value = refl; digits = omega arith; whole = refl }

module _ (t : List ℕ) (i : ℕ) (v : Option ℕ) where
  pub another : {d : ℕ} → i < length t → Some d ≡ digit (get_or t i 0) → Begun t i v → Begun t (i + 1) (value_more v d)
  unfolding value_from
  another {d} h x b =
      let y = digit_is (get_or t i 0) x in
      let e : run (drop i t) ≡ d ∷ run (drop (i + 1) t) = rw y.1 (run_more t i h y.0) in
      record {
        number = b.number * 10 + d;
        value = ap (λ (v : Option ℕ). value_more v d) b.value ∙ value_more_lem b.number d;
        digits = omega (arith, ap length e, b.digits);
        whole = ap (value_from b.number) (sym e) ∙ b.whole;
      }

  pub whole : run (drop i t) ≡ [] → Begun t i v → ◌≡◌ {A = Number} (record { digits = i; value = v }) (number_at t)
  unfolding value_from number_at
  whole e b =
      let x : i ≡ length (run t) = omega (arith, ap length e, b.digits) in
      let y : v ≡ value_is (value_of (run t)) = b.value ∙ ap value_is (ap (value_from b.number) (sym e) ∙ b.whole) in
      cc
