-- `time_syntax::fraction::fraction_of` meets its contract: a digit read is one turn of the definition, and another byte ends it. Assumes nothing.
use Rattle.std.proofs.Common.{◌≡◌, ℕ, ◌+◌, ◌*◌, ◌/◌, ◌<◌, ◌≤◌, Some, List, length, get_or, drop, refl, sym, ◌∙◌, arith}
use Rattle.std.proofs.Math.Nat.{mul-le-mul_right}
use Rattle.names.specs.Field.{digit}
use Rattle.time_syntax.specs.Read.{digits_from, fraction_of}
use Rattle.time_syntax.proofs.Bytes.{digit_is, no_digit}
use Rattle.time_syntax.proofs.FractionLaws.{one, stop}
use Rattle.time_syntax.proofs.fraction.fraction_of.Goals as goal

-- a digit times its weight is at most nine weights
small : (b w : ℕ) {d : ℕ} → Some d ≡ digit b → d * w ≤ 9 * w
small b w e = mul-le-mul_right w (omega (arith, digit_is b e))

turn : (p : ℕ) (t : List ℕ) (i n w v : ℕ) {d : ℕ} → i < length t → Some d ≡ digit (get_or t i 0)
    → digits_from p (drop (i + 1) t) (n + 1) (w / 10) (v + d * w) ≡ digits_from p (drop i t) n w v
turn p t i n w v h e = let f = digit_is (get_or t i 0) e in rw f.1 (sym (one p t i n w v h f.0))

pub loop-b-init : goal.loop-b-init
unfolding fraction_of
loop-b-init c = (refl, omega arith, refl)

pub overflow_mul-nanos : goal.overflow_mul-nanos
overflow_mul-nanos c = omega (arith, small _ c.loop-b.weight c.in-Some.ensures)

pub overflow_add-nanos : goal.overflow_add-nanos
overflow_add-nanos c = omega (arith, small _ c.loop-b.weight c.in-Some.ensures)

pub loop-b-preserved : goal.loop-b-preserved
loop-b-preserved c = (
  omega arith,
  omega (arith, small _ c.loop-b.weight c.in-Some.ensures),
  turn _ _ c.loop-b.b-index c.loop-b.digits c.loop-b.weight c.loop-b.nanos c.loop-b-test.true c.in-Some.ensures ∙ c.loop-b.invariant.2,
)

pub returns-in_default : goal.returns-in_default
returns-in_default c =
    sym (stop _ _ c.loop-b.b-index c.loop-b.digits c.loop-b.weight c.loop-b.nanos c.loop-b-test.true (no_digit _ c.in_default.ensures)) ∙ c.loop-b.invariant.2
