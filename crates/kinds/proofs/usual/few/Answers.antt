-- `kinds::usual::few` meets its contract: the digits so far, and those that are left, give the whole fraction. Assumes nothing.
use Rattle.std.proofs.Common.{◌≡◌, ◌+◌, ◌-◌, ◌*◌, ◌<◌, ◌≤◌, Some, ℕ, refl, sym, ◌∙◌, le_refl, arith}
use Rattle.names.specs.Field.{digit}
use Rattle.time_syntax.specs.Read.{fraction_of}
use Rattle.time_syntax.proofs.Bytes.{digit_is}
use Rattle.kinds.specs.Usual.{unit}
use Rattle.kinds.proofs.UsualLaws.{step, more}
use Rattle.kinds.proofs.usual.few.Goals as goal

-- a digit more, of those before place i
grown : (b i v : ℕ) {d : ℕ} → 20 ≤ i → i < 28 → Some d ≡ digit b → (v + 1) * unit (i - 20) ≤ 1000000000
    → ((v * 10 + d + 1) * unit (i + 1 - 20) ≤ 1000000000) × (v * 10 + d < 1000000000)
grown b i v {d} h k e m =
    let j : i + 1 - 20 ≡ i - 20 + 1 = omega arith in
    rw j (more v d (i - 20) (digit_is b e).2 (omega arith) m)

pub loop-i-init : goal.loop-i-init
unfolding fraction_of
loop-i-init c = record { small = le_refl 1000000000; read = refl }

pub overflow_mul-v : goal.overflow_mul-v
overflow_mul-v c = let t = c.loop-i-test.true in omega (arith, grown _ c.loop-i.i c.loop-i.v c.loop-i.auto.i (omega arith) c.in_ok-d.ensures c.loop-i.invariant.small)

pub overflow_add-v : goal.overflow_add-v
overflow_add-v c = let t = c.loop-i-test.true in omega (arith, c.from.ensures, grown _ c.loop-i.i c.loop-i.v c.loop-i.auto.i (omega arith) c.in_ok-d.ensures c.loop-i.invariant.small)

pub loop-i-preserved : goal.loop-i-preserved
loop-i-preserved c =
    let t = c.loop-i-test.true in
    let j : c.loop-i.i + 1 - 20 ≡ c.loop-i.i - 20 + 1 = omega (arith, c.loop-i.auto.i) in
    record {
      small = rw c.from.ensures (grown _ c.loop-i.i c.loop-i.v c.loop-i.auto.i (omega arith) c.in_ok-d.ensures c.loop-i.invariant.small).0;
      read = c.loop-i.invariant.read ∙ rw (j, c.from.ensures) (step c.args.t.now c.loop-i.i (c.loop-i.i - 20) c.loop-i.v (omega arith) (sym c.in_ok-d.ensures) (omega arith));
    }
