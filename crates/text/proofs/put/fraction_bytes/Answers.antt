-- `text::put::fraction_bytes` meets its contract: no bytes, or a point and the digits. Assumes nothing.
use native.Mathlib.Omega.{arith}
use borrow.Author.Rules.{rules}
use Rattle.text.proofs.DigitLaws.{length-fraction}
use Rattle.text.proofs.put.fraction_bytes.Goals as goal

pub returns-else-k-eq0 : goal.returns-else-k-eq0
returns-else-k-eq0 c = omega (arith, length-fraction c.args.k c.args.ds c.if-k-eq0.false (search rules))
