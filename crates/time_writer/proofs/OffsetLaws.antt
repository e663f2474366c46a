-- The longest offset. Assumes nothing.
use mathlib.Core.List.{List}
use Prim.Native.Nat.{ℕ, ◌≤◌}
use native.Mathlib.Omega.{arith}
use lib.ListN.{length}
use Rattle.record.specs.declared.stamp.UtcOffset.{UtcOffset}
use Rattle.record.specs.declared.stamp.UtcOffset.TheVariants as utc
use Rattle.record.specs.declared.stamp.DisplayOffset.{DisplayOffset}
use Rattle.record.specs.declared.stamp.DisplayOffset.TheVariants.{Auto, Never}
use Rattle.record.specs.declared.stamp.Offset.{Offset}
use Rattle.time_writer.specs.Offset.{signed_text, utc_text, unless_never, offset_text}
use Rattle.time_writer.proofs.TimeLaws.{time_most}

unless_never_most : (p : DisplayOffset) (t : List ℕ) → length (unless_never p t) ≤ length t
unless_never_most Auto t = omega arith
unless_never_most Never t = omega arith

utc_most : (u : UtcOffset) → length (utc_text u) ≤ 19
unfolding signed_text
utc_most utc.Z = omega arith
utc_most (utc.Offset s) = omega (arith, time_most s.time)

pub offset_most : (o : Offset) → length (offset_text o) ≤ 19
unfolding offset_text
offset_most o = omega (arith, unless_never_most o.show (utc_text o.offset), utc_most o.offset)
