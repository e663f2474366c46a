-- Annotations: their lengths, and what the tests of names tell. Assumes nothing.
--     length_name           a name inside the lent text has its own length
--     zone_fits, calendar_fits    a name that passes its test lies inside the lent text and is short
--     zone_most, calendar_most    the longest zone and calendar
use mathlib.Core.Path.{◌≡◌}
use mathlib.Core.Bool.{true}
use mathlib.Core.List.{List, []}
use Prim.Native.Nat.{ℕ, ◌+◌, ◌≤◌}
use native.Mathlib.Omega.{arith}
use lib.ListN.{length, length-append, length-drop, length-take}
use Rattle.record.specs.declared.stamp.Name.{Name}
use Rattle.record.specs.declared.stamp.Zone.{Zone}
use Rattle.record.specs.declared.stamp.Calendar.{Calendar}
use Rattle.names.proofs.Exact.{zone_name_exact, calendar_name_exact}
use Rattle.tail_writer.specs.declared.annotation.Mark.{Mark}
use Rattle.tail_writer.specs.declared.annotation.Mark.TheVariants.{Hidden, Plain, Critical}
use Rattle.tail_writer.specs.Annotation.{name_in, NameFits, bracketed, annotation}
use Rattle.tail_writer.specs.Zone.{zone_mark, zone_text, zone_ok}
use Rattle.tail_writer.specs.Calendar.{calendar_key, is_iso, calendar_mark, calendar_text, calendar_ok}

pub length_name : (lent : List ℕ) (n : Name) → NameFits lent n → length (name_in lent n) ≡ n.len
length_name lent n f = simp (length-take, length-drop) (omega (arith, f.inside))

pub zone_fits : (lent : List ℕ) (z : Zone) → zone_ok lent z ≡ true → NameFits lent z.name
unfolding zone_ok
zone_fits lent z e = let x = (zone_name_exact lent z.name.at z.name.len).0 e in record { inside = x.2; short = x.1 }

pub calendar_fits : (lent : List ℕ) (c : Calendar) → calendar_ok lent c ≡ true → NameFits lent c.name
unfolding calendar_ok
calendar_fits lent c e = let x = (calendar_name_exact lent c.name.at c.name.len).0 e in record { inside = x.2; short = x.1 }

-- at most three bytes more than its key and its name
annotation_most : (m : Mark) (key name : List ℕ) → length (annotation m key name) ≤ 3 + length key + length name
unfolding bracketed
annotation_most Hidden key name = omega arith
annotation_most Plain key name = simp length-append (omega arith)
annotation_most Critical key name = simp length-append (omega arith)

pub zone_most : (lent : List ℕ) (z : Zone) → zone_ok lent z ≡ true → length (zone_text lent z) ≤ 67
unfolding zone_text
zone_most lent z e =
    let f = zone_fits lent z e in
    omega (arith, annotation_most (zone_mark z.show) [] (name_in lent z.name), length_name lent z.name f)

pub calendar_most : (lent : List ℕ) (c : Calendar) → calendar_ok lent c ≡ true → length (calendar_text lent c) ≤ 72
unfolding calendar_text
calendar_most lent c e =
    let f = calendar_fits lent c e in
    omega (arith, annotation_most (calendar_mark c.show (is_iso lent c)) calendar_key (name_in lent c.name), length_name lent c.name f)
