-- What the tests of a stamp tell: its parts pass theirs. Assumes nothing.
use mathlib.Core.Path.{◌≡◌}
use mathlib.Core.Bool.{true}
use mathlib.Core.List.{List}
use Prim.Native.Nat.{ℕ}
use Rattle.text.proofs.Answers.{both}
use Rattle.record.specs.declared.stamp.Stamp.{Stamp}
use Rattle.date_writer.specs.Date.{date_ok}
use Rattle.time_writer.specs.Time.{time_ok}
use Rattle.time_writer.specs.Offset.{offset_ok}
use Rattle.tail_writer.specs.Zone.{zone_ok}
use Rattle.tail_writer.specs.Calendar.{calendar_ok}
use Rattle.writer.specs.Stamp.{part_ok, fields_ok, names_ok}

pub fields_in : (s : Stamp) → fields_ok s ≡ true → (part_ok date_ok s.date ≡ true) × (part_ok time_ok s.time ≡ true) × (part_ok offset_ok s.offset ≡ true)
unfolding fields_ok
fields_in s e =
    let p = both _ _ e in
    let q = both _ _ p.0 in
    (q.0, q.1, p.1)

pub names_in : (lent : List ℕ) (s : Stamp) → names_ok lent s ≡ true → (part_ok (zone_ok lent) s.zone ≡ true) × (part_ok (calendar_ok lent) s.calendar ≡ true)
unfolding names_ok
names_in lent s e = both _ _ e
