-- DEMAND 3. Any stamp with a date, separators on, that the writer accepts: reading the bytes written gives back exactly the shown record. So two stamps share a
-- text only if their shown records are equal. `Line` is what the demand says of a stamp. Assumes nothing.
--     round_trip            the demand's first sentence
--     round_trip_in         the same where the text stands at the front of a buffer: the names read are places in the buffer
--     one_line_one_event    its second sentence, whatever the settings and the lent texts
use Prim.Native.Nat.{ℕ}
use mathlib.Core.Path.{◌≡◌, sym, ap, ◌∙◌}
use mathlib.Core.List.{List, ◌++◌}
use Rattle.std.specs.Prelude.{Ok}
use Rattle.record.specs.declared.stamp.Stamp.{Stamp}
use Rattle.meaning.specs.Said.{Told}
use Rattle.writer.specs.Stamp.{stamp_text}
use Rattle.meaning.specs.Said.{told}
use Rattle.kinds.specs.Kinds.{read_stamp}
use Rattle.kinds.proofs.Meaning.{stamp_meaning}
use Rattle.round_trip.specs.Shown.{shown_record, Line}
use Rattle.round_trip.specs.Canon.{canon}
use Rattle.round_trip.proofs.Canonical.{canonical, dated}
use Rattle.round_trip.proofs.Says.{canon_means}
use Rattle.round_trip.proofs.Places.{told_longer}

module _ (lent : List ℕ) (s : Stamp) where
  pub round_trip : Line lent s → told (stamp_text lent s) (read_stamp (stamp_text lent s)) ≡ Ok (shown_record lent s)
  round_trip line =
      let d = dated s.date line.dated in
      let c = canonical lent s line d.0 d.1 in
      rw c.text (stamp_meaning.meant (canon lent d.0 s) c.ok ∙ canon_means lent s line d.0 d.1)

  pub round_trip_in : (rest : List ℕ) → Line lent s → told (stamp_text lent s ++ rest) (read_stamp (stamp_text lent s)) ≡ Ok (shown_record lent s)
  round_trip_in rest line =
      let d = dated s.date line.dated in
      let c = canonical lent s line d.0 d.1 in
      rw c.text (told_longer (canon lent d.0 s) rest c.ok) ∙ round_trip line

pub one_line_one_event : (lent lent' : List ℕ) (s s' : Stamp) → Line lent s → Line lent' s'
    → stamp_text lent s ≡ stamp_text lent' s' → shown_record lent s ≡ shown_record lent' s'
one_line_one_event lent lent' s s' line line' e =
    let same : ◌≡◌ {A = Told} (Ok (shown_record lent s)) (Ok (shown_record lent' s')) =
    sym (round_trip lent s line) ∙ ap (λ (l : List ℕ). told l (read_stamp l)) e ∙ round_trip lent' s' line' in
    cc
