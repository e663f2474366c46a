-- What writing a stamp into a lent buffer and reading the bytes written gives. Assumes nothing: these are definitions.
use Rattle.std.specs.Prelude.{ℕ, ◌≤◌, ◌≡◌, List, length, take, Ok, Err}
use Rattle.text.specs.Answer.{Answer, answer_of, buffer_of}
use Rattle.record.specs.declared.stamp.Stamp.{Stamp}
use Rattle.record.specs.Refusals.{Reading}
use Rattle.writer.specs.Stamp.{stamp_text, stamp_judged}
use Rattle.meaning.specs.Said.{told}
use Rattle.kinds.specs.Kinds.{read_stamp}
use Rattle.round_trip.specs.Shown.{shown_record, Line}

-- from the writer's answer and the buffer afterwards: what the bytes written are read as, or the writer's refusal
abbrev pub read_back : Answer → List ℕ → Reading
read_back (Ok n) b = read_stamp (take n b)
read_back (Err k) b = Err k

-- The buffer afterwards and the answer are determined, for every stamp and every buffer. Where the demand speaks of the stamp and its text fits the
-- buffer, the answer is the shown record: its names are places in the buffer, which holds the bytes of the names lent there.
pub record ThereAndBack (lent : List ℕ) (s : Stamp) (b b' : List ℕ) (r : Reading) : Type 0 where
  pub buffer : b' ≡ buffer_of (stamp_judged lent s) b
  pub answer : r ≡ read_back (answer_of (stamp_judged lent s) b) b'
  pub shown : Line lent s → length (stamp_text lent s) ≤ length b → told b' r ≡ Ok (shown_record lent s)
