-- How a line is counted. Assumes nothing: these are definitions.
use Rattle.std.specs.Prelude.{ℕ, ◌+◌, ◌%◌, ◌^◌, Option, Some, None, slice_index_or, if◌then◌else◌, nat_lt}
use Rattle.std.proofs.Common.{set}
use Rattle.text.specs.declared.refusal.Refusal.{Refusal}
use Rattle.text.specs.Refusal.{number}
use Rattle.audit_tally.specs.declared.counts.Counts.{Counts}
use Rattle.audit_tally.specs.declared.counts.Changes.{Changes}
use Rattle.audit_tally.specs.declared.counts.Tally.{Tally}
use Rattle.audit_tally.specs.declared.kinds.Change.{Change}

abbrev pub no_lines : Tally
no_lines = record { count = 0; first = None }

-- the first of some lines, where one more is found
abbrev pub first_of : Option ℕ → ℕ → Option ℕ
first_of (Some first) line = Some first
first_of None line = Some line

-- one line more
abbrev pub noted : Tally → ℕ → Tally
noted t line = record { count = (t.count + 1) % 2 ^ 64; first = first_of t.first line }

-- the lines that one refusal has
abbrev pub refused_by : Counts → Refusal → Tally
refused_by c k = slice_index_or c.by_refusal (number k) no_lines

-- one change of the year's width more: the first are kept, as many as there are places
abbrev pub changed : Changes → ℕ → Change → Changes
changed c line change = record { count = (c.count + 1) % 2 ^ 64; first = if nat_lt c.count 20 then set c.first c.count (Some (line, change)) else c.first }
