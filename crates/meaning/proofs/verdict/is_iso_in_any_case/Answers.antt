-- `meaning::verdict::is_iso_in_any_case` meets its contract. Assumes nothing.
use Rattle.names.specs.Name.{iso8601}
use Rattle.meaning.proofs.Names.{decides_same}
use Rattle.meaning.proofs.verdict.is_iso_in_any_case.Goals as goal

pub returns : goal.returns
returns c = decides_same _ iso8601 (rw c.as_slice.ensures at c.eq_ignore_ascii_case.ensures.test)
