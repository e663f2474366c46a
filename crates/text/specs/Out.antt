-- What an inner writer asks of where it writes, and what it promises, for every writer of the library; and where a public one begins. Assumes nothing: these are definitions.
use Rattle.std.specs.Prelude.{◌≡◌, List, ℕ, ◌+◌, ◌≤◌, length}
use Rattle.std.proofs.lemmas.List.Edits.{sets}
use Rattle.text.specs.declared.out.Out.{Out}

-- t fits into the buffer from the place on
pub record Fits (out : Out) (t : List ℕ) : Type 0 where
  pub room : out.at + length t ≤ length out.buf.now

-- t was stored at the place of old, new is after it, and the buffer is still the one that was lent, of the same size
pub record Puts (old : Out) (t : List ℕ) (new : Out) : Type 0 where
  pub next : new.at ≡ old.at + length t
  pub text : new.buf.now ≡ sets old.buf.now old.at t
  pub size : length new.buf.now ≡ length old.buf.now
  pub lent : new.buf.ghost_name ≡ old.buf.ghost_name

-- the place is the front of a buffer that holds b
pub record AtFront (b : List ℕ) (out : Out) : Type 0 where
  pub front : out.at ≡ 0
  pub holds : out.buf.now ≡ b
