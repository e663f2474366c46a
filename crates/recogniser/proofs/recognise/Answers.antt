-- `recogniser::recognise` meets its contract: its answer is the definition's, and that is what `Recognised` says. Assumes nothing.
use Rattle.std.proofs.Common.{◌≡◌, Bool, false, List, ℕ, Option, Some, None, MatchOption, sym, ap, ◌∙◌}
use Rattle.text.proofs.Tests.{tests}
use Rattle.grammar.specs.declared.StampRead.{StampRead}
use Rattle.grammar.specs.Read.{stamp}
use Rattle.meaning.proofs.Years.{stamp_small}
use Rattle.recogniser.specs.Plain.{plain, plain_read, recognises}
use Rattle.recogniser.specs.Recognised.{Recognised}
use Rattle.recogniser.proofs.Theorem.{recognised}
use Rattle.recogniser.proofs.recognise.Goals as goal

answered : (l : List ℕ) {r : Bool} → r ≡ recognises l → Recognised l r
answered l e = rw e (recognised l)

tested : (o : Option StampRead) {r : Bool} → MatchOption o (r ≡ false) (λ w. r ≡ plain w) → r ≡ plain_read o
tested None e = e
tested (Some w) e = e

pub is_some_and-requires : goal.is_some_and-requires
is_some_and-requires c = λ w e. stamp_small c.args.t.now (sym c.whole_stamp.ensures ∙ e)

pub returns-then-t-le-LONGEST_STAMP : goal.returns-then-t-le-LONGEST_STAMP
unfolding recognises
returns-then-t-le-LONGEST_STAMP c =
    let e : c.is_some_and.result ≡ plain_read (stamp c.args.t.now) = tested c.whole_stamp.result c.is_some_and.ensures ∙ ap plain_read c.whole_stamp.ensures in
    answered c.args.t.now (search (tests, e))

pub returns-else-t-le-LONGEST_STAMP : goal.returns-else-t-le-LONGEST_STAMP
unfolding recognises
returns-else-t-le-LONGEST_STAMP c = answered c.args.t.now (search tests)
