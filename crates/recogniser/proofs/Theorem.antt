-- The recogniser says yes exactly if some accepted stamp with a date, separators on, writes the text.
--     recognised     the definition that the code computes is what `Recognised` says
--     recognised_only    no other answer is
-- Assumes nothing.
use Prim.Native.Nat.{ℕ, ◌≤◌}
use mathlib.Core.Bool.{Bool, true, false, cond, not, ◌&&◌, false≢true}
use mathlib.Core.Path.{◌≡◌, refl, sym, ap, ◌∙◌}
use mathlib.Core.List.{List}
use borrow.Author.Tests.{le-ltb, leb-true, eqb-true}
use lib.Dec.{ltb, leb, eqb}
use lib.ListN.{length}
use Rattle.std.specs.Prelude.{Option, Some, None, option_map, is_some}
use Rattle.std.proofs.lemmas.Option.{none-some, same_Some, some_pair_parts}
use native.Mathlib.Omega.{arith}
use Rattle.text.proofs.Answers.{both}
use Rattle.time_syntax.specs.Read.{second_in}
use Rattle.writer.specs.Stamp.{part_ok}
use Rattle.time_syntax.specs.Syntax as times
use Rattle.tail_syntax.specs.declared.bracket.NameRead.{NameRead}
use Rattle.tail_syntax.specs.Syntax as tails
use Rattle.tail_syntax.proofs.Kept.{notes-told, Alone, nothing, only, alone}
use Rattle.grammar.specs.declared.StampRead.{StampRead}
use Rattle.grammar.specs.Read.{stamp}
use Rattle.grammar.specs.Syntax as trees
use Rattle.grammar.proofs.Exact.{stamp_exact}
use Rattle.writer.proofs.Longest.{longest}
use Rattle.round_trip.specs.Canon.{canon}
use Rattle.round_trip.proofs.Canonical.{canonical, dated}
use Rattle.meaning.specs.Shown.{shown_date}
use Rattle.meaning.specs.Verdict.{late_date}
use Rattle.meaning.specs.Trees.{date_says}
use Rattle.recogniser.specs.Plain.{plain_date, plain_time, plain_utc, plain_clock, plain_name, plain_tail, plain, plain_read, recognises}
use Rattle.recogniser.specs.Recognised.{Written, Recognised}
use Rattle.recogniser.proofs.Canonical.{canon-plain}
use Rattle.recogniser.proofs.Stamps.{lent_of, stamp_of, TimePlain, UtcPlain, PartPlain, ZonePlain, PlainTree, canon_back, line_of}

-- ---- what is kept of a tree is plain, so the tree is
time-of : (t : times.TimeTree) → times.TimeOk t → plain_time (times.time_is t) ≡ true → TimePlain t
time-of t ok e =
    let p = both (leb (second_in (times.secs_kept t.secs)) 59) _ e in
    record { ok = ok; second = leb-true _ 59 p.0; fraction = p.1 }

utc-of : (u : times.UtcTree) → times.UtcOk u → part_ok plain_utc (trees.utc_is u) ≡ true → UtcPlain u
utc-of times.absent ok e = tt
utc-of (times.zulu b) ok e = eqb-true b 90 e
utc-of (times.offset negative t) ok e = record { ok = ok.0; second = ok.1; fraction = e }

part_of : (p : trees.PartTree) → trees.PartOk p → part_ok plain_clock (trees.part_kept p) ≡ true → PartPlain p
unfolding plain_clock
part_of trees.date_only ok e = tt
part_of (trees.at b c) ok e =
    let p = both (eqb b 84 && plain_time (times.time_is c.time)) (part_ok plain_utc (trees.utc_is c.utc)) e in
    let q = both (eqb b 84) (plain_time (times.time_is c.time)) p.0 in
    (eqb-true b 84 q.0, time-of c.time ok.1.time q.1, utc-of c.utc ok.1.utc p.1)

zone-of : (z : tails.ZoneTree) (r : List ℕ) → part_ok plain_name (tails.zone_kept z r) ≡ true → ZonePlain z
zone-of tails.no_zone r e = tt
zone-of (tails.one_zone c n) r e = leb-true (length n) 64 e

is_true : (b : Bool) → not (not b) ≡ true → b ≡ true
is_true true e = refl
is_true false e = absurd (false≢true e)

is_false : (b : Bool) → not b ≡ true → b ≡ false
is_false true e = absurd (false≢true e)
is_false false e = refl

-- of annotations besides which there is none, the first value is the calendar's
short_of : (ns : List tails.NoteTree) → Alone ns → (o : Option NameRead)
    → option_map {U = Bool × ℕ} (λ (n : NameRead). (n.critical, n.size)) o ≡ option_map {U = Bool × ℕ} (λ (n : tails.NoteTree). (n.critical, length n.value)) (tails.first_calendar ns)
    → part_ok plain_name o ≡ true → length (tails.first_value ns) ≤ 64
short_of ns nothing o e p = omega arith
short_of ns (only n u) None e p = let z = rw u at e in absurd (none-some _ z)
short_of ns (only n u) (Some m) e p =
    let z = rw u at e in
    rw (← (some_pair_parts _ _ _ _ z).1) (leb-true _ 64 p)

tree_of : (w : trees.StampTree) → trees.StampOk w → plain (trees.stamp_kept w) ≡ true → PlainTree w
unfolding plain
tree_of w ok e =
    let k = trees.stamp_kept w in
    let p = both (plain_date k.date && not (late_date (shown_date k.date)) && part_ok plain_clock k.clock) (plain_tail k.tail) e in
    let q = both (plain_date k.date && not (late_date (shown_date k.date))) (part_ok plain_clock k.clock) p.0 in
    let d = both (plain_date k.date) (not (late_date (shown_date k.date))) q.0 in
    let t = both (part_ok plain_name k.tail.zone) _ p.1 in
    let n = both (not k.tail.notes.more) _ t.1 in
    let told = notes-told w.tail.notes in
    let a = alone w.tail.notes (sym told.more ∙ is_false _ n.0) in
    record {
      ok = ok;
      year = d.0;
      day = is_true _ d.1;
      part = part_of w.part ok.part q.1;
      zone = zone-of w.tail.zone (tails.notes_text w.tail.notes) t.0;
      notes = a;
      short = short_of w.tail.notes a k.tail.notes.calendar told.calendar n.1;
    }

-- ---- the theorem
some_plain : (o : Option StampRead) → plain_read o ≡ true → (w : StampRead) × (o ≡ Some w) × (plain w ≡ true)
some_plain None e = absurd (false≢true e)
some_plain (Some w) e = (w, refl, e)

sound : (l : List ℕ) → recognises l ≡ true → Written l
unfolding recognises
sound l e = go (ltb 190 (length l)) e
  where
    go : (long : Bool) → cond long false (plain_read (stamp l)) ≡ true → Written l
    go true e = absurd (false≢true e)
    go false e =
        let x = some_plain (stamp l) e in
        let f = stamp_exact.sound l (ap is_some x.1) in
        let w = f.0 in
        let p = tree_of w f.1 (ap plain (same_Some _ _ (sym f.2 ∙ x.1)) ∙ x.2) in
        let c = canonical (lent_of w.tail) (stamp_of w) (line_of w p) (date_says w.date) refl in
        record {
          lent = lent_of w.tail;
          stamp = stamp_of w;
          line = line_of w p;
          text = c.text ∙ ap trees.stamp_text (canon_back w p) ∙ sym f.3;
        }

complete : (l : List ℕ) → Written l → recognises l ≡ true
unfolding recognises
complete l w =
    let d = dated w.stamp.date w.line.dated in
    let c = canonical w.lent w.stamp w.line d.0 d.1 in
    let kept : stamp l ≡ Some (trees.stamp_kept (canon w.lent d.0 w.stamp)) = ap stamp (sym w.text ∙ c.text) ∙ stamp_exact.reads (canon w.lent d.0 w.stamp) c.ok in
    let short : length l ≤ 190 = rw (← w.text) (longest w.lent w.stamp w.line.accepted.fields w.line.accepted.names) in
    rw (le-ltb 190 (length l) short, kept) (canon-plain w.lent w.stamp d.0 w.line d.1)

pub recognised : (l : List ℕ) → Recognised l (recognises l)
recognised l = record { sound = sound l; complete = complete l }

pub recognised_only : (l : List ℕ) (a b : Bool) → Recognised l a → Recognised l b → a ≡ b
recognised_only l true true r s = refl
recognised_only l true false r s = absurd (false≢true (s.complete (r.sound refl)))
recognised_only l false true r s = absurd (false≢true (r.complete (s.sound refl)))
recognised_only l false false r s = refl
