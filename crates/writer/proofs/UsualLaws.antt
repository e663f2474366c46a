-- Stamps as most are: their time as the quick writer puts it, their length, and that what is kept of such a stamp is its text. Assumes nothing.
--     usual_time    the text of such a time
--     usual_most    the text of the whole has at most 30 bytes
--     clock_in      the fields of a time that passes its test have two digits
--     usually       what is kept of a stamp is its text
use mathlib.Core.Path.{◌≡◌, refl}
use mathlib.Core.Bool.{Bool, true, false, cond, or-true}
use mathlib.Core.List.{List, [], ◌∷◌, ◌++◌, append_assoc, append-nil}
use Prim.Native.Nat.{ℕ, ◌≤◌, ◌<◌}
use native.Mathlib.Omega.{arith}
use lib.ListN.{length, length-append}
use Rattle.std.specs.Prelude.{Option, Some, None}
use Rattle.text.specs.Put.{mark}
use Rattle.text.proofs.OutLaws.{mark_most}
use Rattle.record.specs.declared.stamp.Precision.{Precision}
use Rattle.record.specs.declared.stamp.Precision.TheVariants.{Auto, Minute, Digit}
use Rattle.record.specs.declared.stamp.Date.{Date}
use Rattle.record.specs.declared.stamp.Time.{Time}
use Rattle.record.specs.declared.stamp.DisplayOffset.{DisplayOffset}
use Rattle.record.specs.declared.stamp.DisplayOffset.TheVariants as show
use Rattle.record.specs.declared.stamp.UtcOffset.{UtcOffset}
use Rattle.record.specs.declared.stamp.UtcOffset.TheVariants as utc
use Rattle.record.specs.declared.stamp.Offset.{Offset}
use Rattle.record.specs.declared.stamp.Stamp.{Stamp}
use Rattle.precision.specs.Precision.{sub_second}
use Rattle.precision.proofs.SubSecond.{sub_second_most}
use Rattle.date_writer.specs.Date.{date_text, date_ok}
use Rattle.time_writer.specs.Time.{seconds, unless_minute, time_text, time_ok}
use Rattle.time_writer.specs.Offset.{unless_never, utc_text, offset_text, utc_ok, offset_ok}
use Rattle.time_writer.proofs.TimeLaws.{time_in}
use Rattle.writer.specs.Stamp.{part_text, part_ok, shows, stamp_text, fields_ok, names_ok, parts_ok, stamp_judged}
use Rattle.writer.specs.Usual.{zulu_in, zulu_of, shows_seconds, clock_text, usual_text, UsualParts, Kept}

unless-shown : (p : Precision) (r : List ℕ) → shows_seconds p ≡ true → unless_minute p r ≡ r
unless-shown Auto r h = refl
unless-shown Minute r h = cc
unless-shown (Digit d) r h = refl

pub usual_time : (t : Time) → t.include_sep ≡ true → shows_seconds t.precision ≡ true
    → time_text t ≡ clock_text t.clock ++ sub_second t.precision t.clock.nanosecond
unfolding time_text seconds clock_text
usual_time t e h = rw (unless-shown t.precision (seconds t) h, e)

module _ {y : ℕ} {d : Date} {t : Time} (h : UsualParts y d t) where
  pub usual_most : (z : Bool) → length (usual_text d t z) ≤ 30
  unfolding usual_text date_text clock_text
  usual_most z = rw (usual_time t h.separated h.seconds, h.year) (simp length-append (omega (arith, mark_most z 90, sub_second_most t.precision t.clock.nanosecond)))

pub clock_in : (t : Time) → time_ok t ≡ true → (t.clock.hour < 100) × (t.clock.minute < 100) × (t.clock.second < 100)
clock_in t e = let c = (time_in t e).0 in (omega arith, omega arith, omega arith)

-- ---- what is kept of a stamp

-- an offset that shows nothing or `Z`
zulu_offset : (s : DisplayOffset) (u : UtcOffset) (z : Bool) → Some z ≡ cond (shows s) (zulu_in u) None
    → (unless_never s (utc_text u) ≡ mark z 90) × (utc_ok u ≡ true)
zulu_offset show.Auto utc.Z z e = let t : z ≡ true = cc in rw t (refl, refl)
zulu_offset show.Auto (utc.Offset s) z e = absurd cc
zulu_offset show.Never u z e = absurd cc

zulu_part : (p : Option Offset) (z : Bool) → Some z ≡ zulu_of p → (part_text offset_text p ≡ mark z 90) × (part_ok offset_ok p ≡ true)
unfolding offset_text offset_ok
zulu_part None z e = let f : z ≡ false = cc in rw f (refl, refl)
zulu_part (Some o) z e = zulu_offset o.show o.offset z e

pub usually : (s : Stamp) {d : Date} {t : Time} {z : Bool} → s.date ≡ Some d → s.time ≡ Some t → s.zone ≡ None → s.calendar ≡ None
    → Some z ≡ zulu_of s.offset → date_ok d ≡ true → time_ok t ≡ true → Kept s d t z
unfolding stamp_judged fields_ok names_ok parts_ok stamp_text usual_text
usually s {d} {t} {z} ed et ez ec eo okd okt lent =
    let o = zulu_part s.offset z eo in
    rw (ez, ec, ed, et, o.0, o.1, okd, okt, or-true, append-nil, append-nil, append_assoc (date_text d) (84 ∷ []) (time_text t))
