-- The text of an offset from UTC, and which offsets have one. Assumes nothing: these are definitions.
use Rattle.std.specs.Prelude.{Bool, true, List, [], ◌∷◌, ℕ}
use Rattle.text.specs.Answer.{Judged, judge}
use Rattle.record.specs.declared.stamp.Sign.{Sign}
use Rattle.record.specs.declared.stamp.Sign.TheVariants.{Negative, Zero, Positive}
use Rattle.record.specs.declared.stamp.SignedTime.{SignedTime}
use Rattle.record.specs.declared.stamp.UtcOffset.{UtcOffset}
use Rattle.record.specs.declared.stamp.UtcOffset.TheVariants as utc
use Rattle.record.specs.declared.stamp.DisplayOffset.{DisplayOffset}
use Rattle.record.specs.declared.stamp.DisplayOffset.TheVariants.{Auto, Never}
use Rattle.record.specs.declared.stamp.Offset.{Offset}
use Rattle.time_writer.specs.Time.{time_text, time_ok}

-- `-` for Negative, `+` for Positive and Zero
abbrev pub sign_byte : Sign → ℕ
sign_byte Negative = 45
sign_byte Zero = 43
sign_byte Positive = 43

-- the shape of Temporal's FormatDateTimeUTCOffsetRounded, without rounding
unfoldable pub signed_text : SignedTime → List ℕ
signed_text s = sign_byte s.sign ∷ time_text s.time

-- `Z`, or a sign and the time
abbrev pub utc_text : UtcOffset → List ℕ
utc_text utc.Z = 90 ∷ []
utc_text (utc.Offset s) = signed_text s

-- nothing under Never
abbrev pub unless_never : DisplayOffset → List ℕ → List ℕ
unless_never Auto t = t
unless_never Never t = []

unfoldable pub offset_text : Offset → List ℕ
offset_text o = unless_never o.show (utc_text o.offset)

-- the time of a numeric offset is tested, shown or not
abbrev pub utc_ok : UtcOffset → Bool
utc_ok utc.Z = true
utc_ok (utc.Offset s) = time_ok s.time

unfoldable pub offset_ok : Offset → Bool
offset_ok o = utc_ok o.offset

unfoldable pub offset_judged : Offset → Judged
offset_judged o = judge (offset_ok o) true true (offset_text o)
