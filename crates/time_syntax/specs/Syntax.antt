-- The grammar of a time of day and of what says how it stands to UTC, as document 01 has it: the syntax trees, the text of each, which trees
-- are of the grammar, and what a reader keeps of them. Assumes nothing: these are definitions.
use Rattle.std.specs.Prelude.{ℕ, ◌+◌, ◌*◌, ◌/◌, ◌≤◌, ◌<◌, Bool, true, false, cond, ◌≡◌, List, [], ◌∷◌, ◌++◌, eqb, length, Option, Some, None}
use Rattle.text.specs.Walk.{front}
use Rattle.text.specs.Digits.{decimal, shown, AllDigits}
use Rattle.names.specs.Grammar.{digit_byte}
use Rattle.time_syntax.specs.declared.Seconds.{Seconds}
use Rattle.time_syntax.specs.declared.TimeRead.{TimeRead}
use Rattle.time_syntax.specs.declared.UtcRead.{UtcRead}
use Rattle.time_syntax.specs.Read.{point_byte, zulu_byte, second_in}

-- ---- a time: `HH:MM`, `HH:MM:SS`, or the latter with `.` or `,` and one or more digits

-- what follows `HH:MM`: nothing; a second; a second, the point's byte and digits
pub data SecsTree : Type 0 where
  none : SecsTree
  whole : ℕ → SecsTree
  part : ℕ → ℕ → List ℕ → SecsTree

pub record TimeTree : Type 0 where
  pub hour : ℕ
  pub minute : ℕ
  pub secs : SecsTree

abbrev pub secs_text : SecsTree → List ℕ
secs_text none = []
secs_text (whole s) = 58 ∷ decimal 2 s
secs_text (part s p ds) = 58 ∷ decimal 2 s ++ (p ∷ shown ds)

unfoldable pub time_text : TimeTree → List ℕ
time_text t = decimal 2 t.hour ++ (58 ∷ decimal 2 t.minute ++ secs_text t.secs)

-- an hour is 00 to 23, a minute 00 to 59, and a second 00 to 60: the tree keeps 60 as it stands
abbrev pub SecsOk : SecsTree → Type 0
SecsOk none = Unit {0}
SecsOk (whole s) = s ≤ 60
SecsOk (part s p ds) = (s ≤ 60) × (point_byte p ≡ true) × (0 < length ds) × AllDigits ds

pub record TimeOk (t : TimeTree) : Type 0 where
  pub hour : t.hour ≤ 23
  pub minute : t.minute ≤ 59
  pub secs : SecsOk t.secs

-- ---- what is kept of it: of the digits how many there are, and the nanoseconds that the first nine make

-- digits by their weights: w for the first, then a tenth of the one before
abbrev pub weighed : ℕ → List ℕ → ℕ
weighed w [] = 0
weighed w (d ∷ ds) = d * w + weighed (w / 10) ds

unfoldable pub nanos_of : List ℕ → ℕ
nanos_of ds = weighed 100000000 ds

abbrev pub secs_kept : SecsTree → Option Seconds
secs_kept none = None
secs_kept (whole s) = Some (record { second = s; fraction = None })
secs_kept (part s p ds) = Some (record { second = s; fraction = Some (record { point = p; nanos = nanos_of ds; digits = length ds }) })

abbrev pub time_is : TimeTree → TimeRead
time_is t = record { hour = t.hour; minute = t.minute; seconds = secs_kept t.secs }

unfoldable pub time_kept : TimeTree → Option TimeRead
time_kept t = Some (time_is t)

-- what may stand after a time: no `:`, no point and no digit
pub record Quiet (l : List ℕ) : Type 0 where
  pub colon : eqb (front l) 58 ≡ false
  pub point : point_byte (front l) ≡ false
  pub digit : digit_byte (front l) ≡ false

-- ---- then nothing; `Z` or `z`; or a sign and an offset of the same shapes

pub data UtcTree : Type 0 where
  absent : UtcTree
  zulu : ℕ → UtcTree
  offset : Bool → TimeTree → UtcTree

unfoldable pub utc_text : UtcTree → List ℕ
utc_text absent = []
utc_text (zulu b) = b ∷ []
utc_text (offset negative t) = cond negative 45 43 ∷ time_text t

-- the second of an offset is at most 59
abbrev pub UtcOk : UtcTree → Type 0
UtcOk absent = Unit {0}
UtcOk (zulu b) = zulu_byte b ≡ true
UtcOk (offset negative t) = TimeOk t × (second_in (secs_kept t.secs) ≤ 59)

unfoldable pub utc_kept : UtcTree → Option (Option UtcRead)
utc_kept absent = Some None
utc_kept (zulu b) = Some (Some (UtcRead.Z b))
utc_kept (offset negative t) = Some (Some (UtcRead.Offset (record { negative = negative; time = time_is t })))

-- what may stand after that: the end of the text, or `[`
pub data Closed : List ℕ → Type 0 where
  ended : Closed []
  bracket : (l : List ℕ) → Closed (91 ∷ l)
