-- The grammar of a duration, as document 01 has it: the syntax trees, the text of each, which trees are of the grammar, and what a reader
-- keeps of them. Assumes nothing: these are definitions.
use Rattle.std.specs.Prelude.{ℕ, ◌<◌, Bool, true, false, ◌||◌, ◌≡◌, List, [], ◌∷◌, ◌++◌, length, Option, Some, None}
use Rattle.std.specs.Char.{to_ascii_uppercase}
use Rattle.text.specs.Digits.{shown, AllDigits}
use Rattle.names.specs.Grammar.{sign_byte}
use Rattle.time_syntax.specs.Read.{point_byte}
use Rattle.time_syntax.specs.Syntax.{nanos_of}
use Rattle.duration_syntax.specs.declared.part.Part.{Part}
use Rattle.duration_syntax.specs.declared.raw.DateParts.{DateParts}
use Rattle.duration_syntax.specs.declared.raw.TimeParts.{TimeParts}
use Rattle.duration_syntax.specs.declared.raw.DurationRaw.{DurationRaw}
use Rattle.duration_syntax.specs.Read.{number_of}

-- ---- a part: nothing; digits and the unit's letter; or digits, the point's byte, more digits and the letter

pub data PartTree : Type 0 where
  absent : PartTree
  whole : List ℕ → ℕ → PartTree
  fractional : List ℕ → ℕ → List ℕ → ℕ → PartTree

unfoldable pub part_text : PartTree → List ℕ
part_text absent = []
part_text (whole ds b) = shown ds ++ (b ∷ [])
part_text (fractional ds p fs b) = shown ds ++ (p ∷ shown fs ++ (b ∷ []))

-- one or more digits, and the letter of the unit in either case
pub record NumberOk (upper : ℕ) (ds : List ℕ) (b : ℕ) : Type 0 where
  pub some : 0 < length ds
  pub digits : AllDigits ds
  pub letter : to_ascii_uppercase b ≡ upper

-- `.` or `,`, and one or more digits
pub record FractionOk (p : ℕ) (fs : List ℕ) : Type 0 where
  pub point : point_byte p ≡ true
  pub some : 0 < length fs
  pub digits : AllDigits fs

-- the part of a unit, which may have a fraction or not
abbrev pub PartOk : ℕ → Bool → PartTree → Type 0
PartOk upper may absent = Unit {0}
PartOk upper may (whole ds b) = NumberOk upper ds b
PartOk upper may (fractional ds p fs b) = NumberOk upper ds b × FractionOk p fs × (may ≡ true)

-- of the digits of a number, how many there are and what they stand for; of a fraction, the nanoseconds that the first nine digits make
unfoldable pub part_kept : PartTree → Option Part
part_kept absent = None
part_kept (whole ds b) = Some (record { number = number_of ds; fraction = None; letter = b })
part_kept (fractional ds p fs b) =
    Some (record { number = number_of ds; fraction = Some (record { point = p; nanos = nanos_of fs; digits = length fs }); letter = b })

abbrev pub present : PartTree → Bool
present absent = false
present (whole ds b) = true
present (fractional ds p fs b) = true

-- ---- the date: Y M W D in order

pub record DateTree : Type 0 where
  pub years : PartTree
  pub months : PartTree
  pub weeks : PartTree
  pub days : PartTree

abbrev pub date_text : DateTree → List ℕ
date_text d = part_text d.years ++ (part_text d.months ++ (part_text d.weeks ++ part_text d.days))

pub record DateOk (d : DateTree) : Type 0 where
  pub years : PartOk 89 false d.years
  pub months : PartOk 77 false d.months
  pub weeks : PartOk 87 false d.weeks
  pub days : PartOk 68 false d.days

abbrev pub date_kept : DateTree → DateParts
date_kept d = record { years = part_kept d.years; months = part_kept d.months; weeks = part_kept d.weeks; days = part_kept d.days }

abbrev pub date_some : DateTree → Bool
date_some d = present d.years || present d.months || present d.weeks || present d.days

-- ---- the time: nothing; or the byte of `T`, then H M S in order, at least one of them, with a fraction on S only

pub data TimeTree : Type 0 where
  none : TimeTree
  marked : ℕ → PartTree → PartTree → PartTree → TimeTree

abbrev pub time_text : TimeTree → List ℕ
time_text none = []
time_text (marked b h m s) = b ∷ part_text h ++ (part_text m ++ part_text s)

pub record MarkedOk (b : ℕ) (h m s : PartTree) : Type 0 where
  pub mark : to_ascii_uppercase b ≡ 84
  pub hours : PartOk 72 false h
  pub minutes : PartOk 77 false m
  pub seconds : PartOk 83 true s
  pub some : (present h || present m || present s) ≡ true

abbrev pub TimeOk : TimeTree → Type 0
TimeOk none = Unit {0}
TimeOk (marked b h m s) = MarkedOk b h m s

abbrev pub time_kept : TimeTree → Option TimeParts
time_kept none = None
time_kept (marked b h m s) = Some (record { mark = b; hours = part_kept h; minutes = part_kept m; seconds = part_kept s })

abbrev pub time_some : TimeTree → Bool
time_some none = false
time_some (marked b h m s) = true

-- ---- the whole: an optional sign, the byte of `P`, date and time, at least one part

pub data SignTree : Type 0 where
  unsigned : SignTree
  signed : ℕ → SignTree

abbrev pub sign_text : SignTree → List ℕ
sign_text unsigned = []
sign_text (signed b) = b ∷ []

abbrev pub SignOk : SignTree → Type 0
SignOk unsigned = Unit {0}
SignOk (signed b) = sign_byte b ≡ true

abbrev pub sign_kept : SignTree → Option ℕ
sign_kept unsigned = None
sign_kept (signed b) = Some b

pub record DurationTree : Type 0 where
  pub sign : SignTree
  pub start : ℕ
  pub date : DateTree
  pub time : TimeTree

unfoldable pub duration_text : DurationTree → List ℕ
duration_text t = sign_text t.sign ++ (t.start ∷ date_text t.date ++ time_text t.time)

pub record DurationOk (t : DurationTree) : Type 0 where
  pub sign : SignOk t.sign
  pub start : to_ascii_uppercase t.start ≡ 80
  pub date : DateOk t.date
  pub time : TimeOk t.time
  pub some : (date_some t.date || time_some t.time) ≡ true

unfoldable pub duration_kept : DurationTree → Option DurationRaw
duration_kept t = Some (record { sign = sign_kept t.sign; start = t.start; date = date_kept t.date; time = time_kept t.time })
