-- Zone names, calendar names and annotation keys, as document 01 has them. `proofs/Exact.antt` shows that the scanner takes exactly these.
-- Assumes nothing: these are definitions.
use Rattle.std.specs.Prelude.{ℕ, ◌≤◌, Bool, true, ◌&&◌, ◌||◌, ◌≡◌, List, [], ◌∷◌, ◌++◌, leb, eqb}
use Rattle.text.specs.Digits.{decimal}

-- ---- the classes of bytes, by their ASCII codes: 43 `+`, 45 `-`, 46 `.`, 47 `/`, 58 `:`, 95 `_`

-- `0` to `9`
abbrev pub digit_byte : ℕ → Bool
digit_byte b = leb 48 b && leb b 57

-- `a` to `z`
abbrev pub lower_byte : ℕ → Bool
lower_byte b = leb 97 b && leb b 122

-- a letter of either case
abbrev pub letter_byte : ℕ → Bool
letter_byte b = leb 65 b && leb b 90 || lower_byte b

-- a letter or a digit
abbrev pub run_byte : ℕ → Bool
run_byte b = letter_byte b || digit_byte b

-- a part of a zone's name starts with a letter, `.` or `_`, then also digits, `-`, `+`
abbrev pub part_start : ℕ → Bool
part_start b = letter_byte b || eqb b 46 || eqb b 95

abbrev pub part_byte : ℕ → Bool
part_byte b = part_start b || digit_byte b || eqb b 45 || eqb b 43

-- a key starts with `a` to `z` or `_`, then also digits and `-`
abbrev pub key_start : ℕ → Bool
key_start b = lower_byte b || eqb b 95

abbrev pub key_byte : ℕ → Bool
key_byte b = key_start b || digit_byte b || eqb b 45

-- ---- words and what is joined of them

-- every byte is of a class
abbrev pub All : (ℕ → Bool) → List ℕ → Type 0
All p [] = Unit {0}
All p (b ∷ l) = (p b ≡ true) × All p l

-- a word: a byte of one class, then any number of another
abbrev pub Word : (ℕ → Bool) → (ℕ → Bool) → List ℕ → Type 0
Word start more [] = ⊥
Word start more (b ∷ l) = (start b ≡ true) × All more l

-- one part, or several with a mark between each two
pub data Joined (Part : List ℕ → Type 0) (mark : ℕ) : List ℕ → Type 0 where
  one : {p : List ℕ} → Part p → Joined Part mark p
  more : {p l : List ℕ} → Part p → Joined Part mark l → Joined Part mark (p ++ (mark ∷ l))

-- ---- the names

-- a run of letters and digits
abbrev pub Run : List ℕ → Type 0
Run = Word run_byte run_byte

-- a part of a zone's name: a word that is not `.` and not `..`
pub record ZonePart (p : List ℕ) : Type 0 where
  pub word : Word part_start part_byte p
  pub not_dot : p ≡ 46 ∷ [] → ⊥
  pub not_dots : p ≡ 46 ∷ 46 ∷ [] → ⊥

-- `+` or `-`
abbrev pub sign_byte : ℕ → Bool
sign_byte b = eqb b 43 || eqb b 45

-- a zone's name: `±HH:MM`, or parts joined by `/`
pub data ZoneName : List ℕ → Type 0 where
  numeric : {s h m : ℕ} → sign_byte s ≡ true → h ≤ 23 → m ≤ 59 → ZoneName (s ∷ decimal 2 h ++ (58 ∷ decimal 2 m))
  named : {l : List ℕ} → Joined ZonePart 47 l → ZoneName l

-- a calendar's name, as any annotation's value: runs of letters and digits joined by `-`
abbrev pub CalendarName : List ℕ → Type 0
CalendarName = Joined Run 45

-- an annotation's key
abbrev pub Key : List ℕ → Type 0
Key = Word key_start key_byte
