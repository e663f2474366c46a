-- What a time of day at the front of a text reads as, and what says how it stands to UTC. `proofs/Exact.antt` shows that these definitions
-- invert the grammar of `Syntax.antt`. Assumes nothing: these are definitions.
use Rattle.std.specs.Prelude.{ℕ, ◌+◌, ◌-◌, ◌*◌, ◌/◌, Bool, true, cond, ◌||◌, List, [], ◌∷◌, ltb, eqb, drop, Option, Some, None, option_map, option_and_then}
use Rattle.text.specs.Walk.{front}
use Rattle.names.specs.Grammar.{digit_byte, sign_byte}
use Rattle.names.specs.Field.{field}
use Rattle.time_syntax.specs.declared.fraction.Fraction.{Fraction}
use Rattle.time_syntax.specs.declared.Seconds.{Seconds}
use Rattle.time_syntax.specs.declared.TimeRead.{TimeRead}
use Rattle.time_syntax.specs.declared.OffsetRead.{OffsetRead}
use Rattle.time_syntax.specs.declared.UtcRead.{UtcRead}

-- a step that may fail, and what is done with what it gives
infixl 10 ◌>>=◌
abbrev pub ◌>>=◌ : {A B : Type 0} → Option A → (A → Option B) → Option B
o >>= f = option_and_then f o

-- the digits at the front
abbrev pub run : List ℕ → List ℕ
run [] = []
run (b ∷ l) = cond (digit_byte b) ((b - 48) ∷ run l) []

-- ---- the fraction

-- `.` or `,`
abbrev pub point_byte : ℕ → Bool
point_byte b = eqb b 46 || eqb b 44

-- the digits at the front after the point p, with n digits of v nanoseconds read and the weight w for the next: 0 after nine
abbrev pub digits_from : ℕ → List ℕ → ℕ → ℕ → ℕ → Fraction
digits_from p [] n w v = record { point = p; nanos = v; digits = n }
digits_from p (b ∷ l) n w v =
    cond (digit_byte b) (digits_from p l (n + 1) (w / 10) (v + (b - 48) * w)) (record { point = p; nanos = v; digits = n })

unfoldable pub fraction_of : ℕ → List ℕ → Fraction
fraction_of p l = digits_from p l 0 100000000 0

-- what may follow the second
unfoldable pub fraction_at : List ℕ → Option Fraction
fraction_at l = cond (point_byte (front l)) (Some (fraction_of (front l) (drop 1 l))) None

-- a point that is there has digits
abbrev pub has_digits : Option Fraction → Bool
has_digits None = true
has_digits (Some f) = ltb 0 f.digits

-- the nanoseconds of a fraction and how many digits it has; 0 where there is none
abbrev pub nanos_in : Option Fraction → ℕ
nanos_in None = 0
nanos_in (Some f) = f.nanos

abbrev pub digits_in : Option Fraction → ℕ
digits_in None = 0
digits_in (Some f) = f.digits

-- what follows it
abbrev pub past_fraction : Option Fraction → List ℕ → List ℕ
past_fraction None l = l
past_fraction (Some f) l = drop f.digits (drop 1 l)

-- ---- the time

-- `:MM`
unfoldable pub minute_at : List ℕ → Option ℕ
minute_at l = cond (eqb (front l) 58) (field 0 59 (drop 1 l)) None

-- a second, and a fraction that has digits
abbrev pub seconds_of : Option Fraction → ℕ → Option (Option Seconds)
seconds_of f s = cond (has_digits f) (Some (Some (record { second = s; fraction = f }))) None

-- what may follow the minute: nothing, or `:`, a second and perhaps a fraction; none of the grammar where one of these is wrong
unfoldable pub seconds_at : List ℕ → Option (Option Seconds)
seconds_at l = cond (eqb (front l) 58) (field 0 60 (drop 1 l) >>= seconds_of (fraction_at (drop 3 l))) (Some None)

-- the second that it shows, 0 where there is none, and the fraction
abbrev pub second_in : Option Seconds → ℕ
second_in None = 0
second_in (Some s) = s.second

abbrev pub fraction_in : Option Seconds → Option Fraction
fraction_in None = None
fraction_in (Some s) = s.fraction

-- the time at the front
unfoldable pub time : List ℕ → Option TimeRead
time l = do
  h ← field 0 23 l
  m ← minute_at (drop 2 l)
  s ← seconds_at (drop 5 l)
  Some (record { hour = h; minute = m; seconds = s })

-- ---- what follows it

abbrev pub past_seconds : Option Seconds → List ℕ → List ℕ
past_seconds None l = l
past_seconds (Some s) l = past_fraction s.fraction (drop 3 l)

unfoldable pub past : TimeRead → List ℕ → List ℕ
past t l = past_seconds t.seconds (drop 5 l)

-- where there is none, the whole text
abbrev pub after_time : Option TimeRead → List ℕ → List ℕ
after_time None l = l
after_time (Some t) l = past t l

-- ---- how it stands to UTC

-- `Z` or `z`
abbrev pub zulu_byte : ℕ → Bool
zulu_byte b = eqb b 90 || eqb b 122

-- an offset from its sign and the time after it; its second is at most 59
abbrev pub offset_of : Bool → TimeRead → Option OffsetRead
offset_of negative t = cond (ltb (second_in t.seconds) 60) (Some (record { negative = negative; time = t })) None

-- the same of a time that may be none
abbrev pub offset_if : Bool → Option TimeRead → Option OffsetRead
offset_if negative t = t >>= offset_of negative

abbrev pub shifted : Option OffsetRead → Option (Option UtcRead)
shifted o = option_map (λ o. Some (UtcRead.Offset o)) o

-- `Z`, an offset, or neither; none of the grammar where a sign has no offset
unfoldable pub utc : List ℕ → Option (Option UtcRead)
utc l =
    cond (zulu_byte (front l)) (Some (Some (UtcRead.Z (front l))))
    (cond (sign_byte (front l)) (shifted (time (drop 1 l) >>= offset_of (eqb (front l) 45))) (Some None))

abbrev pub past_utc : Option UtcRead → List ℕ → List ℕ
past_utc None l = l
past_utc (Some (UtcRead.Z b)) l = drop 1 l
past_utc (Some (UtcRead.Offset o)) l = past o.time (drop 1 l)

abbrev pub after_utc : Option (Option UtcRead) → List ℕ → List ℕ
after_utc None l = l
after_utc (Some u) l = past_utc u l
