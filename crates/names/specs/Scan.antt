-- Runs of bytes by a machine: a step from a state and a byte to the next state, or none to stop before the byte. Every machine starts in
-- `Start`, and a name is whole in `Whole`. Assumes nothing: these are definitions.
use Rattle.std.specs.Prelude.{ℕ, ◌+◌, Bool, cond, Option, Some, None, List, [], ◌∷◌, eqb, drop}
use Rattle.std.specs.Bool.{then_some}
use Rattle.text.specs.Walk.{front}
use Rattle.names.specs.declared.scan.State.{State}
use Rattle.names.specs.declared.scan.State.TheVariants.{Start, Whole, Dot, Dots}
use Rattle.names.specs.Grammar.{run_byte, part_start, part_byte, key_start, key_byte, sign_byte}
use Rattle.names.specs.Field.{field}

-- ---- the machines

-- a word: whether the byte may start it, and whether it may go on with it
unfoldable pub word_step : Bool → Bool → State → Option State
word_step start more Start = then_some start Whole
word_step start more Whole = then_some more Whole
word_step start more Dot = then_some more Whole
word_step start more Dots = then_some more Whole

-- parts joined by a mark, from the part's own next state: after a whole part the mark leads to the next part
unfoldable pub join_step : ℕ → Option State → State → ℕ → Option State
join_step mark next Start b = next
join_step mark next Whole b = cond (eqb b mark) (Some Start) next
join_step mark next Dot b = next
join_step mark next Dots b = next

-- the state after a `.` in a part: after `.` alone, after `..` alone, or whole
abbrev pub after_dot : State → State
after_dot Start = Dot
after_dot Whole = Whole
after_dot Dot = Dots
after_dot Dots = Whole

-- a part that is not `.` and not `..`, from the word's own next state
unfoldable pub dot_step : Option State → State → ℕ → Option State
dot_step None q b = None
dot_step (Some next) q b = Some (cond (eqb b 46) (after_dot q) next)

unfoldable pub key_step : State → ℕ → Option State
key_step q b = word_step (key_start b) (key_byte b) q

unfoldable pub run_step : State → ℕ → Option State
run_step q b = word_step (run_byte b) (run_byte b) q

unfoldable pub part_step : State → ℕ → Option State
part_step q b = dot_step (word_step (part_start b) (part_byte b) q) q b

unfoldable pub value_step : State → ℕ → Option State
value_step q b = join_step 45 (run_step q b) q b

unfoldable pub zone_step : State → ℕ → Option State
zone_step q b = join_step 47 (part_step q b) q b

-- ---- the scanner

-- n bytes, where the machine stops in the state q after them: a name if that is whole
unfoldable pub whole_of : State → ℕ → Option ℕ
whole_of Start n = None
whole_of Whole n = Some n
whole_of Dot n = None
whole_of Dots n = None

abbrev pub on_next : Option State → Option ℕ → (State → Option ℕ) → Option ℕ
on_next None stopped next = stopped
on_next (Some q) stopped next = next q

-- the bytes that the machine f takes, from the state q with n bytes taken
abbrev pub scan_from : (State → ℕ → Option State) → List ℕ → State → ℕ → Option ℕ
scan_from f [] q n = whole_of q n
scan_from f (b ∷ l) q n = on_next (f q b) (whole_of q n) (λ p. scan_from f l p (n + 1))

-- the bytes of the name at the front of a text, by the machine f
unfoldable pub run_of : (State → ℕ → Option State) → List ℕ → Option ℕ
run_of f l = scan_from f l Start 0

-- ---- the bytes of each kind of name at the front of a text

unfoldable pub key_run : List ℕ → Option ℕ
key_run l = run_of key_step l

unfoldable pub calendar_run : List ℕ → Option ℕ
calendar_run l = run_of value_step l

-- `HH:MM`, after its sign: six bytes with it
unfoldable pub numeric_of : Option ℕ → ℕ → Option ℕ → Option ℕ
numeric_of (Some hour) mark (Some minute) = then_some (eqb mark 58) 6
numeric_of (Some hour) mark None = None
numeric_of None mark minute = None

unfoldable pub numeric_run : List ℕ → Option ℕ
numeric_run l = numeric_of (field 0 23 (drop 1 l)) (front (drop 3 l)) (field 0 59 (drop 4 l))

unfoldable pub zone_run : List ℕ → Option ℕ
zone_run l = cond (sign_byte (front l)) (numeric_run l) (run_of zone_step l)
