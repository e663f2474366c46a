-- Tails of document 01's grammar and texts that are none, computed. Assumes nothing.
use Prim.Native.Nat.{ℕ}
use Prim.Native.String.{String}
use mathlib.Core.Bool.{Bool, true, false}
use mathlib.Core.Path.{◌≡◌, refl}
use mathlib.Core.List.{List, []}
use Rattle.text.proofs.Quoted.{bytes}
use Rattle.std.proofs.Common.{Option, Some, None}
use Rattle.names.specs.Field.{digit, pair_of, field}
use Rattle.names.specs.Scan.{word_step, join_step, dot_step, key_step, run_step, part_step, value_step, zone_step, whole_of, run_of, key_run, calendar_run, numeric_of, numeric_run, zone_run}
use Rattle.tail_syntax.specs.declared.bracket.NameRead.{NameRead}
use Rattle.tail_syntax.specs.declared.notes.Notes.{Notes}
use Rattle.tail_syntax.specs.declared.tail.Tail.{Tail}
use Rattle.tail_syntax.specs.Read.{opened, inside, ended, zone, note, none, walk_step, notes, tail, part_of}

read : String → Option Tail
read s = tail (bytes s)

name : Bool → ℕ → ℕ → Option NameRead
name c left size = Some (record { critical = c; left = left; size = size })

-- a zone or none, and what is known of the annotations
reads : Option NameRead → Notes → Option Tail
reads z w = Some (record { zone = z; notes = w })

-- a first `u-ca` at its place, and what else there is: its mark; a clash; more
calendar : ℕ → ℕ → Bool → Bool → Bool → Notes
calendar left size c clash more = record { calendar = name c left size; unknown = false; clash = clash; more = more }

-- no `u-ca`, and whether another annotation is critical
others : Bool → Notes
others unknown = record { calendar = None; unknown = unknown; clash = false; more = true }

-- the zone's name, and the calendar's, of a tail in a text
abbrev zone_in : Option Tail → List ℕ → List ℕ
zone_in None l = []
zone_in (Some t) l = part_of t.zone l

abbrev calendar_in : Option Tail → List ℕ → List ℕ
calendar_in None l = []
calendar_in (Some t) l = part_of t.notes.calendar l

zones :
    (read "" ≡ reads None none)
    × (read "[UTC]" ≡ reads (name false 4 3) none)
    × (read "[!UTC]" ≡ reads (name true 4 3) none)
    × (read "[+05:30]" ≡ reads (name false 7 6) none)
    × (read "[UTC][u-ca=iso8601]" ≡ reads (name false 18 3) (calendar 8 7 false false false))
    × (read "[u-ca]" ≡ reads (name false 5 4) none)
unfolding bytes read opened ended name reads calendar digit pair_of field word_step join_step dot_step key_step run_step part_step value_step zone_step whole_of run_of key_run calendar_run numeric_of numeric_run zone_run inside zone note walk_step notes tail
zones = (refl, refl, refl, refl, refl, refl)

annotations :
    (read "[u-ca=a]" ≡ reads None (calendar 2 1 false false false))
    × (read "[!u-ca=a]" ≡ reads None (calendar 2 1 true false false))
    × (read "[u-ca=a][u-ca=b]" ≡ reads None (calendar 10 1 false false true))
    × (read "[u-ca=a][!u-ca=a]" ≡ reads None (calendar 11 1 false true true))
    × (read "[!u-ca=a][u-ca=a]" ≡ reads None (calendar 10 1 true true true))
    × (read "[u-ca=a][u-ca=a][!u-ca=a]" ≡ reads None (calendar 19 1 false true true))
    × (read "[a=b]" ≡ reads None (others false))
    × (read "[!a=b]" ≡ reads None (others true))
    × (read "[a=b][!a=b]" ≡ reads None (others true))
    × (read "[a=b][u-ca=c]" ≡ reads None (calendar 2 1 false false true))
unfolding bytes read opened ended name reads calendar others word_step join_step dot_step key_step run_step part_step value_step zone_step whole_of run_of key_run calendar_run zone_run inside zone note walk_step notes tail
annotations = (refl, refl, refl, refl, refl, refl, refl, refl, refl, refl)

none_of_the_grammar :
    (read "[UTC][UTC]" ≡ None)
    × (read "[u-ca=a][UTC]" ≡ None)
    × (read "[A=b]" ≡ None)
    × (read "[a=]" ≡ None)
    × (read "[=b]" ≡ None)
    × (read "[" ≡ None)
    × (read "[]" ≡ None)
    × (read "[!]" ≡ None)
    × (read "[!!UTC]" ≡ None)
    × (read "[UTC" ≡ None)
    × (read "[UTC]x" ≡ None)
    × (read "[a=b]x" ≡ None)
    × (read "[!a=b][" ≡ None)
    × (read "UTC" ≡ None)
unfolding bytes read opened ended name reads digit pair_of field word_step join_step dot_step key_step run_step part_step value_step zone_step whole_of run_of key_run calendar_run numeric_of numeric_run zone_run inside zone note walk_step notes tail
none_of_the_grammar = (refl, refl, refl, refl, refl, refl, refl, refl, refl, refl, refl, refl, refl, refl)

-- the names as parts of a whole text
parts :
    (zone_in (read "[!UTC][u-ca=iso8601]") (bytes "2024-05-06[!UTC][u-ca=iso8601]") ≡ bytes "UTC")
    × (calendar_in (read "[!UTC][u-ca=iso8601]") (bytes "2024-05-06[!UTC][u-ca=iso8601]") ≡ bytes "iso8601")
    × (zone_in (read "[u-ca=a][u-ca=b]") (bytes "10:15[u-ca=a][u-ca=b]") ≡ bytes "")
    × (calendar_in (read "[u-ca=a][u-ca=b]") (bytes "10:15[u-ca=a][u-ca=b]") ≡ bytes "a")
unfolding bytes read opened ended name reads word_step join_step dot_step key_step run_step part_step value_step zone_step whole_of run_of key_run calendar_run zone_run inside zone note walk_step notes tail
parts = (refl, refl, refl, refl)
