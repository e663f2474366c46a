-- Names of document 01's grammar and texts that are none, computed. Assumes nothing.
use Prim.Native.Nat.{ℕ}
use Prim.Native.String.{String}
use mathlib.Core.Bool.{Bool, true, false}
use mathlib.Core.Path.{◌≡◌, refl}
use mathlib.Core.List.{List}
use lib.ListN.{length, replicate}
use Rattle.std.specs.Prelude.{Option, Some, None}
use Rattle.text.proofs.Quoted.{bytes}
use Rattle.names.specs.Field.{digit, pair_of, field}
use Rattle.names.specs.Scan.{word_step, join_step, dot_step, key_step, run_step, part_step, value_step, zone_step, whole_of, run_of, key_run, calendar_run, numeric_of, numeric_run, zone_run}
use Rattle.names.specs.Name.{name_inside, name_ok, zone_name_ok, calendar_name_ok}

-- whether all of a text is a name; a place of 64 letters, and one more
zone : String → Bool
zone s = zone_name_ok (bytes s) 0 (length (bytes s))

calendar : String → Bool
calendar s = calendar_name_ok (bytes s) 0 (length (bytes s))

key : String → Option ℕ
key s = key_run (bytes s)

letters : ℕ → List ℕ
letters n = replicate n 97

zones :
    (zone "UTC" ≡ true)
    × (zone "Europe/Berlin" ≡ true)
    × (zone "Etc/GMT-5" ≡ true)
    × (zone "..." ≡ true)
    × (zone "_/.a" ≡ true)
    × (zone "+05:30" ≡ true)
    × (zone "-23:59" ≡ true)
    × (zone "." ≡ false)
    × (zone ".." ≡ false)
    × (zone "a/../b" ≡ false)
    × (zone "a/" ≡ false)
    × (zone "/a" ≡ false)
    × (zone "a//b" ≡ false)
    × (zone "5a" ≡ false)
    × (zone "+24:00" ≡ false)
    × (zone "+05:60" ≡ false)
    × (zone "+5:30" ≡ false)
    × (zone "+05:30Z" ≡ false)
    × (zone "" ≡ false)
unfolding bytes zone digit pair_of field word_step join_step dot_step part_step zone_step whole_of run_of numeric_of numeric_run zone_run name_inside name_ok zone_name_ok
zones = (refl, refl, refl, refl, refl, refl, refl, refl, refl, refl, refl, refl, refl, refl, refl, refl, refl, refl, refl)

calendars :
    (calendar "iso8601" ≡ true)
    × (calendar "islamic-civil" ≡ true)
    × (calendar "ISO8601" ≡ true)
    × (calendar "a--b" ≡ false)
    × (calendar "-a" ≡ false)
    × (calendar "a-" ≡ false)
    × (calendar "a_b" ≡ false)
    × (calendar "" ≡ false)
unfolding bytes calendar word_step join_step run_step value_step whole_of run_of calendar_run name_inside name_ok calendar_name_ok
calendars = (refl, refl, refl, refl, refl, refl, refl, refl)

-- the bytes of the key at the front
keys : (key "u-ca=iso8601" ≡ Some 4) × (key "_x0=" ≡ Some 3) × (key "U-ca=" ≡ None) × (key "-a=" ≡ None)
unfolding bytes key word_step key_step whole_of run_of key_run
keys = (refl, refl, refl, refl)

-- a place and a length: 64 bytes and 65, the end of the text and one byte past it, and a sum past the largest number of 64 bits
places :
    (zone_name_ok (letters 70) 6 64 ≡ true)
    × (zone_name_ok (letters 70) 5 65 ≡ false)
    × (calendar_name_ok (letters 70) 66 4 ≡ true)
    × (calendar_name_ok (letters 70) 67 4 ≡ false)
    × (calendar_name_ok (letters 70) 18446744073709551615 1 ≡ false)
    × (calendar_name_ok (letters 70) 3 18446744073709551615 ≡ false)
    × (zone_name_ok (letters 70) 3 0 ≡ false)
unfolding letters word_step join_step dot_step run_step part_step value_step zone_step whole_of run_of calendar_run zone_run name_inside name_ok zone_name_ok calendar_name_ok
places = (refl, refl, refl, refl, refl, refl, refl)
