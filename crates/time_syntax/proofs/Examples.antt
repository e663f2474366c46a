-- Texts of document 01's grammar and texts that are none, computed. Assumes nothing.
use Prim.Native.Nat.{ℕ}
use Prim.Native.String.{String}
use mathlib.Core.Bool.{Bool, true, false}
use mathlib.Core.Path.{◌≡◌, refl}
use Rattle.std.specs.Prelude.{Option, Some, None}
use Rattle.text.proofs.Quoted.{bytes}
use Rattle.names.specs.Field.{digit, pair_of, field}
use Rattle.time_syntax.specs.declared.TimeRead.{TimeRead}
use Rattle.time_syntax.specs.declared.UtcRead.{UtcRead}
use Rattle.time_syntax.specs.Read.{fraction_of, fraction_at, minute_at, seconds_at, time, past, after_time, utc, after_utc}

-- what is read at the front of a text
clock : String → Option TimeRead
clock s = time (bytes s)

zone : String → Option (Option UtcRead)
zone s = utc (bytes s)

-- an hour and a minute; then a second; then a point, nanoseconds and the count of digits
hm : ℕ → ℕ → TimeRead
hm h m = record { hour = h; minute = m; seconds = None }

hms : ℕ → ℕ → ℕ → TimeRead
hms h m s = record { hour = h; minute = m; seconds = Some (record { second = s; fraction = None }) }

parted : ℕ → ℕ → ℕ → ℕ → ℕ → ℕ → TimeRead
parted h m s p v d =
    record { hour = h; minute = m; seconds = Some (record { second = s; fraction = Some (record { point = p; nanos = v; digits = d }) }) }

times :
    (clock "10:15" ≡ Some (hm 10 15))
    × (clock "10:15:60" ≡ Some (hms 10 15 60))
    × (clock "10:15:30.5" ≡ Some (parted 10 15 30 46 500000000 1))
    × (clock "10:15:30,123456789" ≡ Some (parted 10 15 30 44 123456789 9))
    × (clock "10:15:30.1234567899" ≡ Some (parted 10 15 30 46 123456789 10))
    × (clock "24:00" ≡ None)
    × (clock "10:60" ≡ None)
    × (clock "10:15:61" ≡ None)
    × (clock "10:15:" ≡ None)
    × (clock "10:15:30." ≡ None)
    × (clock "1015" ≡ None)
    × (clock "" ≡ None)
unfolding bytes clock hm hms parted digit pair_of field fraction_of fraction_at minute_at seconds_at time
times = (refl, refl, refl, refl, refl, refl, refl, refl, refl, refl, refl, refl)

-- an offset: a sign and a time
shifted : Bool → TimeRead → Option UtcRead
shifted n t = Some (UtcRead.Offset (record { negative = n; time = t }))

utcs :
    (zone "Z" ≡ Some (Some (UtcRead.Z 90)))
    × (zone "z" ≡ Some (Some (UtcRead.Z 122)))
    × (zone "+05:30" ≡ Some (shifted false (hm 5 30)))
    × (zone "-00:00" ≡ Some (shifted true (hm 0 0)))
    × (zone "+05:30:59.000000001" ≡ Some (shifted false (parted 5 30 59 46 1 9)))
    × (zone "+05:30:60" ≡ None)
    × (zone "+05" ≡ None)
    × (zone "[UTC]" ≡ Some None)
    × (zone "" ≡ Some None)
unfolding bytes zone shifted hm parted digit pair_of field fraction_of fraction_at minute_at seconds_at time utc
utcs = (refl, refl, refl, refl, refl, refl, refl, refl, refl)

-- what follows
rests :
    (after_time (clock "10:15Z") (bytes "10:15Z") ≡ bytes "Z")
    × (after_time (clock "10:15:30,25+05:30") (bytes "10:15:30,25+05:30") ≡ bytes "+05:30")
    × (after_utc (zone "z[UTC]") (bytes "z[UTC]") ≡ bytes "[UTC]")
    × (after_utc (zone "-05:30:59.1[UTC]") (bytes "-05:30:59.1[UTC]") ≡ bytes "[UTC]")
    × (after_utc (zone "[UTC]") (bytes "[UTC]") ≡ bytes "[UTC]")
unfolding bytes clock zone digit pair_of field fraction_of fraction_at minute_at seconds_at time past utc
rests = (refl, refl, refl, refl, refl)
