-- What a place shows.
use Rattle.std.specs.Prelude.{◌+◌, ◌-◌, ◌*◌, ◌^◌, ◌==◌, ◌&&◌, ℕ, Bool, not, nat_le, List, length, slice_index_or}
use Rattle.jr_word.specs.declared.handle.RefKind.TheVariants.{Local}
use Rattle.jr_model.specs.declared.frames.LocalRef.{LocalRef}
use Rattle.jr_frames.specs.declared.place.Place.{Place}

-- a place that gave no handle
abbrev pub unused : Place
unused = record { low = 0; high = 0; object = 0 }

-- how many handles a place has given
abbrev pub given_of : Place → ℕ
given_of place = place.low + 2 ^ 32 * place.high

-- the place of a number, an unused one beyond the last
abbrev pub place_at : List Place → ℕ → Place
place_at places p = slice_index_or places p unused

-- a reference stands at the place
abbrev pub is_taken : List Place → ℕ → Bool
is_taken places p = not ((place_at places p).object == 0)

-- the place has given a handle
abbrev pub gave_any : List Place → ℕ → Bool
gave_any places p = nat_le 1 (given_of (place_at places p))

-- the place is there, and free
abbrev pub is_idle : ℕ → List Place → ℕ → Bool
is_idle last places p =
    nat_le (p + 1) (length places) && (not (is_taken places p) && nat_le (given_of (place_at places p)) last)

-- the reference at a place, by the last handle that the place gave
abbrev pub ref_at : ℕ → List Place → ℕ → LocalRef
ref_at thread places p = record {
  handle = record { kind = Local; serial = given_of (place_at places p) - 1; index = p; owner = thread };
  object = (place_at places p).object;
}
