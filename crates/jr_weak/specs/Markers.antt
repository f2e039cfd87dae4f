-- What callers see of a marker.
use Rattle.std.specs.Prelude.{ℕ, Bool, List, vec_len}
use Rattle.jr_weak.specs.declared.marker.Marker.{Marker}

-- for how many objects it has room
abbrev pub room_of : Marker → ℕ
room_of m = vec_len m.found

-- the marks, by object number
abbrev pub marks_of : Marker → List Bool
marks_of m = m.marked.items
