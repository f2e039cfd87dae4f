-- What a collection lists in the buffers that it is handed.
use Rattle.std.specs.Prelude.{◌≡◌, ◌++◌, ℕ, List, drop, length, map, take}
use Rattle.jr_word.specs.declared.handle.Handle.{Handle as NativeHandle}
use Rattle.jr_word.specs.Handle.{handle_word}
use Rattle.jr_model.specs.State.{Handle}

-- a handle as native code holds it
abbrev pub native_handle : Handle → NativeHandle
native_handle h = record { 0 = handle_word h }

-- A LIST WRITTEN OVER THE FRONT of a buffer, as much of it as there is room for; what lies behind stays
abbrev pub over_front : {X : Type 0} → List X → List X → List X
over_front buffer xs = take (length buffer) xs ++ drop (length xs) buffer

-- THE BUFFERS TELL what a collection cleared and dropped: the handles of the references, and the objects' numbers,
-- in the order in which it took them
pub record ListsTell (handles : List NativeHandle) (numbers : List ℕ) (handles' : List NativeHandle) (numbers' : List ℕ)
    (cleared : List Handle) (dropped : List ℕ) : Type 0 where
  pub handles_are : handles' ≡ over_front handles (map native_handle cleared)
  pub numbers_are : numbers' ≡ over_front numbers dropped
