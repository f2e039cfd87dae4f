-- What the env behind a handle did, in the words of whatever it was.
use Rattle.std.specs.Prelude.{◌≡◌, Option, Some, None}
use Rattle.std.specs.Global.{Box}
use Rattle.luthrady.specs.declared.handles.EnvHandle.{EnvHandle}
use Rattle.luthrady.specs.declared.held.Native.{Native}
use Rattle.luthrady.specs.Places.{native_behind}

-- the env that was ready there did this, and still is, with the marker as it was;
-- where none was ready, it was refused so, and nothing has changed
abbrev pub ByNative : (Native → Native → Type 0) → Type 0 → EnvHandle → EnvHandle → Option (Box Native) → Type 0
ByNative did refused old new None = refused × (new ≡ old)
ByNative did refused old new (Some n) = (m : Box Native) × (native_behind new ≡ Some m)
    × did n.value m.value × (m.value.marker ≡ n.value.marker)

-- THIS WAS DONE by the env behind the handle, or refused so where none was ready; the handle points where it did
abbrev pub WasDoneBy : (Native → Native → Type 0) → Type 0 → EnvHandle → EnvHandle → Type 0
WasDoneBy did refused old new = (new.at ≡ old.at) × ByNative did refused old new (native_behind old)
