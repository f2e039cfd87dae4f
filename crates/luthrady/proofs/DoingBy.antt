-- What the env behind a pointer did, in any words.
use Rattle.std.proofs.Common.{◌≡◌, true, Option, None, Some, ap, sym, subst}
use Rattle.std.specs.Box.{with_value}
use Rattle.std.specs.Global.{Box}
use Rattle.luthrady.specs.declared.handles.EnvHandle.{EnvHandle}
use Rattle.luthrady.specs.declared.held.EnvPlace.{EnvPlace}
use Rattle.luthrady.specs.declared.held.Native.{Native}
use Rattle.luthrady.specs.declared.held.Presence.{Presence}
use Rattle.luthrady.specs.declared.held.Presence.TheVariants.{Ready}
use Rattle.luthrady.specs.Behind.{with_env_of}
use Rattle.luthrady.specs.Doings.{ByNative}
use Rattle.luthrady.specs.Places.{is_env, native_behind, ready_in}
use Rattle.luthrady.proofs.ThroughPointers.{as_it_was, empty, stands, stood}

-- what the env did that stood there is what was done
pub by_native : (did : Native → Native → Type 0) (refused : Type 0) (old new : EnvHandle) (o : Option (Box Native))
    (n m : Box Native) (k : Native) → o ≡ Some n → native_behind new ≡ Some m → k ≡ n.value → did k m.value
    → m.value.marker ≡ k.marker → ByNative did refused old new o
by_native did refused old new o n m k is left same does marker =
    let there = subst (λ (x : Native). did x m.value × (m.value.marker ≡ x.marker)) same (does, marker) in
    subst (λ (x : Option (Box Native)). ByNative did refused old new x) (sym is) (m, left, there.0, there.1)

-- so of an env that is ready behind a handle, and was asked
pub by_ready_native : (did : Native → Native → Type 0) (refused : Type 0) (h h' : EnvHandle) (a : EnvPlace)
    (n : Box Native) (k v : Native) → is_env h ≡ true → h' ≡ h → a ≡ h'.value → a.presence ≡ Ready n → k ≡ n.value
    → did k v → v.marker ≡ k.marker
    → (h'.at ≡ h.at) × ByNative did refused h
    (with_env_of h' (record { mark = a.mark; presence = Ready (with_value n v) })) (native_behind h)
by_ready_native did refused h h' a n k v is same lent there at does marker = (
  ap (λ (x : EnvHandle). x.at) same,
  by_native did refused h (with_env_of h' (record { mark = a.mark; presence = Ready (with_value n v) }))
      (native_behind h) n (with_value n v) k (stood h h' a n is same lent (ap ready_in there))
      (stands h h' a (Some (with_value n v)) is same lent) at does marker,
)

-- where no env is ready it is refused, and nothing has changed
pub by_no_native : (did : Native → Native → Type 0) (refused : Type 0) (h h' : EnvHandle) (a : EnvPlace) (p : Presence)
    → is_env h ≡ true → h' ≡ h → a ≡ h'.value → a.presence ≡ p → ready_in p ≡ None → refused
    → (h'.at ≡ h.at) × ByNative did refused h (with_env_of h' a) (native_behind h)
by_no_native did refused h h' a p is same lent there none why = (
  ap (λ (x : EnvHandle). x.at) same,
  subst (λ (o : Option (Box Native)). ByNative did refused h (with_env_of h' a) o)
      (sym (empty h h' a p is same lent there none)) (why, as_it_was h h' a same lent),
)
