-- What the env behind a pointer did.
use Rattle.std.proofs.Common.{◌≡◌, ◌∙◌, ◌==◌, Bool, true, Option, None, Some, Result, Err, ap, sym, subst}
use Rattle.std.specs.Box.{with_value}
use Rattle.std.specs.Global.{Box}
use Rattle.jr_word.specs.declared.fault.Fault.{Fault}
use Rattle.jr_env.specs.Envs.{Does}
use Rattle.jr_env.specs.Deeds.{Deed}
use Rattle.luthrady.specs.declared.handles.EnvHandle.{EnvHandle}
use Rattle.luthrady.specs.declared.held.EnvPlace.{EnvPlace}
use Rattle.luthrady.specs.declared.held.Native.{Native}
use Rattle.luthrady.specs.declared.held.Presence.{Presence}
use Rattle.luthrady.specs.declared.held.Presence.TheVariants.{Ready}
use Rattle.jr_weak.specs.Markers.{room_of}
use Rattle.jr_env.specs.Collections.{FitsRoom}
use Rattle.luthrady.specs.Behind.{with_env_of}
use Rattle.luthrady.specs.Calls.{ByThread}
use Rattle.luthrady.specs.Collecting.{ByMarker}
use Rattle.luthrady.specs.Telling.{CountsLocals, TellsLocals}
use Rattle.luthrady.specs.Places.{absence, absence_at, absence_in, at_place, env_mark, is_env, native_behind}
use Rattle.luthrady.specs.Places.{ready_in, taken}

-- what stands in a place that was found to be an env's is what is found there
pub found : {A : Type 0} (b : Bool) (o : Option A) → b ≡ true → taken b o ≡ o
found b o e = ap (λ t. taken t o) e

-- the env that stood behind a handle, which was asked and lends its place
pub stood : (h h' : EnvHandle) (a : EnvPlace) (n : Box Native) → is_env h ≡ true → h' ≡ h → a ≡ h'.value
    → ready_in a.presence ≡ Some n → native_behind h ≡ Some n
stood h h' a n is same lent there =
    found (is_env h) (ready_in h.value.presence) is
    ∙ ap (λ (x : EnvHandle). ready_in x.value.presence) (sym same)
    ∙ ap (λ (x : EnvPlace). ready_in x.presence) (sym lent) ∙ there

-- where none is ready there, none was, for this reason
pub empty : (h h' : EnvHandle) (a : EnvPlace) (p : Presence) → is_env h ≡ true → h' ≡ h → a ≡ h'.value
    → a.presence ≡ p → ready_in p ≡ None → native_behind h ≡ None
empty h h' a p is same lent there none =
    found (is_env h) (ready_in h.value.presence) is
    ∙ ap (λ (x : EnvHandle). ready_in x.value.presence) (sym same)
    ∙ ap (λ (x : EnvPlace). ready_in x.presence) (sym lent) ∙ ap ready_in there ∙ none

pub absent : (h h' : EnvHandle) (a : EnvPlace) (p : Presence) → is_env h ≡ true → h' ≡ h → a ≡ h'.value
    → a.presence ≡ p → absence_in p ≡ absence h
absent h h' a p is same lent there = sym (ap (λ (b : Bool). absence_at b h.value.presence) is
    ∙ ap (λ (x : EnvHandle). absence_in x.value.presence) (sym same)
    ∙ ap (λ (x : EnvPlace). absence_in x.presence) (sym lent) ∙ ap absence_in there)

-- a place that is lent and not written to has not changed
pub as_it_was : (h h' : EnvHandle) (a : EnvPlace) → h' ≡ h → a ≡ h'.value → with_env_of h' a ≡ h
as_it_was h h' a same lent = ap (with_env_of h') lent ∙ same

-- and the one that is left there stands behind it
pub stands : (h h' : EnvHandle) (a : EnvPlace) (o : Option (Box Native)) → is_env h ≡ true → h' ≡ h → a ≡ h'.value
    → taken (at_place h'.at (a.mark == env_mark)) o ≡ o
stands h h' a o is same lent =
    found (at_place h'.at (a.mark == env_mark)) o
    (ap (λ (x : EnvPlace). at_place h'.at (x.mark == env_mark)) lent ∙ ap is_env same ∙ is)

-- what the env did that stood there is the thread's
pub by_thread : {A : Type 0} {deed : Deed A} {answer : Result A Fault} (old new : EnvHandle) (o : Option (Box Native))
    (n m : Box Native) (k : Native)
    → o ≡ Some n → native_behind new ≡ Some m → k ≡ n.value → Does k.env m.value.env deed answer
    → m.value.marker ≡ k.marker → ByThread old new o deed answer
by_thread {A} {deed} {answer} old new o n m k is left same does marker =
    let there =
    subst (λ (x : Native). Does x.env m.value.env deed answer × (m.value.marker ≡ x.marker)) same (does, marker) in
    subst (λ (x : Option (Box Native)). ByThread old new x deed answer) (sym is) (m, left, there.0, there.1)

-- so is what it did with its marker
pub by_marker : {A : Type 0} {deed : Deed A} {answer : Result A Fault} (old new : EnvHandle)
    (o : Option (Box Native)) (n m : Box Native) (k : Native)
    → o ≡ Some n → native_behind new ≡ Some m → k ≡ n.value
    → (FitsRoom k.marker k.env → Does k.env m.value.env deed answer)
    → room_of m.value.marker ≡ room_of k.marker
    → ByMarker old new o deed answer
by_marker {A} {deed} {answer} old new o n m k is left same does room =
    let there = subst (λ (x : Native). (FitsRoom x.marker x.env → Does x.env m.value.env deed answer)
    × (room_of m.value.marker ≡ room_of x.marker)) same (does, room) in
    subst (λ (x : Option (Box Native)). ByMarker old new x deed answer) (sym is) (m, left, there.0, there.1)

-- so of an env that is ready behind a handle, and was asked
pub by_ready : {A : Type 0} {deed : Deed A} {answer : Result A Fault} (h h' : EnvHandle) (a : EnvPlace)
    (n : Box Native) (k v : Native) → is_env h ≡ true → h' ≡ h → a ≡ h'.value → a.presence ≡ Ready n → k ≡ n.value
    → Does k.env v.env deed answer → v.marker ≡ k.marker
    → (h'.at ≡ h.at) × ByThread h (with_env_of h' (record { mark = a.mark; presence = Ready (with_value n v) }))
    (native_behind h) deed answer
by_ready h h' a n k v is same lent there at does marker = (
  ap (λ (x : EnvHandle). x.at) same,
  by_thread h (with_env_of h' (record { mark = a.mark; presence = Ready (with_value n v) })) (native_behind h) n
      (with_value n v) k (stood h h' a n is same lent (ap ready_in there))
      (stands h h' a (Some (with_value n v)) is same lent) at does marker,
)

pub by_ready_marker : {A : Type 0} {deed : Deed A} {answer : Result A Fault} (h h' : EnvHandle) (a : EnvPlace)
    (n : Box Native) (k v : Native) → is_env h ≡ true → h' ≡ h → a ≡ h'.value → a.presence ≡ Ready n → k ≡ n.value
    → (FitsRoom k.marker k.env → Does k.env v.env deed answer) → room_of v.marker ≡ room_of k.marker
    → (h'.at ≡ h.at) × ByMarker h (with_env_of h' (record { mark = a.mark; presence = Ready (with_value n v) }))
    (native_behind h) deed answer
by_ready_marker h h' a n k v is same lent there at does room = (
  ap (λ (x : EnvHandle). x.at) same,
  by_marker h (with_env_of h' (record { mark = a.mark; presence = Ready (with_value n v) })) (native_behind h) n
      (with_value n v) k (stood h h' a n is same lent (ap ready_in there))
      (stands h h' a (Some (with_value n v)) is same lent) at does room,
)

-- where no env is ready, the call is refused, and nothing has changed
pub by_nobody : {A : Type 0} (deed : Deed A) (h h' : EnvHandle) (a : EnvPlace) (p : Presence) → is_env h ≡ true
    → h' ≡ h → a ≡ h'.value → a.presence ≡ p → ready_in p ≡ None
    → (h'.at ≡ h.at) × ByThread h (with_env_of h' a) (native_behind h) deed (Err (absence_in p))
by_nobody {A} deed h h' a p is same lent there none = (
  ap (λ (x : EnvHandle). x.at) same,
  subst (λ (o : Option (Box Native)). ByThread h (with_env_of h' a) o deed (Err (absence_in p)))
      (sym (empty h h' a p is same lent there none))
      (ap (λ (e : Fault). Err e) (absent h h' a p is same lent there), as_it_was h h' a same lent),
)

-- and so is a call with a marker
pub marks_nobody : {A : Type 0} (deed : Deed A) (h h' : EnvHandle) (a : EnvPlace) (p : Presence) → is_env h ≡ true
    → h' ≡ h → a ≡ h'.value → a.presence ≡ p → ready_in p ≡ None
    → (h'.at ≡ h.at) × ByMarker h (with_env_of h' a) (native_behind h) deed (Err (absence_in p))
marks_nobody {A} deed h h' a p is same lent there none = (
  ap (λ (x : EnvHandle). x.at) same,
  subst (λ (o : Option (Box Native)). ByMarker h (with_env_of h' a) o deed (Err (absence_in p)))
      (sym (empty h h' a p is same lent there none))
      (ap (λ (e : Fault). Err e) (absent h h' a p is same lent there), as_it_was h h' a same lent),
)

-- and so are local references that are to be counted
pub tells_nothing : (h h' : EnvHandle) (a : EnvPlace) (p : Presence) → is_env h ≡ true → h' ≡ h → a ≡ h'.value
    → a.presence ≡ p → ready_in p ≡ None → TellsLocals h (with_env_of h' a) (Err (absence_in p))
tells_nothing h h' a p is same lent there none = (
  as_it_was h h' a same lent,
  subst (λ (o : Option (Box Native)). CountsLocals (absence h) o (Err (absence_in p)))
      (sym (empty h h' a p is same lent there none))
      (ap (λ (e : Fault). Err e) (absent h h' a p is same lent there)),
)
