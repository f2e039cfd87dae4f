-- What a word is that is handed in as a reference, and when it was so.
use Rattle.std.specs.Prelude.{◌≡◌, ◌≢◌, ◌<◌, ◌==◌, ◌||◌, ℕ, Bool, true, false, cond, nat_lt, nat_le}
use Rattle.std.specs.Prelude.{Option, Some, None, Ok, List, [], ◌∷◌, ◌++◌, map, slice_index}
use mathlib.Core.List.{IsPrefix}
use Rattle.jr_word.specs.declared.config.Config.{Config}
use Rattle.jr_word.specs.declared.handle.RefKind.{RefKind}
use Rattle.jr_word.specs.declared.handle.RefKind.TheVariants.{Global, Weak}
use Rattle.jr_word.specs.declared.slot.SlotParts.{SlotParts}
use Rattle.jr_word.specs.declared.slot.SlotParts.TheVariants as slot
use Rattle.jr_model.specs.declared.event.Found.{Found}
use Rattle.jr_model.specs.declared.event.Found.TheVariants.{Object, Cleared, Stale}
use Rattle.jr_model.specs.declared.event.Act.{Act}
use Rattle.jr_model.specs.declared.event.Act.TheVariants.{Look}
use Rattle.jr_model.specs.State.{Handle, Contents, State, same_kind}
use Rattle.jr_model.specs.History.{History, PassView, by, state}
use Rattle.jr_model.specs.Frames.{Frames, object_of}
use Rattle.jr_model.specs.Calls.{Call}
use Rattle.jr_model.specs.Checks.{Word, Nothing, Malformed, Parts, is_foreign, is_local, is_out_of_bounds}
use Rattle.jr_steps.specs.declared.known.Known.{Known}
use Rattle.jr_steps.specs.Knowing.{Facts, HasObject, Holds, keeps, state_of, view}
use Rattle.jr_gate.specs.Performing.{Performed}
use Rattle.jr_frames.specs.declared.explaining.Explanation.{Explanation}
use Rattle.jr_frames.specs.declared.explaining.Explanation.TheVariants as explained
use Rattle.jr_frames.specs.declared.explaining.Told.{Told}
use Rattle.jr_frames.specs.declared.explaining.Told.TheVariants as told

-- WHAT A WORD IS

-- what a local reference is found as, by its object
abbrev pub found_local : Option ℕ → Found
found_local (Some o) = Object o
found_local None = Stale

-- what stands at a handle: for a local one in the thread's frames, and else in the room
abbrev pub found_at : Frames → State → Handle → Found
found_at f s h = cond (is_local h) (found_local (object_of f h)) (s.refs h)

-- both handles have one index and one serial
abbrev pub IsBeside : Handle → Handle → Type 0
IsBeside g h = (g.index ≡ h.index) × (g.serial ≡ h.serial)

-- THE SERIAL WAS GIVEN: by the local handle's place, or else in the room, where the
-- machine says it of a handle with this index and serial, be its kind the handle's or the other
pub data WasGiven (f : Frames) (s : State) (h : Handle) : Type 0 where
  by_place : is_local h ≡ true → h.serial < slice_index f.given h.index → WasGiven f s h
  in_room : is_local h ≡ false → (g : Handle) → IsBeside g h → s.given g ≡ true → WasGiven f s h

-- no reference with the handle's index and serial stands
abbrev pub NoneStandsAt : Frames → State → Handle → Type 0
NoneStandsAt f s h = (found_at f s h ≡ Stale)
    × ((g : Handle) → is_local h ≡ false → IsBeside g h → s.refs g ≡ Stale)

-- the handle's reference doesn't stand, and in the room one with its index and serial does
abbrev pub OtherStandsAt : Frames → State → Handle → Type 0
OtherStandsAt f s h = (found_at f s h ≡ Stale) × (is_local h ≡ false)
    × (g : Handle) × IsBeside g h × (s.refs g ≢ Stale)

-- what is told of a handle that lies in the room and is no other thread's
abbrev pub SaysOfHandle : Frames → State → Handle → Explanation → Type 0
-- its reference stands, for an object of this kind
SaysOfHandle f s h (explained.Standing k (Some kind)) = (k ≡ h.kind)
    × (o : ℕ) × (found_at f s h ≡ Object o) × (x : Contents) × (s.objects o ≡ Some x) × (x.kind ≡ kind)
-- its reference stands, and is cleared
SaysOfHandle f s h (explained.Standing k None) = (k ≡ h.kind) × (found_at f s h ≡ Cleared)
-- its reference doesn't stand, and one of the other kind does under its serial
SaysOfHandle f s h explained.OtherKind = OtherStandsAt f s h
-- its serial was given, and nothing stands under it any more
SaysOfHandle f s h explained.Gone = NoneStandsAt f s h × WasGiven f s h
-- its serial was never given, and nothing stands under it
SaysOfHandle f s h explained.NotGiven = NoneStandsAt f s h × ¬ (WasGiven f s h)
SaysOfHandle f s h _ = ⊥

-- WHAT A WORD IS to a thread with these frames, in this state: just one answer says it
pub data IsExplained (c : Config) (thread : ℕ) (f : Frames) (s : State) : Word → Explanation → Type 0 where
  null : IsExplained c thread f s Nothing explained.Null
  malformed : IsExplained c thread f s Malformed explained.Malformed
  outside : {h : Handle} → is_out_of_bounds c (Parts h) ≡ true
      → IsExplained c thread f s (Parts h) explained.Outside
  foreign : {h : Handle} → is_out_of_bounds c (Parts h) ≡ false → is_foreign thread (Parts h) ≡ true
      → IsExplained c thread f s (Parts h) explained.Foreign
  own : {h : Handle} {e : Explanation} → is_out_of_bounds c (Parts h) ≡ false
      → is_foreign thread (Parts h) ≡ false → SaysOfHandle f s h e → IsExplained c thread f s (Parts h) e

-- A WORD IS ONE THING: in one state no two explanations of it are so
abbrev pub IsOneThing : Type 0
IsOneThing = (c : Config) (thread : ℕ) (f : Frames) (s : State) (a : Word) (e d : Explanation)
    → IsExplained c thread f s a e → IsExplained c thread f s a d → e ≡ d

-- WHEN IT WAS SO

-- the look that a word needs: at a global or weak handle that lies in the room, with what it finds
abbrev pub look_acts : Config → Word → Found → List Act
look_acts c (Parts h) r = cond (is_out_of_bounds c (Parts h) || is_local h) [] (Look h r ∷ [])
look_acts c _ r = []

-- that look and no other act, with some answer
abbrev pub glance : {A : Type 0} → Config → Word → Call A
glance {A} c a old acts answer new =
    (r : Found) × (x : A) × (acts ≡ look_acts c a r) × (answer ≡ Ok x) × (new ≡ old)

-- IT WAS SO AT ITS ONE LOOK, right behind it, since a look changes nothing;
-- or at a moment in between, where the word needs no look
pub record WasSeen (c : Config) (a : Word) (P : State → Type 0) (old new : PassView) : Type 0 where
  pub found : Found
  pub before : History
  pub from : IsPrefix old.seen before
  pub to : IsPrefix (before ++ map (by old.thread) (look_acts c a found)) new.seen
  pub met : P (state (before ++ map (by old.thread) (look_acts c a found)))

module _ {S : Type 0} (facts : S → Facts) where
  -- A WORD WAS EXPLAINED in a stay, by its one look, if it needs one, and one operation more at
  -- the most: the answer was so then
  abbrev pub ExplainsWord : S → S → Frames → Word → Explanation → Type 0
  ExplainsWord old new f a e =
      Performed facts old new f f 1 (Holds f) (λ s. glance (facts old).stands.config a) (Ok e) (λ j k.
      WasSeen (facts old).stands.config a (λ s. IsExplained (facts old).stands.config (facts old).stands.thread f s a e)
      (view j) (view k) × Holds f k)

-- For the crate's own functions: what the look tells, before the object's kind is known.

-- what is told of the object of a reference that stands
abbrev pub told_of_object : Option ℕ → Told
told_of_object (Some o) = told.Object o
told_of_object None = told.Cleared

-- what is told of a serial under which nothing stands, by whether it was given
abbrev pub told_of_serial : Bool → Told
told_of_serial b = cond b told.Gone told.NotGiven

-- what the frames tell of a local handle
abbrev pub told_by_place : Option ℕ → Bool → Told
told_by_place (Some o) given = told.Object o
told_by_place None given = told_of_serial given

-- what the reference of a kind and serial, which stands in the handle's slot, tells of the handle
abbrev pub told_by_reference : Handle → RefKind → ℕ → Option ℕ → Told
told_by_reference h kind serial object = cond (h.serial == serial)
    (cond (same_kind kind h.kind) (told_of_object object) told.OtherKind) (told_of_serial (nat_lt h.serial serial))

-- what a slot's word tells of a handle of its index
abbrev pub told_by_slot : Handle → SlotParts → Told
told_by_slot h (slot.Free serial) = told_of_serial (nat_lt h.serial serial)
told_by_slot h (slot.Retired serial) = told_of_serial (nat_le h.serial serial)
told_by_slot h (slot.Global serial o) = told_by_reference h Global serial (Some o)
told_by_slot h (slot.Weak serial object) = told_by_reference h Weak serial object

-- what was told is so in this state
abbrev pub SaysTold : Frames → State → Handle → Told → Type 0
SaysTold f s h (told.Object o) = found_at f s h ≡ Object o
SaysTold f s h told.Cleared = found_at f s h ≡ Cleared
SaysTold f s h told.OtherKind = OtherStandsAt f s h
SaysTold f s h told.Gone = NoneStandsAt f s h × WasGiven f s h
SaysTold f s h told.NotGiven = NoneStandsAt f s h × ¬ (WasGiven f s h)

-- the object that was told is present
abbrev pub ToldPresent : Told → Known → Type 0
ToldPresent (told.Object o) k = HasObject o k
ToldPresent _ k = Unit {0}

-- the look that the word needs is the last that was seen, and this is so
pub record IsSeenNow (c : Config) (a : Word) (P : State → Type 0) (j k : Known) : Type 0 where
  pub found : Found
  pub before : History
  pub from : IsPrefix j.seen before
  pub is : k.seen ≡ before ++ map (by j.thread) (look_acts c a found)
  pub met : P (state_of k)

module _ {S : Type 0} (facts : S → Facts) where
  -- the look that a handle needs told this of it
  abbrev pub TellsHandle : S → S → Frames → Handle → Told → Type 0
  TellsHandle old new f h x =
      Performed facts old new f f 0 (Holds f) (λ s. glance {A = Unit {0}} (facts old).stands.config (Parts h)) (Ok tt)
      (λ j k. keeps j k × Holds f k × IsSeenNow (facts old).stands.config (Parts h) (λ s. SaysTold f s h x) j k
      × ToldPresent x k)
