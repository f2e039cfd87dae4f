-- Steps at local references are played: a test for places, a new local reference, and one that goes.
use Rattle.std.proofs.Common.{◌≡◌, ◌⊎◌, inl, inr, ℕ, suc, ◌<◌, ◌+◌, ◌==◌, ◌&&◌, Bool, true, false, cond, not, nat_le}
use Rattle.std.proofs.Common.{nat_lt}
use Rattle.std.proofs.Common.{Option, Some, None, is_some, Result, Ok, Err, List, [], ◌∷◌, ◌++◌, map, length, drop}
use Rattle.std.proofs.Common.{slice_get, slice_index, slice_index_or, refl, sym, ap, subst, ◌∙◌, arith}
use Rattle.std.proofs.lemmas.List.{append-nil, get_or-set_other, get_or-set_same, length-append, length-map, length-set}
use Rattle.std.proofs.lemmas.List.{map-append}
use Rattle.std.proofs.Math.Seq.{drop-append_seam}
use mathlib.Core.List.{IsPrefix}
use Rattle.jr_word.specs.declared.config.Config.{Config}
use Rattle.jr_word.specs.declared.fault.Fault.{Fault}
use Rattle.jr_word.specs.declared.fault.Fault.TheVariants.{LocalsFull}
use Rattle.jr_word.specs.declared.handle.Handle.{Handle as WordHandle}
use Rattle.jr_word.specs.declared.handle.RefKind.TheVariants.{Local}
use Rattle.jr_model.specs.declared.event.Act.{Act}
use Rattle.jr_model.specs.declared.event.Act.TheVariants.{LocalPut}
use Rattle.jr_model.specs.declared.event.Found.TheVariants.{Stale}
use Rattle.jr_model.specs.declared.event.Role.TheVariants.{Outside, Within}
use Rattle.jr_model.specs.declared.frames.LocalRef.{LocalRef}
use Rattle.jr_model.specs.State.{Contents, Handle, State}
use Rattle.jr_model.specs.Steps.{act_after}
use Rattle.jr_model.specs.Frames.{Agree, AreSound, Frames, IsAdded, IsMove, adds, all_refs, free_places, is_held}
use Rattle.jr_model.specs.Frames.{object_of}
use Rattle.jr_model.specs.History.{History, by, state, IsLegal}
use Rattle.jr_model.specs.Checks.{Parts, is_local}
use Rattle.jr_model.specs.Calls.{Call, refuse_if}
use Rattle.jr_model.specs.Calls as calls
use Rattle.jr_model.specs.References as references
use Rattle.jr_model.specs.Programs.{Which, handle, nothing, perhaps}
use Rattle.jr_model.specs.Programs.Ending.{refers}
use Rattle.jr_model.proofs.Agreement.{frames_stay_agreed, frames_stay_sound, standing_held}
use Rattle.jr_model.proofs.Histories.{mine_push, state_push}
use Rattle.jr_model.proofs.Counts.{not_true}
use Rattle.jr_model.proofs.Updates.{and_left, and_right, eq_true}
use Rattle.jr_world.specs.World as world
use Rattle.jr_world.specs.World.{Meaning, Ref, World, added, goes_on as going_on, held, new_local, put_last}
use Rattle.jr_world.specs.World.{refuse_where, refused_if, room_for}
use Rattle.jr_world.specs.Births.{Births, IsAs, RefIsSo, birth_of, births, born_by, found_in, found_at_place}
use Rattle.jr_world.specs.Births.{gone_where, is_at, next_of_place, ref_to}
use Rattle.jr_world.specs.Doing.{Doing, Shared, as_left, as_seen, atom, left_by_step, owner_if, whatever}
use Rattle.jr_world.specs.Doing.Doing.{ended}
use Rattle.jr_world.specs.Plays.{AreFrames, OthersGoOn, ActsNext, LeavesOthers, Plays, InStands, WereBorn}
use Rattle.jr_world.specs.Plays.{SharedStands, StandsBy, owner_of_handle}
use Rattle.jr_world.specs.Plays.Plays.{has_ended, moves}
use Rattle.jr_world.specs.Playing.{AnsweredBy, BothAre, FreeHaveSerials, ObjectIs, WordIs}
use Rattle.jr_world.proofs.BornHandles.{own_stands, puts_are_own}
use Rattle.jr_world.proofs.Births.BornLists.{births_push, get_new, get_old}
use Rattle.jr_world.proofs.Births.BornObjects.{born_at}
use Rattle.jr_world.proofs.Standing.{both_long, front_legal, looks_then, seen_stands, stays_by_others, stays_here}
use Rattle.jr_world.proofs.Standing.{is_of_gate}
use Rattle.jr_world.proofs.WordsPosted.{posted_later}
use Rattle.jr_world.proofs.InStay.{EndingPlays, IsAt, Scene, Then, at_births, at_next, at_now, at_within, object_now}
use Rattle.jr_world.proofs.LocalFrames.{both_lack, frames_put, frames_stay, places_taken}
use Rattle.jr_world.proofs.ProgramPlays.{same_fault}
use Rattle.jr_world.proofs.OpenParts.{does_in}
use Rattle.one_order.specs.Orders.{Item}
use Rattle.one_order.specs.Orders.Item.{does as acting}

-- A TEST

-- what a test of a call did
pub what_refused : (b : Bool) (e : Fault) (f g : Frames) (acts : List Act) (answer : Result (Unit {0}) Fault)
    → refuse_if b e f acts answer g → (acts ≡ []) × (answer ≡ refused_if b e) × (g ≡ f)
what_refused true e f g acts answer is = is
what_refused false e f g acts answer is = is

pub same_refused : (b : Bool) (e : Fault) (h : History) → AnsweredBy nothing (refused_if b e) h (refused_if b e)
same_refused true e h = same_fault e
same_refused false e h = tt

pub passes : (b : Bool) (e : Fault) (x : Unit {0}) → ◌≡◌ {A = Result (Unit {0}) Fault} (Ok x) (refused_if b e)
    → b ≡ false
passes true e x is = absurd cc
passes false e x is = refl

pub fails : (b : Bool) (e d : Fault) → ◌≡◌ {A = Result (Unit {0}) Fault} (Err d) (refused_if b e)
    → (b ≡ true) × (d ≡ e)
fails true e d is = (refl, cc)
fails false e d is = absurd cc

-- a test and what follows: it refused, or it passed
pub behind_test : {A : Type 0} (b : Bool) (e : Fault) (p : Call A) (f g : Frames) (acts : List Act)
    (answer : Result A Fault) → calls.◌>>◌ (λ old. refuse_if b e old) p f acts answer g
    → ((b ≡ true) × (acts ≡ []) × (answer ≡ Err e) × (g ≡ f)) ⊎ ((b ≡ false) × p f acts answer g)
behind_test b e p f g acts answer (inl d) =
    let did = what_refused b e f d.1 d.2 (Ok d.0) d.5 in
    inr (
      passes b e d.0 did.1,
      subst (λ h. p h acts answer g) did.2 (subst (λ l. p d.1 l answer g)
          (sym (d.4 ∙ ap (λ l. l ++ d.3) did.0)) d.6),
    )
behind_test b e p f g acts answer (inr d) =
    let did = what_refused b e f g acts (Err d.0) d.2 in
    let why = fails b e d.0 did.1 in
    inl (why.0, did.0, d.1 ∙ ap (λ x. Err x) why.1, did.2)

-- the world is tested, where it is known how the test goes
pub tests_then : {A : Type 0} (c : Config) (whole : History) (t : ℕ) (V : History → Result A Fault → Type 0)
    (g : Frames)
    (behind : List (Item Act)) (test : World → Bool) (e : Fault) (next : Result (Unit {0}) Fault → Doing A)
    (past : History) (f : Frames) (items : List (Item Act)) (b : Bool)
    → ((now : History) (s : Shared) → SharedStands c t now f s → test (as_seen t s) ≡ b)
    → ((now : History) → OthersGoOn c whole t past now → Plays c whole t V g behind (next (refused_if b e)) now f items)
    → Plays c whole t V g behind (whatever (atom (refuse_where test e)) next) past f items
tests_then c whole t V g behind test e next past f items b is goes_on =
    looks_then c whole t V g behind (λ w. refused_if (test w) e) next past f items
    (λ now s goes st. subst (λ z. Plays c whole t V g behind (next (refused_if z e)) now f items) (sym (is now s st))
    (goes_on now goes))

-- THE ROOM: the world's places are those of the thread's frames
pub room_lacks : {b : Births} (c : Config) (last t : ℕ) (now : History) (f : Frames) (s : Shared) (luck : Bool) (n : ℕ)
    → FreeHaveSerials last f → StandsBy b c t now f s
    → nat_lt c.locals (held (as_seen t s) + n) ≡ nat_lt (free_places last f) n
room_lacks c last t now f s luck n few st =
    sym (both_lack (free_places last f) (held (as_seen t s)) c.locals n
    (places_taken last f st.sound few st.frames ∙ st.places))

-- a test for places, where what it answers is so at each moment to which others lead
pub room_asked : (c : Config) (last : ℕ) (whole : History) (t n : ℕ) (V : History → Result (Unit {0}) Fault → Type 0)
    (past : History) (f g : Frames) (acts : List Act) (answer : Result (Unit {0}) Fault) (behind : List (Item Act))
    → ((now : History) (r : Result (Unit {0}) Fault) → OthersGoOn c whole t past now → AnsweredBy nothing answer now r
    → V now r) → FreeHaveSerials last f → references.room_for c last t n f acts answer g
    → Plays c whole t V g behind (atom (room_for c n)) past f (map acting acts)
room_asked c last whole t n V past f g acts answer behind so few is =
    let b = nat_lt (free_places last f) n in
    let did = what_refused b LocalsFull f g acts answer is in
    subst (λ x. Plays c whole t V x behind (atom (room_for c n)) past f (map acting acts)) (sym did.2)
    (subst (λ l. Plays c whole t V f behind (atom (room_for c n)) past f (map acting l)) (sym did.0)
    (tests_then c whole t V f behind (λ w. nat_lt c.locals (held w + n)) LocalsFull (λ r. ended r) past f [] b
    (λ now s st. room_lacks c last t now f s true n few st)
    (λ now goes. has_ended (refused_if b LocalsFull) (so now (refused_if b LocalsFull) goes
    (subst (λ x. AnsweredBy nothing x now (refused_if b LocalsFull)) (sym did.1) (same_refused b LocalsFull now))))))

pub room_plays : (k : Scene) (n : ℕ) (past : History) (f g : Frames) (acts : List Act)
    (answer : Result (Unit {0}) Fault) (behind : List (Item Act)) → IsAt k past acts → FreeHaveSerials k.last f
    → references.room_for k.config k.last k.thread n f acts answer g
    → Plays k.config k.whole k.thread (Then k nothing answer) g behind (atom (room_for k.config n)) past f
    (map acting acts)
room_plays k n past f g acts answer behind at few is =
    room_asked k.config k.last k.whole k.thread n (Then k nothing answer) past f g acts answer behind
    (λ now r goes so. let there = at_now k past now acts at goes in (there.stays, there.begins, so)) few is

-- WHAT STANDS BEHIND AN ACT, where it is as the births and the state behind it
pub stands_then : (c : Config) (t : ℕ) (now : History) (a : Act) (f : Frames) (s : Shared)
    → s.objects ≡ map (λ e. e.1) (born_by (births now) t a).objects
    → s.refs ≡ map (λ e. e.1) (born_by (births now) t a).refs
    → s.owners ≡ map (λ e. owner_of_handle e.0) (born_by (births now) t a).refs
    → s.used ≡ (born_by (births now) t a).used → length s.roles ≡ c.threads
    → ((u : ℕ) → slice_index_or s.roles u Outside ≡ (act_after (state now) t a).role u) → length s.frames ≡ c.threads
    → AreFrames t (born_by (births now) t a).refs (slice_index_or s.frames t []) f.frames
    → WereBorn now s.board → length f.given ≡ c.locals → Agree t f (now ++ by t a ∷ []) → AreSound f
    → InStands c t (now ++ by t a ∷ []) f s
stands_then c t now a f s objects refs owners used many roles lists frames posted places agreed sound =
    let born : (births (now ++ by t a ∷ [])) ≡ born_by (births now) t a = births_push now (by t a) in
    record {
      objects = objects ∙ ap (λ (b : Births). map (λ e. e.1) b.objects) (sym born);
      refs = refs ∙ ap (λ (b : Births). map (λ e. e.1) b.refs) (sym born);
      owners = owners ∙ ap (λ (b : Births). map (λ e. owner_of_handle e.0) b.refs) (sym born);
      used = used ∙ ap (λ (b : Births). b.used) (sym born);
      many = many;
      roles = λ u. roles u ∙ ap (λ (m : State). m.role u) (sym (state_push now (by t a)));
      lists = lists;
      frames = subst (λ (b : Births). AreFrames t b.refs (slice_index_or s.frames t []) f.frames) (sym born) frames;
      posted = posted_later now (by t a ∷ []) s.board posted;
      places = places;
      agreed = agreed;
      sound = sound;
    }

-- what a thread leaves of the world keeps what is other threads'
pub left_keeps : (t : ℕ) (s : Shared) (w : World) → LeavesOthers t s (as_left t s w)
left_keeps t s w = record { frames = λ u ne. get_or-set_other s.frames t u w.frames [] ne; board = refl }

-- A STEP of which it is known what it finds and leaves
module _ {X A : Type 0} (c : Config) (whole : History) (t : ℕ) (V : History → Result A Fault → Type 0) (g : Frames)
    (behind : List (Item Act)) (m : Meaning X) (next : Result X Fault → Doing A) (past : History) (f f' : Frames)
    (items : List (Item Act)) (r : Shared → Result X Fault) (w : Shared → World) where
  pub moves_by : ((now : History) (s : Shared) → OthersGoOn c whole t past now → SharedStands c t now f s
      → (◌≡◌ {A = Result X Fault × World} (m (as_seen t s)) (r s, w s))
      × SharedStands c t now f' (as_left t s (w s)))
      → ((now : History) (s : Shared) → OthersGoOn c whole t past now → SharedStands c t now f s
      → Plays c whole t V g behind (next (r s)) now f' items)
      → Plays c whole t V g behind (whatever (atom m) next) past f items
  moves_by does_so goes_on = moves true f'
      (λ now s goes st. let so = does_so now s goes st in
      subst (λ (z : Result X Fault × World). SharedStands c t now f' (left_by_step t s z).1
      × LeavesOthers t s (left_by_step t s z).1)
      (sym so.0) (so.1, left_keeps t s (w s)))
      (λ now s goes st. subst (λ (z : Result X Fault × World).
      Plays c whole t V g behind (next (left_by_step t s z).0) now f' items)
      (sym (does_so now s goes st).0) (goes_on now s goes st))

  -- .. at an act of a thread that is within
  pub does_by : (a : Act) (last : ℕ) → IsLegal c last whole → (state past).role t ≡ Within → is_of_gate a ≡ false
      → ((now : History) (s : Shared) → ActsNext c whole t past now a → InStands c t now f s
      → (◌≡◌ {A = Result X Fault × World} (m (as_seen t s)) (r s, w s))
      × InStands c t (now ++ by t a ∷ []) f' (as_left t s (w s)))
      → ((now : History) (s : Shared) → ActsNext c whole t past now a → InStands c t now f s
      → Plays c whole t V g behind (next (r s)) (now ++ by t a ∷ []) f' items)
      → Plays c whole t V g behind (whatever (atom m) next) past f (acting a ∷ items)
  does_by a last legal within no_gate does_so goes_on = does_in c last whole t legal within true a f' no_gate
      (λ now s goes st. let so = does_so now s goes st in
      subst (λ (z : Result X Fault × World).
      InStands c t (now ++ by t a ∷ []) f' (left_by_step t s z).1 × LeavesOthers t s (left_by_step t s z).1)
      (sym so.0) (so.1, left_keeps t s (w s)))
      (λ now s goes st. subst (λ (z : Result X Fault × World).
      Plays c whole t V g behind (next (left_by_step t s z).0) (now ++ by t a ∷ []) f' items)
      (sym (does_so now s goes st).0) (goes_on now s goes st))

-- the frames that it leaves are its own
pub left_frames : (t : ℕ) (refs : List (Handle × Option Ref)) (s : Shared) (w : World) (gs : List (List LocalRef))
    → t < length s.frames → AreFrames t refs w.frames gs
    → AreFrames t refs (slice_index_or (as_left t s w).frames t []) gs
left_frames t refs s w gs small frames = subst (λ l. AreFrames t refs l gs)
    (sym (get_or-set_same s.frames t w.frames [] small)) frames

-- WHAT IS TOLD OF A REFERENCE
pub gone_told : (b : Births) (s : State) → IsAs b s → (i : ℕ) (h : Handle) (q : Option Ref)
    → slice_get b.refs i ≡ Some (h, q) → found_in b s h ≡ Stale → q ≡ None
gone_told b s world i h q e stale = go q (subst (RefIsSo b.objects h.kind q) stale (world.told i h q e))
  where
    go : (q : Option Ref) → RefIsSo b.objects h.kind q Stale → q ≡ None
    go None so = refl
    go (Some r) so = absurd so

-- a place of the thread
pub at_owned : (t p : ℕ) (h : Handle) → is_at t p h ≡ true → (owner_of_handle h ≡ Some t) × (h.index ≡ p)
at_owned t p h at =
    let local : is_local h ≡ true = and_left (is_local h) ((t == h.owner) && (p == h.index)) at in
    let both : ((t == h.owner) && (p == h.index)) ≡ true =
    and_right (is_local h) ((t == h.owner) && (p == h.index)) at in
    let owner : t ≡ h.owner = eq_true t h.owner (and_left (t == h.owner) (p == h.index) both) in
    let index : p ≡ h.index = eq_true p h.index (and_right (t == h.owner) (p == h.index) both) in
    (ap (λ b. cond b (Some h.owner) None) local ∙ ap (λ n. Some n) (sym owner), sym index)

-- where what is at the place is gone already, the births stay
pub gone_same : (p : Handle → Bool) (refs : List (Handle × Option Ref))
    → ((i : ℕ) (h : Handle) (q : Option Ref) → slice_get refs i ≡ Some (h, q) → p h ≡ true → q ≡ None)
    → gone_where p refs ≡ refs
gone_same p [] none = refl
gone_same p (x ∷ refs) none =
    ap (λ q. (x.0, q) ∷ gone_where p refs) (go (p x.0) refl)
    ∙ ap (λ l. x ∷ l) (gone_same p refs (λ i h q e at. none (suc i) h q e at))
  where
    go : (b : Bool) → p x.0 ≡ b → cond b None x.1 ≡ x.1
    go true at = sym (none 0 x.0 x.1 refl at)
    go false at = refl

-- nothing stands at a place that no reference of the thread holds
pub nothing_at : (c : Config) (t p : ℕ) (now : History) (f : Frames) (s : Shared) → InStands c t now f s
    → IsAs (births now) (state now) → is_held (all_refs f) p ≡ false
    → gone_where (is_at t p) (births now).refs ≡ (births now).refs
nothing_at c t p now f s st world free = gone_same (is_at t p) (births now).refs (λ i h q e at.
    gone_told (births now) (state now) world i h q e
    (own_stands c t now f st h (at_owned t p h at).0 ∙ none h (at_owned t p h at).1 (object_of f h) refl))
  where
    none : (h : Handle) → h.index ≡ p → (x : Option ℕ) → object_of f h ≡ x → found_at_place (object_of f h) ≡ Stale
    none h index None is = ap found_at_place is
    none h index (Some o) is = absurd (
        let held : is_held (all_refs f) h.index ≡ true = standing_held h (all_refs f) (ap is_some is) in
        let there : is_held (all_refs f) p ≡ true = ap (is_held (all_refs f)) (sym index) ∙ held in
        cc)

-- where an object that stands was born
pub born_there : (b : Births) (s : State) → IsAs b s → (o j : ℕ) (x : Contents)
    → slice_get b.objects j ≡ Some (o, Some x)
    → birth_of b.objects o ≡ j
born_there b s world o j x e =
    let first = born_at b.objects j o x e in
    world.one_object (birth_of b.objects o) j o first.0 x first.1 e

-- A NEW LOCAL REFERENCE

one_longer : {X : Type 0} (xs : List X) (y : X) → suc (length xs) ≡ length (xs ++ y ∷ [])
one_longer xs y = let both = length-append xs (y ∷ []) in omega arith

-- the world with it
abbrev pub with_local : ℕ → World → World
with_local o w = record w {
  frames = put_last w.frames (length w.refs);
  refs = w.refs ++ Some (record { kind = Local; object = Some o }) ∷ [];
}

module _ (k : Scene) where
  -- frames go on agreeing behind an act that moves them
  pub moved_agreed : (now : History) (a : Act) (f g : Frames) → IsPrefix (now ++ by k.thread a ∷ []) k.whole
      → AreSound f → Agree k.thread f now → IsMove k.last k.thread f (a ∷ []) g
      → Agree k.thread g (now ++ by k.thread a ∷ [])
  moved_agreed now a f g begins sound agree move = frames_stay_agreed
      (record { config = k.config; last = k.last; thread = k.thread; seen = now })
      (record { config = k.config; last = k.last; thread = k.thread; seen = now ++ by k.thread a ∷ [] })
      f g (a ∷ []) sound agree move (record {
        config = refl;
        last = refl;
        thread = refl;
        legal = front_legal k.config k.last k.whole k.thread k.legal (now ++ by k.thread a ∷ []) begins;
        begins = (by k.thread a ∷ [], refl);
        own = mine_push now k.thread a;
      })

  module _ (now : History) (f g : Frames) (s : Shared) (luck : Bool) (r : LocalRef) (o : ℕ)
      (begins : IsPrefix (now ++ by k.thread (LocalPut r.handle.index r.object) ∷ []) k.whole)
      (st : InStands k.config k.thread now f s) (world : IsAs (births now) (state now))
      (is : IsAdded k.last k.thread f r g) (born : birth_of (births now).objects r.object ≡ o) where
    unheld : is_held (all_refs f) r.handle.index ≡ false
    unheld = not_true (is_held (all_refs f) r.handle.index) (λ e.
        let free : not (is_held (all_refs f) r.handle.index) ≡ true = and_left
        (not (is_held (all_refs f) r.handle.index))
        (nat_le (slice_index f.given r.handle.index) k.last) is.free in
        let bad : false ≡ true = ap not (sym e) ∙ free in cc)

    -- its handle is the next one of its place
    next_is : next_of_place k.thread r.handle.index ((births now).puts k.thread r.handle.index) ≡ r.handle
    next_is = ap (next_of_place k.thread r.handle.index)
        (puts_are_own now k.thread r.handle.index ∙ sym (st.agreed.given r.handle.index)) ∙ sym is.handle

    abbrev newly : List (Handle × Option Ref)
    newly = (births now).refs ++ (r.handle, ref_to Local o) ∷ []

    newly_born : (born_by (births now) k.thread (LocalPut r.handle.index r.object)).refs ≡ newly
    newly_born =
        ap (λ l. l ++ (
          next_of_place k.thread r.handle.index ((births now).puts k.thread r.handle.index),
          ref_to Local (birth_of (births now).objects r.object),
        ) ∷ [])
        (nothing_at k.config k.thread r.handle.index now f s st world unheld)
        ∙ ap (λ h. (births now).refs ++ (h, ref_to Local (birth_of (births now).objects r.object)) ∷ []) next_is
        ∙ ap (λ j. (births now).refs ++ (r.handle, ref_to Local j) ∷ []) born

    own : owner_of_handle r.handle ≡ Some k.thread
    own = ap owner_of_handle is.handle

    as_many : length s.refs ≡ length (births now).refs
    as_many = ap length st.refs ∙ length-map (births now).refs (λ e. e.1)

    -- it is born at the end
    pub newest_at : slice_get (births (now ++ by k.thread (LocalPut r.handle.index r.object) ∷ [])).refs (length s.refs)
        ≡ Some (r.handle, ref_to Local o)
    newest_at =
        ap (λ (b : Births). slice_get b.refs (length s.refs))
        (births_push now (by k.thread (LocalPut r.handle.index r.object)))
        ∙ ap (λ l. slice_get l (length s.refs)) newly_born
        ∙ ap (slice_get newly) as_many ∙ get_new (births now).refs (r.handle, ref_to Local o)

    pub put_stands : InStands k.config k.thread (now ++ by k.thread (LocalPut r.handle.index r.object) ∷ []) g
        (as_left k.thread s (with_local o (as_seen k.thread s)))
    put_stands = stands_then k.config k.thread now (LocalPut r.handle.index r.object) g
        (as_left k.thread s (with_local o (as_seen k.thread s)))
        st.objects
        (ap (λ l. l ++ ref_to Local o ∷ []) st.refs
        ∙ sym (map-append (λ e. e.1) (births now).refs ((r.handle, ref_to Local o) ∷ []))
        ∙ ap (map (λ e. e.1)) (sym newly_born))
        (owners
        ∙ sym (map-append (λ e. owner_of_handle e.0) (births now).refs ((r.handle, ref_to Local o) ∷ []))
        ∙ ap (map (λ e. owner_of_handle e.0)) (sym newly_born))
        st.used st.many st.roles
        (length-set s.frames k.thread (put_last (slice_index_or s.frames k.thread []) (length s.refs)) ∙ st.lists)
        (left_frames k.thread (born_by (births now) k.thread (LocalPut r.handle.index r.object)).refs s
        (with_local o (as_seen k.thread s)) g.frames (let l = st.lists in let small = k.small in omega arith)
        (subst (λ refs. AreFrames k.thread refs (put_last (slice_index_or s.frames k.thread [])
        (length s.refs)) g.frames)
        (sym newly_born)
        (subst (λ gs. AreFrames k.thread newly (put_last (slice_index_or s.frames k.thread []) (length s.refs)) gs)
        (sym (ap (λ (x : Frames). x.frames) is.new_is))
        (frames_put (length s.refs) r (ref_to Local o)
        (ap (slice_get newly) as_many ∙ get_new (births now).refs (r.handle, ref_to Local o)) own
        (frames_stay (λ i h q e. (q, get_old (births now).refs _ i (h, q) e)) st.frames)))))
        st.posted
        (ap (λ (x : Frames). length x.given) is.new_is
        ∙ length-set f.given r.handle.index (r.handle.serial + 1) ∙ st.places)
        (moved_agreed now (LocalPut r.handle.index r.object) f g begins st.sound st.agreed (adds r is))
        (frames_stay_sound k.last k.thread f g (LocalPut r.handle.index r.object ∷ []) st.sound (adds r is))
      where
        owners : s.owners ++ map (owner_if k.thread) (drop (length s.owners) (s.refs ++ ref_to Local o ∷ []))
            ≡ map (λ e. owner_of_handle e.0) (births now).refs ++ owner_of_handle r.handle ∷ []
        owners =
            ap (λ n. s.owners ++ map (owner_if k.thread) (drop n (s.refs ++ ref_to Local o ∷ [])))
            (sym (both_long k.config k.thread now f s st))
            ∙ ap (λ l. s.owners ++ map (owner_if k.thread) l) (drop-append_seam s.refs (ref_to Local o ∷ []))
            ∙ ap (λ l. l ++ Some k.thread ∷ []) st.owners
            ∙ ap (λ x. map (λ e. owner_of_handle e.0) (births now).refs ++ x ∷ []) (sym own)

  -- an object that stands stands on
  pub object_goes : (past now : History) (acts : List Act) → IsAt k past acts
      → OthersGoOn k.config k.whole k.thread past now → (o j : ℕ) → ObjectIs past o j → ObjectIs now o j
  object_goes past now acts at goes o j object =
      let there = object_now k past now (stays_by_others k.config k.last k.whole k.thread k.legal past past now
      (stays_here k.config k.last k.whole k.thread k.legal past (at_within k past acts at)) goes) goes.begins o j
      object.0 object.1 in
      (there.0, there.1)

  -- A NEW LOCAL REFERENCE IS PLAYED
  module _ (o o' : ℕ) (h : Handle) (past : History) (f g : Frames) (at : IsAt k past (LocalPut h.index o ∷ []))
      (object : ObjectIs past o o') (is : IsAdded k.last k.thread f (record { handle = h; object = o }) g)
      (now : History) (s : Shared) (next : ActsNext k.config k.whole k.thread past now (LocalPut h.index o))
      (st : InStands k.config k.thread now f s) where
    world_then : IsAs (births now) (state now)
    world_then =
        at_births k now (LocalPut h.index o ∷ []) (at_now k past now (LocalPut h.index o ∷ []) at next.goes)

    born_then : birth_of (births now).objects o ≡ o'
    born_then = let there = object_goes past now (LocalPut h.index o ∷ []) at next.goes o o' object in
        born_there (births now) (state now) world_then o o' there.0 there.1

    added_stands : InStands k.config k.thread (now ++ by k.thread (LocalPut h.index o) ∷ []) g
        (as_left k.thread s (with_local o' (as_seen k.thread s)))
    added_stands = put_stands now f g s true (record { handle = h; object = o }) o' next.next st world_then is born_then

    added_word : WordIs (now ++ by k.thread (LocalPut h.index o) ∷ []) (Parts h)
        (length (s.refs ++ ref_to Local o' ∷ []))
    added_word = subst (WordIs (now ++ by k.thread (LocalPut h.index o) ∷ []) (Parts h))
        (one_longer s.refs (ref_to Local o')) (
          ref_to Local o',
          newest_at now f g s true (record { handle = h; object = o }) o' next.next st world_then is born_then,
        )

  pub added_plays : (o o' : ℕ) (past : History) (f g : Frames) (acts : List Act)
      (answer : Result Handle Fault) (behind : List (Item Act)) → IsAt k past acts → ObjectIs past o o'
      → references.added k.config k.last k.thread o f acts answer g
      → Plays k.config k.whole k.thread (Then k handle answer) g behind (atom (added o')) past f (map acting acts)
  added_plays o o' past f g acts answer behind at object did =
      let h = did.0 in
      let here : IsAt k past (LocalPut h.index o ∷ []) = subst (IsAt k past) did.1 at in
      subst (λ l. Plays k.config k.whole k.thread (Then k handle answer) g behind (atom (added o')) past f
      (map acting l)) (sym did.1)
      (does_in k.config k.last k.whole k.thread k.legal (at_within k past (LocalPut h.index o ∷ []) here) true
      (LocalPut h.index o) g refl
      (λ now s next st. (
        added_stands o o' h past f g here object did.3 now s next st,
        left_keeps k.thread s (with_local o' (as_seen k.thread s)),
      ))
      (λ now s next st. has_ended _ (let then = at_next k past now (LocalPut h.index o) [] here next refl in (
        then.stays,
        then.begins,
        subst (λ x. AnsweredBy handle x (now ++ by k.thread (LocalPut h.index o) ∷ [])
            (Ok (record { 0 = length (s.refs ++ ref_to Local o' ∷ []) }))) (sym did.2)
            (added_word o o' h past f g here object did.3 now s next st),
      ))))

-- A NEW LOCAL REFERENCE, WHERE THERE IS A PLACE

-- what the model's call did
abbrev pub Adds : ℕ → ℕ → ℕ → Frames → List Act → Result (Option Handle) Fault → Frames → Type 0
Adds last t o f acts answer g = (h : Handle) × (acts ≡ LocalPut h.index o ∷ []) × (answer ≡ Ok (Some h))
    × IsAdded last t f (record { handle = h; object = o }) g

added_only : (c : Config) (last t o : ℕ) (f g : Frames) (acts : List Act) (answer : Result (Option Handle) Fault)
    → calls.◌>>=◌ (references.added c last t o) (λ h. calls.done (Some h)) f acts answer g
    → Adds last t o f acts answer g
added_only c last t o f g acts answer (inl d) =
    let is : d.0 ≡ d.5.0 = (let e = d.5.2 in cc) in (
      d.5.0,
      d.4 ∙ ap (λ l. d.2 ++ l) d.6.0 ∙ append-nil d.2 ∙ d.5.1,
      d.6.1 ∙ ap (λ h. Ok (Some h)) is,
      subst (IsAdded last t f (record { handle = d.5.0; object = o })) (sym d.6.2) d.5.3,
    )
added_only c last t o f g acts answer (inr d) = absurd (let bad = d.2.2 in cc)

-- what the world's does
new_local_full : (c : Config) (o : ℕ) (w : World) → nat_lt c.locals (held w + 1) ≡ true
    → ◌≡◌ {A = Result (Option WordHandle) Fault × World} (new_local c (Some o) w) (Err LocalsFull, w)
new_local_full c o w full = ap (λ b. going_on {A = Unit {0}}
    (λ u. world.◌>>=◌ (added o) (λ h. world.done (Some h))) (refused_if b LocalsFull, w)) full

new_local_fits : (c : Config) (o : ℕ) (w : World) → nat_lt c.locals (held w + 1) ≡ false
    → ◌≡◌ {A = Result (Option WordHandle) Fault × World} (new_local c (Some o) w)
    (Ok (Some (record { 0 = length (w.refs ++ ref_to Local o ∷ []) })), with_local o w)
new_local_fits c o w fits = ap (λ b. going_on {A = Unit {0}}
    (λ u. world.◌>>=◌ (added o) (λ h. world.done (Some h))) (refused_if b LocalsFull, w)) fits

module _ (k : Scene) where
  pub new_local_plays : (x x' : Option ℕ) (past : History) (f g : Frames) (acts : List Act)
      (answer : Result (Option Handle) Fault) (behind : List (Item Act)) → IsAt k past acts
      → BothAre (ObjectIs past) x x' → FreeHaveSerials k.last f
      → references.new_local k.config k.last k.thread x f acts answer g
      → Plays k.config k.whole k.thread (Then k (perhaps handle) answer) g behind (atom (new_local k.config x')) past f
      (map acting acts)
  new_local_plays None (Some o') past f g acts answer behind at so few did = absurd so
  new_local_plays (Some o) None past f g acts answer behind at so few did = absurd so
  new_local_plays None None past f g acts answer behind at so few did =
      subst (λ x. Plays k.config k.whole k.thread (Then k (perhaps handle) answer) x behind
      (atom (new_local k.config None)) past f (map acting acts)) (sym did.2)
      (subst (λ l. Plays k.config k.whole k.thread (Then k (perhaps handle) answer) f behind
      (atom (new_local k.config None)) past f (map acting l)) (sym did.0)
      (looks_then k.config k.whole k.thread (Then k (perhaps handle) answer) f behind (λ w. Ok None)
      (λ r. ended r) past f [] (λ now s goes st. has_ended (Ok None) (let there = at_now k past now acts at goes in (
        there.stays,
        there.begins,
        subst (λ z. AnsweredBy (perhaps handle) z now (Ok None)) (sym did.1) tt,
      )))))
  new_local_plays (Some o) (Some o') past f g acts answer behind at object few did = go (behind_test
      (nat_lt (free_places k.last f) 1) LocalsFull
      (calls.◌>>=◌ (references.added k.config k.last k.thread o) (λ h. calls.done (Some h))) f g acts answer did)
    where
      go : ((nat_lt (free_places k.last f) 1 ≡ true) × (acts ≡ []) × (answer ≡ Err LocalsFull) × (g ≡ f))
          ⊎ ((nat_lt (free_places k.last f) 1 ≡ false)
          × calls.◌>>=◌ (references.added k.config k.last k.thread o) (λ h. calls.done (Some h)) f acts answer g)
          → Plays k.config k.whole k.thread (Then k (perhaps handle) answer) g behind
          (atom (new_local k.config (Some o'))) past f (map acting acts)
      go (inl d) =
          subst (λ x. Plays k.config k.whole k.thread (Then k (perhaps handle) answer) x behind
          (atom (new_local k.config (Some o'))) past f (map acting acts)) (sym d.3)
          (subst (λ l. Plays k.config k.whole k.thread (Then k (perhaps handle) answer) f behind
          (atom (new_local k.config (Some o'))) past f (map acting l)) (sym d.1)
          (moves_by k.config k.whole k.thread (Then k (perhaps handle) answer) f behind (new_local k.config (Some o'))
          (λ r. ended r) past f f [] (λ s. Err LocalsFull) (λ s. as_seen k.thread s)
          (λ now s goes st. (
            new_local_full k.config o' (as_seen k.thread s)
                (room_lacks k.config k.last k.thread now f s true 1 few st ∙ d.0),
            seen_stands k.config k.thread now f s st,
          ))
          (λ now s goes st. has_ended (Err LocalsFull) (let there = at_now k past now acts at goes in (
            there.stays,
            there.begins,
            subst (λ z. AnsweredBy (perhaps handle) z now (Err LocalsFull))
                (sym d.2) refl,
          )))))
      go (inr d) =
          let one = added_only k.config k.last k.thread o f g acts answer d.1 in
          let h = one.0 in
          let here : IsAt k past (LocalPut h.index o ∷ []) = subst (IsAt k past) one.1 at in
          subst (λ l. Plays k.config k.whole k.thread (Then k (perhaps handle) answer) g behind
          (atom (new_local k.config (Some o'))) past f (map acting l)) (sym one.1)
          (does_by k.config k.whole k.thread (Then k (perhaps handle) answer) g behind (new_local k.config (Some o'))
          (λ r. ended r) past f g [] (λ s. Ok (Some (record { 0 = length (s.refs ++ ref_to Local o' ∷ []) })))
          (λ s. with_local o' (as_seen k.thread s)) (LocalPut h.index o) k.last k.legal
          (at_within k past (LocalPut h.index o ∷ []) here) refl
          (λ now s next st. (
            new_local_fits k.config o' (as_seen k.thread s)
                (room_lacks k.config k.last k.thread now f s true 1 few st ∙ d.0),
            added_stands k o o' h past f g here object one.3 now s next st,
          ))
          (λ now s next st. has_ended _ (let then = at_next k past now (LocalPut h.index o) [] here next refl in (
            then.stays,
            then.begins,
            subst (λ z. AnsweredBy (perhaps handle) z (now ++ by k.thread (LocalPut h.index o) ∷ [])
                (Ok (Some (record { 0 = length (s.refs ++ ref_to Local o' ∷ []) })))) (sym one.2)
                (added_word k o o' h past f g here object one.3 now s next st),
          ))))

  pub refers_play : (n : ℕ) (p : Which) → EndingPlays k {n = n} (refers p)
  refers_play n p words numbers known known' kind o o' past f g acts answer behind at are knowns hand few refusal did =
      new_local_plays (known p) (known' p) past f g acts answer behind at (knowns p) few did
