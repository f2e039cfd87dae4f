-- Endings at frames are played: room is asked for, a frame comes, the last one goes, and all go.
use Rattle.std.proofs.Common.{◌≡◌, ◌⊎◌, inl, inr, ℕ, ◌<◌, ◌+◌, ◌==◌, Bool, true, false}
use Rattle.std.proofs.Common.{nat_le, nat_lt, Result, Ok, Err, List, [], ◌∷◌, ◌++◌, map, length}
use Rattle.std.proofs.Common.{slice_index_or, refl, sym, ap, subst, ◌∙◌, arith}
use Rattle.std.specs.List.{flat_map}
use Rattle.std.proofs.lemmas.List.{append-nil, length-set}
use Rattle.std.proofs.lemmas.Bool.Decides.{nat_tests}
use Rattle.jr_word.specs.declared.config.Config.{Config}
use Rattle.jr_word.specs.declared.fault.Fault.{Fault}
use Rattle.jr_word.specs.declared.fault.Fault.TheVariants.{LocalsFull}
use Rattle.jr_model.specs.declared.event.Act.{Act}
use Rattle.jr_model.specs.declared.frames.LocalRef.{LocalRef}
use Rattle.jr_model.specs.declared.frames.TheConstants.{FRAMES}
use Rattle.jr_model.specs.Frames.{AreSound, Frames, all_refs, drop_all, free_places, freed, joined, object_at}
use Rattle.jr_model.specs.Frames.{object_where, pushed}
use Rattle.jr_model.specs.History.{History}
use Rattle.jr_model.specs.Calls as calls
use Rattle.jr_model.specs.Parts.{frame_left, new_frame}
use Rattle.jr_model.specs.References as references
use Rattle.jr_model.specs.Programs.{nothing}
use Rattle.jr_model.specs.Programs.Ending.{asks_room, frees, pushes}
use Rattle.jr_model.proofs.Agreement.{freed_sound, joined_push, pushed_sound}
use Rattle.jr_model.proofs.Moments.{prefix_self}
use Rattle.jr_world.specs.World as world
use Rattle.jr_world.specs.World.{World, change, goes_on as going_on, held, push, refused_if, room_for}
use Rattle.jr_world.specs.Births.{Births}
use Rattle.jr_world.specs.Doing.{Shared, as_left, as_seen, atom, freed_in_steps, given_up_in_steps, unless_refused}
use Rattle.jr_world.specs.Doing as doing
use Rattle.jr_world.specs.Doing.Doing.{ended}
use Rattle.jr_world.specs.Plays.{AreFrames, OthersGoOn, Plays, SharedStands, StandsBy}
use Rattle.jr_world.specs.Plays.AreFrames.{no_frame, one_frame}
use Rattle.jr_world.specs.Plays.AreNamed.{no_local}
use Rattle.jr_world.specs.Plays.Plays.{has_ended}
use Rattle.jr_world.specs.Playing.{AnsweredBy, FreeHaveSerials}
use Rattle.jr_world.proofs.Standing.{both_long, no_more_owners, seen_stands}
use Rattle.jr_world.proofs.InStay.{EndingPlays, IsAt, Scene, Then, at_now, at_within}
use Rattle.jr_world.proofs.LocalFrames.{all_named, frames_long, frames_pushed}
use Rattle.jr_world.proofs.LocalPlays.{behind_test, left_frames, moves_by, room_lacks, room_plays}
use Rattle.jr_world.proofs.LocalsGivenUp.{found_among, given_up, joined_left, none_left, same_given, without_all}
use Rattle.jr_world.proofs.NamedPlays.{ComesTo}
use Rattle.jr_world.proofs.OpenParts.{looks_in}
use Rattle.one_order.specs.Orders.{Item}
use Rattle.one_order.specs.Orders.Item.{does as acting}

-- OTHER FRAMES, with the references that stand
pub framed_stands : {b : Births} (c : Config) (t : ℕ) (now : History) (f : Frames) (s : Shared) (luck : Bool)
    (fs : List (List ℕ)) (gs : List (List LocalRef)) → t < c.threads → StandsBy b c t now f s → AreFrames t b.refs fs gs
    → ((p : ℕ) → object_at f p ≡ object_where (λ r. r.handle.index == p) (joined gs))
    → AreSound (record f { frames = gs })
    → StandsBy b c t now (record f { frames = gs }) (as_left t s (record (as_seen t s) { frames = fs }))
framed_stands {b} c t now f s luck fs gs small st framed same sound = record {
  objects = st.objects;
  refs = st.refs;
  owners = no_more_owners c t now f s s.refs (both_long c t now f s st) ∙ st.owners;
  used = st.used;
  many = st.many;
  roles = st.roles;
  lists = length-set s.frames t fs ∙ st.lists;
  frames = left_frames t b.refs s (record (as_seen t s) { frames = fs }) gs
      (let l = st.lists in omega arith) framed;
  posted = st.posted;
  places = st.places;
  agreed = record { locals = λ p. st.agreed.locals p ∙ same p; given = st.agreed.given };
  sound = sound;
}

-- ONE MORE FRAME

few : (n m : ℕ) → nat_le n m ≡ false → m < n
few n m e = grind (arith, nat_tests)

-- the world with it
abbrev with_frame : World → World
with_frame w = record w { frames = w.frames ++ [] ∷ [] }

-- what the world's push does, by its two tests
abbrev pushed_by : Bool → Bool → World → Result (Unit {0}) Fault × World
pushed_by full lacks w = going_on {A = Unit {0}} (λ u. λ v. going_on {A = Unit {0}} (λ u. change with_frame)
    (refused_if lacks LocalsFull, v)) (refused_if full LocalsFull, w)

pushing : (c : Config) (n : ℕ) (w : World) (full lacks : Bool) → nat_le FRAMES (length w.frames) ≡ full
    → nat_lt c.locals (held w + n) ≡ lacks
    → ◌≡◌ {A = Result (Unit {0}) Fault × World} (push c n w)
    (pushed_by full lacks w)
pushing c n w full lacks is lack =
    ap (λ b. going_on {A = Unit {0}} (λ u. world.◌>>◌ (room_for c n) (change with_frame))
    (refused_if b LocalsFull, w)) is
    ∙ go full
  where
    go : (b : Bool) → ◌≡◌ {A = Result (Unit {0}) Fault × World}
        (going_on {A = Unit {0}} (λ u. world.◌>>◌ (room_for c n) (change with_frame))
        (refused_if b LocalsFull, w))
        (pushed_by b lacks w)
    go true = refl
    go false = ap (λ b. pushed_by false b w) lack

-- where what is answered is so at each moment to which others lead
module _ (c : Config) (last : ℕ) (whole : History) (t : ℕ) (small : t < c.threads) (m : ℕ)
    (V : History → Result (Unit {0}) Fault → Type 0) (past : History) (f g : Frames) (acts : List Act)
    (answer : Result (Unit {0}) Fault) (behind : List (Item Act))
    (so : (now : History) (r : Result (Unit {0}) Fault) → OthersGoOn c whole t past now
    → AnsweredBy nothing answer now r
    → V now r) where
  -- a push that is refused
  push_refused : (acts ≡ []) × (answer ≡ Err LocalsFull) × (g ≡ f)
      → ((now : History) (s : Shared) → SharedStands c t now f s
      → ◌≡◌ {A = Result (Unit {0}) Fault × World} (push c m (as_seen t s)) (Err LocalsFull, as_seen t s))
      → Plays c whole t V g behind (atom (push c m)) past f (map acting acts)
  push_refused did full =
      subst (λ x. Plays c whole t V x behind (atom (push c m)) past f (map acting acts)) (sym did.2)
      (subst (λ l. Plays c whole t V f behind (atom (push c m)) past f (map acting l)) (sym did.0)
      (moves_by c whole t V f behind (push c m) (λ r. ended r) past f f [] (λ s. Err LocalsFull) (λ s. as_seen t s)
      (λ now s goes st. (full now s st, seen_stands c t now f s st))
      (λ now s goes st. has_ended (Err LocalsFull) (so now (Err LocalsFull) goes
      (subst (λ z. AnsweredBy nothing z now (Err LocalsFull)) (sym did.1) refl)))))

  pub frame_pushed : FreeHaveSerials last f
      → calls.◌>>◌ frame_left (calls.◌>>◌ (references.room_for c last t m) new_frame) f acts answer g
      → Plays c whole t V g behind (atom (push c m)) past f (map acting acts)
  frame_pushed places did =
      go (behind_test full LocalsFull (calls.◌>>◌ (references.room_for c last t m) new_frame) f g acts answer did)
    where
      full : Bool
      full = nat_le FRAMES (length f.frames)

      lacks : Bool
      lacks = nat_lt (free_places last f) m

      is_full : (now : History) (s : Shared) → SharedStands c t now f s
          → nat_le FRAMES (length (slice_index_or s.frames t [])) ≡ full
      is_full now s st = ap (nat_le FRAMES) (frames_long st.frames)

      is_pushed : (now : History) (s : Shared) → SharedStands c t now f s
          → ◌≡◌ {A = Result (Unit {0}) Fault × World} (push c m (as_seen t s))
          (pushed_by full lacks (as_seen t s))
      is_pushed now s st = pushing c m (as_seen t s) full lacks (is_full now s st)
          (room_lacks c last t now f s true m places st)

      second : full ≡ false
          → ((lacks ≡ true) × (acts ≡ []) × (answer ≡ Err LocalsFull) × (g ≡ f)) ⊎
          ((lacks ≡ false) × new_frame f acts answer g)
          → Plays c whole t V g behind (atom (push c m)) past f (map acting acts)
      second not_full (inl d) = push_refused (d.1, d.2, d.3) (λ now s st. is_pushed now s st
          ∙ ap (λ b. pushed_by b lacks (as_seen t s)) not_full
          ∙ ap (λ b. pushed_by false b (as_seen t s)) d.0)
      second not_full (inr d) =
          subst (λ x. Plays c whole t V x behind (atom (push c m)) past f (map acting acts)) (sym d.1.2)
          (subst (λ l. Plays c whole t V (pushed f) behind (atom (push c m)) past f (map acting l)) (sym d.1.0)
          (moves_by c whole t V (pushed f) behind (push c m) (λ r. ended r) past f (pushed f) [] (λ s. Ok tt)
          (λ s. record (as_seen t s) { frames = slice_index_or s.frames t [] ++ [] ∷ [] })
          (λ now s goes st. (
            is_pushed now s st
                ∙ ap (λ b. pushed_by b lacks (as_seen t s)) not_full
                ∙ ap (λ b. pushed_by false b (as_seen t s)) d.0,
            framed_stands c t now f s true (slice_index_or s.frames t [] ++ [] ∷ []) (f.frames ++ [] ∷ []) small st
                (frames_pushed st.frames) (λ p. ap (object_where (λ r. r.handle.index == p))
                (sym (joined_push f.frames)))
                (pushed_sound f st.sound (few FRAMES (length f.frames) not_full)),
          ))
          (λ now s goes st. has_ended (Ok tt) (so now (Ok tt) goes
          (subst (λ z. AnsweredBy nothing z now (Ok tt)) (sym d.1.1) tt)))))

      go : ((full ≡ true) × (acts ≡ []) × (answer ≡ Err LocalsFull) × (g ≡ f))
          ⊎ ((full ≡ false) × calls.◌>>◌ (references.room_for c last t m) new_frame f acts answer g)
          → Plays c whole t V g behind (atom (push c m)) past f (map acting acts)
      go (inl d) = push_refused (d.1, d.2, d.3) (λ now s st. is_pushed now s st
          ∙ ap (λ b. pushed_by b lacks (as_seen t s)) d.0)
      go (inr d) = second d.0 (behind_test lacks LocalsFull new_frame f g acts answer d.1)

module _ (k : Scene) where
  pub asks_room_plays : (n m : ℕ) → EndingPlays k {n = n} (asks_room m)
  asks_room_plays n m words numbers known known' kind o o' past f g acts answer behind at are knowns hand few refusal
      did = room_plays k m past f g acts answer behind at few did

  pub pushes_play : (n m : ℕ) → EndingPlays k {n = n} (pushes m)
  pushes_play n m words numbers known known' kind o o' past f g acts answer behind at are knowns hand places may did =
      frame_pushed k.config k.last k.whole k.thread k.small m (Then k nothing answer) past f g acts answer behind
      (λ now r goes so. let there = at_now k past now acts at goes in (there.stays, there.begins, so)) places did

  -- ALL GO
  pub frees_play : (n : ℕ) → EndingPlays k {n = n} frees
  frees_play n words numbers known known' kind o o' past f g acts answer behind at are knowns hand apt refusal did =
      subst (λ x. Plays k.config k.whole k.thread (Then k nothing answer) x behind freed_in_steps past f
      (map acting acts)) (sym did.2)
      (subst (λ l. Plays k.config k.whole k.thread (Then k nothing answer) (freed f) behind freed_in_steps past f
      (map acting l)) (sym did.0)
      (looks_in k.config k.last k.whole k.thread k.legal (at_within k past acts at)
      (λ w. Ok (flat_map (λ f. f) w.frames))
      (unless_refused (λ ns. doing.◌>>◌ (given_up_in_steps ns) (atom (change (λ w. record w { frames = [] ∷ [] })))))
      (λ now s goes st.
      let there : IsAt k now (drop_all (all_refs f)) =
      at_now k past now (drop_all (all_refs f)) (subst (IsAt k past) did.0 at) goes in
      subst (λ l. Plays k.config k.whole k.thread (Then k nothing answer) (freed f) behind
      (doing.◌>>◌ (given_up_in_steps (flat_map (λ f. f) (slice_index_or s.frames k.thread [])))
      (atom (change (λ w. record w { frames = [] ∷ [] })))) now f l)
      (append-nil (map acting (drop_all (all_refs f))))
      (given_up k (Then k nothing answer) (freed f) behind
      (unless_refused (λ u. atom (change (λ w. record w { frames = [] ∷ [] })))) [] [] now
      (all_named st.frames) now f (prefix_self now)
      (subst (IsAt k now) (sym (append-nil (drop_all (all_refs f)))) there) st.sound.apart
      (found_among [] (all_refs f)) (λ later comes. ends later comes st.sound)))))
    where
      left : Frames
      left = without_all f (all_refs f)

      none : AreSound f → joined left.frames ≡ []
      none sound = joined_left f (all_refs f) ∙ none_left (all_refs f) sound.apart

      freed_is : freed left ≡ freed f
      freed_is = ap (λ (given : List ℕ). freed (record f { given = given })) (same_given f (all_refs f))

      ends : {from : History} (later : History) → ComesTo k from [] later → AreSound f
          → Plays k.config k.whole k.thread (Then k nothing answer) (freed f) behind
          (atom (change (λ w. record w { frames = [] ∷ [] }))) later left []
      ends later comes sound =
          subst (λ e. Plays k.config k.whole k.thread (Then k nothing answer) e behind
          (atom (change (λ w. record w { frames = [] ∷ [] }))) later left []) freed_is
          (moves_by k.config k.whole k.thread (Then k nothing answer) (freed left) behind
          (change (λ w. record w { frames = [] ∷ [] })) (λ r. ended r) later left (freed left) [] (λ s. Ok tt)
          (λ s. record (as_seen k.thread s) { frames = [] ∷ [] })
          (λ now s goes st. (
            refl,
            framed_stands k.config k.thread now left s true ([] ∷ []) ([] ∷ []) k.small st
                (one_frame no_local no_frame)
                (λ p. ap (object_where (λ r. r.handle.index == p)) (none sound)) (freed_sound left),
          ))
          (λ now s goes st. has_ended (Ok tt) (let there = at_now k later now [] comes.at goes in
          (there.stays, there.begins, subst (λ z. AnsweredBy nothing z now (Ok tt)) (sym did.1) tt))))
