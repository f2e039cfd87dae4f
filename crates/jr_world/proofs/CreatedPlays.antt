-- The creation of a global or weak reference is played, and its refusal where the row was full.
use Rattle.std.proofs.Common.{◌≡◌, ◌⊎◌, inl, inr, ◌+◌, ℕ, suc, Bool, true, false, cond, nat_le, ◌<◌, Option, Some, None}
use Rattle.std.proofs.Common.{Result, Ok, Err, List, [], ◌∷◌, ◌++◌, map, length, slice_get, slice_index_or}
use Rattle.std.proofs.Common.{refl, sym, ap, subst, ◌∙◌, arith, append-nil}
use Rattle.std.specs.List.{AllByRecursion}
use Rattle.std.proofs.lemmas.Bool.{le-leb, lt-ltb}
use Rattle.std.proofs.lemmas.List.{drop_at, length_push, length-map, length-set, map-append, set-get_or}
use mathlib.Core.List.{IsPrefix}
use Rattle.jr_word.specs.declared.config.Config.{Config}
use Rattle.jr_word.specs.declared.fault.Fault.{Fault}
use Rattle.jr_word.specs.declared.fault.Fault.TheVariants.{RowFull}
use Rattle.jr_word.specs.declared.handle.Handle.{Handle as NameWord}
use Rattle.jr_word.specs.declared.handle.RefKind.{RefKind}
use Rattle.jr_model.specs.declared.event.Act.{Act}
use Rattle.jr_model.specs.declared.event.Act.TheVariants.{Create, Gate, Probe}
use Rattle.jr_model.specs.declared.event.GateAct.TheVariants.{Leave}
use Rattle.jr_model.specs.declared.frames.LocalRef.{LocalRef}
use Rattle.jr_model.specs.State.{Handle, State}
use Rattle.jr_model.specs.Steps.{Needs}
use Rattle.jr_model.specs.Frames.{Frames}
use Rattle.jr_model.specs.History.{History, IsLegal, by, mine, state}
use Rattle.jr_model.specs.Checks.{Parts, is_local}
use Rattle.jr_model.specs.Parts.{created}
use Rattle.jr_model.specs.Programs.{Which, creates, perhaps, handle}
use Rattle.jr_model.proofs.Histories.{legal_append, state_push}
use Rattle.jr_word.specs.declared.handle.RefKind.TheVariants.{Global, Weak}
use Rattle.jr_world.specs.World.{Ref, how_many, is_ref_of, new_ref}
use Rattle.jr_world.specs.Births.{Births, IsAs, birth_of, births, ref_to}
use Rattle.jr_world.specs.Doing.{Shared, as_left, as_seen, created_in_steps, created_or_full, done, in_row, made_since}
use Rattle.jr_world.specs.Doing.{over_world, owner_if, unless_refused, whatever}
use Rattle.jr_world.specs.Doing.Doing.{ended}
use Rattle.jr_world.specs.Plays.{AreFrames, AreNamed, OthersGoOn, ActsNext, LeavesOthers, Plays, InStands}
use Rattle.jr_world.specs.Plays.{owner_of_handle}
use Rattle.jr_world.specs.Plays.AreFrames.{no_frame, one_frame}
use Rattle.jr_world.specs.Plays.AreNamed.{no_local, one_local}
use Rattle.jr_world.specs.Plays.Plays.{has_ended}
use Rattle.jr_world.specs.Playing.{BothAre, ObjectIs, WordIs}
use Rattle.jr_world.proofs.Births.{worlds_are_so}
use Rattle.jr_world.proofs.Births.BornFound.{not_local}
use Rattle.jr_world.proofs.Births.BornLists.{births_push, get_new, get_old}
use Rattle.jr_world.proofs.Births.BornObjects.{born_at}
use Rattle.jr_world.proofs.InStay.{EndingPlays, Grounded, IsAt, MayRefuse, Scene, StaysOn, Then, at_births, at_legal}
use Rattle.jr_world.proofs.InStay.{at_next, at_now, at_within, object_now}
use Rattle.jr_world.proofs.LookStands.{agreed_behind, is_look, looks_play}
use Rattle.jr_world.proofs.Fullness.RowRoom.{created_by_owners, creations_have_room, row_noted}
use Rattle.jr_world.proofs.Fullness.RowBirths.{row_is_born}
use Rattle.jr_world.proofs.Standing.{both_long, next_needs, stays_by_others, stays_here}
use Rattle.jr_world.proofs.WordsPosted.{posted_later}
use Rattle.jr_world.proofs.OpenParts.{does_in, waits_in}
use Rattle.one_order.specs.Orders.{Item}
use Rattle.one_order.specs.Orders.Item.{does as acting}

-- WHAT A CREATION DID: probes, and then it created a handle of the kind, or found the row full
abbrev probed : List (ℕ × Bool) → List Act
probed looks = map (λ l. Probe l.0 l.1) looks

probes_look : (looks : List (ℕ × Bool)) → AllByRecursion (λ a. is_look a ≡ true) (probed looks)
probes_look [] = tt
probes_look (l ∷ looks) = (refl, probes_look looks)

-- a handle was created
record HasCreated (kind : RefKind) (o : ℕ) (acts : List Act) (answer : Result (Option Handle) Fault) : Type 0 where
  looks : List (ℕ × Bool)
  handle : Handle
  of_kind : handle.kind ≡ kind
  acts_are : acts ≡ probed looks ++ Create handle o ∷ []
  answered : answer ≡ Ok (Some handle)

-- no index was free
record HasFoundNone (acts : List Act) (answer : Result (Option Handle) Fault) : Type 0 where
  looks : List (ℕ × Bool)
  acts_are : acts ≡ probed looks ++ []
  answered : answer ≡ Err RowFull

created_how : (slots : ℕ) (kind : RefKind) (o : ℕ) (f g : Frames) (acts : List Act)
    (answer : Result (Option Handle) Fault) → created slots kind (Some o) f acts answer g
    → (g ≡ f) × (HasCreated kind o acts answer ⊎ HasFoundNone acts answer)
created_how slots kind o f g acts answer
    (inl (h, mid, front, rest, all, (few, inl (x, mid', front', rest', all', looked, inl made)), last)) = (
      last.2 ∙ made.4 ∙ looked.3,
      inl (record {
        looks = looked.0;
        handle = made.0;
        of_kind = made.1;
        acts_are = all ∙ ap (λ l. front ++ l) last.0 ∙ append-nil front ∙ all' ∙ ap (λ l. l ++ rest') looked.1
            ∙ ap (λ l. probed looked.0 ++ l) made.2;
        answered = last.1 ∙ ap (λ z. Ok (Some z)) (same h made.0 made.3);
      }),
    )
  where
    same : (x y : Handle) → ◌≡◌ {A = Result Handle Fault} (Ok x) (Ok y) → x ≡ y
    same x y e = cc
created_how slots kind o f g acts answer
    (inl (h, mid, front, rest, all, (few, inl (x, mid', front', rest', all', looked, inr refused)), last)) =
    absurd (let bad = refused.1 in cc)
created_how slots kind o f g acts answer (inl (h, mid, front, rest, all, (few, inr (e, is, looked)), last)) =
    absurd (let bad = is in cc)
created_how slots kind o f g acts answer
    (inr (e, is, (few, inl (x, mid', front', rest', all', looked, inl made)))) = absurd (let bad = made.3 in cc)
created_how slots kind o f g acts answer
    (inr (e, is, (few, inl (x, mid', front', rest', all', looked, inr refused)))) = (
      refused.2 ∙ looked.3,
      inr (record {
        looks = looked.0;
        acts_are = all' ∙ ap (λ l. l ++ rest') looked.1 ∙ ap (λ l. probed looked.0 ++ l) refused.0;
        answered = is ∙ same e RowFull refused.1;
      }),
    )
  where
    same : (e d : Fault) → ◌≡◌ {A = Result Handle Fault} (Err e) (Err d)
        → ◌≡◌ {A = Result (Option Handle) Fault} (Err e) (Err d)
    same e d is = cc
created_how slots kind o f g acts answer (inr (e, is, (few, inr (fault, same, looked)))) =
    absurd (let bad = looked.2 in cc)

-- ONE MORE REFERENCE leaves those of a thread where they are
named_with : (t : ℕ) (refs more : List (Handle × Option Ref)) {ns : List ℕ} {rs : List LocalRef} → AreNamed t refs ns rs
    → AreNamed t (refs ++ more) ns rs
named_with t refs more no_local = no_local
named_with t refs more (one_local i r q at owned rest) =
    one_local i r q (get_old refs more i (r.handle, q) at) owned (named_with t refs more rest)

frames_with : (t : ℕ) (refs more : List (Handle × Option Ref)) {ns : List (List ℕ)} {fs : List (List LocalRef)}
    → AreFrames t refs ns fs → AreFrames t (refs ++ more) ns fs
frames_with t refs more no_frame = no_frame
frames_with t refs more (one_frame named rest) =
    one_frame (named_with t refs more named) (frames_with t refs more rest)

-- THE CREATION
module _ (c : Config) (last t : ℕ) (now : History) (f : Frames) (h : Handle) (o j : ℕ)
    (needs : Needs c last (state now) (by t (Create h o))) (as_born : IsAs (births now) (state now))
    (at : ObjectIs now o j) where
  abbrev later : History
  later = now ++ by t (Create h o) ∷ []

  -- its object was born there
  born_there : birth_of (births now).objects o ≡ j
  born_there =
      let found = born_at (births now).objects j o at.0 at.1 in
      as_born.one_object (birth_of (births now).objects o) j o found.0 at.0 found.1 at.1

  lies_in_row : is_local h ≡ false
  lies_in_row = not_local h needs.1.2.0

  abbrev the_ref : Option Ref
  the_ref = ref_to h.kind j

  births_then : births later ≡ record (births now) { refs = (births now).refs ++ (h, the_ref) ∷ [] }
  births_then = births_push now (by t (Create h o))
      ∙ ap (λ n. record (births now) { refs = (births now).refs ++ (h, ref_to h.kind n) ∷ [] }) born_there

  -- what it leaves
  abbrev left : Shared → Shared
  left s = as_left t s (record (as_seen t s) { refs = s.refs ++ the_ref ∷ [] })

  owners_then : (s : Shared) → InStands c t now f s
      → (left s).owners ≡ map (λ e. owner_of_handle e.0) ((births now).refs ++ (h, the_ref) ∷ [])
  owners_then s st =
      ap (λ l. s.owners ++ map (owner_if t) l)
      (drop_at s.refs (the_ref ∷ []) (length s.owners) (both_long c t now f s st))
      ∙ ap (λ d. s.owners ++ cond d (Some t) None ∷ []) lies_in_row
      ∙ ap (λ d. s.owners ++ cond d (Some h.owner) None ∷ []) (sym lies_in_row)
      ∙ ap (λ l. l ++ owner_of_handle h ∷ []) st.owners
      ∙ sym (map-append (λ e. owner_of_handle e.0) (births now).refs ((h, the_ref) ∷ []))

  created_stands : (s : Shared) → InStands c t now f s → InStands c t later f (left s)
  created_stands s st = record {
    objects = subst (λ (b : Births). s.objects ≡ map (λ e. e.1) b.objects) (sym births_then) st.objects;
    refs = subst (λ (b : Births). (left s).refs ≡ map (λ e. e.1) b.refs) (sym births_then)
        (ap (λ l. l ++ the_ref ∷ []) st.refs ∙ sym (map-append (λ e. e.1) (births now).refs ((h, the_ref) ∷ [])));
    owners = subst (λ (b : Births). (left s).owners ≡ map (λ e. owner_of_handle e.0) b.refs) (sym births_then)
        (owners_then s st);
    used = subst (λ (b : Births). s.used ≡ b.used) (sym births_then) st.used;
    many = st.many;
    roles = λ u. st.roles u ∙ sym (ap (λ (z : State). z.role u) (state_push now (by t (Create h o))));
    lists = length-set s.frames t (slice_index_or s.frames t []) ∙ st.lists;
    frames = subst (λ (b : Births). AreFrames t b.refs (slice_index_or (left s).frames t []) f.frames)
        (sym births_then)
        (subst (λ l. AreFrames t ((births now).refs ++ (h, the_ref) ∷ []) (slice_index_or l t []) f.frames)
        (sym (set-get_or s.frames t [])) (frames_with t (births now).refs ((h, the_ref) ∷ []) st.frames));
    posted = posted_later now (by t (Create h o) ∷ []) s.board st.posted;
    places = st.places;
    agreed = agreed_behind t now f (Create h o) refl (λ p. refl) st.agreed;
    sound = st.sound;
  }

  created_keeps : (s : Shared) → LeavesOthers t s (left s)
  created_keeps s = record {
    frames = λ u ne. ap (λ l. slice_index_or l u []) (set-get_or s.frames t []);
    board = refl;
  }

  -- and its word
  created_word : (s : Shared) → InStands c t now f s → WordIs later (Parts h) (length (s.refs ++ the_ref ∷ []))
  created_word s st = subst (WordIs later (Parts h)) (sym long) (
    the_ref,
    subst (λ (b : Births). slice_get b.refs (length (births now).refs) ≡ Some (h, the_ref))
        (sym births_then) (get_new (births now).refs (h, the_ref)),
  )
    where
      long : length (s.refs ++ the_ref ∷ []) ≡ suc (length (births now).refs)
      long =
          let more = length_push s.refs the_ref in
          let same = ap length st.refs ∙ length-map (births now).refs (λ e. e.1) in
          omega (arith, more, same)

module _ (k : Scene) where
  abbrev Played : (answer : Result (Option Handle) Fault) → Frames → List (Item Act) → RefKind → Option ℕ → History
      → Frames → List Act → Type 0
  Played answer g behind kind x past f acts = Plays k.config k.whole k.thread (Then k (perhaps handle) answer) g behind
      (created_in_steps k.config k.noted kind x) past f (map acting acts)

  -- an object at hand stays where it was born
  object_stays_on : (o j : ℕ) (from to : History) → StaysOn k from to → IsPrefix to k.whole → ObjectIs from o j
      → ObjectIs to o j
  object_stays_on o j from to stays begins so =
      let y = object_now k from to stays begins o j so.0 so.1 in (y.0, y.1)

  object_behind : (o j : ℕ) (past now : History) (acts : List Act) → IsAt k past acts
      → OthersGoOn k.config k.whole k.thread past now → ObjectIs past o j → ObjectIs now o j
  object_behind o j past now acts at goes so = object_stays_on o j past now
      (stays_by_others k.config k.last k.whole k.thread k.legal past past now
      (stays_here k.config k.last k.whole k.thread k.legal past (at_within k past acts at)) goes) goes.begins so

  -- a reference is created
  creation_plays : (h : Handle) (o j : ℕ) (past : History) (f : Frames) (behind : List (Item Act))
      → IsAt k past (Create h o ∷ []) → ObjectIs past o j
      → Played (Ok (Some h)) f behind h.kind (Some j) past f (Create h o ∷ [])
  creation_plays h o j past f behind at so =
      does_in k.config k.last k.whole k.thread k.legal (at_within k past (Create h o ∷ []) at) true (Create h o) f refl
      (λ now s goes st.
      subst (λ (z : Result NameWord Fault × Shared).
      InStands k.config k.thread (now ++ by k.thread (Create h o) ∷ []) f z.1 × LeavesOthers k.thread s z.1)
      (sym (made_then now s goes st)) (
        created_stands k.config k.last k.thread now f h o j (needs now goes) (as_born now goes) (there now goes) s st,
        created_keeps k.config k.last k.thread now f h o j (needs now goes) (as_born now goes) (there now goes) s,
      ))
      (λ now s goes st.
      let behind_it = at_next k past now (Create h o) [] at goes refl in
      subst (λ (z : Result NameWord Fault × Shared).
      Plays k.config k.whole k.thread (Then k (perhaps handle) (Ok (Some h))) f behind
      (whatever (ended z.0) (unless_refused (λ g. done (Some g)))) (now ++ by k.thread (Create h o) ∷ []) f [])
      (sym (made_then now s goes st))
      (has_ended (Ok (Some (record { 0 = length (s.refs ++ ref_to h.kind j ∷ []) }))) (
        behind_it.stays,
        behind_it.begins,
        created_word k.config k.last k.thread now f h o j (needs now goes) (as_born now goes) (there now goes) s st,
      )))
    where
      needs : (now : History) → ActsNext k.config k.whole k.thread past now (Create h o)
          → Needs k.config k.last (state now) (by k.thread (Create h o))
      needs now goes = next_needs k.config k.last k.whole k.thread k.legal past now (Create h o) goes

      as_born : (now : History) → ActsNext k.config k.whole k.thread past now (Create h o)
          → IsAs (births now) (state now)
      as_born now goes = at_births k now (Create h o ∷ []) (at_now k past now (Create h o ∷ []) at goes.goes)

      there : (now : History) → ActsNext k.config k.whole k.thread past now (Create h o) → ObjectIs now o j
      there now goes = object_behind o j past now (Create h o ∷ []) at goes.goes so

      -- fewer stand than there are slots
      fewer : (now : History) (s : Shared) → ActsNext k.config k.whole k.thread past now (Create h o)
          → InStands k.config k.thread now f s → in_row s < k.config.slots
      fewer now s goes st =
          let legal = at_legal k now (Create h o ∷ []) (at_now k past now (Create h o ∷ []) at goes.goes) in
          let born = as_born now goes in
          let few = creations_have_room k.config k.last k.thread o h now legal born (needs now goes) in
          let same = row_is_born k.config k.last now legal born in
          let told = row_noted k.config k.last now legal born in
          let seen = ap (λ l. how_many (is_ref_of Global) l + how_many (is_ref_of Weak) l) st.refs in
          omega (arith, few, same, told, seen)

      made_then : (now : History) (s : Shared) → ActsNext k.config k.whole k.thread past now (Create h o)
          → InStands k.config k.thread now f s
          → created_or_full k.config k.noted h.kind j k.thread true s
          ≡ over_world (new_ref h.kind j) k.thread true s
      made_then now s goes st = ap (λ b. cond b (over_world (new_ref h.kind j) k.thread true s)
          (cond (nat_le k.config.slots (k.noted.standing + made_since k.noted.made s.owners)) (Err RowFull, s)
          (over_world (new_ref h.kind j) k.thread true s)))
          (lt-ltb (in_row s) k.config.slots (fewer now s goes st))

  -- where a refusal has its grounds, the row was full by what the call noted and what was made since
  row_full : (now : History) (f : Frames) (s : Shared) → IsAt k now []
      → IsPrefix (now ++ by k.thread (Gate Leave) ∷ []) k.whole → InStands k.config k.thread now f s
      → Grounded k RowFull
      → nat_le k.config.slots (k.noted.standing + made_since k.noted.made s.owners) ≡ true
  row_full now f s at next st grounds =
      let since = at.stays.since in
      let legal = subst (IsLegal k.config k.last) at.stays.is (at_legal k now [] at) in
      let first = ((legal_append k.config k.last k.entry since).0 legal).0 in
      let enough = grounds since (subst (λ l. IsPrefix (l ++ by k.thread (Gate Leave) ∷ []) k.whole) at.stays.is next)
      (ap (λ l. mine l k.thread) (sym at.stays.is) ∙ sym (append-nil (mine now k.thread)) ∙ at.own) in
      let stood = row_noted k.config k.last k.entry first (worlds_are_so k.config k.last k.entry first) in
      let noted = k.noted_so.stand in
      let made = created_by_owners k.config k.last k.entry since legal
      ∙ ap (λ l. made_since (length (births k.entry).refs) (map (λ e. owner_of_handle e.0) (births l).refs))
      (sym at.stays.is)
      ∙ ap (λ n. made_since n (map (λ e. owner_of_handle e.0) (births now).refs)) (sym k.noted_so.made)
      ∙ ap (made_since k.noted.made) (sym st.owners) in
      le-leb k.config.slots (k.noted.standing + made_since k.noted.made s.owners)
      (omega (arith, enough, stood, noted, made))

  -- none is created
  refusal_plays : (kind : RefKind) (j : ℕ) (past : History) (f : Frames) (behind : List (Item Act)) → IsAt k past []
      → MayRefuse k {A = Option Handle} behind (Err RowFull) → Played (Err RowFull) f behind kind (Some j) past f []
  refusal_plays kind j past f behind at may =
      waits_in k.config k.last k.whole k.thread k.legal (at_within k past [] at) false (Gate Leave) f (may refl).2
      (λ now s goes st.
      subst (λ (z : Result NameWord Fault × Shared). InStands k.config k.thread now f z.1
      × LeavesOthers k.thread s z.1)
      (sym (full now s goes st)) (st, record { frames = λ u ne. refl; board = refl }))
      (λ now s goes st.
      let here = at_now k past now [] at goes.goes in
      subst (λ (z : Result NameWord Fault × Shared).
      Plays k.config k.whole k.thread (Then k (perhaps handle) (Err RowFull)) f behind
      (whatever (ended z.0) (unless_refused (λ h. done (Some h)))) now f [])
      (sym (full now s goes st)) (has_ended (Err RowFull) (here.stays, here.begins, refl)))
    where
      full : (now : History) (s : Shared) → ActsNext k.config k.whole k.thread past now (Gate Leave)
          → InStands k.config k.thread now f s
          → created_or_full k.config k.noted kind j k.thread false s ≡ (Err RowFull, s)
      full now s goes st = ap (λ b. cond b (Err RowFull, s) (over_world (new_ref kind j) k.thread false s))
          (row_full now f s (at_now k past now [] at goes.goes) goes.next st (may refl).0)

-- A CREATION IS PLAYED
pub creates_plays : (k : Scene) (n : ℕ) (kind : RefKind) (p : Which) → EndingPlays k (creates {n = n} kind p)
creates_plays k n kind p words numbers known known' object_kind o o' past f g acts answer behind at named are hand apt
    may ran = go (known p) (known' p) (are p) ran
  where
    told : (looks : List (ℕ × Bool)) (q j : ℕ) (rest : List Act) → acts ≡ probed looks ++ rest → ObjectIs past q j
        → ((now : History) → IsAt k now rest → ObjectIs now q j → Played k answer g behind kind (Some j) now f rest)
        → Played k answer g behind kind (Some j) past f acts
    told looks q j rest is so next = subst (Played k answer g behind kind (Some j) past f) (sym is)
        (looks_play k (Then k (perhaps handle) answer) g behind (created_in_steps k.config k.noted kind (Some j)) f
        (λ l. ObjectIs l q j) (object_stays_on k q j) (probed looks) rest past (probes_look looks)
        (subst (IsAt k past) is at) so next)

    made : (q j : ℕ) → ObjectIs past q j → (g ≡ f) × (HasCreated kind q acts answer ⊎ HasFoundNone acts answer)
        → Played k answer g behind kind (Some j) past f acts
    made q j so (same, inl it) = told it.looks q j (Create it.handle q ∷ []) it.acts_are so (λ now here there.
        subst (λ (h : Frames). Played k answer h behind kind (Some j) now f (Create it.handle q ∷ [])) (sym same)
        (subst (λ r. Played k r f behind kind (Some j) now f (Create it.handle q ∷ [])) (sym it.answered)
        (subst (λ r. Played k (Ok (Some it.handle)) f behind r (Some j) now f (Create it.handle q ∷ [])) it.of_kind
        (creation_plays k it.handle q j now f behind here there))))
    made q j so (same, inr it) = told it.looks q j [] it.acts_are so (λ now here there.
        subst (λ (h : Frames). Played k answer h behind kind (Some j) now f []) (sym same)
        (subst (λ r. Played k r f behind kind (Some j) now f []) (sym it.answered)
        (refusal_plays k kind j now f behind here (subst (MayRefuse k behind) it.answered may))))

    go : (x y : Option ℕ) → BothAre (ObjectIs past) x y → created k.config.slots kind x f acts answer g
        → Played k answer g behind kind y past f acts
    go None None so (none, is, same) = subst (Played k answer g behind kind None past f) (sym none)
        (subst (λ (h : Frames). Played k answer h behind kind None past f []) (sym same)
        (subst (λ r. Played k r f behind kind None past f []) (sym is)
        (has_ended (Ok None) (at.stays, at.begins, tt))))
    go (Some q) (Some j) so it = made q j so (created_how k.config.slots kind q f g acts answer it)
    go None (Some j) so it = absurd so
    go (Some q) None so it = absurd so
