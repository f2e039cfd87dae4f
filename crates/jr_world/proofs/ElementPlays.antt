-- Elements are read and written one by one, by the steps of the world.
use Rattle.std.proofs.Common.{◌≡◌, ◌≢◌, ◌⊎◌, inl, inr, ⊎_elim, ◌≤◌, ◌+◌, ◌==◌, ℕ, zero, suc, pred, Bool, true, false}
use Rattle.std.proofs.Common.{cond, Option, Some, None, IsSome, Result, Ok, Err, List, [], ◌∷◌, ◌++◌, map, length}
use Rattle.std.proofs.Common.{slice_get, slice_index, slice_index_or, slice_set, refl, sym, ap, subst, ◌∙◌, arith}
use Rattle.std.proofs.Common.{append-nil}
use Rattle.std.specs.List.{AllByRecursion}
use Rattle.std.proofs.lemmas.List.{set-get_or, length-set}
use mathlib.Core.List.{IsPrefix}
use Rattle.jr_word.specs.declared.config.Config.{Config}
use Rattle.jr_word.specs.declared.fault.Fault.{Fault}
use Rattle.jr_word.specs.declared.fault.Fault.TheVariants.{Memory}
use Rattle.jr_word.specs.declared.kind.Kind.{Kind}
use Rattle.jr_model.specs.declared.event.Act.{Act}
use Rattle.jr_model.specs.declared.event.Act.TheVariants.{Drop, Gate, New, Read, Write}
use Rattle.jr_model.specs.declared.event.GateAct.TheVariants.{Leave}
use Rattle.jr_model.specs.State.{Contents, State, IsPresent, NobodyCollects}
use Rattle.jr_model.specs.Steps.{ActNeeds, act_after}
use Rattle.jr_model.specs.Frames.{Frames, stored_at}
use Rattle.jr_model.specs.History.{History, IsLegal, by, mine, state}
use Rattle.jr_model.specs.Calls.{some_act}
use Rattle.jr_model.specs.Checks.{element_word, is_objects, object_of_word}
use Rattle.jr_model.specs.Parts.{read_acts, write_acts}
use Rattle.jr_model.specs.Programs.{AnswerKind, AnswerOf, Which, number, several, nothing}
use Rattle.jr_model.specs.Programs.{reads, reads_from, copies, writes, writes_to, writes_from}
use Rattle.jr_model.proofs.Agreement.{stored_append}
use Rattle.jr_model.proofs.Gates.{apart_state}
use Rattle.jr_model.proofs.Histories.{legal_induction, mine_push, state_push}
use Rattle.jr_model.proofs.InRoom.{present_is_in_room}
use Rattle.jr_model.proofs.Presence.{elements_are_present}
use Rattle.jr_model.proofs.Reaching.{is_objects_is}
use Rattle.jr_model.proofs.Updates.{eq_self, eq_true}
use Rattle.jr_world.specs.World.{MeantOf, contents, contents_in, element_to, named_by, overwritten, rewrites}
use Rattle.jr_world.specs.Births.{AreContents, Births, NamesBirth, birth_here, birth_of, births}
use Rattle.jr_world.specs.Births.{born_by, born_word, no_births, rewritten, word_of_kind}
use Rattle.jr_world.specs.Doing.{Doing, Shared, as_left, as_seen, atom, copied_in_steps, element_read}
use Rattle.jr_world.specs.Doing as doing
use Rattle.jr_world.specs.Doing.Doing.{ended, steps}
use Rattle.jr_world.specs.Doing.{read_in_steps, unless_refused, whatever, written_in_steps, ◌>>=◌}
use Rattle.jr_world.specs.Plays.{AreFrames, OthersGoOn, ActsNext, LeavesOthers, Plays, InStands, owner_of_handle}
use Rattle.jr_world.specs.Plays.Plays.{has_ended, moves}
use Rattle.jr_world.specs.Playing.{BothAre, ObjectIs}
use Rattle.jr_world.proofs.Births.BornLists.{births_append, some_same}
use Rattle.jr_world.proofs.InStay.{EndingPlays, HandIs, InOneStay, IsAt, KnownAre, Scene, StaysOn, Then, at_births}
use Rattle.jr_world.proofs.InStay.{at_legal, at_next, at_now, at_within, object_now, word_now}
use Rattle.jr_world.proofs.ProgramPlays.{GoesOnWithElement}
use Rattle.jr_world.proofs.Standing.{front_legal, is_of_gate, next_needs, no_more_owners}
use Rattle.jr_world.proofs.Standing.{both_long, stays_by_act, stays_by_others, stays_here}
use Rattle.jr_world.proofs.Standing.{stays_between, stays_then, still_between}
use Rattle.jr_world.proofs.WordsPosted.{posted_later}
use Rattle.jr_world.proofs.OpenParts.{does_in}
use Rattle.one_order.specs.Orders.{Item}
use Rattle.one_order.specs.Orders.Item.{does as acting}

-- WHAT STANDS AT AN INDEX
index_map : {X Y : Type 0} (f : X → Y) (xs : List X) (i : ℕ) (x : X) (d : Y) → slice_get xs i ≡ Some x
    → slice_index_or (map f xs) i d ≡ f x
index_map f [] i x d e = absurd cc
index_map f (y ∷ xs) zero x d e = ap f (some_same y x e)
index_map f (y ∷ xs) (suc i) x d e = index_map f xs i x d e

index_get : (xs : List ℕ) (i v : ℕ) → slice_get xs i ≡ Some v → slice_index xs i ≡ v
index_get [] i v e = absurd cc
index_get (x ∷ xs) zero v e = some_same x v e
index_get (x ∷ xs) (suc i) v e = index_get xs i v e

-- of two lists of one length, one has an element where the other has one
get_also : {X Y : Type 0} (xs : List X) (ys : List Y) (i : ℕ) (x : X) → length ys ≡ length xs → slice_get xs i ≡ Some x
    → (y : Y) × (slice_get ys i ≡ Some y)
get_also [] ys i x long e = absurd cc
get_also (x ∷ xs) [] i z long e = absurd cc
get_also (x ∷ xs) (y ∷ ys) zero z long e = (y, refl)
get_also (x ∷ xs) (y ∷ ys) (suc i) z long e = get_also xs ys i z (omega arith) e

all_at : {X : Type 0} (P : X → Type 0) (xs : List X) (i : ℕ) (x : X) → AllByRecursion P xs → slice_get xs i ≡ Some x
    → P x
all_at P [] i x all e = absurd cc
all_at P (y ∷ xs) zero x all e = subst P (some_same y x e) all.0
all_at P (y ∷ xs) (suc i) x all e = all_at P xs i x all.1 e

some_of : {X : Type 0} (x : Option X) → IsSome x → (y : X) × (x ≡ Some y)
some_of None is = absurd cc
some_of (Some y) is = (y, refl)

-- EACH OBJECT THAT WAS BORN HAS A NUMBER OF THE ROOM, and none is 0
abbrev pub HaveNumbers : List (ℕ × Option Contents) → Type 0
HaveNumbers objects = AllByRecursion (λ e. 1 ≤ e.0) objects

numbers_map : (f : ℕ × Option Contents → Option Contents) (objects : List (ℕ × Option Contents)) → HaveNumbers objects
    → HaveNumbers (map (λ e. (e.0, f e)) objects)
numbers_map f [] have = tt
numbers_map f (x ∷ objects) have = (have.0, numbers_map f objects have.1)

numbers_more : (objects : List (ℕ × Option Contents)) (x : ℕ × Option Contents) → HaveNumbers objects → 1 ≤ x.0
    → HaveNumbers (objects ++ x ∷ [])
numbers_more [] x have least = (least, tt)
numbers_more (y ∷ objects) x have least = (have.0, numbers_more objects x have.1 least)

numbers_act : (c : Config) (last : ℕ) (s : State) (b : Births) (t : ℕ) (a : Act) → ActNeeds c last s t a
    → HaveNumbers b.objects → HaveNumbers (born_by b t a).objects
numbers_act c last s b t (New o k ws) needs have =
    numbers_more b.objects (o, _) have needs.1
numbers_act c last s b t (Write o i v) needs have =
    numbers_map (λ e. cond (e.0 == o) (rewritten b.objects i v e.1) e.1) b.objects have
numbers_act c last s b t (Drop o) needs have = numbers_map (λ e. cond (e.0 == o) None e.1) b.objects have
numbers_act c last s b t _ needs have = have

pub born_numbers : (c : Config) (last : ℕ) (es : History) → IsLegal c last es → HaveNumbers (births es).objects
born_numbers c last = legal_induction c last (λ es. HaveNumbers (births es).objects) tt
    (λ es e legal have needs. subst (λ b. HaveNumbers b.objects) (sym (births_append no_births es (e ∷ [])))
    (numbers_act c last (state es) (births es) e.thread e.act needs.1 have))

-- WHERE THE OBJECT THAT STANDS WAS BORN
pub birth_found : (xs : List (ℕ × Option Contents)) (j o : ℕ) (x : Contents) → slice_get xs j ≡ Some (o, Some x)
    → ((i : ℕ) (y : Contents) → slice_get xs i ≡ Some (o, Some y) → i ≡ j) → birth_of xs o ≡ j
birth_found [] j o x e alone = absurd cc
birth_found (z ∷ xs) zero o x e alone =
    let same : z ≡ (o, Some x) = some_same z (o, Some x) e in
    ap (λ w. birth_here w.1 (w.0 == o) (birth_of xs o)) same ∙ ap (λ b. birth_here (Some x) b (birth_of xs o))
    (eq_self o)
birth_found (z ∷ xs) (suc j) o x e alone =
    go z.1 refl (z.0 == o) refl ∙ ap suc (birth_found xs j o x e (λ i y is. ap pred (alone (suc i) y is)))
  where
    go : (there : Option Contents) → z.1 ≡ there → (same : Bool) → (z.0 == o) ≡ same
        → birth_here there same (birth_of xs o) ≡ suc (birth_of xs o)
    go None is same so = refl
    go (Some y) is false so = refl
    go (Some y) is true so = absurd (
        let both : ◌≡◌ {A = Option (ℕ × Option Contents)} (Some z) (Some (o, Some y)) =
        (λ j. Some (eq_true z.0 o so j, is j)) in
        let bad = alone 0 y both in cc)

-- AN ACT THAT CHANGES OBJECTS ALONE, and stores no reference: what it leaves stands
module _ (c : Config) (t : ℕ) (now : History) (f : Frames) (a : Act) where
  pub objects_stand : (objects : List (Option Contents)) (luck : Bool) (s : Shared) → InStands c t now f s
      → (born_by (births now) t a).refs ≡ (births now).refs → (born_by (births now) t a).used ≡ (births now).used
      → (act_after (state now) t a).role ≡ (state now).role → (act_after (state now) t a).locals ≡ (state now).locals
      → ((p : ℕ) → stored_at p (a ∷ []) ≡ 0) → objects ≡ map (λ e. e.1) (born_by (births now) t a).objects
      → InStands c t (now ++ by t a ∷ []) f (as_left t s (record (as_seen t s) { objects = objects }))
  objects_stand objects luck s st refs used role locals none is =
      let born : births (now ++ by t a ∷ []) ≡ born_by (births now) t a = births_append no_births now (by t a ∷ []) in
      let as_before : (births (now ++ by t a ∷ [])).refs ≡ (births now).refs =
      ap (λ (b : Births). b.refs) born ∙ refs in
      record {
        objects = is ∙ sym (ap (λ (b : Births). map (λ e. e.1) b.objects) born);
        refs = st.refs ∙ sym (ap (map (λ e. e.1)) as_before);
        owners = no_more_owners c t now f s s.refs (both_long c t now f s st) ∙ st.owners
            ∙ sym (ap (map (λ e. owner_of_handle e.0)) as_before);
        used = st.used ∙ sym (ap (λ (b : Births). b.used) born ∙ used);
        many = st.many;
        roles = λ u. st.roles u ∙ sym (ap (λ (m : State). m.role u) (state_push now (by t a)) ∙ ap (λ r. r u) role);
        lists = length-set s.frames t (slice_index_or s.frames t []) ∙ st.lists;
        frames = subst (λ r. AreFrames t r (slice_index_or (slice_set s.frames t (slice_index_or s.frames t [])) t [])
            f.frames) (sym as_before)
            (subst (λ l. AreFrames t (births now).refs (slice_index_or l t []) f.frames)
            (sym (set-get_or s.frames t [])) st.frames);
        posted = posted_later now (by t a ∷ []) s.board st.posted;
        places = st.places;
        agreed = record {
          locals = λ p. ap (λ (m : State). m.locals t p) (state_push now (by t a)) ∙ ap (λ l. l t p) locals
              ∙ st.agreed.locals p;
          given = λ p. st.agreed.given p ∙ sym (ap (stored_at p) (mine_push now t a)
              ∙ stored_append p (mine now t) (a ∷ [])
              ∙ (let zeroed = none p in omega arith));
        };
        sound = st.sound;
      }

  -- .. and nothing of other threads is changed
  pub objects_keep : (objects : List (Option Contents)) (luck : Bool) (s : Shared)
      → LeavesOthers t s (as_left t s (record (as_seen t s) { objects = objects }))
  objects_keep objects luck s = record {
    frames = λ u ne. ap (λ l. slice_index_or l u []) (set-get_or s.frames t []);
    board = refl;
  }

-- what the world has at the object's number
pub contents_seen : (c : Config) (t : ℕ) (now : History) (f : Frames) (luck : Bool) (s : Shared) (o j : ℕ)
    (y : Contents) → InStands c t now f s → slice_get (births now).objects j ≡ Some (o, Some y)
    → contents (as_seen t s) j ≡ y
contents_seen c t now f luck s o j y st e = ap (λ l. contents_in (slice_index_or l j None)) st.objects
    ∙ ap contents_in (index_map (λ e. e.1) (births now).objects j (o, Some y) None e)

-- WHAT IS KNOWN IN A STAY, at a later moment of it
module _ (k : Scene) where
  pub hand_later : (past later : History) (kind : Kind) (o j : ℕ) → StaysOn k past later → IsPrefix later k.whole
      → HandIs k past kind o j → HandIs k later kind o j
  hand_later past later kind o j stays begins (inl none) = inl none
  hand_later past later kind o j stays begins (inr h) =
      inr (let y = object_now k past later stays begins o j h.0 h.1 in (y.0, y.1, y.2 ∙ h.2))

  pub both_later : (past later : History) (x y : Option ℕ) → StaysOn k past later → IsPrefix later k.whole
      → BothAre (ObjectIs past) x y → BothAre (ObjectIs later) x y
  both_later past later None None stays begins both = tt
  both_later past later None (Some y) stays begins both = absurd both
  both_later past later (Some x) None stays begins both = absurd both
  both_later past later (Some x) (Some y) stays begins both =
      let z = object_now k past later stays begins x y both.0 both.1 in (z.0, z.1)

  pub known_later : (past later : History) (known known' : Which → Option ℕ) → StaysOn k past later
      → IsPrefix later k.whole → KnownAre k past known known' → KnownAre k later known known'
  known_later past later known known' stays begins are p = both_later past later (known p) (known' p) stays begins
      (are p)

  -- the stay goes on over others' events, and over the next act
  pub stays_now : (past now : History) (acts : List Act) → IsAt k past acts
      → OthersGoOn k.config k.whole k.thread past now
      → StaysOn k past now
  stays_now past now acts at goes = stays_by_others k.config k.last k.whole k.thread k.legal past past now
      (stays_here k.config k.last k.whole k.thread k.legal past (at_within k past acts at)) goes

  pub stays_next : (past now : History) (a : Act) (acts : List Act) → IsAt k past acts
      → ActsNext k.config k.whole k.thread past now a → is_of_gate a ≡ false
      → StaysOn k past (now ++ by k.thread a ∷ [])
  stays_next past now a acts at next no_gate = stays_by_act k.config k.last k.whole k.thread k.legal past past now a
      (stays_here k.config k.last k.whole k.thread k.legal past (at_within k past acts at)) next no_gate

  -- nobody collects at a moment of the call
  pub nobody_collects : (past : History) (acts : List Act) → IsAt k past acts → NobodyCollects (state past)
  nobody_collects past acts at u collects =
      (apart_state k.config k.last past (at_legal k past acts at)).apart u k.thread collects (at_within k past acts at)

  -- the object at hand was born where it stands for the world
  pub hand_born : (now : History) (kind : Kind) (o j : ℕ) → IsLegal k.config k.last now → IsPresent (state now) o
      → HandIs k now kind o j
      → (y : Contents) × (slice_get (births now).objects j ≡ Some (o, Some y)) × (y.kind ≡ kind)
  hand_born now kind o j legal present (inl none) =
      absurd (let least = (present_is_in_room k.config k.last now o legal present).0 in omega arith)
  hand_born now kind o j legal present (inr h) = h

  -- what an element names, where it is 0 or the object stands
  named_both : (now : History) (v w : ℕ) → IsLegal k.config k.last now → NamesBirth (births now) (state now) v w
      → (v ≡ 0) ⊎ IsPresent (state now) v → BothAre (ObjectIs now) (object_of_word v) (named_by w)
  named_both now zero zero legal names there = tt
  named_both now (suc v) zero legal names there = absurd (omega arith)
  named_both now zero (suc j) legal names there = absurd (
      let least = all_at (λ e. 1 ≤ e.0) (births now).objects j (0, names.0) (born_numbers k.config k.last now legal)
      names.1 in
      omega arith)
  named_both now (suc v) (suc j) legal names (inl none) = absurd (omega arith)
  named_both now (suc v) (suc j) legal names (inr present) =
      let y = some_of ((state now).objects (suc v)) present in names.2 y.0 y.1

-- READING: the word that the world has for an element that was read
abbrev pub IsReadAs : Kind → History → ℕ → ℕ → Type 0
IsReadAs kind now v w = (is_objects kind ≡ false → w ≡ v)
    × (is_objects kind ≡ true → BothAre (ObjectIs now) (object_of_word v) (named_by w))

module _ (k : Scene) where
  -- what is read of an object that stands
  word_read : (now : History) (acts : List Act) (kind : Kind) (i v : ℕ) (x y : Contents) → IsAt k now acts
      → y.kind ≡ kind → (o : ℕ) → (state now).objects o ≡ Some x → slice_get x.words i ≡ Some v
      → AreContents (births now) (state now) x y → IsReadAs kind now v (slice_index y.words i)
  word_read now acts kind i v x y at same o stands e are = (
    λ plain. index_get y.words i v (subst (λ ws. slice_get ws i ≡ Some v)
        (sym (are.words (ap is_objects (sym are.kind ∙ same) ∙ plain))) e),
    λ objects.
        let there = get_also x.words y.words i v are.long e in
        let of_objects : is_objects x.kind ≡ true = ap is_objects (sym are.kind ∙ same) ∙ objects in
        let closed = elements_are_present k.config k.last now (at_legal k now acts at)
        (nobody_collects k now acts at) in
        subst (λ w. BothAre (ObjectIs now) (object_of_word v) (named_by w)) (sym (index_get y.words i there.0 there.1))
        (named_both k now v there.0 (at_legal k now acts at) (are.named of_objects i v there.0 e there.1)
        (closed o x stands ((is_objects_is x.kind).0 of_objects) i v e)),
  )

  pub element_seen : (past now : History) (f : Frames) (luck : Bool) (s : Shared) (kind : Kind) (o j i v : ℕ)
      (acts : List Act) → IsAt k past (Read o i v ∷ acts) → ActsNext k.config k.whole k.thread past now (Read o i v)
      → InStands k.config k.thread now f s → HandIs k past kind o j
      → IsReadAs kind now v (slice_index (contents (as_seen k.thread s) j).words i)
  element_seen past now f luck s kind o j i v acts at next st hand =
      let so = at_now k past now (Read o i v ∷ acts) at next.goes in
      let needs = (next_needs k.config k.last k.whole k.thread k.legal past now (Read o i v) next).1 in
      let legal = at_legal k now (Read o i v ∷ acts) so in
      let born = hand_born k now kind o j legal (subst IsSome (sym needs.2) refl) (hand_later k past now kind o j
      (stays_now k past now (Read o i v ∷ acts) at next.goes) next.goes.begins hand) in
      let are = (at_births k now (Read o i v ∷ acts) so).contents j o born.0 born.1 in
      let same : are.0 ≡ needs.1 = some_same are.0 needs.1 (sym are.1 ∙ needs.2) in
      subst (λ (y : Contents). IsReadAs kind now v (slice_index y.words i))
      (sym (contents_seen k.config k.thread now f luck s o j born.0 st born.1))
      (word_read now (Read o i v ∷ acts) kind i v are.0 born.0 so born.2 o are.1
      (subst (λ (x : Contents). slice_get x.words i ≡ Some v) (sym same) needs.3) are.2)

-- ONE AFTER THE OTHER
whatever_both : {A B C : Type 0} (d : Doing A) (first : Result A Fault → Doing B) (second : Result B Fault → Doing C)
    → whatever (whatever d first) second ≡ whatever d (λ r. whatever (first r) second)
whatever_both (ended r) first second = refl
whatever_both (steps more leaves) first second =
    λ j. steps (λ t luck s. whatever_both (more t luck s) first second j) leaves

module _ (k : Scene) {A : Type 0} (V : History → Result A Fault → Type 0) (g : Frames) (behind : List (Item Act)) where
  abbrev pub PlaysOn : Doing A → History → Frames → List (Item Act) → Type 0
  PlaysOn d past f items = Plays k.config k.whole k.thread V g behind d past f items

  -- an element is read of the object at hand, and what follows by the word found
  pub read_then : (past : History) (f : Frames) (kind : Kind) (o j i v : ℕ) (acts : List Act) (items : List (Item Act))
      (next : Result ℕ Fault → Doing A) → IsAt k past (Read o i v ∷ acts) → HandIs k past kind o j
      → ((later : History) (w : ℕ) → IsAt k later acts → StaysOn k past later → HandIs k later kind o j
      → IsReadAs kind later v w → PlaysOn (next (Ok w)) later f items)
      → PlaysOn (whatever (element_read j i) next) past f (acting (Read o i v) ∷ items)
  read_then past f kind o j i v acts items next at hand follows =
      does_in k.config k.last k.whole k.thread k.legal (at_within k past (Read o i v ∷ acts) at) true (Read o i v) f
      refl
      (λ now s goes st. (
        objects_stand k.config k.thread now f (Read o i v) s.objects true s st refl refl refl refl (λ p. refl)
            st.objects,
        objects_keep k.config k.thread now f (Read o i v) s.objects true s,
      ))
      (λ now s goes st.
      let later : History = now ++ by k.thread (Read o i v) ∷ [] in
      let stays = stays_next k past now (Read o i v) (Read o i v ∷ acts) at goes refl in
      let so = element_seen k past now f true s kind o j i v acts at goes st hand in
      let at_that = at_now k past now (Read o i v ∷ acts) at goes.goes in
      let here : ActsNext k.config k.whole k.thread now now (Read o i v) = record {
        goes = record { since = []; is = sym (append-nil now); others = refl; begins = goes.goes.begins };
        next = goes.next;
      } in
      let word : ℕ = slice_index (contents (as_seen k.thread s) j).words i in
      follows later word (at_next k past now (Read o i v) acts at goes refl) stays
      (hand_later k past later kind o j stays goes.next hand) (
        so.0,
        λ objects. both_later k now later (object_of_word v) (named_by word)
            (stays_next k now now (Read o i v) (Read o i v ∷ acts) at_that here refl) goes.next (so.1 objects),
      ))

  -- so many elements are read of an object whose elements are numbers, and what follows by the words found
  pub reads_then : (past : History) (f : Frames) (kind : Kind) (o j i : ℕ) (vs : List ℕ) (acts : List Act)
      (items : List (Item Act)) (next : Result (List ℕ) Fault → Doing A) → IsAt k past (read_acts o i vs ++ acts)
      → HandIs k past kind o j → is_objects kind ≡ false
      → ((later : History) → IsAt k later acts → StaysOn k past later → HandIs k later kind o j
      → PlaysOn (next (Ok vs)) later f items)
      → PlaysOn (whatever (read_in_steps j i (length vs)) next) past f (map acting (read_acts o i vs) ++ items)
  reads_then past f kind o j i [] acts items next at hand plain follows =
      follows past at (stays_here k.config k.last k.whole k.thread k.legal past (at_within k past acts at)) hand
  reads_then past f kind o j i (v ∷ vs) acts items next at hand plain follows =
      subst (λ d. PlaysOn d past f (map acting (read_acts o i (v ∷ vs)) ++ items))
      (sym (whatever_both (element_read j i) (unless_refused (λ w. read_in_steps j (i + 1) (length vs) >>=
      (λ ws. doing.done (w ∷ ws)))) next))
      (read_then past f kind o j i v (read_acts o (i + 1) vs ++ acts) (map acting (read_acts o (i + 1) vs) ++ items)
      (λ r. whatever (unless_refused (λ w. read_in_steps j (i + 1) (length vs) >>= (λ ws. doing.done (w ∷ ws))) r) next)
      at hand
      (λ later w so stays hands read.
      subst (λ u. PlaysOn (whatever (read_in_steps j (i + 1) (length vs) >>= (λ ws. doing.done (u ∷ ws))) next) later f
      (map acting (read_acts o (i + 1) vs) ++ items)) (sym (read.0 plain))
      (subst (λ d. PlaysOn d later f (map acting (read_acts o (i + 1) vs) ++ items))
      (sym (whatever_both (read_in_steps j (i + 1) (length vs)) (unless_refused (λ ws. doing.done (v ∷ ws))) next))
      (reads_then later f kind o j (i + 1) vs acts items
      (λ r. whatever (unless_refused (λ ws. doing.done (v ∷ ws)) r) next) so hands plain
      (λ last at_last stays_last hands_last. follows last at_last
      (stays_then k.config k.last k.whole k.thread k.legal past later last stays stays_last) hands_last)))))

  -- .. as a whole
  pub read_all : (past : History) (f : Frames) (kind : Kind) (o j i : ℕ) (vs : List ℕ) (acts : List Act)
      (next : Result (List ℕ) Fault → Doing A) → IsAt k past (read_acts o i vs ++ acts) → HandIs k past kind o j
      → is_objects kind ≡ false
      → ((later : History) → IsAt k later acts → StaysOn k past later → HandIs k later kind o j
      → PlaysOn (next (Ok vs)) later f [])
      → PlaysOn (whatever (read_in_steps j i (length vs)) next) past f (map acting (read_acts o i vs))
  read_all past f kind o j i vs acts next at hand plain follows =
      subst (PlaysOn (whatever (read_in_steps j i (length vs)) next) past f)
      (append-nil (map acting (read_acts o i vs)))
      (reads_then past f kind o j i vs acts [] next at hand plain follows)

whatever_ended : {A : Type 0} (d : Doing A) → whatever d (λ r. ended r) ≡ d
whatever_ended (ended r) = refl
whatever_ended (steps more leaves) = λ j. steps (λ t luck s. whatever_ended (more t luck s) j) leaves

-- ENDINGS THAT READ
module _ (k : Scene) where
  -- what was done, as it is told
  abbrev pub EndedBy : (a : AnswerKind) → Result (AnswerOf a) Fault → Frames → List (Item Act) → Doing (MeantOf a)
      → History → Frames → List Act → Type 0
  EndedBy a answer g behind d past f acts =
      Plays k.config k.whole k.thread (Then k a answer) g behind d past f (map acting acts)

  pub ended_so : (a : AnswerKind) (answer told : Result (AnswerOf a) Fault) (g now : Frames) (behind : List (Item Act))
      (d : Doing (MeantOf a)) (past : History) (f : Frames) (acts done : List Act) → acts ≡ done → answer ≡ told
      → g ≡ now → EndedBy a told now behind d past f done → EndedBy a answer g behind d past f acts
  ended_so a answer told g now behind d past f acts done is so same played =
      subst (λ l. EndedBy a answer g behind d past f l) (sym is)
      (subst (λ r. EndedBy a r g behind d past f done) (sym so)
      (subst (λ h. EndedBy a told h behind d past f done) (sym same) played))

  pub reads_play : (n i : ℕ) → EndingPlays k (reads {n = n} i)
  reads_play n i words numbers known known' kind o j past f g acts answer behind at names are hand apt may is =
      ended_so number answer (Ok is.0) g f behind (element_read j i) past f acts (Read o i is.0 ∷ []) is.1 is.2 is.3
      (read_then k (Then k number (Ok is.0)) f behind past f kind o j i is.0 [] [] (λ r. ended r)
      (subst (IsAt k past) is.1 at) hand
      (λ later w so stays hands read. has_ended (Ok w) (so.stays, so.begins, sym (read.0 apt))))

  -- numbers that were read one by one
  read_numbers : (past : History) (f : Frames) (behind : List (Item Act)) (kind : Kind) (o j i : ℕ) (vs : List ℕ)
      → IsAt k past (read_acts o i vs) → HandIs k past kind o j → is_objects kind ≡ false
      → EndedBy (several number) (Ok vs) f behind (read_in_steps j i (length vs)) past f (read_acts o i vs)
  read_numbers past f behind kind o j i vs at hand plain =
      subst (λ d. EndedBy (several number) (Ok vs) f behind d past f (read_acts o i vs))
      (whatever_ended (read_in_steps j i (length vs)))
      (read_all k (Then k (several number) (Ok vs)) f behind past f kind o j i vs [] (λ r. ended r)
      (subst (IsAt k past) (sym (append-nil (read_acts o i vs))) at) hand plain
      (λ later so stays hands. has_ended (Ok vs) (so.stays, so.begins, refl)))

  pub reads_from_play : (n i many : ℕ) → EndingPlays k (reads_from {n = n} i many)
  reads_from_play n i many words numbers known known' kind o j past f g acts answer behind at names are hand apt may
      is =
      ended_so (several number) answer (Ok is.0) g f behind (read_in_steps j i many) past f acts (read_acts o i is.0)
      is.2 is.3 is.4
      (subst (λ m. EndedBy (several number) (Ok is.0) f behind (read_in_steps j i m) past f (read_acts o i is.0)) is.1
      (read_numbers past f behind kind o j i is.0 (subst (IsAt k past) is.2 at) hand apt))

  pub copies_play : (n many : ℕ) → EndingPlays k (copies {n = n} many)
  copies_play n zero words numbers known known' kind o j past f g acts answer behind at names are hand apt may is =
      reads_from_play n 0 zero words numbers known known' kind o j past f g acts answer behind at names are hand apt
      may is
  copies_play n (suc many) words numbers known known' kind o j past f g acts answer behind at names are hand apt may
      (inl is) =
      moves true f
      (λ now s goes st. (st, record { frames = λ u ne. refl; board = refl }))
      (λ now s goes st. reads_from_play n 0 (suc many) words numbers known known' kind o j now f g acts answer behind
      (at_now k past now acts at goes)
      (λ p. word_now k past now (goes.since, sym goes.is) (words p) (numbers p) (names p))
      (known_later k past now known known' (stays_now k past now acts at goes) goes.begins are)
      (hand_later k past now kind o j (stays_now k past now acts at goes) goes.begins hand) apt may is)
  copies_play n (suc many) words numbers known known' kind o j past f g acts answer behind at names are hand apt may
      (inr is) =
      ended_so (several number) answer (Err Memory) g f behind (copied_in_steps j (suc many)) past f acts [] is.0 is.1
      is.2
      (moves false f
      (λ now s goes st. (st, record { frames = λ u ne. refl; board = refl }))
      (λ now s goes st. let so = at_now k past now acts at goes in has_ended (Err Memory) (so.stays, so.begins, refl)))

-- WRITING: of the births just the one that stands is rewritten
abbrev pub written_birth : List (ℕ × Option Contents) → ℕ → ℕ → ℕ → ℕ × Option Contents → ℕ × Option Contents
written_birth all o i v e = (e.0, cond (e.0 == o) (rewritten all i v e.1) e.1)

-- an entry that is not the one that stands is left
entry_left : (all : List (ℕ × Option Contents)) (o i v : ℕ) (e : ℕ × Option Contents)
    → ((y : Contents) → e ≢ (o, Some y)) → (written_birth all o i v e).1 ≡ e.1
entry_left all o i v e ne = go e.1 refl (e.0 == o) refl
  where
    go : (there : Option Contents) → e.1 ≡ there → (same : Bool) → (e.0 == o) ≡ same
        → cond same (rewritten all i v there) there ≡ there
    go None is true so = refl
    go None is false so = refl
    go (Some y) is false so = refl
    go (Some y) is true so = absurd (ne y (λ j. (eq_true e.0 o so j, is j)))

entries_left : (all xs : List (ℕ × Option Contents)) (o i v : ℕ)
    → ((n : ℕ) (y : Contents) → slice_get xs n ≢ Some (o, Some y))
    → map (λ e. e.1) (map (written_birth all o i v) xs) ≡ map (λ e. e.1) xs
entries_left all [] o i v none = refl
entries_left all (x ∷ xs) o i v none =
    λ j. entry_left all o i v x (λ y is. none 0 y (ap Some is)) j
    ∷ entries_left all xs o i v (λ n y. none (suc n) y) j

rewritten_at : (all xs : List (ℕ × Option Contents)) (j o i v : ℕ) (y : Contents) → slice_get xs j ≡ Some (o, Some y)
    → ((n : ℕ) (x : Contents) → slice_get xs n ≡ Some (o, Some x) → n ≡ j)
    → slice_set (map (λ e. e.1) xs) j (rewritten all i v (Some y))
    ≡ map (λ e. e.1) (map (written_birth all o i v) xs)
rewritten_at all [] j o i v y e alone = absurd cc
rewritten_at all (x ∷ xs) zero o i v y e alone =
    let same : x ≡ (o, Some y) = some_same x (o, Some y) e in
    let head : (written_birth all o i v x).1 ≡ rewritten all i v (Some y) =
    ap (λ z. (written_birth all o i v z).1) same ∙ ap (λ b. cond b (rewritten all i v (Some y)) (Some y)) (eq_self o) in
    λ q. sym head q ∷ sym (entries_left all xs o i v (λ n z is. absurd (let bad = alone (suc n) z is in omega arith))) q
rewritten_at all (x ∷ xs) (suc j) o i v y e alone =
    λ q. sym (entry_left all o i v x (λ z is. absurd (let bad = alone 0 z (ap Some is) in omega arith))) q
    ∷ rewritten_at all xs j o i v y e (λ n z is. ap pred (alone (suc n) z is)) q

module _ (k : Scene) {A : Type 0} (V : History → Result A Fault → Type 0) (g : Frames) (behind : List (Item Act)) where
  -- an element of the object at hand is written, and what follows
  pub write_then : (past : History) (f : Frames) (kind : Kind) (o j i v w : ℕ) (acts : List Act)
      (items : List (Item Act)) (next : Result (Unit {0}) Fault → Doing A) → IsAt k past (Write o i v ∷ acts)
      → HandIs k past kind o j
      → ((now : History) → IsAt k now (Write o i v ∷ acts) → StaysOn k past now
      → w ≡ word_of_kind (births now).objects kind v)
      → ((later : History) → IsAt k later acts → StaysOn k past later → HandIs k later kind o j
      → PlaysOn k V g behind (next (Ok tt)) later f items)
      → PlaysOn k V g behind (whatever (atom (rewrites (overwritten i (w ∷ [])) j)) next) past f
      (acting (Write o i v) ∷ items)
  write_then past f kind o j i v w acts items next at hand word follows =
      does_in k.config k.last k.whole k.thread k.legal (at_within k past (Write o i v ∷ acts) at) true
      (Write o i v) f refl
      (λ now s goes st.
      let so = at_now k past now (Write o i v ∷ acts) at goes.goes in
      let needs = (next_needs k.config k.last k.whole k.thread k.legal past now (Write o i v) goes).1 in
      let stays = stays_now k past now (Write o i v ∷ acts) at goes.goes in
      let born = hand_born k now kind o j (at_legal k now (Write o i v ∷ acts) so) (subst IsSome (sym needs.2) refl)
      (hand_later k past now kind o j stays goes.goes.begins hand) in
      let objects : List (ℕ × Option Contents) = (births now).objects in
      let seen = contents_seen k.config k.thread now f true s o j born.0 st born.1 in
      let named : w ≡ word_of_kind objects born.0.kind v =
      word now so stays ∙ ap (λ l. word_of_kind objects l v) (sym born.2) in
      let is = (λ q. slice_set (st.objects q) j
      (Some (record { kind = (seen q).kind; words = slice_set (seen q).words i (named q) })))
      ∙ rewritten_at objects objects j o i v born.0 born.1 (λ n x e.
      (at_births k now (Write o i v ∷ acts) so).one_object n j o x born.0 e born.1) in (
        objects_stand k.config k.thread now f (Write o i v) _ true s st refl refl refl refl (λ p. refl) is,
        objects_keep k.config k.thread now f (Write o i v) _ true s,
      ))
      (λ now s goes st.
      let stays = stays_next k past now (Write o i v) (Write o i v ∷ acts) at goes refl in
      follows (now ++ by k.thread (Write o i v) ∷ []) (at_next k past now (Write o i v) acts at goes refl) stays
      (hand_later k past (now ++ by k.thread (Write o i v) ∷ []) kind o j stays goes.next hand))

  -- an element of an object of numbers is written as it is
  plain_word : (kind : Kind) (objects : List (ℕ × Option Contents)) (v : ℕ) → is_objects kind ≡ false
      → v ≡ word_of_kind objects kind v
  plain_word kind objects v plain = ap (λ b. cond b (born_word objects v) v) (sym plain)

  -- these words are written, one by one
  pub writes_then : (past : History) (f : Frames) (kind : Kind) (o j i : ℕ) (vs : List ℕ) (acts : List Act)
      (items : List (Item Act)) (next : Result (Unit {0}) Fault → Doing A) → IsAt k past (write_acts o i vs ++ acts)
      → HandIs k past kind o j → is_objects kind ≡ false
      → ((later : History) → IsAt k later acts → StaysOn k past later → HandIs k later kind o j
      → PlaysOn k V g behind (next (Ok tt)) later f items)
      → PlaysOn k V g behind (whatever (written_in_steps j i vs) next) past f (map acting (write_acts o i vs) ++ items)
  writes_then past f kind o j i [] acts items next at hand plain follows =
      follows past at (stays_here k.config k.last k.whole k.thread k.legal past (at_within k past acts at)) hand
  writes_then past f kind o j i (v ∷ vs) acts items next at hand plain follows =
      write_then past f kind o j i v v (write_acts o (i + 1) vs ++ acts) (map acting (write_acts o (i + 1) vs) ++ items)
      (λ r. whatever (unless_refused (λ done. written_in_steps j (i + 1) vs) r) next) at hand
      (λ now so stays. plain_word kind (births now).objects v plain)
      (λ later so stays hands. writes_then later f kind o j (i + 1) vs acts items next so hands plain
      (λ last at_last stays_last hands_last. follows last at_last
      (stays_then k.config k.last k.whole k.thread k.legal past later last stays stays_last) hands_last))

-- ENDINGS THAT WRITE
module _ (k : Scene) where
  pub writes_play : (n i v : ℕ) → EndingPlays k (writes {n = n} i v)
  writes_play n i v words numbers known known' kind o j past f g acts answer behind at names are hand apt may is =
      ended_so k nothing answer (Ok tt) g f behind (atom (rewrites (overwritten i (v ∷ [])) j)) past f acts
      (Write o i v ∷ []) is.0 is.1 is.2
      (write_then k (Then k nothing (Ok tt)) f behind past f kind o j i v v [] [] (λ r. ended r)
      (subst (IsAt k past) is.0 at) hand
      (λ now so stays. ap (λ b. cond b (born_word (births now).objects v) v) (sym apt))
      (λ later so stays hands. has_ended (Ok tt) (so.stays, so.begins, tt)))

  -- the element that names what is known of a place
  element_named : (now : History) (acts : List Act) (x y : Option ℕ) → IsAt k now acts → BothAre (ObjectIs now) x y
      → element_to y ≡ born_word (births now).objects (element_word x)
  element_named now acts None None at both = refl
  element_named now acts None (Some y) at both = absurd both
  element_named now acts (Some x) None at both = absurd both
  element_named now acts (Some x) (Some y) at both = go x both.1
    where
      go : (x : ℕ) → slice_get (births now).objects y ≡ Some (x, Some both.0)
          → suc y ≡ born_word (births now).objects x
      go zero e = absurd (
          let least =
          all_at (λ z. 1 ≤ z.0) (births now).objects y _ (born_numbers k.config k.last now (at_legal k now acts at))
          e in
          omega arith)
      go (suc x) e = ap suc (sym (birth_found (births now).objects y (suc x) both.0 e
          (λ n z is. (at_births k now acts at).one_object n y (suc x) z both.0 is e)))

  pub writes_to_play : (n i : ℕ) (p : Which) → EndingPlays k (writes_to {n = n} i p)
  writes_to_play n i p words numbers known known' kind o j past f g acts answer behind at names are hand apt may is =
      let v : ℕ = element_word (known p) in
      ended_so k nothing answer (Ok tt) g f behind (atom (rewrites (overwritten i (element_to (known' p) ∷ [])) j))
      past f acts (Write o i v ∷ []) is.0 is.1 is.2
      (write_then k (Then k nothing (Ok tt)) f behind past f kind o j i v (element_to (known' p)) [] [] (λ r. ended r)
      (subst (IsAt k past) is.0 at) hand
      (λ now so stays.
      element_named now (Write o i v ∷ []) (known p) (known' p) so
      (both_later k past now (known p) (known' p) stays so.begins (are p))
      ∙ ap (λ b. cond b (born_word (births now).objects v) v) (sym apt))
      (λ later so stays hands. has_ended (Ok tt) (so.stays, so.begins, tt)))

  written_all : (past : History) (f : Frames) (behind : List (Item Act)) (kind : Kind) (o j i : ℕ) (vs : List ℕ)
      → IsAt k past (write_acts o i vs) → HandIs k past kind o j → is_objects kind ≡ false
      → EndedBy k nothing (Ok tt) f behind (written_in_steps j i vs) past f (write_acts o i vs)
  written_all past f behind kind o j i vs at hand plain =
      subst (λ d. EndedBy k nothing (Ok tt) f behind d past f (write_acts o i vs))
      (whatever_ended (written_in_steps j i vs))
      (subst (PlaysOn k (Then k nothing (Ok tt)) f behind (whatever (written_in_steps j i vs) (λ r. ended r)) past f)
      (append-nil (map acting (write_acts o i vs)))
      (writes_then k (Then k nothing (Ok tt)) f behind past f kind o j i vs [] [] (λ r. ended r)
      (subst (IsAt k past) (sym (append-nil (write_acts o i vs))) at) hand plain
      (λ later so stays hands. has_ended (Ok tt) (so.stays, so.begins, tt))))

  pub writes_from_play : (n i : ℕ) (vs : List ℕ) → EndingPlays k (writes_from {n = n} i vs)
  writes_from_play n i vs words numbers known known' kind o j past f g acts answer behind at names are hand apt may is =
      ended_so k nothing answer (Ok tt) g f behind (written_in_steps j i vs) past f acts (write_acts o i vs) is.0
      is.1 is.2 (written_all past f behind kind o j i vs (subst (IsAt k past) is.0 at) hand apt)

-- LOOKING: kind and length of the object at hand are the same at each moment of the stay

-- of two beginnings of one list one begins the other
pub in_line : {X : Type 0} (xs ys rest more : List X) → xs ++ rest ≡ ys ++ more → IsPrefix xs ys ⊎ IsPrefix ys xs
in_line [] ys rest more e = inl (ys, refl)
in_line (x ∷ xs) [] rest more e = inr (x ∷ xs, refl)
in_line (x ∷ xs) (y ∷ ys) rest more e =
    let head : x ≡ y = cc in
    let tail : xs ++ rest ≡ ys ++ more = cc in
    ⊎_elim (λ h. inl (h.0, λ j. head j ∷ h.1 j)) (λ h. inr (h.0, λ j. sym head j ∷ h.1 j))
    (in_line xs ys rest more tail)

-- the exit itself leaves objects as they are
pub left_objects : (exit : History) (t : ℕ) → (state (exit ++ by t (Gate Leave) ∷ [])).objects ≡ (state exit).objects
left_objects exit t = ap (λ (m : State). m.objects) (state_push exit (by t (Gate Leave)))

module _ (k : Scene) where
  -- between a moment of the call and one of its stay the stay goes on from one to the other
  pub stays_compare : (from to : History) → StaysOn k k.entry from → InOneStay k to → IsPrefix from k.whole
      → IsPrefix to k.whole → StaysOn k from to ⊎ StaysOn k to from
  stays_compare from to first (inr before) begins begun =
      inr (stays_then k.config k.last k.whole k.thread k.legal to k.entry from before first)
  stays_compare from to first (inl second) begins begun = ⊎_elim
      (λ h. inl (stays_between k.config k.last k.whole k.thread k.legal k.entry from to first second h))
      (λ h. inr (stays_between k.config k.last k.whole k.thread k.legal k.entry to from second first h))
      (in_line from to begins.0 begun.0 (begins.1 ∙ sym begun.1))

  -- what stands at two moments of the call under one number is of one kind and length
  like_always : (past exit : History) (o : ℕ) (x z : Contents) → StaysOn k k.entry past → IsPrefix past k.whole
      → InOneStay k exit → IsPrefix exit k.whole → (state exit).objects o ≡ Some x
      → (state past).objects o ≡ Some z → (z.kind ≡ x.kind) × (length z.words ≡ length x.words)
  like_always past exit o x z stays begins ends begun there here = ⊎_elim
      (λ (later : StaysOn k past exit).
      let still = (still_between k.config k.last k.whole k.thread k.legal past exit later begun).objects o z here in
      let same : still.0 ≡ x = some_same still.0 x (sym still.1 ∙ there) in (
        sym still.2 ∙ ap (λ (y : Contents). y.kind) same,
        sym still.3 ∙ ap (λ (y : Contents). length y.words) same,
      ))
      (λ (earlier : StaysOn k exit past).
      let still = (still_between k.config k.last k.whole k.thread k.legal exit past earlier begins).objects o x there in
      let same : still.0 ≡ z = some_same still.0 z (sym still.1 ∙ here) in (
        ap (λ (y : Contents). y.kind) (sym same) ∙ still.2,
        ap (λ (y : Contents). length y.words) (sym same) ∙ still.3,
      ))
      (stays_compare past exit stays ends begins begun)

  -- THE OBJECT AT HAND, where one of its number is present at some moment of the call, with the objects of m
  pub header_now : (m : State) (exit : History) → InOneStay k exit → IsPrefix exit k.whole
      → m.objects ≡ (state exit).objects
      → (past : History) (acts : List Act) (kind : Kind) (o j : ℕ) (x : Contents) → IsAt k past acts
      → HandIs k past kind o j → m.objects o ≡ Some x
      → (y : Contents) × (slice_get (births past).objects j ≡ Some (o, Some y)) × (kind ≡ x.kind) × (y.kind ≡ x.kind)
      × (length y.words ≡ length x.words)
  header_now m exit ends begun same past acts kind o j x at hand is =
      let born = hand_at hand in
      let are = (at_births k past acts at).contents j o born.0 born.1 in
      let like = like_always past exit o x are.0 at.stays at.begins ends begun there are.1 in (
        born.0,
        born.1,
        sym born.2 ∙ are.2.kind ∙ like.0,
        are.2.kind ∙ like.0,
        are.2.long ∙ like.1,
      )
    where
      there : (state exit).objects o ≡ Some x
      there = ap (λ l. l o) (sym same) ∙ is

      hand_at : HandIs k past kind o j
          → (y : Contents) × (slice_get (births past).objects j ≡ Some (o, Some y)) × (y.kind ≡ kind)
      hand_at (inl none) = absurd (
          let least = (present_is_in_room k.config k.last exit o
          (front_legal k.config k.last k.whole k.thread k.legal exit begun) (subst IsSome (sym there) refl)).0 in
          omega arith)
      hand_at (inr h) = h

  -- AN ELEMENT IS FOUND that names an object
  pub element_found : (i : ℕ) (kind : Kind) (o j : ℕ) (past : History) (f g : Frames) (acts rest : List Act)
      (x : Result ℕ Fault) (behind : List (Item Act)) → IsAt k past (acts ++ rest) → HandIs k past kind o j
      → is_objects kind ≡ true → some_act (Read o i) f acts x g
      → (g ≡ f) × Plays k.config k.whole k.thread (GoesOnWithElement k rest x) f behind (element_read j i) past f
      (map acting acts)
  element_found i kind o j past f g acts rest x behind at hand objects is = (
    is.3,
    subst (λ l. Plays k.config k.whole k.thread (GoesOnWithElement k rest x) f behind (element_read j i) past f
        (map acting l)) (sym is.1)
        (subst (λ r. Plays k.config k.whole k.thread (GoesOnWithElement k rest r) f behind (element_read j i) past f
        (acting (Read o i is.0) ∷ [])) (sym is.2)
        (read_then k (GoesOnWithElement k rest (Ok is.0)) f behind past f kind o j i is.0 rest [] (λ r. ended r)
        (subst (λ l. IsAt k past (l ++ rest)) is.1 at) hand
        (λ later w so stays hands read. has_ended (Ok w) (so, read.1 objects)))),
  )
