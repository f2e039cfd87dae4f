-- A reference is resolved as its program's step does it: whose it is, and what it is to.
use Rattle.std.proofs.Common.{◌≡◌, inl, inr, ◌==◌, ◌&&◌, ℕ, zero, suc, Bool, true, false, cond, not, Option, Some, None}
use Rattle.std.proofs.Common.{Result, Ok, Err, List, [], ◌∷◌, ◌++◌, map, slice_get, slice_index_or, refl, sym, ap}
use Rattle.std.proofs.Common.{subst, ◌∙◌, append-nil}
use Rattle.std.proofs.lemmas.Option.{get_or_from_slice_get}
use Rattle.jr_word.specs.declared.config.Config.{Config}
use Rattle.jr_word.specs.declared.fault.Fault.{Fault}
use Rattle.jr_word.specs.declared.fault.Fault.TheVariants as fault
use Rattle.jr_word.specs.declared.handle.RefKind.{RefKind}
use Rattle.jr_model.specs.declared.event.Act.{Act}
use Rattle.jr_model.specs.declared.event.Act.TheVariants.{Look}
use Rattle.jr_model.specs.declared.event.Found.{Found}
use Rattle.jr_model.specs.declared.event.Found.TheVariants.{Object, Cleared, Stale}
use Rattle.jr_model.specs.State.{Contents, Handle}
use Rattle.jr_model.specs.Frames.{Frames, object_of}
use Rattle.jr_model.specs.History.{History, by, state}
use Rattle.jr_model.specs.Checks.{Word, Nothing, Malformed, Parts, is_foreign, is_local, is_malformed, is_out_of_bounds}
use Rattle.jr_model.specs.Calls.{Call, ◌>>=◌, refuse_if}
use Rattle.jr_model.specs.Parts.{found_answer, found_object, local_answer, local_object, look, looked}
use Rattle.jr_model.specs.References.{resolved}
use Rattle.jr_model.proofs.Updates.{eq_true}
use Rattle.jr_world.specs.World.{Ref, object, object_in, standing_at}
use Rattle.jr_world.specs.Births.{Births, RefIsSo, births, found_in, found_at_place}
use Rattle.jr_world.specs.Doing.{Doing, Shared, as_left, as_seen, atom, is_anothers, is_foreign_to, named}
use Rattle.jr_world.specs.Doing.{own_or_shared, unless_refused, whatever}
use Rattle.jr_world.specs.Doing.Doing.{ended}
use Rattle.jr_world.specs.Plays.{OthersGoOn, ActsNext, Plays, InStands, owner_of_handle}
use Rattle.jr_world.specs.Plays.Plays.{has_ended}
use Rattle.jr_world.specs.Playing.{BothAre, ObjectIs, WordIs}
use Rattle.jr_world.proofs.Births.BornFound.{found_row}
use Rattle.jr_world.proofs.BornHandles.{born_within, own_stands}
use Rattle.jr_world.proofs.Births.BornLists.{births_push, map_get}
use Rattle.jr_world.proofs.InStay.{IsAt, Scene, StaysOn, at_births, at_legal, at_next, at_now, at_within, word_now}
use Rattle.jr_world.proofs.ProgramPlays.{FoundAs, GoesOnWith}
use Rattle.jr_world.proofs.LookStands.{look_stands}
use Rattle.jr_world.proofs.Standing.{is_of_gate, looks_then, next_needs, seen_keeps, seen_stands, stays_by_act}
use Rattle.jr_world.proofs.Standing.{stays_by_others, stays_here, stays_then}
use Rattle.jr_world.proofs.OpenParts.{does_in, looks_in, moves_in}
use Rattle.one_order.specs.Orders.{Item}
use Rattle.one_order.specs.Orders.Item.{does as acting}

-- WHAT CALLS DO WITH A REFERENCE, taken apart

-- nothing was done but refuse
abbrev pub WasRefused : {A : Type 0} → Fault → Frames → List Act → Result A Fault → Frames → Type 0
WasRefused e f acts x g = (acts ≡ []) × (x ≡ Err e) × (g ≡ f)

-- a test refuses, or the rest of the call is done
pub tested_then : {A : Type 0} (b : Bool) (e : Fault) (next : Unit {0} → Call A) (f g : Frames) (acts : List Act)
    (x : Result A Fault) → (refuse_if b e >>= next) f acts x g
    → cond b (WasRefused e f acts x g) (next tt f acts x g)
tested_then true e next f g acts x (inl d) = absurd (let bad = d.5.1 in cc)
tested_then true e next f g acts x (inr d) =
    (d.2.0, d.1 ∙ ap (λ z. Err z) (let same : d.0 ≡ e = (let is = d.2.1 in cc) in same), d.2.2)
tested_then false e next f g acts x (inl d) =
    let all : acts ≡ d.3 = d.4 ∙ ap (λ l. l ++ d.3) d.5.0 in
    subst (λ z. next tt f z x g) (sym all) (subst (λ z. next tt z d.3 x g) d.5.2 d.6)
tested_then false e next f g acts x (inr d) = absurd (let bad = d.2.1 in cc)

-- a test that doesn't refuse
pub passed_then : {A : Type 0} (b : Bool) (e : Fault) (next : Unit {0} → Call A) (f g : Frames) (acts : List Act)
    (x : Result A Fault) → b ≡ false → (refuse_if b e >>= next) f acts x g → next tt f acts x g
passed_then b e next f g acts x off d =
    subst (λ z. cond z (WasRefused e f acts x g) (next tt f acts x g)) off (tested_then b e next f g acts x d)

-- the acts and the answer of a look at a reference
abbrev pub WasLooked : Word → Frames → List Act → Result (Option ℕ) Fault → Type 0
WasLooked (Parts h) f acts x = cond (is_local h) ((acts ≡ []) × (x ≡ local_answer (object_of f h)))
    ((r : Found) × (acts ≡ Look h r ∷ []) × (x ≡ found_answer r))
WasLooked _ f acts x = (acts ≡ []) × (x ≡ Ok None)

looked_row : (h : Handle) (f g : Frames) (acts : List Act) (x : Result (Option ℕ) Fault)
    → (look h >>= found_object) f acts x g → ((r : Found) × (acts ≡ Look h r ∷ []) × (x ≡ found_answer r)) × (g ≡ f)
looked_row h f g acts x (inl d) =
    let r = d.5.0 in
    let same : d.0 ≡ r = (let e = d.5.2 in cc) in
    ((r, d.4 ∙ ap (λ l. l ++ d.3) d.5.1 ∙ ap (λ l. Look h r ∷ l) d.6.0, d.6.1 ∙ ap found_answer same), d.6.2 ∙ d.5.3)
looked_row h f g acts x (inr d) = absurd (let bad = d.2.2 in cc)

pub looked_so : (w : Word) (f g : Frames) (acts : List Act) (x : Result (Option ℕ) Fault) → looked w f acts x g
    → WasLooked w f acts x × (g ≡ f)
looked_so Nothing f g acts x d = ((d.0, d.1), d.2)
looked_so Malformed f g acts x d = ((d.0, d.1), d.2)
looked_so (Parts h) f g acts x d = go (is_local h) d
  where
    go : (b : Bool) → cond b (λ old. local_object (object_of old h) old) (look h >>= found_object) f acts x g
        → cond b ((acts ≡ []) × (x ≡ local_answer (object_of f h)))
        ((r : Found) × (acts ≡ Look h r ∷ []) × (x ≡ found_answer r)) × (g ≡ f)
    go true d = ((d.0, d.1), d.2)
    go false d = looked_row h f g acts x d

-- WHAT IS TOLD, once by the model and once by the world

-- both answer, and so, or one refusal is both's
abbrev pub Told : {X Y : Type 0} → (X → Y → Type 0) → Result X Fault → Result Y Fault → Type 0
Told So (Ok x) (Ok y) = So x y
Told So (Err e) (Err d) = d ≡ e
Told So _ _ = ⊥

-- an object that stands, by what was born
abbrev pub ObjectIn : Births → ℕ → ℕ → Type 0
ObjectIn b o j = (x : Contents) × (slice_get b.objects j ≡ Some (o, Some x))

pub told_found : (b : Births) (kind : RefKind) (q : Option Ref) (r : Found) → RefIsSo b.objects kind q r
    → Told (BothAre (ObjectIn b)) (found_answer r) (object_in q)
told_found b kind (Some r) (Object o) so =
    subst (λ z. BothAre (ObjectIn b) (Some o) z) (sym so.2) (so.3, so.4)
told_found b kind (Some r) Cleared so = subst (λ z. BothAre (ObjectIn b) None z) (sym so.1) tt
told_found b kind (Some r) Stale so = absurd so
told_found b kind None Stale so = refl
told_found b kind None (Object o) so = absurd so
told_found b kind None Cleared so = absurd so

pub local_is_found : (z : Option ℕ) → found_answer (found_at_place z) ≡ local_answer z
local_is_found None = refl
local_is_found (Some o) = refl

index_map : {X Y : Type 0} (f : X → Y) (xs : List X) (i : ℕ) (x : X) (d : Y) → slice_get xs i ≡ Some x
    → slice_index_or (map f xs) i d ≡ f x
index_map f xs i x d e = get_or_from_slice_get (map f xs) i (f x) d (map_get f xs i x e)

-- whether it is another's, by its owner
pub anothers_is : (t : ℕ) (h : Handle) → is_anothers t (owner_of_handle h) ≡ is_foreign t (Parts h)
anothers_is t h = go (is_local h)
  where
    go : (b : Bool) → is_anothers t (cond b (Some h.owner) None) ≡ (b && not (h.owner == t))
    go true = refl
    go false = refl

-- a local reference that is no other's is this thread's
pub owner_is : (t : ℕ) (h : Handle) → is_local h ≡ true → is_foreign t (Parts h) ≡ false → owner_of_handle h ≡ Some t
owner_is t h local own = ap (λ b. cond b (Some h.owner) None) local
    ∙ ap (λ u. Some u) (eq_true h.owner t (go (h.owner == t) (ap (λ b. b && not (h.owner == t)) (sym local) ∙ own)))
  where
    go : (b : Bool) → not b ≡ false → b ≡ true
    go true e = refl
    go false e = absurd cc

pub row_is_shared : (t : ℕ) (h : Handle) → is_local h ≡ false → is_foreign t (Parts h) ≡ false
row_is_shared t h row = ap (λ b. b && not (h.owner == t)) row

-- of two places
abbrev pub AreBoth : History → Option ℕ × Option ℕ → Option ℕ × Option ℕ → Type 0
AreBoth h x y = BothAre (ObjectIs h) x.0 y.0 × BothAre (ObjectIs h) x.1 y.1

-- E3 where it is another's
abbrev pub own_or : Bool → Result (Unit {0}) Fault
own_or b = cond b (Err fault.Foreign) (Ok tt)

-- WHAT STANDS AT A NAME
module _ (c : Config) (t : ℕ) (now : History) (f : Frames) (s : Shared) (st : InStands c t now f s) where
  pub ref_is : (i : ℕ) (h : Handle) (q : Option Ref) → slice_get (births now).refs i ≡ Some (h, q)
      → standing_at s.refs i ≡ q
  ref_is i h q e = ap (λ l. slice_index_or l i None) st.refs
      ∙ index_map (λ (x : Handle × Option Ref). x.1) (births now).refs i (h, q) None e

  pub foreign_is : (w : Word) (n : ℕ) → WordIs now w n → is_foreign_to t s n ≡ is_foreign t w
  foreign_is Nothing n word = ap (is_foreign_to t s) word
  foreign_is Malformed n word = absurd word
  foreign_is (Parts h) zero word = absurd word
  foreign_is (Parts h) (suc i) word = ap (is_anothers t) (ap (λ l. slice_index_or l i None) st.owners
      ∙ index_map (λ (x : Handle × Option Ref). owner_of_handle x.0) (births now).refs i (h, word.0) None word.1)
      ∙ anothers_is t h

module _ (k : Scene) where
  -- the call has come on to a moment behind which it does the rest
  pub record ComesTo (past : History) (rest : List Act) (later : History) : Type 0 where
    pub at : IsAt k later rest
    pub stays : StaysOn k past later

  -- .. and a reference is resolved so
  abbrev pub Resolved : History → List Act → Result (Option ℕ) Fault → History → Result (Option ℕ) Fault → Type 0
  Resolved past rest x later r = ComesTo past rest later × Told (BothAre (ObjectIs later)) x r

  pub comes_here : (past : History) (acts : List Act) → IsAt k past acts → ComesTo past acts past
  comes_here past acts at = record {
    at = at;
    stays = stays_here k.config k.last k.whole k.thread k.legal past (at_within k past acts at);
  }

  pub comes_now : (past now : History) (acts : List Act) → IsAt k past acts
      → OthersGoOn k.config k.whole k.thread past now
      → ComesTo past acts now
  comes_now past now acts at goes = record {
    at = at_now k past now acts at goes;
    stays = stays_by_others k.config k.last k.whole k.thread k.legal past past now (comes_here past acts at).stays goes;
  }

  pub comes_then : (past mid later : History) (acts rest : List Act) → ComesTo past acts mid → ComesTo mid rest later
      → ComesTo past rest later
  comes_then past mid later acts rest first second = record {
    at = second.at;
    stays = stays_then k.config k.last k.whole k.thread k.legal past mid later first.stays second.stays;
  }

  -- by an act of its own that is none at the gate
  pub comes_next : (past now : History) (a : Act) (rest : List Act) → IsAt k past (a ∷ rest)
      → ActsNext k.config k.whole k.thread past now a → is_of_gate a ≡ false
      → ComesTo past rest (now ++ by k.thread a ∷ [])
  comes_next past now a rest at next no_gate = record {
    at = at_next k past now a rest at next no_gate;
    stays = stays_by_act k.config k.last k.whole k.thread k.legal past past now a
        (comes_here past (a ∷ rest) at).stays next no_gate;
  }

  pub word_then : (past now : History) (w : Word) (n : ℕ) → OthersGoOn k.config k.whole k.thread past now
      → WordIs past w n
      → WordIs now w n
  word_then past now w n goes word = word_now k past now (goes.since, sym goes.is) w n word

  pub word_later : (past later : History) (w : Word) (n : ℕ) → StaysOn k past later → WordIs past w n
      → WordIs later w n
  word_later past later w n stays word = word_now k past later (stays.since, sym stays.is) w n word

  -- what is told of a reference that was born
  pub told_so : (now : History) (acts : List Act) → IsAt k now acts → (i : ℕ) (h : Handle) (q : Option Ref) (r : Found)
      → slice_get (births now).refs i ≡ Some (h, q) → found_in (births now) (state now) h ≡ r
      → RefIsSo (births now).objects h.kind q r
  told_so now acts at i h q r e is =
      subst (RefIsSo (births now).objects h.kind q) is ((at_births k now acts at).told i h q e)

  -- a handle that was born is one of the room
  pub word_within : (now : History) (acts : List Act) (w : Word) (n : ℕ) → IsAt k now acts → WordIs now w n
      → (is_malformed w ≡ false) × (is_out_of_bounds k.config w ≡ false)
  word_within now acts Nothing n at word = (refl, refl)
  word_within now acts Malformed n at word = absurd word
  word_within now acts (Parts h) zero at word = absurd word
  word_within now acts (Parts h) (suc i) at word =
      (refl, born_within k.config k.last now (at_legal k now acts at) i h word.0 word.1)

  module _ {A : Type 0} (U : History → Result A Fault → Type 0) (end : Frames) (behind : List (Item Act)) where
    -- the step finds whose it is
    pub own_stage : (w : Word) (n : ℕ) (past : History) (f : Frames) (acts : List Act) (items : List (Item Act))
        (next : Result (Unit {0}) Fault → Doing A) → IsAt k past acts → WordIs past w n
        → ((now : History) → ComesTo past acts now
        → Plays k.config k.whole k.thread U end behind (next (own_or (is_foreign k.thread w))) now f
        items)
        → Plays k.config k.whole k.thread U end behind (whatever (own_or_shared n) next) past f items
    own_stage w n past f acts items next at word follows =
        moves_in k.config k.last k.whole k.thread k.legal (at_within k past acts at) true f
        (λ now s goes st. (st, record { frames = λ u ne. refl; board = refl }))
        (λ now s goes st. subst (λ b. Plays k.config k.whole k.thread U end behind
        (next (own_or b)) now f items)
        (sym (foreign_is k.config k.thread now f s st w n (word_then past now w n goes word)))
        (follows now (comes_now past now acts at goes)))

    -- the step finds what a reference of its own or of the row is to
    pub look_stage : (w : Word) (n : ℕ) (past : History) (f : Frames) (acts rest : List Act) (items : List (Item Act))
        (x : Result (Option ℕ) Fault) (next : Result (Option ℕ) Fault → Doing A) → IsAt k past (acts ++ rest)
        → WordIs past w n → is_foreign k.thread w ≡ false → WasLooked w f acts x
        → ((later : History) (r : Result (Option ℕ) Fault) → Resolved past rest x later r
        → Plays k.config k.whole k.thread U end behind (next r) later f items)
        → Plays k.config k.whole k.thread U end behind (whatever (atom (object n)) next) past f
        (map acting acts ++ items)
    look_stage Malformed n past f acts rest items x next at word own was follows = absurd word
    look_stage (Parts h) zero past f acts rest items x next at word own was follows = absurd word
    look_stage Nothing n past f acts rest items x next at word own was follows =
        subst (λ z. Plays k.config k.whole k.thread U end behind (whatever (atom (object z)) next) past f
        (map acting acts ++ items)) (sym word)
        (subst (λ z. Plays k.config k.whole k.thread U end behind (whatever (atom (object zero)) next) past f
        (map acting z ++ items)) (sym was.0)
        (looks_then k.config k.whole k.thread U end behind (λ z. Ok None) next past f items
        (λ now s goes st. follows now (Ok None) (
          comes_now past now rest
              (subst (λ z. IsAt k past (z ++ rest)) was.0 at) goes,
          subst (λ z. Told (BothAre (ObjectIs now)) z (Ok None)) (sym was.1) tt,
        ))))
    look_stage (Parts h) (suc i) past f acts rest items x next at word own was follows =
        go (is_local h) refl was
      where
        go : (b : Bool) → is_local h ≡ b → cond b ((acts ≡ []) × (x ≡ local_answer (object_of f h)))
            ((r : Found) × (acts ≡ Look h r ∷ []) × (x ≡ found_answer r))
            → Plays k.config k.whole k.thread U end behind (whatever (atom (object (suc i))) next) past f
            (map acting acts ++ items)
        go true local did =
            subst (λ z. Plays k.config k.whole k.thread U end behind (whatever (atom (object (suc i))) next) past f
            (map acting z ++ items)) (sym did.0)
            (looks_in k.config k.last k.whole k.thread k.legal
            (at_within k past rest (subst (λ z. IsAt k past (z ++ rest)) did.0 at))
            (λ z. object_in (standing_at z.refs i)) next
            (λ now s goes st.
            let comes = comes_now past now rest (subst (λ z. IsAt k past (z ++ rest)) did.0 at) goes in
            let n = word_then past now (Parts h) (suc i) goes word in
            follows now (object_in (standing_at s.refs i)) (
              comes,
              subst (λ z. Told (BothAre (ObjectIs now)) z (object_in (standing_at s.refs i)))
                  (local_is_found (object_of f h) ∙ sym did.1)
                  (subst (λ z. Told (BothAre (ObjectIs now)) (found_answer (found_at_place (object_of f h)))
                  (object_in z))
                  (sym (ref_is k.config k.thread now f s st i h n.0 n.1))
                  (told_found (births now) h.kind n.0 (found_at_place (object_of f h))
                  (told_so now rest comes.at i h n.0 (found_at_place (object_of f h)) n.1
                  (own_stands k.config k.thread now f st h (owner_is k.thread h local own))))),
            )))
        go false row did =
            subst (λ z. Plays k.config k.whole k.thread U end behind (whatever (atom (object (suc i))) next) past f
            (map acting z ++ items)) (sym did.1)
            (does_in k.config k.last k.whole k.thread k.legal
            (at_within k past (Look h did.0 ∷ rest) (subst (λ z. IsAt k past (z ++ rest)) did.1 at)) true
            (Look h did.0) f refl
            (λ now s goes st. (
              look_stands k.config k.thread now f
                  (as_left k.thread s (as_seen k.thread s)) (Look h did.0) refl
                  (seen_stands k.config k.thread now f s st),
              seen_keeps k.thread s,
            ))
            (λ now s next_is st.
            let was_at = subst (λ z. IsAt k past (z ++ rest)) did.1 at in
            let comes = comes_next past now (Look h did.0) rest was_at next_is refl in
            let here = at_now k past now (Look h did.0 ∷ rest) was_at next_is.goes in
            let n = word_then past now (Parts h) (suc i) next_is.goes word in
            let needs = next_needs k.config k.last k.whole k.thread k.legal past now (Look h did.0) next_is in
            follows (now ++ by k.thread (Look h did.0) ∷ []) (object_in (standing_at s.refs i)) (
              comes,
              subst (λ b. Told (BothAre (ObjectIn b)) x (object_in (standing_at s.refs i)))
                  (sym (births_push now (by k.thread (Look h did.0))))
                  (subst (λ z. Told (BothAre (ObjectIn (births now))) z (object_in (standing_at s.refs i))) (sym did.2)
                  (subst (λ z. Told (BothAre (ObjectIn (births now))) (found_answer did.0) (object_in z))
                  (sym (ref_is k.config k.thread now f s st i h n.0 n.1))
                  (told_found (births now) h.kind n.0 did.0
                  (told_so now (Look h did.0 ∷ rest) here i h n.0 did.0 n.1
                  (found_row (births now) (state now) h row ∙ needs.1.1))))),
            )))

  -- A REFERENCE IS RESOLVED by the step that names it
  abbrev Naming : List Act → Result (Option ℕ) Fault → Frames → List (Item Act) → Doing (Option ℕ) → History → List Act
      → Type 0
  Naming rest x f behind d past acts =
      Plays k.config k.whole k.thread (GoesOnWith k rest x) f behind d past f (map acting acts)

  found_as : (later : History) (x r : Result (Option ℕ) Fault) → Told (BothAre (ObjectIs later)) x r
      → FoundAs k later x r
  found_as later (Ok x) (Ok y) told = told
  found_as later (Err e) (Err d) told = told
  found_as later (Ok x) (Err d) told = absurd told
  found_as later (Err e) (Ok y) told = absurd told

  pub named_plays : (w : Word) (n : ℕ) (past : History) (f g : Frames) (acts rest : List Act)
      (x : Result (Option ℕ) Fault) (behind : List (Item Act)) → IsAt k past (acts ++ rest) → WordIs past w n
      → resolved k.config k.last k.thread w f acts x g
      → (g ≡ f) × Plays k.config k.whole k.thread (GoesOnWith k rest x) f behind (named n) past f (map acting acts)
  named_plays w n past f g acts rest x behind at word is =
      let within = word_within past (acts ++ rest) w n at word in
      let second = passed_then (is_malformed w) fault.Stale (λ u. refuse_if (is_out_of_bounds k.config w) fault.Stale
      >>= (λ v. refuse_if (is_foreign k.thread w) fault.Foreign >>= (λ y. looked w))) f g acts x within.0 is in
      let third = passed_then (is_out_of_bounds k.config w) fault.Stale
      (λ v. refuse_if (is_foreign k.thread w) fault.Foreign >>= (λ y. looked w)) f g acts x within.1 second in
      go (is_foreign k.thread w) refl
      (tested_then (is_foreign k.thread w) fault.Foreign (λ y. looked w) f g acts x third)
    where
      stage : (b : Bool) → is_foreign k.thread w ≡ b
          → ((now : History) → ComesTo past (acts ++ rest) now
          → Naming rest x f behind (unless_refused (λ u. atom (object n)) (own_or b)) now acts)
          → Naming rest x f behind (named n) past acts
      stage b is follows = own_stage (GoesOnWith k rest x) f behind w n past f (acts ++ rest) (map acting acts)
          (unless_refused (λ u. atom (object n))) at word (λ now comes.
          subst (λ d. Naming rest x f behind (unless_refused (λ u. atom (object n)) (own_or d)) now acts) (sym is)
          (follows now comes))

      go : (b : Bool) → is_foreign k.thread w ≡ b → cond b (WasRefused fault.Foreign f acts x g) (looked w f acts x g)
          → (g ≡ f) × Naming rest x f behind (named n) past acts
      go true foreign did = (
        did.2,
        stage true foreign (λ now comes.
            subst (Naming rest x f behind (ended (Err fault.Foreign)) now) (sym did.0)
            (has_ended (Err fault.Foreign) (
              subst (λ z. IsAt k now (z ++ rest)) did.0 comes.at,
              subst (λ z. FoundAs k now z (Err fault.Foreign)) (sym did.1) refl,
            ))),
      )
      go false own did =
          let was = looked_so w f g acts x did in (
            was.1,
            stage false own (λ now comes.
                subst (λ z. Plays k.config k.whole k.thread (GoesOnWith k rest x) f behind (atom (object n)) now f z)
                (append-nil (map acting acts))
                (look_stage (GoesOnWith k rest x) f behind w n now f acts rest [] x (λ r. ended r) comes.at
                (word_later past now w n comes.stays word) own was.0 (λ later r resolved.
                has_ended r (resolved.0.at, found_as later x r resolved.1)))),
          )
