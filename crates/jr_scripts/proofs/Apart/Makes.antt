-- CALLS THAT MAKE references in slots, or objects, follow. Where others are faster they are made again.
use Rattle.std.proofs.Common.{◌≡◌, inl, inr, ◌<◌, ◌≤◌, ◌+◌, ◌++◌, ◌==◌, ◌&&◌, ℕ, zero, suc, Bool, true, false, cond}
use Rattle.std.proofs.Common.{not, nat_lt, nat_le, List, [], ◌∷◌, length, map, replicate, drop, take, Option, Some}
use Rattle.std.proofs.Common.{None, is_some, Result, Ok, Err, refl, sym, ap, subst, ◌∙◌, arith}
use Rattle.std.proofs.lemmas.List.{get_or_push, length-append, length-replicate, take-append-drop}
use Rattle.std.proofs.lemmas.Bool.Decides.{nat_tests}
use Rattle.std.specs.List.{AllByRecursion, filter}
use Rattle.jr_word.specs.declared.config.Config.{Config}
use Rattle.jr_word.specs.declared.fault.Fault.{Fault}
use Rattle.jr_word.specs.declared.fault.Fault.TheVariants.{Barred, Foreign, LocalsFull, Moved, ObjectsFull, Raced}
use Rattle.jr_word.specs.declared.fault.Fault.TheVariants.{RowFull, SpaceFull}
use Rattle.jr_word.specs.declared.handle.Handle.{Handle}
use Rattle.jr_word.specs.declared.handle.RefKind.{RefKind}
use Rattle.jr_word.specs.declared.handle.RefKind.TheVariants.{Local, Global, Weak}
use Rattle.jr_word.specs.declared.kind.Kind.{Kind}
use Rattle.jr_word.specs.declared.kind.Kind.TheVariants.{Objects, Plain, Text}
use Rattle.jr_model.specs.Checks.{is_objects}
use Rattle.jr_model.specs.declared.event.Role.TheVariants.{Within}
use Rattle.jr_model.specs.CallPrograms.{new_array, new_object_array, new_plain, new_reference, new_string}
use Rattle.jr_model.specs.Programs.{handle, perhaps}
use Rattle.jr_world.specs.World.{Ref, World, added, change, element_to, goes_on, held, how_many, new_object, new_ref}
use Rattle.jr_world.specs.World.{object, object_in, refused_if, reserve, room_for, standing, standing_at}
use Rattle.jr_world.specs.Doing.{as_left, atom, by_step, created_in_steps, created_or_full, is_foreign_to, left_by_step}
use Rattle.jr_world.specs.Doing.{made_in_steps, made_since, named, over_world, own_or_shared, reserved, taken_or_lost}
use Rattle.jr_world.specs.Doing.{unless_refused, ◌>>=◌, ◌>>◌, Doing, Noted, Shared, as_seen, decided, entered_in_steps}
use Rattle.jr_world.specs.Doing.{has_no_owner, in_role, in_row, noted, run_alone}
use Rattle.jr_env.specs.Tries.{is_tried_again}
use Rattle.jr_scripts.specs.Names.{Names}
use Rattle.jr_scripts.specs.Posting.{ThreadWords}
use Rattle.jr_scripts.specs.Together.{calls_on, calls_on_none, tried_in_steps}
use Rattle.jr_scripts.proofs.OneRow.Alike.{frames_of}
use Rattle.jr_scripts.proofs.OneRow.Blind.{new_ref_blind}
use Rattle.jr_scripts.proofs.OneRow.Follows.{nobody, run_then}
use Rattle.jr_scripts.proofs.OneRow.Goes.{seen_is}
use Rattle.jr_scripts.proofs.TogetherRun.Lists.{how_many_both}
use Rattle.jr_scripts.proofs.Apart.Elements.{element_to_for}
use Rattle.jr_scripts.proofs.Apart.Goes.{Goes, anywhere, not_spoilt, spoilt_so}
use Rattle.jr_scripts.proofs.Apart.Grown.{added_leaps, and_object, new_word, object_leaps, ref_leaps, ref_to}
use Rattle.jr_scripts.proofs.Apart.Grown.{same_mirrored, slot_of, still_leaps, with_object, with_ref, words_leap}
use Rattle.jr_scripts.proofs.Apart.Grown.{words_stay}
use Rattle.jr_scripts.proofs.Apart.Leads.{Ends, Follows, LeadsTo, Outcome, ResultFor, StaysNoted, WasNoted, leads_then}
use Rattle.jr_scripts.proofs.Apart.Mirrors.{Asks, AtLeast, Fits, IsAlone, Mirrors, and_asks, elements_within}
use Rattle.jr_scripts.proofs.Apart.Mirrors.{made_slots}
use Rattle.jr_scripts.proofs.Apart.Numbers.{Extends, HasElement, HasKnown, IsFor, KnownFor, Numbers, Of, contents_as}
use Rattle.jr_scripts.proofs.Apart.Numbers.{element_of, extends_itself, known_of, object_of, same, word_later}
use Rattle.jr_scripts.proofs.Apart.Parts.{named_goes, room_goes}
use Rattle.jr_scripts.proofs.Apart.Programs.{looks_named}
use Rattle.jr_scripts.proofs.Apart.Rooms.{tried_leads, one_slot, one_object, To, step_leads, Once, entered_run}
use Rattle.jr_scripts.proofs.Apart.Rooms.{entered_leads, row_fits}

-- not all places are taken
not_all : (n m : ℕ) → n < m → (n == m) ≡ false
not_all n m less = grind (arith, nat_tests)

not_beyond : (n m : ℕ) → n ≤ m → nat_lt m n ≡ false
not_beyond n m less = grind (arith, nat_tests)

no_more_than : {X : Type 0} (p : X → Bool) (xs : List X) → how_many p xs ≤ length xs
no_more_than p [] = omega arith
no_more_than p (x ∷ xs) = go (p x) (no_more_than p xs)
  where
    go : (b : Bool) → how_many p xs ≤ length xs → length (cond b (x ∷ filter p xs) (filter p xs)) ≤ suc (length xs)
    go true less = omega arith
    go false less = omega arith

abbrev HandleFor : Of Handle
HandleFor j h g = IsFor j handle h g

abbrev PerhapsFor : Of (Option Handle)
PerhapsFor j h g = IsFor j (perhaps handle) h g

-- what is left of new objects and words
module _ (c : Config) where
  abbrev made_new : Kind → List ℕ → World → Bool → Result ℕ Fault × World
  made_new kind ws w b = goes_on (λ (u : Unit {0}) (v : World). (
    Ok (length v.objects),
    record v {
      objects = v.objects ++ Some (record { kind = kind; words = ws }) ∷ [];
    },
  )) (refused_if b ObjectsFull, w)

  abbrev with_new : Kind → List ℕ → ℕ → Shared → Result ℕ Fault × Shared
  with_new kind ws u x = (Ok (length x.objects), and_object u x (record { kind = kind; words = ws }))

  new_is : (kind : Kind) (ws : List ℕ) (u : ℕ) (luck : Bool) (x : Shared) → length x.objects < c.objects
      → ◌≡◌ {A = Result ℕ Fault × Shared} (over_world (new_object c kind ws) u luck x) (with_new kind ws u x)
  new_is kind ws u luck x less = ap (λ b. left_by_step u x (made_new kind ws (as_seen u x) b))
      (not_all (standing x.objects) c.objects (let few = no_more_than is_some x.objects in omega arith))

  abbrev taken : ℕ → World → Bool → Result (Unit {0}) Fault × World
  taken n w b = goes_on (λ (u : Unit {0}). change (λ v. record v { used = w.used + n }))
      (refused_if b (SpaceFull w.used), w)

  abbrev with_words : ℕ → ℕ → Shared → Shared
  with_words n u x = as_left u x (record (as_seen u x) { used = x.used + n })

  taken_is : (n u : ℕ) (luck : Bool) (x : Shared) → x.used + n ≤ c.words
      → ◌≡◌ {A = Result (Unit {0}) Fault × Shared} (over_world (reserve c n) u luck x) (Ok tt, with_words n u x)
  taken_is n u luck x fit = ap (λ b. left_by_step u x (taken n (as_seen u x) b)) (not_beyond (x.used + n) c.words fit)

-- WHERE A CALL LEADS from there, with so much to ask for, and what is to be left of that behind it
module _ (c : Config) (t : ℕ) (back : Shared) (e asked : Asks) where
  abbrev Leads : {A : Type 0} → Of A → Option Noted → Result A Fault × Shared → Doing A → Numbers → Asks → Shared
      → Type 0
  Leads Q noted w d k i y = LeadsTo c t noted (Once Q w back e asked) d k i y

  -- what is only looked at before
  looked_leads : {A B : Type 0} (P : Of A) (Q : Of B) (d alone : Doing A) (next other : A → Doing B)
      (noted : Option Noted) (k : Numbers) (i : Asks) → Goes c t anywhere P k d alone
      → (run_alone 0 true alone back).1 ≡ back → IsAlone k back → AtLeast i e
      → ((now : Option Noted) (j : Numbers) (p : Asks) (u v : A) → StaysNoted noted now → Extends k j
      → IsAlone j back → AtLeast p i → P j u v → Leads Q now (run_alone 0 true (other v) back) (next u) j p back)
      → Leads Q noted (run_alone 0 true (alone >>= other) back) (d >>= next) k i back
  looked_leads {A} {B} P Q d alone next other noted k i first kept lone least rest = subst
      (λ (w : Result B Fault × Shared). Leads Q noted w (d >>= next) k i back)
      (sym (run_then nobody 0 alone (unless_refused other) back
      ∙ ap (λ (z : Shared). run_alone 0 true (unless_refused other x.0) z) kept))
      (leads_then c t noted (Outcome noted P x i) K d (unless_refused next) k i back lone
      (first.so k (extends_itself k) noted i back lone tt) go)
    where
      x : Result A Fault × Shared
      x = run_alone 0 true alone back

      K : Ends B
      K = Once Q (run_alone 0 true (unless_refused other x.0) back) back e asked

      each : (now : Option Noted) (j : Numbers) (p : Asks) (r q : Result A Fault) → StaysNoted noted now → Extends k j
          → IsAlone j back → ResultFor (P j) r q → AtLeast p i
          → Leads Q now (run_alone 0 true (unless_refused other q) back) (unless_refused next r) j p back
      each now j p (Ok u) (Ok v) stays more there for enough = rest now j p u v stays more there enough for
      each now j p (Ok u) (Err f) stays more there for enough = absurd for
      each now j p (Err d) (Ok v) stays more there for enough = absurd for
      each now j p (Err d) (Err f) stays more there for enough =
          inl (inl (tt, for, refl, (omega arith, omega arith, omega arith)))

      go : (now : Option Noted) (j : Numbers) (p : Asks) (r : Result A Fault) (z : Shared) → Extends k j
          → IsAlone j z → Outcome noted P x i now j p r z → LeadsTo c t now K (unless_refused next r) j p z
      go now j p r z more there (inl (stays, for, at, enough)) =
          subst (λ (v : Shared). LeadsTo c t now K (unless_refused next r) j p v) (sym (at ∙ kept))
          (each now j p r x.0 stays more (subst (IsAlone j) (at ∙ kept) there) for enough)
      go now j p (Ok u) z more there (inr bad) = absurd (not_spoilt bad)
      go now j p (Err d) z more there (inr bad) = inl (inr (spoilt_so d bad))

  -- A CALL THAT MAKES AN OBJECT: its reference
  added_leads : (since : Option Noted) (j : Numbers) (i : Asks) (y : Shared) (u : ℕ) → u < length j.objects
      → AtLeast i e → Leads HandleFor since (over_world (added u) 0 true y) (atom (added (object_of j u))) j i y
  added_leads since j i y u there least = λ luck s m fits was. (
    with_ref j s,
    i,
    (over_world (added u) 0 true y).1,
    None,
    added_leaps m u there (omega arith) (omega arith) (omega arith),
    tt,
    inl (inl (tt, new_word m (ref_to Local (object_of j u)) (ref_to Local u), refl, least)),
  )

  -- the object
  abbrev object_made : Kind → List ℕ → Doing Handle
  object_made kind ws = atom (new_object c kind ws) >>= (λ o. atom (added o))

  object_leads : (kind : Kind) (ws vs : List ℕ) (since : Option Noted) (k : Numbers) (i : Asks) (y : Shared)
      → contents_as k (is_objects kind) vs ≡ ws → elements_within k (is_objects kind) vs
      → 1 + e.objects ≤ i.objects → e.slots ≤ i.slots → e.words ≤ i.words
      → Leads HandleFor since (run_alone 0 true (object_made kind vs) y) (object_made kind ws) k i y
  object_leads kind ws vs since k i y is has objects slots words = step_leads c t since _
      (over_world (new_object c kind ws)) (unless_refused (λ o. atom (added o))) k i y (λ luck s m fits was.
      let room : length s.objects < c.objects = let f = fits.objects in omega arith in
      let room_too : length y.objects < c.objects = let few = m.fewer_objects in omega arith in (
        with_new c kind ws t s,
        new_is c kind ws t luck s room,
        (
          with_object k s,
          p,
          (with_new c kind vs 0 y).1,
          None,
          object_leaps m (record { kind = kind; words = ws }) (record { kind = kind; words = vs })
              (ap (λ (l : List ℕ). Some (record { kind = kind; words = l })) is) has (omega arith) (omega arith)
              (omega arith),
          tt,
          rest s m room_too,
        ),
      ))
    where
      p : Asks
      p = record i { objects = e.objects }

      rest : (s : Shared) → Mirrors t k s y → length y.objects < c.objects
          → Leads HandleFor None (run_alone 0 true (object_made kind vs) y) (atom (added (length s.objects)))
          (with_object k s) p (with_new c kind vs 0 y).1
      rest s m room = subst (λ (w : Result Handle Fault × Shared). Leads HandleFor None w
          (atom (added (length s.objects))) (with_object k s) p (with_new c kind vs 0 y).1)
          (sym (ap (λ (x : Result ℕ Fault × Shared). run_alone 0 true (unless_refused (λ o. atom (added o)) x.0) x.1)
          (new_is c kind vs 0 true y room)))
          (subst (λ (o : ℕ). Leads HandleFor None
          (over_world (added (length y.objects)) 0 true (with_new c kind vs 0 y).1) (atom (added o))
          (with_object k s) p (with_new c kind vs 0 y).1)
          (get_or_push k.objects (length s.objects) 0 (length y.objects) (sym m.alone.as_many_objects))
          (added_leads None (with_object k s) p (with_new c kind vs 0 y).1 (length y.objects)
          (let long = length-append k.objects (length s.objects ∷ []) in
          let many = m.alone.as_many_objects in omega arith) (omega arith, omega arith, omega arith)))

  -- its words; or others were faster
  reserved_leads : (from since : Noted) (n : ℕ) (next other : Doing Handle) (noted : Option Noted) (k : Numbers)
      (i : Asks) → n + e.words ≤ i.words → 1 + e.objects ≤ i.objects → e.slots ≤ i.slots → AtLeast i asked
      → ((now : Option Noted) (p : Asks) (x : Shared) → 1 + e.objects ≤ p.objects → e.slots ≤ p.slots
      → e.words ≤ p.words → Leads HandleFor now (run_alone 0 true other x) next k p x)
      → Leads HandleFor noted (run_alone 0 true (reserved c since n >> other) back) (reserved c from n >> next) k i back
  reserved_leads from since zero next other noted k i words objects slots least rest =
      rest noted i back objects slots (omega arith)
  reserved_leads from since (suc n) next other noted k i words objects slots least rest = step_leads c t
      noted _ (taken_or_lost c from (suc n)) (unless_refused (λ u. next)) k i back
      (λ luck s m fits was. go luck s m fits (not luck && nat_lt from.used s.used) refl)
    where
      p : Asks
      p = record i { words = e.words }

      K : Ends Handle
      K = Once HandleFor (run_alone 0 true (reserved c since (suc n) >> other) back) back e asked

      lost : Bool → (luck : Bool) (s : Shared) → Result (Unit {0}) Fault × Shared
      lost b luck s = cond b (Err (Raced from.used s.used), s) (over_world (reserve c (suc n)) t luck s)

      go : (luck : Bool) (s : Shared) → Mirrors t k s back → Fits c i s → (b : Bool)
          → (not luck && nat_lt from.used s.used) ≡ b → (x : Result (Unit {0}) Fault × Shared)
          × (taken_or_lost c from (suc n) t luck s ≡ x) × To c t K (unless_refused (λ u. next)) k i s back x
      go luck s m fits true is = (
        (Err (Raced from.used s.used), s),
        ap (λ b. lost b luck s) is,
        (k, i, back, None, still_leaps m, tt, inr (refl, refl, least)),
      )
      go luck s m fits false is =
          let room : s.used + suc n ≤ c.words = let f = fits.words in omega arith in
          let room_too : back.used + suc n ≤ c.words = let few = m.fewer_words in omega arith in (
            (Ok tt, with_words c (suc n) t s),
            ap (λ b. lost b luck s) is ∙ taken_is c (suc n) t luck s room,
            (
              k,
              p,
              with_words c (suc n) 0 back,
              None,
              words_leap m (suc n) (omega arith) (omega arith) (omega arith),
              tt,
              subst (λ (w : Result Handle Fault × Shared). Leads HandleFor None w next k p
                  (with_words c (suc n) 0 back))
                  (sym (ap (λ (x : Result (Unit {0}) Fault × Shared).
                  run_alone 0 true (unless_refused (λ u. other) x.0) x.1) (taken_is c (suc n) 0 true back room_too)))
                  (rest None p (with_words c (suc n) 0 back) objects slots (omega arith)),
            ),
          )

  -- all of it
  made_leads : (from since : Noted) (kind : Kind) (ws vs : List ℕ) (noted : Option Noted) (k : Numbers) (i : Asks)
      → IsAlone k back → contents_as k (is_objects kind) vs ≡ ws → elements_within k (is_objects kind) vs
      → length ws ≡ length vs → length ws + e.words ≤ i.words → 1 + e.objects ≤ i.objects → e.slots ≤ i.slots
      → AtLeast i asked → Leads HandleFor noted (run_alone 0 true (made_in_steps c since kind vs) back)
      (made_in_steps c from kind ws) k i back
  made_leads from since kind ws vs noted k i lone is has long words objects slots least = looked_leads same HandleFor
      (atom (room_for c 1)) (atom (room_for c 1)) _ (λ u. reserved c since (length vs) >> object_made kind vs) noted k i
      (room_goes 1) (seen_is 0 back lone.tidy) lone (omega arith, omega arith, omega arith)
      (λ now j p u v stays more there enough for. let it = words_stay more (is_objects kind) vs has in
      subst (λ n. Leads HandleFor now (run_alone 0 true (reserved c since n >> object_made kind vs) back)
      (reserved c from (length ws) >> object_made kind ws) j p back) long
      (reserved_leads from since (length ws) _ _ now j p (omega arith) (omega arith) (omega arith)
      (omega arith, omega arith, omega arith)
      (λ late a b fewer low less. object_leads kind ws vs late j a b (it.0 ∙ is) it.1 fewer low less)))

-- WHERE A CALL LEADS THAT MAKES A REFERENCE IN A SLOT
less_is : (n m : ℕ) → n < m → nat_lt n m ≡ true
less_is n m less = grind (arith, nat_tests)

not_up_to : (n m : ℕ) → m < n → nat_le n m ≡ false
not_up_to n m less = grind (arith, nat_tests)

either_way : {X : Type 0} (b d : Bool) (x y : X) → d ≡ false → cond b x (cond d y x) ≡ x
either_way true d x y is = refl
either_way false d x y is = ap (λ b. cond b y x) is

at_once : {X : Type 0} (b : Bool) (x y : X) → b ≡ true → cond b x y ≡ x
at_once b x y is = ap (λ d. cond d x y) is

one_slot_is : (o : ℕ) (r : RefKind) → (r ≡ Local → ⊥) → slot_of r o ≡ 1
one_slot_is o Local shared = absurd (shared refl)
one_slot_is o Global shared = refl
one_slot_is o Weak shared = refl

module _ (c : Config) (t : ℕ) (r : RefKind) (shared : r ≡ Local → ⊥) where
  -- it isn't full
  not_full : (from : Noted) (s : Shared) → WasNoted (Some from) s → made_slots s < c.slots
      → nat_le c.slots (from.standing + made_since from.made s.owners) ≡ false
  not_full from s was room = not_up_to c.slots (from.standing + made_since from.made s.owners)
      (let parts = how_many_both has_no_owner (take from.made s.owners) (drop from.made s.owners) in
      let whole : how_many has_no_owner (take from.made s.owners ++ drop from.made s.owners) ≡ made_slots s =
      ap (how_many has_no_owner) (take-append-drop from.made s.owners) in
      let few = was.1 in
      omega arith)

  created_leads : (from since : Noted) (x y : Option ℕ) (back : Shared) (e asked : Asks) (k : Numbers) (i : Asks)
      (z : Shared) → x ≡ known_of k y → HasKnown k y → 1 + e.slots ≤ i.slots → e.objects ≤ i.objects
      → e.words ≤ i.words → LeadsTo c t (Some from) (Once PerhapsFor
      (run_alone 0 true (created_in_steps c since r y) z) back e asked) (created_in_steps c from r x) k i z
  created_leads from since x None back e asked k i z is has slots objects words = subst
      (λ (o : Option ℕ). LeadsTo c t (Some from) (Once PerhapsFor
      (run_alone 0 true (created_in_steps c since r None) z) back e asked) (created_in_steps c from r o) k i z) (sym is)
      (inl (inl (tt, tt, refl, (omega arith, omega arith, omega arith))))
  created_leads from since x (Some o) back e asked k i z is has slots objects words = subst
      (λ (u : Option ℕ). LeadsTo c t (Some from) (Once PerhapsFor
      (run_alone 0 true (created_in_steps c since r (Some o)) z) back e asked) (created_in_steps c from r u) k i z)
      (sym is)
      (step_leads c t (Some from) _ (created_or_full c from r (object_of k o)) (unless_refused (λ h. decided (Ok
      (Some h))))
      k i z (λ luck s m fits was.
      let room : made_slots s < c.slots = let f = fits.slots in omega arith in
      let room_too : in_row z < c.slots =
      let few = m.fewer_slots in let row = row_fits z m.alone.tidy in omega arith in (
        over_world (new_ref r (object_of k o)) t luck s,
        either_way (luck && nat_lt (in_row s) c.slots)
            (nat_le c.slots (from.standing + made_since from.made s.owners))
            (over_world (new_ref r (object_of k o)) t luck s) (Err RowFull, s) (not_full from s was room),
        (
          with_ref k s,
          p,
          (over_world (new_ref r o) 0 true z).1,
          None,
          ref_leaps m r o (frames_of s t) (frames_of z 0) has
              ((new_ref_blind r (object_of k o) shared).lays (as_seen t s))
              ((new_ref_blind r o shared).lays (as_seen 0 z)) (same_mirrored m)
              (let one = one_slot_is o r shared in omega arith) (omega arith) (omega arith),
          tt,
          subst (λ (w : Result Handle Fault × Shared). Once PerhapsFor
              (run_alone 0 true (unless_refused (λ h. decided (Ok (Some h))) w.0) w.1) back e asked None
              (with_ref k s) p (Ok (Some (record { 0 = length (s.refs ++ ref_to r (object_of k o) ∷ []) })))
              (over_world (new_ref r o) 0 true z).1)
              (sym (at_once (nat_lt (in_row z) c.slots) (over_world (new_ref r o) 0 true z)
              (cond (nat_le c.slots (since.standing + made_since since.made z.owners)) (Err RowFull, z)
              (over_world (new_ref r o) 0 true z)) (less_is (in_row z) c.slots room_too)))
              (inl (inl (
                tt,
                new_word m (ref_to r (object_of k o)) (ref_to r o),
                refl,
                (omega arith, omega arith, omega arith),
              ))),
        ),
      )))
    where
      p : Asks
      p = record i { slots = e.slots }

-- NO REFUSAL OF THESE is a reason to make the call again
abbrev again_of : Fault → Bool
again_of e = is_tried_again {A = Unit {0}} (Err e)

same_again : (A : Type 0) (e : Fault) → is_tried_again {A = A} (Err e) ≡ again_of e
same_again A (Raced l f) = refl
same_again A Barred = refl
same_again A (Moved l f) = refl
same_again A _ = refl

abbrev Calm : {A : Type 0} → Result A Fault → Type 0
Calm (Ok x) = Unit {0}
Calm (Err e) = again_of e ≡ false

calm_settled : {A : Type 0} (r : Result A Fault) → Calm r → is_tried_again r ≡ false
calm_settled (Ok x) calm = refl
calm_settled {A} (Err e) calm = same_again A e ∙ calm

calm_bind : {A B : Type 0} (d : Doing A) (next : A → Doing B) (z : Shared) → Calm (run_alone 0 true d z).0
    → ((x : A) (y : Shared) → Calm (run_alone 0 true (next x) y).0) → Calm (run_alone 0 true (d >>= next) z).0
calm_bind {A} {B} d next z first rest = subst (λ (w : Result B Fault × Shared). Calm w.0)
    (sym (run_then nobody 0 d (unless_refused next) z)) (go (run_alone 0 true d z).0 (run_alone 0 true d z).1 first)
  where
    go : (r : Result A Fault) (y : Shared) → Calm r → Calm (run_alone 0 true (unless_refused next r) y).0
    go (Ok x) y calm = rest x y
    go (Err e) y calm = calm

calm_if : (b : Bool) (e : Fault) → again_of e ≡ false → Calm (refused_if b e)
calm_if true e is = is
calm_if false e is = tt

calm_made : (c : Config) (since : Noted) (kind : Kind) (vs : List ℕ) (z : Shared)
    → Calm (run_alone 0 true (made_in_steps c since kind vs) z).0
calm_made c since kind vs z = calm_bind (atom (room_for c 1)) _ z
    (calm_if (nat_lt c.locals (held (as_seen 0 z) + 1)) LocalsFull refl)
    (λ u y. calm_bind (reserved c since (length vs)) _ y (words (length vs) y)
    (λ v x. calm_bind (atom (new_object c kind vs)) _ x (go x (standing x.objects == c.objects)) (λ o a. tt)))
  where
    words : (n : ℕ) (y : Shared) → Calm (run_alone 0 true (reserved c since n) y).0
    words zero y = tt
    words (suc n) y = each (nat_lt c.words (y.used + suc n))
      where
        each : (b : Bool) → Calm (taken c (suc n) (as_seen 0 y) b).0
        each true = refl
        each false = tt

    go : (x : Shared) (b : Bool) → Calm (made_new c kind vs (as_seen 0 x) b).0
    go x true = refl
    go x false = tt

calm_named : (w : ℕ) (z : Shared) → Calm (run_alone 0 true (named w) z).0
calm_named w z = calm_bind (own_or_shared w) (λ u. atom (object w)) z (calm_own (is_foreign_to 0 z w))
    (λ u y. calm_object w y)
  where
    calm_own : (b : Bool) → Calm {A = Unit {0}} (cond b (Err Foreign) (Ok tt))
    calm_own true = refl
    calm_own false = tt

    calm_in : (x : Option Ref) → Calm (object_in x)
    calm_in None = refl
    calm_in (Some x) = tt

    calm_object : (n : ℕ) (y : Shared) → Calm (over_world (object n) 0 true y).0
    calm_object zero y = tt
    calm_object (suc n) y = calm_in (standing_at y.refs n)

calm_created : (c : Config) (since : Noted) (r : RefKind) (x : Option ℕ) (z : Shared)
    → Calm (run_alone 0 true (created_in_steps c since r x) z).0
calm_created c since r None z = tt
calm_created c since r (Some o) z = calm_bind (by_step (created_or_full c since r o)) (λ h. decided (Ok (Some h))) z
    (go (nat_lt (in_row z) c.slots) (nat_le c.slots (since.standing + made_since since.made z.owners))) (λ h y. tt)
  where
    go : (b d : Bool) → Calm (cond b (over_world (new_ref r o) 0 true z)
        (cond d (Err RowFull, z) (over_world (new_ref r o) 0 true z))).0
    go true d = tt
    go false true = refl
    go false false = tt

-- an element of an object, so many times
filled_for : (k : Numbers) (n : ℕ) (x : Option ℕ) → HasKnown k x
    → (map (element_of k) (replicate n (element_to x)) ≡ replicate n (element_to (known_of k x)))
    × AllByRecursion (HasElement k) (replicate n (element_to x))
filled_for k zero x has = (refl, tt)
filled_for k (suc n) x has =
    let rest = filled_for k n x has in
    let one = element_to_for k (known_of k x) x (refl, has) in
    (λ i. sym one.0 i ∷ rest.0 i, (one.1, rest.1))

module _ {c : Config} {t : ℕ} (turns : ℕ) {k : Numbers} where
  -- a call of such work, whatever it is handed
  work_follows : {A : Type 0} (Q : Of A) (asked : Asks) (work alone : Noted → Doing A)
      → ((since : Noted) (z : Shared) → Calm (run_alone 0 true (alone since) z).0)
      → ((from since : Noted) (e : Asks) (j : Numbers) (i : Asks) (y : Shared) → Extends k j → IsAlone j y
      → AtLeast i (and_asks asked e) → LeadsTo c t (Some from)
      (Once Q (run_alone 0 true (alone since) y) y e (and_asks asked e)) (work from) j i y)
      → Follows c t Q asked k (tried_in_steps turns (entered_in_steps work))
      (tried_in_steps turns (entered_in_steps alone))
  work_follows {A} Q asked work alone calm leads = record {
    so = λ before e z lone. tried_leads c t Q (entered_in_steps work) alone e (and_asks asked e) k
        (λ j y there. ap (λ (w : Result A Fault × Shared). is_tried_again w.0) (entered_run alone j y there)
        ∙ calm_settled (run_alone 0 true (alone (noted y)) (in_role Within 0 y)).0
        (calm (noted y) (in_role Within 0 y)))
        (λ since j i y more least there. entered_leads c t Q work alone e (and_asks asked e) since j i y there
        (λ from within. leads from (noted y) e j i (in_role Within 0 y) more within least))
        turns before (and_asks asked e) z (omega arith, omega arith, omega arith) lone;
  }

  made_follows : (kind : Kind) (n : ℕ) (ws vs : List ℕ) → contents_as k (is_objects kind) vs ≡ ws
      → elements_within k (is_objects kind) vs → length ws ≡ n → length vs ≡ n
      → Follows c t HandleFor (one_object n) k
      (tried_in_steps turns (entered_in_steps (λ from. made_in_steps c from kind ws)))
      (tried_in_steps turns (entered_in_steps (λ from. made_in_steps c from kind vs)))
  made_follows kind n ws vs is has long long_too = work_follows HandleFor (one_object n)
      (λ from. made_in_steps c from kind ws) (λ since. made_in_steps c since kind vs)
      (λ since z. calm_made c since kind vs z)
      (λ from since e j i y more there least. let it = words_stay more (is_objects kind) vs has in
      made_leads c t y e (and_asks (one_object n) e) from since kind ws vs (Some from) j i there (it.0 ∙ is) it.1
      (long ∙ sym long_too) (omega arith) (omega arith) (omega arith) least)

module _ {c : Config} {t : ℕ} (turns : ℕ) (names alone : Names) (words other : ThreadWords) {k : Numbers} where
  pub reference_follows : (r : RefKind) → (r ≡ Local → ⊥) → (h g : Handle) → IsFor k handle h g
      → Follows c t (λ j. IsFor j (perhaps handle)) one_slot k (calls_on c turns names words h (new_reference r))
      (calls_on c turns alone other g (new_reference r))
  reference_follows r shared h g for = work_follows turns PerhapsFor one_slot
      (λ from. named h.0 >>= (λ x. created_in_steps c from r x))
      (λ since. named g.0 >>= (λ x. created_in_steps c since r x))
      (λ since z. calm_bind (named g.0) (λ x. created_in_steps c since r x) z (calm_named g.0 z)
      (λ x y. calm_created c since r x y))
      (λ from since e j i y more lone least. looked_leads c t y e (and_asks one_slot e) KnownFor PerhapsFor
      (named h.0) (named g.0) _ _ (Some from) j i (named_goes h.0 g.0 (word_later more h.0 g.0 for))
      (looks_named g.0 y lone.tidy) lone (omega arith, omega arith, omega arith)
      (λ now a p u v stays on there enough known. subst (λ (l : Option Noted). LeadsTo c t l (Once PerhapsFor
      (run_alone 0 true (created_in_steps c since r v) y) y e (and_asks one_slot e))
      (created_in_steps c from r u) a p y) (sym stays) (created_leads c t r shared from since u v
      y e (and_asks one_slot e) a p y known.0 known.1 (omega arith) (omega arith) (omega arith))))

  pub plain_follows : Follows c t (λ j. IsFor j handle) (one_object 0) k (calls_on_none c turns names words new_plain)
      (calls_on_none c turns alone other new_plain)
  plain_follows = made_follows turns Plain 0 [] [] refl tt refl refl

  pub array_follows : (l : Kind) (n : ℕ) → Follows c t (λ j. IsFor j handle) (one_object n) k
      (calls_on_none c turns names words (new_array l n)) (calls_on_none c turns alone other (new_array l n))
  array_follows l n = made_follows turns l n (replicate n 0) (replicate n 0) (zeros (is_objects l)).0
      (zeros (is_objects l)).1 (length-replicate n 0) (length-replicate n 0)
    where
      zeros : (b : Bool) → (contents_as k b (replicate n 0) ≡ replicate n 0) × elements_within k b (replicate n 0)
      zeros true = filled_for k n None tt
      zeros false = (refl, tt)

  pub string_follows : (units : List ℕ) → Follows c t (λ j. IsFor j handle) (one_object (length units)) k
      (calls_on_none c turns names words (new_string units)) (calls_on_none c turns alone other (new_string units))
  string_follows units = made_follows turns Text (length units) units units refl tt refl refl

  pub objects_follow : (n : ℕ) (h g : Handle) → IsFor k handle h g → Follows c t (λ j. IsFor j handle) (one_object n) k
      (calls_on c turns names words h (new_object_array n)) (calls_on c turns alone other g (new_object_array n))
  objects_follow n h g for = work_follows turns HandleFor (one_object n) (λ from. named h.0 >>= made from)
      (λ since. named g.0 >>= made since)
      (λ since z. calm_bind (named g.0) (made since) z (calm_named g.0 z)
      (λ x y. calm_made c since Objects (replicate n (element_to x)) y))
      (λ from since e j i y more lone least. looked_leads c t y e (and_asks (one_object n) e) KnownFor HandleFor
      (named h.0) (named g.0) (made from) (made since) (Some from) j i
      (named_goes h.0 g.0 (word_later more h.0 g.0 for)) (looks_named g.0 y lone.tidy) lone
      (omega arith, omega arith, omega arith)
      (λ now a p u v stays on there enough known. inner from since e a p y now u v there known.0 known.1
      (omega arith, omega arith, omega arith)))
    where
      made : Noted → Option ℕ → Doing Handle
      made from x = made_in_steps c from Objects (replicate n (element_to x))

      inner : (from since : Noted) (e : Asks) (a : Numbers) (p : Asks) (y : Shared) (now : Option Noted)
          (u v : Option ℕ) → IsAlone a y → u ≡ known_of a v → HasKnown a v → AtLeast p (and_asks (one_object n) e)
          → LeadsTo c t now (Once HandleFor (run_alone 0 true (made since v) y) y e (and_asks (one_object n) e))
          (made from u) a p y
      inner from since e a p y now u v there is has enough =
          let filled = filled_for a n v has in
          let long = length-replicate n (element_to u) in
          let long_too = length-replicate n (element_to v) in
          made_leads c t y e (and_asks (one_object n) e) from since Objects (replicate n (element_to u))
          (replicate n (element_to v)) now a p there
          (filled.0 ∙ ap (λ (x : Option ℕ). replicate n (element_to x)) (sym is)) filled.1 (long ∙ sym long_too)
          (omega arith) (omega arith) (omega arith) enough
