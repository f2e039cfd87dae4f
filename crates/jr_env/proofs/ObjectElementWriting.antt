-- An element of an object array is written.
use Rattle.std.proofs.Common.{◌≡◌, ℕ, Option, Some, None, [], ◌∷◌, Result, Ok, Err, inl, inr, refl, sym, subst, ◌∙◌}
use Rattle.std.specs.Result.{IsErrAnd}
use Rattle.std.proofs.lemmas.List.{append-nil}
use mathlib.Core.Logic.{∥∥₁_map}
use Rattle.jr_word.specs.declared.fault.Fault.{Fault}
use Rattle.jr_word.specs.declared.fault.Fault.TheVariants.{Null}
use Rattle.jr_word.specs.declared.header.HeaderParts.{HeaderParts}
use Rattle.jr_word.specs.declared.kind.Kind.TheVariants.{Objects}
use Rattle.jr_model.specs.declared.event.Role.TheVariants.{Within}
use Rattle.jr_model.specs.declared.event.Act.TheVariants.{Write}
use Rattle.jr_model.specs.State.{State}
use Rattle.jr_model.specs.History.{PassView, role_of, Did}
use Rattle.jr_model.specs.Windows.{IsWindow}
use Rattle.jr_model.specs.Frames.{Frames}
use Rattle.jr_model.specs.Calls.{Call, Ran, act, for_object, ◌>>=◌}
use Rattle.jr_model.specs.Checks.{Word, element_word}
use Rattle.jr_model.specs.Parts.{header, not_null}
use Rattle.jr_model.specs.References.{resolved_both}
use Rattle.jr_model.specs.Tests.{refused_by, tested}
use Rattle.jr_model.specs.Programs.{at_both, work_of}
use Rattle.jr_model.specs.CallPrograms.{element_tests, set_object_array_element}
use Rattle.jr_model.proofs.EachCall.{program_stays}
use Rattle.jr_model.proofs.Runs.{did_legal, ran_act, ran_done, ran_err, ran_refuse, ran_then}
use Rattle.jr_model.proofs.Stays.{did_then}
use Rattle.jr_model.proofs.Windows.{window_then, window_within}
use Rattle.jr_steps.specs.declared.known.Known.{Known}
use Rattle.jr_steps.specs.Knowing.{AreOf, Facts, view, state_of, keeps, HasObject}
use Rattle.jr_steps.specs.Knowing.{HasOptional, Holds, IsWordNow, KnowsHeader, MayKnow, Took}
use Rattle.jr_steps.proofs.StepFacts.{goes_did, present_stays}
use Rattle.jr_gate.specs.Performing.{Performed}
use Rattle.jr_gate.proofs.HandedOn.{handed_on}
use Rattle.jr_gate.proofs.SameRoom.{as_before, still_before}
use Rattle.jr_gate.proofs.Spending.{made_of, spending, spend_first, spend_last, spend_more, spend_step}
use Rattle.jr_heap.specs.Heap.{Called, HoldsHeader, Learns, by_steps}
use Rattle.jr_heap.proofs.Headers.{learnt}
use Rattle.jr_heap.proofs.StayFacts.{object_later}
use Rattle.jr_frames.specs.OverSteps.{ResolvesBoth}
use Rattle.jr_frames.proofs.FramesAgree.{holds_did}
use Rattle.jr_env.proofs.AtObjects.{behind_tests, looked_by, stopped}
use Rattle.jr_env.proofs.ObjectElementChecks.{element_passed}
use Rattle.jr_frames.proofs.FoundObject.{ran_for, spend_look}

-- what was seen after a call within a stay, with no act
ran_ahead : {A : Type 0} {p q r : PassView} {f g : Frames} {call : Call A} (x : A) → Ran p q f g call (Ok x)
    → Did q r [] → role_of q ≡ Within → Ran p r f g call (Ok x)
ran_ahead {p = p} {r = r} x a d within =
    let w = window_then a.acts [] a.did d a.window (window_within [] d within tt) in
    record {
      acts = a.acts;
      did = subst (λ l. Did p r l) (append-nil a.acts) (did_then a.acts [] a.did d);
      is = a.is;
      begun = w.begun;
      window = subst (λ l. IsWindow p r l w.begun) (append-nil a.acts) w.window;
      grounds = tt;
    }

-- the resolution of two references
abbrev pub resolving_both : {S : Type 0} → (S → Facts) → S → Word → Word → Call (Option ℕ × Option ℕ)
resolving_both facts a v w = resolved_both (facts a).stands.config (facts a).stands.last (facts a).stands.thread v w

-- what follows it
abbrev put_there : ℕ → State → ℕ → Option ℕ → Call (Unit {0})
put_there i s o z = for_object s o (λ k n. tested (element_tests i k n) (act (Write o i (element_word z))))

abbrev put_at : ℕ → State → Option ℕ × Option ℕ → Call (Unit {0})
put_at i s x = not_null x.0 >>= (λ o. put_there i s o x.1)

-- the word that an element becomes is 0 or names a present object
named_word : (z : Option ℕ) (k : Known) → HasOptional z k → IsWordNow Objects (element_word z) k
named_word None k p = inl refl
named_word (Some o) k p = inr p

optional_later : (k k' : Known) (z : Option ℕ) → Did (view k) (view k') [] → role_of (view k) ≡ Within → HasOptional z k
    → HasOptional z k'
optional_later k k' None d w p = tt
optional_later k k' (Some o) d w p = present_stays k k' [] o d w tt p

-- the work of a writing
abbrev Writes : {S : Type 0} → (S → Facts) → S → S → Frames → Word → ℕ → Word → Result (Unit {0}) Fault → Type 0
Writes facts a b f v i w answer = Performed facts a b f f 1 (Holds f)
    (λ s. work_of (facts a).stands.config (facts a).stands.last (facts a).stands.thread s (at_both v w)
    (set_object_array_element i)) answer (λ j k. Unit {0} × Holds f k)

module _ {S : Type 0} {facts : S → Facts} {a b : S} {f : Frames} (v w : Word) (i : ℕ) where
  pub writes_no_reference : {e : Fault} (answer : Result (Unit {0}) Fault) → IsErrAnd answer (λ y. y ≡ e)
      → ResolvesBoth facts a b f (resolving_both facts a v w) (Err e) → Writes facts a b f v i w answer
  writes_no_reference {e} answer given p = handed_on answer given (record {
    stands_is = p.stands_is;
    ran = λ k s m. let x = p.ran k s m in
        (x.0, x.1, made_of (spend_more 1 (spending x.2)) (ran_err (put_at i (state_of x.0)) e x.2.ran), (tt, x.3.1));
  })

  pub writes_null : {y z : Option ℕ} → y ≡ None → ResolvesBoth facts a b f (resolving_both facts a v w) (Ok (y, z))
      → Writes facts a b f v i w (Err Null)
  writes_null {z = z} is r =
      let p = subst (λ q. ResolvesBoth facts a b f (resolving_both facts a v w) (Ok (q, z))) is r in record {
        stands_is = p.stands_is;
        ran = λ k s m. let x = p.ran k s m in
            let l = did_legal x.2.ran.acts x.2.ran.did in (
              x.0,
              x.1,
              made_of (spend_more 1 (spending x.2)) (ran_then {next = put_at i (state_of x.0)} (None, z) x.2.ran
                  (ran_err (λ q. put_there i (state_of x.0) q z) Null (ran_refuse (view x.0) f Null tt l))),
              (tt, x.3.1),
            );
      }

  -- the array may be looked at
  pub may_look : {y z : Option ℕ} {o : ℕ} → y ≡ Some o
      → ResolvesBoth facts a b f (resolving_both facts a v w) (Ok (y, z)) → MayKnow facts a (Holds f)
      → MayKnow facts b (HasObject o)
  may_look {z = z} is r some =
      let p = subst (λ q. ResolvesBoth facts a b f (resolving_both facts a v w) (Ok (q, z))) is r in
      ∥∥₁_map some (λ k. let x = p.ran k.0 k.1 k.2 in (x.0, x.1, x.3.2.0))

-- what is known after the look at the header
abbrev pub Looked : ℕ → HeaderParts → Option ℕ → Frames → Known → Type 0
Looked o h z f k = HoldsHeader o h k × HasOptional z k × Holds f k

module _ {S : Type 0} {facts : S → Facts} (fits : AreOf facts) {a b c : S} {f : Frames} {o : ℕ} {h : HeaderParts}
    {y z : Option ℕ} (v w : Word) (i : ℕ) (is : y ≡ Some o)
    (both : ResolvesBoth facts a b f (resolving_both facts a v w) (Ok (y, z))) (within : (facts a).stands.role ≡ Within)
    (same : (facts c).stands ≡ (facts b).stands)
    (look : Called facts b c (HasObject o) (λ j k. header (state_of k) o) (Ok (h.kind, h.length))
    (by_steps 1 (Learns o h))) where
  -- what is written is a word of the array
  named_now : refused_by (element_tests i h.kind h.length) ≡ Ok tt → {n : ℕ} → n ≡ element_word z → (k : Known)
      → Looked o h z f k → KnowsHeader o h k × IsWordNow h.kind n k
  named_now checks {n} word k m = (
    m.0.known,
    subst (λ q. IsWordNow q n k) (sym (element_passed i h.kind h.length checks).0)
        (subst (λ q. IsWordNow Objects q k) (sym word) (named_word z k m.1)),
  )

  resolves_there : ResolvesBoth facts a b f (resolving_both facts a v w) (Ok (Some o, z))
  resolves_there = subst (λ q. ResolvesBoth facts a b f (resolving_both facts a v w) (Ok (q, z))) is both

  -- the references, and then the header
  pub looked : Performed facts a c f f 1 (Holds f) (λ s. resolving_both facts a v w) (Ok (Some o, z)) (λ j k.
      Looked o h z f k)
  looked = record {
    stands_is = still_before resolves_there.stands_is (as_before _ same);
    ran = λ k s m.
        let x = resolves_there.ran k s m in
        let u = look.ran x.0 x.1 x.3.2.0 in
        let seen = u.2 f in
        let d : Did (view x.0) (view u.0) [] = subst (λ l. Did (view x.0) (view u.0) l) seen.is.2.0 seen.did in
        let role = (fits b x.0 x.1).role ∙ (resolves_there.stands_is.role ∙ within) in (
          u.0,
          u.1,
          made_of (spend_last (spending x.2) (spend_look f same look x.0 x.1 x.3.2.0))
              (ran_ahead (Some o, z) x.2.ran d role),
          (learnt o h x.0 u.0 u.3.0, optional_later x.0 u.0 z d role x.3.2.1, holds_did x.0 u.0 f [] d tt x.3.1),
        );
  }

  pub may_write : refused_by (element_tests i h.kind h.length) ≡ Ok tt → {n : ℕ} → n ≡ element_word z
      → MayKnow facts a (Holds f) → MayKnow facts c (λ k. KnowsHeader o h k × IsWordNow h.kind n k)
  may_write checks word some = ∥∥₁_map some (λ k. let x = looked.ran k.0 k.1 k.2 in
      (x.0, x.1, named_now checks word x.0 x.3))

  -- what is done at the array, once its header is known
  done_there : {d : S} {answer : Result (Unit {0}) Fault}
      → Performed facts c d f f 0 (Looked o h z f)
      (λ s. tested (element_tests i h.kind h.length) (act (Write o i (element_word z)))) answer (λ j k. Holds f k)
      → Writes facts a d f v i w answer
  done_there {d} {answer} q =
      let at = (facts a).stands in
      record {
        stands_is = still_before looked.stands_is q.stands_is;
        ran = λ k s m.
            let x = looked.ran k s m in
            let u = q.ran x.0 x.1 x.3 in
            let r = u.2.ran in
            let to = state_of u.0 in
            let l = did_legal x.2.ran.acts x.2.ran.did in
            let role = (fits c x.0 x.1).role ∙ (looked.stands_is.role ∙ within) in
            let stays = program_stays at.config at.last at.thread to (at_both v w)
            (looked_by (set_object_array_element i) h.kind h.length) (at_both (Some o) z) o f f r.acts answer r.is in
            let shown = object_later x.0 u.0 r.acts r.did role stays o h x.3.0.shown in (
              u.0,
              u.1,
              made_of (spend_first (spending x.2) (spending u.2))
                  (ran_then {next = put_at i to} (Some o, z) x.2.ran
                  (ran_then {next = λ q. put_there i to q z} o (ran_done (view x.0) f o l) (ran_for u.0 o h (λ l n.
                  tested (element_tests i l n) (act (Write o i (element_word z)))) shown r))),
              (tt, u.3),
            );
      }

  -- there is no such element
  pub writes_nothing : {e : Fault} (answer : Result (Unit {0}) Fault) → IsErrAnd answer (λ y. y ≡ e)
      → refused_by (element_tests i h.kind h.length) ≡ Err e → Writes facts a c f v i w answer
  writes_nothing answer given is = done_there (handed_on answer given (stopped (element_tests i h.kind h.length)
      (λ s. act (Write o i (element_word z))) fits (refl, (refl, (refl, tt))) is (λ k m. m.2)))

  pub writes_element : {d : S} {n : ℕ} → refused_by (element_tests i h.kind h.length) ≡ Ok tt
      → n ≡ element_word z → Took facts c d (Write o i n ∷ []) (λ k. KnowsHeader o h k × IsWordNow h.kind n k) keeps
      → Writes facts a d f v i w (Ok tt)
  writes_element {d} {n} checks word t = done_there (behind_tests (element_tests i h.kind h.length)
      (λ s. act (Write o i (element_word z))) checks (record {
        stands_is = as_before _ t.stands_is;
        ran = λ k s m.
            let met = named_now checks word k m in
            let u = t.goes k s met in
            let did = goes_did u.2 in (
              u.0,
              u.1,
              made_of (spend_step t (λ n i. refl) k s met f f)
                  (subst (λ q. Ran (view k) (view u.0) f f (act (Write o i q)) (Ok tt)) word
                  (ran_act f (Write o i n) tt tt did)),
              holds_did k u.0 f (Write o i n ∷ []) did (refl, tt) m.2,
            );
      }))
