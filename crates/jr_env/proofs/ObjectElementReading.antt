-- An element of an object array is read, and becomes a local reference.
use Rattle.std.proofs.Common.{◌≡◌, ◌<◌, ◌≤◌, ◌^◌, ℕ, zero, suc, Option}
use Rattle.std.proofs.Common.{[], ◌∷◌, Result, Ok, inl, inr, refl, sym, ap, subst, ◌∙◌, arith}
use Rattle.std.proofs.Math.Logic.{∥∥₁_elim}
use Rattle.std.proofs.Props.{props}
use mathlib.Core.Logic.{∥∥₁_map}
use Rattle.jr_word.specs.declared.config.Config.{Config}
use Rattle.jr_word.specs.declared.config.TheConstants.Config.{MOST_OBJECTS}
use Rattle.jr_word.specs.declared.fault.Fault.{Fault}
use Rattle.jr_word.specs.declared.header.HeaderParts.{HeaderParts}
use Rattle.jr_word.specs.declared.kind.Kind.TheVariants.{Objects}
use Rattle.jr_model.specs.declared.event.Role.TheVariants.{Within}
use Rattle.jr_model.specs.declared.event.Act.TheVariants.{Read}
use Rattle.jr_model.specs.State.{Handle}
use Rattle.jr_model.specs.History.{IsLegal}
use Rattle.jr_model.specs.Frames.{Frames}
use Rattle.jr_model.specs.Calls.{Ran, some_act, ◌>>=◌}
use Rattle.jr_model.specs.Checks.{Word, object_of_word}
use Rattle.jr_model.specs.References.{new_local}
use Rattle.jr_model.specs.Tests.{refused_by}
use Rattle.jr_model.specs.CallPrograms.{element_tests}
use Rattle.jr_model.proofs.InRoom.{in_room}
use Rattle.jr_model.proofs.Runs.{ran_some_act, ran_then}
use Rattle.jr_steps.specs.declared.known.Known.{Known}
use Rattle.jr_steps.specs.Knowing.{AreOf, Facts, Goes, Standing, view, keeps, HasOptional}
use Rattle.jr_steps.specs.Knowing.{Holds, IsWordNow, KnowsHeader, MayKnow, ShowsObject, Took}
use Rattle.jr_steps.proofs.StepFacts.{goes_did}
use Rattle.jr_gate.specs.Performing.{IsAsBefore, Performed}
use Rattle.jr_gate.proofs.SameRoom.{as_before, but_fresh, still_before}
use Rattle.jr_gate.proofs.Spending.{made_of, spending, spend_first, spend_step}
use Rattle.jr_heap.specs.Heap.{HoldsHeader}
use Rattle.jr_heap.proofs.Elements.{read_word}
use Rattle.jr_heap.proofs.StayFacts.{object_later}
use Rattle.jr_frames.specs.OverSteps.{MakesLocal}
use Rattle.jr_frames.specs.Table.{Table}
use Rattle.jr_frames.specs.Ready.{StandsReady}
use Rattle.jr_frames.proofs.FramesAgree.{holds_did}
use Rattle.jr_frames.proofs.StillReady.{ready_after, same_owner}
use Rattle.jr_frames.specs.Finding.{Finds}
use Rattle.jr_env.proofs.ObjectElementChecks.{element_passed}

-- an element of an object array that was read is 0 or a present object
named_by : {k k' : Known} (o i v : ℕ) (h : HeaderParts) → h.kind ≡ Objects → Goes k (Read o i v ∷ []) k'
    → ShowsObject o h k' → IsWordNow Objects v k'
named_by {k' = k'} o i v h kind g shown = subst (λ of. IsWordNow of v k') kind (read_word o i v h g shown)

-- the object that it names, if there is one, is present
named_optional : (v : ℕ) (k : Known) → IsWordNow Objects v k → HasOptional (object_of_word v) k
named_optional zero k w = tt
named_optional (suc n) k (inl e) = absurd cc
named_optional (suc n) k (inr p) = p

-- and has a number of the room
named_low : (v : ℕ) (k : Known) → IsLegal k.config k.last k.seen → k.config.objects ≤ MOST_OBJECTS
    → IsWordNow Objects v k → v < 2 ^ 16
named_low v k l few (inl e) = omega arith
named_low v k l few (inr p) = let high = ((in_room k.config k.last k.seen l).objects v p).1 in omega arith

module _ {S : Type 0} {facts : S → Facts} {a b : S} {o : ℕ} {h : HeaderParts} (w : Word) where
  -- what may be known of the object
  pub may_both : (f : Frames) → Finds facts a b f w (Ok (o, h)) → MayKnow facts a (Holds f)
      → MayKnow facts b (λ k. HoldsHeader o h k × Holds f k)
  may_both f p some = ∥∥₁_map some (λ k. let x = p.ran k.0 k.1 k.2 in (x.0, x.1, x.3))

  pub ready_found : (t : Table) → StandsReady facts Within a t → Finds facts a b t.frames w (Ok (o, h))
      → StandsReady facts Within b t
  ready_found t r p = ready_after {so = λ j k. HoldsHeader o h k} r (same_owner t) p

module _ {S : Type 0} {facts : S → Facts} (fits : AreOf facts) {b c : S} {o : ℕ} {h : HeaderParts} (i v : ℕ)
    (checks : refused_by (element_tests i h.kind h.length) ≡ Ok tt) (within : (facts b).stands.role ≡ Within)
    (read : Took facts b c (Read o i v ∷ []) (KnowsHeader o h) keeps) where
  -- the read, for one thing that was known
  word_read : (k : Known) (s : (facts b).knows k) (m : HoldsHeader o h k)
      → IsWordNow Objects v (read.goes k s m.known).0
  word_read k s m =
      let y = read.goes k s m.known in
      let shown = object_later k y.0 (Read o i v ∷ []) (goes_did y.2) ((fits b k s).role ∙ within) ((λ e. cc), tt) o h
      m.shown in
      named_by o i v h (element_passed i h.kind h.length checks).0 y.2 shown

  pub word_low : (f : Frames) → (facts c).stands.config.objects ≤ MOST_OBJECTS
      → MayKnow facts b (λ k. HoldsHeader o h k × Holds f k) → v < 2 ^ 16
  word_low f few may = ∥∥₁_elim may (hlevel props) (λ k.
      let y = read.goes k.0 k.1 k.2.0.known in
      let is = fits c y.0 y.1 in
      named_low v y.0 is.legal (subst (λ (z : Config). z.objects ≤ MOST_OBJECTS) (sym is.config) few)
      (word_read k.0 k.1 k.2.0))

  pub may_name : (f : Frames) {z : Option ℕ} → z ≡ object_of_word v
      → MayKnow facts b (λ k. HoldsHeader o h k × Holds f k) → MayKnow facts c (HasOptional z)
  may_name f is may = ∥∥₁_map may (λ k. let y = read.goes k.0 k.1 k.2.0.known in
      (y.0, y.1, subst (λ x. HasOptional x y.0) (sym is) (named_optional v y.0 (word_read k.0 k.1 k.2.0))))

  pub ready_read : (t : Table) → StandsReady facts Within b t
      → MayKnow facts b (λ k. HoldsHeader o h k × Holds t.frames k) → StandsReady facts Within c t
  ready_read t r may = record {
    role_is = ap (λ (s : Standing). s.role) read.stands_is ∙ r.role_is;
    spent = ap (λ (s : Standing). s.fresh) read.stands_is ∙ r.spent;
    own = record {
      owner = r.own.owner ∙ sym (ap (λ (s : Standing). s.thread) read.stands_is);
      last = r.own.last ∙ sym (ap (λ (s : Standing). s.last) read.stands_is);
      places = r.own.places ∙ sym (ap (λ (s : Standing). s.config.locals) read.stands_is);
      agrees = ∥∥₁_map may (λ k. let y = read.goes k.0 k.1 k.2.0.known in
          (y.0, y.1, holds_did k.0 y.0 t.frames (Read o i v ∷ []) (goes_did y.2) (refl, tt) k.2.1));
    };
  }

  -- the read, and the local reference, by a thread that stood so before
  pub reads_element : {s : Standing} → IsAsBefore s (facts b).stands → {d : S} {f g : Frames} {z : Option ℕ}
      {answer : Result (Option Handle) Fault} → z ≡ object_of_word v
      → MakesLocal facts c d f g z (new_local (facts c).stands.config (facts c).stands.last (facts c).stands.thread z)
      answer
      → Performed facts b d f g 0 (λ k. HoldsHeader o h k × Holds f k)
      (λ t. some_act (Read o i) >>= (λ p. new_local s.config s.last s.thread (object_of_word p))) answer (λ j k.
      Holds g k)
  reads_element {s} before {d} {f} {g} {z} {answer} is q =
      let r = subst (λ (y : Standing). MakesLocal facts c d f g z (new_local y.config y.last y.thread z) answer)
      (but_fresh (still_before before (as_before _ read.stands_is))) q in
      record {
        stands_is = still_before (as_before _ read.stands_is) r.stands_is;
        ran = λ k known m.
            let y = read.goes k known m.0.known in
            let did = goes_did y.2 in
            let x = r.ran y.0 y.1 (
              holds_did k y.0 f (Read o i v ∷ []) did (refl, tt) m.1,
              subst (λ p. HasOptional p y.0) (sym is) (named_optional v y.0 (word_read k known m.0)),
            ) in
            let made =
            subst (λ p. Ran (view y.0) (view x.0) f g (new_local s.config s.last s.thread p) answer) is x.2.ran in (
              x.0,
              x.1,
              made_of (spend_first (spend_step read (λ n i. refl) k known m.0.known f f) (spending x.2))
                  (ran_then {next = λ p. new_local s.config s.last s.thread (object_of_word p)} v
                  (ran_some_act f (Read o i) v tt tt did) made),
              x.3.1,
            );
      }
