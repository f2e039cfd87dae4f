-- A reference is made to what was resolved.
use Rattle.std.proofs.Common.{◌≡◌, ◌≤◌, ◌+◌, ◌%◌, ℕ, Bool, true, arith, Option, Some, None}
use Rattle.std.proofs.Common.{List, [], ◌∷◌, length, Result, Ok, Err, refl, sym, ap, subst, ◌∙◌}
use Rattle.std.specs.List.{AllByRecursion}
use Rattle.std.specs.Result.{IsErrAnd}
use mathlib.Core.Logic.{∥∥₁_map}
use Rattle.jr_word.specs.declared.config.Config.{Config}
use Rattle.jr_word.specs.declared.handle.RefKind.{RefKind}
use Rattle.jr_word.specs.declared.fault.Fault.{Fault}
use Rattle.jr_word.specs.declared.fault.Fault.TheVariants.{RowFull}
use Rattle.jr_model.specs.declared.event.Act.{Act}
use Rattle.jr_model.specs.declared.event.Role.TheVariants.{Within}
use Rattle.jr_model.specs.State.{Handle}
use Rattle.jr_model.specs.Frames.{Frames}
use Rattle.jr_model.specs.Calls.{Call, done, ◌>>=◌}
use Rattle.jr_model.specs.Parts.{created}
use Rattle.jr_model.proofs.Agreement.{spares_places}
use Rattle.jr_model.proofs.Runs.{ran_done, ran_then, ran_err, ran_give, did_legal, ran_created, ran_row_full}
use Rattle.jr_steps.specs.declared.known.Known.{Known}
use Rattle.jr_steps.specs.Knowing.{AreOf, Facts, Standing, view, fresh_from, HasObject, Holds, MayKnow}
use Rattle.jr_gate.specs.Performing.{IsAsBefore, ThreadState, hint_from, thread_state, IsMade}
use Rattle.jr_row.specs.Searching.{Searched, TwoEach, search_acts}
use Rattle.jr_frames.specs.OverSteps.{Resolves, Calls}
use Rattle.jr_gate.proofs.SameRoom.{as_before, still_before}
use Rattle.jr_frames.proofs.FramesAgree.{holds_did}
use Rattle.jr_gate.proofs.Spending.{Spending, made_of, spending, spend_first, spend_acts}
use Rattle.jr_gate.proofs.HandedOn.{handed_on}

search_spares : (o : ℕ) (looks : List (ℕ × Bool)) (made : Option Handle)
    → AllByRecursion (λ a. spares_places a ≡ true) (search_acts o looks made)
search_spares o [] None = tt
search_spares o [] (Some h) = (refl, tt)
search_spares o (l ∷ ls) None = (refl, search_spares o ls None)
search_spares o (l ∷ ls) (Some h) = (refl, search_spares o ls (Some h))

-- a search stores no local word
search_fresh : (b : Bool) (o : ℕ) (looks : List (ℕ × Bool)) (made : Option Handle)
    → fresh_from b (search_acts o looks made) ≡ b
search_fresh b o [] None = refl
search_fresh b o [] (Some h) = refl
search_fresh b o (l ∷ ls) None = search_fresh b o ls None
search_fresh b o (l ∷ ls) (Some h) = search_fresh b o ls (Some h)

-- where the next search begins once one is over: behind what was won, and where nothing was, as before
abbrev hint_then : ℕ → ℕ → Option Handle → ℕ
hint_then slots hint None = hint
hint_then slots hint (Some h) = (h.index + 1) % slots

search_hint : (slots hint o : ℕ) (looks : List (ℕ × Bool)) (made : Option Handle)
    → hint_from slots hint (search_acts o looks made) ≡ hint_then slots hint made
search_hint slots hint o [] None = refl
search_hint slots hint o [] (Some h) = refl
search_hint slots hint o (l ∷ ls) None = search_hint slots hint o ls None
search_hint slots hint o (l ∷ ls) (Some h) = search_hint slots hint o ls (Some h)

-- a call, and then a search
spent : {S : Type 0} {facts : S → Facts} {A : Type 0} {b c : S} {p : ThreadState} {k : Known} {call : Call A}
    {answer : Result A Fault} {kind : RefKind} {o from to : ℕ} {order : List (ℕ × Bool) → Option Handle → Type 0}
    {made : Option Handle} (f : Frames)
    → k.config ≡ (facts b).stands.config → (facts c).hint ≡ hint_then (facts b).stands.config.slots (facts b).hint made
    → IsMade 0 p (thread_state (facts b) k f) call answer → (q : Searched facts b c kind o order from to made)
    (s : (facts b).knows k) (m : HasObject o k) → Spending 0 p (thread_state (facts c) (q.did k s m).0 f)
spent {facts = facts} {b = b} {c = c} {k = k} {o = o} {made = made} f same next x q s m =
    let y = q.did k s m in
    let count = y.6 in
    spend_first (spending x) (spend_acts f f 0 (search_acts o y.4 made) 0 (omega arith) y.5 (omega arith)
    (ap (λ (z : Standing). z.fresh) q.stands_is ∙ sym (search_fresh (facts b).stands.fresh o y.4 made))
    (next ∙ sym (search_hint k.config.slots (facts b).hint o y.4 made
    ∙ ap (λ (z : Config). hint_then z.slots (facts b).hint made) same)))

-- two acts a slot, by the room's sizes as they were before
same_slots : {old new : Standing} (acts : List Act) → IsAsBefore old new → TwoEach 0 new.config.slots acts
    → length acts ≤ old.config.slots + old.config.slots
same_slots {old} {new} acts before few =
    let same : new.config.slots ≡ old.config.slots = ap (λ (z : Config). z.slots) before.config in
    let two : 0 + 0 + length acts ≤ new.config.slots + new.config.slots = few in
    omega arith

module _ {S : Type 0} {facts : S → Facts} {a b : S} {f : Frames} {first : Call (Option ℕ)} where
  pub creates_refused : {B : Type 0} {e : Fault} (next : Option ℕ → Call B) (answer : Result B Fault)
      → IsErrAnd answer (λ y. y ≡ e) → Resolves facts a b f first (Err e) → Calls facts a b f f (first >>= next) answer
  creates_refused {e = e} next answer given p = handed_on answer given (record {
    stands_is = p.stands_is;
    ran = λ k s m. let x = p.ran k s m in (x.0, x.1, made_of (spending x.2) (ran_err next e x.2.ran), (x.3.0, x.3.1));
  })

  resolves_at : {z y : Option ℕ} → z ≡ y → Resolves facts a b f first (Ok z) → Resolves facts a b f first (Ok y)
  resolves_at is p = subst (λ w. Resolves facts a b f first (Ok w)) is p

  pub creates_none : {z : Option ℕ} (slots : ℕ) (kind : RefKind) → z ≡ None → Resolves facts a b f first (Ok z)
      → Calls facts a b f f (first >>= created slots kind) (Ok None)
  creates_none slots kind is r = let p = resolves_at is r in record {
    stands_is = p.stands_is;
    ran = λ k s m. let x = p.ran k s m in
        let r = x.2.ran in (
          x.0,
          x.1,
          made_of (spending x.2)
              (ran_then {next = created slots kind} None r (ran_done (view x.0) f None (did_legal r.acts r.did))),
          (x.3.0, x.3.1),
        );
  }

  -- the object that was found may be referred to
  pub may_create : {z : Option ℕ} {o : ℕ} → z ≡ Some o → Resolves facts a b f first (Ok z) → MayKnow facts a (Holds f)
      → MayKnow facts b (HasObject o)
  may_create is r some = let p = resolves_at is r in ∥∥₁_map some (λ k. let x = p.ran k.0 k.1 k.2 in (x.0, x.1, x.3.2))

  pub creates_full : {c : S} {z : Option ℕ} {o : ℕ} {order : List (ℕ × Bool) → Option Handle → Type 0} {e : Fault}
      (fits : AreOf facts) → (facts a).stands.role ≡ Within → (kind : RefKind) (answer : Result (Option Handle) Fault)
      → IsErrAnd answer (λ y. y ≡ e)
      → z ≡ Some o → Resolves facts a b f first (Ok z)
      → (e ≡ RowFull) × Searched facts b c kind o order 0 (facts b).stands.config.slots None
      → (facts c).hint ≡ (facts b).hint
      → Calls facts a c f f (first >>= created (facts a).stands.config.slots kind) answer
  creates_full {c} {o = o} fits w kind answer given is r why hint = let p = resolves_at is r in let q = why.1 in
      handed_on answer (subst (λ y. IsErrAnd answer (λ z. z ≡ y)) why.0 given) (record {
        stands_is = still_before p.stands_is (as_before _ q.stands_is);
        ran = λ k s m.
            let x = p.ran k s m in
            let y = q.did x.0 x.1 x.3.2 in
            let slots : y.0.config.slots ≡ (facts b).stands.config.slots =
            ap (λ (z : Config). z.slots) (y.5.config ∙ (fits b x.0 x.1).config) in
            let most = same_slots (search_acts o y.4 None) p.stands_is y.7 in (
              y.0,
              y.1,
              made_of (spent f (fits b x.0 x.1).config hint x.2 q x.1 x.3.2)
                  (ran_then {next = created (facts a).stands.config.slots kind} (Some o) x.2.ran
                  (ran_err (λ h. done (Some h)) RowFull (ran_row_full f (facts a).stands.config.slots kind o y.4
                  ((fits b x.0 x.1).role ∙ (p.stands_is.role ∙ w)) most y.5 (λ i l.
                  y.3 i (omega arith) (omega arith))))),
              (y.8 ∙ x.3.0, holds_did x.0 y.0 f (search_acts o y.4 None) y.5 (search_spares o y.4 None) x.3.1),
            );
      })

  pub creates_won : {c : S} {z : Option ℕ} {o : ℕ} {order : List (ℕ × Bool) → Option Handle → Type 0} {kind : RefKind}
      {h : Handle} → AreOf facts → z ≡ Some o → Resolves facts a b f first (Ok z)
      → Searched facts b c kind o order 0 (facts b).stands.config.slots (Some h)
      → (facts c).hint ≡ (h.index + 1) % (facts b).stands.config.slots
      → Calls facts a c f f (first >>= created (facts a).stands.config.slots kind) (Ok (Some h))
  creates_won {o = o} {kind = kind} {h = h} fits is r q hint = let p = resolves_at is r in record {
    stands_is = still_before p.stands_is (as_before _ q.stands_is);
    ran = λ k s m.
        let x = p.ran k s m in
        let y = q.did x.0 x.1 x.3.2 in
        let most = same_slots (search_acts o y.4 (Some h)) p.stands_is y.7 in (
          y.0,
          y.1,
          made_of (spent f (fits b x.0 x.1).config hint x.2 q x.1 x.3.2)
              (ran_then {next = created (facts a).stands.config.slots kind} (Some o) x.2.ran (ran_give (λ z. Some z) h
              (ran_created f (facts a).stands.config.slots kind o h y.4 q.kind_is.0 most y.5))),
          (y.8 ∙ x.3.0, holds_did x.0 y.0 f (search_acts o y.4 (Some h)) y.5 (search_spares o y.4 (Some h)) x.3.1),
        );
  }
