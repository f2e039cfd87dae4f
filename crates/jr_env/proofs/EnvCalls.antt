-- A call of an env, for whatever was known.
use Rattle.std.proofs.Common.{◌≡◌, ◌≢◌, ◌⊎◌, ⊎_elim, inl, inr, ℕ, [], ◌∷◌, Option, Some}
use Rattle.std.proofs.Common.{None, MatchOption, Result, Ok, Err, refl, sym, ap, subst, ◌∙◌}
use Rattle.std.specs.Result.{IsErrAnd}
use Rattle.std.specs.Option.{IsSomeAnd}
use Rattle.std.proofs.lemmas.Result.{err_from_is_err_and}
use Rattle.jr_word.specs.declared.config.Config.{Config}
use Rattle.jr_word.specs.declared.fault.Fault.{Fault}
use Rattle.jr_word.specs.declared.handle.Handle.{Handle as HandleWord}
use Rattle.jr_word.specs.Handle.{handle_word}
use Rattle.jr_model.specs.declared.event.Role.{Role}
use Rattle.jr_model.specs.declared.event.Role.TheVariants.{Outside}
use Rattle.jr_model.specs.declared.event.Act.TheVariants.{Gate}
use Rattle.jr_model.specs.declared.event.GateAct.TheVariants.{Leave}
use Rattle.jr_model.specs.State.{Handle, State}
use Rattle.jr_model.specs.Frames.{Frames}
use Rattle.jr_model.specs.Calls.{Call}
use Rattle.jr_model.specs.Parts.{leave}
use Rattle.jr_steps.specs.Knowing.{AreOf, Facts, Standing, anything, lets_go, Holds, Took}
use Rattle.jr_gate.specs.Performing.{ThreadState}
use Rattle.jr_frames.specs.Table.{Table}
use Rattle.jr_frames.specs.OverSteps.{CallsWhole}
use Rattle.jr_env.specs.Works.{Completes}
use Rattle.jr_env.specs.Deeds.{CarriedOut, Deed, DoesDeed, DoesOutside, after_exit, answered_by, call, call_by}
use Rattle.jr_env.specs.Requests.{packed, packed_if}
use Rattle.jr_env.proofs.Carrying.{did_both, did_in_role, did_more, does_both, own_call}
use Rattle.jr_env.proofs.EndedStays.{leaves}

-- the word of a handle that was packed
pub packed_is : (w : HandleWord) (h : Handle) → w.0 ≡ handle_word h → w ≡ packed h
packed_is w h e = ap (λ (n : ℕ). let v : HandleWord = record { 0 = n } in v) e

pub packed_if_is : (w : Option HandleWord) (z : Option Handle)
    → MatchOption z (w ≡ None) (λ h. IsSomeAnd w (λ v. v.0 ≡ handle_word h)) → w ≡ packed_if z
packed_if_is w None e = e
packed_if_is (Some v) (Some h) e = ap (λ x. Some x) (packed_is v h e)
packed_if_is None (Some h) e = absurd e

-- a thread stands outside, or it doesn't
pub outside_or : (r : Role) → (r ≡ Outside) ⊎ (r ≢ Outside)
outside_or Outside = inl refl
outside_or _ = inr (λ e. cc)

module _ {S : Type 0} {facts : S → Facts} where
  -- THE EXIT from a stay that a region left, and then a deed
  pub did_left : {A : Type 0} {o a b : S} {f g : Frames} {deed : Deed A} {answer : Result A Fault}
      → Took facts o a (Gate Leave ∷ []) anything lets_go → DoesDeed facts a b f g deed answer
      → CarriedOut facts o b f g Outside (Holds f) (Holds g) (after_exit deed) answer
  did_left {o = o} {a = a} {f = f} took d =
      let l = leaves facts o a f took in
      let leaving : CarriedOut facts o a f f Outside (Holds f) (Holds f) (call (λ c last t s. leave)) (Ok tt) =
      record { stands_is = l.stands_is; did = λ k s m. let x = l.ran k s m in (x.0, x.1, x.3.1, (x.2, x.3.0)) } in
      did_both (λ p m q x y. (m, x, y)) leaving (did_in_role (ap (λ (s : Standing). s.role) took.stands_is) d)

  -- what was done is another deed, too
  pub does_more : {A B : Type 0} {a b : S} {f g : Frames} {one : Deed A} {two : Deed B} {once : Result A Fault}
      {answer : Result B Fault} → ((p q : ThreadState) → one p once q → two p answer q)
      → DoesOutside facts a b f g one once → DoesOutside facts a b f g two answer
  does_more w d = record {
    does = λ out. did_more w (d.does out);
    left = λ no. did_more (λ p q x. (x.0, x.1, w x.0 q x.2)) (d.left no);
    outside = d.outside;
  }

  -- two deeds, one after the other
  pub does_next : {A B C : Type 0} {a b c : S} {f g h : Frames} {one : Deed A} {two : Deed B} {both : Deed C}
      {once : Result A Fault} {next : Result B Fault} {answer : Result C Fault}
      → ((p m q : ThreadState) → one p once m → two m next q → both p answer q) → DoesOutside facts a b f g one once
      → DoesOutside facts b c g h two next → DoesOutside facts a c f h both answer
  does_next w d e = record {
    does = λ out. does_both w (d.does out) (e.does d.outside);
    left = λ no.
        did_in_role d.outside (did_both (λ p m q x y. (x.0, x.1, w x.0 m q x.2 y)) (d.left no) (e.does d.outside));
    outside = e.outside;
  }

  -- a call leaves the room as it is
  pub same_room : {A : Type 0} {a b : S} {f g : Frames} {deed : Deed A} {answer : Result A Fault}
      → DoesOutside facts a b f g deed answer → (facts b).stands.config ≡ (facts a).stands.config
  same_room {a = a} d = ⊎_elim (λ out. (d.does out).stands_is.config) (λ no. (d.left no).stands_is.config)
      (outside_or (facts a).stands.role)

  module _ (fits : AreOf facts) {A : Type 0} where
    whole_by : {a b : S} {f g : Frames} {answer : Result A Fault} (silent : Config → ℕ)
        (work : Config → ℕ → ℕ → State → Call A) → CallsWhole facts a b f g (silent (facts a).stands.config)
        (work (facts a).stands.config (facts a).stands.last (facts a).stands.thread) answer
        → DoesDeed facts a b f g (call_by silent work) answer
    whole_by silent work p = record {
      stands_is = p.stands_is;
      did = λ k s m. let x = p.ran k s m in (x.0, x.1, x.3.1, (own_call facts fits silent work k x.0 s x.2, x.3.0));
    }

    module _ {a b : S} {t u : Table} {answer : Result A Fault} (silent : Config → ℕ) where
      pub does_call_by : (work : Config → ℕ → ℕ → State → Call A)
          → Completes facts a b t u (silent (facts a).stands.config)
          (work (facts a).stands.config (facts a).stands.last (facts a).stands.thread) answer
          → DoesOutside facts a b t.frames u.frames (call_by silent work) answer
      does_call_by work p = record {
        does = λ out. whole_by silent work (p.call out);
        left = λ no.
            let x = p.left no in
            did_left x.1 (whole_by silent work (subst (λ (s : Standing). CallsWhole facts x.0 b t.frames u.frames
            (silent s.config) (work s.config s.last s.thread) answer) (sym (x.1).stands_is) x.2));
        outside = p.ready.role_is;
      }

  module _ {a b : S} {A B : Type 0} {f g : Frames} where
    -- the answer in another form
    pub does_answer : {deed : Deed A} {x : A} {y : B} (form : A → B) → y ≡ form x
        → DoesOutside facts a b f g deed (Ok x) → DoesOutside facts a b f g (answered_by form deed) (Ok y)
    does_answer {x = x} form is = does_more (λ p q d. inl (x, q, d, (ap (λ v. Ok v) is, refl)))

    pub does_refuse : {deed : Deed A} {e : Fault} (form : A → B) (answer : Result B Fault)
        → IsErrAnd answer (λ y. y ≡ e) → DoesOutside facts a b f g deed (Err e)
        → DoesOutside facts a b f g (answered_by form deed) answer
    does_refuse {e = e} form answer given = let why = err_from_is_err_and answer given in
        does_more (λ p q d. inr (e, why.1 ∙ ap (λ (v : Fault). Err v) why.2, d))
