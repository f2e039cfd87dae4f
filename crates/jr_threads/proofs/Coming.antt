-- What native code did with its env, as what its thread did with its pass.
use Rattle.std.proofs.Common.{◌≡◌, Ok, Result, subst, sym, refl}
use Rattle.jr_model.specs.Frames.{Frames, fresh_frames}
use Rattle.jr_steps.specs.Knowing.{Facts, Spent}
use Rattle.jr_word.specs.declared.fault.Fault.{Fault}
use Rattle.jr_env.proofs.Carrying.{did_more}
use Rattle.jr_rule.specs.declared.pass.Pass.{Pass}
use Rattle.jr_rule.specs.Passes.{Holder, facts_of, holder_of, standing_of}
use Rattle.jr_env.specs.Deeds.{Deed, DoesDeed, DoesOutside}
use Rattle.jr_threads.specs.Parts.{DidOver, DidWithPass, replied}

-- from the moment that the steps of a pass were made, and the pass was spent
pub come : {S : Type 0} (holder : S → Holder) {A : Type 0} (deed : Deed A) (made a b : S) (p : Pass) (now : Holder)
    (f g : Frames) (x : A)
    → Spent (λ s. facts_of (holder s)) made a → DoesDeed (λ s. facts_of (holder s)) a b f g deed (Ok x)
    → holder made ≡ holder_of p → now ≡ holder b → f ≡ fresh_frames (standing_of p).config.locals
    → DidWithPass deed p now x
come holder deed made a b p now f g x spent d old new fresh =
    let here : DoesDeed facts_of (holder a) (holder b) f g deed (Ok x) =
    record { stands_is = d.stands_is; did = d.did } in
    let spends : Spent facts_of (holder made) (holder a) =
    record { stands_is = spent.stands_is; hint_is = spent.hint_is; same = spent.same } in
    record {
      spent = holder a;
      spends = subst (λ z. Spent facts_of z (holder a)) old spends;
      frames = g;
      did = subst (λ h. DoesDeed facts_of (holder a) now h g deed (Ok x)) fresh
          (subst (λ z. DoesDeed facts_of (holder a) z f g deed (Ok x)) (sym new) here);
    }

-- what native code did in an env over steps, which were spent for it and came back of it
pub did_over : {S A : Type 0} (facts : S → Facts) (deed : Deed A) (made a b now : S) (f g : Frames) (x : A)
    → Spent facts made a → DoesDeed facts a b f g deed (Ok x) → now ≡ b
    → f ≡ fresh_frames (facts made).stands.config.locals → DidOver facts deed made now x
did_over facts deed made a b now f g x spent d same fresh = record {
  spent = a;
  spends = spent;
  frames = g;
  did = subst (λ h. DoesDeed facts a now h g deed (Ok x)) fresh
      (subst (λ z. DoesDeed facts a z f g deed (Ok x)) (sym same) d);
}

-- what a call of an env did, as what native code did that hands its reply on
pub does_replied : {S : Type 0} {facts : S → Facts} {A : Type 0} {a b : S} {f g : Frames} {deed : Deed A}
    {reply : Result A Fault} → DoesOutside facts a b f g deed reply
    → DoesOutside facts a b f g (replied deed) (Ok reply)
does_replied {reply = reply} d = record {
  does = λ out. did_more (λ p q e. (reply, refl, e)) (d.does out);
  left = λ inside. did_more (λ p q e. (e.0, e.1, (reply, refl, e.2))) (d.left inside);
  outside = d.outside;
}
