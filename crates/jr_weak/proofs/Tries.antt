-- Tries to shut a gate that was announced to be shut, one after the other.
use Rattle.std.proofs.Common.{◌≡◌, ◌<◌, ◌≤◌, ◌+◌, ℕ, List, [], ◌∷◌, ◌++◌, map, length, sym, ap, subst, ◌∙◌, arith}
use Rattle.std.proofs.lemmas.List.{length-append, map-append}
use Rattle.jr_word.specs.declared.fault.Fault.TheVariants.{Busy}
use Rattle.jr_model.specs.declared.event.Act.{Act}
use Rattle.jr_model.specs.declared.event.Act.TheVariants.{Gate, ShutBusy}
use Rattle.jr_model.specs.declared.event.GateAct.TheVariants.{Cancel, Shut}
use Rattle.jr_model.specs.History.{Did}
use Rattle.jr_model.proofs.Stays.{did_nothing, did_then}
use Rattle.jr_steps.specs.declared.known.Known.{Known}
use Rattle.jr_steps.specs.Knowing.{AreOf, Facts, Took, Takes, anything, keeps}
use Rattle.jr_steps.specs.Knowing.{lets_go, standing_after, view, IsClosedNow}
use Rattle.jr_steps.proofs.StepFacts.{goes_did}
use Rattle.jr_weak.specs.Waiting.{CancelsAfter, RefusedTries, ShutsAfter}

-- one more refused try, as acts
pub one_more : (refused : List ℕ) (n : ℕ) → map ShutBusy (refused ++ n ∷ []) ≡ map ShutBusy refused ++ ShutBusy n ∷ []
one_more refused n = map-append ShutBusy refused (n ∷ [])

-- and as operations
steps_more : (refused : List ℕ) (n : ℕ) (j k l : Known) → Takes (length refused) j k → Takes 1 k l
    → Takes (length (refused ++ n ∷ [])) j l
steps_more refused n j k l a b = let long : length (refused ++ n ∷ []) ≡ length refused + 1 =
    length-append refused (n ∷ []) in omega (arith, a, b, long)

module _ {S : Type 0} {facts : S → Facts} where
  pub none_refused : AreOf facts → (a : S) → RefusedTries facts a a []
  none_refused fits a = record {
    went = record {
      stands_is = λ i. (facts a).stands;
      hint_is = λ i. (facts a).hint;
      leads = λ k s m. (k, s, did_nothing (view k) (fits a k s).legal, ((λ i. k.holdings), omega arith));
    };
  }

  pub refused_more : {a b c : S} (refused : List ℕ) (n : ℕ) → RefusedTries facts a b refused
      → Took facts b c (ShutBusy n ∷ []) anything keeps → RefusedTries facts a c (refused ++ n ∷ [])
  refused_more refused n w t = record {
    went = record {
      stands_is = t.stands_is ∙ ap (λ s. standing_after s (ShutBusy n ∷ [])) w.went.stands_is;
      hint_is = t.hint_is ∙ w.went.hint_is;
      leads = λ k s m.
          let g = w.went.leads k s tt in
          let h = t.goes g.0 g.1 tt in (
            h.0,
            h.1,
            subst (λ (l : List Act). Did (view k) (view h.0) l) (sym (one_more refused n))
                (did_then (map ShutBusy refused) (ShutBusy n ∷ []) g.2 (goes_did h.2)),
            (h.3 ∙ g.3.0, steps_more refused n k g.0 h.0 g.3.1 (h.2).taken),
          );
    };
  }

  pub shuts_after : {a b c : S} (tries : ℕ) (refused : List ℕ) → length refused < tries → RefusedTries facts a b refused
      → Took facts b c (Gate Shut ∷ []) anything (λ j k. IsClosedNow k × lets_go j k) → ShutsAfter facts a c tries
  shuts_after {b = b} tries refused few w t =
      record { refused = refused; few = few; shutting = b; waited = w; shut = t }

  pub cancels_after : {a b c d : S} (tries : ℕ) (refused : List ℕ) (n : ℕ) → 1 ≤ n → length refused + 1 ≡ tries
      → RefusedTries facts a b refused → Took facts b c (ShutBusy n ∷ []) anything keeps
      → Took facts c d (Gate Cancel ∷ []) anything lets_go
      → CancelsAfter facts a d tries (Busy n)
  cancels_after {c = c} tries refused n some all w t u = record {
    refused = refused;
    count = n;
    busy = λ i. Busy n;
    some = some;
    all = all;
    cancelling = c;
    waited = refused_more refused n w t;
    cancelled = u;
  }
