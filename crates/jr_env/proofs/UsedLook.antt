-- The look at the top tells how many words are used, in a stay.
use Rattle.std.proofs.Common.{◌≡◌, ℕ, [], refl, ap, subst, sym, ◌∙◌, arith}
use Rattle.std.proofs.lemmas.List.{append-nil}
use mathlib.Core.List.{IsPrefix}
use Rattle.jr_model.specs.declared.event.Found.TheVariants.{Stale}
use Rattle.jr_model.specs.declared.event.Role.TheVariants.{Within}
use Rattle.jr_model.specs.Frames.{Frames}
use Rattle.jr_model.specs.History.{History, state}
use Rattle.jr_model.specs.Checks.{Nothing}
use Rattle.jr_model.proofs.Moments.{prefix_self}
use Rattle.jr_model.proofs.Windows.{window_within}
use Rattle.jr_steps.specs.Knowing.{AreOf, Facts, ShowsUsed, Standing, Took, anything, keeps}
use Rattle.jr_steps.proofs.StepFacts.{goes_did}
use Rattle.jr_gate.proofs.SameRoom.{as_before}
use Rattle.jr_gate.proofs.Spending.{made_of, spend_acts}
use Rattle.jr_frames.proofs.FramesAgree.{holds_did}
use Rattle.jr_env.specs.Seeing.{SeesSo}
use Rattle.jr_env.specs.UsedWords.{AreUsed}

pub used_seen : {S : Type 0} {facts : S → Facts} (fits : AreOf facts) {a b : S} (f : Frames) (n : ℕ)
    → (facts a).stands.role ≡ Within → Took facts a b [] anything (λ j k. ShowsUsed n k × keeps j k)
    → SeesSo facts AreUsed a b f Nothing n
used_seen {facts = facts} fits {a} {b} f n role took = record {
  stands_is = as_before _ took.stands_is;
  ran = λ k s m.
      let y = took.goes k s tt in
      let d = goes_did y.2 in
      let same = append-nil y.0.seen in (
        y.0,
        y.1,
        made_of (spend_acts f f 1 [] 1 (omega arith) d y.2.taken (ap (λ (z : Standing). z.fresh) took.stands_is)
            took.hint_is) (record {
              acts = [];
              did = d;
              is = (Stale, n, refl, refl, refl);
              begun = k.seen;
              window = window_within [] d ((fits a k s).role ∙ role) tt;
              grounds = tt;
            }),
        (
          record {
            found = Stale;
            before = y.0.seen;
            from = d.begins;
            to = subst (λ (es : History). IsPrefix es y.0.seen) (sym same) (prefix_self y.0.seen);
            met = subst (λ (es : History). (state es).used ≡ n) (sym same) y.3.0;
          },
          holds_did k y.0 f [] d tt m,
        ),
      );
}
