-- Where native code begins, and what it did from there up to a note.
use Rattle.std.proofs.Common.{◌≡◌, ◌∙◌, ℕ, [], Ok, ap, refl, subst, sym}
use Rattle.jr_word.specs.declared.config.Config.{Config}
use Rattle.jr_model.specs.Frames.{Frames, fresh_frames}
use Rattle.jr_model.specs.History.{History}
use Rattle.jr_model.proofs.Agreement.{fresh_agree}
use Rattle.jr_steps.specs.declared.known.Known.{Known}
use Rattle.jr_steps.specs.Holdings.{empty}
use Rattle.jr_steps.specs.Knowing.{AreOf, Facts, Holds, Spent, Standing}
use Rattle.jr_gate.specs.Performing.{ThreadState, thread_state}
use Rattle.jr_rule.specs.declared.pass.Pass.{Pass}
use Rattle.jr_rule.specs.declared.row.Row.{Row}
use Rattle.jr_rule.specs.Notes.{HasSeenJust}
use Rattle.jr_rule.specs.Passes.{Holder, IsOpened, facts_of, holder_of, known_of}
use Rattle.jr_rule.proofs.PassOver.{opened_knows}
use Rattle.jr_env.specs.Deeds.{Deed, DoesOutside}
use Rattle.jr_threads.specs.Parts.{ComesOfDeed, pass_that_saw}
use Rattle.jr_threads.specs.Starting.{HasBegun, HaveDoneNothing, nothing_yet}

-- the steps of a pass as it was opened
pub opened_steps : {S : Type 0} (holder : S → Holder) (r : Row) (p : Pass) (made : S) (c : Config) (last : ℕ)
    → IsOpened r p → r.config ≡ c → r.last ≡ last → holder made ≡ holder_of p
    → HaveDoneNothing (λ s. facts_of (holder s)) c last (facts_of (holder made)).stands.thread made
opened_steps holder r p made c last o sizes serial is =
    let same : known_of p ≡ nothing_yet c last (known_of p).thread = o.knows ∙ (λ i. record {
      config = sizes i;
      last = serial i;
      thread = sym p.held.thread_is i;
      seen = [];
      holdings = empty;
      taken = 0;
    }) in
    record {
      config = ap (λ (h : Holder). (facts_of h).stands.config) is ∙ (ap (λ (k : Known). k.config) o.knows ∙ sizes);
      last_is = ap (λ (h : Holder). (facts_of h).stands.last) is ∙ (ap (λ (k : Known). k.last) o.knows ∙ serial);
      thread = refl;
      outside = ap (λ (h : Holder). (facts_of h).stands.role) is ∙ o.role;
      hint = ap (λ (h : Holder). (facts_of h).hint) is ∙ o.hint;
      knows = subst (λ (h : Holder). (facts_of h).knows (nothing_yet c last (facts_of h).stands.thread)) (sym is)
          (subst (facts_of (holder_of p)).knows same (opened_knows r p o));
    }

module _ {S : Type 0} {facts : S → Facts} where
  -- an env over them, for which they were spent
  pub has_begun : (c : Config) (last t : ℕ) (made a : S) (f : Frames) → HaveDoneNothing facts c last t made
      → Spent facts made a → f ≡ fresh_frames (facts made).stands.config.locals → HasBegun facts c last t a f
  has_begun c last t made a f nothing spent frames = record {
    steps = record {
      config = ap (λ (z : Standing). z.config) spent.stands_is ∙ nothing.config;
      last_is = ap (λ (z : Standing). z.last) spent.stands_is ∙ nothing.last_is;
      thread = ap (λ (z : Standing). z.thread) spent.stands_is ∙ nothing.thread;
      outside = ap (λ (z : Standing). z.role) spent.stands_is ∙ nothing.outside;
      hint = spent.hint_is ∙ nothing.hint;
      knows = ((spent.same (nothing_yet c last t)).0 nothing.knows).0;
    };
    spent = ap (λ (z : Standing). z.fresh) spent.stands_is;
    frames = frames ∙ ap (λ (z : Config). fresh_frames z.locals) nothing.config;
  }

  -- WHAT A THREAD DID FROM ITS START to where a note says just what it has seen
  pub comes_of : AreOf facts → {A : Type 0} (c : Config) (last t : ℕ) (deed : Deed A) (a b : S) (f g : Frames) (x : A)
      (h : History) → HasBegun facts c last t a f → DoesOutside facts a b f g deed (Ok x) → HasSeenJust facts b h
      → ComesOfDeed c last t deed x h
  comes_of fits c last t deed a b f g x h start does just =
      let d = does.does start.steps.outside in
      let k0 = nothing_yet c last t in
      let z = d.did k0 start.steps.knows (subst (λ l. Holds l k0) (sym start.frames)
      (fresh_agree c.locals t [] (λ place. refl))) in
      let of = fits b z.0 z.1 in
      let s = d.stands_is in
      let sizes : z.0.config ≡ c = of.config ∙ (s.config ∙ start.steps.config) in
      let serial : z.0.last ≡ last = of.last ∙ (s.last ∙ start.steps.last_is) in
      let own : z.0.thread ≡ t = of.thread ∙ (s.thread ∙ start.steps.thread) in
      record {
        left = thread_state (facts b) z.0 g;
        does = subst (λ (m : ThreadState). deed m (Ok x) (thread_state (facts b) z.0 g)) (λ i. record {
          pass = pass_that_saw c last t [];
          frames = start.frames i;
          held = empty;
          fresh = start.spent i;
          hint = start.steps.hint i;
          taken = 0;
        }) z.3;
        saw = λ i. record { config = sizes i; last = serial i; thread = own i; seen = sym (just z.0 z.1) i };
      }
