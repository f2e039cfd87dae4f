-- One thread of a script, from its opened pass to the pass that it hands back.
use Rattle.std.proofs.Common.{◌≡◌, ℕ, false, List, Result, sym, ap, subst, ◌∙◌}
use Rattle.jr_word.specs.declared.fault.Fault.{Fault}
use Rattle.jr_model.specs.Frames.{Frames, fresh_frames}
use Rattle.jr_syntax.specs.declared.command.Command.{Command}
use Rattle.jr_rule.specs.declared.pass.Pass.{Pass}
use Rattle.jr_steps.specs.Knowing.{Spent}
use Rattle.jr_rule.specs.Passes.{Holder, facts_of, holder_of, standing_of}
use Rattle.jr_env.specs.Deeds.{DoesDeed}
use Rattle.jr_scripts.specs.Posting.{Speech}
use Rattle.jr_scripts.specs.AllRuns.{RanPass}
use Rattle.jr_scripts.specs.Runs.{running_to_end}
use Rattle.jr_scripts.proofs.Speaking.{Carries}
use Rattle.jr_scripts.proofs.ToEnd.{ran_still}

-- the run of steps is a run of their pass
pub ran_pass : {S : Type 0} (holder : S → Holder) (made a b : S) (p q : Pass) (f g : Frames) (talk : Speech)
    (turns first : ℕ) (commands : List Command) (answer : Result (Unit {0}) Fault) (out text : List ℕ)
    → Spent (λ s. facts_of (holder s)) made a → (holder b).fresh ≡ false
    → DoesDeed (λ s. facts_of (holder s)) a b f g (running_to_end talk turns first commands text) answer
    → holder made ≡ holder_of p → holder_of q ≡ holder b → f ≡ fresh_frames (standing_of p).config.locals
    → out ≡ text → RanPass talk turns first commands p q answer out
ran_pass holder made a b p q f g talk turns first commands answer out text spent used r old new fresh whole =
    let here : DoesDeed facts_of (holder a) (holder b) f g (running_to_end talk turns first commands text) answer =
    record { stands_is = r.stands_is; did = r.did } in
    let spends : Spent facts_of (holder made) (holder a) =
    record { stands_is = spent.stands_is; hint_is = spent.hint_is; same = spent.same } in
    record {
      spent = holder a;
      spends = subst (λ z. Spent facts_of z (holder a)) old spends;
      used_up = ap (λ (h : Holder). h.fresh) new ∙ used;
      frames = g;
      ran = subst (λ t. DoesDeed facts_of (holder a) (holder_of q) (fresh_frames (standing_of p).config.locals) g
          (running_to_end talk turns first commands t) answer) (sym whole)
          (subst (λ h.
          DoesDeed facts_of (holder a) (holder_of q) h g (running_to_end talk turns first commands text) answer) fresh
          (subst (λ z. DoesDeed facts_of (holder a) z f g (running_to_end talk turns first commands text) answer)
          (sym new) here));
    }

-- what else may be told of it
pub pass_still : {t u : Speech} (s : Carries t u) (turns first : ℕ) (commands : List Command) (old new : Pass)
    (answer : Result (Unit {0}) Fault) (text : List ℕ) → RanPass t turns first commands old new answer text
    → RanPass u turns first commands old new answer text
pass_still s turns first commands old new answer text x =
    record { spent = x.spent; spends = x.spends; used_up = x.used_up; frames = x.frames; ran = ran_still s x.ran }
