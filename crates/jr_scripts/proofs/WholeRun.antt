-- A script of one thread, from the opening state to the last line.
use Rattle.std.proofs.Common.{◌≡◌, ℕ, false, List, [], ◌++◌, Result, Ok, refl, sym, ap, subst, ◌∙◌}
use Rattle.jr_word.specs.declared.config.Config.{Config}
use Rattle.jr_word.specs.declared.fault.Fault.{Fault}
use Rattle.jr_model.specs.declared.summary.Summary.{Summary}
use Rattle.jr_model.specs.State.{summary}
use Rattle.jr_model.specs.History.{IsLegal, state}
use Rattle.jr_model.specs.Frames.{Frames, fresh_frames}
use Rattle.jr_model.proofs.Agreement.{fresh_agree}
use Rattle.jr_syntax.specs.declared.command.Command.{Command}
use Rattle.jr_syntax.specs.declared.thread.ThreadPart.{ThreadPart}
use Rattle.jr_steps.specs.declared.known.Known.{Known}
use Rattle.jr_steps.specs.Knowing.{AreOf, Facts, Standing, view, Holds, Spent}
use Rattle.jr_rule.specs.declared.cells.Cells.{Ghosts}
use Rattle.jr_rule.specs.declared.over.StepsOver.{StepsOver}
use Rattle.jr_rule.specs.declared.plain_cells.PlainCells.{PlainCells}
use Rattle.jr_rule.specs.Cells.{IsAmong, facts_at}
use Rattle.jr_rule.specs.CellLaws.{among_of}
use Rattle.jr_rule.specs.Sights.{IsOpenedAlone, sight_of_words, unseen}
use Rattle.jr_gate.specs.Performing.{thread_state, thread_state_with}
use Rattle.jr_env.specs.Deeds.{DoesDeed}
use Rattle.jr_scripts.specs.Text.{heading, ending}
use Rattle.jr_scripts.specs.Posting.{said_alone}
use Rattle.jr_scripts.specs.Explains.{Explained}
use Rattle.jr_scripts.specs.Runs.{IsRun, running_to_end, seeing, opening_moment}
use Rattle.jr_scripts.proofs.Alone.{undisturbed}
use Rattle.jr_scripts.proofs.AloneAnswers.{unbarred}
use Rattle.jr_scripts.proofs.FreedAlone.{ended_alone}

-- a pass of thread 0 in this room
same_view : (c : Config) (last : ℕ) (k : Known) → k.config ≡ c → k.last ≡ last → k.thread ≡ 0
    → view k ≡ seeing c last k.seen
same_view c last k config_is last_is thread_is =
    ap (λ x. record { config = x; last = k.last; thread = k.thread; seen = k.seen }) config_is
    ∙ (ap (λ x. record { config = c; last = x; thread = k.thread; seen = k.seen }) last_is
    ∙ ap (λ x. record { config = c; last = last; thread = x; seen = k.seen }) thread_is)

-- no local reference stands at the opening
pub opening_holds : (c : Config) (last : ℕ) → Holds (fresh_frames c.locals) (unseen c last)
opening_holds c last = fresh_agree c.locals 0 [] (λ p. refl)

module _ {S : Type 0} {facts : S → Facts} (fits : AreOf facts) where
  pub is_run : {old new : S} {f g : Frames} (turns last : ℕ) (c : Config) (part : ThreadPart) (lines whole : List ℕ)
      (v : Summary)
      → c.threads ≡ 1 → (facts old).stands.config ≡ c → (facts old).stands.last ≡ last → (facts old).stands.thread ≡ 0
      → (facts old).stands.fresh ≡ false → (facts old).hint ≡ 0
      → (facts old).knows (unseen c last) → f ≡ fresh_frames c.locals
      → DoesDeed facts old new f g (running_to_end said_alone turns 3 part.commands lines) (Ok tt)
      → ((k : Known) → (facts new).knows k → v ≡ summary k.config k.last (state k.seen))
      → whole ≡ heading part.name ++ lines ++ ending v
      → IsRun turns last c part whole
  is_run {old} {new} {f} {g} turns last c part lines whole v one config_is last_is thread_is spent hint known fresh ran
      tells whole_is =
      let k0 = unseen c last in
      let x = ran.did k0 known (subst (λ h. Holds h k0) (sym fresh) (opening_holds c last)) in
      let k = x.0 in
      let of = fits new k x.1 in
      let config_of : k.config ≡ c = of.config ∙ (ran.stands_is.config ∙ config_is) in
      let last_of : k.last ≡ last = of.last ∙ (ran.stands_is.last ∙ last_is) in
      let thread_of : k.thread ≡ 0 = of.thread ∙ (ran.stands_is.thread ∙ thread_is) in
      let legal : IsLegal c last k.seen =
      subst (λ d. IsLegal d last k.seen) config_of (subst (λ l. IsLegal k.config l k.seen) last_of of.legal) in
      let sum : v ≡ summary c last (state k.seen) = tells k x.1
      ∙ (ap (λ d. summary d k.last (state k.seen)) config_of ∙ ap (λ l. summary c l (state k.seen)) last_of) in
      let end = thread_state (facts new) k g in
      let told = x.3.0 in
      let from : Explained said_alone turns 3 (opening_moment c last) part.commands lines told
      = subst (λ i.
      Explained said_alone turns 3 (thread_state_with false i k0 (fresh_frames c.locals)) part.commands lines told) hint
      (subst (λ b. Explained said_alone turns 3 (thread_state_with b (facts old).hint k0 (fresh_frames c.locals))
      part.commands lines told) spent (subst
      (λ h. Explained said_alone turns 3 (thread_state (facts old) k0 h) part.commands lines told) fresh x.3.1)) in
      let all = undisturbed c last one k.seen legal in
      let ended = ended_alone turns 3 (opening_moment c last) told end part.commands lines from x.3.2
      (record { one = ap (λ d. d.threads) config_of ∙ one; first = thread_of }) in
      record {
        seen = k.seen;
        lines = lines;
        legal = legal;
        alone = unbarred k.seen all (ended.none_lost tt);
        told = told;
        explained = from;
        answers = ended.answers;
        left = end;
        freed = x.3.2;
        freed_all = ended.all;
        saw = same_view c last k config_of last_of thread_of;
        text_is = whole_is ∙ ap (λ s. heading part.name ++ lines ++ ending s) sum;
      }

-- what is known of plain steps
abbrev plain_facts : {P : Type 0} {G : Ghosts (PlainCells 4294967295) P} → StepsOver (PlainCells 4294967295) P G → Facts
plain_facts s = facts_at (sight_of_words s.cells.config 4294967295 s.cells.words.items) s.role s.fresh s.hint

-- the same over plain steps, which were spent as they were made
pub plain_run : {P : Type 0} {G : Ghosts (PlainCells 4294967295) P} {old new : StepsOver (PlainCells 4294967295) P G}
    {f g : Frames} {commands : List Command} {answer : Result (Unit {0}) Fault} (turns : ℕ) (c : Config)
    (part : ThreadPart) (lines whole : List ℕ) (v : Summary) (made : StepsOver (PlainCells 4294967295) P G)
    → c.threads ≡ 1 → IsOpenedAlone c 4294967295 made.cells.config made.cells.words.items made.role made.fresh made.hint
    → Spent plain_facts made old → f ≡ fresh_frames made.cells.config.locals
    → commands ≡ part.commands → answer ≡ Ok tt
    → DoesDeed plain_facts old new f g (running_to_end said_alone turns 3 commands lines) answer
    → ((k : Known) → IsAmong (sight_of_words new.cells.config 4294967295 new.cells.words.items) k
    → v ≡ summary k.config k.last (state k.seen))
    → whole ≡ heading part.name ++ lines ++ ending v
    → IsRun turns 4294967295 c part whole
plain_run {P} {G} {old} {new} {f} {g} {commands} turns c part lines whole v made one opened spent fresh these good ran
    tells whole_is =
    let known : (plain_facts made).knows (unseen c 4294967295)
    = (
      opened.nothing,
      record {
        config = sym opened.sizes;
        last = refl;
        thread = refl;
        role = sym opened.role_is;
        legal = tt;
        unused = λ f p. refl;
      },
    ) in
    let stands = spent.stands_is in
    let Leads : List Command → Result (Unit {0}) Fault → Type 0
    = λ cs r. DoesDeed plain_facts old new f g (running_to_end said_alone turns 3 cs lines) r in
    is_run (λ s k h. h.1) turns 4294967295 c part lines whole v one (ap (λ (s : Standing). s.config) stands
    ∙ opened.sizes) refl refl (ap (λ (s : Standing). s.fresh) stands) (spent.hint_is ∙ opened.hint_is)
    ((spent.same (unseen c 4294967295)).0 known).0 (fresh ∙ ap (λ d. fresh_frames d.locals) opened.sizes)
    (subst (λ cs. Leads cs (Ok tt)) these (subst (Leads commands) good ran)) (λ k h. tells k
    (among_of (sight_of_words new.cells.config 4294967295 new.cells.words.items) new.role new.fresh k h)) whole_is
