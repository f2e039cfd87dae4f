-- A script of one thread that is run as one of several: its run is that of the thread alone.
use Rattle.std.proofs.Common.{◌≡◌, ℕ, true, Option, List, [], ◌∷◌, ◌++◌, length, refl, sym, ap, subst, ◌∙◌, arith}
use Rattle.std.proofs.lemmas.List.{append-nil}
use Rattle.std.specs.List.{AllByRecursion}
use Rattle.jr_word.specs.declared.config.Config.{Config}
use Rattle.jr_model.specs.declared.event.Event.{Event}
use Rattle.jr_model.specs.declared.event.Act.TheVariants.{Meet}
use Rattle.jr_model.specs.State.{State, summary}
use Rattle.jr_model.specs.Steps.{act_after, after}
use Rattle.jr_model.specs.History.{History, state, state_from, IsLegal, Did}
use Rattle.jr_model.proofs.Histories.{legal_append, state_append}
use Rattle.jr_model.proofs.Stays.{mine_did}
use Rattle.jr_syntax.specs.declared.thread.ThreadPart.{ThreadPart}
use Rattle.jr_syntax.specs.declared.script.Script.{Script}
use Rattle.jr_syntax.specs.Script.{all_apart, posts_of}
use Rattle.jr_scripts.specs.PostedNames.{IsOfPosts, commands_of}
use Rattle.jr_scripts.specs.Posting.{said_alone}
use Rattle.jr_scripts.specs.Explains.{Explained}
use Rattle.jr_scripts.proofs.LoneWords.{heard_alone, on_board}
use Rattle.jr_scripts.specs.Text.{heading, ending, text_of_parts}
use Rattle.jr_scripts.specs.Runs.{IsRun, RunsSingle, seeing, opening_moment}
use Rattle.jr_scripts.specs.AllRuns.{IsPartOf, ArePartsOf, IsRunOfAll}
use Rattle.jr_scripts.proofs.Alone.{undisturbed}
use Rattle.jr_scripts.proofs.AloneAnswers.{unbarred}
use Rattle.jr_scripts.proofs.AloneCalls.{IsAlone, NoneLost}
use Rattle.jr_scripts.proofs.FreedAlone.{ended_alone}
use Rattle.jr_scripts.proofs.AloneHistories.{all_back, all_map, own_events}
use Rattle.jr_scripts.proofs.AloneCase.LoneMeans.{lone_means}

one_part : (ps : List ThreadPart) → length ps ≡ 1 → (p : ThreadPart) × (ps ≡ p ∷ [])
one_part (p ∷ []) long = (p, refl)
one_part _ long = absurd (omega arith)

-- a look at the gate changes nothing
meet_changes_nothing : (s : State) (e : Event) → e.act ≡ Meet → after s e ≡ s
meet_changes_nothing s e is = ap (act_after s e.thread) is

meets_change_nothing : (s : State) (es : History) → AllByRecursion (λ e. e.act ≡ Meet) es → state_from s es ≡ s
meets_change_nothing s [] all = refl
meets_change_nothing s (e ∷ es) all =
    ap (λ x. state_from x es) (meet_changes_nothing s e all.0) ∙ meets_change_nothing s es all.1

module _ (board : List ℕ → Option (ℕ × History)) (rank : List ℕ → ℕ) (turns last : ℕ) (c : Config) (one : c.threads ≡ 1)
    (whole : History) (legal : IsLegal c last whole) where
  module _ (part : ThreadPart) (lines : List ℕ) (p : IsPartOf board rank turns last c whole 0 3 part lines) where
    -- behind what the thread has seen stands its look at the gate alone
    same_state : state whole ≡ state p.seen
    same_state =
        let d : Did (seeing c last p.seen) (seeing c last whole) (Meet ∷ []) =
        record { config = refl; last = refl; thread = refl; legal = legal; begins = p.begins; own = p.own } in
        let rest = p.begins.0 in
        let own : AllByRecursion (λ e. e.thread ≡ 0) rest
        = all_back (λ (e : Event). e.thread ≡ 0) p.seen rest (subst (AllByRecursion (λ (e : Event). e.thread ≡ 0))
        (sym p.begins.1) (all_map (λ e u. u.own) whole (undisturbed c last one whole legal))) in
        let meets = own_events (λ a. a ≡ Meet) 0 rest own
        (subst (AllByRecursion (λ a. a ≡ Meet)) (sym (mine_did (Meet ∷ []) d)) (refl, tt)) in
        ap state (sym p.begins.1) ∙ (state_append p.seen rest ∙ meets_change_nothing (state p.seen) rest meets)

    part_alone : (text : List ℕ) → IsOfPosts part.commands board
        → text ≡ heading part.name ++ lines ++ ending (summary c last (state whole)) → IsRun turns last c part text
    part_alone text posted is =
        let legal_seen : IsLegal c last p.seen =
        ((legal_append c last p.seen p.begins.0).0 (subst (IsLegal c last) (sym p.begins.1) legal)).0 in
        let all = undisturbed c last one p.seen legal_seen in
        let lone : IsAlone (p.left).pass = subst IsAlone (sym p.saw) (record { one = one; first = refl }) in
        let x = p.explained in
        let explained : Explained said_alone turns 3 (opening_moment c last) part.commands lines p.told = record {
          place = x.place;
          words = x.words;
          done = x.done;
          explains =
              heard_alone x.explains (λ n has. let there = on_board x.explains n has in posted n there.0 there.1);
          ended = x.ended;
        } in
        let ended =
        ended_alone turns 3 (opening_moment c last) p.told p.left part.commands lines explained p.freed lone in
        record {
          seen = p.seen;
          lines = lines;
          legal = legal_seen;
          alone = unbarred p.seen all (ap-seen ended.none_lost);
          told = p.told;
          explained = explained;
          answers = ended.answers;
          left = p.left;
          freed = p.freed;
          freed_all = ended.all;
          saw = p.saw;
          text_is = is ∙ ap (λ s. heading part.name ++ lines ++ ending (summary c last s)) same_state;
        }
      where
        ap-seen : (NoneLost [] → NoneLost (p.left).pass.seen) → NoneLost p.seen
        ap-seen f = subst (λ v. NoneLost v.seen) p.saw (f tt)

  parts_alone : (part : ThreadPart) (lines : List (List ℕ))
      → ArePartsOf board rank turns last c whole 0 2 (part ∷ []) lines → (text : List ℕ) → IsOfPosts part.commands board
      → text ≡ text_of_parts (part ∷ []) lines ++ ending (summary c last (state whole)) → IsRun turns last c part text
  parts_alone part [] parts text posted is = absurd parts
  parts_alone part (l ∷ []) parts text posted is = part_alone part l parts.0 text posted (is
      ∙ ap (λ t. t ++ ending (summary c last (state whole))) (append-nil (heading part.name ++ l)))
  parts_alone part (l ∷ m ∷ ls) parts text posted is = absurd parts.1

-- a script of one thread, run by whoever runs all threads of a script
pub lone_run : (turns last : ℕ) (s : Script) (old new text : List ℕ) → new ≡ old ++ text → IsRunOfAll turns last s text
    → s.config.threads ≡ 1 → RunsSingle turns last s old new
lone_run turns last s old new text grew r one =
    let q = one_part s.threads (r.right.one_each ∙ one) in
    let run : IsRun turns last s.config q.0 text =
    parts_alone r.board r.rank turns last s.config one r.whole r.legal q.0 r.lines
    (subst (λ ps. ArePartsOf r.board r.rank turns last s.config r.whole 0 2 ps r.lines) q.1 r.parts) text
    (subst (λ cs. IsOfPosts cs r.board) (ap commands_of q.1 ∙ append-nil (q.0).commands) r.posted)
    (r.text_is ∙ ap (λ ps. text_of_parts ps r.lines ++ ending (summary s.config last (state r.whole))) q.1) in
    record {
      part = q.0;
      has = record { part_is = q.1; one = one; limits = r.right.limits; once = r.right.once };
      text = text;
      grew = grew;
      run = run;
      means = lone_means turns last s.config q.0 text one r.right.limits
          (subst (λ ps. all_apart (posts_of ps) ≡ true) q.1 r.right.once) run;
    }
