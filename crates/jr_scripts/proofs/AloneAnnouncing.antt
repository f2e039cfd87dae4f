-- An announced collection of a thread that is alone.
use Rattle.std.proofs.Common.{◌≡◌, ◌≢◌, inl, inr, ℕ, List, [], ◌∷◌, ◌++◌, Result, Ok, Err, IfErr}
use Rattle.std.proofs.Common.{refl, sym, subst, ◌∙◌, ap}
use Rattle.std.specs.List.{AllByRecursion}
use mathlib.Core.List.{IsPrefix}
use Rattle.jr_word.specs.declared.config.Config.{Config}
use Rattle.jr_word.specs.declared.fault.Fault.{Fault}
use Rattle.jr_word.specs.declared.fault.Fault.TheVariants.{Busy, Moved}
use Rattle.jr_model.specs.declared.event.Event.{Event}
use Rattle.jr_model.specs.declared.event.Act.{Act}
use Rattle.jr_model.specs.declared.event.Act.TheVariants.{Gate, ShutBusy, Meet}
use Rattle.jr_model.specs.declared.event.GateAct.TheVariants.{Cancel}
use Rattle.jr_model.specs.State.{State}
use Rattle.jr_model.specs.Steps.{act_after, after}
use Rattle.jr_model.specs.History.{History, PassView, state}
use Rattle.jr_model.specs.Frames.{Frames}
use Rattle.jr_model.specs.Calls.{Call, Ran, ◌>>=◌, ◌>>◌, act, refuse, some_act}
use Rattle.jr_model.specs.Parts.{announce, collect_announced}
use Rattle.jr_model.specs.Refusals.{IsOpenWith, Sometime, GateHasMoved, Grounds}
use Rattle.jr_model.specs.AllCalls.{PartOf}
use Rattle.jr_model.proofs.Composed.{same_fault}
use Rattle.jr_model.proofs.EachCall.{part_lawful}
use Rattle.jr_model.proofs.Moments.{prefix_trans}
use Rattle.jr_model.proofs.Stays.{mine_did}
use Rattle.jr_gate.specs.Performing.{ThreadState}
use Rattle.jr_weak.specs.declared.collecting.Collected.{Collected}
use Rattle.jr_env.specs.Collections.{announced_collection}
use Rattle.jr_scripts.specs.Commands.{collecting_announced, told}
use Rattle.jr_scripts.specs.AloneAnswers.{IsAloneFault}
use Rattle.jr_scripts.proofs.AloneCalls.{IsAlone, LedAlone, LeadsAlone, all_undisturbed, answered_so, since}
use Rattle.jr_scripts.proofs.AloneHistories.{all_back, all_map, own_acts, still_so}
use Rattle.jr_scripts.proofs.AloneParts.{tried_alone}

-- ITS REFUSALS, where no shut was refused: two looks found the gate open, with other counts
abbrev NoneBusy : List Act → Type 0
NoneBusy acts = AllByRecursion (λ a. (n : ℕ) → a ≢ ShutBusy n) acts

busy_never : {A : Type 0} (next : ℕ → Call A) (f g : Frames) (acts : List Act) (answer : Result A Fault)
    → (some_act ShutBusy >>= next) f acts answer g → NoneBusy acts → ⊥
busy_never next f g acts answer (inl r) q = (subst NoneBusy (r.4 ∙ ap (λ l. l ++ r.3) r.5.1) q).0 r.5.0 refl
busy_never next f g acts answer (inr r) q = let bad = r.2.2 in absurd cc

-- the acts are two looks, and these are what they found
abbrev IsMoved : List Act → Fault → Type 0
IsMoved acts e = (looked : ℕ) × (found : ℕ) × (e ≡ Moved looked found) × (acts ≡ Meet ∷ Meet ∷ [])

announce_moved : (f g : Frames) (acts : List Act) (e : Fault) → announce f acts (Err e) g → NoneBusy acts
    → IsMoved acts e
announce_moved f g acts e (inl r) q = absurd (busy_never (λ n. refuse (Busy n)) f g acts (Err e) r q)
announce_moved f g acts e (inr (inl (x, mid, front, rest, is, first, inl next))) q = let bad = next.1 in absurd cc
announce_moved f g acts e (inr (inl (x, mid, front, rest, is, first, inr (inl next)))) q =
    absurd (busy_never (λ n. refuse (Busy n)) mid g rest (Err e) next
    (all_back (λ a. (n : ℕ) → a ≢ ShutBusy n) front rest (subst NoneBusy is q)))
announce_moved f g acts e
    (inr (inl (x, mid, front, rest, is, first, inr (inr (inl (y, mid', front', rest', is', first', moved)))))) q = (
      moved.0,
      moved.1,
      sym (same_fault e (Moved moved.0 moved.1) moved.2.1),
      is ∙ (ap (λ l. l ++ rest) first.0
          ∙ ap (λ l. Meet ∷ l) (is' ∙ (ap (λ l. l ++ rest') first'.0 ∙ ap (λ l. Meet ∷ l) moved.2.0))),
    )
announce_moved f g acts e (inr (inl (x, mid, front, rest, is, first, inr (inr (inr next))))) q = let bad = next.2.1 in
    absurd cc
announce_moved f g acts e (inr (inr r)) q = let bad = r.2.1 in absurd cc

refused_moved : (tries : ℕ) (f g : Frames) (acts : List Act) (e : Fault) → collect_announced tries f acts (Err e) g
    → NoneBusy acts → IsMoved acts e
refused_moved tries f g acts e (inl (x, mid, front, rest, is, first, inl (inl next))) q = let bad = next.6.4 in
    absurd cc
refused_moved tries f g acts e (inl (x, mid, front, rest, is, first, inl (inr next))) q = let bad = next.2.3 in
    absurd cc
refused_moved tries f g acts e
    (inl (x, mid, front, rest, is, first, inr (inl (y, mid', front', rest', is', first', next)))) q =
    absurd (busy_never (λ n. act (Gate Cancel) >> refuse (Busy n)) mid' g rest' (Err e) next
    (all_back (λ a. (n : ℕ) → a ≢ ShutBusy n) front' rest'
    (subst NoneBusy is' (all_back (λ a. (n : ℕ) → a ≢ ShutBusy n) front rest (subst NoneBusy is q)))))
refused_moved tries f g acts e (inl (x, mid, front, rest, is, first, inr (inr next))) q = let bad = next.2.3 in
    absurd cc
refused_moved tries f g acts e (inr r) q =
    subst (IsMoved acts) (same_fault e r.0 r.1) (announce_moved f g acts r.0 r.2 q)

-- a look changes nothing
open_still : (c : Config) (n : ℕ) (s : State) (e : Event) → e.act ≡ Meet → IsOpenWith c n s → IsOpenWith c n (after s e)
open_still c n s e is = subst (λ a. IsOpenWith c n s → IsOpenWith c n (act_after s e.thread a)) (sym is) (λ o. o)

-- where all that was seen since are looks, the gate has one count
never_moved : (old new begun : History) (begins : IsPrefix old new) (p : PassView) (looked found : ℕ) → p.seen ≡ new
    → AllByRecursion (λ e. e.act ≡ Meet) begins.0 → IsPrefix old begun → GateHasMoved begun p looked found → ⊥
never_moved old new begun begins p looked found is all from m =
    let first = still_so (λ e. e.act ≡ Meet) (IsOpenWith p.config looked) (open_still p.config looked) old begun new
    begins all from (subst (λ h. Sometime (IsOpenWith p.config looked) begun h) is m.looked_at) in
    let at = m.looked_at.moment in
    let since = prefix_trans old begun at from m.looked_at.from in
    let last = still_so (λ e. e.act ≡ Meet) (IsOpenWith p.config found) (open_still p.config found) old at new
    begins all since (subst (λ h. Sometime (IsOpenWith p.config found) at h) is m.later) in
    m.other (sym first.1 ∙ last.1)

module _ (tries : ℕ) (old new : PassView) (f g : Frames) (alone : IsAlone new) where
  -- no shut of it was refused
  none_busy : (answer : Result (ℕ × ℕ × ℕ) Fault) (r : Ran old new f g (collect_announced tries) answer)
      → NoneBusy r.acts
  none_busy answer r =
      let all = all_map (λ e u. u.shuts) new.seen (all_undisturbed old new r.acts r.did alone) in
      let shuts = all_back (λ (e : Event). (n : ℕ) → e.act ≢ ShutBusy n) old.seen r.did.begins.0
      (subst (AllByRecursion (λ (e : Event). (n : ℕ) → e.act ≢ ShutBusy n)) (sym r.did.begins.1) all) in
      subst NoneBusy (mine_did r.acts r.did) (own_acts (λ a. (n : ℕ) → a ≢ ShutBusy n) old.thread r.did.begins.0 shuts)

  -- IT IS NEVER REFUSED
  pub never_refused : (e : Fault) → Ran old new f g (collect_announced tries) (Err e) → ⊥
  never_refused e r =
      let moved = refused_moved tries f g r.acts e r.is (none_busy (Err e) r) in
      let all = since old new r.acts r.did alone (λ a. a ≡ Meet)
      (subst (AllByRecursion (λ a. a ≡ Meet)) (sym moved.3) (refl, (refl, tt))) in
      never_moved old.seen new.seen r.begun r.did.begins new moved.0 moved.1 refl all r.window.from
      (subst (λ z. Grounds r.begun new z) moved.2 r.grounds)

-- what is told of a refusal is a lone thread's, where the refusal is
told_alone : (P : Fault → Type 0) (once : Result Collected Fault) → IfErr once P → IfErr (told once) P
told_alone P (Ok c) h = tt
told_alone P (Err (Busy n)) h = tt
told_alone P (Err _) h = h

pub once_led : (tries : ℕ) → LeadsAlone (announced_collection tries)
once_led tries = record { led = led }
  where
    led : (old new : ThreadState) (answer : Result Collected Fault) → IsAlone new.pass
        → announced_collection tries old answer new → LedAlone old.pass new.pass answer
    led old new (Ok c) alone d = answered_so (part_lawful old.pass.config old.pass.last old.pass.thread
        (state new.pass.seen) (PartOf.collect_announced tries)) old.pass new.pass old.frames new.frames alone
        (Ok (c.cleared, c.dropped, c.used)) (Ok c) d.done.ran tt tt
    led old new (Err e) alone d =
        absurd (never_refused tries old.pass new.pass old.frames new.frames alone e d.made.ran)

pub announcing_alone : (turns tries : ℕ) → LeadsAlone (collecting_announced turns tries)
announcing_alone turns tries = record {
  led = λ old new answer alone d.
      let x = (tried_alone (once_led tries)).led old new d.0 alone d.2 in
      record {
        config = x.config;
        thread = x.thread;
        begins = x.begins;
        none_lost = x.none_lost;
        fault = subst (λ a. IfErr a (IsAloneFault new.pass)) (sym d.1) (told_alone _ d.0 x.fault);
      };
}
