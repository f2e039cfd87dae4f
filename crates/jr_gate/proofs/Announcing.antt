-- What an announcement shows, and what a refusal of one does.
use Rattle.std.proofs.Common.{◌≡◌, ◌≢◌, ◌<◌, ℕ, true, if◌then◌else◌, Err, inl, inr, [], ◌∷◌, refl, sym, ap, subst, ◌∙◌}
use Rattle.std.proofs.Math.Logic.{∥∥₁_elim}
use Rattle.jr_word.specs.declared.config.Config.{Config}
use Rattle.jr_word.specs.declared.fault.Fault.{Fault}
use Rattle.jr_word.specs.declared.fault.Fault.TheVariants.{Busy, Moved}
use Rattle.jr_word.specs.declared.gate.GateParts.{GateParts}
use Rattle.jr_word.specs.declared.gate.GateState.TheVariants.{Open}
use Rattle.jr_model.specs.declared.event.Role.TheVariants.{Outside}
use Rattle.jr_model.specs.declared.event.Act.{Act}
use Rattle.jr_model.specs.declared.event.Act.TheVariants.{Gate, ShutBusy, Meet}
use Rattle.jr_model.specs.declared.event.GateAct.TheVariants.{Announce}
use Rattle.jr_model.specs.State.{is_inside}
use Rattle.jr_model.specs.History.{PassView, state, Did}
use Rattle.jr_model.specs.Refusals.{IsOpenWith, GateHasMoved}
use Rattle.jr_model.specs.Windows.{IsWindow}
use Rattle.jr_model.proofs.Counts.{count_all_false}
use Rattle.jr_model.proofs.Moments.{prefix_self}
use Rattle.jr_model.proofs.Stays.{did_then}
use Rattle.jr_model.proofs.Windows.{stepped_last, window_some}
use Rattle.jr_steps.specs.declared.known.Known.{Known}
use Rattle.jr_steps.specs.declared.loads.GateLoad.TheVariants as gate
use Rattle.jr_steps.specs.Acts.{act_of_gate_load, act_of_announcement, all_counted, is_closed}
use Rattle.jr_steps.specs.Knowing.{AreLone, AreOf, Facts, Goes, IsLone, MayKnow, ShowsAnnounced, ShowsGate}
use Rattle.jr_steps.specs.Knowing.{Standing, Took, anything, keeps, lets_go, standing_after, view}
use Rattle.jr_steps.proofs.GateFacts.{nobody_closes, somebody_closes}
use Rattle.jr_steps.proofs.StepFacts.{goes_did, goes_stepped, took_less}
use Rattle.jr_gate.specs.Acting.{ActedTo}
use Rattle.jr_gate.specs.Announcing.{AnnouncesInTwo, FindsClosed, WasNotAnnounced}
use Rattle.jr_gate.proofs.Alone.{all_outside, others_outside, never_busy}
use Rattle.jr_gate.proofs.Closing.{busy_counts}
use Rattle.jr_gate.proofs.Withdrawing.{two}

-- the parts of an open gate with this count
abbrev open_with : ℕ → GateParts
open_with n = record { count = n; state = Open }

-- a load that found such a gate shows so much of the room
is_open : (n : ℕ) (k : Known) → ShowsGate (open_with n) k → IsOpenWith k.config n (state k.seen)
is_open n k says = (nobody_closes says refl, sym says.count)

-- two such loads with other counts
has_moved : {looked found : ℕ} {j k l : Known} → looked ≢ found → Goes j (Meet ∷ []) k → Goes k (Meet ∷ []) l
    → ShowsGate (open_with looked) k → ShowsGate (open_with found) l → GateHasMoved j.seen (view l) looked found
has_moved {looked} {found} {j} {k} {l} other g h first last = record {
  other = other;
  looked_at = record {
    moment = k.seen;
    from = (goes_did g).begins;
    to = (goes_did h).begins;
    met = subst (λ (c : Config). IsOpenWith c looked (state k.seen)) (sym h.config) (is_open looked k first);
  };
  later = record { moment = l.seen; from = (goes_did h).begins; to = prefix_self l.seen; met = is_open found l last };
}

-- a look and an announcement are a call from the first moment on
announcing_window : {old new : PassView} → Did old new (Meet ∷ Gate Announce ∷ [])
    → IsWindow old new (Meet ∷ Gate Announce ∷ []) old.seen
announcing_window {old} d = record { from = prefix_self old.seen; to = d.begins; first = tt; last = λ e. absurd cc }

module _ {S : Type 0} {facts : S → Facts} where
  -- a look that found the gate closed
  pub look_closed : {a b : S} (p : GateParts) → is_closed p.state ≡ true
      → Took facts a b (act_of_gate_load gate.Busy p ∷ []) anything (λ j k. ShowsGate p k × keeps j k)
      → Took facts a b (ShutBusy (all_counted p) ∷ []) anything (FindsClosed keeps)
  look_closed {a} {b} p closed t = took_less (λ j k s. (s.1, somebody_closes s.0 closed))
      (subst (λ (x : Act). Took facts a b (x ∷ []) anything (λ j k. ShowsGate p k × keeps j k))
      (ap (λ z. if z then ShutBusy (all_counted p) else Meet) closed) t)

  -- and one that found it open
  pub look_open : {a b : S} (p : GateParts) (n : ℕ) → p ≡ open_with n
      → Took facts a b (act_of_gate_load gate.Busy p ∷ []) anything (λ j k. ShowsGate p k × keeps j k)
      → Took facts a b (Meet ∷ []) anything (λ j k. ShowsGate (open_with n) k × keeps j k)
  look_open {a} {b} p n e t =
      subst (λ q. Took facts a b (act_of_gate_load gate.Busy q ∷ []) anything (λ j k. ShowsGate q k × keeps j k)) e t

  -- a lost exchange is such a look
  pub lost_look : {a b : S} (looked : ℕ) (p : GateParts)
      → Took facts a b (act_of_announcement (Err p) ∷ []) anything (ShowsAnnounced looked (Err p))
      → Took facts a b (act_of_gate_load gate.Busy p ∷ []) anything (λ j k. ShowsGate p k × keeps j k)
  lost_look looked p t = took_less (λ j k s. (s.1, s.2)) t

  -- of other parts than those that it expected
  lost_other : {a b : S} (looked found : ℕ) (p : GateParts) → MayKnow facts a anything → p ≡ open_with found
      → Took facts a b (act_of_announcement (Err p) ∷ []) anything (ShowsAnnounced looked (Err p)) → looked ≢ found
  lost_other looked found p some e t same =
      ∥∥₁_elim some (λ x y. absurd x) (λ k. (t.goes k.0 k.1 tt).3.0 (e ∙ ap open_with (sym same)))

  -- two steps
  module _ {a b c : S} (x y : Act) {first last shows : Known → Known → Type 0} where
    acted : ((p q : PassView) → Did p q (x ∷ y ∷ []) → IsWindow p q (x ∷ y ∷ []) p.seen)
        → ((j k l : Known) → Goes j (x ∷ []) k → Goes k (y ∷ []) l → first j k → last k l → shows j l)
        → Took facts a b (x ∷ []) anything first → Took facts b c (y ∷ []) anything last
        → ActedTo facts a c (x ∷ y ∷ []) anything shows
    acted window both p q = record {
      stands_is = q.stands_is ∙ ap (λ s. standing_after s (y ∷ [])) p.stands_is;
      hint_is = q.hint_is ∙ p.hint_is;
      leads = λ k s m.
          let g = p.goes k s m in
          let h = q.goes g.0 g.1 tt in
          let did = did_then (x ∷ []) (y ∷ []) (goes_did g.2) (goes_did h.2) in
          (h.0, h.1, did, (both k g.0 h.0 g.2 h.2 g.3 h.3, k.seen, window (view k) (view h.0) did));
    }

  -- WHAT WAS DONE, by the parts that the look found, and by those that the exchange did
  pub was_closed : {a b : S} (some : (s : S) → MayKnow facts s anything) (p : GateParts) (e : Fault)
      → is_closed p.state ≡ true → e ≡ Busy (all_counted p)
      → Took facts a b (act_of_gate_load gate.Busy p ∷ []) anything (λ j k. ShowsGate p k × keeps j k)
      → WasNotAnnounced facts a b e
  was_closed {a} some p e closed is t = let u = look_closed p closed t in
      inl (all_counted p, is, busy_counts (some a) (all_counted p) (took_less (λ j k s. s.0) u), u)

  module _ {a b c : S} (some : (s : S) → MayKnow facts s anything) where
    pub announced_in_two : (p : GateParts) (n : ℕ) → p ≡ open_with n
        → Took facts a b (act_of_gate_load gate.Busy p ∷ []) anything (λ j k. ShowsGate p k × keeps j k)
        → Took facts b c (Gate Announce ∷ []) anything lets_go
        → ActedTo facts a c (Meet ∷ Gate Announce ∷ []) anything AnnouncesInTwo
    announced_in_two p n e look t = acted Meet (Gate Announce) (λ q r d. announcing_window d)
        (λ j k l g h f s. ((s, two g h), stepped_last (goes_stepped h))) (look_open p n e look) t

    pub was_closed_between : (p q : GateParts) (n : ℕ) (e : Fault) → p ≡ open_with n → is_closed q.state ≡ true
        → e ≡ Busy (all_counted q)
        → Took facts a b (act_of_gate_load gate.Busy p ∷ []) anything (λ j k. ShowsGate p k × keeps j k)
        → Took facts b c (act_of_announcement (Err q) ∷ []) anything (ShowsAnnounced n (Err q))
        → WasNotAnnounced facts a c e
    was_closed_between p q n e wide closed is look t =
        let u = look_closed q closed (lost_look n q t) in
        inr (inl (
          all_counted q,
          is,
          busy_counts (some b) (all_counted q) (took_less (λ j k s. s.0) u),
          acted Meet (ShutBusy (all_counted q)) (λ v w d. window_some Meet (ShutBusy (all_counted q) ∷ [])
              d (refl, (refl, tt))) (λ j k l g h f s. ((s.0 ∙ f.1, two g h), s.1)) (look_open p n wide look) u,
        ))

    pub was_moved_between : (p q : GateParts) (n m : ℕ) → p ≡ open_with n → q ≡ open_with m
        → Took facts a b (act_of_gate_load gate.Busy p ∷ []) anything (λ j k. ShowsGate p k × keeps j k)
        → Took facts b c (act_of_announcement (Err q) ∷ []) anything (ShowsAnnounced n (Err q))
        → WasNotAnnounced facts a c (Moved n m)
    was_moved_between p q n m wide is look t =
        let other = lost_other n m q (some b) is t in
        let u = look_open q m is (lost_look n q t) in
        inr (inr (
          n,
          m,
          refl,
          other,
          acted Meet Meet (λ v w d. window_some Meet (Meet ∷ []) d (refl, (refl, tt)))
              (λ j k l g h f s. (has_moved other g h f.0 s.0, (s.1 ∙ f.1, two g h))) (look_open p n wide look) u,
        ))

  -- OVER A LONE THREAD
  module _ (fits : AreOf facts) (own : AreLone facts) (some : (s : S) → MayKnow facts s anything)
      (row : (s : S) → (facts s).stands.thread < (facts s).stands.config.threads) where
    -- an open gate counts nobody
    counts_none : {a b : S} (n : ℕ) → IsLone (facts b).stands → (facts b).stands.role ≡ Outside
        → Took facts a b (Meet ∷ []) anything (λ j k. ShowsGate (open_with n) k × keeps j k) → (k : Known)
        → (facts a).knows k → n ≡ 0
    counts_none {a} {b} n lone out t k s =
        let g = t.goes k s tt in
        let outside = all_outside (g.0).seen (g.0).thread (others_outside facts fits own b lone (row b) g.0 g.1)
        ((fits b g.0 g.1).role ∙ out) in
        (g.3.0).count ∙ count_all_false (g.0).config.threads (λ u. is_inside ((state (g.0).seen).role u)) (λ u l.
        ap is_inside (outside u))

    pub never_closed : {a b : S} → IsLone (facts a).stands → (p : GateParts) → is_closed p.state ≡ true
        → Took facts a b (act_of_gate_load gate.Busy p ∷ []) anything (λ j k. ShowsGate p k × keeps j k) → ⊥
    never_closed {a} lone p closed t = never_busy fits own (some a) lone (all_counted p) (look_closed p closed t)

    module _ {a b c : S} (lone : IsLone (facts a).stands) (out : (facts a).stands.role ≡ Outside) where
      pub never_closed_between : (p q : GateParts) (n : ℕ) → p ≡ open_with n → is_closed q.state ≡ true
          → Took facts a b (act_of_gate_load gate.Busy p ∷ []) anything (λ j k. ShowsGate p k × keeps j k)
          → Took facts b c (act_of_announcement (Err q) ∷ []) anything (ShowsAnnounced n (Err q)) → ⊥
      never_closed_between p q n wide closed look t =
          let stands = (look_open p n wide look).stands_is in
          never_busy fits own (some b) (subst IsLone (sym stands) lone) (all_counted q)
          (look_closed q closed (lost_look n q t))

      pub never_moved : (p q : GateParts) (n m : ℕ) → p ≡ open_with n → q ≡ open_with m
          → Took facts a b (act_of_gate_load gate.Busy p ∷ []) anything (λ j k. ShowsGate p k × keeps j k)
          → Took facts b c (act_of_announcement (Err q) ∷ []) anything (ShowsAnnounced n (Err q)) → ⊥
      never_moved p q n m wide is look t =
          let first = look_open p n wide look in
          let last = look_open q m is (lost_look n q t) in
          let stands = first.stands_is in
          let stood = last.stands_is ∙ ap (λ s. standing_after s (Meet ∷ [])) stands in
          ∥∥₁_elim (some a) (λ x y. absurd x) (λ k.
          let g = first.goes k.0 k.1 tt in
          lost_other n m q (some b) is t
          (counts_none n (subst IsLone (sym stands) lone) (ap (λ (s : Standing). s.role) stands ∙ out) first k.0 k.1
          ∙ sym (counts_none m (subst IsLone (sym stood) lone) (ap (λ (s : Standing). s.role) stood ∙ out) last g.0
          g.1)))
