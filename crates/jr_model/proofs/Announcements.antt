-- What holds while an announcement stands.
use Rattle.std.proofs.Common.{◌≡◌, ◌≢◌, ◌↔◌, ◌⊎◌, inl, inr, ⊎_elim, ℕ, Bool, true, false, if◌then◌else◌}
use Rattle.std.proofs.Common.{List, [], ◌∷◌, ◌++◌, refl, sym, ap, subst, ◌∙◌, arith, append_assoc}
use Rattle.std.proofs.lemmas.List.{append-nil}
use Rattle.std.specs.List.{AllByRecursion}
use Rattle.jr_word.specs.declared.config.Config.{Config}
use Rattle.jr_model.specs.declared.event.Role.{Role}
use Rattle.jr_model.specs.declared.event.Role.TheVariants.{Outside, Within, Knocking, Announcing, Collecting}
use Rattle.jr_model.specs.declared.event.Event.{Event}
use Rattle.jr_model.specs.declared.event.Act.{Act}
use Rattle.jr_model.specs.declared.event.Act.TheVariants.{Gate, ShutBusy}
use Rattle.jr_model.specs.declared.event.GateAct.{GateAct}
use Rattle.jr_model.specs.declared.event.GateAct.TheVariants.{Enter, Knock, Leave, Withdraw}
use Rattle.jr_model.specs.declared.event.GateAct.TheVariants.{Announce, Cancel, Shut, Reopen}
use Rattle.jr_model.specs.Maps.{count_below}
use Rattle.jr_model.specs.State.{State, is_barring, is_inside, is_outside}
use Rattle.jr_model.specs.Steps.{ActNeeds, role_behind, act_after, after}
use Rattle.jr_model.specs.History.{History, by, state_from, state, mine, IsLegalFrom, IsLegal, PassView, Did}
use Rattle.jr_model.specs.Announcements.{AnnouncedUntil, AreInTheWay, IsAnnouncement, IsInTheWay}
use Rattle.jr_model.specs.Announcements.{NobodyEnters, WithinOnlyLeave, AnnouncerCounts}
use Rattle.jr_model.specs.Windows.{IsLastSeen, Stepped}
use Rattle.jr_model.proofs.Counts.{count_single, not_outside_split, not_true}
use Rattle.jr_model.proofs.Gates.{IsApart, apart_after, apart_state, legal_inside, stay_act}
use Rattle.jr_model.proofs.Histories.{legal_append, mine_append, shown_along, state_append}
use Rattle.jr_model.proofs.Stays.{mine_did, never}
use Rattle.jr_model.proofs.Updates.{at_number, at_number_self}

-- who keeps the gate closed announces or collects
pub closes_by : (r : Role) → is_barring r ≡ true → (r ≡ Announcing) ⊎ (r ≡ Collecting)
closes_by Announcing e = inl refl
closes_by Collecting e = inr refl
closes_by _ e = absurd cc

-- one thread alone keeps the gate closed
pub one_closes : {role : ℕ → Role} → IsApart role → (t u : ℕ) → is_barring (role t) ≡ true → is_barring (role u) ≡ true
    → t ≡ u
one_closes {role} i t u p q = ⊎_elim
    (λ (e : role t ≡ Announcing). i.announced t u e q)
    (λ (e : role t ≡ Collecting). ⊎_elim
    (λ (e' : role u ≡ Announcing). sym (i.announced u t e' p))
    (λ (e' : role u ≡ Collecting). i.alone t u e e')
    (closes_by (role u) q))
    (closes_by (role t) p)

module _ (c : Config) (last : ℕ) where
  -- while t keeps the gate closed nobody goes in, and t keeps it
  -- closed until it takes its announcement back or opens the gate
  closing_act : (t : ℕ) (s : State) (u : ℕ) (a : Act) → IsApart s.role → is_barring (s.role t) ≡ true
      → by u a ≢ by t (Gate Cancel) → by u a ≢ by t (Gate Reopen) → ActNeeds c last s u a
      → (is_barring ((act_after s u a).role t) ≡ true) × (a ≢ Gate Enter)
  closing_act t s u (Gate Enter) i w q r n = absurd (let none = n.1 t in cc)
  closing_act t s u (Gate Knock) i w q r n =
      (at_number (λ x. is_barring x ≡ true) s.role u t Knocking (λ e. absurd (let o = n.0 in cc)) (λ ne. w), λ e. cc)
  closing_act t s u (Gate Leave) i w q r n =
      (at_number (λ x. is_barring x ≡ true) s.role u t Outside (λ e. absurd (let o = n.0 in cc)) (λ ne. w), λ e. cc)
  closing_act t s u (Gate Withdraw) i w q r n =
      (at_number (λ x. is_barring x ≡ true) s.role u t Outside (λ e. absurd (let o = n.0 in cc)) (λ ne. w), λ e. cc)
  closing_act t s u (Gate Announce) i w q r n = absurd (let none = n.1 t in cc)
  closing_act t s u (Gate Cancel) i w q r n = absurd (q (ap (λ v. by v (Gate Cancel)) (i.announced u t n.0 w)))
  closing_act t s u (Gate Shut) i w q r n =
      (at_number (λ x. is_barring x ≡ true) s.role u t Collecting (λ e. refl) (λ ne. w), λ e. cc)
  closing_act t s u (Gate Reopen) i w q r n =
      absurd (r (ap (λ v. by v (Gate Reopen)) (one_closes i u t (ap is_barring n.0) w)))
  closing_act t s u _ i w q r n = (w, λ e. cc)

  closing_along : (t : ℕ) (s : State) (es : History) → IsApart s.role → is_barring (s.role t) ≡ true
      → AllByRecursion (λ e. (e ≢ by t (Gate Cancel)) × (e ≢ by t (Gate Reopen))) es → IsLegalFrom c last s es
      → is_barring ((state_from s es).role t) ≡ true
  closing_along t s [] i w q l = w
  closing_along t s (e ∷ es) i w q l = closing_along t (after s e) es (apart_after c last s e i l.0)
      (closing_act t s e.thread e.act i w q.0.0 q.0.1 l.0.1).0 q.1 l.1

  pub nobody_enters : NobodyEnters c last
  nobody_enters t es before inside rest l k =
      let p = legal_inside c last es before (by t (Gate Announce)) inside rest l k.parts in
      shown_along c last (λ s. IsApart s.role × (is_barring (s.role t) ≡ true))
      (λ e. (e ≢ by t (Gate Cancel)) × (e ≢ by t (Gate Reopen))) (λ e. e.act ≢ Gate Enter)
      (λ s e i q n. let r = closing_act t s e.thread e.act i.0 i.1 q.0 q.1 n.1 in
      ((apart_after c last s e i.0 n, r.0), r.1))
      (after (state before) (by t (Gate Announce))) inside (
        apart_after c last (state before) (by t (Gate Announce)) (apart_state c last before p.0) p.1.0,
        ap is_barring (at_number_self (state before).role t Announcing),
      )
      k.stands p.1.1

-- one goes in by an entry alone
behind_within : (a : GateAct) → role_behind a ≡ Within → a ≡ Enter
behind_within Enter e = refl
behind_within _ e = absurd cc

-- whoever is within behind an act that is no entry was so before it, and has not left by it
within_before : (s : State) (v : ℕ) (a : Act) (u : ℕ) → a ≢ Gate Enter → (act_after s v a).role u ≡ Within
    → (s.role u ≡ Within) × (by v a ≢ by u (Gate Leave))
within_before s v (Gate a) u ne w =
    at_number (λ x. x ≡ Within → (s.role u ≡ Within) × (by v (Gate a) ≢ by u (Gate Leave))) s.role v u (role_behind a)
    (λ e p. absurd (ne (ap Gate (behind_within a p))))
    (λ apart p. (p, λ e. apart (ap (λ (f : Event). f.thread) e)))
    w
within_before s v _ u ne w = (w, λ e. let same = ap (λ (f : Event). f.act) e in cc)

within_along : (s : State) (es : History) (u : ℕ) → AllByRecursion (λ e. e.act ≢ Gate Enter) es
    → (state_from s es).role u ≡ Within → (s.role u ≡ Within) × AllByRecursion (λ e. e ≢ by u (Gate Leave)) es
within_along s [] u q w = (w, tt)
within_along s (e ∷ es) u q w =
    let later = within_along (after s e) es u q.1 w in
    let here = within_before s e.thread e.act u q.0 later.0 in
    (here.0, (here.1, later.1))

-- who is inside is within or knocks
inside_by : {P : Type 0} (r : Role) → is_inside r ≡ true → (r ≡ Within → P) → (r ≡ Knocking → P) → P
inside_by Outside e w k = absurd cc
inside_by Within e w k = w refl
inside_by Knocking e w k = k refl
inside_by Announcing e w k = absurd cc
inside_by Collecting e w k = absurd cc

all_behind : (P : Event → Type 0) (xs ys : History) → AllByRecursion P (xs ++ ys) → AllByRecursion P ys
all_behind P [] ys h = h
all_behind P (x ∷ xs) ys h = all_behind P xs ys h.1

module _ (c : Config) (last : ℕ) where
  pub within_only_leave : WithinOnlyLeave c last
  within_only_leave t u es before earlier since rest l k w =
      let front = before ++ by t (Gate Announce) ∷ earlier in
      let none = all_behind (λ e. e.act ≢ Gate Enter) earlier since
      (nobody_enters c last t es before (earlier ++ since) rest l k) in
      let same : state (before ++ by t (Gate Announce) ∷ earlier ++ since) ≡ state_from (state front) since =
      state_append front since in
      within_along (state front) since u none (sym (ap (λ (s : State). s.role u) same) ∙ w)

  -- an announcement is no leave
  no_leave : (t u : ℕ) → by t (Gate Announce) ≢ by u (Gate Leave)
  no_leave t u e = let same = ap (λ (f : Event). f.act) e in cc

  -- who is within stays so until it leaves
  within_still : (u : ℕ) (s : State) (es : History) → IsApart s.role → s.role u ≡ Within
      → AllByRecursion (λ e. e ≢ by u (Gate Leave)) es → IsLegalFrom c last s es → (state_from s es).role u ≡ Within
  within_still u s [] i w q l = w
  within_still u s (e ∷ es) i w q l = within_still u (after s e) es (apart_after c last s e i l.0)
      (stay_act c last u s e.thread e.act i w q.0 l.0.1).0 q.1 l.1

  -- who is inside is in the way, and who is in the way is inside
  in_the_way : (t u : ℕ) (before inside : History) → IsLegal c last before
      → IsLegalFrom c last (state before) (by t (Gate Announce) ∷ inside)
      → AllByRecursion (λ e. e.act ≢ Gate Enter) inside
      → is_inside ((state (before ++ by t (Gate Announce) ∷ inside)).role u) ≡ true ↔ IsInTheWay t u before inside
  in_the_way t u before inside l m none =
      let here = before ++ by t (Gate Announce) ∷ inside in
      let same : state here ≡ state_from (state before) (by t (Gate Announce) ∷ inside) =
      state_append before (by t (Gate Announce) ∷ inside) in (
        λ is. inside_by ((state here).role u) is
            (λ (w : (state here).role u ≡ Within). let was = within_along (state before) (by t (Gate Announce) ∷ inside)
            u ((λ e. cc), none) (sym (ap (λ (s : State). s.role u) same) ∙ w) in inl (was.0, was.1.1))
            (λ (k : (state here).role u ≡ Knocking). inr k),
        ⊎_elim
            (λ (w : ((state before).role u ≡ Within) × AllByRecursion (λ e. e ≢ by u (Gate Leave)) inside).
            ap is_inside (ap (λ (s : State). s.role u) same ∙ within_still u (state before)
            (by t (Gate Announce) ∷ inside) (apart_state c last before l) w.0 (no_leave t u, w.1) m))
            (λ (k : (state here).role u ≡ Knocking). ap is_inside k),
      )

  pub announcer_counts : AnnouncerCounts c last
  announcer_counts t n es before inside rest l k =
      let here = before ++ by t (Gate Announce) ∷ inside in
      let parts : es ≡ here ++ by t (ShutBusy n) ∷ rest = k.parts in
      let both = (legal_append c last here (by t (ShutBusy n) ∷ rest)).0 (subst (IsLegal c last) parts l) in
      let p = (legal_append c last before (by t (Gate Announce) ∷ inside)).0 both.0 in
      let s = state here in
      let apart : IsApart s.role = apart_state c last here both.0 in
      let closing : is_barring (s.role t) ≡ true =
      ap (λ (z : State). is_barring (z.role t)) (state_append before (by t (Gate Announce) ∷ inside))
      ∙ closing_along c last t (after (state before) (by t (Gate Announce))) inside
      (apart_after c last (state before) (by t (Gate Announce)) (apart_state c last before p.0) p.1.0)
      (ap is_barring (at_number_self (state before).role t Announcing)) k.stands p.1.1 in
      let needs = both.1.0 in
      let announces : is_outside (s.role t) ≡ false =
      ⊎_elim (λ (e : s.role t ≡ Outside). absurd (let w = closing in cc))
      (λ (e : s.role t ≡ Announcing). ap is_outside e) needs.1.0 in
      let own : ◌≡◌ {A = ℕ} (if is_outside (s.role t) then 0 else 1) 1 =
      ap (λ (b : Bool). if b then 0 else 1) announces in
      let others = needs.1.1 in
      let one : count_below c.threads (λ u. is_barring (s.role u)) ≡ 1 =
      count_single c.threads (λ u. is_barring (s.role u)) t needs.0 closing (λ j ne.
      not_true (is_barring (s.role j)) (λ e. ne (one_closes apart t j closing e))) in
      let split = not_outside_split c s in
      record {
        counted = omega (arith, own, others, one, split);
        each = λ u. in_the_way t u before inside p.0 p.1
            (nobody_enters c last t es before inside (by t (ShutBusy n) ∷ rest) l k);
      }

all_both : {A : Type 0} (P Q : A → Type 0) (xs : List A) → AllByRecursion P xs → AllByRecursion Q xs
    → AllByRecursion (λ x. P x × Q x) xs
all_both P Q [] p q = tt
all_both P Q (x ∷ xs) p q = ((p.0, q.0), all_both P Q xs p.1 q.1)

-- an event, some more of two parts, and one more
around : (before more between : History) (first last : Event)
    → (((before ++ first ∷ []) ++ more) ++ between) ++ last ∷ [] ≡ before ++ first ∷ (more ++ between) ++ last ∷ []
around before more between first last = ap (λ l. l ++ last ∷ []) (append_assoc (before ++ first ∷ []) more between
    ∙ append_assoc before (first ∷ []) (more ++ between))

all_before : (P : Event → Type 0) (xs ys : History) → AllByRecursion P (xs ++ ys) → AllByRecursion P xs
all_before P [] ys h = tt
all_before P (x ∷ xs) ys h = (h.0, all_before P xs ys h.1)

-- an announcement stands up to each of the shuts that are refused in it
cut : {t : ℕ} {es before rest : History} (earlier since : History) (n : ℕ)
    → IsAnnouncement t es before (earlier ++ by t (ShutBusy n) ∷ since) rest
    → IsAnnouncement t es before earlier (by t (ShutBusy n) ∷ since ++ rest)
cut {t} {es} {before} {rest} earlier since n k = record {
  parts = k.parts
      ∙ (ap (λ l. l ++ rest) (sym (append_assoc before (by t (Gate Announce) ∷ earlier) (by t (ShutBusy n) ∷ since)))
      ∙ append_assoc (before ++ by t (Gate Announce) ∷ earlier) (by t (ShutBusy n) ∷ since) rest);
  stands = all_before (λ e. (e ≢ by t (Gate Cancel)) × (e ≢ by t (Gate Reopen))) earlier (by t (ShutBusy n) ∷ since)
      k.stands;
}

-- WHO ANNOUNCED, did no more than these acts, and then ended it
pub announced_until : {q r s : PassView} (acts : List Act) (end : GateAct) → AllByRecursion (λ a. a ≢ Gate Cancel) acts
    → AllByRecursion (λ a. a ≢ Gate Reopen) acts → IsLastSeen q (Gate Announce) → Did q r acts → Stepped r s (Gate end)
    → AnnouncedUntil s acts end
announced_until {q} {r} {s} acts end cancels reopens first d step =
    let t = s.thread in
    let to_r : t ≡ r.thread = step.did.thread in
    let to_q : t ≡ q.thread = to_r ∙ d.thread in
    let inside = d.begins.0 ++ step.behind.between in
    let own : mine inside t ≡ acts = mine_append d.begins.0 step.behind.between t
    ∙ (ap (λ l. mine d.begins.0 t ++ l) (subst (λ u. mine step.behind.between u ≡ []) (sym to_r) step.behind.others)
    ∙ (append-nil (mine d.begins.0 t) ∙ subst (λ u. mine d.begins.0 u ≡ acts) (sym to_q) (mine_did acts d))) in
    let parts : s.seen ≡ first.before ++ by t (Gate Announce) ∷ inside ++ by t (Gate end) ∷ [] = step.behind.is
    ∙ (ap (λ l. (l ++ step.behind.between) ++ by r.thread (Gate end) ∷ []) (sym d.begins.1
    ∙ ap (λ l. l ++ d.begins.0) first.is)
    ∙ (ap (λ (u : ℕ × ℕ). (((first.before ++ by u.0 (Gate Announce) ∷ []) ++ d.begins.0) ++ step.behind.between)
    ++ by u.1 (Gate end) ∷ []) (λ i. (sym to_q i, sym to_r i))
    ∙ around first.before d.begins.0 step.behind.between (by t (Gate Announce)) (by t (Gate end)))) in
    let stands : IsAnnouncement t s.seen first.before inside (by t (Gate end) ∷ []) = record {
      parts = parts;
      stands = all_both (λ e. e ≢ by t (Gate Cancel)) (λ e. e ≢ by t (Gate Reopen)) inside
          (never (Gate Cancel) inside t (subst (λ l. AllByRecursion (λ a. a ≢ Gate Cancel) l) (sym own) cancels))
          (never (Gate Reopen) inside t (subst (λ l. AllByRecursion (λ a. a ≢ Gate Reopen) l) (sym own) reopens));
    } in
    let rest = by t (Gate end) ∷ [] in
    record {
      before = first.before;
      inside = inside;
      stands = stands;
      own = own;
      nobody_enters = nobody_enters r.config r.last t s.seen first.before inside rest step.did.legal stands;
      only_leave = λ earlier since u is w. within_only_leave r.config r.last t u s.seen first.before earlier since rest
          step.did.legal (subst (λ l. IsAnnouncement t s.seen first.before l rest) is stands) w;
      counts = λ earlier since n is.
          subst (λ (c : Config). AreInTheWay c.threads t first.before earlier n) (sym step.did.config)
          (announcer_counts r.config r.last t n s.seen first.before earlier (since ++ rest) step.did.legal
          (cut earlier since n (subst (λ l. IsAnnouncement t s.seen first.before l rest) is stands)));
    }
