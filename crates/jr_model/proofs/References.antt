-- The references that stand and those that were given.
use Rattle.std.proofs.Common.{◌++◌, ◌∷◌, [], false, Bool, inr, inl, ⊎_elim}
use Rattle.std.proofs.Common.{◌≡◌, ◌≢◌, ℕ, true, refl, sym, ap, subst, ◌∙◌}
use Rattle.std.specs.List.{AllByRecursion}
use Rattle.jr_word.specs.declared.config.Config.{Config}
use Rattle.jr_word.specs.declared.handle.RefKind.TheVariants.{Weak}
use Rattle.jr_model.specs.declared.event.Found.TheVariants.{Object, Cleared, Stale}
use Rattle.jr_model.specs.declared.event.Event.{Event}
use Rattle.jr_model.specs.declared.event.Act.{Act}
use Rattle.jr_model.specs.declared.event.Act.TheVariants.{Create, Look, Delete, Clear}
use Rattle.jr_model.specs.Maps.{update}
use Rattle.jr_model.specs.State.{IsOccupied, Handle, same_handle, State, opening}
use Rattle.jr_model.specs.Steps.{IsInRow, Needs, ActNeeds, act_after, after}
use Rattle.jr_model.specs.History.{History, by, state_from, state, IsLegalFrom, IsLegal}
use Rattle.jr_model.specs.Laws.{IsFoundAs, CreatedIsFound, DeletedIsStale, DeletedIsNotCreated, CreatedOnce, OneAnIndex}
use Rattle.jr_model.proofs.Updates.{at_handle, at_handle_self}
use Rattle.jr_model.specs.StandingReferences.{NoneDeletes, StandsUntilDeleted, ClearedUntilDeleted}
use Rattle.jr_model.proofs.Histories.{kept_from, legal_append, state_append, IsCut, cut}

-- what stands was given, at most one of an index stands, and only handles of the row are given
pub record IsKept (c : Config) (last : ℕ) (s : State) : Type 0 where
  pub in_row : (h : Handle) → s.given h ≡ true → IsInRow c last h
  pub was_given : (h : Handle) → s.refs h ≢ Stale → s.given h ≡ true
  pub one : (g h : Handle) → s.refs g ≢ Stale → s.refs h ≢ Stale → g.index ≡ h.index → g ≡ h

module _ (c : Config) (last : ℕ) where
  kept_act : (s : State) (t : ℕ) (a : Act) → IsKept c last s → ActNeeds c last s t a → IsKept c last (act_after s t a)
  kept_act s t (Create h o) i n = record {
    in_row = λ g. at_handle (λ x. x ≡ true → IsInRow c last g) s.given h g true (λ e p. subst (IsInRow c last) e n.2)
        (λ ne p. i.in_row g p);
    was_given = λ g. at_handle (λ x. x ≢ Stale → update same_handle s.given h true g ≡ true) s.refs h g (Object o)
        (λ e p. at_handle (λ x. x ≡ true) s.given h g true (λ e'. refl) (λ ne. absurd (ne e)))
        (λ ne p. at_handle (λ x. x ≡ true) s.given h g true (λ e'. refl) (λ ne'. i.was_given g p));
    one = λ f g. at_handle (λ x. x ≢ Stale → update same_handle s.refs h (Object o) g ≢ Stale → f.index ≡ g.index
        → f ≡ g) s.refs h f (Object o)
        (λ e p. at_handle (λ x. x ≢ Stale → f.index ≡ g.index → f ≡ g) s.refs h g (Object o)
        (λ e' q same. sym e ∙ e')
        (λ ne q same. absurd (q (n.3 g (sym (ap (λ (k : Handle). k.index) e ∙ same))))))
        (λ ne p. at_handle (λ x. x ≢ Stale → f.index ≡ g.index → f ≡ g) s.refs h g (Object o)
        (λ e' q same. absurd (p (n.3 f (same ∙ sym (ap (λ (k : Handle). k.index) e')))))
        (λ ne' q same. i.one f g p q same));
  }
  kept_act s t (Delete h) i n = record {
    in_row = i.in_row;
    was_given = λ g. at_handle (λ x. x ≢ Stale → s.given g ≡ true) s.refs h g Stale (λ e p. absurd (p refl)) (λ ne p.
        i.was_given g p);
    one = λ f g. at_handle (λ x. x ≢ Stale → update same_handle s.refs h Stale g ≢ Stale → f.index ≡ g.index → f ≡ g)
        s.refs h f Stale
        (λ e p. absurd (p refl))
        (λ ne p. at_handle (λ x. x ≢ Stale → f.index ≡ g.index → f ≡ g) s.refs h g Stale (λ e q. absurd (q refl))
        (λ ne' q same. i.one f g p q same));
  }
  kept_act s t (Clear h) i n =
      let stands : s.refs h ≢ Stale = λ e. let o = n.3 in cc in
      let was : (g : Handle) → update same_handle s.refs h Cleared g ≢ Stale → s.refs g ≢ Stale
      = λ g. at_handle (λ x. x ≢ Stale → s.refs g ≢ Stale) s.refs h g Cleared
      (λ e p. subst (λ k. s.refs k ≢ Stale) e stands) (λ ne p. p) in
      record {
        in_row = i.in_row;
        was_given = λ g p. i.was_given g (was g p);
        one = λ f g p q same. i.one f g (was f p) (was g q) same;
      }
  kept_act s t _ i n = record { in_row = i.in_row; was_given = i.was_given; one = i.one }

  pub kept_opening : IsKept c last opening
  kept_opening =
      record { in_row = λ h p. absurd cc; was_given = λ h p. absurd (p refl); one = λ g h p. absurd (p refl) }

  pub kept_after : (s : State) (e : Event) → IsKept c last s → Needs c last s e → IsKept c last (after s e)
  kept_after s e i n = kept_act s e.thread e.act i n.1

  pub kept_state : (es : History) → IsLegal c last es → IsKept c last (state es)
  kept_state es l = kept_from c last (IsKept c last) kept_after opening es kept_opening l

  -- h was given, and no longer stands
  pub record IsGone (h : Handle) (s : State) : Type 0 where
    pub given : s.given h ≡ true
    pub stale : s.refs h ≡ Stale

  gone_act : (h : Handle) (s : State) (t : ℕ) (a : Act) → IsGone h s → ActNeeds c last s t a
      → IsGone h (act_after s t a)
  gone_act h s t (Create g o) i n = record {
    given = at_handle (λ x. x ≡ true) s.given g h true (λ e. refl) (λ ne. i.given);
    stale = at_handle (λ x. x ≡ Stale) s.refs g h (Object o)
        (λ e. let fresh = n.4 g refl refl in let was = i.given in absurd (cc (ap s.given e))) (λ ne. i.stale);
  }
  gone_act h s t (Delete g) i n =
      record { given = i.given; stale = at_handle (λ x. x ≡ Stale) s.refs g h Stale (λ e. refl) (λ ne. i.stale) }
  gone_act h s t (Clear g) i n = record {
    given = i.given;
    stale = at_handle (λ x. x ≡ Stale) s.refs g h Cleared
        (λ e. let o = n.3 in let was = i.stale in absurd (cc (ap s.refs e))) (λ ne. i.stale);
  }
  gone_act h s t _ i n = record { given = i.given; stale = i.stale }

  pub gone_after : (h : Handle) (s : State) (e : Event) → IsGone h s → Needs c last s e → IsGone h (after s e)
  gone_after h s e i n = gone_act h s e.thread e.act i n.1

  gone_between : (h : Handle) (t : ℕ) (before between : History) (f : Event)
      → IsCut c last before (by t (Delete h)) between f
      → IsGone h (state_from (after (state before) (by t (Delete h))) between)
  gone_between h t before between f k =
      kept_from c last (IsGone h) (gone_after h) (after (state before) (by t (Delete h))) between
      (record {
        given = (kept_state before k.legal_before).was_given h k.first.1.1;
        stale = at_handle_self (state before).refs h Stale;
      })
      k.legal_between

  pub deleted_is_stale : DeletedIsStale c last
  deleted_is_stale h t u r before between rest l =
      let k = cut c last before (by t (Delete h)) between (by u (Look h r)) rest l in
      sym k.second.1.1 ∙ (gone_between h t before between (by u (Look h r)) k).stale

  pub deleted_is_not_created : DeletedIsNotCreated c last
  deleted_is_not_created h t u o before between rest l =
      let k = cut c last before (by t (Delete h)) between (by u (Create h o)) rest l in
      let given = (gone_between h t before between (by u (Create h o)) k).given in
      let fresh = k.second.1.4 h refl refl in cc

  -- what was given stays so
  pub given_act : (h : Handle) (s : State) (t : ℕ) (a : Act) → s.given h ≡ true → (act_after s t a).given h ≡ true
  given_act h s t (Create g o) i = at_handle (λ x. x ≡ true) s.given g h true (λ e. refl) (λ ne. i)
  given_act h s t _ i = i

  pub created_once : CreatedOnce c last
  created_once h t u o p before between rest l =
      let k = cut c last before (by t (Create h o)) between (by u (Create h p)) rest l in
      let given = kept_from c last (λ s. s.given h ≡ true) (λ s e i n. given_act h s e.thread e.act i)
      (after (state before) (by t (Create h o))) between (at_handle_self (state before).given h true) k.legal_between in
      let fresh = k.second.1.4 h refl refl in cc

  pub one_an_index : OneAnIndex c last
  one_an_index es g h l p q same = (kept_state es l).one g h p q same

  standing_act : (h : Handle) (o : ℕ) (s : State) (t : ℕ) (a : Act) → IsFoundAs h o (s.refs h) → a ≢ Delete h
      → ActNeeds c last s t a → IsFoundAs h o ((act_after s t a).refs h)
  standing_act h o s t (Create g p) i q n =
      at_handle (IsFoundAs h o) s.refs g h (Object p)
      (λ e. let none = n.3 g refl in let same = ap s.refs e in absurd
      (⊎_elim (λ (r : s.refs h ≡ Object o). cc) (λ (r : (h.kind ≡ Weak) × (s.refs h ≡ Cleared)). let is = r.1 in cc) i))
      (λ ne. i)
  standing_act h o s t (Delete g) i q n =
      at_handle (IsFoundAs h o) s.refs g h Stale (λ e. absurd (q (ap (λ f. Delete f) e))) (λ ne. i)
  standing_act h o s t (Clear g) i q n = at_handle (IsFoundAs h o) s.refs g h Cleared
      (λ e. inr (subst (λ (k : Handle). k.kind ≡ Weak) e n.1, refl)) (λ ne. i)
  standing_act h o s t _ i q n = i

  standing_along : (h : Handle) (o : ℕ) (s : State) (es : History) → IsFoundAs h o (s.refs h)
      → AllByRecursion (λ e. e.act ≢ Delete h) es → IsLegalFrom c last s es → IsFoundAs h o ((state_from s es).refs h)
  standing_along h o s [] i q l = i
  standing_along h o s (e ∷ es) i q l =
      standing_along h o (after s e) es (standing_act h o s e.thread e.act i q.0 l.0.1) q.1 l.1

  pub created_is_found : CreatedIsFound c last
  created_is_found h t u o r before between rest l kept =
      let k = cut c last before (by t (Create h o)) between (by u (Look h r)) rest l in
      subst (IsFoundAs h o) k.second.1.1
      (standing_along h o (after (state before) (by t (Create h o))) between
      (inl (at_handle_self (state before).refs h (Object o))) kept k.legal_between)

  pub stands_until_deleted : StandsUntilDeleted c last
  stands_until_deleted h o before since whole is legal there none =
      let from = (legal_append c last before since).0 (subst (IsLegal c last) (sym is) legal) in
      subst (λ (s : State). IsFoundAs h o (s.refs h)) (sym (state_append before since) ∙ ap state is)
      (standing_along h o (state before) since (inl there) none from.1)

  cleared_act : (h : Handle) (s : State) (t : ℕ) (a : Act) → s.refs h ≡ Cleared → a ≢ Delete h → ActNeeds c last s t a
      → (act_after s t a).refs h ≡ Cleared
  cleared_act h s t (Create g p) i q n = at_handle (λ r. r ≡ Cleared) s.refs g h (Object p)
      (λ e. let none = n.3 g refl in let same = ap s.refs e in absurd cc) (λ ne. i)
  cleared_act h s t (Delete g) i q n =
      at_handle (λ r. r ≡ Cleared) s.refs g h Stale (λ e. absurd (q (ap (λ f. Delete f) e))) (λ ne. i)
  cleared_act h s t (Clear g) i q n = at_handle (λ r. r ≡ Cleared) s.refs g h Cleared (λ e. refl) (λ ne. i)
  cleared_act h s t _ i q n = i

  cleared_along : (h : Handle) (s : State) (es : History) → s.refs h ≡ Cleared → NoneDeletes h es
      → IsLegalFrom c last s es → (state_from s es).refs h ≡ Cleared
  cleared_along h s [] i q l = i
  cleared_along h s (e ∷ es) i q l = cleared_along h (after s e) es (cleared_act h s e.thread e.act i q.0 l.0.1) q.1 l.1

  pub cleared_until_deleted : ClearedUntilDeleted c last
  cleared_until_deleted h before since whole is legal there none =
      let from = (legal_append c last before since).0 (subst (IsLegal c last) (sym is) legal) in
      subst (λ (s : State). s.refs h ≡ Cleared) (sym (state_append before since) ∙ ap state is)
      (cleared_along h (state before) since there none from.1)

  -- the act that gives a handle makes it stand
  created_stands : (h : Handle) (s : State) (t : ℕ) (a : Act) → s.given h ≡ false → (act_after s t a).given h ≡ true
      → (act_after s t a).refs h ≢ Stale
  created_stands h s t (Create g o) fresh =
      at_handle (λ x. x ≡ true → update same_handle s.refs g (Object o) h ≢ Stale) s.given g h true
      (λ e is. subst (λ k. update same_handle s.refs g (Object o) k ≢ Stale) e (λ r.
      let self = at_handle_self s.refs g (Object o) in cc))
      (λ ne is. absurd cc)
  created_stands h s t _ fresh = λ is. absurd cc

  -- where a handle is given in between, its index was occupied at some moment in between
  pub occupied_between : (h : Handle) (s : State) (es : History) → s.given h ≡ false → (state_from s es).given h ≡ true
      → IsLegalFrom c last s es
      → (front : History) × (rest : History) × (es ≡ front ++ rest) × IsOccupied last (state_from s front) h.index
  occupied_between h s [] fresh there l = absurd cc
  occupied_between h s (e ∷ es) fresh there l =
      go ((after s e).given h) refl (λ f. occupied_between h (after s e) es f there l.1)
    where
      go : (b : Bool) → (after s e).given h ≡ b
          → ((after s e).given h ≡ false → (front : History) × (rest : History) × (es ≡ front ++ rest)
          × IsOccupied last (state_from (after s e) front) h.index)
          → (front : History) × (rest : History) × (e ∷ es ≡ front ++ rest)
          × IsOccupied last (state_from s front) h.index
      go true is later = (e ∷ [], es, refl, inl (h, refl, created_stands h s e.thread e.act fresh is))
      go false is later = let r = later is in (e ∷ r.0, r.1, ap (λ l. e ∷ l) r.2, r.3)
