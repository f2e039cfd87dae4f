-- A reference that a thread looked at in its stay: it stands as it was found, or is gone.
use Rattle.std.proofs.Common.{◌≡◌, ◌≢◌, ◌⊎◌, inl, inr, ◌≤◌, ℕ, true, Option}
use Rattle.std.proofs.Common.{Some, None, [], ◌∷◌, refl, sym, ap, subst, ◌∙◌}
use Rattle.std.specs.List.{AllByRecursion}
use Rattle.jr_word.specs.declared.config.Config.{Config}
use Rattle.jr_word.specs.declared.handle.RefKind.{RefKind}
use Rattle.jr_word.specs.declared.handle.RefKind.TheVariants.{Local, Global, Weak}
use Rattle.jr_model.specs.declared.event.Role.TheVariants.{Within}
use Rattle.jr_model.specs.declared.event.Found.{Found}
use Rattle.jr_model.specs.declared.event.Found.TheVariants.{Object, Stale}
use Rattle.jr_model.specs.declared.event.Event.{Event}
use Rattle.jr_model.specs.declared.event.Act.{Act}
use Rattle.jr_model.specs.declared.event.Act.TheVariants.{Gate, Create, Look, Delete, Clear}
use Rattle.jr_model.specs.declared.event.GateAct.TheVariants.{Leave}
use Rattle.jr_model.specs.State.{Handle, State}
use Rattle.jr_model.specs.Steps.{IsInRow, ActNeeds, act_after, after}
use Rattle.jr_model.specs.History.{History, by, state, state_from, IsLegal, IsLegalFrom}
use Rattle.jr_model.proofs.Updates.{at_handle}
use Rattle.jr_model.proofs.Histories.{legal_append, state_append}
use Rattle.jr_model.proofs.Gates.{IsApart, apart_state, apart_after, stay_act}
use Rattle.jr_model.proofs.Stays.{never}
use Rattle.jr_model.proofs.References.{kept_state}
use Rattle.jr_model.proofs.Presence.{sound_state}
use Rattle.jr_steps.specs.declared.known.Known.{Known}
use Rattle.jr_steps.specs.Acts.{found_of}
use Rattle.jr_steps.specs.Knowing.{HasLooked}
use Rattle.jr_rule.specs.Slots.{CanStand}
use Rattle.jr_model.proofs.InRoom.{in_room}
use Rattle.jr_rule.proofs.Slots.{found_there}

-- the handle was given, and stands as it was found or is gone
record IsStillOrGone (h : Handle) (r : Found) (s : State) : Type 0 where
  given : s.given h ≡ true
  stands : (s.refs h ≡ r) ⊎ (s.refs h ≡ Stale)

module _ (c : Config) (last : ℕ) (t : ℕ) (h : Handle) (r : Found) where
  still_act : (s : State) (u : ℕ) (a : Act) → IsApart s.role → s.role t ≡ Within → IsStillOrGone h r s
      → ActNeeds c last s u a → IsStillOrGone h r (act_after s u a)
  still_act s u (Create g o) i w x n = record {
    given = at_handle (λ y. y ≡ true) s.given g h true (λ e. refl) (λ ne. x.given);
    stands = at_handle (λ y. (y ≡ r) ⊎ (y ≡ Stale)) s.refs g h (Object o)
        (λ e. let fresh = n.4 g refl refl in let was = x.given in absurd (cc (ap s.given e))) (λ ne. x.stands);
  }
  still_act s u (Delete g) i w x n = record {
    given = x.given;
    stands = at_handle (λ y. (y ≡ r) ⊎ (y ≡ Stale)) s.refs g h Stale (λ e. inr refl) (λ ne. x.stands);
  }
  still_act s u (Clear g) i w x n = absurd (i.apart u t n.0 w)
  still_act s u _ i w x n = record { given = x.given; stands = x.stands }

  still_along : (s : State) (es : History) → IsApart s.role → s.role t ≡ Within
      → AllByRecursion (λ e. e ≢ by t (Gate Leave)) es → IsStillOrGone h r s → IsLegalFrom c last s es
      → IsStillOrGone h r (state_from s es)
  still_along s [] i w q x l = x
  still_along s (e ∷ es) i w q x l =
      still_along (after s e) es (apart_after c last s e i l.0) (stay_act c last t s e.thread e.act i w q.0 l.0.1).0 q.1
      (still_act s e.thread e.act i w x l.0.1) l.1

-- what a look shows of a handle that stands, as long as the thread stays
pub record IsLooked (c : Config) (last : ℕ) (h : Handle) (o : Option ℕ) (s : State) : Type 0 where
  pub row : IsInRow c last h
  pub can : CanStand h.kind o
  pub object : (x : ℕ) → o ≡ Some x → (1 ≤ x) × (x ≤ c.objects)
  pub stands : (s.refs h ≡ found_of o) ⊎ (s.refs h ≡ Stale)

can_stand : (k : RefKind) (o : Option ℕ) → k ≢ Local → (o ≡ None → k ≡ Weak) → CanStand k o
can_stand Local o a b = a refl
can_stand Global None a b = absurd (let e = b refl in cc)
can_stand Global (Some o) a b = tt
can_stand Weak o a b = tt

pub looked_at : (c : Config) (last : ℕ) (h : Handle) (o : Option ℕ) (k : Known) → IsLegal c last k.seen
    → HasLooked h (found_of o) k → IsLooked c last h o (state k.seen)
looked_at c last h o k legal q =
    let t : ℕ = k.thread in
    let look : Event = by t (Look h (found_of o)) in
    let both = (legal_append c last q.before (look ∷ q.since)).0 (subst (IsLegal c last) q.is legal) in
    let was : State = state q.before in
    let needs = both.1.0.1 in
    let there : was.refs h ≢ Stale = λ e. found_there o (sym needs.1 ∙ e) in
    let kept = kept_state c last q.before both.0 in
    let given = kept.was_given h there in
    let room = in_room c last q.before both.0 in
    let row = kept.in_row h given in
    let end : state k.seen ≡ state_from was q.since = ap state q.is ∙ state_append q.before (look ∷ q.since) in
    let still = still_along c last t h (found_of o) was q.since (apart_state c last q.before both.0) needs.0
    (never (Gate Leave) q.since t q.stays) (record { given = given; stands = inl needs.1 }) both.1.1 in
    record {
      row = row;
      can = can_stand h.kind o row.0 (λ e. room.cleared h (needs.1 ∙ ap found_of e));
      object = λ x e. room.objects x ((sound_state c last q.before both.0).named h x (needs.1 ∙ ap found_of e));
      stands = subst (λ (s : State). (s.refs h ≡ found_of o) ⊎ (s.refs h ≡ Stale)) (sym end) still.stands;
    }
