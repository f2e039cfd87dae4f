-- The world of a legal history is as its state.
pub mod BornLists
pub mod BornFound
pub mod BornObjects
pub mod BornRefs
pub mod BornStays
use Rattle.std.proofs.Common.{◌≡◌, ◌≢◌, ◌+◌, ◌==◌, ◌++◌, ℕ, suc, Bool, true, false, cond, Option, Some, None, IsSome}
use Rattle.std.proofs.Common.{[], ◌∷◌, slice_set, refl, sym, ap, subst, ◌∙◌}
use Rattle.jr_word.specs.declared.config.Config.{Config}
use Rattle.jr_word.specs.declared.handle.RefKind.{RefKind}
use Rattle.jr_word.specs.declared.handle.RefKind.TheVariants.{Local, Global, Weak}
use Rattle.jr_model.specs.declared.event.Act.{Act}
use Rattle.jr_model.specs.declared.event.Act.TheVariants.{Gate, ShutBusy, Create, Look, Probe, Delete, DeleteStale}
use Rattle.jr_model.specs.declared.event.Act.TheVariants.{Clear, LocalPut, LocalDrop, Reserve, ReserveFull}
use Rattle.jr_model.specs.declared.event.Act.TheVariants.{ReserveLost, New, Read, Write, Drop, Settle, Meet}
use Rattle.jr_model.specs.declared.event.Role.TheVariants.{Within}
use Rattle.jr_model.specs.declared.event.Found.{Found}
use Rattle.jr_model.specs.declared.event.Found.TheVariants.{Object, Stale}
use Rattle.jr_model.specs.State.{Handle, State, Contents, same_kind, opening, IsWord, IsClosed, IsReached}
use Rattle.jr_model.specs.State.IsReached.{from_global, from_local}
use Rattle.jr_model.specs.Steps.{act_after, after, ActNeeds, written}
use Rattle.jr_model.specs.History.{History, IsLegal, state}
use Rattle.jr_model.specs.Checks.{is_local}
use Rattle.jr_model.proofs.Updates.{eq_other}
use Rattle.jr_model.proofs.Histories.{state_push, legal_induction}
use Rattle.jr_model.proofs.Gates.{apart_state}
use Rattle.jr_model.proofs.Presence.{elements_are_present}
use Rattle.jr_world.specs.Births.{Births, no_births, rewritten, word_of_kind, born_by, births}
use Rattle.jr_world.specs.Births.{found_at_place, found_in, IsAs, AreContents, WorldsAreSo}
use Rattle.jr_world.proofs.Births.BornLists.{by_test, some_same, births_push}
use Rattle.jr_world.proofs.Births.BornFound.{found_row, found_place}
use Rattle.jr_world.proofs.Births.BornObjects.{new_as, turned_as, contents_written}
use Rattle.jr_world.proofs.Births.BornRefs.{still_as, create_as, delete_as, local_put_as, local_drop_as, clear_as}

-- what is found at a reference that roots an object is reached
reached : (b : Births) (s : State) (h : Handle) (o : ℕ) → found_in b s h ≡ Object o → IsSome (s.objects o)
    → ((g : Handle) → g.kind ≡ Weak → s.refs g ≢ Object o) → IsReached s o
reached b s h o e there weak = by_test (is_local h)
    (λ l. at h.owner h.index (suc h.serial == b.puts h.owner h.index) (s.locals h.owner h.index) refl
    (sym (found_place b s h l) ∙ e))
    (λ l. row h.kind refl l (sym (found_row b s h l) ∙ e))
  where
    at : (t p : ℕ) (d : Bool) (y : Option ℕ) → s.locals t p ≡ y → cond d (found_at_place y) Stale ≡ Object o
        → IsReached s o
    at t p true (Some q) is e = from_local t p (is ∙ ap (λ z. Some z) (object_same q o e)) there
      where
        object_same : (q o : ℕ) → ◌≡◌ {A = Found} (Object q) (Object o) → q ≡ o
        object_same q o e = cc
    at t p true None is e = absurd cc
    at t p false y is e = absurd cc

    row : (k : RefKind) → h.kind ≡ k → is_local h ≡ false → s.refs h ≡ Object o → IsReached s o
    row Local is l e = absurd (let bad = sym (ap (same_kind Local) is) ∙ l in cc)
    row Global is l e = from_global h is e there
    row Weak is l e = absurd (weak h is e)

-- AN ELEMENT IS WRITTEN
pub write_as : (c : Config) (last : ℕ) (b : Births) (s : State) → IsAs b s → (t o i v : ℕ)
    → ActNeeds c last s t (Write o i v) → IsAs (born_by b t (Write o i v)) (act_after s t (Write o i v))
write_as c last b s a t o i v n = turned_as b s a o (rewritten b.objects i v) (λ x. written x i v) refl refl
    (λ x y z e. (rewritten_contents y, refl)) pair (act_after s t (Write o i v)) refl refl refl refl refl
    (λ h q e x there. stays (q == o) x)
  where
    rewritten_contents : Contents → Contents
    rewritten_contents y =
        record { kind = y.kind; words = slice_set y.words i (word_of_kind b.objects y.kind v) }

    pair : (x y z : Contents) → s.objects o ≡ Some x → AreContents b s x y → rewritten b.objects i v (Some y) ≡ Some z
        → (w : Contents) × (written (Some x) i v ≡ Some w) × AreContents b s w z
    pair x y z there are e = (
      record { kind = x.kind; words = slice_set x.words i v },
      refl,
      subst (AreContents b s (record { kind = x.kind; words = slice_set x.words i v }))
          (some_same (rewritten_contents y) z e)
          (contents_written b s a x y i v
          (subst (λ (u : Contents). IsWord s u.kind v) (some_same n.1 x (sym n.2 ∙ there)) n.5) are),
    )

    stays : (d : Bool) (x : Contents) → (z : Contents) × (cond d (rewritten b.objects i v (Some x)) (Some x) ≡ Some z)
    stays true x = (rewritten_contents x, refl)
    stays false x = (x, refl)

-- AN OBJECT IS DROPPED
pub drop_as : (c : Config) (last : ℕ) (b : Births) (s : State) → IsAs b s → (t o : ℕ)
    → ActNeeds c last s t (Drop o) → IsAs (born_by b t (Drop o)) (act_after s t (Drop o))
drop_as c last b s a t o n = turned_as b s a o (λ y. None) (λ y. None) refl refl (λ x y z e. absurd cc)
    (λ x y z there are e. absurd cc) (act_after s t (Drop o)) refl refl refl refl refl
    (λ h q e x there. (
      x,
      ap (λ d. cond d None (Some x)) (eq_other q o (λ same.
          absurd (n.2 (reached b s h o (e ∙ ap (λ z. Object z) same) n.1 n.3)))),
    ))

module _ (c : Config) (last : ℕ) where
  -- EACH ACT
  pub act_as : (b : Births) (s : State) → IsAs b s → (t : ℕ) → (s.role t ≡ Within → IsClosed s) → (x : Act)
      → ActNeeds c last s t x → IsAs (born_by b t x) (act_after s t x)
  act_as b s a t closed (Gate g) n = still_as b s (act_after s t (Gate g)) b.used a refl refl refl refl a.used
  act_as b s a t closed (Create h o) n = create_as c last b s a t h o n
  act_as b s a t closed (Delete h) n = delete_as c last b s a t h n
  act_as b s a t closed (Clear h) n = clear_as b s a t h n.2 n.1 n.3
  act_as b s a t closed (LocalPut p o) n = local_put_as b s a t p o n.2
  act_as b s a t closed (LocalDrop p) n = local_drop_as b s a t p
  act_as b s a t closed (Reserve m) n = still_as b s (act_after s t (Reserve m)) (b.used + m) a refl refl refl refl
      (ap (λ z. z + m) a.used)
  act_as b s a t closed (New o k ws) n = new_as b s a t o k ws n.1 n.3 (closed n.0) n.4
  act_as b s a t closed (Write o i v) n = write_as c last b s a t o i v n
  act_as b s a t closed (Drop o) n = drop_as c last b s a t o n
  act_as b s a t closed (Settle u) n = still_as b s (act_after s t (Settle u)) u a refl refl refl refl refl
  act_as b s a t closed (ShutBusy m) n = a
  act_as b s a t closed (Look h r) n = a
  act_as b s a t closed (Probe i d) n = a
  act_as b s a t closed (DeleteStale h) n = a
  act_as b s a t closed (ReserveFull m u) n = a
  act_as b s a t closed (ReserveLost m l f) n = a
  act_as b s a t closed (Read o i v) n = a
  act_as b s a t closed Meet n = a

  -- while a thread is within, elements are present
  pub closed_within : (es : History) (t : ℕ) → IsLegal c last es → (state es).role t ≡ Within → IsClosed (state es)
  closed_within es t l within =
      elements_are_present c last es l (λ u e. (apart_state c last es l).apart u t e within)

pub opening_as : IsAs no_births opening
opening_as = record {
  contents = λ i p x e. absurd cc;
  objects = λ p x e. absurd cc;
  one_object = λ i j p x y e f. absurd cc;
  given = λ i h r e. absurd cc;
  told = λ i h r e. absurd cc;
  one_ref = λ i j h r q e f. absurd cc;
  refs = λ h ne. absurd (ne (all_stale (is_local h) (suc h.serial == 0)));
  row = λ h ne. absurd (ne refl);
  used = refl;
}
  where
    all_stale : (d e : Bool) → cond d (cond e Stale Stale) Stale ≡ Stale
    all_stale true true = refl
    all_stale true false = refl
    all_stale false e = refl

pub worlds_are_so : WorldsAreSo
worlds_are_so c last es l = legal_induction c last (λ past. IsAs (births past) (state past)) opening_as
    (λ past e legal a n. subst (IsAs (births (past ++ e ∷ []))) (sym (state_push past e))
    (subst (λ b. IsAs b (after (state past) e)) (sym (births_push past e))
    (act_as c last (births past) (state past) a e.thread (closed_within c last past e.thread legal) e.act n.1)))
    es l
