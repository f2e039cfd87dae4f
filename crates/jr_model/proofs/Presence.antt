-- What is named is present.
use Rattle.std.proofs.Common.{◌≡◌, ◌≢◌, ◌⊎◌, inl, inr, ⊎_elim, ℕ, zero, suc, pred, Option, Some, None}
use Rattle.std.proofs.Common.{IsSome, List, [], ◌∷◌, slice_get, slice_set, refl, sym, ap, subst, ◌∙◌, nat_eq}
use Rattle.jr_word.specs.declared.config.Config.{Config}
use Rattle.jr_word.specs.declared.handle.RefKind.{RefKind}
use Rattle.jr_word.specs.declared.handle.RefKind.TheVariants.{Local, Global, Weak}
use Rattle.jr_word.specs.declared.kind.Kind.{Kind}
use Rattle.jr_word.specs.declared.kind.Kind.TheVariants.{Objects}
use Rattle.jr_model.specs.declared.event.Role.{Role}
use Rattle.jr_model.specs.declared.event.Role.TheVariants.{Collecting}
use Rattle.jr_model.specs.declared.event.Found.TheVariants.{Object, Cleared, Stale}
use Rattle.jr_model.specs.declared.event.Event.{Event}
use Rattle.jr_model.specs.declared.event.Act.{Act}
use Rattle.jr_model.specs.declared.event.Act.TheVariants.{Gate, Create, Delete, Clear, LocalPut}
use Rattle.jr_model.specs.declared.event.Act.TheVariants.{LocalDrop, New, Write, Drop}
use Rattle.jr_model.specs.declared.event.GateAct.TheVariants.{Shut, Reopen}
use Rattle.jr_model.specs.Maps.{update}
use Rattle.jr_model.specs.State.{Handle, Contents, State, opening, IsPresent, NobodyCollects}
use Rattle.jr_model.specs.State.{IsWord, AreWords, IsClosed, from_global, from_local}
use Rattle.jr_model.specs.Steps.{Needs, ActNeeds, act_after, after, role_behind, written}
use Rattle.jr_model.specs.History.{History, state, IsLegal}
use Rattle.jr_model.specs.Laws.{NamedIsPresent, ElementsArePresent}
use Rattle.jr_model.proofs.Updates.{at_handle, at_number, at_number_self}
use Rattle.jr_model.proofs.Histories.{kept_from}
use Rattle.jr_model.proofs.Gates.{IsApart, apart_opening, apart_after}
use Rattle.jr_model.proofs.References.{IsKept, kept_opening, kept_after}

-- an element after a write is the written one, or another from before
pub slice_get_set : {A : Type 0} (xs : List A) (i j : ℕ) (v w : A) → slice_get (slice_set xs i v) j ≡ Some w
    → ((i ≡ j) × (w ≡ v)) ⊎ ((i ≢ j) × (slice_get xs j ≡ Some w))
slice_get_set [] i j v w e = absurd cc
slice_get_set (x ∷ xs) zero zero v w e = inl (refl, cc)
slice_get_set (x ∷ xs) zero (suc j) v w e = inr (λ z. cc, e)
slice_get_set (x ∷ xs) (suc i) zero v w e = inr (λ z. cc, e)
slice_get_set (x ∷ xs) (suc i) (suc j) v w e =
    ⊎_elim (λ h. inl (ap suc h.0, h.1)) (λ h. inr (λ z. h.0 (ap pred z), h.1)) (slice_get_set xs i j v w e)

pub record IsSound (s : State) : Type 0 where
  pub named : (h : Handle) (o : ℕ) → s.refs h ≡ Object o → IsPresent s o
  pub local : (t p o : ℕ) → s.locals t p ≡ Some o → IsPresent s o
  pub closed : NobodyCollects s → IsClosed s

-- nobody collected before a thread that did not collect took another role
quiet_before : (role : ℕ → Role) (t : ℕ) (r : Role) → role t ≢ Collecting
    → ((u : ℕ) → update nat_eq role t r u ≢ Collecting) → (u : ℕ) → role u ≢ Collecting
quiet_before role t r quiet nobody u = at_number (λ x. x ≢ Collecting → role u ≢ Collecting) role t u r
    (λ e p. subst (λ v. role v ≢ Collecting) e quiet) (λ ne p. p) (nobody u)

-- a thread that did not collect takes another role
sound_apart : (s : State) (t : ℕ) (r : Role) → IsSound s → s.role t ≢ Collecting
    → IsSound (record s { role = update nat_eq s.role t r })
sound_apart s t r i quiet = record {
  named = i.named;
  local = i.local;
  closed = λ nobody. i.closed (quiet_before s.role t r quiet nobody);
}

-- a word of the kind stays one where no object goes
pub word_mono : (s s' : State) (k : Kind) (v : ℕ) → ((o : ℕ) → IsPresent s o → IsPresent s' o) → IsWord s k v
    → IsWord s' k v
word_mono s s' Objects v more w = ⊎_elim (λ e. inl e) (λ p. inr (more v p)) w
word_mono s s' _ v more w = w

written_some : (x : Option Contents) (i v : ℕ) → IsSome x → IsSome (written x i v)
written_some None i v p = p
written_some (Some x) i v p = refl

more_new : (s : State) (o : ℕ) (x : Contents) (p : ℕ) → IsPresent s p → IsSome (update nat_eq s.objects o (Some x) p)
more_new s o x p h = at_number (λ y. IsSome y) s.objects o p (Some x) (λ e. refl) (λ ne. h)

more_write : (s : State) (o i v p : ℕ) → IsPresent s p
    → IsSome (update nat_eq s.objects o (written (s.objects o) i v) p)
more_write s o i v p h = at_number (λ y. IsSome y) s.objects o p (written (s.objects o) i v)
    (λ e. written_some (s.objects o) i v (subst (λ k. IsPresent s k) (sym e) h)) (λ ne. h)

-- the elements of an object after a write into it
words_written : (s : State) (x y : Contents) (i v : ℕ) → IsWord s x.kind v
    → (x.kind ≡ Objects → AreWords s Objects x.words) → written (Some x) i v ≡ Some y → y.kind ≡ Objects
    → AreWords s Objects y.words
words_written s x y i v w old is kind j u at =
    let same : record { kind = x.kind; words = slice_set x.words i v } ≡ y = cc in
    let kinds : x.kind ≡ Objects = ap (λ (z : Contents). z.kind) same ∙ kind in
    let found : slice_get (slice_set x.words i v) j ≡ Some u = ap (λ (z : Contents). slice_get z.words j) same ∙ at in
    ⊎_elim (λ h. subst (λ n. IsWord s Objects n) (sym h.1) (subst (λ k. IsWord s k v) kinds w)) (λ h. old kinds j u h.1)
    (slice_get_set x.words i j v u found)

module _ (c : Config) (last : ℕ) where
  sound_act : (s : State) (t : ℕ) (a : Act) → IsKept c last s → IsApart s.role → IsSound s → ActNeeds c last s t a
      → IsSound (act_after s t a)
  sound_act s t (Gate Shut) k g i n = record {
    named = i.named;
    local = i.local;
    closed = λ nobody. absurd (nobody t (at_number_self s.role t Collecting));
  }
  sound_act s t (Gate Reopen) k g i n = record { named = i.named; local = i.local; closed = λ nobody. n.1 }
  sound_act s t (Gate a) k g i n = sound_apart s t (role_behind a) i (λ e. let r = n.0 in cc)
  sound_act s t (Create h o) k g i n = record {
    named = λ f p. at_handle (λ x. x ≡ Object p → IsPresent s p) s.refs h f (Object o)
        (λ e q. let same : o ≡ p = cc in subst (λ j. IsPresent s j) same n.1)
        (λ ne q. i.named f p q);
    local = i.local;
    closed = i.closed;
  }
  sound_act s t (Delete h) k g i n = record {
    named = λ f p.
        at_handle (λ x. x ≡ Object p → IsPresent s p) s.refs h f Stale (λ e q. absurd cc) (λ ne q. i.named f p q);
    local = i.local;
    closed = i.closed;
  }
  sound_act s t (Clear h) k g i n = record {
    named = λ f p.
        at_handle (λ x. x ≡ Object p → IsPresent s p) s.refs h f Cleared (λ e q. absurd cc) (λ ne q. i.named f p q);
    local = i.local;
    closed = i.closed;
  }
  sound_act s t (LocalPut p o) k g i n = record {
    named = i.named;
    local = λ u q r. at_number (λ f. f q ≡ Some r → IsPresent s r) s.locals t u (update nat_eq (s.locals t) p (Some o))
        (λ e. at_number (λ x. x ≡ Some r → IsPresent s r) (s.locals t) p q (Some o)
        (λ e' h. let same : o ≡ r = cc in subst (λ j. IsPresent s j) same n.2)
        (λ ne h. i.local t q r h))
        (λ ne h. i.local u q r h);
    closed = i.closed;
  }
  sound_act s t (LocalDrop p) k g i n = record {
    named = i.named;
    local = λ u q r. at_number (λ f. f q ≡ Some r → IsPresent s r) s.locals t u (update nat_eq (s.locals t) p None)
        (λ e.
        at_number (λ x. x ≡ Some r → IsPresent s r) (s.locals t) p q None (λ e' h. absurd cc) (λ ne h. i.local t q r h))
        (λ ne h. i.local u q r h);
    closed = i.closed;
  }
  sound_act s t (New o kind ws) k g i n =
      let x : Contents = record { kind = kind; words = ws } in
      let s' : State = act_after s t (New o kind ws) in
      let more : (p : ℕ) → IsPresent s p → IsPresent s' p = more_new s o x in
      record {
        named = λ f p q. more p (i.named f p q);
        local = λ u p r q. more r (i.local u p r q);
        closed = λ nobody a y.
            at_number (λ z. z ≡ Some y → y.kind ≡ Objects → AreWords s' Objects y.words) s.objects o a (Some x)
            (λ e q m j v at.
            let same : x ≡ y = cc in
            let kinds : kind ≡ Objects = ap (λ (z : Contents). z.kind) same ∙ m in
            word_mono s s' Objects v more
            (subst (λ l. IsWord s l v) kinds (n.4 j v (ap (λ (z : Contents). slice_get z.words j) same ∙ at))))
            (λ ne q m j v at. word_mono s s' Objects v more (i.closed nobody a y q m j v at));
      }
  sound_act s t (Write o l w) k g i n =
      let s' : State = act_after s t (Write o l w) in
      let more : (p : ℕ) → IsPresent s p → IsPresent s' p = more_write s o l w in
      record {
        named = λ f p q. more p (i.named f p q);
        local = λ u p r q. more r (i.local u p r q);
        closed = λ nobody a y. at_number (λ z. z ≡ Some y → y.kind ≡ Objects → AreWords s' Objects y.words) s.objects o
            a (written (s.objects o) l w)
            (λ e q m j v at. word_mono s s' Objects v more
            (words_written s n.1 y l w n.5 (λ kind. i.closed nobody o n.1 n.2 kind)
            (ap (λ z. written z l w) (sym n.2) ∙ q) m j v at))
            (λ ne q m j v at. word_mono s s' Objects v more (i.closed nobody a y q m j v at));
      }
  sound_act s t (Drop o) k g i n =
      let stays : (p : ℕ) → p ≢ o → IsPresent s p → IsSome (update nat_eq s.objects o None p)
      = λ p ne h. at_number (λ y. IsSome y) s.objects o p None (λ e. absurd (ne (sym e))) (λ ne'. h) in
      let unnamed : (f : Handle) (m : RefKind) → f.kind ≡ m → s.refs f ≢ Object o
      = λ f. elim [
        | Local ↦ λ m q. (k.in_row f (k.was_given f (λ z. cc))).0 m
        | Global ↦ λ m q. n.2 (from_global f m q n.1)
        | Weak ↦ λ m q. n.3 f m q
      ] in
      record {
        named = λ f p q. stays p (λ e. unnamed f f.kind refl (subst (λ j. s.refs f ≡ Object j) e q)) (i.named f p q);
        local = λ u p r q.
            stays r (λ e. n.2 (from_local u p (subst (λ j. s.locals u p ≡ Some j) e q) n.1)) (i.local u p r q);
        closed = λ nobody. absurd (nobody t n.0);
      }
  sound_act s t _ k g i n = record { named = i.named; local = i.local; closed = i.closed }

  record IsWell (s : State) : Type 0 where
    pub kept : IsKept c last s
    pub apart : IsApart s.role
    pub sound : IsSound s

  well_after : (s : State) (e : Event) → IsWell s → Needs c last s e → IsWell (after s e)
  well_after s e i n = record {
    kept = kept_after c last s e i.kept n;
    apart = apart_after c last s e i.apart n;
    sound = sound_act s e.thread e.act i.kept i.apart i.sound n.1;
  }

  well_opening : IsWell opening
  well_opening = record {
    kept = kept_opening c last;
    apart = apart_opening c last;
    sound = record { named = λ h o e. absurd cc; local = λ t p o e. absurd cc; closed = λ nobody o x e. absurd cc };
  }

  pub sound_state : (es : History) → IsLegal c last es → IsSound (state es)
  sound_state es l = (kept_from c last IsWell well_after opening es well_opening l).sound

  pub named_is_present : NamedIsPresent c last
  named_is_present es l = ((sound_state es l).named, (sound_state es l).local)

  pub elements_are_present : ElementsArePresent c last
  elements_are_present es l nobody = (sound_state es l).closed nobody
