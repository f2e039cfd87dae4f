-- Weak references are cleared, slot by slot.
use Rattle.std.proofs.Common.{option_to_list, ◌≡◌, ◌≢◌, ◌+◌, ◌<◌, ◌≤◌, ℕ, Bool, true, false, Option, Some, None}
use Rattle.std.proofs.Common.{List, [], ◌∷◌, ◌++◌, length, map, refl, sym, ap, subst, ◌∙◌, arith}
use mathlib.Core.Logic.{dite, ∥∥₁_map}
use native.Mathlib.Decide.{ℕ_discrete}
use Rattle.jr_word.specs.declared.config.Config.{Config}
use Rattle.jr_word.specs.declared.handle.Handle.{Handle as NativeHandle}
use Rattle.jr_word.specs.declared.handle.RefKind.TheVariants.{Weak}
use Rattle.jr_word.specs.declared.slot.SlotParts.{SlotParts}
use Rattle.jr_word.specs.declared.slot.SlotParts.TheVariants as slot
use Rattle.jr_model.specs.declared.event.Role.TheVariants.{Collecting}
use Rattle.jr_model.specs.declared.event.Found.{Found}
use Rattle.jr_model.specs.declared.event.Found.TheVariants.{Object, Cleared, Stale}
use Rattle.jr_model.specs.declared.event.Act.TheVariants.{Clear}
use Rattle.jr_model.specs.State.{Handle, same_handle, Contents, State, IsClosed, IsReached, HaveSameTables}
use Rattle.jr_model.specs.CollectionCalls.{IsToClear}
use Rattle.jr_model.proofs.References.{kept_state}
use Rattle.jr_model.proofs.Stays.{did_then}
use Rattle.jr_model.proofs.Updates.{at_handle, handle_true}
use Rattle.jr_steps.specs.declared.known.Known.{Known}
use Rattle.jr_steps.specs.declared.known.Holdings.{Holdings}
use Rattle.jr_steps.specs.Acts.{handle_of}
use Rattle.jr_steps.specs.Collecting.{CanWipe}
use Rattle.jr_steps.specs.Knowing.{Facts, Standing, AreOf, MayKnow, Took, anything, state_of, keeps, ShowsSlot}
use Rattle.jr_steps.proofs.CollectorFacts.{same_tables}
use Rattle.jr_steps.proofs.StepFacts.{goes_did}
use Rattle.jr_weak.specs.Listing.{native_handle, over_front}
use Rattle.jr_weak.specs.Marks.{IsMarked, weak_in}
use Rattle.jr_weak.specs.Marking.{IsMarkedNow}
use Rattle.jr_weak.specs.Sweeping.{SlotIsSwept, SweepsSlot, ClearsUnreached}
use Rattle.jr_weak.proofs.Kept.{ClearedFrom, cleared_from, exactly_same, exactly_cleared}
use Rattle.jr_weak.proofs.Leading.{closed_on, reached_on}
use Rattle.jr_weak.proofs.RootMarks.{alone_is}
use Rattle.jr_weak.proofs.Sweeping.{SweepsTo, TakenTo, sweeps_may, sweeps_next, sweeps_none, taken_next}
use Rattle.jr_weak.proofs.Sweeping.{taken_none, told_at}

weak_is : (q : SlotParts) (n o : ℕ) → weak_in q ≡ Some (n, o) → q ≡ slot.Weak n (Some o)
weak_is (slot.Weak m (Some r)) n o e = let z : (m, r) ≡ (n, o) = cc in let a = ap (λ (p : ℕ × ℕ). p.0) z in
    let b = ap (λ (p : ℕ × ℕ). p.1) z in ap (λ (p : ℕ × ℕ). slot.Weak p.0 (Some p.1)) z
weak_is (slot.Weak m None) n o e = absurd cc
weak_is _ n o e = absurd cc

-- what is told of a slot is its weak reference that is not cleared, if one stands
weak_of : (i : ℕ) (q : SlotParts) (k : Known) → ShowsSlot i q k → (h : Handle) (o : ℕ) → h.kind ≡ Weak → h.index ≡ i
    → (state_of k).refs h ≡ Object o → (n : ℕ) × (weak_in q ≡ Some (n, o)) × (h ≡ handle_of Weak n i)
weak_of i (slot.Free n) k x h o kind at e = let z = x.stands.0 h at in absurd (let y = sym z ∙ e in cc)
weak_of i (slot.Retired n) k x h o kind at e = let z = x.stands.0 h at in absurd (let y = sym z ∙ e in cc)
weak_of i (slot.Global n r) k x h o kind at e =
    let same = alone_is x.stands h at (λ z. let y = sym z ∙ e in cc) in
    let kinds = ap (λ (f : Handle). f.kind) same in absurd (let y = sym kind ∙ kinds in cc)
weak_of i (slot.Weak n None) k x h o kind at e =
    let same = alone_is x.stands h at (λ z. let y = sym z ∙ e in cc) in
    let found = (x.stands).found in
    absurd (let y = sym found ∙ (ap (state_of k).refs (sym same) ∙ e) in cc)
weak_of i (slot.Weak n (Some r)) k x h o kind at e =
    let same = alone_is x.stands h at (λ z. let y = sym z ∙ e in cc) in
    let found = (x.stands).found in
    let z : Object r ≡ Object o = sym found ∙ (ap (state_of k).refs (sym same) ∙ e) in
    let w : r ≡ o = cc in
    (n, ap (λ z. Some (n, z)) w, same)

weak_stands : (i n o : ℕ) (q : SlotParts) (k : Known) → weak_in q ≡ Some (n, o) → ShowsSlot i q k
    → (state_of k).refs (handle_of Weak n i) ≡ Object o
weak_stands i n o q k e x =
    let y : ShowsSlot i (slot.Weak n (Some o)) k = subst (λ q. ShowsSlot i q k) (weak_is q n o e) x in (y.stands).found

weak_alone : (i n o : ℕ) (q : SlotParts) (k : Known) → weak_in q ≡ Some (n, o) → ShowsSlot i q k → (g : Handle)
    → g.index ≡ i → g ≢ handle_of Weak n i → (state_of k).refs g ≡ Stale
weak_alone i n o q k e x =
    let y : ShowsSlot i (slot.Weak n (Some o)) k = subst (λ q. ShowsSlot i q k) (weak_is q n o e) x in (y.stands).alone

one_weak : (i : ℕ) (q : SlotParts) (n o m r : ℕ) → weak_in q ≡ Some (n, o) → weak_in q ≡ Some (m, r)
    → handle_of Weak n i ≡ handle_of Weak m i
one_weak i q n o m r e f = let z : Some (n, o) ≡ Some (m, r) = sym e ∙ f in let w : (n, o) ≡ (m, r) = cc in
    ap (λ (p : ℕ × ℕ). handle_of Weak p.0 i) w

some_same : (g h : Handle) → Some g ≡ Some h → g ≡ h
some_same g h e = cc

closed_same : (s s' : State) → s'.objects ≡ s.objects → IsClosed s → IsClosed s'
closed_same s s' e c = subst (λ (f : ℕ → Option Contents). IsClosed (record s' { objects = f })) (sym e) c

pub marked_on : (marks : List Bool) (k k' : Known) → HaveSameTables (state_of k) (state_of k') → keeps k k'
    → IsMarkedNow marks k → IsMarkedNow marks k'
marked_on marks k k' same held m = (
  exactly_same marks (state_of k) (state_of k') same m.0,
  (closed_on (state_of k) (state_of k') same m.1.0, ap (λ (g : Holdings). g.moving) held ∙ m.1.1),
)

module _ {S : Type 0} {facts : S → Facts} (fits : AreOf facts) (marks : List Bool) (i : ℕ) {a b : S}
    (collects : (facts a).stands.role ≡ Collecting) (q : SlotParts)
    (t : Took facts a b [] anything (λ j k. ShowsSlot i q k × keeps j k)) where
  -- nothing is to be cleared there
  pub slot_left : ((n o : ℕ) → weak_in q ≡ Some (n, o) → IsMarked marks o) → SweepsSlot facts marks i a b None
  slot_left left = record {
    taken = None;
    told_is = refl;
    went = record {
      stands_is = t.stands_is;
      hint_is = t.hint_is;
      leads = λ k s m.
          let y = t.goes k s tt in
          let same = same_tables y.2 ((fits a k s).role ∙ collects) in
          let names : (h : Handle) (o : ℕ) → h.kind ≡ Weak → h.index ≡ i → (state_of y.0).refs h ≡ Object o
          → IsMarked marks o = λ h o kind at is. let w = weak_of i q y.0 y.3.0 h o kind at is in left w.0 o w.1 in (
            y.0,
            y.1,
            (goes_did y.2, let one = (y.2).taken in omega arith),
            record {
              marked = marked_on marks k y.0 same y.3.1 m;
              objects = same.objects;
              others = λ h ne. ap (λ (f : Handle → Found). f h) same.refs;
              named = names;
              all = λ h at c.
                  absurd (c.3 ((m.0 c.1).0 (names h c.1 c.0 at (ap (λ (f : Handle → Found). f h) same.refs ∙ c.2))));
              only = λ h e. absurd cc;
            },
          );
    };
  }

  module _ (n o : ℕ) (is : weak_in q ≡ Some (n, o)) (unmarked : ¬ (IsMarked marks o)) where
    can_wipe : (k k' : Known) → IsMarkedNow marks k → HaveSameTables (state_of k) (state_of k') → ShowsSlot i q k'
        → CanWipe i n o k'
    can_wipe k k' m same x = (
      weak_stands i n o q k' is x,
      λ r. unmarked ((m.0 o).1 (reached_on (record {
        refs = sym same.refs;
        given = sym same.given;
        locals = sym same.locals;
        objects = sym same.objects;
        used = sym same.used;
      }) o r)),
    )

    pub slot_may : MayKnow facts a (IsMarkedNow marks) → MayKnow facts b (CanWipe i n o)
    slot_may may = ∥∥₁_map may (λ k. let y = t.goes k.0 k.1 tt in
        (y.0, y.1, can_wipe k.0 y.0 k.2 (same_tables y.2 ((fits a k.0 k.1).role ∙ collects)) y.3.0))

    -- the reference is cleared
    pub slot_cleared : {c : S} → Took facts b c (Clear (handle_of Weak n i) ∷ []) (CanWipe i n o) keeps
        → SweepsSlot facts marks i a c (Some (native_handle (handle_of Weak n i)))
    slot_cleared {c} u = record {
      taken = Some (handle_of Weak n i);
      told_is = refl;
      went = record {
        stands_is = u.stands_is ∙ t.stands_is;
        hint_is = u.hint_is ∙ t.hint_is;
        leads = λ k s m.
            let y = t.goes k s tt in
            let same = same_tables y.2 ((fits a k s).role ∙ collects) in
            let can = can_wipe k y.0 m same y.3.0 in
            let z = u.goes y.0 y.1 can in
            let from = cleared_from (handle_of Weak n i) z.2 ((fits b y.0 y.1).role
            ∙ (ap (λ (z : Standing). z.role) t.stands_is ∙ collects)) in
            let mid = marked_on marks k y.0 same y.3.1 m in (
              z.0,
              z.1,
              (
                did_then [] (Clear (handle_of Weak n i) ∷ []) (goes_did y.2) (goes_did z.2),
                let one = (y.2).taken in let two = (z.2).taken in omega arith,
              ),
              swept k y.0 z.0 m same y.3.0 mid z.3 from can.1,
            );
      };
    }
      where
        swept : (k y z : Known) → IsMarkedNow marks k → HaveSameTables (state_of k) (state_of y) → ShowsSlot i q y
            → IsMarkedNow marks y → keeps y z → ClearedFrom (handle_of Weak n i) (state_of y) (state_of z)
            → ¬ (IsReached (state_of y) o) → SlotIsSwept marks i (Some (handle_of Weak n i)) k z
        swept k y z m same x mid held from un = record {
          marked = (
            exactly_cleared marks (handle_of Weak n i) (state_of y) (state_of z) refl from mid.0,
            (
              closed_same (state_of y) (state_of z) from.objects mid.1.0,
              ap (λ (g : Holdings). g.moving) held ∙ mid.1.1,
            ),
          );
          objects = from.objects ∙ same.objects;
          others = λ h ne. ap (λ (f : Handle → Found). f h) from.refs
              ∙ (at_handle (λ x. x ≡ (state_of y).refs h) (state_of y).refs (handle_of Weak n i) h Cleared (λ e. absurd
              (ne (sym (ap (λ (g : Handle). g.index) e)))) (λ ne. refl) ∙ ap (λ (f : Handle → Found). f h) same.refs);
          named = λ h r kind at is'. absurd (at_handle (λ x. ¬ (x ≡ Object r)) (state_of y).refs (handle_of Weak n i) h
              Cleared (λ e f. let w = f in cc) (λ ne f. let stale = weak_alone i n o q y is x h at (λ e. ne (sym e)) in
              let w = sym stale ∙ f in cc) (ap (λ (f : Handle → Found). f h) (sym from.refs) ∙ is'));
          all = λ h at c. let w = weak_of i q y x h c.1 c.0 at (ap (λ (f : Handle → Found). f h) same.refs ∙ c.2) in
              ap (λ g. Some g) (one_weak i q n o w.0 c.1 is w.1 ∙ sym w.2);
          only = λ h e. let here : handle_of Weak n i ≡ h = some_same (handle_of Weak n i) h e in
              subst (λ g. IsToClear (state_of k) g × (g.index ≡ i)) here (
                (
                  refl,
                  o,
                  ap (λ (f : Handle → Found). f (handle_of Weak n i)) (sym same.refs) ∙ weak_stands i n o q y is x,
                  λ r. un (reached_on same o r),
                ),
                refl,
              );
        }

pub weak_pair : (q : SlotParts) (n o m r : ℕ) → weak_in q ≡ Some (n, o) → weak_in q ≡ Some (m, r) → o ≡ r
weak_pair q n o m r e f = let z : Some (n, o) ≡ Some (m, r) = sym e ∙ f in let w : (n, o) ≡ (m, r) = cc in
    ap (λ (p : ℕ × ℕ). p.1) w

-- THE SLOTS BELOW i are swept
pub record ClearedTo (marks : List Bool) (i : ℕ) (cleared : List Handle) (j k : Known) : Type 0 where
  pub marked : IsMarkedNow marks k
  pub objects : (state_of k).objects ≡ (state_of j).objects
  pub ahead : (h : Handle) → i ≤ h.index → (state_of k).refs h ≡ (state_of j).refs h
  pub named : (h : Handle) (o : ℕ) → h.kind ≡ Weak → h.index < i → (state_of k).refs h ≡ Object o → IsMarked marks o
  pub taken : TakenTo (λ (h : Handle). h.index + 1) same_handle (IsToClear (state_of j)) i cleared

abbrev pub ClearsTo : {S : Type 0} → (S → Facts) → List Bool → ℕ → S → S → ℕ → List NativeHandle → List NativeHandle
    → Type 0
ClearsTo facts marks = SweepsTo facts Clear native_handle (IsMarkedNow marks) (ClearedTo marks)

below_apart : (h g : Handle) → h.index + 1 < g.index + 1 → same_handle h g ≡ false
below_apart h g l = go (same_handle h g) refl
  where
    go : (b : Bool) → same_handle h g ≡ b → b ≡ false
    go true z = let q = ap (λ (f : Handle). f.index) (handle_true h g z) in absurd (omega arith)
    go false z = refl

to_clear_back : (j k : Known) (h : Handle) → (state_of k).refs h ≡ (state_of j).refs h
    → ((o : ℕ) → IsReached (state_of j) o → IsReached (state_of k) o) → IsToClear (state_of k) h
    → IsToClear (state_of j) h
to_clear_back j k h same r c = (c.0, c.1, sym same ∙ c.2, λ z. c.3 (r c.1 z))

module _ (marks : List Bool) where
  clears_begin : (k : Known) → IsMarkedNow marks k → ClearedTo marks 0 [] k k
  clears_begin k m = record {
    marked = m;
    objects = refl;
    ahead = λ h l. refl;
    named = λ h o kind l. absurd (omega arith);
    taken = taken_none;
  }

  -- one slot more
  clears_turn : (i : ℕ) (l : List Handle) (one : Option Handle) (j k k' : Known) → IsMarkedNow marks j
      → ClearedTo marks i l j k → SlotIsSwept marks i one k k' → ClearedTo marks (i + 1) (l ++ option_to_list one) j k'
  clears_turn i l one j k k' m was z = record {
    marked = z.marked;
    objects = z.objects ∙ was.objects;
    ahead = λ h low. z.others h (λ e. absurd (omega arith)) ∙ was.ahead h (omega arith);
    named = λ h o kind low is. dite (ℕ_discrete h.index i) (λ e. z.named h o kind e is)
        (λ ne. was.named h o kind (omega arith) (sym (z.others h ne) ∙ is));
    taken = taken_next below_apart one was.taken
        (λ h e c. let at : h.index ≡ i = omega arith in z.all h at
        (to_clear_back k j h (sym (was.ahead h (omega arith))) (λ o r. (m.0 o).0 ((was.marked.0 o).1 r)) c))
        (λ h e. let only = z.only h e in let at = only.1 in (
          to_clear_back j k h (was.ahead h (omega arith)) (λ o r. (was.marked.0 o).0 ((m.0 o).1 r)) only.0,
          omega arith,
        ));
  }

module _ {S : Type 0} {facts : S → Facts} (fits : AreOf facts) (marks : List Bool) where
  pub clears_none : (a : S) (buffer : List NativeHandle) → ClearsTo facts marks 0 a a 0 buffer buffer
  clears_none = sweeps_none fits (clears_begin marks)

  pub clears_may : {a b : S} {i n : ℕ} {buffer buffer' : List NativeHandle} → MayKnow facts a (IsMarkedNow marks)
      → ClearsTo facts marks i a b n buffer buffer' → MayKnow facts b (IsMarkedNow marks)
  clears_may {i = i} = sweeps_may (IsMarkedNow marks) (λ l j k (was : ClearedTo marks i l j k). was.marked)

  pub clears_next : {a b c : S} {n : ℕ} {buffer buffer' : List NativeHandle} (i : ℕ) (told : Option NativeHandle)
      → ClearsTo facts marks i a b n buffer buffer' → SweepsSlot facts marks i b c told
      → ClearsTo facts marks (i + 1) a c (n + length (option_to_list told)) buffer (told_at buffer' n told)
  clears_next i told = sweeps_next i told (λ l j k (was : ClearedTo marks i l j k). was.marked) (clears_turn marks i)

  pub clears_all : {a b : S} {n : ℕ} {buffer buffer' : List NativeHandle} (i : ℕ)
      → i ≡ (facts a).stands.config.slots → ClearsTo facts marks i a b n buffer buffer'
      → (z : ClearsUnreached facts marks a b n) × (buffer' ≡ over_front buffer (map native_handle z.cleared))
  clears_all {a} {b} i end p = (
    record {
      cleared = p.taken;
      counted = p.counted;
      went = record {
        stands_is = p.went.stands_is;
        hint_is = p.went.hint_is;
        leads = λ k s m.
            let x = p.went.leads k s m in
            let z : ClearedTo marks i p.taken k x.0 = x.3 in
            let size = ap (λ (c : Config). c.slots) (fits a k s).config in
            let some = x.2.1 in (
              x.0,
              x.1,
              (x.2.0, omega arith),
              (
                record {
                  all = λ h c. let l = in_row a k s h (λ e. let w = sym e ∙ c.2 in cc) in
                      z.taken.all h (omega arith) (omega arith) c;
                  only = z.taken.only;
                  once = z.taken.once;
                },
                z.objects,
                record {
                  marked = z.marked;
                  named = λ h o kind is. let l = in_row b x.0 x.1 h (λ e. let w = sym e ∙ is in cc) in let same =
                      ap (λ (t : Standing). t.config.slots) p.went.stands_is in z.named h o kind (omega arith) is;
                },
              ),
            );
      };
    },
    p.listed_are,
  )
    where
      in_row : (d : S) (k : Known) → (facts d).knows k → (h : Handle) → (state_of k).refs h ≢ Stale
          → h.index < (facts d).stands.config.slots
      in_row d k s h is =
          let of = fits d k s in
          let kept = kept_state k.config k.last k.seen of.legal in
          subst (λ (c : Config). h.index < c.slots) of.config (kept.in_row h (kept.was_given h is)).2
