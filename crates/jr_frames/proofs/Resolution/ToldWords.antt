-- What is told of a handle at its one look, and what is said of a word by it, for whatever was known.
use Rattle.std.proofs.Common.{◌≡◌, ◌≢◌, ℕ, Bool, true, false, cond, nat_lt, Option, Some, None, IfSome, IsSome}
use Rattle.std.proofs.Common.{Ok, List, [], ◌∷◌, ◌++◌, map, slice_index, refl, sym, ap, subst, ◌∙◌}
use Rattle.std.proofs.lemmas.List.{append-nil}
use mathlib.Core.List.{IsPrefix}
use mathlib.Core.Logic.{∥∥₁_map}
use Rattle.jr_word.specs.declared.config.Config.{Config}
use Rattle.jr_word.specs.declared.handle.RefKind.{RefKind}
use Rattle.jr_word.specs.declared.handle.RefKind.TheVariants.{Local}
use Rattle.jr_word.specs.declared.header.HeaderParts.{HeaderParts}
use Rattle.jr_word.specs.declared.kind.Kind.{Kind}
use Rattle.jr_word.specs.declared.kind.Kind.TheVariants.{Plain}
use Rattle.jr_word.specs.declared.slot.SlotParts.{SlotParts}
use Rattle.jr_model.specs.declared.event.Role.TheVariants.{Within}
use Rattle.jr_model.specs.declared.event.Found.{Found}
use Rattle.jr_model.specs.declared.event.Found.TheVariants.{Stale}
use Rattle.jr_model.specs.declared.event.Act.{Act}
use Rattle.jr_model.specs.declared.event.Act.TheVariants.{Look}
use Rattle.jr_model.specs.State.{Handle, Contents, State, same_kind}
use Rattle.jr_model.specs.History.{History, IsLegal, PassView, Did, by, state}
use Rattle.jr_model.specs.Frames.{Frames, object_of, object_at}
use Rattle.jr_model.specs.Calls.{Ran}
use Rattle.jr_model.specs.Checks.{Word, Parts, is_foreign, is_local, is_out_of_bounds}
use Rattle.jr_model.specs.Parts.{header}
use Rattle.jr_model.proofs.Moments.{prefix_self}
use Rattle.jr_model.proofs.Presence.{named_is_present}
use Rattle.jr_model.proofs.References.{kept_state}
use Rattle.jr_model.proofs.Stays.{did_nothing, IsStill, did_then, still_did}
use Rattle.jr_model.proofs.Updates.{and_left}
use Rattle.jr_model.proofs.Windows.{window_act, window_nothing, window_then}
use Rattle.jr_steps.specs.declared.known.Known.{Known}
use Rattle.jr_steps.specs.Acts.{reply}
use Rattle.jr_steps.specs.Knowing.{AreOf, Facts, HasObject, Holds, MayKnow, ShowsObject, ShowsSlot, Took}
use Rattle.jr_steps.specs.Knowing.{anything, keeps, state_of, view}
use Rattle.jr_steps.proofs.StepFacts.{goes_did}
use Rattle.jr_gate.proofs.SameRoom.{as_before, nothing_changed, still_before}
use Rattle.jr_gate.proofs.Spending.{made_of, spend_last, spend_more, spend_none, spend_step, spending}
use Rattle.jr_heap.specs.Heap.{Called, Learns, by_steps}
use Rattle.jr_frames.specs.declared.explaining.Explanation.{Explanation}
use Rattle.jr_frames.specs.declared.explaining.Explanation.TheVariants as explained
use Rattle.jr_frames.specs.declared.explaining.Told.{Told}
use Rattle.jr_frames.specs.declared.explaining.Told.TheVariants as told
use Rattle.jr_frames.specs.Explaining.{ExplainsWord, IsExplained, IsSeenNow, SaysOfHandle, SaysTold, TellsHandle}
use Rattle.jr_frames.specs.Explaining.{ToldPresent, WasSeen, found_local, foreign, glance, look_acts}
use Rattle.jr_frames.specs.Explaining.{outside, own, told_by_place, told_by_slot}
use Rattle.jr_frames.proofs.FoundObject.{spend_look}
use Rattle.jr_frames.proofs.FramesAgree.{holds_did, local_present}
use Rattle.jr_frames.proofs.Resolution.Telling.{place_tells, slot_tells}

-- a global or weak handle that lies in the room needs a look
looks : (c : Config) (h : Handle) (r : Found) → is_out_of_bounds c (Parts h) ≡ false → is_local h ≡ false
    → look_acts c (Parts h) r ≡ Look h r ∷ []
looks c h r in_row shared = rw (in_row, shared) refl

-- a local one needs none
needs_none : (c : Config) (h : Handle) (r : Found) → is_out_of_bounds c (Parts h) ≡ false → is_local h ≡ true
    → look_acts c (Parts h) r ≡ []
needs_none c h r in_row local = rw (in_row, local) refl

-- nor does one that lies outside
outside_none : (c : Config) (h : Handle) (r : Found) → is_out_of_bounds c (Parts h) ≡ true
    → look_acts c (Parts h) r ≡ []
outside_none c h r out = rw out refl

-- a glance that is a look
ran_look : {p q : PassView} (c : Config) (f : Frames) (h : Handle) (r : Found) → is_out_of_bounds c (Parts h) ≡ false
    → is_local h ≡ false → Did p q (Look h r ∷ []) → Ran p q f f (glance {A = Unit {0}} c (Parts h)) (Ok tt)
ran_look {p} c f h r in_row shared d = record {
  acts = Look h r ∷ [];
  did = d;
  is = (r, tt, sym (looks c h r in_row shared), refl, refl);
  begun = p.seen;
  window = window_act (Look h r) d tt tt;
  grounds = tt;
}

-- one that needs no look
ran_nothing : {A : Type 0} (p : PassView) (c : Config) (f : Frames) (a : Word) (x : A) → look_acts c a Stale ≡ []
    → IsLegal p.config p.last p.seen → Ran p p f f (glance c a) (Ok x)
ran_nothing p c f a x none l = record {
  acts = [];
  did = did_nothing p l;
  is = (Stale, x, sym none, refl, refl);
  begun = p.seen;
  window = window_nothing p;
  grounds = tt;
}

-- with another answer it is a glance too
ran_answer : {A B : Type 0} {p q : PassView} (c : Config) (f : Frames) (a : Word) (x : A) (y : B)
    → Ran p q f f (glance c a) (Ok x) → Ran p q f f (glance c a) (Ok y)
ran_answer c f a x y r = record {
  acts = r.acts;
  did = r.did;
  is = (r.is.0, y, r.is.2, refl, r.is.4);
  begun = r.begun;
  window = r.window;
  grounds = tt;
}

-- and so it is with a look at a header behind it, which has no act
ran_header : {A B : Type 0} {p q r : PassView} (c : Config) (f : Frames) (a : Word) (x : A) (y : B) (s : State) (o : ℕ)
    {shown : Kind × ℕ} → Ran p q f f (glance c a) (Ok x) → Ran {A = Kind × ℕ} q r f f (header s o) (Ok shown)
    → Ran p r f f (glance c a) (Ok y)
ran_header c f a x y s o one two =
    let v = window_then one.acts two.acts one.did two.did one.window two.window in
    record {
      acts = one.acts ++ two.acts;
      did = did_then one.acts two.acts one.did two.did;
      is = (one.is.0, y, ap (λ l. one.acts ++ l) two.is.2.0 ∙ (append-nil one.acts ∙ one.is.2), refl, one.is.4);
      begun = v.begun;
      window = v.window;
      grounds = tt;
    }

-- the object that was told of a handle is present
told_shared : (f : Frames) (h : Handle) (k : Known) (x : Told) → is_local h ≡ false → IsLegal k.config k.last k.seen
    → SaysTold f (state_of k) h x → ToldPresent x k
told_shared f h k (told.Object o) shared l says = (named_is_present k.config k.last k.seen l).0 h o
    (sym (ap (λ b. cond b (found_local (object_of f h)) ((state_of k).refs h)) shared) ∙ says)
told_shared f h k told.Cleared shared l says = tt
told_shared f h k told.OtherKind shared l says = tt
told_shared f h k told.Gone shared l says = tt
told_shared f h k told.NotGiven shared l says = tt

told_local : (f : Frames) (h : Handle) (k : Known) (z : Option ℕ) (b : Bool)
    → IfSome z (λ o. object_at f h.index ≡ Some o) → IsLegal k.config k.last k.seen → Holds f k
    → ToldPresent (told_by_place z b) k
told_local f h k (Some o) b at l m = local_present k f h.index o l m at
told_local f h k None true at l m = tt
told_local f h k None false at l m = tt

-- what is so now was seen so
seen_so : {P Q : State → Type 0} (c : Config) (a : Word) (j k : Known) → ((s : State) → P s → Q s)
    → IsSeenNow c a P j k → WasSeen c a Q (view j) (view k)
seen_so {P} c a j k so n = record {
  found = n.found;
  before = n.before;
  from = n.from;
  to = subst (λ (es : History). IsPrefix es k.seen) n.is (prefix_self k.seen);
  met = so _ (subst (λ (es : History). P (state es)) n.is n.met);
}

-- the kind of what is present
abbrev kind_in : Option Contents → Kind
kind_in (Some x) = x.kind
kind_in None = Plain

-- the object that a header shows had its kind before, in the same stay
had_kind : (o : ℕ) (g : HeaderParts) (j k : Known) → HasObject o j → IsStill (state_of j) (state_of k)
    → ShowsObject o g k → (x : Contents) × ((state_of j).objects o ≡ Some x) × (x.kind ≡ g.kind)
had_kind o g j k here still shown = go ((state_of j).objects o) refl here
  where
    go : (z : Option Contents) → (state_of j).objects o ≡ z → IsSome z
        → (x : Contents) × ((state_of j).objects o ≡ Some x) × (x.kind ≡ g.kind)
    go None e p = absurd (cc)
    go (Some x) e p =
        let y = still.objects o x e in
        (x, e, sym y.2 ∙ (ap kind_in (sym y.1 ∙ shown.is) ∙ shown.says.kind))

module _ {S : Type 0} {facts : S → Facts} (fits : AreOf facts) where
  -- WHAT IS TOLD of a global or weak handle by its slot
  pub tells_slot : {a b : S} (f : Frames) (h : Handle) (w : SlotParts) → is_local h ≡ false → h.owner ≡ 0
      → is_out_of_bounds (facts a).stands.config (Parts h) ≡ false
      → Took facts a b (Look h (reply h w) ∷ []) anything (λ j k. ShowsSlot h.index w k × keeps j k)
      → TellsHandle facts a b f h (told_by_slot h w)
  tells_slot {a} {b} f h w shared whole in_row t = record {
    stands_is = as_before _ t.stands_is;
    ran = λ k s m.
        let g = t.goes k s tt in
        let d = goes_did g.2 in
        let legal = (fits b g.0 g.1).legal in
        let kept = kept_state g.0.config g.0.last g.0.seen legal in
        let so = slot_tells g.0.config g.0.last f (state_of g.0) kept h shared whole w g.3.0 in (
          g.0,
          g.1,
          made_of (spend_step t (λ n i. refl) k s tt f f)
              (ran_look (facts a).stands.config f h (reply h w) in_row shared d),
          (
            g.3.1,
            holds_did k g.0 f (Look h (reply h w) ∷ []) d (refl, tt) m,
            record {
              found = reply h w;
              before = k.seen ++ g.2.between;
              from = (g.2.between, refl);
              is = g.2.seen ∙ ap (λ (acts : List Act). (k.seen ++ g.2.between) ++ map (by k.thread) acts)
                  (sym (looks (facts a).stands.config h (reply h w) in_row shared));
              met = so;
            },
            told_shared f h g.0 (told_by_slot h w) shared legal so,
          ),
        );
  }

  -- and of a local one by the frames, without a step
  pub tells_local : (a : S) (f : Frames) (h : Handle) (z : Option ℕ) (b : Bool) → is_local h ≡ true
      → is_out_of_bounds (facts a).stands.config (Parts h) ≡ false → z ≡ object_of f h
      → IfSome z (λ o. object_at f h.index ≡ Some o) → b ≡ nat_lt h.serial (slice_index f.given h.index)
      → TellsHandle facts a a f h (told_by_place z b)
  tells_local a f h z b local in_row is at given = record {
    stands_is = nothing_changed;
    ran = λ k s m.
        let l = (fits a k s).legal in
        let none = needs_none (facts a).stands.config h Stale in_row local in (
          k,
          s,
          made_of (spend_none (facts a) k f f l) (ran_nothing (view k) (facts a).stands.config f (Parts h) tt none l),
          (
            refl,
            m,
            record {
              found = Stale;
              before = k.seen;
              from = prefix_self k.seen;
              is = sym (ap (λ (acts : List Act). k.seen ++ map (by k.thread) acts) none ∙ append-nil k.seen);
              met = place_tells f (state_of k) h local z is b given;
            },
            told_local f h k z b at l m,
          ),
        );
  }

  -- WHAT IS SAID OF A HANDLE for which no object is told
  pub explains_told : {a b : S} (f : Frames) (h : Handle) (x : Told) (e : Explanation)
      → is_out_of_bounds (facts a).stands.config (Parts h) ≡ false
      → is_foreign (facts a).stands.thread (Parts h) ≡ false
      → ((s : State) → SaysTold f s h x → SaysOfHandle f s h e) → TellsHandle facts a b f h x
      → ExplainsWord facts a b f (Parts h) e
  explains_told {a} f h x e in_row owned so p = record {
    stands_is = p.stands_is;
    ran = λ k s m.
        let y = p.ran k s m in (
          y.0,
          y.1,
          made_of (spend_more 1 (spending y.2)) (ran_answer (facts a).stands.config f (Parts h) tt e y.2.ran),
          (seen_so (facts a).stands.config (Parts h) k y.0 (λ z told_so. own in_row owned (so z told_so)) y.3.2, y.3.1),
        );
  }

  -- and of one whose object was looked at
  pub explains_object : {a b c : S} (f : Frames) (h : Handle) (o : ℕ) (g : HeaderParts)
      → is_out_of_bounds (facts a).stands.config (Parts h) ≡ false
      → is_foreign (facts a).stands.thread (Parts h) ≡ false → (facts b).stands.role ≡ Within
      → TellsHandle facts a b f h (told.Object o) → (facts c).stands ≡ (facts b).stands
      → Called facts b c (HasObject o) (λ j k. header (state_of k) o) (Ok (g.kind, g.length)) (by_steps 1 (Learns o g))
      → ExplainsWord facts a c f (Parts h) (explained.Standing h.kind (Some g.kind))
  explains_object {a} {b} {c} f h o g in_row owned within p same q = record {
    stands_is = still_before p.stands_is (as_before _ same);
    ran = λ k s m.
        let x = p.ran k s m in
        let y = q.ran x.0 x.1 x.3.3 in
        let look = y.2 f in
        let d : Did (view x.0) (view y.0) [] = subst (λ l. Did (view x.0) (view y.0) l) look.is.2.0 look.did in
        let still = still_did [] d ((fits b x.0 x.1).role ∙ within) tt in
        let kind = had_kind o g x.0 y.0 x.3.3 still y.3.0.0 in
        let n = x.3.2 in (
          y.0,
          y.1,
          made_of (spend_last (spending x.2) (spend_look f same q x.0 x.1 x.3.3))
              (ran_header (facts a).stands.config f (Parts h) tt (explained.Standing h.kind (Some g.kind))
              (state_of y.0) o x.2.ran look),
          (
            record {
              found = n.found;
              before = n.before;
              from = n.from;
              to = subst (λ (es : History). IsPrefix es y.0.seen) n.is d.begins;
              met = subst (λ (es : History). IsExplained (facts a).stands.config (facts a).stands.thread f (state es)
                  (Parts h) (explained.Standing h.kind (Some g.kind))) n.is
                  (own in_row owned (refl, o, n.met, kind.0, kind.1, kind.2));
            },
            holds_did x.0 y.0 f [] d tt x.3.1,
          ),
        );
  }

  -- WHAT IS SAID WITHOUT A LOOK
  pub explains_none : (a : S) (f : Frames) (w : Word) (e : Explanation)
      → look_acts (facts a).stands.config w Stale ≡ []
      → ((s : State) → IsExplained (facts a).stands.config (facts a).stands.thread f s w e)
      → ExplainsWord facts a a f w e
  explains_none a f w e none so = record {
    stands_is = nothing_changed;
    ran = λ k s m.
        let l = (fits a k s).legal in (
          k,
          s,
          made_of (spend_more 1 (spend_none (facts a) k f f l))
              (ran_nothing (view k) (facts a).stands.config f w e none l),
          (
            record {
              found = Stale;
              before = k.seen;
              from = prefix_self k.seen;
              to = subst (λ (acts : List Act). IsPrefix (k.seen ++ map (by k.thread) acts) k.seen) (sym none)
                  (subst (λ (es : History). IsPrefix es k.seen) (sym (append-nil k.seen)) (prefix_self k.seen));
              met = so _;
            },
            m,
          ),
        );
  }

  pub explains_outside : (a : S) (f : Frames) (h : Handle)
      → is_out_of_bounds (facts a).stands.config (Parts h) ≡ true → ExplainsWord facts a a f (Parts h) explained.Outside
  explains_outside a f h out = explains_none a f (Parts h) explained.Outside
      (outside_none (facts a).stands.config h Stale out) (λ s. outside out)

  pub explains_foreign : (a : S) (f : Frames) (h : Handle)
      → is_out_of_bounds (facts a).stands.config (Parts h) ≡ false
      → is_foreign (facts a).stands.thread (Parts h) ≡ true → ExplainsWord facts a a f (Parts h) explained.Foreign
  explains_foreign a f h in_row other = explains_none a f (Parts h) explained.Foreign
      (needs_none (facts a).stands.config h Stale in_row (and_left (is_local h) _ other)) (λ s. foreign in_row other)

-- the object that was told may be looked at
pub may_look_at : {S : Type 0} {facts : S → Facts} {a b : S} {f : Frames} {h : Handle} {o : ℕ}
    → TellsHandle facts a b f h (told.Object o) → MayKnow facts a (Holds f) → MayKnow facts b (HasObject o)
may_look_at p some = ∥∥₁_map some (λ k. let x = p.ran k.0 k.1 k.2 in (x.0, x.1, x.3.3))

-- what is no local handle is of another kind
pub is_shared : (h : Handle) → is_local h ≡ false → h.kind ≢ Local
is_shared h e k = let local : is_local h ≡ true = ap (λ (x : RefKind). same_kind Local x) k in
    let no_local = sym e ∙ local in absurd (cc)

-- what was told, by another name
pub tells_as : {S : Type 0} {facts : S → Facts} {a b : S} {f : Frames} {h : Handle} {x y : Told} → x ≡ y
    → TellsHandle facts a b f h x → TellsHandle facts a b f h y
tells_as {facts = facts} {a = a} {b = b} {f = f} {h = h} is p = subst (TellsHandle facts a b f h) is p
