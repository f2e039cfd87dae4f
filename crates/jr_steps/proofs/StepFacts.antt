-- What follows from a step, and one step after the other.
use Rattle.std.proofs.Common.{◌≡◌, ◌≢◌, ⊎_elim, ◌==◌, ℕ, Bool, true, false, cond, List, [], ◌∷◌, ◌++◌, Option, Some}
use Rattle.std.proofs.Common.{None, IsSome, refl, sym, ap, subst, ◌∙◌}
use Rattle.std.proofs.lemmas.List.{append-nil}
use Rattle.std.specs.List.{AllByRecursion}
use mathlib.Core.Logic.{∥∥₁_map}
use Rattle.jr_model.specs.declared.event.Role.TheVariants.{Within}
use Rattle.jr_model.specs.declared.event.Event.{Event}
use Rattle.jr_model.specs.declared.event.Found.{Found}
use Rattle.jr_model.specs.declared.event.Found.TheVariants.{Object}
use Rattle.jr_model.specs.declared.event.Act.{Act}
use Rattle.jr_model.specs.declared.event.Act.TheVariants.{Gate, Look}
use Rattle.jr_model.specs.declared.event.GateAct.TheVariants.{Leave, Shut}
use Rattle.jr_model.specs.State.{Handle, Contents, State, IsPresent, IsClosed}
use Rattle.jr_model.specs.History.{History, by, mine, state, IsLegal, role_of, Did}
use Rattle.jr_model.specs.Windows.{Stepped}
use Rattle.jr_model.proofs.Gates.{all_may_shut}
use Rattle.jr_model.proofs.Updates.{eq_false}
use Rattle.jr_model.proofs.Histories.{legal_push, state_push}
use Rattle.jr_model.proofs.Presence.{named_is_present, sound_state}
use Rattle.jr_model.proofs.Stays.{IsStill, still_did, did_added}
use Rattle.jr_steps.specs.declared.known.Known.{Known}
use Rattle.jr_steps.specs.Knowing.{Facts, Standing, IsOf, MayKnow, DidAll, keeps, ShowsUsed}
use Rattle.jr_steps.specs.Knowing.{IsClosedNow, view, anything, state_of, Goes, HasObject, HasLooked}
use Rattle.jr_steps.specs.Knowing.{WasUsed, Took, TookWith}

-- a step is what the thread did
pub goes_did : {k k' : Known} {acts : List Act} → Goes k acts k' → Did (view k) (view k') acts
goes_did {acts = acts} g = did_added g.between acts g.config g.last g.thread g.seen g.others g.legal

-- its event is the last that was seen
pub goes_stepped : {k k' : Known} {a : Act} → Goes k (a ∷ []) k' → Stepped (view k) (view k') a
goes_stepped g = record { did = goes_did g; behind = record { between = g.between; others = g.others; is = g.seen } }

-- who has no events of its own is not among the threads
pub none_mine : (es : History) (t : ℕ) → mine es t ≡ [] → AllByRecursion (λ e. e.thread ≢ t) es
none_mine [] t e = tt
none_mine (f ∷ es) t e = go (f.thread == t) refl (none_mine es t)
  where
    go : (b : Bool) → (f.thread == t) ≡ b → (mine es t ≡ [] → AllByRecursion (λ (g : Event). g.thread ≢ t) es)
        → AllByRecursion (λ (g : Event). g.thread ≢ t) (f ∷ es)
    go true q rest = let here : mine (f ∷ es) t ≡ f.act ∷ mine es t =
        ap (λ b. cond b (f.act ∷ mine es t) (mine es t)) q in absurd (let z = sym here ∙ e in cc)
    go false q rest = let here : mine (f ∷ es) t ≡ mine es t = ap (λ b. cond b (f.act ∷ mine es t) (mine es t)) q in
        (eq_false f.thread t q, rest (sym here ∙ e))

-- where the thread itself did all that was seen, nobody did anything in between
pub none_between : {k k' : Known} {acts : List Act} (g : Goes k acts k') → DidAll k' → g.between ≡ []
none_between {k} {k'} {acts} g all =
    go k.seen g.between _ (subst (λ (z : ℕ × History). AllByRecursion (λ e. e.thread ≡ z.0) z.1)
    (λ i. (g.thread i, g.seen i)) all) (none_mine g.between k.thread g.others)
  where
    go : (xs es ys : History) → AllByRecursion (λ e. e.thread ≡ k.thread) ((xs ++ es) ++ ys)
        → AllByRecursion (λ e. e.thread ≢ k.thread) es → es ≡ []
    go (x ∷ xs) es ys own none = go xs es ys own.1 none
    go [] [] ys own none = refl
    go [] (e ∷ es) ys own none = absurd (none.0 own.0)

-- a look finds what the reference names in the state after it
pub looked_refs : {k k' : Known} (h : Handle) (r : Found) → Goes k (Look h r ∷ []) k' → (state_of k').refs h ≡ r
looked_refs {k} {k'} h r g =
    let before = k.seen ++ g.between in
    let e = by k.thread (Look h r) in
    let legal = (legal_push k.config k.last before e).0 (subst (IsLegal k.config k.last) g.seen g.legal) in
    ap (λ (s : State). s.refs h) (ap state g.seen ∙ state_push before e) ∙ legal.1.1.1

-- an object that was found is present
pub looked_present : {k k' : Known} (h : Handle) (o : ℕ) → Goes k (Look h (Object o) ∷ []) k' → HasObject o k'
looked_present {k} {k'} h o g = (named_is_present k.config k.last k'.seen g.legal).0 h o (looked_refs h (Object o) g)

-- the look was made in this stay
pub looked_now : {k k' : Known} (h : Handle) (r : Found) → Goes k (Look h r ∷ []) k' → HasLooked h r k'
looked_now {k} {k'} h r g = record {
  before = k.seen ++ g.between;
  since = [];
  is = subst (λ t. k'.seen ≡ (k.seen ++ g.between) ++ by t (Look h r) ∷ []) (sym g.thread) g.seen;
  stays = tt;
}

-- so many words were used just now, in this stay
pub used_now : (u : ℕ) (k : Known) → role_of (view k) ≡ Within → (state_of k).used ≡ u → WasUsed u k
used_now u k within used =
    record { before = k.seen; since = []; is = sym (append-nil k.seen); used = used; within = within; stays = tt }

pub present_still : (s s' : State) (o : ℕ) → IsStill s s' → IsPresent s o → IsPresent s' o
present_still s s' o still = go (s.objects o) refl
  where
    go : (z : Option Contents) → s.objects o ≡ z → IsSome z → IsSome (s'.objects o)
    go None e p = absurd cc
    go (Some x) e p = let y = still.objects o x e in subst (λ z. IsSome z) (sym y.1) refl

-- whoever has just shut the gate finds no array that names an absent object
pub shut_closed : {k k' : Known} → Goes k (Gate Shut ∷ []) k' → IsClosedNow k'
shut_closed {k} {k'} g =
    let before = k.seen ++ g.between in
    let e = by k.thread (Gate Shut) in
    let both = (legal_push k.config k.last before e).0 (subst (IsLegal k.config k.last) g.seen g.legal) in
    let closed : IsClosed (state before) = (sound_state k.config k.last before both.0).closed (λ u z.
    absurd (⊎_elim (λ e. cc) (λ e. cc) (all_may_shut (state before).role k.thread both.1.1.0 both.1.1.1 u))) in
    subst (λ (s : State). IsClosed s) (sym (ap state g.seen ∙ state_push before e)) closed

-- what is present stays, until the thread leaves
pub present_stays : (k k' : Known) (acts : List Act) (o : ℕ) → Did (view k) (view k') acts → role_of (view k) ≡ Within
    → AllByRecursion (λ a. a ≢ Gate Leave) acts → HasObject o k → HasObject o k'
present_stays k k' acts o d w q p = present_still (state_of k) (state_of k') o (still_did acts d w q) p

module _ {S : Type 0} {facts : S → Facts} where
  -- a step shows less, too
  pub took_less : {old new : S} {acts : Known → List Act} {stood : Standing} {met : Known → Type 0}
      {shows shows' : Known → Known → Type 0} → ((k k' : Known) → shows k k' → shows' k k')
      → TookWith facts old new acts stood met shows → TookWith facts old new acts stood met shows'
  took_less less t = record {
    stands_is = t.stands_is;
    hint_is = t.hint_is;
    goes = λ k s m. let g = t.goes k s m in (g.0, g.1, g.2, less k g.0 g.3);
  }

  -- what may be known after a step
  pub may_then : {old new : S} {acts : Known → List Act} {stood : Standing} {met : Known → Type 0}
      {shows : Known → Known → Type 0} {was is : Known → Type 0} → TookWith facts old new acts stood met shows
      → ((k : Known) → (facts old).knows k → was k → met k) → MayKnow facts old was
      → ((k k' : Known) → (facts old).knows k → was k → Goes k (acts k) k' → shows k k' → is k') → MayKnow facts new is
  may_then t meets may then' =
      ∥∥₁_map may (λ k. let g = t.goes k.0 k.1 (meets k.0 k.1 k.2) in (g.0, g.1, then' k.0 g.0 k.1 k.2 g.2 g.3))

  -- how many words were used is known from a look on, until the thread leaves
  pub used_seen : {old new : S} {acts : List Act} {u : ℕ}
      → ((k : Known) → (facts new).knows k → IsOf (facts new).stands k) → MayKnow facts old anything
      → (facts new).stands.role ≡ Within → Took facts old new acts anything (λ j k. ShowsUsed u k × keeps j k)
      → MayKnow facts new (WasUsed u)
  used_seen {u = u} fits some within t =
      ∥∥₁_map some (λ k. let g = t.goes k.0 k.1 tt in (g.0, g.1, used_now u g.0 ((fits g.0 g.1).role ∙ within) g.3.0))
