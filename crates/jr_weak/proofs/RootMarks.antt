-- The objects of global and local references are marked.
use Rattle.std.proofs.Common.{◌≡◌, ◌≢◌, ◌+◌, ◌*◌, ◌<◌, ◌≤◌, ℕ, Bool, true, false, Option}
use Rattle.std.proofs.Common.{Some, None, List, [], length, refl, sym, ap, subst, ◌∙◌, arith}
use mathlib.Core.Logic.{dite}
use native.Mathlib.Decide.{ℕ_discrete}
use Rattle.jr_word.specs.declared.config.Config.{Config}
use Rattle.jr_word.specs.declared.handle.RefKind.TheVariants.{Global}
use Rattle.jr_word.specs.declared.local.LocalParts.{LocalParts}
use Rattle.jr_word.specs.declared.slot.SlotParts.{SlotParts}
use Rattle.jr_word.specs.declared.slot.SlotParts.TheVariants as slot
use Rattle.jr_model.specs.declared.event.Role.TheVariants.{Collecting}
use Rattle.jr_model.specs.declared.event.Found.{Found}
use Rattle.jr_model.specs.declared.event.Found.TheVariants.{Object, Stale}
use Rattle.jr_model.specs.State.{Handle, same_handle, IsPresent, IsReached, from_global, from_local}
use Rattle.jr_model.proofs.InRoom.{in_room}
use Rattle.jr_model.proofs.Presence.{named_is_present, sound_state}
use Rattle.jr_model.proofs.References.{kept_state}
use Rattle.jr_model.proofs.Updates.{handle_true, handle_false}
use Rattle.jr_steps.specs.declared.known.Known.{Known}
use Rattle.jr_steps.specs.Acts.{handle_of}
use Rattle.jr_steps.specs.Collecting.{ShowsLocal}
use Rattle.jr_steps.specs.Knowing.{Facts, Standing, AreOf, MayKnow, Took, anything, state_of, keeps, ShowsSlot}
use Rattle.jr_steps.specs.Says.{StandsAlone, local_parts}
use Rattle.jr_weak.specs.Marks.{IsMarked, HasGlobals, HasLocalsOf, HasLocals, with_mark, global_in, local_in}
use Rattle.jr_weak.specs.Marking.{MarkedTo, MarksAll}
use Rattle.jr_weak.proofs.Leading.{marked_turn, marked_join, marked_most, marked_none}
use Rattle.jr_weak.proofs.Leading.{marked_so, more_with, here_with, told_few}

-- the handle of an index where one stands alone is that one
pub alone_is : {refs : Handle → Found} {next : ℕ} {g : Handle} {r : Found} → StandsAlone refs next g r → (h : Handle)
    → h.index ≡ g.index → refs h ≢ Stale → h ≡ g
alone_is {refs} {next} {g} {r} alone h at stands = go (same_handle g h) refl
  where
    go : (b : Bool) → same_handle g h ≡ b → h ≡ g
    go true e = sym (handle_true g h e)
    go false e = absurd (stands (alone.alone h at (λ q. handle_false g h e (sym q))))

-- what is told of a slot is its global reference, if one stands
pub global_of : (i : ℕ) (q : SlotParts) (k : Known) → ShowsSlot i q k → (h : Handle) (o : ℕ) → h.kind ≡ Global
    → h.index ≡ i → (state_of k).refs h ≡ Object o → global_in q ≡ Some o
global_of i (slot.Free n) k x h o kind at e = let z = x.stands.0 h at in absurd (let y = sym z ∙ e in cc)
global_of i (slot.Retired n) k x h o kind at e = let z = x.stands.0 h at in absurd (let y = sym z ∙ e in cc)
global_of i (slot.Global n r) k x h o kind at e =
    let same = alone_is x.stands h at (λ z. let y = sym z ∙ e in cc) in
    let found = (x.stands).found in
    let z : Object r ≡ Object o = sym found ∙ (ap (state_of k).refs (sym same) ∙ e) in cc
global_of i (slot.Weak n r) k x h o kind at e =
    let same = alone_is x.stands h at (λ z. let y = sym z ∙ e in cc) in
    let kinds = ap (λ (f : Handle). f.kind) same in absurd (let y = sym kind ∙ kinds in cc)

pub global_reached : (c : Config) (last i : ℕ) (q : SlotParts) (k : Known)
    → ((h : Handle) (o : ℕ) → (state_of k).refs h ≡ Object o → IsPresent (state_of k) o) → ShowsSlot i q k → (o : ℕ)
    → global_in q ≡ Some o → IsReached (state_of k) o
global_reached c last i (slot.Free n) k named x o e = absurd cc
global_reached c last i (slot.Retired n) k named x o e = absurd cc
global_reached c last i (slot.Weak n r) k named x o e = absurd cc
global_reached c last i (slot.Global n r) k named x o e =
    let found = (x.stands).found in
    let same : r ≡ o = cc in
    let is = found ∙ ap (λ z. Object z) same in
    from_global (handle_of Global n i) refl is (named (handle_of Global n i) o is)

-- what is told of a local word is its object
pub local_of : (t p : ℕ) (q : LocalParts) (k : Known) → ShowsLocal t p q k → (o : ℕ) → (state_of k).locals t p ≡ Some o
    → local_in q ≡ Some o
local_of t p q k x o is = let z = sym (ap local_parts is) ∙ x in subst (λ w. local_in w ≡ Some o) z refl

pub local_told : (t p : ℕ) (q : LocalParts) (k : Known) → ShowsLocal t p q k → (o : ℕ) → local_in q ≡ Some o
    → (state_of k).locals t p ≡ Some o
local_told t p q k x o e = go ((state_of k).locals t p) x
  where
    go : (z : Option ℕ) → local_parts z ≡ q → z ≡ Some o
    go None w = absurd (let y = ap local_in w ∙ e in cc)
    go (Some r) w = ap local_in w ∙ e

pub local_reached : (t p : ℕ) (q : LocalParts) (k : Known)
    → ((t p o : ℕ) → (state_of k).locals t p ≡ Some o → IsPresent (state_of k) o) → ShowsLocal t p q k → (o : ℕ)
    → local_in q ≡ Some o → IsReached (state_of k) o
local_reached t p q k named x o e = let is = local_told t p q k x o e in from_local t p is (named t p o is)

-- the slots below i are marked
abbrev pub GlobalsBelow : ℕ → List Bool → Known → Type 0
GlobalsBelow i marks k =
    (h : Handle) (o : ℕ) → h.kind ≡ Global → h.index < i → (state_of k).refs h ≡ Object o → IsMarked marks o

-- the local places below p
abbrev pub PlacesBelow : ℕ → ℕ → List Bool → Known → Type 0
PlacesBelow t n marks k = (p o : ℕ) → p < n → (state_of k).locals t p ≡ Some o → IsMarked marks o

-- the threads below t
abbrev pub ThreadsBelow : ℕ → List Bool → Known → Type 0
ThreadsBelow n marks k = (t : ℕ) → t < n → HasLocalsOf t marks (state_of k)

-- the places of one thread more
pub one_thread : (n : ℕ) (k k' : Known) → k'.config ≡ k.config
    → n * k.config.locals + k'.config.locals ≤ (n + 1) * k.config.locals
one_thread n k k' config =
    let same = ap (λ (c : Config). c.locals) config in
    let more : (n + 1) * k.config.locals ≡ n * k.config.locals + k.config.locals = grind arith in
    omega arith

pub all_threads : (n : ℕ) (k : Known) → n ≡ k.config.threads → n * k.config.locals ≤ k.config.threads * k.config.locals
all_threads n k end = subst (λ m. n * k.config.locals ≤ m * k.config.locals) end (omega arith)

module _ {S : Type 0} (facts : S → Facts) (fits : AreOf facts) where
  named_in : (c : S) (k : Known) → (facts c).knows k → (h : Handle) (o : ℕ) → (state_of k).refs h ≡ Object o
      → IsPresent (state_of k) o
  named_in c k s = (named_is_present k.config k.last k.seen (fits c k s).legal).0

  local_in_room : (c : S) (k : Known) → (facts c).knows k → (t p o : ℕ) → (state_of k).locals t p ≡ Some o
      → IsPresent (state_of k) o
  local_in_room c k s = (sound_state k.config k.last k.seen (fits c k s).legal).local

module _ {S : Type 0} {facts : S → Facts} (fits : AreOf facts) where
  pub globals_few : {b c : S} (i : ℕ) (q : SlotParts) → MayKnow facts b anything → (facts b).stands.role ≡ Collecting
      → Took facts b c [] anything (λ j k. ShowsSlot i q k × keeps j k)
      → (o : ℕ) → global_in q ≡ Some o → (1 ≤ o) × (o ≤ (facts c).stands.config.objects)
  globals_few {b} {c} i q may collects t o e = told_few fits o may t
      (λ k k' s s' m same x. global_reached k.config k.last i q k' (named_in facts fits c k' s') x o e) collects

  pub globals_next : {a b c : S} {marks marks' after : List Bool} (i : ℕ) (q : SlotParts)
      → (facts a).stands.role ≡ Collecting → MarkedTo facts (λ j. i) marks marks' a b (GlobalsBelow i)
      → Took facts b c [] anything (λ j k. ShowsSlot i q k × keeps j k) → after ≡ with_mark marks' (global_in q)
      → ((r : ℕ) → global_in q ≡ Some r → r < length marks')
      → MarkedTo facts (λ j. i + 1) marks after a c (GlobalsBelow (i + 1))
  globals_next {c = c} {marks' = marks'} i q collects p t is few =
      marked_turn fits collects p t (global_in q) is few (λ k m h. tt) (λ k k' s same held m has x. record {
        reached = λ r e. global_reached k.config k.last i q k' (named_in facts fits c k' s) x r e;
        had = λ h o kind l at. dite (ℕ_discrete h.index i)
            (λ e. here_with marks' (global_in q) few o (global_of i q k' x h o kind e at))
            (λ ne. more_with marks' (global_in q) few o
            (has h o kind (omega arith) (ap (λ (f : Handle → Found). f h) (sym same.refs) ∙ at)));
      })

  pub globals_all : {a b : S} {marks marks' : List Bool} (i : ℕ) → i ≡ (facts a).stands.config.slots
      → MarkedTo facts (λ j. i) marks marks' a b (GlobalsBelow i)
      → MarksAll facts (λ j. j.config.slots) marks marks' a b HasGlobals
  globals_all {a} {b} i end p = marked_most fits (λ j. j.config.slots)
      (λ k s. let size = ap (λ (c : Config). c.slots) (fits a k s).config in omega arith)
      (marked_so fits p (λ k s has h o kind is.
      let of = fits b k s in
      let kept = kept_state k.config k.last k.seen of.legal in
      let row = (kept.in_row h (kept.was_given h (λ e. let z = sym e ∙ is in cc))).2 in
      let same = ap (λ (c : Config). c.slots) of.config ∙ ap (λ (z : Standing). z.config.slots) p.saw.stands_is in
      has h o kind (omega arith) is))

  pub places_few : {b c : S} (t p : ℕ) (q : LocalParts) → MayKnow facts b anything → (facts b).stands.role ≡ Collecting
      → Took facts b c [] anything (λ j k. ShowsLocal t p q k × keeps j k)
      → (o : ℕ) → local_in q ≡ Some o → (1 ≤ o) × (o ≤ (facts c).stands.config.objects)
  places_few {b} {c} t p q may collects took o e = told_few fits o may took
      (λ k k' s s' m same x. local_reached t p q k' (local_in_room facts fits c k' s') x o e) collects

  pub places_next : {a b c : S} {marks marks' after : List Bool} (t p : ℕ) (q : LocalParts)
      → (facts a).stands.role ≡ Collecting → MarkedTo facts (λ j. p) marks marks' a b (PlacesBelow t p)
      → Took facts b c [] anything (λ j k. ShowsLocal t p q k × keeps j k) → after ≡ with_mark marks' (local_in q)
      → ((r : ℕ) → local_in q ≡ Some r → r < length marks')
      → MarkedTo facts (λ j. p + 1) marks after a c (PlacesBelow t (p + 1))
  places_next {c = c} {marks' = marks'} t p q collects m took is few =
      marked_turn fits collects m took (local_in q) is few (λ k m h. tt) (λ k k' s same held m has x. record {
        reached = λ r e. local_reached t p q k' (local_in_room facts fits c k' s) x r e;
        had = λ r o l at. dite (ℕ_discrete r p)
            (λ e. here_with marks' (local_in q) few o
            (local_of t p q k' x o (subst (λ r. (state_of k').locals t r ≡ Some o) e at)))
            (λ ne. more_with marks' (local_in q) few o
            (has r o (omega arith) (ap (λ (f : ℕ → ℕ → Option ℕ). f t r) (sym same.locals) ∙ at)));
      })

  pub places_all : {a b : S} {marks marks' : List Bool} (t p : ℕ) → p ≡ (facts a).stands.config.locals
      → MarkedTo facts (λ j. p) marks marks' a b (PlacesBelow t p)
      → MarksAll facts (λ j. j.config.locals) marks marks' a b (HasLocalsOf t)
  places_all {a} {b} t n end p = marked_most fits (λ j. j.config.locals)
      (λ k s. let size = ap (λ (c : Config). c.locals) (fits a k s).config in omega arith)
      (marked_so fits p (λ k s has r o is.
      let of = fits b k s in
      let row = ((in_room k.config k.last k.seen of.legal).locals t r o is).1 in
      let same = ap (λ (c : Config). c.locals) of.config ∙ ap (λ (z : Standing). z.config.locals) p.saw.stands_is in
      has r o (omega arith) is))

  pub threads_none : (marks : List Bool) (a : S)
      → MarkedTo facts (λ j. 0 * j.config.locals) marks marks a a (ThreadsBelow 0)
  threads_none marks a = marked_most fits (λ j. 0 * j.config.locals) (λ k s. omega arith)
      (marked_none fits marks a {has = ThreadsBelow 0} (λ k t l. absurd (omega arith)))

  pub threads_next : {a b c : S} {marks marks' marks'' : List Bool} (n : ℕ) → (facts a).stands.role ≡ Collecting
      → MarkedTo facts (λ j. n * j.config.locals) marks marks' a b (ThreadsBelow n)
      → MarksAll facts (λ j. j.config.locals) marks' marks'' b c (HasLocalsOf n)
      → MarkedTo facts (λ j. (n + 1) * j.config.locals) marks marks'' a c (ThreadsBelow (n + 1))
  threads_next {marks'' = marks''} n collects p q = marked_join fits (λ j. (n + 1) * j.config.locals) collects p q
      (λ k k' same config. one_thread n k k' config) (λ k k' s same has had t l. dite (ℕ_discrete t n)
      (λ e. subst (λ r. HasLocalsOf r marks'' (state_of k')) (sym e) had)
      (λ ne r o is. q.more o (has t (omega arith) r o (ap (λ (f : ℕ → ℕ → Option ℕ). f t r) (sym same.locals) ∙ is))))

  pub threads_all : {a b : S} {marks marks' : List Bool} (n : ℕ) → n ≡ (facts a).stands.config.threads
      → MarkedTo facts (λ j. n * j.config.locals) marks marks' a b (ThreadsBelow n)
      → MarksAll facts (λ j. j.config.threads * j.config.locals) marks marks' a b HasLocals
  threads_all {a} {b} n end p = marked_most fits (λ j. j.config.threads * j.config.locals) (λ k s. all_threads n k
      (end ∙ sym (ap (λ (c : Config). c.threads) (fits a k s).config))) (marked_so fits p (λ k s has t r o is.
      let of = fits b k s in
      let row = ((in_room k.config k.last k.seen of.legal).locals t r o is).0 in
      let same = ap (λ (c : Config). c.threads) of.config ∙ ap (λ (z : Standing). z.config.threads) p.saw.stands_is in
      has t (omega arith) r o is))
