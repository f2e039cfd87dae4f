-- What has to be known for a step, without a choice.
use Rattle.std.proofs.Common.{◌≡◌, ◌+◌, ◌<◌, ◌≤◌, ◌^◌, ℕ, Option, Some, [], ◌∷◌, sym, ap, subst, ◌∙◌, arith}
use Rattle.std.proofs.Math.Logic.{∥∥₁_elim}
use Rattle.std.proofs.Props.{props}
use Rattle.jr_word.specs.declared.config.Config.{Config}
use Rattle.jr_word.specs.declared.config.TheConstants.Config.{MOST_OBJECTS}
use Rattle.jr_word.specs.declared.header.HeaderParts.{HeaderParts}
use Rattle.jr_model.specs.State.{Handle}
use Rattle.jr_model.proofs.Lengths.{lengths_fit}
use Rattle.jr_steps.specs.Collecting.{CanMove, IsThere, CanWipe, CanDrop, CanPlace}
use Rattle.jr_model.specs.declared.event.Act.TheVariants.{Read}
use Rattle.jr_steps.specs.declared.known.Holdings.{Holdings}
use Rattle.jr_steps.specs.declared.known.Known.{Known}
use Rattle.jr_steps.specs.Acts.{found_of}
use Rattle.jr_steps.specs.Holdings.{header_in}
use Rattle.jr_steps.specs.Knowing.{Facts, AreOf, MayKnow, HasObject, HasOptional}
use Rattle.jr_steps.specs.Knowing.{HasLooked, KnowsHeader, HasWord, Took, keeps}
use Rattle.jr_steps.proofs.StepFacts.{may_then}
use Rattle.jr_rule.specs.Slots.{CanStand}
use Rattle.jr_model.proofs.InRoom.{in_room}
use Rattle.jr_rule.proofs.Looked.{looked_at}
use Rattle.jr_rule.proofs.PlaceOwed.{optional_fits}
use Rattle.jr_rule.proofs.Slots.{can_prop}
use mathlib.Core.Logic.{∥∥₁_map}
use Rattle.jr_model.specs.declared.event.Role.{Role}
use Rattle.jr_rule.specs.Cells.{Sight, AreSoundWords, May, InRole}
use Rattle.jr_rule.proofs.CollectOwed.{done_is, element_is, free_is}

-- a header that was known is known still behind a read of its object
pub still_known : {S : Type 0} {facts : S → Facts} {a b : S} {o at v : ℕ} {h : HeaderParts}
    → Took facts a b (Read o at v ∷ []) (KnowsHeader o h) keeps → MayKnow facts a (KnowsHeader o h)
    → MayKnow facts b (KnowsHeader o h)
still_known {o = o} t known =
    may_then t (λ k s m. m) known (λ k k' s m d x. ap (λ (y : Holdings). header_in o y.headers) x ∙ m)

-- WHOEVER STEPS, over a room or plain words, may only know what legal histories of its room show
module _ {S : Type 0} (facts : S → Facts) (fits : AreOf facts) (s : S) where
  -- the number of an object is not 0
  pub object_some : {T : Known → Type 0} (o : ℕ) → MayKnow facts s (λ k. HasObject o k × T k) → 0 < o
  object_some o may = ∥∥₁_elim may (hlevel props) (λ k.
      let low = ((in_room k.0.config k.0.last k.0.seen (fits s k.0 k.1).legal).objects o k.2.0).0 in omega arith)

  module _ (h : Handle) (o : Option ℕ) (may : MayKnow facts s (HasLooked h (found_of o))) where
    pub looked_can : CanStand h.kind o
    looked_can =
        ∥∥₁_elim may (can_prop h.kind o) (λ k. (looked_at k.0.config k.0.last h o k.0 (fits s k.0 k.1).legal k.2).can)

    pub looked_object : (x : ℕ) → o ≡ Some x → 0 < x
    looked_object x e = ∥∥₁_elim may (hlevel props) (λ k.
        let low = ((looked_at k.0.config k.0.last h o k.0 (fits s k.0 k.1).legal k.2).object x e).0 in omega arith)

  -- the number of an object, if one is given, is one of the room
  pub optional_few : (o : Option ℕ) → MayKnow facts s (HasOptional o) → (facts s).stands.config.objects ≤ MOST_OBJECTS
      → (x : ℕ) → o ≡ Some x → (0 < x) × (x < 2 ^ 16)
  optional_few o may few x e = ∥∥₁_elim may (hlevel props)
      (λ k. optional_fits o k.0 (fits s k.0 k.1).legal
      (subst (λ (c : Config). c.objects ≤ MOST_OBJECTS) (sym (fits s k.0 k.1).config) few) k.2 x e)

  -- where an element is moved to lies in the array space
  pub move_few : (o : ℕ) (h : HeaderParts) (place i v : ℕ) → MayKnow facts s (CanMove o h place i v)
      → place + i < (facts s).stands.config.words
  move_few o h place i v may = ∥∥₁_elim may (hlevel props) (λ k.
      let below = (k.2).room in
      let most = (lengths_fit k.0.config k.0.last k.0.seen (fits s k.0 k.1).legal).1 in
      subst (λ (c : Config). place + i < c.words) (fits s k.0 k.1).config (omega arith))

module _ (k : Known) where
  pub there_is : (o : ℕ) (h : HeaderParts) (i : ℕ) → ∥ IsThere o h i k ∥₁ → IsThere o h i k
  there_is o h i m =
      (∥∥₁_elim m (hlevel props) (λ q. q.0), ∥∥₁_elim m (hlevel props) (λ q. q.1), ∥∥₁_elim m (hlevel props) (λ q. q.2))

  pub wipe_is : (i serial o : ℕ) → ∥ CanWipe i serial o k ∥₁ → CanWipe i serial o k
  wipe_is i serial o m = (∥∥₁_elim m (hlevel props) (λ q. q.0), λ r. ∥∥₁_elim m (hlevel props) (λ q. q.1 r))

  pub drop_is : (o : ℕ) → ∥ CanDrop o k ∥₁ → CanDrop o k
  drop_is o m = record {
    present = ∥∥₁_elim m (hlevel props) (λ q. q.present);
    unreached = λ r. ∥∥₁_elim m (hlevel props) (λ q. q.unreached r);
    unnamed = λ h weak e. ∥∥₁_elim m (hlevel props) (λ q. q.unnamed h weak e);
    settled = ∥∥₁_elim m (hlevel props) (λ q. q.settled);
  }

  pub move_is : (o : ℕ) (h : HeaderParts) (place i v : ℕ) → ∥ CanMove o h place i v k ∥₁ → CanMove o h place i v k
  move_is o h place i v m = record {
    known = ∥∥₁_elim m (hlevel props) (λ q. q.known);
    done = done_is k.holdings.moving o place i (∥∥₁_map m (λ q. q.done));
    element = element_is o i v k (∥∥₁_map m (λ q. q.element));
    room = ∥∥₁_elim m (hlevel props) (λ q. q.room);
    later = λ j l x e. ∥∥₁_elim m (hlevel props) (λ q. q.later j l x e);
    free = free_is o (place + i) k (∥∥₁_map m (λ q. q.free));
  }

  pub place_is : (o : ℕ) (h : HeaderParts) (place : ℕ) → ∥ CanPlace o h place k ∥₁ → CanPlace o h place k
  place_is o h place m = record {
    known = ∥∥₁_elim m (hlevel props) (λ q. q.known);
    done = done_is k.holdings.moving o place h.length (∥∥₁_map m (λ q. q.done));
  }

-- where a known element, or a word of one's own, is lies in the array space
module _ {z : Sight} (sound : AreSoundWords z) {r : Role} {met : Known → Type 0} (may : May z (InRole r met)) where
  pub known_few : (o : ℕ) (h : HeaderParts) (i : ℕ) → ((k : Known) → met k → KnowsHeader o h k) → i < h.length
      → h.place + i < z.first.config.words
  known_few o h i knows l = ∥∥₁_elim may (hlevel props) (λ k. subst (λ (c : Config). h.place + i < c.words) (k.1).config
      ((sound.space k.0 k.1).elements o h (knows k.0 k.2.1) i l))

  pub own_few : (place i : ℕ) → ((k : Known) → met k → HasWord place i k) → place + i < z.first.config.words
  own_few place i has = ∥∥₁_elim may (hlevel props) (λ k.
      subst (λ (c : Config). place + i < c.words) (k.1).config ((sound.space k.0 k.1).own place i (has k.0 k.2.1)))
