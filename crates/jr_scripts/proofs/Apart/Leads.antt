-- A PROGRAM AMONG OTHERS LEADS to what it answers alone, whatever its luck and whatever others make.
use Rattle.std.proofs.Common.{◌≡◌, ◌⊎◌, ◌≤◌, ◌<◌, ◌+◌, ℕ, Bool, true, Option, Some, None, Result, Ok, Err, length, refl}
use Rattle.std.proofs.Common.{subst, take}
use Rattle.jr_word.specs.declared.config.Config.{Config}
use Rattle.jr_word.specs.declared.fault.Fault.{Fault}
use Rattle.jr_word.specs.declared.handle.RefKind.TheVariants.{Global, Weak}
use Rattle.jr_world.specs.World.{how_many, refs_of, standing}
use Rattle.jr_world.specs.Doing.{Doing, Noted, Shared, as_seen, has_no_owner, run_alone, whatever}
use Rattle.jr_world.specs.Doing.Doing.{ended, steps}
use Rattle.jr_scripts.proofs.OneRow.Follows.{IsSpoilt}
use Rattle.jr_scripts.proofs.Apart.Mirrors.{Asks, AtLeast, Fits, IsAlone, Mirrors, Spends, Untouched, and_asks}
use Rattle.jr_scripts.proofs.Apart.Numbers.{Extends, Numbers, Of, extends_itself, extends_through, object_of, ref_of}

-- what was noted at an entry: no more stood than were made then
abbrev pub WasNoted : Option Noted → Shared → Type 0
WasNoted None s = Unit {0}
WasNoted (Some from) s =
    (from.made ≤ length s.owners) × (from.standing ≤ how_many has_no_owner (take from.made s.owners))

-- as many more stand, and are used, among others as alone
abbrev pub AsMany : (Shared → ℕ) → Shared → Shared → Shared → Shared → Type 0
AsMany f s s' z y = f s' + f z ≡ f s + f y

pub record SameChange (s s' z y : Shared) : Type 0 where
  pub globals : AsMany (λ x. refs_of Global (as_seen 0 x)) s s' z y
  pub weaks : AsMany (λ x. refs_of Weak (as_seen 0 x)) s s' z y
  pub live : AsMany (λ x. standing x.objects) s s' z y
  pub used : AsMany (λ x. x.used) s s' z y

-- A STEP: from where the numbers stand so, and so much is asked for, to where these do
pub record Leaps (c : Config) (t : ℕ) (k : Numbers) (q : Asks) (s z s' : Shared) (j : Numbers) (p : Asks) (y : Shared)
    : Type 0 where
  pub extends : Extends k j
  pub mirrors : Mirrors t j s' y
  pub untouched : Untouched t k s s'
  pub spends : Spends q p s s'
  pub new_refs : (n : ℕ) → length k.refs ≤ n → n < length j.refs → length s.refs ≤ ref_of j n
  pub counts : SameChange s s' z y
  pub new_objects : (o : ℕ) → length k.objects ≤ o → o < length j.objects → length s.objects ≤ object_of j o

-- what is still noted where this was
abbrev pub StaysNoted : Option Noted → Option Noted → Type 0
StaysNoted None since = Unit {0}
StaysNoted (Some from) since = since ≡ Some from

-- what is so of an answer, of what is noted, and what is alone then
abbrev pub Ends : Type 0 → Type 1
Ends A = Option Noted → Numbers → Asks → Result A Fault → Shared → Type 0

-- an answer for another, by what is so of both
abbrev pub ResultFor : {A : Type 0} → (A → A → Type 0) → Result A Fault → Result A Fault → Type 0
ResultFor Q (Ok x) (Ok y) = Q x y
ResultFor Q (Err e) (Err f) = e ≡ f
ResultFor Q r q = ⊥

pub result_same : {A : Type 0} {r x : Result A Fault} → r ≡ x → ResultFor (λ x y. x ≡ y) r x
result_same {A} {r} is = subst (λ x. ResultFor (λ x y. x ≡ y) r x) is (go r)
  where
    go : (r : Result A Fault) → ResultFor (λ x y. x ≡ y) r r
    go (Ok x) = refl
    go (Err e) = refl

-- IT ANSWERS FOR what is answered alone, and leaves what is left alone, with at least this still to ask for; or it is
-- spoilt
abbrev pub Outcome : {A : Type 0} → Option Noted → Of A → Result A Fault × Shared → Asks → Ends A
Outcome noted Q w q since k p a y =
    (StaysNoted noted since × ResultFor (Q k) a w.0 × (y ≡ w.1) × AtLeast p q) ⊎ IsSpoilt a

module _ (c : Config) (t : ℕ) where
  -- WHERE A PROGRAM LEADS, from what mirrors this world alone, where so much is asked for
  abbrev pub LeadsTo : {A : Type 0} → Option Noted → Ends A → Doing A → Numbers → Asks → Shared → Type 0
  LeadsTo noted K (ended r) k q z = K noted k q r z
  LeadsTo noted K (steps more leaves) k q z = (luck : Bool) (s : Shared) → Mirrors t k s z → Fits c q s
      → WasNoted noted s → (j : Numbers) × (p : Asks) × (y : Shared) × (since : Option Noted)
      × Leaps c t k q s z (leaves t luck s) j p y × WasNoted since (leaves t luck s)
      × LeadsTo since K (more t luck s) j p y

  -- A PROGRAM FOLLOWS another that is alone, and asks for so much
  pub record Follows {A : Type 0} (Q : Of A) (asked : Asks) (k : Numbers) (d alone : Doing A) : Type 0 where
    pub so : (noted : Option Noted) (q : Asks) (z : Shared) → IsAlone k z
        → LeadsTo noted (Outcome None Q (run_alone 0 true alone z) q) d k (and_asks asked q) z

  -- ONE AND THEN THE OTHER
  pub leads_then : {A B : Type 0} (noted : Option Noted) (K : Ends A) (L : Ends B) (d : Doing A)
      (next : Result A Fault → Doing B) (k : Numbers) (q : Asks) (z : Shared) → IsAlone k z
      → LeadsTo noted K d k q z
      → ((since : Option Noted) (j : Numbers) (p : Asks) (r : Result A Fault) (y : Shared) → Extends k j → IsAlone j y
      → K since j p r y → LeadsTo since L (next r) j p y) → LeadsTo noted L (whatever d next) k q z
  leads_then noted K L (ended r) next k q z alone leads after = after noted k q r z (extends_itself k) alone leads
  leads_then noted K L (steps more leaves) next k q z alone leads after = λ luck s mirrors fits was.
      let to = leads luck s mirrors fits was in (
        to.0,
        to.1,
        to.2,
        to.3,
        to.4,
        to.5,
        leads_then to.3 K L (more t luck s) next to.0 to.1 to.2 to.4.mirrors.alone to.6
            (λ now j p r y more. after now j p r y (extends_through to.4.extends more)),
      )
