-- PROGRAMS THAT GO AS ALONE, and ask for nothing.
use Rattle.std.proofs.Common.{◌≡◌, ◌≤◌, inl, inr, ℕ, zero, suc, Bool, true, false, Option, Some, None, Result, Ok, Err}
use Rattle.std.proofs.Common.{cond, length, take, refl, sym, subst, arith}
use Rattle.std.proofs.lemmas.List.{length-append, take-append-le}
use Rattle.jr_word.specs.declared.config.Config.{Config}
use Rattle.jr_word.specs.declared.fault.Fault.{Fault}
use Rattle.jr_word.specs.declared.fault.Fault.TheVariants as fault
use Rattle.jr_world.specs.World.{how_many, Meaning, World, found}
use Rattle.jr_world.specs.Doing.{as_left, as_seen, atom, has_no_owner, over_world, unless_refused, Act, Doing, Noted}
use Rattle.jr_world.specs.Doing.{Shared, by_step, first_shared, run_alone, whatever, ◌>>=◌}
use Rattle.jr_world.specs.Doing.Doing.{ended, steps}
use Rattle.jr_env.specs.Tries.{is_tried_again}
use Rattle.jr_scripts.specs.Together.{tried_in_steps}
use Rattle.jr_scripts.proofs.OneRow.Alike.{Begin}
use Rattle.jr_scripts.proofs.OneRow.Follows.{but, run_then, IsSpoilt}
use Rattle.jr_scripts.proofs.OneRow.Goes.{unless_keeps}
use Rattle.jr_scripts.proofs.Apart.Grown.{looks_on}
use Rattle.jr_scripts.proofs.Apart.Leads.{StaysNoted, leads_then, Ends, Leaps, LeadsTo, Outcome, ResultFor, WasNoted}
use Rattle.jr_scripts.proofs.Apart.Mirrors.{AtLeast, Asks, IsAlone, Mirrors}
use Rattle.jr_scripts.proofs.Apart.Numbers.{Extends, Numbers, Of, Stays, extends_itself, extends_through}

pub result_stays : {A : Type 0} (Q : Of A) → Stays Q → (j k : Numbers) → Extends j k → (r x : Result A Fault)
    → ResultFor (Q j) r x → ResultFor (Q k) r x
result_stays Q stays j k more (Ok x) (Ok y) is = stays j k more x y is
result_stays Q stays j k more (Ok x) (Err e) is = absurd is
result_stays Q stays j k more (Err e) (Ok y) is = absurd is
result_stays Q stays j k more (Err e) (Err f) is = is

-- what was noted then was noted before it
pub was_on : (noted : Option Noted) (s s' : Shared) → Begin s.owners s'.owners → WasNoted noted s → WasNoted noted s'
was_on None s s' begin was = tt
was_on (Some from) s s' begin was = subst
    (λ l. (from.made ≤ length l) × (from.standing ≤ how_many has_no_owner (take from.made l))) begin.1 (
      let long = length-append s.owners begin.0 in let made = was.0 in omega arith,
      subst (λ l. from.standing ≤ how_many has_no_owner l) (sym (take-append-le from.made s.owners begin.0 was.0))
          was.1,
    )

stays_itself : (noted : Option Noted) → StaysNoted noted noted
stays_itself None = tt
stays_itself (Some from) = refl

stays_through : (noted since now : Option Noted) → StaysNoted noted since → StaysNoted since now → StaysNoted noted now
stays_through None since now a b = tt
stays_through (Some from) since now a b = subst (λ x. StaysNoted x now) a b

pub least_itself : (q : Asks) → AtLeast q q
least_itself q = (omega arith, omega arith, omega arith)

least_through : (p q r : Asks) → AtLeast p q → AtLeast r p → AtLeast r q
least_through p q r a b =
    let slots = a.0 in let objects = a.1 in let words = a.2 in
    let more_slots = b.0 in let more_objects = b.1 in let more_words = b.2 in
    (omega arith, omega arith, omega arith)

pub spoilt_so : {A B : Type 0} (e : Fault) → IsSpoilt {A = A} (Err e) → IsSpoilt {A = B} (Err e)
spoilt_so {A} {B} e is = unless_keeps 0 {A = A} {B = B} (λ x. ended (Err e)) (Err e) (first_shared 0) is

pub not_spoilt : {A : Type 0} {x : A} → IsSpoilt (Ok x) → ⊥
not_spoilt (inl is) = absurd cc
not_spoilt (inr is) = absurd cc

-- whatever it ends with, it is spoilt
abbrev pub Spoils : {A : Type 0} → Ends A
Spoils since k q r z = IsSpoilt r

-- what follows keeps what is spoilt
abbrev pub KeepsSpoilt : {A B : Type 0} → Config → ℕ → (Result A Fault → Doing B) → Type 0
KeepsSpoilt {A} c t next = (r : Result A Fault) → IsSpoilt r → (noted : Option Noted) (j : Numbers) (q : Asks)
    (y : Shared) → LeadsTo c t noted Spoils (next r) j q y

abbrev pub anywhere : Shared → Type 0
anywhere z = Unit {0}

-- A PROGRAM GOES AS ONE ALONE, from now on, from where this is so of what is alone
pub record Goes {A : Type 0} (c : Config) (t : ℕ) (At : Shared → Type 0) (Q : Of A) (k : Numbers) (d alone : Doing A)
    : Type 0 where
  pub so : (j : Numbers) → Extends k j → (noted : Option Noted) (q : Asks) (z : Shared) → IsAlone j z → At z
      → LeadsTo c t noted (Outcome noted Q (run_alone 0 true alone z) q) d j q z

module _ (c : Config) (t : ℕ) where
  -- less is said of what it ends with, in a world alone
  pub leads_less : {A : Type 0} (noted : Option Noted) (K L : Ends A) (d : Doing A) (k : Numbers) (q : Asks)
      (z : Shared) → IsAlone k z
      → ((since : Option Noted) (j : Numbers) (p : Asks) (r : Result A Fault) (y : Shared) → IsAlone j y
      → K since j p r y → L since j p r y) → LeadsTo c t noted K d k q z → LeadsTo c t noted L d k q z
  leads_less noted K L (ended r) k q z alone less leads = less noted k q r z alone leads
  leads_less noted K L (steps more leaves) k q z alone less leads = λ luck s mirrors fits was.
      let to = leads luck s mirrors fits was in (
        to.0,
        to.1,
        to.2,
        to.3,
        to.4,
        to.5,
        leads_less to.3 K L (more t luck s) to.0 to.1 to.2 to.4.mirrors.alone less to.6,
      )

  unless_spoilt : {A B : Type 0} (next : A → Doing B) → KeepsSpoilt c t (unless_refused next)
  unless_spoilt next (Ok x) bad noted j q y = absurd (not_spoilt bad)
  unless_spoilt next (Err e) bad noted j q y = spoilt_so e bad

module _ {c : Config} {t : ℕ} where
  -- ONE STEP, whatever its luck: it leads to what the step of one alone leads to
  pub step_goes : {A : Type 0} {At : Shared → Type 0} {Q : Of A} {k : Numbers} (act alone : Act A)
      → ((luck : Bool) (j : Numbers) (q : Asks) (s z : Shared) → Extends k j → Mirrors t j s z → At z
      → (i : Numbers) × Leaps c t j q s z (act t luck s).1 i q (alone 0 true z).1
      × ResultFor (Q i) (act t luck s).0 (alone 0 true z).0)
      → Goes c t At Q k (by_step act) (by_step alone)
  step_goes act alone so = record {
    so = λ j more noted q z is at luck s mirrors fits was.
        let to = so luck j q s z more mirrors at in (
          to.0,
          q,
          (alone 0 true z).1,
          noted,
          to.1,
          was_on noted s (act t luck s).1 to.1.untouched.owners was,
          inl (stays_itself noted, to.2, refl, least_itself q),
        );
  }

  -- .. which makes nothing
  pub act_goes : {A : Type 0} {At : Shared → Type 0} {Q : Of A} {k : Numbers} (f g : Meaning A)
      → ((j : Numbers) (q : Asks) (s z : Shared) → Extends k j → Mirrors t j s z → At z
      → Leaps c t j q s z (as_left t s (f (as_seen t s)).1) j q (as_left 0 z (g (as_seen 0 z)).1)
      × ResultFor (Q j) (f (as_seen t s)).0 (g (as_seen 0 z)).0) → Goes c t At Q k (atom f) (atom g)
  act_goes f g so = step_goes (over_world f) (over_world g)
      (λ luck j q s z more m at. (j, (so j q s z more m at).0, (so j q s z more m at).1))

  -- .. which only looks
  pub look_goes : {A : Type 0} {At : Shared → Type 0} {Q : Of A} {k : Numbers} (f g : World → Result A Fault)
      → ((j : Numbers) (s z : Shared) → Extends k j → Mirrors t j s z → At z
      → ResultFor (Q j) (f (as_seen t s)) (g (as_seen 0 z))) → Goes c t At Q k (atom (found f)) (atom (found g))
  look_goes f g so = act_goes (found f) (found g) (λ j q s z more m at. (looks_on m, so j s z more m at))

  pub ended_goes : {A : Type 0} {At : Shared → Type 0} {Q : Of A} {k : Numbers} (r x : Result A Fault)
      → ((j : Numbers) → Extends k j → ResultFor (Q j) r x) → Goes c t At Q k (ended r) (ended x)
  ended_goes r x is = record {
    so = λ j more noted q z alone at. inl (stays_itself noted, is j more, refl, least_itself q);
  }

  pub ended_so : {A : Type 0} {At : Shared → Type 0} {Q : Of A} {k : Numbers} → Stays Q → (r x : Result A Fault)
      → ResultFor (Q k) r x → Goes c t At Q k (ended r) (ended x)
  ended_so {Q = Q} {k = k} stays r x is = ended_goes r x (λ j more. result_stays Q stays k j more r x is)

  -- ONE AND THEN THE OTHER; what is known of what is alone stays known where the one leaves it
  pub goes_then : {A B : Type 0} {At Then : Shared → Type 0} {P : Of A} {Q : Of B} {k : Numbers} {d alone : Doing A}
      (next other : Result A Fault → Doing B) → KeepsSpoilt c t next → Goes c t At P k d alone
      → ((j : Numbers) → Extends k j → (z : Shared) → IsAlone j z → At z → Then (run_alone 0 true alone z).1)
      → ((j : Numbers) → Extends k j → (r x : Result A Fault) → ResultFor (P j) r x
      → Goes c t Then Q j (next r) (other x)) → Goes c t At Q k (whatever d next) (whatever alone other)
  goes_then {A} {B} {At} {Then} {P} {Q} {k} {d} {alone} next other keeps first then rest = record { so = so }
    where
      so : (j : Numbers) → Extends k j → (noted : Option Noted) (q : Asks) (z : Shared) → IsAlone j z → At z
          → LeadsTo c t noted (Outcome noted Q (run_alone 0 true (whatever alone other) z) q) (whatever d next) j q z
      so j more noted q z is at = subst (λ x. LeadsTo c t noted (Outcome noted Q x q) (whatever d next) j q z)
          (sym (run_then (but 0) 0 alone other z)) (leads_then c t noted (Outcome noted P left q) L d next j q z is
          (first.so j more noted q z is at) after)
        where
          left : Result A Fault × Shared
          left = run_alone 0 true alone z

          last : Shared → Result B Fault × Shared
          last y = run_alone 0 true (other left.0) y

          L : Ends B
          L = Outcome noted Q (last left.1) q

          ends : (since : Option Noted) (p : Asks) → StaysNoted noted since → AtLeast p q → (y : Shared) → y ≡ left.1
              → (now : Option Noted) (i : Numbers) (o : Asks) (r : Result B Fault) (x : Shared)
              → Outcome since Q (last y) p now i o r x → L now i o r x
          ends since p stays least y at_last now i o r x (inl so) = subst (λ y. Outcome noted Q (last y) q now i o r x)
              at_last (inl (stays_through noted since now stays so.0, so.1, so.2, least_through p q o least so.3))
          ends since p stays least y at_last now i o r x (inr bad) = inr bad

          after : (since : Option Noted) (i : Numbers) (p : Asks) (r : Result A Fault) (y : Shared) → Extends j i
              → IsAlone i y → Outcome noted P left q since i p r y → LeadsTo c t since L (next r) i p y
          after since i p r y later so (inl it) = leads_less c t since (Outcome since Q (last y) p) L (next r) i p y so
              (λ now l o a x alone. ends since p it.0 it.3 y it.2 now l o a x)
              ((rest i (extends_through more later) r left.0 it.1).so i (extends_itself i) since p y so
              (subst Then (sym it.2) (then j more z is at)))
          after since i p r y later so (inr bad) = leads_less c t since Spoils L (next r) i p y so
              (λ now l o a x alone bad. inr bad) (keeps r bad since i p y)

  pub unless_goes : {A B : Type 0} {At : Shared → Type 0} (P : A → A → Type 0) {Q : Of B} {k : Numbers}
      {next other : A → Doing B} (r x : Result A Fault) → ResultFor P r x
      → ((x y : A) → P x y → Goes c t At Q k (next x) (other y))
      → Goes c t At Q k (unless_refused next r) (unless_refused other x)
  unless_goes P (Ok x) (Ok y) is rest = rest x y is
  unless_goes P (Ok x) (Err e) is rest = absurd is
  unless_goes P (Err e) (Ok y) is rest = absurd is
  unless_goes P (Err e) (Err f) is rest = ended_goes (Err e) (Err f) (λ j more. is)

  -- what is the same in both
  pub unless_same : {A B : Type 0} {At : Shared → Type 0} {Q : Of B} {k : Numbers} {next other : A → Doing B}
      (r : Result A Fault) → ((x : A) → Goes c t At Q k (next x) (other x))
      → Goes c t At Q k (unless_refused next r) (unless_refused other r)
  unless_same (Ok x) rest = rest x
  unless_same (Err e) rest = ended_goes (Err e) (Err e) (λ j more. refl)

  -- .. where a refusal ends it
  pub bind_at : {A B : Type 0} {At Then : Shared → Type 0} {P : Of A} {Q : Of B} {k : Numbers} {d alone : Doing A}
      {next other : A → Doing B} → Goes c t At P k d alone
      → ((j : Numbers) → Extends k j → (z : Shared) → IsAlone j z → At z → Then (run_alone 0 true alone z).1)
      → ((j : Numbers) → Extends k j → (x y : A) → P j x y → Goes c t Then Q j (next x) (other y))
      → Goes c t At Q k (d >>= next) (alone >>= other)
  bind_at {P = P} {next = next} {other = other} first then rest = goes_then (unless_refused next)
      (unless_refused other) (unless_spoilt c t next) first then
      (λ j more r x is. unless_goes (P j) r x is (rest j more))

  pub goes_bind : {A B : Type 0} {At : Shared → Type 0} {P : Of A} {Q : Of B} {k : Numbers} {d alone : Doing A}
      {next other : A → Doing B} → Goes c t At P k d alone
      → ((j : Numbers) → Extends k j → (x y : A) → P j x y → Goes c t anywhere Q j (next x) (other y))
      → Goes c t At Q k (d >>= next) (alone >>= other)
  goes_bind first rest = bind_at first (λ j more z is at. tt) rest

  -- it goes so later, and from where more is known
  pub goes_later : {A : Type 0} {At Less : Shared → Type 0} {Q : Of A} {j k : Numbers} {d alone : Doing A}
      → Extends j k → ((z : Shared) → At z → Less z) → Goes c t Less Q j d alone → Goes c t At Q k d alone
  goes_later more less goes = record {
    so = λ i later noted q z is at. goes.so i (extends_through more later) noted q z is (less z at);
  }

  pub goes_at : {A : Type 0} {At Less : Shared → Type 0} {Q : Of A} {k : Numbers} {d alone : Doing A}
      → ((z : Shared) → At z → Less z) → Goes c t Less Q k d alone → Goes c t At Q k d alone
  goes_at {k = k} less goes = goes_later (extends_itself k) less goes

  -- a call that is made again at once
  pub tried_goes : {A : Type 0} {Q : Of A} {k : Numbers} {d alone : Doing A} → Stays Q → (turns : ℕ)
      → Goes c t anywhere Q k d alone → Goes c t anywhere Q k (tried_in_steps turns d) (tried_in_steps turns alone)
  tried_goes stays zero first = ended_goes (Err fault.Turns) (Err fault.Turns) (λ j more. refl)
  tried_goes {A} {Q} {k} {d} {alone} stays (suc n) first = goes_then next other spoilt first (λ j more z is at. tt)
      (λ j more r x is. go j (goes_later more (λ z at. at) (tried_goes stays n first)) r x is)
    where
      next : Result A Fault → Doing A
      next r = cond (is_tried_again r) (tried_in_steps n d) (ended r)

      other : Result A Fault → Doing A
      other r = cond (is_tried_again r) (tried_in_steps n alone) (ended r)

      -- E16 and E20 are no reasons to try again
      spoilt : KeepsSpoilt c t next
      spoilt r (inl is) noted j q y = subst (λ a. LeadsTo c t noted Spoils (next a) j q y) (sym is) (inl refl)
      spoilt r (inr is) noted j q y = subst (λ a. LeadsTo c t noted Spoils (next a) j q y) (sym is) (inr refl)

      again : (j : Numbers) → Goes c t anywhere Q j (tried_in_steps n d) (tried_in_steps n alone) → (e : Fault)
          (b : Bool) → Goes c t anywhere Q j
          (cond b (tried_in_steps n d) (ended (Err e))) (cond b (tried_in_steps n alone) (ended (Err e)))
      again j it e true = it
      again j it e false = ended_goes (Err e) (Err e) (λ i more. refl)

      go : (j : Numbers) → Goes c t anywhere Q j (tried_in_steps n d) (tried_in_steps n alone)
          → (r x : Result A Fault) → ResultFor (Q j) r x → Goes c t anywhere Q j (next r) (other x)
      go j it (Ok x) (Ok y) is = ended_so stays (Ok x) (Ok y) is
      go j it (Ok x) (Err e) is = absurd is
      go j it (Err e) (Ok x) is = absurd is
      go j it (Err e) (Err f) is = subst (λ g. Goes c t anywhere Q j (next (Err e)) (other (Err g))) is
          (again j it e (is_tried_again {A = A} (Err e)))
