-- Calls that are made again, counted from the first, and a collection between, for whatever was known.
use Rattle.std.proofs.Common.{◌≡◌, ◌<◌, ◌≤◌, ◌-◌, ◌+◌, ℕ, suc, Bool, true, false, Result, Ok, Err, refl, ◌∙◌, subst}
use Rattle.std.proofs.Common.{arith}
use Rattle.jr_word.specs.declared.fault.Fault.{Fault}
use Rattle.jr_word.specs.declared.fault.Fault.TheVariants as fault
use Rattle.jr_model.specs.Frames.{Frames}
use Rattle.jr_steps.specs.Knowing.{Facts}
use Rattle.jr_gate.specs.Performing.{ThreadState}
use Rattle.jr_elements.specs.Copies.{answer_in}
use Rattle.jr_env.specs.Deeds.{Deed, DoesOutside}
use Rattle.jr_env.proofs.EnvCalls.{does_more, does_next}
use Rattle.jr_env.specs.Tries.{MadeAgain, settled, once_more, the_last, served, collected}
use Rattle.jr_env.specs.Tries.{MadeCollecting, kept_out, is_worth_a_try, lacks_room, made_again}

module _ {M A : Type 0} {one : M → Result A Fault → M → Type 0} {waits : Bool} where
  pub tries_from_first : {old new : M} {answer : Result A Fault} (n : ℕ) → MadeAgain waits one (n - 0) old answer new
      → MadeAgain waits one n old answer new
  tries_from_first {old} {new} {answer} n t = let e : n - 0 ≡ n = omega arith in
      subst (λ m. MadeAgain waits one m old answer new) e t

  pub tries_settled : {old new : M} {once answer : Result A Fault} {n : ℕ} → once ≡ answer → one old once new
      → is_worth_a_try waits answer ≡ false → MadeAgain waits one n old answer new
  tries_settled {old} {new} e o is = settled (subst (λ r. one old r new) e o) is

  pub tries_once_more : {old mid new : M} {answer : Result A Fault} (once : Result A Fault) (n k : ℕ) → k < n
      → one old once mid → is_worth_a_try waits once ≡ true → MadeAgain waits one (n - (k + 1)) mid answer new
      → MadeAgain waits one (n - k) old answer new
  tries_once_more {old} {mid} {new} {answer} once n k l o is t = let e : suc (n - (k + 1)) ≡ n - k = omega arith in
      subst (λ m. MadeAgain waits one m old answer new) e (once_more o is t)

  pub tries_the_last : {old new : M} {answer : Result A Fault} (n k : ℕ) → n ≤ k → one old answer new
      → MadeAgain waits one (n - k) old answer new
  tries_the_last {old} {new} {answer} n k l o = let e : 0 ≡ n - k = omega arith in
      subst (λ m. MadeAgain waits one m old answer new) e (the_last o)

-- a refusal lacks room whatever its call answers where it is not refused
pub lacks_alike : (A B : Type 0) (e : Fault) → lacks_room {A = A} (Err e) ≡ lacks_room {A = B} (Err e)
lacks_alike A B (fault.SpaceFull u) = refl
lacks_alike A B fault.ObjectsFull = refl
lacks_alike A B _ = refl

-- an answer in another form is worth another try where it is
pub worth_formed : {A B : Type 0} (waits : Bool) (form : A → B) (answer : Result A Fault)
    → is_worth_a_try waits (answer_in form answer) ≡ is_worth_a_try waits answer
worth_formed true form (Ok x) = refl
worth_formed true form (Err e) = refl
worth_formed false form (Ok x) = refl
worth_formed false form (Err e) = refl

-- what is made again, with each answer in another form
pub tries_formed : {M A B : Type 0} {one : M → Result A Fault → M → Type 0} {two : M → Result B Fault → M → Type 0}
    {waits : Bool} {n : ℕ} {old new : M} {answer : Result A Fault} (form : A → B)
    → ((p q : M) (r : Result A Fault) → one p r q → two p (answer_in form r) q)
    → MadeAgain waits one n old answer new → MadeAgain waits two n old (answer_in form answer) new
tries_formed {waits = waits} form to (settled o is) = settled (to _ _ _ o) (worth_formed waits form _ ∙ is)
tries_formed {waits = waits} form to (once_more o is t) =
    once_more (to _ _ _ o) (worth_formed waits form _ ∙ is) (tries_formed form to t)
tries_formed form to (the_last o) = the_last (to _ _ _ o)

-- what each try did of a part of what it is handed, as long as what `kept` says stays so
pub tries_by : {M N A : Type 0} {one : M → Result A Fault → M → Type 0} {two : N → Result A Fault → N → Type 0}
    {waits : Bool} {n : ℕ} {old new : M} {answer : Result A Fault} (part : M → N) (kept : M → Type 0)
    → ((x y : M) (r : Result A Fault) → kept x → one x r y → two (part x) r (part y) × kept y) → kept old
    → MadeAgain waits one n old answer new → MadeAgain waits two n (part old) answer (part new)
tries_by part kept turn k (settled o is) = settled (turn _ _ _ k o).0 is
tries_by part kept turn k (once_more o is t) =
    let x = turn _ _ _ k o in once_more x.0 is (tries_by part kept turn x.1 t)
tries_by part kept turn k (the_last o) = the_last (turn _ _ _ k o).0

-- the last try had the answer
pub tries_last : {M A : Type 0} {one : M → Result A Fault → M → Type 0} {waits : Bool} {n : ℕ} {old new : M}
    {answer : Result A Fault} → MadeAgain waits one n old answer new → (mid : M) × one mid answer new
tries_last (settled o is) = (_, o)
tries_last (once_more o is t) = tries_last t
tries_last (the_last o) = (_, o)

module _ {S : Type 0} {facts : S → Facts} where
  module _ {A : Type 0} {deed : Deed A} {waits : Bool} where
    -- what each try did, as long as what `kept` says stays so
    pub does_again : {M : Type 0} {one : M → Result A Fault → M → Type 0} (steps : M → S) (frames : M → Frames)
        (kept : M → Type 0) → ((x y : M) (r : Result A Fault) → kept x → one x r y
        → DoesOutside facts (steps x) (steps y) (frames x) (frames y) deed r × kept y) → {n : ℕ} {old new : M}
        {answer : Result A Fault} → kept old → MadeAgain waits one n old answer new
        → DoesOutside facts (steps old) (steps new) (frames old) (frames new) (made_again waits n deed) answer
    does_again steps frames kept turn k (settled o is) = does_more (λ p q d. settled d is) (turn _ _ _ k o).0
    does_again steps frames kept turn k (once_more o is t) =
        let x = turn _ _ _ k o in
        does_next (λ p m q d e. once_more d is e) x.0 (does_again steps frames kept turn x.1 t)
    does_again steps frames kept turn k (the_last o) = does_more (λ p q d. the_last d) (turn _ _ _ k o).0

    module _ {C : Type 0} {collects : Deed C} where
      pub was_served : {a b : S} {f g : Frames} {answer : Result A Fault} (n : ℕ)
          → DoesOutside facts a b f g (made_again waits n deed) answer → lacks_room answer ≡ false
          → DoesOutside facts a b f g (MadeCollecting (made_again waits n deed) collects) answer
      was_served n d is = does_more (λ p q t. served t is) d

      pub was_refused : {a b : S} {f g : Frames} (n : ℕ) (e : Fault)
          → DoesOutside facts a b f g (made_again waits n deed) (Err e) → lacks_room {A = Unit {0}} (Err e) ≡ false
          → DoesOutside facts a b f g (MadeCollecting (made_again waits n deed) collects) (Err e)
      was_refused n e d is = was_served n d (lacks_alike A (Unit {0}) e ∙ is)

      pub was_collected : {a b c d : S} {f g h i : Frames} {answer : Result A Fault} (n : ℕ) (x : C) (e : Fault)
          → DoesOutside facts a b f g (made_again waits n deed) (Err e) → lacks_room {A = Unit {0}} (Err e) ≡ true
          → DoesOutside facts b c g h collects (Ok x) → DoesOutside facts c d h i (made_again waits n deed) answer
          → DoesOutside facts a d f i (MadeCollecting (made_again waits n deed) collects) answer
      was_collected {answer = answer} n x e first is between second =
          does_next (λ p m q t rest. collected t (lacks_alike A (Unit {0}) e ∙ is) rest.1 rest.2) first
          (does_next {both = λ p r q. (m : ThreadState) × collects p (Ok x) m × made_again waits n deed m r q}
          (λ p m q c t. (m, c, t)) between second)

      pub was_kept_out : {a b c : S} {f g h : Frames} (n : ℕ) (e lack : Fault)
          → DoesOutside facts a b f g (made_again waits n deed) (Err lack)
          → lacks_room {A = Unit {0}} (Err lack) ≡ true → DoesOutside facts b c g h collects (Err e)
          → DoesOutside facts a c f h (MadeCollecting (made_again waits n deed) collects) (Err e)
      was_kept_out n e lack first is between =
          does_next (λ p m q t c. kept_out t (lacks_alike A (Unit {0}) lack ∙ is) c) first between
