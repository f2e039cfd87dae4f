-- Calls that are made again, up to so many times.
use Rattle.std.proofs.Common.{MatchResult, ◌≡◌, ◌⊎◌, ⊎_elim, inl, inr, ℕ, suc, true, false, Result, Ok, Err, refl}
use Rattle.std.proofs.Common.{sym, ◌∙◌, ap, subst}
use Rattle.std.specs.Result.{IsErrAnd}
use Rattle.std.proofs.lemmas.Result.{err_from_is_err_and}
use Rattle.jr_word.specs.declared.fault.Fault.{Fault}
use Rattle.jr_word.specs.declared.fault.Fault.TheVariants as fault
use Rattle.jr_model.specs.declared.event.Role.TheVariants.{Outside}
use Rattle.jr_model.specs.Frames.{Frames}
use Rattle.jr_steps.specs.Knowing.{Facts}
use Rattle.jr_env.specs.declared.patience.Patience.{Patience}
use Rattle.jr_env.specs.Deeds.{Deed, DoesDeed, DoesOutside}
use Rattle.jr_env.specs.Tries.{MadeAgain, settled, once_more, the_last, is_tried_again}
use Rattle.jr_env.proofs.Carrying.{did_more, does_both, does_nothing}
use Rattle.jr_scripts.specs.Tries.{IsPatienceFor, Tried, answered, again, gave_up, last_refusal}

-- what is handed on of an answer where there are no more turns
abbrev pub IsHandedOn : {A : Type 0} → Result A Fault → Result A Fault → Type 0
IsHandedOn once answer = MatchResult once (λ x. answer ≡ Ok x) (λ e. IsErrAnd answer (λ d. d ≡ last_refusal e))

-- E20 of a refusal that would be tried again, and else the same
refused_last : {A : Type 0} (e : Fault) (answer : Result A Fault) → answer ≡ Err (last_refusal e)
    → ((is_tried_again {A = A} (Err e) ≡ true) × (answer ≡ Err fault.Turns))
    ⊎ ((is_tried_again {A = A} (Err e) ≡ false) × (answer ≡ Err e))
refused_last (fault.Raced l f) answer is = inl (refl, is)
refused_last fault.Barred answer is = inl (refl, is)
refused_last (fault.Moved l f) answer is = inl (refl, is)
refused_last e answer is = inr (refl, is)

handed_last : {A : Type 0} (once answer : Result A Fault) → IsHandedOn once answer
    → ((is_tried_again once ≡ true) × (answer ≡ Err fault.Turns)) ⊎ ((is_tried_again once ≡ false) × (answer ≡ once))
handed_last (Ok x) answer is = inr (refl, is)
handed_last (Err e) answer is =
    let why = err_from_is_err_and answer is in refused_last e answer (why.1 ∙ ap (λ (v : Fault). Err v) why.2)

module _ {M A : Type 0} {one : M → Result A Fault → M → Type 0} where
  -- a call that was made again up to so many times is one that
  -- was tried once more often, where its last answer settles it
  tried_settled : {n : ℕ} {old new : M} {answer : Result A Fault} → MadeAgain false one n old answer new
      → is_tried_again answer ≡ false → Tried one (suc n) old answer new
  tried_settled (settled o s) is = answered o s
  tried_settled (once_more o s t) is = again o s (tried_settled t is)
  tried_settled (the_last o) is = answered o is

  -- and where it doesn't the turns ran out
  tried_out : {n : ℕ} {old new : M} {answer : Result A Fault} → MadeAgain false one n old answer new
      → is_tried_again answer ≡ true → Tried one (suc n) old (Err fault.Turns) new
  tried_out (settled o s) is = absurd (let no = sym s ∙ is in cc)
  tried_out (once_more o s t) is = again o s (tried_out t is)
  tried_out (the_last o) is = again o is gave_up

  -- WITH THE PATIENCE for so many turns a call is tried so often
  pub tried_in_turns : {turns : ℕ} (p : Patience) {old new : M} (once answer : Result A Fault)
      → IsPatienceFor turns (Ok p) → MadeAgain p.waits_for_room one p.more old once new → IsHandedOn once answer
      → Tried one turns old answer new
  tried_in_turns p {old} {new} once answer is made handed =
      let t : MadeAgain false one p.more old once new = subst (λ w. MadeAgain w one p.more old once new) is.1 made in
      subst (λ m. Tried one m old answer new) (sym is.0) (⊎_elim
      (λ x. subst (λ r. Tried one (suc p.more) old r new) (sym x.1) (tried_out t x.0))
      (λ x. subst (λ r. Tried one (suc p.more) old r new) (sym x.1) (tried_settled t x.0))
      (handed_last once answer handed))

  -- and where there is none it is not tried
  pub tried_never : {turns : ℕ} {old : M} (e : Fault) (answer : Result A Fault) → IsErrAnd answer (λ d. d ≡ e)
      → IsPatienceFor turns (Err e) → Tried one turns old answer old
  tried_never {old = old} e answer given none =
      let why = err_from_is_err_and answer given in
      subst (λ m. Tried one m old answer old) (sym none.0) (subst (λ r. Tried one 0 old r old)
      (sym (why.1 ∙ ap (λ (v : Fault). Err v) (why.2 ∙ none.1))) gave_up)

-- what each try leaves as it was is so at the end
pub tries_leave : {M A N : Type 0} {one : M → Result A Fault → M → Type 0} {n : ℕ} {old new : M}
    {answer : Result A Fault} (part : M → N) → ((x y : M) (r : Result A Fault) → one x r y → part y ≡ part x)
    → Tried one n old answer new → part new ≡ part old
tries_leave part turn (answered o is) = turn _ _ _ o
tries_leave part turn (again o is t) = tries_leave part turn t ∙ turn _ _ _ o
tries_leave part turn gave_up = refl

-- a call in turns did its deed in turns, as long as what `kept` says stays so
module _ {S A M : Type 0} {facts : S → Facts} {deed : Deed A} {one : M → Result A Fault → M → Type 0} (steps : M → S)
    (frames : M → Frames) (kept : M → Type 0) (turn : (x y : M) (r : Result A Fault) → kept x → one x r y
    → DoesOutside facts (steps x) (steps y) (frames x) (frames y) deed r × kept y) where
  pub does_tried : {n : ℕ} {old new : M} {answer : Result A Fault} → kept old
      → (facts (steps old)).stands.role ≡ Outside → Tried one n old answer new
      → DoesDeed facts (steps old) (steps new) (frames old) (frames new) (Tried deed n) answer
  does_tried k out (answered o is) = did_more (λ p q d. answered d is) ((turn _ _ _ k o).0.does out)
  does_tried k out (again o is t) =
      let x = turn _ _ _ k o in
      does_both (λ p m q d e. again d is e) (x.0.does out) (does_tried x.1 x.0.outside t)
  does_tried k out gave_up = does_nothing (λ p. gave_up)
