-- What calls make up a command about copied elements, for whatever was known.
use Rattle.std.proofs.Common.{MatchOption, MatchResult, map, ◌≡◌, ◌∙◌, ℕ, ℤ, List, Option, Some, None}
use Rattle.std.proofs.Common.{Result, Ok, Err, ap, sym, subst, refl, inl, inr}
use Rattle.std.specs.Result.{IsErrAnd, IsOkAnd}
use Rattle.std.specs.Option.{IsSomeAnd}
use Rattle.std.proofs.lemmas.Result.{err_from_is_err_and}
use Rattle.jr_word.specs.declared.fault.Fault.{Fault}
use Rattle.jr_word.specs.declared.kind.Kind.{Kind}
use Rattle.jr_model.specs.declared.frames.Mode.{Mode}
use Rattle.jr_model.specs.declared.frames.Mode.TheVariants.{Copy, Commit, Abort}
use Rattle.jr_model.specs.Frames.{Frames}
use Rattle.jr_steps.specs.Knowing.{Facts}
use Rattle.jr_elements.specs.Copies.{answer_in, kept}
use Rattle.jr_env.specs.Requests.{Request, told_by}
use Rattle.jr_env.specs.Deeds.{Deed, DoesDeed, answered_by, decided, done, release_answer, whole}
use Rattle.jr_env.specs.Deeds.{release_array_elements, get_array_elements, ◌>>◌, ◌>>=◌}
use Rattle.jr_env.proofs.Carrying.{did_answer, did_more, did_refuse, does_nothing}
use Rattle.jr_syntax.specs.declared.command.Command.TheVariants as commands
use Rattle.jr_syntax.specs.declared.verb.OnNameAt.{OnNameAt}
use Rattle.jr_syntax.specs.declared.verb.OnNameAt.TheVariants as on_name_at
use Rattle.jr_syntax.specs.declared.verb.PutAt.{PutAt}
use Rattle.jr_syntax.specs.declared.verb.PutAt.TheVariants as put_at
use Rattle.jr_scripts.specs.declared.reply.Reply.{Reply}
use Rattle.jr_scripts.specs.declared.reply.Reply.TheVariants as replies
use Rattle.jr_scripts.specs.declared.binding.Binding.{Binding}
use Rattle.jr_scripts.specs.declared.binding.Binding.TheVariants.{Nothing, Buffer}
use Rattle.jr_scripts.specs.declared.buffer.CopiedElements.{CopiedElements}
use Rattle.jr_scripts.specs.Buffers.{Copied, copied_as, copied_in}
use Rattle.jr_scripts.specs.Names.{Names, getting, putting, binding, binding_left}
use Rattle.jr_scripts.specs.Commands.{copying_as, deed, tried}
use Rattle.jr_scripts.specs.Text.{elements_left, left_by}
use Rattle.jr_scripts.specs.Advancing.{got_by, put_by}
use Rattle.jr_scripts.proofs.Retries.{IsHandedOn}
use Rattle.jr_scripts.proofs.FormedTries.{tried_told}

-- a call that answers in a form of the code's own, made again where it was raced or barred
pub does_told : {S A B C : Type 0} {facts : S → Facts} {a b : S} {f g : Frames} {answer : Result C Fault} (turns : ℕ)
    (form : A → B) (after : B → C) (request : Request B)
    → DoesDeed facts a b f g (answered_by (λ x. after (form x)) (tried turns (whole (told_by form request)))) answer
    → DoesDeed facts a b f g (answered_by after (tried turns (whole request))) answer
does_told turns form after request = did_more (λ p q d.
    elim d [
      | inl x ↦ inl (form x.0, x.1, tried_told form (whole request) x.2, x.3)
      | inr y ↦ inr (y.0, y.1, tried_told form (whole request) y.2)
    ])

-- the elements of an array were copied by the call of a kind that is known, and the reply has them
pub does_copied : {S V : Type 0} {facts : S → Facts} {a b : S} {f g : Frames} (turns w : ℕ) (k : Kind)
    (word_of : V → ℕ) (wrap : List V → CopiedElements)
    → ((vs : List V) → copied_in (wrap vs) ≡ copied_as k word_of vs) → (r : Result (List V) Fault)
    (mapped : Result CopiedElements Fault) (answer : Result Reply Fault)
    → DoesDeed facts a b f g (tried turns (get_array_elements k w)) (answer_in (map word_of) r)
    → MatchResult r (λ x. IsOkAnd mapped (λ y. y ≡ wrap x)) (λ e. mapped ≡ Err e)
    → answer ≡ answer_in (λ x. replies.Copied (copied_in x)) mapped
    → DoesDeed facts a b f g (copying_as turns w k) answer
does_copied turns w k word_of wrap same (Ok x) (Ok y) answer d is told = did_more (λ p q t. inl (
  map word_of x,
  q,
  t,
  (
    told ∙ ap (λ (z : CopiedElements). Ok (replies.Copied (copied_in z))) is
        ∙ ap (λ (z : Copied). Ok (replies.Copied z)) (same x),
    refl,
  ),
)) d
does_copied turns w k word_of wrap same (Ok x) (Err e) answer d is told = absurd is
does_copied turns w k word_of wrap same (Err e) mapped answer d is told =
    did_more (λ p q t. inr (e, told ∙ ap (answer_in (λ x. replies.Copied (copied_in x))) is, t)) d

-- elements that a release leaves
pub some_left : {V : Type 0} (k : Kind) (word_of : V → ℕ) (mode : Mode) (answer : Result Reply Fault)
    (values left : List V) (b : Copied) → copied_as k word_of values ≡ b → Some left ≡ elements_left mode answer values
    → Buffer (copied_as k word_of left) ≡ left_by mode answer (Buffer b)
some_left k word_of Copy (Ok r) values left b is kept = absurd cc
some_left k word_of Commit (Ok r) values left b is kept = let same : left ≡ values = cc in
    ap (λ xs. Buffer (copied_as k word_of xs)) same ∙ ap (λ (x : Copied). Buffer x) is
some_left k word_of Abort (Ok r) values left b is kept = absurd cc
some_left k word_of mode (Err e) values left b is kept = let same : left ≡ values = cc in
    ap (λ xs. Buffer (copied_as k word_of xs)) same ∙ ap (λ (x : Copied). Buffer x) is

-- and none
pub none_left : {A : Type 0} (mode : Mode) (answer : Result Reply Fault) (values : A) (s : Binding)
    → ◌≡◌ {A = Option A} None (elements_left mode answer values) → Nothing ≡ left_by mode answer s
none_left Copy (Ok r) values s gone = refl
none_left Commit (Ok r) values s gone = absurd cc
none_left Abort (Ok r) values s gone = refl
none_left mode (Err e) values s gone = absurd cc

module _ {S : Type 0} {facts : S → Facts} where
  -- the same elements are released, and the answer is handed on
  pub does_release_of : {a b : S} {f g : Frames} (turns w : ℕ) (mode : Mode) (x y : Copied)
      (answer handed : Result Reply Fault) → x ≡ y → handed ≡ answer
      → DoesDeed facts a b f g (tried turns (release_array_elements x.kind w x.words mode) >> done replies.Done) answer
      → DoesDeed facts a b f g (tried turns (release_array_elements y.kind w y.words mode) >> done replies.Done) handed
  does_release_of {a} {b} {f} {g} turns w mode x y answer handed is same d =
      subst (λ (z : Copied). DoesDeed facts a b f g
      (tried turns (release_array_elements z.kind w z.words mode) >> done replies.Done) handed) is
      (subst (λ z. DoesDeed facts a b f g
      (tried turns (release_array_elements x.kind w x.words mode) >> done replies.Done) z) (sym same) d)

  -- what was decided without a call, and is answered
  pub does_decide : {A B : Type 0} {a : S} {f : Frames} (r : Result A Fault) (form : A → B) (answer : Result B Fault)
      → answer ≡ answer_in form r → DoesDeed facts a a f f (decided r >>= (λ x. done (form x))) answer
  does_decide (Ok x) form answer is = does_nothing (λ p. inl (x, p, (refl, refl), (is, refl)))
  does_decide (Err e) form answer is = does_nothing (λ p. inr (e, is, (refl, refl)))

  -- a release that was done, whatever it left
  pub does_release_done : {A : Type 0} {a b : S} {f g : Frames} {one : Deed (Option (List ℕ))} (words : A → List ℕ)
      (left : Option A) → DoesDeed facts a b f g one (release_answer words (Ok left))
      → DoesDeed facts a b f g (answered_by (λ _. replies.Done) one) (Ok replies.Done)
  does_release_done words None d = did_answer (λ _. replies.Done) refl d
  does_release_done words (Some x) d = did_answer (λ _. replies.Done) refl d

  -- a release that was refused
  pub does_release_refused : {A : Type 0} {a b : S} {f g : Frames} {one : Deed A} (e : Fault)
      → DoesDeed facts a b f g one (Err e) → DoesDeed facts a b f g (answered_by (λ _. replies.Done) one) (Err e)
  does_release_refused e d = did_refuse (λ _. replies.Done) (Err e) refl d

-- a release that was done is handed on as it is
pub release_handed : {A : Type 0} (words : A → List ℕ) (left : Option A)
    → IsHandedOn (release_answer words (Ok left)) (release_answer words (Ok left))
release_handed words None = refl
release_handed words (Some x) = refl

-- elements that a buffer had
pub of_buffer : {x y : CopiedElements} {b : Copied} → x ≡ y → copied_in x ≡ b → copied_in y ≡ b
of_buffer is was = ap copied_in (sym is) ∙ was

-- what is left of elements of a type, as what a name stands for
pub left_mapped : {V : Type 0} (k : Kind) (word_of : V → ℕ) (wrap : List V → CopiedElements)
    → ((vs : List V) → copied_in (wrap vs) ≡ copied_as k word_of vs) → (mode : Mode)
    (answer handed : Result Reply Fault) (values : List V) (left : Option (List V)) (mapped : Option CopiedElements)
    (b : Copied) → copied_as k word_of values ≡ b → left ≡ elements_left mode answer values
    → MatchOption left (mapped ≡ None) (λ x. IsSomeAnd mapped (λ y. y ≡ wrap x)) → handed ≡ answer
    → binding_left mapped ≡ left_by mode handed (Buffer b)
left_mapped k word_of wrap same mode answer handed values (Some x) (Some y) b is left cases was =
    ap (λ (z : CopiedElements). Buffer (copied_in z)) cases ∙ (ap (λ (z : Copied). Buffer z) (same x)
    ∙ (some_left k word_of mode answer values x b is left ∙ ap (λ a. left_by mode a (Buffer b)) (sym was)))
left_mapped k word_of wrap same mode answer handed values (Some x) None b is left cases was = absurd cases
left_mapped k word_of wrap same mode answer handed values None mapped b is left cases was =
    ap binding_left cases
    ∙ (none_left mode answer values (Buffer b) left ∙ ap (λ a. left_by mode a (Buffer b)) (sym was))

-- what was put was answered so
pub done_of : {A : Type 0} (r : Result A Fault) → ◌≡◌ {A = Result (Unit {0}) Fault} (Ok tt) (answer_in (λ _. tt) r)
    → ◌≡◌ {A = Result Reply Fault} (Ok replies.Done) (answer_in (λ _. replies.Done) r)
done_of (Ok x) is = refl
done_of (Err e) is = absurd cc

pub refused_of : {A : Type 0} (r : Result A Fault) (e : Fault) (answer : Result Reply Fault)
    → ◌≡◌ {A = Result (Unit {0}) Fault} (Err e) (answer_in (λ _. tt) r) → IsErrAnd answer (λ y. y ≡ e)
    → answer ≡ answer_in (λ _. replies.Done) r
refused_of (Ok x) e answer is given = absurd cc
refused_of (Err d) e answer is given = let why = err_from_is_err_and answer given in let same : e ≡ d = cc in
    why.1 ∙ ap (λ (v : Fault). Err v) (why.2 ∙ same)

-- a number at an index, where the verb is known to ask for a buffer's or for a level's
module _ {S : Type 0} {facts : S → Facts} {a : S} {f : Frames} (turns : ℕ) (names : Names) where
  pub does_get : (v : OnNameAt) (n : List ℕ) (i : ℕ) (answer : Result Reply Fault)
      → answer ≡ got_by v (answer_in (λ x. replies.Value x) (getting i (binding names n)))
      → DoesDeed facts a a f f (deed turns names (commands.OnNameAt v n i)) answer
  does_get on_name_at.Get n i answer is = does_decide (getting i (binding names n)) (λ x. replies.Value x) answer is
  does_get on_name_at.GetInLevel n i answer is = does_nothing (λ p. (is, refl))

  pub does_put : (v : PutAt) (n : List ℕ) (i : ℕ) (x : ℤ) (answer : Result Reply Fault)
      → answer ≡ put_by v (answer_in (λ _. replies.Done) (putting i x (binding names n)))
      → DoesDeed facts a a f f (deed turns names (commands.PutAt v n i x)) answer
  does_put put_at.Put n i x answer is = does_decide (putting i x (binding names n)) (λ _. replies.Done) answer is
  does_put put_at.PutInLevel n i x answer is = does_nothing (λ p. (is, refl))
