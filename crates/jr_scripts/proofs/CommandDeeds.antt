-- What calls make up a command, for whatever was known.
use Rattle.std.proofs.Common.{◌≡◌, ℕ, ℤ, List, [], ◌∷◌, length, map, get_or}
use Rattle.std.proofs.Common.{ap, Result, Ok, Err, refl, subst, sym, inl, inr}
use Rattle.jr_word.specs.declared.fault.Fault.{Fault}
use Rattle.jr_word.specs.declared.handle.RefKind.{RefKind}
use Rattle.jr_word.specs.declared.kind.Kind.{Kind}
use Rattle.jr_model.specs.State.{Handle}
use Rattle.jr_model.specs.Frames.{Frames}
use Rattle.jr_model.specs.Checks.{Parts}
use Rattle.jr_syntax.specs.declared.verb.Release.{Release}
use Rattle.jr_syntax.specs.declared.verb.Release.TheVariants as release
use Rattle.jr_syntax.specs.declared.verb.OnBoth.{OnBoth}
use Rattle.jr_syntax.specs.declared.verb.OnBoth.TheVariants.{Same}
use Rattle.jr_steps.specs.Knowing.{Facts}
use Rattle.jr_scripts.specs.declared.reply.Reply.{Reply}
use Rattle.jr_scripts.specs.declared.reply.Reply.TheVariants as replies
use Rattle.jr_frames.specs.Reading.{IsReadAs}
use Rattle.jr_env.specs.Deeds.{Deed, DoesDeed, DoesOutside, decided, done, answered_by}
use Rattle.jr_env.specs.Deeds.{kind_of, get_array_region, set_array_region, ◌>>=◌, ◌>>◌}
use Rattle.jr_scripts.specs.declared.number.NumberKind.{NumberKind}
use Rattle.jr_scripts.specs.declared.number.NumberKind.TheVariants as number
use Rattle.jr_scripts.specs.declared.number.Element.{Element}
use Rattle.jr_scripts.specs.Numbers.{has_numbers, first_number, number_of_word, word_of_number}
use Rattle.jr_scripts.specs.Numbers.{kind_numbered, kind_of_element, word_of_element}
use Rattle.jr_scripts.specs.Commands.{tried, deleted_of, deletion, storing, storing_as}
use Rattle.jr_scripts.proofs.FormedTries.{tried_answered, tried_formed}
use Rattle.jr_env.proofs.Carrying.{did_decided, did_decline, did_more, does_then}

-- arrays of such a kind have numbers
pub numbered_has : (n : NumberKind) → has_numbers (kind_numbered n) ≡ Ok tt
numbered_has number.Boolean = refl
numbered_has number.Byte = refl
numbered_has number.Char = refl
numbered_has number.Short = refl
numbered_has number.Int = refl
numbered_has number.Long = refl

-- the number of the one element that was read
pub number_of_one : {V : Type 0} (k : Kind) (word_of : V → ℕ) (xs : List V) (x : V) → length xs ≡ 1 → get_or xs 0 x ≡ x
    → number_of_word k (word_of x) ≡ first_number k (map word_of xs)
number_of_one k word_of [] x one is = absurd (let none = one in cc)
number_of_one k word_of (y ∷ ys) x one is = ap (λ z. number_of_word k (word_of z)) (sym is)

-- a verb of a name, a reference and a mode is this one
pub only_release : (v : Release) → v ≡ release.Elements
only_release release.Elements = refl

-- a verb of two references is this one
pub only_same : (v : OnBoth) → v ≡ Same
only_same Same = refl

module _ {S : Type 0} {facts : S → Facts} where
  -- the delete call of the kind of a handle
  pub does_delete : {old new : S} {f g : Frames} {answer : Result Reply Fault} (turns w : ℕ) (h : Handle)
      (kind : RefKind) → IsReadAs w (Parts h) → h.kind ≡ kind
      → DoesDeed facts old new f g (deleted_of turns kind w >> done replies.Done) answer
      → DoesDeed facts old new f g (deletion turns w >> done replies.Done) answer
  does_delete turns w h kind reads is = did_more (λ p q d.
      elim d [
        | inl x ↦ inl (x.0, x.1, (Parts h, reads, subst (λ k. deleted_of turns k w p (Ok x.0) x.1) (sym is) x.2), x.3)
        | inr y ↦ inr (y.0, y.1, (Parts h, reads, subst (λ k. deleted_of turns k w p (Err y.0) q) (sym is) y.2))
      ])

  -- the kind of an array, and then a deed for it
  pub does_of_kind : {a b c : S} {f g h : Frames} {answer : Result Reply Fault} (turns w : ℕ) (k kind : Kind)
      (next : Kind → Deed Reply) → k ≡ kind → has_numbers kind ≡ Ok tt
      → DoesDeed facts a b f g (tried turns (kind_of w)) (Ok k) → DoesDeed facts b c g h (next kind) answer
      → DoesDeed facts a c f h (tried turns (kind_of w) >>= (λ k. decided (has_numbers k) >>= (λ _. next k))) answer
  does_of_kind {b = b} {c = c} {g = g} {h = h} {answer = answer} turns w k kind next is numbers first more =
      does_then (λ k. decided (has_numbers k) >>= (λ _. next k)) first
      (subst (λ x. DoesDeed facts b c g h (decided (has_numbers x) >>= (λ _. next x)) answer) (sym is)
      (did_decided (λ _. next kind) numbers more))

  -- a call whose answer has another form, made again where it was raced or barred
  pub does_tried_form : {A B : Type 0} {a b : S} {f g : Frames} {answer : Result B Fault} (turns : ℕ) (form : A → B)
      (one : Deed A) → DoesDeed facts a b f g (tried turns (answered_by form one)) answer
      → DoesDeed facts a b f g (answered_by form (tried turns one)) answer
  does_tried_form {answer = answer} turns form one = did_more (λ p q d.
      let x = tried_formed form one turns p q answer d in
      subst (λ r. answered_by form (tried turns one) p r q) (sym x.1) (tried_answered form one turns p q x.0 x.2))

  -- a number is stored, by the call of its kind
  pub does_store : {a b c : S} {f g h : Frames} {answer : Result Reply Fault} (turns w i : ℕ) (v : ℤ) (k : Kind)
      (n : NumberKind) (x : Element) → k ≡ kind_numbered n → kind_of_element x ≡ kind_numbered n
      → word_of_number (kind_numbered n) v ≡ Ok (word_of_element x)
      → DoesDeed facts a b f g (tried turns (kind_of w)) (Ok k) → DoesDeed facts b c g h
      (tried turns (set_array_region (kind_of_element x) w i (word_of_element x ∷ [])) >> done replies.Done) answer
      → DoesDeed facts a c f h (storing turns w i v) answer
  does_store {b = b} {c = c} {g = g} {h = h} {answer = answer} turns w i v k n x is kind word first more =
      does_of_kind turns w k (kind_numbered n) (storing_as turns w i v) is (numbered_has n) first
      (did_decided (λ word. tried turns (set_array_region (kind_numbered n) w i (word ∷ [])) >> done replies.Done) word
      (subst (λ l. DoesDeed facts b c g h
      (tried turns (set_array_region l w i (word_of_element x ∷ [])) >> done replies.Done) answer) kind more))

  -- no element of the kind is the number
  pub does_refuse_number : {a b : S} {f g : Frames} (turns w i : ℕ) (v : ℤ) (k : Kind) (n : NumberKind) (e : Fault)
      → k ≡ kind_numbered n → word_of_number (kind_numbered n) v ≡ Err e
      → DoesDeed facts a b f g (tried turns (kind_of w)) (Ok k) → DoesDeed facts a b f g (storing turns w i v) (Err e)
  does_refuse_number turns w i v k n e is word first =
      does_of_kind turns w k (kind_numbered n) (storing_as turns w i v) is (numbered_has n) first
      (did_decline (λ word. tried turns (set_array_region (kind_numbered n) w i (word ∷ [])) >> done replies.Done) refl
      (λ k m. m) word)

  -- a part of one element was read
  pub does_read_one : {a b : S} {f g : Frames} {answer : Result (List ℕ) Fault} (k : Kind) (w i n : ℕ) → n ≡ 1
      → DoesOutside facts a b f g (get_array_region k w i n) answer
      → DoesOutside facts a b f g (get_array_region k w i 1) answer
  does_read_one {a} {b} {f} {g} {answer} k w i n one =
      subst (λ m. DoesOutside facts a b f g (get_array_region k w i m) answer) one

  -- the same number is stored
  pub does_stored_as : {a b : S} {f g : Frames} {answer : Result Reply Fault} (turns w i : ℕ) (v x : ℤ)
      → DoesDeed facts a b f g (storing turns w i v) answer → v ≡ x
      → DoesDeed facts a b f g (storing turns w i x) answer
  does_stored_as {a} {b} {f} {g} {answer} turns w i v x d is =
      subst (λ n. DoesDeed facts a b f g (storing turns w i n) answer) is d
