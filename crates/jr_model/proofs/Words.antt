-- The elements of a present object are words of its kind.
use Rattle.std.proofs.Common.{◌≡◌, ◌≢◌, ⊎_elim, ℕ, Some, None, List, [], ◌∷◌, slice_set, refl, sym, ap, subst, ◌∙◌}
use Rattle.jr_word.specs.declared.config.Config.{Config}
use Rattle.jr_word.specs.declared.kind.Kind.{Kind}
use Rattle.jr_word.specs.declared.kind.Kind.TheVariants.{Plain, Boolean, Byte, Char, Short, Int, Long, Objects, Text}
use Rattle.jr_model.specs.declared.event.Act.{Act}
use Rattle.jr_model.specs.declared.event.Act.TheVariants.{New, Write, Drop}
use Rattle.jr_model.specs.State.{Contents, State, opening, IsWord, AreWords}
use Rattle.jr_model.specs.Steps.{ActNeeds, act_after, written}
use Rattle.jr_model.specs.History.{History, state, IsLegal}
use Rattle.jr_model.specs.Laws.{ElementsAreWords, PlainHasNoElements}
use Rattle.jr_model.proofs.Updates.{at_number}
use Rattle.jr_model.proofs.Histories.{kept_from}
use Rattle.jr_model.proofs.Presence.{slice_get_set, elements_are_present}

-- what a word of another kind than Objects is does not hang on the state
word_any : (s s' : State) (k : Kind) (v : ℕ) → k ≢ Objects → IsWord s k v → IsWord s' k v
word_any s s' Objects v ne w = absurd (ne refl)
word_any s s' _ v ne w = w

-- the elements of all objects but object arrays are words of their kinds, which hang on no state
abbrev HasWords : State → Type 0
HasWords s = (o : ℕ) (x : Contents) → s.objects o ≡ Some x → x.kind ≢ Objects → AreWords opening x.kind x.words

module _ (c : Config) (last : ℕ) where
  words_act : (s : State) (t : ℕ) (a : Act) → HasWords s → ActNeeds c last s t a → HasWords (act_after s t a)
  words_act s t (New o k ws) i n = λ p x. at_number (λ z. z ≡ Some x → x.kind ≢ Objects
      → AreWords opening x.kind x.words) s.objects o p (Some (record { kind = k; words = ws }))
      (λ e q ne.
      let same : record { kind = k; words = ws } ≡ x = cc in
      subst (λ (y : Contents). y.kind ≢ Objects → AreWords opening y.kind y.words) same
      (λ other j v at. word_any s opening k v other (n.4 j v at)) ne)
      (λ away. i p x)
  words_act s t (Write o l w) i n = λ p x. at_number
      (λ z. z ≡ Some x → x.kind ≢ Objects → AreWords opening x.kind x.words) s.objects o p (written (s.objects o) l w)
      (λ e q ne.
      let y : Contents = n.1 in
      let there : Some (record { kind = y.kind; words = slice_set y.words l w }) ≡ Some x =
      ap (λ z. written z l w) (sym n.2) ∙ q in
      let same : record { kind = y.kind; words = slice_set y.words l w } ≡ x = cc in
      subst (λ (z : Contents). z.kind ≢ Objects → AreWords opening z.kind z.words) same
      (λ other j v at.
      ⊎_elim (λ h. subst (λ u. IsWord opening y.kind u) (sym h.1) (word_any s opening y.kind w other n.5))
      (λ h. i o y n.2 other j v h.1) (slice_get_set y.words l j w v at))
      ne)
      (λ away. i p x)
  words_act s t (Drop o) i n = λ p x. at_number (λ z. z ≡ Some x → x.kind ≢ Objects → AreWords opening x.kind x.words)
      s.objects o p None (λ e q. absurd cc) (λ away. i p x)
  words_act s t _ i n = i

  words_state : (es : History) → IsLegal c last es → HasWords (state es)
  words_state es l =
      kept_from c last HasWords (λ s e i n. words_act s e.thread e.act i n.1) opening es (λ o x e. absurd cc) l

  pub elements_are_words : ElementsAreWords c last
  elements_are_words es o x l is quiet = go x.kind refl
    where
      others : (k : Kind) → x.kind ≡ k → k ≢ Objects → AreWords (state es) x.kind x.words
      others k e ne j v at =
          let other : x.kind ≢ Objects = λ z. ne (sym e ∙ z) in
          word_any opening (state es) x.kind v other (words_state es l o x is other j v at)

      go : (k : Kind) → x.kind ≡ k → AreWords (state es) x.kind x.words
      go Objects e =
          subst (λ k. AreWords (state es) k x.words) (sym e) (elements_are_present c last es l (quiet e) o x is e)
      go Plain e = others Plain e (λ z. cc)
      go Boolean e = others Boolean e (λ z. cc)
      go Byte e = others Byte e (λ z. cc)
      go Char e = others Char e (λ z. cc)
      go Short e = others Short e (λ z. cc)
      go Int e = others Int e (λ z. cc)
      go Long e = others Long e (λ z. cc)
      go Text e = others Text e (λ z. cc)

  pub plain_has_no_elements : PlainHasNoElements c last
  plain_has_no_elements es o x l is plain = go x.words (subst (λ k. AreWords (state es) k x.words) plain
      (elements_are_words es o x l is (λ e. absurd (let p = plain in cc))))
    where
      go : (ws : List ℕ) → AreWords (state es) Plain ws → ws ≡ []
      go [] w = refl
      go (v ∷ ws) w = absurd (w 0 v refl)
