-- A part is read element by element.
use Rattle.std.proofs.Common.{◌≡◌, ◌<◌, ◌+◌, ℕ, suc, List, [], ◌∷◌, ◌++◌, take}
use Rattle.std.proofs.Common.{length, slice_set, refl, sym, ap, subst, ◌∙◌, arith}
use Rattle.std.proofs.lemmas.List.{map-append, length-map, length-take-le, take_all, take_more_set}
use Rattle.jr_word.specs.declared.header.HeaderParts.{HeaderParts}
use Rattle.jr_model.specs.declared.event.Act.TheVariants.{Read}
use Rattle.jr_steps.specs.declared.known.Known.{Known}
use Rattle.jr_steps.specs.declared.known.Holdings.{Holdings}
use Rattle.jr_steps.specs.Holdings.{header_in}
use Rattle.jr_steps.specs.Knowing.{Facts, Goes, KnowsHeader, ReadsInTurn, SawPart, Took, keeps}

-- one word more
reads_more : (o i : ℕ) (vs : List ℕ) (v : ℕ) (k mid k' : Known) → ReadsInTurn o i vs k mid
    → Goes mid (Read o (i + length vs) v ∷ []) k' → keeps mid k' → ReadsInTurn o i (vs ++ v ∷ []) k k'
reads_more o i [] v k mid k' r g held =
    let at : i + 0 ≡ i = omega arith in (
      k',
      subst (λ (z : ℕ × Known). Goes z.1 (Read o z.0 v ∷ []) k') (λ j. (at j, r j)) g,
      subst (λ z. keeps z k') r held,
      refl,
    )
reads_more o i (x ∷ vs) v k mid k' r g held =
    let at : i + suc (length vs) ≡ (i + 1) + length vs = omega arith in
    (r.0, r.1, r.2, reads_more o (i + 1) vs v r.0 mid k' r.3 (subst (λ n. Goes mid (Read o n v ∷ []) k') at g) held)

module _ {S : Type 0} {facts : S → Facts} {V : Type 0} (taken : ℕ → V) (o : ℕ) (h : HeaderParts) (start : ℕ) where
  -- nothing was read
  pub saw_nothing : (a : S) → SawPart facts a a o h start taken []
  saw_nothing a =
      record { words = []; are = refl; stands_is = refl; hint_is = refl; leads = λ k s m. (k, s, refl, refl) }

  -- one element more was read
  saw_next : {a b c : S} (values : List V) (at v : ℕ) → at ≡ start + length values
      → SawPart facts a b o h start taken values → Took facts b c (Read o at v ∷ []) (KnowsHeader o h) keeps
      → SawPart facts a c o h start taken (values ++ taken v ∷ [])
  saw_next {a} {b} {c} values at v place p t = record {
    words = p.words ++ v ∷ [];
    are = ap (λ xs. xs ++ taken v ∷ []) p.are ∙ sym (map-append taken p.words (v ∷ []));
    stands_is = t.stands_is ∙ p.stands_is;
    hint_is = t.hint_is ∙ p.hint_is;
    leads = λ k s m.
        let x = p.leads k s m in
        let g = t.goes x.0 x.1 (ap (λ (z : Holdings). header_in o z.headers) x.3 ∙ m) in
        let here : at ≡ start + length p.words =
        place ∙ ap (λ n. start + n) (ap length p.are ∙ length-map p.words taken) in (
          g.0,
          g.1,
          reads_more o start p.words v k x.0 g.0 x.2 (subst (λ n. Goes x.0 (Read o n v ∷ []) g.0) here g.2) g.3,
          g.3 ∙ x.3,
        );
  }

  -- so it is in a loop over the elements
  pub saw_more : {a b c : S} (i at : ℕ) (values : List V) (x : V) (v : ℕ) → i < length values → at ≡ start + i
      → x ≡ taken v → SawPart facts a b o h start taken (take i values)
      → Took facts b c (Read o at v ∷ []) (KnowsHeader o h) keeps
      → SawPart facts a c o h start taken (take (i + 1) (slice_set values i x))
  saw_more {a} {b} {c} i at values x v inside place is p t =
      let long : length (take i values) ≡ i = length-take-le i values (omega arith) in
      subst (λ xs. SawPart facts a c o h start taken xs) (ap (λ y. take i values ++ y ∷ []) (sym is)
      ∙ sym (take_more_set values i x inside))
      (saw_next (take i values) at v (place ∙ ap (λ n. start + n) (sym long)) p t)

  pub saw_all : {a b : S} (i n : ℕ) (values : List V) → i ≡ n → length values ≡ n
      → SawPart facts a b o h start taken (take i values) → SawPart facts a b o h start taken values
  saw_all {a} {b} i n values end size p =
      subst (λ xs. SawPart facts a b o h start taken xs) (take_all i values (omega arith)) p
