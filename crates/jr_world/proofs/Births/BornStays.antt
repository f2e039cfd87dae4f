-- An object that stands where it was born stays there, with its kind and length, while a thread is within.
use Rattle.std.proofs.Common.{◌≡◌, ◌≢◌, ◌==◌, ◌++◌, ℕ, Bool, true, false, cond, Some}
use Rattle.std.proofs.Common.{[], ◌∷◌, length, slice_get, slice_set, refl, sym, ap, subst, ◌∙◌}
use Rattle.std.proofs.lemmas.List.{length-set}
use Rattle.std.specs.List.{AllByRecursion}
use Rattle.jr_word.specs.declared.config.Config.{Config}
use Rattle.jr_model.specs.declared.event.Act.{Act}
use Rattle.jr_model.specs.declared.event.Act.TheVariants.{Gate, New, Write, Drop}
use Rattle.jr_model.specs.declared.event.GateAct.TheVariants.{Leave}
use Rattle.jr_model.specs.declared.event.Role.TheVariants.{Within}
use Rattle.jr_model.specs.State.{State, Contents}
use Rattle.jr_model.specs.Steps.{after}
use Rattle.jr_model.specs.History.{History, by, is_collection_step, IsLegalFrom, IsLegal, state}
use Rattle.jr_model.proofs.Histories.{legal_append}
use Rattle.jr_model.proofs.Gates.{IsApart, apart_after, apart_state, stay_act}
use Rattle.jr_world.specs.Births.{Births, no_births, rewritten, word_of_kind, born_by, births_from, births}
use Rattle.jr_world.proofs.Births.BornLists.{get_old, map_get, births_append}

-- the object stands there, and is of this kind and length
abbrev pub StandsLike : Births → ℕ → ℕ → Contents → Type 0
StandsLike b i o x = (y : Contents) × (slice_get b.objects i ≡ Some (o, Some y))
    × (y.kind ≡ x.kind) × (length y.words ≡ length x.words)

-- an entry after a write into an object
written_like : (b : Births) (j v o : ℕ) (x : Contents) (d : Bool)
    → (y : Contents) × (cond d (rewritten b.objects j v (Some x)) (Some x) ≡ Some y)
    × (y.kind ≡ x.kind) × (length y.words ≡ length x.words)
written_like b j v o x true = (
  record { kind = x.kind; words = slice_set x.words j (word_of_kind b.objects x.kind v) },
  refl,
  refl,
  length-set x.words j (word_of_kind b.objects x.kind v),
)
written_like b j v o x false = (x, refl, refl, refl)

-- by an act that is no step of a collection
like_act : (b : Births) (t : ℕ) (a : Act) → is_collection_step a ≡ false → (i o : ℕ) (x : Contents)
    → slice_get b.objects i ≡ Some (o, Some x) → StandsLike (born_by b t a) i o x
like_act b t (New p k ws) quiet i o x e = (x, get_old b.objects _ i (o, Some x) e, refl, refl)
like_act b t (Write p j v) quiet i o x e =
    let y = written_like b j v o x (o == p) in (
      y.0,
      map_get (λ z. (z.0, cond (z.0 == p) (rewritten b.objects j v z.1) z.1)) b.objects i (o, Some x) e
          ∙ ap (λ z. Some (o, z)) y.1,
      y.2,
      y.3,
    )
like_act b t (Drop p) quiet i o x e = absurd cc
like_act b t _ quiet i o x e = (x, e, refl, refl)

module _ (c : Config) (last : ℕ) where
  pub stands_along : (t : ℕ) (b : Births) (s : State) (es : History) → IsApart s.role → s.role t ≡ Within
      → AllByRecursion (λ e. e ≢ by t (Gate Leave)) es → IsLegalFrom c last s es → (i o : ℕ) (x : Contents)
      → slice_get b.objects i ≡ Some (o, Some x) → StandsLike (births_from b es) i o x
  stands_along t b s [] apart within stays l i o x e = (x, e, refl, refl)
  stands_along t b s (f ∷ es) apart within stays l i o x e =
      let here = stay_act c last t s f.thread f.act apart within stays.0 l.0.1 in
      let y = like_act b f.thread f.act here.1 i o x e in
      let z = stands_along t (born_by b f.thread f.act) (after s f) es (apart_after c last s f apart l.0) here.0 stays.1
      l.1 i o y.0 y.1 in
      (z.0, z.1, z.2 ∙ y.2, z.3 ∙ y.3)

  -- of the births of a legal history, where a thread is within from some moment on
  pub stands_within : (t : ℕ) (past rest : History) → IsLegal c last (past ++ rest) → (state past).role t ≡ Within
      → AllByRecursion (λ e. e ≢ by t (Gate Leave)) rest → (i o : ℕ) (x : Contents)
      → slice_get (births past).objects i ≡ Some (o, Some x) → StandsLike (births (past ++ rest)) i o x
  stands_within t past rest l within stays i o x e =
      let both = (legal_append c last past rest).0 l in
      subst (λ b. StandsLike b i o x) (sym (births_append no_births past rest))
      (stands_along t (births past) (state past) rest (apart_state c last past both.0) within stays both.1 i o x e)
