-- The local references that a dump has kept so far.
use Rattle.std.proofs.Common.{◌≡◌, ◌+◌, ◌-◌, ◌*◌, ◌<◌, ◌≤◌, ℕ, Option, List, [], length, slice_set}
use Rattle.std.proofs.Common.{get_or, sym, ap, subst, ◌∙◌, arith, get_or-set_same, get_or-set_other}
use mathlib.Core.Logic.{dite}
use native.Mathlib.Decide.{ℕ_discrete}
use Rattle.jr_word.specs.declared.config.Config.{Config}
use Rattle.jr_word.specs.declared.local.LocalParts.{LocalParts}
use Rattle.jr_word.specs.declared.local.LocalParts.TheVariants as local
use Rattle.jr_model.specs.declared.event.Role.TheVariants.{Collecting}
use Rattle.jr_steps.specs.declared.known.Known.{Known}
use Rattle.jr_steps.specs.declared.known.Holdings.{Holdings}
use Rattle.jr_steps.specs.Collecting.{ShowsLocal}
use Rattle.jr_steps.specs.Knowing.{Facts, Standing, AreOf, Took, anything, keeps, state_of}
use Rattle.jr_steps.specs.Says.{local_parts}
use Rattle.jr_weak.proofs.RootMarks.{one_thread}
use Rattle.jr_census.specs.Dumps.{HasPlaces, HasPlacesOf}
use Rattle.jr_census.specs.Telling.{LoadsTell}
use Rattle.jr_census.proofs.Turns.{told_none, told_so, told_then, told_turn}

-- a thread's places end where those of the next begin
pub next_row : (t n places : ℕ) → t < n → t * places + places ≤ n * places
next_row t n places l = subst (λ m. t * places + places ≤ m * places) same (omega (arith, more))
  where
    same : t + 1 + (n - (t + 1)) ≡ n
    same = omega arith

    more : (t + 1 + (n - (t + 1))) * places ≡ t * places + places + (n - (t + 1)) * places
    more = grind arith

-- the places below i of a thread are kept, from a place of the notes on
abbrev pub PlacesKept : ℕ → ℕ → ℕ → List LocalParts → Known → Type 0
PlacesKept start t i xs k = HasPlacesOf start i ((state_of k).locals t) xs

-- what stands before a place stays
abbrev pub SamePlaces : ℕ → List LocalParts → List LocalParts → Type 0
SamePlaces start xs xs' = (at : ℕ) → at < start → get_or xs' at local.Free ≡ get_or xs at local.Free

pub same_places : (start i : ℕ) (q : LocalParts) (xs xs' : List LocalParts) → SamePlaces start xs xs'
    → SamePlaces start xs (slice_set xs' (start + i) q)
same_places start i q xs xs' same at l =
    get_or-set_other xs' (start + i) at q local.Free (λ e. absurd (omega arith)) ∙ same at l

-- the places of the threads below n are kept
abbrev pub ThreadsKept : ℕ → List LocalParts → Known → Type 0
ThreadsKept n xs k = HasPlaces n k.config.locals (state_of k) xs

module _ {S : Type 0} {facts : S → Facts} (fits : AreOf facts) where
  pub places_kept_none : (start t : ℕ) (xs : List LocalParts) (a : S)
      → LoadsTell facts (λ j. 0) a a (PlacesKept start t 0 xs)
  places_kept_none start t xs a = told_none fits a (λ k s p l. absurd (omega arith))

  pub places_kept_next : {a b c : S} (start t i : ℕ) (xs xs' : List LocalParts) (q : LocalParts)
      → (facts a).stands.role ≡ Collecting → start + i < length xs
      → LoadsTell facts (λ j. i) a b (PlacesKept start t i xs)
      → Took facts b c [] anything (λ j k. ShowsLocal t i q k × keeps j k) → xs' ≡ slice_set xs (start + i) q
      → LoadsTell facts (λ j. i + 1) a c (PlacesKept start t (i + 1) xs')
  places_kept_next {a} {b} {c} start t i xs xs' q collects wide told took is =
      subst (λ zs. LoadsTell facts (λ j. i + 1) a c (PlacesKept start t (i + 1) zs)) (sym is)
      (told_turn fits collects told took (λ k can h. tt) (λ k k' shown. ap (λ (g : Holdings). g.moving) shown.1)
      (λ k k' s same last was shown p l. dite (ℕ_discrete p i)
      (λ e. ap (λ m. local_parts ((state_of k').locals t m)) e
      ∙ (shown.0 ∙ sym (ap (λ m. get_or (slice_set xs (start + i) q) (start + m) local.Free) e
      ∙ get_or-set_same xs (start + i) q local.Free wide)))
      (λ ne. ap (λ (f : ℕ → ℕ → Option ℕ). local_parts (f t p)) same.locals ∙ (was p (omega arith)
      ∙ sym (get_or-set_other xs (start + i) (start + p) q local.Free (λ e. ne (omega arith)))))))

  pub places_kept_all : {a b : S} (start t i : ℕ) (xs : List LocalParts) → i ≡ (facts a).stands.config.locals
      → LoadsTell facts (λ j. i) a b (PlacesKept start t i xs)
      → LoadsTell facts (λ j. j.config.locals) a b (λ k. HasPlacesOf start k.config.locals ((state_of k).locals t) xs)
  places_kept_all {a} {b} start t i xs end p = told_so fits (λ j. j.config.locals) (λ k s. let e = end
      ∙ sym (ap (λ (z : Config). z.locals) (fits a k s).config) in omega arith)
      (λ k s was. subst (λ n. HasPlacesOf start n ((state_of k).locals t) xs)
      (end ∙ (sym (ap (λ (z : Standing). z.config.locals) p.stands_is)
      ∙ sym (ap (λ (z : Config). z.locals) (fits b k s).config))) was) p

  pub threads_kept_next : {a b c : S} (n start : ℕ) (xs xs' : List LocalParts) → (facts a).stands.role ≡ Collecting
      → start ≡ n * (facts a).stands.config.locals → SamePlaces start xs xs'
      → LoadsTell facts (λ j. n * j.config.locals) a b (ThreadsKept n xs)
      → LoadsTell facts (λ j. j.config.locals) b c (λ k. HasPlacesOf start k.config.locals ((state_of k).locals n) xs')
      → LoadsTell facts (λ j. (n + 1) * j.config.locals) a c (ThreadsKept (n + 1) xs')
  threads_kept_next {a} {b} {c} n start xs xs' collects is before p q = told_then fits (λ j. (n + 1) * j.config.locals)
      collects p q (λ k k' same config. one_thread n k k' config) (λ k k' s same config last was now t l.
      let size : (facts a).stands.config.locals ≡ k'.config.locals =
      sym (ap (λ (z : Config). z.locals) (fits c k' s).config
      ∙ (ap (λ (z : Standing). z.config.locals) q.stands_is ∙ ap (λ (z : Standing). z.config.locals) p.stands_is)) in
      let end : start ≡ n * k'.config.locals = is ∙ ap (λ z. n * z) size in
      dite (ℕ_discrete t n)
      (λ e.
      let at : start ≡ t * k'.config.locals = end ∙ ap (λ m. m * k'.config.locals) (sym e) in
      subst (λ (z : ℕ × ℕ). HasPlacesOf z.0 k'.config.locals ((state_of k').locals z.1) xs') (λ j. (at j, sym e j)) now)
      (λ ne r m.
      let here : HasPlacesOf (t * k'.config.locals) k'.config.locals ((state_of k').locals t) xs =
      subst (λ (z : Config × (ℕ → ℕ → Option ℕ)). HasPlacesOf (t * (z.0).locals) (z.0).locals (z.1 t) xs)
      (λ j. (sym config j, sym same.locals j)) (was t (omega arith)) in
      let row = next_row t n k'.config.locals (omega arith) in
      here r m ∙ sym (before (t * k'.config.locals + r) (omega (arith, row, end, m)))))
