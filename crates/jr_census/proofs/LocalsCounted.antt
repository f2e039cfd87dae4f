-- The local references of each thread.
use Rattle.std.proofs.Common.{◌≡◌, ◌+◌, ◌*◌, ◌<◌, ◌≤◌, ℕ, zero, suc, false, Option, Some, None}
use Rattle.std.proofs.Common.{is_some, List, [], length, get_or, slice_set, replicate, refl}
use Rattle.std.proofs.Common.{sym, ap, subst, ◌∙◌, arith, get_or-set_same, get_or-set_other}
use mathlib.Core.Logic.{dite}
use native.Mathlib.Decide.{ℕ_discrete, dec_lt}
use Rattle.jr_word.specs.declared.config.Config.{Config}
use Rattle.jr_word.specs.declared.local.LocalParts.{LocalParts}
use Rattle.jr_word.specs.declared.local.LocalParts.TheVariants as local
use Rattle.jr_model.specs.declared.event.Role.TheVariants.{Collecting}
use Rattle.jr_model.proofs.Counts.{bit, count_all_false}
use Rattle.jr_model.proofs.InRoom.{in_room}
use Rattle.jr_steps.specs.declared.known.Known.{Known}
use Rattle.jr_steps.specs.declared.known.Holdings.{Holdings}
use Rattle.jr_steps.specs.Collecting.{ShowsLocal}
use Rattle.jr_steps.specs.Knowing.{Facts, Standing, AreOf, Took, anything, keeps, state_of}
use Rattle.jr_steps.specs.Says.{local_parts}
use Rattle.jr_compact.proofs.Listed.{sum_more}
use Rattle.jr_weak.proofs.RootMarks.{all_threads, one_thread}
use Rattle.jr_census.specs.Counts.{AreLocals, at_places, local_bit}
use Rattle.jr_census.specs.Telling.{LoadsTell}
use Rattle.jr_census.proofs.SlotsCounted.{sum_zero_below}
use Rattle.jr_census.proofs.Turns.{told_none, told_so, told_then, told_turn}

-- what a local word says of its place
place_says : (z : Option ℕ) (q : LocalParts) → local_parts z ≡ q → bit (is_some z) ≡ local_bit q
place_says None q e = ap local_bit e
place_says (Some o) q e = ap local_bit e

pub local_few : (q : LocalParts) → local_bit q ≤ 1
local_few local.Free = omega arith
local_few (local.Object o) = omega arith

-- the count of the places below n of a thread
abbrev pub PlacesBelow : ℕ → ℕ → ℕ → Known → Type 0
PlacesBelow t n x k = x ≡ at_places n ((state_of k).locals t)

-- the counts of the threads below n
abbrev pub ThreadsBelow : ℕ → List ℕ → Known → Type 0
ThreadsBelow n xs k = (t : ℕ) → t < n → get_or xs t 0 ≡ at_places k.config.locals ((state_of k).locals t)

-- the counts of the other threads
abbrev pub NoneBeyond : ℕ → List ℕ → Type 0
NoneBeyond n xs = (t : ℕ) → n ≤ t → get_or xs t 0 ≡ 0

pub none_beyond : (n : ℕ) (xs : List ℕ) (x : ℕ) → NoneBeyond n xs → NoneBeyond (n + 1) (slice_set xs n x)
none_beyond n xs x none t l = get_or-set_other xs n t x 0 (λ e. absurd (omega arith)) ∙ none t (omega arith)

-- where all counts are 0
zeros_at : (n t : ℕ) → get_or (replicate {A = ℕ} n 0) t 0 ≡ 0
zeros_at zero t = refl
zeros_at (suc n) zero = refl
zeros_at (suc n) (suc t) = zeros_at n t

pub none_yet : (n : ℕ) → NoneBeyond 0 (replicate n 0)
none_yet n t l = zeros_at n t

module _ {S : Type 0} {facts : S → Facts} (fits : AreOf facts) where
  pub places_none : (t : ℕ) (a : S) → LoadsTell facts (λ j. 0) a a (PlacesBelow t 0 0)
  places_none t a = told_none fits a (λ k s. sym (sum_zero_below _))

  pub places_next : {a b c : S} (t n x x' : ℕ) (q : LocalParts) → (facts a).stands.role ≡ Collecting
      → LoadsTell facts (λ j. n) a b (PlacesBelow t n x)
      → Took facts b c [] anything (λ j k. ShowsLocal t n q k × keeps j k) → x' ≡ x + local_bit q
      → LoadsTell facts (λ j. n + 1) a c (PlacesBelow t (n + 1) x')
  places_next t n x x' q collects told took is = told_turn fits collects told took (λ k can h. tt)
      (λ k k' shown. ap (λ (g : Holdings). g.moving) shown.1) (λ k k' s same last was shown.
      let before : x ≡ at_places n ((state_of k').locals t) =
      was ∙ ap (λ (f : ℕ → ℕ → Option ℕ). at_places n (f t)) (sym same.locals) in
      let here = place_says ((state_of k').locals t n) q shown.0 in
      let more = sum_more n (λ p. bit (is_some ((state_of k').locals t p))) in omega arith)

  pub places_all : {a b : S} (t n x : ℕ) → n ≡ (facts a).stands.config.locals
      → LoadsTell facts (λ j. n) a b (PlacesBelow t n x)
      → LoadsTell facts (λ j. j.config.locals) a b (λ k. x ≡ at_places k.config.locals ((state_of k).locals t))
  places_all {a} {b} t n x end p = told_so fits (λ j. j.config.locals) (λ k s. let e = end
      ∙ sym (ap (λ (z : Config). z.locals) (fits a k s).config) in omega arith)
      (λ k s was. was ∙ ap (λ n. at_places n ((state_of k).locals t)) (end ∙ (sym (ap
      (λ (z : Standing). z.config.locals) p.stands_is) ∙ sym (ap (λ (z : Config). z.locals) (fits b k s).config)))) p

  pub threads_none : (xs : List ℕ) (a : S) → LoadsTell facts (λ j. 0 * j.config.locals) a a (ThreadsBelow 0 xs)
  threads_none xs a = told_so fits (λ j. 0 * j.config.locals) (λ k s. omega arith) (λ k s h. h)
      (told_none fits a {tells = ThreadsBelow 0 xs} (λ k s t l. absurd (omega arith)))

  pub threads_next : {a b c : S} (n x : ℕ) (xs xs' : List ℕ) → (facts a).stands.role ≡ Collecting → n < length xs
      → LoadsTell facts (λ j. n * j.config.locals) a b (ThreadsBelow n xs)
      → LoadsTell facts (λ j. j.config.locals) b c (λ k. x ≡ at_places k.config.locals ((state_of k).locals n))
      → xs' ≡ slice_set xs n x
      → LoadsTell facts (λ j. (n + 1) * j.config.locals) a c (ThreadsBelow (n + 1) xs')
  threads_next {a} {b} {c} n x xs xs' collects wide p q is =
      subst (λ zs. LoadsTell facts (λ j. (n + 1) * j.config.locals) a c (ThreadsBelow (n + 1) zs)) (sym is)
      (told_then fits (λ j. (n + 1) * j.config.locals) collects p q (λ k k' same config. one_thread n k k' config)
      (λ k k' s same config last was now t l. dite (ℕ_discrete t n)
      (λ e. ap (λ m. get_or (slice_set xs n x) m 0) e
      ∙ (get_or-set_same xs n x 0 wide ∙ (now ∙ ap (λ m. at_places k'.config.locals ((state_of k').locals m)) (sym e))))
      (λ ne. get_or-set_other xs n t x 0 (λ e. ne e) ∙ (was t (omega arith)
      ∙ ap (λ (z : ℕ × (ℕ → ℕ → Option ℕ)). at_places z.0 (z.1 t)) (λ j. ((sym config j).locals, sym same.locals j))))))

  pub threads_all : {a b : S} (n : ℕ) (xs : List ℕ) → n ≡ (facts a).stands.config.threads → NoneBeyond n xs
      → LoadsTell facts (λ j. n * j.config.locals) a b (ThreadsBelow n xs)
      → LoadsTell facts (λ j. j.config.threads * j.config.locals) a b (λ k.
      AreLocals k.config.locals (state_of k).locals xs)
  threads_all {a} {b} n xs end none p = told_so fits (λ j. j.config.threads * j.config.locals) (λ k s.
      all_threads n k (end ∙ sym (ap (λ (c : Config). c.threads) (fits a k s).config)))
      (λ k s was t. dite (dec_lt t n)
      (λ l. was t l)
      (λ ne. none t (omega arith) ∙ sym (count_all_false k.config.locals (λ q. is_some ((state_of k).locals t q))
      (λ q l. nobody k s t q (omega arith)))))
      p
    where
      nobody : (k : Known) → (facts b).knows k → (t q : ℕ) → n ≤ t → is_some ((state_of k).locals t q) ≡ false
      nobody k s t q beyond = go ((state_of k).locals t q) refl
        where
          go : (z : Option ℕ) → (state_of k).locals t q ≡ z → is_some ((state_of k).locals t q) ≡ false
          go None e = ap (λ (z : Option ℕ). is_some z) e
          go (Some o) e =
              let row = ((in_room k.config k.last k.seen (fits b k s).legal).locals t q o e).0 in
              let same = ap (λ (c : Config). c.threads) (fits b k s).config
              ∙ ap (λ (z : Standing). z.config.threads) p.stands_is in absurd (omega arith)
