-- ELEMENTS are read and written as alone.
use Rattle.std.proofs.Common.{◌≡◌, ◌+◌, ℕ, zero, suc, false, true, Bool, cond, Option, Some, None, Ok, Err, List, []}
use Rattle.std.proofs.Common.{◌∷◌, map, slice_index, slice_set, refl, sym, ap, subst, ◌∙◌, inl, inr, arith}
use Rattle.std.proofs.lemmas.List.{get_or-set_same, map-set}
use Rattle.std.specs.List.{AllByRecursion}
use Rattle.jr_word.specs.declared.config.Config.{Config}
use Rattle.jr_word.specs.declared.fault.Fault.TheVariants.{Memory}
use Rattle.jr_model.specs.State.{Contents}
use Rattle.jr_model.specs.Checks.{is_objects}
use Rattle.jr_world.specs.World.{contents, contents_in, element_to, overwritten, rewrites, standing_at}
use Rattle.jr_world.specs.Doing.{Noted, Shared, as_seen, atom, copied_in_steps, element_read, read_in_steps, run_alone}
use Rattle.jr_world.specs.Doing.{unless_refused, written_in_steps}
use Rattle.jr_scripts.proofs.Apart.Goes.{Goes, bind_at, ended_goes, goes_bind, look_goes}
use Rattle.jr_scripts.proofs.Apart.Grown.{still_leaps}
use Rattle.jr_scripts.proofs.Apart.Leads.{LeadsTo, Outcome}
use Rattle.jr_scripts.proofs.Apart.Mirrors.{Asks, IsAlone, elements_within}
use Rattle.jr_scripts.proofs.Apart.Numbers.{ElementFor, Extends, HasElement, KnownFor, Numbers, ObjectFor, contents_as}
use Rattle.jr_scripts.proofs.Apart.Numbers.{element_of, known_later, object_as, object_later, same}
use Rattle.jr_scripts.proofs.Apart.Writes.{OfObjects, contents_are, elements_in, rewrite_goes}

-- an element that is read
element_at : (k : Numbers) (words : List ℕ) (i : ℕ) → AllByRecursion (HasElement k) words
    → (slice_index (map (element_of k) words) i
    ≡ element_of k (slice_index words i)) × HasElement k (slice_index words i)
element_at k [] i all = (refl, omega arith)
element_at k (w ∷ ws) zero all = (refl, all.0)
element_at k (w ∷ ws) (suc i) all = element_at k ws i all.1

-- .. and written
all_set : {X : Type 0} (P : X → Type 0) (xs : List X) (i : ℕ) (x : X) → AllByRecursion P xs → P x
    → AllByRecursion P (slice_set xs i x)
all_set P [] i x all new = tt
all_set P (y ∷ ys) zero x all new = (new, all.1)
all_set P (y ∷ ys) (suc i) x all new = (all.0, all_set P ys i x all.1 new)

pub element_to_for : (k : Numbers) (x y : Option ℕ) → KnownFor k x y → ElementFor k (element_to x) (element_to y)
element_to_for k x None is = (ap element_to is.0, omega arith)
element_to_for k x (Some o) is = let has = is.1 in (ap element_to is.0, omega arith)

-- of what kind the object is, and its words, of numbers or of objects
words_are : (k : Numbers) (b : Bool) (x : Option Contents) → is_objects (contents_in x).kind ≡ b
    → (contents_in (object_as k x)).words ≡ contents_as k b (contents_in x).words
words_are k b x is = ap (λ y. y.words) (contents_are k x) ∙ ap (λ d. contents_as k d (contents_in x).words) is

module _ {c : Config} {t : ℕ} where
  -- what stands at an index, of whichever elements
  at_goes : {k : Numbers} (b : Bool) (Q : Numbers → ℕ → ℕ → Type 0)
      → ((j : Numbers) (ws : List ℕ) (i : ℕ) → elements_within j b ws
      → Q j (slice_index (contents_as j b ws) i) (slice_index ws i)) → (o u i : ℕ) → ObjectFor k o u
      → Goes c t (OfObjects b u) Q k (element_read o i) (element_read u i)
  at_goes b Q so o u i for = look_goes (λ w. Ok (slice_index (contents w o).words i))
      (λ w. Ok (slice_index (contents w u).words i)) (λ j s z more m at. let it = object_later more o u for in
      subst (λ x. Q j x (slice_index (contents_in (standing_at z.objects u)).words i))
      (sym (ap (λ p. slice_index (contents_in (standing_at s.objects p)).words i) it.0
      ∙ (ap (λ x. slice_index (contents_in x).words i) (m.objects u it.1)
      ∙ ap (λ ws. slice_index ws i) (words_are j b (standing_at z.objects u) at))))
      (so j (contents_in (standing_at z.objects u)).words i
      (subst (λ d. elements_within j d (contents_in (standing_at z.objects u)).words) at
      (elements_in j (standing_at z.objects u) (m.alone.have_elements u)))))

  pub element_goes : {k : Numbers} (o u i : ℕ) → ObjectFor k o u
      → Goes c t (OfObjects false u) same k (element_read o i) (element_read u i)
  element_goes o u i for = at_goes false same (λ j ws i all. refl) o u i for

  pub found_goes : {k : Numbers} (o u i : ℕ) → ObjectFor k o u
      → Goes c t (OfObjects true u) ElementFor k (element_read o i) (element_read u i)
  found_goes o u i for = at_goes true ElementFor element_at o u i for

  -- what is only looked at keeps its kind
  pub read_goes : {k : Numbers} (o u i n : ℕ) → ObjectFor k o u
      → Goes c t (OfObjects false u) same k (read_in_steps o i n) (read_in_steps u i n)
  read_goes o u i zero for = ended_goes (Ok []) (Ok []) (λ j more. refl)
  read_goes o u i (suc n) for = bind_at (element_goes o u i for) (λ j more z alone at. at)
      (λ j more x y is. goes_bind (read_goes o u (i + 1) n (object_later more o u for))
      (λ l later vs ws so. ended_goes (Ok (x ∷ vs)) (Ok (y ∷ ws)) (λ h on e. is e ∷ so e)))

  pub rewritten_goes : {k : Numbers} (o u i v : ℕ) → ObjectFor k o u → Goes c t (OfObjects false u) same k
      (atom (rewrites (overwritten i (v ∷ [])) o)) (atom (rewrites (overwritten i (v ∷ [])) u))
  rewritten_goes o u i v for =
      rewrite_goes o u for false (overwritten i (v ∷ [])) (overwritten i (v ∷ [])) (λ j more ws has. (refl, tt))

  -- .. and so does what is written
  pub written_goes : {k : Numbers} (o u i : ℕ) (vs : List ℕ) → ObjectFor k o u
      → Goes c t (OfObjects false u) same k (written_in_steps o i vs) (written_in_steps u i vs)
  written_goes o u i [] for = ended_goes (Ok tt) (Ok tt) (λ j more. refl)
  written_goes o u i (v ∷ vs) for = bind_at (rewritten_goes o u i v for)
      (λ j more z alone at. let there = (object_later more o u for).1 in let many = alone.as_many_objects in
      ap (λ x. is_objects (contents_in x).kind) (get_or-set_same z.objects u (Some (record {
        kind = (contents (as_seen 0 z) u).kind;
        words = slice_set (contents (as_seen 0 z) u).words i v;
      })) None (omega arith)) ∙ at)
      (λ j more x y is. written_goes o u (i + 1) vs (object_later more o u for))

  pub copied_goes : {k : Numbers} (o u n : ℕ) → ObjectFor k o u
      → Goes c t (OfObjects false u) same k (copied_in_steps o n) (copied_in_steps u n)
  copied_goes o u zero for = ended_goes (Ok []) (Ok []) (λ j more. refl)
  copied_goes {k} o u (suc n) for = record {
    so = λ j more noted q z alone at luck s m fits was.
        (j, q, z, noted, still_leaps m, was, go j more noted q z alone at luck);
  }
    where
      go : (j : Numbers) → Extends k j → (noted : Option Noted) (q : Asks) (z : Shared) → IsAlone j z
          → OfObjects false u z → (luck : Bool) → LeadsTo c t noted
          (Outcome noted same (run_alone 0 true (read_in_steps u 0 (suc n)) z) q)
          (unless_refused (λ (v : Unit {0}). read_in_steps o 0 (suc n)) (cond luck (Ok tt) (Err Memory))) j q z
      go j more noted q z alone at true = (read_goes o u 0 (suc n) for).so j more noted q z alone at
      go j more noted q z alone at false = inr (inl refl)

  pub set_goes : {k : Numbers} (o u i : ℕ) (x y : Option ℕ) → ObjectFor k o u → KnownFor k x y
      → Goes c t (OfObjects true u) same k
      (atom (rewrites (overwritten i (element_to x ∷ [])) o))
      (atom (rewrites (overwritten i (element_to y ∷ [])) u))
  set_goes o u i x y for known = rewrite_goes o u for true (overwritten i (element_to x ∷ []))
      (overwritten i (element_to y ∷ [])) (λ j more ws all.
      let it = element_to_for j x y (known_later more x y known) in (
        ap (slice_set (map (element_of j) ws) i) it.0 ∙ sym (map-set (element_of j) ws i (element_to y)),
        all_set (HasElement j) ws i (element_to y) all it.1,
      ))
