-- The passes of a site's room: they are the room's own, and as many as it has threads.
use Rattle.std.proofs.Common.{◌≡◌, ◌⊎◌, inl, inr, ⊎_elim, ◌≤◌, ◌++◌, ◌∷◌, [], ◌↔◌, ℕ, zero, suc}
use Rattle.std.proofs.Common.{Option, slice_index_or, Result, Ok, Err, Bool, true, false, List}
use Rattle.std.proofs.Common.{length, length-append, map, subst, ◌<◌, sym, ap, ◌∙◌, refl, arith}
use Rattle.std.proofs.lemmas.List.{length-map}
use Rattle.std.proofs.lemmas.List.Elements.{All-from_recursion, All-head, All-tail}
use Rattle.std.specs.List.{All, AllByRecursion, AllZip, remove}
use mathlib.Core.Logic.{dite}
use native.Mathlib.Decide.{ℕ_discrete}
use Rattle.atomic_table.specs.Seated.{TableId}
use Rattle.jr_model.specs.declared.event.Role.TheVariants.{Outside}
use Rattle.jr_steps.specs.declared.known.Known.{Known}
use Rattle.jr_threads.specs.declared.native.Ended.{Ended}
use Rattle.jr_word.specs.declared.config.Config.{Config}
use Rattle.jr_word.specs.declared.fault.Fault.{Fault}
use Rattle.jr_word.specs.declared.fault.Fault.TheVariants.{Size}
use Rattle.jr_word.specs.Config.{in_limits}
use Rattle.jr_word.proofs.Limits.{limited}
use Rattle.jr_rule.specs.declared.pass.Pass.{Pass}
use Rattle.jr_rule.specs.declared.room.Room.{Room}
use Rattle.jr_rule.specs.declared.row.Row.{Row}
use Rattle.jr_rule.specs.Passes.{known_of, numbers_below, AreOpened, HasEachPass, HasPass, IsAt}
use Rattle.jr_rule.specs.Sites.{IsPassOf}
use Rattle.jr_env.specs.Deeds.{Deed}
use Rattle.jr_threads.specs.Sites.{passes_in, ThreadsRan, IsBack, IsSiteRoom}

-- a pass that came back from the room's site is one of the room's own, and outside
pub is_back : {site : Option TableId} {sizes : Config} (room : Room 4294967295) (p q : Pass)
    → IsSiteRoom site sizes room → IsPassOf site sizes 4294967295 (known_of p).thread q → q.role ≡ Outside
    → IsBack room.row p q
is_back room p q at h out = record {
  at = record {
    row = (let e = h.room_is ∙ sym at.table_is in cc);
    config = h.sizes_are ∙ sym at.sizes_are;
    last = h.last_is ∙ sym room.last;
  };
  thread = h.own;
  outside = out;
}

-- the passes came back, each at its place
abbrev pub AreBack : Row → List Pass → List Pass → Type 0
AreBack r ps qs = AllZip (IsBack r) ps qs

-- where threads have run, their passes came back
pub backs_of : {A : Type 0} (tells : A → Bool) (deed : ℕ → Deed A) (r : Row) (ps : List Pass) (es : List (Ended A))
    → ThreadsRan tells deed r ps es → AreBack r ps (passes_in es)
backs_of tells deed r [] [] ran = tt
backs_of tells deed r [] (e ∷ es) ran = absurd ran
backs_of tells deed r (p ∷ ps) [] ran = absurd ran
backs_of tells deed r (p ∷ ps) (e ∷ es) ran = ((ran.0).back, backs_of tells deed r ps es ran.1)

module _ (r : Row) (ps : List Pass) (q : Pass) (others : List Pass) (back : AreBack r ps (q ∷ others)) where
  backs : (ps qs : List Pass) → AreBack r ps qs
      → AllByRecursion (IsAt r) qs × AllByRecursion (λ (z : Pass). z.role ≡ Outside) qs
      × (map (λ (k : Known). k.thread) (map known_of qs) ≡ map (λ (z : Pass). z.thread) ps)
  backs [] [] b = (tt, tt, refl)
  backs [] (y ∷ ys) b = absurd b
  backs (x ∷ xs) [] b = absurd b
  backs (x ∷ xs) (y ∷ ys) b =
      let rest = backs xs ys b.1 in
      (((b.0).at, rest.0), ((b.0).outside, rest.1), λ i. ((b.0).thread ∙ x.held.thread_is) i ∷ rest.2 i)

  all_at : All (IsAt r) (q ∷ others)
  all_at = All-from_recursion (IsAt r) (q ∷ others) (backs ps (q ∷ others) back).0

  pub first_at : IsAt r q
  first_at = All-head (IsAt r) q others all_at

  pub others_at : All (IsAt r) others
  others_at = All-tail (IsAt r) q others all_at

  pub each_out : AllByRecursion (λ (z : Pass). z.role ≡ Outside) (q ∷ others)
  each_out = (backs ps (q ∷ others) back).1

  pub threads_back : map (λ (k : Known). k.thread) (map known_of (q ∷ others)) ≡ map (λ (z : Pass). z.thread) ps
  threads_back = (backs ps (q ∷ others) back).2

-- one of these numbers
abbrev HasNumber : List ℕ → ℕ → Type 0
HasNumber [] t = ⊥
HasNumber (n ∷ ns) t = (n ≡ t) ⊎ HasNumber ns t

has_front : (xs ys : List ℕ) (t : ℕ) → HasNumber xs t → HasNumber (xs ++ ys) t
has_front [] ys t h = absurd h
has_front (x ∷ xs) ys t h = ⊎_elim (λ (e : x ≡ t). inl e) (λ (o : HasNumber xs t). inr (has_front xs ys t o)) h

has_last : (xs : List ℕ) (t : ℕ) → HasNumber (xs ++ t ∷ []) t
has_last [] t = inl refl
has_last (x ∷ xs) t = inr (has_last xs t)

has_below : (n t : ℕ) → t < n → HasNumber (numbers_below n) t
has_below zero t l = absurd (omega arith)
has_below (suc n) t l = dite (ℕ_discrete n t)
    (λ e. subst (λ z. HasNumber (numbers_below n ++ n ∷ []) z) e (has_last (numbers_below n) n))
    (λ ne. has_front (numbers_below n) (n ∷ []) t (has_below n t (omega arith)))

has_pass : (ns : List ℕ) (ks : List Known) (t : ℕ) → map (λ (k : Known). k.thread) ks ≡ ns → HasNumber ns t
    → HasPass ks t
has_pass [] ks t e h = absurd h
has_pass (n ∷ ns) [] t e h = absurd cc
has_pass (n ∷ ns) (k ∷ ks) t e h =
    let first : k.thread ≡ n = (cc) in
    let rest : map (λ (z : Known). z.thread) ks ≡ ns = (cc) in
    ⊎_elim (λ (s : n ≡ t). inl (first ∙ s)) (λ (o : HasNumber ns t). inr (has_pass ns ks t rest o)) h

-- each thread has its pass among those that came back
pub each_has : (r : Row) (ps : List Pass) (q : Pass) (others : List Pass) → AreOpened r.config r.last r ps
    → AreBack r ps (q ∷ others) → HasEachPass r.config (map known_of (q ∷ others))
each_has r ps q others o back t l = has_pass (numbers_below r.config.threads) (map known_of (q ∷ others)) t
    (threads_back r ps q others back ∙ o.threads) (has_below r.config.threads t l)

pub opened_so : {c : Config} {last : ℕ} {r : Row} {ps : List Pass} → AreOpened c last r ps
    → AreOpened r.config r.last r ps
opened_so o = record {
  same_config = refl;
  same_last = refl;
  threads = o.threads ∙ ap (λ (d : Config). numbers_below d.threads) (sym o.same_config);
  each = o.each;
}

-- a list of which the first was removed
pub taken : {A : Type 0} (xs ys : List A) (x : A) → 0 < length xs → x ≡ slice_index_or xs 0 x → ys ≡ remove xs 0
    → xs ≡ x ∷ ys
taken [] ys x some is rest = absurd (omega arith)
taken (z ∷ zs) ys x some is rest = λ i. sym is i ∷ sym rest i

pub some_left : {A : Type 0} (ps : List Pass) (es : List (Ended A)) (ls : List Pass) → ls ≡ passes_in es
    → length es ≡ length ps → 1 ≤ length ps → 0 < length ls
some_left ps es ls is same some = let long = ap (λ (l : List Pass). length l) is ∙ length-map es (λ e. e.pass) in
    omega arith

pub numbers_long : (n : ℕ) → length (numbers_below n) ≡ n
numbers_long zero = refl
numbers_long (suc n) = let e = length-append (numbers_below n) (n ∷ []) in let f = numbers_long n in omega arith

-- one pass a thread
pub passes_long : (c : Config) (last : ℕ) (r : Row) (ps : List Pass) → AreOpened c last r ps → length ps ≡ c.threads
passes_long c last r ps o =
    sym (length-map ps (λ (p : Pass). p.thread)) ∙ (ap (λ (ns : List ℕ). length ns) o.threads ∙ numbers_long c.threads)

-- a room that was opened has a thread
pub some_thread : {A : Type 0} (c : Config) (a : A)
    → (◌≡◌ {A = Result A Fault} (Ok a) (Err Size)) ↔ (in_limits c ≡ false) → 1 ≤ c.threads
some_thread c a size = go (in_limits c) refl where
  go : (b : Bool) → in_limits c ≡ b → 1 ≤ c.threads
  go true e = (limited c e).threads.0
  go false e = absurd (let z = size.1 e in cc)
