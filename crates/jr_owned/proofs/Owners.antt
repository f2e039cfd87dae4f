-- The owners of a room that was opened, one for each pass and as it, and the envs over their steps.
use Rattle.std.proofs.Common.{◌≡◌, ◌++◌, ◌∷◌, [], ℕ, zero, suc, List, append_assoc, arith, length, map, subst}
use Rattle.std.proofs.Common.{◌<◌, ◌≤◌, sym, ap, ◌∙◌, refl}
use Rattle.std.specs.Arc.{arc_value}
use Rattle.std.specs.List.{All, AllZip}
use Rattle.std.proofs.lemmas.List.Elements.{All-append, All-cons, All-nil, All-head, All-tail}
use Rattle.std.proofs.lemmas.List.{length-append, length-map}
use mathlib.Core.List.{map-append}
use Rattle.jr_word.specs.declared.config.Config.{Config}
use Rattle.jr_rule.specs.declared.cells.Cells.{Ghosts}
use Rattle.jr_rule.specs.declared.over.StepsOver.{StepsOver}
use Rattle.jr_rule.specs.declared.pass.Pass.{Pass}
use Rattle.jr_rule.specs.declared.room.Room.{Room}
use Rattle.jr_rule.specs.declared.row.Row.{Row}
use Rattle.jr_rule.specs.Passes.{Holder, holder_of, numbers_below, IsOpened, AreOpened}
use Rattle.jr_rule.specs.Rule.{known, stepping_pass}
use Rattle.jr_steps.specs.Holdings.{empty}
use Rattle.jr_steps.specs.declared.steps.Steps.{Ghosts as StepsGhosts}
use Rattle.jr_env.specs.declared.env.Env.{Env}
use Rattle.jr_rule.specs.declared.owned_cells.OwnedCells.{OwnedCells}
use Rattle.jr_owned.specs.Owners.{owner_of, AreOfRoom, IsEnvOver, IsOwnerOpened, AreOwnersOpened}
use Rattle.jr_owned.specs.Started.{AreStarted}

module _ {P : Type 0} {G : Ghosts (OwnedCells 4294967295) P} where
  -- one more owner
  pub owner_more : (r : Room 4294967295) (ss ts : List (StepsOver (OwnedCells 4294967295) P G))
      (s : StepsOver (OwnedCells 4294967295) P G) → ts ≡ ss ++ s ∷ [] → AreOfRoom r ss → arc_value s.cells.room ≡ r
      → AreOfRoom r ts
  owner_more r ss ts s is were more =
      let own = λ (z : StepsOver (OwnedCells 4294967295) P G). arc_value z.cells.room ≡ r in
      subst (AreOfRoom r) (sym is) (All-append own ss (s ∷ []) were (All-cons own s [] more (All-nil own)))

  pub holder_more : (ss ts : List (StepsOver (OwnedCells 4294967295) P G)) (s : StepsOver (OwnedCells 4294967295) P G)
      (ps : List Pass) (p : Pass) → ts ≡ ss ++ s ∷ [] → map owner_of ss ≡ map holder_of ps → owner_of s ≡ holder_of p
      → map owner_of ts ≡ map holder_of (ps ++ p ∷ [])
  holder_more ss ts s ps p is were more = ap (map owner_of) is
      ∙ (map-append owner_of ss (s ∷ []) ∙ ((λ i. were i ++ more i ∷ []) ∙ sym (map-append holder_of ps (p ∷ []))))

  -- an owner is as its pass was opened
  opened_owner : (r : Room 4294967295) (s : StepsOver (OwnedCells 4294967295) P G) (p : Pass) → owner_of s ≡ holder_of p
      → arc_value s.cells.room ≡ r → IsOpened r.row p → IsOwnerOpened r s
  opened_owner r s p is own o = record {
    room = own;
    knows = ap (λ (h : Holder). stepping_pass h.seat.me) is
        ∙ (o.knows ∙ ap (λ (h : Holder). known r.row.config r.row.last h.thread [] empty 0) (sym is));
    role = ap (λ (h : Holder). h.role) is ∙ o.role;
    fresh = ap (λ (h : Holder). h.fresh) is ∙ o.fresh;
    hint = ap (λ (h : Holder). h.hint) is ∙ o.hint;
  }

  opened_each : (r : Room 4294967295) (ss : List (StepsOver (OwnedCells 4294967295) P G)) (ps : List Pass)
      → map owner_of ss ≡ map holder_of ps → AreOfRoom r ss → All (λ p. IsOpened r.row p) ps → All (IsOwnerOpened r) ss
  opened_each r [] ps is own o = All-nil (IsOwnerOpened r)
  opened_each r (s ∷ ss) [] is own o = absurd cc
  opened_each r (s ∷ ss) (p ∷ ps) is own o =
      let first : owner_of s ≡ holder_of p = cc in
      let rest : map owner_of ss ≡ map holder_of ps = cc in
      let owns = λ (z : StepsOver (OwnedCells 4294967295) P G). arc_value z.cells.room ≡ r in
      let opens = λ (z : Pass). IsOpened r.row z in
      All-cons (IsOwnerOpened r) s ss (opened_owner r s p first (All-head owns s ss own) (All-head opens p ps o))
      (opened_each r ss ps rest (All-tail owns s ss own) (All-tail opens p ps o))

  threads_of : (ss : List (StepsOver (OwnedCells 4294967295) P G)) (ps : List Pass) → map owner_of ss ≡ map holder_of ps
      → map (λ (s : StepsOver (OwnedCells 4294967295) P G). s.cells.cells.thread) ss ≡ map (λ (p : Pass). p.thread) ps
  threads_of [] [] is = refl
  threads_of [] (p ∷ ps) is = absurd cc
  threads_of (s ∷ ss) [] is = absurd cc
  threads_of (s ∷ ss) (p ∷ ps) is =
      let first : owner_of s ≡ holder_of p = cc in
      let rest : map owner_of ss ≡ map holder_of ps = cc in
      λ i. (first i).thread ∷ threads_of ss ps rest i

  -- the owners are opened as the passes were
  pub owners_opened : (c : Config) (r : Room 4294967295) (ss : List (StepsOver (OwnedCells 4294967295) P G))
      (ps : List Pass) → AreOpened c 4294967295 r.row ps → AreOfRoom r ss → map owner_of ss ≡ map holder_of ps
      → AreOwnersOpened c ss
  owners_opened c r ss ps o own is = record {
    room = r;
    sizes = o.same_config;
    threads = threads_of ss ps is ∙ o.threads;
    each = opened_each r ss ps is own o.each;
  }

-- one more of two lists, place by place
zip_more : {A B : Type 0} (R : A → B → Type 0) (xs : List A) (ys : List B) (x : A) (y : B) → AllZip R xs ys → R x y
    → AllZip R (xs ++ x ∷ []) (ys ++ y ∷ [])
zip_more R [] [] x y was more = (more, tt)
zip_more R [] (z ∷ zs) x y was more = absurd was
zip_more R (z ∷ zs) [] x y was more = absurd was
zip_more R (v ∷ vs) (w ∷ ws) x y was more = (was.0, zip_more R vs ws x y was.1 more)

pub env_more : {S : Type 0} {G : StepsGhosts S} (ss : List S) (es ts : List (Env S G)) (s : S) (e : Env S G)
    → ts ≡ es ++ e ∷ [] → AllZip IsEnvOver ss es → IsEnvOver s e → AllZip IsEnvOver (ss ++ s ∷ []) ts
env_more ss es ts s e is was more =
    subst (AllZip IsEnvOver (ss ++ s ∷ [])) (sym is) (zip_more IsEnvOver ss es s e was more)

numbers_long : (n : ℕ) → length (numbers_below n) ≡ n
numbers_long zero = refl
numbers_long (suc n) = let e = length-append (numbers_below n) (n ∷ []) in let f = numbers_long n in omega arith

-- one pass a thread
pub passes_long : (c : Config) (last : ℕ) (r : Row) (ps : List Pass) → AreOpened c last r ps → length ps ≡ c.threads
passes_long c last r ps o =
    sym (length-map ps (λ (p : Pass). p.thread)) ∙ (ap (λ (ns : List ℕ). length ns) o.threads ∙ numbers_long c.threads)

-- threads of these passes were started
pub are_started : (c : Config) (r : Row) (ps qs : List Pass) → AreOpened c 4294967295 r ps → qs ≡ ps → AreStarted c qs
are_started c r ps qs o same = record { row = r; opened = subst (AreOpened c 4294967295 r) (sym same) o }

-- of a list that is shown in order one more is shown
pub one_more : {A X : Type 0} (f : A → X) (xs ys : List A) (y : A) (x : X) (rest left all : List X) → ys ≡ xs ++ y ∷ []
    → f y ≡ x → rest ≡ x ∷ left → map f xs ++ rest ≡ all → map f ys ++ left ≡ all
one_more f xs ys y x rest left all is shows more was =
    ap (λ zs. map f zs ++ left) is
    ∙ (ap (λ zs. zs ++ left) (map-append f xs (y ∷ []) ∙ (λ i. map f xs ++ shows i ∷ []))
    ∙ (append_assoc (map f xs) (x ∷ []) left ∙ (ap (λ zs. map f xs ++ zs) (sym more) ∙ was)))

-- of a list that is not shown whole fewer are shown than it has
pub fewer : {A X : Type 0} (f : A → X) (xs : List A) (x : X) (rest left all : List X) (n : ℕ) → rest ≡ x ∷ left
    → map f xs ++ rest ≡ all → length all ≤ n → length xs < n
fewer f xs x rest left all n more was most =
    let both = ap (λ zs. length zs) was in let parts = length-append (map f xs) rest in
    let shown = length-map xs f in let some = ap (λ zs. length zs) more in omega arith
