-- How often commands give up references, what fresh frames have given, and what a thread does.
use Rattle.std.proofs.Common.{◌≡◌, ◌+◌, ◌==◌, ℕ, zero, suc, Bool, true, false, cond, List, [], ◌∷◌, ◌++◌, length}
use Rattle.std.proofs.Common.{replicate, slice_index, refl, ap, ◌∙◌, arith}
use Rattle.std.specs.List.{filter}
use Rattle.jr_model.specs.History.{History, mine}
use Rattle.jr_world.specs.World.{how_many}
use Rattle.jr_world.specs.Schedules.{pairs}
use Rattle.one_order.specs.Orders.{done_by}
use Rattle.jr_syntax.specs.declared.command.Command.{Command}
use Rattle.jr_scripts.specs.Commands.{gives_up}
use Rattle.jr_scripts.proofs.TogetherRun.Moments.{times}

pub how_many_both : {A : Type 0} (p : A → Bool) (xs ys : List A) → how_many p (xs ++ ys) ≡ how_many p xs + how_many p ys
how_many_both p [] ys = omega arith
how_many_both p (x ∷ xs) ys = go (p x) (how_many_both p xs ys)
  where
    go : (b : Bool) → how_many p (xs ++ ys) ≡ how_many p xs + how_many p ys
        → length (cond b (x ∷ filter p (xs ++ ys)) (filter p (xs ++ ys)))
        ≡ length (cond b (x ∷ filter p xs) (filter p xs)) + how_many p ys
    go true rest = omega (arith, rest)
    go false rest = rest

-- one command more gives up references so often more
pub given_up_more : (xs : List Command) (x : Command)
    → how_many gives_up (xs ++ x ∷ []) ≡ how_many gives_up xs + times (gives_up x)
given_up_more xs x = how_many_both gives_up xs (x ∷ []) ∙ ap (λ n. how_many gives_up xs + n) (go (gives_up x))
  where
    go : (b : Bool) → length (cond b (x ∷ []) []) ≡ times b
    go true = refl
    go false = refl

-- fresh frames have given nothing
pub none_given : (n p : ℕ) → slice_index (replicate n 0) p ≡ 0
none_given zero p = refl
none_given (suc n) zero = refl
none_given (suc n) (suc p) = none_given n p

-- what a thread does of a history's acts
pub done_pairs : (es : History) (t : ℕ) → done_by (pairs es) t ≡ mine es t
done_pairs [] t = refl
done_pairs (e ∷ es) t = ap (λ l. cond (e.thread == t) (e.act ∷ l) l) (done_pairs es t)
