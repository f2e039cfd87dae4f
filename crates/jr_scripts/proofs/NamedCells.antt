-- The names of a board, as commands are gone through.
use Rattle.std.proofs.Common.{◌≡◌, ◌⊎◌, ◌<◌, ◌+◌, ◌++◌, ℕ, zero, suc, Bool, true, false}
use Rattle.std.proofs.Common.{cond, List, [], ◌∷◌, Option, Some, None, take, get_or, length}
use Rattle.std.proofs.Common.{inl, inr, refl, sym, ap, subst, ◌∙◌, arith, append_assoc}
use Rattle.std.specs.Prelude.{IsSome}
use Rattle.std.specs.FinMap.{slice_cmp-IsAntisymmetric, nat_cmp-IsAntisymmetric}
use Rattle.std.specs.declared.cmp.Ordering.{Ordering}
use Rattle.std.specs.declared.cmp.Ordering.TheVariants.{Less, Equal, Greater}
use Rattle.std.specs.Ordering.{is_eq}
use Rattle.std.specs.BTreeMap.{is_at}
use Rattle.std.proofs.lemmas.List.{append-nil, take_more}
use Rattle.std.proofs.lemmas.List.Elements.{Contains-append_left, Contains-append_right}
use Rattle.jr_syntax.specs.declared.command.Command.{Command}
use Rattle.jr_syntax.specs.declared.command.Command.TheVariants as commands
use Rattle.jr_syntax.specs.declared.verb.OnName.TheVariants as on_name
use Rattle.jr_syntax.specs.declared.thread.ThreadPart.{ThreadPart}
use Rattle.jr_scripts.specs.Names.{name_order}
use Rattle.jr_scripts.specs.declared.sighting.Sighting.{Sighting}
use Rattle.jr_scripts.specs.declared.sighting.Posted.{Posted}
use Rattle.jr_scripts.specs.Layouts.{cell_number}
use Rattle.jr_scripts.specs.NotedWords.{posted_by_number, posted_noted}
use Rattle.jr_scripts.specs.PostedNames.{AddsPosted, IsOfPosts, IsPosted, commands_of}

same_at : (n m : List ℕ) (o : Ordering) → name_order n m ≡ o → is_eq o ≡ true → n ≡ m
same_at n m Less tie is = absurd cc
same_at n m Equal tie is = slice_cmp-IsAntisymmetric nat_cmp-IsAntisymmetric n m tie
same_at n m Greater tie is = absurd cc

-- no command
pub adds_none : (cs : List Command) (numbers : List (List ℕ × ℕ)) → AddsPosted cs numbers numbers
adds_none cs numbers n some = inl some

-- one command, which posts a name
pub adds_one : (c : Command) (name : List ℕ) (number : ℕ) (old new : List (List ℕ × ℕ))
    → c ≡ commands.OnName on_name.Post name
    → ((m : List ℕ) → cell_number new m ≡ cond (is_at (name_order name) m) (Some number) (cell_number old m))
    → AddsPosted (c ∷ []) old new
adds_one c name number old new posts differ m has = at (is_eq (name_order name m)) refl
  where
    at : (b : Bool) → is_eq (name_order name m) ≡ b → IsSome (cell_number old m) ⊎ IsPosted (c ∷ []) m
    at true tie =
        let same : name ≡ m = same_at name m (name_order name m) refl tie in
        inr (subst (IsPosted (c ∷ [])) same (0, omega arith, posts))
    at false tie = inl (subst IsSome (differ m ∙ ap (λ b. cond b (Some number) (cell_number old m)) tie) has)

-- some commands and then others
pub adds_then : (cs ds : List Command) (old mid new : List (List ℕ × ℕ)) → AddsPosted cs old mid → AddsPosted ds mid new
    → AddsPosted (cs ++ ds) old new
adds_then cs ds old mid new first second n has = both (second n has)
  where
    post : Command
    post = commands.OnName on_name.Post n

    before : IsSome (cell_number old n) ⊎ IsPosted cs n → IsSome (cell_number old n) ⊎ IsPosted (cs ++ ds) n
    before (inl x) = inl x
    before (inr x) = inr (Contains-append_left cs ds post x)

    both : IsSome (cell_number mid n) ⊎ IsPosted ds n → IsSome (cell_number old n) ⊎ IsPosted (cs ++ ds) n
    both (inl x) = before (first n x)
    both (inr x) = inr (Contains-append_right cs ds post x)

-- one command more
pub adds_more : (cs : List Command) (i : ℕ) (c : Command) (old mid new : List (List ℕ × ℕ)) → i < length cs
    → c ≡ get_or cs i c → AddsPosted (take i cs) old mid → AddsPosted (c ∷ []) mid new
    → AddsPosted (take (i + 1) cs) old new
adds_more cs i c old mid new some is first second =
    let next : take (i + 1) cs ≡ take i cs ++ c ∷ [] = take_more cs i c some ∙ ap (λ x. take i cs ++ x ∷ []) (sym is) in
    subst (λ l. AddsPosted l old new) (sym next) (adds_then (take i cs) (c ∷ []) old mid new first second)

-- the commands of one part more
all_commands : (ps : List ThreadPart) (i : ℕ) (p : ThreadPart) → i < length ps → p ≡ get_or ps i p
    → commands_of (take (i + 1) ps) ≡ commands_of (take i ps) ++ p.commands
all_commands [] i p some is = absurd (omega arith)
all_commands (q ∷ qs) zero p some is = append-nil q.commands ∙ ap (λ (z : ThreadPart). z.commands) (sym is)
all_commands (q ∷ qs) (suc i) p some is =
    let next : suc i + 1 ≡ suc (i + 1) = omega arith in
    ap (λ n. commands_of (take n (q ∷ qs))) next ∙ (ap (λ l. q.commands ++ l) (all_commands qs i p (omega arith) is)
    ∙ sym (append_assoc q.commands (commands_of (take i qs)) p.commands))

pub adds_part : (ps : List ThreadPart) (i : ℕ) (p : ThreadPart) (old mid new : List (List ℕ × ℕ)) → i < length ps
    → p ≡ get_or ps i p → AddsPosted (commands_of (take i ps)) old mid → AddsPosted p.commands mid new
    → AddsPosted (commands_of (take (i + 1) ps)) old new
adds_part ps i p old mid new some is first second = subst (λ l. AddsPosted l old new)
    (sym (all_commands ps i p some is)) (adds_then (commands_of (take i ps)) p.commands old mid new first second)

-- a name under which something is noted has a number
pub noted_numbered : {T A : Type 0} (numbers numbers' : List (List ℕ × ℕ)) (notes : List (Option (Sighting T)))
    (entry : Option (Posted T) → Option A) → entry None ≡ None → numbers ≡ numbers' → (n : List ℕ) (x : A)
    → entry (posted_noted numbers notes n) ≡ Some x → IsSome (cell_number numbers' n)
noted_numbered {A = A} numbers numbers' notes entry none same n x is =
    subst (λ z. IsSome (cell_number z n)) same (numbered (cell_number numbers n) is)
  where
    numbered : (number : Option ℕ) → entry (posted_by_number notes number) ≡ Some x → IsSome number
    numbered None e = let bad = sym none ∙ e in absurd cc
    numbered (Some i) e = refl

-- a board that began without names
pub of_posts : {A : Type 0} (cs : List Command) (numbers : List (List ℕ × ℕ)) (board : List ℕ → Option A)
    → AddsPosted cs [] numbers → ((n : List ℕ) (x : A) → board n ≡ Some x → IsSome (cell_number numbers n))
    → IsOfPosts cs board
of_posts cs numbers board adds named n x is = new (adds n (named n x is))
  where
    new : IsSome (cell_number [] n) ⊎ IsPosted cs n → IsPosted cs n
    new (inl y) = absurd cc
    new (inr y) = y
