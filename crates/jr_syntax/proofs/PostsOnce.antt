-- Names that are posted once, command by command and part by part.
use Rattle.std.proofs.Common.{◌≡◌, ◌<◌, ◌≤◌, ◌+◌, ◌-◌, ◌++◌, ◌∙◌, ℕ, zero, suc, Bool, true, false, not, ◌&&◌}
use Rattle.std.proofs.Common.{List, [], ◌∷◌, take, drop, get_or, length, refl, sym, ap, arith, append_assoc}
use Rattle.std.specs.Prelude.{◌||◌}
use Rattle.std.specs.List.{list_any, flat_map}
use Rattle.std.specs.Str.{bytes_eq}
use Rattle.std.proofs.lemmas.List.{length-drop, take_all}
use Rattle.std.proofs.lemmas.List.Folds.{list_any-append}
use Rattle.jr_syntax.specs.declared.command.Command.{Command}
use Rattle.jr_syntax.specs.declared.command.Command.TheVariants as commands
use Rattle.jr_syntax.specs.declared.verb.OnName.TheVariants.{Post}
use Rattle.jr_syntax.specs.declared.thread.ThreadPart.{ThreadPart}
use Rattle.jr_syntax.specs.Script.{all_apart, posted, posts_of}
use Rattle.jr_syntax.specs.Faults.{share}
use Rattle.jr_syntax.proofs.PartLaws.{any_flat, or_nothing, posts_each}

-- one name, among those of commands and of parts
shared_one : (n : List ℕ) (c : Command) (behind : List Command) (later : List ThreadPart) → c ≡ commands.OnName Post n
    → share (posted c) (flat_map posted behind ++ posts_of later) ≡ (list_any (λ d. list_any (bytes_eq n) (posted d))
    behind || list_any (λ p. list_any (λ d. list_any (bytes_eq n) (posted d)) p.commands) later)
shared_one n c behind later is =
    ap (λ d. share (posted d) (flat_map posted behind ++ posts_of later)) is
    ∙ (or_nothing (list_any (bytes_eq n) (flat_map posted behind ++ posts_of later)) ∙ (list_any-append (bytes_eq n)
    (flat_map posted behind) (posts_of later) ∙ (λ i. any_flat (bytes_eq n) posted behind i || posts_each n later i)))

module _ (n w : List ℕ) (c : Command) (behind : List Command) (later : List ThreadPart) (a : Bool)
    (is : c ≡ commands.OnName Post n) (name : w ≡ n)
    (any : a ≡ list_any (λ d. list_any (bytes_eq w) (posted d)) behind) where
  own : list_any (λ d. list_any (bytes_eq n) (posted d)) behind ≡ a
  own = sym (any ∙ ap (λ x. list_any (λ d. list_any (bytes_eq x) (posted d)) behind) name)

  pub shared_behind : a ≡ true → a ≡ share (posted c) (flat_map posted behind ++ posts_of later)
  shared_behind some = some ∙ sym (shared_one n c behind later is
      ∙ ap (λ b. b || list_any (λ p. list_any (λ d. list_any (bytes_eq n) (posted d)) p.commands) later) (own ∙ some))

  pub shared_later : (b : Bool) → a ≡ false
      → b ≡ list_any (λ p. list_any (λ d. list_any (bytes_eq w) (posted d)) p.commands) later
      → b ≡ share (posted c) (flat_map posted behind ++ posts_of later)
  shared_later b none other =
      (other ∙ ap (λ x. list_any (λ p. list_any (λ d. list_any (bytes_eq x) (posted d)) p.commands) later) name)
      ∙ sym (shared_one n c behind later is
      ∙ ap (λ z. z || list_any (λ p. list_any (λ d. list_any (bytes_eq n) (posted d)) p.commands) later) (own ∙ none))

apart_one : (c : Command) (rest : List (List ℕ)) → share (posted c) rest ≡ false
    → all_apart (posted c ++ rest) ≡ all_apart rest
apart_one (commands.OnName Post n) rest none =
    ap (λ b. not b && all_apart rest) (sym (or_nothing (list_any (bytes_eq n) rest)) ∙ none)
apart_one _ rest none = refl

twice_one : (c : Command) (rest : List (List ℕ)) → share (posted c) rest ≡ true → all_apart (posted c ++ rest) ≡ false
twice_one (commands.OnName Post n) rest some =
    ap (λ b. not b && all_apart rest) (sym (or_nothing (list_any (bytes_eq n) rest)) ∙ some)
twice_one _ rest some = absurd cc

drop_one : {A : Type 0} (i : ℕ) (xs : List A) (x : A) → i < length xs → get_or xs i x ≡ x
    → drop i xs ≡ x ∷ drop (suc i) xs
drop_one zero [] x some is = absurd (omega arith)
drop_one zero (y ∷ ys) x some is = λ j. is j ∷ ys
drop_one (suc i) [] x some is = absurd (omega arith)
drop_one (suc i) (y ∷ ys) x some is = drop_one i ys x (omega arith) is

drop_all : {A : Type 0} (i : ℕ) (xs : List A) → length xs ≤ i → drop i xs ≡ []
drop_all zero [] all = refl
drop_all zero (x ∷ xs) all = absurd (omega arith)
drop_all (suc i) [] all = refl
drop_all (suc i) (x ∷ xs) all = drop_all i xs (omega arith)

-- what is behind a number
pub all_behind : {A : Type 0} (xs : List A) (j : ℕ) → take (length xs - j) (drop j xs) ≡ drop j xs
all_behind xs j = take_all (length xs - j) (drop j xs) (let long = length-drop j xs in omega arith)

module _ (cs : List Command) (i : ℕ) (later : List ThreadPart) where
  module _ (c : Command) (behind : List Command) (some : i < length cs) (is : get_or cs i c ≡ c)
      (rest : behind ≡ drop (i + 1) cs) (so_far : all_apart (flat_map posted cs ++ posts_of later)
      ≡ all_apart (flat_map posted (drop i cs) ++ posts_of later)) where
    here : all_apart (flat_map posted cs ++ posts_of later)
        ≡ all_apart (posted c ++ (flat_map posted behind ++ posts_of later))
    here =
        let next : suc i ≡ i + 1 = omega arith in
        let left : drop i cs ≡ c ∷ behind =
        drop_one i cs c some is ∙ (ap (λ j. c ∷ drop j cs) next ∙ ap (λ ds. c ∷ ds) (sym rest)) in
        so_far ∙ (ap (λ ds. all_apart (flat_map posted ds ++ posts_of later)) left
        ∙ ap all_apart (append_assoc (posted c) (flat_map posted behind) (posts_of later)))

    pub once_more : share (posted c) (flat_map posted behind ++ posts_of later) ≡ false
        → all_apart (flat_map posted cs ++ posts_of later)
        ≡ all_apart (flat_map posted (drop (i + 1) cs) ++ posts_of later)
    once_more none = here ∙ (apart_one c (flat_map posted behind ++ posts_of later) none
        ∙ ap (λ ds. all_apart (flat_map posted ds ++ posts_of later)) rest)

    pub posted_twice : share (posted c) (flat_map posted behind ++ posts_of later) ≡ true
        → all_apart (flat_map posted cs ++ posts_of later) ≡ false
    posted_twice some_name = here ∙ twice_one c (flat_map posted behind ++ posts_of later) some_name

  pub all_once : length cs ≤ i
      → all_apart (flat_map posted cs ++ posts_of later) ≡ all_apart (flat_map posted (drop i cs) ++ posts_of later)
      → all_apart (flat_map posted cs ++ posts_of later) ≡ all_apart (posts_of later)
  all_once all so_far = so_far ∙ ap (λ ds. all_apart (flat_map posted ds ++ posts_of later)) (drop_all i cs all)

module _ (ps : List ThreadPart) (i : ℕ) where
  module _ (p : ThreadPart) (later : List ThreadPart) (some : i < length ps) (is : get_or ps i p ≡ p)
      (rest : later ≡ drop (i + 1) ps) (so_far : all_apart (posts_of ps) ≡ all_apart (posts_of (drop i ps))) where
    there : all_apart (posts_of ps) ≡ all_apart (flat_map posted p.commands ++ posts_of later)
    there =
        let next : suc i ≡ i + 1 = omega arith in
        so_far ∙ ap (λ qs. all_apart (posts_of qs)) (drop_one i ps p some is
        ∙ (ap (λ j. p ∷ drop j ps) next ∙ ap (λ qs. p ∷ qs) (sym rest)))

    pub part_once : all_apart (flat_map posted p.commands ++ posts_of later) ≡ all_apart (posts_of later)
        → all_apart (posts_of ps) ≡ all_apart (posts_of (drop (i + 1) ps))
    part_once once = there ∙ (once ∙ ap (λ qs. all_apart (posts_of qs)) rest)

    pub part_twice : all_apart (flat_map posted p.commands ++ posts_of later) ≡ false → all_apart (posts_of ps) ≡ false
    part_twice twice = there ∙ twice

  pub parts_once : length ps ≤ i → all_apart (posts_of ps) ≡ all_apart (posts_of (drop i ps))
      → all_apart (posts_of ps) ≡ true
  parts_once all so_far = so_far ∙ ap (λ qs. all_apart (posts_of qs)) (drop_all i ps all)
