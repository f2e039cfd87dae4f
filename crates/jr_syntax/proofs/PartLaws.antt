-- Names of several parts, and a command more in the last.
use Rattle.std.proofs.Common.{◌≡◌, ℕ, Bool, true, false, List, [], ◌∷◌, ◌++◌, Option, Some, refl, sym, ap, ◌∙◌}
use Rattle.std.specs.Prelude.{◌||◌}
use Rattle.std.specs.List.{list_any, flat_map}
use Rattle.std.specs.Str.{bytes_eq}
use Rattle.jr_syntax.specs.declared.thread.ThreadPart.{ThreadPart}
use Rattle.jr_syntax.specs.declared.command.Command.{Command}
use Rattle.std.proofs.lemmas.List.Folds.{list_any-append}
use Rattle.jr_syntax.specs.Script.{names_of, posted, posts_of}
use Rattle.jr_syntax.specs.Draft.{last_part, with_command}

or_assoc : (a b c : Bool) → ((a || b) || c) ≡ (a || (b || c))
or_assoc true b c = refl
or_assoc false b c = refl

pub or_nothing : (a : Bool) → (a || false) ≡ a
or_nothing true = refl
or_nothing false = refl

pub any_names : (word : List ℕ) (ps : List ThreadPart) (o : Option ThreadPart)
    → list_any (bytes_eq word) (names_of (ps ++ last_part o)) ≡ (list_any (λ p. bytes_eq word p.name) ps
    || list_any (bytes_eq word) (names_of (last_part o)))
any_names word [] o = refl
any_names word (p ∷ ps) o =
    ap (λ b. bytes_eq word p.name || b) (any_names word ps o) ∙ sym (or_assoc (bytes_eq word p.name) _ _)

-- where the last part is there
pub any_names_one : (word : List ℕ) (p : ThreadPart)
    → list_any (bytes_eq word) (names_of (last_part (Some p))) ≡ bytes_eq word p.name
any_names_one word p = or_nothing (bytes_eq word p.name)

-- one name
pub any_one : (word name : List ℕ) → list_any (bytes_eq word) (name ∷ []) ≡ bytes_eq word name
any_one word name = or_nothing (bytes_eq word name)

pub any_flat : {X Y : Type 0} (p : Y → Bool) (f : X → List Y) (xs : List X)
    → list_any p (flat_map f xs) ≡ list_any (λ x. list_any p (f x)) xs
any_flat p f [] = refl
any_flat p f (x ∷ xs) = list_any-append p (f x) (flat_map f xs) ∙ ap (λ b. list_any p (f x) || b) (any_flat p f xs)

pub posts_each : (word : List ℕ) (ps : List ThreadPart) → list_any (bytes_eq word) (posts_of ps)
    ≡ list_any (λ p. list_any (λ c. list_any (bytes_eq word) (posted c)) p.commands) ps
posts_each word [] = refl
posts_each word (p ∷ ps) = list_any-append (bytes_eq word) (flat_map posted p.commands) (posts_of ps)
    ∙ rw (any_flat (bytes_eq word) posted p.commands, posts_each word ps) refl

pub posts_split : (word : List ℕ) (ps : List ThreadPart) (o : Option ThreadPart)
    → list_any (bytes_eq word) (posts_of (ps ++ last_part o))
    ≡ (list_any (λ p. list_any (λ c. list_any (bytes_eq word) (posted c)) p.commands) ps
    || list_any (bytes_eq word) (posts_of (last_part o)))
posts_split word [] o = refl
posts_split word (p ∷ ps) o =
    list_any-append (bytes_eq word) (flat_map posted p.commands) (posts_of (ps ++ last_part o))
    ∙ rw (any_flat (bytes_eq word) posted p.commands, posts_split word ps o) (sym
    (or_assoc (list_any (λ c. list_any (bytes_eq word) (posted c)) p.commands) _ _))

-- where the last part is there
pub posts_last : (word : List ℕ) (p : ThreadPart) → list_any (bytes_eq word) (posts_of (last_part (Some p)))
    ≡ list_any (λ c. list_any (bytes_eq word) (posted c)) p.commands
posts_last word p =
    posts_each word (p ∷ []) ∙ or_nothing (list_any (λ c. list_any (bytes_eq word) (posted c)) p.commands)

-- what the last part posts, where no other does
pub posts_here : (word : List ℕ) (ps qs : List ThreadPart) (o : Option ThreadPart) (p : ThreadPart) (cs : List Command)
    (b : Bool) → qs ≡ ps → o ≡ Some p → cs ≡ p.commands
    → list_any (λ q. list_any (λ c. list_any (bytes_eq word) (posted c)) q.commands) qs ≡ false
    → b ≡ list_any (λ c. list_any (bytes_eq word) (posted c)) cs
    → b ≡ list_any (bytes_eq word) (posts_of (ps ++ last_part o))
posts_here word ps qs o p cs b whole is own none any =
    let nowhere : list_any (λ q. list_any (λ c. list_any (bytes_eq word) (posted c)) q.commands) ps ≡ false =
    ap (list_any (λ q. list_any (λ c. list_any (bytes_eq word) (posted c)) q.commands)) (sym whole) ∙ none in
    any ∙ ap (list_any (λ c. list_any (bytes_eq word) (posted c))) own
    ∙ sym (posts_split word ps o ∙ rw (nowhere, is) (posts_last word p))

-- a command more in the last part
pub with_command_last : (ps : List ThreadPart) (p : ThreadPart) (c : Command)
    → with_command (ps ++ p ∷ []) c ≡ ps ++ record { name = p.name; commands = p.commands ++ c ∷ [] } ∷ []
with_command_last [] p c = refl
with_command_last (q ∷ []) p c = refl
with_command_last (q ∷ r ∷ ps) p c = ap (λ (xs : List ThreadPart). q ∷ xs) (with_command_last (r ∷ ps) p c)
