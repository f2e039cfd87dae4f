-- The names that lines post.
use Rattle.std.proofs.Common.{◌≡◌, ℕ, ◌≤◌, true, List, [], ◌∷◌, ◌++◌, length, None}
use Rattle.std.proofs.Common.{refl, sym, ap, ◌∙◌, append_assoc, arith, Option}
use Rattle.std.specs.Prelude.{codes}
use Rattle.std.specs.Option.{option_map, option_map_or}
use Rattle.std.specs.List.{flat_map}
use Rattle.std.proofs.lemmas.Bool.{and_parts, false≢true}
use Rattle.std.proofs.lemmas.List.{append-nil}
use Rattle.std.proofs.lemmas.Grind.{flat_map-append}
use Rattle.std.proofs.lemmas.Slice.Eq.{bytes_eq-Decides}
use Rattle.jr_syntax.specs.declared.command.Command.{Command}
use Rattle.jr_syntax.specs.declared.thread.ThreadPart.{ThreadPart}
use Rattle.jr_syntax.specs.Line.{words_of, word_at}
use Rattle.jr_syntax.specs.Command.{verb_of, behind_verb, line_command}
use Rattle.jr_syntax.specs.Script.{thread, posted, posts_of}
use Rattle.jr_syntax.specs.Faults.{posted_by, posts_in}
use Rattle.jr_syntax.specs.Draft.{with_command, begun}

-- one more line
pub posts_more : (before : List (List ℕ)) (l : List ℕ) → posts_in (before ++ l ∷ []) ≡ posts_in before ++ posted_by l
posts_more before l = flat_map-append posted_by before (l ∷ [])
    ∙ ap (λ (x : List (List ℕ)). posts_in before ++ x) (append-nil (posted_by l))

-- what the line of a command posts
pub posted_of : (l : List ℕ) (o : Option Command) → line_command (words_of l) ≡ o
    → posted_by l ≡ option_map_or posted o []
posted_of l o e = ap (λ (x : Option Command). option_map_or posted x []) e

-- ---- lines that are no commands

no_verb : (w : List ℕ) (ws : List (List ℕ)) → verb_of w ≡ None → line_command (w ∷ ws) ≡ None
unfolding line_command
no_verb w ws e = ap (λ o. option_map (λ v. (behind_verb v).value ws) o) e

thread_is_no_verb : verb_of (codes "thread") ≡ None
unfolding verb_of
thread_is_no_verb = refl

vm_is_no_verb : verb_of (codes "vm") ≡ None
unfolding verb_of
vm_is_no_verb = refl

begins_with : (w : List ℕ) (ws : List (List ℕ)) (key : List ℕ) → w ≡ key → verb_of key ≡ None
    → line_command (w ∷ ws) ≡ None
begins_with w ws key is none = ap (λ (x : List ℕ). line_command (x ∷ ws)) is ∙ no_verb key ws none

pub thread_is_no_command : (ws : List (List ℕ)) → thread.has_form ws ≡ true → line_command ws ≡ None
thread_is_no_command [] h = absurd (false≢true h)
thread_is_no_command (w ∷ ws) h = begins_with w ws (codes "thread")
    ((bytes_eq-Decides w (codes "thread")).0 (and_parts _ _ (and_parts _ _ h).0).1) thread_is_no_verb

pub vm_is_no_command : (ws : List (List ℕ)) → word_at ws 0 ≡ codes "vm" → line_command ws ≡ None
vm_is_no_command [] e = absurd cc
vm_is_no_command (w ∷ ws) e = begins_with w ws (codes "vm") e vm_is_no_verb

pub thread_posts_nothing : (l : List ℕ) → thread.has_form (words_of l) ≡ true → posted_by l ≡ []
thread_posts_nothing l h = posted_of l None (thread_is_no_command (words_of l) h)

-- ---- one more part, and one more command

pub posts_begun : (ps : List ThreadPart) (n : List ℕ) → posts_of (ps ++ begun n ∷ []) ≡ posts_of ps
posts_begun ps n =
    flat_map-append (λ (p : ThreadPart). flat_map posted p.commands) ps (begun n ∷ []) ∙ append-nil (posts_of ps)

pub posts_with : (ps : List ThreadPart) (c : Command) → 1 ≤ length ps
    → posts_of (with_command ps c) ≡ posts_of ps ++ posted c
posts_with [] c h = absurd (omega arith)
posts_with (p ∷ []) c h =
    append-nil (flat_map posted (p.commands ++ c ∷ []))
    ∙ flat_map-append posted p.commands (c ∷ [])
    ∙ ap (λ (x : List (List ℕ)). flat_map posted p.commands ++ x) (append-nil (posted c))
    ∙ ap (λ (x : List (List ℕ)). x ++ posted c) (sym (append-nil (flat_map posted p.commands)))
posts_with (p ∷ q ∷ ps) c h =
    ap (λ (x : List (List ℕ)). flat_map posted p.commands ++ x) (posts_with (q ∷ ps) c (omega arith))
    ∙ sym (append_assoc (flat_map posted p.commands) (posts_of (q ∷ ps)) (posted c))
