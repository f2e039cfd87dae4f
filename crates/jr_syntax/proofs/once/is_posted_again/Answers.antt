use Rattle.std.proofs.Common.{rules, ◌≡◌, ◌∙◌, ap, refl, true, false}
use Rattle.std.specs.List.{list_any}
use Rattle.std.specs.Str.{bytes_eq}
use Rattle.jr_syntax.specs.Script.{posted}
use Rattle.jr_syntax.specs.declared.command.Command.TheVariants as commands
use Rattle.jr_syntax.specs.declared.verb.OnName.TheVariants.{Post}
use Rattle.jr_syntax.proofs.PostsOnce.{shared_behind, shared_later}
use Rattle.jr_syntax.proofs.once.is_posted_again.Goals as goal

pub returns-then-any_posts : goal.returns-then-any_posts
returns-then-any_posts c =
    let is : c.args.command.now ≡ commands.OnName Post c.as_slice.result.now = search rules in
    let some : c.any_posts.result ≡ true = search rules in
    shared_behind c.as_slice.result.now c.as_slice.result.now c.args.command.now c.args.behind.now c.args.later.now
    c.any_posts.result is refl c.any_posts.ensures some

pub returns-else-any_posts : goal.returns-else-any_posts
returns-else-any_posts c =
    let is : c.args.command.now ≡ commands.OnName Post c.as_slice.result.now = search rules in
    let none : c.any_posts.result ≡ false = search rules in
    let same : c.as_slice-else-any_posts.result.now ≡ c.as_slice.result.now = search rules in
    shared_later c.as_slice.result.now c.as_slice.result.now c.args.command.now c.args.behind.now c.args.later.now
    c.any_posts.result is refl c.any_posts.ensures c.any_part_posts.result none (c.any_part_posts.ensures
    ∙ ap (λ x. list_any (λ p. list_any (λ d. list_any (bytes_eq x) (posted d)) p.commands) c.args.later.now) same)
