use Rattle.std.proofs.Common.{sym, ◌∙◌}
use Rattle.jr_syntax.proofs.PartLaws.{posts_here}
use Rattle.jr_syntax.proofs.draft.Draft.has_posted.Goals as goal

pub returns-in-Some : goal.returns-in-Some
returns-in-Some c =
    posts_here c.args.name.now c.args.self.now.whole c.as_slice.result.now c.args.self.now.last c.in-Some.part
    c.as_slice-in-Some.result.now c.any_posts.result c.as_slice.ensures c.in-Some.is c.as_slice-in-Some.ensures
    (sym c.any_part_posts.ensures ∙ c.if-any_part_posts.false) c.any_posts.ensures
