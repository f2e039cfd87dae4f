use Rattle.std.proofs.Common.{List, ℕ, inl, subst}
use Rattle.jr_env.specs.Texts.{MakesText}
use Rattle.luthrady.proofs.strings.make_text_by.Goals as goal

-- src/strings.rt
pub returns-clause-call : goal.returns-clause-call
returns-clause-call c =
    let is = c.in-Ok.ensures.cases in
    inl (
      is.1,
      subst (λ (t : List ℕ). MakesText c.args.native.now.env c.new_string_of.new.self t c.new_string_of.result)
          is.0 c.new_string_of.ensures,
    )
