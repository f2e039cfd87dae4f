use Rattle.std.proofs.Common.{ℕ, subst}
use Rattle.jr_word.specs.declared.kind.Kind.TheVariants.{Short}
use Rattle.jr_env.specs.Deeds.{new_array}
use Rattle.luthrady.specs.Calls.{WasMade}
use Rattle.luthrady.proofs.arrays.luthrady_new_short_array.Goals as goal

-- src/arrays.rt
pub returns : goal.returns
returns c = (
  c.make.result,
  c.reference_reply.ensures,
  subst (λ (n : ℕ). WasMade c.args.env.now c.make.new.handle (new_array Short n) c.make.result) c.of.ensures
      c.make.ensures,
)
