use Rattle.std.proofs.Common.{◌≢◌, ◌≤◌, ℕ, refl, sym, ap, ◌∙◌, arith}
use Rattle.jr_word.specs.declared.config.Config.{Config}
use Rattle.jr_model.specs.State.{not_outside}
use Rattle.jr_steps.specs.Knowing.{state_of}
use Rattle.jr_rule.specs.Passes.{known_of}
use Rattle.jr_rule.proofs.room.Room.close.Goals as goal

some_more : (n : ℕ) → n ≢ 0 → 1 ≤ n
some_more n some = grind arith

pub returns-then-inside-ne0-clause-err : goal.returns-then-inside-ne0-clause-err
returns-then-inside-ne0-clause-err g c =
    let seen = c.look-inside.ensures.seen in record {
      count = c.look-inside.result.0;
      fault = refl;
      some = some_more c.look-inside.result.0 c.if-inside-ne0.true;
      is = seen.is;
      same = refl;
      of_room = c.look-inside.ensures.room;
      took = c.look-inside.ensures.step;
    }

pub returns-clause-ok : goal.returns-clause-ok
returns-clause-ok g c =
    let seen = c.look-inside.ensures.seen in
    let met = known_of c.look-inside.result.1 in record {
      met = met;
      goes = seen.goes;
      nobody = ap (λ (d : Config). not_outside d (state_of met)) (sym seen.goes.config)
          ∙ (sym (seen.is) ∙ c.if-inside-ne0.false);
      ends = c.close.ensures;
    }
