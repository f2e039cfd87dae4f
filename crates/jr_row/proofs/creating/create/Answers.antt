use Rattle.std.proofs.Common.{ap, refl, sym, ◌∙◌}
use mathlib.Core.Logic.{∥∥₁_map}
use Rattle.jr_word.specs.declared.config.Config.{Config}
use Rattle.jr_row.proofs.SlotSearch.{searched_above, searched_at, searched_hinted, searched_round}
use Rattle.jr_row.proofs.creating.create.Goals.{in-None, in_default}
use Rattle.jr_row.proofs.creating.create.Goals as goal

pub search-found-requires-clause-object : goal.search-found-requires-clause-object
search-found-requires-clause-object g c =
    ∥∥₁_map c.requires.object (λ k. let r = c.in-None.ensures.searched.did k.0 k.1 k.2 in (r.0, r.1, r.2))

pub returns-in_default-found-clause-err : goal.returns-in_default-found-clause-err
returns-in_default-found-clause-err g c = (
  refl,
  elim c.match-search.branch [
    | in-None w ↦ searched_at (c.from-hint.ensures ∙ c.hint.ensures)
        (ap (λ (r : Config). r.slots) c.config-slots.ensures) w.steps-is (sym c.in_default-found.is ∙ w.found-is)
        (searched_round w.in-None.ensures.searched w.search-found.ensures.searched)
    | in_default w ↦ absurd (w.in_default.not-None (sym w.found-is ∙ c.in_default-found.is))
  ],
)

pub returns-clause-ok : goal.returns-clause-ok
returns-clause-ok g c = searched_hinted (elim c.match-search.branch [
  | in-None w ↦ searched_at (c.from-hint.ensures ∙ c.hint.ensures)
      (ap (λ (r : Config). r.slots) c.config-slots.ensures) w.steps-is (sym c.in-Some.is ∙ w.found-is)
      (searched_round w.in-None.ensures.searched w.search-found.ensures.searched)
  | in_default w ↦ searched_at (c.from-hint.ensures ∙ c.hint.ensures)
      (ap (λ (r : Config). r.slots) c.config-slots.ensures) w.steps-is refl
      (searched_above (sym w.found-is ∙ c.in-Some.is) c.search.ensures.searched)
]) c.keep_hint.ensures
