-- How long a reference stands, from any moment on at which it does.
use Rattle.std.specs.Prelude.{◌≡◌, ◌≢◌, ◌++◌, ℕ}
use Rattle.std.specs.List.{AllByRecursion}
use Rattle.jr_word.specs.declared.config.Config.{Config}
use Rattle.jr_model.specs.declared.event.Act.TheVariants.{Delete}
use Rattle.jr_model.specs.declared.event.Found.TheVariants.{Object, Cleared}
use Rattle.jr_model.specs.State.{Handle}
use Rattle.jr_model.specs.History.{History, state, IsLegal}
use Rattle.jr_model.specs.Laws.{IsFoundAs}

-- no event deletes the reference
abbrev pub NoneDeletes : Handle → History → Type 0
NoneDeletes h es = AllByRecursion (λ e. e.act ≢ Delete h) es

-- A REFERENCE THAT STANDS after a beginning of a legal history stands after the whole of it,
-- where nothing has deleted it since: a global one with its object, a weak one with it or cleared
abbrev pub StandsUntilDeleted : Config → ℕ → Type 0
StandsUntilDeleted c last =
    (h : Handle) (o : ℕ) (before since whole : History) → before ++ since ≡ whole → IsLegal c last whole
    → (state before).refs h ≡ Object o → NoneDeletes h since → IsFoundAs h o ((state whole).refs h)

-- and one that was cleared then is cleared still
abbrev pub ClearedUntilDeleted : Config → ℕ → Type 0
ClearedUntilDeleted c last =
    (h : Handle) (before since whole : History) → before ++ since ≡ whole → IsLegal c last whole
    → (state before).refs h ≡ Cleared → NoneDeletes h since → (state whole).refs h ≡ Cleared
