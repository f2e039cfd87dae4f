-- What several steps did, and what they show.
use Rattle.std.specs.Prelude.{List}
use Rattle.jr_model.specs.declared.event.Act.{Act}
use Rattle.jr_model.specs.History.{History, Did}
use Rattle.jr_model.specs.Windows.{IsWindow}
use Rattle.jr_steps.specs.declared.known.Known.{Known}
use Rattle.jr_steps.specs.Knowing.{Facts, Went, view, standing_after, keeps, lets_go, Takes}

-- two operations, after which nothing is held
abbrev pub LetsGoInTwo : Known → Known → Type 0
LetsGoInTwo j k = lets_go j k × Takes 2 j k

-- two operations, after which the pass holds what it held
abbrev pub KeepsInTwo : Known → Known → Type 0
KeepsInTwo j k = keeps j k × Takes 2 j k

-- several steps were taken, in this window, which show this
abbrev pub ActedTo : {S : Type 0} → (S → Facts) → S → S → List Act → (Known → Type 0) → (Known → Known → Type 0)
    → Type 0
ActedTo facts old new acts met shows =
    Went facts old new (standing_after (facts old).stands acts) met (λ k k'. Did (view k) (view k') acts) (λ k k'.
    shows k k' × (begun : History) × IsWindow (view k) (view k') acts begun)
