-- What a dump tells of the machine.
use Rattle.std.specs.Prelude.{◌↔◌, ℕ}
use Rattle.jr_word.specs.declared.config.Config.{Config}
use Rattle.jr_model.specs.State.{IsReached}
use Rattle.jr_model.specs.History.{History, IsLegal, state}
use Rattle.jr_census.specs.Taking.{IsDumpOf}
use Rattle.jr_alive.specs.declared.dump.Dump.{Dump}
use Rattle.jr_alive.specs.Graph.{HasRoomFor, IsAlive}

-- of a dump of the state of a legal history, an object is alive exactly where the machine's is reached
abbrev pub DumpTellsWhatIsReached : Config → ℕ → Type 0
DumpTellsWhatIsReached c last = (es : History) (d : Dump) → IsLegal c last es → HasRoomFor c d
    → IsDumpOf c last (state es) d.slots.items d.locals.items d.headers.items d.words.items
    → (o : ℕ) → IsAlive d 0 o ↔ IsReached (state es) o
