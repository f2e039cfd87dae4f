-- What copied elements end as, where a slice to write them is lent.
use Rattle.std.specs.Prelude.{List, length}
use Rattle.std.specs.List.{refill}
use Rattle.std.specs.Borrow.{Lends, Fml, RattleType, MutBor, Array}
use Rattle.jr_word.specs.declared.elem.Elem.{Ghosts}
use Rattle.jr_elements.specs.contracts.elements.Elements.{the_row}

-- once the slice's loan ends, the elements are those that it shows last, as many as they were
abbrev pub lends_elements : (E : RattleType) → Ghosts E.Denot → MutBor (List E.Denot) → MutBor (List E.Denot) → Fml
lends_elements E G elements slice =
    Lends (the_row E G) (Array E 0) elements slice (refill (length elements.now) elements.now)
