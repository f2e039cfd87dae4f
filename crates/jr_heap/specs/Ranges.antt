-- What a range of words is.
use Rattle.std.specs.Prelude.{ℕ}
use Rattle.jr_word.specs.declared.kind.Kind.TheVariants.{Int}
use Rattle.jr_steps.specs.declared.known.Known.{Known}
use Rattle.jr_heap.specs.declared.range.Range.{Range}
use Rattle.jr_heap.specs.Heap.{IsReady}

-- the place of its first word, and how many words it has
abbrev pub place_of : Range → ℕ
place_of r = r.place

abbrev pub size_of : Range → ℕ
size_of r = r.length

-- two ranges are ready for integers
abbrev pub AreReady : Range → Range → Known → Type 0
AreReady a b k = IsReady Int a.place a.length k × IsReady Int b.place b.length k
