-- What a census prints: a line for each thing that it counts.
use Rattle.std.specs.Prelude.{ℕ, zero, suc, List, [], ◌∷◌, ◌++◌, codes, slice_index_or}
use Rattle.std.specs.Fmt.{decimal}
use Rattle.std.specs.List.{flat_map}
use Rattle.jr_word.specs.declared.kind.Kind.{Kind}
use Rattle.jr_word.specs.declared.kind.Kind.TheVariants.{Plain, Boolean, Byte, Char, Short, Int, Long, Objects, Text}
use Rattle.jr_census.specs.declared.objects.KindCounts.{KindCounts}
use Rattle.jr_census.specs.declared.objects.Objects.{Objects as ObjectCounts}
use Rattle.jr_census.specs.declared.slots.Slots.{Slots}
use Rattle.jr_census.specs.declared.taking.Census.{Census}
use Rattle.jr_census.specs.declared.words.WordCounts.{WordCounts}
use Rattle.jr_census.specs.Counts.{count_of}

-- the name of each kind of objects
abbrev pub kind_name : Kind → List ℕ
kind_name Plain = codes "plain"
kind_name Boolean = codes "boolean[]"
kind_name Byte = codes "byte[]"
kind_name Char = codes "char[]"
kind_name Short = codes "short[]"
kind_name Int = codes "int[]"
kind_name Long = codes "long[]"
kind_name Objects = codes "Object[]"
kind_name Text = codes "String"

-- so many of a kind, behind a comma, and nothing where there is none
abbrev pub several : Kind → ℕ → List ℕ
several kind zero = []
several kind (suc n) = codes ", " ++ decimal (suc n) ++ codes " " ++ kind_name kind

-- each kind
abbrev pub all_kinds : List Kind
all_kinds = Plain ∷ Boolean ∷ Byte ∷ Char ∷ Short ∷ Int ∷ Long ∷ Objects ∷ Text ∷ []

-- the kinds of which there are some
abbrev pub kinds_text : KindCounts → List Kind → List ℕ
kinds_text x kinds = flat_map (λ kind. several kind (count_of x kind)) kinds

-- how many objects there are, their words, and how many of each kind
abbrev pub objects_text : ObjectCounts → List ℕ
objects_text x = decimal x.live ++ codes " (" ++ decimal x.words ++ codes " words)" ++ kinds_text x.kinds all_kinds

-- how many words are used, and what for
abbrev pub words_text : WordCounts → List ℕ
words_text x = decimal x.used ++ codes " (" ++ decimal x.reached ++ codes " reached, "
    ++ decimal x.lost ++ codes " lost, " ++ decimal x.freed ++ codes " freed by a collection)"

-- a line
abbrev pub whole_line : List ℕ → List ℕ
whole_line text = text ++ 10 ∷ []

-- the line of a thread that has so many local references, and none where it has none
abbrev pub locals_line : ℕ → ℕ → List ℕ
locals_line thread zero = []
locals_line thread (suc n) =
    whole_line (codes "local references of thread " ++ decimal thread ++ codes ": " ++ decimal (suc n))

-- the lines of the threads below n
abbrev pub locals_text : List ℕ → ℕ → List ℕ
locals_text x zero = []
locals_text x (suc n) = locals_text x n ++ locals_line n (slice_index_or x n 0)

-- how many weak references there are, and how many of them are cleared
abbrev pub weaks_text : ℕ → ℕ → List ℕ
weaks_text weaks cleared =
    codes "weak references: " ++ decimal weaks ++ codes " (" ++ decimal cleared ++ codes " cleared)"

-- the lines of what slots have
abbrev pub slots_text : Slots → List ℕ
slots_text x = whole_line (codes "global references: " ++ decimal x.globals)
    ++ whole_line (weaks_text x.weaks x.cleared)
    ++ whole_line (codes "retired slots: " ++ decimal x.retired)

-- THE TEXT OF A CENSUS
abbrev pub census_text : Census → List ℕ
census_text x = slots_text x.slots
    ++ locals_text x.locals 64
    ++ whole_line (codes "objects: " ++ objects_text x.objects)
    ++ whole_line (codes "unreached: " ++ objects_text x.unreached)
    ++ (codes "words used: " ++ words_text x.words)
