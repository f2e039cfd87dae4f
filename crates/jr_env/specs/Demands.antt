-- What a call asks of the room, and may be refused for want of: that of an ending of its program.
use Rattle.std.specs.Prelude.{◌≡◌, ℕ, length}
use Rattle.jr_word.specs.declared.kind.Kind.{Kind}
use Rattle.jr_model.specs.Checks.{Word}
use Rattle.jr_model.specs.Programs.{AnswerKind, Ending, Program, creates, ends, fills, finds, looks, makes, names}
use Rattle.jr_model.specs.Programs.{names_both, tests, wants}
use Rattle.jr_env.specs.declared.demand.Demand.{Demand}
use Rattle.jr_env.specs.declared.demand.Demand.TheVariants.{Nothing, Slot, Object}
use Rattle.jr_env.specs.Requests.{Request, asks, gives, named, on_word, on_words, told_by}

-- what an ending asks for: a slot for its reference, an object of so many words, or nothing
abbrev pub demand_of : {n : ℕ} {a : AnswerKind} → Ending n a → Demand
demand_of (creates k w) = Slot
demand_of (makes k ws) = Object (length ws)
demand_of (fills k n w) = Object n
demand_of _ = Nothing

-- the program may come to an ending that asks for this
abbrev pub MayEndWith : {n : ℕ} {a : AnswerKind} → Program n a → Demand → Type 0
MayEndWith (ends e) d = demand_of e ≡ d
MayEndWith (names w p) d = MayEndWith p d
MayEndWith (names_both p) d = MayEndWith p d
MayEndWith (wants w p) d = MayEndWith p d
MayEndWith (looks next) d = (k : Kind) × (n : ℕ) × MayEndWith (next k n) d
MayEndWith (tests ts _ p) d = MayEndWith p d
MayEndWith (finds i p) d = MayEndWith p d

-- A REQUEST DEMANDS THIS of the room: its program may come to ask for it, whatever its words say
abbrev pub Demands : {A : Type 0} → Request A → Demand → Type 0
Demands (asks silent words p) d = MayEndWith p d
Demands (on_word w next) d = (a : Word) → Demands (next a) d
Demands (on_words v w next) d = (a b : Word) → Demands (next a b) d
Demands (gives form first) d = Demands first d
Demands (told_by form first) d = Demands first d
Demands (named name first) d = Demands first d
