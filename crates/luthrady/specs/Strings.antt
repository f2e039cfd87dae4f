-- What the calls at the units and the text of a string did.
use Rattle.std.specs.Prelude.{◌≡◌, ◌++◌, ◌⊎◌, ℕ, Bool, true, false, List, Option, Some, None, Result, Ok, Err, IfErr}
use Rattle.std.specs.Prelude.{drop, length, map, nat_le}
use Rattle.std.specs.Str.{IsUtf8}
use Rattle.jr_word.specs.declared.fault.Fault.{Fault}
use Rattle.jr_word.specs.declared.fault.Fault.TheVariants.{Value}
use Rattle.jr_word.specs.declared.handle.Handle.{Handle}
use Rattle.jr_word.specs.declared.kind.Kind.TheVariants.{Char}
use Rattle.jr_steps.specs.declared.steps.Steps.{Ghosts}
use Rattle.jr_critical.specs.LevelParts.{ReadsPartAt, part_read}
use Rattle.jr_env.specs.declared.env.Env.{Env}
use Rattle.jr_env.specs.Texts.{MakesText, ReadsText}
use Rattle.luthrady.specs.declared.handles.EnvHandle.{EnvHandle}
use Rattle.luthrady.specs.declared.reply.Reply.{Reply}
use Rattle.luthrady.specs.Doings.{WasDoneBy}
use Rattle.luthrady.specs.InRegions.{DoneInRegion, over_string}
use Rattle.luthrady.specs.Places.{absence}
use Rattle.luthrady.specs.Replies.{reply_of, nothing_told, the_number, the_word}

-- a text in front of what stood there, where it fits; else what stood there
abbrev pub in_front : Bool → List ℕ → List ℕ → List ℕ
in_front true text before = text ++ drop (length text) before
in_front false text before = before

abbrev pub put_text : List ℕ → List ℕ → List ℕ
put_text text before = in_front (nat_le (length text) (length before)) text before

-- what is told of a text that was read: how many bytes it has, and they stand in front where they fit;
-- E18 where the units spell none; a refusal is handed on; in both cases the bytes are as they were
abbrev pub IsTextTold : Result (Option (List ℕ)) Fault → Result ℕ Fault → List ℕ → List ℕ → Type 0
IsTextTold (Ok (Some text)) answer before after = (answer ≡ Ok (length text)) × (after ≡ put_text text before)
IsTextTold (Ok None) answer before after = (answer ≡ Err Value) × (after ≡ before)
IsTextTold (Err e) answer before after = (answer ≡ Err e) × (after ≡ before)

module _ {S : Type 0} {G : Ghosts S} where
  -- A PART OF A STRING'S UNITS WAS READ, so many from an index on, in a region of its own
  abbrev pub ReadsUnits : Env S G → Env S G → ℕ → ℕ → ℕ → Result (List ℕ) Fault → Type 0
  ReadsUnits old new w start n answer =
      DoneInRegion old new w over_string (λ a b v r. ReadsPartAt a b v 0 Char start n r) answer

  -- A STRING OF THE TEXT THAT THESE BYTES ARE WAS MADE; where they are none it is E18, and nothing has changed
  abbrev pub MakesOfBytes : Env S G → Env S G → List ℕ → Result Handle Fault → Type 0
  MakesOfBytes old new bytes answer =
      (IsUtf8 bytes × MakesText old new bytes answer) ⊎ ((IsUtf8 bytes → ⊥) × (answer ≡ Err Value) × (new ≡ old))

  -- A STRING WAS READ AS A TEXT, of which this is told
  abbrev pub TellsText : Env S G → Env S G → ℕ → Result ℕ Fault → List ℕ → List ℕ → Type 0
  TellsText old new w answer before after =
      (text : Result (Option (List ℕ)) Fault) × ReadsText old new w text × IsTextTold text answer before after

-- THE UNITS WERE READ by the env behind the handle, with an answer that the reply tells; a refusal leaves the slice
abbrev pub UnitsReplied : EnvHandle → EnvHandle → ℕ → ℕ → Reply → List ℕ → List ℕ → Type 0
UnitsReplied old new w start reply before after =
    (answer : Result (Unit {0}) Fault) × (reply ≡ reply_of nothing_told answer)
    × WasDoneBy (λ a b. ReadsUnits a.env b.env w start (length before) (part_read answer (map the_number after)))
    (answer ≡ Err (absence old)) old new × IfErr answer (λ e. after ≡ before)

-- A STRING OF THESE BYTES WAS MADE by it, with an answer that the reply tells
abbrev pub BytesReplied : EnvHandle → EnvHandle → List ℕ → Reply → Type 0
BytesReplied old new bytes reply = (answer : Result Handle Fault) × (reply ≡ reply_of the_word answer)
    × WasDoneBy (λ a b. MakesOfBytes a.env b.env bytes answer) (answer ≡ Err (absence old)) old new

-- A STRING WAS READ AS A TEXT by it, with an answer that the reply tells; where no env stood the bytes are as they were
abbrev pub TextReplied : EnvHandle → EnvHandle → ℕ → Reply → List ℕ → List ℕ → Type 0
TextReplied old new w reply before after = (answer : Result ℕ Fault) × (reply ≡ reply_of the_number answer)
    × WasDoneBy (λ a b. TellsText a.env b.env w answer before after)
    ((answer ≡ Err (absence old)) × (after ≡ before)) old new
