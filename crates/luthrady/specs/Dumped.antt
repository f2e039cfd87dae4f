-- What a dump through a pointer told, in rows of numbers.
use Rattle.std.specs.Prelude.{◌≡◌, ◌⊎◌, ◌*◌, ℕ, Option, Some, None, List, [], map, Result, Ok, Err, IfErr, vec_len}
use Rattle.jr_word.specs.declared.config.Config.{Config}
use Rattle.jr_word.specs.declared.fault.Fault.{Fault}
use Rattle.jr_word.specs.declared.fault.Fault.TheVariants.{Memory}
use Rattle.jr_word.specs.declared.header.HeaderParts.{HeaderParts}
use Rattle.jr_word.specs.declared.local.LocalParts.{LocalParts}
use Rattle.jr_word.specs.declared.local.LocalParts.TheVariants as local
use Rattle.jr_word.specs.declared.slot.SlotParts.{SlotParts}
use Rattle.jr_word.specs.declared.slot.SlotParts.TheVariants as slot
use Rattle.jr_word.specs.Kind.{kind_code}
use Rattle.jr_steps.specs.declared.steps.Steps.{Ghosts}
use Rattle.jr_weak.specs.Listing.{over_front}
use Rattle.jr_env.specs.declared.env.Env.{Env}
use Rattle.jr_env.specs.Censuses.{announced_dump, dump}
use Rattle.jr_env.specs.Deeds.{Deed}
use Rattle.jr_env.specs.Envs.{Does}
use Rattle.luthrady.specs.declared.dumping.Notes.{Notes}
use Rattle.luthrady.specs.declared.dumping.Object.{Object}
use Rattle.luthrady.specs.declared.dumping.Slot.{Slot}
use Rattle.luthrady.specs.declared.handles.EnvHandle.{EnvHandle}
use Rattle.luthrady.specs.declared.reply.Reply.{Reply}
use Rattle.luthrady.specs.Collecting.{at_least_one}
use Rattle.luthrady.specs.Doings.{WasDoneBy}
use Rattle.luthrady.specs.Places.{absence}
use Rattle.luthrady.specs.Replies.{reply_of, nothing_told}

-- what a slot has, in numbers
abbrev pub slot_row : SlotParts → Slot
slot_row (slot.Free serial) = record { state = 0; serial = serial; object = 0 }
slot_row (slot.Retired serial) = record { state = 1; serial = serial; object = 0 }
slot_row (slot.Global serial object) = record { state = 2; serial = serial; object = object }
slot_row (slot.Weak serial None) = record { state = 3; serial = serial; object = 0 }
slot_row (slot.Weak serial (Some object)) = record { state = 3; serial = serial; object = object }

-- what a local place has: the object's number, 0 for none
abbrev pub local_row : LocalParts → ℕ
local_row local.Free = 0
local_row (local.Object object) = object

-- what a number of an object has, in numbers
abbrev pub object_row : Option HeaderParts → Object
object_row None = record { kind = 0; length = 0; place = 0 }
object_row (Some h) = record { kind = kind_code h.kind; length = h.length; place = h.place }

-- the rows that a caller has room for
pub record Rows : Type 0 where
  pub slots : List Slot
  pub locals : List ℕ
  pub objects : List Object
  pub words : List ℕ

-- THE ROWS OF A DUMP were written over the front of the caller's
pub record AreWritten (before after : Rows) (slots : List SlotParts) (locals : List LocalParts)
    (headers : List (Option HeaderParts)) (words : List ℕ) : Type 0 where
  pub slots_are : after.slots ≡ over_front before.slots (map slot_row slots)
  pub locals_are : after.locals ≡ over_front before.locals (map local_row locals)
  pub objects_are : after.objects ≡ over_front before.objects (map object_row headers)
  pub words_are : after.words ≡ over_front before.words words

-- a dump, announced with so many tries if it is
abbrev pub dump_by : Option ℕ → List SlotParts → List LocalParts → List (Option HeaderParts) → List ℕ
    → Deed (Unit {0})
dump_by None slots locals headers words = dump slots locals headers words
dump_by (Some tries) slots locals headers words = announced_dump (at_least_one tries) slots locals headers words

-- room for the notes of a room of these sizes
pub record HasNotesFor (c : Config) (n : Notes) : Type 0 where
  pub slots : vec_len n.slots ≡ c.slots
  pub locals : vec_len n.locals ≡ c.threads * c.locals
  pub headers : vec_len n.headers ≡ c.objects
  pub words : vec_len n.words ≡ c.words

module _ {S : Type 0} {G : Ghosts S} where
  -- it was refused: for want of memory (E16), and nothing has changed; or as a dump is
  abbrev pub DumpsNothing : Option ℕ → Env S G → Env S G → Fault → Type 0
  DumpsNothing tries old new e = ((e ≡ Memory) × (new ≡ old)) ⊎ Does old new (dump_by tries [] [] [] []) (Err e)

  -- a dump was taken, and this is noted; or it was refused
  abbrev pub DumpsNotes : Option ℕ → Env S G → Env S G → Result Notes Fault → Type 0
  DumpsNotes tries old new (Ok n) =
      Does old new (dump_by tries n.slots.items n.locals.items n.headers.items n.words.items) (Ok tt)
  DumpsNotes tries old new (Err e) = DumpsNothing tries old new e

  -- a dump was taken, and its rows are written; or it was refused
  abbrev pub DumpsRows : Option ℕ → Rows → Rows → Env S G → Env S G → Result (Unit {0}) Fault → Type 0
  DumpsRows tries before after old new (Ok u) = (slots : List SlotParts) × (locals : List LocalParts)
      × (headers : List (Option HeaderParts)) × (words : List ℕ)
      × Does old new (dump_by tries slots locals headers words) (Ok u)
      × AreWritten before after slots locals headers words
  DumpsRows tries before after old new (Err e) = DumpsNothing tries old new e

-- A DUMP WAS TAKEN by the env behind the handle, with an answer that the reply tells; a refusal leaves the rows
abbrev pub DumpReplied : Option ℕ → EnvHandle → EnvHandle → Reply → Rows → Rows → Type 0
DumpReplied tries old new reply before after = (answer : Result (Unit {0}) Fault)
    × (reply ≡ reply_of nothing_told answer)
    × WasDoneBy (λ a b. DumpsRows tries before after a.env b.env answer) (answer ≡ Err (absence old)) old new
    × IfErr answer (λ e. after ≡ before)
