-- What a census through a pointer told.
use Rattle.std.specs.Prelude.{◌≡◌, ℕ, List, Result, Ok, Err}
use Rattle.jr_word.specs.declared.fault.Fault.{Fault}
use Rattle.jr_weak.specs.Listing.{over_front}
use Rattle.jr_census.specs.declared.objects.Objects.{Objects}
use Rattle.jr_census.specs.declared.taking.Census.{Census}
use Rattle.jr_env.specs.Deeds.{Deed}
use Rattle.luthrady.specs.declared.census.Population.{Population}
use Rattle.luthrady.specs.declared.census.Inventory.{Inventory}
use Rattle.luthrady.specs.declared.handles.EnvHandle.{EnvHandle}
use Rattle.luthrady.specs.declared.reply.Reply.{Reply}
use Rattle.luthrady.specs.Collecting.{WasMadeMarking}
use Rattle.luthrady.specs.Replies.{reply_of}
use Rattle.luthrady.specs.Telling.{told_into}
use Rattle.luthrady.specs.Threads.{elsewhere}

-- objects that are counted, as C sees them
abbrev pub object_counts : Objects → Population
object_counts x = record {
  plain = x.kinds.plain;
  booleans = x.kinds.booleans;
  bytes = x.kinds.bytes;
  chars = x.kinds.chars;
  shorts = x.kinds.shorts;
  ints = x.kinds.ints;
  longs = x.kinds.longs;
  objects = x.kinds.objects;
  strings = x.kinds.strings;
  live = x.live;
  words = x.words;
}

-- what a census counts, as C sees it
abbrev pub census_counts : Census → Inventory
census_counts x = record {
  globals = x.slots.globals;
  weaks = x.slots.weaks;
  cleared = x.slots.cleared;
  retired = x.slots.retired;
  present = object_counts x.objects;
  unreached = object_counts x.unreached;
  used = x.words.used;
  lost = x.words.lost;
  reached = x.words.reached;
  freed = x.words.freed;
}

-- how many local references each thread has, written over the front of a buffer; of a refusal, nothing
abbrev pub locals_into : Result Census Fault → List ℕ → List ℕ
locals_into (Ok x) before = over_front before x.locals
locals_into (Err e) before = before

-- A CENSUS WAS TAKEN, as the reply and what is written tell
abbrev pub CensusReplied : EnvHandle → EnvHandle → Deed Census → Reply → List ℕ → List ℕ → Inventory → Inventory
    → Type 0
CensusReplied old new deed reply locals locals' before after = (answer : Result Census Fault)
    × (reply ≡ reply_of elsewhere answer) × (after ≡ told_into census_counts answer before)
    × (locals' ≡ locals_into answer locals) × WasMadeMarking old new deed answer
