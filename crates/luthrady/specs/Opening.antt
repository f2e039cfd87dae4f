-- How a room is opened.
use Rattle.std.specs.Prelude.{◌≡◌, ◌↔◌, ◌⊎◌, false, Result, Err, IfOk, IfErr}
use Rattle.std.specs.Global.{Box}
use Rattle.jr_word.specs.declared.config.Config.{Config}
use Rattle.jr_word.specs.declared.fault.Fault.{Fault}
use Rattle.jr_word.specs.declared.fault.Fault.TheVariants.{Memory, Size}
use Rattle.jr_word.specs.Config.{in_limits}
use Rattle.jr_owned.specs.Owners.{AreEnvsOpened}
use Rattle.luthrady.specs.declared.held.Opened.{Opened}
use Rattle.luthrady.specs.declared.reply.Reply.{Reply}
use Rattle.luthrady.specs.declared.rooms.Sizes.{Sizes}
use Rattle.luthrady.specs.Places.{room_mark}
use Rattle.luthrady.specs.Replies.{reply_of}
use Rattle.luthrady.specs.Threads.{elsewhere}

-- the configuration of these sizes
abbrev pub config_of : Sizes → Config
config_of s = record { threads = s.threads; slots = s.slots; objects = s.objects; words = s.words; locals = s.locals }

-- THE PLACE OF A ROOM AS IT WAS OPENED: marked, with an env for each thread, and nobody is attached
abbrev pub IsPlaceOpened : Config → Opened → Type 0
IsPlaceOpened c o = AreEnvsOpened c o.envs.items × (o.mark ≡ room_mark) × (o.attached ≡ 0) × (o.released ≡ false)

-- A ROOM WAS OPENED of these sizes, or refused, as the reply tells:
-- with E17 exactly where the sizes are beyond their limits, and else with E16
abbrev pub OpenReplied : Sizes → Reply → Type 0
OpenReplied sizes reply = (answer : Result (Box Opened) Fault) × (reply ≡ reply_of elsewhere answer)
    × ((answer ≡ Err Size) ↔ (in_limits (config_of sizes) ≡ false)) × IfErr answer (λ e. (e ≡ Size) ⊎ (e ≡ Memory))
    × IfOk answer (λ b. IsPlaceOpened (config_of sizes) b.value)
