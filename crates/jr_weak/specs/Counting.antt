-- How many operations a collection takes at the most, by the sizes of its room.
use Rattle.std.specs.Prelude.{◌+◌, ◌*◌, ℕ}
use Rattle.jr_word.specs.declared.config.Config.{Config}

-- to mark:
-- a look at each slot, at each local place of each thread, at the header of each object, and at each word of the space
abbrev pub marking_steps : Config → ℕ
marking_steps c = c.slots + c.threads * c.locals + (c.objects + c.words)

-- to clear: a look at each slot, and an exchange
abbrev pub clearing_steps : Config → ℕ
clearing_steps c = c.slots + c.slots

-- to drop: a look at the header of each object, and a store
abbrev pub dropping_steps : Config → ℕ
dropping_steps c = c.objects + c.objects

-- to move together:
-- a look at the header of each object, three operations for each word of the space, and a store at the top
abbrev pub moving_steps : Config → ℕ
moving_steps c = c.objects + (c.words + c.words + c.words) + 1

-- all of these, once the gate is shut
abbrev pub sweeping_steps : Config → ℕ
sweeping_steps c = marking_steps c + clearing_steps c + dropping_steps c + moving_steps c

-- a collection, from the step that shuts the gate to the one that opens it
abbrev pub collection_steps : Config → ℕ
collection_steps c = sweeping_steps c + 2
