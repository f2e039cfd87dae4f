-- What the calls did that make a string of a text, and read one as a text.
use Rattle.std.specs.Prelude.{◌≡◌, ◌⊎◌, ◌≤◌, true, length, List, ℕ, Option, Some, None, Result, Ok, Err, String}
use Rattle.std.specs.Char.Utf16.{has_unpaired_surrogate}
use Rattle.std.specs.Global.{Global}
use Rattle.std.specs.String.{string_bytes, IsUtf16Of}
use Rattle.jr_word.specs.declared.fault.Fault.{Fault}
use Rattle.jr_word.specs.declared.fault.Fault.TheVariants.{Memory}
use Rattle.jr_word.specs.declared.handle.Handle.{Handle}
use Rattle.jr_steps.specs.declared.steps.Steps.{Ghosts}
use Rattle.jr_env.specs.declared.env.Env.{Env}
use Rattle.jr_env.specs.Requests.{for_get_string_chars, for_new_string}
use Rattle.jr_env.specs.Deeds.{whole}
use Rattle.jr_env.specs.Envs.{Does}

-- the answer as its bytes
abbrev pub text_in : Result (Option (String Global)) Fault → Result (Option (List ℕ)) Fault
text_in (Ok (Some text)) = Ok (Some (string_bytes text))
text_in (Ok None) = Ok None
text_in (Err e) = Err e

-- A STRING OF THE TEXT WAS MADE, with this answer: a string of the units that spell it;
-- or the memory for these was refused, where the text isn't empty, and nothing was done
abbrev pub MakesText : {S : Type 0} {G : Ghosts S} → Env S G → Env S G → List ℕ → Result Handle Fault → Type 0
MakesText old new text answer = ((answer ≡ Err Memory) × (1 ≤ length text) × (new ≡ old))
    ⊎ ((units : List ℕ) × IsUtf16Of units text × Does old new (whole (for_new_string units)) answer)

-- the answer is a text that units spell, none where they spell none,
-- or a refusal of memory for it, where there are units
abbrev pub SpellsText : List ℕ → Result (Option (List ℕ)) Fault → Type 0
SpellsText units (Ok (Some text)) = IsUtf16Of units text
SpellsText units (Ok None) = has_unpaired_surrogate units ≡ true
SpellsText units (Err e) = (e ≡ Memory) × (1 ≤ length units)

-- what came of the units decides the answer: their refusal is the answer's
abbrev pub IsReadAsText : Result (List ℕ) Fault → Result (Option (List ℕ)) Fault → Type 0
IsReadAsText (Ok units) answer = SpellsText units answer
IsReadAsText (Err e) answer = answer ≡ Err e

-- THE STRING WAS READ AS A TEXT, with this answer: its units were copied, and the answer is what they spell
abbrev pub ReadsText : {S : Type 0} {G : Ghosts S} → Env S G → Env S G → ℕ → Result (Option (List ℕ)) Fault → Type 0
ReadsText old new w answer =
    (units : Result (List ℕ) Fault) × Does old new (whole (for_get_string_chars w)) units × IsReadAsText units answer
