-- What was read of a reader whose bytes are known.
use Rattle.std.proofs.Common.{◌≡◌, ◌≤◌, ◌<◌, ℕ, List, [], ◌++◌, length, take, Option, None, Some}
use Rattle.std.proofs.Common.{IfSome, refl, sym, ap, ◌∙◌, subst, arith, inl, inr, take_all}
use Rattle.std.specs.Prelude.{◌⊎◌}
use Rattle.std.specs.Io.KnownBytes.{Consumes, IsAtEnd}
use Rattle.std.proofs.KnownBytes.{Consumes-whole}
use Rattle.std.proofs.lemmas.Option.{IfSome_then}
use Rattle.std.proofs.lemmas.Bool.{lt-ltb, leb-true, cases_lt}
use lib.Seq.{take-append_seam}
use lib.ListN.{length-take}
use Rattle.jr_syntax.specs.declared.fault.Reason.TheVariants.{TooLong}
use Rattle.jr_syntax.specs.Faults.{first_fault}
use Rattle.jrefs.specs.declared.trouble.Trouble.{Trouble}
use Rattle.jrefs.specs.declared.trouble.Trouble.TheVariants as troubles
use Rattle.jrefs.specs.Answer.{IsAnswer, IsRefused}
use Rattle.jrefs.specs.Act.{IsOutput, Stops}
use Rattle.jrefs.specs.Check.{IsCheck}
use Rattle.jrefs.specs.Describe.{Describes, SaysWidened}
use Rattle.jrefs.specs.Request.{AsksOfScript}
use Rattle.jrefs.specs.declared.request.Request.{Request}
use Rattle.jrefs.specs.declared.request.Request.TheVariants.{Run, Check, Word, Widen}
use Rattle.jr_syntax.specs.declared.script.Script.{Script}
use Rattle.jr_syntax.specs.Script.{IsScript, text_of}

-- a reader that is at its end gave all that it had, and that is within the limit
pub all_read : (most : ℕ) (known rest : Option (List ℕ)) (bytes : List ℕ) → Consumes known rest bytes → IsAtEnd rest
    → length bytes ≤ most → IfSome known (λ all. bytes ≡ take most all)
all_read most known rest bytes gone end within =
    Consumes-whole known rest bytes (λ all. bytes ≡ take most all) gone end (sym (take_all most bytes within))

-- a reader gave as much as the limit
pub most_read : (most : ℕ) (known rest : Option (List ℕ)) (bytes : List ℕ) → Consumes known rest bytes
    → length bytes ≡ most → IfSome known (λ all. bytes ≡ take most all)
most_read most None rest bytes gone full = tt
most_read most (Some all) None bytes gone full = absurd gone
most_read most (Some all) (Some left) bytes gone full =
    sym (ap (take most) gone ∙ ap (λ n. take n (bytes ++ left)) (sym full) ∙ take-append_seam bytes left)

-- ---- the limit

-- bytes over the limit are too long, whatever they are
too_long : (bytes : List ℕ) → 65536 < length bytes → first_fault bytes ≡ Some (1, TooLong)
too_long bytes over = rw (lt-ltb 65536 (length bytes) over) refl

-- what was read of bytes has their first fault
pub first_fault-take : (bytes : List ℕ) → first_fault (take 65537 bytes) ≡ first_fault bytes
first_fault-take bytes = by_cases (cases_lt 65536 (length bytes))
  where
    by_cases : (65536 < length bytes) ⊎ (length bytes ≤ 65536) → first_fault (take 65537 bytes) ≡ first_fault bytes
    by_cases (inr within) = ap first_fault (take_all 65537 bytes (omega arith))
    by_cases (inl over) =
        too_long (take 65537 bytes) (omega (arith, length-take 65537 bytes)) ∙ sym (too_long bytes over)

-- what was read of bytes is all of them, if it is within the limit
pub take-within : (bytes : List ℕ) → length (take 65537 bytes) ≤ 65536 → take 65537 bytes ≡ bytes
take-within bytes within = take_all 65537 bytes (omega (arith, length-take 65537 bytes, within))

-- what is refused of what was read stops a request for a script
pub fault_stops : (known left : Option (List ℕ)) (r : Request) (text : List ℕ) (t : Trouble) → AsksOfScript r
    → IfSome known (λ bytes. text ≡ take 65537 bytes) → IsRefused text t → Stops t r known left
fault_stops known left r text (troubles.Script line reason) asks read fault =
    (asks, IfSome_then known read (λ bytes e. sym (first_fault-take bytes) ∙ ap first_fault (sym e) ∙ fault))
fault_stops known left r text troubles.Memory asks read fault = tt
fault_stops known left r text troubles.Usage asks read fault = absurd fault
fault_stops known left r text troubles.Input asks read fault = absurd fault
fault_stops known left r text troubles.Output asks read fault = absurd fault

-- a script that was read is all that was there
pub script_is_all : (known : Option (List ℕ)) (s : Script) → IsScript s
    → IfSome known (λ bytes. text_of s ≡ take 65537 bytes) → IfSome known (λ bytes. bytes ≡ text_of s)
script_is_all known s is read =
    let within : length (text_of s) ≤ 65536 = leb-true _ _ is.bytes in
    IfSome_then known read (λ bytes e. sym (e ∙ take-within bytes (subst (λ (t : List ℕ). length t ≤ 65536) e within)))

-- the answer to what was read is one to all that was there
pub answer_is_output : (known : Option (List ℕ)) (text output : List ℕ)
    → IfSome known (λ bytes. text ≡ take 65537 bytes) → IsAnswer 10000000 4294967295 text output
    → IsOutput Run known output
answer_is_output known text output read answer = record {
  text = text;
  read = subst (λ (t : List ℕ). IfSome known (λ bytes. bytes ≡ t)) (sym answer.2) (script_is_all known answer.0 answer.1
      (subst (λ (t : List ℕ). IfSome known (λ bytes. t ≡ take 65537 bytes)) answer.2 read));
  reply = answer;
}

-- and so is the line of its script
pub check_is_output : (known : Option (List ℕ)) (text output : List ℕ) → IfSome known (λ bytes. text ≡ take 65537 bytes)
    → IsCheck text output → IsOutput Check known output
check_is_output known text output read checked = record {
  text = text;
  read = subst (λ (t : List ℕ). IfSome known (λ bytes. bytes ≡ t)) (sym checked.2) (script_is_all known checked.0
      checked.1 (subst (λ (t : List ℕ). IfSome known (λ bytes. t ≡ take 65537 bytes)) checked.2 read));
  reply = checked;
}

-- what a word says is output, whatever was there to be read
pub word_is_output : (known : Option (List ℕ)) (w : ℕ) (output : List ℕ) → Describes w output
    → IsOutput (Word w) known output
word_is_output None w output says = record { text = []; read = tt; reply = says }
word_is_output (Some bytes) w output says = record { text = bytes; read = refl; reply = says }

-- and so is what a word of the earlier layout is today
pub widened_is_output : (known : Option (List ℕ)) (w : ℕ) (output : List ℕ) → SaysWidened w output
    → IsOutput (Widen w) known output
widened_is_output None w output says = record { text = []; read = tt; reply = says }
widened_is_output (Some bytes) w output says = record { text = bytes; read = refl; reply = says }
