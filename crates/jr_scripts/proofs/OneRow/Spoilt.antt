-- TEXTS THAT ARE SPOILT: a line is refused by E16 or E20. What comes behind spoils no less.
use Rattle.std.proofs.Common.{◌≡◌, ◌⊎◌, ◌<◌, ◌+◌, ◌++◌, ℕ, zero, suc, Bool, Result, Ok, Err, List, [], ◌∷◌, length}
use Rattle.std.proofs.Common.{slice_index_or, inl, inr, refl, sym, ap, subst, ◌∙◌, arith, append-nil, append_assoc}
use Rattle.jr_model.proofs.Updates.{at_number}
use Rattle.jr_word.specs.declared.config.Config.{Config}
use Rattle.jr_word.specs.declared.fault.Fault.{Fault}
use Rattle.jr_word.specs.declared.fault.Fault.TheVariants as fault
use Rattle.jr_world.specs.Doing.{Doing, Shared, as_seen, whatever}
use Rattle.jr_world.specs.Doing.Doing.{ended, steps}
use Rattle.jr_world.specs.Schedules.{Machine, run, stepped}
use Rattle.jr_syntax.specs.declared.command.Command.{Command}
use Rattle.jr_syntax.specs.declared.thread.ThreadPart.{ThreadPart}
use Rattle.jr_syntax.specs.declared.script.Script.{Script}
use Rattle.jr_scripts.specs.declared.reply.Reply.{Reply}
use Rattle.jr_scripts.specs.Places.{Place, place_after}
use Rattle.jr_scripts.specs.Posting.{ThreadWords, words_after}
use Rattle.jr_scripts.specs.Text.{ending, heading, printed, refused, text_of_parts}
use Rattle.jr_scripts.specs.Together.{MeansTogether, doing_at, ends_thread, first_machine, lines_from, summary_of}
use Rattle.jr_scripts.specs.OneRow.{IsUndisturbed}
use Rattle.jr_scripts.proofs.OneRow.Follows.{IsSpoilt}

pub record Says (text line : List ℕ) : Type 0 where
  pub before : List ℕ
  pub after : List ℕ
  pub is : text ≡ before ++ line ++ after

abbrev pub IsSpoiltText : List ℕ → Type 0
IsSpoiltText text = (number : ℕ) × (Says text (refused number fault.Memory) ⊎ Says text (refused number fault.Turns))

-- a text says what its last line says
said_behind : (number : ℕ) (e : Fault) (x : Command) (answer : Result Reply Fault) (text : List ℕ) → answer ≡ Err e
    → Says (text ++ printed number x answer) (refused number e)
said_behind number e x answer text is = record {
  before = text;
  after = [];
  is = ap (λ a. text ++ printed number x a) is ∙ sym (append-nil (text ++ refused number e));
}

pub spoilt_line : (number : ℕ) (x : Command) (answer : Result Reply Fault) (text : List ℕ) → IsSpoilt answer
    → IsSpoiltText (text ++ printed number x answer)
spoilt_line number x answer text (inl is) = (number, inl (said_behind number fault.Memory x answer text is))
spoilt_line number x answer text (inr is) = (number, inr (said_behind number fault.Turns x answer text is))

-- what a part of a text says, the whole says
says_in : (front back : List ℕ) {text line : List ℕ} → Says text line → Says (front ++ text ++ back) line
says_in front back {text} {line} says = record {
  before = front ++ says.before;
  after = says.after ++ back;
  is = ap (λ l. front ++ l ++ back) says.is ∙ (ap (λ l. l ++ back)
      (sym (append_assoc front (says.before ++ line) says.after)
      ∙ ap (λ l. l ++ says.after) (sym (append_assoc front says.before line)))
      ∙ append_assoc (front ++ says.before ++ line) says.after back);
}

spoilt_in : (front back : List ℕ) {text : List ℕ} → IsSpoiltText text → IsSpoiltText (front ++ text ++ back)
spoilt_in front back (number, inl says) = (number, inl (says_in front back says))
spoilt_in front back (number, inr says) = (number, inr (says_in front back says))

-- each end of a program is such
abbrev pub EachEnds : {A : Type 0} → (Result A Fault → Type 0) → Doing A → Type 0
EachEnds K (ended r) = K r
EachEnds K (steps more leaves) = (t : ℕ) (luck : Bool) (s : Shared) → EachEnds K (more t luck s)

pub each_then : {A B : Type 0} (K : Result B Fault → Type 0) (d : Doing A) (next : Result A Fault → Doing B)
    → ((r : Result A Fault) → EachEnds K (next r)) → EachEnds K (whatever d next)
each_then K (ended r) next all = all r
each_then K (steps more leaves) next all = λ t luck s. each_then K (more t luck s) next all

-- A THREAD'S TEXT IS SPOILT, however it ends
abbrev pub IsSpoiltEnd : Result (List ℕ) Fault → Type 0
IsSpoiltEnd r = (text : List ℕ) × (r ≡ Ok text) × IsSpoiltText text

pub lines_spoilt : (c : Config) (turns : ℕ) (p : Place) (words : ThreadWords) (line : ℕ) (text : List ℕ)
    (xs : List Command) → IsSpoiltText text → EachEnds IsSpoiltEnd (lines_from c turns p words line text xs)
lines_spoilt c turns p words line text [] spoilt = each_then IsSpoiltEnd
    (ends_thread c turns p.names words p.objects) (λ answer. ended (Ok text)) (λ answer. (text, refl, spoilt))
lines_spoilt c turns p words line text (x ∷ xs) spoilt = each_then IsSpoiltEnd
    (doing_at c turns p words p.objects x) (λ answer. lines_from c turns (place_after x answer p)
    (words_after p.names x answer words) (line + 1) (text ++ printed line x answer) xs)
    (λ answer. lines_spoilt c turns (place_after x answer p) (words_after p.names x answer words) (line + 1)
    (text ++ printed line x answer) xs (spoilt_in [] (printed line x answer) spoilt))

pub record SpoiltBy (threads : ℕ) (m : Machine (List ℕ)) : Type 0 where
  pub thread : ℕ
  pub is_one : thread < threads
  pub spoilt : EachEnds IsSpoiltEnd (m.programs thread)

pub spoilt_stepped : (threads t : ℕ) (luck : Bool) (m : Machine (List ℕ)) → SpoiltBy threads m
    → SpoiltBy threads (stepped m t luck (m.programs t))
spoilt_stepped threads t luck m by = go (m.programs t) refl
  where
    go : (d : Doing (List ℕ)) → m.programs t ≡ d → SpoiltBy threads (stepped m t luck d)
    go (ended r) is = by
    go (steps more leaves) is = record {
      thread = by.thread;
      is_one = by.is_one;
      spoilt = at_number (EachEnds IsSpoiltEnd) m.programs t by.thread (more t luck m.shared)
          (λ same. subst (EachEnds IsSpoiltEnd) (ap (λ u. m.programs u) (sym same) ∙ is) by.spoilt t luck m.shared)
          (λ other. by.spoilt);
    }

pub spoilt_run : (threads : ℕ) (schedule : List (ℕ × Bool)) (m : Machine (List ℕ)) → SpoiltBy threads m
    → SpoiltBy threads (run schedule m)
spoilt_run threads [] m by = by
spoilt_run threads (x ∷ xs) m by =
    spoilt_run threads xs (stepped m x.0 x.1 (m.programs x.0)) (spoilt_stepped threads x.0 x.1 m by)

-- a thread's text stands in that of all
parts_spoilt : (parts : List ThreadPart) (lines : List (List ℕ)) (t : ℕ) → length lines ≡ length parts
    → t < length lines → IsSpoiltText (slice_index_or lines t []) → IsSpoiltText (text_of_parts parts lines)
parts_spoilt parts [] t long less spoilt = absurd (omega arith)
parts_spoilt [] (l ∷ ls) t long less spoilt = absurd (omega arith)
parts_spoilt (p ∷ ps) (l ∷ ls) zero long less spoilt = spoilt_in (heading p.name) (text_of_parts ps ls) spoilt
parts_spoilt (p ∷ ps) (l ∷ ls) (suc t) long less spoilt = subst IsSpoiltText
    (append-nil (text_of_parts (p ∷ ps) (l ∷ ls)))
    (spoilt_in (heading p.name ++ l) [] (parts_spoilt ps ls t (omega arith) (omega arith) spoilt))

-- a spoilt text isn't undisturbed
disturbs : (text : List ℕ) → IsUndisturbed text → IsSpoiltText text → ⊥
disturbs text undisturbed (number, inl says) = (undisturbed number says.before says.after).0 says.is
disturbs text undisturbed (number, inr says) = (undisturbed number says.before says.after).1 says.is

-- then the text of all is disturbed
pub none_spoilt : (turns : ℕ) (s : Script) (text : List ℕ) → (means : MeansTogether turns s text)
    → IsUndisturbed text → (r : Machine (List ℕ)) → r ≡ run means.schedule (first_machine turns s)
    → SpoiltBy s.config.threads r → length s.threads ≡ s.config.threads → ⊥
none_spoilt turns s text means undisturbed r is by long = disturbs text undisturbed (subst IsSpoiltText
    (sym means.text_is) (spoilt_in [] (ending (summary_of (as_seen 0 (run means.schedule
    (first_machine turns s)).shared))) (parts_spoilt s.threads means.lines by.thread means.one_each
    (let one = means.one_each in let less = by.is_one in omega arith) own)))
  where
    own : IsSpoiltText (slice_index_or means.lines by.thread [])
    own = let end = subst (EachEnds IsSpoiltEnd)
        (ap (λ (m : Machine (List ℕ)). m.programs by.thread) is ∙ means.ended_all by.thread by.is_one) by.spoilt in
        let same : slice_index_or means.lines by.thread [] ≡ end.0 = let is = end.1 in cc in
        subst IsSpoiltText (sym same) end.2
