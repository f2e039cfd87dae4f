-- What a kind of step owes, over any words and any history, and how that is owed at the row as it is found.
use Rattle.std.proofs.Common.{◌≡◌, ℕ, List, [], ◌∷◌, ◌++◌, map, sym, ap, subst}
use Rattle.std.proofs.Common.{◌∙◌, ◌≢◌, get_or, slice_set, eqb, eq-eqb, ne_eqb}
use Rattle.std.proofs.lemmas.List.{append-nil}
use lib.Seq.{set-get_or}
use prog.Atomic.{either}
use Rattle.jr_word.specs.declared.config.Config.{Config}
use Rattle.jr_model.specs.declared.event.Act.{Act}
use Rattle.jr_model.specs.State.{State}
use Rattle.jr_model.specs.Steps.{Needs, after}
use Rattle.jr_model.specs.History.{History, by, state, IsLegal, role_from}
use Rattle.jr_model.proofs.Histories.{state_append, legal_push, state_push, mine_all}
use Rattle.jr_model.proofs.Stays.{role_is_own}
use Rattle.jr_steps.specs.declared.known.Holdings.{Holdings}
use Rattle.jr_steps.specs.declared.known.Known.{Known}
use Rattle.jr_steps.specs.Holdings.{hold}
use Rattle.jr_rule.specs.Image.{IsImage}
use Rattle.jr_rule.specs.Rule.{IsFound, known_at, Makes}
use Rattle.jr_rule.proofs.Images.{image_same}
use Rattle.jr_rule.proofs.Spaces.{hold_same}

-- the history with these acts of thread t at its end
abbrev pub then : History → ℕ → List Act → History
then log t acts = log ++ map (by t) acts

-- the acts are steps of thread t after the history, and the words are then the image, with what the threads hold then
pub record LegalStep (c : Config) (last : ℕ) (log : History) (t : ℕ) (acts : List Act) (words : List ℕ)
    (held : ℕ → Holdings) : Type 0 where
  pub legal : IsLegal c last (then log t acts)
  pub image : IsImage c last words (state (then log t acts)) held

-- the role of thread t afterwards
pub role_then : (log : History) (t : ℕ) (acts : List Act)
    → (state (then log t acts)).role t ≡ role_from ((state log).role t) acts
role_then log t acts =
    ap (λ (s : State). s.role t) (state_append log (map (by t) acts))
    ∙ (role_is_own (state log) (map (by t) acts) t ∙ ap (role_from ((state log).role t)) (mine_all t acts))

module _ (c : Config) (last : ℕ) (log : History) (t : ℕ) (words : List ℕ) (held : ℕ → Holdings)
    (legal : IsLegal c last log) where
  pub one_legal : (a : Act) → Needs c last (state log) (by t a) → IsImage c last words (after (state log) (by t a)) held
      → LegalStep c last log t (a ∷ []) words held
  one_legal a needs image = record {
    legal = (legal_push c last log (by t a)).1 (legal, needs);
    image = subst (λ s. IsImage c last words s held) (sym (state_push log (by t a))) image;
  }

  pub none_legal : IsImage c last words (state log) held → LegalStep c last log t [] words held
  none_legal image = record {
    legal = subst (IsLegal c last) (sym (append-nil log)) legal;
    image = subst (λ l. IsImage c last words (state l) held) (sym (append-nil log)) image;
  }

-- WHAT IS OWED is a legal step and what is told. After this one the thread holds something else
pub gaining : (k : Known) (log : History) (words : List ℕ) (held : ℕ → Holdings) (told : List Act → Known → Type 0)
    (acts : List Act) (g : Holdings) → LegalStep k.config k.last log k.thread acts words (hold held k.thread g)
    → told acts (known_at k log acts g) → Makes k log words held told
gaining k log words held told acts g t says =
    record { acts = acts; holdings = g; legal = t.legal; image = t.image; says = says }

-- after this one each thread holds what it held
pub quiet : (k : Known) (log : History) (words : List ℕ) (held : ℕ → Holdings) → IsFound k log words held
    → (words' : List ℕ) (told : List Act → Known → Type 0) (acts : List Act)
    → LegalStep k.config k.last log k.thread acts words' held → told acts (known_at k log acts k.holdings)
    → Makes k log words' held told
quiet k log words held f words' told acts t says = record {
  acts = acts;
  holdings = k.holdings;
  legal = t.legal;
  image = image_same k.config k.last words' (state (then log k.thread acts)) held t.image
      (hold held k.thread k.holdings) (hold_same held k.thread k.holdings f.fits.holdings);
  says = says;
}

-- the same where the number that was written is named otherwise
pub written : (k : Known) (log : History) (words : List ℕ) (held : ℕ → Holdings) {acts : List Act} (i m n : ℕ) → n ≡ m
    → LegalStep k.config k.last log k.thread acts (slice_set words i m) held
    → LegalStep k.config k.last log k.thread acts (slice_set words i n) held
written k log words held {acts} i m n e t =
    subst (λ z. LegalStep k.config k.last log k.thread acts (slice_set words i z) held) (sym e) t

-- a word that is only read stays
pub unwritten : (k : Known) (log : History) (words : List ℕ) (held : ℕ → Holdings) {acts : List Act} (i : ℕ)
    → LegalStep k.config k.last log k.thread acts words held
    → LegalStep k.config k.last log k.thread acts (slice_set words i (get_or words i 0)) held
unwritten k log words held {acts} i t =
    subst (λ ws. LegalStep k.config k.last log k.thread acts ws held) (sym (set-get_or words i 0)) t

-- the word after an exchange that was won, or lost
pub won : (old new n : ℕ) → n ≡ old → either (eqb n old) new n ≡ new
won old new n e = ap (λ b. either b new n) (eq-eqb n old e)

pub lost : (old new n : ℕ) → n ≢ old → either (eqb n old) new n ≡ n
lost old new n ne = ap (λ b. either b new n) (ne_eqb n old ne)
