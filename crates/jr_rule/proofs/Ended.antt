-- The end of a room: what is read of a closed row, and what its history is.
use Rattle.std.proofs.Common.{◌≡◌, ◌<◌, ℕ, zero, suc, List, [], ◌∷◌, get_or, sym, ap, subst, ◌∙◌}
use mathlib.Core.Option.{some, some-injective, some-ne-none}
use lib.ListN.{get_elem?}
use Rattle.jr_word.specs.declared.config.Config.{Config}
use Rattle.jr_model.specs.declared.summary.Summary.{Summary}
use Rattle.jr_model.specs.State.{State, opening, summary}
use Rattle.jr_model.specs.Steps.{after}
use Rattle.jr_model.specs.History.{History, state, IsLegal, IsLegalFrom}
use Rattle.jr_rule.specs.declared.rule.View.{View}
use Rattle.jr_rule.specs.declared.rule.Sizes.{Sizes}
use Rattle.jr_rule.specs.Image.{IsImage}
use Rattle.std.specs.List.{AllByRecursion}
use Rattle.jr_model.proofs.KeptLaws.{lawful}
use Rattle.jr_steps.specs.declared.known.Known.{Known}
use Rattle.jr_steps.specs.declared.known.Holdings.{Holdings}
use Rattle.jr_rule.specs.Passes.{SumsUp, EndsAll, IsSeenIn, HasEachPass, HasNoOthers}
use Rattle.jr_rule.specs.Rule.{view_at, sizes, EachFits, Row, Kept}
use Rattle.jr_rule.specs.RowHistories.{IsHistoryOf, HasHistory}

pub read_at : (xs : List ℕ) (i x : ℕ) → get_elem? xs i ≡ some x → get_or xs i 0 ≡ x
read_at [] i x e = absurd (some-ne-none x (sym e))
read_at (y ∷ xs) zero x e = some-injective y x e
read_at (y ∷ xs) (suc i) x e = read_at xs i x e

-- the words of a row that keeps the rule show a history
pub kept_shows : (c : Config) (last : ℕ) (key : Sizes) (r : Row) (words : List ℕ) → key ≡ sizes c last
    → Kept key.last key.config r → r.words ≡ words → HasHistory c words
kept_shows c last key r words is kept same =
    let k = subst (λ (z : Sizes). Kept z.last z.config r) is kept in
    subst (HasHistory c) same
    ∣ (last, k.log, record { few = k.sized.serials; legal = k.legal; held = k.held; image = k.image }) ∣₁

pub seen_in : (c : Config) (last : ℕ) (log : History) (held : ℕ → Holdings) (ks : List Known)
    → EachFits c last log held ks → AllByRecursion (IsSeenIn log) ks
seen_in c last log held [] fit = tt
seen_in c last log held (k ∷ ks) fit =
    (record { begins = (fit.0).begins; own = (fit.0).own }, seen_in c last log held ks fit.1)

-- each event of a legal history is of a thread of the room, and so of one that has its pass
no_others : (c : Config) (last : ℕ) (s : State) (es : History) (ks : List Known) → IsLegalFrom c last s es
    → HasEachPass c ks → HasNoOthers es ks
no_others c last s [] ks legal each = tt
no_others c last s (e ∷ es) ks legal each = (each e.thread (legal.0).0, no_others c last (after s e) es ks legal.1 each)

-- THE END: the history of the rule, whose image the words are, begins with what each of the passes has seen
pub ends_all : (c : Config) (last : ℕ) (key : Sizes) (r : Row) (words : List ℕ) (j : ℕ) (v : View) (k : Known)
    (ks : List Known) (s : Summary) {n : ℕ} → key ≡ sizes c last → Kept key.last key.config r → r.words ≡ words
    → get_elem? r.views j ≡ some v → v ≡ view_at n (k ∷ ks) [] → k.config ≡ c → k.last ≡ last
    → ((n : ℕ) (log : History) → IsHistoryOf c words n log → s ≡ summary c n (state log)) → EndsAll k ks s
ends_all c last key r words j v k ks s is kept same at all room serial counted =
    go (subst (λ (z : Sizes). Kept z.last z.config r) is kept)
  where
    go : Kept last c r → EndsAll k ks s
    go kept =
        let fits : EachFits c last kept.log kept.held (k ∷ ks) =
        subst (λ (w : View). EachFits c last kept.log kept.held w.passes) all (kept.each j v at) in record {
          whole = kept.log;
          legal = subst (λ (z : Config × ℕ). IsLegal z.0 z.1 kept.log) (λ i. (sym room i, sym serial i)) kept.legal;
          lawful = lawful c last kept.log kept.legal;
          first = record { begins = (fits.0).begins; own = (fits.0).own };
          others = seen_in c last kept.log kept.held ks fits.1;
          alone = λ each. no_others c last opening kept.log (k ∷ ks) kept.legal (λ t l.
              each t (subst (λ (d : Config). t < d.threads) (sym room) l));
          is = counted last kept.log (record {
            few = kept.sized.serials;
            legal = kept.legal;
            held = kept.held;
            image = subst (λ ws. IsImage c last ws (state kept.log) kept.held) same kept.image;
          })
              ∙ ap (λ (z : Config × ℕ). summary z.0 z.1 (state kept.log)) (λ i. (sym room i, sym serial i));
        }

-- and of one pass alone
pub ends_one : {k : Known} {ks : List Known} {s : Summary} → EndsAll k ks s → SumsUp k s
ends_one e = record {
  whole = e.whole;
  legal = e.legal;
  lawful = e.lawful;
  begins = e.first.begins;
  own = e.first.own;
  is = e.is;
}
