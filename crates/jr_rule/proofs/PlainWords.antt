-- Plain words: what thread 0 holds there, one operation on them, how they are opened, and the histories that they show.
use Rattle.std.proofs.Common.{◌≡◌, ℕ, List, sym, ap, ◌∙◌, ◌<◌, [], ◌∷◌, ◌++◌, map}
use Rattle.std.proofs.Common.{slice_index, slice_set, refl, subst, ◌^◌, true, arith}
use mathlib.Core.Logic.{dite, ∥∥₁_map}
use native.Mathlib.Decide.{ℕ_discrete}
use Rattle.std.specs.List.{AllByRecursion}
use Rattle.jr_model.specs.declared.event.Act.{Act}
use Rattle.jr_model.specs.History.{History, state, by, IsLegal}
use Rattle.jr_steps.specs.declared.known.Known.{Known}
use Rattle.jr_steps.specs.declared.known.Holdings.{Holdings}
use Rattle.jr_steps.specs.Holdings.{empty, hold}
use Rattle.jr_rule.specs.Sights.{alone, sight_of_words, Depicts, IsOpenedAlone, unseen}
use Rattle.jr_rule.proofs.Images.{image_same}
use Rattle.jr_rule.proofs.Spaces.{hold_here, hold_else}
use Rattle.jr_rule.proofs.LegalSteps.{then, LegalStep}
use Rattle.std.proofs.lemmas.List.{append-nil}
use Rattle.jr_word.specs.declared.config.Config.{Config}
use Rattle.jr_model.proofs.Moments.{prefix_self}
use Rattle.jr_rule.specs.Cells.{IsOwed, IsAmong, StepsTo, HasStepped, IsStanding, stands_at}
use Rattle.jr_rule.specs.Image.{IsImage}
use Rattle.jr_rule.specs.Rule.{IsFound, IsSized, known_at}
use Rattle.jr_rule.proofs.HoldingsInSpace.{holdings_in_space}
use Rattle.jr_model.specs.declared.event.Role.TheVariants.{Outside}
use Rattle.jr_steps.specs.Knowing.{state_of, IsOf}
use Rattle.jr_rule.specs.RowHistories.{IsHistoryOf, HasHistory}

-- what thread 0 holds
pub alone_here : (g : Holdings) (t : ℕ) → t ≡ 0 → alone g t ≡ g
alone_here g t first = ap (alone g) first ∙ hold_here (λ t. empty) 0 g

-- once it holds something else
alone_then : (g g' : Holdings) (t : ℕ) → t ≡ 0 → (u : ℕ) → alone g' u ≡ hold (alone g) t g' u
alone_then g g' t first u = dite (ℕ_discrete u 0)
    (λ e. alone_here g' u e ∙ (sym (hold_here (alone g) t g') ∙ ap (hold (alone g) t g') (first ∙ sym e)))
    (λ ne. hold_else (λ t. empty) 0 u g' ne
    ∙ (sym (hold_else (λ t. empty) 0 u g ne) ∙ sym (hold_else (alone g) t u g' (λ e. ne (e ∙ first)))))

pub turn_alone : (k : Known) (acts : List Act) (words' : List ℕ) (g : Holdings) (t : ℕ) → t ≡ 0
    → LegalStep k.config k.last k.seen k.thread acts words' (hold (alone k.holdings) t g)
    → LegalStep k.config k.last k.seen k.thread acts words' (alone g)
turn_alone k acts words' g t first r = record {
  legal = r.legal;
  image = image_same k.config k.last words' (state (then k.seen k.thread acts)) (hold (alone k.holdings) t g) r.image
      (alone g) (alone_then k.holdings g t first);
}

-- who did all has done so with acts of its own more
did_then : (t : ℕ) (es : History) (acts : List Act) → AllByRecursion (λ e. e.thread ≡ t) es
    → AllByRecursion (λ e. e.thread ≡ t) (es ++ map (by t) acts)
did_then t [] [] all = tt
did_then t [] (a ∷ acts) all = (refl, did_then t [] acts tt)
did_then t (e ∷ es) acts all = (all.0, did_then t es acts all.1)

-- plain words are a row that is found
found : {c : Config} {last : ℕ} {words : List ℕ} → IsSized c last → (k : Known)
    → IsAmong (sight_of_words c last words) k → IsFound k k.seen words (alone k.holdings)
found sized k h = record {
  fits = record {
    same_config = refl;
    same_last = refl;
    row =
        subst (λ (z : Config × ℕ). z.1 < (z.0).threads) (λ j. (sym h.config j, sym h.thread j)) sized.limited.threads.0;
    begins = prefix_self k.seen;
    own = refl;
    holdings = alone_here k.holdings k.thread h.thread;
  };
  legal = h.is.legal;
  sized = subst (λ (z : Config × ℕ). IsSized z.0 z.1) (λ j. (sym h.config j, sym h.last j)) sized;
  image = h.is.image;
}

module _ {c : Config} {last : ℕ} {words words' : List ℕ} {met : Known → Type 0}
    {told : Known → ℕ → List Act → Known → Type 0} {i : ℕ} {f : ℕ → ℕ} (g : ℕ → ℕ) {n : ℕ} (sized : IsSized c last)
    (owed : IsOwed (sight_of_words c last words) met i f (λ k m. told k (g m)))
    (written : words' ≡ slice_set words i (f (slice_index words i))) (is : n ≡ g (slice_index words i)) where
  makes : (k : Known) → IsAmong (sight_of_words c last words) k → met k
      → StepsTo (sight_of_words c last words) (sight_of_words c last words') told n k
  makes k h m =
      let made = owed.owes k h ∣ m ∣₁ k.seen words (alone k.holdings) (found sized k h) in
      let after : Known = known_at k k.seen made.acts made.holdings in
      let t = turn_alone k made.acts words' made.holdings k.thread h.thread
      (record {
        legal = made.legal;
        image =
            subst (λ ws. IsImage k.config k.last ws (state after.seen) (hold (alone k.holdings) k.thread made.holdings))
            (sym written) made.image;
      }) in record {
        new = after;
        acts = made.acts;
        is = record {
          is = record {
            legal = made.legal;
            did_all = did_then k.thread k.seen made.acts h.is.did_all;
            image = t.image;
            space = holdings_in_space k.config k.last after.seen words' (alone made.holdings) made.legal t.image 0
                made.holdings (hold_here (λ u. empty) 0 made.holdings);
          };
          config = h.config;
          last = h.last;
          thread = h.thread;
        };
        goes = record {
          config = refl;
          last = refl;
          thread = refl;
          between = [];
          seen = ap (λ l. l ++ map (by k.thread) made.acts) (sym (append-nil k.seen));
          others = refl;
          legal = made.legal;
          taken = refl;
        };
        says = subst (λ z. told k z made.acts after) (sym is) made.says;
      }

  pub stepped : HasStepped (sight_of_words c last words) (sight_of_words c last words') met told n
  stepped = record { first = refl; makes = makes }

module _ (c : Config) (last : ℕ) (words : List ℕ) where
  module _ (nothing : Depicts words (unseen c last)) where
    nothing_known : Depicts words (unseen c last)
        × IsOf (stands_at (sight_of_words c last words) Outside true) (unseen c last)
    nothing_known = (
      nothing,
      record {
        config = refl;
        last = refl;
        thread = refl;
        role = refl;
        legal = tt;
        unused = λ f p. refl;
      },
    )

    pub opened_standing : 0 < c.slots
        → IsStanding (sight_of_words c last words) Outside true 0
    opened_standing some = record {
      some = ∣ (unseen c last, nothing_known) ∣₁;
      below = some;
    }

    pub opened_alone : IsOpenedAlone c last c words Outside true 0
    opened_alone = record { sizes = refl; role_is = refl; fresh_is = refl; hint_is = refl; nothing = nothing }

  pub seen_history : last < 2 ^ 32 → (k : Known) → IsAmong (sight_of_words c last words) k
      → IsHistoryOf c words k.last k.seen
  seen_history few k h = record {
    few = let e = h.last in omega arith;
    legal = subst (λ (z : Config). IsLegal z k.last k.seen) h.config h.is.legal;
    held = alone k.holdings;
    image = subst (λ (z : Config). IsImage z k.last words (state_of k) (alone k.holdings)) h.config h.is.image;
  }

  pub some_history : last < 2 ^ 32 → ∥ ((k : Known) × IsAmong (sight_of_words c last words) k) ∥₁ → HasHistory c words
  some_history few may = ∥∥₁_map may (λ k. (k.0.last, k.0.seen, seen_history few k.0 k.1))
