-- A row of zeros is the image of the opening.
use Rattle.std.proofs.Common.{◌≡◌, ◌+◌, ℕ, zero, suc, None, List, [], length}
use Rattle.std.proofs.Common.{replicate, get_or, refl, sym, ap, ◌∙◌, arith}
use Rattle.std.proofs.lemmas.List.{length-replicate}
use Rattle.jr_word.specs.declared.config.Config.{Config}
use Rattle.jr_word.specs.declared.slot.SlotParts.TheVariants as slot
use Rattle.jr_word.specs.Config.{row_words}
use Rattle.jr_model.specs.declared.event.Role.TheVariants.{Outside}
use Rattle.jr_model.specs.State.{is_inside, opening}
use Rattle.jr_model.proofs.Counts.{count_all_false}
use Rattle.jr_word.specs.declared.gate.GateState.TheVariants.{Open}
use Rattle.jr_rule.specs.Image.{local_at, unowned, IsImage}
use Rattle.jr_steps.specs.Holdings.{empty}
use Rattle.jr_rule.proofs.HoldingsInSpace.{holdings_in_space}
use Rattle.jr_rule.proofs.Images.{image_same}
use Rattle.jr_rule.proofs.Spaces.{hold_same}
use Rattle.jr_rule.specs.Sights.{Depicts, alone, unseen}

zeros : (n j : ℕ) → ◌≡◌ {A = ℕ} (get_or (replicate n 0) j 0) 0
zeros zero j = refl
zeros (suc n) zero = refl
zeros (suc n) (suc j) = zeros n j

pub all_zero : (words : List ℕ) (n : ℕ) → words ≡ replicate n 0 → (j : ℕ) → get_or words j 0 ≡ 0
all_zero words n e j = ap (λ l. get_or l j 0) e ∙ zeros n j

pub zeros_wide : (words : List ℕ) (n : ℕ) → words ≡ replicate n 0 → length words ≡ n
zeros_wide words n e = ap length e ∙ length-replicate n 0

module _ (config : Config) (last : ℕ) (words : List ℕ) (none : (j : ℕ) → get_or words j 0 ≡ 0) where
  pub opening_image : length words ≡ row_words config → IsImage config last words opening (λ t. empty)
  opening_image wide = record {
    wide = wide;
    gate = record {
      parts = record { count = 0; state = Open };
      word = none 0;
      says = record {
        count = sym (count_all_false config.threads (λ t. is_inside Outside) (λ t l. refl));
        shut = (λ e. absurd cc, λ u. absurd (let e = u.1 in cc));
        announced = (λ e. absurd cc, λ u. absurd (let e = u.1 in cc));
      };
    };
    top = none 1;
    slot = λ i l. record {
      parts = slot.Free 0;
      word = none (2 + i);
      says = record {
        next = 0;
        serials = record { below = λ n l'. absurd (omega arith); above = λ h at l'. refl };
        stands = (λ h at. refl, refl, omega arith);
      };
    };
    local = λ t p l m. none (local_at config t p);
    header = λ o l m. none _;
    moving = None;
    held_by_role = record { each = λ t. refl; still = λ nobody. refl };
    space = record {
      owner = λ x. unowned;
      inside = λ x some. absurd (some refl);
      object = λ o x h a b e. absurd (let z = e in cc);
      low = λ o x h a b e. absurd (let z = e in cc);
      range = λ t p. record { owns = λ j l. absurd (omega arith); reads = λ j l. absurd (omega arith) };
      header = λ t o h e. absurd (let z = e in cc);
    };
  }

  pub depicts_unseen : length words ≡ row_words config → Depicts words (unseen config last)
  depicts_unseen wide = record {
    legal = tt;
    did_all = tt;
    image = image_same config last words opening (λ t. empty) (opening_image wide) (alone empty)
        (hold_same (λ t. empty) 0 empty refl);
    space = holdings_in_space config last [] words (λ t. empty) tt (opening_image wide) 0 empty refl;
  }
