-- The last frame, by its number.
use Rattle.std.proofs.Common.{◌≡◌, ◌∷◌, [], ℕ, zero, suc, List, length, slice_set, refl, sym, ap, ◌∙◌, arith}
use Rattle.jr_model.specs.declared.frames.LocalRef.{LocalRef}
use Rattle.jr_model.specs.State.{Handle}
use Rattle.jr_model.specs.Frames.{Frames, last_frame, frames_before}
use Rattle.jr_frames.specs.Table.{TakesOldest, TakesOldestOf, frame_at, without_oldest}

pub last_at : (fs : List (List LocalRef)) (k : ℕ) → suc k ≡ length fs → last_frame fs ≡ frame_at fs k
last_at [] k e = absurd (omega arith)
last_at (x ∷ []) zero e = refl
last_at (x ∷ []) (suc k) e = absurd (omega arith)
last_at (x ∷ y ∷ xs) zero e = absurd (omega arith)
last_at (x ∷ y ∷ xs) (suc k) e = last_at (y ∷ xs) k (omega arith)

last_set : (fs : List (List LocalRef)) (k : ℕ) (rs : List LocalRef) → suc k ≡ length fs
    → last_frame (slice_set fs k rs) ≡ rs
last_set [] k rs e = absurd (omega arith)
last_set (x ∷ []) zero rs e = refl
last_set (x ∷ []) (suc k) rs e = absurd (omega arith)
last_set (x ∷ y ∷ xs) zero rs e = absurd (omega arith)
last_set (x ∷ y ∷ xs) (suc zero) rs e = last_set (y ∷ xs) zero rs (omega arith)
last_set (x ∷ y ∷ xs) (suc (suc k)) rs e = last_set (y ∷ xs) (suc k) rs (omega arith)

before_set : (fs : List (List LocalRef)) (k : ℕ) (rs : List LocalRef) → suc k ≡ length fs
    → frames_before (slice_set fs k rs) ≡ frames_before fs
before_set [] k rs e = absurd (omega arith)
before_set (x ∷ []) zero rs e = refl
before_set (x ∷ []) (suc k) rs e = absurd (omega arith)
before_set (x ∷ y ∷ xs) zero rs e = absurd (omega arith)
before_set (x ∷ y ∷ xs) (suc zero) rs e = ap (λ l. x ∷ l) (before_set (y ∷ xs) zero rs (omega arith))
before_set (x ∷ y ∷ xs) (suc (suc k)) rs e = ap (λ l. x ∷ l) (before_set (y ∷ xs) (suc k) rs (omega arith))

pub takes_last : (f : Frames) (k : ℕ) (h : Handle) → suc k ≡ length f.frames → TakesOldestOf f k h → TakesOldest f h
takes_last f k h e takes = record {
  rest = ap last_frame takes
      ∙ (last_set f.frames k (without_oldest (frame_at f.frames k)) e ∙ ap without_oldest (sym (last_at f.frames k e)));
  before = ap frames_before takes ∙ before_set f.frames k (without_oldest (frame_at f.frames k)) e;
}
