use Rattle.std.proofs.Common.{◌≡◌, ◌-◌, ◌≤◌, ℕ, suc, [], length, IfSome, IfNone}
use Rattle.std.proofs.Common.{Option, Some, None, sym, ap, subst, ◌∙◌, arith}
use Rattle.jr_model.specs.State.{Handle}
use Rattle.jr_frames.specs.Table.{TakesOldest, oldest_handle}
use Rattle.jr_frames.proofs.LastFrame.{last_at, takes_last}
use Rattle.jr_frames.proofs.frames.Frames.oldest_of_newest.Goals as goal

some_more : (P Q : Handle → Type 0) → ((h : Handle) → P h → Q h) → (r : Option Handle) → IfSome r P → IfSome r Q
some_more P Q f (Some h) p = f h p
some_more P Q f None p = tt

number_is : (depth frames : ℕ) → depth ≡ frames → 1 ≤ frames → suc (depth - 1) ≡ frames
number_is depth frames e l = omega arith

number : (c : goal.After-oldest_of) → suc (c.depth.result - 1) ≡ length c.args.self.now.frames.frames
number c = number_is c.depth.result _ c.depth.ensures c.are_sound.ensures.some_frame

pub returns-clause-oldest : goal.returns-clause-oldest
returns-clause-oldest c = c.oldest_of.ensures.oldest
    ∙ ap oldest_handle (sym (last_at c.args.self.now.frames.frames (c.depth.result - 1) (number c)))

pub returns-clause-empty : goal.returns-clause-empty
returns-clause-empty c = subst (λ rs. IfNone c.oldest_of.result (rs ≡ []))
    (sym (last_at c.args.self.now.frames.frames (c.depth.result - 1) (number c))) c.oldest_of.ensures.empty

pub returns-clause-rest : goal.returns-clause-rest
returns-clause-rest c = some_more _ (TakesOldest c.args.self.now.frames) (λ h takes. takes_last c.args.self.now.frames
    (c.depth.result - 1) h (number c) takes) c.oldest_of.result c.oldest_of.ensures.rest
