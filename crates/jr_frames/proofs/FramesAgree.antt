-- Frames that hold, from one thing that was known to the next.
use Rattle.std.proofs.Common.{◌≡◌, ◌==◌, ◌+◌, ℕ, true, cond, slice_index, arith, List}
use Rattle.std.proofs.Common.{[], ◌∷◌, Option, Some, None, refl, sym, ap, ◌∙◌}
use Rattle.std.specs.List.{AllByRecursion}
use Rattle.jr_model.specs.declared.event.Act.{Act}
use Rattle.jr_model.specs.History.{IsLegal, Did}
use Rattle.jr_model.specs.declared.event.Act.TheVariants.{LocalPut, LocalDrop}
use Rattle.jr_model.specs.State.{Handle}
use Rattle.jr_model.specs.Frames.{Frames, IsAdded, object_at, stored_at}
use Rattle.jr_model.proofs.Presence.{named_is_present}
use Rattle.jr_model.proofs.Agreement.{added_given, agree_spared, places_did, places_from, spares_places, stored_did}
use Rattle.jr_steps.specs.declared.known.Known.{Known}
use Rattle.jr_steps.specs.Acts.{act_of_put}
use Rattle.jr_steps.specs.Knowing.{view, state_of, HasObject, Holds}
use Rattle.jr_frames.specs.Table.{IsOnly}

-- the object of a local reference is present
pub local_present : (k : Known) (f : Frames) (p o : ℕ) → IsLegal k.config k.last k.seen → Holds f k
    → object_at f p ≡ Some o → HasObject o k
local_present k f p o l a e = (named_is_present k.config k.last k.seen l).1 k.thread p o (a.locals p ∙ e)

-- frames that hold go on holding
pub holds_did : (k k' : Known) (f : Frames) (acts : List Act) → Did (view k) (view k') acts
    → AllByRecursion (λ a. spares_places a ≡ true) acts → Holds f k → Holds f k'
holds_did k k' f acts d h m = agree_spared f acts d h m

put_at : (l : ℕ → Option ℕ) (p : ℕ) (z : Option ℕ) (q : ℕ)
    → places_from l (act_of_put p z ∷ []) q ≡ cond (p == q) z (l q)
put_at l p (Some o) q = refl
put_at l p None q = refl

-- frames that differ at the place of a store alone, and have counted it, hold after it
holds_put : (k k' : Known) (f g : Frames) (p : ℕ) (z : Option ℕ) → Did (view k) (view k') (act_of_put p z ∷ [])
    → IsOnly f p z g → ((q : ℕ) → slice_index g.given q ≡ slice_index f.given q + stored_at q (act_of_put p z ∷ []))
    → Holds f k → Holds g k'
holds_put k k' f g p z d only counts m = record {
  locals = λ q. ap (λ (l : ℕ → Option ℕ). l q) (places_did (act_of_put p z ∷ []) d)
      ∙ (put_at ((state_of k).locals k.thread) p z q
      ∙ (ap (λ x. cond (p == q) z x) (m.locals q)
      ∙ sym (only q)));
  given = λ q.
      let is = stored_did q (act_of_put p z ∷ []) d in
      let more = counts q in
      let was = m.given q in
      omega arith;
}

-- a reference that went to the frames
pub holds_added : (k k' : Known) {last thread : ℕ} (f g : Frames) (h : Handle) (o : ℕ)
    → Did (view k) (view k') (LocalPut h.index o ∷ [])
    → IsAdded last thread f (record { handle = h; object = o }) g → IsOnly f h.index (Some o) g → Holds f k → Holds g k'
holds_added k k' {last} {thread} f g h o d a only = holds_put k k' f g h.index (Some o) d only
    (added_given last thread f g (record { handle = h; object = o }) a)

-- a reference that went from the frames
pub holds_dropped : (k k' : Known) (f g : Frames) (p : ℕ) → Did (view k) (view k') (LocalDrop p ∷ [])
    → IsOnly f p None g → g.given ≡ f.given → Holds f k → Holds g k'
holds_dropped k k' f g p d only same = holds_put k k' f g p None d only (λ q.
    let is = ap (λ given. slice_index given q) same in
    omega arith)
