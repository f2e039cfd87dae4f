-- The headers of levels go on being known.
use Rattle.std.proofs.Common.{◌≡◌, ◌<◌, ◌++◌, ◌∷◌, ℕ, zero, suc, List, [], length, slice_index_or, subst, arith}
use Rattle.std.proofs.lemmas.List.{length-map}
use Rattle.jr_word.specs.declared.kind.Kind.TheVariants.{Plain}
use Rattle.jr_model.specs.declared.event.Role.TheVariants.{Within}
use Rattle.jr_model.specs.declared.event.Act.{Act}
use Rattle.jr_model.specs.History.{Did, role_of}
use Rattle.jr_steps.specs.declared.known.Known.{Known}
use Rattle.jr_steps.specs.Knowing.{view}
use Rattle.jr_heap.specs.Heap.{HoldsHeader}
use Rattle.jr_heap.specs.Laws.{GoesOnKnowing}
use Rattle.jr_heap.proofs.StayFacts.{NoLeave, object_later}
use Rattle.jr_critical.specs.declared.level.Level.{Level}
use Rattle.jr_critical.specs.declared.levels.Levels.{Levels}
use Rattle.jr_critical.specs.Levels.{AreKnown, objects_of}

abbrev pub blank : Level
blank = record { object = 0; header = record { kind = Plain; length = 0; place = 0 } }

-- the header of the level of a number is known
pub known_at : (levels : List Level) (i : ℕ) (k : Known) → i < length levels → AreKnown levels k
    → HoldsHeader (slice_index_or levels i blank).object (slice_index_or levels i blank).header k
known_at [] i k l a = absurd (omega arith)
known_at (x ∷ xs) zero k l a = a.0
known_at (x ∷ xs) (suc i) k l a = known_at xs i k (omega arith) a.1

-- in a stay the headers hold that the pass goes on knowing
pub known_later : (levels : List Level) (j k : Known) (acts : List Act) → Did (view j) (view k) acts
    → role_of (view j) ≡ Within → NoLeave acts → GoesOnKnowing j k → AreKnown levels j → AreKnown levels k
known_later [] j k acts d within stays go a = tt
known_later (x ∷ xs) j k acts d within stays go a = (
  record {
    known = go x.object x.header a.0.known;
    shown = object_later j k acts d within stays x.object x.header a.0.shown;
  },
  known_later xs j k acts d within stays go a.1,
)

-- the levels before the last
pub known_before : (levels : List Level) (x : Level) (k : Known) → AreKnown (levels ++ x ∷ []) k → AreKnown levels k
known_before [] x k a = tt
known_before (y ∷ ys) x k a = (a.0, known_before ys x k a.1)

-- and one level more
pub known_more : (levels : List Level) (x : Level) (k : Known) → AreKnown levels k → HoldsHeader x.object x.header k
    → AreKnown (levels ++ x ∷ []) k
known_more [] x k a h = (h, tt)
known_more (y ∷ ys) x k a h = (a.0, known_more ys x k a.1 h)

-- there are as many objects as levels
pub is_level : (v : Levels) (i : ℕ) → i < length (objects_of v) → i < length v.levels.items
is_level v i l = subst (λ n. i < n) (length-map v.levels.items (λ (x : Level). x.object)) l
