-- Marked means reached, once roots and arrays are marked.
use Rattle.std.proofs.Common.{◌≡◌, ◌≤◌, ◌+◌, ◌*◌, ℕ, Bool, Option, List, sym, ap, ◌∙◌, arith}
use mathlib.Core.Logic.{∥∥₁_map}
use Rattle.jr_word.specs.declared.config.Config.{Config}
use Rattle.jr_model.specs.declared.event.Role.TheVariants.{Collecting}
use Rattle.jr_model.specs.declared.event.Found.{Found}
use Rattle.jr_model.specs.State.{Handle, State, IsReached, from_global, from_local, from_element}
use Rattle.jr_model.proofs.InRoom.{IsInRoom, in_room}
use Rattle.jr_steps.specs.declared.known.Known.{Known}
use Rattle.jr_steps.specs.Knowing.{Facts, AreOf, MayKnow, CanReopen, state_of}
use Rattle.jr_compact.specs.Counting.{SawWithin}
use Rattle.jr_weak.specs.Counting.{marking_steps}
use Rattle.jr_weak.specs.Marks.{IsMarked, HasGlobals, HasLocals, HasElements}
use Rattle.jr_weak.specs.Marking.{IsMarking, IsMarkedNow, MarkedTo, MarksAll}
use Rattle.jr_weak.proofs.Leading.{marked_join}

-- WHAT IS REACHED IS MARKED where the roots are, and with each array what it names
all_reached : (c : Config) (marks : List Bool) (s : State) → IsInRoom c s → HasGlobals marks s → HasLocals marks s
    → HasElements marks s → (o : ℕ) → IsReached s o → IsMarked marks o
all_reached c marks s room g l e o (from_global h kind is p) = g h o kind is
all_reached c marks s room g l e o (from_local t q is p) = l t q o is
all_reached c marks s room g l e o (from_element a i x r is kind at p) =
    e a (all_reached c marks s room g l e a r) i o x is kind at (λ z. let some = (room.objects o p).0 in
    absurd (omega arith))

-- globals and locals are marked
abbrev pub HasRoots : List Bool → Known → Type 0
HasRoots marks k = HasGlobals marks (state_of k) × HasLocals marks (state_of k)

-- and what the arrays name
abbrev pub HasAll : List Bool → Known → Type 0
HasAll marks k = HasRoots marks k × HasElements marks (state_of k)

-- where nothing is marked marking can begin
pub may_begin : {S : Type 0} (facts : S → Facts) (a : S) (marks : List Bool) → ((o : ℕ) → ¬ (IsMarked marks o))
    → MayKnow facts a CanReopen → MayKnow facts a (IsMarking marks)
may_begin facts a marks none may =
    ∥∥₁_map may (λ k. (k.0, k.1, record { sound = λ o m. absurd (none o m); closed = (k.2).0; settled = (k.2).1 }))

-- as many by the sizes of the same room
as_many : (f g : Config → ℕ) (k k' : Known) → k'.config ≡ k.config → f k.config + g k'.config ≤ f k.config + g k.config
as_many f g k k' config = let same = ap g config in omega arith

module _ {S : Type 0} {facts : S → Facts} (fits : AreOf facts) {a b c : S} {m0 m1 m2 : List Bool}
    (collects : (facts a).stands.role ≡ Collecting)
    (globals : MarksAll facts (λ j. j.config.slots) m0 m1 a b HasGlobals)
    (locals : MarksAll facts (λ j. j.config.threads * j.config.locals) m1 m2 b c HasLocals) where
  pub roots_marked : MarkedTo facts (λ j. j.config.slots + j.config.threads * j.config.locals) m0 m2 a c HasRoots
  roots_marked = marked_join fits (λ j. j.config.slots + j.config.threads * j.config.locals) collects globals locals
      (λ k k' same config. as_many (λ c. c.slots) (λ c. c.threads * c.locals) k k' config) (λ k k' s same g l.
      ((λ h o kind is. locals.more o (g h o kind (ap (λ (f : Handle → Found). f h) (sym same.refs) ∙ is))), l))

  pub all_marked : {d : S} {m3 : List Bool} → ((o : ℕ) → ¬ (IsMarked m0 o))
      → MarksAll facts (λ j. j.config.objects + j.config.words) m2 m3 c d HasElements
      → SawWithin facts (λ j. marking_steps j.config) a d CanReopen (λ j k. IsMarkedNow m3 k)
  all_marked {d} {m3} none elements =
      let p : MarkedTo facts (λ j. marking_steps j.config) m0 m3 a d HasAll =
      marked_join fits (λ j. marking_steps j.config) collects roots_marked elements (λ k k' same config.
      as_many (λ c. c.slots + c.threads * c.locals) (λ c. c.objects + c.words) k k' config) (λ k k' s same r e. (
        (
          (λ h o kind is. elements.more o (r.0 h o kind (ap (λ (f : Handle → Found). f h) (sym same.refs) ∙ is))),
          (λ t q o is. elements.more o (r.1 t q o (ap (λ (f : ℕ → ℕ → Option ℕ). f t q) (sym same.locals) ∙ is))),
        ),
        e,
      )) in record {
        stands_is = p.saw.stands_is;
        hint_is = p.saw.hint_is;
        leads = λ k s can.
            let x = p.saw.leads k s (record { sound = λ o m. absurd (none o m); closed = can.0; settled = can.1 }) in
            let m : IsMarking m3 x.0 = x.3.0 in
            let has : HasAll m3 x.0 = x.3.1 in
            let room = in_room (x.0).config (x.0).last (x.0).seen (fits d x.0 x.1).legal in (
              x.0,
              x.1,
              x.2,
              (
                (λ o. (m.sound o, all_reached (x.0).config m3 (state_of x.0) room has.0.0 has.0.1 has.1 o)),
                (m.closed, m.settled),
              ),
            );
      }
