-- What the thread has done when a program has ended, and where it then is.
use Rattle.std.proofs.Common.{◌≡◌, inl, inr, ℕ, false, Result, Ok, Err, IfErr, List, [], ◌∷◌, ◌++◌, map, refl, sym, ap}
use Rattle.std.proofs.Common.{subst, ◌∙◌, append_assoc, append-nil}
use Rattle.std.proofs.lemmas.List.{map-append}
use Rattle.std.specs.List.{AllByRecursion}
use mathlib.Core.List.{IsPrefix}
use Rattle.jr_word.specs.declared.config.Config.{Config}
use Rattle.jr_word.specs.declared.fault.Fault.{Fault}
use Rattle.jr_model.specs.declared.event.Act.{Act}
use Rattle.jr_model.specs.Frames.{Frames}
use Rattle.jr_model.specs.History.{History, by, mine}
use Rattle.jr_model.specs.Calls.{Call}
use Rattle.jr_model.specs.Calls as call
use Rattle.jr_model.specs.Programs.{AnswerKind, AnswerOf}
use Rattle.jr_model.proofs.Histories.{mine_append, mine_push}
use Rattle.jr_world.specs.World.{MeantOf}
use Rattle.jr_world.specs.Doing.{Doing, unless_refused, ◌>>=◌}
use Rattle.jr_world.specs.Plays.{OthersGoOn, Plays}
use Rattle.jr_world.specs.Plays.Plays.{has_ended, moves, waits, does, unseen, says, listens}
use Rattle.jr_world.specs.Playing.{AnsweredBy, SameFault}
use Rattle.jr_world.proofs.InStay.{IsAt, MayRefuse, Scene, StaysOn, Then}
use Rattle.jr_world.proofs.Joining.{joined}
use Rattle.jr_world.proofs.Standing.{Stays, is_of_gate, stays_then, still_within}
use Rattle.one_order.specs.Orders.{Item}
use Rattle.one_order.specs.Orders.Item.{does as acting}

-- the acts among what a thread does
abbrev pub acts_in : List (Item Act) → List Act
acts_in [] = []
acts_in (acting a ∷ items) = a ∷ acts_in items
acts_in (_ ∷ items) = acts_in items

pub acts_in_acting : (acts : List Act) → acts_in (map acting acts) ≡ acts
acts_in_acting [] = refl
acts_in_acting (a ∷ acts) = ap (λ l. a ∷ l) (acts_in_acting acts)

module _ (whole : History) (t : ℕ) where
  -- THE HISTORY HAS COME from one moment to another, with these acts of the thread
  pub record Comes (past later : History) (acts : List Act) : Type 0 where
    pub since : History
    pub is : later ≡ past ++ since
    pub own : mine since t ≡ acts
    pub begins : IsPrefix later whole

module _ {A : Type 0} (c : Config) (whole : History) (t : ℕ) (V : History → Result A Fault → Type 0) (g : Frames)
    (behind : List (Item Act)) (from : History) where
  abbrev Came : List Act → History → Result A Fault → Type 0
  Came acts later r = V later r × Comes whole t from later acts

  -- the same, once others went on
  goes_came : (past now : History) (acts : List Act) → Comes whole t from past acts → OthersGoOn c whole t past now
      → Comes whole t from now acts
  goes_came past now acts came goes = record {
    since = came.since ++ goes.since;
    is = goes.is ∙ ap (λ h. h ++ goes.since) came.is ∙ append_assoc from came.since goes.since;
    own = mine_append came.since goes.since t ∙ ap (λ l. mine came.since t ++ l) goes.others
        ∙ append-nil (mine came.since t) ∙ came.own;
    begins = goes.begins;
  }

  -- and once the thread has done an act
  act_came : (now : History) (a : Act) (acts : List Act) → Comes whole t from now acts
      → IsPrefix (now ++ by t a ∷ []) whole → Comes whole t from (now ++ by t a ∷ []) (acts ++ a ∷ [])
  act_came now a acts came next = record {
    since = came.since ++ by t a ∷ [];
    is = ap (λ h. h ++ by t a ∷ []) came.is ∙ append_assoc from came.since (by t a ∷ []);
    own = mine_push came.since t a ∙ ap (λ l. l ++ a ∷ []) came.own;
    begins = next;
  }

  came_along : {d : Doing A} {past : History} {f : Frames} {items : List (Item Act)} (before all : List Act)
      → before ++ acts_in items ≡ all → Comes whole t from past before → Plays c whole t V g behind d past f items
      → Plays c whole t (Came all) g behind d past f items
  came_along before all is came (has_ended r so) =
      has_ended r (so, subst (Comes whole t from _) (sym (append-nil before) ∙ is) came)
  came_along before all is came (moves luck f' stands goes_on) = moves luck f' stands
      (λ now s goes st. came_along before all is (goes_came _ now before came goes) (goes_on now s goes st))
  came_along before all is came (waits luck a f' next stands goes_on) = waits luck a f' next stands
      (λ now s goes st. came_along before all is (goes_came _ now before came goes.goes) (goes_on now s goes st))
  came_along before all is came (does {items = items} luck a f' stands goes_on) = does luck a f' stands
      (λ now s goes st. came_along (before ++ a ∷ []) all (append_assoc before (a ∷ []) (acts_in items) ∙ is)
      (act_came now a before (goes_came _ now before came goes.goes) goes.next) (goes_on now s goes st))
  came_along before all is came (unseen {items = items} a stands goes_on) = unseen a stands
      (λ now goes. came_along (before ++ a ∷ []) all (append_assoc before (a ∷ []) (acts_in items) ∙ is)
      (act_came now a before (goes_came _ now before came goes.goes) goes.next) (goes_on now goes))
  came_along before all is came (says luck n w stands goes_on) = says luck n w stands
      (λ now s goes st. came_along before all is (goes_came _ now before came goes) (goes_on now s goes st))
  came_along before all is came (listens luck n w stands goes_on) = listens luck n w stands
      (λ now s goes st posted. came_along before all is (goes_came _ now before came goes)
      (goes_on now s goes st posted))

-- WHERE A PROGRAM HAS ENDED, its acts are done
pub comes : {A : Type 0} (c : Config) (whole : History) (t : ℕ) (V : History → Result A Fault → Type 0) (g : Frames)
    (behind : List (Item Act)) (d : Doing A) (past : History) (f : Frames) (acts : List Act) → IsPrefix past whole
    → Plays c whole t V g behind d past f (map acting acts)
    → Plays c whole t (λ later r. V later r × Comes whole t past later acts) g behind d past f (map acting acts)
comes c whole t V g behind d past f acts begins plays =
    came_along c whole t V g behind past [] acts (acts_in_acting acts)
    (record { since = []; is = sym (append-nil past); own = refl; begins = begins }) plays

-- and the call is where only the others are left
module _ (k : Scene) (past later : History) (acts left : List Act) (at : IsAt k past (acts ++ left))
    (none : AllByRecursion (λ a. is_of_gate a ≡ false) acts) (came : Comes k.whole k.thread past later acts) where
  pub stays_since : Stays k.config k.last k.whole k.thread k.legal past later
  stays_since = record {
    since = came.since;
    is = came.is;
    within = still_within k.config k.last k.whole k.thread k.legal k.entry past at.stays;
    none = subst (AllByRecursion (λ a. is_of_gate a ≡ false)) (sym came.own) none;
  }

  pub at_later : IsAt k later left
  at_later = record {
    stays = stays_then k.config k.last k.whole k.thread k.legal k.entry past later at.stays stays_since;
    begins = came.begins;
    own = ap (λ h. mine h k.thread ++ left) came.is
        ∙ ap (λ l. l ++ left) (mine_append past came.since k.thread ∙ ap (λ l. mine past k.thread ++ l) came.own)
        ∙ append_assoc (mine past k.thread) acts left ∙ at.own;
  }

-- ONE PART OF A CALL AND THE REST, where V is what a part answers and the program of its steps
module _ (k : Scene) {X Y : Type 0} (V : Result X Fault → History → Result Y Fault → Type 0)
    (no_refusal : (x : X) (later : History) (e : Fault) → V (Ok x) later (Err e) → ⊥)
    (no_answer : (e : Fault) (later : History) (y : Y) → V (Err e) later (Ok y) → ⊥)
    (same_fault : (e d : Fault) (later : History) → V (Err e) later (Err d) → SameFault e d) where
  -- the part is played, whatever acts are left behind it: none where it is refused
  abbrev pub PartPlays : Call X → Doing Y → History → Frames → Type 0
  PartPlays part d past f = (mid : Frames) (acts left : List Act) (answer : Result X Fault) (behind : List (Item Act))
      → IsAt k past (acts ++ left) → IfErr answer (λ e. left ≡ []) → MayRefuse k behind answer → part f acts answer mid
      → AllByRecursion (λ b. is_of_gate b ≡ false) acts
      × Plays k.config k.whole k.thread (V answer) mid behind d past f (map acting acts)

  module _ (a : AnswerKind) (part : Call X) (rest : X → Call (AnswerOf a)) (d : Doing Y)
      (more : Y → Doing (MeantOf a)) (past : History)
      (f g : Frames) (answer : Result (AnswerOf a) Fault) (behind : List (Item Act)) where
    -- and so is the rest, from each moment at which the part may have ended
    abbrev pub RestPlays : Type 0
    RestPlays = (x : X) (y : Y) (mid : Frames) (later : History) (acts : List Act) → V (Ok x) later (Ok y)
        → StaysOn k past later → IsAt k later acts → rest x mid acts answer g
        → Plays k.config k.whole k.thread (Then k a answer) g behind (more y) later mid (map acting acts)

    pub then_plays : (acts : List Act) → IsAt k past acts → MayRefuse k behind answer → PartPlays part d past f
        → RestPlays
        → call.◌>>=◌ part rest f acts answer g
        → Plays k.config k.whole k.thread (Then k a answer) g behind (d >>= more) past f (map acting acts)
    then_plays acts at may first second (inl (x, mid, front, back, is, one, two)) =
        let here : IsAt k past (front ++ back) = subst (IsAt k past) is at in
        let played = first mid front back (Ok x) (map acting back ++ behind) here tt tt one in
        subst (λ l. Plays k.config k.whole k.thread (Then k a answer) g behind (d >>= more) past f l)
        (sym (ap (map acting) is ∙ map-append acting front back))
        (joined k.config k.whole k.thread (λ later r. V (Ok x) later r × Comes k.whole k.thread past later front)
        (Then k a answer) mid g (unless_refused more) (map acting back) behind (follows here played.0)
        (comes k.config k.whole k.thread (V (Ok x)) mid (map acting back ++ behind) d past f front at.begins played.1))
      where
        follows : IsAt k past (front ++ back) → AllByRecursion (λ b. is_of_gate b ≡ false) front → (later : History)
            (r : Result Y Fault) → V (Ok x) later r × Comes k.whole k.thread past later front
            → Plays k.config k.whole k.thread (Then k a answer) g behind (unless_refused more r) later mid
            (map acting back)
        follows here none later (Ok y) so = second x y mid later back so.0
            (stays_since k past later front back here none so.1) (at_later k past later front back here none so.1) two
        follows here none later (Err e) so = absurd (no_refusal x later e so.0)
    then_plays acts at may first second (inr (e, is, one)) =
        let here : IsAt k past (acts ++ []) = subst (IsAt k past) (sym (append-nil acts)) at in
        let refused : MayRefuse k {A = X} behind (Err e) = subst (λ r. MayRefuse k behind r) is may in
        let played = first g acts [] (Err e) behind here refl refused one in
        subst (λ l. Plays k.config k.whole k.thread (Then k a answer) g behind (d >>= more) past f l)
        (append-nil (map acting acts))
        (joined k.config k.whole k.thread (λ later r. V (Err e) later r × Comes k.whole k.thread past later acts)
        (Then k a answer) g g (unless_refused more) [] behind (follows here played.0)
        (comes k.config k.whole k.thread (V (Err e)) g behind d past f acts at.begins played.1))
      where
        follows : IsAt k past (acts ++ []) → AllByRecursion (λ b. is_of_gate b ≡ false) acts → (later : History)
            (r : Result Y Fault) → V (Err e) later r × Comes k.whole k.thread past later acts
            → Plays k.config k.whole k.thread (Then k a answer) g behind (unless_refused more r) later g []
        follows here none later (Ok y) so = absurd (no_answer e later y so.0)
        follows here none later (Err d') so =
            let then = at_later k past later acts [] here none so.1 in
            has_ended (Err d') (
              then.stays,
              then.begins,
              subst (λ r. AnsweredBy a r later (Err d')) (sym is) (same_fault e d' later so.0),
            )
