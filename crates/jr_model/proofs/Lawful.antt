-- What the laws over all calls ask of each: it moves the frames, changes nothing where it
-- is refused, and shows why; what a program doesn't do: it leaves no gate; and how that is put together from its parts.
use Rattle.std.proofs.Common.{◌≡◌, ◌≢◌, ℕ, true, List, [], ◌∷◌, ◌++◌, None, Result, Ok, Err, refl, sym, ap, subst, ◌∙◌}
use Rattle.std.proofs.lemmas.List.{append-nil}
use Rattle.std.specs.List.{AllByRecursion}
use Rattle.jr_word.specs.declared.fault.Fault.{Fault}
use Rattle.jr_word.specs.declared.fault.Fault.TheVariants.{Barred, ObjectsFull}
use Rattle.jr_model.specs.declared.event.Act.{Act}
use Rattle.jr_model.specs.declared.event.Act.TheVariants.{Gate, Reserve, ReserveLost}
use Rattle.jr_model.specs.declared.event.GateAct.TheVariants.{Enter, Knock, Leave, Withdraw}
use Rattle.jr_model.specs.Frames.{Frames, LeadsTo, stays, goes_on}
use Rattle.jr_model.specs.Calls.{Call, ◌>>=◌, act, done, entered, opened, some_act, unless_memory_for}
use Rattle.jr_model.specs.Moves.{MovesFrames}
use Rattle.jr_model.specs.RefusedCalls.{is_harmless, may_precede, ChangesNothing}
use Rattle.jr_model.proofs.Exactly.{append_all}
use Rattle.jr_model.proofs.Composed.{Going, Gives, Never, act_gives, bind_gives, done_gives, entered_gives}
use Rattle.jr_model.proofs.Composed.{memory_gives, opened_gives, some_act_gives, weaker_gives}
use Rattle.jr_model.proofs.ShownRefusals.{LosesOnly, LoseOnly, IsShown, Purpose, shown_before, shown_behind}

-- FRAMES

pub leads_then : {last thread : ℕ} {f g h : Frames} → LeadsTo last thread f g → LeadsTo last thread g h
    → LeadsTo last thread f h
leads_then p stays = p
leads_then p (goes_on q m) = goes_on (leads_then p q) m

pub same_leads : {last thread : ℕ} {f g : Frames} → g ≡ f → LeadsTo last thread f g
same_leads {last} {thread} {f} e = subst (LeadsTo last thread f) (sym e) stays

-- ACTS

-- all of the acts change nothing
abbrev pub AreHarmless : List Act → Type 0
AreHarmless acts = AllByRecursion (λ a. is_harmless a ≡ true) acts

-- they may come before this refusal
abbrev pub Precede : Fault → List Act → Type 0
Precede e acts = AllByRecursion (λ a. may_precede e a ≡ true) acts

precedes : (e : Fault) (a : Act) → is_harmless a ≡ true → may_precede e a ≡ true
precedes ObjectsFull (Reserve n) h = refl
precedes ObjectsFull a h = h
precedes e a h = h

pub all_precede : (e : Fault) (acts : List Act) → AreHarmless acts → Precede e acts
all_precede e [] h = tt
all_precede e (a ∷ acts) h = (precedes e a h.0, all_precede e acts h.1)

-- none of them is an exit
abbrev pub NoLeave : List Act → Type 0
NoLeave acts = AllByRecursion (λ a. a ≢ Gate Leave) acts

-- an act within a stay: no exit, and no reservation that was lost
abbrev pub IsInside : Act → Type 0
IsInside (ReserveLost n l f) = ⊥
IsInside (Gate Leave) = ⊥
IsInside _ = Unit {0}

inside_parts : (a : Act) → IsInside a → LosesOnly None a × (a ≢ Gate Leave)
inside_parts (ReserveLost n l f) is = absurd is
inside_parts (Gate Leave) is = absurd is
inside_parts _ is = (tt, λ e. cc)

-- what holds of a call's acts by that
pub inside_all : (acts : List Act) → AllByRecursion IsInside acts → LoseOnly None acts × NoLeave acts
inside_all [] inside = (tt, tt)
inside_all (a ∷ acts) inside =
    let one = inside_parts a inside.0 in let rest = inside_all acts inside.1 in ((one.0, rest.0), (one.1, rest.1))

-- WHAT A PART OR A CALL GIVES

-- where a call goes on that changes nothing
pub record Quiet (old : Frames) (acts : List Act) (new : Frames) : Type 0 where
  pub same : new ≡ old
  pub harmless : AreHarmless acts
  pub lose : LoseOnly None acts
  pub stays : NoLeave acts

-- where a call goes on that moves the frames
pub record Moved (Are : List Act → Type 0) (last thread : ℕ) (old : Frames) (acts : List Act)
    (new : Frames) : Type 0 where
  pub leads : LeadsTo last thread old new
  pub lose : LoseOnly None acts
  pub are : Are acts

-- where a call is refused: it changed nothing, and shows why
pub record Refused (Are : List Act → Type 0) (asked : Purpose) (old : Frames) (acts : List Act) (e : Fault)
    (new : Frames) : Type 0 where
  pub same : new ≡ old
  pub before : Precede e acts
  pub shown : IsShown asked e acts
  pub are : Are acts

-- what comes before anything is changed
abbrev pub IsPrelude : {A : Type 0} → Purpose → Call A → Type 0
IsPrelude asked call = Gives Quiet (Refused NoLeave asked) call

-- what a call does within its stay
abbrev pub IsWork : {A : Type 0} → Purpose → ℕ → ℕ → Call A → Type 0
IsWork asked last thread call = Gives (Moved NoLeave last thread) (Refused NoLeave asked) call

-- work that is not refused
abbrev pub IsSure : {A : Type 0} → ℕ → ℕ → Call A → Type 0
IsSure last thread call = Gives (Moved NoLeave last thread) Never call

-- whatever the acts are
abbrev pub AnyActs : List Act → Type 0
AnyActs acts = Unit {0}

-- A CALL BY THE LAWS
abbrev pub IsLawful : {A : Type 0} → Purpose → ℕ → ℕ → Call A → Type 0
IsLawful asked last thread call = Gives (Moved AnyActs last thread) (Refused AnyActs asked) call

-- no act, and the frames as they were
abbrev pub Still : Going
Still old acts new = (acts ≡ []) × (new ≡ old)

both_quiet : (f g h : Frames) (xs ys : List Act) → Quiet f xs g → Quiet g ys h
    → Quiet f (xs ++ ys) h
both_quiet f g h xs ys p q = record {
  same = q.same ∙ p.same;
  harmless = append_all (λ a. is_harmless a ≡ true) xs ys p.harmless q.harmless;
  lose = append_all (LosesOnly None) xs ys p.lose q.lose;
  stays = append_all (λ a. a ≢ Gate Leave) xs ys p.stays q.stays;
}

module _ {last thread : ℕ} where
  pub quiet_moved : (f g h : Frames) (xs ys : List Act) → Quiet f xs g
      → Moved NoLeave last thread g ys h → Moved NoLeave last thread f (xs ++ ys) h
  quiet_moved f g h xs ys p q = record {
    leads = leads_then (same_leads p.same) q.leads;
    lose = append_all (LosesOnly None) xs ys p.lose q.lose;
    are = append_all (λ a. a ≢ Gate Leave) xs ys p.stays q.are;
  }

  pub both_moved : (f g h : Frames) (xs ys : List Act) → Moved NoLeave last thread f xs g
      → Moved NoLeave last thread g ys h → Moved NoLeave last thread f (xs ++ ys) h
  both_moved f g h xs ys p q = record {
    leads = leads_then p.leads q.leads;
    lose = append_all (LosesOnly None) xs ys p.lose q.lose;
    are = append_all (λ a. a ≢ Gate Leave) xs ys p.are q.are;
  }

  -- work, and then what is not refused
  pub surely : {A B : Type 0} {Bad : Frames → List Act → Fault → Frames → Type 0} {first : Call A} {next : A → Call B}
      → Gives (Moved NoLeave last thread) Bad first → ((x : A) → IsSure last thread (next x))
      → Gives (Moved NoLeave last thread) Bad (first >>= next)
  surely p q = bind_gives (record { joins = both_moved; behind = λ f g h xs ys e moved never. absurd never }) p q

  -- a call, and then an answer
  pub answered : {A B : Type 0} {Are : List Act → Type 0} {Bad : Frames → List Act → Fault → Frames → Type 0}
      {first : Call A} → Gives (Moved Are last thread) Bad first → (f : A → B)
      → Gives (Moved Are last thread) Bad (first >>= (λ x. done (f x)))
  answered {Are = Are} {Bad = Bad} p form = bind_gives {Second = Still} {Worse = Never}
      (record { joins = joins; behind = λ f g h xs ys e moved never. absurd never }) p (λ x.
      done_gives (form x) (λ f. (refl, refl)))
    where
      joins : (f g h : Frames) (xs ys : List Act) → Moved Are last thread f xs g → Still g ys h
          → Moved Are last thread f (xs ++ ys) h
      joins f g h xs ys moved still =
          subst (λ l. Moved Are last thread f l h) (sym (ap (λ l. xs ++ l) still.0 ∙ append-nil xs))
          (subst (Moved Are last thread f xs) (sym still.1) moved)

  -- the frames are led on by such acts
  pub moved : {old new : Frames} {acts xs : List Act} → AllByRecursion IsInside xs → acts ≡ xs
      → LeadsTo last thread old new → Moved NoLeave last thread old acts new
  moved {xs = xs} inside is leads = let all = inside_all xs inside in
      record { leads = leads; lose = subst (LoseOnly None) (sym is) all.0; are = subst NoLeave (sym is) all.1 }

module _ {asked : Purpose} where
  pub quiet_refused : (f g h : Frames) (xs ys : List Act) (e : Fault) → Quiet f xs g
      → Refused NoLeave asked g ys e h → Refused NoLeave asked f (xs ++ ys) e h
  quiet_refused f g h xs ys e p q = record {
    same = q.same ∙ p.same;
    before = append_all (λ a. may_precede e a ≡ true) xs ys (all_precede e xs p.harmless) q.before;
    shown = shown_behind asked e xs ys p.lose q.shown;
    are = append_all (λ a. a ≢ Gate Leave) xs ys p.stays q.are;
  }

  -- one prelude and then another
  pub bind_prelude : {A B : Type 0} {first : Call A} {next : A → Call B} → IsPrelude asked first
      → ((x : A) → IsPrelude asked (next x)) → IsPrelude asked (first >>= next)
  bind_prelude p q = bind_gives (record { joins = both_quiet; behind = quiet_refused }) p q

  -- it was refused in a stay of its own
  refused_in_stay : (f g : Frames) (xs : List Act) (e : Fault) → Refused NoLeave asked f xs e g
      → Refused AnyActs asked f (Gate Enter ∷ xs ++ Gate Leave ∷ []) e g
  refused_in_stay f g xs e q = record {
    same = q.same;
    before = append_all (λ a. may_precede e a ≡ true) (Gate Enter ∷ xs) (Gate Leave ∷ [])
        (precedes e (Gate Enter) refl, q.before) (precedes e (Gate Leave) refl, tt);
    shown = shown_behind asked e (Gate Enter ∷ []) (xs ++ Gate Leave ∷ []) (tt, tt)
        (shown_before asked e xs (Gate Leave ∷ []) (tt, tt) q.shown);
    are = tt;
  }

  barred : (f : Frames) → Refused AnyActs asked f (Gate Knock ∷ Gate Withdraw ∷ []) Barred f
  barred f = record {
    same = refl;
    before = (refl, (refl, tt));
    shown = (([], Gate Withdraw ∷ [], refl), (tt, (tt, tt)), tt);
    are = tt;
  }

module _ {asked : Purpose} {last thread : ℕ} where
  pub prelude : {A : Type 0} {call : Call A} → IsPrelude asked call → IsWork asked last thread call
  prelude p =
      weaker_gives (λ f g xs q. record { leads = same_leads q.same; lose = q.lose; are = q.stays }) (λ f g xs e q. q) p

  pub sure : {A : Type 0} {call : Call A} → IsSure last thread call → IsWork asked last thread call
  sure p = weaker_gives (λ f g xs q. q) (λ f g xs e never. absurd never) p

  -- a prelude, and then work
  pub before : {A B : Type 0} {first : Call A} {next : A → Call B} → IsPrelude asked first
      → ((x : A) → IsWork asked last thread (next x)) → IsWork asked last thread (first >>= next)
  before p q = bind_gives (record { joins = quiet_moved; behind = quiet_refused }) p q

  -- an act that is not refused
  pub one_act : (a : Act) → IsInside a → IsWork asked last thread (act a)
  one_act a inside = act_gives a (λ f. moved (inside, tt) refl stays)

  pub some_act_of : {X : Type 0} (a : X → Act) → ((x : X) → IsInside (a x))
      → IsWork asked last thread (some_act a)
  some_act_of a inside = some_act_gives a (λ x f. moved (inside x, tt) refl stays)

  pub in_memory : {A : Type 0} {work : Call A} (n : ℕ) → IsWork asked last thread work
      → IsWork asked last thread (unless_memory_for n work)
  in_memory n p = memory_gives n (λ f. record { same = refl; before = tt; shown = (tt, tt, tt); are = tt }) p

  -- WHOLE CALLS

  -- a call that has no stay of its own
  pub outside : {A : Type 0} {call : Call A} → IsWork asked last thread call → IsLawful asked last thread call
  outside p = weaker_gives (λ f g xs q. record { leads = q.leads; lose = q.lose; are = tt })
      (λ f g xs e q. record { same = q.same; before = q.before; shown = q.shown; are = tt }) p

  pub in_stay : {A : Type 0} {work : Call A} → IsWork asked last thread work → IsLawful asked last thread (entered work)
  in_stay p = entered_gives
      (λ f g xs q. record {
        leads = q.leads;
        lose = append_all (LosesOnly None) (Gate Enter ∷ xs) (Gate Leave ∷ []) (tt, q.lose) (tt, tt);
        are = tt;
      }) refused_in_stay barred p

  pub in_region : {A : Type 0} {work : Call A} → IsWork asked last thread work
      → IsLawful asked last thread (opened work)
  in_region p = opened_gives (λ f g xs q.
      record { leads = q.leads; lose = (tt, q.lose); are = tt })
      refused_in_stay barred p

  -- WHAT IT IS BY EACH LAW

  pub moves : {A : Type 0} {call : Call A} → IsLawful asked last thread call → MovesFrames last thread call
  moves {A} {call} p = record { leads = leads }
    where
      leads : (old new : Frames) (acts : List Act) (answer : Result A Fault) → call old acts answer new
          → LeadsTo last thread old new
      leads old new acts (Ok x) r = (p.goes old new acts x r).leads
      leads old new acts (Err e) r = same_leads (p.fails old new acts e r).same

  pub safe : {A : Type 0} {call : Call A} → IsLawful asked last thread call → ChangesNothing call
  safe p = record {
    frames = λ old new acts e r. (p.fails old new acts e r).same;
    acts = λ old new acts e r. (p.fails old new acts e r).before;
  }

  pub work_stays : {A : Type 0} {call : Call A} → IsWork asked last thread call
      → (old new : Frames) (acts : List Act) (answer : Result A Fault) → call old acts answer new → NoLeave acts
  work_stays p old new acts (Ok x) r = (p.goes old new acts x r).are
  work_stays p old new acts (Err e) r = (p.fails old new acts e r).are
