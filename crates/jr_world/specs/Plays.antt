-- HOW A PROGRAM IS PLAYED in one legal history: each of its steps at a place of its own, with events of other threads
-- between.
use Rattle.std.specs.Prelude.{◌≡◌, ◌≢◌, ◌≤◌, ℕ, Bool, Option, Some, None, Result, List, [], ◌∷◌}
use Rattle.std.specs.Prelude.{◌++◌, cond, map, length, slice_get, slice_index_or}
use Rattle.std.specs.List.{AllByRecursion}
use mathlib.Core.List.{IsPrefix}
use Rattle.jr_word.specs.declared.config.Config.{Config}
use Rattle.jr_word.specs.declared.fault.Fault.{Fault}
use Rattle.jr_model.specs.declared.event.Role.TheVariants.{Outside}
use Rattle.jr_model.specs.declared.event.Act.{Act}
use Rattle.jr_model.specs.declared.event.Act.TheVariants.{Gate}
use Rattle.jr_model.specs.declared.event.GateAct.TheVariants.{Reopen, Shut}
use Rattle.jr_model.specs.declared.frames.LocalRef.{LocalRef}
use Rattle.jr_model.specs.State.{Handle}
use Rattle.jr_model.specs.Frames.{Agree, AreSound, Frames}
use Rattle.jr_model.specs.History.{History, by, mine, state}
use Rattle.jr_model.specs.Checks.{is_local}
use Rattle.jr_world.specs.World.{Ref}
use Rattle.jr_world.specs.Births.{Births, births}
use Rattle.jr_world.specs.Doing.{Doing, Shared}
use Rattle.jr_world.specs.Doing.Doing.{ended, steps}
use Rattle.jr_world.specs.Board.{IsOnBoard}
use Rattle.one_order.specs.Orders.{Item}
use Rattle.one_order.specs.Orders.Item.{does as acting, posts as posting, hears as hearing}

-- whose a reference is, none where it is a global or a weak one
abbrev pub owner_of_handle : Handle → Option ℕ
owner_of_handle h = cond (is_local h) (Some h.owner) None

-- the numbers of a frame are those of the references in it, which are this thread's
pub data AreNamed (t : ℕ) (refs : List (Handle × Option Ref)) : List ℕ → List LocalRef → Type 0 where
  no_local : AreNamed t refs [] []
  one_local : {is : List ℕ} {rs : List LocalRef} (i : ℕ) (r : LocalRef) (q : Option Ref)
      → slice_get refs i ≡ Some (r.handle, q) → owner_of_handle r.handle ≡ Some t → AreNamed t refs is rs
      → AreNamed t refs (i ∷ is) (r ∷ rs)

pub data AreFrames (t : ℕ) (refs : List (Handle × Option Ref)) : List (List ℕ) → List (List LocalRef) → Type 0 where
  no_frame : AreFrames t refs [] []
  one_frame : {is : List ℕ} {fs : List (List ℕ)} {rs : List LocalRef} {gs : List (List LocalRef)}
      → AreNamed t refs is rs → AreFrames t refs fs gs → AreFrames t refs (is ∷ fs) (rs ∷ gs)

-- each word that was posted is 0, or that of a reference that was born: the word of reference i is i + 1
abbrev pub WereBorn : History → List (List ℕ × ℕ) → Type 0
WereBorn now board = AllByRecursion (λ x. x.1 ≤ length (births now).refs) board

-- A COLLECTION UNDER WAY: the history up to its shut, where its reopening hasn't come; by each event in turn
abbrev pub under_way : History → Option History → Act → Option History
under_way seen shut (Gate Shut) = Some seen
under_way seen shut (Gate Reopen) = None
under_way seen shut _ = shut

abbrev pub sweep_from : History → Option History → History → Option History
sweep_from seen shut [] = shut
sweep_from seen shut (e ∷ es) = sweep_from (seen ++ e ∷ []) (under_way seen shut e.act) es

abbrev pub sweep_of : History → Option History
sweep_of now = sweep_from [] None now

-- what a history shows to all threads: while a collection is under way, no more than up to its shut
abbrev pub open_or : History → Option History → History
open_or now None = now
open_or now (Some shut) = shut

abbrev pub open_part : History → History
open_part now = open_or now (sweep_of now)

-- WHAT IS SHARED STANDS as in the history, for a thread with these frames, with objects and references as here
pub record StandsBy (b : Births) (c : Config) (t : ℕ) (now : History) (f : Frames) (s : Shared) : Type 0 where
  pub objects : s.objects ≡ map (λ e. e.1) b.objects
  pub refs : s.refs ≡ map (λ e. e.1) b.refs
  pub owners : s.owners ≡ map (λ e. owner_of_handle e.0) b.refs
  pub used : s.used ≡ b.used
  pub many : length s.roles ≡ c.threads
  pub roles : (u : ℕ) → slice_index_or s.roles u Outside ≡ (state now).role u
  pub lists : length s.frames ≡ c.threads
  pub frames : AreFrames t b.refs (slice_index_or s.frames t []) f.frames
  pub posted : AllByRecursion (λ x. x.1 ≤ length b.refs) s.board
  pub places : length f.given ≡ c.locals
  pub agreed : Agree t f now
  pub sound : AreSound f

-- .. as the history shows them
abbrev pub SharedStands : Config → ℕ → History → Frames → Shared → Type 0
SharedStands c t now f s = StandsBy (births (open_part now)) c t now f s

-- .. as they were born, where no collection is under way
abbrev pub InStands : Config → ℕ → History → Frames → Shared → Type 0
InStands c t now f s = StandsBy (births now) c t now f s

-- nothing of other threads is changed, and nothing posted
pub record LeavesOthers (t : ℕ) (s s' : Shared) : Type 0 where
  pub frames : (u : ℕ) → u ≢ t → slice_index_or s'.frames u [] ≡ slice_index_or s.frames u []
  pub board : s'.board ≡ s.board

-- a word is posted, and nothing else
pub record Posts (t : ℕ) (n : List ℕ) (w : ℕ) (s s' : Shared) : Type 0 where
  pub frames : (u : ℕ) → slice_index_or s'.frames u [] ≡ slice_index_or s.frames u []
  pub board : s'.board ≡ s.board ++ (n, w) ∷ []

module _ (c : Config) (whole : History) (t : ℕ) where
  -- the history has gone on by events of other threads, so far
  pub record OthersGoOn (past now : History) : Type 0 where
    pub since : History
    pub is : now ≡ past ++ since
    pub others : mine since t ≡ []
    pub begins : IsPrefix now whole

  -- .. and the thread's own next event is this act
  pub record ActsNext (past now : History) (a : Act) : Type 0 where
    pub goes : OthersGoOn past now
    pub next : IsPrefix (now ++ by t a ∷ []) whole

  -- THE PROGRAM IS PLAYED with these acts of the thread, from what was so far and these frames on, before the thread
  -- does what is behind. Each of its steps is taken at a moment to which others' events lead, at an act of the thread
  -- or at none, and leaves what stands then; an act may be unseen; and at last the program has ended with an answer
  -- that is so then, and the thread has these frames
  pub data Plays {A : Type 0} (V : History → Result A Fault → Type 0) (g : Frames) (behind : List (Item Act))
      : Doing A → History → Frames → List (Item Act) → Type 0 where
    has_ended : {past : History} (r : Result A Fault) → V past r → Plays V g behind (ended r) past g []
    moves : {past : History} {f : Frames} {items : List (Item Act)} {more : ℕ → Bool → Shared → Doing A}
        {leaves : ℕ → Bool → Shared → Shared} (luck : Bool) (f' : Frames)
        → ((now : History) (s : Shared) → OthersGoOn past now → SharedStands c t now f s
        → SharedStands c t now f' (leaves t luck s) × LeavesOthers t s (leaves t luck s))
        → ((now : History) (s : Shared) → OthersGoOn past now → SharedStands c t now f s
        → Plays V g behind (more t luck s) now f' items)
        → Plays V g behind (steps more leaves) past f items
    -- a step right before the thread's next act
    waits : {past : History} {f : Frames} {items later : List (Item Act)} {more : ℕ → Bool → Shared → Doing A}
        {leaves : ℕ → Bool → Shared → Shared} (luck : Bool) (a : Act) (f' : Frames)
        → items ++ behind ≡ acting a ∷ later
        → ((now : History) (s : Shared) → ActsNext past now a → SharedStands c t now f s
        → SharedStands c t now f' (leaves t luck s) × LeavesOthers t s (leaves t luck s))
        → ((now : History) (s : Shared) → ActsNext past now a → SharedStands c t now f s
        → Plays V g behind (more t luck s) now f' items)
        → Plays V g behind (steps more leaves) past f items
    does : {past : History} {f : Frames} {items : List (Item Act)} {more : ℕ → Bool → Shared → Doing A}
        {leaves : ℕ → Bool → Shared → Shared} (luck : Bool) (a : Act) (f' : Frames)
        → ((now : History) (s : Shared) → ActsNext past now a → SharedStands c t now f s
        → SharedStands c t (now ++ by t a ∷ []) f' (leaves t luck s) × LeavesOthers t s (leaves t luck s))
        → ((now : History) (s : Shared) → ActsNext past now a → SharedStands c t now f s
        → Plays V g behind (more t luck s) (now ++ by t a ∷ []) f' items)
        → Plays V g behind (steps more leaves) past f (acting a ∷ items)
    unseen : {past : History} {f : Frames} {items : List (Item Act)} {d : Doing A} (a : Act)
        → ((now : History) (s : Shared) → ActsNext past now a → SharedStands c t now f s
        → SharedStands c t (now ++ by t a ∷ []) f s)
        → ((now : History) → ActsNext past now a → Plays V g behind d (now ++ by t a ∷ []) f items)
        → Plays V g behind d past f (acting a ∷ items)
    says : {past : History} {f : Frames} {items : List (Item Act)} {more : ℕ → Bool → Shared → Doing A}
        {leaves : ℕ → Bool → Shared → Shared} (luck : Bool) (n : List ℕ) (w : ℕ)
        → ((now : History) (s : Shared) → OthersGoOn past now → SharedStands c t now f s
        → SharedStands c t now f (leaves t luck s) × Posts t n w s (leaves t luck s))
        → ((now : History) (s : Shared) → OthersGoOn past now → SharedStands c t now f s
        → Plays V g behind (more t luck s) now f items)
        → Plays V g behind (steps more leaves) past f (posting n w ∷ items)
    listens : {past : History} {f : Frames} {items : List (Item Act)} {more : ℕ → Bool → Shared → Doing A}
        {leaves : ℕ → Bool → Shared → Shared} (luck : Bool) (n : List ℕ) (w : ℕ)
        → ((now : History) (s : Shared) → OthersGoOn past now → SharedStands c t now f s → IsOnBoard s.board n w
        → SharedStands c t now f (leaves t luck s) × LeavesOthers t s (leaves t luck s))
        → ((now : History) (s : Shared) → OthersGoOn past now → SharedStands c t now f s → IsOnBoard s.board n w
        → Plays V g behind (more t luck s) now f items)
        → Plays V g behind (steps more leaves) past f (hearing n w ∷ items)
