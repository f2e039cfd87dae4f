-- Programs that are played in one order of items run together.
use Rattle.std.proofs.Common.{◌≡◌, ◌≢◌, ◌<◌, ◌≤◌, ◌==◌, ℕ, zero, suc, Bool, false, cond, nat_eq, Option, Result}
use Rattle.std.proofs.Common.{List, [], ◌∷◌, ◌++◌, slice_index_or, refl, sym, ap, subst, ◌∙◌, arith, append_assoc}
use Rattle.std.proofs.Common.{append-nil}
use Rattle.std.specs.List.{AllByRecursion}
use mathlib.Core.List.{IsPrefix}
use Rattle.jr_word.specs.declared.config.Config.{Config}
use Rattle.jr_word.specs.declared.fault.Fault.{Fault}
use Rattle.jr_model.specs.declared.event.Act.{Act}
use Rattle.jr_model.specs.declared.event.Event.{Event}
use Rattle.jr_model.specs.declared.frames.LocalRef.{LocalRef}
use Rattle.jr_model.specs.Maps.{update}
use Rattle.jr_model.specs.State.{opening}
use Rattle.jr_model.specs.Frames.{Agree, Frames, stored_at}
use Rattle.jr_model.specs.History.{History, by, mine}
use Rattle.jr_model.proofs.Agreement.{places_are_own, places_from}
use Rattle.jr_model.proofs.Histories.{mine_append}
use Rattle.jr_model.proofs.Updates.{eq_true, eq_false, eq_self, eq_other, at_number_self}
use Rattle.jr_world.specs.Births.{births}
use Rattle.jr_world.specs.Board.{IsOnBoard}
use Rattle.jr_world.specs.Doing.{Doing, Shared}
use Rattle.jr_world.specs.Doing.Doing.{ended, steps}
use Rattle.jr_world.specs.Plays.{AreNamed, AreFrames, OthersGoOn, ActsNext, LeavesOthers, Plays, SharedStands}
use Rattle.jr_world.specs.Plays.{open_part}
use Rattle.jr_world.specs.Plays.AreNamed.{no_local, one_local}
use Rattle.jr_world.specs.Plays.AreFrames.{no_frame, one_frame}
use Rattle.jr_world.specs.Plays.Plays.{has_ended, moves, waits, does, unseen, says, listens}
use Rattle.jr_world.specs.Schedules.{AreHeard, Machine, PlayersRunTo, RunTogether, Runs}
use Rattle.jr_world.specs.Schedules.{board_after, board_from, events_of}
use Rattle.jr_world.specs.Schedules.Runs.{stops, turn}
use Rattle.jr_world.proofs.Births.BornLists.{by_test, entry_stays}
use Rattle.jr_world.proofs.OpenParts.{open_grows}
use Rattle.one_order.specs.Orders.{Item, done_by}
use Rattle.one_order.specs.Orders.Item.{does as acting, posts as posting, hears as hearing}

-- WHAT STANDS FOR A THREAD, AFTER A STEP OF ANOTHER

-- references keep their names as the history goes on
named_later : (u : ℕ) (now since : History) {is : List ℕ} {rs : List LocalRef} → AreNamed u (births now).refs is rs
    → AreNamed u (births (now ++ since)).refs is rs
named_later u now since no_local = no_local
named_later u now since (one_local i r q e own rest) =
    let n = entry_stays now since i r.handle (q, e) in one_local i r n.0 n.1 own (named_later u now since rest)

frames_later : (u : ℕ) (now since : History) {fs : List (List ℕ)} {gs : List (List LocalRef)}
    → AreFrames u (births now).refs fs gs → AreFrames u (births (now ++ since)).refs fs gs
frames_later u now since no_frame = no_frame
frames_later u now since (one_frame here rest) =
    one_frame (named_later u now since here) (frames_later u now since rest)

-- .. so they do as what is shown goes on
pub frames_shown : (u : ℕ) (now since : History) {fs : List (List ℕ)} {gs : List (List LocalRef)}
    → AreFrames u (births (open_part now)).refs fs gs → AreFrames u (births (open_part (now ++ since))).refs fs gs
frames_shown u now since {fs} {gs} frames =
    let more = open_grows now since in
    subst (λ h. AreFrames u (births h).refs fs gs) more.1 (frames_later u (open_part now) more.0 frames)

-- frames agree with a history by what the thread itself did in it
agree_by_own : (u : ℕ) (f : Frames) (now later : History) → mine later u ≡ mine now u → Agree u f now → Agree u f later
agree_by_own u f now later same a = record {
  locals = λ p. ap (λ (l : ℕ → Option ℕ). l p) (places_are_own opening later u
      ∙ (ap (places_from (opening.locals u)) same ∙ sym (places_are_own opening now u))) ∙ a.locals p;
  given = λ p. a.given p ∙ sym (ap (stored_at p) same);
}

keeps_then : {t : ℕ} {s r z : Shared} → LeavesOthers t s r → LeavesOthers t r z → LeavesOthers t s z
keeps_then a b = record { frames = λ u ne. b.frames u ne ∙ a.frames u ne; board = b.board ∙ a.board }

module _ (c : Config) (whole : History) where
  goes_self : (t : ℕ) (now : History) → IsPrefix now whole → OthersGoOn c whole t now now
  goes_self t now begins = record { since = []; is = sym (append-nil now); others = refl; begins = begins }

  -- an event of another thread comes
  goes_more : (u : ℕ) (past now : History) (e : Event) → OthersGoOn c whole u past now → IsPrefix (now ++ e ∷ []) whole
      → e.thread ≢ u → OthersGoOn c whole u past (now ++ e ∷ [])
  goes_more u past now e goes begins ne = record {
    since = goes.since ++ e ∷ [];
    is = ap (λ l. l ++ e ∷ []) goes.is ∙ append_assoc past goes.since (e ∷ []);
    others = mine_append goes.since (e ∷ []) u ∙ (ap (λ l. l ++ mine (e ∷ []) u) goes.others
        ∙ ap (λ z. cond z (e.act ∷ []) []) (eq_other e.thread u ne));
    begins = begins;
  }

  -- what stands for thread t behind its step stands for u
  stands_for : (t u : ℕ) (now later : History) (f k : Frames) (s z : Shared) → OthersGoOn c whole u now later
      → slice_index_or z.frames u [] ≡ slice_index_or s.frames u [] → SharedStands c t later f z
      → SharedStands c u now k s
      → SharedStands c u later k z
  stands_for t u now later f k s z goes same theirs own = record {
    objects = theirs.objects;
    refs = theirs.refs;
    owners = theirs.owners;
    used = theirs.used;
    many = theirs.many;
    roles = theirs.roles;
    lists = theirs.lists;
    frames = subst (λ l. AreFrames u (births (open_part later)).refs l k.frames) (sym same)
        (subst (λ h. AreFrames u (births (open_part h)).refs (slice_index_or s.frames u []) k.frames) (sym goes.is)
        (frames_shown u now goes.since own.frames));
    posted = theirs.posted;
    places = own.places;
    agreed = agree_by_own u k now later (ap (λ h. mine h u) goes.is ∙ (mine_append now goes.since u
        ∙ (ap (λ l. mine now u ++ l) goes.others ∙ append-nil (mine now u)))) own.agreed;
    sound = own.sound;
  }

-- STEPS OF ONE THREAD

module _ {A : Type 0} (t : ℕ) where
  -- they lead its program and what is shared from the one to the other
  pub data OwnSteps (e : Doing A) (z : Shared) : Doing A → Shared → Type 0 where
    none : OwnSteps e z e z
    one : {s : Shared} {more : ℕ → Bool → Shared → Doing A} {leaves : ℕ → Bool → Shared → Shared} (luck : Bool)
        → OwnSteps e z (more t luck s) (leaves t luck s) → OwnSteps e z (steps more leaves) s

  -- they are steps among several threads, whose programs are as they were
  pub record AmongOthers (ds : ℕ → Doing A) (s : Shared) (e : Doing A) (z : Shared) : Type 0 where
    pub programs : ℕ → Doing A
    pub runs : Runs (record { programs = programs; shared = z }) (record { programs = ds; shared = s })
    pub here : programs t ≡ e
    pub others : (u : ℕ) → u ≢ t → programs u ≡ ds u

  among_others : {e : Doing A} {z : Shared} {d : Doing A} {s : Shared} → OwnSteps e z d s → (ds : ℕ → Doing A)
      → ds t ≡ d → AmongOthers ds s e z
  among_others none ds is = record { programs = ds; runs = stops; here = is; others = λ u ne. refl }
  among_others {s = s} (one {more = more} {leaves = leaves} luck o) ds is =
      let next = update nat_eq ds t (more t luck s) in
      let r = among_others o next (at_number_self ds t (more t luck s)) in record {
        programs = r.programs;
        runs = turn t luck is r.runs;
        here = r.here;
        others = λ u ne. r.others u ne ∙ ap (λ z. cond z (more t luck s) (ds u)) (eq_other t u (λ e. ne (sym e)));
      }

runs_then : {A : Type 0} {y x z : Machine A} → Runs y x → Runs z y → Runs z x
runs_then stops b = b
runs_then (turn t luck is a) b = turn t luck is (runs_then a b)

acting_same : (a b : Act) (xs ys : List (Item Act)) → ◌≡◌ {A = List (Item Act)} (acting a ∷ xs) (acting b ∷ ys) → a ≡ b
acting_same a b xs ys e = cc

-- ONE THREAD, UP TO ITS NEXT ITEM, AND TO ITS END

module _ {A : Type 0} (c : Config) (whole : History) (answers : ℕ → Result A Fault) (g : ℕ → Frames) where
  -- thread t's program is played with these items up to its end
  abbrev PlaysOut : ℕ → Doing A → History → Frames → List (Item Act) → Type 0
  PlaysOut t = Plays c whole t (λ later r. r ≡ answers t) (g t) []

  module _ (t : ℕ) where
    -- it has taken steps up to behind its item, whereupon this is on the board
    pub record Acted (d : Doing A) (then : History) (items : List (Item Act)) (board : List (List ℕ × ℕ)) (s : Shared)
        : Type 0 where
      pub program : Doing A
      pub shared : Shared
      pub frames : Frames
      pub turns : OwnSteps t program shared d s
      pub plays : PlaysOut t program then frames items
      pub stands : SharedStands c t then frames shared
      pub others : (u : ℕ) → u ≢ t → slice_index_or shared.frames u [] ≡ slice_index_or s.frames u []
      pub board_is : shared.board ≡ board

    abbrev ItemOnce : Doing A → History → Frames → Item Act → List (Item Act) → Type 0
    ItemOnce d past f (acting a) items = (now : History) (s : Shared) → ActsNext c whole t past now a
        → SharedStands c t now f s
        → Acted d (now ++ by t a ∷ []) items s.board s
    ItemOnce d past f (posting n w) items = (now : History) (s : Shared) → OthersGoOn c whole t past now
        → SharedStands c t now f s
        → Acted d now items (s.board ++ (n, w) ∷ []) s
    ItemOnce d past f (hearing n w) items = (now : History) (s : Shared) → OthersGoOn c whole t past now
        → SharedStands c t now f s
        → IsOnBoard s.board n w → Acted d now items s.board s

    abbrev ActsOnce : Doing A → History → Frames → List (Item Act) → Type 0
    ActsOnce d past f [] = Unit {0}
    ActsOnce d past f (x ∷ items) = ItemOnce d past f x items

    -- a step before
    stepped_before : {then : History} {items : List (Item Act)} (b d : List (List ℕ × ℕ)) (s : Shared)
        (more : ℕ → Bool → Shared → Doing A) (leaves : ℕ → Bool → Shared → Shared) (luck : Bool)
        → LeavesOthers t s (leaves t luck s) → d ≡ b → Acted (more t luck s) then items d (leaves t luck s)
        → Acted (steps more leaves) then items b s
    stepped_before b d s more leaves luck k same r = record {
      program = r.program;
      shared = r.shared;
      frames = r.frames;
      turns = one luck r.turns;
      plays = r.plays;
      stands = r.stands;
      others = λ u ne. r.others u ne ∙ k.frames u ne;
      board_is = r.board_is ∙ same;
    }

    moved_once : {past : History} {f : Frames} (f' : Frames) (items : List (Item Act))
        (more : ℕ → Bool → Shared → Doing A) (leaves : ℕ → Bool → Shared → Shared) (luck : Bool)
        → ((now : History) (s : Shared) → OthersGoOn c whole t past now → SharedStands c t now f s
        → SharedStands c t now f' (leaves t luck s) × LeavesOthers t s (leaves t luck s))
        → ((now : History) (s : Shared) → OthersGoOn c whole t past now → SharedStands c t now f s
        → ActsOnce (more t luck s) now f' items)
        → ActsOnce (steps more leaves) past f items
    moved_once f' [] more leaves luck st pl = tt
    moved_once f' (acting a ∷ items) more leaves luck st pl = λ now s next stands.
        let k = st now s next.goes stands in
        stepped_before s.board (leaves t luck s).board s more leaves luck k.1 k.1.board
        (pl now s next.goes stands now (leaves t luck s)
        (record { goes = goes_self c whole t now next.goes.begins; next = next.next }) k.0)
    moved_once f' (posting n w ∷ items) more leaves luck st pl = λ now s goes stands.
        let k = st now s goes stands in
        stepped_before (s.board ++ (n, w) ∷ []) ((leaves t luck s).board ++ (n, w) ∷ []) s more leaves luck k.1
        (ap (λ b. b ++ (n, w) ∷ []) k.1.board)
        (pl now s goes stands now (leaves t luck s) (goes_self c whole t now goes.begins) k.0)
    moved_once f' (hearing n w ∷ items) more leaves luck st pl = λ now s goes stands there.
        let k = st now s goes stands in
        stepped_before s.board (leaves t luck s).board s more leaves luck k.1 k.1.board
        (pl now s goes stands now (leaves t luck s) (goes_self c whole t now goes.begins) k.0
        (subst (λ b. IsOnBoard b n w) (sym k.1.board) there))

    waited_once : {past : History} {f : Frames} (f' : Frames) (items later : List (Item Act))
        (more : ℕ → Bool → Shared → Doing A) (leaves : ℕ → Bool → Shared → Shared) (luck : Bool) (a : Act)
        → items ++ [] ≡ acting a ∷ later
        → ((now : History) (s : Shared) → ActsNext c whole t past now a → SharedStands c t now f s
        → SharedStands c t now f' (leaves t luck s) × LeavesOthers t s (leaves t luck s))
        → ((now : History) (s : Shared) → ActsNext c whole t past now a → SharedStands c t now f s
        → ActsOnce (more t luck s) now f' items)
        → ActsOnce (steps more leaves) past f items
    waited_once f' [] later more leaves luck a is st pl = tt
    waited_once {past} f' (acting b ∷ items) later more leaves luck a is st pl = λ now s next stands.
        let here = subst (ActsNext c whole t past now) (acting_same b a (items ++ []) later is) next in
        let k = st now s here stands in
        stepped_before s.board (leaves t luck s).board s more leaves luck k.1 k.1.board
        (pl now s here stands now (leaves t luck s)
        (record { goes = goes_self c whole t now next.goes.begins; next = next.next }) k.0)
    waited_once f' (posting n w ∷ items) later more leaves luck a is st pl = absurd cc
    waited_once f' (hearing n w ∷ items) later more leaves luck a is st pl = absurd cc

    acts_once : {d : Doing A} {past : History} {f : Frames} {items : List (Item Act)}
        → PlaysOut t d past f items → ActsOnce d past f items
    acts_once (has_ended r so) = tt
    acts_once (moves {items = items} {more = more} {leaves = leaves} luck f' st pl) =
        moved_once f' items more leaves luck st (λ now s goes stands. acts_once (pl now s goes stands))
    acts_once (waits {items = items} {later = later} {more = more} {leaves = leaves} luck a f' is st pl) =
        waited_once f' items later more leaves luck a is st (λ now s next stands. acts_once (pl now s next stands))
    acts_once (does {more = more} {leaves = leaves} luck a f' st pl) = λ now s next stands.
        let k = st now s next stands in record {
          program = more t luck s;
          shared = leaves t luck s;
          frames = f';
          turns = one luck none;
          plays = pl now s next stands;
          stands = k.0;
          others = k.1.frames;
          board_is = k.1.board;
        }
    acts_once (unseen {f = f} {d = d} a st pl) = λ now s next stands. record {
      program = d;
      shared = s;
      frames = f;
      turns = none;
      plays = pl now next;
      stands = st now s next stands;
      others = λ u ne. refl;
      board_is = refl;
    }
    acts_once (says {f = f} {more = more} {leaves = leaves} luck n w st pl) = λ now s goes stands.
        let k = st now s goes stands in record {
          program = more t luck s;
          shared = leaves t luck s;
          frames = f;
          turns = one luck none;
          plays = pl now s goes stands;
          stands = k.0;
          others = λ u ne. k.1.frames u;
          board_is = k.1.board;
        }
    acts_once (listens {f = f} {more = more} {leaves = leaves} luck n w st pl) = λ now s goes stands there.
        let k = st now s goes stands there in record {
          program = more t luck s;
          shared = leaves t luck s;
          frames = f;
          turns = one luck none;
          plays = pl now s goes stands there;
          stands = k.0;
          others = k.1.frames;
          board_is = k.1.board;
        }

    -- it has taken all its steps
    pub record Ended (d : Doing A) (now : History) (s : Shared) : Type 0 where
      pub shared : Shared
      pub turns : OwnSteps t (ended (answers t)) shared d s
      pub stands : SharedStands c t now (g t) shared
      pub keeps : LeavesOthers t s shared

    abbrev ToEnd : Doing A → History → Frames → List (Item Act) → Type 0
    ToEnd d past f [] = (now : History) (s : Shared) → OthersGoOn c whole t past now → SharedStands c t now f s
        → Ended d now s
    ToEnd d past f (x ∷ items) = Unit {0}

    moved_end : {past : History} {f : Frames} (f' : Frames) (items : List (Item Act))
        (more : ℕ → Bool → Shared → Doing A) (leaves : ℕ → Bool → Shared → Shared) (luck : Bool)
        → ((now : History) (s : Shared) → OthersGoOn c whole t past now → SharedStands c t now f s
        → SharedStands c t now f' (leaves t luck s) × LeavesOthers t s (leaves t luck s))
        → ((now : History) (s : Shared) → OthersGoOn c whole t past now → SharedStands c t now f s
        → ToEnd (more t luck s) now f' items)
        → ToEnd (steps more leaves) past f items
    moved_end f' (x ∷ items) more leaves luck st pl = tt
    moved_end f' [] more leaves luck st pl = λ now s goes stands.
        let k = st now s goes stands in
        let r = pl now s goes stands now (leaves t luck s) (goes_self c whole t now goes.begins) k.0 in record {
          shared = r.shared;
          turns = one luck r.turns;
          stands = r.stands;
          keeps = keeps_then k.1 r.keeps;
        }

    no_wait_at_end : (d : Doing A) (past : History) (f : Frames) (items later : List (Item Act)) (a : Act)
        → items ++ [] ≡ acting a ∷ later → ToEnd d past f items
    no_wait_at_end d past f [] later a is = absurd cc
    no_wait_at_end d past f (x ∷ items) later a is = tt

    ends : {d : Doing A} {past : History} {f : Frames} {items : List (Item Act)}
        → PlaysOut t d past f items → ToEnd d past f items
    ends (has_ended r so) = λ now s goes stands. record {
      shared = s;
      turns = subst (λ x. OwnSteps t (ended x) s (ended r) s) so none;
      stands = stands;
      keeps = record { frames = λ u ne. refl; board = refl };
    }
    ends (moves {items = items} {more = more} {leaves = leaves} luck f' st pl) =
        moved_end f' items more leaves luck st (λ now s goes stands. ends (pl now s goes stands))
    ends (waits {items = items} {later = later} luck a f' is st pl) = no_wait_at_end _ _ _ items later a is
    ends (does luck a f' st pl) = tt
    ends (unseen a st pl) = tt
    ends (says luck n w st pl) = tt
    ends (listens luck n w st pl) = tt

  -- A PLAYER, at a moment of the history, with these items of all threads to come
  pub record Player (u : ℕ) (d : Doing A) (now : History) (rest : List (ℕ × Item Act)) (s : Shared) : Type 0 where
    pub past : History
    pub frames : Frames
    pub goes : OthersGoOn c whole u past now
    pub plays : PlaysOut u d past frames (done_by rest u)
    pub stands : SharedStands c u now frames s

  -- AT THE END each thread goes on to its own

  pub record Finished (k : ℕ) (now : History) (ds : ℕ → Doing A) (s : Shared) : Type 0 where
    pub programs : ℕ → Doing A
    pub shared : Shared
    pub runs : Runs (record { programs = programs; shared = shared }) (record { programs = ds; shared = s })
    pub have_ended : (t : ℕ) → t < k → programs t ≡ ended (answers t)
    pub stands : (t : ℕ) → t < k → SharedStands c t now (g t) shared
    pub still : (t : ℕ) → k ≤ t → t < c.threads → Player t (programs t) now [] shared

  -- another thread has ended
  other_ended : (t u : ℕ) (d : Doing A) (now : History) (s z : Shared) → u ≢ t → Player u d now [] s
      → SharedStands c t now (g t) z → LeavesOthers t s z → Player u d now [] z
  other_ended t u d now s z ne p st k = record {
    past = p.past;
    frames = p.frames;
    goes = p.goes;
    plays = p.plays;
    stands = stands_for c whole t u now now (g t) p.frames s z (goes_self c whole u now p.goes.begins) (k.frames u ne)
        st p.stands;
  }

  finish : (k : ℕ) (now : History) (ds : ℕ → Doing A) (s : Shared) → k ≤ c.threads → IsPrefix now whole
      → ((t : ℕ) → t < c.threads → Player t (ds t) now [] s) → Finished k now ds s
  finish zero now ds s le begins players = record {
    programs = ds;
    shared = s;
    runs = stops;
    have_ended = λ t l. absurd (omega arith);
    stands = λ t l. absurd (omega arith);
    still = λ t l small. players t small;
  }
  finish (suc k) now ds s le begins players = go (finish k now ds s (omega arith) begins players)
    where
      below : (t k : ℕ) → t < suc k → (t == k) ≡ false → t < k
      below t k l e = let ne = eq_false t k e in omega arith

      go : Finished k now ds s → Finished (suc k) now ds s
      go f =
          let p = f.still k (omega arith) (omega arith) in
          let d = ends k p.plays now f.shared p.goes p.stands in
          let r = among_others k d.turns f.programs refl in record {
            programs = r.programs;
            shared = d.shared;
            runs = runs_then f.runs r.runs;
            have_ended = λ t l. by_test (t == k)
                (λ e. subst (λ z. r.programs z ≡ ended (answers z)) (sym (eq_true t k e)) r.here)
                (λ e. r.others t (eq_false t k e) ∙ f.have_ended t (below t k l e));
            stands = λ t l. by_test (t == k)
                (λ e. subst (λ z. SharedStands c z now (g z) d.shared) (sym (eq_true t k e)) d.stands)
                (λ e. stands_for c whole k t now now (g k) (g t) f.shared d.shared (goes_self c whole t now begins)
                (d.keeps.frames t (eq_false t k e)) d.stands (f.stands t (below t k l e)));
            still = λ t l small.
                let ne : t ≢ k = (λ e. absurd (omega arith)) in
                subst (λ z. Player t z now [] d.shared) (sym (r.others t ne))
                (other_ended k t (f.programs t) now f.shared d.shared ne (f.still t (omega arith) small) d.stands
                d.keeps);
          }

  -- ALONG THE ORDER

  -- the item is its thread's first
  first_item : (t : ℕ) (x : Item Act) (rest : List (ℕ × Item Act)) → done_by ((t, x) ∷ rest) t ≡ x ∷ done_by rest t
  first_item t x rest = ap (λ z. cond z (x ∷ done_by rest t) (done_by rest t)) (eq_self t)

  heard_on : (t : ℕ) (x : Item Act) (rest : List (ℕ × Item Act)) (b d : List (List ℕ × ℕ)) → d ≡ board_after b x
      → AreHeard b ((t, x) ∷ rest) → AreHeard d rest
  heard_on t x rest b d same heard before after u n w e = subst (λ z. IsOnBoard (board_from z before) n w) (sym same)
      (heard ((t, x) ∷ before) after u n w (ap (λ l. (t, x) ∷ l) e))

  -- behind thread t's item each goes on
  players_behind : (t : ℕ) (x : Item Act) (rest : List (ℕ × Item Act)) (now then : History) (ds es : ℕ → Doing A)
      (s z : Shared) (f : Frames) → IsPrefix then whole
      → ((u : ℕ) (past : History) → u ≢ t → OthersGoOn c whole u past now → OthersGoOn c whole u past then)
      → ((u : ℕ) → u ≢ t → es u ≡ ds u) → PlaysOut t (es t) then f (done_by rest t) → SharedStands c t then f z
      → ((u : ℕ) → u ≢ t → slice_index_or z.frames u [] ≡ slice_index_or s.frames u [])
      → ((u : ℕ) → u < c.threads → Player u (ds u) now ((t, x) ∷ rest) s)
      → (u : ℕ) → u < c.threads → Player u (es u) then rest z
  players_behind t x rest now then ds es s z f begins later others plays st same players u l = by_test (u == t)
      (λ e. subst (λ v. Player v (es v) then rest z) (sym (eq_true u t e)) (record {
        past = then;
        frames = f;
        goes = goes_self c whole t then begins;
        plays = plays;
        stands = st;
      }))
      (λ e. let ne = eq_false u t e in let p = players u l in
      subst (λ v. Player u v then rest z) (sym (others u ne)) (record {
        past = p.past;
        frames = p.frames;
        goes = later u p.past ne p.goes;
        plays = subst (PlaysOut u (ds u) p.past p.frames)
            (ap (λ b. cond b (x ∷ done_by rest u) (done_by rest u)) (eq_other t u (λ is. ne (sym is)))) p.plays;
        stands = stands_for c whole t u now then f p.frames s z
            (later u now ne (goes_self c whole u now p.goes.begins)) (same u ne) st p.stands;
      }))

  -- how it goes on from a moment, with these items to come
  abbrev GoesOn : List (ℕ × Item Act) → Type 0
  GoesOn rest = (now : History) (ds : ℕ → Doing A) (s : Shared) → now ++ events_of rest ≡ whole
      → AllByRecursion (λ x. x.0 < c.threads) rest → AreHeard s.board rest
      → ((t : ℕ) → t < c.threads → Player t (ds t) now rest s)
      → RunTogether c answers g whole (record { programs = ds; shared = s })

  -- thread t has done its item, and then it goes on
  go_behind : (t : ℕ) (x : Item Act) (rest : List (ℕ × Item Act)) (now then : History) (ds : ℕ → Doing A) (s : Shared)
      → GoesOn rest → then ++ events_of rest ≡ whole
      → ((u : ℕ) (past : History) → u ≢ t → OthersGoOn c whole u past now → OthersGoOn c whole u past then)
      → AllByRecursion (λ y. y.0 < c.threads) rest → AreHeard s.board ((t, x) ∷ rest)
      → ((u : ℕ) → u < c.threads → Player u (ds u) now ((t, x) ∷ rest) s)
      → Acted t (ds t) then (done_by rest t) (board_after s.board x) s
      → RunTogether c answers g whole (record { programs = ds; shared = s })
  go_behind t x rest now then ds s go is later small heard players r =
      let o = among_others t r.turns ds refl in
      let next = go then o.programs r.shared is small (heard_on t x rest s.board r.shared.board r.board_is heard)
      (players_behind t x rest now then ds o.programs s r.shared r.frames (events_of rest, is) later o.others
      (subst (λ z. PlaysOut t z then r.frames (done_by rest t)) (sym o.here) r.plays) r.stands r.others players) in
      record {
        end = next.end;
        runs = runs_then o.runs next.runs;
        have_ended = next.have_ended;
        stands = next.stands;
      }

  by_item : (t : ℕ) (x : Item Act) (rest : List (ℕ × Item Act)) → GoesOn rest → GoesOn ((t, x) ∷ rest)
  by_item t (acting a) rest go now ds s is small heard players =
      let is_then : (now ++ by t a ∷ []) ++ events_of rest ≡ whole =
      append_assoc now (by t a ∷ []) (events_of rest) ∙ is in
      let p = players t small.0 in
      go_behind t (acting a) rest now (now ++ by t a ∷ []) ds s go is_then
      (λ u past ne goes. goes_more c whole u past now (by t a) goes (events_of rest, is_then) (λ same. ne (sym same)))
      small.1 heard players
      (acts_once t (subst (PlaysOut t (ds t) p.past p.frames) (first_item t (acting a) rest) p.plays) now s
      (record { goes = p.goes; next = (events_of rest, is_then) }) p.stands)
  by_item t (posting n w) rest go now ds s is small heard players =
      let p = players t small.0 in
      go_behind t (posting n w) rest now now ds s go is (λ u past ne goes. goes) small.1 heard players
      (acts_once t (subst (PlaysOut t (ds t) p.past p.frames) (first_item t (posting n w) rest) p.plays) now s p.goes
      p.stands)
  by_item t (hearing n w) rest go now ds s is small heard players =
      let p = players t small.0 in
      go_behind t (hearing n w) rest now now ds s go is (λ u past ne goes. goes) small.1 heard players
      (acts_once t (subst (PlaysOut t (ds t) p.past p.frames) (first_item t (hearing n w) rest) p.plays) now s p.goes
      p.stands (heard [] rest t n w refl))

  play_on : (rest : List (ℕ × Item Act)) → GoesOn rest
  play_on [] now ds s is small heard players =
      let all : now ≡ whole = sym (append-nil now) ∙ is in
      let f = finish c.threads now ds s (omega arith) ([], is) players in record {
        end = record { programs = f.programs; shared = f.shared };
        runs = f.runs;
        have_ended = f.have_ended;
        stands = λ t l. subst (λ h. SharedStands c t h (g t) f.shared) all (f.stands t l);
      }
  play_on (x ∷ rest) now ds s is small heard players =
      by_item x.0 x.1 rest (play_on rest) now ds s is small heard players

pub players_run : {A : Type 0} → PlayersRunTo A
players_run c answers f g all start small heard plays stands =
    play_on c (events_of all) answers g all [] start.programs start.shared refl small heard (λ t l. record {
      past = [];
      frames = f t;
      goes = goes_self c (events_of all) t [] (events_of all, refl);
      plays = plays t l;
      stands = stands t l;
    })
