-- What was done where a thread stands in a region, how it came there, and what a command leaves there and outside.
use Rattle.std.proofs.Common.{◌≡◌, ◌≤◌, ◌∷◌, [], ◌∙◌, ℕ, ℤ, List, Result, Ok, Err, length, subst, sym, ap, refl, arith}
use Rattle.std.proofs.Common.{Bool, true, false, Option, Some, None}
use Rattle.std.specs.Prelude.{IfErr, IfOk}
use Rattle.jr_word.specs.declared.config.Config.{Config}
use Rattle.jr_word.specs.declared.fault.Fault.{Fault}
use Rattle.jr_word.specs.declared.fault.Fault.TheVariants as fault
use Rattle.jr_word.specs.declared.handle.Handle.{Handle as HandleWord}
use Rattle.jr_word.specs.declared.kind.Kind.{Kind}
use Rattle.jr_model.specs.declared.event.Role.{Role}
use Rattle.jr_model.specs.declared.event.Role.TheVariants.{Within}
use Rattle.jr_model.specs.State.{State}
use Rattle.jr_model.specs.Frames.{Frames}
use Rattle.jr_model.specs.Calls.{Call, Ran}
use Rattle.jr_model.specs.Programs.{at_object}
use Rattle.jr_model.specs.CallPrograms.{region_kind, region_set}
use Rattle.jr_model.proofs.Stays.{did_nothing}
use Rattle.jr_model.proofs.Windows.{window_nothing}
use Rattle.jr_steps.specs.declared.known.Known.{Known}
use Rattle.jr_steps.specs.Holdings.{empty}
use Rattle.jr_steps.specs.Knowing.{AreOf, Facts, Holds, state_of, view}
use Rattle.jr_frames.specs.Table.{Table}
use Rattle.jr_gate.specs.Performing.{Performed}
use Rattle.jr_gate.proofs.Spending.{made_of, spend_none}
use Rattle.jr_critical.specs.declared.levels.Levels.{Levels}
use Rattle.jr_critical.specs.Levels.{KnowsLevels, LearnsFirst, Nests, Opens, Reaches, Stand, TellsKind, level_nested}
use Rattle.jr_critical.specs.Levels.{level_object, object_opened, objects_of, role_opened}
use Rattle.jr_steps.specs.declared.steps.Steps.{Ghosts}
use Rattle.jr_env.specs.declared.env.Env.{Env}
use Rattle.jr_env.specs.Envs.{IsOutside, WasDone}
use Rattle.jr_env.specs.Retried.{TriesToOpen}
use Rattle.jr_env.specs.Deeds.{CarriedOut, Deed, decided, done, ◌>>=◌, ◌>>◌, within_by}
use Rattle.jr_env.proofs.MadeAgain.{worth_formed}
use Rattle.jr_env.proofs.Carrying.{did_call, did_decided, did_decline, did_in_role, did_more, did_refused, did_reply}
use Rattle.jr_env.proofs.Carrying.{did_both, did_then, own_call, role_kept, did_nowhere}
use Rattle.jr_syntax.specs.declared.verb.OpenLevel.{OpenLevel}
use Rattle.jr_syntax.specs.declared.verb.OpenLevel.TheVariants as at
use Rattle.jr_world.specs.Board.{word_under}
use Rattle.jr_scripts.specs.declared.number.NumberKind.{NumberKind}
use Rattle.jr_scripts.specs.declared.reply.Reply.{Reply}
use Rattle.jr_scripts.specs.declared.reply.Reply.TheVariants as replies
use Rattle.jr_scripts.specs.Advancing.{DidOpen, KnowsOpened, DidCommand, DidWith, StandsIn, StandsWith, level_names}
use Rattle.jr_scripts.specs.Advancing.{objects_in, opened_over, place_with}
use Rattle.jr_scripts.specs.Tries.{Tried, answered, again, gave_up}
use Rattle.jr_scripts.specs.Numbers.{has_numbers, kind_numbered, word_of_number}
use Rattle.jr_scripts.specs.Names.{Names, word_posted}
use Rattle.jr_scripts.specs.Text.{buffers_after}
use Rattle.jr_syntax.specs.declared.command.Command.{Command}
use Rattle.jr_syntax.specs.declared.command.Command.TheVariants as commands
use Rattle.jr_syntax.specs.declared.verb.PutAt.{PutAt}
use Rattle.jr_syntax.specs.declared.verb.PutAt.TheVariants as put_at
use Rattle.jr_syntax.specs.declared.verb.Release.TheVariants as release
use Rattle.jr_scripts.proofs.CommandDeeds.{numbered_has}
use Rattle.jr_scripts.specs.Commands.{opening_by, opens, deed, tried}
use Rattle.jr_scripts.specs.RegionCommands.{deed_at, deed_within, kind_of_level, nesting, nests, read_kind}
use Rattle.jr_scripts.specs.RegionCommands.{level_reading, reading_as, level_writing, writing_as}
use Rattle.jr_word.specs.declared.fault.Fault.TheVariants.{InCritical}
use Rattle.jr_syntax.specs.declared.verb.Make.TheVariants as make
use Rattle.jr_syntax.specs.declared.verb.OnName.{OnName}
use Rattle.jr_scripts.specs.declared.region.NamedLevels.{NamedLevels}
use Rattle.jr_scripts.specs.Layouts.{Layout}
use Rattle.jr_scripts.specs.Places.{is_speaking, levels_after, objects_after}
use Rattle.jr_scripts.specs.Posting.{Account, HasPosted, HasSpoken, HasWaited, Keeps, WasInVain, ThreadWords}
use Rattle.jr_scripts.specs.Posting.{reply_to_wait, talk_of, words_after, words_found, words_with}
use Rattle.jr_scripts.proofs.Speaking.{did_silent, did_speak, keeps_all, said_buffers, said_levels, said_objects}
use Rattle.jr_scripts.proofs.Speaking.{found_words, silent_words, spoke_posting, spoke_waiting, stands_still}

module _ {S : Type 0} {facts : S → Facts} where
  -- a number was stored at a level
  module _ {a b : S} {f g : Frames} {met shown : Known → Type 0} (o i : ℕ) (x z : ℤ) (k : Kind) (word : ℕ)
      (is : word_of_number k z ≡ Ok word) (same : z ≡ x) where
    pub did_store : CarriedOut facts a b f g Within met shown
        (within_by (λ c. 0) (λ c last t s. at_object c last t s o (region_set k i word))) (Ok tt)
        → CarriedOut facts a b f g Within met shown (writing_as o i x k) (Ok replies.Done)
    did_store d =
        did_decided (λ word. within_by (λ c. 0) (λ c last t s. at_object c last t s o (region_set k i word))
        >> done replies.Done)
        (ap (word_of_number k) (sym same) ∙ is) (did_reply (λ _. replies.Done) tt d)

    pub did_store_not : (e : Fault) → CarriedOut facts a b f g Within met shown
        (within_by (λ c. 0) (λ c last t s. at_object c last t s o (region_set k i word))) (Err e)
        → CarriedOut facts a b f g Within met shown (writing_as o i x k) (Err e)
    did_store_not e d =
        did_decided (λ word. within_by (λ c. 0) (λ c last t s. at_object c last t s o (region_set k i word))
        >> done replies.Done)
        (ap (word_of_number k) (sym same) ∙ is) (did_refused (λ _. done replies.Done) e d)

module _ {S : Type 0} (facts : S → Facts) (fits : AreOf facts) where
  -- a call in the stay
  did_inside : {A : Type 0} {a b : S} {f g : Frames} {n : ℕ} {met shown : Known → Type 0}
      {shows : Known → Known → Type 0} (call : Config → ℕ → ℕ → State → Call A) {answer : Result A Fault}
      → (facts a).stands.role ≡ Within → ((j k : Known) → shows j k → shown k)
      → Performed facts a b f g n met
      (λ s. call (facts a).stands.config (facts a).stands.last (facts a).stands.thread s) answer shows
      → CarriedOut facts a b f g Within met shown (within_by (λ c. n) call) answer
  did_inside {n = n} call within on p = did_in_role within (did_call facts fits (λ c. n) call on p)

  -- a call at a level's object
  pub did_reach : {A : Type 0} {a b : S} {t : Table} {f g : Frames} {v : Levels}
      (call : Config → ℕ → ℕ → State → Call A) {answer : Result A Fault} → Stand facts v a t → g ≡ f
      → Reaches facts a b f v call answer
      → CarriedOut facts a b f g Within (KnowsLevels v f) (KnowsLevels v g) (within_by (λ c. 0) call) answer
  did_reach {a = a} {b = b} {f = f} {v = v} call {answer = answer} stand same r =
      subst (λ h. CarriedOut facts a b f h Within (KnowsLevels v f) (KnowsLevels v h) (within_by (λ c. 0) call) answer)
      (sym same) (did_inside call stand.ready.role_is (λ j k x. x.1) r)

  -- a level was added, or refused
  pub did_nest : {a b : S} {t : Table} {f g : Frames} {v : Levels} (w : Levels) (verb u : OpenLevel) (word : ℕ)
      (answer : Result ℕ Fault) → verb ≡ u → Stand facts v a t → g ≡ f → Nests facts a b f word (nests u) v w answer
      → CarriedOut facts a b f g Within (KnowsLevels v f) (KnowsLevels w g) (nesting verb (objects_of v) word)
      (level_nested answer w)
  did_nest {a = a} {b = b} {f = f} {v = v} w verb u word answer which stand same made =
      let r : Nests facts a b f word (nests verb) v w answer =
      subst (λ x. Nests facts a b f word (nests x) v w answer) (sym which) made in
      let d = did_inside {met = KnowsLevels v f} {shown = KnowsLevels w f}
      (λ c last t s. nests verb c last t s (objects_of v) r.0) stand.ready.role_is (λ j k x. x) r.2 in
      subst (λ h. CarriedOut facts a b f h Within (KnowsLevels v f) (KnowsLevels w h) (nesting verb (objects_of v) word)
      (level_nested answer w)) (sym same) (did_more (λ p q x. (r.0, r.1, x)) d)

  -- the kind of a level's object is known
  pub did_kind : {a : S} {t : Table} {f : Frames} {v : Levels} (i : ℕ) (k : Kind) → Stand facts v a t → TellsKind v i k
      → CarriedOut facts a a f f Within (KnowsLevels v f) (KnowsLevels v f) (kind_of_level (level_object v i)) (Ok k)
  did_kind {a = a} {f = f} {v = v} i kind stand tells = record {
    stands_is = role_kept Within stand.ready.role_is;
    did = λ k s m.
        let l = (fits a k s).legal in
        let ran : Ran (view k) (view k) f f (at_object k.config k.last k.thread (state_of k)
        (level_object v i) region_kind)
        (Ok kind) = record {
          acts = [];
          did = did_nothing (view k) l;
          is = tells k.config k.last k.thread k f m.0;
          begun = k.seen;
          window = window_nothing (view k);
          grounds = tt;
        } in
        (k, s, m, made_of (spend_none (facts a) k f f l) ran);
  }

  -- a region was opened
  did_open : {a b : S} {f g : Frames} (verb : OpenLevel) (word : ℕ) (answer : Result Levels Fault) → g ≡ f
      → Opens facts a b f word (opens verb) answer → CarriedOut facts a b f g (role_opened answer) (Holds f)
      (KnowsOpened answer g) (opening_by verb word) (object_opened answer)
  did_open {a} {b} {f} verb word answer same o =
      subst (λ h. CarriedOut facts a b f h (role_opened answer) (Holds f) (KnowsOpened answer h) (opening_by verb word)
      (object_opened answer)) (sym same) (record {
        stands_is = o.2.stands_is;
        did = λ k s m.
            let x = o.2.ran k s m in (
              x.0,
              x.1,
              held answer k x.0 x.3,
              (
                o.0,
                o.1,
                own_call facts fits (λ c. 1) (λ c last t s. opens verb c last t s o.0) k x.0 s x.2,
                gone answer k x.0 x.3,
              ),
            );
      })
    where
      held : (r : Result Levels Fault) (j k : Known) → LearnsFirst r j k × Holds f k → KnowsOpened r f k
      held (Ok v) j k x = (x.0.0, x.1)
      held (Err e) j k x = x.1

      gone : (r : Result Levels Fault) (j k : Known) → LearnsFirst r j k × Holds f k
          → IfErr (object_opened r) (λ e. k.holdings ≡ empty)
      gone (Ok v) j k x = tt
      gone (Err e) j k x = x.0

  -- the number at an index of a level
  module _ {a : S} {t : Table} {f : Frames} {v : Levels} (i index : ℕ) (k : Kind) (stand : Stand facts v a t)
      (tells : TellsKind v i k) where
    pub did_read : {b : S} {g : Frames} {answer : Result Reply Fault} (n u : NumberKind) → read_kind k ≡ kind_numbered n
        → n ≡ u → CarriedOut facts a b f g Within (KnowsLevels v f) (KnowsLevels v g)
        (reading_as (level_object v i) index (kind_numbered u)) answer
        → CarriedOut facts a b f g Within (KnowsLevels v f) (KnowsLevels v g) (level_reading (level_object v i) index)
        answer
    did_read {b} {g} {answer} n u is same d =
        let kind : read_kind k ≡ kind_numbered u = is ∙ ap kind_numbered same in
        let after : Kind → Deed Reply = λ l. decided (has_numbers l) >>= (λ _. reading_as (level_object v i) index l) in
        did_then (λ k. after (read_kind k)) (did_kind i k stand tells)
        (subst (λ l. CarriedOut facts a b f g Within (KnowsLevels v f) (KnowsLevels v g) (after l) answer) (sym kind)
        (did_decided (λ _. reading_as (level_object v i) index (kind_numbered u)) (numbered_has u) d))

    pub did_read_not : (e : Fault) → has_numbers (read_kind k) ≡ Err e → CarriedOut facts a a f f Within
        (KnowsLevels v f) (KnowsLevels v f) (level_reading (level_object v i) index) (Err e)
    did_read_not e is =
        did_then (λ k. decided (has_numbers (read_kind k)) >>= (λ _. reading_as (level_object v i) index (read_kind k)))
        (did_kind i k stand tells)
        (did_decline (λ _. reading_as (level_object v i) index (read_kind k)) stand.ready.role_is (λ k m. m) is)

    -- a number was stored at an index of it
    pub did_write : {b : S} {g : Frames} {answer : Result Reply Fault} (x z : ℤ) (n u : NumberKind)
        → k ≡ kind_numbered n → n ≡ u → z ≡ x → CarriedOut facts a b f g Within (KnowsLevels v f) (KnowsLevels v g)
        (writing_as (level_object v i) index z (kind_numbered u)) answer
        → CarriedOut facts a b f g Within (KnowsLevels v f) (KnowsLevels v g) (level_writing (level_object v i) index x)
        answer
    did_write {b} {g} {answer} x z n u is same number d =
        let kind : k ≡ kind_numbered u = is ∙ ap kind_numbered same in
        let after : Kind
        → Deed Reply = λ l. decided (has_numbers l) >>= (λ _. writing_as (level_object v i) index x l) in
        let stored = subst (λ y. CarriedOut facts a b f g Within (KnowsLevels v f) (KnowsLevels v g)
        (writing_as (level_object v i) index y (kind_numbered u)) answer) number d in
        did_then after (did_kind i k stand tells)
        (subst (λ l. CarriedOut facts a b f g Within (KnowsLevels v f) (KnowsLevels v g) (after l) answer) (sym kind)
        (did_decided (λ _. writing_as (level_object v i) index x (kind_numbered u)) (numbered_has u) stored))

    pub did_write_not : (x : ℤ) (e : Fault) → has_numbers k ≡ Err e → CarriedOut facts a a f f Within (KnowsLevels v f)
        (KnowsLevels v f) (level_writing (level_object v i) index x) (Err e)
    did_write_not x e is = did_then (λ k. decided (has_numbers k) >>= (λ _. writing_as (level_object v i) index x k))
        (did_kind i k stand tells)
        (did_decline (λ _. writing_as (level_object v i) index x k) stand.ready.role_is (λ k m. m) is)

-- a region was opened, or refused, by a call of the env
did_try : {S : Type 0} {G : Ghosts S} (fits : AreOf G.facts) (verb : OpenLevel) (h : HandleWord) (old new : Env S G)
    (r : Result Levels Fault) → IsOutside old → TriesToOpen (opened_over verb h) old r new
    → DidOpen old new (opening_by verb h.0) r
did_try {G = G} fits at.Array h old new (Ok v) outside t =
    did_open G.facts fits at.Array h.0 (Ok v) (ap (λ (t : Table). t.frames) t.0.frames) (t.0.opens outside)
did_try {G = G} fits at.Text h old new (Ok v) outside t =
    did_open G.facts fits at.Text h.0 (Ok v) (ap (λ (t : Table). t.frames) t.0.frames) (t.0.opens outside)
did_try {G = G} fits at.Array h old new (Err e) outside t =
    did_open G.facts fits at.Array h.0 (Err e) (ap (λ (t : Table). t.frames) t.frames) (t.refuses outside)
did_try {G = G} fits at.Text h old new (Err e) outside t =
    did_open G.facts fits at.Text h.0 (Err e) (ap (λ (t : Table). t.frames) t.frames) (t.refuses outside)

-- and tried to be, as often as there are turns
module _ {S : Type 0} {G : Ghosts S} (verb : OpenLevel) (h : HandleWord) where
  -- there is one level, or the thread stands outside
  pub has_tried : (old new : Env S G) {n : ℕ} {r : Result Levels Fault} → IsOutside old
      → Tried (TriesToOpen (opened_over verb h)) n old r new
      → IfOk r (λ v. length (objects_of v) ≡ 1) × IfErr r (λ _. IsOutside new)
  has_tried old new {r = Ok v} outside (answered o settled) = (o.0.one, tt)
  has_tried old new {r = Err e} outside (answered o settled) = (tt, o.outside)
  has_tried old new outside (again {once = Ok v} o unsettled t) = absurd (let no = unsettled in cc)
  has_tried old new outside (again {once = Err e} o unsettled t) = has_tried _ _ o.outside t
  has_tried old new outside gave_up = (tt, outside)

  pub did_tries : (fits : AreOf G.facts) (old new : Env S G) {n : ℕ} {r : Result Levels Fault} → IsOutside old
      → Tried (TriesToOpen (opened_over verb h)) n old r new → DidOpen old new (tried n (opening_by verb h.0)) r
  did_tries fits old new {r = Ok v} outside (answered o settled) =
      did_more (λ p q d. answered d refl) (did_try fits verb h _ _ (Ok v) outside o)
  did_tries fits old new {r = Err e} outside (answered o settled) =
      did_more (λ p q d. answered d (worth_formed {B = ℕ} false (λ (v : Levels). 0) (Err e) ∙ settled))
      (did_try fits verb h _ _ (Err e) outside o)
  did_tries fits old new outside (again {once = Ok v} o unsettled t) = absurd (let no = unsettled in cc)
  did_tries fits old new outside (again {once = Err e} o unsettled t) =
      did_both (λ p m q d more. again d (worth_formed {B = ℕ} false (λ (v : Levels). 0) (Err e) ∙ unsettled) more)
      (did_try fits verb h _ _ (Err e) outside o) (did_tries fits _ _ o.outside t)
  did_tries fits old new outside gave_up = did_nowhere outside (λ k m. m) (λ p. gave_up)

-- no buffer is changed in a region
pub buffers_kept : (names : Names) (v : PutAt) (n : List ℕ) (i : ℕ) (x : ℤ) (r : Result Reply Fault)
    → (v ≡ put_at.Put → r ≡ Err fault.InCritical) → names ≡ buffers_after (commands.PutAt v n i x) r names
buffers_kept names put_at.Put n i x r other =
    ap (λ a. buffers_after (commands.PutAt put_at.Put n i x) a names) (sym (other refl))
buffers_kept names put_at.PutInLevel n i x r other = refl

-- what is done in a region that has a level
pub did_at : {S : Type 0} {facts : S → Facts} {a b : S} {f g : Frames} {role : Role} {met shown : Known → Type 0}
    {answer : Result Reply Fault} (turns : ℕ) (names : Names) (levels : List (List ℕ)) (objects : List ℕ) (c : Command)
    → 1 ≤ length objects
    → CarriedOut facts a b f g role met shown
    (deed_within (record { names = names; levels = levels; objects = objects }) c) answer → CarriedOut facts a b f g
    role met shown (deed_at turns (record { names = names; levels = levels; objects = objects }) c) answer
did_at turns names levels [] c some d = absurd (omega arith)
did_at turns names levels (o ∷ os) c some d = d

-- WHAT A COMMAND LEAVES

-- no refused command changes a buffer
kept_by_refusal : (c : Command) (e : Fault) (names : Names) → names ≡ buffers_after c (Err e) names
kept_by_refusal (commands.PutAt put_at.Put n i x) e names = refl
kept_by_refusal (commands.Release release.Elements n r mode) e names = refl
kept_by_refusal _ e names = refl

-- whether a command is done in a region
abbrev pub is_of_region : Command → Bool
is_of_region (commands.OpenLevel v n r) = true
is_of_region (commands.CloseLevel v mode) = true
is_of_region (commands.OnNameAt v n i) = true
is_of_region (commands.PutAt v n i x) = true
is_of_region (commands.OnName v n) = true
is_of_region (commands.Make make.Wait n) = true
is_of_region _ = false

module _ {S B : Type 0} {G : Ghosts S} {layout : B → Layout} {tells : B → Account}
    {looked : B → List ℕ → Option ℕ → B → Type 0} {follows : B → ThreadWords → Type 0} {turns : ℕ}
    {words : ThreadWords} where
  module _ {old new : Env S G} {names names' : Names} {region' : Option NamedLevels} {board : B}
      {answer : Result Reply Fault} (c d : Command) (is : c ≡ d) where
    -- a command by which threads hand each other nothing, where no region stood
    pub outside : is_speaking d ≡ false → follows board words
        → DidWith old new None region' (deed turns names d) answer → StandsWith region' new
        → level_names region' ≡ levels_after d answer [] → objects_in region' ≡ objects_after d answer []
        → names' ≡ buffers_after d answer names
        → DidCommand layout tells looked follows turns c words old new names names' None region' board board answer
    outside silent has did stand levels objects changed = subst (λ e.
        DidCommand layout tells looked follows turns e words old new names names' None region' board board answer)
        (sym is) (record {
          does = did_silent tells looked board turns (place_with names None) words d silent did;
          stand = stand;
          levels = levels;
          objects = objects;
          names = changed;
          follows = subst (follows board) (silent_words names d answer words silent) has;
          kept = keeps_all;
        })

    -- the same in a region
    pub inside : (r : NamedLevels) → StandsIn r old → is_speaking d ≡ false → follows board words
        → DidWith old new (Some r) region' (deed_within (place_with names (Some r)) d) answer → StandsWith region' new
        → level_names region' ≡ levels_after d answer (level_names (Some r))
        → objects_in region' ≡ objects_after d answer (objects_in (Some r)) → names' ≡ buffers_after d answer names
        → DidCommand layout tells looked follows turns c words old new names names' (Some r) region' board board answer
    inside r stood silent has did stand levels objects changed = subst (λ e. DidCommand layout tells looked follows
        turns e words old new names names' (Some r) region' board board answer)
        (sym is) (record {
          does = did_silent tells looked board turns (place_with names (Some r)) words d silent
              (did_at turns names (level_names (Some r)) (objects_in (Some r)) d stood.stand.some did);
          stand = stand;
          levels = levels;
          objects = objects;
          names = changed;
          follows = subst (follows board) (silent_words names d answer words silent) has;
          kept = keeps_all;
        })

  -- what was done is told with the region and the answer that it left
  pub as_told : {old new : Env S G} {names names' : Names} {board board' : B} {region region' : Option NamedLevels}
      {answer : Result Reply Fault} (c : Command) (o : Option NamedLevels) (a : Result Reply Fault) → o ≡ region'
      → a ≡ answer
      → DidCommand layout tells looked follows turns c words old new names names' region region' board board' answer
      → DidCommand layout tells looked follows turns c words old new names names' region o board board' a
  as_told {old} {new} {names} {names'} {board} {board'} {region} {region'} {answer} c o a is says d = subst
      (λ x. DidCommand layout tells looked follows turns c words old new names names' region x board board' a) (sym is)
      (subst (λ x. DidCommand layout tells looked follows turns c words old new names names' region region' board board'
      x) (sym says) d)

  -- a command that is none of a region
  pub refused_inside : {old : Env S G} {names : Names} {board : B} (c : Command) (r : NamedLevels)
      → StandsIn r old → follows board words → is_of_region c ≡ false → DidCommand layout tells looked follows turns c
      words old old names names (Some r) (Some r) board board (Err InCritical)
  refused_inside (commands.OpenLevel v n r) region stood has other = absurd cc
  refused_inside (commands.CloseLevel v mode) region stood has other = absurd cc
  refused_inside (commands.OnNameAt v n i) region stood has other = absurd cc
  refused_inside (commands.PutAt v n i x) region stood has other = absurd cc
  refused_inside (commands.OnName v n) region stood has other = absurd cc
  refused_inside (commands.Make make.Wait n) region stood has other = absurd cc
  refused_inside c region stood has other =
      inside c c refl region stood refl has (did_nowhere stood.stand.ready.role_is (λ k m. m) (λ p. (refl, refl))) stood
      refl refl (kept_by_refusal c InCritical _)

  -- a command that makes calls, and opens no region
  pub called : {old new : Env S G} {names names' : Names} {board : B} {answer : Result Reply Fault} (c d : Command)
      → c ≡ d → IsOutside old → is_speaking d ≡ false → follows board words
      → WasDone old new (deed turns names d) answer → [] ≡ levels_after d answer [] → [] ≡ objects_after d answer []
      → names' ≡ buffers_after d answer names
      → DidCommand layout tells looked follows turns c words old new names names' None None board board answer
  called c d is stood silent has did levels objects changed =
      outside c d is silent has (did_in_role stood did) (did.stands_is.role ∙ stood) levels objects changed

  -- one by which they do, wherever the thread stands
  pub spoken : AreOf G.facts → {old new : Env S G} {names : Names} {region : Option NamedLevels} {board board' : B}
      {answer : Result Reply Fault} (c : Command) (region' : Option NamedLevels)
      → region' ≡ region → StandsWith region old
      → is_speaking c ≡ true → new.held.frames ≡ old.held.frames
      → HasSpoken G.facts old.held.steps new.held.steps (talk_of tells looked turns board') names words c answer
      → follows board' (words_after names c answer words) → Keeps layout tells board board'
      → DidCommand layout tells looked follows turns c words old new names names region region' board board' answer
  spoken fits {old} {new} {names} {region} {board} {board'} {answer} c region' same stood speaks frames spoke has kept =
      let talk = talk_of tells looked turns board' in
      subst (λ r. DidCommand layout tells looked follows turns c words old new names names region r board board' answer)
      (sym same) (record {
        does = did_speak fits talk turns names words region old new c answer stood frames spoke;
        stand = stands_still fits talk names words region old new c answer stood frames spoke;
        levels = said_levels c answer (level_names region) speaks;
        objects = said_objects c answer (objects_in region) speaks;
        names = said_buffers c answer names speaks;
        follows = has;
        kept = kept;
      })

  -- a wait
  pub waited : AreOf G.facts → {old new : Env S G} {names : Names} {region : Option NamedLevels} {board board' : B}
      {answer : Result Reply Fault} {n : List ℕ} {had : ThreadWords} (c : Command) (region' : Option NamedLevels)
      → region' ≡ region → had ≡ words
      → StandsWith region old → c ≡ commands.Make make.Wait n → new.held.frames ≡ old.held.frames
      → HasWaited G.facts old.held.steps new.held.steps (tells board') (WasInVain looked turns n) n (word_under had n)
      answer → (found : Option ℕ) × (answer ≡ reply_to_wait found) × follows board' (words_found n found had)
      → Keeps layout tells board board'
      → DidCommand layout tells looked follows turns c words old new names names region region' board board' answer
  waited fits {old} {new} {names} {board' = board'} {answer = answer} {n = n} c region' same these stood is frames w has
      kept =
      spoken fits c region' same stood (ap is_speaking is) frames
      (spoke_waiting G.facts tells looked turns board' names words c make.Wait answer is (ap is_speaking is)
      (subst (λ ws. HasWaited G.facts old.held.steps new.held.steps (tells board') (WasInVain looked turns n) n
      (word_under ws n) answer) these w))
      (subst (follows board') (sym (ap (λ d. words_after names d answer words) is
      ∙ found_words names n has.0 answer words has.1))
      (subst (λ ws. follows board' (words_found n has.0 ws)) these has.2))
      kept

  -- a post
  pub posted : AreOf G.facts → {old new : Env S G} {names : Names} {region : Option NamedLevels} {board board' : B}
      {answer : Result Reply Fault} {v : OnName} {n : List ℕ} {w : ℕ} (c : Command) (region' : Option NamedLevels)
      → region' ≡ region → StandsWith region old → c ≡ commands.OnName v n → w ≡ word_posted names n
      → answer ≡ Ok replies.Done → new.held.frames ≡ old.held.frames
      → HasPosted G.facts old.held.steps new.held.steps (tells board') words n w → follows board' (words_with words n w)
      → Keeps layout tells board board'
      → DidCommand layout tells looked follows turns c words old new names names region region' board board' answer
  posted fits {names = names} {board' = board'} {answer = answer} {v = v} {n = n} c region' same stood is word says
      frames p has kept =
      as_told c region' answer refl says (spoken fits c region' same stood (ap is_speaking is) frames
      (spoke_posting G.facts tells looked turns board' names words c v is word p)
      (subst (follows board') (ap (words_with words n) word
      ∙ ap (λ d. words_after names d (Ok replies.Done) words) (sym is)) has)
      kept)
