-- A call that enters the gate is played, from its entry on, to its exit where it leaves.
use Rattle.std.proofs.Common.{◌≡◌, ◌≢◌, ◌⊎◌, inl, inr, ◌<◌, ◌≤◌, ◌+◌, ◌==◌, ℕ, Bool, true, false, cond}
use Rattle.std.proofs.Common.{Option, Some, None, Result, Ok, Err, IfErr, List, [], ◌∷◌, ◌++◌, map, length, slice_get}
use Rattle.std.proofs.Common.{refl, sym, ap, subst, ◌∙◌, arith, append_assoc, append-nil}
use Rattle.std.proofs.lemmas.List.{length-map}
use Rattle.std.specs.List.{AllByRecursion}
use mathlib.Core.List.{IsPrefix}
use Rattle.jr_word.specs.declared.config.Config.{Config}
use Rattle.jr_word.specs.declared.fault.Fault.{Fault}
use Rattle.jr_word.specs.declared.fault.Fault.TheVariants.{ObjectsFull, Raced, RowFull}
use Rattle.jr_model.specs.declared.event.Role.TheVariants.{Outside, Within}
use Rattle.jr_model.specs.declared.event.GateAct.TheVariants.{Announce, Cancel, Enter, Knock, Leave, Reopen, Shut}
use Rattle.jr_model.specs.declared.event.GateAct.TheVariants.{Withdraw}
use Rattle.jr_model.specs.declared.event.Act.{Act}
use Rattle.jr_model.specs.declared.event.Act.TheVariants.{Gate, ReserveLost}
use Rattle.jr_model.specs.declared.event.Event.{Event}
use Rattle.jr_model.specs.State.{EachPresent, State}
use Rattle.jr_model.specs.Steps.{ActNeeds, after}
use Rattle.jr_model.specs.Frames.{Frames}
use Rattle.jr_model.specs.History.{History, IsLegal, IsLegalFrom, PassView, by, mine, state}
use Rattle.jr_model.specs.Windows.{IsBehind}
use Rattle.jr_model.specs.Refusals.{Grounds, RowWasFull, Sometime}
use Rattle.jr_model.specs.State.{Contents, IsPresent}
use Rattle.std.proofs.Common.{IsSome}
use Rattle.std.proofs.lemmas.List.{length-append}
use Rattle.std.proofs.Common.{⊎_elim}
use Rattle.jr_model.proofs.Histories.{legal_append, mine_append, mine_push, state_push}
use Rattle.jr_model.proofs.Stays.{IsStill, append_cancel}
use Rattle.std.proofs.lemmas.List.{append_cancel_right}
use Rattle.jr_model.proofs.Moments.{prefix_self, prefix_trans}
use Rattle.jr_model.proofs.Gates.{IsApart, apart_after, apart_state, stay_act}
use Rattle.jr_model.proofs.Updates.{eq_false, eq_self, eq_true}
use Rattle.jr_word.specs.declared.handle.RefKind.TheVariants.{Global, Weak}
use Rattle.jr_model.specs.Checks.{Word, Parts}
use Rattle.jr_model.specs.Calls.{Call, Ran}
use Rattle.jr_model.specs.Programs.{AnswerKind, AnswerOf, Program, Which, none_known, work_of}
use Rattle.jr_model.specs.Programs.AnswerKind.{nothing, truth, number, object, object_kind, handle, perhaps, several}
use Rattle.jr_model.specs.Programs.Which.{one, other}
use Rattle.jr_word.specs.declared.kind.Kind.TheVariants.{Plain}
use Rattle.one_order.specs.Orders.{Item}
use Rattle.one_order.specs.Orders.Item.{does as acting}
use Rattle.jr_model.proofs.EachCall.{program_stays}
use Rattle.jr_model.proofs.Updates.{at_number_self}
use Rattle.jr_world.specs.World.{MeantOf, how_many, is_ref_of}
use Rattle.jr_world.specs.Births.{Births, births}
use Rattle.jr_world.specs.Doing.{Doing, Shared, go_out, noted, program_steps, step, whatever}
use Rattle.jr_world.specs.Doing.Doing.{ended}
use Rattle.jr_world.specs.Plays.{ActsNext, Plays, InStands}
use Rattle.jr_world.specs.Playing.{AnswerIs, AnsweredBy, HasComeTo, IsApt, IsNotedAt, LiesIn, ObjectIs, WordIs}
use Rattle.jr_world.specs.Fullness.{creations, deletions, row_references}
use Rattle.jr_world.proofs.Births.BornLists.{births_push}
use Rattle.jr_world.proofs.Fullness.Counting.{deletions_append}
use Rattle.jr_world.proofs.Fullness.{full_before_exit}
use Rattle.jr_world.proofs.GatePlays.{leaves_plays}
use Rattle.jr_world.proofs.InStay.{Grounded, IsAt, KnownAre, MayRefuse, Scene, StaysOn, Then, object_now, word_now}
use Rattle.jr_world.proofs.Joining.{joined_later}
use Rattle.jr_world.proofs.ProgramPlays.{PartsPlay, program_plays}
use Rattle.jr_world.proofs.Standing.{front_legal, is_of_gate, stays_between, stays_front, stays_by_others, stays_here}
use Rattle.jr_world.proofs.Standing.{still_between}

-- within, a thread does nothing at the gate but leave it
none_at_gate : (c : Config) (last : ℕ) (s : State) (t : ℕ) (a : Act) → s.role t ≡ Within → ActNeeds c last s t a
    → a ≢ Gate Leave → is_of_gate a ≡ false
none_at_gate c last s t (Gate Enter) within needs ne = let bad = sym needs.0 ∙ within in absurd cc
none_at_gate c last s t (Gate Knock) within needs ne = let bad = sym needs.0 ∙ within in absurd cc
none_at_gate c last s t (Gate Leave) within needs ne = absurd (ne refl)
none_at_gate c last s t (Gate Withdraw) within needs ne = let bad = sym needs.0 ∙ within in absurd cc
none_at_gate c last s t (Gate Announce) within needs ne = let bad = sym needs.0 ∙ within in absurd cc
none_at_gate c last s t (Gate Cancel) within needs ne = let bad = sym needs.0 ∙ within in absurd cc
none_at_gate c last s t (Gate Shut) within (inl out, rest) ne = let bad = sym out ∙ within in absurd cc
none_at_gate c last s t (Gate Shut) within (inr out, rest) ne = let bad = sym out ∙ within in absurd cc
none_at_gate c last s t (Gate Reopen) within needs ne = let bad = sym needs.0 ∙ within in absurd cc
none_at_gate c last s t _ within needs ne = refl

module _ (c : Config) (last : ℕ) where
  pub none_along : (t : ℕ) (s : State) (es : History) → IsApart s.role → s.role t ≡ Within
      → AllByRecursion (λ a. a ≢ Gate Leave) (mine es t) → IsLegalFrom c last s es
      → AllByRecursion (λ a. is_of_gate a ≡ false) (mine es t)
  none_along t s [] apart within none l = tt
  none_along t s (e ∷ es) apart within none l = go (e.thread == t) refl none
      (λ ne. none_along t (after s e) es (apart_after c last s e apart l.0)
      (stay_act c last t s e.thread e.act apart within ne l.0.1).0)
    where
      go : (b : Bool) → (e.thread == t) ≡ b
          → AllByRecursion (λ a. a ≢ Gate Leave) (cond b (e.act ∷ mine es t) (mine es t))
          → (e ≢ by t (Gate Leave) → AllByRecursion (λ a. a ≢ Gate Leave) (mine es t)
          → IsLegalFrom c last (after s e) es → AllByRecursion (λ a. is_of_gate a ≡ false) (mine es t))
          → AllByRecursion (λ a. is_of_gate a ≡ false) (cond b (e.act ∷ mine es t) (mine es t))
      go true is none' rest =
          let here : ActNeeds c last s t e.act =
          subst (λ u. ActNeeds c last s u e.act) (eq_true e.thread t is) l.0.1 in (
            none_at_gate c last s t e.act within here none'.0,
            rest (λ same. none'.0 (ap (λ (f : Event). f.act) same)) none'.1 l.1,
          )
      go false is none' rest = rest (λ same. eq_false e.thread t is (ap (λ (f : Event). f.thread) same)) none' l.1

cons_cancel : {A : Type 0} (x y : A) (xs ys : List A) → x ∷ xs ≡ y ∷ ys → (x ≡ y) × (xs ≡ ys)
cons_cancel x y xs ys e = (cc, cc)

-- two moments right before acts of one thread, with as many of its acts behind them, are one
one_moment : (t : ℕ) (a b : Act) (xs ys rest later : History) → xs ++ by t a ∷ rest ≡ ys ++ by t b ∷ later
    → mine xs t ≡ mine ys t → xs ≡ ys
one_moment t a b [] [] rest later is same = refl
one_moment t a b [] (y ∷ ys) rest later is same = absurd (
    let first = (cons_cancel (by t a) y rest (ys ++ by t b ∷ later) is).0 in
    let mine_first : mine (y ∷ ys) t ≡ a ∷ mine ys t = ap (λ z. mine (z ∷ ys) t) (sym first)
    ∙ ap (λ d. cond d (a ∷ mine ys t) (mine ys t)) (eq_self t) in
    let bad = same ∙ mine_first in cc)
one_moment t a b (x ∷ xs) [] rest later is same = absurd (
    let first = (cons_cancel x (by t b) (xs ++ by t a ∷ rest) later is).0 in
    let mine_first : mine (x ∷ xs) t ≡ b ∷ mine xs t = ap (λ z. mine (z ∷ xs) t) first
    ∙ ap (λ d. cond d (b ∷ mine xs t) (mine xs t)) (eq_self t) in
    let bad = sym same ∙ mine_first in cc)
one_moment t a b (x ∷ xs) (y ∷ ys) rest later is same =
    let both = cons_cancel x y (xs ++ by t a ∷ rest) (ys ++ by t b ∷ later) is in
    let tails : mine xs t ≡ mine ys t = go (y.thread == t) refl
    (ap (λ z. mine (z ∷ xs) t) (sym both.0) ∙ same) in
    ap (λ l. x ∷ l) (one_moment t a b xs ys rest later both.1 tails) ∙ ap (λ z. z ∷ ys) both.0
  where
    go : (d : Bool) → (y.thread == t) ≡ d → cond (y.thread == t) (y.act ∷ mine xs t) (mine xs t)
        ≡ cond (y.thread == t) (y.act ∷ mine ys t) (mine ys t) → mine xs t ≡ mine ys t
    go true is' e = (cons_cancel y.act y.act (mine xs t) (mine ys t)
        (sym (ap (λ d. cond d (y.act ∷ mine xs t) (mine xs t)) is') ∙ e
        ∙ ap (λ d. cond d (y.act ∷ mine ys t) (mine ys t)) is')).1
    go false is' e = sym (ap (λ d. cond d (y.act ∷ mine xs t) (mine xs t)) is') ∙ e
        ∙ ap (λ d. cond d (y.act ∷ mine ys t) (mine ys t)) is'

pub same_moment : (t : ℕ) (a b : Act) (xs ys whole : History) → IsPrefix (xs ++ by t a ∷ []) whole
    → IsPrefix (ys ++ by t b ∷ []) whole → mine xs t ≡ mine ys t → xs ≡ ys
same_moment t a b xs ys whole (rest, is) (later, is') same = one_moment t a b xs ys rest later
    (sym (append_assoc xs (by t a ∷ []) rest) ∙ is ∙ sym is' ∙ append_assoc ys (by t b ∷ []) later) same

-- of what begins with one more at its end, either less begins, or it is all of it
push_prefix : {A : Type 0} (xs ys : List A) (y : A) → IsPrefix xs (ys ++ y ∷ []) → IsPrefix xs ys ⊎ (xs ≡ ys ++ y ∷ [])
push_prefix [] ys y (rest, is) = inl (ys, refl)
push_prefix (x ∷ xs) [] y (rest, is) = inr (go xs rest (cons_cancel x y (xs ++ rest) [] is))
  where
    go : (xs rest : List _) → (x ≡ y) × (xs ++ rest ≡ []) → x ∷ xs ≡ y ∷ []
    go [] rest e = ap (λ z. z ∷ []) e.0
    go (z ∷ zs) rest e = absurd (let bad = e.1 in cc)
push_prefix (x ∷ xs) (z ∷ zs) y (rest, is) =
    let both = cons_cancel x z (xs ++ rest) (zs ++ y ∷ []) is in go both.0 (push_prefix xs zs y (rest, both.1))
  where
    go : x ≡ z → IsPrefix xs zs ⊎ (xs ≡ zs ++ y ∷ []) → IsPrefix (x ∷ xs) (z ∷ zs) ⊎ (x ∷ xs ≡ z ∷ zs ++ y ∷ [])
    go same (inl (more, e)) = inl (more, ap (λ l. x ∷ l) e ∙ ap (λ w. w ∷ zs) same)
    go same (inr e) = inr (ap (λ l. x ∷ l) e ∙ ap (λ w. w ∷ zs ++ y ∷ []) same)

-- ONE CALL that enters the gate, of which the thread's entry comes next, and then these acts of its work
module _ (c : Config) (last : ℕ) (whole : History) (old new : PassView) (f g : Frames) (n : ℕ) (a : AnswerKind)
    (p : Program n a) (words : Which → Word) (answer : Result (AnswerOf a) Fault) (lies : LiesIn c last whole old new)
    {past : History} (come : HasComeTo whole old past) {call : Call (AnswerOf a)} (r : Ran old new f g call answer)
    (acts : List Act) (ran : work_of c last old.thread (state new.seen) words p f acts answer g) where
  -- none of its acts between is at the gate
  no_exit : AllByRecursion (λ b. b ≢ Gate Leave) acts
  no_exit = program_stays c last old.thread (state new.seen) words p none_known 0 f g acts answer ran

  -- the moment right behind its entry
  module _ (now : History) (s : Shared) (next : ActsNext c whole old.thread past now (Gate Enter))
      (st : InStands c old.thread now f s) where
    abbrev pub entry : History
    entry = now ++ by old.thread (Gate Enter) ∷ []

    abbrev pub own : List Act
    own = mine entry old.thread ++ acts

    pub same_births : births entry ≡ births now
    same_births = births_push now (by old.thread (Gate Enter))

    pub noted_there : IsNotedAt entry (noted s)
    noted_there = record {
      stand = ap (λ l. how_many (is_ref_of Global) l + how_many (is_ref_of Weak) l) there;
      made = ap length there ∙ length-map (births entry).refs (λ e. e.1);
      used = st.used ∙ ap (λ (b : Births). b.used) (sym same_births);
    }
      where
        there : s.refs ≡ map (λ e. e.1) (births entry).refs
        there = st.refs ∙ ap (λ (b : Births). map (λ e. e.1) b.refs) (sym same_births)

    abbrev pub scene : Scene
    scene = record {
      config = c;
      last = last;
      whole = whole;
      thread = old.thread;
      legal = lies.legal;
      small = lies.small;
      serials = lies.serials;
      entry = entry;
      noted = noted s;
      noted_so = noted_there;
      own = own;
    }

    within_entry : (state entry).role old.thread ≡ Within
    within_entry = ap (λ (m : State). m.role old.thread) (state_push now (by old.thread (Gate Enter)))
        ∙ at_number_self (state now).role old.thread Within

    at_entry : IsAt scene entry acts
    at_entry = record {
      stays = stays_here c last whole old.thread lies.legal entry within_entry;
      begins = next.next;
      own = refl;
    }

    -- its grounds were begun behind its entry
    pub begun_is : IsBehind old (Gate Enter) r.begun → r.begun ≡ entry
    begun_is behind = behind.is ∙ ap (λ h. h ++ by old.thread (Gate Enter) ∷ [])
        (same_moment old.thread (Gate Enter) (Gate Enter) (old.seen ++ behind.between) now whole
        (prefix_trans ((old.seen ++ behind.between) ++ by old.thread (Gate Enter) ∷ []) new.seen whole
        (subst (λ h. IsPrefix h new.seen) behind.is r.window.to) lies.begins) next.next
        (mine_append old.seen behind.between old.thread ∙ ap (λ l. mine old.seen old.thread ++ l) behind.others
        ∙ ap (λ l. l ++ []) (sym come.own)
        ∙ sym (ap (λ h. mine h old.thread) next.goes.is ∙ mine_append past next.goes.since old.thread
        ∙ ap (λ l. mine past old.thread ++ l) next.goes.others)))

    pub mine_entry : mine entry old.thread ≡ mine old.seen old.thread ++ Gate Enter ∷ []
    mine_entry = mine_push now old.thread (Gate Enter) ∙ ap (λ l. l ++ Gate Enter ∷ [])
        (ap (λ h. mine h old.thread) next.goes.is ∙ mine_append past next.goes.since old.thread
        ∙ ap (λ l. mine past old.thread ++ l) next.goes.others ∙ append-nil (mine past old.thread) ∙ come.own)

    -- to a moment at which its work is done the thread stays
    pub stays_to : (to : History) → mine to old.thread ≡ own → IsPrefix to whole → IsPrefix entry to
        → StaysOn scene entry to
    stays_to to done begins (since, is) = record {
      since = since;
      is = sym is;
      within = within_entry;
      none = none_along c last old.thread (state entry) since (apart_state c last entry both.0) within_entry
          (subst (AllByRecursion (λ b. b ≢ Gate Leave)) (sym mine_since) no_exit) both.1;
    }
      where
        both : IsLegal c last entry × IsLegalFrom c last (state entry) since
        both = (legal_append c last entry since).0 (subst (IsLegal c last) (sym is)
            (front_legal c last whole old.thread lies.legal to begins))

        mine_since : mine since old.thread ≡ acts
        mine_since = append_cancel (mine entry old.thread) (mine since old.thread) acts
            (sym (mine_append entry since old.thread) ∙ ap (λ h. mine h old.thread) is ∙ done)

    -- its work is played from there, where a refusal may be told
    pub work_plays : (numbers : Which → ℕ) (behind : List (Item Act)) → PartsPlay scene (state new.seen)
        → ((w : Which) → WordIs past (words w) (numbers w)) → IsApt last f words p → MayRefuse scene behind answer
        → Plays c whole old.thread (Then scene a answer) g behind
        (program_steps c (noted s) numbers p none_known 0) entry f (map acting acts)
    work_plays numbers behind parts words_are apt may =
        program_plays scene (state new.seen) parts words numbers p none_known none_known Plain 0 0 entry f g acts answer
        behind at_entry (λ w. word_now scene past entry begun_before (words w) (numbers w) (words_are w))
        none_are (inl refl) (apt Plain) may ran
      where
        begun_before : IsPrefix past entry
        begun_before = prefix_trans past now entry (next.goes.since, sym next.goes.is)
            (by old.thread (Gate Enter) ∷ [], refl)

        none_are : KnownAre scene entry none_known none_known
        none_are one = tt
        none_are other = tt

    -- the moment right before its exit
    module _ (exit : History) (is : new.seen ≡ exit ++ by new.thread (Gate Leave) ∷ [])
        (all : r.acts ≡ Gate Enter ∷ acts ++ Gate Leave ∷ []) where
      pub seen_is : new.seen ≡ exit ++ by old.thread (Gate Leave) ∷ []
      seen_is = is ∙ ap (λ u. exit ++ by u (Gate Leave) ∷ []) lies.thread

      mine_exit : mine exit old.thread ≡ own
      mine_exit = append_cancel_right (mine exit old.thread) own (Gate Leave ∷ [])
          (sym (mine_push exit old.thread (Gate Leave)) ∙ ap (λ h. mine h old.thread) (sym seen_is) ∙ r.did.own
          ∙ ap (λ l. mine old.seen old.thread ++ l) all
          ∙ sym (append_assoc (mine old.seen old.thread) (Gate Enter ∷ []) (acts ++ Gate Leave ∷ []))
          ∙ ap (λ l. l ++ (acts ++ Gate Leave ∷ [])) (sym mine_entry)
          ∙ sym (append_assoc (mine entry old.thread) acts (Gate Leave ∷ [])))

      exit_next : IsPrefix (exit ++ by old.thread (Gate Leave) ∷ []) whole
      exit_next = subst (λ h. IsPrefix h whole) seen_is lies.begins

      exit_only : (later : History) → IsPrefix (later ++ by old.thread (Gate Leave) ∷ []) whole
          → mine later old.thread ≡ own → later ≡ exit
      exit_only later begins same = same_moment old.thread (Gate Leave) (Gate Leave) later exit whole begins exit_next
          (same ∙ sym mine_exit)

      pub exit_begins : IsPrefix exit whole
      exit_begins = prefix_trans exit (exit ++ by old.thread (Gate Leave) ∷ []) whole
          (by old.thread (Gate Leave) ∷ [], refl) exit_next

      -- behind its entry, and the thread stays in between
      module _ (begun : IsBehind old (Gate Enter) r.begun) where
        entry_seen : IsPrefix entry (exit ++ by old.thread (Gate Leave) ∷ [])
        entry_seen = subst (λ h. IsPrefix entry h) seen_is
            (subst (λ h. IsPrefix h new.seen) (begun_is begun) r.window.to)

        -- a moment from which the thread has not left is one before its exit
        not_behind : (m : History) → m ≡ exit ++ by old.thread (Gate Leave) ∷ [] → (state m).role old.thread ≢ Within
        not_behind m same within =
            let out : (state m).role old.thread ≡ Outside = ap (λ h. (state h).role old.thread) same
            ∙ ap (λ (s : State). s.role old.thread) (state_push exit (by old.thread (Gate Leave)))
            ∙ at_number_self (state exit).role old.thread Outside in
            let bad = sym out ∙ within in cc

        entry_begins : IsPrefix entry exit
        entry_begins = ⊎_elim (λ h. h) (λ same. absurd (not_behind entry same within_entry))
            (push_prefix entry exit (by old.thread (Gate Leave)) entry_seen)

        pub stays_exit : StaysOn scene entry exit
        stays_exit = stays_to exit mine_exit exit_begins entry_begins

        -- the present objects of a moment of the stay are there at the exit
        still_exit : (m : History) → IsPrefix entry m → IsPrefix m (exit ++ by old.thread (Gate Leave) ∷ [])
            → IsStill (state m) (state exit)
        still_exit m from to = ⊎_elim
            (λ h. still_between c last whole old.thread lies.legal m exit
            (stays_between c last whole old.thread lies.legal entry m exit
            (stays_front c last whole old.thread lies.legal entry m exit stays_exit from h) stays_exit h) exit_begins)
            (λ same. subst (λ h. IsStill (state h) (state exit)) (sym same) (record {
              objects = λ o x there. (
                x,
                sym (ap (λ (s : State). s.objects o)
                    (state_push exit (by old.thread (Gate Leave)))) ∙ there,
                refl,
                refl,
              );
              used = let same_used = ap (λ (s : State). s.used) (state_push exit (by old.thread (Gate Leave))) in
                  omega arith;
            }))
            (push_prefix m exit (by old.thread (Gate Leave)) to)

        -- and no space is given back
        used_grows : (m l : History) → IsPrefix entry m → IsPrefix m l
            → IsPrefix l (exit ++ by old.thread (Gate Leave) ∷ []) → (state m).used ≤ (state l).used
        used_grows m l from between to = ⊎_elim
            (λ h.
            let second = stays_front c last whole old.thread lies.legal entry l exit stays_exit
            (prefix_trans entry m l from between) h in
            let first = stays_front c last whole old.thread lies.legal entry m l second from between in
            (still_between c last whole old.thread lies.legal m l
            (stays_between c last whole old.thread lies.legal entry m l first second between)
            (prefix_trans l exit whole h exit_begins)).used)
            (λ same.
            let less =
            (still_exit m from (prefix_trans m l (exit ++ by old.thread (Gate Leave) ∷ []) between to)).used in
            let used_same : (state l).used ≡ (state exit).used = ap (λ h. (state h).used) same
            ∙ ap (λ (s : State). s.used) (state_push exit (by old.thread (Gate Leave))) in
            omega arith)
            (push_prefix l exit (by old.thread (Gate Leave)) to)

        legal_seen : IsLegal new.config new.last new.seen
        legal_seen = subst (λ z. IsLegal z new.last new.seen) (sym lies.room)
            (subst (λ z. IsLegal c z new.seen) (sym lies.serial)
            (front_legal c last whole old.thread lies.legal new.seen lies.begins))

        few_deletions : length (deletions new.seen) ≤ new.last
        few_deletions =
            let long = ap length (ap deletions (sym lies.begins.1) ∙ deletions_append new.seen lies.begins.0)
            ∙ length-append (deletions new.seen) (deletions lies.begins.0) in
            let few = lies.serials in
            let same = lies.serial in
            omega arith

        -- A REFUSAL HAS ITS GROUNDS right before the exit
        row_full : RowWasFull r.begun new → Grounded scene RowFull
        row_full full mid before same =
            let is_exit = exit_only (entry ++ mid) before same in
            let enough = full_before_exit entry mid new (is ∙ ap (λ h. h ++ by new.thread (Gate Leave) ∷ [])
            (sym is_exit)) legal_seen few_deletions (subst (λ h. RowWasFull h new) (begun_is begun) full) in
            subst (λ z. z.slots ≤ row_references z last (state entry) + length (creations mid)) lies.room
            (subst (λ z. new.config.slots ≤ row_references new.config z (state entry) + length (creations mid))
            lies.serial enough)

        objects_full : Sometime (EachPresent new.config) r.begun new.seen → Grounded scene ObjectsFull
        objects_full full later before same o first fits =
            let there = full.met o first (subst (λ z. o ≤ z.objects) (sym lies.room) fits) in
            let still = still_exit full.moment (subst (λ h. IsPrefix h full.moment) (begun_is begun) full.from)
            (subst (λ h. IsPrefix full.moment h) seen_is full.to) in
            subst (λ h. IsPresent (state h) o) (sym (exit_only later before same))
            (present_still full.moment o still there)
          where
            present_still : (m : History) (o : ℕ) → IsStill (state m) (state exit) → IsPresent (state m) o
                → IsPresent (state exit) o
            present_still m o still there = go ((state m).objects o) refl there
              where
                go : (x : Option Contents) → (state m).objects o ≡ x → IsSome x → IsPresent (state exit) o
                go None e none = absurd (let bad = none in cc)
                go (Some x) e some = subst IsSome (sym (still.objects o x e).1) refl

        grounded : (e : Fault) → Grounds r.begun new e → Grounded scene e
        grounded RowFull full = row_full full
        grounded ObjectsFull full = objects_full full
        grounded (Raced looked found) (asked, lost) =
            let from = subst (λ h. IsPrefix h lost.looked_at.moment) (begun_is begun) lost.looked_at.from in
            let to : IsPrefix lost.lost.before (exit ++ by old.thread (Gate Leave) ∷ []) =
            subst (IsPrefix lost.lost.before) seen_is
            (by new.thread (ReserveLost asked looked found) ∷ lost.lost.since, sym lost.lost.taken) in
            let first = used_grows entry lost.looked_at.moment (prefix_self entry) from
            (prefix_trans lost.looked_at.moment lost.lost.before (exit ++ by old.thread (Gate Leave) ∷ [])
            lost.looked_at.to to) in
            let second = used_grows lost.looked_at.moment lost.lost.before from lost.looked_at.to to in
            let was = lost.looked_at.met in
            let found_is = lost.lost.needs.1.1 in
            less_than first second was found_is lost.lost.needs.1.2
          where
            less_than : (state entry).used ≤ (state lost.looked_at.moment).used
                → (state lost.looked_at.moment).used ≤ (state lost.lost.before).used
                → (state lost.looked_at.moment).used ≡ looked → found ≡ (state lost.lost.before).used → found ≢ looked
                → (state entry).used < found
            less_than first second was found_is differ = omega (arith, first, second, was, found_is, differ)
        grounded _ none = tt

        -- a refusal is told right before the exit
        may_refuse : (later : List (Item Act)) → MayRefuse scene (acting (Gate Leave) ∷ later) answer
        may_refuse later = go answer r.grounds
          where
            go : (x : Result (AnswerOf a) Fault) → IfErr x (Grounds r.begun new)
                → MayRefuse scene (acting (Gate Leave) ∷ later) x
            go (Ok y) none = tt
            go (Err e) grounds = λ loud. (grounded e grounds, later, refl)

        -- what answers right before an exit answers behind it
        module _ (behind : List (Item Act)) where
          -- an answer goes on to be so
          answer_on : (later to : History) → IsPrefix later to → ((o j : ℕ) → ObjectIs later o j → ObjectIs to o j)
              → (b : AnswerKind) (x : AnswerOf b) (y : MeantOf b) → AnswerIs later b x y → AnswerIs to b x y
          answer_on later to begins' stand nothing x y so = tt
          answer_on later to begins' stand truth x y so = so
          answer_on later to begins' stand number x y so = so
          answer_on later to begins' stand object x y (inl none) = inl none
          answer_on later to begins' stand object x y (inr so) = inr (stand x y so)
          answer_on later to begins' stand object_kind x y so = so
          answer_on later to begins' stand handle x y so = word_now scene later to begins' (Parts x) y.0 so
          answer_on later to begins' stand (perhaps b) None None so = tt
          answer_on later to begins' stand (perhaps b) (Some x) (Some y) so = answer_on later to begins' stand b x y so
          answer_on later to begins' stand (perhaps b) None (Some y) so = absurd so
          answer_on later to begins' stand (perhaps b) (Some x) None so = absurd so
          answer_on later to begins' stand (several number) x y so = so
          answer_on later to begins' stand _ x y so = absurd so

          answered_on : (later to : History) → IsPrefix later to → ((o j : ℕ) → ObjectIs later o j → ObjectIs to o j)
              → (x : Result (AnswerOf a) Fault) (y : Result (MeantOf a) Fault) → AnsweredBy a x later y
              → AnsweredBy a x to y
          answered_on later to begins' stand (Ok x) (Ok y) so = answer_on later to begins' stand a x y so
          answered_on later to begins' stand (Err e) (Err d) so = so
          answered_on later to begins' stand (Ok x) (Err d) so = absurd so
          answered_on later to begins' stand (Err e) (Ok y) so = absurd so

          pub exit_plays : (later : History) (x : Result (MeantOf a) Fault) → Then scene a answer later x
              → Plays c whole old.thread (AnsweredBy a answer) g behind (step go_out (λ _. ended x)) later g
              (acting (Gate Leave) ∷ [])
          exit_plays later x (stays, begun', so) = leaves_plays c last whole old.thread lies.legal (AnsweredBy a answer)
              behind x Leave later g refl (λ seen shut. refl)
              (λ to next'. answered_on later (to ++ by old.thread (Gate Leave) ∷ [])
              (prefix_trans later to (to ++ by old.thread (Gate Leave) ∷ []) (next'.goes.since, sym next'.goes.is)
              (by old.thread (Gate Leave) ∷ [], refl)) (λ o j there. stands_on to next' o j there) answer x so)
            where
              stands_on : (to : History) → ActsNext c whole old.thread later to (Gate Leave) → (o j : ℕ)
                  → ObjectIs later o j → ObjectIs (to ++ by old.thread (Gate Leave) ∷ []) o j
              stands_on to next' o j there =
                  let stays' = stays_by_others c last whole old.thread lies.legal entry later to stays next'.goes in
                  let between = stays_between c last whole old.thread lies.legal entry later to stays stays'
                  (next'.goes.since, sym next'.goes.is) in
                  let it = object_now scene later to between next'.goes.begins o j there.0 there.1 in (
                    it.0,
                    ap (λ (b : Births). slice_get b.objects j) (births_push to (by old.thread (Gate Leave))) ∙ it.1,
                  )

          -- its work, and then its exit
          pub call_plays : (numbers : Which → ℕ) → PartsPlay scene (state new.seen)
              → ((w : Which) → WordIs past (words w) (numbers w)) → IsApt last f words p
              → (next' : Result (MeantOf a) Fault → Doing (MeantOf a))
              → ((later : History) (x : Result (MeantOf a) Fault) → AnsweredBy a answer later x
              → next' x ≡ step go_out (λ _. ended x))
              → Plays c whole old.thread (AnsweredBy a answer) g behind
              (whatever (program_steps c (noted s) numbers p none_known 0) next') entry f
              (map acting acts ++ acting (Gate Leave) ∷ [])
          call_plays numbers parts words_are apt next' out = joined_later c whole old.thread (Then scene a answer)
              (AnsweredBy a answer) g g next' (acting (Gate Leave) ∷ []) behind
              (program_steps c (noted s) numbers p none_known 0) entry f (map acting acts)
              (work_plays numbers (acting (Gate Leave) ∷ behind) parts words_are apt (may_refuse behind))
              (λ later x begins' so. subst (λ d. Plays c whole old.thread (AnsweredBy a answer) g behind d later g
              (acting (Gate Leave) ∷ [])) (sym (out later x so.2)) (exit_plays later x so))
