-- AN ANNOUNCED COLLECTION IS PLAYED by the steps of its page: the look and the announcement, refused tries, and then
-- the collection or the way back.
use Rattle.std.proofs.Common.{◌≡◌, ◌≤◌, ◌<◌, ◌||◌, ℕ, Bool, true, false, cond, nat_lt, ⊎_elim}
use Rattle.std.proofs.Common.{Result, Ok, Err, List, [], ◌∷◌, ◌++◌, map, length}
use Rattle.std.proofs.Common.{refl, sym, ap, subst, ◌∙◌, arith, append_assoc, append-nil, lt-ltb}
use Rattle.std.specs.List.{AllByRecursion}
use Rattle.std.proofs.lemmas.Bool.{cases_lt}
use mathlib.Core.List.{IsPrefix}
use Rattle.jr_word.specs.declared.config.Config.{Config}
use Rattle.jr_word.specs.declared.fault.Fault.{Fault}
use Rattle.jr_word.specs.declared.fault.Fault.TheVariants as fault
use Rattle.jr_model.specs.declared.event.Role.{Role}
use Rattle.jr_model.specs.declared.event.Role.TheVariants.{Announcing, Outside}
use Rattle.jr_model.specs.declared.event.GateAct.TheVariants.{Announce, Cancel, Shut}
use Rattle.jr_model.specs.declared.event.Act.{Act}
use Rattle.jr_model.specs.declared.event.Act.TheVariants.{Gate, Meet, ShutBusy}
use Rattle.jr_model.specs.CollectionCalls.{IsWhole, announcing_acts, collection_acts}
use Rattle.jr_model.specs.Frames.{Frames}
use Rattle.jr_model.specs.History.{History, IsLegal, PassView, by, mine, role_after, role_from, state}
use Rattle.jr_model.specs.Refusals.{GateHasMoved}
use Rattle.jr_model.specs.State.{Handle, is_inside}
use Rattle.jr_model.proofs.Counts.{bit}
use Rattle.jr_model.proofs.Histories.{mine_append, mine_push}
use Rattle.jr_model.proofs.Lengths.{sum_same}
use Rattle.jr_model.proofs.Moments.{prefix_trans}
use Rattle.jr_model.proofs.Stays.{append_cancel, role_from_append, role_of_state}
use Rattle.jr_weak.specs.declared.collecting.Collected.{Collected}
use Rattle.jr_world.specs.Doing.{Doing, Shared, by_step, in_role, unless_refused, whatever}
use Rattle.jr_world.specs.Plays.{ActsNext, LeavesOthers, Plays, SharedStands}
use Rattle.jr_world.specs.Plays.Plays.{does, has_ended, moves, unseen}
use Rattle.jr_world.proofs.GatePlays.{gate_open, leaves_plays, role_stands}
use Rattle.jr_world.proofs.LookStands.{look_shows}
use Rattle.jr_world.proofs.Standing.{next_needs}
use Rattle.one_order.specs.Orders.{Item}
use Rattle.one_order.specs.Orders.Item.{does as acting}
use Rattle.jr_scripts.specs.Together.{announced_in_steps, announces, finds_gate_still, is_kept_closed, others_in}
use Rattle.jr_scripts.specs.Together.{shuts, sweep_or_out}
use Rattle.jr_scripts.proofs.TogetherRun.CollectionPlays.{collected_plays, kept_plays, others_own, others_told}
use Rattle.jr_scripts.proofs.AloneHistories.{all_front}

-- WHERE THE GATE HAS MOVED there are several threads: a thread that only looked changed no count

looks_keep : (r : Role) (acts : List Act) → AllByRecursion (λ a. a ≡ Meet) acts → role_from r acts ≡ r
looks_keep r [] all = refl
looks_keep r (a ∷ acts) all = ap (λ z. role_from (role_after r z) acts) all.0 ∙ looks_keep r acts all.1

-- its role at a moment between is the one before
role_still : (old moment new : History) (t : ℕ) → IsPrefix old moment → IsPrefix moment new
    → mine new t ≡ mine old t ++ (Meet ∷ Meet ∷ []) → (state moment).role t ≡ (state old).role t
role_still old moment new t (front, is) (rest, is') own =
    role_of_state moment t
    ∙ (ap (role_from Outside) so_far
    ∙ (role_from_append Outside (mine old t) (mine front t)
    ∙ (looks_keep (role_from Outside (mine old t)) (mine front t) looks
    ∙ sym (role_of_state old t))))
  where
    so_far : mine moment t ≡ mine old t ++ mine front t
    so_far = ap (λ h. mine h t) (sym is) ∙ mine_append old front t

    since : mine front t ++ mine rest t ≡ Meet ∷ Meet ∷ []
    since = append_cancel (mine old t) (mine front t ++ mine rest t) (Meet ∷ Meet ∷ [])
        (sym (append_assoc (mine old t) (mine front t) (mine rest t))
        ∙ (ap (λ l. l ++ mine rest t) (sym so_far)
        ∙ (sym (mine_append moment rest t) ∙ (ap (λ h. mine h t) is' ∙ own))))

    looks : AllByRecursion (λ a. a ≡ Meet) (mine front t)
    looks = all_front (λ a. a ≡ Meet) (mine front t) (mine rest t)
        (subst (AllByRecursion (λ a. a ≡ Meet)) (sym since) (refl, (refl, tt)))

pub moved_several : (c : Config) (t looked found : ℕ) (old new : PassView) → t < c.threads → new.config ≡ c
    → mine new.seen t ≡ mine old.seen t ++ (Meet ∷ Meet ∷ []) → GateHasMoved old.seen new looked found
    → 1 < c.threads
moved_several c t looked found old new small config own moved = ⊎_elim
    (λ (several : 1 < c.threads). several)
    (λ (few : c.threads ≤ 1). absurd (moved.other (sym moved.looked_at.met.1
    ∙ (sum_same new.config.threads (λ u. bit (is_inside ((state moved.later.moment).role u)))
    (λ u. bit (is_inside ((state moved.looked_at.moment).role u)))
    (λ u less. ap (λ r. bit (is_inside r)) (same few u less)) ∙ moved.later.met.1))))
    (cases_lt 1 c.threads)
  where
    at : (moment : History) → IsPrefix old.seen moment → IsPrefix moment new.seen
        → (state moment).role t ≡ (state old.seen).role t
    at moment from to = role_still old.seen moment new.seen t from to own

    both : (state moved.looked_at.moment).role t ≡ (state moved.later.moment).role t
    both = at moved.looked_at.moment moved.looked_at.from moved.looked_at.to
        ∙ sym (at moved.later.moment
        (prefix_trans old.seen moved.looked_at.moment moved.later.moment moved.looked_at.from moved.later.from)
        moved.later.to)

    same : c.threads ≤ 1 → (u : ℕ) → u < new.config.threads
        → (state moved.looked_at.moment).role u ≡ (state moved.later.moment).role u
    same few u less =
        let row : u < c.threads = subst (λ (z : Config). u < z.threads) config less in
        let only : t ≡ u = omega (arith, small, few, row) in
        subst (λ z. (state moved.looked_at.moment).role z ≡ (state moved.later.moment).role z) only both

module _ (c : Config) (last : ℕ) (whole : History) (t : ℕ) (legal : IsLegal c last whole) where
  -- what the thread has done, and one act more behind its next one
  next_own : (past now : History) (a : Act) → ActsNext c whole t past now a
      → mine (now ++ by t a ∷ []) t ≡ mine past t ++ a ∷ []
  next_own past now a goes = mine_push now t a ∙ ap (λ l. l ++ a ∷ []) (others_own c whole t past now goes.goes)

  -- .. before all that comes later
  next_left : (past now later : History) (a : Act) (acts : List Act) → ActsNext c whole t past now a
      → mine later t ≡ mine (now ++ by t a ∷ []) t ++ acts → mine later t ≡ mine past t ++ (a ∷ acts)
  next_left past now later a acts goes own = own
      ∙ (ap (λ l. l ++ acts) (next_own past now a goes) ∙ append_assoc (mine past t) (a ∷ []) acts)

  keeps : (s : Shared) → LeavesOthers t s s
  keeps s = record { frames = λ u ne. refl; board = refl }

  -- THE STEP OF THE ANNOUNCEMENT, by what it finds
  abbrev announces_by : Bool → ℕ → Shared → Result (Unit {0}) Fault × Shared
  announces_by closed n s = cond (closed || nat_lt 0 n) (Err (fault.Busy n), s) (Ok tt, in_role Announcing t s)

  busy_by : (closed : Bool) (n : ℕ) (s : Shared) → 1 ≤ n → announces_by closed n s ≡ (Err (fault.Busy n), s)
  busy_by true n s some = refl
  busy_by false n s some = ap (λ b. cond b (Err (fault.Busy n), s) (Ok tt, in_role Announcing t s))
      (lt-ltb 0 n (omega (arith, some)))

  open_by : (s : Shared) → is_kept_closed t s ≡ false → announces t true s ≡ (Ok tt, in_role Announcing t s)
  open_by s open_is =
      ap (λ b. cond (b || false) (Err (fault.Busy (others_in t s)), s) (Ok tt, in_role Announcing t s)) open_is

  module _ (V : History → Result Collected Fault → Type 0) (g : Frames) (behind : List (Item Act)) where
    abbrev pub Played : Doing Collected → History → List (Item Act) → Type 0
    Played d past items = Plays c whole t V g behind d past g items

    -- THE LOOK, and then the announcement
    abbrev trying : Doing Collected
    trying = whatever (by_step shuts) sweep_or_out

    abbrev announcing : Doing Collected
    announcing = whatever (by_step announces) (unless_refused (λ (u : Unit {0}). trying))

    look_plays : (past : History) (items : List (Item Act))
        → ((now : History) → ActsNext c whole t past now Meet → Played announcing (now ++ by t Meet ∷ []) items)
        → Played (announced_in_steps) past (acting Meet ∷ items)
    look_plays past items next = does true Meet g
        (λ now s goes st. (look_shows c t now g s Meet refl st, keeps s))
        (λ now s goes st. next now goes)

    -- IT IS ANNOUNCED, and then the tries
    announce_plays : (past : History) (items : List (Item Act))
        → ((now : History) → ActsNext c whole t past now (Gate Announce)
        → Played trying (now ++ by t (Gate Announce) ∷ []) items)
        → Played announcing past (acting (Gate Announce) ∷ items)
    announce_plays past items next = does true (Gate Announce) g
        (λ now s goes st.
        subst (λ (z : Result (Unit {0}) Fault × Shared). SharedStands c t (now ++ by t (Gate Announce) ∷ []) g z.1
        × LeavesOthers t s z.1) (sym (found now s goes st)) (
          role_stands c last whole t legal now g s Announce (λ seen shut. refl)
              (next_needs c last whole t legal past now (Gate Announce) goes).0 st,
          record { frames = λ u ne. refl; board = refl },
        ))
        (λ now s goes st. subst (λ (z : Result (Unit {0}) Fault × Shared).
        Played (unless_refused (λ (u : Unit {0}). trying) z.0) (now ++ by t (Gate Announce) ∷ []) items)
        (sym (found now s goes st)) (next now goes))
      where
        found : (now : History) (s : Shared) → ActsNext c whole t past now (Gate Announce) → SharedStands c t now g s
            → announces t true s ≡ (Ok tt, in_role Announcing t s)
        found now s goes st = open_by s (gate_open c last whole t legal now g s
            ((next_needs c last whole t legal past now (Gate Announce) goes).1).1 st)

    -- IT IS NOT: others are in the way, and that is all
    busy_plays : (past : History) (n : ℕ)
        → ((now : History) → ActsNext c whole t past now (ShutBusy n)
        → V (now ++ by t (ShutBusy n) ∷ []) (Err (fault.Busy n)))
        → Played announcing past (acting (ShutBusy n) ∷ [])
    busy_plays past n so = does false (ShutBusy n) g
        (λ now s goes st.
        subst (λ (z : Result (Unit {0}) Fault × Shared). SharedStands c t (now ++ by t (ShutBusy n) ∷ []) g z.1
        × LeavesOthers t s z.1) (sym (found now s goes st))
        (look_shows c t now g s (ShutBusy n) refl st, keeps s))
        (λ now s goes st. subst (λ (z : Result (Unit {0}) Fault × Shared).
        Played (unless_refused (λ (u : Unit {0}). trying) z.0) (now ++ by t (ShutBusy n) ∷ []) [])
        (sym (found now s goes st)) (has_ended (Err (fault.Busy n)) (so now goes)))
      where
        found : (now : History) (s : Shared) → ActsNext c whole t past now (ShutBusy n) → SharedStands c t now g s
            → announces t false s ≡ (Err (fault.Busy n), s)
        found now s goes st =
            let needs = next_needs c last whole t legal past now (ShutBusy n) goes in
            ap (λ m. announces_by (is_kept_closed t s) m s)
            (others_told c last whole t legal now g s n needs.0 (needs.1).1 st)
            ∙ busy_by (is_kept_closed t s) n s (needs.1).2

    -- TRIES ARE REFUSED, which no step tells, and then the rest
    refused_tries : (refused : List ℕ) (rest : List Act) (past : History)
        → ((later : History) → mine later t ≡ mine past t ++ map ShutBusy refused
        → Played trying later (map acting rest))
        → Played trying past (map acting (map ShutBusy refused ++ rest))
    refused_tries [] rest past next = next past (sym (append-nil (mine past t)))
    refused_tries (n ∷ ns) rest past next = unseen (ShutBusy n)
        (λ now s goes st. look_shows c t now g s (ShutBusy n) refl st)
        (λ now goes. refused_tries ns rest (now ++ by t (ShutBusy n) ∷ []) (λ later own. next later
        (next_left past now later (ShutBusy n) (map ShutBusy ns) goes own)))

    -- THE BEGINNING of one that is announced
    pub announced_tries : (refused : List ℕ) (rest : List Act) (past : History)
        → ((later : History) → mine later t ≡ mine past t ++ announcing_acts refused
        → Played trying later (map acting rest))
        → Played announced_in_steps past (map acting (announcing_acts refused ++ rest))
    announced_tries refused rest past next =
        look_plays past (map acting (Gate Announce ∷ map ShutBusy refused ++ rest))
        (λ now goes. announce_plays (now ++ by t Meet ∷ []) (map acting (map ShutBusy refused ++ rest))
        (λ now' goes'. refused_tries refused rest (now' ++ by t (Gate Announce) ∷ []) (λ later own. next later
        (next_left past now later Meet (Gate Announce ∷ map ShutBusy refused) goes
        (next_left (now ++ by t Meet ∷ []) now' later (Gate Announce) (map ShutBusy refused) goes' own)))))

    -- ITS ENDS: the collection
    pub swept_plays : (past : History) (cleared : List Handle) (dropped : List ℕ) (used : ℕ)
        → ((before : History) → ActsNext c whole t past before (Gate Shut) → IsWhole (state before) cleared dropped)
        → ((later : History) → IsPrefix later whole
        → mine later t ≡ mine past t ++ collection_acts cleared dropped used
        → V later (Ok (record { cleared = length cleared; dropped = length dropped; used = used })))
        → Played trying past (map acting (collection_acts cleared dropped used))
    swept_plays past cleared dropped used complete so = collected_plays c last whole t legal V g behind (λ x. x)
        sweep_or_out past cleared dropped used refl complete so

    -- .. the last try is refused, and the announcement taken back
    pub taken_back_plays : (n : ℕ) (past : History)
        → ((later : History) → IsPrefix later whole → mine later t ≡ mine past t ++ (ShutBusy n ∷ Gate Cancel ∷ [])
        → V later (Err (fault.Busy n)))
        → Played trying past (map acting (ShutBusy n ∷ Gate Cancel ∷ []))
    taken_back_plays n past so = kept_plays c last whole t legal V g behind sweep_or_out past g
        (acting (Gate Cancel) ∷ []) n
        (λ now goes. leaves_plays c last whole t legal V behind (Err (fault.Busy n)) Cancel
        (now ++ by t (ShutBusy n) ∷ []) g refl (λ seen shut. refl)
        (λ now' goes'. so (now' ++ by t (Gate Cancel) ∷ []) goes'.next
        (next_left past now (now' ++ by t (Gate Cancel) ∷ []) (ShutBusy n) (Gate Cancel ∷ []) goes
        (next_own (now ++ by t (ShutBusy n) ∷ []) now' (Gate Cancel) goes'))))

    -- .. the look found others in the way
    pub closed_plays : (n : ℕ) (past : History)
        → ((later : History) → IsPrefix later whole → mine later t ≡ mine past t ++ (ShutBusy n ∷ [])
        → V later (Err (fault.Busy n)))
        → Played (announced_in_steps) past (map acting (ShutBusy n ∷ []))
    closed_plays n past so = moves true g (λ now s goes st. (st, keeps s))
        (λ now s goes st. busy_plays now n (λ now' goes'. so (now' ++ by t (ShutBusy n) ∷ []) goes'.next
        (next_own now now' (ShutBusy n) goes' ∙ ap (λ l. l ++ ShutBusy n ∷ []) (others_own c whole t past now goes))))

    -- .. or the exchange did
    pub late_plays : (n : ℕ) (past : History)
        → ((later : History) → IsPrefix later whole → mine later t ≡ mine past t ++ (Meet ∷ ShutBusy n ∷ [])
        → V later (Err (fault.Busy n)))
        → Played (announced_in_steps) past (map acting (Meet ∷ ShutBusy n ∷ []))
    late_plays n past so = look_plays past (acting (ShutBusy n) ∷ [])
        (λ now goes. busy_plays (now ++ by t Meet ∷ []) n
        (λ now' goes'. so (now' ++ by t (ShutBusy n) ∷ []) goes'.next
        (next_left past now (now' ++ by t (ShutBusy n) ∷ []) Meet (ShutBusy n ∷ []) goes
        (next_own (now ++ by t Meet ∷ []) now' (ShutBusy n) goes'))))

    -- .. or both looks found it open, with two counts
    pub moved_plays : (past : History) → 1 < c.threads
        → ((later : History) → IsPrefix later whole → mine later t ≡ mine past t ++ (Meet ∷ Meet ∷ [])
        → V later (Err (fault.Moved 0 0)))
        → Played (announced_in_steps) past (map acting (Meet ∷ Meet ∷ []))
    moved_plays past several so = unseen Meet (λ now s goes st. look_shows c t now g s Meet refl st)
        (λ now goes. does false Meet g
        (λ now' s goes' st. (look_shows c t now' g s Meet refl st, keeps s))
        (λ now' s goes' st. subst (λ z. Played (unless_refused (λ (u : Unit {0}). announcing) z)
        (now' ++ by t Meet ∷ []) []) (sym (found now' s st))
        (has_ended (Err (fault.Moved 0 0)) (so (now' ++ by t Meet ∷ []) goes'.next
        (next_left past now (now' ++ by t Meet ∷ []) Meet (Meet ∷ []) goes
        (next_own (now ++ by t Meet ∷ []) now' Meet goes'))))))
      where
        found : (now : History) (s : Shared) → SharedStands c t now g s
            → (finds_gate_still t false s).0 ≡ Err (fault.Moved 0 0)
        found now s st = ap (λ b. cond b (Err (fault.Moved 0 0)) (Ok tt))
            (lt-ltb 1 (length s.roles) (let many = st.many in omega (arith, many, several)))
