-- What a history shows, as it goes on: where a thread is within, no collection is under way, and all is shown.
use Rattle.std.proofs.Common.{◌≡◌, ◌≢◌, ℕ, Bool, false, Option, Some, None, Result, List, [], ◌∷◌, ◌++◌}
use Rattle.std.proofs.Common.{cond, length}
use Rattle.std.proofs.Common.{refl, sym, ap, subst, ◌∙◌, append_assoc, append-nil}
use mathlib.Core.List.{IsPrefix}
use Rattle.jr_word.specs.declared.config.Config.{Config}
use Rattle.jr_word.specs.declared.fault.Fault.{Fault}
use Rattle.jr_model.specs.declared.event.Event.{Event}
use Rattle.jr_model.specs.declared.event.Role.TheVariants.{Collecting, Within}
use Rattle.jr_model.specs.declared.event.Act.{Act}
use Rattle.jr_model.specs.declared.event.Act.TheVariants.{Gate}
use Rattle.jr_model.specs.declared.event.Act.TheVariants.{Clear, Drop, Meet, Settle, ShutBusy}
use Rattle.jr_model.specs.declared.event.GateAct.{GateAct}
use Rattle.jr_model.specs.declared.event.GateAct.TheVariants.{Announce, Cancel, Enter, Knock, Leave, Reopen, Shut}
use Rattle.jr_model.specs.declared.event.GateAct.TheVariants.{Withdraw}
use Rattle.jr_model.specs.Frames.{Frames}
use Rattle.jr_model.specs.History.{History, IsLegal, by, state}
use Rattle.jr_model.specs.State.{State}
use Rattle.jr_model.specs.State.{same_handle}
use Rattle.jr_model.specs.Steps.{ActNeeds, act_after}
use Rattle.jr_model.proofs.Gates.{IsApart, apart_state, collection_act}
use Rattle.jr_model.proofs.Histories.{legal_append, legal_push, state_push}
use Rattle.jr_model.proofs.Updates.{at_number_self}
use Rattle.jr_world.specs.Births.{births}
use Rattle.jr_world.specs.Births.{Births, born_by, emptied}
use Rattle.jr_world.specs.World.{World, found}
use Rattle.jr_world.specs.Doing.{Doing, Shared, as_seen, atom, whatever}
use Rattle.jr_world.specs.Doing.Doing.{steps}
use Rattle.jr_world.specs.Plays.{ActsNext, InStands, LeavesOthers, OthersGoOn, Plays, SharedStands, StandsBy}
use Rattle.jr_world.specs.Plays.{open_or, open_part, sweep_from, sweep_of, under_way}
use Rattle.jr_world.specs.Plays.Plays.{does, moves, unseen, waits}
use Rattle.jr_world.proofs.Standing.{front_legal, is_of_gate, stays_by_act, stays_by_others, stays_here, still_within}
use Rattle.jr_world.proofs.Standing.{looks_then}
use Rattle.jr_world.proofs.Births.BornLists.{births_push}
use Rattle.std.proofs.lemmas.List.{length-map}
use Rattle.jr_model.proofs.Moments.{prefix_self, prefix_trans}
use Rattle.one_order.specs.Orders.{Item}
use Rattle.one_order.specs.Orders.Item.{does as acting}

-- a history is swept by each part in turn
pub sweep_append : (seen : History) (shut : Option History) (xs ys : History)
    → sweep_from seen shut (xs ++ ys) ≡ sweep_from (seen ++ xs) (sweep_from seen shut xs) ys
sweep_append seen shut [] ys = ap (λ z. sweep_from z shut ys) (sym (append-nil seen))
sweep_append seen shut (x ∷ xs) ys = sweep_append (seen ++ x ∷ []) (under_way seen shut x.act) xs ys
    ∙ ap (λ z. sweep_from z (sweep_from (seen ++ x ∷ []) (under_way seen shut x.act) xs) ys)
    (append_assoc seen (x ∷ []) xs)

pub sweep_push : (now : History) (e : Event) → sweep_of (now ++ e ∷ []) ≡ under_way now (sweep_of now) e.act
sweep_push now e = sweep_append [] None now (e ∷ [])

-- an act that is none of a collection, and bears nothing, shows nothing more
pub open_push : (t : ℕ) (now : History) (a : Act)
    → ((seen : History) (shut : Option History) → under_way seen shut a ≡ shut)
    → births (now ++ by t a ∷ []) ≡ births now
    → births (open_part (now ++ by t a ∷ [])) ≡ births (open_part now)
open_push t now a quiet same = ap (λ z. births (open_or (now ++ by t a ∷ []) z))
    (sweep_push now (by t a) ∙ quiet now (sweep_of now)) ∙ go (sweep_of now)
  where
    go : (shut : Option History) → births (open_or (now ++ by t a ∷ []) shut) ≡ births (open_or now shut)
    go None = same
    go (Some shut) = refl

-- where a collection is under way, a thread collects
abbrev Held : State → Option History → Type 0
Held s None = Unit {0}
Held s (Some shut) = (u : ℕ) × (s.role u ≡ Collecting)

module _ (c : Config) (last : ℕ) where
  held_on : (s : State) (shut : Option History) (t : ℕ) (a : GateAct) → a ≢ Reopen → IsApart s.role → Held s shut
      → ActNeeds c last s t (Gate a) → Held (act_after s t (Gate a)) shut
  held_on s None t a ne i h n = tt
  held_on s (Some shut) t a ne i h n = (
    h.0,
    (collection_act c last h.0 s t (Gate a) i h.1
        (λ e. ne (let same = ap (λ x. x.act) e in cc)) n).0,
  )

  held_by : (s : State) (seen : History) (shut : Option History) (t : ℕ) (a : Act) → IsApart s.role → Held s shut
      → ActNeeds c last s t a → Held (act_after s t a) (under_way seen shut a)
  held_by s seen shut t (Gate Shut) i h n = (t, at_number_self s.role t Collecting)
  held_by s seen shut t (Gate Reopen) i h n = tt
  held_by s seen shut t (Gate Enter) i h n = held_on s shut t Enter (λ e. cc) i h n
  held_by s seen shut t (Gate Knock) i h n = held_on s shut t Knock (λ e. cc) i h n
  held_by s seen shut t (Gate Leave) i h n = held_on s shut t Leave (λ e. cc) i h n
  held_by s seen shut t (Gate Withdraw) i h n = held_on s shut t Withdraw (λ e. cc) i h n
  held_by s seen shut t (Gate Announce) i h n = held_on s shut t Announce (λ e. cc) i h n
  held_by s seen shut t (Gate Cancel) i h n = held_on s shut t Cancel (λ e. cc) i h n
  held_by s seen None t _ i h n = tt
  held_by s seen (Some shut) t _ i h n = h

  held_along : (seen : History) (shut : Option History) (es : History) → IsLegal c last (seen ++ es)
      → Held (state seen) shut → Held (state (seen ++ es)) (sweep_from seen shut es)
  held_along seen shut [] l h = subst (λ z. Held (state z) shut) (sym (append-nil seen)) h
  held_along seen shut (e ∷ es) l h =
      let parts : (seen ++ e ∷ []) ++ es ≡ seen ++ e ∷ es = append_assoc seen (e ∷ []) es in
      let whole : IsLegal c last ((seen ++ e ∷ []) ++ es) = subst (IsLegal c last) (sym parts) l in
      let pushed = (legal_push c last seen e).0 ((legal_append c last (seen ++ e ∷ []) es).0 whole).0 in
      subst (λ z. Held (state z) (sweep_from (seen ++ e ∷ []) (under_way seen shut e.act) es)) parts
      (held_along (seen ++ e ∷ []) (under_way seen shut e.act) es whole
      (subst (λ z. Held z (under_way seen shut e.act)) (sym (state_push seen e))
      (held_by (state seen) seen shut e.thread e.act (apart_state c last seen pushed.0) h pushed.1.1)))

  -- where nobody collects, nothing is under way
  pub none_collects : (now : History) → IsLegal c last now → ((u : ℕ) → (state now).role u ≢ Collecting)
      → sweep_of now ≡ None
  none_collects now l none = go (sweep_of now) (held_along [] None now l tt)
    where
      go : (shut : Option History) → Held (state now) shut → shut ≡ None
      go None h = refl
      go (Some shut) h = absurd (none h.0 h.1)

-- NO REFERENCE IS BORN while a collection is under way
module _ (c : Config) (last : ℕ) where
  none_born : (b : Births) (s : State) (u t : ℕ) (a : Act) → IsApart s.role → s.role u ≡ Collecting
      → ActNeeds c last s t a → length (born_by b t a).refs ≡ length b.refs
  none_born b s u t (Gate a) i w n = refl
  none_born b s u t (ShutBusy m) i w n = refl
  none_born b s u t (Clear h) i w n =
      length-map b.refs (λ e. (e.0, cond (same_handle h e.0) (emptied e.1) e.1))
  none_born b s u t (Drop o) i w n = refl
  none_born b s u t (Settle m) i w n = refl
  none_born b s u t Meet i w n = refl
  none_born b s u t _ i w n = absurd (i.apart u t w n.0)

  -- as many are shown as were born, and the history goes on to another one
  abbrev AsMany : History → Option History → Type 0
  AsMany now shut = length (births (open_or now shut)).refs ≡ length (births now).refs

  many_on : (seen : History) (shut : Option History) (t : ℕ) (a : Act) → IsApart (state seen).role
      → Held (state seen) shut → ActNeeds c last (state seen) t a → AsMany seen shut → (now : History)
      → births now ≡ born_by (births seen) t a → AsMany now shut
  many_on seen None t a i h n many now is = refl
  many_on seen (Some shut) t a i h n many now is = many
      ∙ sym (none_born (births seen) (state seen) h.0 t a i h.1 n) ∙ sym (ap (λ (b : Births). length b.refs) is)

  many_by : (seen : History) (shut : Option History) (t : ℕ) (a : Act) → IsApart (state seen).role
      → Held (state seen) shut → ActNeeds c last (state seen) t a → AsMany seen shut → (now : History)
      → births now ≡ born_by (births seen) t a → AsMany now (under_way seen shut a)
  many_by seen shut t (Gate Shut) i h n many now is = ap (λ (b : Births). length b.refs) (sym is)
  many_by seen shut t (Gate Reopen) i h n many now is = refl
  many_by seen shut t a i h n many now is = many_on seen shut t a i h n many now is

  many_along : (seen : History) (shut : Option History) (es : History) → IsLegal c last (seen ++ es)
      → Held (state seen) shut → AsMany seen shut → AsMany (seen ++ es) (sweep_from seen shut es)
  many_along seen shut [] l h many = subst (λ z. AsMany z shut) (sym (append-nil seen)) many
  many_along seen shut (e ∷ es) l h many =
      let parts : (seen ++ e ∷ []) ++ es ≡ seen ++ e ∷ es = append_assoc seen (e ∷ []) es in
      let whole : IsLegal c last ((seen ++ e ∷ []) ++ es) = subst (IsLegal c last) (sym parts) l in
      let pushed = (legal_push c last seen e).0 ((legal_append c last (seen ++ e ∷ []) es).0 whole).0 in
      let apart = apart_state c last seen pushed.0 in
      let then = under_way seen shut e.act in
      subst (λ z. AsMany z (sweep_from (seen ++ e ∷ []) then es)) parts
      (many_along (seen ++ e ∷ []) then es whole
      (subst (λ z. Held z then) (sym (state_push seen e))
      (held_by c last (state seen) seen shut e.thread e.act apart h pushed.1.1))
      (many_by seen shut e.thread e.act apart h pushed.1.1 many (seen ++ e ∷ []) (births_push seen e)))

  pub open_long : (now : History) → IsLegal c last now
      → length (births (open_part now)).refs ≡ length (births now).refs
  open_long now l = many_along [] None now l tt refl

pub open_within : (c : Config) (last t : ℕ) (now : History) → IsLegal c last now → (state now).role t ≡ Within
    → open_part now ≡ now
open_within c last t now l within = ap (open_or now)
    (none_collects c last now l (λ u collects. (apart_state c last now l).apart u t collects within))

-- WHAT IS SHOWN GROWS: what a history shows begins what a later one does

prefix_of_push : (x y : History) (e : Event) → IsPrefix x y → IsPrefix x (y ++ e ∷ [])
prefix_of_push x y e (rest, is) =
    (rest ++ e ∷ [], sym (append_assoc x rest (e ∷ [])) ∙ ap (λ l. l ++ e ∷ []) is)

-- the one begins the other, which begins its history
abbrev Shows : History → History → History → Type 0
Shows x y now = IsPrefix x y × IsPrefix y now

shown_on : (seen : History) (shut : Option History) (e : Event) → IsPrefix (open_or seen shut) seen
    → Shows (open_or seen shut) (open_or (seen ++ e ∷ []) shut) (seen ++ e ∷ [])
shown_on seen None e begins = ((e ∷ [], refl), prefix_self (seen ++ e ∷ []))
shown_on seen (Some x) e begins = (prefix_self x, prefix_of_push x seen e begins)

shown_by : (seen : History) (shut : Option History) (e : Event) (a : Act) → IsPrefix (open_or seen shut) seen
    → Shows (open_or seen shut) (open_or (seen ++ e ∷ []) (under_way seen shut a)) (seen ++ e ∷ [])
shown_by seen shut e (Gate Shut) begins = (begins, (e ∷ [], refl))
shown_by seen shut e (Gate Reopen) begins =
    (prefix_of_push (open_or seen shut) seen e begins, prefix_self (seen ++ e ∷ []))
shown_by seen shut e (Gate Enter) begins = shown_on seen shut e begins
shown_by seen shut e (Gate Knock) begins = shown_on seen shut e begins
shown_by seen shut e (Gate Leave) begins = shown_on seen shut e begins
shown_by seen shut e (Gate Withdraw) begins = shown_on seen shut e begins
shown_by seen shut e (Gate Announce) begins = shown_on seen shut e begins
shown_by seen shut e (Gate Cancel) begins = shown_on seen shut e begins
shown_by seen shut e _ begins = shown_on seen shut e begins

shown_along : (seen : History) (shut : Option History) (es : History) → IsPrefix (open_or seen shut) seen
    → Shows (open_or seen shut) (open_or (seen ++ es) (sweep_from seen shut es)) (seen ++ es)
shown_along seen shut [] begins = subst (λ z. Shows (open_or seen shut) (open_or z shut) z) (sym (append-nil seen))
    (prefix_self (open_or seen shut), begins)
shown_along seen shut (e ∷ es) begins =
    let then = under_way seen shut e.act in
    let first = shown_by seen shut e e.act begins in
    let rest = shown_along (seen ++ e ∷ []) then es first.1 in
    subst (λ z. Shows (open_or seen shut) (open_or z (sweep_from (seen ++ e ∷ []) then es)) z)
    (append_assoc seen (e ∷ []) es) (
      prefix_trans (open_or seen shut) (open_or (seen ++ e ∷ []) then)
          (open_or ((seen ++ e ∷ []) ++ es) (sweep_from (seen ++ e ∷ []) then es)) first.0 rest.0,
      rest.1,
    )

pub open_begins : (now : History) → IsPrefix (open_part now) now
open_begins now = (shown_along [] None now (prefix_self [])).1

pub open_grows : (now since : History) → IsPrefix (open_part now) (open_part (now ++ since))
open_grows now since = subst (λ z. IsPrefix (open_part now) (open_or (now ++ since) z))
    (sym (sweep_append [] None now since)) (shown_along now (sweep_of now) since (open_begins now)).0

-- WHERE A THREAD IS WITHIN, all that was born is shown
inner : (c : Config) (t : ℕ) (h : History) (f : Frames) (s : Shared) → open_part h ≡ h → SharedStands c t h f s
    → InStands c t h f s
inner c t h f s same st = subst (λ z. StandsBy (births z) c t h f s) same st

outer : (c : Config) (t : ℕ) (h : History) (f : Frames) (s : Shared) → open_part h ≡ h → InStands c t h f s
    → SharedStands c t h f s
outer c t h f s same st = subst (λ z. StandsBy (births z) c t h f s) (sym same) st

module _ (c : Config) (last : ℕ) (whole : History) (t : ℕ) (legal : IsLegal c last whole) {past : History}
    (within : (state past).role t ≡ Within) where
  others_same : (now : History) → OthersGoOn c whole t past now → open_part now ≡ now
  others_same now goes = open_within c last t now (front_legal c last whole t legal now goes.begins)
      (still_within c last whole t legal past now
      (stays_by_others c last whole t legal past past now (stays_here c last whole t legal past within) goes))

  next_same : (now : History) (a : Act) → is_of_gate a ≡ false → ActsNext c whole t past now a
      → open_part (now ++ by t a ∷ []) ≡ now ++ by t a ∷ []
  next_same now a no_gate next = open_within c last t (now ++ by t a ∷ [])
      (front_legal c last whole t legal (now ++ by t a ∷ []) next.next)
      (still_within c last whole t legal past (now ++ by t a ∷ [])
      (stays_by_act c last whole t legal past past now a (stays_here c last whole t legal past within) next no_gate))

  -- what stands at a moment to which others lead, as it was born
  pub seen_in : {f : Frames} (now : History) (s : Shared) → OthersGoOn c whole t past now → SharedStands c t now f s
      → InStands c t now f s
  seen_in {f} now s goes st = inner c t now f s (others_same now goes) st

-- STEPS OF A THREAD THAT IS WITHIN: what stands may be told as it was born
module _ {A : Type 0} (c : Config) (last : ℕ) (whole : History) (t : ℕ) (legal : IsLegal c last whole)
    {V : History → Result A Fault → Type 0} {g : Frames} {behind : List (Item Act)} {past : History} {f : Frames}
    (within : (state past).role t ≡ Within) where
  pub moves_in : {items : List (Item Act)} {more : ℕ → Bool → Shared → Doing A} {leaves : ℕ → Bool → Shared → Shared}
      (luck : Bool) (f' : Frames)
      → ((now : History) (s : Shared) → OthersGoOn c whole t past now → InStands c t now f s
      → InStands c t now f' (leaves t luck s) × LeavesOthers t s (leaves t luck s))
      → ((now : History) (s : Shared) → OthersGoOn c whole t past now → InStands c t now f s
      → Plays c whole t V g behind (more t luck s) now f' items)
      → Plays c whole t V g behind (steps more leaves) past f items
  moves_in {leaves = leaves} luck f' stands goes_on = moves luck f'
      (λ now s goes st.
      let same = others_same c last whole t legal within now goes in
      let left = stands now s goes (inner c t now f s same st) in
      (outer c t now f' (leaves t luck s) same left.0, left.1))
      (λ now s goes st. goes_on now s goes (seen_in c last whole t legal within now s goes st))

  pub waits_in : {items later : List (Item Act)} {more : ℕ → Bool → Shared → Doing A}
      {leaves : ℕ → Bool → Shared → Shared} (luck : Bool) (a : Act) (f' : Frames)
      → items ++ behind ≡ acting a ∷ later
      → ((now : History) (s : Shared) → ActsNext c whole t past now a → InStands c t now f s
      → InStands c t now f' (leaves t luck s) × LeavesOthers t s (leaves t luck s))
      → ((now : History) (s : Shared) → ActsNext c whole t past now a → InStands c t now f s
      → Plays c whole t V g behind (more t luck s) now f' items)
      → Plays c whole t V g behind (steps more leaves) past f items
  waits_in {leaves = leaves} luck a f' is stands goes_on = waits luck a f' is
      (λ now s next st.
      let same = others_same c last whole t legal within now next.goes in
      let left = stands now s next (inner c t now f s same st) in
      (outer c t now f' (leaves t luck s) same left.0, left.1))
      (λ now s next st. goes_on now s next (seen_in c last whole t legal within now s next.goes st))

  pub does_in : {items : List (Item Act)} {more : ℕ → Bool → Shared → Doing A} {leaves : ℕ → Bool → Shared → Shared}
      (luck : Bool) (a : Act) (f' : Frames) → is_of_gate a ≡ false
      → ((now : History) (s : Shared) → ActsNext c whole t past now a → InStands c t now f s
      → InStands c t (now ++ by t a ∷ []) f' (leaves t luck s) × LeavesOthers t s (leaves t luck s))
      → ((now : History) (s : Shared) → ActsNext c whole t past now a → InStands c t now f s
      → Plays c whole t V g behind (more t luck s) (now ++ by t a ∷ []) f' items)
      → Plays c whole t V g behind (steps more leaves) past f (acting a ∷ items)
  does_in {leaves = leaves} luck a f' no_gate stands goes_on = does luck a f'
      (λ now s next st.
      let left = stands now s next (seen_in c last whole t legal within now s next.goes st) in
      let same = next_same c last whole t legal within now a no_gate next in
      (outer c t (now ++ by t a ∷ []) f' (leaves t luck s) same left.0, left.1))
      (λ now s next st. goes_on now s next (seen_in c last whole t legal within now s next.goes st))

  pub unseen_in : {items : List (Item Act)} {d : Doing A} (a : Act) → is_of_gate a ≡ false
      → ((now : History) (s : Shared) → ActsNext c whole t past now a → InStands c t now f s
      → InStands c t (now ++ by t a ∷ []) f s)
      → ((now : History) → ActsNext c whole t past now a → Plays c whole t V g behind d (now ++ by t a ∷ []) f items)
      → Plays c whole t V g behind d past f (acting a ∷ items)
  unseen_in a no_gate stands goes_on = unseen a
      (λ now s next st. outer c t (now ++ by t a ∷ []) f s (next_same c last whole t legal within now a no_gate next)
      (stands now s next (seen_in c last whole t legal within now s next.goes st)))
      goes_on

  -- .. and a step that looks at the world
  pub looks_in : {X : Type 0} {items : List (Item Act)} (look : World → Result X Fault)
      (next : Result X Fault → Doing A)
      → ((now : History) (s : Shared) → OthersGoOn c whole t past now → InStands c t now f s
      → Plays c whole t V g behind (next (look (as_seen t s))) now f items)
      → Plays c whole t V g behind (whatever (atom (found look)) next) past f items
  looks_in {items = items} look next goes_on = looks_then c whole t V g behind look next past f items
      (λ now s goes st. goes_on now s goes (seen_in c last whole t legal within now s goes st))
