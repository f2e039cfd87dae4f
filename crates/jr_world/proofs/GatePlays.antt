-- What a call does at the gate is played by the steps into it and out of it.
use Rattle.std.proofs.Common.{◌≡◌, ◌≢◌, ◌<◌, ◌==◌, ◌||◌, ℕ, zero, suc, Bool, true, false, cond, nat_eq, Option}
use Rattle.std.proofs.Common.{Result, Ok, Err, List, [], ◌∷◌, ◌++◌, slice_index_or, slice_set}
use Rattle.std.proofs.Common.{refl, sym, ap, subst, ◌∙◌, arith}
use Rattle.std.proofs.lemmas.List.{get_or-set_same, get_or-set_other, length-set}
use Rattle.jr_word.specs.declared.config.Config.{Config}
use Rattle.jr_word.specs.declared.fault.Fault.{Fault}
use Rattle.jr_word.specs.declared.fault.Fault.TheVariants as fault
use Rattle.jr_model.specs.declared.event.Role.{Role}
use Rattle.jr_model.specs.declared.event.Role.TheVariants.{Outside, Within, Knocking}
use Rattle.jr_model.specs.declared.event.GateAct.{GateAct}
use Rattle.jr_model.specs.declared.event.GateAct.TheVariants.{Enter, Knock, Withdraw}
use Rattle.jr_model.specs.declared.event.Act.{Act}
use Rattle.jr_model.specs.declared.event.Act.TheVariants.{Gate}
use Rattle.jr_model.specs.Maps.{update}
use Rattle.jr_model.specs.State.{NobodyCloses, SomebodyCloses, State, is_barring}
use Rattle.jr_model.specs.Steps.{role_behind}
use Rattle.jr_model.specs.Frames.{Frames}
use Rattle.jr_model.specs.History.{History, IsLegal, by, mine, state}
use Rattle.jr_model.proofs.Agreement.{stored_append}
use Rattle.jr_model.proofs.Histories.{mine_push, state_push}
use Rattle.jr_model.proofs.Updates.{eq_false, eq_true}
use Rattle.jr_world.specs.Births.{Births, births, no_births}
use Rattle.jr_world.specs.Doing.{Doing, Noted, Shared, go_in, go_out, in_role, inside, noted, of_all, of_others, step}
use Rattle.jr_world.specs.Doing.Doing.{ended}
use Rattle.jr_world.specs.Plays.{ActsNext, LeavesOthers, Plays, SharedStands}
use Rattle.jr_world.specs.Plays.{InStands, StandsBy, open_or, open_part, under_way}
use Rattle.jr_world.specs.Plays.Plays.{does, has_ended}
use Rattle.jr_world.proofs.Births.BornLists.{births_append}
use Rattle.jr_world.proofs.Standing.{next_needs, front_legal}
use Rattle.jr_world.proofs.OpenParts.{none_collects, open_push}
use Rattle.one_order.specs.Orders.{Item}
use Rattle.one_order.specs.Orders.Item.{does as acting}

-- WHO KEEPS THE GATE CLOSED

none_of_all : (f : Role → Bool) (rs : List Role) → ((u : ℕ) → f (slice_index_or rs u Outside) ≡ false)
    → of_all f rs ≡ false
none_of_all f [] none = refl
none_of_all f (r ∷ rs) none = ap (λ b. b || of_all f rs) (none 0) ∙ none_of_all f rs (λ u. none (suc u))

pub none_of_others : (f : Role → Bool) (t : ℕ) (rs : List Role) → ((u : ℕ) → f (slice_index_or rs u Outside) ≡ false)
    → of_others f t rs ≡ false
none_of_others f t [] none = refl
none_of_others f zero (r ∷ rs) none = none_of_all f rs (λ u. none (suc u))
none_of_others f (suc t) (r ∷ rs) none =
    ap (λ b. b || of_others f t rs) (none 0) ∙ none_of_others f t rs (λ u. none (suc u))

or_true : (a b : Bool) → b ≡ true → (a || b) ≡ true
or_true true b e = refl
or_true false b e = e

one_of_all : (f : Role → Bool) (rs : List Role) (u : ℕ) → f Outside ≡ false → f (slice_index_or rs u Outside) ≡ true
    → of_all f rs ≡ true
one_of_all f [] u out is = let bad = sym out ∙ is in absurd cc
one_of_all f (r ∷ rs) zero out is = ap (λ b. b || of_all f rs) is
one_of_all f (r ∷ rs) (suc u) out is = or_true (f r) (of_all f rs) (one_of_all f rs u out is)

one_of_others : (f : Role → Bool) (t : ℕ) (rs : List Role) (u : ℕ) → u ≢ t → f Outside ≡ false
    → f (slice_index_or rs u Outside) ≡ true → of_others f t rs ≡ true
one_of_others f t [] u ne out is = let bad = sym out ∙ is in absurd cc
one_of_others f zero (r ∷ rs) zero ne out is = absurd (ne refl)
one_of_others f zero (r ∷ rs) (suc u) ne out is = one_of_all f rs u out is
one_of_others f (suc t) (r ∷ rs) zero ne out is = ap (λ b. b || of_others f t rs) is
one_of_others f (suc t) (r ∷ rs) (suc u) ne out is =
    or_true (f r) (of_others f t rs) (one_of_others f t rs u (λ e. ne (ap suc e)) out is)

module _ (c : Config) (last : ℕ) (whole : History) (t : ℕ) (legal : IsLegal c last whole) where
  births_same : (now : History) (a : GateAct) → births (now ++ by t (Gate a) ∷ []) ≡ births now
  births_same now a = births_append no_births now (by t (Gate a) ∷ [])

  -- it neither begins a collection nor ends one
  abbrev pub IsQuiet : GateAct → Type 0
  IsQuiet a = (seen : History) (shut : Option History) → under_way seen shut (Gate a) ≡ shut

  -- an act at the gate leaves what stands by the same births, but for the thread's role
  pub role_by : {b : Births} (now : History) (f : Frames) (s : Shared) (a : GateAct) → t < c.threads
      → StandsBy b c t now f s → StandsBy b c t (now ++ by t (Gate a) ∷ []) f (in_role (role_behind a) t s)
  role_by now f s a small st = record {
    objects = st.objects;
    refs = st.refs;
    owners = st.owners;
    used = st.used;
    many = length-set s.roles t (role_behind a) ∙ st.many;
    roles = λ u. role_at u (t == u) refl ∙ sym (ap (λ (m : State). m.role u) (state_push now (by t (Gate a))));
    lists = st.lists;
    frames = st.frames;
    posted = st.posted;
    places = st.places;
    agreed = record {
      locals = λ p. ap (λ (m : State). m.locals t p) (state_push now (by t (Gate a))) ∙ st.agreed.locals p;
      given = λ p. st.agreed.given p ∙ sym (none_stored p);
    };
    sound = st.sound;
  }
    where
      role_at : (u : ℕ) (d : Bool) → (t == u) ≡ d → slice_index_or (slice_set s.roles t (role_behind a)) u Outside
          ≡ update nat_eq (state now).role t (role_behind a) u
      role_at u true e = subst (λ z. slice_index_or (slice_set s.roles t (role_behind a)) z Outside ≡ role_behind a)
          (eq_true t u e)
          (get_or-set_same s.roles t (role_behind a) Outside (let l = st.many in omega arith))
          ∙ sym (ap (λ b. cond b (role_behind a) ((state now).role u)) e)
      role_at u false e = get_or-set_other s.roles t u (role_behind a) Outside (λ same. eq_false t u e (sym same))
          ∙ st.roles u ∙ sym (ap (λ b. cond b (role_behind a) ((state now).role u)) e)

      none_stored : (p : ℕ) → Rattle.jr_model.specs.Frames.stored_at p (mine (now ++ by t (Gate a) ∷ []) t)
          ≡ Rattle.jr_model.specs.Frames.stored_at p (mine now t)
      none_stored p = ap (Rattle.jr_model.specs.Frames.stored_at p) (mine_push now t (Gate a))
          ∙ (let more = stored_append p (mine now t) (Gate a ∷ []) in omega arith)

  -- such an act changes the thread's role, and nothing else of what is shared
  pub role_stands : (now : History) (f : Frames) (s : Shared) (a : GateAct) → IsQuiet a → t < c.threads
      → SharedStands c t now f s → SharedStands c t (now ++ by t (Gate a) ∷ []) f (in_role (role_behind a) t s)
  role_stands now f s a quiet small st =
      subst (λ b. StandsBy b c t (now ++ by t (Gate a) ∷ []) f (in_role (role_behind a) t s))
      (sym (open_push t now (Gate a) quiet (births_same now a))) (role_by now f s a small st)

  role_keeps : (r : Role) (s : Shared) → LeavesOthers t s (in_role r t s)
  role_keeps r s = record { frames = λ u ne. refl; board = refl }

  pub gate_open : (now : History) (f : Frames) (s : Shared) → NobodyCloses (state now) → SharedStands c t now f s
      → of_others is_barring t s.roles ≡ false
  gate_open now f s nobody st =
      none_of_others is_barring t s.roles (λ u. ap is_barring (st.roles u) ∙ nobody u)

  gate_closed : (now : History) (f : Frames) (s : Shared) → (state now).role t ≡ Outside → SomebodyCloses (state now)
      → SharedStands c t now f s → of_others is_barring t s.roles ≡ true
  gate_closed now f s out (u, bars) st = one_of_others is_barring t s.roles u
      (λ same. let bad = sym bars ∙ ap (λ v. is_barring ((state now).role v)) same ∙ ap is_barring out in absurd cc)
      refl (ap is_barring (st.roles u) ∙ bars)

  -- where nobody closes it, nothing is under way
  all_open : (now : History) → IsLegal c last now → NobodyCloses (state now) → open_part now ≡ now
  all_open now l nobody = ap (open_or now)
      (none_collects c last now l (λ u e. let bad = sym (ap is_barring e) ∙ nobody u in absurd cc))

  goes_in : (s : Shared) → of_others is_barring t s.roles ≡ false → go_in t true s ≡ (Ok (noted s), in_role Within t s)
  goes_in s e = ap (λ b. cond b (Err fault.Barred, in_role Knocking t s) (Ok (noted s), in_role Within t s)) e

  knocks : (s : Shared) → of_others is_barring t s.roles ≡ true
      → go_in t true s ≡ (Err fault.Barred, in_role Knocking t s)
  knocks s e = ap (λ b. cond b (Err fault.Barred, in_role Knocking t s) (Ok (noted s), in_role Within t s)) e

  module _ {A : Type 0} (V : History → Result A Fault → Type 0) (behind : List (Item Act)) where
    abbrev pub Played : Frames → Doing A → History → Frames → List (Item Act) → Type 0
    Played g d past f items = Plays c whole t V g behind d past f items

    -- in, and then what follows by what is noted there
    pub enters_plays : (more : Noted → Doing A) (past : History) (f g : Frames) (items : List (Item Act))
        → ((now : History) (s : Shared) → ActsNext c whole t past now (Gate Enter) → InStands c t now f s
        → Played g (more (noted s)) (now ++ by t (Gate Enter) ∷ []) f items)
        → Played g (step go_in (inside more)) past f (acting (Gate Enter) ∷ items)
    enters_plays more past f g items next = does true (Gate Enter) f
        (λ now s goes st.
        let needs = next_needs c last whole t legal past now (Gate Enter) goes in
        subst (λ (z : Result Noted Fault × Shared). SharedStands c t (now ++ by t (Gate Enter) ∷ []) f z.1
        × LeavesOthers t s z.1)
        (sym (goes_in s (gate_open now f s (needs.1).1 st)))
        (role_stands now f s Enter (λ seen shut. refl) needs.0 st, role_keeps Within s))
        (λ now s goes st.
        let needs = next_needs c last whole t legal past now (Gate Enter) goes in
        subst (λ (z : Result Noted Fault × Shared). Played g (inside more z.0) (now ++ by t (Gate Enter) ∷ []) f items)
        (sym (goes_in s (gate_open now f s (needs.1).1 st))) (next now s goes
        (subst (λ h. StandsBy (births h) c t now f s)
        (all_open now (front_legal c last whole t legal now goes.goes.begins) (needs.1).1) st)))

    -- out, and the answer
    pub leaves_plays : (r : Result A Fault) (a : GateAct) (past : History) (g : Frames) → role_behind a ≡ Outside
        → IsQuiet a → ((now : History) → ActsNext c whole t past now (Gate a) → V (now ++ by t (Gate a) ∷ []) r)
        → Played g (step go_out (λ _. ended r)) past g (acting (Gate a) ∷ [])
    leaves_plays r a past g out quiet so = does true (Gate a) g
        (λ now s goes st. (
          subst (λ z. SharedStands c t (now ++ by t (Gate a) ∷ []) g (in_role z t s)) out
              (role_stands now g s a quiet (next_needs c last whole t legal past now (Gate a) goes).0 st),
          role_keeps Outside s,
        ))
        (λ now s goes st. has_ended r (so now goes))

    -- a knock that is withdrawn
    pub barred_plays : (more : Noted → Doing A) (past : History) (f : Frames)
        → ((later : History) → V later (Err fault.Barred))
        → Played f (step go_in (inside more)) past f (acting (Gate Knock) ∷ acting (Gate Withdraw) ∷ [])
    barred_plays more past f so = does true (Gate Knock) f
        (λ now s goes st.
        let needs = next_needs c last whole t legal past now (Gate Knock) goes in
        subst (λ (z : Result Noted Fault × Shared). SharedStands c t (now ++ by t (Gate Knock) ∷ []) f z.1
        × LeavesOthers t s z.1)
        (sym (knocks s (gate_closed now f s (needs.1).0 (needs.1).1 st)))
        (role_stands now f s Knock (λ seen shut. refl) needs.0 st, role_keeps Knocking s))
        (λ now s goes st.
        let needs = next_needs c last whole t legal past now (Gate Knock) goes in
        subst (λ (z : Result Noted Fault × Shared).
        Played f (inside more z.0) (now ++ by t (Gate Knock) ∷ []) f (acting (Gate Withdraw) ∷ []))
        (sym (knocks s (gate_closed now f s (needs.1).0 (needs.1).1 st)))
        (leaves_plays (Err fault.Barred) Withdraw (now ++ by t (Gate Knock) ∷ []) f refl (λ seen shut. refl)
        (λ later next. so (later ++ by t (Gate Withdraw) ∷ []))))
