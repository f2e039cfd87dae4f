-- COLLECTIONS FOLLOW, where no thread is at its end.
use Rattle.std.proofs.Common.{◌≡◌, ◌⊎◌, ◌==◌, ◌&&◌, ◌||◌, ◌++◌, inl, inr, ℕ, zero, suc, Bool, true, false, cond, not}
use Rattle.std.proofs.Common.{nat_lt, Option, Some, None, Result, Ok, Err, List, [], ◌∷◌, map, length, drop, slice_set}
use Rattle.std.proofs.Common.{refl, sym, ap, subst, ◌∙◌, arith}
use Rattle.std.proofs.lemmas.List.{append-nil, drop_all, length-map, set-get_or, set-set}
use Rattle.std.proofs.lemmas.Bool.Decides.{nat_tests}
use Rattle.std.proofs.Math.ListN.{get_or-map}
use Rattle.jr_word.specs.declared.config.Config.{Config}
use Rattle.jr_word.specs.declared.fault.Fault.{Fault}
use Rattle.jr_word.specs.declared.fault.Fault.TheVariants as fault
use Rattle.jr_model.specs.declared.event.Role.{Role}
use Rattle.jr_model.specs.declared.event.Role.TheVariants.{Announcing, Collecting, Outside}
use Rattle.jr_model.specs.declared.frames.Mode.TheVariants.{Abort}
use Rattle.jr_model.specs.State.{is_outside}
use Rattle.jr_world.specs.World.{Ref, how_many, standing_at}
use Rattle.jr_world.specs.Doing.{Act, Doing, Shared, as_seen, by_step, go_out, in_role, owner_if, run_alone}
use Rattle.jr_world.specs.Doing.{unless_refused, whatever}
use Rattle.jr_world.specs.Doing.Doing.{ended}
use Rattle.jr_weak.specs.declared.collecting.Collected.{Collected}
use Rattle.jr_env.specs.Tries.{is_tried_again}
use Rattle.jr_syntax.specs.declared.command.Command.{Command}
use Rattle.jr_syntax.specs.declared.command.Command.TheVariants as commands
use Rattle.jr_syntax.specs.declared.verb.Make.TheVariants as make
use Rattle.jr_syntax.specs.declared.verb.OnNameAt.TheVariants as on_name_at
use Rattle.jr_syntax.specs.declared.verb.PutAt.TheVariants as put_at
use Rattle.jr_scripts.specs.declared.reply.Reply.{Reply}
use Rattle.jr_scripts.specs.Commands.{told}
use Rattle.jr_scripts.specs.Places.{Place}
use Rattle.jr_scripts.specs.Posting.{ThreadWords}
use Rattle.jr_scripts.specs.Sweeps.{is_found_reached, kept_ref}
use Rattle.jr_scripts.specs.Together.{announced_in_steps, announces, collected_in_steps, doing_at, finds_gate_still}
use Rattle.jr_scripts.specs.Together.{is_busy, is_kept_closed, others_in, shuts, sweep_or_out, sweeps_all, sweeps_out}
use Rattle.jr_scripts.specs.Together.{tried_in_steps}
use Rattle.jr_scripts.specs.OneRow.{manner_of}
use Rattle.jr_scripts.specs.OneRow.Manner.{collects}
use Rattle.jr_scripts.proofs.OneRow.Alike.{Alike, IsLocal, Kept, Tidy, alike_all, alike_board, alike_itself}
use Rattle.jr_scripts.proofs.OneRow.Alike.{kept_itself, kept_through, role_of}
use Rattle.jr_scripts.proofs.OneRow.Blind.{kept_left}
use Rattle.jr_scripts.proofs.OneRow.Follows.{Follows, LeadsTo, Outcome, SameStep, leads_less, leads_then, nobody}
use Rattle.jr_scripts.proofs.OneRow.Follows.{run_then}
use Rattle.jr_scripts.proofs.OneRow.Programs.{in_role_kept, role_tidy}

-- another role, and the same again
set_back : (x : Role) (u : ℕ) (z : Shared) → role_of z u ≡ Outside → in_role Outside u (in_role x u z) ≡ z
set_back x u z out = λ i. record z { roles = roles i }
  where
    roles : slice_set (slice_set z.roles u x) u Outside ≡ z.roles
    roles = set-set z.roles u x Outside ∙ ap (λ r. slice_set z.roles u r) (sym out) ∙ set-get_or z.roles u Outside

-- WHAT A SWEEP LEAVES: each reference keeps its kind and its owner
local_kept : (reached : ℕ → Bool) (r : Option Ref) → IsLocal r → IsLocal (kept_ref reached r)
local_kept reached None local = tt
local_kept reached (Some r) local = local

sweep_tidy : (u : ℕ) (luck : Bool) (s : Shared) → Tidy s → Tidy (sweeps_out u luck s).1
sweep_tidy u luck s tidy = subst Tidy (sym left) (record {
  owned = tidy.owned ∙ sym (length-map s.refs (kept_ref reached));
  local = λ n t is. subst IsLocal (sym (get_or-map (kept_ref reached) s.refs n None))
      (local_kept reached (standing_at s.refs n) (tidy.local n t is));
  framed = tidy.framed;
})
  where
    reached : ℕ → Bool
    reached = is_found_reached (as_seen u s)

    refs : List (Option Ref)
    refs = map (kept_ref reached) s.refs

    swept_now : Shared
    swept_now = record (sweeps_out u luck s).1 { owners = s.owners; frames = s.frames }

    owners : s.owners ++ map (owner_if u) (drop (length s.owners) refs) ≡ s.owners
    owners = ap (λ l. s.owners ++ map (owner_if u) l) (drop_all (length s.owners) refs
        (let long = length-map s.refs (kept_ref reached) in let owned = tidy.owned in omega arith))
        ∙ append-nil s.owners

    left : (sweeps_out u luck s).1 ≡ swept_now
    left = λ i. record swept_now { owners = owners i; frames = set-get_or s.frames u [] i }

-- STEPS THAT DON'T LOOK AT THE BOARD
record IsUnread {A : Type 0} (u : ℕ) (act : Act A) : Type 0 where
  board : (luck : Bool) (s : Shared) (b : List (List ℕ × ℕ)) → ◌≡◌ {A = Result A Fault × Shared}
      (act u luck (record s { board = b })) ((act u luck s).0, record (act u luck s).1 { board = b })
  tidy : (luck : Bool) (s : Shared) → Tidy s → Tidy (act u luck s).1
  kept : (luck : Bool) (s : Shared) → Kept u s (act u luck s).1

-- one of two ends
abbrev one_end : {A : Type 0} → Bool → Result A Fault → Result A Fault → Shared → Shared → Result A Fault × Shared
one_end test p q s z = cond test (p, s) (q, z)

cond_board : {A : Type 0} (test : Bool) (p q : Result A Fault) (s z : Shared) (b : List (List ℕ × ℕ))
    → ◌≡◌ {A = Result A Fault × Shared} (one_end test p q (record s { board = b }) (record z { board = b }))
    ((one_end test p q s z).0, record (one_end test p q s z).1 { board = b })
cond_board true p q s z b = refl
cond_board false p q s z b = refl

cond_so : {A : Type 0} (P : Shared → Type 0) (test : Bool) (p q : Result A Fault) (s z : Shared) → P s → P z
    → P (one_end test p q s z).1
cond_so P true p q s z first second = first
cond_so P false p q s z first second = second

abbrev pub Exactly : {A : Type 0} → Result A Fault → Shared → Result A Fault → Shared → Type 0
Exactly r y q x = (q ≡ r) × (x ≡ y)

-- the gate is shut behind an announcement, or that is taken back
abbrev shuts_after : Doing Collected
shuts_after = whatever (by_step shuts) sweep_or_out

abbrev announces_after : Doing Collected
announces_after = whatever (by_step announces) (unless_refused (λ _. shuts_after))

abbrev again : ℕ → Result Collected Fault → Doing Collected
again n r = cond (is_tried_again r) (tried_in_steps n announced_in_steps) (ended r)

module _ (u : ℕ) where
  out_unread : IsUnread u go_out
  out_unread = record {
    board = λ luck s b. refl;
    tidy = λ luck s tidy. role_tidy Outside u s tidy;
    kept = λ luck s. in_role_kept Outside u s;
  }

  still_unread : IsUnread u finds_gate_still
  still_unread = record {
    board = λ luck s b. refl;
    tidy = λ luck s tidy. tidy;
    kept = λ luck s. kept_itself u s;
  }

  announce_unread : IsUnread u announces
  announce_unread = record {
    board = λ luck s b. cond_board (test luck s) (is_busy u s) (Ok tt) s (in_role Announcing u s) b;
    tidy = λ luck s tidy. cond_so Tidy (test luck s) (is_busy u s) (Ok tt) s (in_role Announcing u s) tidy
        (role_tidy Announcing u s tidy);
    kept = λ luck s. cond_so (Kept u s) (test luck s) (is_busy u s) (Ok tt) s (in_role Announcing u s)
        (kept_itself u s) (in_role_kept Announcing u s);
  }
    where
      test : Bool → Shared → Bool
      test luck s = is_kept_closed u s || (not luck && nat_lt 0 (others_in u s))

  shut_unread : IsUnread u shuts
  shut_unread = record {
    board = λ luck s b. cond_board (others_in u s == 0) (Ok tt) (is_busy u s) (in_role Collecting u s) s b;
    tidy = λ luck s tidy. cond_so Tidy (others_in u s == 0) (Ok tt) (is_busy u s) (in_role Collecting u s) s
        (role_tidy Collecting u s tidy) tidy;
    kept = λ luck s. cond_so (Kept u s) (others_in u s == 0) (Ok tt) (is_busy u s) (in_role Collecting u s) s
        (in_role_kept Collecting u s) (kept_itself u s);
  }

  sweep_unread : IsUnread u sweeps_out
  sweep_unread = record {
    board = λ luck s b. refl;
    tidy = λ luck s tidy. sweep_tidy u luck s tidy;
    kept = λ luck s. kept_through u s (in_role Outside u s) (sweeps_out u luck s).1 (in_role_kept Outside u s)
        (kept_left u (in_role Outside u s) (sweeps_all (as_seen u (in_role Outside u s))).1);
  }

  -- from what is the same but for the board, such a step does the same
  same : {A B : Type 0} {act : Act B} → IsUnread u act → (more : Result B Fault → Doing A) (luck : Bool) (z : Shared)
      → Tidy z → SameStep nobody u (λ t l s. more (act t l s).0) (λ t l s. (act t l s).1) z luck
      (more (act u luck z).0) (act u luck z).1
  same {A} {B} {act} unread more luck z tidy gone s none alike = (
    ap (λ x. more x.0) acts_so,
    subst (λ x. Alike gone x (act u luck z).1) (sym (ap (λ x. x.1) acts_so))
        (subst (λ g. Alike g (record (act u luck z).1 { board = s.board }) (act u luck z).1) (sym nobody_gone)
        (alike_board (λ t. false) (act u luck z).1 (act u luck z).1 s.board (act u luck z).1.board
        (alike_itself (act u luck z).1 (unread.tidy luck z tidy)))),
    unread.kept luck s,
  )
    where
      nobody_gone : gone ≡ (λ t. false)
      nobody_gone = λ i t. none t i

      acts_so : ◌≡◌ {A = Result B Fault × Shared} (act u luck s)
          ((act u luck z).0, record (act u luck z).1 { board = s.board })
      acts_so = ap (act u luck) (alike_all s z (subst (λ g. Alike g s z) nobody_gone alike))
          ∙ unread.board luck z s.board

  -- LUCK COUNTS FOR NOTHING
  abbrev pub IsExact : {A : Type 0} → Doing A → Shared → Type 0
  IsExact d z = LeadsTo nobody u (Exactly (run_alone u true d z).0 (run_alone u true d z).1) d z

  sweep_exact : (z : Shared) → Tidy z → IsExact (by_step sweeps_out) z
  sweep_exact z tidy = inl (λ luck. same sweep_unread (λ r. ended r) luck z tidy, (refl, refl))

  abbrev shut_by : Bool → Shared → Result (Unit {0}) Fault × Shared
  shut_by b s = cond b (Ok tt, in_role Collecting u s) (is_busy u s, s)

  pub collected_exact : (z : Shared) → Tidy z → IsExact collected_in_steps z
  collected_exact z tidy = inl (
    λ luck. same shut_unread (unless_refused (λ _. by_step sweeps_out)) luck z tidy,
    go (others_in u z == 0),
  )
    where
      go : (b : Bool) → IsExact (unless_refused (λ _. by_step sweeps_out) (shut_by b z).0) (shut_by b z).1
      go true = sweep_exact (in_role Collecting u z) (role_tidy Collecting u z tidy)
      go false = (refl, refl)

  -- BEHIND AN ANNOUNCEMENT
  shut_exact : (z : Shared) → Tidy z → IsExact shuts_after z
  shut_exact z tidy = inl (λ luck. same shut_unread sweep_or_out luck z tidy, go (others_in u z == 0))
    where
      go : (b : Bool) → IsExact (sweep_or_out (shut_by b z).0) (shut_by b z).1
      go true = sweep_exact (in_role Collecting u z) (role_tidy Collecting u z tidy)
      go false = inl (λ luck. same out_unread (λ _. ended (is_busy u z)) luck z tidy, (refl, refl))

  -- outside, where others are in
  abbrev pub IsOutBeside : Shared → Type 0
  IsOutBeside z = nat_lt 0 (others_in u z) ≡ true → role_of z u ≡ Outside

  -- without luck it is told at once what would be told behind the announcement
  announce_exact : (z : Shared) → Tidy z → IsOutBeside z → IsExact announces_after z
  announce_exact z tidy out = inr (λ luck. (
    same announce_unread (unless_refused (λ _. shuts_after)) luck z tidy,
    go luck (is_kept_closed u z),
  ))
    where
      announced : Shared
      announced = in_role Announcing u z

      tidy_now : Tidy announced
      tidy_now = role_tidy Announcing u z tidy

      tells : Bool → Result (Unit {0}) Fault × Shared
      tells b = cond b (is_busy u z, z) (Ok tt, announced)

      next : Result (Unit {0}) Fault → Doing Collected
      next = unless_refused (λ _. shuts_after)

      not_none : (n : ℕ) → nat_lt 0 n ≡ true → (n == 0) ≡ false
      not_none n some = grind (arith, nat_tests)

      others : others_in u announced ≡ others_in u z
      others = ap (λ l. how_many (λ r. not (is_outside r)) l) (set-set z.roles u Announcing Outside)

      busy : nat_lt 0 (others_in u z) ≡ true
          → ◌≡◌ {A = Result Collected Fault × Shared} (is_busy u z, z) (run_alone u true shuts_after announced)
      busy some = subst (λ b. ◌≡◌ {A = Result Collected Fault × Shared} (is_busy u z, z)
          (run_alone u true (sweep_or_out (shut_by b announced).0) (shut_by b announced).1))
          (sym (ap (λ n. n == 0) others ∙ not_none (others_in u z) some))
          (λ i. (Err (fault.Busy (sym others i)), sym (set_back Announcing u z (out some)) i))

      late : (b : Bool) → nat_lt 0 (others_in u z) ≡ b → LeadsTo nobody u
          (Exactly (run_alone u true shuts_after announced).0 (run_alone u true shuts_after announced).1)
          (next (tells b).0) (tells b).1
      late true some = (ap (λ x. x.0) (busy some), ap (λ x. x.1) (busy some))
      late false none = shut_exact announced tidy_now

      go : (luck closed : Bool) → LeadsTo nobody u (Exactly
          (run_alone u true (next (tells (closed || (false && nat_lt 0 (others_in u z)))).0)
          (tells (closed || (false && nat_lt 0 (others_in u z)))).1).0
          (run_alone u true (next (tells (closed || (false && nat_lt 0 (others_in u z)))).0)
          (tells (closed || (false && nat_lt 0 (others_in u z)))).1).1)
          (next (tells (closed || (not luck && nat_lt 0 (others_in u z)))).0)
          (tells (closed || (not luck && nat_lt 0 (others_in u z)))).1
      go true true = (refl, refl)
      go false true = (refl, refl)
      go true false = shut_exact announced tidy_now
      go false false = late (nat_lt 0 (others_in u z)) refl

  -- ONE TRY: without luck others may have come or gone, and then it is tried again from the same
  abbrev OneTry : Shared → Result Collected Fault → Shared → Type 0
  OneTry z r y = Exactly (run_alone u true announced_in_steps z).0 (run_alone u true announced_in_steps z).1 r y
      ⊎ ((nat_lt 1 (length z.roles) ≡ true) × Exactly (Err (fault.Moved 0 0)) z r y)

  try_leads : (z : Shared) → Tidy z → IsOutBeside z → LeadsTo nobody u (OneTry z) announced_in_steps z
  try_leads z tidy out = inr (λ luck. (
    same still_unread (unless_refused (λ _. announces_after)) luck z tidy,
    go luck,
  ))
    where
      on : LeadsTo nobody u (OneTry z) announces_after z
      on = leads_less nobody u
          (Exactly (run_alone u true announces_after z).0 (run_alone u true announces_after z).1) (OneTry z)
          (λ r y is. inl is) announces_after z (announce_exact z tidy out)

      late : (b : Bool) → nat_lt 1 (length z.roles) ≡ b → LeadsTo nobody u (OneTry z)
          (unless_refused (λ _. announces_after)
          (cond {A = Result (Unit {0}) Fault} b (Err (fault.Moved 0 0)) (Ok tt))) z
      late true more = inr (more, (refl, refl))
      late false none = on

      go : (luck : Bool) → LeadsTo nobody u (OneTry z)
          (unless_refused (λ _. announces_after) (finds_gate_still u luck z).0) z
      go true = on
      go false = late (nat_lt 1 (length z.roles)) refl

  -- with luck it is tried once
  tried_once : (z : Shared) → is_tried_again (run_alone u true announced_in_steps z).0 ≡ false
  tried_once z = go (is_kept_closed u z || (false && nat_lt 0 (others_in u z)))
    where
      shut : (s : Shared) (b : Bool)
          → is_tried_again (run_alone u true (sweep_or_out (shut_by b s).0) (shut_by b s).1).0 ≡ false
      shut s true = refl
      shut s false = refl

      tells : Bool → Result (Unit {0}) Fault × Shared
      tells b = cond b (is_busy u z, z) (Ok tt, in_role Announcing u z)

      go : (b : Bool) → is_tried_again
          (run_alone u true (unless_refused (λ _. shuts_after) (tells b).0) (tells b).1).0 ≡ false
      go true = refl
      go false = shut (in_role Announcing u z) (others_in u (in_role Announcing u z) == 0)

  abbrev pub run_once : Shared → Result Collected Fault × Shared
  run_once z = run_alone u true announced_in_steps z

  -- what holds of that holds of all tries, where it holds when they are up
  pub tried_leads : (K : Result Collected Fault → Shared → Type 0) (z : Shared) → Tidy z → IsOutBeside z
      → K (run_once z).0 (run_once z).1 → (n : ℕ) → (nat_lt 1 (length z.roles) ≡ true
      → LeadsTo nobody u K (tried_in_steps n announced_in_steps) z)
      → LeadsTo nobody u K (tried_in_steps (suc n) announced_in_steps) z
  tried_leads K z tidy out so n more =
      leads_then nobody u (OneTry z) K announced_in_steps (again n) z (try_leads z tidy out) go
    where
      stops : LeadsTo nobody u K (again n (run_once z).0) (run_once z).1
      stops = subst (λ b. LeadsTo nobody u K (cond b (tried_in_steps n announced_in_steps) (ended (run_once z).0))
          (run_once z).1) (sym (tried_once z)) so

      go : (r : Result Collected Fault) (y : Shared) → OneTry z r y → LeadsTo nobody u K (again n r) y
      go r y (inl is) =
          subst (λ (x : Result Collected Fault × Shared). LeadsTo nobody u K (again n x.0) x.1)
          (λ i. (sym is.0 i, sym is.1 i)) stops
      go r y (inr is) =
          subst (λ (x : Result Collected Fault × Shared). LeadsTo nobody u K (again n x.0) x.1)
          (λ i. (sym is.1.0 i, sym is.1.1 i)) (more is.0)

  abbrev OnceDone : Shared → Result Collected Fault → Shared → Type 0
  OnceDone z = Outcome nobody u (run_once z).0 (run_once z).1

  all_lead : (z : Shared) → Tidy z → IsOutBeside z → (n : ℕ)
      → LeadsTo nobody u (OnceDone z) (tried_in_steps n announced_in_steps) z
  all_lead z tidy out zero = inr (inr refl)
  all_lead z tidy out (suc n) = tried_leads (OnceDone z) z tidy out (inl (refl, refl)) n (λ more. all_lead z tidy out n)

  pub ran_once : (z : Shared) (n : ℕ) → ◌≡◌ {A = Result Collected Fault × Shared}
      (run_alone u true (tried_in_steps (suc n) announced_in_steps) z) (run_once z)
  ran_once z n = run_then nobody u announced_in_steps (again n) z ∙ ap (λ b. run_alone u true
      (cond b (tried_in_steps n announced_in_steps) (ended (run_once z).0)) (run_once z).1) (tried_once z)

  tried_follows : (z : Shared) → Tidy z → IsOutBeside z → (n : ℕ)
      → Follows nobody u (tried_in_steps n announced_in_steps) z
  tried_follows z tidy out zero = inl (refl, refl)
  tried_follows z tidy out (suc n) = subst (λ (x : Result Collected Fault × Shared). LeadsTo nobody u
      (Outcome nobody u x.0 x.1) (tried_in_steps (suc n) announced_in_steps) z) (sym (ran_once z n))
      (all_lead z tidy out (suc n))

  -- WHAT IS TOLD of a collection
  abbrev pub told_of_it : Doing Collected → Doing Reply
  told_of_it d = whatever d (λ counts. ended (told counts))

  told_is : (d : Doing Collected) (z : Shared) (r : Result Collected Fault) (y : Shared)
      → Exactly (run_alone u true d z).0 (run_alone u true d z).1 r y
      → Exactly (run_alone u true (told_of_it d) z).0 (run_alone u true (told_of_it d) z).1 (told r) y
  told_is d z r y is = (ap told is.0 ∙ sym (ap (λ x. x.0) ran), is.1 ∙ sym (ap (λ x. x.1) ran))
    where
      ran : ◌≡◌ {A = Result Reply Fault × Shared} (run_alone u true (told_of_it d) z)
          (told (run_alone u true d z).0, (run_alone u true d z).1)
      ran = run_then nobody u d (λ counts. ended (told counts)) z

  pub told_exact : (d : Doing Collected) (z : Shared) → IsExact d z → IsExact (told_of_it d) z
  told_exact d z exact = leads_then nobody u (Exactly (run_alone u true d z).0 (run_alone u true d z).1)
      (Exactly (run_alone u true (told_of_it d) z).0 (run_alone u true (told_of_it d) z).1) d _ z exact (told_is d z)

  told_follows : (d : Doing Collected) (z : Shared) → Follows nobody u d z → Follows nobody u (told_of_it d) z
  told_follows d z follows = leads_then nobody u (Outcome nobody u (run_alone u true d z).0 (run_alone u true d z).1)
      (Outcome nobody u (run_alone u true (told_of_it d) z).0 (run_alone u true (told_of_it d) z).1) d _ z follows go
    where
      go : (r : Result Collected Fault) (y : Shared)
          → Outcome nobody u (run_alone u true d z).0 (run_alone u true d z).1 r y → Outcome nobody u
          (run_alone u true (told_of_it d) z).0 (run_alone u true (told_of_it d) z).1 (told r) y
      go r y (inl is) = inl (told_is d z r y is)
      go r y (inr (inl is)) = inr (inl (ap told is))
      go r y (inr (inr is)) = inr (inr (ap told is))

  gc_follows : (z : Shared) → Tidy z → Follows nobody u (told_of_it collected_in_steps) z
  gc_follows z tidy = leads_less nobody u
      (Exactly (run_alone u true gc z).0 (run_alone u true gc z).1)
      (Outcome nobody u (run_alone u true gc z).0 (run_alone u true gc z).1) (λ r y is. inl is) gc z
      (told_exact collected_in_steps z (collected_exact z tidy))
    where
      gc : Doing Reply
      gc = told_of_it collected_in_steps

pub collects_follow : (c : Config) (turns : ℕ) (p : Place) (words : ThreadWords) (x : Command)
    → manner_of x ≡ collects → (u : ℕ) (z : Shared) → Tidy z → (p.objects ≡ [] → role_of z u ≡ Outside)
    → Follows nobody u (doing_at c turns p words p.objects x) z
collects_follow c turns p words x is u z tidy out = go p.objects out x is
  where
    go : (os : List ℕ) → (os ≡ [] → role_of z u ≡ Outside) → (y : Command) → manner_of y ≡ collects
        → Follows nobody u (doing_at c turns p words os y) z
    go [] out (commands.OfRoom v) is = gc_follows u z tidy
    go [] out (commands.WithTries v tries) is =
        told_follows u (tried_in_steps turns announced_in_steps) z (tried_follows u z tidy (λ some. out refl) turns)
    go (o ∷ os) out (commands.OfRoom v) is = inl (refl, refl)
    go (o ∷ os) out (commands.WithTries v tries) is = inl (refl, refl)
    go os out (commands.OnName v n) is = absurd cc
    go os out (commands.Make make.Plain n) is = absurd cc
    go os out (commands.Make make.Wait n) is = absurd cc
    go os out (commands.OnNameAt on_name_at.Get n i) is = absurd cc
    go os out (commands.PutAt put_at.Put n i v) is = absurd cc
    go os out (commands.Release v n r Abort) is = absurd cc
    go os out _ is = absurd cc
