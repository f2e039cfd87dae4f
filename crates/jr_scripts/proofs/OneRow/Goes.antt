-- PROGRAMS THAT FOLLOW from wherever it is tidy, and what they leave.
use Rattle.std.proofs.Common.{◌≡◌, ◌++◌, ℕ, zero, suc, Bool, true, false, cond, Option, Some, None, Result, Ok, Err, []}
use Rattle.std.proofs.Common.{map, length, drop, inl, inr, refl, sym, ap, subst, ◌∙◌, arith}
use Rattle.std.proofs.lemmas.List.{append-nil, drop_all, set-get_or}
use Rattle.jr_word.specs.declared.fault.Fault.{Fault}
use Rattle.jr_word.specs.declared.fault.Fault.TheVariants as fault
use Rattle.jr_world.specs.World.{Meaning, World, found}
use Rattle.jr_world.specs.Doing.{Act, Doing, Noted, Shared, as_left, as_seen, atom, by_step, over_world, owner_if}
use Rattle.jr_world.specs.Doing.{in_row, made_since, unless_refused, whatever, ◌>>=◌}
use Rattle.jr_world.specs.Doing.Doing.{ended}
use Rattle.jr_env.specs.Tries.{is_tried_again}
use Rattle.jr_scripts.specs.declared.reply.Reply.{Reply}
use Rattle.jr_scripts.specs.Together.{in_reply, tried_in_steps}
use Rattle.jr_scripts.proofs.OneRow.Alike.{Alike, Tidy, alike_itself}
use Rattle.jr_scripts.proofs.OneRow.Blind.{Beside, Blind, step_alike}
use Rattle.jr_scripts.proofs.OneRow.Follows.{Also, IsSpoilt, LeadsOnce, LeadsTo, Settled, but, once_less, once_then}

-- NOTHING CAME since it was noted, where something was
pub record NothingCame (from : Noted) (s : Shared) : Type 0 where
  pub standing : in_row s ≡ from.standing
  pub made : made_since from.made s.owners ≡ 0
  pub used : from.used ≡ s.used

abbrev pub IsNoted : Option Noted → Shared → Type 0
IsNoted None s = Unit {0}
IsNoted (Some from) s = NothingCame from s

-- what stands behind an answer, and behind a refusal
abbrev pub Stands : {A : Type 0} → Option Noted → Result A Fault → Shared → Type 0
Stands after (Ok x) z = Tidy z × IsNoted after z
Stands after (Err e) z = Tidy z

-- A PROGRAM of thread u, from wherever it is tidy and nothing came since this was noted. Luck counts for nothing, or,
-- where it may, once
pub record Goes {A : Type 0} (once : Bool) (u : ℕ) (before after : Option Noted) (d : Doing A) : Type 0 where
  pub so : (z : Shared) → Tidy z → IsNoted before z → LeadsOnce (but u) u once (Stands after) d z

pub stands : {A : Type 0} (before : Option Noted) (r : Result A Fault) (z : Shared) → Tidy z → IsNoted before z
    → Stands before r z
stands before (Ok x) z tidy noted = (tidy, noted)
stands before (Err e) z tidy noted = tidy

stood : {A : Type 0} (after : Option Noted) (r : Result A Fault) (z : Shared) → Stands after r z → Tidy z
stood after (Ok x) z both = both.0
stood after (Err e) z tidy = tidy

module _ (u : ℕ) where
  -- ONE STEP from there, that does the same with luck and without
  pub step_leads : {A : Type 0} {once : Bool} (K : Result A Fault → Shared → Type 0) (act : Act A) (z : Shared)
      → ((gone : ℕ → Bool) (s : Shared) → gone u ≡ false → Alike gone s z → (luck : Bool)
      → Beside u gone s (act u luck s) (act u true z)) → K (act u true z).0 (act u true z).1
      → LeadsOnce (but u) u once K (by_step act) z
  step_leads K act z same so = inl (
    λ luck gone s mine alike. let both = same gone s mine alike luck in (ap (λ r. ended r) both.0, both.1, both.2),
    so,
  )

  -- .. of whose end no more is said
  pub act_leads : {A : Type 0} {once : Bool} (act : Act A) (z : Shared) → Tidy z
      → ((gone : ℕ → Bool) (s : Shared) → gone u ≡ false → Alike gone s z → (luck : Bool)
      → Beside u gone s (act u luck s) (act u true z)) → LeadsOnce (but u) u once (Stands None) (by_step act) z
  act_leads act z tidy same = step_leads (Stands None) act z same
      (stands None (act u true z).0 (act u true z).1
      (same (λ t. false) z refl (alike_itself z tidy) true).1.tidy_too tt)

  -- what is only looked at stays
  pub seen_is : (z : Shared) → Tidy z → as_left u z (as_seen u z) ≡ z
  seen_is z tidy = λ i. record z { owners = owners i; frames = set-get_or z.frames u [] i }
    where
      owners : z.owners ++ map (owner_if u) (drop (length z.owners) z.refs) ≡ z.owners
      owners = ap (λ l. z.owners ++ map (owner_if u) l)
          (drop_all (length z.owners) z.refs (let owned = tidy.owned in omega arith)) ∙ append-nil z.owners

  -- a refusal that spoils the text stays one
  pub unless_keeps : {A B : Type 0} (next : A → Doing B) (r : Result A Fault) (z : Shared) → IsSpoilt r
      → LeadsTo (but u) u (λ q y. IsSpoilt q) (unless_refused next r) z
  unless_keeps next (Ok x) z (inl bad) = absurd cc
  unless_keeps next (Ok x) z (inr bad) = absurd cc
  unless_keeps next (Err e) z (inl is) = let same : e ≡ fault.Memory = cc in inl (ap Err same)
  unless_keeps next (Err e) z (inr is) = let same : e ≡ fault.Turns = cc in inr (ap Err same)

module _ {u : ℕ} where
  pub act_goes : {A : Type 0} {before : Option Noted} (act : Act A)
      → ((gone : ℕ → Bool) (s z : Shared) → gone u ≡ false → Alike gone s z → IsNoted before z → (luck : Bool)
      → Beside u gone s (act u luck s) (act u true z)) → Goes false u before None (by_step act)
  act_goes act same = record {
    so = λ z tidy noted. act_leads u act z tidy (λ gone s mine alike luck. same gone s z mine alike noted luck);
  }

  pub ended_goes : {A : Type 0} {once : Bool} {before : Option Noted} (r : Result A Fault)
      → Goes once u before before (ended r)
  ended_goes {before = before} r = record { so = λ z tidy noted. stands before r z tidy noted }

  pub atom_goes : {A : Type 0} {before : Option Noted} {m : Meaning A} → Blind m → Goes false u before None (atom m)
  atom_goes {m = m} blind =
      act_goes (over_world m) (λ gone s z mine alike noted luck. step_alike u luck mine alike blind)

  pub look_goes : {A : Type 0} {before : Option Noted} (f : World → Result A Fault) → Blind (found f)
      → Goes false u before before (atom (found f))
  look_goes {before = before} f blind = record {
    so = λ z tidy noted. step_leads u (Stands before) (over_world (found f)) z
        (λ gone s mine alike luck. step_alike u luck mine alike blind)
        (subst (Stands before (f (as_seen u z))) (sym (seen_is u z tidy))
        (stands before (f (as_seen u z)) z tidy noted));
  }

  -- less is said
  pub goes_less : {A : Type 0} {once : Bool} {before after : Option Noted} {d : Doing A} → Goes false u before after d
      → Goes once u before None d
  goes_less {once = once} {after = after} {d = d} goes = record {
    so = λ z tidy noted. once_less (but u) u false once (λ bad. absurd cc) (Stands after) (Stands None)
        (λ r y so. stands None r y (stood after r y so) tt) d z (goes.so z tidy noted);
  }

  -- ONE AND THEN THE OTHER
  pub goes_then : {A B : Type 0} {once : Bool} {before between after : Option Noted} {d : Doing A}
      (next : Result A Fault → Doing B) → Goes false u before between d
      → ((x : A) → Goes once u between after (next (Ok x))) → ((e : Fault) → Goes once u None after (next (Err e)))
      → Goes once u before after (whatever d next)
  goes_then {A} {B} {once} {before} {between} {after} {d} next first rest refused = record {
    so = λ z tidy noted. once_then (but u) u false once (λ bad. absurd cc) (Stands between) (Stands after) d next z
        (first.so z tidy noted) go (λ bad. absurd cc);
  }
    where
      go : (r : Result A Fault) (y : Shared) → Stands between r y
          → LeadsOnce (but u) u once (Stands after) (next r) y
      go (Ok x) y both = (rest x).so y both.0 both.1
      go (Err e) y tidy = (refused e).so y tidy tt

  pub goes_bind : {A B : Type 0} {once : Bool} {before between after : Option Noted} {d : Doing A} {next : A → Doing B}
      → Goes false u before between d → ((x : A) → Goes once u between after (next x))
      → Goes once u before after (d >>= next)
  goes_bind {next = next} first rest =
      goes_then (unless_refused next) first rest (λ e. record { so = λ z tidy noted. tidy })

  -- .. with luck that may count in the one, where the other keeps what was settled
  pub once_goes : {A B : Type 0} {once : Bool} {before : Option Noted} {d : Doing A} {next : Result A Fault → Doing B}
      → Goes once u before None d → ((r : Result A Fault) → Goes once u None None (next r))
      → ((luck : Bool) (r : Result A Fault) → Settled luck r → (z : Shared) → Tidy z
      → LeadsOnce (but u) u false (Also luck (Stands None)) (next r) z) → Goes once u before None (whatever d next)
  once_goes {A} {B} {once} {before} {d} {next} first rest last = record {
    so = λ z tidy noted. once_then (but u) u once once (λ is. is) (Stands None) (Stands None) d next z
        (first.so z tidy noted) (λ r y so. (rest r).so y (stood None r y so) tt)
        (λ is luck r y so. last luck r so.1 y (stood None r y so.0));
  }

  pub goes_unless : {A B : Type 0} {once : Bool} {next : A → Doing B} → ((x : A) → Goes once u None None (next x))
      → (r : Result A Fault) → Goes once u None None (unless_refused next r)
  goes_unless rest (Ok x) = rest x
  goes_unless rest (Err e) = ended_goes (Err e)

  -- an answer as a reply
  pub reply_goes : {A : Type 0} {once : Bool} {call : Doing A} (form : A → Reply) → Goes once u None None call
      → Goes once u None None (in_reply form call)
  reply_goes {A} form first = once_goes first (goes_unless (λ x. ended_goes (Ok (form x)))) go
    where
      again : (e : Fault) → is_tried_again {A = Reply} (Err e) ≡ is_tried_again {A = A} (Err e)
      again e = refl

      go : (luck : Bool) (r : Result A Fault) → Settled luck r → (z : Shared) → Tidy z
          → LeadsOnce (but u) u false (Also luck (Stands None)) (unless_refused (λ x. ended (Ok (form x))) r) z
      go true (Ok x) last z tidy = ((tidy, tt), refl)
      go true (Err e) last z tidy = (tidy, again e ∙ last)
      go false (Ok x) bad z tidy = absurd cc
      go false (Err e) is z tidy = let same : e ≡ fault.Memory = cc in (tidy, ap Err same)

  -- a call that is made again at once
  pub tried_goes : {A : Type 0} {once : Bool} {call : Doing A} (turns : ℕ) → Goes once u None None call
      → Goes once u None None (tried_in_steps turns call)
  tried_goes zero first = ended_goes (Err fault.Turns)
  tried_goes {A} {once} {call} (suc n) first = once_goes first (λ r. go (is_tried_again r) r (tried_goes n first))
      (λ luck r is z tidy. subst (λ b. LeadsOnce (but u) u false (Also luck (Stands None))
      (cond b (tried_in_steps n call) (ended r)) z) (sym (last luck r is)) (stands None r z tidy tt, is))
    where
      go : (b : Bool) (r : Result A Fault) → Goes once u None None (tried_in_steps n call)
          → Goes once u None None (cond b (tried_in_steps n call) (ended r))
      go true r again = again
      go false r again = ended_goes r

      last : (luck : Bool) (r : Result A Fault) → Settled luck r → is_tried_again r ≡ false
      last true r is = is
      last false r is = ap is_tried_again is
