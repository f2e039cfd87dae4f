-- COMMANDS BY THEIR MANNERS, and where each leaves its thread at the gate.
use Rattle.std.proofs.Common.{◌≡◌, ◌⊎◌, ◌==◌, ◌&&◌, ◌||◌, inl, ℕ, zero, suc, Bool, false, true, cond, nat_lt, List, []}
use Rattle.std.proofs.Common.{◌∷◌, length, slice_set, slice_index, slice_index_or, Option, Some, None, Result, Ok, Err}
use Rattle.std.proofs.Common.{refl, sym, ap, subst, ◌∙◌}
use Rattle.jr_word.specs.declared.config.Config.{Config}
use Rattle.jr_word.specs.declared.fault.Fault.{Fault}
use Rattle.jr_word.specs.declared.fault.Fault.TheVariants as fault
use Rattle.jr_word.specs.declared.handle.Handle.{Handle}
use Rattle.jr_word.specs.declared.kind.Kind.{Kind}
use Rattle.jr_model.specs.declared.event.Role.{Role}
use Rattle.jr_model.specs.declared.event.Role.TheVariants.{Outside, Within}
use Rattle.jr_model.specs.declared.frames.Mode.{Mode}
use Rattle.jr_model.specs.declared.frames.Mode.TheVariants.{Abort}
use Rattle.jr_model.specs.State.{is_barring}
use Rattle.jr_model.specs.Tests.{refused_by}
use Rattle.jr_model.specs.CallPrograms.{region_get, region_kind, region_set}
use Rattle.jr_model.specs.Programs.{AnswerKind, Which, at_both, none_known, set_known, Program}
use Rattle.jr_model.specs.Programs.Program.{ends, names, wants, looks, tests}
use Rattle.jr_model.specs.Programs.Ending.{gives_kind, gives_object, reads, writes}
use Rattle.jr_world.specs.World.{Meaning, contents, found, not_null, object, overwritten, push, rewrites, room_for}
use Rattle.jr_world.specs.Board.{word_under}
use Rattle.jr_world.specs.Doing.{Act, Doing, Noted, Shared, atom, by_step, done, entered_in_steps, go_in, go_out}
use Rattle.jr_world.specs.Doing.{inside, named, of_others, opened_in_steps, out_after, own_or_shared, program_steps}
use Rattle.jr_world.specs.Doing.{run_alone, step, unless_refused, whatever, ◌>>=◌}
use Rattle.jr_world.specs.Doing.Doing.{ended}
use Rattle.jr_weak.specs.declared.collecting.Collected.{Collected}
use Rattle.jr_env.specs.Tries.{is_tried_again}
use Rattle.jr_syntax.specs.declared.name.Reference.{Reference}
use Rattle.jr_syntax.specs.declared.command.Command.{Command}
use Rattle.jr_syntax.specs.declared.command.Command.TheVariants as commands
use Rattle.jr_syntax.specs.declared.verb.CloseLevel.{CloseLevel}
use Rattle.jr_syntax.specs.declared.verb.Make.TheVariants as make
use Rattle.jr_syntax.specs.declared.verb.OnName.TheVariants as on_name
use Rattle.jr_syntax.specs.declared.verb.OnNameAt.TheVariants as on_name_at
use Rattle.jr_syntax.specs.declared.verb.OpenLevel.{OpenLevel}
use Rattle.jr_syntax.specs.declared.verb.OpenLevel.TheVariants as at
use Rattle.jr_syntax.specs.declared.verb.PutAt.TheVariants as put_at
use Rattle.jr_scripts.specs.declared.reply.Reply.{Reply}
use Rattle.jr_scripts.specs.declared.reply.Reply.TheVariants as replies
use Rattle.jr_scripts.specs.Commands.{get_critical, told}
use Rattle.jr_scripts.specs.Names.{Names, binding, buffer_in, getting, null, putting, referent, wanted, word_posted}
use Rattle.jr_scripts.specs.Numbers.{has_numbers, number_of_word, word_of_number}
use Rattle.jr_scripts.specs.Places.{Place, level_wanted, newest, nth_object, objects_after, place_after}
use Rattle.jr_scripts.specs.Posting.{ThreadWords, reply_to_wait, words_after, words_with}
use Rattle.jr_scripts.specs.RegionCommands.{read_kind}
use Rattle.jr_scripts.specs.Together.{announces, finds_gate_still, announced_in_steps, calls_opening, calls_within}
use Rattle.jr_scripts.specs.Together.{closes_level, collected_in_steps, doing_at, doing_at_level, doing_outside}
use Rattle.jr_scripts.specs.Together.{doing_within, hears_word, in_reply, is_kept_closed, makes_nothing, nothing_noted}
use Rattle.jr_scripts.specs.Together.{others_in, posts_word, shuts, sweep_or_out, sweeps_out, tried_in_steps, waits_for}
use Rattle.jr_scripts.specs.OneRow.{Manner, manner_of}
use Rattle.jr_scripts.specs.OneRow.Manner.{apart, posts, waits}
use Rattle.jr_scripts.proofs.AloneCase.OwnWords.{under_words_with}
use Rattle.jr_scripts.proofs.OneRow.Alike.{role_of}
use Rattle.jr_scripts.proofs.OneRow.Calls.{OfCalls, outside_so}
use Rattle.jr_scripts.proofs.OneRow.Follows.{nobody, run_then}

-- who posts or waits makes the command of its name
abbrev of_manner : Manner → Command → Command
of_manner (posts n) x = commands.OnName on_name.Post n
of_manner (waits n) x = commands.Make make.Wait n
of_manner _ x = x

manner_is : (x : Command) → x ≡ of_manner (manner_of x) x
manner_is (commands.OnName on_name.Post n) = refl
manner_is (commands.Make make.Plain n) = refl
manner_is (commands.Make make.Wait n) = refl
manner_is (commands.OnNameAt on_name_at.Get n i) = refl
manner_is (commands.PutAt put_at.Put n i v) = refl
manner_is (commands.Release v n r Abort) = refl
manner_is _ = refl

by_manner : (x : Command) (m : Manner) → manner_of x ≡ m → x ≡ of_manner m x
by_manner x m is = manner_is x ∙ ap (λ m. of_manner m x) is

-- what has ended, and goes on to what has
unless_ended : {A : Type 0} (next : A → Doing Reply) → ((x : A) → (q : Result Reply Fault) × (next x ≡ ended q))
    → (r : Result A Fault) → (q : Result Reply Fault) × (unless_refused next r ≡ ended q)
unless_ended next each (Ok x) = each x
unless_ended next each (Err e) = (Err e, refl)

abort_ended : (turns : ℕ) → (q : Result Reply Fault) × (makes_nothing (tried_in_steps turns (done tt)) ≡ ended q)
abort_ended zero = (Err fault.Turns, refl)
abort_ended (suc n) = (Ok replies.Done, refl)

module _ (c : Config) (turns : ℕ) (p : Place) (words : ThreadWords) (x : Command) where
  pub posts_is : (n : List ℕ) → manner_of x ≡ posts n
      → doing_at c turns p words p.objects x ≡ by_step (posts_word n (word_posted p.names n))
  posts_is n is =
      subst (λ y. doing_at c turns p words p.objects y ≡ by_step (posts_word n (word_posted p.names n)))
      (sym (by_manner x (posts n) is)) (go p.objects)
    where
      go : (os : List ℕ)
          → doing_at c turns p words os (commands.OnName on_name.Post n)
          ≡ by_step (posts_word n (word_posted p.names n))
      go [] = refl
      go (o ∷ os) = refl

  pub waits_is : (n : List ℕ) → manner_of x ≡ waits n
      → doing_at c turns p words p.objects x ≡ waits_for (word_under words n) n
  waits_is n is =
      subst (λ y. doing_at c turns p words p.objects y ≡ waits_for (word_under words n) n)
      (sym (by_manner x (waits n) is)) (go p.objects)
    where
      go : (os : List ℕ)
          → doing_at c turns p words os (commands.Make make.Wait n) ≡ waits_for (word_under words n) n
      go [] = refl
      go (o ∷ os) = refl

  pub apart_is : manner_of x ≡ apart
      → (r : Result Reply Fault) × (doing_at c turns p words p.objects x ≡ ended r)
  apart_is is = go p.objects x is
    where
      go : (os : List ℕ) (y : Command) → manner_of y ≡ apart
          → (r : Result Reply Fault) × (doing_at c turns p words os y ≡ ended r)
      go [] (commands.OnNameAt on_name_at.Get n i) is =
          unless_ended (λ v. ended (Ok (replies.Value v))) (λ v. (Ok (replies.Value v), refl))
          (getting i (binding p.names n))
      go [] (commands.PutAt put_at.Put n i v) is =
          unless_ended (λ b. ended (Ok replies.Done)) (λ b. (Ok replies.Done, refl))
          (putting i v (binding p.names n))
      go [] (commands.Release v n r Abort) is = unless_ended _ (λ b. unless_ended
          (λ h. makes_nothing (tried_in_steps turns (done tt))) (λ h. abort_ended turns)
          (wanted (referent p.names r))) (buffer_in (binding p.names n))
      go (o ∷ os) (commands.OnNameAt on_name_at.Get n i) is = (Err fault.InCritical, refl)
      go (o ∷ os) (commands.PutAt put_at.Put n i v) is = (Err fault.InCritical, refl)
      go (o ∷ os) (commands.Release v n r Abort) is = (Err fault.InCritical, refl)
      go os (commands.OnName v n) is = absurd cc
      go os (commands.Make make.Plain n) is = absurd cc
      go os (commands.Make make.Wait n) is = absurd cc
      go os _ is = absurd cc

  -- no other command gives its thread a word
  pub words_stay : (r : Result Reply Fault)
      → ((n : List ℕ) → manner_of x ≡ posts n → ⊥) → ((n : List ℕ) → manner_of x ≡ waits n → ⊥)
      → words_after p.names x r words ≡ words
  words_stay r no_post no_wait = go x no_post no_wait
    where
      go : (y : Command) → ((n : List ℕ) → manner_of y ≡ posts n → ⊥) → ((n : List ℕ) → manner_of y ≡ waits n → ⊥)
          → words_after p.names y r words ≡ words
      go (commands.OnName v n) no_post no_wait = absurd (no_post n refl)
      go (commands.Make make.Wait n) no_post no_wait = absurd (no_wait n refl)
      go (commands.Make make.Plain n) no_post no_wait = refl
      go _ no_post no_wait = refl

  pub posts_words : (n : List ℕ) → manner_of x ≡ posts n → (r : Result Reply Fault)
      → words_after p.names x r words ≡ words_with words n (word_posted p.names n)
  posts_words n is r = ap (λ y. words_after p.names y r words) (by_manner x (posts n) is)

  -- the words after a wait are those before, or one more under its name
  pub waits_words : (n : List ℕ) → manner_of x ≡ waits n → (r : Result Reply Fault) → (m : List ℕ) (w : ℕ)
      → word_under (words_after p.names x r words) m ≡ Some w → (word_under words m ≡ Some w) ⊎ (m ≡ n)
  waits_words n is r m w under =
      go r (subst (λ y. word_under (words_after p.names y r words) m ≡ Some w) (by_manner x (waits n) is) under)
    where
      go : (q : Result Reply Fault)
          → word_under (words_after p.names (commands.Make make.Wait n) q words) m ≡ Some w
          → (word_under words m ≡ Some w) ⊎ (m ≡ n)
      go (Ok (replies.Made (Some h))) under = under_words_with words n m h.0 w under
      go (Ok (replies.Made None)) under = inl under
      go (Ok _) under = inl under
      go (Err e) under = inl under

-- a thread's role where no region of it stands, and where one does
abbrev pub Rests : List ℕ → Role → Type 0
Rests objects role = (is_barring role ≡ false) × (objects ≡ [] → role ≡ Outside)

abbrev IsOut : Role → Type 0
IsOut role = role ≡ Outside

abbrev IsOpen : Role → Type 0
IsOpen role = is_barring role ≡ false

-- of a thread that there isn't, the role is Outside whatever was set
out_set : (u : ℕ) (roles : List Role) → IsOut (slice_index_or (slice_set roles u Outside) u Outside)
out_set u [] = refl
out_set zero (r ∷ roles) = refl
out_set (suc u) (r ∷ roles) = out_set u roles

within_set : (u : ℕ) (roles : List Role) → IsOpen (slice_index_or (slice_set roles u Within) u Outside)
within_set u [] = refl
within_set zero (r ∷ roles) = refl
within_set (suc u) (r ∷ roles) = within_set u roles

-- programs that open a level, or are about one
abbrev IsOfLevel : {n : ℕ} {a : AnswerKind} → Program n a → Type 0
IsOfLevel (ends (gives_kind k)) = Unit {0}
IsOfLevel (ends gives_object) = Unit {0}
IsOfLevel (ends (reads i)) = Unit {0}
IsOfLevel (ends (writes i v)) = Unit {0}
IsOfLevel (names p next) = IsOfLevel next
IsOfLevel (wants p next) = IsOfLevel next
IsOfLevel (looks next) = (k : Kind) (long : ℕ) → IsOfLevel (next k long)
IsOfLevel (tests ts silent next) = IsOfLevel next
IsOfLevel _ = ⊥

critical_of_level : (v : OpenLevel) (levels : ℕ) → IsOfLevel (get_critical v levels)
critical_of_level at.Array levels = λ k long. tt
critical_of_level at.Text levels = λ k long. tt

-- WHERE A PROGRAM BRINGS ITS THREAD at the gate, by its answer
record Brings {A : Type 0} (u : ℕ) (H : Role → Type 0) (K : Result A Fault → Role → Type 0) (d : Doing A) : Type 0 where
  so : (s : Shared) → H (role_of s u) → K (run_alone u true d s).0 (role_of (run_alone u true d s).1 u)

abbrev Keeps : {A : Type 0} → ℕ → (Role → Type 0) → Doing A → Type 0
Keeps u H d = Brings u H (λ r. H) d

-- outside where it is refused
abbrev OutIfRefused : {A : Type 0} → (Role → Type 0) → Result A Fault → Role → Type 0
OutIfRefused H (Ok x) role = H role
OutIfRefused H (Err e) role = IsOut role

abbrev Anywhere : Role → Type 0
Anywhere role = Unit {0}

-- one of two ends
one_of : {A : Type 0} (u : ℕ) (K : Result A Fault → Role → Type 0) (b : Bool) (x y : Result A Fault × Shared)
    → K x.0 (role_of x.1 u) → K y.0 (role_of y.1 u) → K (cond b x y).0 (role_of (cond b x y).1 u)
one_of u K true x y first second = first
one_of u K false x y first second = second

module _ {u : ℕ} where
  brings_then : {A B : Type 0} {H : Role → Type 0} {K : Result A Fault → Role → Type 0}
      {L : Result B Fault → Role → Type 0} {d : Doing A} (next : Result A Fault → Doing B) → Brings u H K d
      → ((r : Result A Fault) → Brings u (K r) L (next r)) → Brings u H L (whatever d next)
  brings_then {A} {B} {H} {K} {L} {d} next first rest = record {
    so = λ s is. subst (λ (x : Result B Fault × Shared). L x.0 (role_of x.1 u)) (sym (run_then nobody u d next s))
        ((rest (run_alone u true d s).0).so (run_alone u true d s).1 (first.so s is));
  }

  brings_tried : {A : Type 0} {H : Role → Type 0} {K : Result A Fault → Role → Type 0} {call : Doing A} (turns : ℕ)
      → ((e : Fault) (role : Role) → K (Err e) role → H role)
      → ((e : Fault) (role : Role) → H role → K (Err e) role)
      → Brings u H K call → Brings u H K (tried_in_steps turns call)
  brings_tried zero back on first = record { so = λ s is. on _ _ is }
  brings_tried {A} {H} {K} {call} (suc n) back on first = brings_then _ first (go (brings_tried n back on first))
    where
      turn : Brings u H K (tried_in_steps n call) → (b : Bool) (e : Fault)
          → Brings u (K (Err e)) K (cond b (tried_in_steps n call) (ended (Err e)))
      turn again true e = record { so = λ s is. again.so s (back e _ is) }
      turn again false e = record { so = λ s is. is }

      go : Brings u H K (tried_in_steps n call) → (r : Result A Fault)
          → Brings u (K r) K (cond (is_tried_again r) (tried_in_steps n call) (ended r))
      go again (Ok x) = record { so = λ s is. is }
      go again (Err e) = turn again (is_tried_again {A = A} (Err e)) e

  module _ {H : Role → Type 0} where
    keeps_ended : {A : Type 0} (r : Result A Fault) → Keeps u H (ended r)
    keeps_ended r = record { so = λ s is. is }

    keeps_step : {A : Type 0} (act : Act A) → ((s : Shared) → H (role_of s u) → H (role_of (act u true s).1 u))
        → Keeps u H (by_step act)
    keeps_step act so = record { so = so }

    keeps_atom : {A : Type 0} (m : Meaning A) → Keeps u H (atom m)
    keeps_atom m = record { so = λ s is. is }

    keeps_unless : {A B : Type 0} {next : A → Doing B} → ((x : A) → Keeps u H (next x)) → (r : Result A Fault)
        → Keeps u H (unless_refused next r)
    keeps_unless rest (Ok x) = rest x
    keeps_unless rest (Err e) = keeps_ended (Err e)

    keeps_bind : {A B : Type 0} {d : Doing A} {next : A → Doing B} → Keeps u H d → ((x : A) → Keeps u H (next x))
        → Keeps u H (d >>= next)
    keeps_bind {next = next} first rest = brings_then (unless_refused next) first (keeps_unless rest)

    keeps_reply : {A : Type 0} {call : Doing A} (form : A → Reply) → Keeps u H call → Keeps u H (in_reply form call)
    keeps_reply form first = keeps_bind first (λ x. keeps_ended (Ok (form x)))

    keeps_wait : (o : Option ℕ) (n : List ℕ) → Keeps u H (waits_for o n)
    keeps_wait (Some w) n = keeps_ended (reply_to_wait (Some w))
    keeps_wait None n = keeps_step (hears_word n) (λ s is. is)

    keeps_named : (n : ℕ) → Keeps u H (named n)
    keeps_named n = keeps_bind keeps_own (λ x. keeps_atom (object n))
      where
        keeps_own : Keeps u H (own_or_shared n)
        keeps_own = keeps_step _ (λ s is. is)

    -- WHAT IS DONE IN A REGION never comes to the gate
    module _ (c : Config) (from : Noted) (handed : Which → ℕ) where
      keeps_program : {n : ℕ} {a : AnswerKind} (p : Program n a) (known : Which → Option ℕ) (o : ℕ) → IsOfLevel p
          → Keeps u H (program_steps c from handed p known o)
      keeps_program (ends (gives_kind k)) known o so = keeps_atom (found (λ w. Ok k))
      keeps_program (ends gives_object) known o so = keeps_atom (found (λ w. Ok o))
      keeps_program (ends (reads i)) known o so = keeps_atom (found (λ w. Ok (slice_index (contents w o).words i)))
      keeps_program (ends (writes i v)) known o so = keeps_atom (rewrites (overwritten i (v ∷ [])) o)
      keeps_program (ends _) known o none = absurd none
      keeps_program (names p next) known o so =
          keeps_bind (keeps_named (handed p)) (λ x. keeps_program next (set_known known p x) o so)
      keeps_program (wants p next) known o so =
          keeps_bind (keeps_ended (not_null (known p))) (λ q. keeps_program next known q so)
      keeps_program (looks next) known o so = keeps_bind (keeps_atom (found (λ w. Ok (contents w o))))
          (λ x. keeps_program (next x.kind (length x.words)) known o (so x.kind (length x.words)))
      keeps_program (tests ts silent next) known o so =
          keeps_bind (keeps_ended (refused_by ts)) (λ a. keeps_program next known o so)
      keeps_program _ known o none = absurd none

  -- A CALL between its entry and what follows that
  brings_entered : {A : Type 0} {K : Result A Fault → Role → Type 0} {work : Noted → Doing A}
      → ((from : Noted) → Brings u IsOpen K (work from)) → ((e : Fault) (role : Role) → IsOut role → K (Err e) role)
      → Brings u IsOut K (step go_in (inside work))
  brings_entered {A} {K} {work} inner refused = brings_then (inside work) entry go
    where
      Entered : Result Noted Fault → Role → Type 0
      Entered (Ok from) role = IsOpen role
      Entered (Err e) role = Unit {0}

      entry : Brings u IsOut Entered (by_step go_in)
      entry = record { so = λ s is. one_of u Entered (of_others is_barring u s.roles) _ _ tt (within_set u s.roles) }

      go : (r : Result Noted Fault) → Brings u (Entered r) K (inside work r)
      go (Ok from) = inner from
      go (Err e) = record { so = λ s is. refused e _ (out_set u s.roles) }

  -- whatever a call does between its entry and its exit, its thread is outside then
  entered_out : {A : Type 0} (work : Noted → Doing A) → Keeps u IsOut (entered_in_steps work)
  entered_out work = brings_entered (λ from. brings_then {K = λ r. Anywhere} {d = work from}
      (λ r. step go_out (λ x. ended r)) (record { so = λ s is. tt }) (λ r. record { so = λ s is. out_set u s.roles }))
      (λ e role is. is)

  -- a stay goes on where it isn't refused
  opened_opens : {A : Type 0} {work : Noted → Doing A} → ((from : Noted) → Keeps u IsOpen (work from))
      → Brings u IsOut (OutIfRefused IsOpen) (opened_in_steps work)
  opened_opens {A} keeps = brings_entered (λ from. brings_then out_after (keeps from) leaves) (λ e role is. is)
    where
      leaves : (r : Result A Fault) → Brings u IsOpen (OutIfRefused IsOpen) (out_after r)
      leaves (Ok x) = record { so = λ s is. is }
      leaves (Err e) = record { so = λ s is. out_set u s.roles }

  -- COLLECTIONS
  sweep_out : {H : Role → Type 0} (r : Result (Unit {0}) Fault) → Brings u H (λ q. IsOut) (sweep_or_out r)
  sweep_out (Ok x) = record { so = λ s is. out_set u s.roles }
  sweep_out (Err e) = record { so = λ s is. out_set u s.roles }

  collected_out : Keeps u IsOut collected_in_steps
  collected_out = brings_then _ shut go
    where
      shut : Brings u IsOut (OutIfRefused Anywhere) (by_step shuts)
      shut = record { so = λ s is. one_of u (OutIfRefused Anywhere) (others_in u s == 0) _ _ tt is }

      go : (r : Result (Unit {0}) Fault)
          → Brings u (OutIfRefused Anywhere r) (λ q. IsOut) (unless_refused (λ x. by_step sweeps_out) r)
      go (Ok x) = sweep_out (Ok x)
      go (Err e) = record { so = λ s is. is }

  announced_out : Keeps u IsOut announced_in_steps
  announced_out = keeps_bind (keeps_step finds_gate_still (λ s is. is)) (λ x. brings_then _ announced go)
    where
      announced : Brings u IsOut (OutIfRefused Anywhere) (by_step announces)
      announced = record {
        so = λ s is.
            one_of u (OutIfRefused Anywhere) (is_kept_closed u s || (false && nat_lt 0 (others_in u s))) _ _ is tt;
      }

      go : (r : Result (Unit {0}) Fault) → Brings u (OutIfRefused Anywhere r) (λ q. IsOut)
          (unless_refused (λ x. whatever (by_step shuts) sweep_or_out) r)
      go (Ok x) =
          brings_then {K = λ r. Anywhere} {d = by_step shuts} sweep_or_out (record { so = λ s is. tt }) sweep_out
      go (Err e) = record { so = λ s is. is }

  -- what is told of it
  told_out : {d : Doing Collected} → Keeps u IsOut d → Keeps u IsOut (whatever d (λ counts. ended (told counts)))
  told_out keeps = brings_then _ keeps (λ counts. keeps_ended (told counts))

-- HOW A COMMAND LEAVES ITS THREAD
abbrev Leaves : ℕ → List ℕ → Command → Doing Reply → Type 0
Leaves u objects x d = Brings u (Rests objects) (λ r. Rests (objects_after x r objects)) d

level_more : (v : OpenLevel) (n : List ℕ) (r : Reference) (o : ℕ) (os : List ℕ) (q : Result Reply Fault)
    → objects_after (commands.OpenLevel v n r) q (o ∷ os) ≡ [] → ⊥
level_more v n r o os (Ok (replies.Level k)) none = absurd cc
level_more v n r o os (Ok _) none = absurd cc
level_more v n r o os (Err e) none = absurd cc

module _ (u : ℕ) (c : Config) (turns : ℕ) (known : Names) (words : ThreadWords) where
  -- outside before and behind
  stays_out : (x : Command) {d : Doing Reply} → Keeps u IsOut d → Leaves u [] x d
  stays_out x keeps = record {
    so = λ s rests. let out = keeps.so s (rests.1 refl) in (ap is_barring out, λ none. out);
  }

  -- in a region before and behind
  stays_in : (x : Command) {d : Doing Reply} (o : ℕ) (os : List ℕ)
      → ((r : Result Reply Fault) → objects_after x r (o ∷ os) ≡ [] → ⊥) → Keeps u IsOpen d → Leaves u (o ∷ os) x d
  stays_in x o os more keeps = record { so = λ s rests. (keeps.so s rests.0, λ none. absurd (more _ none)) }

  calls_out : OfCalls c turns (λ once A d. Keeps {A = A} u IsOut d)
  calls_out = record {
    answers = keeps_ended;
    binds = keeps_bind;
    replies = λ form first. keeps_bind first (λ x. keeps_ended (Ok (form x)));
    tries = brings_tried turns (λ e role is. is) (λ e role is. is);
    enters = λ handed p suits. entered_out (λ from. program_steps c from handed p none_known 0);
    pushes = λ n. keeps_atom (push c n);
    asks = λ n. keeps_atom (room_for c n);
  }

  -- a level is opened, and with the first a stay
  opens_first : (v : OpenLevel) (n : List ℕ) (r : Reference) (q : Result Handle Fault)
      → Leaves u [] (commands.OpenLevel v n r) (unless_refused (λ h. in_reply (λ o. replies.Level o)
      (calls_opening c turns known words h (get_critical v 0))) q)
  opens_first v n r (Err e) = stays_out (commands.OpenLevel v n r) (keeps_ended (Err e))
  opens_first v n r (Ok h) = record { so = λ s rests. (brings_then _ opens go).so s (rests.1 refl) }
    where
      opens : Brings u IsOut (OutIfRefused IsOpen) (calls_opening c turns known words h (get_critical v 0))
      opens = brings_tried turns (λ e role is. is) (λ e role is. is)
          (opened_opens (λ from. keeps_program c from
          (at_both h.0 0) (get_critical v 0) none_known 0 (critical_of_level v 0)))

      go : (q : Result ℕ Fault) → Brings u (OutIfRefused IsOpen q)
          (λ a. Rests (objects_after (commands.OpenLevel v n r) a []))
          (unless_refused (λ o. ended (Ok (replies.Level o))) q)
      go (Ok o) = record { so = λ s is. (is, λ none. absurd cc) }
      go (Err e) = record { so = λ s is. (ap is_barring is, λ none. is) }

  -- WHERE NO REGION STANDS
  outside_leaves : (x : Command) → Leaves u [] x (doing_outside c turns known words x)
  outside_leaves (commands.Make make.Wait n) =
      stays_out (commands.Make make.Wait n) (keeps_wait (word_under words n) n)
  outside_leaves (commands.OnName v n) = stays_out (commands.OnName v n) (keeps_step _ (λ s is. is))
  outside_leaves (commands.OpenLevel v n r) = opens_first v n r (wanted (referent known r))
  outside_leaves (commands.OfRoom v) = stays_out (commands.OfRoom v) (told_out collected_out)
  outside_leaves (commands.WithTries v tries) = stays_out (commands.WithTries v tries)
      (told_out (brings_tried turns (λ e role is. is) (λ e role is. is) announced_out))
  outside_leaves x = stays_out x (outside_so c turns known words (λ once A d. Keeps {A = A} u IsOut d) calls_out x refl)

  -- IN A REGION
  at_level : (levels : List (List ℕ)) (objects : List ℕ) (n : List ℕ) {next : ℕ → Doing Reply}
      → ((o : ℕ) → Keeps u IsOpen (next o))
      → Keeps u IsOpen (doing_at_level c turns known words levels objects n next)
  at_level levels objects n {next} rest = keeps_unless {next = λ l. next (nth_object objects l)}
      (λ l. rest (nth_object objects l)) (level_wanted (newest levels n))

  within_keeps : {n : ℕ} {a : AnswerKind} (h : Handle) (o : ℕ) (p : Program n a) → IsOfLevel p
      → Keeps u IsOpen (calls_within c turns known words h o p)
  within_keeps h o p so = keeps_program c nothing_noted (at_both h.0 0) p none_known o so

  -- the last level ends, and with the first the stay
  closes : (v : CloseLevel) (mode : Mode) (o : ℕ) (os : List ℕ) → Leaves u (o ∷ os) (commands.CloseLevel v mode)
      (makes_nothing (closes_level c turns known words (length (o ∷ os))))
  closes v mode o [] = record {
    so = λ s rests. (ap is_barring (out_set u s.roles), λ none. out_set u s.roles);
  }
  closes v mode o (q ∷ os) = record { so = λ s rests. (rests.0, λ none. absurd cc) }

  within_leaves : (levels : List (List ℕ)) (o : ℕ) (os : List ℕ) (x : Command)
      → Leaves u (o ∷ os) x (doing_within c turns known words levels (o ∷ os) x)
  within_leaves levels o os (commands.OpenLevel v n r) = stays_in (commands.OpenLevel v n r) o os
      (level_more v n r o os) (keeps_unless (λ h. keeps_reply _ (within_keeps h 0 (get_critical v (length (o ∷ os)))
      (critical_of_level v (length (o ∷ os))))) (wanted (referent known r)))
  within_leaves levels o os (commands.OnNameAt on_name_at.GetInLevel n i) =
      stays_in (commands.OnNameAt on_name_at.GetInLevel n i) o os (λ q none. absurd cc) (at_level levels (o ∷ os) n
      (λ l. keeps_bind (within_keeps null l region_kind (λ k long. tt)) (λ k. keeps_unless (λ x. keeps_reply
      (λ word. replies.Value (number_of_word (read_kind k) word))
      (within_keeps null l (region_get (read_kind k) i) (λ k long. tt))) (has_numbers (read_kind k)))))
  within_leaves levels o os (commands.PutAt put_at.PutInLevel n i y) =
      stays_in (commands.PutAt put_at.PutInLevel n i y) o os (λ q none. absurd cc) (at_level levels (o ∷ os) n
      (λ l. keeps_bind (within_keeps null l region_kind (λ k long. tt)) (λ k. keeps_unless (λ x. keeps_unless
      (λ word. keeps_reply (λ x. replies.Done) (within_keeps null l (region_set k i word) (λ k long. tt)))
      (word_of_number k y)) (has_numbers k))))
  within_leaves levels o os (commands.CloseLevel v mode) = closes v mode o os
  within_leaves levels o os (commands.OnName v n) =
      stays_in (commands.OnName v n) o os (λ q none. absurd cc) (keeps_step _ (λ s is. is))
  within_leaves levels o os (commands.Make make.Wait n) =
      stays_in (commands.Make make.Wait n) o os (λ q none. absurd cc) (keeps_wait (word_under words n) n)
  within_leaves levels o os x = stays_in x o os (λ q none. absurd cc) (keeps_ended (Err fault.InCritical))

pub rests_after : (c : Config) (turns : ℕ) (p : Place) (words : ThreadWords) (x : Command) (u : ℕ) (z : Shared)
    → Rests p.objects (role_of z u)
    → Rests (place_after x (run_alone u true (doing_at c turns p words p.objects x) z).0 p).objects
    (role_of (run_alone u true (doing_at c turns p words p.objects x) z).1 u)
rests_after c turns p words x u z rests = (go p.objects).so z rests
  where
    go : (objects : List ℕ) → Leaves u objects x (doing_at c turns
        (record { names = p.names; levels = p.levels; objects = objects }) words objects x)
    go [] = outside_leaves u c turns p.names words x
    go (o ∷ os) = within_leaves u c turns p.names words p.levels o os x
