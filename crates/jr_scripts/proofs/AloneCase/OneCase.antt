-- ONE THREAD IS A CASE of what several threads mean: turns of others do nothing.
use Rattle.std.proofs.Common.{◌≡◌, ◌+◌, ◌++◌, ℕ, zero, suc, Bool, true, false, cond, Option, Some, None, Result, Ok}
use Rattle.std.proofs.Common.{Err, List, [], ◌∷◌, length, slice_index_or, refl, sym, ap, subst, ◌∙◌, arith, append-nil}
use Rattle.std.specs.List.{AllByRecursion}
use Rattle.jr_model.proofs.Updates.{eq_other}
use Rattle.jr_word.specs.declared.config.Config.{Config}
use Rattle.jr_word.specs.declared.fault.Fault.{Fault}
use Rattle.jr_world.specs.Board.{word_under}
use Rattle.jr_world.specs.Doing.{Doing, Shared, as_seen, by_step, first_shared, run_alone, whatever}
use Rattle.jr_world.specs.Doing.Doing.{ended, steps}
use Rattle.jr_world.specs.Schedules.{Machine, run, stepped}
use Rattle.jr_syntax.specs.declared.script.Script.{Script}
use Rattle.jr_syntax.specs.declared.command.Command.{Command}
use Rattle.jr_syntax.specs.declared.command.Command.TheVariants as commands
use Rattle.jr_syntax.specs.declared.verb.Make.TheVariants as make
use Rattle.jr_syntax.specs.declared.verb.MakeFrom.TheVariants as make_from
use Rattle.jr_syntax.specs.declared.verb.On.TheVariants as on
use Rattle.jr_syntax.specs.declared.verb.OnName.{OnName}
use Rattle.jr_scripts.specs.declared.reply.Reply.{Reply}
use Rattle.jr_scripts.specs.declared.reply.Reply.TheVariants as replies
use Rattle.jr_scripts.specs.Meaning.{AloneIsACase, Told, first_told, left_behind, told_from, luck_of, memory_left}
use Rattle.jr_scripts.specs.Meaning.{tells, text_of_part}
use Rattle.jr_scripts.specs.Together.{summary_of, doing_at, ends_thread, first_machine, hears_word, lines_from}
use Rattle.jr_scripts.specs.Together.{posts_word, waits_for}
use Rattle.jr_scripts.specs.Names.{Names, word_posted}
use Rattle.jr_scripts.specs.Places.{Place, nowhere}
use Rattle.jr_scripts.specs.Posting.{ThreadWords, reply_to_wait, words_after}
use Rattle.jr_scripts.specs.Text.{ending, heading, text_of_parts}
use Rattle.jr_scripts.proofs.OneRow.Alike.{Kept, Tidy, frames_of, kept_itself, owner_of, tidy_board}
use Rattle.jr_scripts.proofs.OneRow.Calls.{calls_go_on, end_goes, is_by_calls, is_copy}
use Rattle.jr_scripts.proofs.OneRow.Collections.{Exactly, IsExact}
use Rattle.jr_scripts.proofs.OneRow.Follows.{RunsSo, but, nobody, once_runs}
use Rattle.jr_scripts.proofs.OneRow.Goes.{Goes, Stands}
use Rattle.jr_scripts.proofs.AloneCase.Collections.{gc_exact, gcann_exact}
use Rattle.jr_scripts.proofs.AloneCase.Leads.{EndsIn, Parts, parts_of, step_of}
use Rattle.jr_scripts.proofs.AloneCase.Leads.EndsIn.{at_end, by_luck}
use Rattle.jr_scripts.proofs.AloneCase.OwnWords.{AreOwn, own_after, own_posted}

-- THE SCHEDULE: where the others have ended, it leads the first thread's program to its end by its own steps
led_by : {A : Type 0} (schedule : List (ℕ × Bool)) (m : Machine A) (r x : Result A Fault)
    → ((t : ℕ) → m.programs (suc t) ≡ ended x) → (run schedule m).programs 0 ≡ ended r
    → EndsIn r (run schedule m).shared (m.programs 0) m.shared
led_by [] m r x others is = subst (λ d. EndsIn r m.shared d m.shared) (sym is) at_end
led_by {A} ((suc t, luck) ∷ schedule) m r x others is =
    subst (λ (n : Machine A). EndsIn r (run schedule n).shared (m.programs 0) m.shared) (sym same)
    (led_by schedule m r x others (sym (ap (λ n. (run schedule n).programs 0) same) ∙ is))
  where
    same : stepped m (suc t) luck (m.programs (suc t)) ≡ m
    same = ap (stepped m (suc t) luck) (others t)
led_by {A} ((zero, luck) ∷ schedule) m r x others is =
    go (λ n same there. led_by schedule n r x same there) (m.programs 0) refl is
  where
    Leads : Machine A → Type 0
    Leads n = ((t : ℕ) → n.programs (suc t) ≡ ended x) → (run schedule n).programs 0 ≡ ended r
        → EndsIn r (run schedule n).shared (n.programs 0) n.shared

    go : ((n : Machine A) → Leads n) → (d : Doing A) → m.programs 0 ≡ d
        → (run schedule (stepped m 0 luck d)).programs 0 ≡ ended r
        → EndsIn r (run schedule (stepped m 0 luck d)).shared (m.programs 0) m.shared
    go leads (ended y) same is = leads m others is
    go leads (steps more leaves) same is = subst
        (λ d. EndsIn r (run schedule (stepped m 0 luck (steps more leaves))).shared d m.shared) (sym same)
        (by_luck luck (leads (stepped m 0 luck (steps more leaves)) (λ t. ap (λ b. cond b (more 0 luck m.shared)
        (m.programs (suc t))) (eq_other 0 (suc t) (λ e. omega arith)) ∙ others t) is))

-- some memory with this luck, where luck counts, and which leaves this memory
memory_for : (x : Command) (luck : Bool) (memory : List Bool) → (more : List Bool)
    × (is_copy x ≡ true → luck_of x more ≡ luck) × (memory_left x more ≡ memory)
memory_for (commands.MakeFrom make_from.Elements n r) luck memory = (luck ∷ memory, (λ is. refl), refl)
memory_for (commands.On on.Chars r) luck memory = (luck ∷ memory, (λ is. refl), refl)
memory_for x luck memory = (memory, (λ bad. absurd cc), refl)

-- what has ended
end_of : {A : Type 0} {r x : Result A Fault} {z s : Shared} → EndsIn r z (ended x) s
    → ◌≡◌ {A = Result A Fault × Shared} (x, s) (r, z)
end_of at_end = refl

-- WHAT IS SHARED is one thread's, and under a name under which it has no word none is on the board
record IsLone (words : ThreadWords) (s : Shared) : Type 0 where
  one : length s.roles ≡ 1
  tidy : Tidy s
  own : AreOwn words s.board

-- before its first command
first_lone : IsLone [] (first_shared 1)
first_lone = record {
  one = refl;
  tidy = record { owned = refl; local = λ n t is. tt; framed = framed };
  own = λ n none. refl;
}
  where
    framed : (t : ℕ) → AllByRecursion (AllByRecursion (λ n. owner_of (first_shared 1) n ≡ Some t))
        (frames_of (first_shared 1) t)
    framed zero = (tt, tt)
    framed (suc t) = tt

-- A COMMAND AND WHAT FOLLOWS: what it leaves is one thread's, with the words that it then has; and only a copy's luck
-- counts
record Did {B : Type 0} (names : Names) (words : ThreadWords) (x : Command) (r : Result B Fault) (z : Shared)
    (d : Doing Reply) (next : Result Reply Fault → Doing B) (s : Shared) : Type 0 where
  answer : Result Reply Fault
  between : Shared
  lone : IsLone (words_after names x answer words) between
  luck : Bool
  is : (memory : List Bool) → (is_copy x ≡ true → luck_of x memory ≡ luck)
      → ◌≡◌ {A = Result Reply Fault × Shared} (run_alone 0 (luck_of x memory) d s) (answer, between)
  rest : EndsIn r z (next answer) between

-- what takes steps by calls alone
calls_parts : {A B : Type 0} {r : Result B Fault} {z : Shared} (once : Bool) (d : Doing A)
    (next : Result A Fault → Doing B) (s : Shared) → Tidy s → Goes once 0 None None d → EndsIn r z (whatever d next) s
    → Parts (λ q y. Stands None q y × RunsSo 0 once d s q y) r z next s
calls_parts once d next s tidy goes e = parts_of (but 0) refl (λ q y. Stands None q y × RunsSo 0 once d s q y) d next s
    tidy (once_runs (but 0) 0 refl once (Stands None) d s tidy (goes.so s tidy tt)) e

module _ (c : Config) (turns : ℕ) where
  module _ {B : Type 0} (p : Place) (words : ThreadWords) (s : Shared) (lone : IsLone words s) (r : Result B Fault)
      (z : Shared) (next : Result Reply Fault → Doing B) where
    abbrev HasDone : Command → Doing Reply → Type 0
    HasDone x d = EndsIn r z (whatever d next) s → Did p.names words x r z d next s

    kept_lone : (x : Command) (q : Result Reply Fault) (y : Shared) → Tidy y → Kept 0 s y
        → IsLone (words_after p.names x q words) y
    kept_lone x q y tidy kept = record {
      one = kept.as_many_roles ∙ lone.one;
      tidy = tidy;
      own = subst (AreOwn (words_after p.names x q words)) (sym kept.board)
          (own_after p.names x q words s.board lone.own);
    }

    posted : (v : OnName) (n : List ℕ) → HasDone (commands.OnName v n) (by_step (posts_word n (word_posted p.names n)))
    posted v n e = record {
      answer = Ok replies.Done;
      between = record s { board = s.board ++ (n, word_posted p.names n) ∷ [] };
      lone = record {
        one = lone.one;
        tidy = tidy_board s _ lone.tidy;
        own = own_posted words s.board n (word_posted p.names n) lone.own;
      };
      luck = true;
      is = λ memory which. refl;
      rest = (step_of e).1;
    }

    -- no word is on the board that the thread hasn't
    waited : (n : List ℕ) (o : Option ℕ) → word_under words n ≡ o → HasDone (commands.Make make.Wait n) (waits_for o n)
    waited n (Some w) is e = record {
      answer = reply_to_wait (Some w);
      between = s;
      lone = kept_lone (commands.Make make.Wait n) (reply_to_wait (Some w)) s lone.tidy (kept_itself 0 s);
      luck = true;
      is = λ memory which. refl;
      rest = e;
    }
    waited n None is e = let one = step_of e in record {
      answer = heard;
      between = s;
      lone = kept_lone (commands.Make make.Wait n) heard s lone.tidy (kept_itself 0 s);
      luck = true;
      is = λ memory which. refl;
      rest = subst (λ q. EndsIn r z (next q) s) (same one.0) one.1;
    }
      where
        heard : Result Reply Fault
        heard = reply_to_wait (word_under s.board n)

        same : (luck : Bool) → (hears_word n 0 luck s).0 ≡ heard
        same true = refl
        same false = ap reply_to_wait (sym (lone.own n is))

    collected : (objects : List ℕ) (x : Command) → ((memory : List Bool) → luck_of x memory ≡ true)
        → IsExact 0 (doing_at c turns p words objects x) s → HasDone x (doing_at c turns p words objects x)
    collected objects x lucky exact e =
        let d = doing_at c turns p words objects x in
        let k = parts_of nobody (λ t. refl) (Exactly (run_alone 0 true d s).0 (run_alone 0 true d s).1) d next s
        lone.tidy exact e in record {
          answer = k.answer;
          between = k.between;
          lone = kept_lone x k.answer k.between k.tidy k.kept;
          luck = true;
          is = λ memory which. ap (λ b. run_alone 0 b d s) (lucky memory) ∙ (λ i. (sym k.so.0 i, sym k.so.1 i));
          rest = k.rest;
        }

    called : (objects : List ℕ) (x : Command) → is_by_calls x ≡ true → HasDone x (doing_at c turns p words objects x)
    called objects x is e =
        let k = calls_parts (is_copy x) (doing_at c turns p words objects x) next s lone.tidy
        (calls_go_on c turns p words objects x is 0) e in record {
          answer = k.answer;
          between = k.between;
          lone = kept_lone x k.answer k.between k.tidy k.kept;
          luck = k.so.1.luck;
          is = λ memory which. k.so.1.is (luck_of x memory) which;
          rest = k.rest;
        }

    command_did : (objects : List ℕ) (x : Command) → HasDone x (doing_at c turns p words objects x)
    command_did [] (commands.OnName v n) = posted v n
    command_did (o ∷ os) (commands.OnName v n) = posted v n
    command_did [] (commands.Make make.Wait n) = waited n (word_under words n) refl
    command_did (o ∷ os) (commands.Make make.Wait n) = waited n (word_under words n) refl
    command_did [] (commands.OfRoom v) =
        collected [] (commands.OfRoom v) (λ memory. refl) (gc_exact s lone.tidy lone.one)
    command_did (o ∷ os) (commands.OfRoom v) =
        collected (o ∷ os) (commands.OfRoom v) (λ memory. refl) (refl, refl)
    command_did [] (commands.WithTries v tries) =
        collected [] (commands.WithTries v tries) (λ memory. refl) (gcann_exact s lone.tidy lone.one turns)
    command_did (o ∷ os) (commands.WithTries v tries) =
        collected (o ∷ os) (commands.WithTries v tries) (λ memory. refl) (refl, refl)
    command_did objects x = called objects x refl

  -- THE COMMANDS FROM HERE ON, and the end
  abbrev end_told : Told → Result (List ℕ) Fault × Shared
  end_told t = (Ok t.text, left_behind c turns t)

  lines_told : (line : ℕ) (xs : List Command) (t : Told) → IsLone t.words t.shared → (r : Result (List ℕ) Fault)
      (z : Shared) → EndsIn r z (lines_from c turns t.place t.words line t.text xs) t.shared
      → (memory : List Bool) × (end_told (told_from c turns line xs (record t { memory = memory })) ≡ (r, z))
  lines_told line [] t lone r z e =
      let p = calls_parts false (ends_thread c turns t.place.names t.words t.place.objects) _ t.shared lone.tidy
      (end_goes 0 c turns t.place.names t.words t.place.objects) e in (
        [],
        ap (λ (x : Result (Unit {0}) Fault × Shared). (Ok t.text, x.1)) (p.so.1.is true (λ bad. absurd cc))
            ∙ end_of p.rest,
      )
  lines_told line (x ∷ xs) t lone r z e =
      let p = command_did t.place t.words t.shared lone r z _ t.place.objects x e in
      let after = tells line x t (p.answer, p.between) in
      let rest = lines_told (line + 1) xs after p.lone r z p.rest in
      let more = memory_for x p.luck rest.0 in (
        more.0,
        ap (λ v. end_told (told_from c turns (line + 1) xs v))
            (ap (tells line x (record t { memory = more.0 })) (p.is more.0 more.1)
            ∙ ap (λ m. record after { memory = m }) more.2) ∙ rest.1,
      )

-- what an end tells
abbrev text_or : List ℕ → Result (List ℕ) Fault → List ℕ
text_or other (Ok text) = text
text_or other (Err e) = other

-- THE TEXT of the part
pub alone_is_a_case : AloneIsACase
alone_is_a_case turns c part text one means =
    go means.lines means.one_each (means.ended_all 0 (omega arith)) means.text_is
  where
    script : Script
    script = record { config = c; threads = part ∷ [] }

    z : Shared
    z = (run means.schedule (first_machine turns script)).shared

    go : (lines : List (List ℕ)) → length lines ≡ 1
        → (run means.schedule (first_machine turns script)).programs 0 ≡ ended (Ok (slice_index_or lines 0 []))
        → text ≡ text_of_parts (part ∷ []) lines ++ ending (summary_of (as_seen 0 z))
        → (memory : List Bool) × (text ≡ text_of_part memory turns c part)
    go [] long ended_so is = absurd (omega arith)
    go (l ∷ k ∷ lines) long ended_so is = absurd (omega arith)
    go (l ∷ []) long ended_so is =
        let led = led_by means.schedule (first_machine turns script) (Ok l) (Ok []) (λ t. refl) ended_so in
        let first = subst (λ n. EndsIn (Ok l) z (lines_from c turns nowhere [] 3 [] part.commands) (first_shared n))
        one led in
        let told = lines_told c turns 3 part.commands (first_told [])
        first_lone (Ok l) z first in (
          told.0,
          is ∙ ap (λ k. k ++ ending (summary_of (as_seen 0 z))) (append-nil (heading part.name ++ l))
              ∙ ap (λ (x : Result (List ℕ) Fault × Shared). heading part.name ++ text_or l x.0
              ++ ending (summary_of (as_seen 0 x.1))) (sym told.1),
        )
