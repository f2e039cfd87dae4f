-- THE TEXT OF A ROW is what is printed.
use Rattle.std.proofs.Common.{◌≡◌, ◌⊎◌, ◌<◌, ◌≤◌, ◌+◌, ◌++◌, ℕ, zero, suc, Bool, true, false, cond, Option, None, Some}
use Rattle.std.proofs.Common.{Result, Ok, List, [], ◌∷◌, length, replicate, slice_index_or, nat_lt, inl, inr, refl, sym}
use Rattle.std.proofs.Common.{ap, subst, ◌∙◌, arith, true≢false}
use Rattle.std.specs.List.{AllByRecursion}
use Rattle.std.proofs.lemmas.Bool.Decides.{nat_tests}
use Rattle.one_order.specs.Orders.{done_by}
use Rattle.jr_word.specs.declared.config.Config.{Config}
use Rattle.jr_word.specs.declared.fault.Fault.{Fault}
use Rattle.jr_model.specs.declared.event.Role.TheVariants.{Outside}
use Rattle.jr_model.specs.State.{is_barring}
use Rattle.jr_model.proofs.Updates.{eq_other, eq_self}
use Rattle.jr_world.specs.Board.{word_under}
use Rattle.jr_world.specs.Doing.{Doing, as_seen, first_shared, whatever}
use Rattle.jr_world.specs.Doing.Doing.{ended, steps}
use Rattle.jr_world.specs.Schedules.{Machine, run, stepped}
use Rattle.jr_syntax.specs.declared.command.Command.{Command}
use Rattle.jr_syntax.specs.declared.script.Script.{Script}
use Rattle.jr_syntax.specs.declared.thread.ThreadPart.{ThreadPart}
use Rattle.jr_scripts.specs.declared.reply.Reply.{Reply}
use Rattle.jr_scripts.specs.Posting.{ThreadWords}
use Rattle.jr_scripts.specs.Text.{ending, text_of_parts}
use Rattle.jr_scripts.specs.Together.{doing_at, ends_thread, first_machine, summary_of, thread_of}
use Rattle.jr_scripts.specs.OneRow.{Course, IsRowOf, PrintOneText, CommandRow, ThreadStand, part_commands, course_of}
use Rattle.jr_scripts.specs.OneRow.{first_course, first_stand, is_ordered, no_news, stand_after, text_of_row}
use Rattle.jr_scripts.specs.OneRow.{texts_from}
use Rattle.jr_rule.proofs.Readings.{none_some}
use Rattle.jr_scripts.proofs.OneRow.Alike.{Alike, Tidy, alike_itself, as_many_count}
use Rattle.jr_scripts.proofs.OneRow.Ends.{IsEnding}
use Rattle.jr_scripts.proofs.OneRow.Spoilt.{SpoiltBy, none_spoilt, spoilt_run}
use Rattle.jr_scripts.proofs.OneRow.Standing.{IsStanding, Now, goes_from}
use Rattle.jr_scripts.proofs.OneRow.Standing.Now.{between, within}
use Rattle.jr_scripts.proofs.OneRow.Swaps.{Good, SameCourse, same_of}
use Rattle.jr_scripts.proofs.OneRow.Turns.{turn_stands}

-- AT FIRST
pub outside_at : (n t : ℕ) → slice_index_or (replicate n Outside) t Outside ≡ Outside
outside_at zero t = refl
outside_at (suc n) zero = refl
outside_at (suc n) (suc t) = outside_at n t

fresh_at : (P : ℕ → Type 0) (n t : ℕ) → AllByRecursion (AllByRecursion P) (slice_index_or (replicate n ([] ∷ [])) t [])
fresh_at P zero t = tt
fresh_at P (suc n) zero = (tt, tt)
fresh_at P (suc n) (suc t) = fresh_at P n t

pub first_tidy : (n : ℕ) → Tidy (first_shared n)
first_tidy n = record {
  owned = refl;
  local = λ k t is. tt;
  framed = λ t. fresh_at (λ k. slice_index_or [] k None ≡ Some t) n t;
}

first_good : (s : Script) → Good (first_course s)
first_good s = record {
  tidy = first_tidy s.config.threads;
  rests = λ t. (ap is_barring (outside_at s.config.threads t), λ none. outside_at s.config.threads t);
}

no_words : (line : ℕ) (ps : List ThreadPart) (t : ℕ) → (first_stand line ps t).words ≡ []
no_words line [] t = refl
no_words line (p ∷ ps) zero = refl
no_words line (p ∷ ps) (suc t) = no_words (line + 1 + length p.commands) ps t

module _ (c : Config) (turns : ℕ) where
  first_goes : (line : ℕ) (ps : List ThreadPart) (t : ℕ) → t < length ps
      → thread_of c turns line ps t ≡ goes_from c turns (first_stand line ps t) (part_commands ps t)
  first_goes line [] t less = absurd (omega arith)
  first_goes line (p ∷ ps) zero less = refl
  first_goes line (p ∷ ps) (suc t) less = first_goes (line + 1 + length p.commands) ps t (omega arith)

first_stands : (turns : ℕ) (s : Script) (row : CommandRow) → length s.threads ≡ s.config.threads → IsRowOf s row
    → is_ordered s.config.threads no_news row ≡ true
    → IsStanding s.config turns (course_of s.config turns row (first_course s)) (first_machine turns s)
first_stands turns s row one is ordered = record {
  gone = λ t. false;
  todo = row;
  news = no_news;
  course = first_course s;
  busy = None;
  of_threads = is.threads;
  ordered = ordered;
  good = first_good s;
  leads = same_of s.config turns row (first_course s) (first_course s) (first_good s) (record {
    threads = λ t. refl;
    shared = alike_itself (first_course s).shared (first_tidy s.config.threads);
    board = λ n. refl;
  });
  board = refl;
  posted = λ n w bad. absurd cc;
  heard = λ t n w at. absurd (none t n w at);
  now = between (alike_itself (first_course s).shared (first_tidy s.config.threads));
  goes = λ t less there idle. first_goes s.config turns 2 s.threads t (subst (λ n. t < n) (sym one) less)
      ∙ ap (goes_from s.config turns (first_stand 2 s.threads t)) (sym (is.commands t less));
  gone_by = λ t bad. absurd cc;
  ends = λ t bad. absurd cc;
}
  where
    none : (t : ℕ) (n : List ℕ) (w : ℕ) → word_under (first_stand 2 s.threads t).words n ≡ Some w → ⊥
    none t n w at = bad (ap (λ (words : ThreadWords). word_under words n) (sym (no_words 2 s.threads t)) ∙ at)
      where
        bad : ◌≡◌ {A = Option ℕ} None (Some w) → ⊥
        bad none = absurd cc

-- WHO IS NONE OF THE THREADS takes no step
abbrev AreIdle : ℕ → Machine (List ℕ) → Type 0
AreIdle threads m = (t : ℕ) → threads ≤ t → m.programs t ≡ ended (Ok [])

idle_on : (threads t : ℕ) (luck : Bool) (m : Machine (List ℕ)) (d : Doing (List ℕ)) → t < threads
    → AreIdle threads m
    → AreIdle threads (stepped m t luck d)
idle_on threads t luck m (ended r) less idle = idle
idle_on threads t luck m (steps more leaves) less idle = λ v most.
    ap (λ b. cond b (more t luck m.shared) (m.programs v)) (eq_other t v (λ e. omega arith)) ∙ idle v most

pub first_idle : (turns : ℕ) (s : Script) → length s.threads ≡ s.config.threads
    → AreIdle s.config.threads (first_machine turns s)
first_idle turns s one t most = none_at 2 s.threads t (omega arith)
  where
    none_at : (line : ℕ) (ps : List ThreadPart) (t : ℕ) → length ps ≤ t
        → thread_of s.config turns line ps t ≡ ended (Ok [])
    none_at line [] t most = refl
    none_at line (p ∷ ps) zero most = absurd (omega arith)
    none_at line (p ∷ ps) (suc t) most = none_at (line + 1 + length p.commands) ps t (omega arith)

-- A RUN: what each turn leaves so stays so, or a text is spoilt
module _ (threads : ℕ) (P : Machine (List ℕ) → Type 0) (turn : (m : Machine (List ℕ)) → P m → (t : ℕ) → t < threads
    → (luck : Bool) → P (stepped m t luck (m.programs t)) ⊎ SpoiltBy threads (stepped m t luck (m.programs t))) where
  pub run_holds : (schedule : List (ℕ × Bool)) (m : Machine (List ℕ)) → AreIdle threads m → P m
      → P (run schedule m) ⊎ SpoiltBy threads (run schedule m)
  run_holds [] m idle so = inl so
  run_holds (x ∷ xs) m idle so = go (λ n idle so. run_holds xs n idle so) (nat_lt x.0 threads) refl
    where
      after : Machine (List ℕ)
      after = stepped m x.0 x.1 (m.programs x.0)

      Leads : Machine (List ℕ) → Type 0
      Leads n = P (run xs n) ⊎ SpoiltBy threads (run xs n)

      below : (n threads : ℕ) → nat_lt n threads ≡ true → n < threads
      below n threads is = grind (arith, nat_tests)

      not_below : (n threads : ℕ) → nat_lt n threads ≡ false → threads ≤ n
      not_below n threads is = grind (arith, nat_tests)

      go : ((n : Machine (List ℕ)) → AreIdle threads n → P n → Leads n) → (b : Bool) → nat_lt x.0 threads ≡ b
          → Leads after
      go rest true is = turned (turn m so x.0 (below x.0 threads is) x.1)
        where
          turned : P after ⊎ SpoiltBy threads after → Leads after
          turned (inl stays) =
              rest after (idle_on threads x.0 x.1 m (m.programs x.0) (below x.0 threads is) idle) stays
          turned (inr spoilt) = inr (spoilt_run threads xs after spoilt)
      go rest false is =
          subst Leads (sym (ap (stepped m x.0 x.1) (idle x.0 (not_below x.0 threads is)))) (rest m idle so)

-- WHAT IS NOT AT ITS END has steps before it
module _ (c : Config) where
  never_ended : (turns : ℕ) → 0 < turns → (p : ThreadStand) (xs : List Command) (r : Result (List ℕ) Fault)
      → goes_from c turns p xs ≡ ended r → ⊥
  never_ended zero tried p xs r bad = absurd (omega arith)
  never_ended (suc n) tried p [] r bad = go p.place.objects bad
    where
      go : (objects : List ℕ) → whatever (ends_thread c (suc n) p.place.names p.words objects)
          (λ answer. ended (Ok p.text)) ≡ ended r → ⊥
      go [] bad = absurd cc
      go (o ∷ os) bad = absurd cc
  never_ended (suc n) tried p (x ∷ xs) r bad = go (λ q. never_ended (suc n) tried (stand_after x q p) xs r)
      (doing_at c (suc n) p.place p.words p.place.objects x) bad
    where
      go : ((q : Result Reply Fault) → goes_from c (suc n) (stand_after x q p) xs ≡ ended r → ⊥) → (d : Doing Reply)
          → whatever d (λ q. goes_from c (suc n) (stand_after x q p) xs) ≡ ended r → ⊥
      go rest (ended q) bad = rest q bad
      go rest (steps more leaves) bad = absurd cc

  midst_ended : (turns : ℕ) → 0 < turns → (p : ThreadStand) (x : Command) (xs : List Command)
      (r : Result (List ℕ) Fault)
      (d : Doing Reply) → whatever d (λ q. goes_from c turns (stand_after x q p) xs) ≡ ended r → ⊥
  midst_ended turns tried p x xs r (ended q) bad = never_ended turns tried (stand_after x q p) xs r bad
  midst_ended turns tried p x xs r (steps more leaves) bad = absurd cc

-- what no thread has to do is nothing
nothing_left : (threads : ℕ) (row : CommandRow) → AllByRecursion (λ x. x.0 < threads) row
    → ((t : ℕ) → t < threads → done_by row t ≡ []) → row ≡ []
nothing_left threads [] all none = refl
nothing_left threads (x ∷ xs) all none =
    absurd (go (ap (λ b. cond b (x.1 ∷ done_by xs x.0) (done_by xs x.0)) (sym (eq_self x.0)) ∙ none x.0 all.0))
  where
    go : x.1 ∷ done_by xs x.0 ≡ [] → ⊥
    go bad = absurd cc

-- THE TEXTS of threads, by their places
texts_are : (ps : List ThreadPart) (lines : List (List ℕ)) (first : ℕ) (stands : ℕ → ThreadStand)
    → length lines ≡ length ps
    → ((t : ℕ) → t < length ps → slice_index_or lines t [] ≡ (stands (first + t)).text)
    → lines ≡ texts_from first ps stands
texts_are [] [] first stands one each = refl
texts_are [] (l ∷ ls) first stands one each = absurd (omega arith)
texts_are (p ∷ ps) [] first stands one each = absurd (omega arith)
texts_are (p ∷ ps) (l ∷ ls) first stands one each = λ i. head i ∷ texts_are ps ls (suc first) stands (omega arith)
    (λ t less. each (suc t) (omega arith) ∙ at (first + suc t) (suc first + t) (omega arith)) i
  where
    at : (n m : ℕ) → n ≡ m → (stands n).text ≡ (stands m).text
    at n m is = ap (λ k. (stands k).text) is

    head : l ≡ (stands first).text
    head = each 0 (omega arith) ∙ at (first + 0) first (omega arith)

pub print_one_text : PrintOneText
print_one_text turns s row text tried one is ordered means undisturbed = means.text_is ∙ go (run_holds
    s.config.threads (IsStanding s.config turns end) (turn_stands s.config turns end) means.schedule
    (first_machine turns s) (first_idle turns s one) (first_stands turns s row one is ordered))
  where
    end : Course
    end = course_of s.config turns row (first_course s)

    after : Machine (List ℕ)
    after = run means.schedule (first_machine turns s)

    go : IsStanding s.config turns end after ⊎ SpoiltBy s.config.threads after
        → text_of_parts s.threads means.lines ++ ending (summary_of (as_seen 0 after.shared)) ≡ text_of_row turns s row
    go (inr spoilt) = absurd (none_spoilt turns s text means undisturbed after refl spoilt one)
    go (inl S) = λ i. text_of_parts s.threads (lines i) ++ ending (summary i)
      where
        still : (t : ℕ) → t < s.config.threads → S.gone t ≡ false → (S.busy ≡ Some t → ⊥) → ⊥
        still t less here free = never_ended s.config turns tried (S.course.threads t) (done_by S.todo t)
            (Ok (slice_index_or means.lines t [])) (sym (S.goes t less here free) ∙ means.ended_all t less)

        not_now : (t : ℕ) → t < s.config.threads → S.gone t ≡ false → (busy : Option ℕ) → S.busy ≡ busy
            → Now s.config turns S.gone S.todo S.course after busy → ⊥
        not_now t less here _ none (between was) = still t less here (λ taken. none_some t (sym none ∙ taken))
        not_now t less here _ busy (within u below there M) = midst_ended s.config turns tried (S.course.threads u)
            M.command M.rest (Ok (slice_index_or means.lines u [])) M.work (sym M.does ∙ means.ended_all u below)

        gone : (t : ℕ) → t < s.config.threads → S.gone t ≡ true
        gone t less = is_so (S.gone t) refl
          where
            is_so : (b : Bool) → S.gone t ≡ b → S.gone t ≡ true
            is_so true there = there
            is_so false here = absurd (not_now t less here S.busy refl S.now)

        alike : (busy : Option ℕ) → Now s.config turns S.gone S.todo S.course after busy
            → Alike S.gone after.shared S.course.shared
        alike _ (between was) = was
        alike _ (within u below there M) = absurd (true≢false (sym (gone u below) ∙ there))

        same : SameCourse S.course end
        same = subst (λ todo. SameCourse (course_of s.config turns todo S.course) end)
            (nothing_left s.config.threads S.todo S.of_threads (λ t less. (S.ends t (gone t less)).0)) S.leads

        ends_with : (t : ℕ) → t < s.config.threads → slice_index_or means.lines t [] ≡ (S.course.threads t).text
        ends_with t less = in_end (subst (IsEnding t (S.course.threads t).text after.shared.owners)
            (means.ended_all t less) (S.ends t (gone t less)).1)
          where
            in_end : ◌≡◌ {A = Result (List ℕ) Fault} (Ok (slice_index_or means.lines t []))
                (Ok (S.course.threads t).text)
                → slice_index_or means.lines t [] ≡ (S.course.threads t).text
            in_end is = cc

        lines : means.lines ≡ texts_from 0 s.threads end.threads
        lines = texts_are s.threads means.lines 0 end.threads means.one_each
            (λ t less. ends_with t (subst (λ n. t < n) one less) ∙ ap (λ (p : ThreadStand). p.text) (same.threads t)
            ∙ ap (λ k. (end.threads k).text) (begins t))
          where
            begins : (t : ℕ) → t ≡ 0 + t
            begins t = omega arith

        summary : summary_of (as_seen 0 after.shared) ≡ summary_of (as_seen 0 end.shared)
        summary = as_many_count S.gone after.shared S.course.shared (alike S.busy S.now)
            ∙ as_many_count (λ t. false) S.course.shared end.shared same.shared
