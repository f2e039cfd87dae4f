-- THREADS THAT SHARE NOTHING print as alone.
use Rattle.std.proofs.Common.{◌≡◌, ◌⊎◌, ◌<◌, ◌≤◌, ◌+◌, ◌++◌, ℕ, zero, suc, true, None, Result, Ok, List, [], ◌∷◌, map}
use Rattle.std.proofs.Common.{length, slice_index_or, inl, inr, refl, sym, ap, subst, ◌∙◌, arith}
use Rattle.std.specs.List.{AllByRecursion, sum_by}
use Rattle.std.proofs.lemmas.List.{get_or-replicate, length-replicate}
use Rattle.std.proofs.lemmas.List.Sums.{sum_by-cons}
use Rattle.jr_word.specs.declared.config.Config.{Config}
use Rattle.jr_word.specs.declared.fault.Fault.{Fault}
use Rattle.jr_word.specs.declared.handle.RefKind.TheVariants.{Global, Weak}
use Rattle.jr_model.specs.declared.event.Role.TheVariants.{Outside}
use Rattle.jr_model.specs.declared.summary.Summary.{Summary}
use Rattle.jr_model.specs.Maps.{sum_below}
use Rattle.jr_model.specs.State.{is_barring}
use Rattle.jr_model.proofs.Lengths.{sum_none, sum_same}
use Rattle.jr_world.specs.World.{refs_of, standing}
use Rattle.jr_world.specs.Doing.{as_seen, first_shared}
use Rattle.jr_world.specs.Schedules.{Machine, run}
use Rattle.jr_syntax.specs.declared.command.Command.{Command}
use Rattle.jr_syntax.specs.declared.thread.ThreadPart.{ThreadPart}
use Rattle.jr_scripts.specs.Places.{nowhere}
use Rattle.jr_scripts.specs.Text.{ending, text_of_parts}
use Rattle.jr_scripts.specs.Together.{first_machine, lines_from, summary_of, thread_of}
use Rattle.jr_scripts.specs.OneRow.{Course, ThreadStand, manner_of, part_commands}
use Rattle.jr_scripts.specs.Apart.{PrintAsAlone, course_alone, courses_alone, in_all, is_for_itself, objects_wanted}
use Rattle.jr_scripts.specs.Apart.{slots_wanted, summary_of_all, summary_of_course, text_alone, words_wanted}
use Rattle.jr_scripts.proofs.OneRow.OneText.{first_idle, first_tidy, outside_at, run_holds}
use Rattle.jr_scripts.proofs.OneRow.Spoilt.{EachEnds, IsSpoiltEnd, SpoiltBy, none_spoilt}
use Rattle.jr_scripts.proofs.TogetherRun.CollectionPlays.{sum_first}
use Rattle.jr_scripts.proofs.Apart.Lines.{EndsAsAlone, LinesLead, asked_by_all, lines_lead}
use Rattle.jr_scripts.proofs.Apart.Mirrors.{Asks, IsAlone, Mirrors, and_asks}
use Rattle.jr_scripts.proofs.Apart.Names.{nowhere_for}
use Rattle.jr_scripts.proofs.Apart.Numbers.{Numbers}
use Rattle.jr_scripts.proofs.Apart.Threads.{Beside, turn_beside}

-- AT FIRST nothing was made
abbrev none_made : Numbers
none_made = record { refs = []; objects = [] }

abbrev no_asks : Asks
no_asks = record { slots = 0; objects = 0; words = 0 }

first_alone : IsAlone none_made (first_shared 1)
first_alone = record {
  role = Outside;
  roles = refl;
  free = refl;
  frames = [] ∷ [];
  one_thread = refl;
  as_many_refs = refl;
  as_many_objects = refl;
  tidy = first_tidy 1;
  own = λ n u bad. absurd cc;
  have_objects = λ n. tt;
  have_elements = λ o. tt;
}

first_mirrors : (n t : ℕ) → t < n → Mirrors t none_made (first_shared n) (first_shared 1)
first_mirrors n t less = record {
  alone = first_alone;
  tidy = first_tidy n;
  refs = λ m bad. absurd (omega arith);
  owners = λ m bad. absurd (omega arith);
  objects = λ m bad. absurd (omega arith);
  frames = get_or-replicate n t ([] ∷ []) [] less;
  refs_there = λ m bad. absurd (omega arith);
  objects_there = λ m bad. absurd (omega arith);
  refs_differ = λ m k bad other same. absurd (omega arith);
  objects_differ = λ m k bad other same. absurd (omega arith);
  fewer_slots = omega arith;
  fewer_objects = omega arith;
  fewer_words = omega arith;
  sits = (
    subst (λ k. t < k) (sym (length-replicate n ([] ∷ []))) less,
    subst (λ k. t < k) (sym (length-replicate n Outside)) less,
  );
  unbarred = λ v. ap is_barring (outside_at n v);
}

sum_nothing : (f : ℕ → ℕ) → sum_below 0 f ≡ 0
sum_nothing f = sum_same 0 (λ j. 0) f (λ j bad. absurd (omega arith)) ∙ sum_none 0

-- THE COURSES, by their threads
module _ (c : Config) (turns : ℕ) (tried : 0 < turns) where
  abbrev course_at : ℕ → List ThreadPart → ℕ → Course
  course_at line (p ∷ ps) zero = course_alone c turns line p
  course_at line (p ∷ ps) (suc t) = course_at (line + 1 + length p.commands) ps t
  course_at line [] t = course_alone c turns line (record { name = []; commands = [] })

  first_leads : (line : ℕ) (ps : List ThreadPart)
      → AllByRecursion (λ p. AllByRecursion (λ x. is_for_itself (manner_of x) ≡ true) p.commands) ps → (t v : ℕ)
      → v < length ps → LinesLead c t None (EndsAsAlone (course_at line ps v)) (thread_of c turns line ps v) none_made
      (asked_by_all (part_commands ps v)) (first_shared 1)
  first_leads line [] all t v bad = absurd (omega arith)
  first_leads line (p ∷ ps) all t zero less = subst (λ q. LinesLead c t None (EndsAsAlone (course_alone c turns line p))
      (lines_from c turns nowhere [] (line + 1) [] p.commands) none_made q (first_shared 1))
      (asked (asked_by_all p.commands)) (lines_lead c t turns tried none_made nowhere [] stand (λ u. stand)
      (nowhere_for none_made) refl p.commands all.0 None no_asks (first_shared 1) first_alone)
    where
      stand : ThreadStand
      stand = record { place = nowhere; words = []; line = line + 1; text = [] }

      no_more : (n : ℕ) → n + 0 ≡ n
      no_more n = omega arith

      asked : (q : Asks) → and_asks q no_asks ≡ q
      asked q = λ i. record {
        slots = no_more q.slots i;
        objects = no_more q.objects i;
        words = no_more q.words i;
      }
  first_leads line (p ∷ ps) all t (suc v) less =
      first_leads (line + 1 + length p.commands) ps all.1 t v (omega arith)

  -- what is counted of each is counted of all
  counted_all : (f : Course → ℕ) (line : ℕ) (ps : List ThreadPart)
      → sum_below (length ps) (λ t. f (course_at line ps t)) ≡ sum_by f (courses_alone c turns line ps)
  counted_all f line [] = sum_nothing (λ t. f (course_at line [] t))
  counted_all f line (p ∷ ps) = sum_first (length ps) (λ t. f (course_at line (p ∷ ps) t))
      ∙ ap (λ n. f (course_alone c turns line p) + n) (counted_all f (line + 1 + length p.commands) ps)
      ∙ sym (sum_by-cons f (course_alone c turns line p) (courses_alone c turns (line + 1 + length p.commands) ps))

  texts_alone : (line : ℕ) (ps : List ThreadPart) (lines : List (List ℕ)) → length lines ≡ length ps
      → ((t : ℕ) → t < length ps → slice_index_or lines t [] ≡ ((course_at line ps t).threads 0).text)
      → lines ≡ map (λ w. (w.threads 0).text) (courses_alone c turns line ps)
  texts_alone line [] [] one each = refl
  texts_alone line [] (l ∷ ls) one each = absurd (omega arith)
  texts_alone line (p ∷ ps) [] one each = absurd (omega arith)
  texts_alone line (p ∷ ps) (l ∷ ls) one each = λ i. each 0 (omega arith) i
      ∷ texts_alone (line + 1 + length p.commands) ps ls (omega arith) (λ t less. each (suc t) (omega arith)) i

asked_all : (f : Command → ℕ) (ps : List ThreadPart)
    → sum_below (length ps) (λ t. sum_by f (part_commands ps t)) ≡ in_all f ps
asked_all f [] = sum_nothing (λ t. sum_by f (part_commands [] t))
asked_all f (p ∷ ps) = sum_first (length ps) (λ t. sum_by f (part_commands (p ∷ ps) t))
    ∙ ap (λ n. sum_by f p.commands + n) (asked_all f ps)
    ∙ sym (sum_by-cons (λ (q : ThreadPart). sum_by f q.commands) p ps)

pub print_as_alone : PrintAsAlone
print_as_alone turns s text tried one shares means undisturbed = means.text_is ∙ go (run_holds c.threads
    (Beside c courses) (turn_beside c courses) means.schedule (first_machine turns s) (first_idle turns s one) first)
  where
    c : Config
    c = s.config

    courses : ℕ → Course
    courses = course_at c turns tried 2 s.threads

    in_range : (t : ℕ) → t < c.threads → t < length s.threads
    in_range t less = subst (λ n. t < n) (sym one) less

    asks : ℕ → Asks
    asks t = asked_by_all (part_commands s.threads t)

    fits : (f : Command → ℕ) (room : ℕ) → in_all f s.threads ≤ room
        → 0 + sum_below c.threads (λ t. sum_by f (part_commands s.threads t)) ≤ room
    fits f room most = at (sum_below c.threads (λ t. sum_by f (part_commands s.threads t))) (in_all f s.threads)
        (ap (λ n. sum_below n (λ t. sum_by f (part_commands s.threads t))) (sym one) ∙ asked_all f s.threads) most
      where
        at : (n k : ℕ) → n ≡ k → k ≤ room → 0 + n ≤ room
        at n k is most = omega arith

    first : Beside c courses (first_machine turns s)
    first = record {
      numbers = λ t. none_made;
      asks = asks;
      alone = λ t. first_shared 1;
      noted = λ t. None;
      leads = λ t less. first_leads c turns tried 2 s.threads shares.for_itself t t (in_range t less);
      mirrors = λ t less. first_mirrors c.threads t less;
      was_noted = λ t less. tt;
      apart = λ t v less below other. record {
        refs = λ m n bad. absurd (omega arith);
        objects = λ m n bad. absurd
            (omega arith);
      };
      slots = fits slots_wanted c.slots shares.slots;
      objects = fits objects_wanted c.objects shares.objects;
      words = fits words_wanted c.words shares.words;
      globals = sym (sum_none c.threads);
      weaks = sym (sum_none c.threads);
      live = sym (sum_none c.threads);
      used = sym (sum_none c.threads);
    }

    after : Machine (List ℕ)
    after = run means.schedule (first_machine turns s)

    go : Beside c courses after ⊎ SpoiltBy c.threads after
        → text_of_parts s.threads means.lines ++ ending (summary_of (as_seen 0 after.shared)) ≡ text_alone turns s
    go (inr spoilt) = absurd (none_spoilt turns s text means undisturbed after refl spoilt one)
    go (inl B) = λ i. text_of_parts s.threads (lines i) ++ ending (summary i)
      where
        -- each thread has ended as alone
        ends : (t : ℕ) → t < c.threads → (slice_index_or means.lines t [] ≡ ((courses t).threads 0).text)
            × (summary_of (as_seen 0 (B.alone t)) ≡ summary_of_course (courses t))
        ends t less = ended_so (subst (λ d. LinesLead c t (B.noted t) (EndsAsAlone (courses t)) d (B.numbers t)
            (B.asks t) (B.alone t))
            (means.ended_all t less) (B.leads t less))
          where
            lines_are : ◌≡◌ {A = Result (List ℕ) Fault} (Ok (slice_index_or means.lines t []))
                (Ok ((courses t).threads 0).text) → slice_index_or means.lines t [] ≡ ((courses t).threads 0).text
            lines_are is = cc

            ended_so : EndsAsAlone (courses t) (B.noted t) (B.numbers t) (B.asks t) (Ok
                (slice_index_or means.lines t []))
                (B.alone t) → (slice_index_or means.lines t [] ≡ ((courses t).threads 0).text)
                × (summary_of (as_seen 0 (B.alone t)) ≡ summary_of_course (courses t))
            ended_so (inl both) = (lines_are both.0, both.1)
            ended_so (inr spoilt) = absurd (none_spoilt turns s text means undisturbed after refl (record {
              thread = t;
              is_one = less;
              spoilt = subst (λ d. EachEnds IsSpoiltEnd d) (sym (means.ended_all t less)) spoilt;
            }) one)

        lines : means.lines ≡ map (λ w. (w.threads 0).text) (courses_alone c turns 2 s.threads)
        lines = texts_alone c turns tried 2 s.threads means.lines means.one_each
            (λ t less. (ends t (subst (λ n. t < n) one less)).0)

        counts : (f : Summary → ℕ) (n : ℕ) → n ≡ sum_below c.threads (λ t. f (summary_of (as_seen 0 (B.alone t))))
            → n ≡ sum_by (λ w. f (summary_of_course w)) (courses_alone c turns 2 s.threads)
        counts f n is = is ∙ sum_same c.threads (λ t. f (summary_of_course (courses t)))
            (λ t. f (summary_of (as_seen 0 (B.alone t)))) (λ t less. ap f (ends t less).1)
            ∙ ap (λ k. sum_below k (λ t. f (summary_of_course (courses t)))) (sym one)
            ∙ counted_all c turns tried (λ w. f (summary_of_course w)) 2 s.threads

        summary : summary_of (as_seen 0 after.shared) ≡ summary_of_all (courses_alone c turns 2 s.threads)
        summary = λ i. record {
          globals = counts (λ x. x.globals) (refs_of Global (as_seen 0 after.shared)) B.globals i;
          weaks = counts (λ x. x.weaks) (refs_of Weak (as_seen 0 after.shared)) B.weaks i;
          live = counts (λ x. x.live) (standing after.shared.objects) B.live i;
          used = counts (λ x. x.used) after.shared.used B.used i;
        }
