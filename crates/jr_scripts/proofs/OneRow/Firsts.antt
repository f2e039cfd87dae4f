-- A THREAD'S FIRST COMMAND IS DONE: so the machine stands beside what is left of the row.
use Rattle.std.proofs.Common.{◌≡◌, ◌⊎◌, ◌<◌, ◌++◌, ◌||◌, ℕ, Bool, true, false, cond, Option, Some, List, [], ◌∷◌}
use Rattle.std.proofs.Common.{Result, inl, inr, refl, sym, ap, subst, ◌∙◌, true≢false}
use Rattle.std.specs.List.{AllByRecursion}
use Rattle.std.specs.Str.{bytes_eq}
use Rattle.std.proofs.lemmas.Bool.{cases_eq, or_right}
use Rattle.std.proofs.lemmas.Slice.Eq.{bytes_eq-Decides}
use Rattle.one_order.specs.Orders.{done_by}
use Rattle.jr_word.specs.declared.config.Config.{Config}
use Rattle.jr_word.specs.declared.fault.Fault.{Fault}
use Rattle.jr_model.proofs.Updates.{at_number_self, eq_other}
use Rattle.jr_world.specs.Board.{word_under}
use Rattle.jr_world.specs.Doing.{Shared, run_alone}
use Rattle.jr_world.specs.Schedules.{Machine}
use Rattle.jr_syntax.specs.declared.command.Command.{Command}
use Rattle.jr_scripts.specs.declared.reply.Reply.{Reply}
use Rattle.jr_scripts.specs.Names.{word_posted}
use Rattle.jr_scripts.specs.Posting.{ThreadWords}
use Rattle.jr_scripts.specs.OneRow.{Course, Manner, News, CommandRow, ThreadStand, course_after, course_of, is_ordered}
use Rattle.jr_scripts.specs.OneRow.{manner_of}
use Rattle.jr_scripts.specs.OneRow.{and_name, news_after, stand_after}
use Rattle.jr_scripts.specs.OneRow.Manner.{acts, apart, collects, posts, waits}
use Rattle.jr_scripts.proofs.AloneCase.OwnWords.{under_words_with}
use Rattle.jr_scripts.proofs.OneRow.Alike.{Alike, Begin, Kept, alike_back}
use Rattle.jr_scripts.proofs.OneRow.Calls.{acts_follow}
use Rattle.jr_scripts.proofs.OneRow.Collections.{collects_follow}
use Rattle.jr_scripts.proofs.OneRow.Ends.{IsEnding, ending_on}
use Rattle.jr_scripts.proofs.OneRow.Follows.{Follows, Outcome, led}
use Rattle.jr_scripts.proofs.OneRow.Rows.{First, MayBeFirst, all_without, first_of, is_acting, ordered_without}
use Rattle.jr_scripts.proofs.OneRow.Shapes.{posts_words, waits_words, words_stay}
use Rattle.jr_scripts.proofs.OneRow.Standing.{IsStanding, Now, beside, does_first, goes_from}
use Rattle.jr_scripts.proofs.OneRow.Swaps.{Good, IsReady, SameCourse, good_after, moved_first, same_through}

pub same_back : (w v : Course) → SameCourse w v → SameCourse v w
same_back w v same = record {
  threads = λ t. sym (same.threads t);
  shared = alike_back w.shared v.shared same.shared;
  board = λ n. sym (same.board n);
}

-- WHAT A COMMAND THAT TAKES STEPS DOES FIRST follows
pub first_follows : (c : Config) (turns : ℕ) (u : ℕ) (w : Course) → Good w → (x : Command)
    → is_acting (manner_of x) ≡ true
    → Follows (beside (manner_of x) u) u (does_first c turns (w.threads u) x) w.shared
first_follows c turns u w good x acting = go (manner_of x) refl acting
  where
    go : (k : Manner) → manner_of x ≡ k → is_acting k ≡ true
        → Follows (beside k u) u (does_first c turns (w.threads u) x) w.shared
    go acts is acting = acts_follow c turns (w.threads u).place (w.threads u).words x is u w.shared good.tidy
    go collects is acting = collects_follow c turns (w.threads u).place (w.threads u).words x is u w.shared good.tidy
        (good.rests u).1
    go _ is none = absurd cc

none_beside : (k : Manner) (u : ℕ) → beside k u (λ t. false)
none_beside collects u = λ t. refl
none_beside _ u = refl

-- .. and leads from what is alike, where nobody is at its end, to what is alike
pub first_led : (c : Config) (turns : ℕ) (u : ℕ) (w : Course) → Good w → (x : Command)
    → is_acting (manner_of x) ≡ true → (s : Shared) → Alike (λ t. false) s w.shared
    → ((run_alone u true (does_first c turns (w.threads u) x) s).0
    ≡ (run_alone u true (does_first c turns (w.threads u) x) w.shared).0)
    × Alike (λ t. false) (run_alone u true (does_first c turns (w.threads u) x) s).1
    (run_alone u true (does_first c turns (w.threads u) x) w.shared).1
    × Kept u s (run_alone u true (does_first c turns (w.threads u) x) s).1
first_led c turns u w good x acting s alike =
    let d = does_first c turns (w.threads u) x in
    led (beside (manner_of x) u) u (Outcome (beside (manner_of x) u) u (run_alone u true d w.shared).0
    (run_alone u true d w.shared).1) d w.shared (first_follows c turns u w good x acting) (λ t. false)
    (none_beside (manner_of x) u) s alike

-- WHAT IS SPOKEN stays so, and so are the names of a thread's words
pub spoken_on : (k : News) (t : ℕ) (a : Manner) (n : List ℕ) → k.is_spoken n ≡ true
    → (news_after t a k).is_spoken n ≡ true
spoken_on k t (posts m) n is = or_right (bytes_eq n m) (k.is_spoken n) is
spoken_on k t (waits m) n is = or_right (bytes_eq n m) (k.is_spoken n) is
spoken_on k t apart n is = is
spoken_on k t collects n is = is
spoken_on k t acts n is = is

name_spoken : (n m : List ℕ) (f : List ℕ → Bool) → m ≡ n → and_name n f m ≡ true
name_spoken n m f is = ap (λ b. b || f m) ((bytes_eq-Decides m n).1 is)

pub said_spoken : (k : News) (t : ℕ) (a : Manner) (n m : List ℕ) → (a ≡ posts n) ⊎ (a ≡ waits n) → m ≡ n
    → (news_after t a k).is_spoken m ≡ true
said_spoken k t a n m (inl so) same =
    subst (λ b. (news_after t b k).is_spoken m ≡ true) (sym so) (name_spoken n m k.is_spoken same)
said_spoken k t a n m (inr so) same =
    subst (λ b. (news_after t b k).is_spoken m ≡ true) (sym so) (name_spoken n m k.is_spoken same)

-- the names of a thread's words are spoken once its command is done
heard_by : (c : Config) (turns t : ℕ) (x : Command) (k : News) (p : ThreadStand) (r : Result Reply Fault)
    → ((n : List ℕ) (w : ℕ) → word_under p.words n ≡ Some w → k.is_spoken n ≡ true) → (n : List ℕ) (w : ℕ)
    → word_under (stand_after x r p).words n ≡ Some w → (news_after t (manner_of x) k).is_spoken n ≡ true
heard_by c turns t x k p r heard n w is = go (manner_of x) refl
  where
    under : ThreadWords → Type 0
    under words = word_under words n ≡ Some w

    quiet : (a : Manner) → manner_of x ≡ a → ((m : List ℕ) → a ≡ posts m → ⊥) → ((m : List ℕ) → a ≡ waits m → ⊥)
        → (news_after t a k).is_spoken n ≡ true
    quiet a so no_post no_wait = spoken_on k t a n (heard n w (subst under (words_stay c turns p.place p.words x r
        (λ m e. no_post m (sym so ∙ e)) (λ m e. no_wait m (sym so ∙ e))) is))

    go : (a : Manner) → manner_of x ≡ a → (news_after t a k).is_spoken n ≡ true
    go (posts m) so = named (under_words_with p.words m n (word_posted p.place.names m) w
        (subst under (posts_words c turns p.place p.words x m so r) is))
      where
        named : (word_under p.words n ≡ Some w) ⊎ (n ≡ m) → (news_after t (posts m) k).is_spoken n ≡ true
        named (inl old) = spoken_on k t (posts m) n (heard n w old)
        named (inr same) = name_spoken m n k.is_spoken same
    go (waits m) so = named (waits_words c turns p.place p.words x m so r n w is)
      where
        named : (word_under p.words n ≡ Some w) ⊎ (n ≡ m) → (news_after t (waits m) k).is_spoken n ≡ true
        named (inl old) = spoken_on k t (waits m) n (heard n w old)
        named (inr same) = name_spoken m n k.is_spoken same
    go apart so = quiet apart so (λ m bad. absurd cc) (λ m bad. absurd cc)
    go collects so = quiet collects so (λ m bad. absurd cc) (λ m bad. absurd cc)
    go acts so = quiet acts so (λ m bad. absurd cc) (λ m bad. absurd cc)

-- A FIRST COMMAND IS DONE
module _ (c : Config) (turns : ℕ) (end : Course) (m : Machine (List ℕ)) (stands : IsStanding c turns end m) (t : ℕ)
    (x : Command) (xs : List Command) (is : done_by stands.todo t ≡ x ∷ xs) where
  pub first : First stands.todo t x xs
  first = first_of stands.todo t x xs is

  pub ordered_so : is_ordered c.threads stands.news (first.pre ++ (t, x) ∷ first.post) ≡ true
  ordered_so = subst (λ row. is_ordered c.threads stands.news row ≡ true) first.is stands.ordered

  -- what is left to do, and from where
  abbrev pub left_to_do : CommandRow
  left_to_do = first.pre ++ first.post

  abbrev pub course_then : Course
  course_then = course_after c turns t x stands.course

  pub itself_then : course_then.threads t
      ≡ stand_after x (run_alone t true (does_first c turns (stands.course.threads t) x) stands.course.shared).0
      (stands.course.threads t)
  itself_then = at_number_self stands.course.threads t (stand_after x (run_alone t true
      (does_first c turns (stands.course.threads t) x) stands.course.shared).0 (stands.course.threads t))

  pub others_then : (v : ℕ) → (v ≡ t → ⊥) → course_then.threads v ≡ stands.course.threads v
  others_then v other = ap (λ b. cond b (stand_after x (run_alone t true
      (does_first c turns (stands.course.threads t) x) stands.course.shared).0 (stands.course.threads t))
      (stands.course.threads v)) (eq_other t v (λ e. other (sym e)))

  -- the machine then
  pub first_done : stands.gone t ≡ false → (m' : Machine (List ℕ)) (busy : Option ℕ)
      → MayBeFirst stands.news (manner_of x) → IsReady stands.course t (manner_of x)
      → m'.programs t ≡ goes_from c turns (course_then.threads t) xs
      → ((v : ℕ) → (v ≡ t → ⊥) → m'.programs v ≡ m.programs v)
      → m'.shared.board ≡ course_then.shared.board → Begin m.shared.owners m'.shared.owners
      → ((n : List ℕ) (w : ℕ) → word_under course_then.shared.board n ≡ Some w
      → (news_after t (manner_of x) stands.news).is_spoken n ≡ true)
      → Now c turns stands.gone left_to_do course_then m' busy
      → ((v : ℕ) → (busy ≡ Some v → ⊥) → (v ≡ t → ⊥) → stands.busy ≡ Some v → ⊥)
      → (then : IsStanding c turns end m') × (then.todo ≡ left_to_do)
  first_done here m' busy may ready goes others board owners posted now free = (
    record {
      gone = stands.gone;
      todo = left_to_do;
      news = news_after t (manner_of x) stands.news;
      course = course_then;
      busy = busy;
      of_threads = all_without (λ y. y.0 < c.threads) first.pre first.post (t, x)
          (subst (AllByRecursion (λ y. y.0 < c.threads)) first.is stands.of_threads);
      ordered = ordered_without c.threads stands.news t x first.pre first.post ordered_so first.none may;
      good = good_after c turns t x stands.course stands.good;
      leads = same_through (course_of c turns left_to_do course_then) (course_of c turns stands.todo stands.course) end
          (subst (λ row. SameCourse (course_of c turns left_to_do course_then) (course_of c turns row stands.course))
          (sym first.is) (same_back (course_of c turns (first.pre ++ (t, x) ∷ first.post) stands.course)
          (course_of c turns left_to_do course_then) (moved_first c turns c.threads stands.news t x first.pre first.post
          stands.course stands.good ordered_so first.none ready))) stands.leads;
      board = board;
      posted = posted;
      heard = λ v n w is. heard v n w is;
      now = now;
      goes = λ v less there idle. going v less there idle;
      gone_by = stands.gone_by;
      ends = λ v gone. ending v gone;
    },
    refl,
  )
    where
      heard : (v : ℕ) (n : List ℕ) (w : ℕ) → word_under (course_then.threads v).words n ≡ Some w
          → (news_after t (manner_of x) stands.news).is_spoken n ≡ true
      heard v n w is = go (cases_eq v t)
        where
          at_stand : ThreadStand → Type 0
          at_stand p = word_under p.words n ≡ Some w

          go : (v ≡ t) ⊎ (v ≡ t → ⊥) → (news_after t (manner_of x) stands.news).is_spoken n ≡ true
          go (inl same) = heard_by c turns t x stands.news (stands.course.threads t) (run_alone t true
              (does_first c turns (stands.course.threads t) x) stands.course.shared).0 (stands.heard t) n w
              (subst at_stand (ap course_then.threads same ∙ itself_then) is)
          go (inr other) = spoken_on stands.news t (manner_of x) n
              (stands.heard v n w (subst at_stand (others_then v other) is))

      going : (v : ℕ) → v < c.threads → stands.gone v ≡ false → (busy ≡ Some v → ⊥)
          → m'.programs v ≡ goes_from c turns (course_then.threads v) (done_by left_to_do v)
      going v less there idle = go (cases_eq v t)
        where
          go : (v ≡ t) ⊎ (v ≡ t → ⊥) → m'.programs v ≡ goes_from c turns (course_then.threads v) (done_by left_to_do v)
          go (inl same) = subst
              (λ u. m'.programs u ≡ goes_from c turns (course_then.threads u) (done_by left_to_do u)) (sym same)
              (goes ∙ ap (goes_from c turns (course_then.threads t)) (sym first.rest))
          go (inr other) = others v other ∙ stands.goes v less there (free v idle other)
              ∙ sym (λ i. goes_from c turns (others_then v other i) (first.others v other i))

      ending : (v : ℕ) → stands.gone v ≡ true → (done_by left_to_do v ≡ [])
          × IsEnding v (course_then.threads v).text m'.shared.owners (m'.programs v)
      ending v gone = go (cases_eq v t)
        where
          go : (v ≡ t) ⊎ (v ≡ t → ⊥) → (done_by left_to_do v ≡ [])
              × IsEnding v (course_then.threads v).text m'.shared.owners (m'.programs v)
          go (inl same) = absurd (true≢false (sym gone ∙ ap stands.gone same ∙ here))
          go (inr other) = (
            first.others v other ∙ (stands.ends v gone).0,
            subst (IsEnding v (course_then.threads v).text m'.shared.owners) (sym (others v other))
                (subst (λ (p : ThreadStand). IsEnding v p.text m'.shared.owners (m.programs v))
                (sym (others_then v other))
                (ending_on v (stands.course.threads v).text m.shared.owners m'.shared.owners (m.programs v) owners
                (stands.ends v gone).1)),
          )
