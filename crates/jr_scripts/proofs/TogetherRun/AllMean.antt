-- THE TEXT OF A RUN of several threads is what its script means.
use Rattle.std.proofs.Common.{◌≡◌, ◌≤◌, ◌<◌, ◌+◌, ◌==◌, ◌⊎◌, inl, inr, ℕ, zero, suc, Bool, true, false, cond, Option}
use Rattle.std.proofs.Common.{Some, None, Ok, List, [], ◌∷◌, ◌++◌, length, slice_index_or, Contains}
use Rattle.std.proofs.Common.{refl, sym, ap, subst, ◌∙◌, arith}
use Rattle.std.proofs.lemmas.List.Elements.{Contains-append_cases}
use Rattle.jr_word.specs.declared.config.Config.{Config}
use Rattle.jr_word.specs.Config.{IsLimited}
use Rattle.jr_word.proofs.Limits.{limited}
use Rattle.jr_model.specs.declared.event.Act.{Act}
use Rattle.jr_model.specs.Frames.{Frames, fresh_frames}
use Rattle.jr_model.specs.State.{Handle, State, opening}
use Rattle.jr_model.specs.Steps.{after}
use Rattle.jr_model.specs.History.{History, IsLegalFrom}
use Rattle.jr_model.proofs.Updates.{eq_true}
use Rattle.jr_world.specs.World.{Ref, how_many}
use Rattle.jr_world.specs.Births.{births}
use Rattle.jr_world.specs.Plays.{Plays}
use Rattle.jr_world.proofs.Births.BornLists.{some_same}
use Rattle.jr_world.specs.Schedules.{pairs}
use Rattle.one_order.specs.Orders.{BoardOf, Item, NamedWords, Story, done_by}
use Rattle.one_order.specs.Orders.Item.{posts as posting}
use Rattle.jr_syntax.specs.declared.command.Command.TheVariants as commands
use Rattle.jr_syntax.specs.declared.verb.OnName.TheVariants as on_name
use Rattle.jr_syntax.specs.declared.script.Script.{Script}
use Rattle.jr_syntax.specs.declared.thread.ThreadPart.{ThreadPart}
use Rattle.jr_scripts.specs.Commands.{gives_up}
use Rattle.jr_scripts.specs.PostedNames.{IsPosted, commands_of}
use Rattle.jr_scripts.specs.Text.{ending, text_of_parts}
use Rattle.jr_scripts.specs.Together.{thread_of}
use Rattle.jr_scripts.specs.AllRuns.{ArePartsOf, IsRunOfAll, MeansAll}
use Rattle.jr_scripts.proofs.TogetherRun.Moments.{Room}
use Rattle.jr_scripts.proofs.TogetherRun.Lists.{how_many_both}
use Rattle.jr_scripts.proofs.TogetherRun.HandedOn.{told_board, told_of_board}
use Rattle.jr_scripts.proofs.TogetherRun.PartsRun.{IsRunOfParts, parts_of_all}
use Rattle.jr_scripts.proofs.TogetherRun.PlayedTexts.{played_means}
use Rattle.jr_scripts.proofs.TogetherRun.WholeCounts.{few_deletions, few_puts, nobody_collects, summary_is}
use Rattle.jr_scripts.proofs.TogetherRun.SettledEnds.{settled_end}
use Rattle.jr_scripts.proofs.TogetherRun.Texts.{PartPlays, part_plays}

-- nobody else acts in a room
only_threads : (c : Config) (last : ℕ) (s : State) (es : History) → IsLegalFrom c last s es → (t : ℕ) → c.threads ≤ t
    → done_by (pairs es) t ≡ []
only_threads c last s [] legal t big = refl
only_threads c last s (e ∷ es) legal t big =
    go (e.thread == t) refl (only_threads c last (after s e) es legal.1 t big)
  where
    go : (b : Bool) → (e.thread == t) ≡ b → done_by (pairs es) t ≡ []
        → cond b (e.act ∷ done_by (pairs es) t) (done_by (pairs es) t) ≡ []
    go true is rest = let same = eq_true e.thread t is in let less = legal.0.0 in absurd (omega arith)
    go false is rest = rest

-- a name that the board has is one of the run's
on_board : (refs : List (Handle × Option Ref)) (o : Option (ℕ × History)) (x : ℕ × List (ℕ × Act))
    → told_of_board refs o ≡ Some x → (y : ℕ × History) × (o ≡ Some y)
on_board refs None x is = absurd cc
on_board refs (Some y) x is = (y, refl)

same_word : {A : Type 0} (x y : ℕ × A) → ◌≡◌ {A = Option (ℕ × A)} (Some x) (Some y) → x.0 ≡ y.0
same_word x y is = ap (λ z. z.0) (some_same x y is)

module _ (r : Room) (turns : ℕ) (board : List ℕ → Option (ℕ × History)) (rank : List ℕ → ℕ) where
  abbrev Told : BoardOf Act
  Told = told_board (births r.whole).refs board

  -- WHAT CAME OF ALL PARTS from thread t on
  record Gathered (t line : ℕ) (parts : List ThreadPart) (lines : List (List ℕ)) : Type 0 where
    pub stories : List (List (Item Act))
    pub many : length stories ≡ length parts
    pub each : length lines ≡ length parts
    pub told : (i : ℕ) → i < length stories
        → (words : NamedWords) × Story Told rank (t + i) (slice_index_or stories i []) (pairs r.whole) words
    pub posts : (n : List ℕ) → IsPosted (commands_of parts) n → (i w : ℕ) × (seen : List (ℕ × Act))
        × (Told n ≡ Some (w, seen)) × Contains (slice_index_or stories i []) (posting n w)
    pub left : ℕ → Frames
    pub plays : (i : ℕ) → i < length parts
        → Plays r.config r.whole (t + i) (λ later answer. answer ≡ Ok (slice_index_or lines i [])) (left i) []
        (thread_of r.config turns line parts i) [] (fresh_frames r.config.locals) (slice_index_or stories i [])

  no_parts : (t line : ℕ) → Gathered t line [] []
  no_parts t line = record {
    stories = [];
    many = refl;
    each = refl;
    told = λ i less. absurd (omega arith);
    posts = λ n has. absurd (let less = has.1 in omega arith);
    left = λ i. fresh_frames r.config.locals;
    plays = λ i less. absurd (omega arith);
  }

  -- one part more, before the others
  part_more : (t line : ℕ) (p : ThreadPart) (ps : List ThreadPart) (l : List ℕ) (ls : List (List ℕ)) (small : t <
      r.config.threads)
      → PartPlays r t small turns board rank (line + 1) p l → Gathered (suc t) (line + 1 + length p.commands) ps ls
      → Gathered t line (p ∷ ps) (l ∷ ls)
  part_more t line p ps l ls small one rest = record {
    stories = one.items ∷ rest.stories;
    many = ap suc rest.many;
    each = ap suc rest.each;
    told = told;
    posts = posts;
    left = left;
    plays = plays;
  }
    where
      stories : List (List (Item Act))
      stories = one.items ∷ rest.stories

      told : (i : ℕ) → i < length stories
          → (words : NamedWords) × Story Told rank (t + i) (slice_index_or stories i []) (pairs r.whole) words
      told zero less = (
        one.words,
        subst (λ u. Story Told rank u one.items (pairs r.whole) one.words) (omega arith)
            one.story,
      )
      told (suc i) less =
          let x = rest.told i (omega arith) in
          (x.0, subst (λ u. Story Told rank u (slice_index_or rest.stories i []) (pairs r.whole) x.0) (omega arith) x.1)

      posts : (n : List ℕ) → IsPosted (p.commands ++ commands_of ps) n → (i w : ℕ) × (seen : List (ℕ × Act))
          × (Told n ≡ Some (w, seen)) × Contains (slice_index_or stories i []) (posting n w)
      posts n has = go (Contains-append_cases p.commands (commands_of ps) (commands.OnName on_name.Post n) has)
        where
          go : IsPosted p.commands n ⊎ IsPosted (commands_of ps) n → (i w : ℕ) × (seen : List (ℕ × Act))
              × (Told n ≡ Some (w, seen)) × Contains (slice_index_or stories i []) (posting n w)
          go (inl here) = let x = one.posts n here in (0, x.0, x.1, x.2, x.3)
          go (inr there) = let x = rest.posts n there in (suc x.0, x.1, x.2, x.3, x.4)

      left : ℕ → Frames
      left zero = one.left
      left (suc i) = rest.left i

      plays : (i : ℕ) → i < length (p ∷ ps)
          → Plays r.config r.whole (t + i) (λ later answer. answer ≡ Ok (slice_index_or (l ∷ ls) i [])) (left i) []
          (thread_of r.config turns line (p ∷ ps) i) [] (fresh_frames r.config.locals) (slice_index_or stories i [])
      plays zero less = subst (λ u. Plays r.config r.whole u (λ later answer. answer ≡ Ok l) one.left []
          (thread_of r.config turns line (p ∷ ps) 0) [] (fresh_frames r.config.locals) one.items) (omega arith)
          one.plays
      plays (suc i) less = subst (λ u. Plays r.config r.whole u
          (λ later answer. answer ≡ Ok (slice_index_or ls i [])) (rest.left i) []
          (thread_of r.config turns (line + 1 + length p.commands) ps i) [] (fresh_frames r.config.locals)
          (slice_index_or rest.stories i [])) (omega arith) (rest.plays i (omega arith))

  gathered : (t line : ℕ) (parts : List ThreadPart) (lines : List (List ℕ))
      → ArePartsOf board rank turns r.last r.config r.whole t line parts lines → t + length parts ≤ r.config.threads
      → how_many gives_up (commands_of parts) ≤ r.last → Gathered t line parts lines
  gathered t line [] [] are all few = no_parts t line
  gathered t line (p ∷ ps) (l ∷ ls) are all few =
      let both = how_many_both gives_up p.commands (commands_of ps) in
      part_more t line p ps l ls (omega arith)
      (part_plays r t (omega arith) turns board rank (line + 1) p l are.0 (omega (arith, both, few)))
      (gathered (suc t) (line + 1 + length p.commands) ps ls are.1 (omega arith) (omega (arith, both, few)))
  gathered t line [] (l ∷ ls) are all few = absurd are
  gathered t line (p ∷ ps) [] are all few = absurd are

module _ (turns last : ℕ) (s : Script) (text : List ℕ) (run : IsRunOfParts turns last s text) where
  pub parts_mean : MeansAll turns last s text
  parts_mean short few = played_means turns s text (record {
    whole = run.whole;
    board = told_board (births run.whole).refs run.board;
    rank = run.rank;
    stories = all.stories;
    right = record {
      told = told;
      no_others = λ t big. only_threads s.config last opening run.whole run.legal t
          (omega (arith, many, big));
      posted = posted;
    };
    many = many;
    some_thread = limits.threads.0;
    lines = run.lines;
    lines_each = all.each;
    left = all.left;
    plays = plays;
    settled = settled_end s.config last run.whole run.legal (nobody_collects turns last s text run few);
    text_is = run.text_is
        ∙ ap (λ x. text_of_parts s.threads run.lines ++ ending x) (summary_is s.config last run.whole run.legal);
  })
    where
      limits : IsLimited s.config
      limits = limited s.config run.limits

      room : Room
      room = record {
        config = s.config;
        last = last;
        whole = run.whole;
        legal = run.legal;
        limits = limits;
        few = short;
        serials = few_deletions turns last s text run few;
        puts = few_puts turns last s text run few;
      }

      one_each : length s.threads ≡ s.config.threads
      one_each = run.one_each

      all : Gathered room turns run.board run.rank 0 2 s.threads run.lines
      all = gathered room turns run.board run.rank 0 2 s.threads run.lines run.parts (omega (arith, one_each)) few

      many : length all.stories ≡ s.config.threads
      many = all.many ∙ one_each

      told : (t : ℕ) → t < length all.stories → (words : NamedWords) × Story (told_board (births run.whole).refs
          run.board) run.rank t (slice_index_or all.stories t []) (pairs run.whole) words
      told t less = subst (λ u. (words : NamedWords) × Story (told_board (births run.whole).refs run.board) run.rank u
          (slice_index_or all.stories t []) (pairs run.whole) words) (omega arith) (all.told t less)

      plays : (t : ℕ) → t < s.config.threads → Plays s.config run.whole t
          (λ later answer. answer ≡ Ok (slice_index_or run.lines t [])) (all.left t) []
          (thread_of s.config turns 2 s.threads t) [] (fresh_frames s.config.locals)
          (slice_index_or all.stories t [])
      plays t less = subst (λ u. Plays s.config run.whole u
          (λ later answer. answer ≡ Ok (slice_index_or run.lines t [])) (all.left t) []
          (thread_of s.config turns 2 s.threads t) [] (fresh_frames s.config.locals)
          (slice_index_or all.stories t [])) (omega arith) (all.plays t (omega (arith, one_each, less)))

      posted : (n : List ℕ) (w : ℕ) (seen : List (ℕ × Act))
          → told_board (births run.whole).refs run.board n ≡ Some (w, seen)
          → (t : ℕ) × Contains (slice_index_or all.stories t []) (posting n w)
      posted n w seen is =
          let has = on_board (births run.whole).refs (run.board n) (w, seen) is in
          let x = all.posts n (run.posted n has.0 has.1) in (
            x.0,
            subst (λ v. Contains (slice_index_or all.stories x.0 []) (posting n v))
                (same_word (x.1, x.2) (w, seen) (sym x.3 ∙ is)) x.4,
          )

pub all_mean : (turns last : ℕ) (s : Script) (text : List ℕ) → IsRunOfAll turns last s text → MeansAll turns last s text
all_mean turns last s text run = parts_mean turns last s text (parts_of_all turns last s text run)
