-- In a whole run no handle is given beyond the last serial, where fewer commands give up references than there are
-- serials. Its last lines tell of what was born.
use Rattle.std.proofs.Common.{◌≡◌, ⊎_elim, ◌≤◌, ◌<◌, ◌+◌, ◌==◌, ℕ, zero, suc, Bool, true, false, cond, Option, List, []}
use Rattle.std.proofs.Common.{◌∷◌, ◌++◌, length, slice_index, refl, sym, ap, subst, ◌∙◌, arith}
use Rattle.std.proofs.lemmas.Bool.{cases_lt}
use Rattle.jr_word.specs.declared.config.Config.{Config}
use Rattle.jr_word.specs.declared.handle.RefKind.TheVariants.{Global, Weak}
use Rattle.jr_model.specs.declared.summary.Summary.{Summary}
use Rattle.jr_model.specs.Frames.{stored_at}
use Rattle.jr_model.specs.State.{State, opening, summary}
use Rattle.jr_model.specs.Steps.{after}
use Rattle.jr_model.specs.History.{History, IsLegal, IsLegalFrom, PassView, mine, state}
use Rattle.jr_model.proofs.Agreement.{stored_append}
use Rattle.jr_model.proofs.Updates.{eq_false, eq_other, eq_self, eq_true}
use Rattle.jr_gate.specs.Performing.{ThreadState}
use Rattle.jr_world.specs.World.{how_many}
use Rattle.jr_world.specs.Births.{births}
use Rattle.jr_world.specs.Fullness.{deleted_by, deletions}
use Rattle.jr_world.proofs.Births.{worlds_are_so}
use Rattle.jr_world.proofs.Fullness.Counting.{both_long}
use Rattle.jr_world.proofs.StandingBirths.{standing_present}
use Rattle.jr_syntax.specs.declared.command.Command.{Command}
use Rattle.jr_syntax.specs.declared.script.Script.{Script}
use Rattle.jr_syntax.specs.declared.thread.ThreadPart.{ThreadPart}
use Rattle.jr_scripts.specs.Explains.{Explains, nothing, then}
use Rattle.jr_scripts.specs.Together.{summary_of}
use Rattle.jr_scripts.specs.Commands.{gives_up}
use Rattle.jr_scripts.specs.Places.{Place}
use Rattle.jr_scripts.specs.PostedNames.{commands_of}
use Rattle.jr_scripts.specs.Posting.{Speech, ThreadWords, said}
use Rattle.jr_scripts.specs.AllRuns.{ArePartsOf, IsPartOf, closing_acts, opening_of}
use Rattle.jr_scripts.proofs.TogetherRun.Moments.{Counts, HasLeft, IsPass, Settles, deleted_in, times}
use Rattle.jr_scripts.proofs.TogetherRun.Lists.{given_up_more, how_many_both, none_given}
use Rattle.jr_scripts.proofs.TogetherRun.PlayedDeeds.{own_acts, pass_later}
use Rattle.jr_scripts.proofs.TogetherRun.ProgramsCount.{both_settle, many_deleted}
use Rattle.jr_scripts.proofs.TogetherRun.SerialsLeft.{command_counts, freed_counts, levels_count}
use Rattle.jr_scripts.proofs.TogetherRun.KindsBorn.{kind_is_born}
use Rattle.jr_scripts.proofs.TogetherRun.PartsRun.{IsRunOfParts}
use Rattle.jr_scripts.proofs.TogetherRun.PlayedTexts.{world_born}

-- A THREAD at a moment: references may be given up k times yet, and were so n times at the most
record IsCounted (c : Config) (last t k n : ℕ) (m : ThreadState) : Type 0 where
  pass : IsPass c last t m.pass
  given : (p : ℕ) → slice_index m.frames.given p ≡ stored_at p (mine m.pass.seen t)
  left : HasLeft last k m.frames
  deletes : length (deleted_in (mine m.pass.seen t)) ≤ n
  settles : Settles (mine m.pass.seen t)

module _ (c : Config) (last t : ℕ) where
  -- what a deed counts
  counted_later : (k n m : ℕ) (old new : ThreadState) → IsCounted c last t (n + k) m old → Counts last n old new
      → IsCounted c last t k (m + n) new
  counted_later k n m old new was counts =
      let own = own_acts counts.acts was.pass counts.did in
      record {
        pass = pass_later counts.acts counts.did was.pass;
        given = λ p. counts.given p ∙ (ap (λ x. x + stored_at p counts.acts) (was.given p)
            ∙ sym (ap (stored_at p) own ∙ stored_append p (mine old.pass.seen t) counts.acts));
        left = counts.left k was.left;
        deletes =
            let few = was.deletes in
            let more = counts.deletes in
            let both = ap (λ acts. length (deleted_in acts)) own ∙ many_deleted (mine old.pass.seen t) counts.acts in
            omega (arith, few, more, both);
        settles = subst Settles (sym own)
            (both_settle (mine old.pass.seen t) counts.acts was.settles counts.settles);
      }

  -- WHAT COMMANDS COUNT
  commands_counted : (speech : Speech) (turns first k : ℕ) (commands : List Command) (text : List ℕ) (new : ThreadState)
      (place : Place) (words : ThreadWords) → how_many gives_up commands + k ≤ last
      → Explains speech turns first (opening_of c last t) commands text new place words
      → IsCounted c last t k (how_many gives_up commands) new
  commands_counted speech turns first k commands text new place words few nothing = record {
    pass = record { config = refl; last_is = refl; thread = refl; legal = tt };
    given = λ p. none_given c.locals p;
    left = record {
      some_frame = omega arith;
      free = λ p free. (let zero = none_given c.locals p in omega (arith, zero, few));
      all = λ p. (let zero = none_given c.locals p in omega (arith, zero, few));
    };
    deletes = omega arith;
    settles = λ r out. out;
  }
  commands_counted speech turns first k commands text new place words few
      (then {before = before} {text = lines} {mid = mid} {place = stood} {words = had} x answer done did spoken) =
      let more = given_up_more before x in
      let was = commands_counted speech turns first (times (gives_up x) + k) before lines mid stood had
      (omega (arith, few, more)) done in
      let counts = command_counts c last t turns stood x mid new answer was.pass did in
      subst (λ n. IsCounted c last t k n new) (sym more)
      (counted_later k (times (gives_up x)) (how_many gives_up before) mid new was counts)

-- the look as the room closes stores and deletes nothing
closing_stores : (t p : ℕ) → stored_at p (closing_acts t) ≡ 0
closing_stores zero p = refl
closing_stores (suc t) p = refl

closing_deletes : (t : ℕ) → length (deleted_in (closing_acts t)) ≡ 0
closing_deletes zero = refl
closing_deletes (suc t) = refl

closing_settles : (t : ℕ) → Settles (closing_acts t)
closing_settles zero r out = out
closing_settles (suc t) r out = out

-- SUMS over so many threads, from one on
abbrev sum_from : ℕ → ℕ → (ℕ → ℕ) → ℕ
sum_from t zero f = 0
sum_from t (suc n) f = f t + sum_from (suc t) n f

sum_most : (t n : ℕ) (f g : ℕ → ℕ) → ((u : ℕ) → f u ≤ g u) → sum_from t n f ≤ sum_from t n g
sum_most t zero f g most = omega arith
sum_most t (suc n) f g most =
    let here = most t in let rest = sum_most (suc t) n f g most in omega (arith, here, rest)

-- where one of them is greater, so is the sum
sum_more : (t n u x : ℕ) (f g : ℕ → ℕ) → t ≤ u → u < t + n → x + f u ≤ g u → ((v : ℕ) → f v ≤ g v)
    → x + sum_from t n f ≤ sum_from t n g
sum_more t zero u x f g least most more all = absurd (omega arith)
sum_more t (suc n) u x f g least most more all =
    go (t == u) refl (λ later. sum_more (suc t) n u x f g later (omega arith) more all)
  where
    go : (b : Bool) → (t == u) ≡ b → (suc t ≤ u → x + sum_from (suc t) n f ≤ sum_from (suc t) n g)
        → x + (f t + sum_from (suc t) n f) ≤ g t + sum_from (suc t) n g
    go true is rest =
        let here = subst (λ v. x + f v ≤ g v) (sym (eq_true t u is)) more in
        let others = sum_most (suc t) n f g all in
        omega (arith, here, others)
    go false is rest =
        let apart = eq_false t u is in
        let here = all t in
        let later = rest (omega (arith, apart, least)) in
        omega (arith, here, later)

-- how many references the thread deleted
deleted_by_thread : History → ℕ → ℕ
deleted_by_thread es t = length (deleted_in (mine es t))

module _ (c : Config) (last : ℕ) where
  -- ALL DELETIONS are those of the room's threads
  deleted_by_threads : (s : State) (es : History) → IsLegalFrom c last s es
      → length (deletions es) ≤ sum_from 0 c.threads (deleted_by_thread es)
  unfolding deleted_by_thread
  deleted_by_threads s [] l = omega arith
  deleted_by_threads s (e ∷ es) l =
      let rest = deleted_by_threads (after s e) es l.1 in
      let both = both_long (deleted_by e.act) (deletions es) in
      let more = sum_more 0 c.threads e.thread (length (deleted_by e.act)) (deleted_by_thread es)
      (deleted_by_thread (e ∷ es)) (omega arith) (let small = l.0.0 in omega (arith, small)) own
      (λ v. other (e.thread == v) v) in
      omega (arith, rest, both, more)
    where
      own : length (deleted_by e.act) + length (deleted_in (mine es e.thread))
          ≤ length (deleted_in (cond (e.thread == e.thread) (e.act ∷ mine es e.thread) (mine es e.thread)))
      own =
          let here : length (deleted_in (cond (e.thread == e.thread) (e.act ∷ mine es e.thread) (mine es e.thread)))
          ≡ length (deleted_by e.act ++ deleted_in (mine es e.thread))
          = ap (λ b. length (deleted_in (cond b (e.act ∷ mine es e.thread) (mine es e.thread)))) (eq_self e.thread) in
          let both = both_long (deleted_by e.act) (deleted_in (mine es e.thread)) in
          omega (arith, here, both)

      other : (b : Bool) (v : ℕ) → length (deleted_in (mine es v))
          ≤ length (deleted_in (cond b (e.act ∷ mine es v) (mine es v)))
      other true v =
          let both = both_long (deleted_by e.act) (deleted_in (mine es v)) in omega (arith, both)
      other false v = omega arith

  -- no other thread does anything
  others_do_nothing : (s : State) (es : History) (u : ℕ) → IsLegalFrom c last s es → c.threads ≤ u → mine es u ≡ []
  others_do_nothing s [] u l beyond = refl
  others_do_nothing s (e ∷ es) u l beyond =
      ap (λ b. cond b (e.act ∷ mine es u) (mine es u))
      (eq_other e.thread u (λ same. let small = l.0.0 in absurd (omega (arith, same, small, beyond))))
      ∙ others_do_nothing (after s e) es u l.1 beyond

module _ (board : List ℕ → Option (ℕ × History)) (rank : List ℕ → ℕ) (turns last : ℕ) (c : Config)
    (whole : History) where
  -- A THREAD of the whole
  record IsThreadOf (t n : ℕ) : Type 0 where
    puts : (p : ℕ) → stored_at p (mine whole t) ≤ suc last
    deletes : deleted_by_thread whole t ≤ n
    settles : Settles (mine whole t)

  part_counts : (t first : ℕ) (part : ThreadPart) (lines : List ℕ) → how_many gives_up part.commands ≤ last
      → IsPartOf board rank turns last c whole t first part lines → IsThreadOf t (how_many gives_up part.commands)
  unfolding deleted_by_thread
  part_counts t first part lines few p =
      let n = how_many gives_up part.commands in
      let e = p.explained in
      let done = commands_counted c last t (said board rank) turns first 0 part.commands lines e.done e.place e.words
      (omega (arith, few)) e.explains in
      let told = counted_later c last t 0 0 n e.done p.told done
      (levels_count c last t e.place.objects e.done p.told done.pass e.ended) in
      let freed = freed_counts c last t turns p.told p.left told.pass p.freed in
      let by_commands = mine p.told.pass.seen t in
      let own : mine p.seen t ≡ by_commands ++ freed.0
      = subst (λ (v : PassView). mine v.seen t ≡ by_commands ++ freed.0) p.saw (own_acts freed.0 told.pass freed.1) in
      record {
        puts = λ q. (
            let all : slice_index p.told.frames.given q + 0 ≤ suc last = told.left.all q in
            let none = freed.2 q in
            let commands_given = told.given q in
            let seen : stored_at q (mine p.seen t) ≡ stored_at q by_commands + stored_at q freed.0
            = ap (stored_at q) own ∙ stored_append q by_commands freed.0 in
            let end : stored_at q (mine whole t) ≡ stored_at q (mine p.seen t) + stored_at q (closing_acts t)
            = ap (stored_at q) p.own ∙ stored_append q (mine p.seen t) (closing_acts t) in
            let closing = closing_stores t q in
            omega (arith, all, none, commands_given, seen, end, closing)
            );
        deletes =
            let few_told : length (deleted_in by_commands) ≤ n + 0 = told.deletes in
            let freed_none : length (deleted_in freed.0) ≡ 0 = freed.3 in
            let seen : length (deleted_in (mine p.seen t))
            ≡ length (deleted_in by_commands) + length (deleted_in freed.0)
            = ap (λ acts. length (deleted_in acts)) own ∙ many_deleted by_commands freed.0 in
            let end : length (deleted_in (mine whole t))
            ≡ length (deleted_in (mine p.seen t)) + length (deleted_in (closing_acts t))
            = ap (λ acts. length (deleted_in acts)) p.own ∙ many_deleted (mine p.seen t) (closing_acts t) in
            let closing = closing_deletes t in
            omega (arith, few_told, freed_none, seen, end, closing);
        settles = subst Settles (sym p.own) (both_settle (mine p.seen t) (closing_acts t)
            (subst Settles (sym own) (both_settle by_commands freed.0 told.settles freed.4)) (closing_settles t));
      }

  -- THE THREADS from t on
  parts_puts : (t line : ℕ) (parts : List ThreadPart) (lines : List (List ℕ))
      → how_many gives_up (commands_of parts) ≤ last
      → ArePartsOf board rank turns last c whole t line parts lines → (u p : ℕ) → t ≤ u → u < t + length parts
      → stored_at p (mine whole u) ≤ suc last
  parts_puts t line [] lines few parts u p least most = absurd (omega arith)
  parts_puts t line (part ∷ parts) [] few are u p least most = absurd are
  parts_puts t line (part ∷ parts) (l ∷ lines) few are u p least most =
      go (t == u) refl (λ later. parts_puts (suc t) (line + 1 + length part.commands) parts lines
      (omega (arith, few, both)) are.1 u p later (omega arith))
    where
      both : how_many gives_up (part.commands ++ commands_of parts)
          ≡ how_many gives_up part.commands + how_many gives_up (commands_of parts)
      both = how_many_both gives_up part.commands (commands_of parts)

      go : (b : Bool) → (t == u) ≡ b → (suc t ≤ u → stored_at p (mine whole u) ≤ suc last)
          → stored_at p (mine whole u) ≤ suc last
      go true is rest = subst (λ v. stored_at p (mine whole v) ≤ suc last) (eq_true t u is)
          ((part_counts t (line + 1) part l (let sum = both in omega (arith, few, sum)) are.0).puts p)
      go false is rest = let apart = eq_false t u is in rest (omega (arith, apart, least))

  parts_settle : (t line : ℕ) (parts : List ThreadPart) (lines : List (List ℕ))
      → how_many gives_up (commands_of parts) ≤ last
      → ArePartsOf board rank turns last c whole t line parts lines → (u : ℕ) → t ≤ u → u < t + length parts
      → Settles (mine whole u)
  parts_settle t line [] lines few parts u least most = absurd (omega arith)
  parts_settle t line (part ∷ parts) [] few are u least most = absurd are
  parts_settle t line (part ∷ parts) (l ∷ lines) few are u least most =
      go (t == u) refl (λ later. parts_settle (suc t) (line + 1 + length part.commands) parts lines
      (omega (arith, few, both)) are.1 u later (omega arith))
    where
      both : how_many gives_up (part.commands ++ commands_of parts)
          ≡ how_many gives_up part.commands + how_many gives_up (commands_of parts)
      both = how_many_both gives_up part.commands (commands_of parts)

      go : (b : Bool) → (t == u) ≡ b → (suc t ≤ u → Settles (mine whole u)) → Settles (mine whole u)
      go true is rest = subst (λ v. Settles (mine whole v)) (eq_true t u is)
          (part_counts t (line + 1) part l (let sum = both in omega (arith, few, sum)) are.0).settles
      go false is rest = let apart = eq_false t u is in rest (omega (arith, apart, least))

  parts_delete : (t line : ℕ) (parts : List ThreadPart) (lines : List (List ℕ))
      → how_many gives_up (commands_of parts) ≤ last
      → ArePartsOf board rank turns last c whole t line parts lines
      → sum_from t (length parts) (deleted_by_thread whole) ≤ how_many gives_up (commands_of parts)
  parts_delete t line [] lines few are = omega arith
  parts_delete t line (part ∷ parts) [] few are = absurd are
  parts_delete t line (part ∷ parts) (l ∷ lines) few are =
      let both = how_many_both gives_up part.commands (commands_of parts) in
      let here = (part_counts t (line + 1) part l (omega (arith, few, both)) are.0).deletes in
      let rest = parts_delete (suc t) (line + 1 + length part.commands) parts lines (omega (arith, few, both))
      are.1 in
      omega (arith, both, here, rest)

module _ (turns last : ℕ) (s : Script) (text : List ℕ) (run : IsRunOfParts turns last s text)
    (few : how_many gives_up (commands_of s.threads) ≤ last) where
  pub few_deletions : length (deletions run.whole) ≤ last
  few_deletions =
      let all = deleted_by_threads s.config last opening run.whole run.legal in
      let each = parts_delete run.board run.rank turns last s.config run.whole 0 2 s.threads run.lines few
      run.parts in
      let most = subst (λ n. length (deletions run.whole) ≤ sum_from 0 n (deleted_by_thread run.whole))
      (sym run.one_each) all in
      omega (arith, each, most, few)

  pub few_puts : (u p : ℕ) → stored_at p (mine run.whole u) ≤ suc last
  few_puts u p = ⊎_elim within beyond (cases_lt u s.config.threads)
    where
      within : u < s.config.threads → stored_at p (mine run.whole u) ≤ suc last
      within small = parts_puts run.board run.rank turns last s.config run.whole 0 2 s.threads run.lines few
          run.parts u p (omega arith) (let long = run.one_each in omega (arith, small, long))

      beyond : s.config.threads ≤ u → stored_at p (mine run.whole u) ≤ suc last
      beyond large = subst (λ acts. stored_at p acts ≤ suc last)
          (sym (others_do_nothing s.config last opening run.whole u run.legal large)) (omega arith)

  -- no thread still collects behind its acts
  pub nobody_collects : (u : ℕ) → Settles (mine run.whole u)
  nobody_collects u = ⊎_elim within beyond (cases_lt u s.config.threads)
    where
      within : u < s.config.threads → Settles (mine run.whole u)
      within small = parts_settle run.board run.rank turns last s.config run.whole 0 2 s.threads run.lines few
          run.parts u (omega arith) (let long = run.one_each in omega (arith, small, long))

      beyond : s.config.threads ≤ u → Settles (mine run.whole u)
      beyond large = subst Settles
          (sym (others_do_nothing s.config last opening run.whole u run.legal large)) (λ r out. out)

-- THE LAST LINES tell of what was born
pub summary_is : (c : Config) (last : ℕ) (es : History) → IsLegal c last es
    → summary c last (state es) ≡ summary_of (world_born (births es))
summary_is c last es l =
    let a = worlds_are_so c last es l in
    alike _ _ _ _ _ _ _ _ (kind_is_born c last Global es refl l) (kind_is_born c last Weak es refl l)
    (sym (standing_present c last es l a)) a.used
  where
    alike : (g w l u g' w' l' u' : ℕ) → g ≡ g' → w ≡ w' → l ≡ l' → u ≡ u'
        → ◌≡◌ {A = Summary} (record { globals = g; weaks = w; live = l; used = u })
        (record { globals = g'; weaks = w'; live = l'; used = u' })
    alike g w l u g' w' l' u' a b x y = cc
