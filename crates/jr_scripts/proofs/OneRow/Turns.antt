-- A MACHINE STANDS BESIDE ITS ROW after each step, or a text is spoilt.
use Rattle.std.proofs.Common.{◌≡◌, ◌⊎◌, ◌<◌, ◌≤◌, ◌++◌, ℕ, zero, suc, Bool, true, false, cond, Option, Some, None}
use Rattle.std.proofs.Common.{IsSome, List, [], ◌∷◌, length, nat_eq, Result, Ok, Err, inl, inr, refl, sym, ap, subst}
use Rattle.std.proofs.Common.{◌∙◌, arith, true≢false, append-nil, length-append}
use Rattle.std.proofs.lemmas.Bool.{cases_eq}
use Rattle.one_order.specs.Orders.{done_by}
use Rattle.jr_word.specs.declared.config.Config.{Config}
use Rattle.jr_word.specs.declared.fault.Fault.{Fault}
use Rattle.jr_word.specs.declared.fault.Fault.TheVariants as fault
use Rattle.jr_model.specs.Maps.{update}
use Rattle.jr_model.specs.State.{is_barring}
use Rattle.jr_model.proofs.Updates.{at_number_self, eq_other}
use Rattle.jr_world.specs.Board.{word_under}
use Rattle.jr_world.specs.Doing.{Act, Doing, Shared, by_step, run_alone, whatever}
use Rattle.jr_world.specs.Doing.Doing.{ended, steps}
use Rattle.jr_world.specs.Schedules.{Machine, stepped}
use Rattle.jr_syntax.specs.declared.command.Command.{Command}
use Rattle.jr_scripts.specs.declared.reply.Reply.{Reply}
use Rattle.jr_scripts.specs.declared.reply.Reply.TheVariants as replies
use Rattle.jr_scripts.specs.Names.{word_posted}
use Rattle.jr_scripts.specs.Posting.{reply_to_wait}
use Rattle.jr_scripts.specs.Together.{hears_word, posts_word, waits_for}
use Rattle.jr_scripts.specs.OneRow.{Course, Manner, News, CommandRow, ThreadStand, manner_of, news_after, stand_after}
use Rattle.jr_scripts.specs.OneRow.Manner.{acts, apart, collects, posts, waits}
use Rattle.jr_world.proofs.Births.BornLists.{some_same}
use Rattle.jr_rule.proofs.Readings.{none_some}
use Rattle.jr_scripts.proofs.AloneCase.OwnWords.{under_one_more}
use Rattle.jr_scripts.proofs.OneRow.Alike.{begin_itself, Alike, Begin, Kept, alike_back, alike_board, alike_itself}
use Rattle.jr_scripts.proofs.OneRow.Alike.{alike_through, one_more_gone, role_of}
use Rattle.jr_scripts.proofs.OneRow.Ends.{IsEnding, ending_on, ends_so}
use Rattle.jr_scripts.proofs.OneRow.Firsts.{course_then, first, first_done, first_follows, first_led, itself_then}
use Rattle.jr_scripts.proofs.OneRow.Firsts.{said_spoken, left_to_do, ordered_so, others_then, spoken_on}
use Rattle.jr_scripts.proofs.OneRow.Follows.{Gone, LeadsTo, Outcome}
use Rattle.jr_scripts.proofs.OneRow.Rows.{First, MayBeFirst, is_acting, one_acts, others_come}
use Rattle.jr_scripts.proofs.OneRow.Shapes.{apart_is, posts_is, waits_is}
use Rattle.jr_scripts.proofs.OneRow.Spoilt.{EachEnds, IsSpoiltEnd, SpoiltBy, lines_spoilt, spoilt_line, spoilt_stepped}
use Rattle.jr_scripts.proofs.OneRow.Standing.{IsStanding, Midst, Now, beside, does_first, goes_from}
use Rattle.jr_scripts.proofs.OneRow.Standing.Now.{between, within}
use Rattle.jr_scripts.proofs.OneRow.Swaps.{IsReady}

pub acting_may : (k : News) (a : Manner) → is_acting a ≡ true → MayBeFirst k a
acting_may k acts is = tt
acting_may k collects is = tt
acting_may k _ none = absurd cc

acting_ready : (w : Course) (t : ℕ) (a : Manner) → is_acting a ≡ true → IsReady w t a
acting_ready w t acts is = tt
acting_ready w t collects is = tt
acting_ready w t _ none = absurd cc

module _ (c : Config) (turns : ℕ) (end : Course) (m : Machine (List ℕ)) (t : ℕ) (less : t < c.threads) (luck : Bool)
  where
    -- the machine after a step of such a program
    abbrev Comes : Doing (List ℕ) → Type 0
    Comes d = IsStanding c turns end (stepped m t luck d) ⊎ SpoiltBy c.threads (stepped m t luck d)

    comes_spoilt : EachEnds IsSpoiltEnd (m.programs t) → Comes (m.programs t)
    comes_spoilt spoilt =
        inr (spoilt_stepped c.threads t luck m (record { thread = t; is_one = less; spoilt = spoilt }))

    abbrev after_step : (ℕ → Bool → Shared → Doing (List ℕ)) → (ℕ → Bool → Shared → Shared) → Machine (List ℕ)
    after_step more leaves = stepped m t luck (steps more leaves)

    itself : (more : ℕ → Bool → Shared → Doing (List ℕ)) (leaves : ℕ → Bool → Shared → Shared)
        → (after_step more leaves).programs t ≡ more t luck m.shared
    itself more leaves = at_number_self m.programs t (more t luck m.shared)

    other : (more : ℕ → Bool → Shared → Doing (List ℕ)) (leaves : ℕ → Bool → Shared → Shared) (v : ℕ) → (v ≡ t → ⊥)
        → (after_step more leaves).programs v ≡ m.programs v
    other more leaves v unlike =
        ap (λ b. cond b (more t luck m.shared) (m.programs v)) (eq_other t v (λ e. unlike (sym e)))

    module _ (S : IsStanding c turns end m) where
      -- WHERE IT IS AT ITS END
      now_beside : (more : ℕ → Bool → Shared → Doing (List ℕ)) (leaves : ℕ → Bool → Shared → Shared)
          → S.gone t ≡ true → Kept t m.shared (leaves t luck m.shared)
          → ((z : Shared) → Alike S.gone m.shared z → Alike S.gone (leaves t luck m.shared) z) → (busy : Option ℕ)
          → Now c turns S.gone S.todo S.course m busy → Now c turns S.gone S.todo S.course (after_step more leaves) busy
      now_beside more leaves gone kept alike None (between was) = between (alike S.course.shared was)
      now_beside more leaves gone kept alike _ (within u below here M) = within u below here (record {
        command = M.command;
        rest = M.rest;
        is_first = M.is_first;
        is_acting = M.is_acting;
        may = M.may;
        work = M.work;
        stands = M.stands;
        reply = M.reply;
        leaves = M.leaves;
        does = other more leaves u (λ e. true≢false (sym gone ∙ ap S.gone (sym e) ∙ here)) ∙ M.does;
        alike = alike M.stands M.alike;
        others = λ v there unlike.
            kept.roles v (λ e. true≢false (sym gone ∙ ap S.gone (sym e) ∙ there)) ∙ M.others v there unlike;
        leads = M.leads;
        replies = M.replies;
        left = M.left;
      })

      some_alike : (busy : Option ℕ) → Now c turns S.gone S.todo S.course m busy
          → (z : Shared) × Alike S.gone m.shared z
      some_alike None (between was) = (S.course.shared, was)
      some_alike _ (within u below here M) = (M.stands, M.alike)

      pub ending_comes : S.gone t ≡ true → Comes (m.programs t)
      ending_comes gone = go (m.programs t) refl (S.ends t gone).1
        where
          go : (d : Doing (List ℕ)) → m.programs t ≡ d → IsEnding t (S.course.threads t).text m.shared.owners d
              → Comes (m.programs t)
          go (ended r) is so = subst Comes (sym is) (inl S)
          go (steps more leaves) is so = subst Comes (sym is) (inl (record {
            gone = S.gone;
            todo = S.todo;
            news = S.news;
            course = S.course;
            busy = S.busy;
            of_threads = S.of_threads;
            ordered = S.ordered;
            good = S.good;
            leads = S.leads;
            board = kept.board ∙ S.board;
            posted = S.posted;
            heard = S.heard;
            now = now_beside more leaves gone kept
                (λ z was. (so luck S.gone m.shared z gone (begin_itself m.shared.owners) was).0) S.busy S.now;
            goes = λ v less there idle. other more leaves v (λ e. true≢false (sym gone ∙ ap S.gone (sym e) ∙ there))
                ∙ S.goes v less there idle;
            gone_by = S.gone_by;
            ends = λ v there. ending v there (cases_eq v t);
          }))
            where
              one : (z : Shared) × Alike S.gone m.shared z
              one = some_alike S.busy S.now

              kept : Kept t m.shared (leaves t luck m.shared)
              kept = (so luck S.gone m.shared one.0 gone (begin_itself m.shared.owners) one.1).1

              ending : (v : ℕ) → S.gone v ≡ true → (v ≡ t) ⊎ (v ≡ t → ⊥) → (done_by S.todo v ≡ [])
                  × IsEnding v (S.course.threads v).text (leaves t luck m.shared).owners
                  ((after_step more leaves).programs v)
              ending v there (inl same) = subst (λ u. (done_by S.todo u ≡ [])
                  × IsEnding u (S.course.threads u).text (leaves t luck m.shared).owners
                  ((after_step more leaves).programs u)) (sym same) (
                    (S.ends t gone).0,
                    subst (IsEnding t (S.course.threads t).text (leaves t luck m.shared).owners)
                        (sym (itself more leaves)) (ending_on t (S.course.threads t).text m.shared.owners
                        (leaves t luck m.shared).owners (more t luck m.shared) kept.owners
                        (so luck S.gone m.shared one.0 gone (begin_itself m.shared.owners) one.1).2),
                  )
              ending v there (inr unlike) = (
                (S.ends v there).0,
                subst (IsEnding v (S.course.threads v).text (leaves t luck m.shared).owners)
                    (sym (other more leaves v unlike)) (ending_on v (S.course.threads v).text m.shared.owners
                    (leaves t luck m.shared).owners (m.programs v) kept.owners (S.ends v there).1),
              )

      -- WHERE IT IS IN THE MIDDLE of a command, or has just ended it
      module _ (again : (R : IsStanding c turns end m) → length R.todo < length S.todo → Comes (m.programs t)) where
        left_less : (x : Command) (xs : List Command) (is : done_by S.todo t ≡ x ∷ xs)
            → length (left_to_do c turns end m S t x xs is) < length S.todo
        left_less x xs is =
            let f = first c turns end m S t x xs is in
            let whole = ap length f.is ∙ length-append f.pre ((t, x) ∷ f.post) in
            let part = length-append f.pre f.post in
            omega arith

        midst_comes : S.gone t ≡ false → S.busy ≡ Some t → Midst c turns S.gone S.todo S.course m t
            → Comes (m.programs t)
        midst_comes here busy M = go M.work M.does M.leads
          where
            x : Command
            x = M.command

            P : Gone
            P = beside (manner_of x) t

            p : ThreadStand
            p = S.course.threads t

            next : Result Reply Fault → Doing (List ℕ)
            next answer = goes_from c turns (stand_after x answer p) M.rest

            w : Course
            w = course_then c turns end m S t x M.rest M.is_first

            led : ((run_alone t true (does_first c turns p x) S.course.shared).0
                ≡ (run_alone t true (does_first c turns p x) S.course.shared).0)
                × Alike (λ t. false) (run_alone t true (does_first c turns p x) S.course.shared).1
                (run_alone t true (does_first c turns p x) S.course.shared).1
                × Kept t S.course.shared (run_alone t true (does_first c turns p x) S.course.shared).1
            led = first_led c turns t S.course S.good x M.is_acting S.course.shared
                (alike_itself S.course.shared S.good.tidy)

            complete : (q : Result Reply Fault) → q ≡ M.reply → M.stands ≡ M.leaves → m.programs t ≡ next q
                → (then : IsStanding c turns end m) × (then.todo ≡ left_to_do c turns end m S t x M.rest M.is_first)
            complete q same there does = first_done c turns end m S t x M.rest M.is_first here m None
                (acting_may S.news (manner_of x) M.is_acting) (acting_ready S.course t (manner_of x) M.is_acting)
                (does ∙ ap next (same ∙ M.replies)
                ∙ ap (λ s. goes_from c turns s M.rest) (sym (itself_then c turns end m S t x M.rest M.is_first)))
                (λ v unlike. refl) (S.board ∙ sym led.2.board) (begin_itself m.shared.owners)
                (λ n v is. spoken_on S.news t (manner_of x) n
                (S.posted n v (ap (λ b. word_under b n) (sym led.2.board) ∙ is)))
                (between (alike_through S.gone m.shared M.leaves w.shared
                (subst (Alike S.gone m.shared) there M.alike) M.left))
                (λ v idle unlike taken. unlike (sym (some_same t v (sym busy ∙ taken))))

            on : (more : ℕ → Bool → Shared → Doing Reply) (leaves : ℕ → Bool → Shared → Shared) (d : Doing Reply)
                (y : Shared) → more t luck m.shared ≡ d → Alike S.gone (leaves t luck m.shared) y
                → Kept t m.shared (leaves t luck m.shared) → LeadsTo P t (Outcome P t M.reply M.leaves) d y
                → IsStanding c turns end (after_step (λ t luck s. whatever (more t luck s) next) leaves)
            on more leaves d y same alike kept leads = record {
              gone = S.gone;
              todo = S.todo;
              news = S.news;
              course = S.course;
              busy = Some t;
              of_threads = S.of_threads;
              ordered = S.ordered;
              good = S.good;
              leads = S.leads;
              board = kept.board ∙ S.board;
              posted = S.posted;
              heard = S.heard;
              now = within t less here (record {
                command = x;
                rest = M.rest;
                is_first = M.is_first;
                is_acting = M.is_acting;
                may = M.may;
                work = d;
                stands = y;
                reply = M.reply;
                leaves = M.leaves;
                does = itself (λ t luck s. whatever (more t luck s) next) leaves ∙ ap (λ e. whatever e next) same;
                alike = alike;
                others = λ v there unlike. kept.roles v unlike ∙ M.others v there unlike;
                leads = leads;
                replies = M.replies;
                left = M.left;
              });
              goes = λ v less there idle. other (λ t luck s. whatever (more t luck s) next) leaves v
                  (λ e. idle (ap Some (sym e))) ∙ S.goes v less there (λ taken. idle (sym busy ∙ taken));
              gone_by = S.gone_by;
              ends = λ v there. (
                (S.ends v there).0,
                subst (IsEnding v (S.course.threads v).text (leaves t luck m.shared).owners)
                    (sym (other (λ t luck s. whatever (more t luck s) next) leaves v
                    (λ e. true≢false (sym there ∙ ap S.gone e ∙ here)))) (ending_on v (S.course.threads v).text
                    m.shared.owners (leaves t luck m.shared).owners (m.programs v) kept.owners (S.ends v there).1),
              );
            }

            go : (d : Doing Reply) → m.programs t ≡ whatever d next
                → LeadsTo P t (Outcome P t M.reply M.leaves) d M.stands → Comes (m.programs t)
            go (ended q) does (inl both) = let then = complete q both.0 both.1 does in
                again then.0 (subst (λ row. length row < length S.todo) (sym then.1) (left_less x M.rest M.is_first))
            go (ended q) does (inr spoilt) = comes_spoilt (subst (EachEnds IsSpoiltEnd) (sym does)
                (lines_spoilt c turns (stand_after x q p).place (stand_after x q p).words (stand_after x q p).line
                (stand_after x q p).text M.rest (spoilt_line p.line x q p.text spoilt)))
            go (steps more leaves) does (inl both) =
                let one = both.0 luck S.gone m.shared M.may M.alike in
                subst Comes (sym does) (inl (on more leaves (more t true M.stands) (leaves t true M.stands) one.0 one.1
                one.2 both.1))
            go (steps more leaves) does (inr both) =
                let one = (both luck).0 S.gone m.shared M.may M.alike in
                subst Comes (sym does) (inl (on more leaves (more t luck M.stands) (leaves t luck M.stands) one.0 one.1
                one.2 (both luck).1))

    module _ (S : IsStanding c turns end m) where
      -- WHERE ANOTHER IS IN THE MIDDLE of a command, it stays so
      midst_on : (n : Machine (List ℕ)) (todo : CommandRow) (w : Course) (u : ℕ) → done_by todo u ≡ done_by S.todo u
          → w.threads u ≡ S.course.threads u → n.programs u ≡ m.programs u
          → ((z : Shared) → Alike S.gone m.shared z → Alike S.gone n.shared z)
          → ((v : ℕ) → role_of n.shared v ≡ role_of m.shared v)
          → ((v : ℕ) → role_of w.shared v ≡ role_of S.course.shared v) → Alike (λ t. false) w.shared S.course.shared
          → Midst c turns S.gone S.todo S.course m u → Midst c turns S.gone todo w n u
      midst_on n todo w u same_todo same_stand same_program alike roles course_roles same M = record {
        command = M.command;
        rest = M.rest;
        is_first = same_todo ∙ M.is_first;
        is_acting = M.is_acting;
        may = M.may;
        work = M.work;
        stands = M.stands;
        reply = M.reply;
        leaves = M.leaves;
        does = same_program ∙ M.does ∙ sym (ap (λ (p : ThreadStand). whatever M.work
            (λ answer. goes_from c turns (stand_after M.command answer p) M.rest)) same_stand);
        alike = alike M.stands M.alike;
        others = λ v there unlike. roles v ∙ M.others v there unlike ∙ sym (course_roles v);
        leads = M.leads;
        replies = M.replies ∙ sym led.0 ∙ sym (ap (λ (p : ThreadStand). (run_alone u true
            (does_first c turns p M.command) w.shared).0) same_stand);
        left = subst (λ (p : ThreadStand). Alike (λ t. false) M.leaves
            (run_alone u true (does_first c turns p M.command) w.shared).1) (sym same_stand)
            (alike_through (λ t. false) M.leaves
            (run_alone u true (does_first c turns (S.course.threads u) M.command) S.course.shared).1
            (run_alone u true (does_first c turns (S.course.threads u) M.command) w.shared).1 M.left
            (alike_back (run_alone u true (does_first c turns (S.course.threads u) M.command) w.shared).1
            (run_alone u true (does_first c turns (S.course.threads u) M.command) S.course.shared).1 led.1));
      }
        where
          led : ((run_alone u true (does_first c turns (S.course.threads u) M.command) w.shared).0
              ≡ (run_alone u true (does_first c turns (S.course.threads u) M.command) S.course.shared).0)
              × Alike (λ t. false) (run_alone u true (does_first c turns (S.course.threads u) M.command) w.shared).1
              (run_alone u true (does_first c turns (S.course.threads u) M.command) S.course.shared).1
              × Kept u w.shared (run_alone u true (does_first c turns (S.course.threads u) M.command) w.shared).1
          led = first_led c turns u S.course S.good M.command M.is_acting w.shared same

      -- WHERE ITS FIRST COMMAND takes no step of the world: it answers so, and posts these words
      module _ (x : Command) (xs : List Command) (is : done_by S.todo t ≡ x ∷ xs) (here : S.gone t ≡ false)
          (idle : S.busy ≡ Some t → ⊥) where
        abbrev p : ThreadStand
        p = S.course.threads t

        abbrev w : Course
        w = course_then c turns end m S t x xs is

        abbrev with_words : Shared → List (List ℕ × ℕ) → Shared
        with_words s posted = record s { board = s.board ++ posted }

        spoken : (r : Result Reply Fault) (said : List (List ℕ × ℕ)) (n : Machine (List ℕ))
            → run_alone t true (does_first c turns p x) S.course.shared ≡ (r, with_words S.course.shared said)
            → n.shared ≡ with_words m.shared said → n.programs t ≡ goes_from c turns (stand_after x r p) xs
            → ((v : ℕ) → (v ≡ t → ⊥) → n.programs v ≡ m.programs v) → MayBeFirst S.news (manner_of x)
            → IsReady S.course t (manner_of x)
            → ((k : List ℕ) (v : ℕ) → word_under (S.course.shared.board ++ said) k ≡ Some v
            → (news_after t (manner_of x) S.news).is_spoken k ≡ true)
            → (then : IsStanding c turns end n) × (then.todo ≡ left_to_do c turns end m S t x xs is)
        spoken r said n run shared goes others may ready posted = first_done c turns end m S t x xs is here n S.busy may
            ready (goes ∙ sym (ap (λ s. goes_from c turns s xs)
            (itself_then c turns end m S t x xs is ∙ ap (λ q. stand_after x q p) (λ i. (run i).0)))) others
            (ap (λ s. s.board) shared ∙ ap (λ b. b ++ said) S.board ∙ sym (λ i. (run i).1.board))
            (subst (λ s. Begin m.shared.owners s.owners) (sym shared) (begin_itself m.shared.owners))
            (λ k v at. posted k v (sym (λ i. word_under (run i).1.board k) ∙ at)) (now S.busy S.now idle)
            (λ v free unlike. free)
          where
            alike : (z : Shared) → Alike S.gone m.shared z → Alike S.gone n.shared z
            alike z was = subst (λ s. Alike S.gone s z) (sym shared)
                (alike_board S.gone m.shared z (m.shared.board ++ said) z.board was)

            course_alike : (gone : ℕ → Bool) (s : Shared) → Alike gone s S.course.shared → Alike gone s w.shared
            course_alike gone s was = subst (Alike gone s) (sym (λ i. (run i).1))
                (alike_board gone s S.course.shared s.board (S.course.shared.board ++ said) was)

            same : Alike (λ t. false) w.shared S.course.shared
            same = alike_back S.course.shared w.shared (course_alike (λ t. false) S.course.shared
                (alike_itself S.course.shared S.good.tidy))

            now : (busy : Option ℕ) → Now c turns S.gone S.todo S.course m busy → (busy ≡ Some t → ⊥)
                → Now c turns S.gone (left_to_do c turns end m S t x xs is) w n busy
            now _ (between was) idle = between (course_alike S.gone n.shared (alike S.course.shared was))
            now _ (within u below there M) idle = within u below there (midst_on n
                (left_to_do c turns end m S t x xs is) w u ((first c turns end m S t x xs is).others u (unlike u idle))
                (others_then c turns end m S t x xs is u (unlike u idle)) (others u (unlike u idle)) alike
                (λ v. ap (λ s. role_of s v) shared) (λ v i. role_of (run i).1 v) same M)
              where
                unlike : (u : ℕ) → (◌≡◌ {A = Option ℕ} (Some u) (Some t) → ⊥) → u ≡ t → ⊥
                unlike u idle e = idle (ap Some e)

        no_words : (s : Shared) → with_words s [] ≡ s
        no_words s = ap (λ b. record s { board = b }) (append-nil s.board)

        abbrev next : Result Reply Fault → Doing (List ℕ)
        next answer = goes_from c turns (stand_after x answer p) xs

        goes_so : m.programs t ≡ goes_from c turns p (x ∷ xs)
        goes_so = S.goes t less here idle ∙ ap (goes_from c turns p) is

        -- it takes one step
        by_a_step : (act : Act Reply) (r : Result Reply Fault) (said : List (List ℕ × ℕ))
            → does_first c turns p x ≡ by_step act
            → ◌≡◌ {A = Result Reply Fault × Shared} (act t luck m.shared) (r, with_words m.shared said)
            → ◌≡◌ {A = Result Reply Fault × Shared} (act t true S.course.shared) (r, with_words S.course.shared said)
            → MayBeFirst S.news (manner_of x) → IsReady S.course t (manner_of x)
            → ((k : List ℕ) (v : ℕ) → word_under (S.course.shared.board ++ said) k ≡ Some v
            → (news_after t (manner_of x) S.news).is_spoken k ≡ true) → Comes (m.programs t)
        by_a_step act r said so does course_does may ready posted =
            subst Comes (sym (goes_so ∙ ap (λ d. whatever d next) so)) (inl (spoken r said
            (after_step (λ t luck s. next (act t luck s).0) (λ t luck s. (act t luck s).1))
            (ap (λ d. run_alone t true d S.course.shared) so ∙ course_does) (λ i. (does i).1)
            (itself (λ t luck s. next (act t luck s).0) (λ t luck s. (act t luck s).1) ∙ ap next (λ i. (does i).0))
            (other (λ t luck s. next (act t luck s).0) (λ t luck s. (act t luck s).1)) may ready posted).0)

        -- .. in vain
        by_none : (act : Act Reply) → does_first c turns p x ≡ by_step act → (act t luck m.shared).0 ≡ Err fault.Turns
            → Comes (m.programs t)
        by_none act so vain = subst Comes (sym (goes_so ∙ ap (λ d. whatever d next) so)) (inr (record {
          thread = t;
          is_one = less;
          spoilt = subst (EachEnds IsSpoiltEnd) (sym (itself (λ t luck s. next (act t luck s).0)
              (λ t luck s. (act t luck s).1) ∙ ap next vain)) (lines_spoilt c turns
              (stand_after x (Err fault.Turns) p).place (stand_after x (Err fault.Turns) p).words
              (stand_after x (Err fault.Turns) p).line (stand_after x (Err fault.Turns) p).text xs
              (spoilt_line p.line x (Err fault.Turns) p.text (inr refl)));
        }))

        old_words : (k : List ℕ) (v : ℕ) → word_under (S.course.shared.board ++ []) k ≡ Some v
            → (news_after t (manner_of x) S.news).is_spoken k ≡ true
        old_words k v at = spoken_on S.news t (manner_of x) k
            (S.posted k v (sym (ap (λ b. word_under b k) (append-nil S.course.shared.board)) ∙ at))

        module _ (again : (R : IsStanding c turns end m) → length R.todo < length S.todo → Comes (m.programs t)) where
          -- it takes no step
          at_once : (r : Result Reply Fault) → does_first c turns p x ≡ ended r → MayBeFirst S.news (manner_of x)
              → IsReady S.course t (manner_of x) → Comes (m.programs t)
          at_once r so may ready =
              let then = spoken r [] m (ap (λ d. run_alone t true d S.course.shared) so
              ∙ sym (ap (λ s. (r, s)) (no_words S.course.shared))) (sym (no_words m.shared))
              (goes_so ∙ ap (λ d. whatever d next) so) (λ v unlike. refl) may ready old_words in
              again then.0 (subst (λ row. length row < length S.todo) (sym then.1) (left_less S again x xs is))

          -- A POST, a wait, or what takes no step
          speaking_comes : (k : Manner) → manner_of x ≡ k → is_acting k ≡ false → Comes (m.programs t)
          speaking_comes acts so none = absurd cc
          speaking_comes collects so none = absurd cc
          speaking_comes apart so quiet =
              let one = apart_is c turns p.place p.words x so in
              at_once one.0 one.1 (subst (MayBeFirst S.news) (sym so) tt) (subst (IsReady S.course t) (sym so) tt)
          speaking_comes (posts n) so quiet = by_a_step (posts_word n (word_posted p.place.names n)) (Ok replies.Done)
              ((n, word_posted p.place.names n) ∷ []) (posts_is c turns p.place p.words x n so) refl refl
              (subst (MayBeFirst S.news) (sym so) tt) (subst (IsReady S.course t) (sym so) tt)
              (λ k v at. said k v (under_one_more S.course.shared.board n k (word_posted p.place.names n) v at))
            where
              said : (k : List ℕ) (v : ℕ) → (word_under S.course.shared.board k ≡ Some v) ⊎ (k ≡ n)
                  → (news_after t (manner_of x) S.news).is_spoken k ≡ true
              said k v (inl old) = spoken_on S.news t (manner_of x) k (S.posted k v old)
              said k v (inr same) = said_spoken S.news t (manner_of x) n k (inl so) same
          speaking_comes (waits n) so quiet = go (word_under p.words n) refl
            where
              shape : does_first c turns p x ≡ waits_for (word_under p.words n) n
              shape = waits_is c turns p.place p.words x n so

              heard : (o : Option ℕ) → word_under m.shared.board n ≡ o → (l : Bool) → luck ≡ l
                  → does_first c turns p x ≡ by_step (hears_word n) → Comes (m.programs t)
              heard (Some v) there true lucky form =
                  let at = ap (λ b. word_under b n) (sym S.board) ∙ there in
                  by_a_step (hears_word n) (reply_to_wait (Some v)) [] form
                  (λ i. (cond (lucky i) (reply_to_wait (there i)) (Err fault.Turns), sym (no_words m.shared) i))
                  (λ i. (reply_to_wait (at i), sym (no_words S.course.shared) i))
                  (subst (MayBeFirst S.news) (sym so) (S.posted n v at))
                  (subst (IsReady S.course t) (sym so) (inr (subst (λ o. IsSome o) (sym at) refl))) old_words
              heard None there true lucky form = by_none (hears_word n) form
                  (λ i. cond (lucky i) (reply_to_wait (there i)) (Err fault.Turns))
              heard o there false unlucky form = by_none (hears_word n) form
                  (λ i. cond (unlucky i) (reply_to_wait (word_under m.shared.board n)) (Err fault.Turns))

              go : (o : Option ℕ) → word_under p.words n ≡ o → Comes (m.programs t)
              go (Some v) own = at_once (reply_to_wait (Some v)) (shape ∙ ap (λ o. waits_for o n) own)
                  (subst (MayBeFirst S.news) (sym so) (S.heard t n v own))
                  (subst (IsReady S.course t) (sym so) (inl (subst (λ o. IsSome o) (sym own) refl)))
              go None own = heard (word_under m.shared.board n) refl luck refl (shape ∙ ap (λ o. waits_for o n) own)

          -- WHAT TAKES STEPS begins
          module _ (acting : is_acting (manner_of x) ≡ true) where
            may_begin : beside (manner_of x) t S.gone
            may_begin = go (manner_of x) refl acting
              where
                f : First S.todo t x xs
                f = first c turns end m S t x xs is

                nobody_gone : manner_of x ≡ collects → (v : ℕ) (b : Bool) → S.gone v ≡ b → S.gone v ≡ false
                nobody_gone so v false there = there
                nobody_gone so v true there = absurd (others_come c.threads S.news t x f.pre f.post
                    (ordered_so c turns end m S t x xs is) f.none so v (S.gone_by v there)
                    (λ e. true≢false (sym there ∙ ap S.gone e ∙ here))
                    (f.others v (λ e. true≢false (sym there ∙ ap S.gone e ∙ here)) ∙ (S.ends v there).0))

                go : (k : Manner) → manner_of x ≡ k → is_acting k ≡ true → beside k t S.gone
                go acts so acting = here
                go collects so acting = λ v. nobody_gone so v (S.gone v) refl
                go _ so none = absurd cc

            midst : Alike S.gone m.shared S.course.shared → Midst c turns S.gone S.todo S.course m t
            midst was = record {
              command = x;
              rest = xs;
              is_first = is;
              is_acting = acting;
              may = may_begin;
              work = does_first c turns p x;
              stands = S.course.shared;
              reply = (run_alone t true (does_first c turns p x) S.course.shared).0;
              leaves = (run_alone t true (does_first c turns p x) S.course.shared).1;
              does = goes_so;
              alike = was;
              others = λ v there unlike. was.roles v there;
              leads = first_follows c turns t S.course S.good x acting;
              replies = refl;
              left = (first_led c turns t S.course S.good x acting S.course.shared
                  (alike_itself S.course.shared S.good.tidy)).1;
            }

            acting_comes : (busy : Option ℕ) → S.busy ≡ busy → Now c turns S.gone S.todo S.course m busy
                → Comes (m.programs t)
            acting_comes _ none (between was) = midst_comes (record S {
              busy = Some t;
              now = within t less here (midst was);
              goes = λ v below there free. S.goes v below there (λ taken. absurd (none_some v (sym none ∙ taken)));
            }) again here refl (midst was)
            acting_comes _ busy (within u below there M) = absurd (one_acts c.threads S.news S.todo S.ordered t u x
                M.command xs M.rest is M.is_first (λ e. idle (busy ∙ ap Some (sym e))) acting M.is_acting)

      -- WHERE IT HAS NO COMMAND LEFT, it is at its end from now on
      module _ (empty : done_by S.todo t ≡ []) (here : S.gone t ≡ false) (idle : S.busy ≡ Some t → ⊥) where
        abbrev gone_then : ℕ → Bool
        gone_then = update nat_eq S.gone t true

        as_before : (v : ℕ) → (v ≡ t → ⊥) → gone_then v ≡ S.gone v
        as_before v unlike = ap (λ b. cond b true (S.gone v)) (eq_other t v (λ e. unlike (sym e)))

        itself_gone : gone_then t ≡ true
        itself_gone = at_number_self S.gone t true

        not_it : (v : ℕ) → gone_then v ≡ false → v ≡ t → ⊥
        not_it v there e = true≢false (sym itself_gone ∙ sym (ap gone_then e) ∙ there)

        was_not : (v : ℕ) → gone_then v ≡ false → S.gone v ≡ false
        was_not v there = sym (as_before v (not_it v there)) ∙ there

        unbarred : is_barring (role_of S.course.shared t) ≡ false
        unbarred = (S.good.rests t).0

        now_gone : (busy : Option ℕ) → Now c turns S.gone S.todo S.course m busy → (busy ≡ Some t → ⊥)
            → Now c turns gone_then S.todo S.course m busy
        now_gone _ (between was) idle = between (one_more_gone S.gone gone_then t m.shared S.course.shared was as_before
            itself_gone (ap is_barring (was.roles t here) ∙ unbarred) unbarred)
        now_gone _ (within u below there M) idle = within u below (as_before u unlike ∙ there) (record {
          command = M.command;
          rest = M.rest;
          is_first = M.is_first;
          is_acting = M.is_acting;
          may = may (manner_of M.command) refl M.may;
          work = M.work;
          stands = M.stands;
          reply = M.reply;
          leaves = M.leaves;
          does = M.does;
          alike = one_more_gone S.gone gone_then t m.shared M.stands M.alike as_before itself_gone not_barring
              (ap is_barring (sym (M.alike.roles t here)) ∙ not_barring);
          others = λ v there unlike. M.others v (was_not v there) unlike;
          leads = M.leads;
          replies = M.replies;
          left = M.left;
        })
          where
            unlike : u ≡ t → ⊥
            unlike e = idle (ap Some e)

            not_barring : is_barring (role_of m.shared t) ≡ false
            not_barring = ap is_barring (M.others t here (λ e. unlike (sym e))) ∙ unbarred

            f : First S.todo u M.command M.rest
            f = first c turns end m S u M.command M.rest M.is_first

            may : (k : Manner) → manner_of M.command ≡ k → beside k u S.gone → beside k u gone_then
            may collects so was = absurd (others_come c.threads S.news u M.command f.pre f.post
                (ordered_so c turns end m S u M.command M.rest M.is_first) f.none so t less (λ e. unlike (sym e))
                (f.others t (λ e. unlike (sym e)) ∙ empty))
            may acts so was = as_before u unlike ∙ was
            may (posts n) so was = as_before u unlike ∙ was
            may (waits n) so was = as_before u unlike ∙ was
            may apart so was = as_before u unlike ∙ was

        gone_comes : Comes (m.programs t)
        gone_comes = ending_comes (record S {
          gone = gone_then;
          now = now_gone S.busy S.now idle;
          goes = λ v below there free. S.goes v below (was_not v there) free;
          gone_by = λ v there. by_it v there (cases_eq v t);
          ends = λ v there. ending v there (cases_eq v t);
        }) itself_gone
          where
            by_it : (v : ℕ) → gone_then v ≡ true → (v ≡ t) ⊎ (v ≡ t → ⊥) → v < c.threads
            by_it v there (inl same) = subst (λ u. u < c.threads) (sym same) less
            by_it v there (inr unlike) = S.gone_by v (sym (as_before v unlike) ∙ there)

            ending : (v : ℕ) → gone_then v ≡ true → (v ≡ t) ⊎ (v ≡ t → ⊥) → (done_by S.todo v ≡ [])
                × IsEnding v (S.course.threads v).text m.shared.owners (m.programs v)
            ending v there (inr unlike) = S.ends v (sym (as_before v unlike) ∙ there)
            ending v there (inl same) = subst (λ u. (done_by S.todo u ≡ [])
                × IsEnding u (S.course.threads u).text m.shared.owners (m.programs u)) (sym same) (
                  empty,
                  subst (IsEnding t (S.course.threads t).text m.shared.owners)
                      (sym (S.goes t less here idle ∙ ap (goes_from c turns (S.course.threads t)) empty))
                      (ends_so c turns (S.course.threads t).place.names (S.course.threads t).words
                      (S.course.threads t).place.objects t (S.course.threads t).text m.shared.owners),
                )

      -- ANY TURN
      module _ (again : (R : IsStanding c turns end m) → length R.todo < length S.todo → Comes (m.programs t)) where
        by_first : S.gone t ≡ false → (S.busy ≡ Some t → ⊥) → Comes (m.programs t)
        by_first here idle = go (done_by S.todo t) refl
          where
            by_manner : (x : Command) (xs : List Command) → done_by S.todo t ≡ x ∷ xs → (b : Bool)
                → is_acting (manner_of x) ≡ b → Comes (m.programs t)
            by_manner x xs is true acting = acting_comes x xs is here idle again acting S.busy refl S.now
            by_manner x xs is false quiet = speaking_comes x xs is here idle again (manner_of x) refl quiet

            go : (commands : List Command) → done_by S.todo t ≡ commands → Comes (m.programs t)
            go [] empty = gone_comes empty here idle
            go (x ∷ xs) is = by_manner x xs is (is_acting (manner_of x)) refl

        by_now : S.gone t ≡ false → (busy : Option ℕ) → S.busy ≡ busy → Now c turns S.gone S.todo S.course m busy
            → Comes (m.programs t)
        by_now here _ none (between was) = by_first here (λ taken. absurd (none_some t (sym none ∙ taken)))
        by_now here _ busy (within u below there M) = go (cases_eq u t)
          where
            go : (u ≡ t) ⊎ (u ≡ t → ⊥) → Comes (m.programs t)
            go (inl same) = midst_comes S again here (busy ∙ ap Some same)
                (subst (Midst c turns S.gone S.todo S.course m) same M)
            go (inr unlike) = by_first here (λ taken. unlike (some_same u t (sym busy ∙ taken)))

        comes : Comes (m.programs t)
        comes = go (S.gone t) refl
          where
            go : (b : Bool) → S.gone t ≡ b → Comes (m.programs t)
            go true gone = ending_comes S gone
            go false here = by_now here S.busy refl S.now

    -- .. as often as commands that take no step end
    comes_by : (fuel : ℕ) (S : IsStanding c turns end m) → length S.todo ≤ fuel → Comes (m.programs t)
    comes_by zero S most = comes S (λ R fewer. absurd (omega arith))
    comes_by (suc fuel) S most = comes S (λ R fewer. comes_by fuel R (omega arith))

pub turn_stands : (c : Config) (turns : ℕ) (end : Course) (m : Machine (List ℕ)) → IsStanding c turns end m
    → (t : ℕ) → t < c.threads → (luck : Bool)
    → IsStanding c turns end (stepped m t luck (m.programs t)) ⊎ SpoiltBy c.threads (stepped m t luck (m.programs t))
turn_stands c turns end m S t less luck = comes_by c turns end m t less luck (length S.todo) S (omega arith)
