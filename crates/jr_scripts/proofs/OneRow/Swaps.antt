-- A THREAD'S FIRST COMMAND done before its turn leads the row to the same.
use Rattle.std.proofs.Common.{◌≡◌, ◌⊎◌, inl, inr, ◌++◌, ◌==◌, ℕ, Bool, true, false, cond, Option, Some, None, Result}
use Rattle.std.proofs.Common.{Ok, List, [], ◌∷◌, IsSome, refl, sym, ap, subst, ◌∙◌, nat_eq}
use Rattle.std.specs.Str.{bytes_eq}
use Rattle.std.proofs.lemmas.List.{append-nil}
use Rattle.std.proofs.lemmas.Slice.Eq.{bytes_eq-Decides}
use Rattle.one_order.specs.Orders.{done_by}
use Rattle.jr_word.specs.declared.config.Config.{Config}
use Rattle.jr_word.specs.declared.fault.Fault.{Fault}
use Rattle.jr_model.specs.Maps.{update}
use Rattle.jr_model.proofs.Updates.{and_right, at_number, eq_false, eq_true}
use Rattle.jr_world.specs.Board.{word_under}
use Rattle.jr_world.specs.Doing.{Shared, run_alone}
use Rattle.jr_syntax.specs.declared.command.Command.{Command}
use Rattle.jr_scripts.specs.declared.reply.Reply.{Reply}
use Rattle.jr_scripts.specs.declared.reply.Reply.TheVariants as replies
use Rattle.jr_scripts.specs.Names.{word_posted}
use Rattle.jr_scripts.specs.Posting.{reply_to_wait}
use Rattle.jr_scripts.specs.Together.{doing_at, waits_for}
use Rattle.jr_scripts.specs.OneRow.{Course, Manner, News, CommandRow, ThreadStand, course_after, course_of, is_ordered}
use Rattle.jr_scripts.specs.OneRow.{manner_of}
use Rattle.jr_scripts.specs.OneRow.{may_come, news_after, stand_after}
use Rattle.jr_scripts.specs.OneRow.Manner.{acts, apart, collects, posts, waits}
use Rattle.jr_scripts.proofs.AloneCase.OwnWords.{or_else, under_both}
use Rattle.jr_scripts.proofs.OneRow.Alike.{Alike, Kept, Tidy, alike_back, alike_board, alike_itself, alike_through}
use Rattle.jr_scripts.proofs.OneRow.Alike.{role_of}
use Rattle.jr_scripts.proofs.OneRow.Calls.{acts_follow}
use Rattle.jr_scripts.proofs.OneRow.Collections.{collects_follow}
use Rattle.jr_scripts.proofs.OneRow.Follows.{Outcome, but, led, nobody}
use Rattle.jr_scripts.proofs.OneRow.Rows.{IsOfOther, acts_first, is_acting, posts_new}
use Rattle.jr_scripts.proofs.OneRow.Shapes.{Rests, apart_is, posts_is, rests_after, waits_is}

-- the same words stand under all names
abbrev pub SameBoard : List (List ℕ × ℕ) → List (List ℕ × ℕ) → Type 0
SameBoard b d = (n : List ℕ) → word_under b n ≡ word_under d n

-- TWO COURSES ARE THE SAME but for the order of the board
pub record SameCourse (w v : Course) : Type 0 where
  pub threads : (t : ℕ) → w.threads t ≡ v.threads t
  pub shared : Alike (λ t. false) w.shared v.shared
  pub board : SameBoard w.shared.board v.shared.board

pub same_through : (w v y : Course) → SameCourse w v → SameCourse v y → SameCourse w y
same_through w v y first second = record {
  threads = λ t. first.threads t ∙ second.threads t;
  shared = alike_through (λ t. false) w.shared v.shared y.shared first.shared second.shared;
  board = λ n. first.board n ∙ second.board n;
}

-- A COURSE IS GOOD: what is shared is tidy, and each thread rests at the gate
pub record Good (w : Course) : Type 0 where
  pub tidy : Tidy w.shared
  pub rests : (t : ℕ) → Rests (w.threads t).place.objects (role_of w.shared t)

-- a wait finds a word: on the board, or among the thread's
abbrev pub IsReady : Course → ℕ → Manner → Type 0
IsReady w t (waits n) =
    IsSome (word_under (w.threads t).words n) ⊎ IsSome (word_under w.shared.board n)
IsReady w t _ = Unit {0}

or_none : (o : Option ℕ) → or_else o None ≡ o
or_none None = refl
or_none (Some v) = refl

turned : (o x y : Option ℕ) → (x ≡ None) ⊎ (y ≡ None) → or_else (or_else o x) y ≡ or_else (or_else o y) x
turned (Some v) x y none = refl
turned None None y none = sym (or_none y)
turned None (Some a) None none = refl
turned None (Some a) (Some b) (inl bad) = absurd cc
turned None (Some a) (Some b) (inr bad) = absurd cc

-- a word that stands already is the one that counts
or_still : (a o x : Option ℕ) → IsSome a ⊎ IsSome o → or_else a (or_else o x) ≡ or_else a o
or_still (Some v) o x ready = refl
or_still None (Some v) x ready = refl
or_still None None x (inl bad) = absurd cc
or_still None None x (inr bad) = absurd cc

some_still : (o x : Option ℕ) → IsSome o → IsSome (or_else o x)
some_still (Some v) x some = refl
some_still None x bad = absurd cc

of_other : (n m : List ℕ) (w : ℕ) → (m ≡ n → ⊥) → word_under ((n, w) ∷ []) m ≡ None
of_other n m w other = go (bytes_eq m n) refl
  where
    go : (b : Bool) → bytes_eq m n ≡ b → cond b (Some w) None ≡ None
    go true is = absurd (other ((bytes_eq-Decides m n).0 is))
    go false is = refl

-- WHAT A COMMAND POSTS, from where its thread stands
abbrev posted_by : Manner → ThreadStand → List (List ℕ × ℕ)
posted_by (posts n) p = (n, word_posted p.place.names n) ∷ []
posted_by _ p = []

-- it hears the same from both
abbrev HearsSame : Manner → ThreadStand → Shared → Shared → Type 0
HearsSame (waits n) p s z =
    or_else (word_under p.words n) (word_under s.board n) ≡ or_else (word_under p.words n) (word_under z.board n)
HearsSame _ p s z = Unit {0}

-- what it posts is of other names than the other has to do with
abbrev MayPass : Manner → Manner → Type 0
MayPass (posts n) m = IsOfOther n m
MayPass _ m = Unit {0}

same_heard : (m : Manner) (p : ThreadStand) (s z : Shared) → SameBoard s.board z.board → HearsSame m p s z
same_heard (waits n) p s z same = ap (or_else (word_under p.words n)) (same n)
same_heard _ p s z same = tt

-- who is ready hears the same, whatever is posted meanwhile
ready_hears : (m : Manner) (t : ℕ) (w : Course) (s : Shared) (more : List (List ℕ × ℕ)) → IsReady w t m
    → s.board ≡ w.shared.board ++ more → HearsSame m (w.threads t) s w.shared
ready_hears (waits n) t w s more ready is =
    ap (or_else own) (ap (λ b. word_under b n) is ∙ under_both w.shared.board more n)
    ∙ or_still own (word_under w.shared.board n) (word_under more n) ready
  where
    own : Option ℕ
    own = word_under (w.threads t).words n
ready_hears _ t w s more ready is = tt

still_ready : (m : Manner) (t : ℕ) (w v : Course) (more : List (List ℕ × ℕ)) → IsReady w t m
    → v.threads t ≡ w.threads t → v.shared.board ≡ w.shared.board ++ more → IsReady v t m
still_ready (waits n) t w v more (inl own) same is = inl (subst (λ p. IsSome (word_under p.words n)) (sym same) own)
still_ready (waits n) t w v more (inr there) same is =
    inr (subst IsSome (sym (ap (λ b. word_under b n) is ∙ under_both w.shared.board more n))
    (some_still (word_under w.shared.board n) (word_under more n) there))
still_ready _ t w v more ready same is = tt

-- nor does it count for others what is posted of other names
none_heard : (m k : Manner) (q : ThreadStand) → MayPass m k → (n : List ℕ) → k ≡ waits n
    → word_under (posted_by m q) n ≡ None
none_heard (posts l) k q may n is = of_other l n (word_posted q.place.names l) (subst (IsOfOther l) is may)
none_heard _ k q may n is = refl

passed_hears : (m k : Manner) (p q : ThreadStand) (s z : Shared) → MayPass m k → z.board ≡ s.board ++ posted_by m q
    → HearsSame k p z s
passed_hears m (waits n) p q s z may is = ap (or_else (word_under p.words n))
    (ap (λ b. word_under b n) is ∙ (under_both s.board (posted_by m q) n
    ∙ (ap (or_else (word_under s.board n)) (none_heard m (waits n) q may n refl) ∙ or_none (word_under s.board n))))
passed_hears m _ p q s z may is = tt

one_posts : (m k : Manner) (p q : ThreadStand) → MayPass m k → (n : List ℕ)
    → (word_under (posted_by k p) n ≡ None) ⊎ (word_under (posted_by m q) n ≡ None)
one_posts (posts i) (posts l) p q may n = go (bytes_eq n l) refl
  where
    go : (b : Bool) → bytes_eq n l ≡ b
        → (cond b (Some (word_posted p.place.names l)) None ≡ None) ⊎ (word_under (posted_by (posts i) q) n ≡ None)
    go false is = inl refl
    go true is = inr (of_other i n (word_posted q.place.names i)
        (subst (λ o. o ≡ i → ⊥) (sym ((bytes_eq-Decides n l).0 is)) may))
one_posts _ (posts l) p q may n = inr refl
one_posts _ _ p q may n = inl refl

turned_boards : (m k : Manner) (p q : ThreadStand) → MayPass m k → (b : List (List ℕ × ℕ))
    → SameBoard ((b ++ posted_by k p) ++ posted_by m q) ((b ++ posted_by m q) ++ posted_by k p)
turned_boards m k p q may b n = two (posted_by k p) (posted_by m q)
    ∙ (turned (word_under b n) (word_under (posted_by k p) n) (word_under (posted_by m q) n) (one_posts m k p q may n)
    ∙ sym (two (posted_by m q) (posted_by k p)))
  where
    two : (xs ys : List (List ℕ × ℕ)) → word_under ((b ++ xs) ++ ys) n
        ≡ or_else (or_else (word_under b n) (word_under xs n)) (word_under ys n)
    two xs ys = under_both (b ++ xs) ys n ∙ ap (λ o. or_else o (word_under ys n)) (under_both b xs n)

boards_with : (b d more : List (List ℕ × ℕ)) → SameBoard b d → SameBoard (b ++ more) (d ++ more)
boards_with b d more same n = under_both b more n
    ∙ (ap (λ o. or_else o (word_under more n)) (same n) ∙ sym (under_both d more n))

-- what a command of thread t leaves: the board, with what it posts, and others' roles
record Leaves (t : ℕ) (m : Manner) (p : ThreadStand) (s s' : Shared) : Type 0 where
  tidy : Tidy s'
  board : s'.board ≡ s.board ++ posted_by m p
  roles : (u : ℕ) → (u ≡ t → ⊥) → role_of s' u ≡ role_of s u

none_posted : (m : Manner) (p : ThreadStand) → is_acting m ≡ true → posted_by m p ≡ []
none_posted acts p acting = refl
none_posted collects p acting = refl
none_posted _ p acting = absurd cc

at_other : (stands : ℕ → ThreadStand) (t u : ℕ) (p : ThreadStand) → (t ≡ u → ⊥) → update nat_eq stands t p u ≡ stands u
at_other stands t u p other =
    at_number (λ q. q ≡ stands u) stands t u p (λ same. absurd (other same)) (λ apart. refl)

same_itself : (w : Course) → Good w → SameCourse w w
same_itself w good = record { threads = λ t. refl; shared = alike_itself w.shared good.tidy; board = λ n. refl }

module _ (c : Config) (turns : ℕ) where
  -- A COMMAND, whole and with luck, from where its thread stands
  abbrev does : ℕ → Command → ThreadStand → Shared → Result Reply Fault × Shared
  does t x p s = run_alone t true (doing_at c turns p.place p.words p.place.objects x) s

  -- it leaves all but the board, with what it posts
  quiet_leaves : (t : ℕ) (x : Command) (p : ThreadStand) (s : Shared) (m : Manner) → manner_of x ≡ m
      → is_acting m ≡ false
      → (does t x p s).1 ≡ record s { board = s.board ++ posted_by m p }
  quiet_leaves t x p s (posts n) is quiet =
      ap (λ d. (run_alone t true d s).1) (posts_is c turns p.place p.words x n is)
  quiet_leaves t x p s (waits n) is quiet = ap (λ d. (run_alone t true d s).1) (waits_is c turns p.place p.words x n is)
      ∙ (waits_leaves (word_under p.words n) ∙ ap (λ b. record s { board = b }) (sym (append-nil s.board)))
    where
      waits_leaves : (o : Option ℕ) → (run_alone t true (waits_for o n) s).1 ≡ s
      waits_leaves (Some w) = refl
      waits_leaves None = refl
  quiet_leaves t x p s apart is quiet =
      ap (λ d. (run_alone t true d s).1) (apart_is c turns p.place p.words x is).1
      ∙ ap (λ b. record s { board = b }) (sym (append-nil s.board))
  quiet_leaves t x p s _ is quiet = absurd cc

  quiet_says : (t : ℕ) (x : Command) (p : ThreadStand) (s z : Shared) (m : Manner) → manner_of x ≡ m
      → is_acting m ≡ false
      → HearsSame m p s z → (does t x p s).0 ≡ (does t x p z).0
  quiet_says t x p s z (posts n) is quiet same = told s ∙ sym (told z)
    where
      told : (y : Shared) → (does t x p y).0 ≡ Ok replies.Done
      told y = ap (λ d. (run_alone t true d y).0) (posts_is c turns p.place p.words x n is)
  quiet_says t x p s z (waits n) is quiet same = told s ∙ (ap reply_to_wait same ∙ sym (told z))
    where
      either : (o : Option ℕ) (y : Shared)
          → (run_alone t true (waits_for o n) y).0 ≡ reply_to_wait (or_else o (word_under y.board n))
      either (Some w) y = refl
      either None y = refl

      told : (y : Shared)
          → (does t x p y).0 ≡ reply_to_wait (or_else (word_under p.words n) (word_under y.board n))
      told y = ap (λ d. (run_alone t true d y).0) (waits_is c turns p.place p.words x n is)
          ∙ either (word_under p.words n) y
  quiet_says t x p s z apart is quiet same = told s ∙ sym (told z)
    where
      told : (y : Shared) → (does t x p y).0 ≡ (apart_is c turns p.place p.words x is).0
      told y = ap (λ d. (run_alone t true d y).0) (apart_is c turns p.place p.words x is).1
  quiet_says t x p s z _ is quiet same = absurd cc

  with_board : (s : Shared) (b : List (List ℕ × ℕ)) → Tidy s → Alike (λ t. false) (record s { board = b }) s
  with_board s b tidy = alike_board (λ t. false) s s b s.board (alike_itself s tidy)

  quiet_alike : (t : ℕ) (x : Command) (p : ThreadStand) (s : Shared) (m : Manner) → manner_of x ≡ m
      → is_acting m ≡ false
      → Tidy s → Alike (λ t. false) (does t x p s).1 s
  quiet_alike t x p s m is quiet tidy = subst (λ z. Alike (λ t. false) z s) (sym (quiet_leaves t x p s m is quiet))
      (with_board s (s.board ++ posted_by m p) tidy)

  -- who takes steps does the same from what is alike
  acting_same : (t : ℕ) (x : Command) (p : ThreadStand) (s z : Shared) (m : Manner) → manner_of x ≡ m
      → is_acting m ≡ true
      → Tidy z → Rests p.place.objects (role_of z t) → Alike (λ t. false) s z
      → ((does t x p s).0 ≡ (does t x p z).0)
      × Alike (λ t. false) (does t x p s).1 (does t x p z).1 × Kept t s (does t x p s).1
  acting_same t x p s z acts is acting tidy rests alike =
      led (but t) t (Outcome (but t) t (does t x p z).0 (does t x p z).1)
      (doing_at c turns p.place p.words p.place.objects x) z
      (acts_follow c turns p.place p.words x is t z tidy) (λ t. false) refl s alike
  acting_same t x p s z collects is acting tidy rests alike =
      led nobody t (Outcome nobody t (does t x p z).0 (does t x p z).1)
      (doing_at c turns p.place p.words p.place.objects x) z
      (collects_follow c turns p.place p.words x is t z tidy rests.1) (λ t. false) (λ t. refl) s alike
  acting_same t x p s z _ is acting tidy rests alike = absurd cc

  leaves : (t : ℕ) (x : Command) (p : ThreadStand) (s : Shared) (m : Manner) → manner_of x ≡ m → Tidy s
      → Rests p.place.objects (role_of s t) → Leaves t m p s (does t x p s).1
  leaves t x p s m is tidy rests = go (is_acting m) refl
    where
      go : (b : Bool) → is_acting m ≡ b → Leaves t m p s (does t x p s).1
      go false quiet = let left = quiet_leaves t x p s m is quiet in record {
        tidy = (quiet_alike t x p s m is quiet tidy).tidy;
        board = ap (λ z. z.board) left;
        roles = λ u other. ap (λ z. role_of z u) left;
      }
      go true acting = let same = acting_same t x p s s m is acting tidy rests (alike_itself s tidy) in record {
        tidy = same.1.tidy;
        board = same.2.board
            ∙ (sym (append-nil s.board) ∙ ap (λ l. s.board ++ l) (sym (none_posted m p acting)));
        roles = same.2.roles;
      }

  does_same : (t : ℕ) (x : Command) (p : ThreadStand) (s z : Shared) (m : Manner) → manner_of x ≡ m → Tidy z
      → Rests p.place.objects (role_of z t) → Alike (λ t. false) s z → HearsSame m p s z
      → ((does t x p s).0 ≡ (does t x p z).0) × Alike (λ t. false) (does t x p s).1 (does t x p z).1
  does_same t x p s z m is tidy rests alike hears = go (is_acting m) refl
    where
      go : (b : Bool) → is_acting m ≡ b
          → ((does t x p s).0 ≡ (does t x p z).0) × Alike (λ t. false) (does t x p s).1 (does t x p z).1
      go false quiet = (
        quiet_says t x p s z m is quiet hears,
        alike_through (λ t. false) (does t x p s).1 s (does t x p z).1 (quiet_alike t x p s m is quiet alike.tidy)
            (alike_through (λ t. false) s z (does t x p z).1 alike
            (alike_back (does t x p z).1 z (quiet_alike t x p z m is quiet tidy))),
      )
      go true acting = let same = acting_same t x p s z m is acting tidy rests alike in (same.0, same.1)

  pub good_after : (t : ℕ) (x : Command) (w : Course) → Good w → Good (course_after c turns t x w)
  good_after t x w good = record {
    tidy = left.tidy;
    rests = λ u. at_number (λ p. Rests p.place.objects (role_of s' u)) w.threads t u then_at
        (λ same. subst (λ n. Rests then_at.place.objects (role_of s' n)) same
        (rests_after c turns (w.threads t).place (w.threads t).words x t w.shared (good.rests t)))
        (λ other. subst (Rests (w.threads u).place.objects) (sym (left.roles u (λ is. other (sym is))))
        (good.rests u));
  }
    where
      s' : Shared
      s' = (does t x (w.threads t) w.shared).1

      then_at : ThreadStand
      then_at = stand_after x (does t x (w.threads t) w.shared).0 (w.threads t)

      left : Leaves t (manner_of x) (w.threads t) w.shared s'
      left = leaves t x (w.threads t) w.shared (manner_of x) refl good.tidy (good.rests t)

  -- THE SAME FROM THE SAME
  pub same_after : (t : ℕ) (x : Command) (w v : Course) → Good w → SameCourse w v
      → SameCourse (course_after c turns t x w) (course_after c turns t x v)
  same_after t x w v good same = subst (λ stands. SameCourse (course_after c turns t x w)
      (course_after c turns t x (record { threads = stands; shared = v.shared }))) (λ i u. same.threads u i) so
    where
      p : ThreadStand
      p = w.threads t

      both : ((does t x p v.shared).0 ≡ (does t x p w.shared).0)
          × Alike (λ t. false) (does t x p v.shared).1 (does t x p w.shared).1
      both = does_same t x p v.shared w.shared (manner_of x) refl good.tidy (good.rests t)
          (alike_back w.shared v.shared same.shared)
          (same_heard (manner_of x) p v.shared w.shared (λ n. sym (same.board n)))

      left : Leaves t (manner_of x) p w.shared (does t x p w.shared).1
      left = leaves t x p w.shared (manner_of x) refl good.tidy (good.rests t)

      right : Leaves t (manner_of x) p v.shared (does t x p v.shared).1
      right = leaves t x p v.shared (manner_of x) refl same.shared.tidy_too
          (subst (Rests p.place.objects) (same.shared.roles t refl) (good.rests t))

      so : SameCourse (course_after c turns t x w)
          (course_after c turns t x (record { threads = w.threads; shared = v.shared }))
      so = record {
        threads = λ u. ap (λ r. update nat_eq w.threads t (stand_after x r p) u) (sym both.0);
        shared = alike_back (does t x p v.shared).1 (does t x p w.shared).1 both.1;
        board = λ n. ap (λ b. word_under b n) left.board
            ∙ (boards_with w.shared.board v.shared.board (posted_by (manner_of x) p) same.board n
            ∙ ap (λ b. word_under b n) (sym right.board));
      }

  pub same_of : (row : CommandRow) (w v : Course) → Good w → SameCourse w v
      → SameCourse (course_of c turns row w) (course_of c turns row v)
  same_of [] w v good same = same
  same_of (x ∷ xs) w v good same = same_of xs (course_after c turns x.0 x.1 w) (course_after c turns x.0 x.1 v)
      (good_after x.0 x.1 w good) (same_after x.0 x.1 w v good same)

  -- TWO COMMANDS OF TWO THREADS in either order
  record Swapped (t : ℕ) (x : Command) (q : ThreadStand) (v : ℕ) (y : Command) (p : ThreadStand) (s : Shared)
      : Type 0 where
    first : (does t x q (does v y p s).1).0 ≡ (does t x q s).0
    second : (does v y p (does t x q s).1).0 ≡ (does v y p s).0
    shared : Alike (λ t. false) (does t x q (does v y p s).1).1 (does v y p (does t x q s).1).1

  -- .. of which the one takes no step but a post or a wait
  quiet_swap : (t : ℕ) (x : Command) (q : ThreadStand) (v : ℕ) (y : Command) (p : ThreadStand) (s : Shared)
      → is_acting (manner_of x) ≡ false → Tidy s → Rests p.place.objects (role_of s v)
      → HearsSame (manner_of x) q (does v y p s).1 s → HearsSame (manner_of y) p (does t x q s).1 s
      → Swapped t x q v y p s
  quiet_swap t x q v y p s quiet tidy rests hears also =
      let behind = does_same v y p (does t x q s).1 s (manner_of y) refl tidy rests
      (quiet_alike t x q s (manner_of x) refl quiet tidy) also in
      record {
        first = quiet_says t x q (does v y p s).1 s (manner_of x) refl quiet hears;
        second = behind.0;
        shared = alike_through (λ t. false) (does t x q (does v y p s).1).1 (does v y p s).1
            (does v y p (does t x q s).1).1
            (quiet_alike t x q (does v y p s).1 (manner_of x) refl quiet behind.1.tidy_too)
            (alike_back (does v y p (does t x q s).1).1 (does v y p s).1 behind.1);
      }

  -- the course behind a command of a thread that stands here
  abbrev after_from : ℕ → Command → ThreadStand → Course → Course
  after_from t x p w = record {
    threads = update nat_eq w.threads t (stand_after x (does t x p w.shared).0 p);
    shared = (does t x p w.shared).1;
  }

  swapped : (t : ℕ) (x : Command) (v : ℕ) (y : Command) (w : Course) → (v ≡ t → ⊥) → Good w
      → MayPass (manner_of x) (manner_of y) → IsReady w t (manner_of x)
      → (is_acting (manner_of x) ≡ true → is_acting (manner_of y) ≡ false)
      → SameCourse (course_after c turns t x (course_after c turns v y w))
      (course_after c turns v y (course_after c turns t x w))
  swapped t x v y w other good may ready one = subst
      (λ stand. SameCourse (course_after c turns t x (course_after c turns v y w)) (after_from v y stand first))
      (sym (at_other w.threads t v (stand_after x (does t x q s).0 q) (λ is. other (sym is))))
      (subst (λ stand. SameCourse (after_from t x stand second) (after_from v y p first))
      (sym (at_other w.threads v t (stand_after y (does v y p s).0 p) other)) so)
    where
      m : Manner
      m = manner_of x

      k : Manner
      k = manner_of y

      q : ThreadStand
      q = w.threads t

      p : ThreadStand
      p = w.threads v

      s : Shared
      s = w.shared

      first : Course
      first = course_after c turns t x w

      second : Course
      second = course_after c turns v y w

      by_x : Leaves t m q s (does t x q s).1
      by_x = leaves t x q s m refl good.tidy (good.rests t)

      by_y : Leaves v k p s (does v y p s).1
      by_y = leaves v y p s k refl good.tidy (good.rests v)

      then_x : Leaves t m q (does v y p s).1 (does t x q (does v y p s).1).1
      then_x = leaves t x q (does v y p s).1 m refl by_y.tidy
          (subst (Rests q.place.objects) (sym (by_y.roles t (λ is. other (sym is)))) (good.rests t))

      then_y : Leaves v k p (does t x q s).1 (does v y p (does t x q s).1).1
      then_y = leaves v y p (does t x q s).1 k refl by_x.tidy
          (subst (Rests p.place.objects) (sym (by_x.roles v other)) (good.rests v))

      hears : HearsSame m q (does v y p s).1 s
      hears = ready_hears m t w (does v y p s).1 (posted_by k p) ready by_y.board

      also : HearsSame k p (does t x q s).1 s
      also = passed_hears m k p q s (does t x q s).1 may by_x.board

      two : (b : Bool) → is_acting m ≡ b → Swapped t x q v y p s
      two false quiet = quiet_swap t x q v y p s quiet good.tidy (good.rests v) hears also
      two true acting =
          let back = quiet_swap v y p t x q s (one acting) good.tidy (good.rests t) also hears in
          record {
            first = back.second;
            second = back.first;
            shared = alike_back (does v y p (does t x q s).1).1 (does t x q (does v y p s).1).1 back.shared;
          }

      is_one : Swapped t x q v y p s
      is_one = two (is_acting m) refl

      turns_about : (a b : Bool) (stand x1 x2 y1 y2 : ThreadStand) → x1 ≡ x2 → y1 ≡ y2 → (a ≡ true → b ≡ true → ⊥)
          → cond a x1 (cond b y2 stand) ≡ cond b y1 (cond a x2 stand)
      turns_about true true stand x1 x2 y1 y2 xs ys not_both = absurd (not_both refl refl)
      turns_about true false stand x1 x2 y1 y2 xs ys not_both = xs
      turns_about false true stand x1 x2 y1 y2 xs ys not_both = sym ys
      turns_about false false stand x1 x2 y1 y2 xs ys not_both = refl

      so : SameCourse (after_from t x q second) (after_from v y p first)
      so = record {
        threads = λ u. turns_about (t == u) (v == u) (w.threads u)
            (stand_after x (does t x q (does v y p s).1).0 q) (stand_after x (does t x q s).0 q)
            (stand_after y (does v y p (does t x q s).1).0 p) (stand_after y (does v y p s).0 p)
            (ap (λ r. stand_after x r q) is_one.first) (ap (λ r. stand_after y r p) is_one.second)
            (λ here there. other (eq_true v u there ∙ sym (eq_true t u here)));
        shared = is_one.shared;
        board = λ n. ap (λ b. word_under b n) (then_x.board ∙ ap (λ b. b ++ posted_by m q) by_y.board)
            ∙ (turned_boards m k p q may s.board n
            ∙ ap (λ b. word_under b n) (sym (then_y.board ∙ ap (λ b. b ++ posted_by k p) by_x.board)));
      }

  -- A FIRST COMMAND BEFORE ITS TURN
  pub moved_first : (threads : ℕ) (k : News) (t : ℕ) (x : Command) (pre post : CommandRow) (w : Course) → Good w
      → is_ordered threads k (pre ++ (t, x) ∷ post) ≡ true → done_by pre t ≡ [] → IsReady w t (manner_of x)
      → SameCourse (course_of c turns (pre ++ (t, x) ∷ post) w)
      (course_of c turns (pre ++ post) (course_after c turns t x w))
  moved_first threads k t x [] post w good ordered first ready =
      let good_then = good_after t x w good in
      same_of post (course_after c turns t x w) (course_after c turns t x w) good_then
      (same_itself (course_after c turns t x w) good_then)
  moved_first threads k t x (y ∷ ys) post w good ordered first ready = same_through
      (course_of c turns (ys ++ (t, x) ∷ post) (course_after c turns y.0 y.1 w))
      (course_of c turns (ys ++ post) (course_after c turns t x (course_after c turns y.0 y.1 w)))
      (course_of c turns (ys ++ post) (course_after c turns y.0 y.1 (course_after c turns t x w)))
      (moved_first threads (news_after y.0 (manner_of y.1) k) t x ys post (course_after c turns y.0 y.1 w) good_then
      (and_right (may_come threads y.0 (manner_of y.1) k (ys ++ (t, x) ∷ post)) (is_ordered threads
      (news_after y.0 (manner_of y.1) k) (ys ++ (t, x) ∷ post)) ordered) not_here.1
      (still_ready (manner_of x) t w (course_after c turns y.0 y.1 w) (posted_by (manner_of y.1) (w.threads y.0)) ready
      (at_other w.threads y.0 t (stand_after y.1 (does y.0 y.1 (w.threads y.0) w.shared).0 (w.threads y.0)) other)
      left.board))
      (same_of (ys ++ post) (course_after c turns t x (course_after c turns y.0 y.1 w))
      (course_after c turns y.0 y.1 (course_after c turns t x w))
      (good_after t x (course_after c turns y.0 y.1 w) good_then)
      (swapped t x y.0 y.1 w other good (may (manner_of x) refl) ready
      (λ acting. (acts_first threads k t x (y ∷ ys) post ordered first acting).0.0)))
    where
      good_then : Good (course_after c turns y.0 y.1 w)
      good_then = good_after y.0 y.1 w good

      left : Leaves y.0 (manner_of y.1) (w.threads y.0) w.shared (does y.0 y.1 (w.threads y.0) w.shared).1
      left = leaves y.0 y.1 (w.threads y.0) w.shared (manner_of y.1) refl good.tidy (good.rests y.0)

      apart_from : (b : Bool) → cond b (y.1 ∷ done_by ys t) (done_by ys t) ≡ []
          → (b ≡ false) × (done_by ys t ≡ [])
      apart_from false none = (refl, none)
      apart_from true none = absurd cc

      not_here : ((y.0 == t) ≡ false) × (done_by ys t ≡ [])
      not_here = apart_from (y.0 == t) first

      other : y.0 ≡ t → ⊥
      other = eq_false y.0 t not_here.0

      may : (m : Manner) → manner_of x ≡ m → MayPass m (manner_of y.1)
      may (posts n) is = (posts_new threads k t x (y ∷ ys) post ordered first n is).1.0
      may _ is = tt
