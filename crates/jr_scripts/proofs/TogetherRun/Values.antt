-- What is told of values by births stays so later, and is what words are read as. What is decided by values is decided
-- alike, and a thread stands alike behind each command.
use Rattle.std.proofs.Common.{◌≡◌, ◌≢◌, ◌<◌, ◌+◌, ℕ, ℤ, zero, suc, Bool, true, false, cond, is_some, Option, Some, None}
use Rattle.std.proofs.Common.{Result, Ok, Err, List, [], ◌∷◌, ◌++◌, map, slice_get, inl, inr, refl, sym, ap, subst, ◌∙◌}
use Rattle.std.proofs.Common.{arith, append_assoc, append-nil, length}
use Rattle.std.proofs.lemmas.Grind.{common_steps}
use Rattle.std.specs.List.{AllByRecursion}
use Rattle.std.specs.FinMap.{get, get-insert}
use Rattle.std.specs.Cmp.Lexicographic.{nat_list_cmp_total}
use Rattle.std.specs.Ordering.{is_eq}
use Rattle.std.specs.Str.{bytes_eq}
use mathlib.Core.List.{IsPrefix}
use Rattle.jr_word.specs.declared.fault.Fault.{Fault}
use Rattle.jr_word.specs.declared.fault.Fault.TheVariants as fault
use Rattle.jr_word.specs.declared.handle.Handle.{Handle as HandleWord}
use Rattle.jr_word.specs.declared.handle.RefKind.{RefKind}
use Rattle.jr_word.specs.declared.handle.RefKind.TheVariants.{Local, Global, Weak}
use Rattle.jr_word.specs.Handle.{IsHandle, handle_word, owner_limit}
use Rattle.jr_word.proofs.OneWord.{handle_word-injective}
use Rattle.jr_model.specs.declared.event.Act.{Act}
use Rattle.jr_model.specs.declared.event.Act.TheVariants.{Create, Delete, Clear, LocalPut, LocalDrop}
use Rattle.jr_model.specs.declared.frames.Mode.{Mode}
use Rattle.jr_model.specs.declared.frames.Mode.TheVariants.{Commit}
use Rattle.jr_model.specs.State.{Handle, same_handle}
use Rattle.jr_model.specs.Steps.{ActNeeds, IsInRow}
use Rattle.jr_model.specs.Frames.{stored_at}
use Rattle.jr_model.specs.History.{History, mine, state}
use Rattle.jr_model.specs.Checks.{Word, Nothing, Malformed, Parts}
use Rattle.jr_model.specs.Programs.{handle, perhaps}
use Rattle.jr_model.proofs.Agreement.{stored_append}
use Rattle.jr_model.proofs.Exactly.{append_all}
use Rattle.jr_model.proofs.Histories.{legal_push, mine_append, mine_push}
use Rattle.jr_model.proofs.Moments.{prefix_trans}
use Rattle.jr_model.proofs.Updates.{eq_self}
use Rattle.jr_frames.specs.Reading.{IsReadAs}
use Rattle.jr_env.specs.Requests.{packed, packed_if}
use Rattle.jr_world.specs.World.{Ref, all_but_last}
use Rattle.jr_world.specs.Births.{Births, births, born_by, emptied, gone_where, is_at}
use Rattle.jr_world.specs.Board.{word_under}
use Rattle.jr_world.specs.Playing.{AnswerIs, SameFault, WordIs}
use Rattle.jr_world.proofs.BornHandles.{puts_are_own}
use Rattle.jr_world.proofs.Births.BornLists.{births_push, entry_stays, some_same}
use Rattle.jr_world.proofs.Standing.{Stays, front_legal, like_between}
use Rattle.jr_world.proofs.ProgramPlays.{same_fault}
use Rattle.one_order.proofs.Lists.{all_map}
use Rattle.jr_syntax.specs.declared.command.Command.{Command}
use Rattle.jr_syntax.specs.declared.command.Command.TheVariants as commands
use Rattle.jr_syntax.specs.declared.verb.Make.TheVariants as make
use Rattle.jr_syntax.specs.declared.verb.PutAt.TheVariants as put_at
use Rattle.jr_syntax.specs.declared.verb.Release.TheVariants as release
use Rattle.jr_syntax.specs.declared.name.Reference.{Reference}
use Rattle.jr_syntax.specs.declared.name.Reference.TheVariants as refers
use Rattle.jr_scripts.specs.declared.reply.Reply.{Reply}
use Rattle.jr_scripts.specs.declared.reply.Reply.TheVariants as replies
use Rattle.jr_scripts.specs.declared.binding.Binding.{Binding}
use Rattle.jr_scripts.specs.declared.binding.Binding.TheVariants as bound
use Rattle.jr_scripts.specs.Buffers.{Copied, with_number}
use Rattle.jr_scripts.specs.Names.{Names, binding, buffered, name_order, names_put, null, or_nothing, putting}
use Rattle.jr_scripts.specs.Names.{with_name, word_of_reference, word_posted}
use Rattle.jr_scripts.specs.Names.{buffer_in, getting, reference_in, referent, wanted}
use Rattle.jr_scripts.specs.Places.{Place, levels_after, nth_object, objects_after, place_after}
use Rattle.jr_scripts.specs.Posting.{ThreadWords, words_after, words_with}
use Rattle.jr_scripts.specs.Text.{binding_made, buffers_after, left_by, names_after, names_with, printed, refused, says}
use Rattle.jr_scripts.specs.Text.{sets}
use Rattle.jr_scripts.proofs.TogetherRun.Moments.{AnswerSo, BindingIs, HandleIfIs, HandleIs, LevelIs, LevelsAre}
use Rattle.jr_scripts.proofs.TogetherRun.Moments.{NamesAre, ReplyIs, Room, Stands, WordsAre, is_plain}
use Rattle.jr_scripts.proofs.TogetherRun.Moments.ReplyIs.{level_too, made_too, the_same}

-- LATER

handle_along : (h rest : History) (w n : ℕ) → HandleIs h w n → HandleIs (h ++ rest) w n
handle_along h rest w zero is = is
handle_along h rest w (suc i) (g, q, at, word) =
    let e = entry_stays h rest i g (q, at) in (g, e.0, e.1, word)

pub handle_later : (h later : History) → IsPrefix h later → (w n : ℕ) → HandleIs h w n → HandleIs later w n
handle_later h later (rest, is) w n so = subst (λ l. HandleIs l w n) is (handle_along h rest w n so)

binding_later : (h later : History) → IsPrefix h later → (s t : Binding) → BindingIs h s t → BindingIs later s t
binding_later h later begins bound.Nothing bound.Nothing so = tt
binding_later h later begins (bound.Reference a) (bound.Reference b) so = handle_later h later begins a.0 b.0 so
binding_later h later begins (bound.Buffer b) (bound.Buffer d) so = so
binding_later h later begins _ _ so = absurd so

pub names_later : (h later : History) → IsPrefix h later → (names names' : Names) → NamesAre h names names'
    → NamesAre later names names'
names_later h later begins names names' so n =
    binding_later h later begins (binding names n) (binding names' n) (so n)

words_later : (h later : History) → IsPrefix h later → (had told : ThreadWords) → WordsAre h had told
    → WordsAre later had told
words_later h later begins [] [] so = tt
words_later h later begins (x ∷ xs) (y ∷ ys) so =
    (so.0, handle_later h later begins x.1 y.1 so.1, words_later h later begins xs ys so.2)
words_later h later begins _ _ so = absurd so

-- while its thread stays within, the object of a level stands
pub level_later : (r : Room) (t : ℕ) (h later : History) → Stays r.config r.last r.whole t r.legal h later
    → IsPrefix later r.whole → (o j : ℕ) → LevelIs h o j → LevelIs later o j
level_later r t h later stays begins o j (inl none) = inl none
level_later r t h later stays begins o j (inr (x, at)) =
    let y = like_between r.config r.last r.whole t r.legal h later stays begins o j x at in inr (y.0, y.1)

pub levels_later : (r : Room) (t : ℕ) (h later : History) → Stays r.config r.last r.whole t r.legal h later
    → IsPrefix later r.whole → (os js : List ℕ) → LevelsAre h os js → LevelsAre later os js
levels_later r t h later stays begins [] [] so = tt
levels_later r t h later stays begins (o ∷ os) (j ∷ js) so =
    (level_later r t h later stays begins o j so.0, levels_later r t h later stays begins os js so.1)
levels_later r t h later stays begins _ _ so = absurd so

-- the object of the level of an index
pub level_at : (h : History) (os js : List ℕ) → LevelsAre h os js → (i : ℕ)
    → LevelIs h (nth_object os i) (nth_object js i)
level_at h [] [] so i = inl refl
level_at h (o ∷ os) (j ∷ js) so zero = so.0
level_at h (o ∷ os) (j ∷ js) so (suc i) = level_at h os js so.1 i
level_at h _ _ so i = absurd so

-- as many levels stand as are told
pub levels_long : (h : History) (os js : List ℕ) → LevelsAre h os js → length os ≡ length js
levels_long h [] [] are = refl
levels_long h (o ∷ os) (j ∷ js) are = ap suc (levels_long h os js are.1)
levels_long h _ _ are = absurd are

-- the object of a new level is the last
pub level_last : (os : List ℕ) (o : ℕ) → nth_object (os ++ o ∷ []) (length os) ≡ o
level_last [] o = refl
level_last (x ∷ os) o = level_last os o

-- WORDS THAT ARE HANDED IN, and answers

-- of the handle of each it holds
abbrev EachHandle : (Handle → Type 0) → List (Handle × Option Ref) → Type 0
EachHandle P xs = AllByRecursion (λ (e : Handle × Option Ref). P e.0) xs

-- and goes on to hold, where each keeps its handle
same_handles : (P : Handle → Type 0) (f : Handle × Option Ref → Option Ref) (xs : List (Handle × Option Ref))
    → EachHandle P xs → EachHandle P (map (λ e. (e.0, f e)) xs)
same_handles P f xs all = all_map (λ (e : Handle × Option Ref). (e.0, f e)) (λ (e : Handle × Option Ref). P e.0) xs all

at_all : {X : Type 0} (P : X → Type 0) (xs : List X) (i : ℕ) (x : X) → AllByRecursion P xs
    → slice_get xs i ≡ Some x → P x
at_all P [] i x all e = absurd cc
at_all P (y ∷ xs) zero x all e = subst P (some_same y x e) all.0
at_all P (y ∷ xs) (suc i) x all e = at_all P xs i x all.1 e

some_owner : (k : RefKind) → 0 < owner_limit k
some_owner Local = omega arith
some_owner Global = omega arith
some_owner Weak = omega arith

module _ (r : Room) where
  row_handle : (g : Handle) → IsInRow r.config r.last g → IsHandle g
  row_handle g row = record {
    serial = (let le = row.3 in let few = r.few in omega (arith, le, few));
    index = (let lt = row.2 in let slots = r.limits.slots.1 in omega (arith, lt, slots));
    owner = (let none = row.1 in let some = some_owner g.kind in omega (arith, none, some));
  }

  -- a handle of a place has a serial below the number of handles that the place gives in the whole history
  put_serial : (past : History) (t p o : ℕ) → IsPrefix (past ++ record { thread = t; act = LocalPut p o } ∷ []) r.whole
      → (births past).puts t p < suc r.last
  put_serial past t p o (rest, is) =
      let here : (births past).puts t p ≡ stored_at p (mine past t) = puts_are_own past t p in
      let now : stored_at p (mine (past ++ record { thread = t; act = LocalPut p o } ∷ []) t)
      ≡ stored_at p (mine past t) + stored_at p (LocalPut p o ∷ []) =
      ap (stored_at p) (mine_push past t (LocalPut p o)) ∙ stored_append p (mine past t) (LocalPut p o ∷ []) in
      let one : stored_at p (LocalPut p o ∷ []) ≡ 1 = ap (λ b. cond b 1 0 + 0) (eq_self p) in
      let all : stored_at p (mine r.whole t)
      ≡ stored_at p (mine (past ++ record { thread = t; act = LocalPut p o } ∷ []) t) + stored_at p (mine rest t) =
      ap (λ h. stored_at p (mine h t)) (sym is)
      ∙ ap (stored_at p) (mine_append (past ++ record { thread = t; act = LocalPut p o } ∷ []) rest t)
      ∙ stored_append p (mine (past ++ record { thread = t; act = LocalPut p o } ∷ []) t) (mine rest t) in
      let most = r.puts t p in
      omega (arith, here, now, one, all, most)

  handles_act : (past : History) (t : ℕ) (a : Act) → EachHandle IsHandle (births past).refs
      → IsPrefix (past ++ record { thread = t; act = a } ∷ []) r.whole → t < r.config.threads
      → ActNeeds r.config r.last (state past) t a → EachHandle IsHandle (born_by (births past) t a).refs
  handles_act past t (Create g o) all begins small n =
      append_all (λ (e : Handle × Option Ref). IsHandle e.0) (births past).refs _ all (row_handle g n.2, tt)
  handles_act past t (Delete g) all begins small n =
      same_handles IsHandle (λ e. cond (same_handle g e.0) None e.1) (births past).refs all
  handles_act past t (Clear g) all begins small n =
      same_handles IsHandle (λ e. cond (same_handle g e.0) (emptied e.1) e.1) (births past).refs all
  handles_act past t (LocalPut p o) all begins small n =
      append_all (λ (e : Handle × Option Ref). IsHandle e.0) (gone_where (is_at t p) (births past).refs) _
      (same_handles IsHandle (λ e. cond (is_at t p e.0) None e.1) (births past).refs all) (
        record {
          serial = (let le = put_serial past t p o begins in let few = r.few in omega (arith, le, few));
          index = (let lt = n.1 in let most = r.limits.locals.1 in omega (arith, lt, most));
          owner = (let most = r.limits.threads.1 in omega (arith, small, most));
        },
        tt,
      )
  handles_act past t (LocalDrop p) all begins small n =
      same_handles IsHandle (λ e. cond (is_at t p e.0) None e.1) (births past).refs all
  handles_act past t _ all begins small n = all

  handles_along : (past es : History) → EachHandle IsHandle (births past).refs → IsPrefix (past ++ es) r.whole
      → EachHandle IsHandle (births (past ++ es)).refs
  handles_along past [] all begins =
      subst (λ h. EachHandle IsHandle (births h).refs) (sym (append-nil past)) all
  handles_along past (e ∷ es) all begins =
      let split : (past ++ e ∷ []) ++ es ≡ past ++ e ∷ es = append_assoc past (e ∷ []) es in
      let first = prefix_trans (past ++ e ∷ []) (past ++ e ∷ es) r.whole (es, split) begins in
      let legal = front_legal r.config r.last r.whole e.thread r.legal (past ++ e ∷ []) first in
      let needs = ((legal_push r.config r.last past e).0 legal).1 in
      let here = handles_act past e.thread e.act all first needs.0 needs.1 in
      subst (λ h. EachHandle IsHandle (births h).refs) split (handles_along (past ++ e ∷ []) es
      (subst (λ (b : Births). EachHandle IsHandle b.refs) (sym (births_push past e)) here)
      (subst (λ h. IsPrefix h r.whole) (sym split) begins))

-- each handle that was born is one
pub born_handle : (r : Room) (h : History) → IsPrefix h r.whole → (i : ℕ) (g : Handle) (q : Option Ref)
    → slice_get (births h).refs i ≡ Some (g, q) → IsHandle g
born_handle r h begins i g q at = at_all (λ (e : Handle × Option Ref). IsHandle e.0) (births h).refs i (g, q)
    (handles_along r [] h tt begins) at

-- the word of a handle is not NULL
pub not_null : (g : Handle) → IsHandle g → handle_word g ≢ 0
not_null g is e = grind (arith, common_steps)

-- a word is read as what the number tells
pub read_is : (r : Room) (h : History) → IsPrefix h r.whole → (w n : ℕ) (a : Word) → IsReadAs w a → HandleIs h w n
    → WordIs h a n
read_is r h begins w zero Nothing reads is = refl
read_is r h begins w zero Malformed reads is = absurd (reads.0 is)
read_is r h begins w zero (Parts g) reads is = absurd (not_null g reads.0 (sym reads.1 ∙ is))
read_is r h begins w (suc i) Nothing reads (g, q, at, word) =
    absurd (not_null g (born_handle r h begins i g q at) (sym word ∙ reads))
read_is r h begins w (suc i) Malformed reads (g, q, at, word) =
    absurd (reads.1 g (born_handle r h begins i g q at) word)
read_is r h begins w (suc i) (Parts f) reads (g, q, at, word) =
    let born = born_handle r h begins i g q at in
    let same : g ≡ f = handle_word-injective g f born reads.0 (sym word ∙ reads.1) in
    (q, subst (λ z. slice_get (births h).refs i ≡ Some (z, q)) same at)

told_number : (h : History) (x : Handle) (n : ℕ) → WordIs h (Parts x) n → HandleIs h (handle_word x) n
told_number h x zero so = absurd so
told_number h x (suc i) (q, at) = (x, q, at, refl)

-- the handle that a call made is told by its number
pub packed_is : (h : History) (x : Handle) (y : HandleWord) → AnswerIs h handle x y → HandleIs h (packed x).0 y.0
packed_is h x y so = told_number h x y.0 so

pub packed_if_is : (h : History) (x : Option Handle) (y : Option HandleWord) → AnswerIs h (perhaps handle) x y
    → HandleIfIs h (packed_if x) y
packed_if_is h None None so = tt
packed_if_is h (Some x) (Some y) so = packed_is h x y so
packed_if_is h _ _ so = absurd so

-- WHAT IS DECIDED ALIKE

pub alike : {A : Type 0} (h : History) (x : Result A Fault) → AnswerSo (λ later (a b : A). a ≡ b) h x x
alike h (Ok a) = refl
alike h (Err e) = same_fault e

-- .. by two that are the same
alike_too : {A : Type 0} (h : History) (x y : Result A Fault) → x ≡ y → AnswerSo (λ later (a b : A). a ≡ b) h x y
alike_too h x y same = subst (λ z. AnswerSo (λ later a b. a ≡ b) h x z) same (alike h x)

-- a reply with neither a reference nor an object, by what is the same
pub plainly : {A : Type 0} (form : A → Reply) → ((x : A) → is_plain (form x) ≡ true) → (h : History) (x y : A) → x ≡ y
    → ReplyIs h (form x) (form y)
plainly form plain h x y same = subst (λ z. ReplyIs h (form x) (form z)) same (the_same (form x) (plain x))

-- what two bindings of a name tell alike
module _ (h : History) where
  wanted_alike : (b d : Binding) → BindingIs h b d
      → AnswerSo (λ later (w k : HandleWord). HandleIs later w.0 k.0) h (wanted b) (wanted d)
  wanted_alike bound.Nothing bound.Nothing is = refl
  wanted_alike (bound.Reference w) (bound.Reference k) is = is
  wanted_alike (bound.Buffer b) (bound.Buffer d) is = refl
  wanted_alike _ _ is = absurd is

  pub reference_is : (b d : Binding) → BindingIs h b d → AnswerSo HandleIfIs h (reference_in b) (reference_in d)
  reference_is bound.Nothing bound.Nothing is = tt
  reference_is (bound.Reference w) (bound.Reference k) is = is
  reference_is (bound.Buffer b) (bound.Buffer d) is = refl
  reference_is _ _ is = absurd is

  pub buffer_is : (b d : Binding) → BindingIs h b d
      → AnswerSo (λ later (x y : Copied). x ≡ y) h (buffer_in b) (buffer_in d)
  buffer_is bound.Nothing bound.Nothing is = refl
  buffer_is (bound.Reference w) (bound.Reference k) is = refl
  buffer_is (bound.Buffer b) (bound.Buffer d) is = is
  buffer_is _ _ is = absurd is

  pub got_is : (i : ℕ) (b d : Binding) → BindingIs h b d
      → AnswerSo (λ later (x y : ℤ). x ≡ y) h (getting i b) (getting i d)
  got_is i bound.Nothing bound.Nothing is = refl
  got_is i (bound.Reference w) (bound.Reference k) is = refl
  got_is i (bound.Buffer b) (bound.Buffer d) is = alike_too h _ _ (ap (λ x. getting i (bound.Buffer x)) is)
  got_is i _ _ is = absurd is

  pub put_is : (i : ℕ) (x : ℤ) (b d : Binding) → BindingIs h b d
      → AnswerSo (λ later (x y : Binding). Unit {0}) h (putting i x b) (putting i x d)
  put_is i x bound.Nothing bound.Nothing is = refl
  put_is i x (bound.Reference w) (bound.Reference k) is = refl
  put_is i x (bound.Buffer b) (bound.Buffer d) is = subst (λ z. AnswerSo (λ later (x y : Binding). Unit {0}) h
      (putting i x (bound.Buffer b)) (putting i x (bound.Buffer z))) is (done_so (putting i x (bound.Buffer b)))
    where
      done_so : (s : Result Binding Fault) → AnswerSo (λ later (x y : Binding). Unit {0}) h s s
      done_so (Ok s) = tt
      done_so (Err e) = same_fault e
  put_is i x _ _ is = absurd is

pub referent_is : (h : History) (names names' : Names) → NamesAre h names names' → (ref : Reference)
    → BindingIs h (referent names ref) (referent names' ref)
referent_is h names names' are refers.Null = refl
referent_is h names names' are (refers.Named n) = are n

-- the reference that a command wants
pub wanted_is : (h : History) (names names' : Names) → NamesAre h names names' → (ref : Reference)
    → AnswerSo (λ later (w k : HandleWord). HandleIs later w.0 k.0) h (wanted (referent names ref))
    (wanted (referent names' ref))
wanted_is h names names' are ref =
    wanted_alike h (referent names ref) (referent names' ref) (referent_is h names names' are ref)

-- BEHIND A COMMAND

pub stands_later : (h later : History) (p q : Place) (had told : ThreadWords) → IsPrefix h later
    → LevelsAre later p.objects q.objects → Stands h p q had told → Stands later p q had told
stands_later h later p q had told begins objects s = record {
  names = names_later h later begins p.names q.names s.names;
  levels = s.levels;
  objects = objects;
  words = words_later h later begins had told s.words;
}

-- what a name stands for once one is set
set_binding : (names : Names) (n m : List ℕ) (s : Binding)
    → binding (with_name names n s) m ≡ cond (is_eq (name_order m n)) s (binding names m)
set_binding names n m s = ap or_nothing (get-insert nat_list_cmp_total names n s m) ∙ go (is_eq (name_order m n))
  where
    go : (b : Bool) → or_nothing (cond b (Some s) (get names m)) ≡ cond b s (or_nothing (get names m))
    go true = refl
    go false = refl

module _ (h : History) where
  names_set_are : (names names' : Names) (n : List ℕ) (s t : Binding) → NamesAre h names names' → BindingIs h s t
      → NamesAre h (with_name names n s) (with_name names' n t)
  names_set_are names names' n s t are is m =
      subst (λ x. BindingIs h x (binding (with_name names' n t) m)) (sym (set_binding names n m s))
      (subst (BindingIs h (cond (is_eq (name_order m n)) s (binding names m))) (sym (set_binding names' n m t))
      (go (is_eq (name_order m n))))
    where
      go : (b : Bool) → BindingIs h (cond b s (binding names m)) (cond b t (binding names' m))
      go true = is
      go false = are m

  -- the word under a name is told, or there is none in both
  abbrev MaybeWord : Option ℕ → Option ℕ → Type 0
  MaybeWord None None = Unit {0}
  MaybeWord (Some a) (Some b) = HandleIs h a b
  MaybeWord _ _ = ⊥

  word_under_is : (xs ys : ThreadWords) (n : List ℕ) → WordsAre h xs ys
      → MaybeWord (word_under xs n) (word_under ys n)
  word_under_is [] [] n are = tt
  word_under_is (x ∷ xs) (y ∷ ys) n are =
      subst (λ m. MaybeWord (cond (bytes_eq n x.0) (Some x.1) (word_under xs n)) (cond (bytes_eq n m) (Some y.1)
      (word_under ys n))) are.0 (go (bytes_eq n x.0) (word_under_is xs ys n are.2))
    where
      go : (b : Bool) → MaybeWord (word_under xs n) (word_under ys n)
          → MaybeWord (cond b (Some x.1) (word_under xs n)) (cond b (Some y.1) (word_under ys n))
      go true rest = are.1
      go false rest = rest
  word_under_is _ _ n are = absurd are

  words_put : (xs ys : ThreadWords) (n : List ℕ) (a b : ℕ) → WordsAre h xs ys → HandleIs h a b
      → WordsAre h (xs ++ (n, a) ∷ []) (ys ++ (n, b) ∷ [])
  words_put [] [] n a b are one = (refl, one, tt)
  words_put (x ∷ xs) (y ∷ ys) n a b are one = (are.0, are.1, words_put xs ys n a b are.2 one)
  words_put _ _ n a b are one = absurd are

  -- one more word, where none stands under the name
  words_with_are : (xs ys : ThreadWords) (n : List ℕ) (a b : ℕ) → WordsAre h xs ys → HandleIs h a b
      → WordsAre h (words_with xs n a) (words_with ys n b)
  words_with_are xs ys n a b are one = go (word_under xs n) (word_under ys n) (word_under_is xs ys n are)
    where
      go : (x y : Option ℕ) → MaybeWord x y
          → WordsAre h (cond (is_some x) xs (xs ++ (n, a) ∷ [])) (cond (is_some y) ys (ys ++ (n, b) ∷ []))
      go None None same = words_put xs ys n a b are one
      go (Some x) (Some y) same = are
      go _ _ same = absurd same

  -- the word that is posted for a name
  posted_is : (s t : Binding) → BindingIs h s t → HandleIs h (word_of_reference s) (word_of_reference t)
  posted_is bound.Nothing bound.Nothing is = refl
  posted_is (bound.Reference a) (bound.Reference b) is = is
  posted_is (bound.Buffer b) (bound.Buffer d) is = refl
  posted_is _ _ is = absurd is

  -- WHAT IS PRINTED
  silent_made : (x : Command) (a b : Option HandleWord) → HandleIfIs h a b
      → says x (replies.Made a) ≡ says x (replies.Made b)
  silent_made x None None is = refl
  silent_made (commands.OfRoom v) (Some a) (Some b) is = refl
  silent_made _ (Some a) (Some b) is = refl
  silent_made x _ _ is = absurd is

  silent_level : (x : Command) (o j : ℕ) → says x (replies.Level o) ≡ says x (replies.Level j)
  silent_level (commands.OfRoom v) o j = refl
  silent_level _ o j = refl

  says_same : (x : Command) {a b : Reply} → ReplyIs h a b → says x a ≡ says x b
  says_same x (made_too {a = a} {b = b} is) = silent_made x a b is
  says_same x (level_too {o = o} {j = j} is) = silent_level x o j
  says_same x (the_same a plain) = refl

  -- of a reservation that was lost, and of a gate at which others moved, no count is printed
  refused_alike : (line : ℕ) (e d : Fault) → SameFault e d → refused line e ≡ refused line d
  refused_alike line (fault.Raced looked found) (fault.Raced noted now) same = refl
  refused_alike line (fault.Moved looked found) (fault.Moved noted now) same = refl
  refused_alike line e d same = ap (refused line) same

  -- WHAT NAMES STAND FOR
  set_are : (m n : Names) (name : Option (List ℕ)) (s t : Binding) → BindingIs h s t → NamesAre h m n
      → NamesAre h (names_with (Some s) name m) (names_with (Some t) name n)
  set_are m n None s t is names = names
  set_are m n (Some name) s t is names = names_set_are m n name s t names is

  made_are : (x : Command) {a b : Reply} → ReplyIs h a b → (m n : Names) → NamesAre h m n
      → NamesAre h (names_with (binding_made a) (sets x) m) (names_with (binding_made b) (sets x) n)
  made_are x (made_too {a = a} {b = b} is) m n names = go a b is
    where
      go : (a b : Option HandleWord) → HandleIfIs h a b
          → NamesAre h (names_with (binding_made (replies.Made a)) (sets x) m)
          (names_with (binding_made (replies.Made b)) (sets x) n)
      go None None is = set_are m n (sets x) (bound.Reference null) (bound.Reference null) refl names
      go (Some a) (Some b) is = set_are m n (sets x) (bound.Reference a) (bound.Reference b) is names
      go _ _ is = absurd is
  made_are x (level_too is) m n names = names
  made_are x (the_same a plain) m n names = go a plain
    where
      go : (a : Reply) → is_plain a ≡ true
          → NamesAre h (names_with (binding_made a) (sets x) m) (names_with (binding_made a) (sets x) n)
      go (replies.Made a) plain = absurd cc
      go (replies.Copied b) plain = set_are m n (sets x) (bound.Buffer b) (bound.Buffer b) refl names
      go _ plain = names

  put_are : (m n : Names) (name : List ℕ) (i : ℕ) (x : ℤ) (s t : Binding) → BindingIs h s t → NamesAre h m n
      → NamesAre h (names_put m name (putting i x s)) (names_put n name (putting i x t))
  put_are m n name i x bound.Nothing bound.Nothing is names = names
  put_are m n name i x (bound.Reference a) (bound.Reference b) is names = names
  put_are m n name i x (bound.Buffer b) (bound.Buffer d) is names =
      subst (λ e. NamesAre h (names_put m name (putting i x (bound.Buffer b)))
      (names_put n name (putting i x (bound.Buffer e)))) is (go (with_number b i x))
    where
      go : (r : Result Copied Fault) → NamesAre h (names_put m name (buffered r)) (names_put n name (buffered r))
      go (Ok e) = names_set_are m n name (bound.Buffer e) (bound.Buffer e) names refl
      go (Err e) = names
  put_are m n name i x _ _ is names = absurd is

  left_is : (mode : Mode) (a b : Reply) (s t : Binding) → BindingIs h s t
      → BindingIs h (left_by mode (Ok a) s) (left_by mode (Ok b) t)
  left_is Commit a b s t is = is
  left_is _ a b s t is = tt

  buffers_are : (x : Command) (a b : Reply) (m n : Names) → NamesAre h m n
      → NamesAre h (buffers_after x (Ok a) m) (buffers_after x (Ok b) n)
  buffers_are (commands.PutAt put_at.Put name i z) a b m n names =
      put_are m n name i z (binding m name) (binding n name) (names name) names
  buffers_are (commands.PutAt _ name i z) a b m n names = names
  buffers_are (commands.Release release.Elements name r mode) a b m n names =
      names_set_are m n name (left_by mode (Ok a) (binding m name)) (left_by mode (Ok b) (binding n name)) names
      (left_is mode a b (binding m name) (binding n name) (names name))
  buffers_are _ a b m n names = names

  names_are : (x : Command) (a b : Result Reply Fault) → AnswerSo ReplyIs h a b → (m n : Names)
      → NamesAre h m n → NamesAre h (names_after x a m) (names_after x b n)
  names_are x (Ok a) (Ok b) is m n names =
      made_are x is (buffers_after x (Ok a) m) (buffers_after x (Ok b) n) (buffers_are x a b m n names)
  names_are x (Err e) (Err d) is m n names = refused_are x
    where
      refused_are : (x : Command) → NamesAre h (names_after x (Err e) m) (names_after x (Err d) n)
      refused_are (commands.PutAt put_at.Put name i z) = names
      refused_are (commands.PutAt _ name i z) = names
      refused_are (commands.Release release.Elements name r mode) = names
      refused_are _ = names
  names_are x _ _ is m n names = absurd is

  -- WORDS that were posted or heard
  words_are : (x : Command) (a b : Result Reply Fault) → AnswerSo ReplyIs h a b → (m n : Names)
      → NamesAre h m n → (had told : ThreadWords) → WordsAre h had told
      → WordsAre h (words_after m x a had) (words_after n x b told)
  words_are (commands.OnName v name) a b is m n names had told words =
      words_with_are had told name (word_posted m name) (word_posted n name) words
      (posted_is (binding m name) (binding n name) (names name))
  words_are (commands.Make make.Wait name) (Ok a) (Ok b) is m n names had told words = go is
    where
      heard : (a b : Option HandleWord) → HandleIfIs h a b
          → WordsAre h (words_after m (commands.Make make.Wait name) (Ok (replies.Made a)) had)
          (words_after n (commands.Make make.Wait name) (Ok (replies.Made b)) told)
      heard None None is = words
      heard (Some a) (Some b) is = words_with_are had told name a.0 b.0 words is
      heard _ _ is = absurd is

      if_plain : (a : Reply) → is_plain a ≡ true
          → WordsAre h (words_after m (commands.Make make.Wait name) (Ok a) had)
          (words_after n (commands.Make make.Wait name) (Ok a) told)
      if_plain (replies.Made a) plain = absurd cc
      if_plain _ plain = words

      go : {a b : Reply} → ReplyIs h a b → WordsAre h (words_after m (commands.Make make.Wait name) (Ok a) had)
          (words_after n (commands.Make make.Wait name) (Ok b) told)
      go (made_too {a = a} {b = b} is) = heard a b is
      go (level_too is) = words
      go (the_same a plain) = if_plain a plain
  words_are (commands.Make make.Wait name) (Err e) (Err d) is m n names had told words = words
  words_are (commands.Make make.Wait name) _ _ is m n names had told words = absurd is
  words_are (commands.Make _ name) a b is m n names had told words = words
  words_are _ a b is m n names had told words = words

  -- THE LEVELS of a region
  levels_same : (x : Command) (a b : Result Reply Fault) → AnswerSo ReplyIs h a b → (levels : List (List ℕ))
      → levels_after x a levels ≡ levels_after x b levels
  levels_same (commands.OpenLevel v n r) (Ok a) (Ok b) is levels = go is
    where
      go : {a b : Reply} → ReplyIs h a b → levels_after (commands.OpenLevel v n r) (Ok a) levels
          ≡ levels_after (commands.OpenLevel v n r) (Ok b) levels
      go (made_too is) = refl
      go (level_too is) = refl
      go (the_same a plain) = refl
  levels_same (commands.OpenLevel v n r) (Err e) (Err d) is levels = refl
  levels_same (commands.CloseLevel v mode) (Ok a) (Ok b) is levels = refl
  levels_same (commands.CloseLevel v mode) (Err e) (Err d) is levels = refl
  levels_same (commands.OpenLevel v n r) _ _ is levels = absurd is
  levels_same (commands.CloseLevel v mode) _ _ is levels = absurd is
  levels_same _ a b is levels = refl

  levels_put : (os js : List ℕ) (o j : ℕ) → LevelsAre h os js → LevelIs h o j
      → LevelsAre h (os ++ o ∷ []) (js ++ j ∷ [])
  levels_put [] [] o j are one = (one, tt)
  levels_put (x ∷ os) (y ∷ js) o j are one = (are.0, levels_put os js o j are.1 one)
  levels_put _ _ o j are one = absurd are

  levels_less : (os js : List ℕ) → LevelsAre h os js → LevelsAre h (all_but_last os) (all_but_last js)
  levels_less [] [] are = tt
  levels_less (o ∷ []) (j ∷ []) are = tt
  levels_less (o ∷ u ∷ os) (j ∷ v ∷ js) are = (are.0, levels_less (u ∷ os) (v ∷ js) are.1)
  levels_less [] (j ∷ js) are = absurd are
  levels_less (o ∷ os) [] are = absurd are
  levels_less _ _ are = absurd are.1

  objects_are : (x : Command) (a b : Result Reply Fault) → AnswerSo ReplyIs h a b → (os js : List ℕ)
      → LevelsAre h os js → LevelsAre h (objects_after x a os) (objects_after x b js)
  objects_are (commands.OpenLevel v n r) (Ok a) (Ok b) is os js levels = go is
    where
      if_plain : (a : Reply) → is_plain a ≡ true → LevelsAre h (objects_after (commands.OpenLevel v n r) (Ok a) os)
          (objects_after (commands.OpenLevel v n r) (Ok a) js)
      if_plain (replies.Level o) plain = absurd cc
      if_plain _ plain = levels

      go : {a b : Reply} → ReplyIs h a b → LevelsAre h (objects_after (commands.OpenLevel v n r) (Ok a) os)
          (objects_after (commands.OpenLevel v n r) (Ok b) js)
      go (made_too is) = levels
      go (level_too {o = o} {j = j} is) = levels_put os js o j levels is
      go (the_same a plain) = if_plain a plain
  objects_are (commands.OpenLevel v n r) (Err e) (Err d) is os js levels = levels
  objects_are (commands.CloseLevel v mode) (Ok a) (Ok b) is os js levels = levels_less os js levels
  objects_are (commands.CloseLevel v mode) (Err e) (Err d) is os js levels = levels
  objects_are (commands.OpenLevel v n r) _ _ is os js levels = absurd is
  objects_are (commands.CloseLevel v mode) _ _ is os js levels = absurd is
  objects_are _ a b is os js levels = levels

pub stands_after : (h : History) (x : Command) (answer answer' : Result Reply Fault) (p q : Place)
    (had told : ThreadWords) → AnswerSo ReplyIs h answer answer' → Stands h p q had told
    → Stands h (place_after x answer p) (place_after x answer' q) (words_after p.names x answer had)
    (words_after q.names x answer' told)
stands_after h x answer answer' p q had told is s = record {
  names = names_are h x answer answer' is p.names q.names s.names;
  levels = levels_same h x answer answer' is p.levels ∙ ap (levels_after x answer') s.levels;
  objects = objects_are h x answer answer' is p.objects q.objects s.objects;
  words = words_are h x answer answer' is p.names q.names s.names had told s.words;
}

pub printed_alike : (h : History) (line : ℕ) (x : Command) (answer answer' : Result Reply Fault)
    → AnswerSo ReplyIs h answer answer' → printed line x answer ≡ printed line x answer'
printed_alike h line x (Ok a) (Ok b) is = says_same h x is
printed_alike h line x (Err e) (Err d) is = refused_alike h line e d is
printed_alike h line x _ _ is = absurd is
