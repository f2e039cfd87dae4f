-- THE CALLS THAT COMMANDS MAKE where no region stands are played, with their replies, and made again where they are
-- barred. So is what is decided before one, or between two.
use Rattle.std.proofs.Common.{◌≡◌, ◌<◌, ℕ, ℤ, zero, suc, true, Option, Some, None, List, [], ◌∷◌, Result, Ok, Err, refl}
use Rattle.std.proofs.Common.{sym, ap, subst, ◌∙◌, inl, inr}
use mathlib.Core.List.{IsPrefix}
use Rattle.jr_word.specs.declared.config.Config.{Config}
use Rattle.jr_word.specs.declared.fault.Fault.{Fault}
use Rattle.jr_word.specs.declared.fault.Fault.TheVariants.{Stale}
use Rattle.jr_word.specs.declared.handle.Handle.{Handle as HandleWord}
use Rattle.jr_word.specs.declared.handle.RefKind.{RefKind}
use Rattle.jr_word.specs.declared.handle.RefKind.TheVariants.{Local, Global, Weak}
use Rattle.jr_word.specs.declared.kind.Kind.{Kind}
use Rattle.jr_word.proofs.OneWord.{handle_word-injective}
use Rattle.jr_model.specs.declared.event.Act.{Act}
use Rattle.jr_model.specs.declared.frames.Mode.{Mode}
use Rattle.jr_model.specs.declared.frames.Mode.TheVariants.{Abort, Commit, Copy}
use Rattle.jr_model.specs.Checks.{Word, Nothing, Malformed, Parts, is_of_kind}
use Rattle.jr_model.specs.CallPrograms as programs
use Rattle.jr_model.specs.Frames.{Frames}
use Rattle.jr_model.specs.History.{Did, History}
use Rattle.jr_model.specs.Programs.{AnswerKind, AnswerOf, Program, at_both, handed_none, handed_one, handle, nothing}
use Rattle.jr_model.specs.Programs.{object_kind, perhaps}
use Rattle.jr_model.proofs.Moments.{prefix_trans}
use Rattle.jr_model.proofs.Updates.{kind_self}
use Rattle.jr_frames.specs.Reading.{IsReadAs}
use Rattle.jr_gate.specs.Performing.{ThreadState}
use Rattle.jr_env.specs.Deeds.{Deed, answered_by, call_apart, decided, done, kind_of, new_object_array}
use Rattle.jr_env.specs.Deeds.{release_array_elements, set_array_region, ◌>>=◌}
use Rattle.jr_env.specs.Requests.{making_steps, packed, packed_if}
use Rattle.jr_world.specs.Doing.{Doing, unless_refused, whatever}
use Rattle.jr_world.specs.Doing.Doing.{ended}
use Rattle.jr_world.specs.World.{MeantOf}
use Rattle.jr_world.specs.Playing.{AnswerIs, IsApt, WordIs}
use Rattle.jr_syntax.specs.declared.name.Reference.{Reference}
use Rattle.jr_syntax.specs.declared.verb.MakeFrom.{MakeFrom}
use Rattle.jr_syntax.specs.declared.verb.MakeFrom.TheVariants as make_from
use Rattle.jr_syntax.specs.declared.verb.OpenLevel.{OpenLevel}
use Rattle.jr_scripts.specs.declared.binding.Binding.{Binding}
use Rattle.jr_scripts.specs.declared.reply.Reply.{Reply}
use Rattle.jr_scripts.specs.declared.reply.Reply.TheVariants as replies
use Rattle.jr_scripts.specs.Buffers.{Copied, copy_of}
use Rattle.jr_scripts.specs.Commands.{copying_as, deleted_as, deleted_of, deletion, get_critical, loading_as}
use Rattle.jr_scripts.specs.Commands.{making_from, opening_by, storing_as, type_of}
use Rattle.jr_scripts.specs.Names.{Names, referent, wanted}
use Rattle.jr_scripts.specs.Numbers.{first_number, has_numbers, word_of_number}
use Rattle.jr_scripts.specs.Tries.{Tried}
use Rattle.jr_scripts.specs.Together.{in_reply, tried_in_steps}
use Rattle.jr_scripts.proofs.TogetherRun.Moments.{AnswerSo, DeedPlays, HandleIs, HasDid, IsPass, Meant, NamesAre}
use Rattle.jr_scripts.proofs.TogetherRun.Moments.{ReplyIs, Room, any_frames}
use Rattle.jr_scripts.proofs.TogetherRun.Moments.ReplyIs.{made_too}
use Rattle.jr_scripts.proofs.TogetherRun.Values.{alike, handle_later, names_later, not_null, packed_if_is, packed_is}
use Rattle.jr_scripts.proofs.TogetherRun.Values.{read_is, wanted_is}
use Rattle.jr_scripts.proofs.TogetherRun.AptPrograms.{deletion_apt, kind_apt, local_deletion_apt}
use Rattle.jr_scripts.proofs.TogetherRun.PlayedDeeds.{bind_did, bind_plays, decided_did, decided_plays, formed_did}
use Rattle.jr_scripts.proofs.TogetherRun.PlayedDeeds.{replied_plays, told_plays, tried_did, tried_plays}
use Rattle.jr_scripts.proofs.TogetherRun.PlayedCalls.{apart_did, apart_refused, entering, entering_did}
use Rattle.jr_scripts.proofs.TogetherRun.PlayedCalls.{entering_in_steps, entering_none_plays, entering_on}
use Rattle.jr_scripts.proofs.TogetherRun.PlayedCalls.{entering_on_both, entering_on_both_did, entering_on_both_plays}
use Rattle.jr_scripts.proofs.TogetherRun.PlayedCalls.{entering_on_both_refused, entering_on_did, entering_on_plays}
use Rattle.jr_scripts.proofs.TogetherRun.PlayedCalls.{entering_on_refused, entering_refused, opening_did}
use Rattle.jr_scripts.proofs.TogetherRun.PlayedCalls.{opening_refused, releasing_did, releasing_refused}

one_fault : {A : Type 0} (e d : Fault) → ◌≡◌ {A = Result A Fault} (Err e) (Err d) → e ≡ d
one_fault e d same = cc

-- THE KIND OF A WORD

-- a word is read as one thing
one_reading : (w : ℕ) (a b : Word) → IsReadAs w a → IsReadAs w b → a ≡ b
one_reading w Nothing Nothing one two = refl
one_reading w Nothing Malformed one two = absurd (two.0 one)
one_reading w Nothing (Parts h) one two = absurd (not_null h two.0 (sym two.1 ∙ one))
one_reading w Malformed Nothing one two = absurd (one.0 two)
one_reading w Malformed Malformed one two = refl
one_reading w Malformed (Parts h) one two = absurd (one.1 h two.0 two.1)
one_reading w (Parts g) Nothing one two = absurd (not_null g one.0 (sym one.1 ∙ two))
one_reading w (Parts g) Malformed one two = absurd (two.1 g one.0 one.1)
one_reading w (Parts g) (Parts h) one two =
    ap (λ x. Parts x) (handle_word-injective g h one.0 two.0 (sym one.1 ∙ two.1))

-- the kind of a reference that is handed in, that of a local one for NULL
abbrev kind_handed : Word → RefKind
kind_handed (Parts h) = h.kind
kind_handed _ = Local

own_kind : (a : Word) → is_of_kind (kind_handed a) a ≡ true
own_kind Nothing = refl
own_kind Malformed = refl
own_kind (Parts h) = kind_self h.kind

-- each reading of one word has the same
handed_alike : (w : ℕ) (a b : Word) → IsReadAs w a → IsReadAs w b → is_of_kind (kind_handed a) b ≡ true
handed_alike w a b one two =
    subst (λ x. is_of_kind (kind_handed a) x ≡ true) (one_reading w a b one two) (own_kind a)

none_malformed : (h : History) (n : ℕ) → WordIs h Malformed n → ⊥
none_malformed h zero is = is
none_malformed h (suc i) is = is

module _ (r : Room) (t : ℕ) (small : t < r.config.threads) (turns : ℕ) where
  -- A CALL does acts of its thread, and no refusal of it changes the frames
  pub record IsCall {A : Type 0} (one : Deed A) : Type 0 where
    pub did : HasDid r t one
    pub refused : (old new : ThreadState) (e : Fault) → IsPass r.config r.last t old.pass → one old (Err e) new
        → new.frames ≡ old.frames

  -- .. answered in another form
  formed_call : {A B : Type 0} (form : A → B) {one : Deed A} → IsCall one → IsCall (answered_by form one)
  formed_call {A} {B} form {one} call = record {
    did = formed_did r t form {deed = one} call.did;
    refused = refused;
  }
    where
      refused : (old new : ThreadState) (e : Fault) → IsPass r.config r.last t old.pass
          → answered_by form one old (Err e) new → new.frames ≡ old.frames
      refused old new e pass (inl d) = let bad : Err e ≡ Ok (form d.0) = d.3.0 in absurd cc
      refused old new e pass (inr d) =
          call.refused old new e pass (subst (λ x. one old (Err x) new) (sym (one_fault e d.0 d.1)) d.2)

  none_call : {n : ℕ} {a : AnswerKind} (silent : Config → ℕ) (p : Program n a)
      → IsCall (entering r t small p silent handed_none)
  none_call silent p = record {
    did = entering_did r t small p silent handed_none;
    refused = entering_refused r t small p silent handed_none;
  }

  one_call : {n : ℕ} {a : AnswerKind} (silent : Config → ℕ) (p : Program n a) (w : ℕ)
      → IsCall (entering_on r t small p silent w)
  one_call silent p w =
      record { did = entering_on_did r t small p silent w; refused = entering_on_refused r t small p silent w }

  both_call : {n : ℕ} {a : AnswerKind} (silent : Config → ℕ) (p : Program n a) (v w : ℕ)
      → IsCall (entering_on_both r t small p silent v w)
  both_call silent p v w = record {
    did = entering_on_both_did r t small p silent v w;
    refused = entering_on_both_refused r t small p silent v w;
  }

  pub apart_call : {n : ℕ} {a : AnswerKind} (p : Program n a) → IsCall (call_apart p)
  apart_call p = record { did = apart_did r t small p; refused = apart_refused r t small p }

  pub opening_call : (v : OpenLevel) (w : ℕ) → IsCall (opening_by v w)
  opening_call v w = record {
    did = λ old new answer pass d. opening_did r t small (get_critical v 0) w old new answer pass (d.0, d.1, d.2);
    refused = λ old new e pass d. opening_refused r t small (get_critical v 0) w old new e pass (d.0, d.1, d.2);
  }

  pub back_call : (kind : Kind) (w : ℕ) (vs : List ℕ) (mode : Mode) → IsCall (release_array_elements kind w vs mode)
  back_call kind w vs Copy = record {
    did = releasing_did r t small None (programs.release_array_elements kind vs) w;
    refused = releasing_refused r t small None (programs.release_array_elements kind vs) w;
  }
  back_call kind w vs Commit = record {
    did = releasing_did r t small (Some vs) (programs.release_array_elements kind vs) w;
    refused = releasing_refused r t small (Some vs) (programs.release_array_elements kind vs) w;
  }
  back_call kind w vs Abort = record {
    did = decided_did r t (Ok None);
    refused = λ old new e pass d. absurd (let bad : Err e ≡ Ok None = d.0 in cc);
  }

  -- A CALL, AND ITS REPLY
  pub replied_did : {A : Type 0} (form : A → Reply) {one : Deed A} → IsCall one
      → HasDid r t (answered_by form (Tried one turns))
  replied_did form {one} call = formed_did r t form {deed = Tried one turns} (tried_did r t {one = one} turns call.did)

  pub asks : {A A' : Type 0} {h : History} {F : Frames → Type 0} {V : History → A → A' → Type 0} {one : Deed A}
      {d : Doing A'} (form : A → Reply) (form' : A' → Reply) → IsCall one
      → ((later : History) (x : A) (y : A') → V later x y → ReplyIs later (form x) (form' y))
      → ((later : History) → IsPrefix h later → DeedPlays r t later F V one d)
      → DeedPlays r t h F ReplyIs (answered_by form (Tried one turns)) (in_reply form' (tried_in_steps turns d))
  asks {A} {A'} {h} {F} {V} {one} {d} form form' call is plays = replied_plays r t {V = V} form form'
      (tried_did r t {one = one} turns call.did) is (tried_plays r t turns call.did call.refused plays)

  -- what is decided, and what follows
  pub behind_decided : {A A' B B' : Type 0} {h : History} {F : Frames → Type 0} (V : History → A → A' → Type 0)
      {U : History → B → B' → Type 0} (x : Result A Fault) (y : Result A' Fault) {next : A → Deed B}
      {next' : A' → Doing B'} → ((later : History) → IsPrefix h later → AnswerSo V later x y)
      → ((a : A) → HasDid r t (next a))
      → ((later : History) → IsPrefix h later → IsPrefix later r.whole → (a : A) (b : A') → V later a b
      → DeedPlays r t later F U (next a) (next' b))
      → DeedPlays r t h F U (decided x >>= next) (whatever (ended y) (unless_refused next'))
  behind_decided {A} {A'} {B} {B'} {h} {F} V {U} x y {next} {next'} so did rest = bind_plays r t {F = F} {F' = F}
      {V = V} {U = U} {first = decided x} {first' = ended y} {next = next} {next' = next'} (decided_did r t x) did
      (decided_plays r t x y so) (λ old mid a pass d f. subst (λ (z : ThreadState). F z.frames) (sym d.1) f)
      (λ old mid a b acts later pass d has saw begins since own is. rest later since begins a b is)

  -- a reference that is wanted, and what follows
  pub wanted_did : {A : Type 0} {next : HandleWord → Deed A} (b : Binding) → ((w : HandleWord) → HasDid r t (next w))
      → HasDid r t (decided (wanted b) >>= next)
  wanted_did {A} {next} b rest =
      bind_did r t {first = decided (wanted b)} {next = next} (decided_did r t (wanted b)) rest

  pub for_wanted : {A A' : Type 0} {h : History} {F : Frames → Type 0} {U : History → A → A' → Type 0}
      {next : HandleWord → Deed A} {next' : HandleWord → Doing A'} (names names' : Names) → NamesAre h names names'
      → (ref : Reference) → ((w : HandleWord) → HasDid r t (next w))
      → ((later : History) → IsPrefix h later → IsPrefix later r.whole → (w k : HandleWord) → HandleIs later w.0 k.0
      → DeedPlays r t later F U (next w) (next' k))
      → DeedPlays r t h F U (decided (wanted (referent names ref)) >>= next)
      (whatever (ended (wanted (referent names' ref))) (unless_refused next'))
  for_wanted {A} {A'} {h} names names' are ref did rest =
      behind_decided (λ later (w k : HandleWord). HandleIs later w.0 k.0) (wanted (referent names ref))
      (wanted (referent names' ref)) (λ later since.
      wanted_is later names names' (names_later h later since names names' are) ref) did rest

  -- a kind with numbers, and what follows
  numbers_did : {next : Deed Reply} (kind : Kind) → HasDid r t next
      → HasDid r t (decided (has_numbers kind) >>= (λ u. next))
  numbers_did {next} kind rest = bind_did r t {first = decided (has_numbers kind)} {next = λ u. next}
      (decided_did r t (has_numbers kind)) (λ u. rest)

  pub kinds_did : {next : Kind → Deed Reply} (w : ℕ) → ((kind : Kind) → HasDid r t (next kind))
      → HasDid r t (Tried (kind_of w) turns >>= (λ kind. decided (has_numbers kind) >>= (λ u. next kind)))
  kinds_did {next} w rest = bind_did r t {first = Tried (kind_of w) turns}
      {next = λ kind. decided (has_numbers kind) >>= (λ u. next kind)}
      (tried_did r t {one = kind_of w} turns (one_call (λ c. 1) programs.kind_of w).did)
      (λ kind. numbers_did {next = next kind} kind (rest kind))

  pub for_numbers : {h : History} {F : Frames → Type 0} {next : Kind → Deed Reply} {next' : Kind → Doing Reply}
      (w k : ℕ) → HandleIs h w k → ((kind : Kind) → HasDid r t (next kind))
      → ((later : History) → IsPrefix h later → (kind : Kind)
      → DeedPlays r t later any_frames ReplyIs (next kind) (next' kind))
      → DeedPlays r t h F ReplyIs
      (Tried (kind_of w) turns >>= (λ kind. decided (has_numbers kind) >>= (λ u. next kind)))
      (whatever (tried_in_steps turns (entering_in_steps r t small programs.kind_of (at_both k 0)))
      (unless_refused (λ kind. whatever (ended (has_numbers kind)) (unless_refused (λ u. next' kind)))))
  for_numbers {h} {F} {next} {next'} w k is did rest = bind_plays r t {F = F} {F' = any_frames}
      {V = Meant r t object_kind} {U = ReplyIs} {first = Tried (kind_of w) turns}
      {first' = tried_in_steps turns (entering_in_steps r t small programs.kind_of (at_both k 0))}
      {next = λ kind. decided (has_numbers kind) >>= (λ u. next kind)}
      {next' = λ kind. whatever (ended (has_numbers kind)) (unless_refused (λ u. next' kind))}
      (tried_did r t {one = kind_of w} turns call.did) (λ kind. numbers_did {next = next kind} kind (did kind))
      (tried_plays r t turns call.did call.refused (λ later since.
      entering_on_plays r t small programs.kind_of (λ c. 1) w k (handle_later h later since w k is)
      (λ b f reads left. kind_apt r.last f (handed_one b))))
      (λ old mid x pass d f. tt)
      (λ old mid x y acts later pass d has saw begins since own same. subst (λ z. DeedPlays r t later any_frames ReplyIs
      (decided (has_numbers x) >>= (λ u. next x)) (whatever (ended (has_numbers z)) (unless_refused (λ u. next' z))))
      same (behind_decided (λ m (u v : Unit {0}). u ≡ v) (has_numbers x) (has_numbers x)
      (λ m after. alike m (has_numbers x)) (λ u. did x)
      (λ m after ends u v e. rest m (prefix_trans h later m since after) x)))
    where
      call : IsCall (kind_of w)
      call = one_call (λ c. 1) programs.kind_of w

  -- A CALL THAT REFERS answers a reference, or NULL
  pub refers_by : {h : History} {F : Frames → Type 0} (silent : Config → ℕ) (p : Program 0 (perhaps handle)) (w k : ℕ)
      → HandleIs h w k → ((b : Word) (f : Frames) → F f → IsApt r.last f (handed_one b) p)
      → DeedPlays r t h F ReplyIs
      (answered_by (λ x. replies.Made x) (Tried (answered_by packed_if (entering_on r t small p silent w)) turns))
      (in_reply (λ x. replies.Made x) (tried_in_steps turns (entering_in_steps r t small p (at_both k 0))))
  refers_by {h} {F} silent p w k is apt = asks (λ x. replies.Made x) (λ x. replies.Made x)
      (formed_call packed_if (one_call silent p w)) (λ later x y so. made_too so)
      (λ later since. told_plays r t {V = Meant r t (perhaps handle)} packed_if (entering_on_did r t small p silent w)
      packed_if_is (entering_on_plays r t small p silent w k (handle_later h later since w k is)
      (λ b f reads left. apt b f left)))

  -- A CALL THAT MAKES an object, and answers a reference to it, handed none or one
  pub makes_by : {h : History} {F : Frames → Type 0} {n : ℕ} (silent : Config → ℕ) (p : Program n handle)
      → ((f : Frames) → F f → IsApt r.last f handed_none p)
      → DeedPlays r t h F ReplyIs
      (answered_by (λ x. replies.Made (Some x)) (Tried (answered_by packed (entering r t small p silent handed_none))
      turns)) (in_reply (λ x. replies.Made (Some x)) (tried_in_steps turns
      (entering_in_steps r t small p (at_both 0 0))))
  makes_by {h} {F} silent p apt = asks (λ x. replies.Made (Some x)) (λ x. replies.Made (Some x))
      (formed_call packed (none_call silent p)) (λ later x y so. made_too so)
      (λ later since. told_plays r t {V = Meant r t handle} packed (entering_did r t small p silent handed_none)
      packed_is (entering_none_plays r t small p silent apt))

  pub fills_by : {h : History} {F : Frames → Type 0} {n : ℕ} (silent : Config → ℕ) (p : Program n handle) (w k : ℕ)
      → HandleIs h w k → ((b : Word) (f : Frames) → F f → IsApt r.last f (handed_one b) p)
      → DeedPlays r t h F ReplyIs
      (answered_by (λ x. replies.Made (Some x)) (Tried (answered_by packed (entering_on r t small p silent w)) turns))
      (in_reply (λ x. replies.Made (Some x)) (tried_in_steps turns (entering_in_steps r t small p (at_both k 0))))
  fills_by {h} {F} silent p w k is apt = asks (λ x. replies.Made (Some x)) (λ x. replies.Made (Some x))
      (formed_call packed (one_call silent p w)) (λ later x y so. made_too so)
      (λ later since. told_plays r t {V = Meant r t handle} packed (entering_on_did r t small p silent w)
      packed_is (entering_on_plays r t small p silent w k (handle_later h later since w k is)
      (λ b f reads left. apt b f left)))

  -- A CALL ABOUT A REFERENCE
  pub tells_by : {h : History} {F : Frames → Type 0} {a : AnswerKind} (silent : Config → ℕ) (p : Program 0 a) (w k : ℕ)
      (form : AnswerOf a → Reply) (form' : MeantOf a → Reply)
      → ((later : History) (x : AnswerOf a) (y : MeantOf a) → AnswerIs later a x y → ReplyIs later (form x) (form' y))
      → HandleIs h w k → ((b : Word) (f : Frames) → F f → IsApt r.last f (handed_one b) p)
      → DeedPlays r t h F ReplyIs (answered_by form (Tried (entering_on r t small p silent w) turns))
      (in_reply form' (tried_in_steps turns (entering_in_steps r t small p (at_both k 0))))
  tells_by {h} {F} {a} silent p w k form form' so is apt = asks {V = Meant r t a} form form' (one_call silent p w) so
      (λ later since. entering_on_plays r t small p silent w k (handle_later h later since w k is)
      (λ b f reads left. apt b f left))

  pub tells_both : {h : History} {F : Frames → Type 0} {a : AnswerKind} (silent : Config → ℕ) (p : Program 0 a)
      (v w i k : ℕ) (form : AnswerOf a → Reply) (form' : MeantOf a → Reply)
      → ((later : History) (x : AnswerOf a) (y : MeantOf a) → AnswerIs later a x y → ReplyIs later (form x) (form' y))
      → HandleIs h v i → HandleIs h w k → ((b d : Word) (f : Frames) → F f → IsApt r.last f (at_both b d) p)
      → DeedPlays r t h F ReplyIs (answered_by form (Tried (entering_on_both r t small p silent v w) turns))
      (in_reply form' (tried_in_steps turns (entering_in_steps r t small p (at_both i k))))
  tells_both {h} {F} {a} silent p v w i k form form' so one two apt = asks {V = Meant r t a} form form'
      (both_call silent p v w) so (λ later since. entering_on_both_plays r t small p silent v w i k
      (handle_later h later since v i one) (handle_later h later since w k two)
      (λ b d f reads reads' left. apt b d f left))

  -- A REFERENCE IS GIVEN UP, by the call of its kind
  deleted_did : (kind : RefKind) (w : ℕ) → HasDid r t (deleted_of turns kind w)
  deleted_did Local w = tried_did r t turns (one_call (λ c. 0) programs.delete_local_ref w).did
  deleted_did Global w = tried_did r t turns (one_call (λ c. 0) (programs.delete_reference Global) w).did
  deleted_did Weak w = tried_did r t turns (one_call (λ c. 0) (programs.delete_reference Weak) w).did

  pub deletion_did : (w : ℕ) → HasDid r t (deletion turns w)
  deletion_did w old new answer pass d = go d.0 d.2
    where
      go : (a : Word) → deleted_as turns w a old answer new → (acts : List Act) × Did old.pass new.pass acts
      go Nothing d = deleted_did Local w old new answer pass d
      go (Parts a) d = deleted_did a.kind w old new answer pass d
      go Malformed d = decided_did r t {A = Unit {0}} (Err Stale) old new answer pass d

  abbrev pub deletes_in_steps : ℕ → Doing (Unit {0})
  deletes_in_steps k = tried_in_steps turns (entering_in_steps r t small programs.delete_local_ref (at_both k 0))

  module _ {h : History} {F : Frames → Type 0} (begins : IsPrefix h r.whole) (w k : ℕ) (is : HandleIs h w k) where
    deleted_by : (p : Program 0 nothing) → ((b : Word) (f : Frames) → IsReadAs w b → IsApt r.last f (handed_one b) p)
        → DeedPlays r t h F (Meant r t nothing) (Tried (entering_on r t small p (λ c. 0) w) turns)
        (tried_in_steps turns (entering_in_steps r t small p (at_both k 0)))
    deleted_by p apt = tried_plays r t turns call.did call.refused (λ later since. entering_on_plays r t small p
        (λ c. 0) w k (handle_later h later since w k is) (λ b f reads left. apt b f reads))
      where
        call : IsCall (entering_on r t small p (λ c. 0) w)
        call = one_call (λ c. 0) p w

    deleted_plays : (kind : RefKind) → ((b : Word) → IsReadAs w b → is_of_kind kind b ≡ true)
        → DeedPlays r t h F (Meant r t nothing) (deleted_of turns kind w) (deletes_in_steps k)
    deleted_plays Local apt = deleted_by programs.delete_local_ref
        (λ b f reads. local_deletion_apt r.last f (handed_one b) (apt b reads))
    deleted_plays Global apt = deleted_by (programs.delete_reference Global)
        (λ b f reads. deletion_apt r.last f (handed_one b) Global (λ e. cc) (apt b reads))
    deleted_plays Weak apt = deleted_by (programs.delete_reference Weak)
        (λ b f reads. deletion_apt r.last f (handed_one b) Weak (λ e. cc) (apt b reads))

    pub deletion_plays : DeedPlays r t h F (Meant r t nothing) (deletion turns w) (deletes_in_steps k)
    deletion_plays = record {
      plays = λ old new past answer acts behind pass d. (go d.0 d.1).plays old new past answer acts behind pass d.2;
    }
      where
        go : (a : Word) → IsReadAs w a
            → DeedPlays r t h F (Meant r t nothing) (deleted_as turns w a) (deletes_in_steps k)
        go Nothing one = deleted_plays Local (λ b two. handed_alike w Nothing b one two)
        go (Parts a) one = deleted_plays a.kind (λ b two. handed_alike w (Parts a) b one two)
        go Malformed one = absurd (none_malformed h k (read_is r h begins w k Malformed one is))

  -- COMMANDS ABOUT WHAT A WORD NAMES do acts of the thread

  pub referring_did : (silent : Config → ℕ) (p : Program 0 (perhaps handle)) (w : ℕ) → HasDid r t (answered_by
      (λ x. replies.Made x) (Tried (answered_by packed_if (entering_on r t small p silent w)) turns))
  referring_did silent p w = replied_did (λ x. replies.Made x) (formed_call packed_if (one_call silent p w))

  pub making_did : {n : ℕ} (silent : Config → ℕ) (p : Program n handle) → HasDid r t (answered_by
      (λ x. replies.Made (Some x)) (Tried (answered_by packed (entering r t small p silent handed_none)) turns))
  making_did silent p = replied_did (λ x. replies.Made (Some x)) (formed_call packed (none_call silent p))

  pub filling_did : (len w : ℕ) → HasDid r t (answered_by (λ x. replies.Made (Some x))
      (Tried (new_object_array len w) turns))
  filling_did len w = replied_did (λ x. replies.Made (Some x))
      (formed_call packed (one_call (making_steps len) (programs.new_object_array len) w))

  pub copied_did : (w : ℕ) (kind : Kind) → HasDid r t (copying_as turns w kind)
  copied_did w kind = replied_did (λ ws. replies.Copied (copy_of kind ws))
      (one_call (λ c. 1) (programs.get_array_elements kind) w)

  pub from_did : (v : MakeFrom) (w : ℕ) → HasDid r t (making_from turns v w)
  from_did make_from.Global w = referring_did (λ c. 0) (programs.new_reference Global) w
  from_did make_from.Weak w = referring_did (λ c. 0) (programs.new_reference Weak) w
  from_did make_from.Local w = referring_did (λ c. 0) programs.new_local_ref w
  from_did make_from.Pop w = referring_did (λ c. 0) programs.pop_local_frame w
  from_did make_from.Elements w = kinds_did w (copied_did w)

  pub typed_did : (w : Option HandleWord) → HasDid r t (answered_by (λ n. replies.«Type» n) (type_of turns w))
  typed_did None = formed_did r t (λ n. replies.«Type» n) {deed = done 0} (decided_did r t (Ok 0))
  typed_did (Some w) = replied_did (λ n. replies.«Type» n) (one_call (λ c. 0) programs.get_object_ref_type w.0)

  pub telling_did : {a : AnswerKind} (p : Program 0 a) (form : AnswerOf a → Reply) (w : ℕ)
      → HasDid r t (answered_by form (Tried (entering_on r t small p (λ c. 1) w) turns))
  telling_did p form w = replied_did form (one_call (λ c. 1) p w)

  pub loaded_did : (w i : ℕ) (kind : Kind) → HasDid r t (loading_as turns w i kind)
  loaded_did w i kind = telling_did (programs.get_array_region kind i 1) (λ ws. replies.Value (first_number kind ws)) w

  pub written_did : (w i : ℕ) (kind : Kind) (word : ℕ)
      → HasDid r t (answered_by (λ u. replies.Done) (Tried (set_array_region kind w i (word ∷ [])) turns))
  written_did w i kind word = telling_did (programs.set_array_region kind i (word ∷ [])) (λ u. replies.Done) w

  pub stored_did : (w i : ℕ) (x : ℤ) (kind : Kind) → HasDid r t (storing_as turns w i x kind)
  stored_did w i x kind = bind_did r t {first = decided (word_of_number kind x)}
      {next = λ word. answered_by (λ u. replies.Done) (Tried (set_array_region kind w i (word ∷ [])) turns)}
      (decided_did r t (word_of_number kind x)) (written_did w i kind)

  pub both_told_did : {a : AnswerKind} (silent : Config → ℕ) (p : Program 0 a) (form : AnswerOf a → Reply) (v w : ℕ)
      → HasDid r t (answered_by form (Tried (entering_on_both r t small p silent v w) turns))
  both_told_did silent p form v w = replied_did form (both_call silent p v w)

  pub back_did : (b : Copied) (mode : Mode) (w : ℕ)
      → HasDid r t (answered_by (λ u. replies.Done) (Tried (release_array_elements b.kind w b.words mode) turns))
  back_did b mode w = replied_did (λ u. replies.Done) (back_call b.kind w b.words mode)

  pub opened_did : (v : OpenLevel) (w : ℕ) → HasDid r t (Tried (opening_by v w) turns)
  opened_did v w = tried_did r t {one = opening_by v w} turns (opening_call v w).did

-- of three deeds in a row the first two may be one
pub regrouped : {A B C : Type 0} (first : Deed A) (next : A → Deed B) (last : B → Deed C) (old new : ThreadState)
    (answer : Result C Fault) → ((first >>= next) >>= last) old answer new
    → (first >>= (λ x. next x >>= last)) old answer new
regrouped first next last old new answer (inl (y, mid, inl (x, early, d, e), f)) =
    inl (x, early, d, inl (y, mid, e, f))
regrouped first next last old new answer (inl (y, mid, inr (e, bad, d), f)) = absurd cc
regrouped first next last old new answer (inr (e, is, inl (x, early, d, f))) = inl (x, early, d, inr (e, is, f))
regrouped first next last old new answer (inr (e, is, inr (e', same, d))) =
    inr (e', is ∙ ap (λ z. Err z) (one_fault e e' same), d)
