-- WHAT COMMANDS DO IN A REGION is played, in the stay that stands; and where a region begins and ends.
use Rattle.std.proofs.Common.{◌≡◌, ◌≢◌, ◌<◌, ℕ, ℤ, zero, suc, false, inl, inr, List, [], ◌∷◌, ◌++◌, map, length, Result}
use Rattle.std.proofs.Common.{Ok, Err, refl, sym, ap, subst, ◌∙◌, append-nil}
use Rattle.std.specs.List.{AllByRecursion}
use Rattle.jr_word.specs.declared.config.Config.{Config}
use Rattle.jr_word.specs.declared.fault.Fault.{Fault}
use Rattle.jr_word.specs.declared.fault.Fault.TheVariants.{InCritical}
use Rattle.jr_word.specs.declared.handle.Handle.{Handle as HandleWord}
use Rattle.jr_word.specs.declared.kind.Kind.{Kind}
use Rattle.jr_model.specs.declared.event.Act.{Act}
use Rattle.jr_model.specs.declared.event.Act.TheVariants.{Gate}
use Rattle.jr_model.specs.declared.event.GateAct.TheVariants.{Leave}
use Rattle.jr_model.specs.declared.event.Role.TheVariants.{Within}
use Rattle.jr_model.specs.declared.frames.Mode.{Mode}
use Rattle.jr_model.specs.Frames.{Frames}
use Rattle.jr_model.specs.History.{Did, History, by, mine, state}
use Rattle.jr_model.specs.Checks.{Word, Nothing}
use Rattle.jr_model.specs.Parts.{region_release}
use Rattle.jr_model.specs.Programs.{AnswerKind, Program, at_both, handed_none, handed_one, none_known, number}
use Rattle.jr_model.specs.Programs.{at_object, nothing, object, work_of}
use Rattle.jr_model.specs.CallPrograms.{region_get, region_kind, region_set}
use Rattle.jr_model.proofs.Histories.{mine_append, mine_push}
use Rattle.jr_model.proofs.Lawful.{NoLeave}
use Rattle.jr_critical.specs.Levels.{opened_by}
use Rattle.jr_frames.specs.Reading.{IsReadAs}
use Rattle.jr_gate.specs.Performing.{ThreadState}
use Rattle.jr_env.specs.Deeds.{Deed, answered_by, decided, done, within_by, ◌>>=◌}
use Rattle.jr_world.specs.World.{MeantOf, all_but_last}
use Rattle.jr_world.specs.Doing.{Doing, Noted, ended, go_out, program_steps, step, unless_refused, whatever}
use Rattle.jr_world.specs.Plays.{Plays}
use Rattle.jr_world.specs.Plays.Plays.{has_ended}
use Rattle.jr_world.specs.Playing.{HasComeTo, IsApt}
use Rattle.jr_world.proofs.GatePlays.{leaves_plays}
use Rattle.jr_world.proofs.Standing.{is_of_gate, still_within}
use Rattle.one_order.specs.Orders.{Item}
use Rattle.one_order.specs.Orders.Item.{does as acting}
use Rattle.jr_syntax.specs.declared.name.Reference.{Reference}
use Rattle.jr_syntax.specs.declared.command.Command.{Command}
use Rattle.jr_syntax.specs.declared.command.Command.TheVariants as commands
use Rattle.jr_syntax.specs.declared.verb.CloseLevel.{CloseLevel}
use Rattle.jr_syntax.specs.declared.verb.Make.TheVariants as make
use Rattle.jr_syntax.specs.declared.verb.OnName.TheVariants as on_name
use Rattle.jr_syntax.specs.declared.verb.OnNameAt.TheVariants as on_name_at
use Rattle.jr_syntax.specs.declared.verb.OpenLevel.{OpenLevel}
use Rattle.jr_syntax.specs.declared.verb.OpenLevel.TheVariants as at
use Rattle.jr_syntax.specs.declared.verb.PutAt.TheVariants as put_at
use Rattle.jr_scripts.specs.declared.reply.Reply.{Reply}
use Rattle.jr_scripts.specs.declared.reply.Reply.TheVariants as replies
use Rattle.jr_scripts.specs.Commands.{deed, get_critical, opening_by, opening_levels}
use Rattle.jr_scripts.specs.Names.{Names, referent, wanted}
use Rattle.jr_scripts.specs.Numbers.{has_numbers, number_of_word, word_of_number}
use Rattle.jr_scripts.specs.Places.{Place, by_region, level_wanted, newest, nth_object, objects_after, place_after}
use Rattle.jr_scripts.specs.Posting.{ThreadWords}
use Rattle.jr_scripts.specs.RegionCommands.{deed_at, deed_within, giving_up, kind_of_level, level_reading}
use Rattle.jr_scripts.specs.RegionCommands.{level_writing, nesting, nests, read_kind, reading_as, writing_as}
use Rattle.jr_scripts.specs.Together.{closes_level, doing_at_level, doing_within, in_reply, makes_nothing}
use Rattle.jr_scripts.specs.Together.{nothing_noted}
use Rattle.jr_scripts.specs.Tries.{Tried}
use Rattle.jr_scripts.specs.Tries.Tried.{answered, again, gave_up}
use Rattle.jr_scripts.proofs.TogetherRun.Moments.{AnswerSo, DeedPlays, EndsSo, HandleIs, HasDid, IsPass, LevelIs}
use Rattle.jr_scripts.proofs.TogetherRun.Moments.{LevelsAre, Meant, NamesAre, ReplyIs, Room, any_frames}
use Rattle.jr_scripts.proofs.TogetherRun.Moments.ReplyIs.{level_too, the_same}
use Rattle.jr_scripts.proofs.TogetherRun.Values.{alike, handle_later, level_at, level_last, level_later, levels_later}
use Rattle.jr_scripts.proofs.TogetherRun.Values.{levels_long, names_later, plainly, read_is, wanted_is}
use Rattle.jr_scripts.proofs.TogetherRun.AptPrograms.{critical_apt, get_apt, put_apt}
use Rattle.jr_scripts.proofs.TogetherRun.PlayedDeeds.{awaited_did, come_later, decided_plays, more_plays, nothing_did}
use Rattle.jr_scripts.proofs.TogetherRun.PlayedDeeds.{one_did, pass_later, replied_plays, told_plays}
use Rattle.jr_scripts.proofs.TogetherRun.PlayedCalls.{both_words, opening_did, opening_within}
use Rattle.jr_scripts.proofs.TogetherRun.RegionCalls.{IsQuiet, Remains, bind_remains, bind_stays, critical_quiet}
use Rattle.jr_scripts.proofs.TogetherRun.RegionCalls.{decided_remains, formed_made, none_at_gate, remains_did}
use Rattle.jr_scripts.proofs.TogetherRun.RegionCalls.{role_kept, staying, staying_plays, staying_remains}

-- a command in a region that neither posts nor waits nor gives up a level
abbrev pub StaysWithin : Command → Type 0
StaysWithin (commands.Make make.Wait n) = ⊥
StaysWithin (commands.OnName v n) = ⊥
StaysWithin (commands.CloseLevel v mode) = ⊥
StaysWithin _ = Unit {0}

-- the number of a new level, and the objects then
abbrev with_level : List ℕ → ℕ → ℕ × List ℕ
with_level os o = (length os, os ++ o ∷ [])

-- a new level notes nothing
critical_notes : (c : Config) (v : OpenLevel) (m k : ℕ) (from : Noted)
    → program_steps c from (at_both k 0) (get_critical v m) none_known 0
    ≡ program_steps c nothing_noted (at_both k 0) (get_critical v m) none_known 0
critical_notes c at.Array m k from = refl
critical_notes c at.Text m k from = refl

-- to give up a level is never refused
pub gives_up_level : (n : ℕ) (old new : ThreadState) (x : Result (Unit {0}) Fault) → giving_up n old x new → x ≡ Ok tt
gives_up_level zero old new x gave = ((gave.0).ran.is).1
gives_up_level (suc zero) old new x gave = ((gave.0).ran.is).1
gives_up_level (suc (suc n)) old new x gave = ((gave.0).ran.is).1

module _ (r : Room) (t : ℕ) (small : t < r.config.threads) where
  -- a program at the object of a level, step by step
  abbrev at_object_in_steps : {n : ℕ} {a : AnswerKind} → ℕ → Program n a → Doing (MeantOf a)
  at_object_in_steps j p = program_steps r.config nothing_noted (at_both 0 0) p none_known j

  abbrev StayPlays : {A B : Type 0} → History → (History → A → B → Type 0) → Deed A → Doing B → Type 0
  StayPlays h V deed d = DeedPlays r t h any_frames V deed d

  -- A FURTHER LEVEL
  -- what a nested call did is what its program did, and its answer is told by the object
  nested_as : (v : OpenLevel) (os : List ℕ) (a : Word) (old new : ThreadState) (answer : Result (ℕ × List ℕ) Fault)
      → within_by (λ c. 1) (λ c last t s. nests v c last t s os a) old answer new
      → answered_by (with_level os)
      (staying r t small (get_critical v (length os)) (λ c. 1) (handed_one a) 0) old answer new
  nested_as v os a old new answer d = formed_made (λ c. 1)
      (λ c last t s. work_of c last t s (handed_one a) (get_critical v (length os)))
      (with_level os) old new answer d

  formed_remain : (v : OpenLevel) (os : List ℕ) (a : Word) → Remains r t small (answered_by (with_level os)
      (staying r t small (get_critical v (length os)) (λ c. 1) (handed_one a) 0))
  formed_remain v os a = bind_remains r t small
      (staying_remains r t small (get_critical v (length os)) (λ c. 1) (handed_one a) 0)
      (λ o. decided_remains r t small (Ok (with_level os o)))

  nests_remain : (v : OpenLevel) (os : List ℕ) (w : ℕ) → Remains r t small (nesting v os w)
  nests_remain v os w = record {
    stays = λ old new answer pass d.
        (formed_remain v os d.0).stays old new answer pass (nested_as v os d.0 old new answer d.2);
  }

  nest_plays : (v : OpenLevel) (os js : List ℕ) (w k : ℕ) (h : History) → length os ≡ length js → HandleIs h w k
      → (state h).role t ≡ Within
      → StayPlays h (λ later (l : ℕ × List ℕ) y. LevelIs later (nth_object l.1 l.0) y) (nesting v os w)
      (program_steps r.config nothing_noted (at_both k 0) (get_critical v (length js)) none_known 0)
  nest_plays v os js w k h long handle within = record {
    plays = λ old new past answer acts behind pass d did begins come since fits.
        (read d.0 d.1).plays old new past answer acts behind pass d.2 did begins come since fits;
  }
    where
      read : (a : Word) → IsReadAs w a → StayPlays h (λ later (l : ℕ × List ℕ) y. LevelIs later (nth_object l.1 l.0) y)
          (within_by (λ c. 1) (λ c last t s. nests v c last t s os a))
          (program_steps r.config nothing_noted (at_both k 0) (get_critical v (length js)) none_known 0)
      read a is = more_plays r t (λ old new answer d. nested_as v os a old new answer d)
          (told_plays r t {V = Meant r t object} (with_level os)
          (remains_did r t small
          (staying_remains r t small (get_critical v (length os)) (λ c. 1) (handed_one a) 0))
          (λ later x y so. subst (λ o. LevelIs later o y) (sym (level_last os x)) so)
          (subst (λ m. StayPlays h (Meant r t object)
          (staying r t small (get_critical v (length os)) (λ c. 1) (handed_one a) 0)
          (program_steps r.config nothing_noted (at_both k 0) (get_critical v m) none_known 0)) long
          (staying_plays r t small (get_critical v (length os)) (λ c. 1) (handed_one a) (at_both k 0) 0 0
          (critical_quiet v (length os)) (λ f. critical_apt r.last f (handed_one a) v (length os))
          (critical_notes r.config v (length os) k)
          (λ later from begins. both_words later a Nothing k 0
          (read_is r later begins w k a is (handle_later h later from w k handle)) refl)
          within (inl refl))))

  -- A CALL AT THE OBJECT of a level
  level_remains : {n : ℕ} {a : AnswerKind} (p : Program n a) (o : ℕ)
      → Remains r t small (staying r t small p (λ c. 0) handed_none o)
  level_remains p o = staying_remains r t small p (λ c. 0) handed_none o

  level_plays : {n : ℕ} {a : AnswerKind} (p : Program n a) (o j : ℕ) (h : History) → IsQuiet p
      → ((f : Frames) → IsApt r.last f handed_none p)
      → ((from : Noted) → program_steps r.config from (at_both 0 0) p none_known j ≡ at_object_in_steps j p)
      → (state h).role t ≡ Within → LevelIs h o j
      → StayPlays h (Meant r t a) (staying r t small p (λ c. 0) handed_none o) (at_object_in_steps j p)
  level_plays p o j h quiet apt notes within at = staying_plays r t small p (λ c. 0) handed_none (at_both 0 0) o j
      quiet apt notes (λ later from begins. both_words later Nothing Nothing 0 0 refl refl) within at

  -- its kind, and what follows
  for_kind : {next : Kind → Deed Reply} {next' : Kind → Doing Reply} (o j : ℕ) (h : History)
      → ((k : Kind) → Remains r t small (next k)) → (state h).role t ≡ Within → LevelIs h o j
      → ((later : History) (k : Kind) → (state later).role t ≡ Within → LevelIs later o j
      → StayPlays later ReplyIs (next k) (next' k))
      → StayPlays h ReplyIs (kind_of_level o >>= next)
      (whatever (at_object_in_steps j region_kind) (unless_refused next'))
  for_kind {next} {next'} o j h rest within at follows = bind_stays r t small (level_remains region_kind o) rest
      (level_plays region_kind o j h (λ k n. tt) (λ f kind n. tt) (λ from. refl) within at) within
      (λ later k k' from begins stays same. subst (λ k'. StayPlays later ReplyIs (next k) (next' k')) same
      (follows later k (still_within r.config r.last r.whole t r.legal h later stays)
      (level_later r t h later stays begins o j at)))

  -- what follows where a kind has numbers
  when_numbers : {next : Deed Reply} {next' : Doing Reply} (k : Kind) (o j : ℕ) (h : History) → Remains r t small next
      → (state h).role t ≡ Within → LevelIs h o j
      → ((later : History) → (state later).role t ≡ Within → LevelIs later o j → StayPlays later ReplyIs next next')
      → StayPlays h ReplyIs (decided (has_numbers k) >>= (λ u. next))
      (whatever (ended (has_numbers k)) (unless_refused (λ u. next')))
  when_numbers k o j h rest within at follows = bind_stays r t small {V = λ later (a b : Unit {0}). a ≡ b}
      (decided_remains r t small (has_numbers k)) (λ u. rest)
      (decided_plays r t (has_numbers k) (has_numbers k) (λ later from. alike later (has_numbers k))) within
      (λ later u u' from begins stays same.
      follows later (still_within r.config r.last r.whole t r.legal h later stays)
      (level_later r t h later stays begins o j at))

  -- AN ELEMENT OF A LEVEL is read
  reading_remains : (o i : ℕ) (k : Kind) → Remains r t small (reading_as o i k)
  reading_remains o i k = bind_remains r t small (level_remains (region_get k i) o)
      (λ word. decided_remains r t small (Ok (replies.Value (number_of_word k word))))

  number_remains : (o i : ℕ) (k : Kind)
      → Remains r t small (decided (has_numbers (read_kind k)) >>= (λ u. reading_as o i (read_kind k)))
  number_remains o i k = bind_remains r t small (decided_remains r t small (has_numbers (read_kind k)))
      (λ u. reading_remains o i (read_kind k))

  reads_remain : (o i : ℕ) → Remains r t small (level_reading o i)
  reads_remain o i = bind_remains r t small (level_remains region_kind o) (number_remains o i)

  read_plays : (i o j : ℕ) (h : History) → (state h).role t ≡ Within → LevelIs h o j
      → StayPlays h ReplyIs (level_reading o i) (whatever (at_object_in_steps j region_kind) (unless_refused (λ k.
      whatever (ended (has_numbers (read_kind k))) (unless_refused (λ u.
      in_reply (λ word. replies.Value (number_of_word (read_kind k) word))
      (at_object_in_steps j (region_get (read_kind k) i)))))))
  read_plays i o j h within at = for_kind o j h (number_remains o i) within at (λ later k within at.
      let form : ℕ → Reply = λ word. replies.Value (number_of_word (read_kind k) word) in
      when_numbers (read_kind k) o j later (reading_remains o i (read_kind k)) within at (λ later within at.
      replied_plays r t {V = Meant r t number} form form
      (remains_did r t small (level_remains (region_get (read_kind k) i) o))
      (λ last x y same. plainly form (λ word. refl) last x y same)
      (level_plays (region_get (read_kind k) i) o j later (λ k n. tt)
      (λ f. get_apt r.last f handed_none (read_kind k) i) (λ from. refl) within at)))

  -- .. and written
  abbrev Stores : ℕ → ℕ → ℕ → Kind → Deed Reply
  Stores o i word k = answered_by (λ u. replies.Done)
      (within_by (λ c. 0) (λ c last t s. at_object c last t s o (region_set k i word)))

  stored_remains : (o i word : ℕ) (k : Kind) → Remains r t small (Stores o i word k)
  stored_remains o i word k = bind_remains r t small (level_remains (region_set k i word) o)
      (λ u. decided_remains r t small (Ok replies.Done))

  stored_plays : (o j i word : ℕ) (k : Kind) (h : History) → (state h).role t ≡ Within → LevelIs h o j
      → StayPlays h ReplyIs (Stores o i word k) (makes_nothing (at_object_in_steps j (region_set k i word)))
  stored_plays o j i word k h within at = replied_plays r t {V = Meant r t nothing} (λ u. replies.Done)
      (λ u. replies.Done) (remains_did r t small (level_remains (region_set k i word) o))
      (λ later u u' so. the_same replies.Done refl)
      (level_plays (region_set k i word) o j h (λ k n. tt) (λ f. put_apt r.last f handed_none k i word) (λ from. refl)
      within at)

  writing_remains : (o i : ℕ) (x : ℤ) (k : Kind) → Remains r t small (writing_as o i x k)
  writing_remains o i x k = bind_remains r t small (decided_remains r t small (word_of_number k x))
      (λ word. stored_remains o i word k)

  written_remains : (o i : ℕ) (x : ℤ) (k : Kind)
      → Remains r t small (decided (has_numbers k) >>= (λ u. writing_as o i x k))
  written_remains o i x k = bind_remains r t small (decided_remains r t small (has_numbers k))
      (λ u. writing_remains o i x k)

  writes_remain : (o i : ℕ) (x : ℤ) → Remains r t small (level_writing o i x)
  writes_remain o i x = bind_remains r t small (level_remains region_kind o) (written_remains o i x)

  write_plays : (i : ℕ) (x : ℤ) (o j : ℕ) (h : History) → (state h).role t ≡ Within → LevelIs h o j
      → StayPlays h ReplyIs (level_writing o i x) (whatever (at_object_in_steps j region_kind) (unless_refused (λ k.
      whatever (ended (has_numbers k)) (unless_refused (λ u.
      whatever (ended (word_of_number k x)) (unless_refused (λ word.
      makes_nothing (at_object_in_steps j (region_set k i word)))))))))
  write_plays i x o j h within at = for_kind o j h (written_remains o i x) within at (λ later k within at.
      when_numbers k o j later (writing_remains o i x k) within at (λ later within at.
      bind_stays r t small {V = λ later (a b : ℕ). a ≡ b} (decided_remains r t small (word_of_number k x))
      (λ word. stored_remains o i word k)
      (decided_plays r t (word_of_number k x) (word_of_number k x) (λ last from. alike last (word_of_number k x)))
      within (λ last word word' from begins stays same. subst (λ word'. StayPlays last ReplyIs (Stores o i word k)
      (makes_nothing (at_object_in_steps j (region_set k i word')))) same
      (stored_plays o j i word k last (still_within r.config r.last r.whole t r.legal later last stays)
      (level_later r t later last stays begins o j at)))))

  -- WHAT A COMMAND DOES IN A REGION
  remains : (p : Place) (x : Command) → StaysWithin x → Remains r t small (deed_within p x)
  remains p (commands.OpenLevel v n q) stays = bind_remains r t small
      (decided_remains r t small (wanted (referent p.names q))) (λ w. bind_remains r t small
      (nests_remain v p.objects w.0) (λ l. decided_remains r t small (Ok (replies.Level (nth_object l.1 l.0)))))
  remains p (commands.OnNameAt on_name_at.GetInLevel n i) stays = bind_remains r t small
      (decided_remains r t small (level_wanted (newest p.levels n))) (λ l. reads_remain (nth_object p.objects l) i)
  remains p (commands.PutAt put_at.PutInLevel n i x) stays = bind_remains r t small
      (decided_remains r t small (level_wanted (newest p.levels n))) (λ l. writes_remain (nth_object p.objects l) i x)
  remains p (commands.Make make.Wait n) stays = absurd stays
  remains p (commands.OnName on_name.Post n) stays = absurd stays
  remains p (commands.CloseLevel v mode) stays = absurd stays
  remains p x stays = decided_remains r t small (Err InCritical)

  pub inside_did : (p : Place) (x : Command) → StaysWithin x → HasDid r t (deed_within p x)
  inside_did p x stays = remains_did r t small (remains p x stays)

  -- .. and the thread stays within
  pub inside_stays : (p : Place) (x : Command) → StaysWithin x → (old new : ThreadState) (answer : Result Reply Fault)
      (acts : List Act) → IsPass r.config r.last t old.pass → deed_within p x old answer new
      → Did old.pass new.pass acts → (state old.pass.seen).role t ≡ Within
      → AllByRecursion (λ a. is_of_gate a ≡ false) acts
  inside_stays p x stays old new answer acts pass d did within =
      let s = (remains p x stays).stays old new answer pass d in
      none_at_gate r t small old.pass new.pass acts pass did within (subst NoLeave (one_did s.0 acts s.1 did) s.2)

  -- at the level that a name means
  at_level : {next : ℕ → Deed Reply} {next' : ℕ → Doing Reply} (p q : Place) (n : List ℕ) (h : History)
      → p.levels ≡ q.levels → LevelsAre h p.objects q.objects → (state h).role t ≡ Within
      → ((o : ℕ) → Remains r t small (next o))
      → ((later : History) (o j : ℕ) → (state later).role t ≡ Within → LevelIs later o j
      → StayPlays later ReplyIs (next o) (next' j))
      → StayPlays h ReplyIs (decided (level_wanted (newest p.levels n)) >>= (λ l. next (nth_object p.objects l)))
      (doing_at_level r.config 0 p.names [] q.levels q.objects n next')
  at_level {next} {next'} p q n h same are within rest follows = bind_stays r t small {V = λ later (a b : ℕ). a ≡ b}
      (decided_remains r t small (level_wanted (newest p.levels n))) (λ l. rest (nth_object p.objects l))
      (decided_plays r t (level_wanted (newest p.levels n)) (level_wanted (newest q.levels n)) (λ later from.
      subst (λ ls. AnswerSo (λ later (a b : ℕ). a ≡ b) later (level_wanted (newest p.levels n))
      (level_wanted (newest ls n))) same (alike later (level_wanted (newest p.levels n))))) within
      (λ later l l' from begins stays is. subst (λ l'. StayPlays later ReplyIs (next (nth_object p.objects l))
      (next' (nth_object q.objects l'))) is
      (follows later (nth_object p.objects l) (nth_object q.objects l)
      (still_within r.config r.last r.whole t r.legal h later stays)
      (level_at later p.objects q.objects (levels_later r t h later stays begins p.objects q.objects are) l)))

  pub inside_plays : (turns : ℕ) (p q : Place) (told : ThreadWords) (h : History) → NamesAre h p.names q.names
      → p.levels ≡ q.levels → LevelsAre h p.objects q.objects → (state h).role t ≡ Within → (x : Command)
      → StaysWithin x
      → DeedPlays r t h any_frames ReplyIs (deed_within p x)
      (doing_within r.config turns q.names told q.levels q.objects x)
  inside_plays turns p q told h names same are within (commands.OpenLevel v n x) stays = bind_stays r t small
      {V = λ later (a b : HandleWord). HandleIs later a.0 b.0} (decided_remains r t small (wanted (referent p.names x)))
      (λ w. bind_remains r t small (nests_remain v p.objects w.0)
      (λ l. decided_remains r t small (Ok (replies.Level (nth_object l.1 l.0)))))
      (decided_plays r t (wanted (referent p.names x)) (wanted (referent q.names x)) (λ later from.
      wanted_is later p.names q.names (names_later h later from p.names q.names names) x)) within
      (λ later w k from begins stays handle. replied_plays r t
      {V = λ later (l : ℕ × List ℕ) y. LevelIs later (nth_object l.1 l.0) y}
      (λ (l : ℕ × List ℕ). replies.Level (nth_object l.1 l.0)) (λ o. replies.Level o)
      (remains_did r t small (nests_remain v p.objects w.0)) (λ last l y so. level_too so)
      (nest_plays v p.objects q.objects w.0 k.0 later (levels_long h p.objects q.objects are) handle
      (still_within r.config r.last r.whole t r.legal h later stays)))
  inside_plays turns p q told h names same are within (commands.OnNameAt on_name_at.GetInLevel n i) stays =
      at_level p q n h same are within (λ o. reads_remain o i)
      (λ later o j within at. read_plays i o j later within at)
  inside_plays turns p q told h names same are within (commands.PutAt put_at.PutInLevel n i x) stays =
      at_level p q n h same are within (λ o. writes_remain o i x)
      (λ later o j within at. write_plays i x o j later within at)
  inside_plays turns p q told h names same are within (commands.Make make.Wait n) stays = absurd stays
  inside_plays turns p q told h names same are within (commands.OnName on_name.Post n) stays = absurd stays
  inside_plays turns p q told h names same are within (commands.CloseLevel v mode) stays = absurd stays
  inside_plays turns p q told h names same are within x stays =
      decided_plays r t {V = ReplyIs} (Err InCritical) (Err InCritical) (λ later from. refl)

  -- A LEVEL IS GIVEN UP
  pub giving_up_did : (n : ℕ) → HasDid r t (giving_up n)
  giving_up_did n old new answer pass d = (d.0.ran.acts, d.0.ran.did)

  -- a level was given up with this answer
  abbrev GivesUp : ThreadState → Result (Unit {0}) Fault → Frames → List (Item Act) → Doing (Unit {0}) → History
      → Frames → List (Item Act) → Type 0
  GivesUp new answer g behind d past f items =
      Plays r.config r.whole t (EndsSo r t (λ later (x y : Unit {0}). Unit {0}) new answer) g behind d past f items

  -- .. with no act
  nothing_plays : (old new : ThreadState) (past : History) (answer : Result (Unit {0}) Fault) (acts : List Act)
      (behind : List (Item Act)) → IsPass r.config r.last t old.pass → Did old.pass new.pass acts
      → HasComeTo r.whole old.pass past → acts ≡ [] → answer ≡ Ok tt → new.frames ≡ old.frames
      → GivesUp new answer new.frames behind (ended (Ok tt)) past old.frames (map acting acts)
  nothing_plays old new past answer acts behind pass did come none is same =
      subst (λ l. GivesUp new answer new.frames behind (ended (Ok tt)) past old.frames (map acting l)) (sym none)
      (subst (λ g. GivesUp new answer g behind (ended (Ok tt)) past old.frames []) (sym same) (has_ended (Ok tt) (
        come_later old.pass new.pass acts past past pass did come come.begins
            (sym (ap (λ l. mine past t ++ l) none ∙ append-nil (mine past t))),
        subst (λ z. AnswerSo (λ later (x y : Unit {0}). Unit {0}) past z (Ok tt)) (sym is) tt,
      )))

  pub giving_up_plays : (turns : ℕ) (names : Names) (words : ThreadWords) (n : ℕ) (h : History)
      → DeedPlays r t h any_frames (λ later x y. Unit {0}) (giving_up n) (closes_level r.config turns names words n)
  giving_up_plays turns names words n h = record {
    plays = λ old new past answer acts behind pass d did begins come since fits.
        go n old new past answer acts behind pass did come (subst (λ l. region_release n old.frames l answer
        new.frames) (one_did d.0.ran.acts acts d.0.ran.did did) d.0.ran.is);
  }
    where
      go : (n : ℕ) (old new : ThreadState) (past : History) (answer : Result (Unit {0}) Fault) (acts : List Act)
          (behind : List (Item Act)) → IsPass r.config r.last t old.pass → Did old.pass new.pass acts
          → HasComeTo r.whole old.pass past → region_release n old.frames acts answer new.frames
          → GivesUp new answer new.frames behind (closes_level r.config turns names words n) past old.frames
          (map acting acts)
      go zero old new past answer acts behind pass did come is =
          nothing_plays old new past answer acts behind pass did come is.0 is.1 is.2
      go (suc zero) old new past answer acts behind pass did come is =
          subst (λ l. GivesUp new answer new.frames behind (step go_out (λ x. ended x)) past old.frames (map acting l))
          (sym is.0) (subst (λ g. GivesUp new answer g behind (step go_out (λ x. ended x)) past old.frames
          (acting (Gate Leave) ∷ [])) (sym is.2)
          (leaves_plays r.config r.last r.whole t r.legal
          (EndsSo r t (λ later (x y : Unit {0}). Unit {0}) new answer) behind (Ok tt) Leave past old.frames refl
          (λ seen shut. refl) (λ now next. (
            come_later old.pass new.pass acts past (now ++ by t (Gate Leave) ∷ []) pass did come next.next
                (mine_push now t (Gate Leave) ∙ ap (λ l. l ++ Gate Leave ∷ []) (others past now next.goes.since
                next.goes.is next.goes.others) ∙ ap (λ l. mine past t ++ l) (sym is.0)),
            subst (λ z. AnswerSo (λ later (x y : Unit {0}). Unit {0}) (now ++ by t (Gate Leave) ∷ []) z (Ok tt))
                (sym is.1) tt,
          ))))
        where
          others : (past now since : History) → now ≡ past ++ since → mine since t ≡ [] → mine now t ≡ mine past t
          others past now since is none = ap (λ h. mine h t) is ∙ mine_append past since t
              ∙ ap (λ l. mine past t ++ l) none ∙ append-nil (mine past t)
      go (suc (suc n)) old new past answer acts behind pass did come is =
          nothing_plays old new past answer acts behind pass did come is.0 is.1 is.2

  -- WHERE A REGION STANDS BEHIND A COMMAND, the thread is within

  -- of several tries the last one answered
  tried_within : (v : OpenLevel) (w : ℕ) (turns : ℕ) (old new : ThreadState) (answer : Result ℕ Fault) (o : ℕ)
      → answer ≡ Ok o → IsPass r.config r.last t old.pass → Tried (opening_by v w) turns old answer new
      → (state new.pass.seen).role t ≡ Within
  tried_within v w turns old new answer o is pass (answered d last) = opening_within r t small (get_critical v 0) w
      old new o pass (subst (λ z. (b : Word) × IsReadAs w b × within_by (λ c. 1) (λ c last t s.
      opened_by (get_critical v 0) c last t s b) old z new) is (d.0, d.1, d.2))
  tried_within v w (suc n) old new answer o is pass (again {mid = mid} {once = once} d more rest) =
      let did = opening_did r t small (get_critical v 0) w old mid once pass (d.0, d.1, d.2) in
      tried_within v w n mid new answer o is (pass_later did.0 did.1 pass) rest
  tried_within v w turns old new answer o is pass gave_up = absurd (let bad = is in cc)

  -- where none stood
  opened_role : (turns : ℕ) (names : Names) (v : OpenLevel) (n : List ℕ) (q : Reference) (old new : ThreadState)
      (answer : Result Reply Fault) → IsPass r.config r.last t old.pass
      → (opening_levels turns names v q >>= (λ o. done (replies.Level o))) old answer new
      → objects_after (commands.OpenLevel v n q) answer [] ≢ [] → (state new.pass.seen).role t ≡ Within
  opened_role turns names v n q old new answer pass (inl d) left =
      subst (λ (m : ThreadState). (state m.pass.seen).role t ≡ Within) (sym d.3.1) (go d.0 d.1 d.2)
    where
      go : (o : ℕ) (mid : ThreadState) → opening_levels turns names v q old (Ok o) mid
          → (state mid.pass.seen).role t ≡ Within
      go o mid (inl e) = tried_within v e.0.0 turns e.1 mid (Ok o) o refl
          (subst (λ (m : ThreadState). IsPass r.config r.last t m.pass) (sym e.2.1) pass) e.3
      go o mid (inr e) = absurd (let bad = e.1 in cc)
  opened_role turns names v n q old new answer pass (inr d) left =
      absurd (left (ap (λ a. objects_after (commands.OpenLevel v n q) a []) d.1))

  begun_role : (turns : ℕ) (names : Names) (x : Command) (old new : ThreadState) (answer : Result Reply Fault)
      → IsPass r.config r.last t old.pass → deed turns names x old answer new → objects_after x answer [] ≢ []
      → (state new.pass.seen).role t ≡ Within
  begun_role turns names (commands.OpenLevel v n q) old new answer pass d left =
      opened_role turns names v n q old new answer pass d left
  begun_role turns names (commands.CloseLevel v mode) old new (Ok a) pass d left = absurd (left refl)
  begun_role turns names (commands.CloseLevel v mode) old new (Err e) pass d left = absurd (left refl)
  begun_role turns names x old new answer pass d left = absurd (left refl)

  -- where levels are left the stay goes on
  left_within : (ps : List ℕ) (old new : ThreadState) (answer : Result (Unit {0}) Fault)
      → IsPass r.config r.last t old.pass → giving_up (length ps) old answer new
      → (state old.pass.seen).role t ≡ Within → all_but_last ps ≢ [] → (state new.pass.seen).role t ≡ Within
  left_within [] old new answer pass d within left = absurd (left refl)
  left_within (o ∷ []) old new answer pass d within left = absurd (left refl)
  left_within (o ∷ q ∷ ps) old new answer pass d within left =
      role_kept r t small old.pass new.pass d.0.ran.acts pass d.0.ran.did within
      (subst (AllByRecursion (λ a. is_of_gate a ≡ false)) (sym (d.0.ran.is).0) tt)

  closed_role : (v : CloseLevel) (mode : Mode) (ps : List ℕ) (old new : ThreadState) (answer : Result Reply Fault)
      → IsPass r.config r.last t old.pass → answered_by (λ u. replies.Done) (giving_up (length ps)) old answer new
      → (state old.pass.seen).role t ≡ Within → objects_after (commands.CloseLevel v mode) answer ps ≢ []
      → (state new.pass.seen).role t ≡ Within
  closed_role v mode ps old new answer pass (inl d) within left =
      subst (λ (m : ThreadState). (state m.pass.seen).role t ≡ Within) (sym d.3.1)
      (left_within ps old d.1 (Ok d.0) pass d.2 within
      (λ none. left (ap (λ a. objects_after (commands.CloseLevel v mode) a ps) d.3.0 ∙ none)))
  closed_role v mode ps old new answer pass (inr d) within left =
      absurd (let bad = gives_up_level (length ps) old new (Err d.0) d.2 in cc)

  stayed_role : (p : Place) (x : Command) (old new : ThreadState) (answer : Result Reply Fault)
      → IsPass r.config r.last t old.pass → (state old.pass.seen).role t ≡ Within → deed_within p x old answer new
      → objects_after x answer p.objects ≢ [] → (state new.pass.seen).role t ≡ Within
  stayed_role p (commands.Make make.Wait n) old new answer pass within d left =
      role_kept r t small old.pass new.pass [] pass (awaited_did old new answer pass d) within tt
  stayed_role p (commands.OnName on_name.Post n) old new answer pass within d left =
      role_kept r t small old.pass new.pass [] pass (nothing_did old new pass d.1) within tt
  stayed_role p (commands.CloseLevel v mode) old new answer pass within d left =
      closed_role v mode p.objects old new answer pass d within left
  stayed_role p x old new answer pass within d left =
      let s = inside_did p x tt old new answer pass d in
      role_kept r t small old.pass new.pass s.0 pass s.1 within
      (inside_stays p x tt old new answer s.0 pass d s.1 within)

  -- where a command leaves levels, the thread is within behind it
  pub role_after : (turns : ℕ) (p : Place) (x : Command) (old new : ThreadState) (answer : Result Reply Fault)
      → IsPass r.config r.last t old.pass
      → (p.objects ≢ [] → (state old.pass.seen).role t ≡ Within) → deed_at turns p x old answer new
      → (place_after x answer p).objects ≢ [] → (state new.pass.seen).role t ≡ Within
  role_after turns p x old new answer pass within d left = go p.objects refl d
    where
      go : (os : List ℕ) → p.objects ≡ os → by_region os (deed turns p.names x) (deed_within p x) old answer new
          → (state new.pass.seen).role t ≡ Within
      go [] is d = begun_role turns p.names x old new answer pass d
          (subst (λ os. objects_after x answer os ≢ []) is left)
      go (o ∷ os) is d =
          stayed_role p x old new answer pass (within (λ none. absurd (let bad = sym is ∙ none in cc))) d left
