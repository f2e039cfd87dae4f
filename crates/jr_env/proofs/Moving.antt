-- Each call moves the frames of its thread, whatever it requests.
use Rattle.std.proofs.Common.{ℕ, List, Ok, Err, inl, inr, sym, subst}
use Rattle.jr_word.specs.declared.config.Config.{Config}
use Rattle.jr_model.specs.declared.event.Act.{Act}
use Rattle.jr_model.specs.History.{PassView, state}
use Rattle.jr_model.specs.Frames.{Frames, LeadsTo}
use Rattle.jr_model.specs.Calls.{entered}
use Rattle.jr_model.specs.Checks.{Word}
use Rattle.jr_model.specs.Programs.{AnswerKind, AnswerOf, Program, Which, none_known, work_of}
use Rattle.jr_model.proofs.EachCall.{program_moves}
use Rattle.jr_model.proofs.Lawful.{same_leads}
use Rattle.jr_gate.specs.Performing.{ThreadState}
use Rattle.jr_elements.specs.Copies.{answer_in}
use Rattle.jr_env.specs.Requests.{Request, asks, gives, named, on_word, on_words, told_by}
use Rattle.jr_env.specs.Deeds.{Deed, How, after_exit, answered_by, call_by, deed_of, whole, within_by}
use Rattle.jr_env.specs.Moving.{DeedMovesFrames, RequestMovesFrames}

-- the answer in another form moves what the deed moves
in_form : {A B : Type 0} (form : B → A) (deed : Deed B) → DeedMovesFrames deed → DeedMovesFrames (answered_by form deed)
in_form form deed moves old new answer (inl d) =
    subst (λ (t : ThreadState). LeadsTo old.pass.last old.pass.thread old.frames t.frames) (sym d.3.1)
    (moves old d.1 (Ok d.0) d.2)
in_form form deed moves old new answer (inr d) = moves old new (Err d.0) d.2

-- a request moves the frames where programs do, however it becomes a deed
each : {A : Type 0} (how : How)
    → ((n : ℕ) (r : AnswerKind) (silent : Config → ℕ) (words : Which → Word) (p : Program n r)
    → DeedMovesFrames (how (AnswerOf r) silent (λ c last t s. work_of c last t s words p)))
    → (request : Request A) → DeedMovesFrames (deed_of how request)
each how moved (asks silent words p) old new answer d = moved _ _ silent words p old new answer d
each how moved (on_word w next) old new answer d = each how moved (next d.0) old new answer d.2
each how moved (on_words v w next) old new answer d = each how moved (next d.0 d.1) old new answer d.4
each how moved (gives form first) old new answer d =
    in_form form (deed_of how first) (each how moved first) old new answer d
each how moved (told_by form first) old new answer d = each how moved first old new (answer_in form answer) d
each how moved (named name first) old new answer d = each how moved first old new answer d

-- a whole call does: its entry and its exit leave the frames, and so does a shut gate
whole_moves : (n : ℕ) (r : AnswerKind) (silent : Config → ℕ) (words : Which → Word) (p : Program n r)
    → DeedMovesFrames (call_by silent (λ c last t s. entered (work_of c last t s words p)))
whole_moves n r silent words p old new answer d = go d.0.ran.is
  where
    at : PassView
    at = old.pass

    go : {acts : List Act} → entered (work_of at.config at.last at.thread (state new.pass.seen) words p)
        old.frames acts answer new.frames → LeadsTo at.last at.thread old.frames new.frames
    go (inl barred) = same_leads barred.2
    go (inr x) = (program_moves at.config at.last at.thread (state new.pass.seen) words p none_known 0).leads _ _
        x.0 answer x.2

-- what is left of a stay is the thread's and its frames'
exit_moves : {A : Type 0} (deed : Deed A) → DeedMovesFrames deed → DeedMovesFrames (after_exit deed)
exit_moves deed moves old new answer d =
    let did = d.1.0.ran.did in
    subst (λ (f : Frames). LeadsTo old.pass.last old.pass.thread f new.frames) d.1.0.ran.is.2
    (subst (λ t. LeadsTo old.pass.last t d.0.frames new.frames) did.thread
    (subst (λ last. LeadsTo last d.0.pass.thread d.0.frames new.frames) did.last (moves d.0 new answer d.2)))

pub request_moves : {A : Type 0} (request : Request A) → RequestMovesFrames request
request_moves request =
    let made = each (λ A silent work. call_by silent (λ c last t s. entered (work c last t s))) whole_moves request in
    record {
      made_whole = made;
      behind_exit = exit_moves (whole request) made;
      within = each (λ A silent work. within_by silent work) (λ n r silent words p old new answer d.
          (program_moves old.pass.config old.pass.last old.pass.thread (state new.pass.seen) words p none_known 0).leads
          _ _ _ answer d.ran.is) request;
    }
