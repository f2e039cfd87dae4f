-- What calls and their works did, over any steps and frames, for whatever was known.
use Rattle.std.specs.Prelude.{◌≡◌, ◌≢◌, ℕ, Result, Ok, Err, Option, Some, None, List, [], ◌∷◌, length}
use Rattle.jr_word.specs.declared.fault.Fault.{Fault}
use Rattle.jr_word.specs.declared.kind.Kind.{Kind}
use Rattle.jr_word.specs.declared.kind.Kind.TheVariants.{Plain}
use Rattle.jr_model.specs.declared.event.Act.TheVariants.{Gate}
use Rattle.jr_model.specs.declared.event.GateAct.TheVariants.{Leave}
use Rattle.jr_model.specs.declared.event.Role.TheVariants.{Outside}
use Rattle.jr_model.specs.State.{Handle, State}
use Rattle.jr_model.specs.Frames.{Frames, object_at}
use Rattle.jr_model.specs.Calls.{Call, ◌>>=◌}
use Rattle.jr_model.specs.Checks.{Word}
use Rattle.jr_model.specs.Parts.{publish}
use Rattle.jr_model.specs.Programs.{work_of}
use Rattle.jr_model.specs.References.{added, made}
use Rattle.jr_steps.specs.declared.known.Known.{Known}
use Rattle.jr_steps.specs.declared.steps.Steps.{Ghosts}
use Rattle.jr_steps.specs.Holdings.{with_header}
use Rattle.jr_steps.specs.Knowing.{Facts, anything, keeps, lets_go, without_range_of, Holds, Took}
use Rattle.jr_gate.specs.Performing.{Performed}
use Rattle.jr_heap.specs.Heap.{header_of, own_words, IsReady}
use Rattle.jr_frames.specs.declared.held.Held.{Held}
use Rattle.jr_frames.specs.Table.{Table}
use Rattle.jr_frames.specs.OverSteps.{CallsWhole}
use Rattle.jr_frames.specs.Ready.{StandsReady}
use Rattle.jr_frames.specs.Reading.{IsReadAs}
use Rattle.jr_elements.specs.Copies.{answer_in}
use Rattle.jr_env.specs.Requests.{Request, asks, gives, named, on_word, on_words, told_by, making_steps}
use Rattle.jr_env.specs.Deeds.{DoesDeed, DoesOutside, whole, in_a_stay}

-- the pass holds the header of the new object beside what it held, and its range no more;
-- and just what it held where there is no new object
abbrev pub LearnsMade : Kind → ℕ → ℕ → Option ℕ → Known → Known → Type 0
LearnsMade kind place n None j k = keeps j k
LearnsMade kind place n (Some o) j k =
    k.holdings ≡ with_header (without_range_of (header_of kind place n) j.holdings) o (header_of kind place n)

-- the same of a plain object, which has no range
abbrev pub LearnsNew : Option ℕ → Known → Known → Type 0
LearnsNew o j k = LearnsMade Plain 0 0 o j k

-- the object that the local reference made stands for, none where the call was refused
abbrev pub object_made : Frames → Result Handle Fault → Option ℕ
object_made f (Ok h) = object_at f h.index
object_made f (Err e) = None

module _ {S : Type 0} (facts : S → Facts) where
  -- a range of the pass's own, which has these words and is ready, became a new object with a local reference
  -- to it, or every number was found present: the pass holds the header of that very object and the range no
  -- more, and where the call was refused just what it held; the frames go on agreeing with the locals
  abbrev pub Refers : S → S → Frames → Frames → Kind → ℕ → ℕ → List ℕ → Result Handle Fault → Type 0
  Refers old new f g kind place n words answer = Performed facts old new f g (facts old).stands.config.objects
      (λ k. Holds f k × IsReady kind place n k × (own_words place n k ≡ words))
      (λ s. publish kind words >>= added (facts old).stands.config (facts old).stands.last (facts old).stands.thread)
      answer (λ j k. LearnsMade kind place n (object_made g answer) j k × Holds g k)

  -- an array or string of these words and a local reference to it were
  -- made in a stay, and the frames go on agreeing with the locals
  abbrev pub MakesArray : S → S → Frames → Frames → Kind → List ℕ → (Known → Type 0) → Result Handle Fault → Type 0
  MakesArray old new f g kind words met answer =
      Performed facts old new f g (making_steps (length words) (facts old).stands.config) (λ k. Holds f k × met k)
      (λ s. made (facts old).stands.config (facts old).stands.last (facts old).stands.thread kind words) answer (λ j k.
      Unit {0} × Holds g k)

  -- A REQUEST WAS SERVED in a stay, with this answer: the words were read so, its program was done
  -- by so many operations beside its acts, and the frames go on agreeing with the locals
  abbrev pub Serves : {A : Type 0} → S → S → Frames → Frames → Request A → Result A Fault → Type 0
  Serves old new f g (asks silent words p) answer =
      Performed facts old new f g (silent (facts old).stands.config) (Holds f)
      (λ s. work_of (facts old).stands.config (facts old).stands.last (facts old).stands.thread s words p) answer
      (λ j k. Unit {0} × Holds g k)
  Serves old new f g (on_word w next) answer = (a : Word) × IsReadAs w a × Serves old new f g (next a) answer
  Serves old new f g (on_words v w next) answer =
      (a b : Word) × IsReadAs v a × IsReadAs w b × Serves old new f g (next a b) answer
  Serves old new f g (gives {B = B} form first) answer =
      (found : Result B Fault) × (answer ≡ answer_in form found) × Serves old new f g first found
  Serves old new f g (told_by form first) answer = Serves old new f g first (answer_in form answer)
  Serves old new f g (named name first) answer = Serves old new f g first answer

  -- a stay that was left was ended: where the thread stood outside nothing changed, and else it went out, by one step;
  -- and it stands ready outside, with the same frames
  pub record EndsStay (old new : S) (before after : Table) : Type 0 where
    pub same : (facts old).stands.role ≡ Outside → new ≡ old
    pub left : (facts old).stands.role ≢ Outside → Took facts old new (Gate Leave ∷ []) anything lets_go
    pub frames : after ≡ before
    pub ready : StandsReady facts Outside new after
    pub thread : (facts new).stands.thread ≡ (facts old).stands.thread
    pub config : (facts new).stands.config ≡ (facts old).stands.config

  -- a whole call was made, by at most so many operations beside its acts, from where the thread stood
  -- outside, or from behind the exit from a stay that was left; and the next can be in any case
  pub record Completes {A : Type 0} (old new : S) (before after : Table) (silent : ℕ) (asked : State → Call A)
      (answer : Result A Fault) : Type 0 where
    pub call : (facts old).stands.role ≡ Outside
        → CallsWhole facts old new before.frames after.frames silent asked answer
    pub left : (facts old).stands.role ≢ Outside → (mid : S) × Took facts old mid (Gate Leave ∷ []) anything lets_go
        × CallsWhole facts mid new before.frames after.frames silent asked answer
    pub ready : StandsReady facts Outside new after

-- the same of the steps and frames that a thread holds together, as contracts say it
module _ {S : Type 0} {G : Ghosts S} where
  -- a stay that was left was ended
  abbrev pub EndsStayOver : Held S G → Held S G → Type 0
  EndsStayOver old new = EndsStay G.facts old.steps new.steps old.frames new.frames

  -- what is requested was done by a whole call
  abbrev pub ServesWhole : {A : Type 0} → Held S G → Held S G → Request A → Result A Fault → Type 0
  ServesWhole old new request answer = DoesOutside G.facts old.steps new.steps old.frames.frames new.frames.frames
      (whole request) answer

  -- what is requested was done in a stay
  abbrev pub ServesWithin : {A : Type 0} → Held S G → Held S G → Request A → Result A Fault → Type 0
  ServesWithin old new request answer = DoesDeed G.facts old.steps new.steps old.frames.frames new.frames.frames
      (in_a_stay request) answer
