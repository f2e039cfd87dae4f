-- A request that was served in a stay, and the call that was made of it, for whatever was known.
use Rattle.std.proofs.Common.{◌≡◌, ℕ, [], ◌∷◌, Result, Ok, Err, refl, sym, ap, subst, ◌∙◌}
use Rattle.std.specs.Result.{IsErrAnd}
use Rattle.std.proofs.lemmas.Result.{err_from_is_err_and}
use Rattle.jr_word.specs.declared.fault.Fault.{Fault}
use Rattle.jr_word.specs.declared.fault.Fault.TheVariants.{Barred}
use Rattle.jr_model.specs.declared.event.Role.TheVariants.{Within}
use Rattle.jr_model.specs.declared.event.Act.TheVariants.{Gate}
use Rattle.jr_model.specs.declared.event.GateAct.TheVariants.{Enter, Knock, Leave, Withdraw}
use Rattle.jr_model.specs.State.{State}
use Rattle.jr_model.specs.Frames.{Frames}
use Rattle.jr_model.specs.Calls.{Call, entered}
use Rattle.jr_model.specs.Programs.{none_known, work_of}
use Rattle.jr_model.proofs.EachCall.{program_stays}
use Rattle.jr_steps.specs.declared.known.Known.{Known}
use Rattle.jr_steps.specs.declared.steps.Steps.{Ghosts}
use Rattle.jr_steps.specs.Knowing.{AreOf, Facts, Standing, anything, keeps, lets_go, Holds, Took}
use Rattle.jr_gate.specs.declared.inside.Inside.{Inside}
use Rattle.jr_gate.specs.Stays.{IsOwnStay}
use Rattle.jr_gate.specs.Performing.{IsAsBefore, Performed}
use Rattle.jr_gate.specs.Acting.{ActedTo, LetsGoInTwo}
use Rattle.jr_elements.specs.Copies.{answer_in}
use Rattle.jr_frames.specs.declared.held.Held.{Held}
use Rattle.jr_frames.specs.Table.{Table}
use Rattle.jr_frames.specs.Ready.{StandsReady, KeepsOwner}
use Rattle.jr_frames.proofs.StillReady.{ready_after}
use Rattle.jr_env.specs.Requests.{Request, asks, gives, named, on_word, on_words, told_by}
use Rattle.jr_env.specs.Deeds.{DoesDeed, DoesOutside, answered_by, whole, in_a_stay}
use Rattle.jr_env.specs.OpenStays.{StaysOn}
use Rattle.jr_env.specs.Works.{EndsStay, Serves}
use Rattle.jr_env.proofs.Carrying.{did_answer, did_call, did_more, did_refuse}
use Rattle.jr_env.proofs.EnvCalls.{does_answer, does_call_by, does_more, does_refuse}
use Rattle.jr_env.proofs.InsideGate.{completes_barred, completes, completes_from, completes_more}
use Rattle.jr_env.proofs.OpenStays.{performs_on}
use Rattle.jr_env.proofs.ReadWords.{read}

-- a refusal that `?` hands on is the one of the answer before
pub refused_is : {A : Type 0} {e : Fault} (answer : Result A Fault) → IsErrAnd answer (λ y. y ≡ e) → answer ≡ Err e
refused_is answer given = let why = err_from_is_err_and answer given in why.1 ∙ ap (λ (v : Fault). Err v) why.2

pub kept_is : {A B : Type 0} (e : Fault) (form : A → B) (answer : Result A Fault) → IsErrAnd answer (λ y. y ≡ e)
    → IsErrAnd (answer_in form answer) (λ y. y ≡ e)
kept_is y form (Err e) given = given
kept_is y form (Ok x) given = absurd given

pub kept_refusal : {A B : Type 0} {e : Fault} (form : A → B) (answer : Result A Fault) → IsErrAnd answer (λ y. y ≡ e)
    → answer_in form answer ≡ Err e
kept_refusal form answer given = refused_is (answer_in form answer) (kept_is _ form answer given)

-- a stay is the thread's own as long as the thread and its role are the same
pub own_as : {inside : Inside} {s t : Standing} → IsOwnStay inside s → IsAsBefore (record s { role = s.role }) t
    → IsOwnStay inside t
own_as own is = (own.0 ∙ sym is.thread, is.role ∙ own.1)

module _ {S : Type 0} {facts : S → Facts} where
  -- the same call, with an answer that is the same
  pub answered_as : {A : Type 0} {a b : S} {f g : Frames} {silent : ℕ} {met : Known → Type 0}
      {shows : Known → Known → Type 0} {call : State → Call A} {answer same : Result A Fault} → answer ≡ same
      → Performed facts a b f g silent met call same shows → Performed facts a b f g silent met call answer shows
  answered_as {a = a} {b = b} {f = f} {g = g} {silent = silent} {met = met} {shows = shows} {call = call} is =
      subst (λ r. Performed facts a b f g silent met call r shows) (sym is)

  -- what was learnt beside is forgotten
  pub forgets : {A : Type 0} {a b : S} {f g : Frames} {silent : ℕ} {met : Known → Type 0} {so : Known → Known → Type 0}
      {call : State → Call A} {answer : Result A Fault}
      → Performed facts a b f g silent met call answer (λ j k. so j k × Holds g k)
      → Performed facts a b f g silent met call answer (λ j k. Unit {0} × Holds g k)
  forgets p = record {
    stands_is = p.stands_is;
    ran = λ k s m. let x = p.ran k s m in (x.0, x.1, x.2, (tt, x.3.1));
  }

  -- the answer of a deed in another form
  does_found : {A B : Type 0} {a b : S} {f g : Frames} (form : B → A) (request : Request B) {answer : Result A Fault}
      (found : Result B Fault) → answer ≡ answer_in form found → DoesOutside facts a b f g (whole request) found
      → DoesOutside facts a b f g (answered_by form (whole request)) answer
  does_found {a = a} {b = b} {f = f} {g = g} form request (Ok x) is d =
      subst (λ r. DoesOutside facts a b f g (answered_by form (whole request)) r) (sym is) (does_answer form refl d)
  does_found {a = a} {b = b} {f = f} {g = g} form request (Err e) is d =
      subst (λ r. DoesOutside facts a b f g (answered_by form (whole request)) r) (sym is) (does_refuse form
      (Err e) refl d)

  did_found : {A B : Type 0} {a b : S} {f g : Frames} (form : B → A) (request : Request B) {answer : Result A Fault}
      (found : Result B Fault) → answer ≡ answer_in form found → DoesDeed facts a b f g (in_a_stay request) found
      → DoesDeed facts a b f g (answered_by form (in_a_stay request)) answer
  did_found {a = a} {b = b} {f = f} {g = g} form request (Ok x) is d =
      subst (λ r. DoesDeed facts a b f g (answered_by form (in_a_stay request)) r) (sym is) (did_answer form refl d)
  did_found {a = a} {b = b} {f = f} {g = g} form request (Err e) is d =
      subst (λ r. DoesDeed facts a b f g (answered_by form (in_a_stay request)) r) (sym is) (did_refuse form
      (Err e) refl d)

  -- a thread that served a request is ready as it was
  pub ready_served : {A : Type 0} {a b : S} {t u : Table} (request : Request A) (answer : Result A Fault)
      → StandsReady facts Within a t → KeepsOwner t u → Serves facts a b t.frames u.frames request answer
      → StandsReady facts Within b u
  ready_served (asks silent words p) answer r o q = ready_after {so = λ j k. Unit {0}} r o q
  ready_served (on_word w next) answer r o p = ready_served (next p.0) answer r o p.2
  ready_served (on_words v w next) answer r o p = ready_served (next p.0 p.1) answer r o p.4
  ready_served (gives form first) answer r o p = ready_served first p.0 r o p.2
  ready_served (told_by form first) answer r o p = ready_served first (answer_in form answer) r o p
  ready_served (named name first) answer r o p = ready_served first answer r o p

  module _ (fits : AreOf facts) where
    -- a request that was served between an entry and an exit, once a stay that was left has been ended
    pub does_served : {A : Type 0} {o a b c d : S} {r t u : Table} (request : Request A) (answer : Result A Fault)
        → EndsStay facts o a r t → Took facts a b (Gate Enter ∷ []) anything keeps
        → Serves facts b c t.frames u.frames request answer → KeepsOwner t u
        → Took facts c d (Gate Leave ∷ []) anything lets_go
        → DoesOutside facts o d r.frames u.frames (whole request) answer
    does_served (asks silent words p) answer ended e q own l =
        does_call_by fits silent (λ c last t s. entered (work_of c last t s words p))
        (completes_from (λ c last t s. work_of c last t s words p) silent ended
        (completes words p fits silent {so = λ j k. Unit {0}} ended.ready e q own l))
    does_served (on_word w next) answer ended e p own l =
        does_more (λ k m x. (p.0, p.1, x)) (does_served (next p.0) answer ended e p.2 own l)
    does_served (on_words v w next) answer ended e p own l =
        does_more (λ k m x. (p.0, p.1, p.2, p.3, x)) (does_served (next p.0 p.1) answer ended e p.4 own l)
    does_served (gives form first) answer ended e p own l =
        does_found form first p.0 p.1 (does_served first p.0 ended e p.2 own l)
    does_served (told_by form first) answer ended e p own l =
        does_more (λ k m x. x) (does_served first (answer_in form answer) ended e p own l)
    does_served (named name first) answer ended e p own l = does_served first answer ended e p own l

    -- and where the gate was found shut
    pub does_barred : {A : Type 0} {o a b : S} {r t : Table} {e : Fault} (request : Request A) (answer : Result A Fault)
        → EndsStay facts o a r t → IsErrAnd answer (λ y. y ≡ e)
        → (e ≡ Barred) × ActedTo facts a b (Gate Knock ∷ Gate Withdraw ∷ []) anything LetsGoInTwo
        → DoesOutside facts o b r.frames t.frames (whole request) answer
    does_barred (asks silent words p) answer ended given why =
        does_call_by fits silent (λ c last t s. entered (work_of c last t s words p))
        (completes_from (λ c last t s. work_of c last t s words p) silent ended
        (completes_more _ (completes_barred (λ c last t s. work_of c last t s words p) ended.ready answer given why)))
    does_barred (on_word w next) answer ended given why =
        let a = read w in does_more (λ k m x. (a.0, a.1, x)) (does_barred (next a.0) answer ended given why)
    does_barred (on_words v w next) answer ended given why =
        let a = read v in
        let b = read w in
        does_more (λ k m x. (a.0, b.0, a.1, b.1, x)) (does_barred (next a.0 b.0) answer ended given why)
    does_barred {e = e} (gives form first) answer ended given why =
        does_found form first (Err e) (refused_is answer given) (does_barred first (Err e) ended refl why)
    does_barred (told_by form first) answer ended given why =
        does_more (λ k m x. x) (does_barred first (answer_in form answer) ended (kept_is _ form answer given) why)
    does_barred (named name first) answer ended given why = does_barred first answer ended given why

    -- a request that was served in a stay
    pub did_served : {A : Type 0} {a b : S} {f g : Frames} (request : Request A) (answer : Result A Fault)
        → Serves facts a b f g request answer → DoesDeed facts a b f g (in_a_stay request) answer
    did_served (asks silent words p) answer q =
        did_call facts fits silent (λ c last t s. work_of c last t s words p) (λ j k x. x.1) q
    did_served (on_word w next) answer p = did_more (λ k m x. (p.0, p.1, x)) (did_served (next p.0) answer p.2)
    did_served (on_words v w next) answer p =
        did_more (λ k m x. (p.0, p.1, p.2, p.3, x)) (did_served (next p.0 p.1) answer p.4)
    did_served (gives form first) answer p = did_found form first p.0 p.1 (did_served first p.0 p.2)
    did_served (told_by form first) answer p = did_more (λ k m x. x) (did_served first (answer_in form answer) p)
    did_served (named name first) answer p = did_served first answer p

  -- a call whose answer is kept in a form of the code's own
  pub does_kept : {A B : Type 0} {a b : S} {f g : Frames} (form : A → B) (request : Request B) {answer : Result A Fault}
      → DoesOutside facts a b f g (whole (told_by form request)) answer
      → DoesOutside facts a b f g (whole request) (answer_in form answer)
  does_kept form request = does_more (λ k m x. x)

module _ {S : Type 0} {G : Ghosts S} (fits : AreOf G.facts) (old new : Held S G) where
  -- and the stay goes on
  pub on_served : {A : Type 0} (request : Request A) (answer : Result A Fault)
      → Serves G.facts old.steps new.steps old.frames.frames new.frames.frames request answer → StaysOn old new
  on_served (asks silent words p) answer q =
      performs_on fits old new _ (λ j k. Unit {0}) (λ c last t s. work_of c last t s words p)
      (λ c last t s. program_stays c last t s words p none_known 0) q
  on_served (on_word w next) answer p = on_served (next p.0) answer p.2
  on_served (on_words v w next) answer p = on_served (next p.0 p.1) answer p.4
  on_served (gives form first) answer p = on_served first p.0 p.2
  on_served (told_by form first) answer p = on_served first (answer_in form answer) p
  on_served (named name first) answer p = on_served first answer p
