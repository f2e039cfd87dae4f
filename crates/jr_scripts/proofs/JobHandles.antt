-- What threads promised, and what they gave back.
use Rattle.std.proofs.Common.{◌≡◌, ◌<◌, ◌++◌, ℕ, suc, List, [], ◌∷◌, map, length}
use Rattle.std.proofs.Common.{slice_index_or, refl, sym, ap, subst, ◌∙◌, arith, append_assoc}
use Rattle.std.proofs.lemmas.List.{append-nil, map-append}
use Rattle.std.specs.List.{All, AllZip, remove}
use Rattle.std.specs.PromisedHandle.{KeepsEach}
use Rattle.std.specs.declared.thread.PromisedHandle.{PromisedHandle}
use Rattle.std.specs.declared.thread.Promise as Promise
use Rattle.jr_scripts.specs.declared.part.Job.{Job}
use Rattle.jr_rule.specs.declared.site.Site.{Ghosts}
use Rattle.jr_scripts.specs.declared.part.ThreadRun.{ThreadRun}
use Rattle.jr_scripts.specs.declared.starting.Doing.{Doing}
use Rattle.jr_scripts.specs.declared.board.Posts.{Posts}
use Rattle.jr_rule.specs.declared.site.PinnedNoteOf.{PinnedNoteOf}
use Rattle.jr_scripts.specs.Layouts.{layout_of}
use Rattle.jr_scripts.specs.AllRuns.{RanPass}
use Rattle.jr_scripts.specs.Given.{IsGiven}
use Rattle.jr_scripts.specs.Jobs.{HasRun, IsOver}
use Rattle.jr_scripts.specs.Telling.{talk_told}

abbrev pub Thread : {Q : Type 0} → Ghosts Q → Type 0
Thread {Q} G = PromisedHandle (ThreadRun Q G) (Doing Q G)

-- the job that a thread was given
abbrev pub given_to : {Q : Type 0} {G : Ghosts Q} → Thread G → Job
given_to h = record {
  task = record { first = h.promise.first; turns = h.promise.turns; commands = h.promise.commands };
  pass = h.promise.pass.value;
}

-- one more thread was started
pub given_more : {Q : Type 0} {G : Ghosts Q} (hs hs' : List (Thread G)) (h : Thread G) (js js' all : List Job) (j : Job)
    → hs' ≡ hs ++ h ∷ [] → js ≡ j ∷ js' → IsGiven h.promise j → map given_to hs ++ js ≡ all
    → map given_to hs' ++ js' ≡ all
given_more hs hs' h js js' all j more is given so =
    let one : given_to h ≡ j =
    λ i. record {
      task = record { first = given.first i; turns = given.turns i; commands = given.commands i };
      pass = given.pass i;
    } in
    ap (λ z. map given_to z ++ js') more ∙ (ap (λ z. z ++ js') (map-append given_to hs (h ∷ []))
    ∙ (append_assoc (map given_to hs) (given_to h ∷ []) js'
    ∙ (ap (λ z. map given_to hs ++ z ∷ js') one ∙ (ap (λ z. map given_to hs ++ z) (sym is) ∙ so))))

-- what a thread promised
abbrev DidIt : {Q : Type 0} {G : Ghosts Q} → Doing Q G → ThreadRun Q G → Type 0
DidIt d r = RanPass (talk_told r.notes.is_lost r.notes.posts.now.numbers.entries r.notes.notes.items) d.turns
    d.first d.commands.now d.pass.value r.pass r.answer r.text.items

kept_each : {Q : Type 0} {G : Ghosts Q} (kept : Doing Q G → ThreadRun Q G → Type 0)
    → ((p : Doing Q G) (r : ThreadRun Q G) → kept p r → DidIt p r) → (hs : List (Thread G)) (rs : List (ThreadRun Q G))
    → length rs ≡ length hs
    → ((i : ℕ) (d : ThreadRun Q G) → i < length hs
    → (h : Thread G) × (h ≡ slice_index_or hs i h) × kept h.promise (slice_index_or rs i d))
    → AllZip HasRun (map given_to hs) rs
kept_each kept same [] [] long each = tt
kept_each kept same [] (r ∷ rs) long each = absurd (omega arith)
kept_each kept same (h ∷ hs) [] long each = absurd (omega arith)
kept_each kept same (h ∷ hs) (r ∷ rs) long each =
    let x = each 0 r (omega arith) in (
      same h.promise r (subst (λ (z : Thread _). kept z.promise r) x.1 x.2),
      kept_each kept same hs rs (omega arith) (λ i d l. each (suc i) d (omega arith)),
    )

-- each thread kept its promise
all_kept : {Q : Type 0} {G : Ghosts Q} (g : Promise.Ghosts (Doing Q G) (ThreadRun Q G))
    → ((p : Doing Q G) (r : ThreadRun Q G) → g.kept_by p r → DidIt p r)
    → (hs : List (Thread G)) (rs : List (ThreadRun Q G)) → length rs ≡ length hs → KeepsEach g (length hs) hs rs
    → AllZip HasRun (map given_to hs) rs
all_kept g same hs rs long each =
    kept_each g.kept_by same hs rs long (λ i d l. let x = (each i d l).1 in (x.handle, x.handle_is, x.kept))

-- a list of which the first was removed
pub taken : {A : Type 0} (xs ys : List A) (x : A) → 0 < length xs → x ≡ slice_index_or xs 0 x → ys ≡ remove xs 0
    → xs ≡ x ∷ ys
taken [] ys x some is rest = absurd (omega arith)
taken (z ∷ zs) ys x some is rest = λ i. sym is i ∷ sym rest i

pub none_left : {A : Type 0} (xs : List A) → length xs ≡ 0 → xs ≡ []
none_left [] e = refl
none_left (x ∷ xs) e = absurd (omega arith)

-- all were started, and have kept their promises
pub all_done : {Q : Type 0} {G : Ghosts Q} (g : Promise.Ghosts (Doing Q G) (ThreadRun Q G))
    → ((p : Doing Q G) (r : ThreadRun Q G) → g.kept_by p r → DidIt p r)
    → (hs : List (Thread G)) (rs : List (ThreadRun Q G)) (xs js : List Job) (n : ℕ) → n ≡ length hs
    → length rs ≡ length hs → KeepsEach g n hs rs → length xs ≡ 0 → map given_to hs ++ xs ≡ js → AllZip HasRun js rs
all_done g same hs rs xs js n count long each none so =
    subst (λ z. AllZip HasRun z rs) (sym (append-nil (map given_to hs))
    ∙ (ap (λ z. map given_to hs ++ z) (sym (none_left xs none)) ∙ so))
    (all_kept g same hs rs long (subst (λ m. KeepsEach g m hs rs) count each))

-- each thread's notes are of the board that it was given
pub all_over : {Q : Type 0} {G : Ghosts Q} (g : Promise.Ghosts (Doing Q G) (ThreadRun Q G))
    → ((p : Doing Q G) (r : ThreadRun Q G) → g.kept_by p r → IsOver (layout_of p.board.now) r)
    → (b : Posts (PinnedNoteOf Q G)) (hs : List (Thread G)) (rs : List (ThreadRun Q G)) (n : ℕ) → n ≡ length hs
    → length rs ≡ length hs → KeepsEach g n hs rs
    → All (λ (h : Thread G). h.promise.board.now ≡ b) hs → All (IsOver (layout_of b)) rs
all_over g same b hs rs n count long each all i d l =
    let here : i < n = omega arith in
    let x = (each i d here).1 in
    let one : x.handle.promise.board.now ≡ b =
    subst (λ (h : Thread _). h.promise.board.now ≡ b) (sym x.handle_is) (all i x.handle (omega arith)) in
    same x.handle.promise (slice_index_or rs i d) x.kept ∙ ap layout_of one
