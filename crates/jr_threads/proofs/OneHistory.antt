-- What all threads of a room did, in one history.
use Rattle.std.proofs.Common.{◌≡◌, ◌<◌, ◌∙◌, ℕ, zero, suc, Bool, true, List, [], ◌∷◌}
use Rattle.std.proofs.Common.{◌++◌, length, map, get_or, ap, subst, sym, refl, arith}
use Rattle.std.proofs.lemmas.List.{append-nil, get_or_append_left, get_or_push, length-map}
use Rattle.std.proofs.lemmas.List.Elements.{recursion_from_All}
use Rattle.std.proofs.lemmas.Slice.Zip.{AllZip-long}
use Rattle.std.specs.List.{AllByRecursion}
use mathlib.Core.Logic.{dite}
use native.Mathlib.Decide.{ℕ_discrete}
use Rattle.jr_word.specs.declared.config.Config.{Config}
use Rattle.jr_model.specs.declared.event.Act.{Act}
use Rattle.jr_model.specs.declared.event.Act.TheVariants.{Meet}
use Rattle.jr_model.specs.declared.summary.Summary.{Summary}
use Rattle.jr_model.specs.State.{Handle, not_outside, summary}
use Rattle.jr_model.specs.History.{History, Did, IsLegal, mine, state}
use Rattle.jr_model.specs.Frames.{fresh_frames}
use Rattle.jr_model.proofs.Moments.{prefix_trans}
use Rattle.jr_model.proofs.Stays.{did_then}
use Rattle.jr_steps.specs.declared.known.Known.{Known}
use Rattle.jr_steps.specs.Knowing.{view}
use Rattle.jr_steps.proofs.StepFacts.{goes_did}
use Rattle.jr_rule.specs.declared.pass.Pass.{Pass}
use Rattle.jr_rule.specs.declared.row.Row.{Row}
use Rattle.jr_rule.specs.Rule.{stepping_pass}
use Rattle.jr_rule.specs.Passes.{Holder, facts_of, holder_of, known_of, numbers_below}
use Rattle.jr_rule.specs.Passes.{standing_of, AreOpened, ClosesAll, EndsAll, IsOpened, IsSeenIn}
use Rattle.jr_env.specs.Deeds.{Deed}
use Rattle.jr_threads.specs.Closing.{ClosesBy, ClosesSwept, HasNoGarbage}
use Rattle.jr_threads.specs.declared.native.Ended.{Ended}
use Rattle.jr_threads.specs.Parts.{closing, DidWithPass, IsThreadPart, RanBy, RanTogether, ComesOfDeed}
use Rattle.jr_threads.specs.Sites.{answers_in, passes_in, ThreadRan, ThreadsRan, IsBack}
use Rattle.jr_threads.specs.Starting.{HaveDoneNothing}
use Rattle.jr_threads.proofs.Passes.{numbers_long, passes_long}
use Rattle.jr_threads.proofs.Starting.{comes_of, has_begun, opened_steps}
use Rattle.jr_threads.proofs.Stories.{outside_did}

-- what a thread did since its pass was opened
pub since : {A : Type 0} (deed : Deed A) (r : Row) (p : Pass) (now : Holder) (x : A) → IsOpened r p
    → DidWithPass deed p now x → ComesOfDeed r.config r.last p.thread deed x (stepping_pass now.seat.me).seen
since deed r p now x o h =
    let t = p.thread in
    let nothing = subst (λ u. HaveDoneNothing facts_of r.config r.last u (holder_of p)) p.held.thread_is
    (opened_steps (λ z. z) r p (holder_of p) r.config r.last o refl refl refl) in
    let start = has_begun r.config r.last t (holder_of p) h.spent (fresh_frames (standing_of p).config.locals) nothing
    h.spends refl in
    comes_of (λ z k n. n.1) r.config r.last t deed h.spent now (fresh_frames (standing_of p).config.locals) h.frames x
    (stepping_pass now.seat.me).seen start (outside_did start.steps.outside h.did)
    (λ k n. ap (λ (z : Known). z.seen) (sym n.0))

module _ {A : Type 0} (tells : A → Bool) (deed : ℕ → Deed A) (sweep : List Act) (whole : History) where
  -- the part of a thread that only made its calls
  part_of_other : (c : Config) (last t : ℕ) (x : A) (k : Known) → closing sweep t ≡ [] → k.thread ≡ t → IsSeenIn whole k
      → (tells x ≡ true → ComesOfDeed c last t (deed t) x k.seen) → IsThreadPart tells deed c last sweep whole t x
  part_of_other c last t x k none is_of s done = record {
    seen = k.seen;
    begins = s.begins;
    own = ap (mine whole) (sym is_of) ∙ (s.own
        ∙ (ap (mine k.seen) is_of ∙ (sym (append-nil (mine k.seen t)) ∙ ap (λ l. mine k.seen t ++ l) (sym none))));
    did = done;
  }

  -- the part of the one that looks at the gate at the end
  part_of_first : (c : Config) (last : ℕ) (x : A) (k met : Known) → k.thread ≡ 0
      → Did (view k) (view met) (sweep ++ Meet ∷ [])
      → IsSeenIn whole met → (tells x ≡ true → ComesOfDeed c last 0 (deed 0) x k.seen)
      → IsThreadPart tells deed c last sweep whole 0 x
  part_of_first c last x k met is_of d s done = record {
    seen = k.seen;
    begins = prefix_trans k.seen met.seen whole d.begins s.begins;
    own = ap (mine whole) (sym (d.thread ∙ is_of))
        ∙ (s.own ∙ (ap (mine met.seen) d.thread
        ∙ (d.own ∙ ap (λ l. l ++ (sweep ++ Meet ∷ [])) (ap (mine k.seen) is_of))));
    did = done;
  }

  -- the parts of threads that only made their calls, by their places in a list
  parts_of_others : (r : Row) (ps : List Pass) (es : List (Ended A)) → ThreadsRan tells deed r ps es
      → AllByRecursion (IsOpened r) ps → AllByRecursion (IsSeenIn whole) (map known_of (passes_in es))
      → (i t : ℕ) (d : A) → i < length ps → get_or (map (λ (p : Pass). p.thread) ps) i 0 ≡ t → closing sweep t ≡ []
      → IsThreadPart tells deed r.config r.last sweep whole t (get_or (answers_in es) i d)
  parts_of_others r [] es ran o s i t d below is none = absurd (omega arith)
  parts_of_others r (p ∷ ps) [] ran o s i t d below is none = absurd ran
  parts_of_others r (p ∷ ps) (e ∷ es) ran o s zero t d below is none =
      part_of_other r.config r.last t e.answer (known_of e.pass) none (((ran.0).back).thread ∙ (p.held.thread_is ∙ is))
      s.0
      (λ told. subst (λ u. ComesOfDeed r.config r.last u (deed u) e.answer (known_of e.pass).seen) is
      (since (deed p.thread) r p (holder_of e.pass) e.answer o.0 ((ran.0).came told)))
  parts_of_others r (p ∷ ps) (e ∷ es) ran o s (suc i) t d below is none =
      parts_of_others r ps es ran.1 o.1 s.1 i t d (omega arith) is none

-- at each place of the numbers stands the place
number_at : (n i : ℕ) → i < n → get_or (numbers_below n) i 0 ≡ i
number_at zero i below = absurd (omega arith)
number_at (suc n) i below = dite (ℕ_discrete n i)
    (λ e. get_or_push (numbers_below n) n 0 i (numbers_long n ∙ e) ∙ e)
    (λ ne. let less : i < n = omega arith in get_or_append_left (numbers_below n) (n ∷ []) 0 i
    (subst (λ z. i < z) (sym (numbers_long n)) less) ∙ number_at n i less)

-- all threads have run, and what is so of the history of the close is so of theirs
pub have_run_so : {A : Type 0} {acts : List Handle → List ℕ → ℕ → List Act} (so : History → Type 0) (tells : A → Bool)
    (deed : ℕ → Deed A) (r : Row) (ps : List Pass) (es : List (Ended A)) (first : Pass) (others : List Pass)
    (s : Summary) → AreOpened r.config r.last r ps → ThreadsRan tells deed r ps es → first ∷ others ≡ passes_in es
    → (x : ClosesBy acts (known_of first) (map known_of others) s) × so x.closes.ends.whole
    → (z : RanBy acts tells deed r.config r.last (answers_in es) s) × so z.whole
have_run_so so tells deed r [] [] first others s o ran is closes = absurd cc
have_run_so so tells deed r [] (e ∷ es) first others s o ran is closes = absurd ran
have_run_so so tells deed r (p ∷ ps) [] first others s o ran is closes = absurd ran
have_run_so {A} {acts} so tells deed r (p ∷ ps) (e ∷ es) first others s o ran is closes = (all, told.1) where
  front : first ≡ e.pass
  front = cc

  behind : others ≡ passes_in es
  behind = cc

  told : (x : ClosesBy acts (known_of e.pass) (map known_of (passes_in es)) s) × so x.closes.ends.whole
  told = subst
      (λ (z : Pass × List Pass). (x : ClosesBy acts (known_of z.0) (map known_of z.1) s) × so x.closes.ends.whole)
      (λ i. (front i, behind i)) closes

  behind_sweep : ClosesBy acts (known_of e.pass) (map known_of (passes_in es)) s
  behind_sweep = told.0

  ends : ClosesAll behind_sweep.swept (map known_of (passes_in es)) s
  ends = behind_sweep.closes

  sweep : List Act
  sweep = acts behind_sweep.cleared behind_sweep.dropped behind_sweep.used

  opened : AllByRecursion (IsOpened r) (p ∷ ps)
  opened = recursion_from_All (IsOpened r) (p ∷ ps) o.each

  long : length (p ∷ ps) ≡ r.config.threads
  long = passes_long r.config r.last r (p ∷ ps) o

  number : (i : ℕ) → i < r.config.threads → get_or (map (λ (q : Pass). q.thread) (p ∷ ps)) i 0 ≡ i
  number i below = ap (λ l. get_or l i 0) o.threads ∙ number_at r.config.threads i below

  own_number : p.thread ≡ 0
  own_number = number 0 (let all = long in omega arith)

  d : Did (view (known_of e.pass)) (view ends.met) (sweep ++ Meet ∷ [])
  d = did_then sweep (Meet ∷ []) behind_sweep.did (goes_did ends.goes)

  back : IsBack r p e.pass
  back = (ran.0).back

  is_of : (known_of e.pass).thread ≡ 0
  is_of = back.thread ∙ (p.held.thread_is ∙ own_number)

  config_is : (ends.met).config ≡ r.config
  config_is = d.config ∙ (back.at).config

  last_is : (ends.met).last ≡ r.last
  last_is = d.last ∙ (back.at).last

  end : EndsAll ends.met (map known_of (passes_in es)) s
  end = ends.ends

  done : tells e.answer ≡ true → ComesOfDeed r.config r.last 0 (deed 0) e.answer (known_of e.pass).seen
  done told = subst (λ u. ComesOfDeed r.config r.last u (deed u) e.answer (known_of e.pass).seen) own_number
      (since (deed p.thread) r p (holder_of e.pass) e.answer opened.0 ((ran.0).came told))

  parts : (t : ℕ) (x : A) → t < r.config.threads
      → IsThreadPart tells deed r.config r.last sweep end.whole t (get_or (answers_in (e ∷ es)) t x)
  parts zero x below =
      part_of_first tells deed sweep end.whole r.config r.last e.answer (known_of e.pass) ends.met is_of d end.first
      done
  parts (suc i) x below = parts_of_others tells deed sweep end.whole r ps es ran.1 opened.1 end.others i (suc i) x
      (let all = long in omega arith) (number (suc i) below) refl

  all : RanBy acts tells deed r.config r.last (answers_in (e ∷ es)) s
  all = record {
    whole = end.whole;
    legal = subst (λ (z : Config × ℕ). IsLegal z.0 z.1 end.whole) (λ i. (config_is i, last_is i)) end.legal;
    lawful = end.lawful;
    count = length-map (e ∷ es) (λ (z : Ended A). z.answer)
        ∙ (AllZip-long (ThreadRan tells deed r) (p ∷ ps) (e ∷ es) ran ∙ long);
    cleared = behind_sweep.cleared;
    dropped = behind_sweep.dropped;
    used = behind_sweep.used;
    parts = parts;
    looked = record {
      seen = (ends.met).seen;
      begins = (end.first).begins;
      own = subst (λ t. mine end.whole t ≡ mine (ends.met).seen t) (d.thread ∙ is_of) (end.first).own;
      nobody = subst (λ c. not_outside c (state (ends.met).seen) ≡ 0)
          (behind_sweep.did.config ∙ (back.at).config) ends.nobody;
    };
    nothing = subst (λ c. HasNoGarbage c (state end.whole)) (behind_sweep.did.config ∙ (back.at).config)
        behind_sweep.nothing;
    is = end.is ∙ ap (λ (z : Config × ℕ). summary z.0 z.1 (state end.whole)) (λ i. (config_is i, last_is i));
  }

-- ALL THREADS HAVE RUN
pub have_run : {A : Type 0} (tells : A → Bool) (deed : ℕ → Deed A) (r : Row) (ps : List Pass) (es : List (Ended A))
    (first : Pass) (others : List Pass) (s : Summary)
    → AreOpened r.config r.last r ps → ThreadsRan tells deed r ps es → first ∷ others ≡ passes_in es
    → ClosesSwept (known_of first) (map known_of others) s → RanTogether tells deed r.config r.last (answers_in es) s
have_run tells deed r ps es first others s o ran is closes =
    (have_run_so (λ h. Unit {0}) tells deed r ps es first others s o ran is (closes, tt)).0
