-- A dump behind a collection, where no other thread acted since: it is of what stands at the end.
use Rattle.std.proofs.Common.{◌≡◌, ◌≢◌, ◌⊎◌, inl, inr, ⊎_elim, ◌<◌, ◌+◌, ◌-◌, ◌==◌, ◌||◌, ℕ, nat_eq, Bool, true}
use Rattle.std.proofs.Common.{false, cond, if◌then◌else◌, Option}
use Rattle.std.proofs.Common.{Some, None, List, [], ◌∷◌, ◌++◌, map, slice_index_or, refl, sym, ap, subst, ◌∙◌}
use Rattle.std.proofs.Common.{append_assoc, arith}
use Rattle.std.proofs.lemmas.List.{append-nil}
use Rattle.std.specs.List.{AllByRecursion}
use mathlib.Core.List.{IsPrefix}
use mathlib.Core.Logic.{dite}
use native.Mathlib.Decide.{ℕ_discrete}
use Rattle.jr_word.specs.declared.config.Config.{Config}
use Rattle.jr_word.specs.declared.header.HeaderParts.{HeaderParts}
use Rattle.jr_model.specs.declared.event.Act.{Act}
use Rattle.jr_model.specs.declared.event.Act.TheVariants.{Gate}
use Rattle.jr_model.specs.declared.event.Event.{Event}
use Rattle.jr_model.specs.declared.event.GateAct.TheVariants.{Shut, Reopen}
use Rattle.jr_model.specs.declared.summary.Summary.{Summary}
use Rattle.jr_model.specs.CollectionCalls.{collection_acts}
use Rattle.jr_model.specs.History.{History, Did, by, state, mine, IsLegal, IsLegalFrom}
use Rattle.jr_model.specs.State.{State, IsPresent}
use Rattle.jr_model.specs.Steps.{after}
use Rattle.jr_model.proofs.Collections.{reached_mono}
use Rattle.jr_model.proofs.Histories.{legal_append, mine_append, state_append}
use Rattle.jr_model.proofs.Moments.{prefix_self, prefix_trans}
use Rattle.jr_model.proofs.Stays.{append_cancel, did_then}
use Rattle.jr_model.proofs.Updates.{eq_self}
use Rattle.jr_steps.specs.declared.known.Known.{Known}
use Rattle.jr_steps.specs.Knowing.{state_of, view}
use Rattle.jr_steps.proofs.StepFacts.{goes_did}
use Rattle.jr_rule.specs.Passes.{Closes, ClosesAll, HasEachPass, HasPass}
use Rattle.jr_census.specs.Dumps.{KeepsNumber}
use Rattle.jr_alive.specs.declared.dump.Dump.{Dump}
use Rattle.jr_alive.specs.Graph.{HasRoomFor, IsInDump, noted_header}
use Rattle.jr_alive.proofs.Found.{is_some_of, some_is, there_inside, unless_none}
use Rattle.jr_alive.proofs.Told.{alive_told}
use Rattle.jr_threads.specs.Closing.{HasNoGarbage, HasSweptAll, LearnsAll}
use Rattle.jr_threads.specs.Listing.{ClosesListed, ClosesListing, IsOfState, TellsLeft, TookDump}
use Rattle.jr_threads.proofs.Closed.{all_later, done_later, end_state, others_done, same_end}
use Rattle.jr_threads.proofs.Garbage.{same_tables}
use Rattle.jr_threads.proofs.Swept.{learned_did}

-- where one thread alone acted, the events are its acts
rest_none : (b : Bool) (a : Act) (ys : List Act) → cond b (a ∷ ys) ys ≡ [] → ys ≡ []
rest_none true a ys e = absurd cc
rest_none false a ys e = e

own_act : (e : Event) (es : History) → mine (e ∷ es) e.thread ≡ e.act ∷ mine es e.thread
own_act e es = ap (λ b. cond b (e.act ∷ mine es e.thread) (mine es e.thread)) (eq_self e.thread)

event_own : (t : ℕ) (e : Event) (es : History) → e.thread ≡ t → es ≡ map (by t) (mine es t)
    → e ∷ es ≡ map (by t) (mine (e ∷ es) t)
event_own t e es same rest =
    let is : e ≡ by t e.act = λ i. record { thread = same i; act = e.act } in
    let first : mine (e ∷ es) t ≡ e.act ∷ mine es t =
    subst (λ u. mine (e ∷ es) u ≡ e.act ∷ mine es u) same (own_act e es) in
    (λ i. is i ∷ rest i) ∙ ap (map (by t)) (sym first)

only_own : (c : Config) (last t : ℕ) (s : State) (es : History) → IsLegalFrom c last s es
    → ((u : ℕ) → u < c.threads → u ≢ t → mine es u ≡ []) → es ≡ map (by t) (mine es t)
only_own c last t s [] legal none = refl
only_own c last t s (e ∷ es) legal none =
    let rest = only_own c last t (after s e) es legal.1
    (λ u l ne. rest_none (nat_eq e.thread u) e.act (mine es u) (none u l ne)) in
    dite (ℕ_discrete e.thread t) (λ same. event_own t e es same rest)
    (λ ne. absurd (let z = sym (own_act e es) ∙ none e.thread (legal.0).0 ne in cc))

cons_not_none : {A : Type 0} (xs : List A) (x : A) (ys : List A) → xs ++ x ∷ ys ≡ [] → ⊥
cons_not_none [] x ys e = absurd cc
cons_not_none (z ∷ xs) x ys e = absurd cc

-- the shut is the first of the two
shut_first : (t : ℕ) (front rest : History)
    → front ++ by t (Gate Shut) ∷ rest ≡ by t (Gate Shut) ∷ by t (Gate Reopen) ∷ [] → front ≡ []
shut_first t [] rest e = refl
shut_first t (x ∷ []) rest e =
    let z : by t (Gate Shut) ≡ by t (Gate Reopen) = cc in
    let a : Gate Shut ≡ Gate Reopen = ap (λ (v : Event). v.act) z in absurd cc
shut_first t (x ∷ y ∷ front) rest e = absurd (cons_not_none front (by t (Gate Shut)) rest cc)

-- the state in which a thread opens the gate that it has just shut
abbrev pub reopened : ℕ → State → State
reopened t s = after (after s (by t (Gate Shut))) (by t (Gate Reopen))

nothing_then : (c : Config) (t : ℕ) (s : State) → HasNoGarbage c s → HasNoGarbage c (reopened t s)
nothing_then c t s g = record {
  objects = λ o p. reached_mono s (reopened t s) (same_tables s (reopened t s) refl refl refl) (g.objects o p);
  weaks = λ h o k r. reached_mono s (reopened t s) (same_tables s (reopened t s) refl refl refl) (g.weaks h o k r);
  words = g.words;
}

number_then : (t : ℕ) (s : State) (o : ℕ) (q : Option HeaderParts) (words : List ℕ) → KeepsNumber s o q words
    → KeepsNumber (reopened t s) o q words
number_then t s o None words k = k
number_then t s o (Some h) words k = k

dump_then : (c : Config) (last t : ℕ) (s : State) (d : Dump) → IsOfState c last s d → IsOfState c last (reopened t s) d
dump_then c last t s d is = record {
  slots = is.slots;
  locals = is.locals;
  objects = λ j l. number_then t s (j + 1) (slice_index_or d.headers.items j None) d.words.items (is.objects j l);
}

-- what the dump of a state has is present there
header_is : (d : Dump) (o : ℕ) → IsInDump d 0 o → noted_header d 0 o ≡ slice_index_or d.headers.items (o - 1) None
header_is d o t =
    let v = slice_index_or d.headers.items (o - 1) None in
    let z = unless_none ((o == 0) || (o == 0)) v t in ap (λ b. if b then None else v) z.0

number_present : (s : State) (o : ℕ) (h : HeaderParts) (words : List ℕ) → KeepsNumber s o (Some h) words
    → IsPresent s o
number_present s o h words k = is_some_of (s.objects o) k.0 k.1

dumped_present : (c : Config) (last : ℕ) (s : State) (d : Dump) → HasRoomFor c d → IsOfState c last s d → (o : ℕ)
    → IsInDump d 0 o → IsPresent s o
dumped_present c last s d room is o t =
    let z = there_inside d 0 o t in
    let some = z.0 in
    let most = z.1 in
    let long = d.headers.ok.0 in
    let wide = room.headers in
    let h = some_is (noted_header d 0 o) t in
    number_present s o h.0 d.words.items (subst (λ q. KeepsNumber s o q d.words.items) (sym (header_is d o t) ∙ h.1)
    (subst (λ n. KeepsNumber s n (slice_index_or d.headers.items (o - 1) None) d.words.items)
    (let e : o - 1 + 1 ≡ o = omega arith in e) (is.objects (o - 1) (omega arith))))

-- A DUMP WAS TAKEN where nothing was left to collect, and no other thread has acted since
module _ (k j : Known) (d : Dump) (took : TookDump (view k) (view j) d) (whole : History)
    (begins : IsPrefix j.seen whole) (nothing : HasNoGarbage k.config (state k.seen))
    (still : (t : ℕ) → t < k.config.threads → (k.thread ≡ t) ⊎ (mine whole t ≡ mine k.seen t)) where
  abbrev did : Did (view k) (view j) (Gate Shut ∷ Gate Reopen ∷ [])
  did = took.told.did

  abbrev more : History
  more = did.begins.0

  abbrev two : History
  two = by k.thread (Gate Shut) ∷ by k.thread (Gate Reopen) ∷ []

  parts : IsLegal k.config k.last k.seen × IsLegalFrom k.config k.last (state k.seen) more
  parts = (legal_append k.config k.last k.seen more).0
      (subst (IsLegal k.config k.last) (sym did.begins.1) did.legal)

  own : mine more k.thread ≡ Gate Shut ∷ Gate Reopen ∷ []
  own = append_cancel (mine k.seen k.thread) (mine more k.thread) (Gate Shut ∷ Gate Reopen ∷ [])
      (sym (mine_append k.seen more k.thread) ∙ (ap (λ es. mine es k.thread) did.begins.1 ∙ did.own))

  -- what others did since
  pub still_then : (t : ℕ) → t < j.config.threads → (j.thread ≡ t) ⊎ (mine whole t ≡ mine j.seen t)
  still_then t l = ⊎_elim
      (λ (e : k.thread ≡ t). inl (did.thread ∙ e))
      (λ (done : mine whole t ≡ mine k.seen t). inr (done_later k.seen j.seen whole t did.begins begins done))
      (still t (subst (λ (c : Config). t < c.threads) did.config l))

  none : (u : ℕ) → u < k.config.threads → u ≢ k.thread → mine more u ≡ []
  none u l ne = ⊎_elim
      (λ (e : k.thread ≡ u). absurd (ne (sym e)))
      (λ (done : mine whole u ≡ mine k.seen u).
      append_cancel (mine k.seen u) (mine more u) [] (sym (mine_append k.seen more u)
      ∙ (ap (λ es. mine es u) did.begins.1
      ∙ (sym (done_later k.seen j.seen whole u did.begins begins done)
      ∙ (done ∙ sym (append-nil (mine k.seen u)))))))
      (still u l)

  more_is : more ≡ two
  more_is = only_own k.config k.last k.thread (state k.seen) more parts.1 none ∙ ap (map (by k.thread)) own

  seen_is : j.seen ≡ k.seen ++ two
  seen_is = sym did.begins.1 ∙ ap (λ es. k.seen ++ es) more_is

  state_is : state_of j ≡ reopened k.thread (state k.seen)
  state_is = ap state seen_is ∙ state_append k.seen two

  before_is : took.told.shut.before ≡ k.seen
  before_is =
      let z = took.told.shut in
      let front = shut_first k.thread z.from.0 z.rest (append_cancel k.seen
      (z.from.0 ++ by k.thread (Gate Shut) ∷ z.rest) two
      (sym (append_assoc k.seen z.from.0 (by k.thread (Gate Shut) ∷ z.rest))
      ∙ (ap (λ es. es ++ by k.thread (Gate Shut) ∷ z.rest) z.from.1 ∙ (sym z.parts ∙ seen_is)))) in
      sym z.from.1 ∙ (ap (λ es. k.seen ++ es) front ∙ append-nil k.seen)

  told : IsOfState k.config k.last (state k.seen) d
  told = subst (λ es. IsOfState k.config k.last (state es) d) before_is took.told.told

  -- nothing is left at the end, and the dump tells what was left
  pub tells : state whole ≡ state_of j
      → HasNoGarbage k.config (state whole) × TellsLeft k.config k.last (state whole) d
  tells same =
      let there = sym (same ∙ state_is) in (
        subst (HasNoGarbage k.config) there (nothing_then k.config k.thread (state k.seen) nothing),
        record {
          room = took.room;
          is = subst (λ s. IsOfState k.config k.last s d) there
              (dump_then k.config k.last k.thread (state k.seen) d told);
          kept = λ o noted. (alive_told k.config k.last k.seen d parts.0 took.room told o).1
              (nothing.objects o (dumped_present k.config k.last (state k.seen) d took.room told o noted));
        },
      )

-- A ROOM IS CLOSED with all passes, of which the first learned what the others had seen, collected, and took a dump
module _ (k learned swept j : Known) (ks : List Known) (d : Dump) (s : Summary) (learns : LearnsAll k learned ks)
    (collects : HasSweptAll (view learned) (view swept)) (took : TookDump (view swept) (view j) d)
    (closes : ClosesAll j ks s) (each : HasEachPass j.config (j ∷ ks)) where
  abbrev end : History
  end = closes.ends.whole

  all_swept : AllByRecursion (λ (z : Known). IsPrefix z.seen swept.seen) ks
  all_swept = all_later learned.seen swept.seen ks collects.did.begins learns.all

  to_end : IsPrefix j.seen end
  to_end = prefix_trans j.seen (closes.met).seen end (goes_did closes.goes).begins closes.ends.first.begins

  still_swept : (t : ℕ) → t < swept.config.threads → (swept.thread ≡ t) ⊎ (mine end t ≡ mine swept.seen t)
  still_swept t l = ⊎_elim
      (λ (e : j.thread ≡ t). inl (sym took.told.did.thread ∙ e))
      (λ (o : HasPass ks t). inr (others_done end swept.seen swept.seen t ks (prefix_self swept.seen)
      (prefix_trans swept.seen j.seen end took.told.did.begins to_end) closes.ends.others all_swept o))
      (each t (subst (λ (c : Config). t < c.threads) (sym took.told.did.config) l))

  told_end : HasNoGarbage swept.config (state end) × TellsLeft swept.config swept.last (state end) d
  told_end = tells swept j d took end to_end collects.nothing still_swept (end_state j ks s closes each
      (all_later swept.seen j.seen ks took.told.did.begins all_swept))

  pub closes_listing : ClosesListing k ks s d
  closes_listing =
      let sizes = sym took.told.did.config in
      let serial = sym took.told.did.last in
      record {
        closes = record {
          cleared = collects.cleared;
          dropped = collects.dropped;
          used = collects.used;
          swept = j;
          did = learned_did k learned j ks _ learns (did_then
              (collection_acts collects.cleared collects.dropped collects.used) (Gate Shut ∷ Gate Reopen ∷ [])
              collects.did took.told.did);
          closes = closes;
          nothing = subst (λ c. HasNoGarbage c (state end)) sizes told_end.0;
        };
        left = subst (λ (z : Config × ℕ). TellsLeft z.0 z.1 (state end) d) (λ i. (sizes i, serial i)) told_end.1;
      }

-- A ROOM IS CLOSED BY ONE PASS that had collected and taken a dump
pub closes_listed : (k swept j : Known) (d : Dump) (s : Summary) → HasSweptAll (view k) (view swept)
    → TookDump (view swept) (view j) d → Closes j s → ClosesListed k s d
closes_listed k swept j d s collects took closes = record {
  swept = swept;
  collects = collects;
  listed = j;
  lists = took;
  closes = closes;
  left = λ done.
      let to_end = prefix_trans j.seen (closes.met).seen closes.ends.whole (goes_did closes.goes).begins
      closes.ends.begins in
      let still : (t : ℕ) → t < swept.config.threads
      → (swept.thread ≡ t) ⊎ (mine closes.ends.whole t ≡ mine swept.seen t) =
      λ t l. dite (ℕ_discrete swept.thread t) (λ e. inl e) (λ ne. inr (done t l (λ e. ne (sym e)))) in
      tells swept j d took closes.ends.whole to_end collects.nothing still (same_end j closes.met closes.ends.whole
      closes.goes closes.ends.begins closes.ends.own closes.ends.legal
      (still_then swept j d took closes.ends.whole to_end collects.nothing still));
}
