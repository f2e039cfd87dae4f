-- A call of the heap from its steps, for whatever was known.
use Rattle.std.proofs.Common.{◌≡◌, arith, List, [], Result, IfErr, refl}
use mathlib.Core.Logic.{∥∥₁_map}
use Rattle.jr_word.specs.declared.fault.Fault.{Fault}
use Rattle.jr_model.specs.declared.event.Act.{Act}
use Rattle.jr_model.specs.History.{Did}
use Rattle.jr_model.specs.Frames.{Frames}
use Rattle.jr_model.specs.Calls.{Call}
use Rattle.jr_model.specs.Windows.{IsWindow}
use Rattle.jr_model.specs.Refusals.{Grounds}
use Rattle.jr_model.proofs.Stays.{did_nothing}
use Rattle.jr_model.proofs.Windows.{window_nothing}
use Rattle.jr_steps.specs.declared.known.Known.{Known}
use Rattle.jr_steps.specs.Knowing.{AreOf, Facts, MayKnow, Takes, view}
use Rattle.jr_heap.specs.Heap.{Called}

-- what takes no step
pub no_step : (k : Known) → Takes 0 k k
no_step k = omega arith

-- what the acts between two moments are to the call, and what it shows
pub record IsCall {A : Type 0} (k k' : Known) (acts : List Act) (call : Call A) (answer : Result A Fault)
    (so : Type 0) : Type 0 where
  pub did : Did (view k) (view k') acts
  pub is : (f : Frames) → call f acts answer f
  pub window : IsWindow (view k) (view k') acts k.seen
  pub grounds : IfErr answer (Grounds k.seen (view k'))
  pub shows : so

module _ {S : Type 0} {facts : S → Facts} where
  pub called_by : {A : Type 0} {old new : S} {met : Known → Type 0} {call : Known → Known → Call A}
      {answer : Result A Fault} {shows : Known → Known → Type 0}
      → (facts new).hint ≡ (facts old).hint → ((k : Known) → (facts old).knows k → met k
      → (k' : Known) × (facts new).knows k' × (acts : List Act) × IsCall k k' acts (call k k') answer (shows k k'))
      → Called facts old new met call answer shows
  called_by hint go = record {
    hint_is = hint;
    ran = λ k s m.
        let g = go k s m in (
          g.0,
          g.1,
          λ f. record {
            acts = g.2;
            did = g.3.did;
            is = g.3.is f;
            begun = k.seen;
            window = g.3.window;
            grounds = g.3.grounds;
          },
          g.3.shows,
        );
  }

  pub called_none : {A : Type 0} {old : S} {met : Known → Type 0} {call : Known → Known → Call A}
      {answer : Result A Fault} {shows : Known → Known → Type 0} (fits : AreOf facts)
      → ((k : Known) → (facts old).knows k → met k → (f : Frames) → call k k f [] answer f)
      → ((k : Known) → IfErr answer (Grounds k.seen (view k))) → ((k : Known) → shows k k)
      → Called facts old old met call answer shows
  called_none {old} fits is grounds shows = record {
    hint_is = refl;
    ran = λ k s m. (
      k,
      s,
      λ f. record {
        acts = [];
        did = did_nothing (view k) (fits old k s).legal;
        is = is k s m f;
        begun = k.seen;
        window = window_nothing (view k);
        grounds = grounds k;
      },
      shows k,
    );
  }

  -- what a call shows, without how many steps it took
  pub uncounted : {A : Type 0} {old new : S} {met : Known → Type 0} {call : Known → Known → Call A}
      {answer : Result A Fault} {shows counts : Known → Known → Type 0}
      → Called facts old new met call answer (λ j k. shows j k × counts j k)
      → Called facts old new met call answer shows
  uncounted c = record { hint_is = c.hint_is; ran = λ k s m. let r = c.ran k s m in (r.0, r.1, r.2, r.3.0) }

  -- what may be known after a call
  pub may_called : {A : Type 0} {old new : S} {met : Known → Type 0} {call : Known → Known → Call A}
      {answer : Result A Fault} {shows : Known → Known → Type 0} {was so : Known → Type 0}
      → Called facts old new met call answer shows → MayKnow facts old was → ((k : Known) → was k → met k)
      → ((k k' : Known) → (facts old).knows k → was k → (acts : List Act) → Did (view k) (view k') acts → shows k k'
      → so k') → MayKnow facts new so
  may_called {so = so} c may meets then' = ∥∥₁_map may (λ k. let r = c.ran k.0 k.1 (meets k.0 k.2) in
      let f = (r.2 (record { frames = []; given = [] })) in (r.0, r.1, then' k.0 r.0 k.1 k.2 f.acts f.did r.3))
