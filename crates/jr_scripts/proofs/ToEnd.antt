-- A thread's commands, and then the end of its local references, for whatever was known.
use Rattle.std.proofs.Common.{ℕ, List, [], Result, Err, refl}
use Rattle.jr_word.specs.declared.fault.Fault.{Fault}
use Rattle.jr_word.specs.declared.fault.Fault.TheVariants as fault
use Rattle.jr_model.specs.Frames.{Frames}
use Rattle.jr_syntax.specs.declared.command.Command.{Command}
use Rattle.jr_steps.specs.Knowing.{Facts}
use Rattle.jr_gate.specs.Performing.{thread_state}
use Rattle.jr_gate.proofs.SameRoom.{nothing_changed, still_before}
use Rattle.jr_env.specs.Deeds.{DoesDeed, free_locals}
use Rattle.jr_scripts.specs.Commands.{tried}
use Rattle.jr_scripts.specs.Explains.{nothing, written}
use Rattle.jr_scripts.specs.Places.{nowhere}
use Rattle.jr_scripts.specs.Posting.{Speech}
use Rattle.jr_scripts.specs.Runs.{running, running_to_end}
use Rattle.jr_scripts.proofs.Speaking.{Carries, leaves_still}

-- no command was done, since memory was refused before the first
pub not_begun : {S : Type 0} {facts : S → Facts} {a : S} {f : Frames} (talk : Speech) (turns first : ℕ)
    (commands : List Command) → DoesDeed facts a a f f (running talk turns first commands []) (Err fault.Memory)
not_begun {facts = facts} {a = a} {f = f} talk turns first commands = record {
  stands_is = nothing_changed;
  did = λ k s m. let here = thread_state (facts a) k f in
      (k, s, m, (refl, written [] commands nowhere [] here refl nothing (refl, refl)));
}

pub ran_to_end : {S : Type 0} {facts : S → Facts} {a b c : S} {f g h : Frames} {talk : Speech} {turns first : ℕ}
    {commands : List Command} {answer freed : Result (Unit {0}) Fault} {text : List ℕ}
    → DoesDeed facts a b f g (running talk turns first commands text) answer
    → DoesDeed facts b c g h (tried turns free_locals) freed
    → DoesDeed facts a c f h (running_to_end talk turns first commands text) answer
ran_to_end {facts = facts} {b = b} {g = g} {freed = freed} r d = record {
  stands_is = still_before r.stands_is d.stands_is;
  did = λ k s m.
      let x = r.did k s m in
      let y = d.did x.0 x.1 x.2 in
      (y.0, y.1, y.2, (thread_state (facts b) x.0 g, x.3, record { answer = freed; tries = y.3 }));
}

-- what else may be told of it
pub ran_still : {S : Type 0} {facts : S → Facts} {a b : S} {f g : Frames} {t u : Speech} (s : Carries t u)
    {turns first : ℕ} {commands : List Command} {answer : Result (Unit {0}) Fault} {text : List ℕ}
    → DoesDeed facts a b f g (running_to_end t turns first commands text) answer
    → DoesDeed facts a b f g (running_to_end u turns first commands text) answer
ran_still {facts = facts} {a = a} {f = f} s {turns = turns} {first = first} {commands = commands} {answer = answer}
    {text = text} d = record {
      stands_is = d.stands_is;
      did = λ k m h. let x = d.did k m h in (
        x.0,
        x.1,
        x.2,
        (x.3.0, leaves_still s turns first (thread_state (facts a) k f) commands text x.3.0 answer x.3.1, x.3.2),
      );
    }
