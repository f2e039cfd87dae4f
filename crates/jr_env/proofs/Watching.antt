-- A call with a watcher, of the call of the caller beneath.
use Rattle.std.proofs.Common.{◌≡◌, ℕ, List, Option, None, Result, Ok, Err, refl, subst, sym, ◌∙◌}
use Rattle.jr_word.specs.declared.fault.Fault.{Fault}
use Rattle.jr_frames.specs.declared.explaining.Explanation.{Explanation}
use Rattle.jr_env.specs.declared.checked.Checked.{Checked}
use Rattle.jr_env.specs.declared.checked.Refusal.{Refusal}
use Rattle.jr_env.specs.declared.span.Span.{Span}
use Rattle.jr_env.specs.Requests.{Request, request_name, request_words}
use Rattle.jr_env.specs.Spans.{Spans}
use Rattle.jr_env.specs.Watching.{HasTold, TellsOf, WasWatched}

module _ {N W A : Type 0} {explained : N → N → ℕ → Result Explanation Fault → Type 0}
    {measured : N → N → ℕ → Result ℕ Fault → Type 0} {thread : N → ℕ} {hears : W → W → Refusal → Type 0}
    {made : N → N → Request A → Result A Fault → Type 0} {old : Checked N W}
    {request : Request A} {answer : Result A Fault} (mid : Checked N W) where
  -- where it was not refused nobody was told
  pub unrefused : (x : A) → answer ≡ Ok x → made old.caller.now mid.caller.now request answer
      → mid.caller.ghost_name ≡ old.caller.ghost_name → mid.watcher ≡ old.watcher → mid.name ≡ old.name
      → WasWatched explained measured thread hears made old mid request answer
  unrefused x is call same watcher name = record {
    same_reference = same;
    mid = mid;
    call = call;
    watcher = watcher;
    same_name = name;
    span = None;
    asks = tt;
    tells = subst (TellsOf explained measured thread hears mid mid (request_name request) (request_words request) None)
        (sym is) refl;
  }

  -- where it was, the watcher was
  pub refused : {new : Checked N W} {name words : List ℕ} {span : Option Span} (e : Fault) → answer ≡ Err e
      → made old.caller.now mid.caller.now request answer
      → mid.caller.ghost_name ≡ old.caller.ghost_name → mid.watcher ≡ old.watcher → mid.name ≡ old.name
      → new.caller.ghost_name ≡ mid.caller.ghost_name → name ≡ request_name request
      → words ≡ request_words request → Spans request span
      → HasTold explained measured thread hears mid new name words span e
      → WasWatched explained measured thread hears made old new request answer
  refused {new} {name} {words} {span} e is call same watcher named then called are asks told = record {
    same_reference = then ∙ same;
    mid = mid;
    call = call;
    watcher = watcher;
    same_name = named;
    span = span;
    asks = asks;
    tells = subst (TellsOf explained measured thread hears mid new (request_name request) (request_words request) span)
        (sym is)
        (subst (λ n. HasTold explained measured thread hears mid new n (request_words request) span e) called
        (subst (λ ws. HasTold explained measured thread hears mid new name ws span e) are told));
  }
