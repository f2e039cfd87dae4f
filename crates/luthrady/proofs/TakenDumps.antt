-- Dumps whose notes lie in memory of their own.
use Rattle.std.proofs.Common.{◌≡◌, ◌++◌, ◌∙◌, ℕ, List, [], Option, None, Some, Ok, Err, drop, length, subst, sym, take}
use Rattle.std.proofs.lemmas.List.{take_at}
use Rattle.jr_word.specs.declared.fault.Fault.{Fault}
use Rattle.jr_word.specs.declared.header.HeaderParts.{HeaderParts}
use Rattle.jr_word.specs.declared.local.LocalParts.{LocalParts}
use Rattle.jr_word.specs.declared.slot.SlotParts.{SlotParts}
use Rattle.jr_steps.specs.declared.steps.Steps.{Ghosts}
use Rattle.jr_env.specs.declared.env.Env.{Env}
use Rattle.jr_env.specs.Envs.{Does}
use Rattle.jr_env.proofs.EnvCalls.{does_more}
use Rattle.luthrady.specs.Dumped.{dump_by}

-- a list that was lent whole, and comes back as long, is what was left there
pub left_whole : {X : Type 0} (items lent new : List X) (len : ℕ) → length lent ≡ len → length new ≡ length lent
    → take len (new ++ drop (length new) items) ≡ new
left_whole items lent new len long same = take_at new (drop (length new) items) len (same ∙ long)

-- the notes, under other names
pub noted_as : {S : Type 0} {G : Ghosts S} (tries : Option ℕ) (old new : Env S G) {s s' : List SlotParts}
    {l l' : List LocalParts} {h h' : List (Option HeaderParts)} {w w' : List ℕ}
    → s' ≡ s → l' ≡ l → h' ≡ h → w' ≡ w → Does old new (dump_by tries s l h w) (Ok tt)
    → Does old new (dump_by tries s' l' h' w') (Ok tt)
noted_as tries old new e f g k does =
    let a = sym e in
    let b = sym f in
    let c = sym g in
    let d = sym k in
    subst (λ (z : (List SlotParts × List LocalParts) × (List (Option HeaderParts) × List ℕ)).
    Does old new (dump_by tries z.0.0 z.0.1 z.1.0 z.1.1) (Ok tt)) (λ i. ((a i, b i), (c i, d i))) does

-- a refusal, whatever notes it left
pub refused_as : {S : Type 0} {G : Ghosts S} (tries : Option ℕ) (old new : Env S G) (s : List SlotParts)
    (l : List LocalParts) (h : List (Option HeaderParts)) (w : List ℕ) (e : Fault)
    → Does old new (dump_by tries s l h w) (Err e) → Does old new (dump_by tries [] [] [] []) (Err e)
refused_as None old new s l h w e does = does_more (λ p q x. x) does
refused_as (Some n) old new s l h w e does = does_more (λ p q x. x) does
