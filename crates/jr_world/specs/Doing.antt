-- PROGRAMS OF STEPS over one world that threads share: what a call does, one step after the other, while others may
-- take steps of theirs between any two.
use Rattle.std.specs.Prelude.{◌+◌, ◌==◌, ◌&&◌, ◌||◌, ℕ, zero, suc, Bool, false, cond, not}
use Rattle.std.specs.Prelude.{nat_lt, nat_le, Option, Some, None, is_some, Result, Ok, Err, List, [], ◌∷◌, ◌++◌, map}
use Rattle.std.specs.Prelude.{length, replicate, drop, slice_index, slice_index_or, slice_set}
use Rattle.std.specs.List.{filter, flat_map}
use Rattle.jr_word.specs.declared.config.Config.{Config}
use Rattle.jr_word.specs.declared.fault.Fault.{Fault}
use Rattle.jr_word.specs.declared.fault.Fault.TheVariants as fault
use Rattle.jr_word.specs.declared.handle.Handle.{Handle}
use Rattle.jr_word.specs.declared.handle.RefKind.{RefKind}
use Rattle.jr_word.specs.declared.handle.RefKind.TheVariants.{Local, Global, Weak}
use Rattle.jr_word.specs.declared.kind.Kind.{Kind}
use Rattle.jr_model.specs.declared.event.Role.{Role}
use Rattle.jr_model.specs.declared.event.Role.TheVariants.{Outside, Within, Knocking}
use Rattle.jr_model.specs.State.{Contents, same_kind, is_barring}
use Rattle.jr_model.specs.Programs.{AnswerKind}
use Rattle.jr_model.specs.Programs.{Which, one, other, at_both, set_known, Ending}
use Rattle.jr_model.specs.Checks.{same_object}
use Rattle.jr_model.specs.Programs.{gives_kind, gives_number, gives_object, compares, types, creates, refers, deletes}
use Rattle.jr_model.specs.Programs.{deletes_local, asks_room, pushes, pops_to, frees, makes, fills, reads}
use Rattle.jr_model.specs.Programs.{reads_from, copies, writes, writes_to, writes_from, Program, ends, names}
use Rattle.jr_model.specs.Programs.{names_both, wants, looks, tests, finds}
use Rattle.jr_model.specs.Tests.{refused_by}
use Rattle.jr_world.specs.World.{Meaning, MeantOf, Ref, World, added, all_but_last, ask, change, contents, delete}
use Rattle.jr_world.specs.World.{element_for, element_to, held, named_by, new_local, new_object, new_ref, newest_frame}
use Rattle.jr_world.specs.World.{not_null, object, overwritten, push, refs_of, refuse_where, removed, reserve, rewrites}
use Rattle.jr_world.specs.World.{room_for, type_meant}

-- WHAT THREADS SHARE: what was made, whose each local reference is, the frames of each thread, where each stands at the
-- gate, and the words that were posted, each with its name
pub record Shared : Type 0 where
  pub objects : List (Option Contents)
  pub refs : List (Option Ref)
  pub owners : List (Option ℕ)  -- of each reference: its thread, none where it is a global or a weak one
  pub used : ℕ
  pub frames : List (List (List ℕ))
  pub roles : List Role
  pub board : List (List ℕ × ℕ)

-- where so many threads begin
abbrev pub first_shared : ℕ → Shared
first_shared threads = record {
  objects = [];
  refs = [];
  owners = [];
  used = 0;
  frames = replicate threads ([] ∷ []);
  roles = replicate threads Outside;
  board = [];
}

-- A STEP of a thread, which no other's comes between: with luck or without it
abbrev pub Act : Type 0 → Type 0
Act A = ℕ → Bool → Shared → Result A Fault × Shared

-- A PROGRAM: it has ended, or takes a step, goes on by what it finds, and leaves all this
pub data Doing (A : Type 0) : Type 0 where
  ended : Result A Fault → Doing A
  steps : (ℕ → Bool → Shared → Doing A) → (ℕ → Bool → Shared → Shared) → Doing A

-- a step, and what follows by what it answered
abbrev pub step : {A B : Type 0} → Act B → (Result B Fault → Doing A) → Doing A
step act more = steps (λ t luck s. more (act t luck s).0) (λ t luck s. (act t luck s).1)

-- one, and then the other by whatever it answered
abbrev pub whatever : {A B : Type 0} → Doing A → (Result A Fault → Doing B) → Doing B
whatever (ended r) next = next r
whatever (steps more leaves) next = steps (λ t luck s. whatever (more t luck s) next) leaves

abbrev pub unless_refused : {A B : Type 0} → (A → Doing B) → Result A Fault → Doing B
unless_refused next (Ok x) = next x
unless_refused next (Err e) = ended (Err e)

infixl 1 ◌>>=◌
infixl 1 ◌>>◌
-- one and then the other; a refusal ends it
abbrev pub ◌>>=◌ : {A B : Type 0} → Doing A → (A → Doing B) → Doing B
d >>= next = whatever d (unless_refused next)

abbrev pub ◌>>◌ : {A B : Type 0} → Doing A → Doing B → Doing B
d >> next = d >>= (λ _. next)

abbrev pub decided : {A : Type 0} → Result A Fault → Doing A
decided r = ended r

abbrev pub done : {A : Type 0} → A → Doing A
done x = ended (Ok x)

-- a step that is the whole of a program
abbrev pub by_step : {A : Type 0} → Act A → Doing A
by_step act = step act (λ r. ended r)

-- WHAT A THREAD DOES ALONE, AS ONE STEP: it sees what all share, of the frames its own

-- whose a reference is that this thread made
abbrev pub owner_if : ℕ → Option Ref → Option ℕ
owner_if t None = None
owner_if t (Some r) = cond (same_kind Local r.kind) (Some t) None

abbrev pub as_seen : ℕ → Shared → World
as_seen t s = record {
  objects = s.objects;
  refs = s.refs;
  frames = slice_index_or s.frames t [];
  used = s.used;
}

abbrev pub as_left : ℕ → Shared → World → Shared
as_left t s w = record s {
  objects = w.objects;
  refs = w.refs;
  owners = s.owners ++ map (owner_if t) (drop (length s.owners) w.refs);
  used = w.used;
  frames = slice_set s.frames t w.frames;
}

abbrev pub left_by_step : {A : Type 0} → ℕ → Shared → Result A Fault × World → Result A Fault × Shared
left_by_step t s (r, w) = (r, as_left t s w)

abbrev pub over_world : {A : Type 0} → Meaning A → Act A
over_world m t luck s = left_by_step t s (m (as_seen t s))

abbrev pub atom : {A : Type 0} → Meaning A → Doing A
atom m = by_step (over_world m)

-- WHAT A CALL NOTES at its entry: how many global and weak references stand, how many references of any kind were made,
-- and how many words are used. E8 and E12 may come by what others did since
pub record Noted : Type 0 where
  pub standing : ℕ
  pub made : ℕ
  pub used : ℕ

abbrev pub in_row : Shared → ℕ
in_row s = refs_of Global (as_seen 0 s) + refs_of Weak (as_seen 0 s)

abbrev pub noted : Shared → Noted
noted s = record { standing = in_row s; made = length s.refs; used = s.used }

-- HANDED REFERENCES: E3 for another thread's local reference
abbrev pub is_anothers : ℕ → Option ℕ → Bool
is_anothers t None = false
is_anothers t (Some u) = not (u == t)

abbrev pub is_foreign_to : ℕ → Shared → ℕ → Bool
is_foreign_to t s zero = false
is_foreign_to t s (suc n) = is_anothers t (slice_index_or s.owners n None)

abbrev pub own_or_shared : ℕ → Doing (Unit {0})
own_or_shared n = by_step (λ t luck s. (cond (is_foreign_to t s n) (Err fault.Foreign) (Ok tt), s))

-- the object for which a name's word stands, none for NULL: E3 for another's, E2 where it is gone
abbrev pub named : ℕ → Doing (Option ℕ)
named n = own_or_shared n >> atom (object n)

-- the objects of two references: E3 where either is another's, and then one after the other
abbrev pub named_both : ℕ → ℕ → Doing (Option ℕ × Option ℕ)
named_both m n = do
  own_or_shared m
  own_or_shared n
  x ← atom (object m)
  y ← atom (object n)
  done (x, y)

-- the type of what stands there, 0 for nothing, and for another's
abbrev pub typed : ℕ → Act ℕ
typed n t luck s = cond (is_foreign_to t s n) (Ok 0, s) (over_world (type_meant n) t luck s)

-- A GLOBAL OR WEAK REFERENCE is created where fewer stand than there are slots. Else, and without luck, its search may
-- end in vain: E8 may come where as many stood at the call's entry, or were made since, as there are slots
abbrev pub has_no_owner : Option ℕ → Bool
has_no_owner owner = not (is_some owner)

abbrev pub made_since : ℕ → List (Option ℕ) → ℕ
made_since n owners = length (filter has_no_owner (drop n owners))

abbrev pub created_or_full : Config → Noted → RefKind → ℕ → Act Handle
created_or_full c from k o t luck s = cond (luck && nat_lt (in_row s) c.slots) (over_world (new_ref k o) t luck s)
    (cond (nat_le c.slots (from.standing + made_since from.made s.owners)) (Err fault.RowFull, s)
    (over_world (new_ref k o) t luck s))

abbrev pub created_in_steps : Config → Noted → RefKind → Option ℕ → Doing (Option Handle)
created_in_steps c from k None = done None
created_in_steps c from k (Some o) = do
  h ← by_step (created_or_full c from k o)
  done (Some h)

-- SPACE is reserved, or E10 is told where it doesn't fit. Without luck others are faster:
-- E12 may come where more words are used than at the call's entry
abbrev pub taken_or_lost : Config → Noted → ℕ → Act (Unit {0})
taken_or_lost c from n t luck s = cond (not luck && nat_lt from.used s.used) (Err (fault.Raced from.used s.used), s)
    (over_world (reserve c n) t luck s)

abbrev pub reserved : Config → Noted → ℕ → Doing (Unit {0})
reserved c from zero = done tt
reserved c from (suc n) = by_step (taken_or_lost c from (suc n))

-- a new object of these words, and a local reference to it: the words stay used where the object is refused
abbrev pub made_in_steps : Config → Noted → Kind → List ℕ → Doing Handle
made_in_steps c from k words = do
  atom (room_for c 1)
  reserved c from (length words)
  o ← atom (new_object c k words)
  atom (added o)

-- LOCAL REFERENCES are given up one by one
abbrev pub given_up_in_steps : List ℕ → Doing (Unit {0})
given_up_in_steps [] = done tt
given_up_in_steps (n ∷ ns) = atom (change (removed n)) >> given_up_in_steps ns

-- the last frame goes with its references: E15 where none was pushed, E9 where the result then finds no place
abbrev pub popped_in_steps : Config → ℕ → Doing (Option Handle)
popped_in_steps c n = do
  atom (refuse_where (λ w. nat_lt (length w.frames) 2) fault.NoFrame)
  o ← named n
  atom (refuse_where (λ w. is_some o && (held w == length (newest_frame w.frames) + c.locals)) fault.LocalsFull)
  ns ← atom (ask (λ w. newest_frame w.frames))
  given_up_in_steps ns
  atom (change (λ w. record w { frames = all_but_last w.frames }))
  atom (new_local c o)

-- all local references go, and one frame stands
abbrev pub freed_in_steps : Doing (Unit {0})
freed_in_steps = do
  ns ← atom (ask (λ w. flat_map (λ f. f) w.frames))
  given_up_in_steps ns
  atom (change (λ w. record w { frames = [] ∷ [] }))

-- ELEMENTS are read and written one by one
abbrev pub element_read : ℕ → ℕ → Doing ℕ
element_read o i = atom (ask (λ w. slice_index (contents w o).words i))

abbrev pub read_in_steps : ℕ → ℕ → ℕ → Doing (List ℕ)
read_in_steps o i zero = done []
read_in_steps o i (suc n) = do
  v ← element_read o i
  vs ← read_in_steps o (i + 1) n
  done (v ∷ vs)

abbrev pub written_in_steps : ℕ → ℕ → List ℕ → Doing (Unit {0})
written_in_steps o i [] = done tt
written_in_steps o i (v ∷ vs) = atom (rewrites (overwritten i (v ∷ [])) o) >> written_in_steps o (i + 1) vs

-- a copy of so many elements: E16 without luck, where there are some
abbrev pub finds_memory : Act (Unit {0})
finds_memory t luck s = (cond luck (Ok tt) (Err fault.Memory), s)

abbrev pub copied_in_steps : ℕ → ℕ → Doing (List ℕ)
copied_in_steps o zero = done []
copied_in_steps o (suc n) = by_step finds_memory >> read_in_steps o 0 (suc n)

-- a reference is deleted: E3 for another's
abbrev pub deleted_in_steps : ℕ → Doing (Unit {0})
deleted_in_steps n = own_or_shared n >> atom (delete n)

module _ (c : Config) (from : Noted) (words : Which → ℕ) where
  -- WHAT A PROGRAM ENDS WITH, step by step, where this is known of its places, and this is the object at hand
  abbrev pub ending_steps : {n : ℕ} {a : AnswerKind} → Ending n a → (Which → Option ℕ) → ℕ → Doing (MeantOf a)
  ending_steps (gives_kind k) known o = atom (ask (λ w. k))
  ending_steps (gives_number n) known o = atom (ask (λ w. n))
  ending_steps gives_object known o = atom (ask (λ w. o))
  ending_steps compares known o = atom (ask (λ w. same_object (known one) (known other)))
  ending_steps (types p) known o = by_step (typed (words p))
  ending_steps (creates k p) known o = created_in_steps c from k (known p)
  ending_steps (refers p) known o = atom (new_local c (known p))
  ending_steps (deletes k p) known o = deleted_in_steps (words p)
  ending_steps (deletes_local p) known o = deleted_in_steps (words p)
  ending_steps (asks_room n) known o = atom (room_for c n)
  ending_steps (pushes n) known o = atom (push c n)
  ending_steps (pops_to p) known o = popped_in_steps c (words p)
  ending_steps frees known o = freed_in_steps
  ending_steps (makes k ws) known o = made_in_steps c from k ws
  ending_steps (fills k n p) known o = made_in_steps c from k (replicate n (element_for known p))
  ending_steps (reads i) known o = element_read o i
  ending_steps (reads_from i n) known o = read_in_steps o i n
  ending_steps (copies n) known o = copied_in_steps o n
  ending_steps (writes i v) known o = atom (rewrites (overwritten i (v ∷ [])) o)
  ending_steps (writes_to i p) known o = atom (rewrites (overwritten i (element_to (known p) ∷ [])) o)
  ending_steps (writes_from i vs) known o = written_in_steps o i vs

  -- WHAT A PROGRAM DOES, step by step
  abbrev pub program_steps : {n : ℕ} {a : AnswerKind} → Program n a → (Which → Option ℕ) → ℕ → Doing (MeantOf a)
  program_steps (ends e) known o = ending_steps e known o
  program_steps (names p next) known o = named (words p) >>= (λ x. program_steps next (set_known known p x) o)
  program_steps (names_both next) known o =
      named_both (words one) (words other) >>= (λ x. program_steps next (at_both x.0 x.1) o)
  program_steps (wants p next) known o = decided (not_null (known p)) >>= (λ q. program_steps next known q)
  program_steps (looks next) known o =
      atom (ask (λ w. contents w o)) >>= (λ x. program_steps (next x.kind (length x.words)) known o)
  program_steps (tests ts silent next) known o = decided (refused_by ts) >> program_steps next known o
  program_steps (finds i next) known o =
      element_read o i >>= (λ v. program_steps next (set_known known one (named_by v)) o)

-- THE GATE

-- whether another thread keeps it closed
abbrev pub of_all : (Role → Bool) → List Role → Bool
of_all f [] = false
of_all f (r ∷ rs) = f r || of_all f rs

abbrev pub of_others : (Role → Bool) → ℕ → List Role → Bool
of_others f t [] = false
of_others f zero (r ∷ rs) = of_all f rs
of_others f (suc t) (r ∷ rs) = f r || of_others f t rs

abbrev pub in_role : Role → ℕ → Shared → Shared
in_role r t s = record s { roles = slice_set s.roles t r }

-- in at the gate, with what is noted then; or a knock, where it is closed
abbrev pub go_in : Act Noted
go_in t luck s = cond (of_others is_barring t s.roles) (Err fault.Barred, in_role Knocking t s)
    (Ok (noted s), in_role Within t s)

abbrev pub go_out : Act (Unit {0})
go_out t luck s = (Ok tt, in_role Outside t s)

-- the program, and then out, whatever it answered
abbrev pub then_out : {A : Type 0} → Doing A → Doing A
then_out d = whatever d (λ r. step go_out (λ _. ended r))

-- the program, and then out where it was refused
abbrev pub out_after : {A : Type 0} → Result A Fault → Doing A
out_after (Ok x) = ended (Ok x)
out_after (Err e) = step go_out (λ _. ended (Err e))

abbrev pub out_if_refused : {A : Type 0} → Doing A → Doing A
out_if_refused d = whatever d out_after

abbrev pub inside : {A : Type 0} → (Noted → Doing A) → Result Noted Fault → Doing A
inside work (Ok from) = work from
inside work (Err e) = step go_out (λ _. ended (Err e))

-- A CALL: its work between an entry and an exit, or in a stay that goes on where it isn't refused
abbrev pub entered_in_steps : {A : Type 0} → (Noted → Doing A) → Doing A
entered_in_steps work = step go_in (inside (λ from. then_out (work from)))

abbrev pub opened_in_steps : {A : Type 0} → (Noted → Doing A) → Doing A
opened_in_steps work = step go_in (inside (λ from. out_if_refused (work from)))

-- A PROGRAM ALONE: its steps one after the other, each taken by this thread with this luck
abbrev pub run_alone : {A : Type 0} → ℕ → Bool → Doing A → Shared → Result A Fault × Shared
run_alone t luck (ended r) s = (r, s)
run_alone t luck (steps more leaves) s = run_alone t luck (more t luck s) (leaves t luck s)
