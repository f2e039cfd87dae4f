-- PROGRAMS FOLLOW, by their endings, and calls of them from an entry to an exit.
use Rattle.std.proofs.Common.{◌≡◌, ◌||◌, ◌∷◌, ◌∙◌, ℕ, zero, suc, Bool, true, false, cond, Option, Some, None, Result}
use Rattle.std.proofs.Common.{Ok, Err, List, [], length, replicate, drop, slice_index_or, refl, sym, ap, subst, inl}
use Rattle.std.proofs.Common.{arith}
use Rattle.std.specs.List.{filter}
use Rattle.std.proofs.lemmas.List.{drop_all, get_or-set_other, length-set}
use Rattle.jr_word.specs.declared.config.Config.{Config}
use Rattle.jr_word.specs.declared.fault.Fault.{Fault}
use Rattle.jr_word.specs.declared.fault.Fault.TheVariants as fault
use Rattle.jr_word.specs.declared.handle.RefKind.TheVariants.{Local}
use Rattle.jr_word.specs.declared.kind.Kind.{Kind}
use Rattle.jr_model.specs.declared.event.Role.{Role}
use Rattle.jr_model.specs.declared.event.Role.TheVariants.{Knocking, Outside, Within}
use Rattle.jr_model.specs.State.{is_barring}
use Rattle.jr_model.specs.Checks.{same_object}
use Rattle.jr_model.specs.Tests.{refused_by}
use Rattle.jr_model.specs.Programs.{AnswerKind, Which, at_both, set_known, Ending, Program}
use Rattle.jr_model.specs.Programs.Which.{one, other}
use Rattle.jr_model.specs.Programs.Program.{ends, names, names_both, wants, looks, tests, finds}
use Rattle.jr_model.specs.Programs.Ending.{gives_kind, gives_number, gives_object, compares, types, creates, refers}
use Rattle.jr_model.specs.Programs.Ending.{deletes, deletes_local, asks_room, pushes, pops_to, frees, makes, fills}
use Rattle.jr_model.specs.Programs.Ending.{reads, reads_from, copies, writes, writes_to, writes_from}
use Rattle.jr_world.specs.World.{contents, element_for, element_to, not_null, named_by, overwritten}
use Rattle.jr_world.specs.Doing.{Doing, Noted, Shared, by_step, ending_steps, entered_in_steps, go_in, go_out}
use Rattle.jr_world.specs.Doing.{has_no_owner, in_role, inside, noted, of_all, of_others, opened_in_steps, out_after}
use Rattle.jr_world.specs.Doing.{out_if_refused, program_steps, step, then_out}
use Rattle.jr_world.specs.Doing.Doing.{ended}
use Rattle.jr_scripts.proofs.OneRow.Alike.{Alike, begin_itself, Kept, Tidy, role_of}
use Rattle.jr_scripts.proofs.OneRow.Blind.{look_blind, new_local_blind, noted_alike, push_blind, rewrites_blind}
use Rattle.jr_scripts.proofs.OneRow.Blind.{same_set}
use Rattle.jr_scripts.proofs.OneRow.Follows.{LeadsOnce, SameStep, but}
use Rattle.jr_scripts.proofs.OneRow.Goes.{Goes, NothingCame, Stands, atom_goes, ended_goes, goes_bind, goes_less}
use Rattle.jr_scripts.proofs.OneRow.Goes.{goes_then, look_goes, once_goes}
use Rattle.jr_scripts.proofs.OneRow.Parts.{both_goes, copied_goes, created_goes, deleted_goes, element_goes, freed_goes}
use Rattle.jr_scripts.proofs.OneRow.Parts.{made_goes, named_goes, popped_goes, read_goes, room_goes, typed_goes}
use Rattle.jr_scripts.proofs.OneRow.Parts.{written_goes}

-- A THREAD'S ROLE is its own: what is alike stays so
abbrev role_in : List Role → ℕ → Role
role_in roles t = slice_index_or roles t Outside

pub role_tidy : (r : Role) (u : ℕ) (s : Shared) → Tidy s → Tidy (in_role r u s)
role_tidy r u s tidy = record { owned = tidy.owned; local = tidy.local; framed = tidy.framed }

pub in_role_alike : (r : Role) (gone : ℕ → Bool) (u : ℕ) (s z : Shared) → gone u ≡ false → Alike gone s z
    → Alike gone (in_role r u s) (in_role r u z)
in_role_alike r gone u s z mine alike = record {
  objects = alike.objects;
  used = alike.used;
  owners = alike.owners;
  as_many_refs = alike.as_many_refs;
  refs = alike.refs;
  as_many_frames = alike.as_many_frames;
  frames = alike.frames;
  as_many_roles = length-set s.roles u r ∙ alike.as_many_roles ∙ sym (length-set z.roles u r);
  roles = λ t on. same_set s.roles z.roles alike.as_many_roles u t r Outside (alike.roles t on);
  unbarred = λ t off. (
    ap is_barring (stays s t off) ∙ (alike.unbarred t off).0,
    ap is_barring (stays z t off) ∙ (alike.unbarred t off).1,
  );
  tidy = role_tidy r u s alike.tidy;
  tidy_too = role_tidy r u z alike.tidy_too;
}
  where
    stays : (y : Shared) (t : ℕ) → gone t ≡ true → role_of (in_role r u y) t ≡ role_of y t
    stays y t off = get_or-set_other y.roles u t r Outside
        (λ is. let bad : true ≡ false = sym off ∙ ap gone is ∙ mine in absurd cc)

pub in_role_kept : (r : Role) (u : ℕ) (s : Shared) → Kept u s (in_role r u s)
in_role_kept r u s = record {
  board = refl;
  owners = begin_itself s.owners;
  as_many_roles = length-set s.roles u r;
  roles = λ t other. get_or-set_other s.roles u t r Outside other;
  frames = λ t other. refl;
}

-- the gate is closed to a thread, or not, alike
of_all_alike : (rs qs : List Role) → length rs ≡ length qs
    → ((t : ℕ) → is_barring (role_in rs t) ≡ is_barring (role_in qs t)) → of_all is_barring rs ≡ of_all is_barring qs
of_all_alike [] [] long same = refl
of_all_alike [] (q ∷ qs) long same = absurd cc
of_all_alike (r ∷ rs) [] long same = absurd cc
of_all_alike (r ∷ rs) (q ∷ qs) long same =
    λ i. same 0 i || of_all_alike rs qs (omega arith) (λ t. same (suc t)) i

of_others_alike : (u : ℕ) (rs qs : List Role) → length rs ≡ length qs
    → ((t : ℕ) → is_barring (role_in rs t) ≡ is_barring (role_in qs t))
    → of_others is_barring u rs ≡ of_others is_barring u qs
of_others_alike u [] [] long same = refl
of_others_alike u [] (q ∷ qs) long same = absurd cc
of_others_alike u (r ∷ rs) [] long same = absurd cc
of_others_alike zero (r ∷ rs) (q ∷ qs) long same = of_all_alike rs qs (omega arith) (λ t. same (suc t))
of_others_alike (suc u) (r ∷ rs) (q ∷ qs) long same =
    λ i. same 0 i || of_others_alike u rs qs (omega arith) (λ t. same (suc t)) i

barred_alike : (gone : ℕ → Bool) (u : ℕ) (s z : Shared) → Alike gone s z
    → of_others is_barring u s.roles ≡ of_others is_barring u z.roles
barred_alike gone u s z alike =
    of_others_alike u s.roles z.roles alike.as_many_roles (λ t. go t (gone t) refl)
  where
    go : (t : ℕ) (b : Bool) → gone t ≡ b → is_barring (role_of s t) ≡ is_barring (role_of z t)
    go t true off = (alike.unbarred t off).0 ∙ sym (alike.unbarred t off).1
    go t false on = ap is_barring (alike.roles t on)

module _ (u : ℕ) where
  -- OUT AT THE GATE, with any answer
  out_same : {A : Type 0} (r : Result A Fault) (z : Shared) (luck : Bool)
      → SameStep (but u) u (λ t b s. ended r) (λ t b s. in_role Outside t s) z luck (ended r) (in_role Outside u z)
  out_same r z luck gone s mine alike = (refl, in_role_alike Outside gone u s z mine alike, in_role_kept Outside u s)

  out_stands : {A : Type 0} (r : Result A Fault) (z : Shared) → Tidy z → Stands None r (in_role Outside u z)
  out_stands (Ok x) z tidy = (role_tidy Outside u z tidy, tt)
  out_stands (Err e) z tidy = role_tidy Outside u z tidy

  -- AN ENTRY, where the gate is closed, or not
  abbrev entered : Bool → Shared → Result Noted Fault × Shared
  entered b s = cond b (Err fault.Barred, in_role Knocking u s) (Ok (noted s), in_role Within u s)

  abbrev EntersAlike : (ℕ → Bool) → Bool → Bool → Shared → Shared → Type 0
  EntersAlike gone b d s z = ((entered b s).0 ≡ (entered d z).0) × Alike gone (entered b s).1 (entered d z).1
      × Kept u s (entered b s).1

  enters_alike : (gone : ℕ → Bool) (s z : Shared) → gone u ≡ false → Alike gone s z
      → EntersAlike gone (of_others is_barring u s.roles) (of_others is_barring u z.roles) s z
  enters_alike gone s z mine alike = subst (λ b. EntersAlike gone b (of_others is_barring u z.roles) s z)
      (sym (barred_alike gone u s z alike)) (go (of_others is_barring u z.roles))
    where
      go : (b : Bool) → EntersAlike gone b b s z
      go true = (refl, in_role_alike Knocking gone u s z mine alike, in_role_kept Knocking u s)
      go false = (
        ap (λ from. Ok from) (noted_alike u true mine alike),
        in_role_alike Within gone u s z mine alike,
        in_role_kept Within u s,
      )

  -- what is noted at the entry is so
  nothing_yet : (z : Shared) → Tidy z → NothingCame (noted z) (in_role Within u z)
  nothing_yet z tidy = record {
    standing = refl;
    made = ap (λ n. length (filter has_no_owner (drop n z.owners))) (sym tidy.owned)
        ∙ ap (λ l. length (filter has_no_owner l)) (drop_all (length z.owners) z.owners (omega arith));
    used = refl;
  }

-- WHAT A PROGRAM MAY END WITH: a copy only where luck may count once. What others might leave no room for only where
-- it is noted what stands
abbrev pub Holds : Bool → Type 0
Holds true = Unit {0}
Holds false = ⊥

abbrev pub Suits : {n : ℕ} {a : AnswerKind} → Bool → Bool → Ending n a → Type 0
Suits once notes (creates k p) = Holds notes × (k ≡ Local → ⊥)
Suits once notes (makes k ws) = Holds notes
Suits once notes (fills k n p) = Holds notes
Suits once notes (copies n) = Holds once
Suits once notes _ = Unit {0}

abbrev pub EachSuits : {n : ℕ} {a : AnswerKind} → Bool → Bool → Program n a → Type 0
EachSuits once notes (ends e) = Suits once notes e
EachSuits once notes (names p next) = EachSuits once notes next
EachSuits once notes (names_both next) = EachSuits once notes next
EachSuits once notes (wants p next) = EachSuits once notes next
EachSuits once notes (looks next) = (kind : Kind) (long : ℕ) → EachSuits once notes (next kind long)
EachSuits once notes (tests ts silent next) = EachSuits once notes next
EachSuits once notes (finds i next) = EachSuits once notes next

abbrev pub where_noted : Bool → Noted → Option Noted
where_noted notes from = cond notes (Some from) None

module _ {u : ℕ} where
  by_notes : {A : Type 0} {once : Bool} {from : Noted} {d : Doing A} (notes : Bool) → Holds notes
      → Goes false u (Some from) None d → Goes once u (where_noted notes from) None d
  by_notes true holds goes = goes_less goes
  by_notes false none goes = absurd none

  by_copy : {A : Type 0} {before : Option Noted} {d : Doing A} (once : Bool) → Holds once
      → Goes true u before None d → Goes once u before None d
  by_copy true holds goes = goes
  by_copy false none goes = absurd none

  module _ (once notes : Bool) (c : Config) (from : Noted) (handed : Which → ℕ) where
    ending_goes : {n : ℕ} {a : AnswerKind} (e : Ending n a) (known : Which → Option ℕ) (o : ℕ) → Suits once notes e
        → Goes once u (where_noted notes from) None (ending_steps c from handed e known o)
    ending_goes (gives_kind k) known o so = goes_less (look_goes _ (look_blind (λ w. Ok k) (λ h w v views. refl)))
    ending_goes (gives_number n) known o so = goes_less (look_goes _ (look_blind (λ w. Ok n) (λ h w v views. refl)))
    ending_goes gives_object known o so = goes_less (look_goes _ (look_blind (λ w. Ok o) (λ h w v views. refl)))
    ending_goes compares known o so =
        goes_less (look_goes _ (look_blind (λ w. Ok (same_object (known one) (known other))) (λ h w v views. refl)))
    ending_goes (types p) known o so = goes_less (typed_goes (handed p))
    ending_goes (creates k p) known o so = by_notes notes so.0 (created_goes c from k (known p) so.1)
    ending_goes (refers p) known o so = goes_less (atom_goes (new_local_blind c (known p)))
    ending_goes (deletes k p) known o so = goes_less (deleted_goes (handed p))
    ending_goes (deletes_local p) known o so = goes_less (deleted_goes (handed p))
    ending_goes (asks_room n) known o so = goes_less (room_goes c n)
    ending_goes (pushes n) known o so = goes_less (atom_goes (push_blind c n))
    ending_goes (pops_to p) known o so = goes_less (popped_goes c (handed p))
    ending_goes frees known o so = goes_less freed_goes
    ending_goes (makes k ws) known o so = by_notes notes so (made_goes c from k ws)
    ending_goes (fills k n p) known o so =
        by_notes notes so (made_goes c from k (replicate n (element_for known p)))
    ending_goes (reads i) known o so = goes_less (element_goes o i)
    ending_goes (reads_from i n) known o so = goes_less (read_goes o i n)
    ending_goes (copies n) known o so = by_copy once so (copied_goes o n)
    ending_goes (writes i v) known o so = goes_less (atom_goes (rewrites_blind (overwritten i (v ∷ [])) o))
    ending_goes (writes_to i p) known o so =
        goes_less (atom_goes (rewrites_blind (overwritten i (element_to (known p) ∷ [])) o))
    ending_goes (writes_from i vs) known o so = goes_less (written_goes o i vs)

    pub program_goes : {n : ℕ} {a : AnswerKind} (p : Program n a) (known : Which → Option ℕ) (o : ℕ)
        → EachSuits once notes p → Goes once u (where_noted notes from) None (program_steps c from handed p known o)
    program_goes (ends e) known o so = ending_goes e known o so
    program_goes (names p next) known o so =
        goes_bind (named_goes (handed p)) (λ x. program_goes next (set_known known p x) o so)
    program_goes (names_both next) known o so =
        goes_bind (both_goes (handed one) (handed other)) (λ x. program_goes next (at_both x.0 x.1) o so)
    program_goes (wants p next) known o so =
        goes_bind (ended_goes (not_null (known p))) (λ q. program_goes next known q so)
    program_goes (looks next) known o so = goes_bind
        (look_goes _ (look_blind (λ w. Ok (contents w o))
        (λ h w v views i. Ok (contents (record w { objects = views.objects i }) o))))
        (λ x. program_goes (next x.kind (length x.words)) known o (so x.kind (length x.words)))
    program_goes (tests ts silent next) known o so =
        goes_bind (ended_goes (refused_by ts)) (λ x. program_goes next known o so)
    program_goes (finds i next) known o so =
        goes_bind (element_goes o i) (λ v. program_goes next (set_known known one (named_by v)) o so)

  -- THE GATE
  out_with : {A : Type 0} {once : Bool} (r : Result A Fault) → Goes once u None None (step go_out (λ x. ended r))
  out_with r = record { so = λ z tidy none. inl (out_same u r z, out_stands u r z tidy) }

  pub out_goes : Goes false u None None (by_step go_out)
  out_goes = out_with (Ok tt)

  -- its exit, and that of a stay that goes on where it isn't refused
  then_out_goes : {A : Type 0} {once : Bool} {before : Option Noted} {d : Doing A} → Goes once u before None d
      → Goes once u before None (then_out d)
  then_out_goes goes = once_goes goes (λ r. out_with r)
      (λ luck r last z tidy. inl (out_same u r z, (out_stands u r z tidy, last)))

  out_if_refused_goes : {A : Type 0} {before : Option Noted} {d : Doing A} → Goes false u before None d
      → Goes false u before None (out_if_refused d)
  out_if_refused_goes goes = goes_then out_after goes (λ x. ended_goes (Ok x)) (λ e. out_with (Err e))

  -- A CALL: behind its entry, or out again where it is barred
  entry_goes : {A : Type 0} {once : Bool} {work : Noted → Doing A}
      → ((from : Noted) → Goes once u (Some from) None (work from)) → Goes once u None None (step go_in (inside work))
  entry_goes {A} {once} {work} goes = record {
    so = λ z tidy none. inl (
      λ luck gone s mine alike. let same = enters_alike u gone s z mine alike in
          (ap (λ r. inside work r) same.0, same.1, same.2),
      rest z tidy (of_others is_barring u z.roles),
    );
  }
    where
      rest : (z : Shared) → Tidy z → (b : Bool)
          → LeadsOnce (but u) u once (Stands None) (inside work (entered u b z).0) (entered u b z).1
      rest z tidy true = (out_with (Err fault.Barred)).so (in_role Knocking u z) (role_tidy Knocking u z tidy) tt
      rest z tidy false = (goes (noted z)).so (in_role Within u z) (role_tidy Within u z tidy) (nothing_yet u z tidy)

  pub entered_goes : {A : Type 0} {once : Bool} {work : Noted → Doing A}
      → ((from : Noted) → Goes once u (Some from) None (work from)) → Goes once u None None (entered_in_steps work)
  entered_goes goes = entry_goes (λ from. then_out_goes (goes from))

  pub opened_goes : {A : Type 0} {work : Noted → Doing A}
      → ((from : Noted) → Goes false u (Some from) None (work from)) → Goes false u None None (opened_in_steps work)
  opened_goes goes = entry_goes (λ from. out_if_refused_goes (goes from))
