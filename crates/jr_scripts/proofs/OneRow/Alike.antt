-- WHAT STANDS beside what would stand in the row: the same but for the board, and for what threads at their ends give
-- up.
use Rattle.std.proofs.Common.{◌≡◌, ◌++◌, ℕ, suc, Bool, true, false, cond, Option, Some, None, List, [], ◌∷◌, length}
use Rattle.std.proofs.Common.{slice_index_or, refl, sym, ap, subst, ◌∙◌, append-nil, append_assoc, arith}
use Rattle.std.proofs.lemmas.List.{ext_get_or}
use Rattle.std.specs.List.{AllByRecursion, filter}
use native.Mathlib.Decide.{ℕ_discrete}
use mathlib.Core.Logic.{dite}
use Rattle.jr_word.specs.declared.handle.RefKind.{RefKind}
use Rattle.jr_word.specs.declared.handle.RefKind.TheVariants.{Local, Global, Weak}
use Rattle.jr_model.specs.declared.event.Role.{Role}
use Rattle.jr_model.specs.declared.event.Role.TheVariants.{Outside}
use Rattle.jr_model.specs.State.{is_barring, same_kind}
use Rattle.jr_world.specs.World.{Ref, how_many, is_ref_of, refs_of, standing, standing_at}
use Rattle.jr_world.specs.Doing.{Shared, as_seen}
use Rattle.jr_scripts.specs.Together.{summary_of}

-- a local reference, or none any more
abbrev pub IsLocal : Option Ref → Type 0
IsLocal None = Unit {0}
IsLocal (Some r) = r.kind ≡ Local

abbrev pub owner_of : Shared → ℕ → Option ℕ
owner_of s n = slice_index_or s.owners n None

abbrev pub role_of : Shared → ℕ → Role
role_of s t = slice_index_or s.roles t Outside

abbrev pub frames_of : Shared → ℕ → List (List ℕ)
frames_of s t = slice_index_or s.frames t []

-- each reference has an owner or none; who has one is local; and a frame has its own thread's
pub record Tidy (s : Shared) : Type 0 where
  pub owned : length s.owners ≡ length s.refs
  pub local : (n t : ℕ) → owner_of s n ≡ Some t → IsLocal (standing_at s.refs n)
  pub framed : (t : ℕ) → AllByRecursion (AllByRecursion (λ n. owner_of s n ≡ Some t)) (frames_of s t)

-- whether a reference is of one of these threads
abbrev pub is_of : (ℕ → Bool) → Option ℕ → Bool
is_of gone None = false
is_of gone (Some t) = gone t

-- WHAT STANDS, AND WHAT WOULD, where these threads are at their ends, or behind them
pub record Alike (gone : ℕ → Bool) (s z : Shared) : Type 0 where
  pub objects : s.objects ≡ z.objects
  pub used : s.used ≡ z.used
  pub owners : s.owners ≡ z.owners
  pub as_many_refs : length s.refs ≡ length z.refs
  pub refs : (n : ℕ) → is_of gone (owner_of z n) ≡ false → standing_at s.refs n ≡ standing_at z.refs n
  pub as_many_frames : length s.frames ≡ length z.frames
  pub frames : (t : ℕ) → gone t ≡ false → frames_of s t ≡ frames_of z t
  pub as_many_roles : length s.roles ≡ length z.roles
  pub roles : (t : ℕ) → gone t ≡ false → role_of s t ≡ role_of z t
  pub unbarred : (t : ℕ) → gone t ≡ true
      → (is_barring (role_of s t) ≡ false) × (is_barring (role_of z t) ≡ false)
  pub tidy : Tidy s
  pub tidy_too : Tidy z

-- so far these were the owners
abbrev pub Begin : List (Option ℕ) → List (Option ℕ) → Type 0
Begin owners all = (more : List (Option ℕ)) × (owners ++ more ≡ all)

pub begin_itself : (owners : List (Option ℕ)) → Begin owners owners
begin_itself owners = ([], append-nil owners)

pub begin_through : (xs ys zs : List (Option ℕ)) → Begin xs ys → Begin ys zs → Begin xs zs
begin_through xs ys zs (first, is) (more, so) =
    (first ++ more, sym (append_assoc xs first more) ∙ (ap (λ l. l ++ more) is ∙ so))

-- a step of thread t leaves the board, the others' roles and frames, and each reference its owner
pub record Kept (t : ℕ) (s s' : Shared) : Type 0 where
  pub board : s'.board ≡ s.board
  pub owners : Begin s.owners s'.owners
  pub as_many_roles : length s'.roles ≡ length s.roles
  pub roles : (u : ℕ) → (u ≡ t → ⊥) → role_of s' u ≡ role_of s u
  pub frames : (u : ℕ) → (u ≡ t → ⊥) → frames_of s' u ≡ frames_of s u

is_of_nobody : (o : Option ℕ) → is_of (λ t. false) o ≡ false
is_of_nobody None = refl
is_of_nobody (Some t) = refl

pub alike_itself : (s : Shared) → Tidy s → Alike (λ t. false) s s
alike_itself s tidy = record {
  objects = refl;
  used = refl;
  owners = refl;
  as_many_refs = refl;
  refs = λ n other. refl;
  as_many_frames = refl;
  frames = λ t other. refl;
  as_many_roles = refl;
  roles = λ t other. refl;
  unbarred = λ t bad. absurd cc;
  tidy = tidy;
  tidy_too = tidy;
}

-- but for the board they are the same, where nobody is at its end
pub alike_all : (s z : Shared) → Alike (λ t. false) s z → s ≡ record z { board = s.board }
alike_all s z a i = record {
  objects = a.objects i;
  refs = ext_get_or None s.refs z.refs a.as_many_refs (λ n small. a.refs n (is_of_nobody (owner_of z n))) i;
  owners = a.owners i;
  used = a.used i;
  frames = ext_get_or [] s.frames z.frames a.as_many_frames (λ t small. a.frames t refl) i;
  roles = ext_get_or Outside s.roles z.roles a.as_many_roles (λ t small. a.roles t refl) i;
  board = s.board;
}

pub tidy_board : (s : Shared) (b : List (List ℕ × ℕ)) → Tidy s → Tidy (record s { board = b })
tidy_board s b tidy = record { owned = tidy.owned; local = tidy.local; framed = tidy.framed }

-- the board counts for nothing
pub alike_board : (gone : ℕ → Bool) (s z : Shared) (b d : List (List ℕ × ℕ)) → Alike gone s z
    → Alike gone (record s { board = b }) (record z { board = d })
alike_board gone s z b d a = record {
  objects = a.objects;
  used = a.used;
  owners = a.owners;
  as_many_refs = a.as_many_refs;
  refs = a.refs;
  as_many_frames = a.as_many_frames;
  frames = a.frames;
  as_many_roles = a.as_many_roles;
  roles = a.roles;
  unbarred = a.unbarred;
  tidy = tidy_board s b a.tidy;
  tidy_too = tidy_board z d a.tidy_too;
}

-- .. and then through what is alike
pub alike_through : (gone : ℕ → Bool) (s z y : Shared) → Alike gone s z → Alike (λ t. false) z y → Alike gone s y
alike_through gone s z y a b = alike_board gone s (record y { board = z.board }) s.board y.board
    (subst (Alike gone s) (alike_all z y b) a)

pub alike_back : (s z : Shared) → Alike (λ t. false) s z → Alike (λ t. false) z s
alike_back s z a = subst (Alike (λ t. false) z) (sym (alike_all s z a))
    (alike_board (λ t. false) z z z.board s.board (alike_itself z a.tidy_too))

-- one more is at its end
pub one_more_gone : (gone more : ℕ → Bool) (t : ℕ) (s z : Shared) → Alike gone s z
    → ((u : ℕ) → (u ≡ t → ⊥) → more u ≡ gone u) → more t ≡ true → is_barring (role_of s t) ≡ false
    → is_barring (role_of z t) ≡ false → Alike more s z
one_more_gone gone more t s z a same is free free_too = record {
  objects = a.objects;
  used = a.used;
  owners = a.owners;
  as_many_refs = a.as_many_refs;
  refs = λ n other. a.refs n (not_of (owner_of z n) other);
  as_many_frames = a.as_many_frames;
  frames = λ u other. a.frames u (not_gone u other);
  as_many_roles = a.as_many_roles;
  roles = λ u other. a.roles u (not_gone u other);
  unbarred = λ u at. dite (ℕ_discrete u t)
      (λ e. (ap (λ v. is_barring (role_of s v)) e ∙ free, ap (λ v. is_barring (role_of z v)) e ∙ free_too))
      (λ apart. a.unbarred u (sym (same u apart) ∙ at));
  tidy = a.tidy;
  tidy_too = a.tidy_too;
}
  where
    not_gone : (u : ℕ) → more u ≡ false → gone u ≡ false
    not_gone u other = dite (ℕ_discrete u t)
        (λ e. let bad = sym other ∙ ap more e ∙ is in absurd cc) (λ apart. sym (same u apart) ∙ other)

    not_of : (o : Option ℕ) → is_of more o ≡ false → is_of gone o ≡ false
    not_of None other = refl
    not_of (Some u) other = not_gone u other

-- where tests come out the same at each number, as many pass
same_counts : {A : Type 0} (p : A → Bool) (d : A) (xs ys : List A) → length xs ≡ length ys
    → ((n : ℕ) → p (slice_index_or xs n d) ≡ p (slice_index_or ys n d)) → how_many p xs ≡ how_many p ys
same_counts p d [] [] long same = refl
same_counts p d [] (y ∷ ys) long same = absurd (omega arith)
same_counts p d (x ∷ xs) [] long same = absurd (omega arith)
same_counts p d (x ∷ xs) (y ∷ ys) long same =
    go (p x) (p y) (same 0) (same_counts p d xs ys (omega arith) (λ n. same (suc n)))
  where
    go : (b e : Bool) → b ≡ e → how_many p xs ≡ how_many p ys
        → length (cond b (x ∷ filter p xs) (filter p xs)) ≡ length (cond e (y ∷ filter p ys) (filter p ys))
    go true true is more = ap suc more
    go false false is more = more
    go true false bad more = absurd cc
    go false true bad more = absurd cc

no_other_kind : (k : RefKind) → (k ≡ Local → ⊥) → (o : Option Ref) → IsLocal o → is_ref_of k o ≡ false
no_other_kind k other None is = refl
no_other_kind k other (Some r) is = ap (same_kind k) is ∙ go k other
  where
    go : (j : RefKind) → (j ≡ Local → ⊥) → same_kind j Local ≡ false
    go Local apart = absurd (apart refl)
    go Global apart = refl
    go Weak apart = refl

-- of kinds that no thread owns, as many stand
pub same_refs_of : (gone : ℕ → Bool) (s z : Shared) → Alike gone s z → (k : RefKind) → (k ≡ Local → ⊥)
    → refs_of k (as_seen 0 s) ≡ refs_of k (as_seen 0 z)
same_refs_of gone s z a k other =
    same_counts (is_ref_of k) None s.refs z.refs a.as_many_refs (λ n. go n (owner_of z n) refl)
  where
    go : (n : ℕ) (o : Option ℕ) → owner_of z n ≡ o
        → is_ref_of k (standing_at s.refs n) ≡ is_ref_of k (standing_at z.refs n)
    go n None is = ap (is_ref_of k) (a.refs n (ap (is_of gone) is))
    go n (Some t) is = no_other_kind k other (standing_at s.refs n)
        (a.tidy.local n t (ap (λ l. slice_index_or l n None) a.owners ∙ is))
        ∙ sym (no_other_kind k other (standing_at z.refs n) (a.tidy_too.local n t is))

-- what stands at the end counts as many
pub as_many_count : (gone : ℕ → Bool) (s z : Shared) → Alike gone s z
    → summary_of (as_seen 0 s) ≡ summary_of (as_seen 0 z)
as_many_count gone s z a i = record {
  globals = same_refs_of gone s z a Global (λ bad. absurd cc) i;
  weaks = same_refs_of gone s z a Weak (λ bad. absurd cc) i;
  live = standing (a.objects i);
  used = a.used i;
}

pub kept_itself : (t : ℕ) (s : Shared) → Kept t s s
kept_itself t s = record {
  board = refl;
  owners = begin_itself s.owners;
  as_many_roles = refl;
  roles = λ u apart. refl;
  frames = λ u apart. refl;
}

pub kept_through : (t : ℕ) (s s' s'' : Shared) → Kept t s s' → Kept t s' s'' → Kept t s s''
kept_through t s s' s'' a b = record {
  board = b.board ∙ a.board;
  owners = begin_through s.owners s'.owners s''.owners a.owners b.owners;
  as_many_roles = b.as_many_roles ∙ a.as_many_roles;
  roles = λ u apart. b.roles u apart ∙ a.roles u apart;
  frames = λ u apart. b.frames u apart ∙ a.frames u apart;
}
