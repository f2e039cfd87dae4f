-- WHAT IS WRITTEN into an object goes as alone.
use Rattle.std.proofs.Common.{◌≡◌, ◌<◌, ◌+◌, ℕ, zero, suc, Bool, Option, Some, None, List, [], ◌∷◌, length, slice_set}
use Rattle.std.proofs.Common.{refl, sym, ap, subst, ◌∙◌, arith}
use Rattle.std.proofs.lemmas.List.{get_or-set_other, length-set}
use Rattle.std.proofs.lemmas.Grind.{get_or-set_at}
use native.Mathlib.Decide.{ℕ_discrete}
use mathlib.Core.Logic.{dite}
use Rattle.jr_word.specs.declared.config.Config.{Config}
use Rattle.jr_model.specs.State.{Contents}
use Rattle.jr_model.specs.Checks.{is_objects}
use Rattle.jr_world.specs.World.{contents, contents_in, rewrites, standing, standing_at}
use Rattle.jr_world.specs.Doing.{Shared, as_left, as_seen, atom}
use Rattle.jr_scripts.proofs.OneRow.Alike.{begin_itself}
use Rattle.jr_scripts.proofs.OneRow.Blind.{set_has}
use Rattle.jr_scripts.proofs.OneRow.Goes.{seen_is}
use Rattle.jr_scripts.proofs.Apart.Goes.{Goes, act_goes}
use Rattle.jr_scripts.proofs.Apart.Grown.{leaps_to}
use Rattle.jr_scripts.proofs.Apart.Leads.{Leaps}
use Rattle.jr_scripts.proofs.Apart.Mirrors.{Asks, HasElements, Mirrors, elements_within}
use Rattle.jr_scripts.proofs.Apart.Numbers.{Extends, Numbers, ObjectFor, contents_as, extends_itself, object_as}
use Rattle.jr_scripts.proofs.Apart.Numbers.{object_later, object_of, same}

-- contents among others
abbrev pub whole_as : Numbers → Contents → Contents
whole_as k x = record x { words = contents_as k (is_objects x.kind) x.words }

pub contents_are : (k : Numbers) (x : Option Contents) → contents_in (object_as k x) ≡ whole_as k (contents_in x)
contents_are k None = refl
contents_are k (Some x) = refl

pub elements_in : (k : Numbers) (x : Option Contents) → HasElements k x
    → elements_within k (is_objects (contents_in x).kind) (contents_in x).words
elements_in k None has = tt
elements_in k (Some x) has = has

-- one more stands where none did
abbrev there : Option Contents → ℕ
there None = 0
there (Some x) = 1

there_as : (k : Numbers) (x : Option Contents) → there (object_as k x) ≡ there x
there_as k None = refl
there_as k (Some x) = refl

standing_set : (xs : List (Option Contents)) (n : ℕ) (a : Contents) → n < length xs
    → standing (slice_set xs n (Some a)) + there (standing_at xs n) ≡ standing xs + 1
standing_set [] n a small = absurd (omega arith)
standing_set (None ∷ xs) zero a small = omega arith
standing_set (Some x ∷ xs) zero a small = omega arith
standing_set (None ∷ xs) (suc n) a small = standing_set xs n a (omega arith)
standing_set (Some x ∷ xs) (suc n) a small = let rest = standing_set xs n a (omega arith) in omega arith

-- the object's elements are objects, or they are not
abbrev pub OfObjects : Bool → ℕ → Shared → Type 0
OfObjects b o z = is_objects (contents (as_seen 0 z) o).kind ≡ b

-- what is written of its elements among others is what is written alone
abbrev pub SameWords : Numbers → Bool → (List ℕ → List ℕ) → (List ℕ → List ℕ) → Type 0
SameWords k b f g = (ws : List ℕ) → elements_within k b ws
    → (f (contents_as k b ws) ≡ contents_as k b (g ws)) × elements_within k b (g ws)

abbrev wrote : Shared → ℕ → Contents → Shared
wrote s n x = record s { objects = slice_set s.objects n (Some x) }

abbrev written : (List ℕ → List ℕ) → Contents → Contents
written h x = record { kind = x.kind; words = h x.words }

module _ {c : Config} {t : ℕ} {k : Numbers} {s z : Shared} (m : Mirrors t k s z) (o : ℕ) (small : o < length k.objects)
  where
    wrote_leaps : {q : Asks} (y : Contents) → HasElements k (Some y)
        → Leaps c t k q s z (wrote s (object_of k o) (whole_as k y)) k q (wrote z o y)
    wrote_leaps y has = record {
      extends = extends_itself k;
      mirrors = record {
        alone = record {
          role = m.alone.role;
          roles = m.alone.roles;
          free = m.alone.free;
          frames = m.alone.frames;
          one_thread = m.alone.one_thread;
          as_many_refs = m.alone.as_many_refs;
          as_many_objects = long_too ∙ m.alone.as_many_objects;
          tidy = record { owned = m.alone.tidy.owned; local = m.alone.tidy.local; framed = m.alone.tidy.framed };
          own = m.alone.own;
          have_objects = m.alone.have_objects;
          have_elements = λ n. set_has (HasElements k) z.objects o n (Some y) None has (m.alone.have_elements n);
        };
        tidy = record { owned = m.tidy.owned; local = m.tidy.local; framed = m.tidy.framed };
        refs = m.refs;
        owners = m.owners;
        objects = λ n less. dite (ℕ_discrete n o)
            (λ e. get_or-set_at s.objects (object_of k o) (object_of k n) (Some x) None (ap (object_of k) e) small_among
            ∙ sym (ap (object_as k) (get_or-set_at z.objects o n (Some y) None e small_too)))
            (λ other. get_or-set_other s.objects (object_of k o) (object_of k n) (Some x) None
            (λ e. other (m.objects_differ n o less small e)) ∙ (m.objects n less
            ∙ sym (ap (object_as k) (get_or-set_other z.objects o n (Some y) None other))));
        frames = m.frames;
        refs_there = m.refs_there;
        objects_there = λ n less. let there = m.objects_there n less in omega (arith, long);
        refs_differ = m.refs_differ;
        objects_differ = m.objects_differ;
        fewer_slots = m.fewer_slots;
        fewer_objects = let few = m.fewer_objects in omega (arith, long, long_too);
        fewer_words = m.fewer_words;
        sits = m.sits;
        unbarred = m.unbarred;
      };
      untouched = record {
        more_refs = omega arith;
        refs = λ n less other. refl;
        more_objects = omega (arith, long);
        objects = λ n less other. get_or-set_other s.objects (object_of k o) n (Some x) None
            (λ e. other o small (sym e));
        owners = begin_itself s.owners;
        as_many_frames = refl;
        frames = λ v other. refl;
        as_many_roles = refl;
        roles = λ v other. refl;
        unbarred = m.unbarred t;
        tidy = record { owned = m.tidy.owned; local = m.tidy.local; framed = m.tidy.framed };
        more_slots = omega arith;
        more_words = omega arith;
      };
      spends = record { slots = omega arith; objects = omega (arith, long); words = omega arith };
      new_refs = λ n old new. absurd (omega arith);
      counts = record {
        globals = refl;
        weaks = refl;
        live =
            let here = standing_set s.objects (object_of k o) x small_among in
            let alone = standing_set z.objects o y small_too in
            let both : there (standing_at s.objects (object_of k o)) ≡ there (standing_at z.objects o) =
            ap there (m.objects o small) ∙ there_as k (standing_at z.objects o) in
            omega arith;
        used = refl;
      };
      new_objects = λ n old new. absurd (omega arith);
    }
      where
        x : Contents
        x = whole_as k y

        small_too : o < length z.objects
        small_too = let long = m.alone.as_many_objects in omega arith

        small_among : object_of k o < length s.objects
        small_among = m.objects_there o small

        long : length (slice_set s.objects (object_of k o) (Some x)) ≡ length s.objects
        long = length-set s.objects (object_of k o) (Some x)

        long_too : length (slice_set z.objects o (Some y)) ≡ length z.objects
        long_too = length-set z.objects o (Some y)

    written_leaps : {q : Asks} (b : Bool) (f g : List ℕ → List ℕ) → SameWords k b f g → OfObjects b o z
        → Leaps c t k q s z (as_left t s (rewrites f (object_of k o) (as_seen t s)).1) k q
        (as_left 0 z (rewrites g o (as_seen 0 z)).1)
    written_leaps b f g law at = leaps_to
        (ap (λ (l : Shared). wrote (record l { objects = s.objects }) (object_of k o) here) (seen_is t s m.tidy)
        ∙ ap (wrote s (object_of k o)) new)
        (ap (λ (l : Shared). wrote (record l { objects = z.objects }) o (written g old)) (seen_is 0 z m.alone.tidy))
        (wrote_leaps (written g old) both.1)
      where
        old : Contents
        old = contents_in (standing_at z.objects o)

        here : Contents
        here = written f (contents_in (standing_at s.objects (object_of k o)))

        both : (f (contents_as k (is_objects old.kind) old.words) ≡ contents_as k (is_objects old.kind) (g old.words))
            × elements_within k (is_objects old.kind) (g old.words)
        both = subst (λ d. elements_within k d old.words → (f (contents_as k d old.words)
            ≡ contents_as k d (g old.words)) × elements_within k d (g old.words)) (sym at) (law old.words)
            (elements_in k (standing_at z.objects o) (m.alone.have_elements o))

        new : here ≡ whole_as k (written g old)
        new = ap (λ x. written f (contents_in x)) (m.objects o small)
            ∙ (ap (written f) (contents_are k (standing_at z.objects o))
            ∙ (λ i. record { kind = old.kind; words = both.0 i }))

pub rewrite_goes : {c : Config} {t : ℕ} {k : Numbers} (o u : ℕ) → ObjectFor k o u → (b : Bool) (f g : List ℕ → List ℕ)
    → ((j : Numbers) → Extends k j → SameWords j b f g)
    → Goes c t (OfObjects b u) same k (atom (rewrites f o)) (atom (rewrites g u))
rewrite_goes {c} {t} o u for b f g law = act_goes (rewrites f o) (rewrites g u) (λ j q s z more m at.
    let it = object_later more o u for in (
      subst (λ p. Leaps c t j q s z (as_left t s (rewrites f p (as_seen t s)).1) j q
          (as_left 0 z (rewrites g u (as_seen 0 z)).1)) (sym it.0) (written_leaps m u it.1 b f g (law j more) at),
      refl,
    ))
