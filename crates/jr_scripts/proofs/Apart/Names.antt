-- NAMES, PLACES AND REPLIES of a thread among others, for those of the thread alone.
use Rattle.std.proofs.Common.{◌≡◌, ◌<◌, ◌+◌, ◌++◌, ◌∙◌, ℕ, suc, ℤ, Bool, true, false, cond, List, [], ◌∷◌, map, length}
use Rattle.std.proofs.Common.{Result, Ok, Err, Option, Some, None, refl, sym, ap, subst, arith}
use Rattle.std.proofs.lemmas.List.{length-append, map-append}
use Rattle.std.specs.List.{AllByRecursion}
use Rattle.std.specs.Ordering.{is_eq}
use Rattle.std.specs.FinMap.{get, get-empty, get-insert}
use Rattle.std.specs.Cmp.Lexicographic.{nat_list_cmp_total}
use Rattle.one_order.proofs.Lists.{all_append}
use Rattle.jr_word.specs.declared.fault.Fault.{Fault}
use Rattle.jr_word.specs.declared.handle.Handle.{Handle}
use Rattle.jr_model.specs.declared.frames.Mode.{Mode}
use Rattle.jr_model.specs.declared.frames.Mode.TheVariants.{Abort, Commit, Copy}
use Rattle.jr_model.specs.Programs.{handle, object, perhaps}
use Rattle.jr_world.specs.World.{all_but_last}
use Rattle.jr_syntax.specs.declared.command.Command.{Command}
use Rattle.jr_syntax.specs.declared.command.Command.TheVariants as commands
use Rattle.jr_syntax.specs.declared.verb.PutAt.TheVariants as put_at
use Rattle.jr_syntax.specs.declared.verb.Release.TheVariants as release
use Rattle.jr_syntax.specs.declared.name.Reference.{Reference}
use Rattle.jr_syntax.specs.declared.name.Reference.TheVariants as refers
use Rattle.jr_scripts.specs.declared.binding.Binding.{Binding}
use Rattle.jr_scripts.specs.declared.binding.Binding.TheVariants as bound
use Rattle.jr_scripts.specs.declared.reply.Reply.{Reply}
use Rattle.jr_scripts.specs.declared.reply.Reply.TheVariants as replies
use Rattle.jr_scripts.specs.Buffers.{Copied, with_number}
use Rattle.jr_scripts.specs.Names.{Names, binding, buffered, name_order, names_put, or_nothing, putting, referent}
use Rattle.jr_scripts.specs.Names.{with_name}
use Rattle.jr_scripts.specs.Places.{Place, levels_after, nowhere, objects_after, place_after}
use Rattle.jr_scripts.specs.Text.{binding_made, buffers_after, left_by, names_set, names_with, printed, reference_made}
use Rattle.jr_scripts.specs.Text.{refused, says, sets}
use Rattle.jr_scripts.proofs.Apart.Leads.{ResultFor}
use Rattle.jr_scripts.proofs.Apart.Numbers.{Extends, IsFor, Numbers, is_for_stays, object_later, object_of}

abbrev pub BindingFor : Numbers → Binding → Binding → Type 0
BindingFor k (bound.Reference h) (bound.Reference g) = IsFor k handle h g
BindingFor k b d = b ≡ d

abbrev pub NamesFor : Numbers → Names → Names → Type 0
NamesFor k names alone = (n : List ℕ) → BindingFor k (binding names n) (binding alone n)

pub record PlaceFor (k : Numbers) (p alone : Place) : Type 0 where
  pub names : NamesFor k p.names alone.names
  pub levels : p.levels ≡ alone.levels
  pub objects : p.objects ≡ map (object_of k) alone.objects
  pub have_objects : AllByRecursion (λ o. o < length k.objects) alone.objects
  pub as_many : length alone.levels ≡ length alone.objects

abbrev pub ReplyFor : Numbers → Reply → Reply → Type 0
ReplyFor k (replies.Made x) (replies.Made y) = IsFor k (perhaps handle) x y
ReplyFor k (replies.Level o) (replies.Level p) = IsFor k object o p
ReplyFor k r q = r ≡ q

pub nowhere_for : (k : Numbers) → PlaceFor k nowhere nowhere
nowhere_for k = record {
  names = λ n. subst (λ o. BindingFor k (or_nothing o) (or_nothing o)) (sym (get-empty name_order n)) refl;
  levels = refl;
  objects = refl;
  have_objects = tt;
  as_many = refl;
}

pub reply_stays : (j k : Numbers) → Extends j k → (x y : Reply) → ReplyFor j x y → ReplyFor k x y
reply_stays j k more (replies.Made x) (replies.Made y) is = is_for_stays more (perhaps handle) x y is
reply_stays j k more (replies.Level o) (replies.Level p) is = is_for_stays more object o p is
reply_stays j k more x y is = is

binding_stays : (j k : Numbers) → Extends j k → (b d : Binding) → BindingFor j b d → BindingFor k b d
binding_stays j k more (bound.Reference h) (bound.Reference g) is = is_for_stays more handle h g is
binding_stays j k more b d is = is

objects_stay : (j k : Numbers) → Extends j k → (os : List ℕ) → AllByRecursion (λ o. o < length j.objects) os
    → (map (object_of j) os ≡ map (object_of k) os) × AllByRecursion (λ o. o < length k.objects) os
objects_stay j k more [] all = (refl, tt)
objects_stay j k more (o ∷ os) all =
    let it = object_later more (object_of j o) o (refl, all.0) in
    let rest = objects_stay j k more os all.1 in
    (λ i. it.0 i ∷ rest.0 i, (it.1, rest.1))

pub place_stays : (j k : Numbers) → Extends j k → (p alone : Place) → PlaceFor j p alone → PlaceFor k p alone
place_stays j k more p alone place =
    let it = objects_stay j k more alone.objects place.have_objects in record {
      names = λ n. binding_stays j k more (binding p.names n) (binding alone.names n) (place.names n);
      levels = place.levels;
      objects = place.objects ∙ it.0;
      have_objects = it.1;
      as_many = place.as_many;
    }

pub referent_for : (k : Numbers) (names alone : Names) → NamesFor k names alone → (r : Reference)
    → BindingFor k (referent names r) (referent alone r)
referent_for k names alone so refers.Null = (refl, omega arith)
referent_for k names alone so (refers.Named n) = so n

-- a name is set
named_for : (k : Numbers) (names alone : Names) (n : List ℕ) (s d : Binding) → NamesFor k names alone
    → BindingFor k s d → NamesFor k (with_name names n s) (with_name alone n d)
named_for k names alone n s d so is m = subst (λ o. BindingFor k (or_nothing o) (binding (with_name alone n d) m))
    (sym (get-insert nat_list_cmp_total names n s m))
    (subst (λ o. BindingFor k (or_nothing (cond (is_eq (name_order m n)) (Some s) (get names m))) (or_nothing o))
    (sym (get-insert nat_list_cmp_total alone n d m)) (go (is_eq (name_order m n))))
  where
    go : (b : Bool) → BindingFor k (or_nothing (cond b (Some s) (get names m)))
        (or_nothing (cond b (Some d) (get alone m)))
    go true = is
    go false = so m

-- a buffer is changed, and may be freed
buffered_for : (k : Numbers) (names alone : Names) (n : List ℕ) (r : Result Copied Fault) → NamesFor k names alone
    → NamesFor k (names_put names n (buffered r)) (names_put alone n (buffered r))
buffered_for k names alone n (Ok b) so = named_for k names alone n (bound.Buffer b) (bound.Buffer b) so refl
buffered_for k names alone n (Err e) so = so

put_for : (k : Numbers) (names alone : Names) (n : List ℕ) (i : ℕ) (x : ℤ) (s d : Binding) → NamesFor k names alone
    → BindingFor k s d → NamesFor k (names_put names n (putting i x s)) (names_put alone n (putting i x d))
put_for k names alone n i x bound.Nothing bound.Nothing so is = so
put_for k names alone n i x bound.Nothing (bound.Reference g) so is = absurd cc
put_for k names alone n i x bound.Nothing (bound.Buffer b) so is = absurd cc
put_for k names alone n i x (bound.Reference h) (bound.Reference g) so is = so
put_for k names alone n i x (bound.Reference h) bound.Nothing so is = absurd cc
put_for k names alone n i x (bound.Reference h) (bound.Buffer b) so is = absurd cc
put_for k names alone n i x (bound.Buffer b) d so is = subst
    (λ e. NamesFor k (names_put names n (putting i x (bound.Buffer b))) (names_put alone n (putting i x e))) is
    (buffered_for k names alone n (with_number b i x) so)

left_for : (k : Numbers) (mode : Mode) (r q : Reply) (s d : Binding) → BindingFor k s d
    → BindingFor k (left_by mode (Ok r) s) (left_by mode (Ok q) d)
left_for k Commit r q s d is = is
left_for k Abort r q s d is = refl
left_for k Copy r q s d is = refl

buffers_for : (k : Numbers) (x : Command) (r q : Result Reply Fault) (names alone : Names)
    → ResultFor (ReplyFor k) r q → NamesFor k names alone
    → NamesFor k (buffers_after x r names) (buffers_after x q alone)
buffers_for k x (Ok r) (Err e) names alone is so = absurd is
buffers_for k x (Err e) (Ok q) names alone is so = absurd is
buffers_for k (commands.PutAt put_at.Put n i x) (Ok r) (Ok q) names alone is so =
    put_for k names alone n i x (binding names n) (binding alone n) so (so n)
buffers_for k (commands.Release release.Elements n v mode) (Ok r) (Ok q) names alone is so =
    named_for k names alone n (left_by mode (Ok r) (binding names n)) (left_by mode (Ok q) (binding alone n)) so
    (left_for k mode r q (binding names n) (binding alone n) (so n))
buffers_for k x (Ok r) (Ok q) names alone is so = so
buffers_for k x (Err e) (Err f) names alone is so = go x
  where
    go : (x : Command) → NamesFor k (buffers_after x (Err e) names) (buffers_after x (Err f) alone)
    go (commands.PutAt put_at.Put n i x) = so
    go (commands.Release release.Elements n v mode) = so
    go x = so

-- what is made stands for a name
made_for : (k : Numbers) (o : Option (List ℕ)) (r q : Reply) (names alone : Names) → ReplyFor k r q
    → NamesFor k names alone
    → NamesFor k (names_with (binding_made r) o names) (names_with (binding_made q) o alone)
made_for k None (replies.Made x) (replies.Made y) names alone is so = so
made_for k (Some n) (replies.Made x) (replies.Made y) names alone is so = named_for k names alone n
    (bound.Reference (reference_made x)) (bound.Reference (reference_made y)) so (go x y is)
  where
    go : (x y : Option Handle) → IsFor k (perhaps handle) x y
        → IsFor k handle (reference_made x) (reference_made y)
    go None None is = (refl, omega arith)
    go None (Some y) is = absurd is
    go (Some x) None is = absurd is
    go (Some x) (Some y) is = is
made_for k o (replies.Level x) (replies.Level y) names alone is so = so
made_for k None (replies.Copied b) q names alone is so = subst
    (λ y. NamesFor k names (names_with (binding_made y) None alone)) is so
made_for k (Some n) (replies.Copied b) q names alone is so = subst
    (λ y. NamesFor k (with_name names n (bound.Buffer b)) (names_with (binding_made y) (Some n) alone)) is
    (named_for k names alone n (bound.Buffer b) (bound.Buffer b) so refl)
made_for k o (replies.Made x) q names alone is so = absurd cc
made_for k o (replies.Level x) q names alone is so = absurd cc
made_for k o r q names alone is so = subst
    (λ y. NamesFor k (names_with (binding_made r) o names) (names_with (binding_made y) o alone)) is so

set_for : (k : Numbers) (x : Command) (r q : Result Reply Fault) (names alone : Names)
    → ResultFor (ReplyFor k) r q → NamesFor k names alone → NamesFor k (names_set x r names) (names_set x q alone)
set_for k x (Ok r) (Ok q) names alone is so = made_for k (sets x) r q names alone is so
set_for k x (Ok r) (Err e) names alone is so = absurd is
set_for k x (Err e) (Ok q) names alone is so = absurd is
set_for k x (Err e) (Err f) names alone is so = so

-- the levels
levels_opened : (k : Numbers) (x : Command) (r q : Reply) (levels : List (List ℕ)) → ReplyFor k r q
    → levels_after x (Ok r) levels ≡ levels_after x (Ok q) levels
levels_opened k (commands.OpenLevel v n a) (replies.Made x) (replies.Made y) levels is = refl
levels_opened k (commands.OpenLevel v n a) (replies.Level x) (replies.Level y) levels is = refl
levels_opened k (commands.OpenLevel v n a) r q levels is =
    ap (λ y. levels_after (commands.OpenLevel v n a) (Ok y) levels) is
levels_opened k (commands.CloseLevel v mode) r q levels is = refl
levels_opened k x r q levels is = refl

levels_for : (k : Numbers) (x : Command) (r q : Result Reply Fault) (levels : List (List ℕ))
    → ResultFor (ReplyFor k) r q → levels_after x r levels ≡ levels_after x q levels
levels_for k x (Ok r) (Ok q) levels is = levels_opened k x r q levels is
levels_for k x (Ok r) (Err e) levels is = absurd is
levels_for k x (Err e) (Ok q) levels is = absurd is
levels_for k x (Err e) (Err f) levels is = ap (λ g. levels_after x (Err g) levels) is

-- and their objects
abbrev ObjectsFor : Numbers → List ℕ → List ℕ → Type 0
ObjectsFor k os ps = (os ≡ map (object_of k) ps) × AllByRecursion (λ o. o < length k.objects) ps

last_for : {X Y : Type 0} (f : X → Y) (xs : List X) → all_but_last (map f xs) ≡ map f (all_but_last xs)
last_for f [] = refl
last_for f (x ∷ []) = refl
last_for f (x ∷ y ∷ xs) = λ i. f x ∷ last_for f (y ∷ xs) i

all_last : {X : Type 0} (P : X → Type 0) (xs : List X) → AllByRecursion P xs → AllByRecursion P (all_but_last xs)
all_last P [] all = tt
all_last P (x ∷ []) all = tt
all_last P (x ∷ y ∷ xs) all = (all.0, all_last P (y ∷ xs) all.1)

opened_for : (k : Numbers) (x : Command) (r q : Reply) (os ps : List ℕ) → ReplyFor k r q → ObjectsFor k os ps
    → ObjectsFor k (objects_after x (Ok r) os) (objects_after x (Ok q) ps)
opened_for k (commands.OpenLevel v n a) (replies.Made x) (replies.Made y) os ps is so = so
opened_for k (commands.OpenLevel v n a) (replies.Level x) (replies.Level y) os ps is so = (
  (λ i. so.0 i ++ is.0 i ∷ []) ∙ sym (map-append (object_of k) ps (y ∷ [])),
  all_append _ ps (y ∷ []) so.1 (is.1, tt),
)
opened_for k (commands.OpenLevel v n a) (replies.Made x) q os ps is so = absurd cc
opened_for k (commands.OpenLevel v n a) (replies.Level x) q os ps is so = absurd cc
opened_for k (commands.OpenLevel v n a) r q os ps is so =
    subst (λ y. ObjectsFor k os (objects_after (commands.OpenLevel v n a) (Ok y) ps)) is so
opened_for k (commands.CloseLevel v mode) r q os ps is so =
    (ap all_but_last so.0 ∙ last_for (object_of k) ps, all_last _ ps so.1)
opened_for k x r q os ps is so = so

objects_for : (k : Numbers) (x : Command) (r q : Result Reply Fault) (os ps : List ℕ)
    → ResultFor (ReplyFor k) r q → ObjectsFor k os ps → ObjectsFor k (objects_after x r os) (objects_after x q ps)
objects_for k x (Ok r) (Ok q) os ps is so = opened_for k x r q os ps is so
objects_for k x (Ok r) (Err e) os ps is so = absurd is
objects_for k x (Err e) (Ok q) os ps is so = absurd is
objects_for k x (Err e) (Err f) os ps is so = refused x
  where
    refused : (x : Command) → ObjectsFor k (objects_after x (Err e) os) (objects_after x (Err f) ps)
    refused (commands.OpenLevel v n a) = so
    refused (commands.CloseLevel v mode) = so
    refused x = so

-- as many levels as objects
last_as_many : {X Y : Type 0} (xs : List X) (ys : List Y) → length xs ≡ length ys
    → length (all_but_last xs) ≡ length (all_but_last ys)
last_as_many [] [] is = refl
last_as_many [] (y ∷ ys) is = absurd (omega arith)
last_as_many (x ∷ xs) [] is = absurd (omega arith)
last_as_many (x ∷ []) (y ∷ []) is = refl
last_as_many (x ∷ []) (y ∷ z ∷ ys) is = absurd (omega arith)
last_as_many (x ∷ w ∷ xs) (y ∷ []) is = absurd (omega arith)
last_as_many (x ∷ w ∷ xs) (y ∷ z ∷ ys) is = ap suc (last_as_many (w ∷ xs) (z ∷ ys) (omega arith))

as_many_after : (x : Command) (r : Result Reply Fault) (levels : List (List ℕ)) (os : List ℕ)
    → length levels ≡ length os → length (levels_after x r levels) ≡ length (objects_after x r os)
as_many_after (commands.OpenLevel v n a) (Ok (replies.Level o)) levels os is =
    length-append levels (n ∷ []) ∙ ap (λ m. m + 1) is ∙ sym (length-append os (o ∷ []))
as_many_after (commands.CloseLevel v mode) (Ok reply) levels os is = last_as_many levels os is
as_many_after x r levels os is = is

-- AFTER A COMMAND
pub place_after_for : (k : Numbers) (x : Command) (p alone : Place) (r q : Result Reply Fault)
    → PlaceFor k p alone → ResultFor (ReplyFor k) r q → PlaceFor k (place_after x r p) (place_after x q alone)
place_after_for k x p alone r q place is =
    let it = objects_for k x r q p.objects alone.objects is (place.objects, place.have_objects) in record {
      names = set_for k x r q (buffers_after x r p.names) (buffers_after x q alone.names) is
          (buffers_for k x r q p.names alone.names is place.names);
      levels = levels_for k x r q p.levels is ∙ ap (levels_after x q) place.levels;
      objects = it.0;
      have_objects = it.1;
      as_many = as_many_after x q alone.levels alone.objects place.as_many;
    }

says_made : (k : Numbers) (x : Command) (h g : Option Handle) → IsFor k (perhaps handle) h g
    → says x (replies.Made h) ≡ says x (replies.Made g)
says_made k x None None is = refl
says_made k x None (Some g) is = absurd is
says_made k x (Some h) None is = absurd is
says_made k (commands.MakeFrom v n r) (Some h) (Some g) is = refl
says_made k (commands.OnAt v r i) (Some h) (Some g) is = refl
says_made k x (Some h) (Some g) is = refl

says_level : (x : Command) (o p : ℕ) → says x (replies.Level o) ≡ says x (replies.Level p)
says_level (commands.MakeFrom v n r) o p = refl
says_level x o p = refl

says_for : (k : Numbers) (x : Command) (r q : Reply) → ReplyFor k r q → says x r ≡ says x q
says_for k x (replies.Made h) (replies.Made g) is = says_made k x h g is
says_for k x (replies.Level o) (replies.Level p) is = says_level x o p
says_for k x r q is = ap (says x) is

-- no line tells of a number
pub printed_for : (k : Numbers) (line : ℕ) (x : Command) (r q : Result Reply Fault)
    → ResultFor (ReplyFor k) r q → printed line x r ≡ printed line x q
printed_for k line x (Ok r) (Ok q) is = says_for k x r q is
printed_for k line x (Ok r) (Err e) is = absurd is
printed_for k line x (Err e) (Ok q) is = absurd is
printed_for k line x (Err e) (Err f) is = ap (refused line) is
