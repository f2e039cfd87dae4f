-- A THREAD'S LINES are those that it has alone.
use Rattle.std.proofs.Common.{None, ◌≡◌, ◌⊎◌, ◌<◌, ◌≤◌, ◌+◌, ◌-◌, ◌==◌, ◌++◌, ◌∙◌, ℕ, zero, suc, Bool, true, false}
use Rattle.std.proofs.Common.{cond, Option, Result, Ok, Err, List, [], ◌∷◌, map, slice_index_or, nat_eq, inl, inr, refl}
use Rattle.std.proofs.Common.{sym, ap, subst, arith}
use Rattle.std.specs.List.{AllByRecursion, flat_map, sum_by}
use Rattle.std.proofs.lemmas.List.Sums.{sum_by-cons}
use Rattle.jr_word.specs.declared.config.Config.{Config}
use Rattle.jr_word.specs.declared.fault.Fault.{Fault}
use Rattle.jr_word.specs.declared.fault.Fault.TheVariants as fault
use Rattle.jr_model.specs.declared.event.Role.TheVariants.{Knocking, Outside, Within}
use Rattle.jr_model.specs.Maps.{update}
use Rattle.jr_model.specs.State.{is_barring}
use Rattle.jr_model.proofs.Updates.{eq_other}
use Rattle.jr_world.specs.World.{change}
use Rattle.jr_world.specs.Doing.{Doing, Noted, Shared, as_seen, atom, entered_in_steps, freed_in_steps}
use Rattle.jr_world.specs.Doing.{given_up_in_steps, go_out, in_role, inside, noted, of_others, run_alone, step}
use Rattle.jr_world.specs.Doing.{then_out, unless_refused, whatever}
use Rattle.jr_world.specs.Doing.Doing.{ended, steps}
use Rattle.jr_world.proofs.GatePlays.{none_of_others}
use Rattle.jr_env.specs.Tries.{is_tried_again}
use Rattle.jr_syntax.specs.declared.command.Command.{Command}
use Rattle.jr_scripts.specs.declared.reply.Reply.{Reply}
use Rattle.jr_scripts.specs.Names.{Names}
use Rattle.jr_scripts.specs.Places.{Place, place_after}
use Rattle.jr_scripts.specs.Posting.{ThreadWords, words_after}
use Rattle.jr_scripts.specs.Text.{printed}
use Rattle.jr_scripts.specs.Together.{doing_at, ends_thread, lines_from, summary_of, tried_in_steps}
use Rattle.jr_scripts.specs.OneRow.{Course, ThreadStand, course_of, manner_of, stand_after}
use Rattle.jr_scripts.specs.Apart.{is_for_itself, objects_wanted, slots_wanted, words_wanted}
use Rattle.jr_scripts.proofs.OneRow.Alike.{Alike, Begin, alike_itself, as_many_count, begin_itself, one_more_gone}
use Rattle.jr_scripts.proofs.OneRow.Alike.{role_of}
use Rattle.jr_scripts.proofs.OneRow.Ends.{IsEnding, ends_so}
use Rattle.jr_scripts.proofs.OneRow.Follows.{IsSpoilt, nobody, run_then}
use Rattle.jr_scripts.proofs.OneRow.Spoilt.{EachEnds, IsSpoiltEnd, lines_spoilt, spoilt_line}
use Rattle.jr_scripts.proofs.Apart.Calls.{asked_by, command_follows, end_goes}
use Rattle.jr_scripts.proofs.Apart.Goes.{not_spoilt}
use Rattle.jr_scripts.proofs.Apart.Leads.{Ends, Leaps, LeadsTo, Outcome, WasNoted}
use Rattle.jr_scripts.proofs.Apart.Mirrors.{Asks, AtLeast, Fits, IsAlone, Mirrors, and_asks}
use Rattle.jr_scripts.proofs.Apart.Names.{PlaceFor, ReplyFor, place_after_for, place_stays, printed_for}
use Rattle.jr_scripts.proofs.Apart.Numbers.{Extends, Numbers, extends_itself, extends_through, same}

abbrev pub asked_by_all : List Command → Asks
asked_by_all xs =
    record { slots = sum_by slots_wanted xs; objects = sum_by objects_wanted xs; words = sum_by words_wanted xs }

-- its text is this course's, and as much stands; or it is spoilt
abbrev pub EndsAsAlone : Course → Ends (List ℕ)
EndsAsAlone w noted k q r z =
    ((r ≡ Ok (w.threads 0).text) × (summary_of (as_seen 0 z) ≡ summary_of (as_seen 0 w.shared))) ⊎ IsSpoiltEnd r

-- WHAT IS ASKED FOR: of the first, and of the others; and what is left beside that
one_first : (x : Command) (xs : List Command) (q : Asks)
    → and_asks (asked_by_all (x ∷ xs)) q ≡ and_asks (asked_by x) (and_asks (asked_by_all xs) q)
one_first x xs q = λ i. record {
  slots = first slots_wanted q.slots i;
  objects = first objects_wanted q.objects i;
  words = first words_wanted q.words i;
}
  where
    first : (f : Command → ℕ) (n : ℕ) → sum_by f (x ∷ xs) + n ≡ f x + (sum_by f xs + n)
    first f n = let sums = sum_by-cons f x xs in omega arith

abbrev rest_of : Asks → Asks → Asks
rest_of p a = record { slots = a.slots - p.slots; objects = a.objects - p.objects; words = a.words - p.words }

and_rest : (p q a : Asks) → AtLeast a (and_asks p q) → and_asks p (rest_of p a) ≡ a
and_rest p q a least = λ i. record {
  slots = beside p.slots q.slots a.slots least.0 i;
  objects = beside p.objects q.objects a.objects least.1 i;
  words = beside p.words q.words a.words least.2 i;
}
  where
    beside : (m n l : ℕ) → m + n ≤ l → m + (l - m) ≡ l
    beside m n l most = omega arith

-- THE END IS NEVER REFUSED where nobody keeps the gate closed
abbrev IsSaid : {A : Type 0} → Result A Fault → Type 0
IsSaid (Ok x) = Unit {0}
IsSaid (Err e) = ⊥

unspoilt : {A : Type 0} (r : Result A Fault) → IsSaid r → IsSpoilt r → ⊥
unspoilt (Ok x) said bad = not_spoilt bad
unspoilt (Err e) said bad = said

module _ (t : ℕ) where
  -- each end of a program of this thread is an answer
  abbrev IsFree : {A : Type 0} → Doing A → Type 0
  IsFree (ended r) = IsSaid r
  IsFree (steps more leaves) =
      (luck : Bool) (s : Shared) → ((v : ℕ) → is_barring (role_of s v) ≡ false) → IsFree (more t luck s)

  free_then : {A B : Type 0} (d : Doing A) (next : Result A Fault → Doing B) → IsFree d
      → ((x : A) → IsFree (next (Ok x))) → IsFree (whatever d next)
  free_then (ended (Ok x)) next free rest = rest x
  free_then (ended (Err e)) next free rest = absurd free
  free_then (steps more leaves) next free rest = λ luck s open_. free_then (more t luck s) next (free luck s open_) rest

  gives_up_free : (ns : List ℕ) → IsFree (given_up_in_steps ns)
  gives_up_free [] = tt
  gives_up_free (n ∷ ns) = λ luck s open_. gives_up_free ns

  freed_free : IsFree freed_in_steps
  freed_free = λ luck s open_. free_then (given_up_in_steps (flat_map (λ f. f) (slice_index_or s.frames t [])))
      (unless_refused (λ u. atom (change (λ w. record w { frames = [] ∷ [] }))))
      (gives_up_free (flat_map (λ f. f) (slice_index_or s.frames t []))) (λ u luck' s' open'. tt)

  entry_free : {A : Type 0} (work : Noted → Doing A) → ((from : Noted) → IsFree (work from))
      → IsFree (entered_in_steps work)
  entry_free {A} work free =
      λ luck s open_. go s (of_others is_barring t s.roles) (none_of_others is_barring t s.roles open_)
    where
      go : (s : Shared) (b : Bool) → b ≡ false
          → (let x : Result Noted Fault × Shared
          = cond b (Err fault.Barred, in_role Knocking t s) (Ok (noted s), in_role Within t s) in
          IsFree (inside (λ from. then_out (work from)) x.0))
      go s true bad = absurd cc
      go s false is = free_then (work (noted s)) (λ r. step go_out (λ u. ended r)) (free (noted s))
          (λ x luck s' open_. tt)

  tried_free : {A : Type 0} (n : ℕ) (call : Doing A) → 0 < n → IsFree call → IsFree (tried_in_steps n call)
  tried_free zero call tried free = absurd (omega arith)
  tried_free (suc n) call tried free = free_then call
      (λ answer. cond (is_tried_again answer) (tried_in_steps n call) (ended answer)) free (λ x. tt)

  end_free : (c : Config) (turns : ℕ) → 0 < turns → (names : Names) (words : ThreadWords) (objects : List ℕ)
      → IsFree (ends_thread c turns names words objects)
  end_free c turns tried names words objects = go objects (tried_free turns (entered_in_steps (λ from. freed_in_steps))
      tried (entry_free (λ from. freed_in_steps) (λ from. freed_free)))
    where
      go : (objects : List ℕ) → IsFree (ends_thread c turns names words [])
          → IsFree (ends_thread c turns names words objects)
      go [] free = free
      go (o ∷ os) free = λ luck s open_. free

  -- where nobody keeps it closed, it leads to an answer
  leads_free : (c : Config) {A : Type 0} (noted : Option Noted) (K : Ends A) (d : Doing A) (k : Numbers) (q : Asks)
      (z : Shared) → LeadsTo c t noted K d k q z → IsFree d
      → LeadsTo c t noted (λ since j p r y. K since j p r y × IsSaid r) d k q z
  leads_free c noted K (ended r) k q z leads free = (leads, free)
  leads_free c noted K (steps more leaves) k q z leads free = λ luck s mirrors fits was.
      let to = leads luck s mirrors fits was in (
        to.0,
        to.1,
        to.2,
        to.3,
        to.4,
        to.5,
        leads_free c to.3 K (more t luck s) to.0 to.1 to.2 to.6 (free luck s mirrors.unbarred),
      )

-- WHAT A THREAD GIVES UP AT ITS END changes no number
run_ending : (t : ℕ) (text : List ℕ) (owners : List (Option ℕ)) (d : Doing (List ℕ)) → IsEnding t text owners d
    → (gone : ℕ → Bool) (s z : Shared) → gone t ≡ true → Begin owners s.owners → Alike gone s z
    → Alike gone (run_alone t true d s).1 z
run_ending t text owners (ended r) ends gone s z is begins alike = alike
run_ending t text owners (steps more leaves) ends gone s z is begins alike =
    let x = ends true gone s z is begins alike in
    run_ending t text s.owners (more t true s) x.2 gone (leaves t true s) z is x.1.owners x.0

module _ (c : Config) (turns : ℕ) (names : Names) (words : ThreadWords) (objects : List ℕ) where
  end_counts : (k : Numbers) (z : Shared) → IsAlone k z
      → summary_of (as_seen 0 (run_alone 0 true (ends_thread c turns names words objects) z).1)
      ≡ summary_of (as_seen 0 z)
  end_counts k z a = ap (λ (x : Result (List ℕ) Fault × Shared). summary_of (as_seen 0 x.1))
      (sym (run_then nobody 0 (ends_thread c turns names words objects) (λ answer. ended (Ok [])) z))
      ∙ as_many_count (λ v. v == 0) after z (run_ending 0 [] z.owners
      (whatever (ends_thread c turns names words objects) (λ answer. ended (Ok [])))
      (ends_so c turns names words objects 0 [] z.owners) (λ v. v == 0) z z refl (begin_itself z.owners)
      (one_more_gone (λ v. false) (λ v. v == 0) 0 z z (alike_itself z a.tidy) (λ u apart. eq_other u 0 apart) refl
      free free))
    where
      nothing : Result (List ℕ) Fault
      nothing = Ok []

      after : Shared
      after = (run_alone 0 true (whatever (ends_thread c turns names words objects) (λ answer. ended nothing)) z).1

      free : is_barring (role_of z 0) ≡ false
      free = ap (λ l. is_barring (slice_index_or l 0 Outside)) a.roles ∙ a.free

module _ (c : Config) (t : ℕ) where
  -- A THREAD LEADS TO ITS TEXT: as `LeadsTo`, but where its text is spoilt nothing more is known
  abbrev pub LinesLead : Option Noted → Ends (List ℕ) → Doing (List ℕ) → Numbers → Asks → Shared → Type 0
  LinesLead noted K (ended r) k q z = K noted k q r z
  LinesLead noted K (steps more leaves) k q z = ((luck : Bool) (s : Shared) → Mirrors t k s z → Fits c q s
      → WasNoted noted s → (j : Numbers) × (p : Asks) × (y : Shared) × (since : Option Noted)
      × Leaps c t k q s z (leaves t luck s) j p y × WasNoted since (leaves t luck s)
      × LinesLead since K (more t luck s) j p y) ⊎ EachEnds IsSpoiltEnd (steps more leaves)

  -- a program, and then lines
  lines_then : {A : Type 0} (noted : Option Noted) (K : Ends A) (L : Ends (List ℕ)) (d : Doing A)
      (next : Result A Fault → Doing (List ℕ)) (k : Numbers) (q : Asks) (z : Shared) → IsAlone k z
      → LeadsTo c t noted K d k q z
      → ((since : Option Noted) (j : Numbers) (p : Asks) (r : Result A Fault) (y : Shared) → Extends k j
      → IsAlone j y → K since j p r y → LinesLead since L (next r) j p y) → LinesLead noted L (whatever d next) k q z
  lines_then noted K L (ended r) next k q z alone leads after = after noted k q r z (extends_itself k) alone leads
  lines_then noted K L (steps more leaves) next k q z alone leads after = inl (λ luck s mirrors fits was.
      let to = leads luck s mirrors fits was in (
        to.0,
        to.1,
        to.2,
        to.3,
        to.4,
        to.5,
        lines_then to.3 K L (more t luck s) next to.0 to.1 to.2 to.4.mirrors.alone to.6
            (λ now j p r y more. after now j p r y (extends_through to.4.extends more)),
      ))

  -- a text that is spoilt however it ends
  spoilt_lead : (w : Course) (noted : Option Noted) (d : Doing (List ℕ)) (k : Numbers) (q : Asks) (z : Shared)
      → EachEnds IsSpoiltEnd d → LinesLead noted (EndsAsAlone w) d k q z
  spoilt_lead w noted (ended r) k q z spoilt = inr spoilt
  spoilt_lead w noted (steps more leaves) k q z spoilt = inr spoilt

  module _ (turns : ℕ) (tried : 0 < turns) where
    -- THE END
    end_leads : (k : Numbers) (p : Place) (words : ThreadWords) (others : ℕ → ThreadStand)
        → PlaceFor k p (others 0).place → (noted : Option Noted) (q : Asks) (z : Shared) → IsAlone k z
        → LinesLead noted (EndsAsAlone (record { threads = others; shared = z }))
        (whatever (ends_thread c turns p.names words p.objects) (λ answer. ended (Ok (others 0).text))) k q z
    end_leads k p words others places noted q z alone = lines_then noted
        (λ since j a r y. Meant since j a r y × IsSaid r) (EndsAsAlone (record { threads = others; shared = z }))
        (ends_thread c turns p.names words p.objects)
        (λ answer. ended (Ok (others 0).text)) k q z alone
        (leads_free t c noted Meant (ends_thread c turns p.names words p.objects) k q z
        ((end_goes turns words own.words p own.place places).so k (extends_itself k) noted q z alone tt)
        (end_free t c turns tried p.names words p.objects))
        (λ since j a r y more alone' met. after since j a r y met.0 met.1)
      where
        own : ThreadStand
        own = others 0

        Meant : Ends (Unit {0})
        Meant = Outcome noted same
            (run_alone 0 true (ends_thread c turns own.place.names own.words own.place.objects) z) q

        after : (since : Option Noted) (j : Numbers) (a : Asks) (r : Result (Unit {0}) Fault) (y : Shared)
            → Meant since j a r y → IsSaid r
            → EndsAsAlone (record { threads = others; shared = z }) since j a (Ok own.text) y
        after since j a r y (inl (stays, is, left, least)) said = inl (
          refl,
          ap (λ x. summary_of (as_seen 0 x)) left
              ∙ end_counts c turns own.place.names own.words own.place.objects k z alone,
        )
        after since j a r y (inr bad) said = absurd (unspoilt r said bad)

    -- LINES
    lines_from_lead : (k : Numbers) (p : Place) (words : ThreadWords) (others : ℕ → ThreadStand)
        → PlaceFor k p (others 0).place → (xs : List Command)
        → AllByRecursion (λ x. is_for_itself (manner_of x) ≡ true) xs → (noted : Option Noted) (q : Asks) (z : Shared)
        → IsAlone k z → LinesLead noted
        (EndsAsAlone (course_of c turns (map (λ x. (0, x)) xs) (record { threads = others; shared = z })))
        (lines_from c turns p words (others 0).line (others 0).text xs) k (and_asks (asked_by_all xs) q) z
    lines_from_lead k p words others places [] all noted q z alone =
        end_leads k p words others places noted (and_asks (asked_by_all []) q) z alone
    lines_from_lead k p words others places (x ∷ xs) all noted q z alone = subst
        (λ a. LinesLead noted Wanted (lines_from c turns p words own.line own.text (x ∷ xs)) k a z)
        (sym (one_first x xs q)) (lines_then noted Meant Wanted (doing_at c turns p words p.objects x) next k
        (and_asks (asked_by x) (and_asks (asked_by_all xs) q)) z alone
        ((command_follows turns words own.words p own.place places x all.0).so noted (and_asks (asked_by_all xs) q) z
        alone) (after (λ j p words others places. lines_from_lead j p words others places xs all.1)))
      where
        own : ThreadStand
        own = others 0

        answered : Result Reply Fault × Shared
        answered = run_alone 0 true (doing_at c turns own.place own.words own.place.objects x) z

        Wanted : Ends (List ℕ)
        Wanted = EndsAsAlone (course_of c turns (map (λ x. (0, x)) (x ∷ xs)) (record { threads = others; shared = z }))

        Meant : Ends Reply
        Meant = Outcome None ReplyFor answered (and_asks (asked_by_all xs) q)

        next : Result Reply Fault → Doing (List ℕ)
        next r = lines_from c turns (place_after x r p) (words_after p.names x r words) (own.line + 1)
            (own.text ++ printed own.line x r) xs

        others' : ℕ → ThreadStand
        others' = update nat_eq others 0 (stand_after x answered.0 own)

        Rest : Type 0
        Rest = (j : Numbers) (p : Place) (words : ThreadWords) (others : ℕ → ThreadStand)
            → PlaceFor j p (others 0).place → (noted : Option Noted) (q : Asks) (z : Shared) → IsAlone j z
            → LinesLead noted
            (EndsAsAlone (course_of c turns (map (λ x. (0, x)) xs) (record { threads = others; shared = z })))
            (lines_from c turns p words (others 0).line (others 0).text xs) j (and_asks (asked_by_all xs) q) z

        after : Rest → (since : Option Noted) (j : Numbers) (a : Asks) (r : Result Reply Fault) (y : Shared)
            → Extends k j → IsAlone j y → Meant since j a r y → LinesLead since Wanted (next r) j a y
        after rest since j a r y more alone' (inl (stays, is, left, least)) =
            subst (λ line. LinesLead since Wanted (lines_from c turns (place_after x r p)
            (words_after p.names x r words) (own.line + 1) (own.text ++ line) xs) j a y) (sym
            (printed_for j own.line x r answered.0 is))
            (subst (λ v. LinesLead since
            (EndsAsAlone (course_of c turns (map (λ x. (0, x)) xs) (record { threads = others'; shared = v })))
            (lines_from c turns (place_after x r p) (words_after p.names x r words) (others' 0).line
            (others' 0).text xs) j a y) left
            (subst (λ b. LinesLead since
            (EndsAsAlone (course_of c turns (map (λ x. (0, x)) xs) (record { threads = others'; shared = y })))
            (lines_from c turns (place_after x r p) (words_after p.names x r words) (others' 0).line
            (others' 0).text xs) j b y) (and_rest (asked_by_all xs) q a least)
            (rest j (place_after x r p) (words_after p.names x r words) others'
            (place_after_for j x p own.place r answered.0 (place_stays k j more p own.place places) is) since
            (rest_of (asked_by_all xs) a) y alone')))
        after rest since j a r y more alone' (inr bad) = spoilt_lead
            (course_of c turns (map (λ x. (0, x)) (x ∷ xs)) (record { threads = others; shared = z })) since (next r)
            j a y (lines_spoilt c turns (place_after x r p) (words_after p.names x r words) (own.line + 1)
            (own.text ++ printed own.line x r) xs (spoilt_line own.line x r own.text bad))

pub lines_lead : (c : Config) (t : ℕ) (turns : ℕ) → 0 < turns → (k : Numbers) (p : Place) (words : ThreadWords)
    (alone : ThreadStand) (others : ℕ → ThreadStand) → PlaceFor k p alone.place → others 0 ≡ alone → (xs : List Command)
    → AllByRecursion (λ x. is_for_itself (manner_of x) ≡ true) xs → (noted : Option Noted) (q : Asks) (z : Shared)
    → IsAlone k z → LinesLead c t noted
    (EndsAsAlone (course_of c turns (map (λ x. (0, x)) xs) (record { threads = others; shared = z })))
    (lines_from c turns p words alone.line alone.text xs) k (and_asks (asked_by_all xs) q) z
lines_lead c t turns tried k p words alone others places is xs all noted q z one = subst
    (λ (own : ThreadStand). PlaceFor k p own.place → LinesLead c t noted
    (EndsAsAlone (course_of c turns (map (λ x. (0, x)) xs) (record { threads = others; shared = z })))
    (lines_from c turns p words own.line own.text xs) k (and_asks (asked_by_all xs) q) z) is
    (λ places. lines_from_lead c t turns tried k p words others places xs all noted q z one) places
