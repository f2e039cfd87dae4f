-- One command after the other, for whatever was known.
use Rattle.std.proofs.Common.{◌≡◌, ◌++◌, ◌∷◌, [], ◌<◌, ◌≤◌, ◌+◌, ◌∙◌, ℕ, suc, arith, List, Option, None}
use Rattle.std.proofs.Common.{Result, Ok, Err, length, take, drop, get_or, subst, sym, ap, refl, append_assoc}
use Rattle.std.proofs.lemmas.List.{append-nil, take-append-drop, take_all, length-take-le}
use Rattle.std.proofs.Math.Seq.{take-suc}
use Rattle.std.specs.declared.alloc.AllocError.{AllocError}
use Rattle.jr_word.specs.declared.fault.Fault.{Fault}
use Rattle.jr_word.specs.declared.fault.Fault.TheVariants as fault
use Rattle.jr_model.specs.Frames.{Frames}
use Rattle.jr_syntax.specs.declared.command.Command.{Command}
use Rattle.jr_steps.specs.declared.known.Known.{Known}
use Rattle.jr_steps.specs.Knowing.{Facts, Holds, Standing}
use Rattle.jr_env.specs.Deeds.{CarriedOut, DoesDeed}
use Rattle.jr_scripts.specs.declared.reply.Reply.{Reply}
use Rattle.jr_model.specs.declared.event.Role.TheVariants.{Outside}
use Rattle.jr_scripts.specs.declared.region.NamedLevels.{NamedLevels}
use Rattle.jr_scripts.specs.Names.{Names, no_names}
use Rattle.jr_scripts.specs.Places.{Place, levels_after, objects_after, place_after}
use Rattle.jr_scripts.specs.RegionCommands.{giving_up_all}
use Rattle.jr_scripts.specs.Advancing.{KnowsWith, deed_spoken, level_names, objects_in, place_with, role_with}
use Rattle.jr_scripts.specs.Text.{buffers_after, printed, names_set}
use Rattle.jr_scripts.specs.Explains.{Explains, nothing, then, unwritten}
use Rattle.jr_scripts.specs.Posting.{Speech, ThreadWords, words_after}
use Rattle.jr_scripts.specs.Runs.{WritesDown, running}
use Rattle.jr_scripts.proofs.Speaking.{Carries, explains_still, words_same}
use Rattle.jr_gate.specs.Performing.{IsAsBefore, thread_state}
use Rattle.jr_env.proofs.Carrying.{role_kept, role_then}

module _ {S : Type 0} (facts : S → Facts) where
  -- so far these commands were done, the output grew, and what was known explains by how much
  pub record Going (old now : S) (before after : Frames) (talk : Speech) (turns first : ℕ) (done : List Command)
      (out out' : List ℕ) (names : Names) (words : ThreadWords) (region : Option NamedLevels) : Type 0 where
    pub text : List ℕ
    pub grew : out' ≡ out ++ text
    pub stands_is : IsAsBefore (record ((facts old).stands) { role = role_with region }) (facts now).stands
    pub explained : (k : Known) → (facts old).knows k → Holds before k
        → (k' : Known) × (facts now).knows k' × KnowsWith region after k' × Explains talk turns first (thread_state
        (facts old) k before) done text (thread_state (facts now) k' after) (place_with names region) words

done_so_far : (commands : List Command) (i : ℕ) (c : Command) → i < length commands → get_or commands i c ≡ c
    → take (suc i) commands ≡ take i commands ++ c ∷ []
done_so_far commands i c small is = take-suc commands i c small ∙ ap (λ x. take i commands ++ x ∷ []) is

-- outside before, and outside again
outside_again : {s t : Standing} → s.role ≡ Outside → IsAsBefore (record s { role = Outside }) t → IsAsBefore s t
outside_again is b =
    record { room = b.room; config = b.config; last = b.last; thread = b.thread; role = b.role ∙ sym is }

-- where the thread stands after a command
place_next : (c : Command) (answer : Result Reply Fault) (names between names' : Names)
    (region left : Option NamedLevels)
    → between ≡ buffers_after c answer names → names' ≡ names_set c answer between
    → level_names left ≡ levels_after c answer (level_names region)
    → objects_in left ≡ objects_after c answer (objects_in region)
    → place_after c answer (place_with names region) ≡ place_with names' left
place_next c answer names between names' region left changed set levels objects =
    ap (λ (n : Names). place n (levels_after c answer (level_names region))
    (objects_after c answer (objects_in region))) (sym (set ∙ ap (names_set c answer) changed))
    ∙ (ap (λ (l : List (List ℕ)). place names' l (objects_after c answer (objects_in region))) (sym levels)
    ∙ ap (λ (o : List ℕ). place names' (level_names left) o) (sym objects))
  where
    place : Names → List (List ℕ) → List ℕ → Place
    place n l o = record { names = n; levels = l; objects = o }

-- what holds of the words behind a command holds of those that are kept
pub followed : (c : Command) (names between names' : Names) (answer : Result Reply Fault)
    (had words words' : ThreadWords)
    (number : ℕ) (out out' : List ℕ) (r : Result (Unit {0}) AllocError) (so : ThreadWords → Type 0) → had ≡ words
    → between ≡ buffers_after c answer names → WritesDown number c answer between names' words words' r out out'
    → r ≡ Ok tt → so (words_after names c answer had) → so words'
followed c names between names' answer had words words' number out out' r so same changed kept good held =
    let w : WritesDown number c answer between names' words words' (Ok tt) out out' =
    subst (λ z. WritesDown number c answer between names' words words' z out out') good kept in
    subst so
    (sym (w.1 ∙ (words_same names between c answer words changed ∙ ap (words_after names c answer) (sym same)))) held

module _ {S : Type 0} {facts : S → Facts} where
  pub begun : (old : S) (f : Frames) (talk : Speech) (turns first : ℕ) (out : List ℕ) (names : Names)
      (words : ThreadWords)
      → (facts old).stands.role ≡ Outside → names ≡ no_names → words ≡ []
      → Going facts old old f f talk turns first [] out out names words None
  begun old f talk turns first out names words outside e none = record {
    text = [];
    grew = sym (append-nil out);
    stands_is = role_kept Outside outside;
    explained = λ k s h. (
      k,
      s,
      h,
      subst (λ n. Explains talk turns first (thread_state (facts old) k f) [] [] (thread_state (facts old) k f)
          (place_with n None) words) (sym e) (subst (λ ws. Explains talk turns first (thread_state (facts old) k f) []
          [] (thread_state (facts old) k f) (place_with no_names None) ws) (sym none) nothing),
    );
  }

  -- all commands were done, and a region that stood was given up
  pub finished : {old now last : S} {f g h : Frames} {talk : Speech} {turns first : ℕ} {commands : List Command}
      {out out' : List ℕ} {names : Names} {words : ThreadWords} {region : Option NamedLevels} (i : ℕ)
      → (facts old).stands.role ≡ Outside → length commands ≤ i
      → Going facts old now f g talk turns first (take i commands) out out' names words region
      → CarriedOut facts now last g h Outside (KnowsWith region g) (Holds h) (giving_up_all (objects_in region)) (Ok tt)
      → (text : List ℕ) × (out' ≡ out ++ text)
      × DoesDeed facts old last f h (running talk turns first commands text) (Ok tt)
  finished {old} {now} {last} {f} {g} {h} {talk} {turns} {first} {commands} {out} {out'} {names} {words} {region} i
      outside all d e = (
        d.text,
        d.grew,
        record {
          stands_is = outside_again outside (role_then (facts old).stands (facts now).stands (facts last).stands
              (role_with region) Outside d.stands_is e.stands_is);
          did = λ k s m.
              let x = d.explained k s m in
              let y = e.did x.0 x.1 x.2 in (
                y.0,
                y.1,
                y.2,
                record {
                  place = place_with names region;
                  words = words;
                  done = thread_state (facts now) x.0 g;
                  explains = subst (λ cs. Explains talk turns first (thread_state (facts old) k f) cs d.text
                      (thread_state (facts now) x.0 g) (place_with names region) words) (take_all i commands all) x.3;
                  ended = y.3;
                },
              );
        },
      )

  -- what was done with these words was done with those
  with_words : {mid new : S} {g h : Frames} (talk : Speech) (turns : ℕ) (c : Command) (names : Names)
      (had words : ThreadWords) (region left : Option NamedLevels) {answer : Result Reply Fault} → had ≡ words
      → CarriedOut facts mid new g h (role_with left) (KnowsWith region g) (KnowsWith left h)
      (deed_spoken talk turns (place_with names region) had c) answer
      → CarriedOut facts mid new g h (role_with left) (KnowsWith region g) (KnowsWith left h)
      (deed_spoken talk turns (place_with names region) words c) answer
  with_words {mid} {new} {g} {h} talk turns c names had words region left {answer} same does =
      subst (λ ws. CarriedOut facts mid new g h (role_with left) (KnowsWith region g) (KnowsWith left h)
      (deed_spoken talk turns (place_with names region) ws c) answer) same does

  module _ {old mid new : S} {f g h : Frames} {earlier talk : Speech} (carries : Carries earlier talk) (turns first : ℕ)
      (commands : List Command) (i : ℕ) (c : Command) (names between names' : Names) (had words words' : ThreadWords)
      (same : had ≡ words) (region left : Option NamedLevels)
      {answer : Result Reply Fault} {out out' out'' : List ℕ} where
    pub went_on : (r : Result (Unit {0}) AllocError) → i < length commands → get_or commands i c ≡ c
        → Going facts old mid f g earlier turns first (take i commands) out out' names had region
        → CarriedOut facts mid new g h (role_with left) (KnowsWith region g) (KnowsWith left h)
        (deed_spoken talk turns (place_with names region) had c) answer
        → between ≡ buffers_after c answer names → level_names left ≡ levels_after c answer (level_names region)
        → objects_in left ≡ objects_after c answer (objects_in region)
        → WritesDown (first + i) c answer between names' words words' r out' out'' → r ≡ Ok tt
        → Going facts old new f h talk turns first (take (i + 1) commands) out out'' names' words' left
    went_on r small is so_far done changed levels objects kept good =
        let d = subst (λ ws. Going facts old mid f g earlier turns first (take i commands) out out' names ws region)
        same so_far in
        let does = with_words talk turns c names had words region left same done in
        let w : WritesDown (first + i) c answer between names' words words' (Ok tt) out' out'' =
        subst (λ r. WritesDown (first + i) c answer between names' words words' r out' out'') good kept in
        let next : suc i ≡ i + 1 = omega arith in
        let count : length (take i commands) ≡ i = length-take-le i commands (omega arith) in
        let at = place_next c answer names between names' region left changed w.0 levels objects in
        let kept_words : words' ≡ words_after names c answer words =
        w.1 ∙ words_same names between c answer words changed in
        record {
          text = d.text ++ printed (first + i) c answer;
          grew = w.2 ∙ (ap (λ o. o ++ printed (first + i) c answer) d.grew
              ∙ append_assoc out d.text (printed (first + i) c answer));
          stands_is = role_then (facts old).stands (facts mid).stands (facts new).stands (role_with region)
              (role_with left) d.stands_is does.stands_is;
          explained = λ k s a.
              let x = d.explained k s a in
              let y = does.did x.0 x.1 x.2 in (
                y.0,
                y.1,
                y.2,
                subst (λ cs. Explains talk turns first (thread_state (facts old) k f) cs (d.text
                    ++ printed (first + i) c answer) (thread_state (facts new) y.0 h) (place_with names' left) words')
                    (sym (done_so_far commands i c small is) ∙ ap (λ n. take n commands) next)
                    (subst (λ ws. Explains talk turns first (thread_state (facts old) k f) (take i commands ++ c ∷ [])
                    (d.text ++ printed (first + i) c answer) (thread_state (facts new) y.0 h) (place_with names' left)
                    ws) (sym kept_words)
                    (subst (λ p. Explains talk turns first (thread_state (facts old) k f) (take i commands ++ c ∷ [])
                    (d.text ++ printed (first + i) c answer) (thread_state (facts new) y.0 h) p
                    (words_after names c answer words)) at
                    (subst (λ m. Explains talk turns first (thread_state (facts old) k f) (take i commands ++ c ∷ [])
                    (d.text ++ printed (first + m) c answer) (thread_state (facts new) y.0 h)
                    (place_after c answer (place_with names region)) (words_after names c answer words)) count
                    (then c answer (explains_still carries x.3) y.3.0 y.3.1)))),
              );
        }

    pub cut_off : {last : S} {j : Frames} (r : Result (Unit {0}) AllocError) (e : AllocError)
        → (facts old).stands.role ≡ Outside → i < length commands → get_or commands i c ≡ c
        → Going facts old mid f g earlier turns first (take i commands) out out' names had region
        → CarriedOut facts mid new g h (role_with left) (KnowsWith region g) (KnowsWith left h)
        (deed_spoken talk turns (place_with names region) had c) answer
        → objects_in left ≡ objects_after c answer (objects_in region)
        → WritesDown (first + i) c answer between names' words words' r out' out'' → r ≡ Err e
        → CarriedOut facts new last h j Outside (KnowsWith left h) (Holds j) (giving_up_all (objects_in left)) (Ok tt)
        → (text : List ℕ) × (out'' ≡ out ++ text)
        × DoesDeed facts old last f j (running talk turns first commands text) (Err fault.Memory)
    cut_off {last} {j} r e outside small is so_far done objects kept bad ended =
        let d = subst (λ ws. Going facts old mid f g earlier turns first (take i commands) out out' names ws region)
        same so_far in
        let does = with_words talk turns c names had words region left same done in
        let w : WritesDown (first + i) c answer between names' words words' (Err e) out' out'' =
        subst (λ r. WritesDown (first + i) c answer between names' words words' r out' out'') bad kept in (
          d.text,
          w ∙ d.grew,
          record {
            stands_is = outside_again outside (role_then (facts old).stands (facts new).stands (facts last).stands
                (role_with left) Outside (role_then (facts old).stands (facts mid).stands (facts new).stands
                (role_with region) (role_with left) d.stands_is does.stands_is) ended.stands_is);
            did = λ k s a.
                let x = d.explained k s a in
                let y = does.did x.0 x.1 x.2 in
                let z = ended.did y.0 y.1 y.2 in (
                  z.0,
                  z.1,
                  z.2,
                  (
                    refl,
                    unwritten (take i commands) c (drop (suc i) commands) (thread_state (facts mid) x.0 g)
                        (thread_state (facts new) y.0 h) (place_with names region) words answer
                        (sym (take-append-drop (suc i) commands)
                        ∙ (ap (λ cs. cs ++ drop (suc i) commands) (done_so_far commands i c small is) ∙ append_assoc
                        (take i commands) (c ∷ []) (drop (suc i) commands))) (explains_still carries x.3) y.3.0 y.3.1
                        (subst (λ os. giving_up_all os (thread_state (facts new) y.0 h) (Ok tt)
                        (thread_state (facts last) z.0 j)) objects z.3),
                  ),
                );
          },
        )
