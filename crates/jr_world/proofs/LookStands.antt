-- Acts that change nothing leave what stands, and are played unseen.
use Rattle.std.proofs.Common.{◌≡◌, ◌+◌, ℕ, Bool, true, false, Option, Result, List, [], ◌∷◌, ◌++◌, map}
use Rattle.std.proofs.Common.{refl, sym, ap, subst, ◌∙◌, arith}
use Rattle.std.specs.List.{AllByRecursion}
use mathlib.Core.List.{IsPrefix}
use Rattle.jr_word.specs.declared.config.Config.{Config}
use Rattle.jr_word.specs.declared.fault.Fault.{Fault}
use Rattle.jr_model.specs.declared.event.Act.{Act}
use Rattle.jr_model.specs.declared.event.Act.TheVariants.{ShutBusy, Look, Probe, DeleteStale, ReserveFull, ReserveLost}
use Rattle.jr_model.specs.declared.event.Act.TheVariants.{Gate, LocalPut, Read, Meet}
use Rattle.jr_model.specs.State.{State}
use Rattle.jr_model.specs.Steps.{act_after}
use Rattle.jr_model.specs.Frames.{Agree, Frames, stored_at}
use Rattle.jr_model.specs.History.{History, by, mine, state}
use Rattle.jr_model.proofs.Agreement.{stored_append}
use Rattle.jr_model.proofs.Histories.{mine_push, state_push}
use Rattle.jr_world.specs.Births.{Births, births, born_by}
use Rattle.jr_world.specs.Doing.{Doing, Shared}
use Rattle.jr_world.specs.Plays.{ActsNext, Plays, InStands, SharedStands, StandsBy, under_way}
use Rattle.jr_world.proofs.Births.BornLists.{births_push}
use Rattle.jr_world.proofs.InStay.{IsAt, Scene, StaysOn, at_next, at_within}
use Rattle.jr_world.proofs.Standing.{is_of_gate, stays_by_act, stays_here}
use Rattle.jr_world.proofs.OpenParts.{open_push, unseen_in}
use Rattle.one_order.specs.Orders.{Item}
use Rattle.one_order.specs.Orders.Item.{does as acting}

-- the act changes neither the state nor what was born
abbrev pub is_look : Act → Bool
is_look (ShutBusy n) = true
is_look (Look h r) = true
is_look (Probe i b) = true
is_look (DeleteStale h) = true
is_look (ReserveFull n u) = true
is_look (ReserveLost n l f) = true
is_look (Read o i v) = true
is_look Meet = true
is_look _ = false

look_births : (b : Births) (t : ℕ) (a : Act) → is_look a ≡ true → born_by b t a ≡ b
look_births b t (ShutBusy n) is = refl
look_births b t (Look h r) is = refl
look_births b t (Probe i d) is = refl
look_births b t (DeleteStale h) is = refl
look_births b t (ReserveFull n u) is = refl
look_births b t (ReserveLost n l f) is = refl
look_births b t (Read o i v) is = refl
look_births b t Meet is = refl
look_births b t _ is = absurd cc

look_state : (s : State) (t : ℕ) (a : Act) → is_look a ≡ true → act_after s t a ≡ s
look_state s t (ShutBusy n) is = refl
look_state s t (Look h r) is = refl
look_state s t (Probe i d) is = refl
look_state s t (DeleteStale h) is = refl
look_state s t (ReserveFull n u) is = refl
look_state s t (ReserveLost n l f) is = refl
look_state s t (Read o i v) is = refl
look_state s t Meet is = refl
look_state s t _ is = absurd cc

look_stores : (p : ℕ) (a : Act) → is_look a ≡ true → stored_at p (a ∷ []) ≡ 0
look_stores p (LocalPut q o) is = absurd cc
look_stores p _ is = refl

look_at_no_gate : (a : Act) → is_look a ≡ true → is_of_gate a ≡ false
look_at_no_gate (Gate g) is = absurd cc
look_at_no_gate _ is = refl

-- an act that stores no local reference, and leaves those that stand, leaves the frames as they are
pub agreed_behind : (t : ℕ) (now : History) (f : Frames) (a : Act)
    → (act_after (state now) t a).locals ≡ (state now).locals → ((p : ℕ) → stored_at p (a ∷ []) ≡ 0)
    → Agree t f now → Agree t f (now ++ by t a ∷ [])
agreed_behind t now f a same none agreed = record {
  locals = λ p. ap (λ (s : State). s.locals t p) (state_push now (by t a))
      ∙ ap (λ (l : ℕ → ℕ → Option ℕ). l t p) same ∙ agreed.locals p;
  given = λ p.
      let more : stored_at p (mine (now ++ by t a ∷ []) t) ≡ stored_at p (mine now t) + stored_at p (a ∷ [])
      = ap (stored_at p) (mine_push now t a) ∙ stored_append p (mine now t) (a ∷ []) in
      let zero = none p in
      let was = agreed.given p in
      omega arith;
}

-- SUCH AN ACT LEAVES WHAT STANDS
looks_by : {b : Births} (c : Config) (t : ℕ) (now : History) (f : Frames) (s : Shared) (a : Act) → is_look a ≡ true
    → StandsBy b c t now f s → StandsBy b c t (now ++ by t a ∷ []) f s
looks_by {b} c t now f s a is st = record {
  objects = st.objects;
  refs = st.refs;
  owners = st.owners;
  used = st.used;
  many = st.many;
  roles = λ u. st.roles u ∙ sym (ap (λ (z : State). z.role u) (state_push now (by t a) ∙ same));
  lists = st.lists;
  frames = st.frames;
  posted = st.posted;
  places = st.places;
  agreed = agreed_behind t now f a (ap (λ (z : State). z.locals) same) (λ p. look_stores p a is) st.agreed;
  sound = st.sound;
}
  where
    same : act_after (state now) t a ≡ state now
    same = look_state (state now) t a is

look_born : (t : ℕ) (now : History) (a : Act) → is_look a ≡ true → births (now ++ by t a ∷ []) ≡ births now
look_born t now a is = births_push now (by t a) ∙ look_births (births now) t a is

pub look_stands : (c : Config) (t : ℕ) (now : History) (f : Frames) (s : Shared) (a : Act) → is_look a ≡ true
    → InStands c t now f s → InStands c t (now ++ by t a ∷ []) f s
look_stands c t now f s a is st = subst (λ b. StandsBy b c t (now ++ by t a ∷ []) f s) (sym (look_born t now a is))
    (looks_by c t now f s a is st)

-- .. at any moment
pub look_shows : (c : Config) (t : ℕ) (now : History) (f : Frames) (s : Shared) (a : Act) → is_look a ≡ true
    → SharedStands c t now f s → SharedStands c t (now ++ by t a ∷ []) f s
look_shows c t now f s a is st = subst (λ b. StandsBy b c t (now ++ by t a ∷ []) f s)
    (sym (open_push t now a (quiet a is) (look_born t now a is))) (looks_by c t now f s a is st)
  where
    quiet : (a : Act) → is_look a ≡ true → (seen : History) (shut : Option History) → under_way seen shut a ≡ shut
    quiet (Gate g) is seen shut = absurd cc
    quiet _ is seen shut = refl

-- SUCH ACTS, AND THEN THE REST: what is so while the call stays is so behind them
module _ (k : Scene) where
  module _ {A : Type 0} (V : History → Result A Fault → Type 0) (g : Frames) (behind : List (Item Act)) (d : Doing A)
      (f : Frames) (So : History → Type 0)
      (stays_so : (from to : History) → StaysOn k from to → IsPrefix to k.whole → So from → So to) where
    pub looks_play : (looks rest : List Act) (past : History) → AllByRecursion (λ a. is_look a ≡ true) looks
        → IsAt k past (looks ++ rest) → So past
        → ((now : History) → IsAt k now rest → So now
        → Plays k.config k.whole k.thread V g behind d now f (map acting rest))
        → Plays k.config k.whole k.thread V g behind d past f (map acting (looks ++ rest))
    looks_play [] rest past are at so next = next past at so
    looks_play (a ∷ looks) rest past are at so next =
        unseen_in k.config k.last k.whole k.thread k.legal (at_within k past (a ∷ looks ++ rest) at) a
        (look_at_no_gate a are.0)
        (λ now s goes st. look_stands k.config k.thread now f s a are.0 st)
        (λ now goes. looks_play looks rest (now ++ by k.thread a ∷ []) are.1
        (at_next k past now a (looks ++ rest) at goes (look_at_no_gate a are.0))
        (stays_so past (now ++ by k.thread a ∷ []) (goes_on now goes) goes.next so) next)
      where
        goes_on : (now : History) → ActsNext k.config k.whole k.thread past now a
            → StaysOn k past (now ++ by k.thread a ∷ [])
        goes_on now goes = stays_by_act k.config k.last k.whole k.thread k.legal past past now a
            (stays_here k.config k.last k.whole k.thread k.legal past (at_within k past (a ∷ looks ++ rest) at)) goes
            (look_at_no_gate a are.0)
