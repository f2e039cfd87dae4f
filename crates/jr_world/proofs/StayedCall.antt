-- A call in a stay that stands is played.
use Rattle.std.proofs.Common.{◌≡◌, ◌≢◌, ◌⊎◌, ⊎_elim, inl, inr, true, false, Result, Ok, Err, IfErr}
use Rattle.std.proofs.Common.{◌+◌, List, [], ◌∷◌, ◌++◌, map, length, refl, sym, ap, subst, ◌∙◌, append_assoc}
use Rattle.std.proofs.Common.{append-nil}
use Rattle.std.specs.List.{AllByRecursion}
use mathlib.Core.List.{IsPrefix}
use Rattle.jr_word.specs.declared.fault.Fault.{Fault}
use Rattle.jr_word.specs.declared.handle.RefKind.TheVariants.{Global, Weak}
use Rattle.jr_word.specs.declared.kind.Kind.{Kind}
use Rattle.jr_word.specs.declared.kind.Kind.TheVariants.{Plain}
use Rattle.jr_model.specs.declared.event.GateAct.TheVariants.{Leave}
use Rattle.jr_model.specs.declared.event.Act.{Act}
use Rattle.jr_model.specs.declared.event.Act.TheVariants.{Gate}
use Rattle.jr_model.specs.declared.event.Role.TheVariants.{Outside}
use Rattle.jr_model.specs.History.{History, IsLegal, IsLegalFrom, mine, role_from, state}
use Rattle.jr_model.specs.Tests.{is_silent}
use Rattle.jr_model.specs.Programs.{AnswerOf, none_known}
use Rattle.jr_model.specs.Programs.Which.{one, other}
use Rattle.jr_model.proofs.EachCall.{program_stays}
use Rattle.jr_model.proofs.Gates.{apart_state}
use Rattle.jr_model.proofs.Histories.{legal_append, mine_append}
use Rattle.jr_model.proofs.Moments.{prefix_self}
use Rattle.jr_model.proofs.Stays.{append_cancel, role_of_state}
use Rattle.jr_world.specs.World.{how_many, is_ref_of}
use Rattle.jr_world.specs.Births.{births}
use Rattle.jr_world.specs.Doing.{Noted}
use Rattle.jr_world.specs.Playing.{AnsweredBy, IsNotedAt, ObjectIs, StayedPlays}
use Rattle.jr_world.proofs.CallPlays.{none_along}
use Rattle.jr_world.proofs.EachCall.{StaysPlay}
use Rattle.jr_world.proofs.ElementPlays.{in_line}
use Rattle.jr_world.proofs.EndedCalls.{call_ends}
use Rattle.jr_world.proofs.InStay.{HandIs, InOneStay, IsAt, KnownAre, MayRefuse, Scene, StaysOn, Then}
use Rattle.jr_world.proofs.Joining.{weakened}
use Rattle.jr_world.proofs.ProgramPlays.{program_plays}
use Rattle.jr_world.proofs.Standing.{front_legal, is_of_gate, stays_here}

-- what is noted at a moment
abbrev pub noted_at : History → Noted
noted_at moment = record {
  standing = how_many (is_ref_of Global) (map (λ e. e.1) (births moment).refs)
      + how_many (is_ref_of Weak) (map (λ e. e.1) (births moment).refs);
  made = length (births moment).refs;
  used = (births moment).used;
}

pub is_noted_at : (moment : History) → IsNotedAt moment (noted_at moment)
is_noted_at moment = record { stand = refl; made = refl; used = refl }

module _ (parts : StaysPlay) where
  pub calls_in_stays_play : StayedPlays
  calls_in_stays_play c last whole old new past f g n a p words numbers o j from answer behind lies come within is_noted
      words_are apt at_object silent r = call_ends c last whole old new past f g a answer behind lies come r
      (weakened c whole old.thread (Then k a answer) (AnsweredBy a answer) g behind past (λ later x begins so. so.2)
      (prefix_self past)
      (program_plays k (state new.seen) (parts k (state new.seen) new.seen stays lies.begins refl) words numbers p
      none_known none_known (at_hand at_object).0 o j past f g r.acts answer behind here words_are none_are
      (at_hand at_object).1 (apt (at_hand at_object).0) (may answer silent) r.is))
    where
      k : Scene
      k = record {
        config = c;
        last = last;
        whole = whole;
        thread = old.thread;
        legal = lies.legal;
        small = lies.small;
        serials = lies.serials;
        entry = past;
        noted = from;
        noted_so = is_noted;
        own = mine past old.thread ++ r.acts;
      }

      here : IsAt k past r.acts
      here = record {
        stays = stays_here c last whole old.thread lies.legal past within;
        begins = come.begins;
        own = refl;
      }

      -- what the thread has done at the end of its call
      done_then : mine new.seen old.thread ≡ mine past old.thread ++ r.acts
      done_then = r.did.own ∙ ap (λ l. l ++ r.acts) (sym come.own)

      -- the pass has seen this moment by then
      stays_to_end : IsPrefix past new.seen → StaysOn k past new.seen
      stays_to_end (since, is) = record {
        since = since;
        is = sym is;
        within = within;
        none = none_along c last old.thread (state past) since (apart_state c last past both.0) within
            (subst (AllByRecursion (λ b. b ≢ Gate Leave)) (sym mine_since)
            (program_stays c last old.thread (state new.seen) words p none_known o f g r.acts answer r.is)) both.1;
      }
        where
          both : IsLegal c last past × IsLegalFrom c last (state past) since
          both = (legal_append c last past since).0 (subst (IsLegal c last) (sym is)
              (front_legal c last whole old.thread lies.legal new.seen lies.begins))

          mine_since : mine since old.thread ≡ r.acts
          mine_since = append_cancel (mine past old.thread) (mine since old.thread) r.acts
              (sym (mine_append past since old.thread) ∙ ap (λ h. mine h old.thread) is ∙ done_then)

      -- or it has not, and then the call had no act
      stays_from_end : IsPrefix new.seen past → StaysOn k new.seen past
      stays_from_end (since, is) = record {
        since = since;
        is = sym is;
        within = role_of_state new.seen old.thread ∙ ap (role_from Outside) same_own
            ∙ sym (role_of_state past old.thread) ∙ within;
        none = subst (AllByRecursion (λ b. is_of_gate b ≡ false)) (sym (none_of r.acts since_acts no_more).1) tt;
      }
        where
          since_acts : List Act
          since_acts = mine since old.thread

          no_more : r.acts ++ since_acts ≡ []
          no_more = append_cancel (mine past old.thread) (r.acts ++ since_acts) []
              (sym (append_assoc (mine past old.thread) r.acts since_acts)
              ∙ ap (λ l. l ++ since_acts) (sym done_then) ∙ sym (mine_append new.seen since old.thread)
              ∙ ap (λ h. mine h old.thread) is ∙ sym (append-nil (mine past old.thread)))

          none_of : (xs ys : List Act) → xs ++ ys ≡ [] → (xs ≡ []) × (ys ≡ [])
          none_of [] ys e = (refl, e)
          none_of (x ∷ xs) ys e = absurd (let bad = e in cc)

          same_own : mine new.seen old.thread ≡ mine past old.thread
          same_own = done_then ∙ ap (λ l. mine past old.thread ++ l) (none_of r.acts since_acts no_more).0
              ∙ append-nil (mine past old.thread)

      stays : InOneStay k new.seen
      stays = ⊎_elim (λ h. inl (stays_to_end h)) (λ h. inr (stays_from_end h))
          (in_line past new.seen come.begins.0 lies.begins.0 (come.begins.1 ∙ sym lies.begins.1))

      none_are : KnownAre k past none_known none_known
      none_are one = tt
      none_are other = tt

      at_hand : (o ≡ 0) ⊎ ObjectIs past o j → (kind : Kind) × HandIs k past kind o j
      at_hand (inl none) = (Plain, inl none)
      at_hand (inr (x, is)) = (x.kind, inr (x, is, refl))

      may : (x : Result (AnswerOf a) Fault) → IfErr x (λ e. is_silent e ≡ true) → MayRefuse k behind x
      may (Ok y) quiet = tt
      may (Err e) quiet = λ loud. absurd (let bad = sym quiet ∙ loud in cc)
