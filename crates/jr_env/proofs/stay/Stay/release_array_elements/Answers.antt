use Rattle.std.proofs.Common.{◌≡◌, ◌≢◌, None, Err, Ok, ap, map, refl, rules, subst, sym, ◌∙◌}
use Rattle.jr_model.specs.declared.frames.Mode.TheVariants.{Abort}
use Rattle.jr_env.specs.Deeds.{release_answer, release_within}
use Rattle.jr_env.specs.LentStays.{DoesInside}
use Rattle.jr_env.proofs.ReleasedElements.{kept_words}
use Rattle.jr_env.proofs.WithinStays.{nothing_inside, gives_back}
use Rattle.jr_env.proofs.stay.Stay.release_array_elements.Goals as goal

pub returns-then-not-copies_back-clause-call : goal.returns-then-not-copies_back-clause-call
returns-then-not-copies_back-clause-call g c =
    let aborts : c.args.mode ≡ Abort = search rules in
    let env = c.args.self.now.env.now in record {
      same_reference = refl;
      call = subst (λ m. DoesInside env env (release_within g.E.Elem.KIND c.args.array.0
          (map g.E.Elem.word_of c.args.elements) m) (Ok None)) (sym aborts) (nothing_inside env None);
    }

pub returns-in-Ok-clause-call : goal.returns-in-Ok-clause-call
returns-in-Ok-clause-call g c =
    let words = map g.E.Elem.word_of in
    let writes : c.args.mode ≢ Abort = search rules in record {
      same_reference = c.in-Ok.ensures.same_reference;
      call = subst (λ z. DoesInside c.args.self.now.env.now c.make.new.self.env.now
          (release_within g.E.Elem.KIND c.args.array.0 (words c.args.elements) c.args.mode) z)
          (kept_words words c.args.elements c.args.mode ∙ ap (λ k. release_answer words (Ok k)) (sym c.kept.ensures))
          (gives_back c.args.self.now.env.now c.make.new.self.env.now g.E.Elem.KIND c.args.array.0
          (words c.args.elements) c.args.mode writes (Ok _) c.in-Ok.ensures.call);
    }

pub returns-in-Err-clause-call : goal.returns-in-Err-clause-call
returns-in-Err-clause-call g c =
    let words = map g.E.Elem.word_of in
    let writes : c.args.mode ≢ Abort = search rules in record {
      same_reference = c.in-Err.ensures.same_reference;
      call = gives_back c.args.self.now.env.now c.make.new.self.env.now g.E.Elem.KIND c.args.array.0
          (words c.args.elements) c.args.mode writes (Err c.in-Err.fault) c.in-Err.ensures.call;
    }
