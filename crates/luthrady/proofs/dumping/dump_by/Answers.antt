use Rattle.std.proofs.Common.{◌∙◌, ap, map}
use Rattle.jr_weak.specs.Listing.{over_front}
use Rattle.luthrady.specs.Dumped.{local_row, object_row, slot_row}
use Rattle.luthrady.proofs.dumping.dump_by.Goals as goal

-- src/dumping.rt
pub returns-in-Ok-clause-call : goal.returns-in-Ok-clause-call
returns-in-Ok-clause-call c = (
  c.in-Ok.notes.slots.items,
  c.in-Ok.notes.locals.items,
  c.in-Ok.notes.headers.items,
  c.in-Ok.notes.words.items,
  c.in-Ok.ensures,
  record {
    slots_are = c.write_rows.ensures ∙ ap (λ l. over_front c.args.slots.now (map slot_row l)) c.deref.ensures.value;
    locals_are = c.write_rows-in-Ok.ensures
        ∙ ap (λ l. over_front c.args.locals.now (map local_row l)) c.deref-in-Ok.ensures.value;
    objects_are = c.write_rows-in-Ok-2.ensures
        ∙ ap (λ l. over_front c.args.objects.now (map object_row l)) c.deref-in-Ok-2.ensures.value;
    words_are = c.write_words.ensures ∙ ap (λ l. over_front c.args.words.now l) c.deref-in-Ok-3.ensures.value;
  },
)
