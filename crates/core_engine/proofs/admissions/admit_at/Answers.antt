use Rattle.std.proofs.Common.{◌∙◌, ap, suc, length, [], ◌∷◌, ◌++◌}
use Rattle.core_entries.specs.declared.entries.Entry.TheVariants.{Admitted as AdmittedEntry}
use Rattle.base_types.specs.Meanings.{operation_of}
use Rattle.core_engine.proofs.Arriving.{admits_to}
use Rattle.core_engine.proofs.admissions.admit_at.Goals as goal

pub returns-in-Ok-clause-made : goal.returns-in-Ok-clause-made
returns-in-Ok-clause-made c =
    admits_to (operation_of c.args.update.operation) c.next_number-number.result c.args.queue.now.items c.prepare_admission.new.queue.items c.args.history.now.items c.put_last.new.history.items
    (c.next_number-number.ensures.number ∙ ap (λ rs. suc (length rs)) c.as_slice.ensures.value) c.requires.few c.in-Ok.ensures.new (c.put_last.ensures.all ∙ ap (λ es. es ++ AdmittedEntry c.next_number-number.result ∷ []) c.prepare_admission.ensures.history)
