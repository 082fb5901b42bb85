use Rattle.std.proofs.Common.{◌∙◌, ap}
use Rattle.std.proofs.lemmas.Result.{IfOk-weaker}
use Rattle.base_types.specs.Meanings.{null_of, datum_of, fact_of, operation_of}
use Rattle.chase_update.proofs.Namings.{starts_adding, starts_removing, starts_replacing}
use Rattle.chase_update.proofs.starting.start.Goals as goal

pub returns-in-Insert-clause-value : goal.returns-in-Insert-clause-value
returns-in-Insert-clause-value c =
    IfOk-weaker c.look_up.result _ _
    (λ turn h ms P e. h ms P e ∙ starts_adding (operation_of c.args.operation.now) (fact_of c.in-Insert.tuple) (ap operation_of c.in-Insert.is))
    c.look_up.ensures.value

pub returns-in-Delete-clause-value : goal.returns-in-Delete-clause-value
returns-in-Delete-clause-value c =
    IfOk-weaker c.look_up-in-Delete.result _ _
    (λ turn h ms P e. h ms P e ∙ starts_removing (operation_of c.args.operation.now) (fact_of c.in-Delete.tuple) (ap operation_of c.in-Delete.is))
    c.look_up-in-Delete.ensures.value

pub returns-in-Replace-clause-value : goal.returns-in-Replace-clause-value
returns-in-Replace-clause-value c =
    λ ms P e. starts_replacing ms P (operation_of c.args.operation.now) (null_of c.in-Replace.name) (datum_of c.in-Replace.field-1) (ap operation_of c.in-Replace.is) e
