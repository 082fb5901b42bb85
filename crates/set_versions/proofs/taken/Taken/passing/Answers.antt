use Rattle.std.proofs.Common.{◌∙◌, ap, map, subst, sym}
use Rattle.base_types.specs.Meanings.{fact_of}
use Rattle.def_chase.specs.Repository.{IsRepository}
use Rattle.set_versions.proofs.Passed.{taken_in_order}
use Rattle.set_versions.proofs.Seeing.{all_reached}
use Rattle.set_versions.proofs.taken.Taken.passing.Goals as goal

pub of-requires : goal.of-requires
of-requires c =
    let es = c.self.inside.tuples in
    record { in_order = subst IsRepository (sym (ap (λ l. map (λ e. fact_of e.0) l) (c.cursor.ensures.rest ∙ all_reached es))) (taken_in_order es c.cursor.ensures.in_order) }

pub returns-clause-all : goal.returns-clause-all
returns-clause-all c =
    let es = c.self.inside.tuples in
    c.of.ensures.all ∙ ap (λ l. map (λ e. fact_of e.0) l) (c.cursor.ensures.rest ∙ all_reached es) ∙ c.self.view_is
