use Rattle.std.proofs.Common.{List, ap, sym, ◌∙◌, Option}
use Rattle.std.specs.Option.{option_map, option_copied}
use Rattle.base_types.specs.Candidates.{column_of, further_candidates}
use Rattle.base_types.specs.Meanings.{fact_of, datum_of}
use Rattle.base_types.specs.declared.candidates.Column.{Column}
use Rattle.def_chase.specs.Values.{Fact}
use Rattle.set_versions.proofs.Both.{lacks_relation, lacks_value}
use Rattle.set_versions.proofs.versions.Versions.base_lacks.Goals as goal

pub returns-in-Some : goal.returns-in-Some
returns-in-Some c =
    let D = c.base-base.result.now in
    let past = option_map fact_of (option_copied c.args.past) in
    record {
      none = λ yes.
          ap (λ (E : List Fact). further_candidates E c.args.relation (option_map column_of c.args.column) past) (sym c.base-base.ensures.base)
          ∙ ap (λ (o : Option Column). further_candidates D c.args.relation (option_map column_of o) past) c.in-Some.is
          ∙ lacks_value c.scan-found.result D c.args.relation c.in-Some.column.number (datum_of c.in-Some.column.value.now) past c.scan-found.ensures.found c.is_none.result yes c.is_none.ensures;
    }

pub returns-in-None : goal.returns-in-None
returns-in-None c =
    let D = c.base-base.result.now in
    let past = option_map fact_of (option_copied c.args.past) in
    record {
      none = λ yes.
          ap (λ (E : List Fact). further_candidates E c.args.relation (option_map column_of c.args.column) past) (sym c.base-base.ensures.base)
          ∙ ap (λ (o : Option Column). further_candidates D c.args.relation (option_map column_of o) past) c.in-None.is
          ∙ lacks_relation c.first.result D c.args.relation past c.first.ensures.found c.is_none-in-None.result yes c.is_none-in-None.ensures;
    }
