use Rattle.std.proofs.Common.{◌∙◌, ◌==◌, ap, List, rules, tests}
use Rattle.std.proofs.lemmas.Iterator.Search.{any_from_yields_List}
use Rattle.base_types.proofs.Iterated.{mapped_from_slice}
use Rattle.core_entries.specs.declared.causes.Cause.{Cause}
use Rattle.def_machine.specs.Cascade.{has_number}
use Rattle.audit_replay.specs.Causes.{reader_of, readers_in}
use Rattle.audit_replay.proofs.cascades.is_named.Goals as goal

pub returns : goal.returns
returns c = record {
  named =
      any_from_yields_List (λ k. k == c.args.number) c.any.new.self _ _ c.any.ensures.ran (mapped_from_slice reader_of c.as_slice.result.now cc) (λ x b q k. search (rules, tests))
      ∙ ap (λ (cs : List Cause). has_number (readers_in cs) c.args.number) c.as_slice.ensures.items;
}
