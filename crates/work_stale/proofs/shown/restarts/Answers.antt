use Rattle.std.proofs.Common.{ap, sym, ◌∙◌, ◌==◌, rules, tests}
use Rattle.std.proofs.lemmas.Iterator.Search.{any_from_yields_List}
use Rattle.std.proofs.lemmas.Simd.{map-map}
use Rattle.base_types.proofs.Iterated.{mapped_from_slice}
use Rattle.core_entries.specs.Meanings.{cause_of}
use Rattle.def_machine.specs.Cascade.{has_number}
use Rattle.work_stale.specs.Shown.{reader_in}
use Rattle.work_stale.proofs.shown.restarts.Goals as goal

pub returns : goal.returns
returns c =
    any_from_yields_List (λ i. i == c.args.update) c.any.new.self _ _ c.any.ensures.ran (mapped_from_slice (λ x. reader_in (cause_of x)) c.causes_in.result.now cc) (λ x b q k. search (rules, tests))
    ∙ ap (λ ns. has_number ns c.args.update) (sym (map-map reader_in cause_of c.causes_in.result.now) ∙ c.causes_in.ensures)
