use Rattle.std.proofs.Common.{ap, sym, ◌∙◌, map, rules, tests}
use Rattle.std.specs.List.{list_any}
use Rattle.std.proofs.lemmas.Iterator.Search.{any_from_yields_List}
use Rattle.std.proofs.lemmas.Simd.{map-map}
use Rattle.base_types.proofs.Iterated.{mapped_from_slice}
use Rattle.core_entries.specs.Meanings.{entry_of, cause_of}
use Rattle.work_stale.specs.Shown.{reader_in}
use Rattle.work_stale.specs.Stale.{mentioned_by, shows_below}
use Rattle.work_stale.proofs.stale.restarts_below.Goals as goal

pub returns : goal.returns
returns c =
    any_from_yields_List (shows_below (mentioned_by c.args.mappings.now c.args.reads.now) c.args.update (map entry_of c.args.before.now)) c.any.new.self _ _ c.any.ensures.ran
    (mapped_from_slice (λ x. reader_in (cause_of x)) c.causes_in.result.now cc) (λ x b q k. search (rules, tests))
    ∙ ap (λ ns. list_any (shows_below (mentioned_by c.args.mappings.now c.args.reads.now) c.args.update (map entry_of c.args.before.now)) ns) (sym (map-map reader_in cause_of c.causes_in.result.now) ∙ c.causes_in.ensures)
