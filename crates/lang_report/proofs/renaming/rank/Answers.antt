use Rattle.std.proofs.Common.{◌∙◌, Bool, rules}
use Rattle.std.specs.Cmp.{on_total}
use Rattle.std.specs.Ordering.{is_lt, on}
use Rattle.std.proofs.lemmas.List.Sorted.{IsPartitionPoint-from_clause}
use Rattle.def_chase.specs.Values.{null_cmp}
use Rattle.def_chase.proofs.Order.{null_total}
use Rattle.base_types.specs.Meanings.{null_of}
use Rattle.base_types.specs.declared.nulls.Null.{Null}
use Rattle.lang_report.proofs.Ranks.{below_in_front, count_in_front, count_meant}
use Rattle.lang_report.proofs.renaming.rank.Goals as goal

pub returns : goal.returns
returns c =
    let nulls = c.args.nulls.now in
    let below : Null → Bool = λ m. is_lt (on null_of null_cmp m c.args.null) in
    count_in_front below nulls c.partition_point.result c.partition_point.ensures.bound
    (IsPartitionPoint-from_clause below nulls c.partition_point.result c.partition_point.ensures.partitioned
    (below_in_front (on null_of null_cmp) (on_total null_of null_total) nulls c.args.null c.requires) (λ a r f called. search rules))
    ∙ count_meant null_of (λ m. is_lt (null_cmp m (null_of c.args.null))) nulls
