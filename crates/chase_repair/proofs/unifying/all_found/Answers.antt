use Rattle.std.proofs.Common.{◌≡◌, ◌∙◌, ◌+◌, ◌++◌, ap, sym, map, take, List}
use Rattle.std.proofs.lemmas.List.{take_all}
use Rattle.std.proofs.lemmas.Result.{IfOk-weaker}
use Rattle.std.specs.List.{flat_map}
use Rattle.def_chase.specs.Values.{Fact}
use Rattle.def_chase.specs.Repository.{apply, Insert}
use Rattle.base_types.specs.Listed.{Listed}
use Rattle.base_types.specs.declared.tuples.Tuple.{Tuple}
use Rattle.base_types.specs.Meanings.{fact_of}
use Rattle.chase_repair.proofs.Sets.{all_more, lists_more}
use Rattle.chase_repair.proofs.unifying.all_found.Goals as goal

-- The tuples of an answer.
abbrev pub facts : Listed Tuple → List Fact
facts a = map fact_of a.items

pub loop-tuples-preserved : goal.loop-tuples-preserved
loop-tuples-preserved c =
    let as' = c.as_slice-tuples-items.result.now in
    let i = c.loop-tuples.tuples-index in
    all_more (map fact_of c.loop-tuples.set.keys) (map fact_of c.put_copies.new.set.keys) (flat_map facts (take i as')) (facts c.tuples-item.result) (flat_map facts (take (i + 1) as'))
    c.loop-tuples.invariant (c.in_ok-put_copies.ensures.ok ∙ ap (λ (ts : List Tuple). apply (map fact_of c.loop-tuples.set.keys) (map Insert (map fact_of ts))) c.as_slice.ensures.items)
    (lists_more facts as' i c.tuples-item.result c.loop-tuples-test.true c.tuples-item.is)

pub returns : goal.returns
returns c = record {
  value =
      let as' = c.as_slice-tuples-items.result.now in
      let i = c.loop-tuples.tuples-index in
      let all : take i as' ≡ c.args.gathering.now.found.items = take_all i as' c.loop-tuples-test.false ∙ c.as_slice-tuples-items.ensures.items in
      IfOk-weaker c.listed.result _ _
      (λ list h.
      ap (map fact_of) h
      ∙ all_more (map fact_of c.loop-tuples.set.keys) (map fact_of c.put_copies-2.new.set.keys) (flat_map facts (take i as')) (map fact_of c.args.last.now) (flat_map facts c.args.gathering.now.found.items ++ map fact_of c.args.last.now)
      c.loop-tuples.invariant c.in_ok-put_copies-2.ensures.ok (ap (λ (ls : List (Listed Tuple)). flat_map facts ls ++ map fact_of c.args.last.now) (sym all)))
      c.listed.ensures.items;
}
