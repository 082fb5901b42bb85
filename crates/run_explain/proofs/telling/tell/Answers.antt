use Rattle.std.proofs.Common.{◌∙◌, ◌++◌, ap, sym, subst, map, not, filter, List}
use Rattle.std.proofs.lemmas.List.{map_push}
use Rattle.base_types.specs.Meanings.{fact_of}
use Rattle.def_chase.specs.Values.{Fact}
use Rattle.def_chase.specs.Repository.{Insert, IsRepository, apply, has}
use Rattle.def_chase.proofs.Sets.{apply_in_order, filter_in_order}
use Rattle.def_provenance.specs.Notes.{reason_by}
use Rattle.run_note.specs.Meanings.{note_of}
use Rattle.run_explain.specs.ReasonMeanings.{reason_of}
use Rattle.run_explain.proofs.ReasonsTold.{resting, sought_step, told_step}
use Rattle.run_explain.proofs.telling.tell.Goals as goal

pub loop-tuple-preserved : goal.loop-tuple-preserved
loop-tuple-preserved c =
    let n = note_of c.args.note.now in
    let S = filter (λ s. not (has (map fact_of c.args.note.now.puts.items) s)) c.args.sought.now in
    let ts = map fact_of c.loop-tuple.yielded in
    let t = fact_of c.in-Some.tuple in
    let push = sym (map_push fact_of c.loop-tuple.yielded c.in-Some.tuple) in
    record {
      told =
          told_step n (map reason_of c.args.reasons.now.items) (map reason_of c.loop-tuple.reasons.items) (map reason_of c.tell_one.new.reasons.items) ts t
          c.loop-tuple.invariant.told c.in_ok-tell_one.ensures.told
          ∙ ap (λ (us : List Fact). map reason_of c.args.reasons.now.items ++ map (reason_by n) us) push;
      sought =
          sought_step n S ts c.loop-tuple.sought c.tell_one.new.sought t
          c.loop-tuple.invariant.sought c.in_ok-tell_one.ensures.sought
          ∙ ap (λ (us : List Fact). apply S (map Insert (resting (map (reason_by n) us)))) push;
    }

pub returns-clause-sorted : goal.returns-clause-sorted
returns-clause-sorted c =
    let n = note_of c.args.note.now in
    let put = λ (s : Fact). not (has (map fact_of c.args.note.now.puts.items) s) in
    subst IsRepository (sym c.loop-tuple.invariant.sought)
    (apply_in_order (filter put c.args.sought.now) (map Insert (resting (map (reason_by n) (map fact_of c.loop-tuple.yielded)))) (filter_in_order put c.args.sought.now c.requires.sorted))
