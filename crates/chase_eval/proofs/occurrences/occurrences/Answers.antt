use Rattle.std.proofs.Common.{◌∙◌, ◌++◌, ap, sym, map, [], ◌∷◌, List, Option, Bor, arith}
use Rattle.std.specs.Option.{option_map, option_copied}
use Rattle.std.proofs.lemmas.List.{map-append, append-nil}
use Rattle.def_chase.specs.Values.{Fact}
use Rattle.def_chase.specs.Queries.{holds_null}
use Rattle.def_chase.proofs.Cursors.{rest_of, begins, fewer_left}
use Rattle.base_types.specs.Meanings.{fact_of}
use Rattle.base_types.specs.declared.tuples.Tuple.{Tuple}
use Rattle.base_types.proofs.Gathering.{none_left}
use Rattle.chase_eval.proofs.Tuples.{next_holding, one_found}
use Rattle.chase_eval.proofs.occurrences.occurrences.Goals as goal

pub loop-cursor-init : goal.loop-cursor-init
loop-cursor-init g c =
    let D = g.F.Facts.tuples c.args.facts.now in
    let q = holds_null c.args.name.update c.args.name.place in
    ap (λ (l : List Tuple). map fact_of l ++ rest_of q D (option_map fact_of (option_copied c.holding-cursor.result))) c.new-found.ensures.empty
    ∙ ap (rest_of q D) c.holding-cursor.ensures.found ∙ begins q D c.holding-cursor.ensures.in_order

pub loop-cursor-smaller : goal.loop-cursor-smaller
loop-cursor-smaller g c =
    let D = g.F.Facts.tuples c.args.facts.now in
    let q = holds_null c.args.name.update c.args.name.place in
    let u = fact_of c.in-Some.tuple.now in
    let at = ap (λ (o : Option (Bor Tuple)). option_map fact_of (option_copied o)) c.in-Some.is in
    let follows = c.holding-cursor-in-Some.ensures.found ∙ next_holding c.args.name.update c.args.name.place u D in
    let e = fewer_left q D (option_map fact_of (option_copied c.loop-cursor.cursor)) u (option_map fact_of (option_copied c.holding-cursor-in-Some.result)) c.holding-cursor-in-Some.ensures.in_order at follows in
    omega (arith, e)

pub loop-cursor-preserved : goal.loop-cursor-preserved
loop-cursor-preserved g c =
    let D = g.F.Facts.tuples c.args.facts.now in
    let q = holds_null c.args.name.update c.args.name.place in
    let u = fact_of c.in-Some.tuple.now in
    let at = ap (λ (o : Option (Bor Tuple)). option_map fact_of (option_copied o)) c.in-Some.is in
    let next = option_map fact_of (option_copied c.holding-cursor-in-Some.result) in
    let old = c.loop-cursor.found.items in
    let follows = c.holding-cursor-in-Some.ensures.found ∙ next_holding c.args.name.update c.args.name.place u D in
    ap (λ (l : List Fact). l ++ rest_of q D next) (ap (map fact_of) c.in_ok-push.ensures.ok ∙ map-append fact_of old (c.in_ok-copy.field-0 ∷ []) ∙ ap (λ (v : Fact). map fact_of old ++ v ∷ []) c.in_ok-copy.ensures.same)
    ∙ one_found q D (map fact_of old) _ (option_map fact_of (option_copied c.loop-cursor.cursor)) u next c.holding-cursor-in-Some.ensures.in_order at follows c.loop-cursor.invariant

pub returns : goal.returns
returns g c =
    let D = g.F.Facts.tuples c.args.facts.now in
    let q = holds_null c.args.name.update c.args.name.place in
    record {
      value = sym (append-nil (map fact_of c.loop-cursor.found.items))
          ∙ ap (λ (o : Option (Bor Tuple)). map fact_of c.loop-cursor.found.items ++ rest_of q D (option_map fact_of (option_copied o))) (sym (none_left c.loop-cursor.cursor c.in_default.not-Some))
          ∙ c.loop-cursor.invariant;
    }
