use Rattle.std.proofs.Common.{◌∙◌, ◌+◌, ◌-◌, ◌∷◌, [], ap, refl, sym, arith}
use Rattle.std.specs.Prelude.{option_map}
use Rattle.base_types.specs.Contents.{rules_in}
use Rattle.chase_query.specs.Meanings.{finds_none, passing}
use Rattle.chase_query.proofs.Entries.{passage_ended, passage_from}
use Rattle.audit_replay.specs.Causes.{numbered_of}
use Rattle.audit_replay.specs.Changes.{first_after, is_read_met}
use Rattle.audit_replay.proofs.Numbered.{first_among, first_beyond, no_value}
use Rattle.audit_replay.proofs.losses.Losses.met_in_passage.Goals as goal

pub loop-mapping-init : goal.loop-mapping-init
loop-mapping-init c = record { counted = omega arith; first = refl }

pub met_mapping-requires : goal.met_mapping-requires
met_mapping-requires c = let e = c.loop-mapping.invariant.counted in let f = c.requires in let l = c.loop-mapping-test.true in record { fits = omega (arith, e, f, l) }

pub returns-in-Some : goal.returns-in-Some
returns-in-Some c =
    let p = is_read_met (rules_in c.args.mappings.now) c.args.self.now.relations.items in
    let passage = c.args.passage.now in
    let k = c.loop-mapping.mapping in
    let n = c.loop-mapping.number in
    let rest = passing (k + 1) (passage.end - (k + 1)) passage.own in
    let here = c.loop-mapping.invariant.first ∙ ap (first_after p n) (passage_from k passage.end passage.own c.loop-mapping-test.true) in
    record { first = sym (here ∙ first_among p n (finds_none k passage.own ∷ []) rest (numbered_of c.in-Some.found) (sym c.in_ok-found.ensures.first ∙ ap (option_map numbered_of) c.in-Some.is)) }

pub loop-mapping-preserved : goal.loop-mapping-preserved
loop-mapping-preserved c =
    let p = is_read_met (rules_in c.args.mappings.now) c.args.self.now.relations.items in
    let passage = c.args.passage.now in
    let k = c.loop-mapping.mapping in
    let n = c.loop-mapping.number in
    let rest = passing (k + 1) (passage.end - (k + 1)) passage.own in
    let here = c.loop-mapping.invariant.first ∙ ap (first_after p n) (passage_from k passage.end passage.own c.loop-mapping-test.true) in
    record {
      counted = (let e = c.loop-mapping.invariant.counted in let l = c.loop-mapping-test.true in omega (arith, e, l));
      first = here ∙ first_beyond p n (finds_none k passage.own ∷ []) rest (sym c.in_ok-found.ensures.first ∙ no_value numbered_of c.in_ok-found.found c.in_default.not-Some);
    }

pub returns : goal.returns
returns c =
    let p = is_read_met (rules_in c.args.mappings.now) c.args.self.now.relations.items in
    let passage = c.args.passage.now in
    let k = c.loop-mapping.mapping in
    record { first = sym (c.loop-mapping.invariant.first ∙ ap (first_after p c.loop-mapping.number) (passage_ended k passage.end passage.own (omega (arith, c.loop-mapping-test.false)))) }
