use Rattle.std.proofs.Common.{◌≡◌, ◌∙◌, ◌+◌, ◌-◌, ◌∷◌, [], ap, refl, sym, map, arith, ℕ, List}
use Rattle.std.specs.Prelude.{option_map}
use Rattle.base_types.specs.Contents.{rules_in}
use Rattle.base_types.specs.Meanings.{change_of, heading_of}
use Rattle.chase_query.specs.Meanings.{Read, finds_none, passing}
use Rattle.chase_query.proofs.Entries.{passage_ended, passage_from}
use Rattle.audit_replay.specs.Changes.{change_meant, changed_at, first_change_after, is_met_and_changed}
use Rattle.audit_replay.proofs.Numbered.{found_among, no_value, none_among}
use Rattle.audit_replay.proofs.changes.changed_in_passage.Goals as goal

pub loop-mapping-init : goal.loop-mapping-init
loop-mapping-init c = record { counted = omega arith; first = refl }

pub changed_mapping-requires : goal.changed_mapping-requires
changed_mapping-requires c = let e = c.loop-mapping.invariant.counted in let f = c.requires in let l = c.loop-mapping-test.true in record { fits = omega (arith, e, f, l) }

pub returns-in-Some : goal.returns-in-Some
returns-in-Some c =
    let ms = rules_in c.args.reader.now.mappings.now in
    let h = heading_of c.args.reader.now.direction in
    let D = c.args.reader.now.below.now in
    let own = map change_of c.args.reader.now.own.now in
    let p = is_met_and_changed ms c.args.relations.now h D own in
    let f = changed_at ms h D own in
    let passage = c.args.passage.now in
    let k = c.loop-mapping.mapping in
    let n = c.loop-mapping.number in
    let first = (λ (m : ℕ) (rs : List Read). first_change_after m ms c.args.relations.now h D own rs) in
    let all = first c.args.before (passing passage.start (passage.end - passage.start) passage.own) in
    let here : all ≡ first n (finds_none k passage.own ∷ passing (k + 1) (passage.end - (k + 1)) passage.own) = c.loop-mapping.invariant.first ∙ ap (first n) (passage_from k passage.end passage.own c.loop-mapping-test.true) in
    record { first = found_among f p n (finds_none k passage.own ∷ []) (passing (k + 1) (passage.end - (k + 1)) passage.own) all (option_map change_meant c.in_ok-found.found) (change_meant c.in-Some.change) here c.in_ok-found.ensures.first (ap (option_map change_meant) c.in-Some.is) }

pub loop-mapping-preserved : goal.loop-mapping-preserved
loop-mapping-preserved c =
    let ms = rules_in c.args.reader.now.mappings.now in
    let h = heading_of c.args.reader.now.direction in
    let D = c.args.reader.now.below.now in
    let own = map change_of c.args.reader.now.own.now in
    let p = is_met_and_changed ms c.args.relations.now h D own in
    let f = changed_at ms h D own in
    let passage = c.args.passage.now in
    let k = c.loop-mapping.mapping in
    let n = c.loop-mapping.number in
    let first = (λ (m : ℕ) (rs : List Read). first_change_after m ms c.args.relations.now h D own rs) in
    let all = first c.args.before (passing passage.start (passage.end - passage.start) passage.own) in
    let here : all ≡ first n (finds_none k passage.own ∷ passing (k + 1) (passage.end - (k + 1)) passage.own) = c.loop-mapping.invariant.first ∙ ap (first n) (passage_from k passage.end passage.own c.loop-mapping-test.true) in
    record {
      counted = (let e = c.loop-mapping.invariant.counted in let l = c.loop-mapping-test.true in omega (arith, e, l));
      first = none_among f p n (n + 1) (finds_none k passage.own ∷ []) (passing (k + 1) (passage.end - (k + 1)) passage.own) all (option_map change_meant c.in_ok-found.found) here c.in_ok-found.ensures.first (no_value change_meant c.in_ok-found.found c.in_default.not-Some) refl;
    }

pub returns : goal.returns
returns c =
    let ms = rules_in c.args.reader.now.mappings.now in
    let h = heading_of c.args.reader.now.direction in
    let D = c.args.reader.now.below.now in
    let own = map change_of c.args.reader.now.own.now in
    let p = is_met_and_changed ms c.args.relations.now h D own in
    let f = changed_at ms h D own in
    let passage = c.args.passage.now in
    let k = c.loop-mapping.mapping in
    let first = (λ (m : ℕ) (rs : List Read). first_change_after m ms c.args.relations.now h D own rs) in
    record { first = sym (c.loop-mapping.invariant.first ∙ ap (first c.loop-mapping.number) (passage_ended k passage.end passage.own (omega (arith, c.loop-mapping-test.false)))) }
