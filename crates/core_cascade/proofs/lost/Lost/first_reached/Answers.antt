use Rattle.std.proofs.Common.{◌≡◌, ◌∙◌, ◌+◌, ◌++◌, ap, refl, sym, drop, arith}
use Rattle.std.specs.Option.{option_map}
use Rattle.std.proofs.lemmas.List.{drop_all}
use Rattle.base_types.specs.Contents.{rules_in}
use Rattle.core_conflict.specs.Changes.{first_from}
use Rattle.core_conflict.specs.Trails.{trails_of}
use Rattle.core_conflict.proofs.Firsts.{no_value}
use Rattle.chase_query.specs.Meanings.{reads_in, reads_of}
use Rattle.chase_query.proofs.Entries.{from_here}
use Rattle.core_cascade.specs.Reached.{any_reached, numbered_of}
use Rattle.core_cascade.proofs.Firsts.{found_among, none_among}
use Rattle.core_cascade.proofs.lost.Lost.first_reached.Goals as goal

pub loop-entry-init : goal.loop-entry-init
loop-entry-init c = refl

pub reached_by-requires : goal.reached_by-requires
reached_by-requires c = record { fits = (let e = c.in_ok-all.ensures.counted in omega (arith, e)) }

pub returns-in-Some : goal.returns-in-Some
returns-in-Some c =
    let p = any_reached (rules_in c.args.mappings.now) (trails_of c.args.self.now.members.items) in
    let es = c.args.log.now in
    let i = c.loop-entry.entry-index in
    let n = c.loop-entry.number in
    let rs = reads_of c.entry-item.result in
    let all = first_from p 1 (reads_in es) in
    let here : all ≡ first_from p (n + 1) (rs ++ reads_in (drop (i + 1) es)) = c.loop-entry.invariant ∙ ap (first_from p (n + 1)) (from_here es i c.entry-item.result (omega arith) c.entry-item.is) in
    record { first = found_among p (n + 1) rs (reads_in (drop (i + 1) es)) all (option_map numbered_of c.in_ok-found.field-0) (numbered_of c.in-Some.found) here c.in_ok-found.ensures.first (ap (option_map numbered_of) c.in-Some.is) }

pub loop-entry-preserved : goal.loop-entry-preserved
loop-entry-preserved c =
    let p = any_reached (rules_in c.args.mappings.now) (trails_of c.args.self.now.members.items) in
    let es = c.args.log.now in
    let i = c.loop-entry.entry-index in
    let n = c.loop-entry.number in
    let rs = reads_of c.entry-item.result in
    let all = first_from p 1 (reads_in es) in
    let here : all ≡ first_from p (n + 1) (rs ++ reads_in (drop (i + 1) es)) = c.loop-entry.invariant ∙ ap (first_from p (n + 1)) (from_here es i c.entry-item.result (omega arith) c.entry-item.is) in
    none_among p (n + 1) (c.in_ok-all.all + 1) rs (reads_in (drop (i + 1) es)) all (option_map numbered_of c.in_ok-found.field-0) here c.in_ok-found.ensures.first (no_value numbered_of c.in_ok-found.field-0 c.in_default.not-Some)
    (let e = c.in_ok-all.ensures.counted in omega (arith, e))

pub returns : goal.returns
returns c =
    let p = any_reached (rules_in c.args.mappings.now) (trails_of c.args.self.now.members.items) in
    record { first = sym (c.loop-entry.invariant ∙ ap (λ ls. first_from p (c.loop-entry.number + 1) (reads_in ls)) (drop_all c.loop-entry.entry-index c.args.log.now (omega arith))) }
