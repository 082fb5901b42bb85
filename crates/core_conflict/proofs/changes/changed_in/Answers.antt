use Rattle.std.proofs.Common.{◌≡◌, ◌∙◌, ◌+◌, ◌++◌, ap, refl, sym, drop, map, arith}
use Rattle.std.specs.Option.{option_map}
use Rattle.std.proofs.lemmas.List.{drop_all}
use Rattle.base_types.specs.Contents.{rules_in}
use Rattle.base_types.specs.Meanings.{change_of, heading_of}
use Rattle.chase_query.specs.Meanings.{reads_in, reads_of}
use Rattle.chase_query.proofs.Entries.{from_here}
use Rattle.core_conflict.specs.Looking.{changed_from}
use Rattle.core_conflict.specs.Meanings.{changed_of}
use Rattle.core_conflict.specs.Trails.{trails_of}
use Rattle.core_conflict.proofs.Firsts.{found_among, no_value, none_among}
use Rattle.core_conflict.proofs.changes.changed_in.Goals as goal

pub entries-init : goal.entries-init
entries-init g c = record { sees = c.requires.sees; first = refl }

pub changed_by-requires : goal.changed_by-requires
changed_by-requires g c = record { sees = c.entries.invariant.sees; fits = (let e = c.in_ok-all.ensures.counted in omega (arith, e)) }

pub returns-in-Some : goal.returns-in-Some
returns-in-Some g c =
    let r = c.args.reader.now in
    let ms = rules_in r.mappings.now in
    let h = heading_of r.direction in
    let D = g.F.Facts.tuples c.args.below.now in
    let own = map change_of r.own.now in
    let ts = trails_of c.args.trails.now in
    let es = c.args.log.now in
    let i = c.entries.entry-index in
    let n = c.entries.number in
    let rs = reads_of c.entry-item.result in
    let all = changed_from r c.args.trails.now D 1 (reads_in es) in
    let here : all ≡ changed_from r c.args.trails.now D (n + 1) (rs ++ reads_in (drop (i + 1) es)) =
    c.entries.invariant.first ∙ ap (changed_from r c.args.trails.now D (n + 1)) (from_here es i c.entry-item.result (omega arith) c.entry-item.is) in
    record {
      first = found_among ms h D own r.sense ts (n + 1) rs (reads_in (drop (i + 1) es)) all (option_map changed_of c.in_ok-found.found) (changed_of c.in-Some.changed) here c.in_ok-found.ensures.first (ap (option_map changed_of) c.in-Some.is);
    }

pub entries-preserved : goal.entries-preserved
entries-preserved g c =
    let r = c.args.reader.now in
    let ms = rules_in r.mappings.now in
    let h = heading_of r.direction in
    let D = g.F.Facts.tuples c.args.below.now in
    let own = map change_of r.own.now in
    let ts = trails_of c.args.trails.now in
    let es = c.args.log.now in
    let i = c.entries.entry-index in
    let n = c.entries.number in
    let rs = reads_of c.entry-item.result in
    let all = changed_from r c.args.trails.now D 1 (reads_in es) in
    let here : all ≡ changed_from r c.args.trails.now D (n + 1) (rs ++ reads_in (drop (i + 1) es)) =
    c.entries.invariant.first ∙ ap (changed_from r c.args.trails.now D (n + 1)) (from_here es i c.entry-item.result (omega arith) c.entry-item.is) in
    record {
      sees = c.in_ok-found.ensures.sees;
      first =
          none_among ms h D own r.sense ts (n + 1) (c.in_ok-all.all + 1) rs (reads_in (drop (i + 1) es)) all (option_map changed_of c.in_ok-found.found) here c.in_ok-found.ensures.first (no_value changed_of c.in_ok-found.found c.in_default.not-Some)
          (let e = c.in_ok-all.ensures.counted in omega (arith, e));
    }

pub returns : goal.returns
returns g c =
    let r = c.args.reader.now in
    let D = g.F.Facts.tuples c.args.below.now in
    let es = c.args.log.now in
    record { first = sym (c.entries.invariant.first ∙ ap (λ ls. changed_from r c.args.trails.now D (c.entries.number + 1) (reads_in ls)) (drop_all c.entries.entry-index es (omega arith))) }
