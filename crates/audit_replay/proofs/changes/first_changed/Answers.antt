use Rattle.std.proofs.Common.{◌≡◌, ◌∙◌, ◌+◌, ◌++◌, ap, refl, sym, drop, map, arith}
use Rattle.std.specs.Prelude.{option_map}
use Rattle.std.proofs.lemmas.List.{drop_all}
use Rattle.base_types.specs.Contents.{rules_in}
use Rattle.base_types.specs.Meanings.{change_of, heading_of}
use Rattle.chase_query.specs.Meanings.{reads_in, reads_of}
use Rattle.chase_query.proofs.Entries.{from_here}
use Rattle.audit_replay.specs.Changes.{change_meant, changed_at, first_after, is_met_and_changed}
use Rattle.audit_replay.proofs.Numbered.{after_none, found_among, no_value, none_among}
use Rattle.audit_replay.proofs.changes.first_changed.Goals as goal

pub entries-init : goal.entries-init
entries-init c = refl

pub changed_by-requires : goal.changed_by-requires
changed_by-requires c = record { fits = (let e = c.in_ok-all.ensures.counted in omega (arith, e)) }

pub returns-in-Some : goal.returns-in-Some
returns-in-Some c =
    let ms = rules_in c.args.reader.now.mappings.now in
    let h = heading_of c.args.reader.now.direction in
    let D = c.args.reader.now.below.now in
    let own = map change_of c.args.reader.now.own.now in
    let p = is_met_and_changed ms c.args.relations.now h D own in
    let f = changed_at ms h D own in
    let es = c.args.log.now in
    let i = c.entries.entry-index in
    let n = c.entries.number in
    let rs = reads_of c.entry-item.result in
    let rest = reads_in (drop (i + 1) es) in
    let all = option_map f (first_after p 0 (reads_in es)) in
    let here : all ≡ option_map f (first_after p n (rs ++ rest)) = c.entries.invariant ∙ ap (λ qs. option_map f (first_after p n qs)) (from_here es i c.entry-item.result (omega arith) c.entry-item.is) in
    record {
      first =
          found_among f p n rs rest all (option_map change_meant c.in_ok-found.found) (change_meant c.in-Some.change) here c.in_ok-found.ensures.first (ap (option_map change_meant) c.in-Some.is)
          ∙ ap (option_map f) (after_none p (reads_in es));
    }

pub entries-preserved : goal.entries-preserved
entries-preserved c =
    let ms = rules_in c.args.reader.now.mappings.now in
    let h = heading_of c.args.reader.now.direction in
    let D = c.args.reader.now.below.now in
    let own = map change_of c.args.reader.now.own.now in
    let p = is_met_and_changed ms c.args.relations.now h D own in
    let f = changed_at ms h D own in
    let es = c.args.log.now in
    let i = c.entries.entry-index in
    let n = c.entries.number in
    let rs = reads_of c.entry-item.result in
    let rest = reads_in (drop (i + 1) es) in
    let all = option_map f (first_after p 0 (reads_in es)) in
    let here : all ≡ option_map f (first_after p n (rs ++ rest)) = c.entries.invariant ∙ ap (λ qs. option_map f (first_after p n qs)) (from_here es i c.entry-item.result (omega arith) c.entry-item.is) in
    none_among f p n c.in_ok-all.all rs rest all (option_map change_meant c.in_ok-found.found) here c.in_ok-found.ensures.first (no_value change_meant c.in_ok-found.found c.in_default.not-Some) c.in_ok-all.ensures.counted

pub returns : goal.returns
returns c =
    let ms = rules_in c.args.reader.now.mappings.now in
    let h = heading_of c.args.reader.now.direction in
    let D = c.args.reader.now.below.now in
    let own = map change_of c.args.reader.now.own.now in
    let p = is_met_and_changed ms c.args.relations.now h D own in
    let f = changed_at ms h D own in
    let es = c.args.log.now in
    record {
      first =
          sym (c.entries.invariant ∙ ap (λ ls. option_map f (first_after p c.entries.number (reads_in ls))) (drop_all c.entries.entry-index es (omega arith)))
          ∙ ap (option_map f) (after_none p (reads_in es));
    }
