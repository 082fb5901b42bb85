use Rattle.std.proofs.Common.{◌∙◌, ◌+◌, ap, refl, sym, drop, arith}
use Rattle.std.specs.Prelude.{option_map}
use Rattle.std.proofs.lemmas.List.{drop_all}
use Rattle.base_types.specs.Contents.{rules_in}
use Rattle.chase_query.specs.Meanings.{reads_in, reads_of}
use Rattle.chase_query.proofs.Entries.{from_here}
use Rattle.audit_replay.specs.Causes.{numbered_of}
use Rattle.audit_replay.specs.Changes.{first_after, is_read_met}
use Rattle.audit_replay.proofs.Numbered.{after_none, first_among, first_beyond, no_value}
use Rattle.audit_replay.proofs.losses.Losses.first_met.Goals as goal

pub entries-init : goal.entries-init
entries-init c = refl

pub met_by-requires : goal.met_by-requires
met_by-requires c = record { fits = (let e = c.in_ok-all.ensures.counted in omega (arith, e)) }

pub returns-in-Some : goal.returns-in-Some
returns-in-Some c =
    let p = is_read_met (rules_in c.args.mappings.now) c.args.self.now.relations.items in
    let es = c.args.log.now in
    let i = c.entries.entry-index in
    let n = c.entries.number in
    let rs = reads_of c.entry-item.result in
    let rest = reads_in (drop (i + 1) es) in
    let here = c.entries.invariant ∙ ap (first_after p n) (from_here es i c.entry-item.result (omega arith) c.entry-item.is) in
    record {
      first =
          sym (here ∙ first_among p n rs rest (numbered_of c.in-Some.found) (sym c.in_ok-found.ensures.first ∙ ap (option_map numbered_of) c.in-Some.is))
          ∙ after_none p (reads_in es);
    }

pub entries-preserved : goal.entries-preserved
entries-preserved c =
    let p = is_read_met (rules_in c.args.mappings.now) c.args.self.now.relations.items in
    let es = c.args.log.now in
    let i = c.entries.entry-index in
    let n = c.entries.number in
    let rs = reads_of c.entry-item.result in
    let rest = reads_in (drop (i + 1) es) in
    let here = c.entries.invariant ∙ ap (first_after p n) (from_here es i c.entry-item.result (omega arith) c.entry-item.is) in
    here ∙ first_beyond p n rs rest (sym c.in_ok-found.ensures.first ∙ no_value numbered_of c.in_ok-found.field-0 c.in_default.not-Some) ∙ ap (λ k. first_after p k rest) (sym c.in_ok-all.ensures.counted)

pub returns : goal.returns
returns c =
    let p = is_read_met (rules_in c.args.mappings.now) c.args.self.now.relations.items in
    let es = c.args.log.now in
    record {
      first =
          sym (c.entries.invariant ∙ ap (λ ls. first_after p c.entries.number (reads_in ls)) (drop_all c.entries.entry-index es (omega arith)))
          ∙ after_none p (reads_in es);
    }
