use Rattle.std.proofs.Common.{◌∙◌, ap, map, subst}
use Rattle.std.specs.Prelude.{Result}
use Rattle.def_chase.specs.Mappings.{Pattern}
use Rattle.def_language.specs.Faults.{Kind}
use Rattle.def_language.specs.Names.{Name, place_of}
use Rattle.lang_schema.specs.Answers.{Refuses as RefusesAtoms}
use Rattle.lang_schema.specs.Meanings.{atom_of}
use Rattle.lang_schema.specs.Relations.{numbered_atoms}
use Rattle.run_ask.specs.Asks.{query_of}
use Rattle.run_ask.specs.Bound.{Refuses, bound_ask, written_of}
use Rattle.run_ask.proofs.Numbered.{refused_by_atoms, ask_refused, ask_bound, ask_safe}
use Rattle.run_ask.specs.declared.refusals.AskRefusal.{AskRefusal}
use Rattle.run_ask.proofs.binding.bind_ask.Goals as goal

pub of_query-requires : goal.of_query-requires
of_query-requires c =
    refused_by_atoms c.in-Err.refusal c.args.schema.now (map atom_of c.args.raw.now.body.items)
    (rw c.as_slice.ensures.items at c.in-Err.ensures.numbered)

pub returns-in_ok-head-in-Ok-clause-bound : goal.returns-in_ok-head-in-Ok-clause-bound
returns-in_ok-head-in-Ok-clause-bound c =
    ask_bound c.args.schema.now (written_of c.args.raw.now) (query_of (record { head = c.in_ok-head-in-Ok.head; body = c.in-Ok.body })) c.in-Ok.variables.items
    (rw c.as_slice.ensures.items at c.in-Ok.ensures.numbered)
    (c.in_ok-head-in-Ok.ensures ∙ ap (λ names. map (place_of c.in-Ok.variables.items) (map (λ n. n.items) names)) c.as_slice-in-Ok.ensures.items)

pub returns-in_ok-head-in-Ok-clause-safe : goal.returns-in_ok-head-in-Ok-clause-safe
returns-in_ok-head-in-Ok-clause-safe c =
    ask_safe c.args.schema.now (written_of c.args.raw.now) (query_of (record { head = c.in_ok-head-in-Ok.head; body = c.in-Ok.body })) c.in-Ok.variables.items
    (rw c.as_slice.ensures.items at c.in-Ok.ensures.numbered)
    (c.in_ok-head-in-Ok.ensures ∙ ap (λ names. map (place_of c.in-Ok.variables.items) (map (λ n. n.items) names)) c.as_slice-in-Ok.ensures.items)
    c.requires.spelled

pub returns-in-Err-clause-bound : goal.returns-in-Err-clause-bound
returns-in-Err-clause-bound c =
    rw c.of_query.ensures (ask_refused c.in-Err.refusal c.args.schema.now (written_of c.args.raw.now) (rw c.as_slice.ensures.items at c.in-Err.ensures.numbered))
