use Rattle.std.proofs.Common.{◌∙◌, refl}
use Rattle.std.proofs.lemmas.Bool.{ne_eqb, eq-eqb}
use Rattle.lang_schema.proofs.Eached.{same_bytes}
use Rattle.lang_schema.proofs.Known.{unknown_name, unknown_number, known_relation}
use Rattle.lang_schema.proofs.schema.Schema.relation_of.Goals as goal

pub returns-in_default : goal.returns-in_default
returns-in_default c = rw (same_bytes c.in_ok-copy.field-0.items c.args.name.now.items c.in_ok-copy.ensures.same) (unknown_name c.args.self.now c.args.name.now.items c.args.columns (rw c.in_default.is at c.find.ensures.place))

pub returns-in_default-arity : goal.returns-in_default-arity
returns-in_default-arity c = rw (same_bytes c.in_ok-copy-2.field-0.items c.args.name.now.items c.in_ok-copy-2.ensures.same) (unknown_number c.args.self.now c.args.name.now.items c.args.columns c.in-Some.relation c.in-Some.ensures.place (rw c.in_default-arity.is at c.arity.ensures.arity))

pub returns-then-expected-columns : goal.returns-then-expected-columns
returns-then-expected-columns c = known_relation c.args.self.now c.args.name.now.items c.args.columns c.in-Some.relation c.in-Some-arity.expected c.in-Some.ensures.place c.in-Some-arity.ensures.arity ∙ rw (eq-eqb _ _ c.if-expected-columns.true) refl

pub returns : goal.returns
returns c = rw (same_bytes c.in_ok-copy-3.field-0.items c.args.name.now.items c.in_ok-copy-3.ensures.same) (known_relation c.args.self.now c.args.name.now.items c.args.columns c.in-Some.relation c.in-Some-arity.expected c.in-Some.ensures.place c.in-Some-arity.ensures.arity ∙ rw (ne_eqb _ _ c.if-expected-columns.false) refl)
