use Rattle.std.proofs.Common.{◌∙◌, nat_eq, sym, refl}
use Rattle.std.specs.Cmp.Lexicographic.{pointwise}
use Rattle.lang_schema.proofs.Named.{found_name, taken_name, no_arity, no_room, room, added}
use Rattle.lang_schema.proofs.schema.Schema.relation.Goals as goal

pub returns-then-is_some-clause-checked : goal.returns-then-is_some-clause-checked
returns-then-is_some-clause-checked c =
    taken_name c.args.self.now c.args.name.items c.args.arity (found_name c.args.self.now c.args.name.items c.find.result c.is_some.result c.find.ensures.place c.is_some.ensures ∙ c.if-is_some.true)

pub returns-then-not-is_arity-clause-checked : goal.returns-then-not-is_arity-clause-checked
returns-then-not-is_arity-clause-checked c =
    no_arity c.args.self.now c.args.name.items c.args.arity (found_name c.args.self.now c.args.name.items c.find.result c.is_some.result c.find.ensures.place c.is_some.ensures ∙ c.if-is_some.false)
    (sym c.is_arity.ensures ∙ c.if-not-is_arity.true)

pub returns-then-number-ge128-clause-checked : goal.returns-then-number-ge128-clause-checked
returns-then-number-ge128-clause-checked c =
    no_room c.args.self.now c.args.name.items c.args.arity (found_name c.args.self.now c.args.name.items c.find.result c.is_some.result c.find.ensures.place c.is_some.ensures ∙ c.if-is_some.false)
    (sym c.is_arity.ensures ∙ c.if-not-is_arity.false) (rw (← c.len-number.ensures.length) c.if-number-ge128.true)

pub returns-clause-checked : goal.returns-clause-checked
returns-clause-checked c =
    let new = found_name c.args.self.now c.args.name.items c.find.result c.is_some.result c.find.ensures.place c.is_some.ensures ∙ c.if-is_some.false in
    let fits = room c.args.self.now c.args.name.items c.args.arity new (sym c.is_arity.ensures ∙ c.if-not-is_arity.false) (rw (← c.len-number.ensures.length) c.if-number-ge128.false) in
    let last = added (λ k. k.items) (λ a b. pointwise nat_eq a.items b.items) (λ a b. refl) c.self.inside.relations.entries c.into_vec.result c.args.arity (rw (c.into_vec.ensures.same, c.self.view_is) new) in
    rw (c.in_ok-insert.ensures.entries, last, c.into_vec.ensures.same, c.self.view_is) fits
