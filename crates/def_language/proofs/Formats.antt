-- A statement after the header leaves the format of the session as it is.
use Rattle.std.proofs.Common.{◌≡◌, ℕ, ℤ, ap, sym, ◌∙◌, [], ◌∷◌, length, not, ◌&&◌}
use Rattle.std.specs.Prelude.{◌+◌, Ok, Option, Some, None, slice_get, nat_le}
use Rattle.def_chase.specs.Values.{Unknown}
use Rattle.def_chase.specs.Repository.{has}
use Rattle.def_language.specs.declared.Which.TheVariants as limit
use Rattle.def_language.specs.Names.{Name, place_of}
use Rattle.def_language.specs.Statements.{WrittenFact, WrittenMapping, WrittenOperation, InsertFact, DeleteFact, ReplaceNull, AddMapping, WrittenChoice, Statement, Header, Relation, Mapping, Base, Update, Answer, End}
use Rattle.def_language.specs.Sessions.{SessionUpdate, SessionData, relation_names, mapping_names, labels, answer_count, most_relations, most_tuples, most_answers}
use Rattle.def_language.specs.Meaning.{nulls_within, bounded_fact, mapping_of}
use Rattle.def_language.specs.Checks.{unused, within, is_arity, add_relation, mappings_full, acyclic, add_mapping, add_tuple, Performed, operation_of, curators_full, add_update, choice_of, answered, add_answer, taken}
use Rattle.def_language.proofs.Bound.{bind_ok, ok_is}
use Rattle.def_language.specs.Inputs.{IsInner}

relation_format : (s t : SessionData) (n : Name) (columns : ℤ) → add_relation s n columns ≡ Ok t → t.format ≡ s.format
unfolding add_relation
relation_format s t n columns e =
    let a = bind_ok (unused (relation_names s.relations) n) _ t e in
    let b = bind_ok (within limit.Arity (not (is_arity columns))) _ t a.2 in
    let c = bind_ok (within limit.Relations (nat_le (most_relations s.format) (length s.relations))) _ t b.2 in
    ap (λ (x : SessionData). x.format) (sym (ok_is _ t c.2))

mapping_format : (s t : SessionData) (since : ℕ) (m : WrittenMapping) → add_mapping s since m ≡ Ok t → t.format ≡ s.format
unfolding add_mapping
mapping_format s t since m e =
    let a = bind_ok (unused (mapping_names s.mappings) m.name) _ t e in
    let b = bind_ok (within limit.Mappings (mappings_full s.mappings since)) _ t a.2 in
    let c = bind_ok (mapping_of s.relations since m) _ t b.2 in
    let d = bind_ok (acyclic s c.0) _ t c.2 in
    ap (λ (x : SessionData). x.format) (sym (ok_is _ t d.2))

tuple_format : (s t : SessionData) (fact : WrittenFact) → add_tuple s fact ≡ Ok t → t.format ≡ s.format
unfolding add_tuple
tuple_format s t fact e =
    let a = bind_ok (bounded_fact s.relations 0 fact) _ t e in
    let b = bind_ok (within limit.Base (not (has s.base a.0) && nat_le (most_tuples s.format) (length s.base))) _ t a.2 in
    ap (λ (x : SessionData). x.format) (sym (ok_is _ t b.2))

operation_format : (s : SessionData) (p : Performed) (w : WrittenOperation) → operation_of s w ≡ Ok p → p.1.format ≡ s.format
unfolding operation_of
operation_format s p (InsertFact fact) e =
    let a = bind_ok (bounded_fact s.relations (length s.updates) fact) _ p e in ap (λ (x : Performed). x.1.format) (sym (ok_is {A = Performed} _ p a.2))
operation_format s p (DeleteFact fact) e =
    let a = bind_ok (bounded_fact s.relations (length s.updates) fact) _ p e in ap (λ (x : Performed). x.1.format) (sym (ok_is {A = Performed} _ p a.2))
operation_format s p (ReplaceNull n d) e =
    let a = bind_ok (nulls_within (length s.updates) (Unknown n ∷ d ∷ [])) _ p e in ap (λ (x : Performed). x.1.format) (sym (ok_is {A = Performed} _ p a.2))
operation_format s p (AddMapping m) e =
    let a = bind_ok (add_mapping s (length s.updates + 1) m) _ p e in
    ap (λ (x : Performed). x.1.format) (sym (ok_is {A = Performed} _ p a.2)) ∙ mapping_format s a.0 (length s.updates + 1) m a.1

update_format : (s t : SessionData) (label curator : Name) (w : WrittenOperation) → add_update s label curator w ≡ Ok t → t.format ≡ s.format
unfolding add_update
update_format s t label curator w e =
    let a = bind_ok (unused (labels s.updates) label) _ t e in
    let b = bind_ok (within limit.Updates (nat_le 1000 (length s.updates))) _ t a.2 in
    let c = bind_ok (within limit.Curators (curators_full s.updates curator)) _ t b.2 in
    let d = bind_ok (operation_of s w) _ t c.2 in
    ap (λ (x : SessionData). x.format) (sym (ok_is _ t d.2)) ∙ operation_format s d.0 w d.1

answered_format : (s t : SessionData) (label : Name) (w : WrittenChoice) (place : ℕ) (u : Option SessionUpdate) → answered s label w place u ≡ Ok t → t.format ≡ s.format
answered_format s t label w place None e = let g : ⊥ = cc in absurd g
answered_format s t label w place (Some u) e =
    let a = bind_ok (within limit.Answers (nat_le (most_answers s.format) (answer_count s.updates))) _ t e in
    let b = bind_ok (choice_of s.relations (place + 1) w) _ t a.2 in
    ap (λ (x : SessionData). x.format) (sym (ok_is _ t b.2))

answer_format : (s t : SessionData) (label : Name) (w : WrittenChoice) → add_answer s label w ≡ Ok t → t.format ≡ s.format
unfolding add_answer
answer_format s t label w e = answered_format s t label w (place_of (labels s.updates) label) (slice_get s.updates (place_of (labels s.updates) label)) e

pub format_kept : (s t : SessionData) (st : Statement) → IsInner st → taken s st ≡ Ok t → t.format ≡ s.format
format_kept s t (Header f) inner e = absurd inner
format_kept s t (Relation n columns) inner e = relation_format s t n columns e
format_kept s t (Mapping m) inner e = mapping_format s t 0 m e
format_kept s t (Base fact) inner e = tuple_format s t fact e
format_kept s t (Update label curator w) inner e = update_format s t label curator w e
format_kept s t (Answer label w) inner e = answer_format s t label w e
format_kept s t End inner e = absurd inner
