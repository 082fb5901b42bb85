-- Atoms with numbers in place of names: their faults, and where their variables stand.
use Rattle.std.proofs.Common.{◌≡◌, ◌∙◌, ℕ, ap, refl, sym, List, [], ◌∷◌, map, length, Bool, true, false, ◌||◌, ◌&&◌, cond, inl, inr}
use Rattle.std.specs.Prelude.{Result, Ok, Err, ◌==◌, Option, Some, None, slice_get}
use Rattle.std.specs.List.{list_any, list_all}
use Rattle.std.proofs.lemmas.Bool.{and_parts, or_cases, eq-eqb}
use Rattle.std.proofs.lemmas.Bool.Decides.{Decides-eqb}
use Rattle.std.proofs.lemmas.Slice.Eq.{slice_eq-Decides}
use Rattle.def_chase.specs.Mappings.{Slot, Pattern}
use Rattle.def_chase.specs.Laws.{stands_in_slot}
use Rattle.def_chase.specs.Laws as model
use Rattle.def_chase.proofs.Bools.{differ, both, or_left, or_right}
use Rattle.def_language.specs.Faults.{Kind, UnknownRelation, Arity}
use Rattle.def_language.specs.Names.{Name, same_name, place_of, firsts}
use Rattle.def_language.specs.Reading.{◌>>=◌, each}
use Rattle.def_language.specs.Sessions.{RelationSchema, relation_names}
use Rattle.def_language.specs.Statements.{WrittenTerm, Variable, Constant, WrittenAtom}
use Rattle.def_language.specs.Meaning.{fitted, relation_of, slot_of, pattern_of, variables_in}
use Rattle.lang_schema.specs.declared.refusals.SchemaRefusal.{SchemaRefusal}
use Rattle.lang_schema.specs.declared.refusals.SchemaRefusal.TheVariants as schema
use Rattle.lang_schema.specs.Answers.{Refuses as RefusesAtoms}
use Rattle.lang_schema.specs.Relations.{numbered_atoms}
use Rattle.run_ask.specs.Certain.{ConjunctiveQuery}
use Rattle.run_ask.specs.Naive.{IsSafe}
use Rattle.run_ask.specs.Written.{WrittenAsk, is_few, is_variable, stands_in_atom, stands_in, is_ask}
use Rattle.run_ask.specs.Bound.{bound_ask, IsOfAtoms, of_query, Refuses}

-- ---- faults

-- A fault of atoms by themselves.
abbrev IsAtomFault : Kind → Type 0
IsAtomFault (UnknownRelation n) = Unit {0}
IsAtomFault (Arity n columns count) = Unit {0}
IsAtomFault _ = ⊥

abbrev HasAtomFault : {A : Type 0} → Result A Kind → Type 0
HasAtomFault (Ok x) = Unit {0}
HasAtomFault (Err k) = IsAtomFault k

then_fault : {A B : Type 0} (r : Result A Kind) (f : A → Result B Kind) → HasAtomFault r → ((x : A) → HasAtomFault (f x)) → HasAtomFault (r >>= f)
then_fault (Ok x) f h g = g x
then_fault (Err k) f h g = h

relation_fault : (rs : List RelationSchema) (n : Name) (columns : ℕ) → HasAtomFault (relation_of rs n columns)
unfolding relation_of
relation_fault rs n columns = by (slice_get rs (place_of (relation_names rs) n))
  where
    by : (o : Option RelationSchema) → HasAtomFault (fitted n columns (place_of (relation_names rs) n) o)
    by None = tt
    by (Some r) = fits (r.arity == columns)
      where
        fits : (b : Bool) → HasAtomFault (cond b (Ok (place_of (relation_names rs) n)) (Err (Arity n r.arity columns)))
        fits true = tt
        fits false = tt

atom_fault : (rs : List RelationSchema) (vs : List Name) (a : WrittenAtom) → HasAtomFault (pattern_of rs vs a)
unfolding pattern_of
atom_fault rs vs a = then_fault (relation_of rs a.relation (length a.terms)) _ (relation_fault rs a.relation (length a.terms)) (λ r. tt)

atoms_fault : (rs : List RelationSchema) (vs : List Name) (atoms : List WrittenAtom) → HasAtomFault (each (pattern_of rs vs) atoms)
unfolding each
atoms_fault rs vs [] = tt
atoms_fault rs vs (a ∷ atoms) = then_fault (pattern_of rs vs a) _ (atom_fault rs vs a) (λ p. then_fault (each (pattern_of rs vs) atoms) _ (atoms_fault rs vs atoms) (λ ps. tt))

numbered_fault : (rs : List RelationSchema) (atoms : List WrittenAtom) → HasAtomFault (numbered_atoms rs atoms)
unfolding numbered_atoms
numbered_fault rs atoms = then_fault (each (pattern_of rs (firsts same_name (variables_in atoms))) atoms) _ (atoms_fault rs (firsts same_name (variables_in atoms)) atoms) (λ ps. tt)

-- What refuses atoms by themselves is a refusal of such.
pub refused_by_atoms : (e : SchemaRefusal) (rs : List RelationSchema) (atoms : List WrittenAtom) → RefusesAtoms e (numbered_atoms rs atoms) → IsOfAtoms e
refused_by_atoms e rs atoms h = by e (numbered_atoms rs atoms) (numbered_fault rs atoms) h
  where
    by : {A : Type 0} (e : SchemaRefusal) (r : Result A Kind) → HasAtomFault r → RefusesAtoms e r → IsOfAtoms e
    by (schema.UnknownRelation n) r f g = tt
    by (schema.Arity n columns count) r f g = tt
    by schema.EmptySide r f g = rw g at f
    by schema.TooManyAtoms r f g = rw g at f
    by (schema.DuplicateName n) r f g = rw g at f
    by (schema.Limit which) r f g = rw g at f
    by schema.Memory r f g = tt

-- The query is refused as its atoms are.
pub ask_refused : (e : SchemaRefusal) (rs : List RelationSchema) (q : WrittenAsk) → RefusesAtoms e (numbered_atoms rs q.body) → Refuses (of_query e) (bound_ask rs q)
unfolding bound_ask
ask_refused (schema.UnknownRelation n) rs q h = rw h refl
ask_refused (schema.Arity n columns count) rs q h = rw h refl
ask_refused schema.EmptySide rs q h = tt
ask_refused schema.TooManyAtoms rs q h = tt
ask_refused (schema.DuplicateName n) rs q h = tt
ask_refused (schema.Limit which) rs q h = tt
ask_refused schema.Memory rs q h = tt

-- ---- where variables stand

term_stands : (vs : List Name) (n : Name) (t : WrittenTerm) → is_variable n t ≡ true → stands_in_slot (place_of vs n) (slot_of vs t) ≡ true
term_stands vs n (Variable m) e =
    let same : n ≡ m = (slice_eq-Decides Decides-eqb n m (same_name n m) refl).0 e in
    eq-eqb (place_of vs m) (place_of vs n) (ap (place_of vs) (sym same))
term_stands vs n (Constant d) e = differ e

terms_stand : (vs : List Name) (n : Name) (ts : List WrittenTerm) → list_any (is_variable n) ts ≡ true → list_any (stands_in_slot (place_of vs n)) (map (slot_of vs) ts) ≡ true
terms_stand vs n [] e = differ e
terms_stand vs n (t ∷ ts) e =
    elim (or_cases (is_variable n t) (list_any (is_variable n) ts) e) [
      | inl h ↦ or_left (stands_in_slot (place_of vs n) (slot_of vs t)) (list_any (stands_in_slot (place_of vs n)) (map (slot_of vs) ts)) (term_stands vs n t h)
      | inr h ↦ or_right (stands_in_slot (place_of vs n) (slot_of vs t)) (list_any (stands_in_slot (place_of vs n)) (map (slot_of vs) ts)) (terms_stand vs n ts h)
    ]

abbrev SameOk : {A : Type 0} → A → A → Type 0
SameOk {A} x y = let f : A → Result A Kind = λ z. Ok z in f x ≡ f y

abbrev pub Both : List Pattern × List Name → List Pattern × List Name
Both x = x

abbrev pub Numbers : List Pattern × List Name → Result (List Pattern × List Name) Kind
Numbers x = Ok x

-- What came first and what came then.
record Bound {A B : Type 0} (r : Result A Kind) (f : A → Result B Kind) (y : B) : Type 0 where
  first : A
  was : r ≡ Ok first
  gave : f first ≡ Ok y

bound_by : {A B : Type 0} (r : Result A Kind) (f : A → Result B Kind) (y : B) → (r >>= f) ≡ Ok y → Bound r f y
bound_by (Ok x) f y e = record { first = x; was = refl; gave = e }
bound_by (Err k) f y e = let g : ⊥ = cc in absurd g

first_of : {A : Type 0} (x y : A) → SameOk x y → x ≡ y
first_of x y e = cc

any_next : (v : ℕ) (p p' : Pattern) (ps ps' : List Pattern) (all : List Pattern) → p' ≡ p → p' ∷ ps' ≡ all → ps' ≡ ps → model.stands_in v (p ∷ ps) ≡ true → model.stands_in v all ≡ true
any_next v p p' ps ps' all e f g h = sym (ap (model.stands_in v) f) ∙ (λ i. model.stands_in v (e i ∷ g i)) ∙ h

atoms_stand : (rs : List RelationSchema) (vs : List Name) (n : Name) (atoms : List WrittenAtom) (ps : List Pattern) → each (pattern_of rs vs) atoms ≡ Ok ps → stands_in atoms n ≡ true → model.stands_in (place_of vs n) ps ≡ true
unfolding each pattern_of
atoms_stand rs vs n [] ps e h = differ h
atoms_stand rs vs n (a ∷ atoms) ps e h =
    let b = bound_by (pattern_of rs vs a) (λ y. each (pattern_of rs vs) atoms >>= (λ ys. Ok (y ∷ ys))) ps e in
    let c = bound_by (relation_of rs a.relation (length a.terms)) (λ r. Ok (record { relation = r; terms = map (slot_of vs) a.terms })) b.first b.was in
    let d = bound_by (each (pattern_of rs vs) atoms) (λ ys. Ok (b.first ∷ ys)) ps b.gave in
    let atom : Pattern = record { relation = c.first; terms = map (slot_of vs) a.terms } in
    let same : atom ≡ b.first = first_of atom b.first c.gave in
    let all : b.first ∷ d.first ≡ ps = first_of (b.first ∷ d.first) ps d.gave in
    any_next (place_of vs n) atom b.first d.first d.first ps (sym same) all refl
    (elim (or_cases (stands_in_atom n a) (stands_in atoms n) h) [
      | inl k ↦ or_left (list_any (stands_in_slot (place_of vs n)) (map (slot_of vs) a.terms)) (model.stands_in (place_of vs n) d.first) (terms_stand vs n a.terms k)
      | inr k ↦ or_right (list_any (stands_in_slot (place_of vs n)) (map (slot_of vs) a.terms)) (model.stands_in (place_of vs n) d.first) (atoms_stand rs vs n atoms d.first d.was k)
    ])

head_stands : (rs : List RelationSchema) (vs : List Name) (atoms : List WrittenAtom) (ps : List Pattern) → each (pattern_of rs vs) atoms ≡ Ok ps → (head : List Name) → list_all (stands_in atoms) head ≡ true
    → list_all (λ v. model.stands_in v ps) (map (place_of vs) head) ≡ true
head_stands rs vs atoms ps e [] h = refl
head_stands rs vs atoms ps e (n ∷ head) h =
    let p = and_parts (stands_in atoms n) (list_all (stands_in atoms) head) h in
    both (model.stands_in (place_of vs n) ps) (list_all (λ v. model.stands_in v ps) (map (place_of vs) head)) (atoms_stand rs vs n atoms ps e p.0) (head_stands rs vs atoms ps e head p.1)

numbered_by : (rs : List RelationSchema) (atoms : List WrittenAtom) (ps : List Pattern) (vs : List Name) → numbered_atoms rs atoms ≡ Numbers (ps, vs) → each (pattern_of rs vs) atoms ≡ Ok ps
unfolding numbered_atoms
numbered_by rs atoms ps vs e =
    let b = bound_by (each (pattern_of rs (firsts same_name (variables_in atoms))) atoms) (λ patterns. Numbers (patterns, firsts same_name (variables_in atoms))) (ps, vs) e in
    let pair : (b.first, firsts same_name (variables_in atoms)) ≡ Both (ps, vs) = first_of (Both (b.first, firsts same_name (variables_in atoms))) (Both (ps, vs)) b.gave in
    let patterns : b.first ≡ ps = ap (λ (x : List Pattern × List Name). x.0) pair in
    let variables : firsts same_name (variables_in atoms) ≡ vs = ap (λ (x : List Pattern × List Name). x.1) pair in
    ap (λ (ws : List Name). each (pattern_of rs ws) atoms) (sym variables) ∙ b.was ∙ ap (λ (x : List Pattern). let r : Result (List Pattern) Kind = Ok x in r) patterns

-- The query with its numbers is the one over the relations.
pub ask_bound : (rs : List RelationSchema) (q : WrittenAsk) (c : ConjunctiveQuery) (vs : List Name) → numbered_atoms rs q.body ≡ Numbers (c.body, vs) → c.head ≡ map (place_of vs) q.head → bound_ask rs q ≡ Ok c
unfolding bound_ask
ask_bound rs q c vs e head = rw e (ap (λ (vs : List ℕ). let r : Result ConjunctiveQuery Kind = Ok (record { head = vs; body = c.body }) in r) (sym head))

-- It is safe.
pub ask_safe : (rs : List RelationSchema) (q : WrittenAsk) (c : ConjunctiveQuery) (vs : List Name) → numbered_atoms rs q.body ≡ Numbers (c.body, vs) → c.head ≡ map (place_of vs) q.head → is_ask q ≡ true → IsSafe c
ask_safe rs q c vs e head h =
    let p = and_parts (is_few (length q.head)) (is_few (length q.body) && list_all (stands_in q.body) q.head) h in
    let r = and_parts (is_few (length q.body)) (list_all (stands_in q.body) q.head) p.1 in
    ap (list_all (λ v. model.stands_in v c.body)) head ∙ head_stands rs vs q.body c.body (numbered_by rs q.body c.body vs e) q.head r.1
