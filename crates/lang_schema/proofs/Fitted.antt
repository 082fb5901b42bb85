-- A mapping is checked in two parts: its sides and their relations, and then its terms.
use Rattle.std.proofs.Common.{◌≡◌, ◌∙◌, ℕ, List, [], ◌∷◌, length, map, refl, sym}
use Rattle.std.specs.Prelude.{Result, Ok, Err}
use Rattle.def_chase.specs.Mappings.{Pattern}
use Rattle.def_language.specs.Faults.{Kind}
use Rattle.def_language.specs.Names.{Name}
use Rattle.def_language.specs.Reading.{◌>>=◌, each}
use Rattle.def_language.specs.Statements.{WrittenAtom, WrittenMapping}
use Rattle.def_language.specs.Sessions.{RelationSchema}
use Rattle.def_language.specs.Meaning.{few_atoms, mapping_of, pattern_of, relation_of, slot_of, some_atoms, variables_of}
use Rattle.lang_schema.specs.declared.refusals.SchemaRefusal.{SchemaRefusal}
use Rattle.lang_schema.specs.declared.refusals.SchemaRefusal.TheVariants as refusal
use Rattle.lang_schema.specs.Answers.{Refuses}
use Rattle.lang_schema.specs.Relations.{atoms_fit, mapping_over, sides_fit}

-- a refusal of one thing is that of another which has its faults
carries : {A B : Type 0} (e : SchemaRefusal) (r : Result A Kind) (s : Result B Kind) → ((k : Kind) → r ≡ Err k → s ≡ Err k) → Refuses e r → Refuses e s
carries (refusal.UnknownRelation n) r s all f = all _ f
carries (refusal.Arity n columns count) r s all f = all _ f
carries refusal.EmptySide r s all f = all _ f
carries refusal.TooManyAtoms r s all f = all _ f
carries (refusal.DuplicateName n) r s all f = all _ f
carries (refusal.Limit which) r s all f = all _ f
carries refusal.Memory r s all f = tt

in_parts : {B : Type 0} (a b c d : Result (Unit {0}) Kind) (last : Result B Kind)
    → (a >>= (λ _. b >>= (λ _. c >>= (λ _. d >>= (λ _. last))))) ≡ ((a >>= (λ _. b >>= (λ _. c >>= (λ _. d)))) >>= (λ _. last))
in_parts (Ok u) (Ok v) (Ok w) (Ok x) last = refl
in_parts (Ok u) (Ok v) (Ok w) (Err k) last = refl
in_parts (Ok u) (Ok v) (Err k) d last = refl
in_parts (Ok u) (Err k) c d last = refl
in_parts (Err k) b c d last = refl

pub two_parts : (rs : List RelationSchema) (since : ℕ) (m : WrittenMapping) → mapping_of rs since m ≡ (sides_fit m >>= (λ _. mapping_over rs since m))
unfolding mapping_of sides_fit mapping_over
two_parts rs since m = in_parts (some_atoms m.left) (some_atoms m.right) (few_atoms m.left) (few_atoms m.right) _

one_fault : {A : Type 0} (j k : Kind) (r : Result A Kind) → r ≡ Err j → r ≡ Err k → j ≡ k
one_fault j k r e f = let g : Err j ≡ Err k = sym e ∙ f in cc

unfit : (rs : List RelationSchema) (vs : List Name) (atoms : List WrittenAtom) (k : Kind) → atoms_fit rs atoms ≡ Err k → each (pattern_of rs vs) atoms ≡ Err k
unfolding atoms_fit each pattern_of
unfit rs vs [] k e = cc
unfit rs vs (a ∷ atoms) k e = by (unfit rs vs atoms k) (relation_of rs a.relation (length a.terms)) refl where
  by : (atoms_fit rs atoms ≡ Err k → each (pattern_of rs vs) atoms ≡ Err k) → (r : Result ℕ Kind) → relation_of rs a.relation (length a.terms) ≡ r → each (pattern_of rs vs) (a ∷ atoms) ≡ Err k
  by others (Err j) f = let g : atoms_fit rs (a ∷ atoms) ≡ Err j = rw f refl in rw (f, one_fault j k _ g e) refl
  by others (Ok n) f = let rest : atoms_fit rs atoms ≡ Err k = rw f at e in rw (f, others rest) refl

all_fit : (rs : List RelationSchema) (vs : List Name) (atoms : List WrittenAtom) → atoms_fit rs atoms ≡ Ok tt → (ps : List Pattern) × (each (pattern_of rs vs) atoms ≡ Ok ps)
unfolding atoms_fit each pattern_of
all_fit rs vs [] e = ([], refl)
all_fit rs vs (a ∷ atoms) e = by (all_fit rs vs atoms) (relation_of rs a.relation (length a.terms)) refl where
  by : (atoms_fit rs atoms ≡ Ok tt → (ps : List Pattern) × (each (pattern_of rs vs) atoms ≡ Ok ps)) → (r : Result ℕ Kind) → relation_of rs a.relation (length a.terms) ≡ r → (ps : List Pattern) × (each (pattern_of rs vs) (a ∷ atoms) ≡ Ok ps)
  by others (Err j) f = let g : atoms_fit rs (a ∷ atoms) ≡ Err j = rw f refl in let bad : ⊥ = (let h : Err j ≡ Ok tt = sym g ∙ e in cc) in absurd bad
  by others (Ok n) f =
      let rest = others (rw f at e) in
      (record { relation = n; terms = map (slot_of vs) a.terms } ∷ rest.0, rw (f, rest.1) refl)

-- the sides do not fit
pub sides_refused : (e : SchemaRefusal) (rs : List RelationSchema) (since : ℕ) (m : WrittenMapping) → Refuses e (sides_fit m) → Refuses e (mapping_of rs since m)
sides_refused e rs since m f = carries e (sides_fit m) (mapping_of rs since m) (λ k g. two_parts rs since m ∙ rw g refl) f

-- an atom of the left side does not fit
pub left_refused : (e : SchemaRefusal) (rs : List RelationSchema) (since : ℕ) (m : WrittenMapping) → sides_fit m ≡ Ok tt → Refuses e (atoms_fit rs m.left) → Refuses e (mapping_of rs since m)
unfolding mapping_over
left_refused e rs since m sides f = carries e (atoms_fit rs m.left) (mapping_of rs since m) (λ k g. two_parts rs since m ∙ rw (sides, unfit rs (variables_of m) m.left k g) refl) f

-- an atom of the right side does not fit
pub right_refused : (e : SchemaRefusal) (rs : List RelationSchema) (since : ℕ) (m : WrittenMapping) → sides_fit m ≡ Ok tt → atoms_fit rs m.left ≡ Ok tt → Refuses e (atoms_fit rs m.right) → Refuses e (mapping_of rs since m)
unfolding mapping_over
right_refused e rs since m sides left f =
    carries e (atoms_fit rs m.right) (mapping_of rs since m) (λ k g. two_parts rs since m ∙ rw (sides, (all_fit rs (variables_of m) m.left left).1, unfit rs (variables_of m) m.right k g) refl) f

-- the sides fit
pub then_over : (rs : List RelationSchema) (since : ℕ) (m : WrittenMapping) → sides_fit m ≡ Ok tt → mapping_over rs since m ≡ mapping_of rs since m
then_over rs since m sides = sym (two_parts rs since m ∙ rw sides refl)
