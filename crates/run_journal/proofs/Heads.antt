-- Texts by their heads, and tuples by their texts.
use Rattle.std.specs.Prelude.{Result, Ok, Err, Option, Some, None, IfOk, IfSome, IfNone, SomeIff, flat_map, if◌then◌else◌}
use Rattle.std.proofs.Common.{◌≡◌, ℕ, ◌+◌, ◌-◌, ◌^◌, ◌<◌, ◌≤◌, ◌==◌, ap, refl, ◌∙◌, sym, subst, inl, inr, List, [], ◌∷◌, ◌++◌, length, take, map, Bool, false, arith, append_assoc}
use Rattle.std.proofs.lemmas.Bool.{cases_lt, false≢true}
use Rattle.std.proofs.Math.Seq.{take-append_seam}
use Rattle.base_types.specs.Meanings.{change_of, fact_of as meant_by}
use Rattle.base_types.specs.declared.tuples.Tuple.{Tuple}
use Rattle.base_types.specs.declared.updates.Write.{Write}
use Rattle.def_language.specs.Faults.{Kind}
use Rattle.def_language.specs.Lone.{IsReadAgain, IsTuple}
use Rattle.def_language.specs.Meaning.{fact_of}
use Rattle.def_language.specs.Printing.{tuple_text, value_text, joined_text, written_fact, name_of}
use Rattle.def_language.specs.Sessions.{RelationSchema, relation_names}
use Rattle.def_language.specs.Statements.{WrittenFact}
use Rattle.def_chase.specs.Mappings.{force_relation}
use Rattle.def_chase.specs.Values.{Datum, Number, Text, Unknown, Fact, outer, outer_datum}
use Rattle.run_journal.specs.Format.{IsWrite, write_text}
use Rattle.lang_reader.specs.Facts.{SpellsFact, Says}
use Rattle.lang_reader.specs.declared.tuples.TupleText.TheVariants as texts

pub no_items : {A B : Type 0} (f : A → B) (xs : List A) → length xs ≡ 0 → map f xs ≡ []
no_items f [] e = refl
no_items f (x ∷ xs) e = absurd (omega arith)

pub head_taken : (text front head rest : List ℕ) (n : ℕ) → front ≡ take n text → n ≡ length head → text ≡ head ++ rest → front ≡ head
head_taken text front head rest n f same e = f ∙ ap (take n) e ∙ ap (λ k. take k (head ++ rest)) same ∙ take-append_seam head rest

-- ---- the text of a tuple is that of its outer form

value_outer : (d : Datum) → value_text false (outer_datum d) ≡ value_text false d
value_outer (Number z) = refl
value_outer (Text t) = refl
value_outer (Unknown n) = refl

others_outer : (ds : List Datum) → flat_map (λ y. 44 ∷ 32 ∷ value_text false y) (map outer_datum ds) ≡ flat_map (λ y. 44 ∷ 32 ∷ value_text false y) ds
others_outer [] = refl
others_outer (d ∷ ds) =
    ap (λ xs. (44 ∷ 32 ∷ xs) ++ flat_map (λ y. 44 ∷ 32 ∷ value_text false y) (map outer_datum ds)) (value_outer d)
    ∙ ap (λ xs. (44 ∷ 32 ∷ value_text false d) ++ xs) (others_outer ds)

values_outer : (ds : List Datum) → joined_text (value_text false) (map outer_datum ds) ≡ joined_text (value_text false) ds
values_outer [] = refl
values_outer (d ∷ ds) =
    ap (λ xs. xs ++ flat_map (λ y. 44 ∷ 32 ∷ value_text false y) (map outer_datum ds)) (value_outer d)
    ∙ ap (λ xs. value_text false d ++ xs) (others_outer ds)

pub tuple_outer : (relations : List RelationSchema) (t : Fact) → tuple_text relations false (outer t) ≡ tuple_text relations false t
tuple_outer relations t =
    ap (λ (xs : List ℕ). if t.relation == force_relation then 42 ∷ xs else name_of (relation_names relations) t.relation ++ (40 ∷ (xs ++ 41 ∷ []))) (values_outer t.values)

pub line_added : (old fact text : List ℕ) (sign : ℕ) → fact ≡ text → ((old ++ sign ∷ []) ++ fact) ++ 10 ∷ [] ≡ old ++ (sign ∷ (text ++ 10 ∷ []))
line_added old fact text sign e =
    append_assoc (old ++ sign ∷ []) fact (10 ∷ []) ∙ append_assoc old (sign ∷ []) (fact ++ 10 ∷ []) ∙ ap (λ xs. old ++ (sign ∷ (xs ++ 10 ∷ []))) e

-- ---- what a text says, where it is the printed form of a tuple

pub some_weaker : {T E : Type 0} {P Q : T → Type 0} (r : Result (Option T) E) → ((x : T) → P x → Q x) → IfOk r (λ found. IfSome found P) → IfOk r (λ found. IfSome found Q)
some_weaker (Ok (Some x)) f h = f x h
some_weaker (Ok None) f h = h
some_weaker (Err e) f h = h

pub none_weaker : {T E P Q : Type 0} (r : Result (Option T) E) → (P → Q) → IfOk r (λ found. IfNone found P) → IfOk r (λ found. IfNone found Q)
none_weaker (Ok (Some x)) f h = h
none_weaker (Ok None) f h = f h
none_weaker (Err e) f h = h

spelled : (relations : List RelationSchema) (text : List ℕ) (t : Fact) → IsReadAgain relations t → text ≡ tuple_text relations false t → SpellsFact text (written_fact relations t)
spelled relations text t again e = subst (λ xs. SpellsFact xs (written_fact relations t)) (sym e) (record { utf8 = again.text; one_line = again.one_line; words = again.read })

ok_same : {A : Type 0} (x y : A) → let p : Result A Kind = Ok x in let q : Result A Kind = Ok y in p ≡ q → x ≡ y
ok_same x y e = cc

fact_same : (relations : List RelationSchema) (text : List ℕ) (t : Fact) (fact : WrittenFact) → IsReadAgain relations t → text ≡ tuple_text relations false t → SpellsFact text fact → fact ≡ written_fact relations t
fact_same relations text t fact again e spells = ok_same fact (written_fact relations t) (sym spells.words ∙ (spelled relations text t again e).words)

pub no_malformed : (relations : List RelationSchema) (text : List ℕ) (t : Fact) → Says relations text texts.Malformed → IsReadAgain relations t → text ≡ tuple_text relations false t → ⊥
no_malformed relations text t says again e = says (written_fact relations t) (spelled relations text t again e)

err_ok : {A : Type 0} (x : A) (k : Kind) → let p : Result A Kind = Err k in let q : Result A Kind = Ok x in p ≡ q → ⊥
err_ok x k e = cc

pub no_unknown : (relations : List RelationSchema) (text : List ℕ) (t : Fact) → Says relations text texts.Unknown → IsReadAgain relations t → text ≡ tuple_text relations false t → ⊥
no_unknown relations text t (fact, spells, kind, is) again e =
    err_ok t kind (sym is ∙ ap (fact_of relations) (fact_same relations text t fact again e spells) ∙ again.meant)

pub that_tuple : (relations : List RelationSchema) (text : List ℕ) (t : Fact) (tuple : Tuple) → Says relations text (texts.Tuple tuple) → IsReadAgain relations t → text ≡ tuple_text relations false t → meant_by tuple ≡ t
that_tuple relations text t tuple (fact, spells, is) again e =
    ok_same (meant_by tuple) t (sym is ∙ ap (fact_of relations) (fact_same relations text t fact again e spells) ∙ again.meant)

pub some_of : {T : Type 0} (P : T → Type 0) (found : Option T) (x : T) → found ≡ Some x → IfSome found P → P x
some_of P found x e h = subst (λ f. IfSome f P) e h

pub none_of : {T P : Type 0} (found : Option T) → found ≡ None → IfNone found P → P
none_of {P = P} found e h = subst (λ f. IfNone f P) e h

-- the write of a tuple by its sign, where the line is that
pub signed_some : (relations : List RelationSchema) (line text : List ℕ) (sign : ℕ) (t : Fact) (found : Option Write) → line ≡ sign ∷ text → text ≡ tuple_text relations false t → IsTuple relations t
    → IfSome found (λ w. (rs : List RelationSchema) → sign ∷ tuple_text rs false t ≡ write_text rs (change_of w)) → IfSome found (λ w. (rs : List RelationSchema) → IsTuple rs t → IsWrite rs (change_of w))
    → IfSome found (λ w. (line ≡ write_text relations (change_of w)) × IsWrite relations (change_of w))
signed_some relations line text sign t None e f good written of_tuple = tt
signed_some relations line text sign t (Some w) e f good written of_tuple = (e ∙ ap (λ xs. sign ∷ xs) f ∙ written relations, of_tuple relations good)

-- where bytes are not said to be empty there are some
pub some_left : (bytes : List ℕ) (empty : Bool) → empty ≡ (length bytes == 0) → empty ≡ false → 1 ≤ length bytes
some_left [] empty e f = absurd (false≢true (sym f ∙ e))
some_left (b ∷ bytes) empty e f = omega arith

-- ---- no bytes, and a count that goes up

pub nothing : (xs : List ℕ) → length xs ≡ 0 → xs ≡ []
nothing [] e = refl
nothing (x ∷ xs) e = absurd (omega arith)

pub next_of : (found : Option ℕ) (count n : ℕ) → found ≡ Some n → SomeIff found (count + 1 < 2 ^ 32) (count + 1) → n ≡ count + 1
next_of found count n e h = (subst (λ f. SomeIff f (count + 1 < 2 ^ 32) (count + 1)) e h).1

pub no_next : (found : Option ℕ) (count : ℕ) → found ≡ None → SomeIff found (count + 1 < 2 ^ 32) (count + 1) → 2 ^ 32 ≤ count + 1
no_next found count e h =
    let large : count + 1 < 2 ^ 32 → ⊥ = subst (λ f. SomeIff f (count + 1 < 2 ^ 32) (count + 1)) e h in
    elim (cases_lt (count + 1) (2 ^ 32)) [
      | inl less ↦ absurd (large (omega arith))
      | inr more ↦ omega arith
    ]
