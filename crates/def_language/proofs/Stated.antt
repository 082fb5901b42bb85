-- What is read as a line is the words of a statement that may stand there, and nothing else.
use Rattle.std.proofs.Common.{◌≡◌, ℕ, ◌≤◌, ◌⊎◌, inl, inr, true, false, List, [], ◌∷◌, refl, sym, ap, ◌∙◌, subst, arith}
use Rattle.std.specs.Prelude.{Result, Ok, ℤ, pos, negsuc, codes, nat_le, ◌&&◌, ◌==◌}
use Rattle.std.proofs.lemmas.Bool.{and_parts, or_cases, eqb-true}
use Rattle.std.proofs.lemmas.Bool.Decides.{nat_tests}
use Rattle.def_chase.specs.Values.{Datum}
use Rattle.def_language.specs.declared.Wanted.TheVariants as missing
use Rattle.def_language.specs.Words.{Word, name, number, null}
use Rattle.def_language.specs.Faults.{Kind}
use Rattle.def_language.specs.Reading.{◌>>=◌, wants}
use Rattle.def_language.specs.Names.{Name, same_name}
use Rattle.def_language.specs.Statements.{WrittenFact, WrittenMapping, WrittenOperation, InsertFact, DeleteFact, ReplaceNull, AddMapping, WrittenChoice, ExpandFact, UnifyFact, DeleteFacts, Statement, Header, Relation, Mapping, Base, Update, Answer, End}
use Rattle.def_language.specs.Grammar.{value_word, separated, fact_words, mapping_words, operation_words, choice_words, statement_words}
use Rattle.def_language.specs.Parts.{name_at, end_at, whole, outer_null, value_of, fact_at, mapping_at, facts_at}
use Rattle.def_language.specs.Forms.{Section, Beginning, Relations, Mappings, Tuples, Updates, Ended, rank, section_of, is_format, natural, header_at, columns_at, relation_at, replaced_at, with_at, replace_at, operation_at, update_at, choice_at, answer_at, begins, named_at, statement_at}
use Rattle.def_language.specs.Sayable.{IsOuter, IsWrittenOperation, IsWrittenChoice, IsSayable, MayStand}
use Rattle.def_language.proofs.Called.{same_is}
use Rattle.def_language.proofs.Many.{bind_ok, SameOk, ok_is}
use Rattle.def_language.proofs.Only.{choose, value_only, name_only, end_only}
use Rattle.def_language.proofs.Sole.{mapping_only, facts_only, whole_fact_only}

-- the line after a first word
worded : (n : Name) (rest : List Word) (keyword : Name) (words : List Word) → same_name n keyword ≡ true → rest ≡ words → name n ∷ rest ≡ name keyword ∷ words
worded n rest keyword words same is = ap (λ (m : Name). name m ∷ rest) (same_is n keyword same) ∙ ap (λ (vs : List Word). name keyword ∷ vs) is

-- ---- operations

abbrev OperationRead : ℕ → List Word → WrittenOperation → Type 0
OperationRead format ws op = IsWrittenOperation format op × (ws ≡ operation_words op)

inserted : (format : ℕ) (n : Name) (rest : List Word) (op : WrittenOperation) → same_name n (codes "insert") ≡ true → (whole (fact_at rest) >>= (λ (fact : WrittenFact). let r : Result WrittenOperation Kind = Ok (InsertFact fact) in r)) ≡ Ok op → OperationRead format (name n ∷ rest) op
inserted format n rest op same e =
    let b = bind_ok (whole (fact_at rest)) _ op e in
    let f = whole_fact_only rest b.0 b.1 in
    subst (OperationRead format (name n ∷ rest)) (ok_is (InsertFact b.0) op b.2) (f.0, worded n rest (codes "insert") (fact_words b.0) same f.1)

deleted : (format : ℕ) (n : Name) (rest : List Word) (op : WrittenOperation) → same_name n (codes "delete") ≡ true → (whole (fact_at rest) >>= (λ (fact : WrittenFact). let r : Result WrittenOperation Kind = Ok (DeleteFact fact) in r)) ≡ Ok op → OperationRead format (name n ∷ rest) op
deleted format n rest op same e =
    let b = bind_ok (whole (fact_at rest)) _ op e in
    let f = whole_fact_only rest b.0 b.1 in
    subst (OperationRead format (name n ∷ rest)) (ok_is (DeleteFact b.0) op b.2) (f.0, worded n rest (codes "delete") (fact_words b.0) same f.1)

abbrev Replaced : ℕ → ℕ → List Word → WrittenOperation → Type 0
Replaced u k ws op = (d : Datum) × IsOuter d × (ws ≡ name (codes "with") ∷ value_word d ∷ []) × (op ≡ ReplaceNull (outer_null u k) d)

value_replaced : (u k : ℕ) (rest : List Word) (op : WrittenOperation) → replaced_at (outer_null u k) rest ≡ Ok op → (d : Datum) × IsOuter d × (rest ≡ value_word d ∷ []) × (op ≡ ReplaceNull (outer_null u k) d)
value_replaced u k [] op e = let f : ⊥ = cc in absurd f
value_replaced u k (w ∷ rest) op e =
    let b = bind_ok (value_of w) _ op e in
    let c = bind_ok (end_at rest) _ op b.2 in
    let v = value_only w b.0 b.1 in
    (b.0, v.0, ap (λ (x : Word). x ∷ rest) v.1 ∙ ap (λ (vs : List Word). value_word b.0 ∷ vs) (end_only rest c.0 c.1), sym (ok_is (ReplaceNull (outer_null u k) b.0) op c.2))

with_replaced : (u k : ℕ) (ws : List Word) (op : WrittenOperation) → with_at (outer_null u k) ws ≡ Ok op → Replaced u k ws op
with_replaced u k (name m ∷ rest) op e = by (choose (same_name m (codes "with")) (replaced_at (outer_null u k) rest) (wants missing.With) op e) where
  by : ((same_name m (codes "with") ≡ true) × (replaced_at (outer_null u k) rest ≡ Ok op)) ⊎ ((same_name m (codes "with") ≡ false) × (wants missing.With ≡ Ok op)) → Replaced u k (name m ∷ rest) op
  by (inl x) = let v = value_replaced u k rest op x.1 in (v.0, v.1, worded m rest (codes "with") (value_word v.0 ∷ []) x.0 v.2, v.3)
  by (inr x) = let f : ⊥ = let g = x.1 in cc in absurd f
with_replaced u k ws op e = let f : ⊥ = cc in absurd f

replaced : (format : ℕ) (n : Name) (rest : List Word) (op : WrittenOperation) → same_name n (codes "replace") ≡ true → replace_at rest ≡ Ok op → OperationRead format (name n ∷ rest) op
unfolding replace_at
replaced format n (null u k ∷ rest) op same e =
    let r = with_replaced u k rest op e in
    subst (OperationRead format (name n ∷ null u k ∷ rest)) (sym r.3) ((refl, r.1), worded n (null u k ∷ rest) (codes "replace") (null u k ∷ name (codes "with") ∷ value_word r.0 ∷ []) same (ap (λ (vs : List Word). null u k ∷ vs) r.2))
replaced format n ws op same e = let f : ⊥ = cc in absurd f

mapped : (format : ℕ) (n : Name) (rest : List Word) (op : WrittenOperation) → (same_name n (codes "mapping") && (format == 2)) ≡ true → (mapping_at rest >>= (λ (m : WrittenMapping). let r : Result WrittenOperation Kind = Ok (AddMapping m) in r)) ≡ Ok op → OperationRead format (name n ∷ rest) op
mapped format n rest op same e =
    let p = and_parts (same_name n (codes "mapping")) (format == 2) same in
    let b = bind_ok (mapping_at rest) _ op e in
    let m = mapping_only rest b.0 b.1 in
    subst (OperationRead format (name n ∷ rest)) (ok_is (AddMapping b.0) op b.2) ((eqb-true format 2 p.1, m.0), worded n rest (codes "mapping") (mapping_words b.0) p.0 m.1)

operation_only : (format : ℕ) (ws : List Word) (op : WrittenOperation) → operation_at format ws ≡ Ok op → OperationRead format ws op
unfolding operation_at
operation_only format (name n ∷ rest) op e =
    elim (choose (same_name n (codes "insert")) _ _ op e) [
      | inl a ↦ inserted format n rest op a.0 a.1
      | inr a ↦ elim (choose (same_name n (codes "delete")) _ _ op a.1) [
        | inl b ↦ deleted format n rest op b.0 b.1
        | inr b ↦ elim (choose (same_name n (codes "replace")) _ _ op b.1) [
          | inl c ↦ replaced format n rest op c.0 c.1
          | inr c ↦ elim (choose (same_name n (codes "mapping") && (format == 2)) _ _ op c.1) [
            | inl d ↦ mapped format n rest op d.0 d.1
            | inr d ↦ let f : ⊥ = let g = d.1 in cc in absurd f
          ]
        ]
      ]
    ]
operation_only format ws op e = let f : ⊥ = cc in absurd f

-- ---- choices

abbrev ChoiceRead : List Word → WrittenChoice → Type 0
ChoiceRead ws choice = IsWrittenChoice choice × (ws ≡ choice_words choice)

expanded : (n : Name) (rest : List Word) (choice : WrittenChoice) → same_name n (codes "expand") ≡ true → (end_at rest >>= (λ (_ : Unit {0}). let r : Result WrittenChoice Kind = Ok ExpandFact in r)) ≡ Ok choice → ChoiceRead (name n ∷ rest) choice
expanded n rest choice same e =
    let b = bind_ok (end_at rest) _ choice e in
    subst (ChoiceRead (name n ∷ rest)) (ok_is ExpandFact choice b.2) (tt, worded n rest (codes "expand") [] same (end_only rest b.0 b.1))

unified : (n : Name) (rest : List Word) (choice : WrittenChoice) → same_name n (codes "unify") ≡ true → (whole (fact_at rest) >>= (λ (fact : WrittenFact). let r : Result WrittenChoice Kind = Ok (UnifyFact fact) in r)) ≡ Ok choice → ChoiceRead (name n ∷ rest) choice
unified n rest choice same e =
    let b = bind_ok (whole (fact_at rest)) _ choice e in
    let f = whole_fact_only rest b.0 b.1 in
    subst (ChoiceRead (name n ∷ rest)) (ok_is (UnifyFact b.0) choice b.2) (f.0, worded n rest (codes "unify") (fact_words b.0) same f.1)

dropped : (n : Name) (rest : List Word) (choice : WrittenChoice) → same_name n (codes "delete") ≡ true → (facts_at rest >>= (λ (facts : List WrittenFact). let r : Result WrittenChoice Kind = Ok (DeleteFacts facts) in r)) ≡ Ok choice → ChoiceRead (name n ∷ rest) choice
dropped n rest choice same e =
    let b = bind_ok (facts_at rest) _ choice e in
    let f = facts_only rest b.0 b.1 in
    subst (ChoiceRead (name n ∷ rest)) (ok_is (DeleteFacts b.0) choice b.2) ((f.0, f.1), worded n rest (codes "delete") (separated fact_words b.0) same f.2)

choice_only : (ws : List Word) (choice : WrittenChoice) → choice_at ws ≡ Ok choice → ChoiceRead ws choice
unfolding choice_at
choice_only (name n ∷ rest) choice e =
    elim (choose (same_name n (codes "expand")) _ _ choice e) [
      | inl a ↦ expanded n rest choice a.0 a.1
      | inr a ↦ elim (choose (same_name n (codes "unify")) _ _ choice a.1) [
        | inl b ↦ unified n rest choice b.0 b.1
        | inr b ↦ elim (choose (same_name n (codes "delete")) _ _ choice b.1) [
          | inl c ↦ dropped n rest choice c.0 c.1
          | inr c ↦ let f : ⊥ = let g = c.1 in cc in absurd f
        ]
      ]
    ]
choice_only ws choice e = let f : ⊥ = cc in absurd f

-- ---- statements

abbrev StatementRead : Section → ℕ → List Word → Statement → Type 0
StatementRead section format ws st = (ws ≡ statement_words st) × IsSayable format st × MayStand section st

-- after the header, where the statement's section is not over
stands : (section : Section) (st : Statement) → 1 ≤ rank section → 1 ≤ rank (section_of st) → rank section ≤ rank (section_of st) → ((f : ℕ) → st ≡ Header f → ⊥) → MayStand section st
stands section (Header f) low low' le none = absurd (none f refl)
stands Beginning st low low' le none = absurd (omega arith)
stands section st low low' le none = le

module _ (section : Section) (format : ℕ) (low : 1 ≤ rank section) (n : Name) (rest : List Word) where
  -- the first word is that of a statement which may stand here
  record Begun (keyword : Name) (own : Section) : Type 0 where
    same : same_name n keyword ≡ true
    open_ : rank section ≤ rank own

  begun : (keyword : Name) (own : Section) → begins section n keyword own ≡ true → Begun keyword own
  begun keyword own e =
      let p = and_parts (same_name n keyword) (nat_le (rank section) (rank own)) e in
      let le : nat_le (rank section) (rank own) ≡ true = p.1 in
      record { same = p.0; open_ = grind (arith, nat_tests) }

  abbrev Line : Statement → Type 0
  Line st = StatementRead section format (name n ∷ rest) st

  relation_line : (st : Statement) → Begun (codes "relation") Relations → relation_at rest ≡ Ok st → Line st
  unfolding relation_at
  relation_line st b e = by e (bind_ok (name_at rest) _ st e) where
    columns : (m : Name) (ws : List Word) → columns_at m ws ≡ Ok st → (z : ℤ) × (ws ≡ number z ∷ []) × (st ≡ Relation m z)
    columns m (number z ∷ more) f =
        let c = bind_ok (end_at more) _ st f in
        (z, ap (λ (vs : List Word). number z ∷ vs) (end_only more c.0 c.1), sym (ok_is (Relation m z) st c.2))
    columns m ws f = let g : ⊥ = cc in absurd g

    by : relation_at rest ≡ Ok st → (x : Name × List Word) × (name_at rest ≡ Ok x) × (columns_at x.0 x.1 ≡ Ok st) → Line st
    by f x =
        let c = columns x.0.0 x.0.1 x.2 in
        let words : rest ≡ name x.0.0 ∷ number c.0 ∷ [] = name_only rest x.0.0 x.0.1 x.1 ∙ ap (λ (vs : List Word). name x.0.0 ∷ vs) c.1 in
        subst Line (sym c.2) (worded n rest (codes "relation") (name x.0.0 ∷ number c.0 ∷ []) b.same words, tt, stands section (Relation x.0.0 c.0) low (omega arith) b.open_ (λ f g. let h : ⊥ = cc in absurd h))

  mapping_line : (st : Statement) → Begun (codes "mapping") Mappings → (mapping_at rest >>= (λ (m : WrittenMapping). let r : Result Statement Kind = Ok (Mapping m) in r)) ≡ Ok st → Line st
  mapping_line st b e =
      let x = bind_ok (mapping_at rest) _ st e in
      let m = mapping_only rest x.0 x.1 in
      subst Line (ok_is (Mapping x.0) st x.2) (worded n rest (codes "mapping") (mapping_words x.0) b.same m.1, m.0, stands section (Mapping x.0) low (omega arith) b.open_ (λ f g. let h : ⊥ = cc in absurd h))

  base_line : (st : Statement) → Begun (codes "base") Tuples → (whole (fact_at rest) >>= (λ (fact : WrittenFact). let r : Result Statement Kind = Ok (Base fact) in r)) ≡ Ok st → Line st
  base_line st b e =
      let x = bind_ok (whole (fact_at rest)) _ st e in
      let f = whole_fact_only rest x.0 x.1 in
      subst Line (ok_is (Base x.0) st x.2) (worded n rest (codes "base") (fact_words x.0) b.same f.1, f.0, stands section (Base x.0) low (omega arith) b.open_ (λ f g. let h : ⊥ = cc in absurd h))

  update_line : (st : Statement) → Begun (codes "update") Updates → update_at format rest ≡ Ok st → Line st
  unfolding update_at
  update_line st b e =
      let x = bind_ok (name_at rest) _ st e in
      let y = bind_ok (name_at x.0.1) _ st x.2 in
      let z = bind_ok (operation_at format y.0.1) _ st y.2 in
      let o = operation_only format y.0.1 z.0 z.1 in
      let got : Statement = Update x.0.0 y.0.0 z.0 in
      let words : rest ≡ name x.0.0 ∷ name y.0.0 ∷ operation_words z.0 =
      name_only rest x.0.0 x.0.1 x.1 ∙ ap (λ (vs : List Word). name x.0.0 ∷ vs) (name_only x.0.1 y.0.0 y.0.1 y.1 ∙ ap (λ (vs : List Word). name y.0.0 ∷ vs) o.1) in
      subst Line (ok_is got st z.2) (worded n rest (codes "update") (name x.0.0 ∷ name y.0.0 ∷ operation_words z.0) b.same words, o.0, stands section got low (omega arith) b.open_ (λ f g. let h : ⊥ = cc in absurd h))

  answer_line : (st : Statement) → Begun (codes "answer") Updates → answer_at rest ≡ Ok st → Line st
  unfolding answer_at
  answer_line st b e =
      let x = bind_ok (name_at rest) _ st e in
      let y = bind_ok (choice_at x.0.1) _ st x.2 in
      let o = choice_only x.0.1 y.0 y.1 in
      let got : Statement = Answer x.0.0 y.0 in
      let words : rest ≡ name x.0.0 ∷ choice_words y.0 = name_only rest x.0.0 x.0.1 x.1 ∙ ap (λ (vs : List Word). name x.0.0 ∷ vs) o.1 in
      subst Line (ok_is got st y.2) (worded n rest (codes "answer") (name x.0.0 ∷ choice_words y.0) b.same words, o.0, stands section got low (omega arith) b.open_ (λ f g. let h : ⊥ = cc in absurd h))

  end_line : (st : Statement) → Begun (codes "end") Ended → (end_at rest >>= (λ (_ : Unit {0}). let r : Result Statement Kind = Ok End in r)) ≡ Ok st → Line st
  end_line st b e =
      let x = bind_ok (end_at rest) _ st e in
      subst Line (ok_is End st x.2) (worded n rest (codes "end") [] b.same (end_only rest x.0 x.1), tt, stands section End low (omega arith) b.open_ (λ f g. let h : ⊥ = cc in absurd h))

  pub named_only : (st : Statement) → named_at section format n rest ≡ Ok st → Line st
  unfolding named_at
  named_only st e =
      elim (choose (begins section n (codes "relation") Relations) _ _ st e) [
        | inl a ↦ relation_line st (begun (codes "relation") Relations a.0) a.1
        | inr a ↦ elim (choose (begins section n (codes "mapping") Mappings) _ _ st a.1) [
          | inl b ↦ mapping_line st (begun (codes "mapping") Mappings b.0) b.1
          | inr b ↦ elim (choose (begins section n (codes "base") Tuples) _ _ st b.1) [
            | inl c ↦ base_line st (begun (codes "base") Tuples c.0) c.1
            | inr c ↦ elim (choose (begins section n (codes "update") Updates) _ _ st c.1) [
              | inl d ↦ update_line st (begun (codes "update") Updates d.0) d.1
              | inr d ↦ elim (choose (begins section n (codes "answer") Updates) _ _ st d.1) [
                | inl g ↦ answer_line st (begun (codes "answer") Updates g.0) g.1
                | inr g ↦ elim (choose (begins section n (codes "end") Ended) _ _ st g.1) [
                  | inl h ↦ end_line st (begun (codes "end") Ended h.0) h.1
                  | inr h ↦ let f : ⊥ = let k = h.1 in cc in absurd f
                ]
              ]
            ]
          ]
        ]
      ]

format_is : (z : ℤ) → is_format z ≡ true → (z ≡ pos (natural z)) × ((natural z ≡ 1) ⊎ (natural z ≡ 2))
format_is (pos k) e = (refl, elim (or_cases (k == 1) (k == 2) e) [ inl a ↦ inl (eqb-true k 1 a) | inr b ↦ inr (eqb-true k 2 b) ])
format_is (negsuc k) e = let f : ⊥ = cc in absurd f

header_line : (format : ℕ) (n : Name) (z : ℤ) (st : Statement) → (same_name n (codes "youtopia") && is_format z) ≡ true → SameOk (Header (natural z)) st → StatementRead Beginning format (name n ∷ number z ∷ []) st
header_line format n z st same e =
    let p = and_parts (same_name n (codes "youtopia")) (is_format z) same in
    let f = format_is z p.1 in
    subst (StatementRead Beginning format (name n ∷ number z ∷ [])) (ok_is (Header (natural z)) st e)
    (worded n (number z ∷ []) (codes "youtopia") (number (pos (natural z)) ∷ []) p.0 (ap (λ (y : ℤ). number y ∷ []) f.0), f.1, tt)

header_only : (format : ℕ) (ws : List Word) (st : Statement) → header_at ws ≡ Ok st → StatementRead Beginning format ws st
unfolding header_at
header_only format (name n ∷ number z ∷ []) st e =
    elim (choose (same_name n (codes "youtopia") && is_format z) _ _ st e) [
      | inl a ↦ header_line format n z st a.0 a.1
      | inr a ↦ let f : ⊥ = let g = a.1 in cc in absurd f
    ]
header_only format ws st e = let f : ⊥ = cc in absurd f

pub statement_only : (section : Section) (format : ℕ) (ws : List Word) (st : Statement) → statement_at section format ws ≡ Ok st → StatementRead section format ws st
unfolding statement_at
statement_only Beginning format ws st e = header_only format ws st e
statement_only Relations format (name n ∷ rest) st e = named_only Relations format (omega arith) n rest st e
statement_only Mappings format (name n ∷ rest) st e = named_only Mappings format (omega arith) n rest st e
statement_only Tuples format (name n ∷ rest) st e = named_only Tuples format (omega arith) n rest st e
statement_only Updates format (name n ∷ rest) st e = named_only Updates format (omega arith) n rest st e
statement_only Ended format (name n ∷ rest) st e = named_only Ended format (omega arith) n rest st e
statement_only section format ws st e = let f : ⊥ = cc in absurd f
