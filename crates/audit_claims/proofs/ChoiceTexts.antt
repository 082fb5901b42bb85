-- The printed choice over the relations of a session is read again.
use Rattle.std.specs.Prelude.{◌≡◌, ◌-◌, ◌<◌, ◌≤◌, ◌^◌, ◌==◌, ◌⊎◌, ℕ, zero, suc, true, false, List, [], ◌∷◌, ◌++◌, map, flat_map, length, drop, codes, Some, Result, Ok, Err, IsUtf8, option_map}
use Rattle.std.proofs.Common.{refl, sym, ap, subst, arith, inl, inr}
use Rattle.std.specs.List.{AllByRecursion}
use Rattle.std.proofs.lemmas.Bool.Decides.{nat_tests}
use Rattle.std.proofs.lemmas.List.{length-map}
use Rattle.std.proofs.lemmas.List.Elements.{All-from_recursion, recursion_from_All}
use Rattle.std.proofs.lemmas.Option.{get_or_from_slice_get, slice_get_within}
use Rattle.std.proofs.lemmas.Str.{IsUtf8-append, IsUtf8-nil}
use Rattle.json.proofs.Printed.Utf8.{IsUtf8-are_ascii}
use Rattle.def_language.specs.Bytes.{is_line_feed}
use Rattle.def_chase.specs.Mappings.{force_relation}
use Rattle.def_chase.specs.Updates.{Choice, Expand, Unify, Drop}
use Rattle.def_chase.specs.Values.{Datum, Number, Text, Unknown, Fact}
use Rattle.def_language.specs.Faults.{Kind}
use Rattle.def_language.specs.Forms.{Updates, answer_at, choice_at, named_at, statement_at}
use Rattle.def_language.specs.Grammar.{choice_words, fact_words, one_word, separated, statement_words, value_word}
use Rattle.def_language.specs.Layout.{IsSpoken, is_name, laid_out}
use Rattle.def_language.specs.Lone.{IsReadAgain as IsTupleReadAgain, IsTuple}
use Rattle.def_language.specs.Names.{Name}
use Rattle.def_language.specs.Parts.{name_at}
use Rattle.def_language.specs.Printing.{name_of, tuple_text, written_choice, written_fact}
use Rattle.def_language.specs.Reading.{◌>>=◌}
use Rattle.def_language.specs.Sayable.{IsOuter, IsSayable, IsWrittenChoice, IsWrittenFact, MayStand}
use Rattle.def_language.specs.Sessions.{RelationSchema, SessionData, most_relations, relation_names}
use Rattle.def_language.specs.Statements.{WrittenChoice, ExpandFact, UnifyFact, DeleteFacts, WrittenFact, Statement, Answer}
use Rattle.def_language.specs.Texts.{ChoiceHasMembers, HasMembers, HasValue, fact_text, statement_text}
use Rattle.def_language.specs.Texts as texts
use Rattle.def_language.specs.Validity.{AreNew, IsChoice, IsRelation, IsSession, IsValue}
use Rattle.def_language.specs.Words.{Word, closes, comma, words_at}
use Rattle.lang_reader.specs.Facts.{known_fact}
use Rattle.audit_claims.specs.Choices.{known_choice, known_facts}
use Rattle.audit_claims.specs.Claimed.{IsReadAgain}

abbrev most : ℕ
most = 2 ^ 32 - 1

-- what the language's laws say
abbrev WordsAgain : Type 0
WordsAgain = (words : List Word) → AllByRecursion IsSpoken words → words_at (laid_out words) ≡ Ok words

abbrev StatementsAgain : Type 0
StatementsAgain = (section : Rattle.def_language.specs.Forms.Section) (format : ℕ) (st : Statement) → MayStand section st → IsSayable format st → statement_at section format (statement_words st) ≡ Ok st

abbrev Directly : Type 0
Directly = (st : Statement) → HasMembers st → laid_out (statement_words st) ≡ statement_text st

abbrev TupleDirectly : Type 0
TupleDirectly = (relations : List RelationSchema) (t : Fact) → (t.relation == force_relation) ≡ false → fact_text (written_fact relations t) ≡ tuple_text relations false t

abbrev TuplesAgain : Type 0
TuplesAgain = (s : SessionData) (t : Fact) → IsSession s → IsTuple s.relations t → IsTupleReadAgain s.relations t

-- ---- words that are spoken

spoken_join : (vs ws : List Word) → AllByRecursion IsSpoken vs → AllByRecursion IsSpoken ws → AllByRecursion IsSpoken (vs ++ ws)
spoken_join [] ws a b = b
spoken_join (v ∷ vs) ws a b = (a.0, spoken_join vs ws a.1 b)

spoken_list : {A : Type 0} (words : A → List Word) (P : A → Type 0) → ((x : A) → P x → AllByRecursion IsSpoken (words x)) → (xs : List A) → AllByRecursion P xs → AllByRecursion IsSpoken (separated words xs)
spoken_list words P each [] all = tt
spoken_list words P each (x ∷ []) all = each x all.0
spoken_list words P each (x ∷ y ∷ xs) all = spoken_join (words x) (comma ∷ separated words (y ∷ xs)) (each x all.0) (tt, spoken_list words P each (y ∷ xs) all.1)

spoken_value : (d : Datum) → IsValue most d → AllByRecursion IsSpoken (one_word value_word d)
spoken_value (Number z) good = (good, tt)
spoken_value (Text t) good = (good.0, tt)
spoken_value (Unknown n) good = let low : n.update ≤ most = good.1 in ((omega arith, good.2), tt)

named : (before names : List Name) (r : ℕ) → AreNew before names → r < length names → is_name (name_of names r) ≡ true
named before [] r new within = absurd (omega arith)
named before (n ∷ names) zero new within = new.0
named before (n ∷ names) (suc r) new within = named (before ++ n ∷ []) names r new.2 (omega arith)

outer_value : (d : Datum) → IsValue most d → IsOuter d
outer_value (Number z) good = tt
outer_value (Text t) good = tt
outer_value (Unknown n) good = good.0

outer_values : (ds : List Datum) → AllByRecursion (IsValue most) ds → AllByRecursion IsOuter ds
outer_values [] all = tt
outer_values (d ∷ ds) all = (outer_value d all.0, outer_values ds all.1)

-- ---- texts

no_feed_join : (xs ys : List ℕ) → AllByRecursion (λ b. is_line_feed b ≡ false) xs → AllByRecursion (λ b. is_line_feed b ≡ false) ys → AllByRecursion (λ b. is_line_feed b ≡ false) (xs ++ ys)
no_feed_join [] ys a b = b
no_feed_join (x ∷ xs) ys a b = (a.0, no_feed_join xs ys a.1 b)

-- the text is UTF-8 and on one line
record IsLine (text : List ℕ) : Type 0 where
  utf8 : IsUtf8 text
  single : AllByRecursion (λ b. is_line_feed b ≡ false) text

line_join : (xs ys : List ℕ) → IsLine xs → IsLine ys → IsLine (xs ++ ys)
line_join xs ys a b = record { utf8 = IsUtf8-append xs ys a.utf8 b.utf8; single = no_feed_join xs ys a.single b.single }

others : {A : Type 0} (text : A → List ℕ) (P : A → Type 0) → ((x : A) → P x → IsLine (text x)) → (xs : List A) → AllByRecursion P xs → IsLine (flat_map (λ x. 44 ∷ 32 ∷ text x) xs)
others text P each [] all = record { utf8 = IsUtf8-nil; single = tt }
others text P each (x ∷ xs) all =
    line_join (44 ∷ 32 ∷ text x) (flat_map (λ y. 44 ∷ 32 ∷ text y) xs)
    (line_join (44 ∷ 32 ∷ []) (text x) (record { utf8 = IsUtf8-are_ascii (44 ∷ 32 ∷ []) refl; single = (refl, (refl, tt)) }) (each x all.0)) (others text P each xs all.1)

-- the words of an answer after its label are laid out as the choice's own text
laid : Directly → (w : WrittenChoice) → ChoiceHasMembers w → laid_out (choice_words w) ≡ texts.choice_text w
unfolding laid_out
laid directly ExpandFact some = ap (drop 9) (directly (Answer (97 ∷ []) ExpandFact) some)
laid directly (UnifyFact fact) some = ap (drop 9) (directly (Answer (97 ∷ []) (UnifyFact fact)) some)
laid directly (DeleteFacts facts) some = ap (drop 9) (directly (Answer (97 ∷ []) (DeleteFacts facts)) some)

-- ---- words that are read

after_label : (r : Result WrittenChoice Kind) (w : WrittenChoice) → (r >>= (λ c. Ok (Answer (97 ∷ []) c))) ≡ Ok (Answer (97 ∷ []) w) → r ≡ Ok w
after_label (Ok c) w e = ap (λ (x : WrittenChoice). Ok x) (same c w e)
  where
    same : (x y : WrittenChoice) → ◌≡◌ {A = Result Statement Kind} (Ok (Answer (97 ∷ []) x)) (Ok (Answer (97 ∷ []) y)) → x ≡ y
    same x y is = cc
after_label (Err k) w e = let f : ⊥ = cc in absurd f

choice_again : StatementsAgain → (w : WrittenChoice) → IsWrittenChoice w → choice_at (choice_words w) ≡ Ok w
unfolding statement_at named_at answer_at name_at
choice_again again w good = after_label (choice_at (choice_words w)) w (again Updates 1 (Answer (97 ∷ []) w) (omega arith) good)

-- ---- choices over the relations of a session

module _ (s : SessionData) (v : IsSession s) (words_again : WordsAgain) (again : StatementsAgain) (directly : Directly) (tuple_directly : TupleDirectly) (tuples_again : TuplesAgain) where
  abbrev relations : List RelationSchema
  relations = s.relations

  within : (t : Fact) → IsTuple relations t → t.relation < length relations
  within t good = slice_get_within relations t.relation good.0.0 good.0.1

  plain : (t : Fact) → IsTuple relations t → (t.relation == force_relation) ≡ false
  plain t good =
      let below = within t good in
      let few : length relations ≤ 128 = at_most s.format v.format v.relation_count in
      let apart : (t.relation == 65535) ≡ false = grind (arith, nat_tests) in apart
    where
      at_most : (f : ℕ) → (f ≡ 1) ⊎ (f ≡ 2) → length relations ≤ most_relations f → length relations ≤ 128
      at_most f (inl e) h = let l : length relations ≤ 64 = subst (λ k. length relations ≤ most_relations k) e h in omega arith
      at_most f (inr e) h = subst (λ k. length relations ≤ most_relations k) e h

  some_values : (t : Fact) → IsTuple relations t → 1 ≤ length t.values
  some_values t good =
      let is = get_or_from_slice_get relations t.relation good.0.0 good.0.0 good.0.1 in
      let sized : IsRelation good.0.0 = subst IsRelation is (All-from_recursion IsRelation relations v.relations t.relation good.0.0 (within t good)) in
      omega (arith, sized.0, good.0.2)

  fact_spoken : (t : Fact) → IsTuple relations t → AllByRecursion IsSpoken (fact_words (written_fact relations t))
  fact_spoken t good =
      let below : t.relation < length (relation_names relations) = omega (arith, within t good, length-map relations (λ (r : RelationSchema). r.name)) in
      (named [] (relation_names relations) t.relation v.relation_names below, (tt, spoken_join (separated (one_word value_word) t.values) (closes ∷ []) (spoken_list (one_word value_word) (IsValue most) spoken_value t.values good.1) (tt, tt)))

  fact_line : (t : Fact) → IsTuple relations t → IsLine (fact_text (written_fact relations t))
  fact_line t good =
      let read = tuples_again s t v good in
      subst IsLine (sym (tuple_directly relations t (plain t good))) (record { utf8 = read.text; single = recursion_from_All (λ b. is_line_feed b ≡ false) (tuple_text relations false t) read.one_line })

  fact_good : (t : Fact) → IsTuple relations t → IsWrittenFact (written_fact relations t)
  fact_good t good = (some_values t good, outer_values t.values good.1)

  mapped : (P : WrittenFact → Type 0) → ((t : Fact) → IsTuple relations t → P (written_fact relations t)) → (ts : List Fact) → AllByRecursion (IsTuple relations) ts → AllByRecursion P (map (written_fact relations) ts)
  mapped P each [] all = tt
  mapped P each (t ∷ ts) all = (each t all.0, mapped P each ts all.1)

  spoken : (c : Choice) → IsChoice relations most c → AllByRecursion IsSpoken (choice_words (written_choice relations c))
  spoken Expand good = (refl, tt)
  spoken (Unify t) good = (refl, fact_spoken t good)
  spoken (Drop ts) good =
      (refl, spoken_list fact_words (λ f. AllByRecursion IsSpoken (fact_words f)) (λ f all. all) (map (written_fact relations) ts) (mapped (λ f. AllByRecursion IsSpoken (fact_words f)) fact_spoken ts good.1))

  sayable : (c : Choice) → IsChoice relations most c → IsWrittenChoice (written_choice relations c)
  sayable Expand good = tt
  sayable (Unify t) good = fact_good t good
  sayable (Drop ts) good = (let n = length-map ts (written_fact relations) in omega (arith, n, good.0), mapped IsWrittenFact fact_good ts good.1)

  members : (c : Choice) → IsChoice relations most c → ChoiceHasMembers (written_choice relations c)
  members Expand good = tt
  members (Unify t) good = some_values t good
  members (Drop ts) good = (let n = length-map ts (written_fact relations) in omega (arith, n, good.0), mapped HasValue some_values ts good.1)

  line : (c : Choice) → IsChoice relations most c → IsLine (texts.choice_text (written_choice relations c))
  line Expand good = record { utf8 = IsUtf8-are_ascii (codes "expand") refl; single = (refl, (refl, (refl, (refl, (refl, (refl, tt)))))) }
  line (Unify t) good =
      line_join (codes "unify ") (fact_text (written_fact relations t)) (record { utf8 = IsUtf8-are_ascii (codes "unify ") refl; single = (refl, (refl, (refl, (refl, (refl, (refl, tt)))))) }) (fact_line t good)
  line (Drop []) good = absurd (omega (arith, good.0))
  line (Drop (t ∷ ts)) good =
      line_join (codes "delete ") (fact_text (written_fact relations t) ++ flat_map (λ f. 44 ∷ 32 ∷ fact_text f) (map (written_fact relations) ts))
      (record { utf8 = IsUtf8-are_ascii (codes "delete ") refl; single = (refl, (refl, (refl, (refl, (refl, (refl, (refl, tt))))))) })
      (line_join (fact_text (written_fact relations t)) (flat_map (λ f. 44 ∷ 32 ∷ fact_text f) (map (written_fact relations) ts)) (fact_line t good.1.0)
      (others fact_text (λ f. IsLine (fact_text f)) (λ f all. all) (map (written_fact relations) ts) (mapped (λ f. IsLine (fact_text f)) fact_line ts good.1.1)))

  known_all : (ts : List Fact) → AllByRecursion (IsTuple relations) ts → known_facts relations (map (written_fact relations) ts) ≡ Some ts
  known_all [] all = refl
  known_all (t ∷ ts) all = rw ((tuples_again s t v all.0).meant, known_all ts all.1) refl

  known : (c : Choice) → IsChoice relations most c → known_choice relations (written_choice relations c) ≡ Some c
  known Expand good = refl
  known (Unify t) good = ap (λ r. option_map Unify (known_fact r)) (tuples_again s t v good).meant
  known (Drop ts) good = ap (option_map Drop) (known_all ts good.1)

  pub read_again : (c : Choice) → IsChoice relations most c → IsReadAgain relations c
  read_again c good =
      let ws = choice_words (written_choice relations c) in
      let l = subst IsLine (sym (laid directly (written_choice relations c) (members c good))) (line c good) in
      record {
        written = written_choice relations c;
        spelled = record {
          utf8 = l.utf8;
          one_line = All-from_recursion (λ b. is_line_feed b ≡ false) (laid_out ws) l.single;
          words = rw (words_again ws (spoken c good)) (choice_again again (written_choice relations c) (sayable c good));
        };
        known = known c good;
      }
