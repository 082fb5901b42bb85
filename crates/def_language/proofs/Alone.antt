-- A tuple on a line by itself is read again, and what is read from a line is a tuple.
use Rattle.std.proofs.Common.{◌≡◌, ℕ, ◌-◌, ◌<◌, ◌≤◌, ◌^◌, ◌==◌, inl, inr, true, false, List, [], ◌∷◌, length, refl, ap, ◌∙◌, subst, arith, append-nil}
use Rattle.std.specs.Prelude.{◌⊎◌, Result, Ok, Err, IsUtf8, All}
use Rattle.std.specs.List.{AllByRecursion, list_all}
use Rattle.std.proofs.lemmas.Bool.{and_parts}
use Rattle.std.proofs.lemmas.Bool.Decides.{nat_tests}
use Rattle.std.proofs.lemmas.List.Elements.{All-from_recursion}
use Rattle.std.proofs.lemmas.Option.{slice_get_within}
use Rattle.def_chase.specs.Values.{Datum, Number, Text, Unknown, Fact}
use Rattle.def_chase.specs.Mappings.{force_relation}
use Rattle.def_language.specs.Bytes.{is_line_feed}
use Rattle.def_language.specs.Words.{Word, closes, words_at}
use Rattle.def_language.specs.Lines.{placed_words}
use Rattle.def_language.specs.Parts.{end_at, fact_at, whole}
use Rattle.def_language.specs.declared.tokens.LexRefusal.{LexRefusal}
use Rattle.def_language.specs.Grammar.{value_word, one_word, fact_words}
use Rattle.def_language.specs.Layout.{laid_out}
use Rattle.def_language.specs.Lone.{IsReadAgain, IsTuple, lone_fact}
use Rattle.def_language.specs.Meaning.{relation_of, fact_of}
use Rattle.def_language.specs.Printing.{tuple_text, written_fact}
use Rattle.def_language.specs.Sayable.{IsOuter, IsWrittenFact}
use Rattle.def_language.specs.Sessions.{RelationSchema, SessionData, most_relations}
use Rattle.def_language.specs.Statements.{WrittenFact}
use Rattle.def_language.specs.Validity.{IsSession, IsValue, HasColumns}
use Rattle.def_language.proofs.Again.{fact_again}
use Rattle.def_language.proofs.Direct.{fact_laid}
use Rattle.def_language.proofs.Listened.{words_printed}
use Rattle.def_language.proofs.Many.{bind_ok, ok_is}
use Rattle.def_language.proofs.Means.{relation_again}
use Rattle.def_language.proofs.Pages.{words_again}
use Rattle.def_language.proofs.Paper.{IsLine, is_within_line, laid_line}
use Rattle.def_language.proofs.Passed.{parts_printed, relation_found}
use Rattle.def_language.proofs.Runs.{spoken_words}
use Rattle.def_language.proofs.Sole.{whole_fact_only}
use Rattle.def_language.proofs.Spoken.{ArePrinted, fact_printed, fact_sayable}
use Rattle.def_language.proofs.Utf.{laid_text}

-- ---- what is printed

few : (f n : ℕ) → (f ≡ 1) ⊎ (f ≡ 2) → n ≤ most_relations f → n ≤ 128
few f n (inl e) h = let l : n ≤ 64 = subst (λ k. n ≤ most_relations k) e h in omega arith
few f n (inr e) h = subst (λ k. n ≤ most_relations k) e h

plain : (s : SessionData) (t : Fact) → IsSession s → HasColumns s.relations t.relation (length t.values) → (t.relation == force_relation) ≡ false
plain s t v has =
    let below : t.relation < length s.relations = slice_get_within s.relations t.relation has.0 has.1 in
    let most : length s.relations ≤ 128 = few s.format (length s.relations) v.format v.relation_count in
    let apart : (t.relation == 65535) ≡ false = grind (arith, nat_tests) in apart

no_feed : (b : ℕ) → is_within_line b ≡ true → is_line_feed b ≡ false
no_feed b e = grind (arith, nat_tests)

no_feeds : (line : List ℕ) → IsLine line → AllByRecursion (λ b. is_line_feed b ≡ false) line
no_feeds [] all = tt
no_feeds (b ∷ line) all = let parts = and_parts (is_within_line b) (list_all is_within_line line) all in (no_feed b parts.0, no_feeds line parts.1)

printed_form : (relations : List RelationSchema) (t : Fact) → (t.relation == force_relation) ≡ false → IsWrittenFact (written_fact relations t)
    → laid_out (fact_words (written_fact relations t)) ≡ tuple_text relations false t
printed_form relations t e good = fact_laid (written_fact relations t) good.0 ∙ rw e refl

whole_again : (fact : WrittenFact) → IsWrittenFact fact → whole (fact_at (fact_words fact)) ≡ Ok fact
unfolding whole end_at
whole_again fact good =
    let read : WrittenFact × List Word = (fact, []) in
    let again : fact_at (fact_words fact) ≡ Ok read = subst (λ ws. fact_at ws ≡ Ok read) (append-nil (fact_words fact)) (fact_again fact [] good) in
    rw again refl

pub tuple_again : (s : SessionData) (t : Fact) → IsSession s → IsTuple s.relations t → IsReadAgain s.relations t
unfolding fact_of
tuple_again s t v fits =
    let most : 2 ^ 32 - 1 < 2 ^ 32 = omega arith in
    let words : ArePrinted (fact_words (written_fact s.relations t)) = fact_printed s.relations v.relation_names v.relations (2 ^ 32 - 1) most t fits in
    let good : IsWrittenFact (written_fact s.relations t) = fact_sayable s.relations v.relation_names v.relations (2 ^ 32 - 1) t fits in
    let form : laid_out (fact_words (written_fact s.relations t)) ≡ tuple_text s.relations false t = printed_form s.relations t (plain s t v fits.0) good in
    record {
      text = subst IsUtf8 form (laid_text (fact_words (written_fact s.relations t)) words);
      one_line = subst (All (λ b. is_line_feed b ≡ false)) form
          (All-from_recursion _ _ (no_feeds (laid_out (fact_words (written_fact s.relations t))) (laid_line (fact_words (written_fact s.relations t)) (spoken_words (fact_words (written_fact s.relations t)) words))));
      read = subst (λ line. lone_fact line ≡ Ok (written_fact s.relations t)) form
          (rw (words_again (fact_words (written_fact s.relations t)) (spoken_words (fact_words (written_fact s.relations t)) words)) (whole_again (written_fact s.relations t) good));
      meant = rw (relation_again s.relations t.relation (length t.values) v.relation_names fits.0) refl;
    }

-- ---- what is read

values_are : (ds : List Datum) → AllByRecursion IsOuter ds → AllByRecursion (λ d. ArePrinted (one_word value_word d)) ds → AllByRecursion (IsValue (2 ^ 32 - 1)) ds
values_are [] outer printed = tt
values_are (Number z ∷ ds) outer printed = (printed.0.0.0, values_are ds outer.1 printed.1)
values_are (Text t ∷ ds) outer printed = ((printed.0.0.0, printed.0.0.1), values_are ds outer.1 printed.1)
values_are (Unknown n ∷ ds) outer printed =
    let low : n.update < 2 ^ 32 = printed.0.0.0.0 in
    ((outer.0, omega arith, printed.0.0.0.1), values_are ds outer.1 printed.1)

placed : (r : Result (List Word) LexRefusal) (ws : List Word) → placed_words 0 r ≡ Ok ws → r ≡ Ok ws
placed (Ok vs) ws e = ap (λ (z : List Word). Ok z) (ok_is vs ws e)
placed (Err refusal) ws e = let f : ⊥ = cc in absurd f

pub line_says : (relations : List RelationSchema) (line : List ℕ) (fact : WrittenFact) (t : Fact) → IsUtf8 line → lone_fact line ≡ Ok fact → fact_of relations fact ≡ Ok t → IsTuple relations t
unfolding fact_of
line_says relations line fact t text read meant =
    let words = bind_ok (placed_words 0 (words_at line)) (λ ws. whole (fact_at ws)) fact read in
    let only = whole_fact_only words.0 fact words.2 in
    let printed : ArePrinted (fact_words fact) = subst ArePrinted only.1 (words_printed line words.0 text (placed (words_at line) words.0 words.1)) in
    let relation = bind_ok (relation_of relations fact.relation (length fact.values)) _ t meant in
    let got : Fact = record { relation = relation.0; values = fact.values } in
    subst (IsTuple relations) (ok_is got t relation.2)
    (relation_found relations fact.relation (length fact.values) relation.0 relation.1, values_are fact.values only.0.1 (parts_printed (one_word value_word) fact.values (closes ∷ []) printed.1.1))
