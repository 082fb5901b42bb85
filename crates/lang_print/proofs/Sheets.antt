-- The text of a page of lines.
use Rattle.std.proofs.Common.{◌≡◌, ◌∙◌, ℕ, false, List, [], ◌∷◌, ◌++◌, map, refl, sym, ap, append_assoc, append-nil}
use Rattle.std.specs.Prelude.{fold, flat_map}
use Rattle.std.proofs.lemmas.List.Sums.{fold-append}
use Rattle.def_language.specs.Words.{Word}
use Rattle.def_language.specs.Layout.{laid_out}
use Rattle.lang_schema.specs.Pages.{Written, blank}
use Rattle.lang_schema.proofs.Lined.{line_text}
use Rattle.def_language.specs.Statements.{Statement, Header, End}
use Rattle.def_language.specs.Grammar.{statement_words}
use Rattle.def_language.specs.Printing.{printed, statements_of, update_statements}
use Rattle.def_language.specs.Sessions.{SessionData}
use Rattle.lang_print.specs.Lines.{base_statements, mapping_statements, relation_statement, with_line, with_lines}

-- lines that follow a page which ends with a line feed
pub lines_after : {A : Type 0} (words : A → List Word) (page : Written) (items : List A) → page.apart ≡ false
    → (with_lines words page items).text ≡ page.text ++ flat_map (λ x. laid_out (words x) ++ 10 ∷ []) items
lines_after words page [] start = sym (append-nil page.text)
lines_after words page (x ∷ items) start =
    lines_after words (with_line page (words x)) items refl
    ∙ ap (λ (t : List ℕ). (t ++ 10 ∷ []) ++ flat_map (λ y. laid_out (words y) ++ 10 ∷ []) items) (line_text page (words x) start)
    ∙ ap (λ (t : List ℕ). t ++ flat_map (λ y. laid_out (words y) ++ 10 ∷ []) items) (append_assoc page.text (laid_out (words x)) (10 ∷ []))
    ∙ append_assoc page.text (laid_out (words x) ++ 10 ∷ []) (flat_map (λ y. laid_out (words y) ++ 10 ∷ []) items)

-- lines on a page of their own
pub lines_alone : {A : Type 0} (words : A → List Word) (items : List A) → (with_lines words blank items).text ≡ flat_map (λ x. laid_out (words x) ++ 10 ∷ []) items
lines_alone words items = lines_after words blank items refl

-- a fold over a first item, four lists and a last item
pub in_six_parts : {A B : Type 0} (step : B → A → B) (start : B) (x : A) (ws xs ys zs : List A) (y : A)
    → step (fold step (fold step (fold step (fold step (step start x) ws) xs) ys) zs) y ≡ fold step start (x ∷ (ws ++ (xs ++ (ys ++ (zs ++ y ∷ [])))))
in_six_parts step start x ws xs ys zs y =
    sym (fold-append step (step start x) ws (xs ++ (ys ++ (zs ++ y ∷ [])))
    ∙ fold-append step (fold step (step start x) ws) xs (ys ++ (zs ++ y ∷ []))
    ∙ fold-append step (fold step (fold step (step start x) ws) xs) ys (zs ++ y ∷ [])
    ∙ fold-append step (fold step (fold step (fold step (step start x) ws) xs) ys) zs (y ∷ []))

-- the parts of a session, one after the other
pub session_text : (s : SessionData) (header relations mappings base updates whole : Written)
    → header ≡ with_line blank (statement_words (Header s.format))
    → relations ≡ with_lines statement_words header (map relation_statement s.relations)
    → mappings ≡ with_lines statement_words relations (mapping_statements s.relations s.mappings)
    → base ≡ with_lines statement_words mappings (base_statements s.relations s.base)
    → updates ≡ with_lines statement_words base (flat_map (update_statements s) s.updates)
    → whole ≡ with_line updates (statement_words End) → whole.text ≡ printed s
session_text s header relations mappings base updates whole h r m b u e =
    let step : Written → Statement → Written = λ page st. with_line page (statement_words st) in
    let parts : whole ≡ step (fold step (fold step (fold step (fold step (step blank (Header s.format)) (map relation_statement s.relations)) (mapping_statements s.relations s.mappings)) (base_statements s.relations s.base)) (flat_map (update_statements s) s.updates)) End =
    e ∙ ap (λ (p : Written). step p End) (u ∙ ap (λ (p : Written). fold step p (flat_map (update_statements s) s.updates)) (b ∙ ap (λ (p : Written). fold step p (base_statements s.relations s.base)) (m ∙ ap (λ (p : Written). fold step p (mapping_statements s.relations s.mappings)) (r ∙ ap (λ (p : Written). fold step p (map relation_statement s.relations)) h)))) in
    ap (λ (p : Written). p.text) (parts ∙ in_six_parts step blank (Header s.format) (map relation_statement s.relations) (mapping_statements s.relations s.mappings) (base_statements s.relations s.base) (flat_map (update_statements s) s.updates) End)
    ∙ lines_alone statement_words (statements_of s)
