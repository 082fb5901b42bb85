-- The printed form of a session ends with the first line that is an end.
use Rattle.std.specs.Prelude.{◌≡◌, ℕ, pos, Bool, true, false, List, [], ◌∷◌, ◌++◌, map, flat_map, slice_get, is_some, codes, Ok, if◌then◌else◌}
use Rattle.std.proofs.Common.{refl, sym, ap, subst, ◌∙◌, append_assoc, append-nil}
use Rattle.std.specs.List as lists
use Rattle.std.specs.List.{AllByRecursion, slice_split}
use Rattle.std.proofs.lemmas.Bool.{false≢true}
use Rattle.std.proofs.lemmas.Grind.{flat_map-append}
use Rattle.std.proofs.lemmas.List.Concat.{flat_map-cons}
use Rattle.audit_claims.specs.Parts.{are_end, bare, from, is_end, lines_in, onto_first}
use Rattle.def_language.specs.Forms.{Section, Relations, section_of}
use Rattle.def_language.specs.Grammar.{statement_words}
use Rattle.def_language.specs.Layout.{IsSpoken, laid_out}
use Rattle.def_language.specs.Lines.{lines_of}
use Rattle.def_language.specs.Printing.{line_text, printed, statements_of, update_statements, written_fact, written_mapping}
use Rattle.def_language.specs.Sessions.{SessionData, initial_mappings}
use Rattle.def_language.specs.Statements.{Statement, Header, Relation, Mapping, Base, Update, Answer, End}
use Rattle.def_language.specs.Words.{Word, words_at}
use Rattle.def_language.specs.Inputs.{AreInOrder, IsInner, IsInput, Say, blank, says}
use Rattle.def_language.specs.Bytes.{is_line_feed}
use Rattle.cmd_laws.specs.Circle.{IsClosed}
use Rattle.cmd_laws.proofs.Lines.{bare_cut, has_line, is_fed, lines_join}
use Rattle.cmd_laws.proofs.Results.{free, laid_free}

-- ---- the lines between line feeds, and those with them

-- what is left after the last line feed, where that is the last byte
abbrev tail : List ℕ → List (List ℕ)
tail text = if is_fed text then [] ∷ [] else []

onto_bare : (b : ℕ) (ls ms : List (List ℕ)) → is_line_feed b ≡ false → is_some (slice_get ls 0) ≡ true → lists.onto_first b (map bare ls ++ ms) ≡ map bare (onto_first b ls) ++ ms
onto_bare b [] ms e some = absurd (false≢true some)
onto_bare b (l ∷ ls) ms e some = rw e refl

split_is : (text : List ℕ) → slice_split is_line_feed text ≡ map bare (lines_in text) ++ tail text
split_is [] = refl
split_is (b ∷ []) = by (is_line_feed b) refl
  where
    by : (c : Bool) → is_line_feed b ≡ c → slice_split is_line_feed (b ∷ []) ≡ map bare (lines_in (b ∷ [])) ++ tail (b ∷ [])
    by true e = rw e (rw e refl)
    by false e = rw e (rw e refl)
split_is (b ∷ d ∷ bs) = by (is_line_feed b) refl (split_is (d ∷ bs))
  where
    by : (c : Bool) → is_line_feed b ≡ c → slice_split is_line_feed (d ∷ bs) ≡ map bare (lines_in (d ∷ bs)) ++ tail (d ∷ bs)
        → slice_split is_line_feed (b ∷ d ∷ bs) ≡ map bare (lines_in (b ∷ d ∷ bs)) ++ tail (d ∷ bs)
    by true e rest = rw e (rw e (ap (λ ls. [] ∷ ls) rest))
    by false e rest = rw e (ap (lists.onto_first b) rest ∙ onto_bare b (lines_in (d ∷ bs)) (tail (d ∷ bs)) e (has_line d bs))

-- ---- the first line that is an end

-- the statement is not the end
abbrev IsOther : Statement → Type 0
IsOther st = are_end (Ok (statement_words st)) ≡ false

inner_other : (st : Statement) → IsInner st → IsOther st
inner_other (Header format) inner = absurd inner
inner_other (Relation n columns) inner = refl
inner_other (Mapping m) inner = refl
inner_other (Base fact) inner = refl
inner_other (Update label curator operation) inner = refl
inner_other (Answer label choice) inner = refl
inner_other End inner = absurd inner

inner_others : (section : Section) (sts : List Statement) → AreInOrder section sts → AllByRecursion IsOther sts
inner_others section [] all = tt
inner_others section (st ∷ sts) all = (inner_other st all.0, inner_others (section_of st) sts all.2)

-- no end among lines that say nothing
no_end : (ls : List (List ℕ)) (l : List ℕ) (rest : List (List ℕ)) → Say (map bare (ls ++ l ∷ []) ++ rest) [] → is_end l ≡ true → ⊥
no_end [] l rest (blank w say) h = false≢true (sym (ap are_end w) ∙ h)
no_end (k ∷ ls) l rest (blank w say) h = no_end ls l rest say h

ends : (ls : List (List ℕ)) (l : List ℕ) (rest : List (List ℕ)) (sts whole : List Statement) → whole ≡ sts ++ End ∷ [] → AllByRecursion IsOther sts → is_end l ≡ true → Say (map bare (ls ++ l ∷ []) ++ rest) whole
    → from is_end (ls ++ l ∷ []) ≡ l ∷ []
ends [] l rest sts whole e others h say = rw h refl
ends (k ∷ ls) l rest sts whole e others h (blank w say) = let off : is_end k ≡ false = ap are_end w in rw off (ends ls l rest sts whole e others h say)
ends (k ∷ ls) l rest sts (st ∷ after) e others h (says w say) = at sts e others (λ more f good. ends ls l rest more after f good h say)
  where
    at : (ts : List Statement) → st ∷ after ≡ ts ++ End ∷ [] → AllByRecursion IsOther ts
        → ((more : List Statement) → after ≡ more ++ End ∷ [] → AllByRecursion IsOther more → from is_end (ls ++ l ∷ []) ≡ l ∷ [])
        → from is_end (k ∷ (ls ++ l ∷ [])) ≡ l ∷ []
    at [] f good next = let none : after ≡ [] = cc in absurd (no_end ls l rest (subst (λ us. Say (map bare (ls ++ l ∷ []) ++ rest) us) none say) h)
    at (t ∷ ts) f good next =
        let same : st ≡ t = cc in
        let left : after ≡ ts ++ End ∷ [] = cc in
        let off : is_end k ≡ false = ap are_end w ∙ subst (λ (x : Statement). are_end (Ok (statement_words x)) ≡ false) (sym same) good.0 in
        rw off (next ts left good.1)

-- ---- the printed form

fed_join : (xs ys : List ℕ) → is_fed ys ≡ true → is_fed (xs ++ 10 ∷ ys) ≡ true
fed_join [] [] fed = refl
fed_join [] (y ∷ ys) fed = fed
fed_join (x ∷ []) ys fed = fed_join [] ys fed
fed_join (x ∷ y ∷ xs) ys fed = fed_join (y ∷ xs) ys fed

fed_lines : (sts : List Statement) → is_fed (flat_map line_text sts) ≡ true
fed_lines [] = refl
fed_lines (st ∷ sts) =
    ap is_fed (flat_map-cons line_text st sts ∙ append_assoc (laid_out (statement_words st)) (10 ∷ []) (flat_map line_text sts)) ∙ fed_join (laid_out (statement_words st)) (flat_map line_text sts) (fed_lines sts)

-- the words of a line are read again
abbrev pub WordsAgain : Type 0
WordsAgain = (words : List Word) → AllByRecursion IsSpoken words → words_at (laid_out words) ≡ Ok words

end_is : WordsAgain → is_end (line_text End) ≡ true
end_is again =
    ap (λ t. are_end (words_at t)) (bare_cut (laid_out (statement_words End)) [] (laid_free (statement_words End) (free (codes "end") refl, tt)))
    ∙ ap are_end (again (statement_words End) (refl, tt))

module _ (s : SessionData) where
  abbrev relations_of : List Statement
  relations_of = map (λ r. Relation r.name (pos r.arity)) s.relations

  abbrev mappings_of : List Statement
  mappings_of = map (λ m. Mapping (written_mapping s.relations m)) (initial_mappings s.mappings)

  abbrev base_of : List Statement
  base_of = map (λ t. Base (written_fact s.relations t)) s.base

  abbrev updates_of : List Statement
  updates_of = flat_map (update_statements s) s.updates

  abbrev front : List Statement
  front = Header s.format ∷ (relations_of ++ (mappings_of ++ (base_of ++ updates_of)))

  parted : statements_of s ≡ front ++ End ∷ []
  parted =
      ap (λ ts. Header s.format ∷ ts)
      (ap (λ ts. relations_of ++ ts) (ap (λ ts. mappings_of ++ ts) (sym (append_assoc base_of updates_of (End ∷ [])))
      ∙ sym (append_assoc mappings_of (base_of ++ updates_of) (End ∷ [])))
      ∙ sym (append_assoc relations_of (mappings_of ++ (base_of ++ updates_of)) (End ∷ [])))

  text_is : printed s ≡ flat_map line_text front ++ line_text End
  text_is =
      ap (flat_map line_text) parted ∙ flat_map-append line_text front (End ∷ [])
      ∙ ap (λ t. flat_map line_text front ++ t) (flat_map-cons line_text End [] ∙ append-nil (line_text End))

  lines_are : lines_in (printed s) ≡ lines_in (flat_map line_text front) ++ line_text End ∷ []
  unfolding laid_out
  lines_are = ap lines_in text_is ∙ lines_join (flat_map line_text front) (line_text End) (fed_lines front)

  -- It ends with the line feed of its `end`.
  pub printed_closed : WordsAgain → IsInput (printed s) s → IsClosed (printed s)
  printed_closed again input =
      let split : lines_of (printed s) ≡ map bare (lines_in (flat_map line_text front) ++ line_text End ∷ []) ++ tail (printed s) =
      split_is (printed s) ∙ ap (λ ls. map bare ls ++ tail (printed s)) lines_are in
      record {
        line = laid_out (statement_words End);
        last = ap (from is_end) lines_are
            ∙ ends (lines_in (flat_map line_text front)) (line_text End) (tail (printed s)) (Header input.format ∷ input.statements) (Header input.format ∷ input.statements ++ End ∷ []) refl
            (refl, inner_others Relations input.statements input.in_order) (end_is again)
            (subst (λ ls. Say ls (Header input.format ∷ input.statements ++ End ∷ [])) split input.lines);
      }
