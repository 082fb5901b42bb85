-- The lines of entries, one by one and as one text.
use Rattle.std.specs.Prelude.{◌≡◌, ℕ, suc, false, List, [], ◌∷◌, ◌++◌, flat_map, length}
use Rattle.std.proofs.Common.{refl, sym, ap, subst, ◌∙◌}
use Rattle.std.specs.List.{AllByRecursion}
use Rattle.std.proofs.lemmas.Bool.{false≢true}
use Rattle.std.proofs.lemmas.List.{append_assoc}
use Rattle.std.proofs.lemmas.List.Concat.{flat_map-cons}
use Rattle.std.proofs.lemmas.List.Elements.{recursion_from_All}
use Rattle.def_language.specs.Sessions.{RelationSchema}
use Rattle.def_history.specs.PlainEntries.{PlainEntry}
use Rattle.def_language.specs.Bytes.{is_line_feed}
use Rattle.lang_reader.specs.Places.{IsOneLine}
use Rattle.audit_trace.specs.Traces.{entry_line, trace_text}
use Rattle.audit_claims.specs.Forms.{HasLines, IsOf, counted, ended}
use Rattle.audit_claims.specs.Verdicts.{AreLinesOf, IsLineOf}
use Rattle.audit_claims.proofs.Cuts.{cut_once}

-- The lines go on with this one.
pub record GoesOn (lines : List (List ℕ)) (line after : List ℕ) : Type 0 where
  pub others : List (List ℕ)
  pub is : lines ≡ line ∷ others
  pub of : IsOf after others

pub goes_on : (text line after : List ℕ) (lines : List (List ℕ)) → IsOf text lines → text ≡ line ++ 10 ∷ after → IsOneLine line → GoesOn lines line after
goes_on text line after [] of is one = absurd (nowhere line after (sym is ∙ of.same))
  where
    nowhere : (xs ys : List ℕ) → xs ++ 10 ∷ ys ≡ [] → ⊥
    nowhere [] ys e = let f : ⊥ = cc in f
    nowhere (x ∷ xs) ys e = let f : ⊥ = cc in f
goes_on text line after (l ∷ ls) of is one =
    let same : l ++ 10 ∷ ended ls ≡ line ++ 10 ∷ after = sym (append_assoc l (10 ∷ []) (ended ls)) ∙ sym of.same ∙ is in
    let cut = cut_once l line (ended ls) after (recursion_from_All (λ b. is_line_feed b ≡ false) l of.single.0) (recursion_from_All (λ b. is_line_feed b ≡ false) line one) same in
    record { others = ls; is = ap (λ x. x ∷ ls) cut.line; of = record { same = sym cut.after; single = of.single.1 } }

-- Without a line feed there are none.
pub ends : (text : List ℕ) (lines : List (List ℕ)) → IsOf text lines → IsOneLine text → lines ≡ []
ends text [] of one = refl
ends text (l ∷ ls) of one =
    absurd (fed l (ended ls) (subst (AllByRecursion (λ b. is_line_feed b ≡ false)) (of.same ∙ append_assoc l (10 ∷ []) (ended ls)) (recursion_from_All (λ b. is_line_feed b ≡ false) text one)))
  where
    fed : (xs ys : List ℕ) → AllByRecursion (λ b. is_line_feed b ≡ false) (xs ++ 10 ∷ ys) → ⊥
    fed [] ys all = false≢true (sym all.0)
    fed (x ∷ xs) ys all = fed xs ys all.1

-- ---- entries and their lines

module _ (relations : List RelationSchema) where
  pub line_more : (lines : List (List ℕ)) (H : List PlainEntry) (line : List ℕ) (x : PlainEntry) → AreLinesOf relations lines H → IsLineOf relations line x
      → AreLinesOf relations (lines ++ line ∷ []) (H ++ x ∷ [])
  line_more [] [] line x told is = (is, tt)
  line_more [] (h ∷ H) line x told is = absurd told
  line_more (l ∷ ls) [] line x told is = absurd told
  line_more (l ∷ ls) (h ∷ H) line x told is = (told.0, line_more ls H line x told.1 is)

  pub as_many : (lines : List (List ℕ)) (H : List PlainEntry) → AreLinesOf relations lines H → length H ≡ length lines
  as_many [] [] told = refl
  as_many [] (h ∷ H) told = absurd told
  as_many (l ∷ ls) [] told = absurd told
  as_many (l ∷ ls) (h ∷ H) told = ap suc (as_many ls H told.1)

  -- The text of the entries is the lines, each ended by a line feed.
  pub text_of : (lines : List (List ℕ)) (H : List PlainEntry) → AreLinesOf relations lines H → flat_map (entry_line relations) H ≡ ended lines
  text_of [] [] told = refl
  text_of [] (h ∷ H) told = absurd told
  text_of (l ∷ ls) [] told = absurd told
  text_of (l ∷ ls) (h ∷ H) told =
      flat_map-cons (entry_line relations) h H ∙ (λ i. sym told.0.text i ++ text_of ls H told.1 i) ∙ sym (flat_map-cons (λ line. line ++ 10 ∷ []) l ls)

  pub trace_of : (text : List ℕ) (lines : List (List ℕ)) (H : List PlainEntry) → HasLines text lines → AreLinesOf relations lines H → text ≡ trace_text relations H
  trace_of text lines H has told =
      has.head ∙ sym (λ i. counted (as_many lines H told i) (text_of lines H told i))
