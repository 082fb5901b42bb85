-- The lines of what is told, one further, and names by their numbers.
use Rattle.std.proofs.Common.{◌≡◌, ◌∙◌, ℕ, zero, suc, ◌+◌, ◌<◌, List, [], ◌∷◌, ◌++◌, length, map, take, Some, None, refl, sym, ap, arith}
use Rattle.std.specs.Prelude.{fold, slice_get, codes, pos}
use Rattle.std.proofs.lemmas.List.Sums.{fold-append}
use Rattle.base_types.specs.declared.mappings.Mapping.{Mapping}
use Rattle.def_language.specs.Words.{Word, name, number}
use Rattle.def_language.specs.Printing.{name_of}
use Rattle.def_language.specs.Sessions.{SessionUpdate, SessionData, mapping_names}
use Rattle.lang_schema.specs.Meanings.{session_mapping_of}
use Rattle.lang_schema.specs.Pages.{Written, blank}
use Rattle.lang_print.specs.Lines.{with_line, with_lines}
use Rattle.lang_print.proofs.Sheets.{lines_alone}
use Rattle.chase_update.specs.Results.{FinishTold, ResultTold}
use Rattle.lang_report.specs.Results.{finish_lines, finish_words, stop_lines_in, repository_lines, committed_words, result_lines, result_text}

-- what the lines of ended updates come to one place further
pub finishes_more : {A B : Type 0} (step : B → List Word → B) (start now next : B) (us : List SessionUpdate) (n m : ℕ) (f : A → FinishTold) (xs : List A) (i : ℕ) → i < length xs → m ≡ n + i
    → now ≡ fold step start (finish_lines us n (map f (take i xs))) → ((x : A) → slice_get xs i ≡ Some x → next ≡ step now (finish_words us m (f x)))
    → next ≡ fold step start (finish_lines us n (map f (take (suc i) xs)))
finishes_more step start now next us n m f [] i lt e b h = absurd (omega arith)
finishes_more step start now next us n m f (x ∷ xs) zero lt e b h =
    let z : m ≡ n = omega arith in
    h x refl ∙ ap (λ (a : _). step a (finish_words us m (f x))) b ∙ ap (λ (k : ℕ). step start (finish_words us k (f x))) z
finishes_more step start now next us n m f (x ∷ xs) (suc i) lt e b h = finishes_more step (step start (finish_words us n (f x))) now next us (n + 1) m f xs i (omega arith) (omega arith) b h

-- the parts of the result text, one after the other
pub told_text : (s : SessionData) (r : ResultTold) (title finished stopped held whole : Written)
    → title ≡ with_line blank (name (codes "youtopia") ∷ name (codes "result") ∷ number (pos 1) ∷ [])
    → finished ≡ with_lines (λ words. words) title (finish_lines s.updates 1 r.finishes)
    → stopped ≡ with_lines (λ words. words) finished (stop_lines_in s r.stop)
    → held ≡ with_lines (λ words. words) stopped (repository_lines s.relations r.repository)
    → whole ≡ with_line held (committed_words r.finishes s.updates) → whole.text ≡ result_text s r
told_text s r title finished stopped held whole t f p h w =
    let step : Written → List Word → Written = with_line in
    let first : List Word = name (codes "youtopia") ∷ name (codes "result") ∷ number (pos 1) ∷ [] in
    let fs : List (List Word) = finish_lines s.updates 1 r.finishes in
    let ps : List (List Word) = stop_lines_in s r.stop in
    let rs : List (List Word) = repository_lines s.relations r.repository in
    let parts : whole ≡ step (fold step (fold step (fold step (step blank first) fs) ps) rs) (committed_words r.finishes s.updates) =
    w ∙ ap (λ (a : Written). step a (committed_words r.finishes s.updates)) (h ∙ ap (λ (a : Written). fold step a rs) (p ∙ ap (λ (a : Written). fold step a ps) (f ∙ ap (λ (a : Written). fold step a fs) t))) in
    ap (λ (a : Written). a.text) (parts ∙ in_five_parts step blank first fs ps rs (committed_words r.finishes s.updates)) ∙ lines_alone (λ (words : List Word). words) (result_lines s r)
  where
    in_five_parts : {A B : Type 0} (step : B → A → B) (start : B) (x : A) (ws xs ys : List A) (y : A)
        → step (fold step (fold step (fold step (step start x) ws) xs) ys) y ≡ fold step start (x ∷ (ws ++ (xs ++ (ys ++ y ∷ []))))
    in_five_parts step start x ws xs ys y =
        sym (fold-append step (step start x) ws (xs ++ (ys ++ y ∷ []))
        ∙ fold-append step (fold step (step start x) ws) xs (ys ++ y ∷ [])
        ∙ fold-append step (fold step (fold step (step start x) ws) xs) ys (y ∷ []))

-- the name of the mapping of a number
pub mapping_name_at : (ms : List Mapping) (i : ℕ) (m : Mapping) → slice_get ms i ≡ Some m → name_of (mapping_names (map session_mapping_of ms)) i ≡ m.name.items
mapping_name_at [] i m at = cc
mapping_name_at (x ∷ ms) zero m at = cc
mapping_name_at (x ∷ ms) (suc i) m at = mapping_name_at ms i m at

pub no_mapping_name_at : (ms : List Mapping) (i : ℕ) → slice_get ms i ≡ None → name_of (mapping_names (map session_mapping_of ms)) i ≡ []
no_mapping_name_at [] i at = refl
no_mapping_name_at (x ∷ ms) zero at = cc
no_mapping_name_at (x ∷ ms) (suc i) at = no_mapping_name_at ms i at
