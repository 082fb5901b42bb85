-- A tuple that is written at once, and its words one by one; and a text with nothing to be written another way.
use Rattle.std.proofs.Common.{◌≡◌, ◌∙◌, ap, append_assoc, append-nil, refl, sym, ℕ, Bool, true, false, List, [], ◌∷◌, ◌++◌}
use Rattle.std.specs.Prelude.{◌==◌, flat_map}
use Rattle.std.specs.List.{list_all}
use Rattle.std.proofs.lemmas.List.Sums.{fold-append}
use Rattle.def_chase.specs.Values.{Datum, Number, Text, Unknown}
use Rattle.def_language.specs.Words.{name, opens, closes, comma}
use Rattle.def_language.specs.Grammar.{fact_words, one_word, separated, value_word}
use Rattle.def_language.specs.Layout.{written_byte}
use Rattle.def_language.specs.Printing.{joined_text, value_text}
use Rattle.def_language.specs.Statements.{WrittenFact}
use Rattle.lang_schema.specs.Pages.{Written, is_plain, space, with_word, with_words}
use Rattle.lang_schema.proofs.Lined.{separated_is}

abbrev page_of : List ℕ → Bool → Written
page_of t b = record { text = t; apart = b }

-- a value after a word
after_word : (t : List ℕ) (d : Datum) → with_word (page_of t true) (value_word d) ≡ page_of (t ++ 32 ∷ value_text false d) true
after_word t (Number z) = refl
after_word t (Text bs) = refl
after_word t (Unknown n) = refl

-- a value after `(`
after_open : (t : List ℕ) (d : Datum) → with_word (page_of t false) (value_word d) ≡ page_of (t ++ value_text false d) true
after_open t (Number z) = refl
after_open t (Text bs) = refl
after_open t (Unknown n) = refl

abbrev others_text : List Datum → List ℕ
others_text ds = flat_map (λ d. 44 ∷ 32 ∷ value_text false d) ds

-- values, each after a comma
others_added : (t : List ℕ) (ds : List Datum)
    → with_words (page_of t true) (flat_map (λ d. comma ∷ one_word value_word d) ds) ≡ page_of (t ++ others_text ds) true
others_added t [] = ap (λ (u : List ℕ). page_of u true) (sym (append-nil t))
others_added t (d ∷ ds) =
    ap (λ (p : Written). with_words p (flat_map (λ e. comma ∷ one_word value_word e) ds)) (after_word (t ++ 44 ∷ []) d)
    ∙ others_added ((t ++ 44 ∷ []) ++ 32 ∷ value_text false d) ds
    ∙ ap (λ (u : List ℕ). page_of u true)
    (append_assoc (t ++ 44 ∷ []) (32 ∷ value_text false d) (others_text ds) ∙ append_assoc t (44 ∷ []) (32 ∷ (value_text false d ++ others_text ds)))

-- all values and `)`, after `(`
values_added : (t : List ℕ) (ds : List Datum)
    → with_word (with_words (page_of t false) (separated (one_word value_word) ds)) closes ≡ page_of (t ++ (joined_text (value_text false) ds ++ 41 ∷ [])) true
values_added t [] = refl
values_added t (d ∷ ds) =
    ap (λ (p : Written). with_word p closes) (
    ap (with_words (page_of t false)) (separated_is (one_word value_word) d ds)
    ∙ ap (λ (p : Written). with_words p (flat_map (λ e. comma ∷ one_word value_word e) ds)) (after_open t d)
    ∙ others_added (t ++ value_text false d) ds
    )
    ∙ ap (λ (u : List ℕ). page_of u true) (
    ap (λ (u : List ℕ). u ++ 41 ∷ []) (append_assoc t (value_text false d) (others_text ds))
    ∙ append_assoc t (value_text false d ++ others_text ds) (41 ∷ [])
    )

named : (page : Written) (n : List ℕ) → with_word page (name n) ≡ page_of ((page.text ++ space page.apart) ++ n) true
named page n = by page.text page.apart where
  by : (t : List ℕ) (b : Bool) → with_word (page_of t b) (name n) ≡ page_of ((t ++ space b) ++ n) true
  by t true = ap (λ (u : List ℕ). page_of u true) (sym (append_assoc t (32 ∷ []) n))
  by t false = ap (λ (u : List ℕ). page_of (u ++ n) true) (sym (append-nil t))

-- the words of a tuple come to its text
tuple_added : (page : Written) (w : WrittenFact)
    → page_of ((page.text ++ space page.apart) ++ (w.relation ++ (40 ∷ (joined_text (value_text false) w.values ++ 41 ∷ [])))) true ≡ with_words page (fact_words w)
tuple_added page w =
    let t = page.text ++ space page.apart in
    sym (
    ap (λ (p : Written). with_words p (opens ∷ (separated (one_word value_word) w.values ++ closes ∷ []))) (named page w.relation)
    ∙ fold-append with_word (page_of ((t ++ w.relation) ++ 40 ∷ []) false) (separated (one_word value_word) w.values) (closes ∷ [])
    ∙ values_added ((t ++ w.relation) ++ 40 ∷ []) w.values
    ∙ ap (λ (u : List ℕ). page_of u true) (
    append_assoc (t ++ w.relation) (40 ∷ []) (joined_text (value_text false) w.values ++ 41 ∷ [])
    ∙ append_assoc t w.relation (40 ∷ (joined_text (value_text false) w.values ++ 41 ∷ []))
    )
    )

-- What is added to the text of a page as a tuple is its words.
pub tuple_after : (page : Written) (w : WrittenFact) (t : List ℕ) (b : Bool) (spaced u : List ℕ) → page_of t b ≡ page → spaced ≡ t ++ space b
    → u ≡ spaced ++ (w.relation ++ (40 ∷ (joined_text (value_text false) w.values ++ 41 ∷ []))) → page_of u true ≡ with_words page (fact_words w)
tuple_after page w t b spaced u is e f =
    ap (λ (v : List ℕ). page_of v true) (f ∙ ap (λ (v : List ℕ). v ++ (w.relation ++ (40 ∷ (joined_text (value_text false) w.values ++ 41 ∷ [])))) e)
    ∙ tuple_added (page_of t b) w
    ∙ ap (λ (p : Written). with_words p (fact_words w)) is

as_it_is : (b : ℕ) → is_plain b ≡ true → written_byte b ≡ b ∷ []
as_it_is b e = by (b == 34) (b == 92) (b == 10) refl refl refl e where
  by : (p q r : Bool) → (b == 34) ≡ p → (b == 92) ≡ q → (b == 10) ≡ r → is_plain b ≡ true → written_byte b ≡ b ∷ []
  by true q r f g h e = let bad : false ≡ true = rw f at e in cc
  by false true r f g h e = let bad : false ≡ true = rw (f, g) at e in cc
  by false false true f g h e = let bad : false ≡ true = rw (f, g, h) at e in cc
  by false false false f g h e = rw (f, g, h) refl

-- A text of such bytes is written as it is.
pub plain_text : (text : List ℕ) → list_all is_plain text ≡ true → flat_map written_byte text ≡ text
plain_text [] e = refl
plain_text (b ∷ text) e = by (plain_text text) (is_plain b) refl e where
  by : (list_all is_plain text ≡ true → flat_map written_byte text ≡ text) → (p : Bool) → is_plain b ≡ p → list_all is_plain (b ∷ text) ≡ true → flat_map written_byte (b ∷ text) ≡ b ∷ text
  by rest false f e = let bad : false ≡ true = rw f at e in cc
  by rest true f e = let others : flat_map written_byte text ≡ text = rest (rw f at e) in rw (as_it_is b f, others) refl
