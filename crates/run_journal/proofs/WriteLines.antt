-- Lines of writes: where each ends, and that no two writes have one text.
use Rattle.std.specs.Prelude.{All, Ok, Result}
use Rattle.std.proofs.Common.{◌≡◌, ℕ, ◌≤◌, ap, refl, ◌∙◌, sym, subst, List, [], ◌∷◌, ◌++◌, length, drop, false, arith, get_or, append_assoc}
use Rattle.std.specs.List.{AllByRecursion}
use Rattle.std.proofs.lemmas.Bool.{both_ways}
use Rattle.std.proofs.lemmas.List.Elements.{recursion_from_All}
use Rattle.def_language.specs.Bytes.{is_line_feed}
use Rattle.def_chase.specs.Values.{Fact}
use Rattle.def_chase.specs.Repository.{Change, Insert, Delete}
use Rattle.def_language.specs.Faults.{Kind}
use Rattle.def_language.specs.Lone.{IsTuple, IsReadAgain, lone_fact}
use Rattle.def_language.specs.Meaning.{fact_of}
use Rattle.def_language.specs.Printing.{tuple_text, written_fact}
use Rattle.def_language.specs.Sessions.{RelationSchema}
use Rattle.run_journal.specs.Format.{write_text, write_lines, IsWrite}

abbrev pub NoFeeds : List ℕ → Type 0
NoFeeds bytes = AllByRecursion (λ b. is_line_feed b ≡ false) bytes

-- each tuple of these relations is read again
abbrev pub AreReadAgain : List RelationSchema → Type 0
AreReadAgain relations = (t : Fact) → IsTuple relations t → IsReadAgain relations t

feed_no : is_line_feed 10 ≡ false → ⊥
feed_no e = both_ways (is_line_feed 10) e refl

pub write_one_line : (relations : List RelationSchema) → AreReadAgain relations → (w : Change) → IsWrite relations w → NoFeeds (write_text relations w)
write_one_line relations again (Insert t) good = (refl, recursion_from_All (λ b. is_line_feed b ≡ false) (tuple_text relations false t) (again t good).one_line)
write_one_line relations again (Delete t) good = (refl, recursion_from_All (λ b. is_line_feed b ≡ false) (tuple_text relations false t) (again t good).one_line)

-- two texts cut at their first line feeds
pub cut_alike : (l m x y : List ℕ) → NoFeeds l → NoFeeds m → l ++ (10 ∷ x) ≡ m ++ (10 ∷ y) → (l ≡ m) × (x ≡ y)
cut_alike [] [] x y a b e = (refl, ap (drop 1) e)
cut_alike [] (c ∷ m) x y a b e = let first : 10 ≡ c = ap (λ xs. get_or xs 0 0) e in absurd (feed_no (subst (λ z. is_line_feed z ≡ false) (sym first) b.0))
cut_alike (c ∷ l) [] x y a b e = let first : c ≡ 10 = ap (λ xs. get_or xs 0 0) e in absurd (feed_no (subst (λ z. is_line_feed z ≡ false) first a.0))
cut_alike (c ∷ l) (d ∷ m) x y a b e =
    let first : c ≡ d = ap (λ xs. get_or xs 0 0) e in
    let rest : (l ≡ m) × (x ≡ y) = cut_alike l m x y a.1 b.1 (ap (drop 1) e) in
    ((λ i. first i ∷ rest.0 i), rest.1)

pub no_feed_within : (l x : List ℕ) → NoFeeds (l ++ (10 ∷ x)) → ⊥
no_feed_within [] x a = feed_no a.0
no_feed_within (c ∷ l) x a = no_feed_within l x a.1

-- the lines of a write and of those after it
pub first_write : (relations : List RelationSchema) (w : Change) (ws : List Change) (rest : List ℕ) → write_lines relations (w ∷ ws) ++ rest ≡ write_text relations w ++ (10 ∷ (write_lines relations ws ++ rest))
first_write relations w ws rest =
    append_assoc (write_text relations w ++ 10 ∷ []) (write_lines relations ws) rest ∙ append_assoc (write_text relations w) (10 ∷ []) (write_lines relations ws ++ rest)

pub one_write : (relations : List RelationSchema) (w : Change) (ws : List Change) → write_lines relations (w ∷ ws) ≡ write_text relations w ++ (10 ∷ write_lines relations ws)
one_write relations w ws = append_assoc (write_text relations w) (10 ∷ []) (write_lines relations ws)

no_lines : (relations : List RelationSchema) (l x : List ℕ) → l ++ (10 ∷ x) ≡ [] → ⊥
no_lines relations [] x e = let f : ⊥ = cc in f
no_lines relations (c ∷ l) x e = let f : ⊥ = cc in f

-- what is left after some of the lines of writes is lines of writes
pub left_lines : (relations : List RelationSchema) → AreReadAgain relations → (done all : List Change) (rest : List ℕ) → AllByRecursion (IsWrite relations) done → AllByRecursion (IsWrite relations) all
    → write_lines relations done ++ rest ≡ write_lines relations all → (left : List Change) × AllByRecursion (IsWrite relations) left × (rest ≡ write_lines relations left)
left_lines relations again [] all rest a b e = (all, b, e)
left_lines relations again (w ∷ done) [] rest a b e = absurd (no_lines relations (write_text relations w) (write_lines relations done ++ rest) (sym (first_write relations w done rest) ∙ e))
left_lines relations again (w ∷ done) (v ∷ all) rest a b e =
    let cut = cut_alike (write_text relations w) (write_text relations v) (write_lines relations done ++ rest) (write_lines relations all)
    (write_one_line relations again w a.0) (write_one_line relations again v b.0) (sym (first_write relations w done rest) ∙ e ∙ one_write relations v all) in
    left_lines relations again done all rest a.1 b.1 cut.1

-- ---- no two writes have one text

ok_is : {A : Type 0} (x y : A) → let p : Result A Kind = Ok x in let q : Result A Kind = Ok y in p ≡ q → x ≡ y
ok_is x y e = cc

pub same_tuple : (relations : List RelationSchema) (s t : Fact) → IsReadAgain relations s → IsReadAgain relations t → tuple_text relations false s ≡ tuple_text relations false t → s ≡ t
same_tuple relations s t a b e =
    let written : written_fact relations s ≡ written_fact relations t = ok_is (written_fact relations s) (written_fact relations t) (sym a.read ∙ ap lone_fact e ∙ b.read) in
    ok_is s t (sym a.meant ∙ ap (fact_of relations) written ∙ b.meant)

signs_apart : ◌≡◌ {A = ℕ} 43 45 → ⊥
signs_apart e = omega arith

pub same_write : (relations : List RelationSchema) → AreReadAgain relations → (w v : Change) → IsWrite relations w → IsWrite relations v → write_text relations w ≡ write_text relations v → w ≡ v
same_write relations again (Insert s) (Insert t) a b e = ap Insert (same_tuple relations s t (again s a) (again t b) (ap (drop 1) e))
same_write relations again (Insert s) (Delete t) a b e = absurd (signs_apart (ap (λ xs. get_or xs 0 0) e))
same_write relations again (Delete s) (Insert t) a b e = absurd (signs_apart (sym (ap (λ xs. get_or xs 0 0) e)))
same_write relations again (Delete s) (Delete t) a b e = ap Delete (same_tuple relations s t (again s a) (again t b) (ap (drop 1) e))

pub same_writes : (relations : List RelationSchema) → AreReadAgain relations → (ws vs : List Change) → AllByRecursion (IsWrite relations) ws → AllByRecursion (IsWrite relations) vs
    → write_lines relations ws ≡ write_lines relations vs → ws ≡ vs
same_writes relations again [] [] a b e = refl
same_writes relations again [] (v ∷ vs) a b e = absurd (no_lines relations (write_text relations v) (write_lines relations vs) (sym (one_write relations v vs) ∙ sym e))
same_writes relations again (w ∷ ws) [] a b e = absurd (no_lines relations (write_text relations w) (write_lines relations ws) (sym (one_write relations w ws) ∙ e))
same_writes relations again (w ∷ ws) (v ∷ vs) a b e =
    let cut = cut_alike (write_text relations w) (write_text relations v) (write_lines relations ws) (write_lines relations vs)
    (write_one_line relations again w a.0) (write_one_line relations again v b.0) (sym (one_write relations w ws) ∙ e ∙ one_write relations v vs) in
    let first : w ≡ v = same_write relations again w v a.0 b.0 cut.0 in
    let rest : ws ≡ vs = same_writes relations again ws vs a.1 b.1 cut.1 in
    λ i. first i ∷ rest i

-- ---- what a line that is no write can't be

pub no_tuple_after : (relations : List RelationSchema) (sign : ℕ) (text : List ℕ) → ((t : Fact) → IsTuple relations t → text ≡ tuple_text relations false t → ⊥)
    → (w : Change) → IsWrite relations w → sign ∷ text ≡ write_text relations w → ⊥
no_tuple_after relations sign text none (Insert t) good e = none t good (ap (drop 1) e)
no_tuple_after relations sign text none (Delete t) good e = none t good (ap (drop 1) e)

-- ---- what text that is no lines of writes can't be

-- what is left has no line feed
pub no_line_left : (relations : List RelationSchema) → AreReadAgain relations → (done all : List Change) (text rest : List ℕ) → AllByRecursion (IsWrite relations) done → text ≡ write_lines relations done ++ rest
    → All (λ b. is_line_feed b ≡ false) rest → 1 ≤ length rest → AllByRecursion (IsWrite relations) all → text ≡ write_lines relations all → ⊥
no_line_left relations again done all text rest a read one some b e =
    let left = left_lines relations again done all rest a b (sym read ∙ e) in
    none left.0 left.2
  where
    none : (ws : List Change) → rest ≡ write_lines relations ws → ⊥
    none [] f = omega (arith, some, ap length f)
    none (w ∷ ws) f = no_feed_within (write_text relations w) (write_lines relations ws) (subst NoFeeds (f ∙ one_write relations w ws) (recursion_from_All (λ b. is_line_feed b ≡ false) rest one))

-- the line that comes next is no write
pub no_write_next : (relations : List RelationSchema) → AreReadAgain relations → (done all : List Change) (text rest line more : List ℕ) → AllByRecursion (IsWrite relations) done → text ≡ write_lines relations done ++ rest
    → rest ≡ line ++ (10 ∷ more) → All (λ b. is_line_feed b ≡ false) line → ((w : Change) → IsWrite relations w → line ≡ write_text relations w → ⊥)
    → AllByRecursion (IsWrite relations) all → text ≡ write_lines relations all → ⊥
no_write_next relations again done all text rest line more a read next one never b e =
    let left = left_lines relations again done all rest a b (sym read ∙ e) in
    none left.0 left.1 left.2
  where
    none : (ws : List Change) → AllByRecursion (IsWrite relations) ws → rest ≡ write_lines relations ws → ⊥
    none [] good f = no_lines relations line more (sym next ∙ f)
    none (w ∷ ws) good f =
        let cut = cut_alike line (write_text relations w) more (write_lines relations ws) (recursion_from_All (λ b. is_line_feed b ≡ false) line one) (write_one_line relations again w good.0) (sym next ∙ f ∙ one_write relations w ws) in
        never w good.0 cut.0
