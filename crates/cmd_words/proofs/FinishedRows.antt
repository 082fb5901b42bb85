-- The rows at the end of a parse without a fault, with the defaults filled in.
use Rattle.std.proofs.Common.{◌≡◌, ◌∙◌, ◌≤◌, ◌||◌, ℕ, Bool, zero, suc, true, false, cond, drop, List, [], ◌∷◌, Some, None, if◌then◌else◌, fold, find, refl, sym, ap, subst, arith, true≢false, option_map}
use Rattle.std.specs.Prelude.{pos, slice_get, option_and_then, unwrap_or, ◌++◌, ◌==◌}
use Rattle.std.specs.List.{AllByRecursion}
use Rattle.std.specs.Str.{bytes_eq}
use Rattle.std.specs.Str.Parse.{IsNumeral, digits_value, starts_with_minus, without_leading_plus}
use Rattle.std.proofs.lemmas.Bool.{ne_eqb}
use Rattle.std.proofs.lemmas.Int.{ints}
use Rattle.std.proofs.lemmas.Slice.Eq.{bytes_eq-Decides}
use Rattle.std.proofs.lemmas.Str.Parse.{digit_from_value}
use Rattle.clap.specs.Lexer.{without_minus}
use Rattle.clap.specs.Values.{IsSignedIn, read_as}
use Rattle.clap.specs.ValueTests.{accepts}
use Rattle.clap.specs.Facts.{parser_of_value}
use Rattle.clap.specs.Kinds.{request_kinds, value_kinds, values_kinds}
use Rattle.clap.specs.Walk.{Row, Rule, Text, action_of, at_row, default_rows, has_row, is_empty, more_values, one_of, reading_by, row_text, with_default, with_values}
use Rattle.clap.specs.Takes.{value_passes}
use Rattle.clap.specs.Faults.{default_fault, defaults_fault, given_default_fault, values_fault}
use Rattle.clap.specs.declared.builder.value_parser.Reading.{Reading}
use Rattle.clap.specs.declared.builder.value_parser.ValueParser.TheVariants as parser
use Rattle.clap.specs.declared.parser.matches.ValueSource.{ValueSource}
use Rattle.clap.specs.declared.parser.matches.ValueSource.TheVariants.{DefaultValue}
use Rattle.clap.proofs.ValueTestLemmas.{accepts-Accepts}
use Rattle.cmd_words.proofs.FineRows.{AreFine, IsSole, accepted, fine_values, neither, passes_first}

-- ---- a default

not_empty : (v : Text) (vs : List Text) → is_empty (v ∷ vs) ≡ false
not_empty v vs = ne_eqb _ _ (λ e. omega arith)

module _ (a : Rule) where
  given_fine : (x : Rule) (vs : List Text) (rows : List Row) → IsSole a x → (if is_empty vs then [] else given_default_fault x vs) ≡ [] → AreFine a rows
      → AreFine a (default_rows x.id (reading_by x) vs rows)
  given_fine x [] rows own clean fine = fine
  given_fine x (v ∷ vs) rows own clean fine =
      let given : given_default_fault x (v ∷ vs) ≡ [] = sym (ap (λ (b : Bool). if b then [] else given_default_fault x (v ∷ vs)) (not_empty v vs)) ∙ clean in
      let values = (neither (request_kinds (action_of x)) (values_fault x (v ∷ vs)) given).1 in
      let one = (neither (value_kinds x.ignore_case (parser_of_value x.parser) v) (values_kinds x.ignore_case (parser_of_value x.parser) vs) values).0 in
      let passes = accepted x.ignore_case (parser_of_value x.parser) v one in
      fine_values a x.id (reading_by x) DefaultValue (v ∷ vs) rows
      (λ same. (ap reading_by (own same), subst (λ (y : Rule). value_passes y v ≡ true) (own same) passes)) fine

  default_fine : (x : Rule) (rows : List Row) → IsSole a x → default_fault rows x ≡ [] → AreFine a rows → AreFine a (with_default rows x)
  default_fine x rows own clean fine = by (has_row x.id rows) clean
    where
      by : (b : Bool) → (if b || is_empty x.defaults then [] else given_default_fault x x.defaults) ≡ []
          → AreFine a (if b then rows else default_rows x.id (reading_by x) x.defaults rows)
      by true e = fine
      by false e = given_fine x x.defaults rows own e fine

  pub defaults_fine : (rules : List Rule) (rows : List Row) → AllByRecursion (IsSole a) rules → defaults_fault rows rules ≡ [] → AreFine a rows
      → AreFine a (fold with_default rows rules)
  unfolding defaults_fault
  defaults_fine [] rows own clean fine = fine
  defaults_fine (x ∷ rest) rows own clean fine =
      let two = neither (default_fault rows x) (defaults_fault (with_default rows x) rest) clean in
      defaults_fine rest (with_default rows x) own.1 two.1 (default_fine x rows own.0 two.0 fine)

-- ---- a rule with a default has a row

either_true : (a b : Bool) → b ≡ true → (a || b) ≡ true
either_true true b e = refl
either_true false b e = e

module _ (id : Text) where
  has_if : (b : Bool) (x y : List Row) → has_row id x ≡ true → has_row id y ≡ true → has_row id (if b then x else y) ≡ true
  has_if true x y p q = p
  has_if false x y p q = q

  values_stay : (key : Text) (how : Reading) (s : ValueSource) (values : List Text) (missing rows : List Row) → has_row id rows ≡ true
      → has_row id (at_row key (more_values s values) missing rows) ≡ true
  values_stay key how s values missing [] has = absurd (true≢false (sym has))
  values_stay key how s values missing (r ∷ rs) has =
      has_if (bytes_eq r.id key) (more_values s values r ++ rs) (r ∷ at_row key (more_values s values) missing rs) has
      (by (bytes_eq r.id id) has (values_stay key how s values missing rs))
    where
      by : (b : Bool) → (b || has_row id rs) ≡ true → (has_row id rs ≡ true → has_row id (at_row key (more_values s values) missing rs) ≡ true)
          → (b || has_row id (at_row key (more_values s values) missing rs)) ≡ true
      by true e rest = refl
      by false e rest = rest e

  default_stays : (x : Rule) (rows : List Row) → has_row id rows ≡ true → has_row id (with_default rows x) ≡ true
  default_stays x rows has = has_if (has_row x.id rows) rows (default_rows x.id (reading_by x) x.defaults rows) has (by x.defaults)
    where
      by : (vs : List Text) → has_row id (default_rows x.id (reading_by x) vs rows) ≡ true
      by [] = has
      by (v ∷ vs) = values_stay x.id (reading_by x) DefaultValue (v ∷ vs) _ rows has

  defaults_stay : (rules : List Rule) (rows : List Row) → has_row id rows ≡ true → has_row id (fold with_default rows rules) ≡ true
  defaults_stay [] rows has = has
  defaults_stay (x ∷ rest) rows has = defaults_stay rest (with_default rows x) (default_stays x rows has)

  values_added : (how : Reading) (s : ValueSource) (values : List Text) (rows : List Row) → has_row id (with_values id how s values rows) ≡ true
  values_added how s values [] = ap (λ b. b || false) ((bytes_eq-Decides id id).1 refl)
  values_added how s values (r ∷ rs) = by (bytes_eq r.id id) refl (values_added how s values rs)
    where
      by : (b : Bool) → bytes_eq r.id id ≡ b → has_row id (with_values id how s values rs) ≡ true
          → has_row id (if b then more_values s values r ++ rs else r ∷ with_values id how s values rs) ≡ true
      by true e rest = ap (λ b. b || has_row id rs) e
      by false e rest = either_true (bytes_eq r.id id) _ rest

default_added : (a : Rule) (d : Text) (rows : List Row) → a.defaults ≡ d ∷ [] → has_row a.id (with_default rows a) ≡ true
default_added a d rows is = by (has_row a.id rows) refl
  where
    by : (b : Bool) → has_row a.id rows ≡ b → has_row a.id (if b then rows else default_rows a.id (reading_by a) a.defaults rows) ≡ true
    by true e = e
    by false e =
        subst (λ ds. has_row a.id (default_rows a.id (reading_by a) ds rows) ≡ true) (sym is) (values_added a.id (reading_by a) DefaultValue (d ∷ []) rows)

pub all_added : (a : Rule) (d : Text) (k : ℕ) (rules : List Rule) (rows : List Row) → slice_get rules k ≡ Some a → a.defaults ≡ d ∷ []
    → has_row a.id (fold with_default rows rules) ≡ true
all_added a d k [] rows at is = absurd (none_is k at)
  where
    none_is : (j : ℕ) → (let none : List Rule = [] in slice_get none j) ≡ Some a → ⊥
    none_is zero e = cc
    none_is (suc j) e = cc
all_added a d zero (x ∷ rest) rows at is =
    defaults_stay a.id rest (with_default rows x) (subst (λ (y : Rule). has_row a.id (with_default rows y) ≡ true) (sym (some_is x a at)) (default_added a d rows is))
  where
    some_is : (u v : Rule) → Some u ≡ Some v → u ≡ v
    some_is u v e = cc
all_added a d (suc k) (x ∷ rest) rows at is = all_added a d k rest (with_default rows x) at is

-- the text that the rule's row gives
pub one_given : (a : Rule) (rows : List Row) → AreFine a rows → has_row a.id rows ≡ true
    → (t : Text) × (one_of a.id rows ≡ Some (read_as (reading_by a) t)) × (value_passes a t ≡ true)
one_given a [] fine has = absurd (true≢false (sym has))
one_given a (r ∷ rs) fine has = by (bytes_eq r.id a.id) refl has (one_given a rs fine.1)
  where
    first : (vs : List Text) (how : Reading) → how ≡ reading_by a → passes_first (value_passes a) vs ≡ true
        → (t : Text) × (option_map (read_as how) (slice_get vs 0) ≡ Some (read_as (reading_by a) t)) × (value_passes a t ≡ true)
    first [] how is passes = absurd (true≢false (sym passes))
    first (v ∷ vs) how is passes = (v, ap (λ (h : Reading). Some (read_as h v)) is, passes)

    by : (b : Bool) → bytes_eq r.id a.id ≡ b → (b || has_row a.id rs) ≡ true
        → (has_row a.id rs ≡ true → (t : Text) × (one_of a.id rs ≡ Some (read_as (reading_by a) t)) × (value_passes a t ≡ true))
        → (t : Text) × (option_and_then row_text (cond b (Some r) (find (λ q. bytes_eq q.id a.id) rs)) ≡ Some (read_as (reading_by a) t)) × (value_passes a t ≡ true)
    by true e has rest = first r.values r.reading (fine.0 e).0 (fine.0 e).1
    by false e has rest = rest has

-- ---- numbers

no_plus : (ds : List ℕ) → IsNumeral 10 ds → without_leading_plus ds ≡ ds
no_plus [] h = refl
no_plus (d ∷ ds) h =
    let plus : (d == 43) ≡ false = ne_eqb _ _ (λ e. omega (arith, digit_from_value d h.1.0)) in
    ap (λ (b : Bool). drop (cond b 1 0) (d ∷ ds)) plus

without_minus-cond : (t : List ℕ) → without_minus t ≡ cond (starts_with_minus t) (drop 1 t) t
without_minus-cond [] = refl
without_minus-cond (x ∷ xs) = by (x == 45)
  where
    by : (b : Bool) → unwrap_or (cond b (Some xs) None) (x ∷ xs) ≡ cond b xs (x ∷ xs)
    by true = refl
    by false = refl

-- a text that passed a range with no negative number is a number of the range
pub in_range : (low high : ℕ) (t : Text) → accepts false (parser.Signed (pos low) (pos high)) t ≡ true
    → (low ≤ digits_value 10 (without_leading_plus (without_minus t))) × (digits_value 10 (without_leading_plus (without_minus t)) ≤ high)
in_range low high t passes =
    subst (λ u. (low ≤ digits_value 10 (without_leading_plus u)) × (digits_value 10 (without_leading_plus u) ≤ high)) (sym (without_minus-cond t))
    (by (starts_with_minus t) refl)
  where
    passed : IsSignedIn (pos low) (pos high) t
    passed = accepts-Accepts false (parser.Signed (pos low) (pos high)) t passes

    by : (b : Bool) → starts_with_minus t ≡ b
        → (low ≤ digits_value 10 (without_leading_plus (cond b (drop 1 t) t))) × (digits_value 10 (without_leading_plus (cond b (drop 1 t) t)) ≤ high)
    by true minus =
        let low_ok = rw minus at passed.2 in
        let high_ok = rw minus at passed.3 in
        let numeral : IsNumeral 10 (drop 1 t) = rw minus at passed.0 in
        rw (no_plus (drop 1 t) numeral) (omega (arith, ints), omega (arith, ints))
    by false minus =
        let low_ok = rw minus at passed.2 in
        let high_ok = rw minus at passed.3 in
        (omega (arith, ints), omega (arith, ints))
