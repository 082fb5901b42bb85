-- The number options of words that clap takes: each has a text that passed its range.
use Rattle.std.proofs.Common.{◌≡◌, ◌∙◌, ◌≤◌, ◌&&◌, ℕ, Bool, not, zero, suc, true, false, List, [], ◌∷◌, Some, refl, sym, ap, subst, true≢false}
use Rattle.std.specs.Prelude.{pos, slice_get}
use Rattle.std.specs.List.{AllByRecursion, list_all}
use Rattle.std.specs.Option.{option_map_or}
use Rattle.std.specs.Str.{bytes_eq}
use Rattle.std.specs.Str.Parse.{digits_value, without_leading_plus}
use Rattle.clap.specs.Lexer.{without_minus}
use Rattle.clap.specs.ValueTests.{accepts}
use Rattle.clap.specs.Kinds.{or_else}
use Rattle.clap.specs.Walk.{Row, Rule, Text, finished, nothing_held, one_of, rows_after, settled, walk, walk_from}
use Rattle.clap.specs.Simple.{Shape, argument_words, built, filled}
use Rattle.clap.specs.Faults.{check_fault, defaults_fault, level_fault, settle_fault, walk_fault}
use Rattle.clap.specs.declared.builder.ValueParser.TheVariants as parser
use Rattle.clap.proofs.FaultLemmas.{leaf_fault}
use Rattle.clap.proofs.WalkLemmas.{both}
use Rattle.cmd_words.specs.Arguments.{NumberOf, faults_of, number_at, number_rule, rows_at, youtopia_app}
use Rattle.cmd_words.proofs.FinishedRows.{all_added, defaults_fine, in_range, one_given}
use Rattle.cmd_words.proofs.FineRows.{AreFine, IsSole, neither}
use Rattle.cmd_words.proofs.ParsedRows.{settle_fine, walk_fine}

-- whether no rule but the k-th has the name
abbrev pub only : Text → ℕ → List Rule → Bool
only name k [] = true
only name zero (r ∷ rs) = list_all (λ q. not (bytes_eq q.id name)) rs
only name (suc k) (r ∷ rs) = not (bytes_eq r.id name) && only name k rs

not_that : (b : Bool) → not b ≡ true → b ≡ true → ⊥
not_that true n y = true≢false (sym n)
not_that false n y = true≢false (sym y)

others : (a : Rule) (rs : List Rule) → list_all (λ q. not (bytes_eq q.id a.id)) rs ≡ true → AllByRecursion (IsSole a) rs
others a [] h = tt
others a (r ∷ rs) h =
    let two = both (not (bytes_eq r.id a.id)) (list_all (λ q. not (bytes_eq q.id a.id)) rs) h in
    (λ same. absurd (not_that (bytes_eq r.id a.id) two.0 same), others a rs two.1)

sole_at : (a : Rule) (k : ℕ) (rs : List Rule) → only a.id k rs ≡ true → slice_get rs k ≡ Some a → AllByRecursion (IsSole a) rs
sole_at a k [] h at = tt
sole_at a zero (r ∷ rs) h at = (λ same. some_is r a at, others a rs h)
  where
    some_is : (u v : Rule) → Some u ≡ Some v → u ≡ v
    some_is u v e = cc
sole_at a (suc k) (r ∷ rs) h at =
    let two = both (not (bytes_eq r.id a.id)) (only a.id k rs) h in
    (λ same. absurd (not_that (bytes_eq r.id a.id) two.0 same), sole_at a k rs two.1 at)

-- the option's text at the end, which passed its range, where a command with no subcommands has no fault in the words
module _ (s : Shape) (words : List Text) (clean : level_fault s [] nothing_held words false [] ≡ []) where
  text_of : (k : ℕ) (name : Text) (low high : ℕ) (fallback : Text) → slice_get s.rules k ≡ Some (filled (number_rule name low high fallback)) → only name k s.rules ≡ true
      → (t : Text) × (one_of name (rows_after s.rules [] words) ≡ Some (without_minus t)) × (accepts false (parser.Signed (pos low) (pos high)) t ≡ true)
  text_of k name low high fallback at one = one_given a (rows_after s.rules [] words) fine (all_added a fallback k s.rules start at refl)
    where
      a : Rule
      a = filled (number_rule name low high fallback)

      start : List Row
      start = (settled s.rules (walk s.rules [] nothing_held words).held).rows

      sole : AllByRecursion (IsSole a) s.rules
      sole = sole_at a k s.rules one at

      fine : AreFine a (rows_after s.rules [] words)
      fine =
          let end = (walk s.rules [] nothing_held words).held in
          let last = or_else (defaults_fault start s.rules) (check_fault s (finished s.rules end) false) in
          let first = neither (walk_fault s [] (walk_from nothing_held) words) (or_else (settle_fault s.rules s.args_override_self end) last) clean in
          let second = neither (settle_fault s.rules s.args_override_self end) last first.1 in
          let third = neither (defaults_fault start s.rules) (check_fault s (finished s.rules end) false) second.1 in
          defaults_fine a s.rules start sole third.0
          (settle_fine s a refl refl sole end second.0 (walk_fine s a refl refl sole words (walk_from nothing_held) first.0 tt))

pub number_text : (ws : List Text) → faults_of ws ≡ []
    → (k : ℕ) (name : Text) (low high : ℕ) (fallback : Text) → slice_get (built youtopia_app).top.rules k ≡ Some (filled (number_rule name low high fallback))
    → only name k (built youtopia_app).top.rules ≡ true
    → (t : Text) × (one_of name (rows_at ws) ≡ Some (without_minus t)) × (accepts false (parser.Signed (pos low) (pos high)) t ≡ true)
number_text ws takes k name low high fallback at one =
    let own = argument_words youtopia_app ws in
    text_of (built youtopia_app).top own (sym (leaf_fault (built youtopia_app) nothing_held own refl) ∙ takes) k name low high fallback at one

pub number_in : (ws : List Text) → faults_of ws ≡ []
    → (k : ℕ) (name : Text) (low high : ℕ) (fallback : Text) → slice_get (built youtopia_app).top.rules k ≡ Some (filled (number_rule name low high fallback))
    → only name k (built youtopia_app).top.rules ≡ true → NumberOf (number_at name (rows_at ws)) name low high ws
number_in ws takes k name low high fallback at one = within (number_text ws takes k name low high fallback at one)
  where
    within : (t : Text) × (one_of name (rows_at ws) ≡ Some (without_minus t)) × (accepts false (parser.Signed (pos low) (pos high)) t ≡ true)
        → NumberOf (number_at name (rows_at ws)) name low high ws
    within got =
        let is = ap (λ o. option_map_or (λ t. digits_value 10 (without_leading_plus t)) o 0) got.1 in
        let range = in_range low high got.0 got.2 in
        (refl, subst (λ n. low ≤ n) (sym is) range.0, subst (λ n. n ≤ high) (sym is) range.1)
