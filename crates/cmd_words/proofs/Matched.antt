-- What the words that clap takes come to, option by option.
use Rattle.std.proofs.Common.{◌≡◌, ◌∙◌, ◌<◌, ◌^◌, ap, ℕ, Bool, true, false, List, [], Option, Some, None, refl, sym, subst, arith, codes}
use Rattle.std.specs.Prelude.{option_map, slice_get, pos, Ok, Result}
use Rattle.std.specs.Option.{option_map_or}
use Rattle.std.specs.Borrow.{Bor}
use Rattle.std.specs.Str.{bytes_eq}
use Rattle.std.specs.Str.Parse.{ParsesUnsigned, digits_value, without_leading_plus}
use Rattle.clap.specs.Lexer.{without_minus}
use Rattle.clap.specs.Words.{App, HasMatchesOf, Text, first_of, fault_of, first_value, found_of, is_simple, is_simple_and_free, matches_of, one_of, one_text, rows_of}
use Rattle.clap.specs.Matches.{ReadsOne}
use Rattle.clap.specs.Simple.{built, filled}
use Rattle.clap.specs.declared.builder.ValueParser.TheVariants as parser
use Rattle.clap.specs.declared.parser.ArgMatches.{ArgMatches}
use Rattle.clap.proofs.WalkLemmas.{first_value-rows, one_text-rows}
use Rattle.clap.proofs.CallerReads.{signed_reads}
use Rattle.clap.proofs.ValueTestLemmas.{accepts-Accepts}
use Rattle.std.specs.Prelude.{IsSome}
use Rattle.cmd_words.specs.Arguments.{NumberOf, flag_at, number_rule, rows_at, youtopia_app}
use Rattle.cmd_words.proofs.Numbers.{number_text, only}
use Rattle.cmd_words.proofs.Refusals.{taken}

is_simple_app : is_simple youtopia_app ≡ true
is_simple_app = refl

pub rows_are : (a : App) (ws : List Text) (m : ArgMatches) → a ≡ youtopia_app → HasMatchesOf a ws m → rows_of (found_of m) ≡ rows_at ws
rows_are a ws m is has = (has (ap is_simple is ∙ is_simple_app)).0 ∙ ap (λ x. matches_of x ws) is

pub word_is : (a : App) (ws : List Text) (m : ArgMatches) → a ≡ youtopia_app → HasMatchesOf a ws m
    → (id : Text) (o : Option (Bor Text)) → option_map (λ s. s.now) o ≡ first_value (found_of m) id
    → option_map (λ s. s.now) o ≡ first_of id (rows_at ws)
word_is a ws m is has id o given = given ∙ (first_value-rows (found_of m) id ∙ ap (first_of id) (rows_are a ws m is has))

-- the value of a number's option
number_value : (E : Type 0) (low high : ℕ) (t : Text) (r : Option ℕ) (G : Text → Result ℕ E → Type 0)
    → ((u : Text) (x : Result ℕ E) → G u x → ParsesUnsigned 32 10 u x) → ReadsOne G (without_minus t) r
    → (n : ℕ) → r ≡ Some n → n ≡ digits_value 10 (without_leading_plus (without_minus t))
number_value E low high t (Some v) G only h n is =
    let same : v ≡ n = cc in
    sym same ∙ (only (without_minus t) (Ok v) h).1
number_value E low high t None G only h n is = cc

pub flag_is : (a : App) (ws : List Text) (m : ArgMatches) → a ≡ youtopia_app → HasMatchesOf a ws m
    → (id : Text) (b : Bool) → b ≡ option_map_or (λ t. bytes_eq t (codes "true")) (first_value (found_of m) id) false → b ≡ flag_at id (rows_at ws)
flag_is a ws m is has id b given =
    given ∙ ap (λ o. option_map_or (λ t. bytes_eq t (codes "true")) o false) (first_value-rows (found_of m) id ∙ ap (first_of id) (rows_are a ws m is has))

-- what `get_one::<u32>` gives of each
abbrev pub Reads32 : (E : Type 0) → (Text → Result ℕ E → Type 0) → Type 0
Reads32 E G = (u : Text) (x : Result ℕ E) → G u x → ParsesUnsigned 32 10 u x

-- `get_one::<u32>` gives a number, which is that of the option
abbrev pub GivesNumber : ArgMatches → Text → ℕ → ℕ → List Text → Type 1
GivesNumber m name low high ws = (E : Type 0) (G : Text → Result ℕ E → Type 0) → Reads32 E G
    → (r : Option ℕ) → ((t : Text) → one_text (found_of m) name ≡ Some t → ReadsOne G t r) → (n : ℕ) × (r ≡ Some n) × NumberOf n name low high ws

-- the number of an option that stands at k and nowhere else
option_is : (a : App) (ws : List Text) (m : ArgMatches) → a ≡ youtopia_app → (is_simple_and_free a ≡ true → fault_of a ws ≡ []) → HasMatchesOf a ws m
    → (k : ℕ) (name : Text) (low high : ℕ) (fallback : Text) → slice_get (built youtopia_app).top.rules k ≡ Some (filled (number_rule name low high fallback))
    → only name k (built youtopia_app).top.rules ≡ true → high < 2 ^ 32 → GivesNumber m name low high ws
option_is a ws m is kinds has k name low high fallback at one fits E G reads r read =
    let got = number_text ws (taken a ws is kinds) k name low high fallback at one in
    let t = got.0 in
    let text : one_text (found_of m) name ≡ Some (without_minus t) = one_text-rows (found_of m) name ∙ (ap (one_of name) (rows_are a ws m is has) ∙ got.1) in
    let n = signed_reads E G 32 low high t r (read (without_minus t) text) reads fits (accepts-Accepts false (parser.Signed (pos low) (pos high)) t got.2) in
    let value = number_value E low high t r G reads (read (without_minus t) text) n.0 n.1 in
    (n.0, n.1, (value ∙ ap (λ o. option_map_or (λ u. digits_value 10 (without_leading_plus u)) o 0) (sym got.1), n.2, n.3))

module _ (a : App) (ws : List Text) (m : ArgMatches) (is : a ≡ youtopia_app) (kinds : is_simple_and_free a ≡ true → fault_of a ws ≡ []) (has : HasMatchesOf a ws m) where
  pub workers_are : GivesNumber m (codes "workers") 1 16 ws
  workers_are = option_is a ws m is kinds has 1 (codes "workers") 1 16 (codes "4") refl refl (omega arith)

  pub steps_are : GivesNumber m (codes "steps") 1 300 ws
  steps_are = option_is a ws m is kinds has 3 (codes "steps") 1 300 (codes "100") refl refl (omega arith)

  pub retries_are : GivesNumber m (codes "retries") 0 4 ws
  retries_are = option_is a ws m is kinds has 4 (codes "retries") 0 4 (codes "3") refl refl (omega arith)

  pub count_are : GivesNumber m (codes "count") 1 1000 ws
  count_are = option_is a ws m is kinds has 6 (codes "count") 1 1000 (codes "60") refl refl (omega arith)

  pub seed_are : GivesNumber m (codes "seed") 0 4294967295 ws
  seed_are = option_is a ws m is kinds has 7 (codes "seed") 0 4294967295 (codes "1") refl refl (omega arith)

-- the number that `unwrap` gave
pub unwrapped : (o : Option ℕ) (x : ℕ) (name : Text) (low high : ℕ) (ws : List Text) → (n : ℕ) × (o ≡ Some n) × NumberOf n name low high ws → o ≡ Some x
    → NumberOf x name low high ws
unwrapped o x name low high ws n is =
    let same : n.0 ≡ x = some_same n.0 x (sym n.1 ∙ is) in
    subst (λ (y : ℕ). NumberOf y name low high ws) same n.2
  where
    some_same : (a b : ℕ) → Some a ≡ Some b → a ≡ b
    some_same a b e = cc

pub there : (o : Option ℕ) (P : ℕ → Type 0) → (n : ℕ) × (o ≡ Some n) × P n → IsSome o
there o P n = some_is o n.0 n.1
  where
    some_is : (p : Option ℕ) (x : ℕ) → p ≡ Some x → IsSome p
    some_is None x e = cc
    some_is (Some y) x e = refl
