-- Rows whose first value passed its rule's parser, and what keeps them so.
use Rattle.std.proofs.Common.{◌≡◌, ◌+◌, ℕ, Bool, true, false, cond, min, List, [], ◌∷◌, ◌++◌, Option, Some, None, if◌then◌else◌, find, refl, sym, subst, true≢false}
use Rattle.std.specs.List.{AllByRecursion}
use Rattle.std.specs.Str.{bytes_eq}
use Rattle.clap.specs.Matches.{count_text}
use Rattle.clap.specs.Values.{refused_kind}
use Rattle.clap.specs.ValueTests.{accepts}
use Rattle.clap.specs.Kinds.{Kinds, or_else, value_kinds}
use Rattle.clap.specs.Walk.{Row, Rule, Text, at_row, count_of, more_values, new_count, reading_by, used_as, with_count, with_values, without}
use Rattle.clap.specs.Takes.{value_passes}
use Rattle.clap.specs.declared.builder.action.ArgAction.{ArgAction}
use Rattle.clap.specs.declared.builder.action.ArgAction.TheVariants as action
use Rattle.clap.specs.declared.builder.value_parser.Reading.{Reading}
use Rattle.clap.specs.declared.builder.value_parser.ValueParser.{ValueParser}
use Rattle.clap.specs.declared.error.kind.ErrorKind.{ErrorKind}
use Rattle.clap.specs.declared.parser.matches.ValueSource.{ValueSource}
use Rattle.clap.specs.declared.parser.matches.ValueSource.TheVariants.{CommandLine}

pub filled : (k : ErrorKind) (ks : Kinds) → k ∷ ks ≡ [] → ⊥
filled k ks e = cc

-- no kind comes of two steps: of neither
pub neither : (a b : Kinds) → or_else a b ≡ [] → (a ≡ []) × (b ≡ [])
neither [] b e = (refl, e)
neither (k ∷ ks) b e = absurd (filled k ks e)

pub accepted : (i : Bool) (p : ValueParser) (t : Text) → value_kinds i p t ≡ [] → accepts i p t ≡ true
accepted i p t e = by (accepts i p t) e
  where
    by : (b : Bool) → (if b then [] else refused_kind p ∷ []) ≡ [] → b ≡ true
    by true e = refl
    by false e = absurd (filled (refused_kind p) [] e)

-- what holds of each rule holds of the one that is found
pub found : (P : Rule → Type 0) (p : Rule → Bool) (xs : List Rule) (x : Rule) → AllByRecursion P xs → find p xs ≡ Some x → P x
found P p [] x all is = absurd (none_is x is)
  where
    none_is : (y : Rule) → (let none : Option Rule = None in none) ≡ Some y → ⊥
    none_is y e = cc
found P p (y ∷ ys) x all is = by (p y) (found P p ys x all.1) is
  where
    some_is : (u v : Rule) → Some u ≡ Some v → u ≡ v
    some_is u v e = cc

    by : (b : Bool) → (find p ys ≡ Some x → P x) → cond b (Some y) (find p ys) ≡ Some x → P x
    by true rest e = subst P (some_is y x e) all.0
    by false rest e = rest e

-- the first value passes the test
abbrev pub passes_first : (Text → Bool) → List Text → Bool
passes_first test [] = false
passes_first test (v ∷ vs) = test v

first_stays : (test : Text → Bool) (xs ys : List Text) → passes_first test xs ≡ true → passes_first test (xs ++ ys) ≡ true
first_stays test [] ys e = absurd (true≢false (sym e))
first_stays test (x ∷ xs) ys e = e

-- a row of the rule's has its reading, and a first value that passes
abbrev pub IsFine : Rule → Row → Type 0
IsFine a r = bytes_eq r.id a.id ≡ true → (r.reading ≡ reading_by a) × (passes_first (value_passes a) r.values ≡ true)

abbrev pub AreFine : Rule → List Row → Type 0
AreFine a rows = AllByRecursion (IsFine a) rows

-- no other rule has the rule's name
abbrev pub IsSole : Rule → Rule → Type 0
IsSole a x = bytes_eq x.id a.id ≡ true → x ≡ a

module _ (a : Rule) where
  fine_if : (b : Bool) (x y : List Row) → AreFine a x → AreFine a y → AreFine a (if b then x else y)
  fine_if true x y p q = p
  fine_if false x y p q = q

  fine_append : (xs ys : List Row) → AreFine a xs → AreFine a ys → AreFine a (xs ++ ys)
  fine_append [] ys p q = q
  fine_append (x ∷ xs) ys p q = (p.0, fine_append xs ys p.1 q)

  fine_at : (key : Text) (change : Row → List Row) (missing rows : List Row) → ((r : Row) → IsFine a r → AreFine a (change r)) → AreFine a missing
      → AreFine a rows → AreFine a (at_row key change missing rows)
  fine_at key change missing [] kept fresh fine = fresh
  fine_at key change missing (r ∷ rs) kept fresh fine =
      fine_if (bytes_eq r.id key) (change r ++ rs) (r ∷ at_row key change missing rs) (fine_append (change r) rs (kept r fine.0) fine.1)
      (fine.0, fine_at key change missing rs kept fresh fine.1)

  fine_without : (key : Text) (rows : List Row) → AreFine a rows → AreFine a (without key rows)
  fine_without key rows fine = fine_at key (λ _. []) [] rows (λ r f. tt) tt fine

  pub fine_values : (key : Text) (how : Reading) (s : ValueSource) (values : List Text) (rows : List Row)
      → (bytes_eq key a.id ≡ true → (how ≡ reading_by a) × (passes_first (value_passes a) values ≡ true)) → AreFine a rows → AreFine a (with_values key how s values rows)
  fine_values key how s values rows fresh fine =
      fine_at key (more_values s values) (record { id = key; values = values; count = None; source = Some s; reading = how } ∷ []) rows
      (λ r f. (λ same. ((f same).0, first_stays (value_passes a) r.values values (f same).1), tt)) (fresh, tt) fine

  fine_count : (key : Text) (how : Reading) (s : ValueSource) (n : ℕ) (rows : List Row) → (bytes_eq key a.id ≡ true → ⊥) → AreFine a rows → AreFine a (with_count key how s n rows)
  fine_count key how s n rows other fine =
      fine_at key (new_count s n) (record { id = key; values = count_text n ∷ []; count = Some n; source = Some s; reading = how } ∷ []) rows
      (λ r f. (λ same. ((f same).0, first_stays (value_passes a) r.values (count_text n ∷ []) (f same).1), tt)) (λ same. absurd (other same), tt) fine

  not_counted : action.Count ≡ action.Set → ⊥
  not_counted e = cc

  pub fine_used : (x : ArgAction) (key : Text) (how : Reading) (values : List Text) (rows : List Row)
      → (bytes_eq key a.id ≡ true → (x ≡ action.Set) × (how ≡ reading_by a) × (passes_first (value_passes a) values ≡ true)) → AreFine a rows
      → AreFine a (used_as x key how values rows)
  fine_used action.Set key how values rows fresh fine =
      fine_values key how CommandLine values (without key rows) (λ same. ((fresh same).1, (fresh same).2)) (fine_without key rows fine)
  fine_used action.SetTrue key how values rows fresh fine =
      fine_values key how CommandLine values (without key rows) (λ same. ((fresh same).1, (fresh same).2)) (fine_without key rows fine)
  fine_used action.SetFalse key how values rows fresh fine =
      fine_values key how CommandLine values (without key rows) (λ same. ((fresh same).1, (fresh same).2)) (fine_without key rows fine)
  fine_used action.Append key how values rows fresh fine =
      fine_values key how CommandLine values rows (λ same. ((fresh same).1, (fresh same).2)) fine
  fine_used action.Count key how [] rows fresh fine =
      fine_count key how CommandLine (min (count_of key rows + 1) 255) (without key rows) (λ same. not_counted (fresh same).0) (fine_without key rows fine)
  fine_used action.Count key how (v ∷ vs) rows fresh fine =
      fine_values key how CommandLine (v ∷ vs) (without key rows) (λ same. ((fresh same).1, (fresh same).2)) (fine_without key rows fine)
  fine_used action.Help key how values rows fresh fine = fine
  fine_used action.HelpShort key how values rows fresh fine = fine
  fine_used action.HelpLong key how values rows fresh fine = fine
  fine_used action.Version key how values rows fresh fine = fine
