-- A value with texts of UTF-8 is printed as UTF-8, and is read again.
use Rattle.std.specs.Prelude.{◌≡◌, ◌≤◌, Bool, false, List, [], ◌∷◌, ◌++◌, IsUtf8, option_and_then}
use Rattle.std.proofs.Common.{refl, sym, ap, ◌∙◌, append-nil}
use Rattle.std.specs.List.{AllByRecursion}
use Rattle.std.proofs.lemmas.Str.{IsUtf8-append, IsUtf8-nil}
use Rattle.json.specs.Json as json
use Rattle.json.specs.Json.{Json, null, boolean, number, string, array, object, Items, no_items, item, Members, no_members, member, if_last}
use Rattle.json.specs.Print.{print, print_from, separator, token_text, ends}
use Rattle.json.specs.Token.{Token}
use Rattle.json.specs.Tree.{json_tokens, items_tokens, members_tokens, depth, HasNumbers}
use Rattle.json.proofs.Printed.Tokens.{tokens-print}
use Rattle.json.proofs.Printed.Trees.{ArePrintable-json_tokens, value-json_tokens}
use Rattle.json.proofs.Printed.Utf8.{IsUtf8-are_ascii, IsUtf8-boolean, IsUtf8-key, IsUtf8-quoted, IsUtf8-separator}
use Rattle.serde_json.specs.Read.{of_json, read, max_depth}

-- the text of each token is UTF-8
abbrev pub AreTexts : List Token → Type 0
AreTexts ts = AllByRecursion (λ t. IsUtf8 (token_text t)) ts

printed_from : (c : Bool) (ts : List Token) → AreTexts ts → IsUtf8 (print_from c ts)
unfolding print_from
printed_from c [] all = IsUtf8-nil
printed_from c (t ∷ ts) all =
    IsUtf8-append (separator c t) (token_text t ++ print_from (ends t) ts) (IsUtf8-separator c t) (IsUtf8-append (token_text t) (print_from (ends t) ts) all.0 (printed_from (ends t) ts all.1))

texts_join : (ts us : List Token) → AreTexts ts → AreTexts us → AreTexts (ts ++ us)
texts_join [] us a b = b
texts_join (t ∷ ts) us a b = (a.0, texts_join ts us a.1 b)

-- Its strings, keys and numbers are UTF-8.
abbrev mutual
  pub HasTexts : Json → Type 0
  HasTexts null = Unit {0}
  HasTexts (boolean b) = Unit {0}
  HasTexts (number s) = IsUtf8 s
  HasTexts (string s) = IsUtf8 s
  HasTexts (array js) = ItemsHaveTexts js
  HasTexts (object ms) = MembersHaveTexts ms

  pub ItemsHaveTexts : Items → Type 0
  ItemsHaveTexts no_items = Unit {0}
  ItemsHaveTexts (item j js) = HasTexts j × ItemsHaveTexts js

  pub MembersHaveTexts : Members → Type 0
  MembersHaveTexts no_members = Unit {0}
  MembersHaveTexts (member k j ms) = IsUtf8 k × (HasTexts j × MembersHaveTexts ms)

mutual
  texts_of : (j : Json) → HasTexts j → AreTexts (json_tokens j)
  texts_of null all = (IsUtf8-are_ascii _ refl, tt)
  texts_of (boolean b) all = (IsUtf8-boolean b, tt)
  texts_of (number s) all = (all, tt)
  texts_of (string s) all = (IsUtf8-quoted s all, tt)
  texts_of (array js) all = (IsUtf8-are_ascii _ refl, texts_of_items js all)
  texts_of (object ms) all = (IsUtf8-are_ascii _ refl, texts_of_members ms all)

  texts_of_items : (js : Items) → ItemsHaveTexts js → AreTexts (items_tokens js)
  texts_of_items no_items all = (IsUtf8-are_ascii _ refl, tt)
  texts_of_items (item j js) all = texts_join (json_tokens j) (items_tokens js) (texts_of j all.0) (texts_of_items js all.1)

  texts_of_members : (ms : Members) → MembersHaveTexts ms → AreTexts (members_tokens ms)
  texts_of_members no_members all = (IsUtf8-are_ascii _ refl, tt)
  texts_of_members (member k j ms) all =
      (IsUtf8-key k all.0, texts_join (json_tokens j) (members_tokens ms) (texts_of j all.1.0) (texts_of_members ms all.1.1))

pub printed_text : (j : Json) → HasTexts j → IsUtf8 (print (json_tokens j))
printed_text j all = printed_from false (json_tokens j) (texts_of j all)

-- What is printed of a value is read as it.
pub read_again : (j : Json) → HasNumbers j → depth j ≤ max_depth → read (print (json_tokens j)) ≡ of_json j
read_again j numbers shallow =
    ap (λ ts. option_and_then of_json (option_and_then (λ p. if_last p.0 p.1) (json.value max_depth ts))) (tokens-print (json_tokens j) (ArePrintable-json_tokens j numbers) ∙ sym (append-nil (json_tokens j)))
    ∙ ap (λ p. option_and_then of_json (option_and_then (λ q. if_last q.0 q.1) p)) (value-json_tokens j max_depth [] shallow)
