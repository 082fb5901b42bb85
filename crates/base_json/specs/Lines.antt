-- Text to which JSON is added, token by token or value by value.
use Rattle.std.specs.Prelude.{◌≡◌, ℕ, Bool, true, false, List, [], ◌∷◌, ◌++◌, fold}
use Rattle.json.specs.Token.{Token}
use Rattle.json.specs.Json.{Json, null, boolean, number, string, array, object, Items, no_items, item, Members, no_members, member}
use Rattle.json.specs.Print.{separator, token_text, ends, print_from}
use Rattle.json.specs.Tree.{json_tokens}

-- A text, and whether a value has just ended there, so that a comma comes before the next one.
pub record Typed : Type 0 where
  pub text : List ℕ
  pub ended : Bool

-- The text with one more token.
abbrev pub with_token : Typed → Token → Typed
with_token line t = record { text = line.text ++ (separator line.ended t ++ token_text t); ended = ends t }

-- The text with one more value, the rest of a list, and the rest of an object.
abbrev mutual
  pub with_json : Typed → Json → Typed
  with_json line null = with_token line Token.null
  with_json line (boolean b) = with_token line (Token.boolean b)
  with_json line (number s) = with_token line (Token.number s)
  with_json line (string s) = with_token line (Token.string s)
  with_json line (array js) = with_items (with_token line Token.begin_array) js
  with_json line (object ms) = with_members (with_token line Token.begin_object) ms

  pub with_items : Typed → Items → Typed
  with_items line no_items = with_token line Token.end_array
  with_items line (item j js) = with_items (with_json line j) js

  pub with_members : Typed → Members → Typed
  with_members line no_members = with_token line Token.end_object
  with_members line (member k j ms) = with_members (with_json (with_token line (Token.key k)) j) ms

-- The text with more values, in a list that stays open.
abbrev pub with_all : Typed → List Json → Typed
with_all line js = fold with_json line js

-- The values as the items of a list.
abbrev pub items_of : List Json → Items
items_of [] = no_items
items_of (j ∷ js) = item j (items_of js)

-- A value is added as its own compact text, after a comma if one is needed; a list, as its values and a bracket.
pub record AddsValues : Type 0 where
  pub value : (line : Typed) (j : Json) → (with_json line j).text ≡ line.text ++ print_from line.ended (json_tokens j)
  pub list : (line : Typed) (js : List Json) → with_items line (items_of js) ≡ with_token (with_all line js) Token.end_array
