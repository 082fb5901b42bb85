-- A value is added as its own text.
use Rattle.std.proofs.Common.{◌≡◌, ◌∙◌, ap, refl, sym, List, [], ◌∷◌, ◌++◌, append_assoc, append-nil}
use Rattle.std.specs.Prelude.{ℕ, Bool, false, fold}
use Rattle.json.specs.Token.{Token}
use Rattle.json.specs.Json.{Json, null, boolean, number, string, array, object, Items, no_items, item, Members, no_members, member}
use Rattle.json.specs.Print.{separator, token_text, ends, print_from, print}
use Rattle.json.specs.Tree.{json_tokens, items_tokens, members_tokens}
use Rattle.base_json.specs.Lines.{Typed, with_token, with_json, with_items, with_members, with_all, items_of, AddsValues}

-- the tokens, one after the other
tokens_on : Typed → List Token → Typed
tokens_on line [] = line
tokens_on line (t ∷ ts) = tokens_on (with_token line t) ts

on_join : (line : Typed) (ts us : List Token) → tokens_on line (ts ++ us) ≡ tokens_on (tokens_on line ts) us
unfolding tokens_on
on_join line [] us = refl
on_join line (t ∷ ts) us = on_join (with_token line t) ts us

mutual
  unfolding tokens_on

  json_on : (line : Typed) (j : Json) → with_json line j ≡ tokens_on line (json_tokens j)
  json_on line null = refl
  json_on line (boolean b) = refl
  json_on line (number s) = refl
  json_on line (string s) = refl
  json_on line (array js) = items_on (with_token line Token.begin_array) js
  json_on line (object ms) = members_on (with_token line Token.begin_object) ms

  items_on : (line : Typed) (js : Items) → with_items line js ≡ tokens_on line (items_tokens js)
  items_on line no_items = refl
  items_on line (item j js) = ap (λ l. with_items l js) (json_on line j) ∙ (items_on (tokens_on line (json_tokens j)) js ∙ sym (on_join line (json_tokens j) (items_tokens js)))

  members_on : (line : Typed) (ms : Members) → with_members line ms ≡ tokens_on line (members_tokens ms)
  members_on line no_members = refl
  members_on line (member k j ms) =
      ap (λ l. with_members l ms) (json_on (with_token line (Token.key k)) j)
      ∙ (members_on (tokens_on (with_token line (Token.key k)) (json_tokens j)) ms ∙ sym (on_join (with_token line (Token.key k)) (json_tokens j) (members_tokens ms)))

text_on : (line : Typed) (ts : List Token) → (tokens_on line ts).text ≡ line.text ++ print_from line.ended ts
unfolding tokens_on print_from
text_on line [] = sym (append-nil line.text)
text_on line (t ∷ ts) =
    text_on (with_token line t) ts
    ∙ (append_assoc line.text (separator line.ended t ++ token_text t) (print_from (ends t) ts)
    ∙ ap (λ x. line.text ++ x) (append_assoc (separator line.ended t) (token_text t) (print_from (ends t) ts)))

pub value_added : (line : Typed) (j : Json) → (with_json line j).text ≡ line.text ++ print_from line.ended (json_tokens j)
value_added line j = ap (λ (l : Typed). l.text) (json_on line j) ∙ text_on line (json_tokens j)

-- on a line that goes on from a text
pub added : (text : List ℕ) (j : Json) → (with_json (record { text = text; ended = false }) j).text ≡ text ++ print (json_tokens j)
added text j = value_added (record { text = text; ended = false }) j

pub listed : (line : Typed) (js : List Json) → with_items line (items_of js) ≡ with_token (with_all line js) Token.end_array
listed line [] = refl
listed line (j ∷ js) = listed (with_json line j) js

-- a value on a line that goes on from a text, and a line feed after it
pub lined : (text : List ℕ) (line more : Typed) (j : Json) (out ended : List ℕ) → line ≡ record { text = text; ended = false } → more ≡ with_json line j → out ≡ more.text → ended ≡ out ++ 10 ∷ []
    → ended ≡ text ++ (print (json_tokens j) ++ 10 ∷ [])
lined text line more j out ended begins adds is feed =
    feed ∙ (ap (λ (t : List ℕ). t ++ 10 ∷ []) (is ∙ (ap (λ (l : Typed). l.text) adds ∙ (ap (λ (l : Typed). (with_json l j).text) begins ∙ added text j))) ∙ append_assoc text (print (json_tokens j)) (10 ∷ []))

-- one value more
pub all_more : (line : Typed) (js : List Json) (j : Json) → with_all line (js ++ j ∷ []) ≡ with_json (with_all line js) j
all_more line [] j = refl
all_more line (k ∷ js) j = all_more (with_json line k) js j

pub adds_values : AddsValues
adds_values = record { value = value_added; list = listed }
