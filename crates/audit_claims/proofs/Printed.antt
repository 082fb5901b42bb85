-- What is printed of an entry stands on one line.
use Rattle.std.specs.Prelude.{◌≡◌, ◌≤◌, ◌<◌, ◌&&◌, ℕ, zero, suc, not, Bool, true, false, cond, List, [], ◌∷◌, ◌++◌, map}
use Rattle.std.proofs.Common.{refl, sym, subst, arith, inl, inr}
use Rattle.std.proofs.lemmas.Bool.{and_parts, cases_eq, cases_lt}
use Rattle.std.proofs.lemmas.Bool.Decides.{nat_tests}
use Rattle.json.specs.Json.{Json, null, boolean, number, string, array, object, Items, no_items, item, Members, no_members, member}
use Rattle.json.specs.Print.{print, print_from, separator, token_text, begins, ends, escape, escape_byte, quoted}
use Rattle.json.specs.Token.{Token}
use Rattle.json.specs.Tree.{json_tokens, items_tokens, members_tokens}
use Rattle.json.proofs.Printed.Strings.{escape_byte_plain}
use Rattle.std.specs.List.{AllByRecursion}
use Rattle.def_language.specs.Sessions.{RelationSchema}
use Rattle.def_history.specs.PlainEntries.{PlainCause, InConflict, Dependent, PlainEntry, WasAdmitted, WasStepped, WasDelivered, WasAnswered, WasWithdrawn}
use Rattle.base_json.specs.Lines.{items_of}
use Rattle.def_language.specs.Bytes.{is_line_feed}
use Rattle.def_chase.specs.Repository.{Change}
use Rattle.audit_trace.specs.Traces.{cause_json, entry_json, write_json}
use Rattle.audit_claims.proofs.Cuts.{Unfed, digits_unfed, joined}

-- ---- texts

abbrev are_unfed : List ℕ → Bool
are_unfed [] = true
are_unfed (b ∷ bs) = not (is_line_feed b) && are_unfed bs

not_true : (b : Bool) → not b ≡ true → b ≡ false
not_true false e = refl
not_true true e = cc

unfed : (bs : List ℕ) → are_unfed bs ≡ true → Unfed bs
unfed [] e = tt
unfed (b ∷ bs) e = let p = and_parts (not (is_line_feed b)) (are_unfed bs) e in (not_true (is_line_feed b) p.0, unfed bs p.1)

abbrev unfed_below : ℕ → Bool
unfed_below zero = true
unfed_below (suc n) = are_unfed (escape_byte n) && unfed_below n

each_below : (n : ℕ) → unfed_below n ≡ true → (x : ℕ) → x < n → are_unfed (escape_byte x) ≡ true
each_below zero e x h = absurd (omega arith)
each_below (suc n) e x h =
    let p = and_parts (are_unfed (escape_byte n)) (unfed_below n) e in
    elim (cases_eq x n) [ inl same ↦ rw same p.0 | inr other ↦ each_below n p.1 x (omega arith) ]

low : unfed_below 128 ≡ true
unfolding escape_byte
low = refl

high : (x : ℕ) → 128 ≤ x → is_line_feed x ≡ false
high x far = grind (arith, nat_tests)

escaped_byte : (x : ℕ) → Unfed (escape_byte x)
escaped_byte x = elim (cases_lt x 128) [
  | inl small ↦ unfed (escape_byte x) (each_below 128 low x small)
  | inr far ↦ subst Unfed (sym (escape_byte_plain x (λ e. omega arith) (λ e. omega arith) (omega arith))) (high x far, tt)
]

escaped : (s : List ℕ) → Unfed (escape s)
escaped [] = tt
escaped (x ∷ s) = joined (escape_byte x) (escape s) (escaped_byte x) (escaped s)

in_quotes : (s : List ℕ) → Unfed (quoted s)
in_quotes s = (refl, joined (escape s) (34 ∷ []) (escaped s) (refl, tt))

-- ---- tokens

abbrev AreUnfed : List Token → Type 0
AreUnfed ts = AllByRecursion (λ t. Unfed (token_text t)) ts

parted : (b : Bool) (t : Token) → Unfed (separator b t)
parted b t = by (b && begins t)
  where
    by : (c : Bool) → Unfed (cond c (44 ∷ []) [])
    by true = (refl, tt)
    by false = tt

printed_from : (b : Bool) (ts : List Token) → AreUnfed ts → Unfed (print_from b ts)
unfolding print_from
printed_from b [] all = tt
printed_from b (t ∷ ts) all = joined (separator b t) (token_text t ++ print_from (ends t) ts) (parted b t) (joined (token_text t) (print_from (ends t) ts) all.0 (printed_from (ends t) ts all.1))

both : (ts us : List Token) → AreUnfed ts → AreUnfed us → AreUnfed (ts ++ us)
both [] us a b = b
both (t ∷ ts) us a b = (a.0, both ts us a.1 b)

-- No number of the value has a line feed.
abbrev mutual
  HasUnfed : Json → Type 0
  HasUnfed null = Unit {0}
  HasUnfed (boolean b) = Unit {0}
  HasUnfed (number s) = Unfed s
  HasUnfed (string s) = Unit {0}
  HasUnfed (array js) = ItemsUnfed js
  HasUnfed (object ms) = MembersUnfed ms

  ItemsUnfed : Items → Type 0
  ItemsUnfed no_items = Unit {0}
  ItemsUnfed (item j js) = HasUnfed j × ItemsUnfed js

  MembersUnfed : Members → Type 0
  MembersUnfed no_members = Unit {0}
  MembersUnfed (member k j ms) = HasUnfed j × MembersUnfed ms

word : (b : Bool) → Unfed (token_text (Token.boolean b))
word true = unfed (token_text (Token.boolean true)) refl
word false = unfed (token_text (Token.boolean false)) refl

mutual
  tokens_of : (j : Json) → HasUnfed j → AreUnfed (json_tokens j)
  tokens_of null all = (unfed (token_text Token.null) refl, tt)
  tokens_of (boolean b) all = (word b, tt)
  tokens_of (number s) all = (all, tt)
  tokens_of (string s) all = (in_quotes s, tt)
  tokens_of (array js) all = ((refl, tt), tokens_of_items js all)
  tokens_of (object ms) all = ((refl, tt), tokens_of_members ms all)

  tokens_of_items : (js : Items) → ItemsUnfed js → AreUnfed (items_tokens js)
  tokens_of_items no_items all = ((refl, tt), tt)
  tokens_of_items (item j js) all = both (json_tokens j) (items_tokens js) (tokens_of j all.0) (tokens_of_items js all.1)

  tokens_of_members : (ms : Members) → MembersUnfed ms → AreUnfed (members_tokens ms)
  tokens_of_members no_members all = ((refl, tt), tt)
  tokens_of_members (member k j ms) all =
      (joined (quoted k) (58 ∷ []) (in_quotes k) (refl, tt), both (json_tokens j) (members_tokens ms) (tokens_of j all.0) (tokens_of_members ms all.1))

-- ---- entries

causes : (cs : List PlainCause) → ItemsUnfed (items_of (map cause_json cs))
causes [] = tt
causes (InConflict c ∷ cs) = ((tt, (digits_unfed c.read, (digits_unfed c.reader, (digits_unfed c.writer, tt)))), causes cs)
causes (Dependent c ∷ cs) = ((tt, (digits_unfed c.on, (digits_unfed c.read, (digits_unfed c.reader, tt)))), causes cs)

writes : (relations : List RelationSchema) (ws : List Change) → ItemsUnfed (items_of (map (write_json relations) ws))
writes relations [] = tt
writes relations (w ∷ ws) = (tt, writes relations ws)

entry : (relations : List RelationSchema) (e : PlainEntry) → HasUnfed (entry_json relations e)
entry relations (WasAdmitted u) = (tt, (digits_unfed u, tt))
entry relations (WasStepped e) = (digits_unfed e.attempt, (causes e.causes, (digits_unfed e.committed, (tt, (tt, (digits_unfed e.update, (writes relations e.writes, tt)))))))
entry relations (WasDelivered e) = (tt, (tt, (digits_unfed e.update, tt)))
entry relations (WasAnswered e) = (tt, (tt, (tt, (digits_unfed e.update, tt))))
entry relations (WasWithdrawn e) = (causes e.causes, (digits_unfed e.committed, (tt, (digits_unfed e.update, tt))))

pub one_line : (relations : List RelationSchema) (e : PlainEntry) → Unfed (print (json_tokens (entry_json relations e)))
one_line relations e = printed_from false (json_tokens (entry_json relations e)) (tokens_of (entry_json relations e) (entry relations e))
