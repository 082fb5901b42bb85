-- What is printed of each kind of entry.
use Rattle.std.specs.Prelude.{◌≡◌, ◌≤◌, ℕ, List, map, codes, Some}
use Rattle.std.proofs.Common.{refl, ◌∙◌, arith}
use Rattle.json.specs.Tree.{depth, HasNumbers}
use Rattle.json.proofs.Printed.Decimals.{IsNumber-decimal}
use Rattle.json.proofs.Printed.Utf8.{IsUtf8-are_ascii}
use Rattle.serde_json.specs.Data as values
use Rattle.serde_json.specs.Data.{Data}
use Rattle.serde_json.specs.Read.{of_json, of_items, max_depth}
use Rattle.serde_json.proofs.Numbers.{number_of-decimal}
use Rattle.def_language.specs.Sessions.{RelationSchema}
use Rattle.def_history.specs.PlainEntries.{StepMade, DeliveryMade, AnswerMade, WithdrawalMade, PlainEntry, WasAdmitted, WasStepped, WasDelivered, WasAnswered, WasWithdrawn}
use Rattle.base_json.specs.Lines.{items_of}
use Rattle.audit_claims.specs.Claims.{Says, Tells}
use Rattle.audit_trace.specs.Traces.{cause_json, choice_text, entry_json, standing_name, write_json}
use Rattle.audit_claims.specs.Claimed.{HasWords, IsPrintable, IsText, IsWord, entry_text, told_by}
use Rattle.audit_claims.proofs.Objects.{cause_depth, cause_numbers, cause_read, cause_texts, numbers, read, shallow, status_text, texts, unsigned, word_text, write_depth, write_numbers, write_read, write_texts}
use Rattle.audit_claims.proofs.Texts.{HasTexts, printed_text, read_again}

-- The value of an entry is printed as UTF-8, and is read again as this object, which says the entry's event.
record IsTold (relations : List RelationSchema) (e : PlainEntry) : Type 0 where
  texts : HasTexts (entry_json relations e)
  numbers : HasNumbers (entry_json relations e)
  shallow : depth (entry_json relations e) ≤ max_depth
  value : Data
  read : of_json (entry_json relations e) ≡ Some value
  says : Says relations value (told_by e)

module _ (relations : List RelationSchema) where
  admitted : (u : ℕ) → IsPrintable relations (WasAdmitted u) → IsTold relations (WasAdmitted u)
  admitted u p =
      let low : IsWord u = let most = p.most in omega arith in
      record {
        texts = (IsUtf8-are_ascii _ refl, (IsUtf8-are_ascii _ refl, (IsUtf8-are_ascii _ refl, (word_text u low, tt))));
        numbers = (tt, (IsNumber-decimal u low, tt));
        shallow = omega arith;
        value = values.object (values.member (codes "event") (values.string (codes "admitted")) (values.member (codes "update") (unsigned u) values.no_members));
        read = rw (number_of-decimal u low) refl;
        says = record { event = refl; update = refl; least = p.least; most = p.most; choice = tt };
      }

  delivered : (e : DeliveryMade) → IsPrintable relations (WasDelivered e) → IsTold relations (WasDelivered e)
  delivered e p =
      let low : IsWord e.update = let most = p.most in omega arith in
      record {
        texts = (IsUtf8-are_ascii _ refl, (IsUtf8-are_ascii _ refl, (IsUtf8-are_ascii _ refl, (status_text e.standing, (IsUtf8-are_ascii _ refl, (word_text e.update low, tt))))));
        numbers = (tt, (tt, (IsNumber-decimal e.update low, tt)));
        shallow = omega arith;
        value = values.object (values.member (codes "event") (values.string (codes "delivered")) (values.member (codes "status") (values.string (standing_name e.standing)) (values.member (codes "update") (unsigned e.update) values.no_members)));
        read = rw (number_of-decimal e.update low) refl;
        says = record { event = refl; update = refl; least = p.least; most = p.most; choice = tt };
      }

  answered : (e : AnswerMade) → IsPrintable relations (WasAnswered e) → IsTold relations (WasAnswered e)
  answered e p =
      let low : IsWord e.update = let most = p.most in omega arith in
      record {
        texts = (IsUtf8-are_ascii _ refl, (p.parts.spelled.utf8, (IsUtf8-are_ascii _ refl, (IsUtf8-are_ascii _ refl, (IsUtf8-are_ascii _ refl, (status_text e.standing, (IsUtf8-are_ascii _ refl, (word_text e.update low, tt))))))));
        numbers = (tt, (tt, (tt, (IsNumber-decimal e.update low, tt))));
        shallow = omega arith;
        value =
            values.object (values.member (codes "choice") (values.string (choice_text relations e.choice)) (values.member (codes "event") (values.string (codes "answered"))
            (values.member (codes "status") (values.string (standing_name e.standing)) (values.member (codes "update") (unsigned e.update) values.no_members))));
        read = rw (number_of-decimal e.update low) refl;
        says = record {
          event = refl;
          update = refl;
          least = p.least;
          most = p.most;
          choice = record { text = choice_text relations e.choice; there = refl; written = p.parts.written; spelled = p.parts.spelled; known = p.parts.known };
        };
      }

  withdrawn : (e : WithdrawalMade) → IsPrintable relations (WasWithdrawn e) → IsTold relations (WasWithdrawn e)
  withdrawn e p =
      let low : IsWord e.update = let most = p.most in omega arith in
      let causes : (ds : values.Items) × (of_items (items_of (map cause_json e.causes)) ≡ Some ds) = read cause_json HasWords cause_read e.causes p.parts.1 in
      let flat = shallow cause_json cause_depth e.causes in
      record {
        texts = (
          IsUtf8-are_ascii _ refl,
          (
            texts cause_json HasWords cause_texts e.causes p.parts.1,
            (
              IsUtf8-are_ascii _ refl,
              (
                word_text e.committed p.parts.0,
                (IsUtf8-are_ascii _ refl, (IsUtf8-are_ascii _ refl, (IsUtf8-are_ascii _ refl, (word_text e.update low, tt)))),
              ),
            ),
          ),
        );
        numbers = (numbers cause_json HasWords cause_numbers e.causes p.parts.1, (IsNumber-decimal e.committed p.parts.0, (tt, (IsNumber-decimal e.update low, tt))));
        shallow = omega (arith, flat);
        value =
            values.object (values.member (codes "causes") (values.array causes.0) (values.member (codes "committed") (unsigned e.committed)
            (values.member (codes "event") (values.string (codes "withdrawn")) (values.member (codes "update") (unsigned e.update) values.no_members))));
        read = rw (causes.1, number_of-decimal e.committed p.parts.0, number_of-decimal e.update low) refl;
        says = record { event = refl; update = refl; least = p.least; most = p.most; choice = tt };
      }

  stepped : (e : StepMade) → IsPrintable relations (WasStepped e) → IsTold relations (WasStepped e)
  stepped e p =
      let low : IsWord e.update = let most = p.most in omega arith in
      let causes : (ds : values.Items) × (of_items (items_of (map cause_json e.causes)) ≡ Some ds) = read cause_json HasWords cause_read e.causes p.parts.2 in
      let writes : (ds : values.Items) × (of_items (items_of (map (write_json relations) e.writes)) ≡ Some ds) = read (write_json relations) (IsText relations) (write_read relations) e.writes p.parts.3 in
      let flat = shallow cause_json cause_depth e.causes in
      let flat_writes = shallow (write_json relations) (write_depth relations) e.writes in
      record {
        texts = (
          IsUtf8-are_ascii _ refl,
          (
            word_text e.attempt p.parts.0,
            (
              IsUtf8-are_ascii _ refl,
              (
                texts cause_json HasWords cause_texts e.causes p.parts.2,
                (
                  IsUtf8-are_ascii _ refl,
                  (
                    word_text e.committed p.parts.1,
                    (
                      IsUtf8-are_ascii _ refl,
                      (
                        IsUtf8-are_ascii _ refl,
                        (
                          IsUtf8-are_ascii _ refl,
                          (
                            status_text e.standing,
                            (
                              IsUtf8-are_ascii _ refl,
                              (
                                word_text e.update low,
                                (IsUtf8-are_ascii _ refl, (texts (write_json relations) (IsText relations) (write_texts relations) e.writes p.parts.3, tt)),
                              ),
                            ),
                          ),
                        ),
                      ),
                    ),
                  ),
                ),
              ),
            ),
          ),
        );
        numbers = (
          IsNumber-decimal e.attempt p.parts.0,
          (
            numbers cause_json HasWords cause_numbers e.causes p.parts.2,
            (
              IsNumber-decimal e.committed p.parts.1,
              (tt, (tt, (IsNumber-decimal e.update low, (numbers (write_json relations) (IsText relations) (write_numbers relations) e.writes p.parts.3, tt)))),
            ),
          ),
        );
        shallow = omega (arith, flat, flat_writes);
        value =
            values.object (values.member (codes "attempt") (unsigned e.attempt) (values.member (codes "causes") (values.array causes.0) (values.member (codes "committed") (unsigned e.committed)
            (values.member (codes "event") (values.string (codes "stepped")) (values.member (codes "status") (values.string (standing_name e.standing))
            (values.member (codes "update") (unsigned e.update) (values.member (codes "writes") (values.array writes.0) values.no_members)))))));
        read = rw (number_of-decimal e.attempt p.parts.0, causes.1, number_of-decimal e.committed p.parts.1, number_of-decimal e.update low, writes.1) refl;
        says = record { event = refl; update = refl; least = p.least; most = p.most; choice = tt };
      }

  told : (e : PlainEntry) → IsPrintable relations e → IsTold relations e
  told (WasAdmitted u) p = admitted u p
  told (WasStepped e) p = stepped e p
  told (WasDelivered e) p = delivered e p
  told (WasAnswered e) p = answered e p
  told (WasWithdrawn e) p = withdrawn e p

  pub entry_tells : (e : PlainEntry) → IsPrintable relations e → Tells relations (entry_text relations e) (told_by e)
  entry_tells e p =
      let t = told e p in
      record {
        utf8 = printed_text (entry_json relations e) t.texts;
        value = t.value;
        json = read_again (entry_json relations e) t.numbers t.shallow ∙ t.read;
        says = t.says;
      }
