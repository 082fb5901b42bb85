-- What an answer adds leaves a session valid.
use Rattle.std.proofs.Common.{◌≡◌, ℕ, ◌+◌, ◌≤◌, List, [], ◌∷◌, ◌++◌, length, refl, sym, ap, ◌∙◌, subst, arith, append-nil, length-append}
use Rattle.std.specs.Prelude.{Ok, Option, Some, None, nat_le, slice_get, slice_set}
use Rattle.std.specs.List.{AllByRecursion}
use Rattle.std.proofs.Math.Seq.{set-append_seam}
use Rattle.def_chase.specs.Updates.{Choice, Expand, Unify, Drop}
use Rattle.def_language.specs.declared.Which.TheVariants as limit
use Rattle.def_language.specs.Reading.{each}
use Rattle.def_language.specs.Names.{Name, same_name, place_of, firsts}
use Rattle.def_language.specs.Statements.{WrittenFact, WrittenChoice, ExpandFact, UnifyFact, DeleteFacts}
use Rattle.def_language.specs.Grammar.{separated, fact_words, choice_words}
use Rattle.def_language.specs.Sayable.{IsWrittenFact, IsWrittenChoice}
use Rattle.def_language.specs.Sessions.{RelationSchema, SessionUpdate, SessionData, labels, curators, answer_count, most_answers}
use Rattle.def_language.specs.Cycles.{more}
use Rattle.def_language.specs.Meaning.{bounded_fact}
use Rattle.def_language.specs.Checks.{within, choice_of, with_answer, answered, add_answer}
use Rattle.def_language.specs.Validity.{AreNames, IsFact, IsChoice, IsUpdate, AreUpdates, enactments, IsSession}
use Rattle.def_language.proofs.Many.{bind_ok, ok_is}
use Rattle.def_language.proofs.Spoken.{ArePrinted}
use Rattle.def_language.proofs.Build.{so_far}
use Rattle.def_language.proofs.Passed.{fact_valid, each_valid, both_all, parts_printed}
use Rattle.def_language.proofs.Grows.{within_ok, room_ok, all_grow, among, mapped_same, enactments_same, updates_same, answers_more}
use Rattle.def_language.proofs.Kept.{MappingsValid, mappings_now, UpdatesValid, put_together}

choice_valid : (relations : List RelationSchema) (most : ℕ) (w : WrittenChoice) (c : Choice) → choice_of relations most w ≡ Ok c → IsWrittenChoice w → ArePrinted (choice_words w) → IsChoice relations most c
unfolding choice_of
choice_valid relations most ExpandFact c e good printed = subst (IsChoice relations most) (ok_is Expand c e) tt
choice_valid relations most (UnifyFact fact) c e good printed =
    let a = bind_ok (bounded_fact relations most fact) _ c e in
    subst (IsChoice relations most) (ok_is (Unify a.0) c a.2) (fact_valid relations most fact a.0 a.1 good printed.1)
choice_valid relations most (DeleteFacts facts) c e good printed =
    let a = bind_ok (each (bounded_fact relations most) facts) _ c e in
    let all : AllByRecursion (λ f. ArePrinted (fact_words f)) facts = parts_printed fact_words facts [] (subst ArePrinted (sym (append-nil (separated fact_words facts))) printed.1) in
    let x = each_valid (bounded_fact relations most) (λ (f : WrittenFact). IsWrittenFact f × ArePrinted (fact_words f)) (IsFact relations most) (λ f t e g. fact_valid relations most f t e g.0 g.1) facts a.0 a.1
    (both_all IsWrittenFact (λ (f : WrittenFact). ArePrinted (fact_words f)) facts good.1 all) in
    let low : 1 ≤ length facts = good.0 in
    subst (IsChoice relations most) (ok_is (Drop a.0) c a.2) (omega (arith, x.1), x.0)

answered_kept : (s t : SessionData) (label : Name) (w : WrittenChoice) (place : ℕ) (o : Option SessionUpdate) → IsSession s → slice_get s.updates place ≡ o → IsWrittenChoice w → ArePrinted (choice_words w) → answered s label w place o ≡ Ok t → IsSession t
answered_kept s t label w place None v is good printed e = let f : ⊥ = cc in absurd f
answered_kept s t label w place (Some u) v is good printed e =
    let a = bind_ok (within limit.Answers (nat_le (most_answers s.format) (answer_count s.updates))) _ t e in
    let b = bind_ok (choice_of s.relations (place + 1) w) _ t a.2 in
    let x = among s.updates place u is in
    let u' : SessionUpdate = with_answer u b.0 in
    let us : List SessionUpdate = x.front ++ u' ∷ x.back in
    let choice : IsChoice s.relations (place + 1) b.0 = choice_valid s.relations (place + 1) w b.0 b.1 good printed in
    let set : slice_set s.updates place u' ≡ us =
    ap (λ (ys : List SessionUpdate). slice_set ys place u') x.is ∙ ap (λ k. slice_set (x.front ++ u ∷ x.back) k u') (sym x.size) ∙ set-append_seam x.front u x.back u' in
    let same_labels : labels us ≡ labels s.updates = mapped_same (λ (y : SessionUpdate). y.label) x.front x.back u u' refl ∙ ap labels (sym x.is) in
    let same_curators : curators us ≡ curators s.updates = ap (λ (ns : List Name). firsts same_name ns) (mapped_same (λ (y : SessionUpdate). y.curator) x.front x.back u u' refl) ∙ ap curators (sym x.is) in
    let same_enactments : enactments 1 s.updates ≡ enactments 1 us = ap (enactments 1) x.is ∙ sym (enactments_same 1 x.front x.back u u' refl) in
    let size : length s.updates ≡ length us = ap length x.is ∙ length-append x.front (u ∷ x.back) ∙ sym (length-append x.front (u' ∷ x.back)) in
    let more : answer_count us ≡ answer_count s.updates + 1 =
    answers_more x.front x.back u u' (length-append u.answers (b.0 ∷ [])) ∙ ap (λ (ys : List SessionUpdate). answer_count ys + 1) (sym x.is) in
    let free = room_ok (most_answers s.format) (answer_count s.updates) (within_ok limit.Answers (nat_le (most_answers s.format) (answer_count s.updates)) a.0 a.1) in
    let here : place ≡ 0 + length x.front = omega (arith, x.size) in
    let updates : UpdatesValid s us = record {
      labels_ = subst AreNames (sym same_labels) v.labels;
      updates = updates_same s.relations 0 x.front x.back u u' (subst (AreUpdates s.relations 0) x.is v.updates)
          (λ (g : IsUpdate s.relations (0 + length x.front) u). (g.0, g.1, all_grow (IsChoice s.relations (0 + length x.front + 1)) u.answers b.0 g.2 (subst (λ k. IsChoice s.relations (k + 1) b.0) here choice)));
      update_count = omega (arith, size, v.update_count);
      curator_count = subst (λ (ns : List Name). length ns ≤ 64) (sym same_curators) v.curator_count;
      answers = omega (arith, more);
    } in
    let valid = put_together s s.mappings us v (subst (MappingsValid s s.mappings) same_enactments (mappings_now s v)) updates in
    let got : SessionData = so_far s.format s.relations s.mappings s.base (slice_set s.updates place u') in
    subst IsSession (ap (λ (ys : List SessionUpdate). so_far s.format s.relations s.mappings s.base ys) (sym set) ∙ ok_is got t b.2) valid

pub answer_kept : (s t : SessionData) (label : Name) (w : WrittenChoice) → IsSession s → IsWrittenChoice w → ArePrinted (choice_words w) → add_answer s label w ≡ Ok t → IsSession t
unfolding add_answer
answer_kept s t label w v good printed e =
    answered_kept s t label w (place_of (labels s.updates) label) (slice_get s.updates (place_of (labels s.updates) label)) v refl good printed e
