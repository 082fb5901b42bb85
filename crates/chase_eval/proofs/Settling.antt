-- Mappings that have no violation which the own writes caused: all of them at the start, and after a write those that it does not stir.
use Rattle.std.proofs.Common.{◌≡◌, ◌⊎◌, inl, inr, append-nil, append_assoc, slice_set, ℕ, ap, refl, sym, ◌∙◌, subst, List, [], ◌∷◌, ◌++◌, Bool, true, false, not, ◌||◌, ◌&&◌, cond, length, Option, Some, None, slice_index_or}
use Rattle.std.specs.List.{list_any, slice_get}
use Rattle.std.specs.Prelude.{◌==◌}
use Rattle.std.proofs.lemmas.Bool.{and_parts, not-true, eqb-true, eqb-false}
use Rattle.std.proofs.lemmas.List.{get_or-set_other}
use Rattle.def_chase.specs.Values.{Fact}
use Rattle.def_chase.specs.Repository.{Change, Insert, Delete, apply, inserts}
use Rattle.def_chase.specs.Mappings.{Rule, force, force_relation}
use Rattle.def_chase.specs.Matching.{Known, nothing_known, learn_all, lists_of, extends}
use Rattle.def_chase.specs.Queries.{Query, Present, Specific, Occurs, Nothing, Violation, image_reply, violation_reply, scope_at, value}
use Rattle.def_chase.specs.Violations.{Direction, Forward, Backward, Every, Caused, in_scope, violated_at, violates, first_violation}
use Rattle.def_chase.proofs.Bools.{first_off, and-false}
use Rattle.def_chase.proofs.Searches.{any_join, find_none}
use Rattle.chase_eval.specs.Seen.{Seen, written}
use Rattle.chase_eval.specs.Watched.{Watched, watched_on, seen_over, value_in, relation_in, touches, stirs, with_settled, LoseMarksTo, AreSettled}
use Rattle.chase_eval.proofs.Written.{apply_one_more}
use Rattle.chase_eval.proofs.OtherRelations.{differ_by_relation, none_stays}

-- ---- no own write

none_pass : {K : Type 0} (xs : List K) → list_any (λ (x : K). false) xs ≡ false
none_pass [] = refl
none_pass (x ∷ xs) = none_pass xs

none_in_scope : (d : Direction) (m : Rule) (image : List Fact) (k : Known) → in_scope (Caused d) [] m image k ≡ false
none_in_scope Forward m image k = none_pass image
none_in_scope Backward m image k = none_pass m.right

none_caused : (d : Direction) (m : Rule) (E : List Fact) → first_violation (Caused d) [] m E ≡ None
none_caused d m E = find_none (violates (Caused d) [] m E) (λ image. by image (learn_all m.left image nothing_known)) (lists_of (length m.left) E)
  where
    by : (image : List Fact) (o : Option Known) → violated_at (Caused d) [] m E image o ≡ false
    by image None = refl
    by image (Some k) = ap (λ b. not (extends k m.right E) && b) (none_in_scope d m image k) ∙ and-false (not (extends k m.right E))

whole_scope : (d : Direction) (n : ℕ) → scope_at (Caused d) [] n ≡ Caused d
whole_scope Forward n = refl
whole_scope Backward n = refl

-- No violation is caused by no write.
pub nothing_caused : (ms : List Rule) (d : Direction) (D : List Fact) (own : List Change) (n : ℕ) → own ≡ [] → value ms (Violation n) D own (Caused d) ≡ Nothing
nothing_caused ms d D own n e = ap (λ (ws : List Change). value ms (Violation n) D ws (Caused d)) e ∙ by (slice_get ms n)
  where
    by : (o : Option Rule) → violation_reply o (scope_at (Caused d) [] n) [] D ≡ Nothing
    by None = refl
    by (Some m) = ap (λ s. image_reply (first_violation s [] m D)) (whole_scope d n) ∙ ap image_reply (none_caused d m D)

-- ---- one own write more

no_image : (o : Option (List Fact)) → image_reply o ≡ Nothing → o ≡ None
no_image None e = refl
no_image (Some x) e = cc

pub no_force : (n : ℕ) (w : Change) → (relation_in w == force_relation) ≡ false → inserts (force n) w ≡ false
no_force n (Insert t) h = differ_by_relation (force n) t (λ e. eqb-false t.relation force_relation h (sym e))
no_force n (Delete t) h = refl

or_none : (a b : Bool) → b ≡ false → (a || (b || false)) ≡ a
or_none true b e = refl
or_none false b e = ap (λ c. c || false) e

same_scope : (d : Direction) (own : List Change) (w : Change) (n : ℕ) → (relation_in w == force_relation) ≡ false → scope_at (Caused d) (own ++ w ∷ []) n ≡ scope_at (Caused d) own n
same_scope Backward own w n h = refl
same_scope Forward own w n h =
    ap (λ b. cond b Every (Caused Forward)) (any_join (inserts (force n)) own (w ∷ []) ∙ or_none (list_any (inserts (force n)) own) (inserts (force n) w) (no_force n w h))

-- A mapping that the write does not stir has still no violation.
still_nothing : (v : Watched) (w : Change) (n : ℕ) → stirs w (slice_get v.rules n) ≡ false → value v.rules (Violation n) v.below v.own (Caused v.heading) ≡ Nothing
    → value v.rules (Violation n) v.below (v.own ++ w ∷ []) (Caused v.heading) ≡ Nothing
still_nothing v w n h e = by (slice_get v.rules n) h e
  where
    by : (o : Option Rule) → stirs w o ≡ false → violation_reply o (scope_at (Caused v.heading) v.own n) v.own (apply v.below v.own) ≡ Nothing
        → violation_reply o (scope_at (Caused v.heading) (v.own ++ w ∷ []) n) (v.own ++ w ∷ []) (apply v.below (v.own ++ w ∷ [])) ≡ Nothing
    by None h e = refl
    by (Some m) h e =
        let force_off = first_off (relation_in w == force_relation) (touches w (Some m)) h in
        (λ i. image_reply (first_violation (same_scope v.heading v.own w n force_off.0 i) (v.own ++ w ∷ []) m (apply_one_more v.below v.own w i)))
        ∙ ap image_reply (none_stays (scope_at (Caused v.heading) v.own n) v.own w m (apply v.below v.own) force_off.1 (no_image _ e))

-- The marks that the write leaves.
abbrev pub Left : List Rule → Change → List Bool → List Bool → Type 0
Left ms w marks left = (n : ℕ) → slice_index_or left n false ≡ (slice_index_or marks n false && not (stirs w (slice_get ms n)))

with_write : (v : Watched) (w : Change) (marks left : List Bool) → AreSettled v marks → Left v.rules w marks left → AreSettled (watched_on v (w ∷ [])) left
with_write v w marks left a h n e =
    let p = and_parts (slice_index_or marks n false) (not (stirs w (slice_get v.rules n))) (sym (h n) ∙ e) in
    still_nothing v w n (not-true (stirs w (slice_get v.rules n)) p.1) (a n p.0)

-- They are right with the write.
pub settled_with : (ms : List Rule) (d : Direction) (s t : Seen) (w : Change) (marks left : List Bool)
    → AreSettled (seen_over ms d s) marks → Left ms w marks left → t ≡ written s (w ∷ []) → AreSettled (seen_over ms d t) left
settled_with ms d s t w marks left a h e = subst (λ (u : Seen). AreSettled (seen_over ms d u) left) (sym e) (with_write (seen_over ms d s) w marks left a h)

-- ---- what an answer tells

marked : (marks : List Bool) (n m : ℕ) → slice_index_or (slice_set marks n true) m false ≡ true → (m ≡ n) ⊎ (slice_index_or marks m false ≡ true)
marked marks n m h = by (m == n) refl
  where
    by : (b : Bool) → (m == n) ≡ b → (m ≡ n) ⊎ (slice_index_or marks m false ≡ true)
    by true e = inl (eqb-true m n e)
    by false e = inr (sym (get_or-set_other marks n m true false (eqb-false m n e)) ∙ h)

-- Where a query has the answer that there is none its mapping may have a mark.
pub learnt_nothing : (w : Watched) (marks : List Bool) (q : Query) → AreSettled w marks → value_in w q ≡ Nothing → AreSettled w (with_settled marks q)
learnt_nothing w marks (Present t) a e = a
learnt_nothing w marks (Violation n) a e = λ m f. by m (marked marks n m f)
  where
    by : (m : ℕ) → (m ≡ n) ⊎ (slice_index_or marks m false ≡ true) → value w.rules (Violation m) w.below w.own (Caused w.heading) ≡ Nothing
    by m (inl same) = ap (λ k. value w.rules (Violation k) w.below w.own (Caused w.heading)) same ∙ e
    by m (inr f) = a m f
learnt_nothing w marks (Specific t) a e = a
learnt_nothing w marks (Occurs u k) a e = a

-- ---- several own writes more

pub settled_after : (w : Watched) (ws : List Change) (marks left : List Bool) → AreSettled w marks → LoseMarksTo ws w.rules marks left → AreSettled (watched_on w ws) left
settled_after w [] marks left a e = subst (λ (own : List Change). AreSettled (record { rules = w.rules; heading = w.heading; below = w.below; own = own }) left) (sym (append-nil w.own)) (subst (λ l. AreSettled w l) (sym e) a)
settled_after w (x ∷ ws) marks left a h =
    subst (λ (own : List Change). AreSettled (record { rules = w.rules; heading = w.heading; below = w.below; own = own }) left) (append_assoc w.own (x ∷ []) ws)
    (settled_after (watched_on w (x ∷ [])) ws h.0 left (with_write w x marks h.0 a h.1) h.2)
