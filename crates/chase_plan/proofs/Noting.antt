-- What the reads of a log tell of mappings.
use Rattle.std.proofs.Common.{◌≡◌, ◌∙◌, ap, refl, sym, subst, ℕ, zero, suc, slice_index_or, replicate, Bool, true, false, if◌then◌else◌, List, [], ◌∷◌, ◌++◌, ◌-◌, take, drop}
use Rattle.std.specs.List.{list_all}
use Rattle.std.proofs.lemmas.Bool.{false≢true, and_parts}
use Rattle.std.proofs.lemmas.List.{take-append-drop}
use Rattle.std.proofs.lemmas.List.Folds.{list_all-append}
use Rattle.def_chase.specs.Values.{Fact}
use Rattle.def_chase.specs.Mappings.{Rule}
use Rattle.def_chase.specs.Queries.{Reply, Yes, No, Image, Nothing, Tuples, same_reply}
use Rattle.def_chase.specs.Repository.{Change}
use Rattle.def_chase.specs.Updates.{direction_of}
use Rattle.chase_eval.specs.Watched.{AreSettled, LoseMarksTo, with_settled}
use Rattle.chase_eval.proofs.Settling.{learnt_nothing, settled_after}
use Rattle.chase_query.specs.Meanings.{Read, own_of, passing, reads_in, reads_of}
use Rattle.chase_query.specs.declared.log.Logged.{Logged}
use Rattle.chase_query.specs.declared.log.Logged.TheVariants.{Asked, Passed}
use Rattle.chase_query.proofs.Entries.{with_last}
use Rattle.def_steps.specs.Attempts.{Attempt}
use Rattle.chase_plan.specs.Planned.{HasSettled}
use Rattle.chase_plan.specs.Settled.{is_valid_over, AreValidOver, HasSettledBy, all_noted, noted}

is_nothing : (a b : Reply) → same_reply a Nothing ≡ true → same_reply a b ≡ true → b ≡ Nothing
is_nothing Nothing Nothing e f = refl
is_nothing Nothing Yes e f = absurd (false≢true f)
is_nothing Nothing No e f = absurd (false≢true f)
is_nothing Nothing (Image xs) e f = absurd (false≢true f)
is_nothing Nothing (Tuples xs) e f = absurd (false≢true f)
is_nothing Yes b e f = absurd (false≢true e)
is_nothing No b e f = absurd (false≢true e)
is_nothing (Image xs) b e f = absurd (false≢true e)
is_nothing (Tuples xs) b e f = absurd (false≢true e)

-- A valid read may be noted.
noted_right : (n : ℕ) (ms : List Rule) (D : List Fact) (P : Attempt) (marks : List Bool) (r : Read) → r.own ≡ n → is_valid_over ms D P r ≡ true → HasSettledBy n ms D P marks → HasSettledBy n ms D P (noted marks r)
noted_right n ms D P marks r own valid settled = by (same_reply r.reply Nothing) refl
  where
    by : (b : Bool) → same_reply r.reply Nothing ≡ b → HasSettledBy n ms D P (if b then with_settled marks r.query else marks)
    by true e =
        subst (λ (m : ℕ). HasSettledBy m ms D P (with_settled marks r.query)) own
        (learnt_nothing _ marks r.query (subst (λ (m : ℕ). HasSettledBy m ms D P marks) (sym own) settled) (is_nothing r.reply _ e valid))
    by false e = settled

-- The reads of the last entry are valid, and those before it.
pub last_valid : (ms : List Rule) (D : List Fact) (P : Attempt) (all before : List Logged) (e : Logged) → all ≡ before ++ e ∷ [] → AreValidOver ms D P (reads_in all)
    → AreValidOver ms D P (reads_in before) × AreValidOver ms D P (reads_of e)
last_valid ms D P all before e h valid =
    and_parts (list_all (is_valid_over ms D P) (reads_in before)) (list_all (is_valid_over ms D P) (reads_of e))
    (sym (list_all-append (is_valid_over ms D P) (reads_in before) (reads_of e)) ∙ ap (list_all (is_valid_over ms D P)) (sym (with_last all before e (reads_of e) h refl)) ∙ valid)

-- These reads are of an attempt that had made n writes.
abbrev HaveMade : ℕ → List Read → Type 0
HaveMade n [] = Unit {0}
HaveMade n (r ∷ rs) = (r.own ≡ n) × HaveMade n rs

-- Valid reads may be noted.
all_noted_right : (n : ℕ) (ms : List Rule) (D : List Fact) (P : Attempt) (marks : List Bool) (rs : List Read) → HaveMade n rs → AreValidOver ms D P rs → HasSettledBy n ms D P marks → HasSettledBy n ms D P (all_noted marks rs)
all_noted_right n ms D P marks [] own valid settled = settled
all_noted_right n ms D P marks (r ∷ rs) own valid settled =
    let parts = and_parts (is_valid_over ms D P r) (list_all (is_valid_over ms D P) rs) valid in
    all_noted_right n ms D P (noted marks r) rs own.1 parts.1 (noted_right n ms D P marks r own.0 parts.0 settled)

passage_made : (k m own n : ℕ) → own ≡ n → HaveMade n (passing k m own)
passage_made k zero own n e = tt
passage_made k (suc m) own n e = (e, passage_made (suc k) m own n e)

made_by : (e : Logged) (n : ℕ) → own_of e ≡ n → HaveMade n (reads_of e)
made_by (Asked r) n e = (e, tt)
made_by (Passed passage) n e = passage_made passage.start (passage.end - passage.start) passage.own n e

pub note_right : (n : ℕ) (ms : List Rule) (D : List Fact) (P : Attempt) (marks marks' : List Bool) (e : Logged) → own_of e ≡ n → marks' ≡ all_noted marks (reads_of e)
    → AreValidOver ms D P (reads_of e) → HasSettledBy n ms D P marks → HasSettledBy n ms D P marks'
note_right n ms D P marks marks' e own h valid settled = subst (λ xs. HasSettledBy n ms D P xs) (sym h) (all_noted_right n ms D P marks (reads_of e) (made_by e n own) valid settled)

-- What the first writes have left settled, and none of the later ones stirred, all of them have.
pub settled_since : (n : ℕ) (ms : List Rule) (D : List Fact) (P : Attempt) (marks left : List Bool) (ws : List Change) → ws ≡ drop n P.own → LoseMarksTo ws ms marks left → HasSettledBy n ms D P marks → HasSettled ms D P left
settled_since n ms D P marks left ws e loses settled =
    subst (λ (own : List Change). AreSettled (record { rules = ms; heading = direction_of P.operation; below = D; own = own }) left) (ap (λ xs. take n P.own ++ xs) e ∙ take-append-drop n P.own)
    (settled_after (record { rules = ms; heading = direction_of P.operation; below = D; own = take n P.own }) ws marks left settled loses)

none_marked : (n m : ℕ) → slice_index_or (replicate n false) m false ≡ false
none_marked zero m = refl
none_marked (suc n) zero = refl
none_marked (suc n) (suc m) = none_marked n m

-- With no mark there is nothing to show.
pub nothing_settled : (k n : ℕ) (ms : List Rule) (D : List Fact) (P : Attempt) (marks : List Bool) → marks ≡ replicate k false → HasSettledBy n ms D P marks
nothing_settled k n ms D P marks e m h = absurd (false≢true (sym (none_marked k m) ∙ sym (ap (λ (xs : List Bool). slice_index_or xs m false) e) ∙ h))
