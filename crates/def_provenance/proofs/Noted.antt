-- What is noted of steps tells what the steps themselves tell.
use Rattle.std.proofs.Common.{◌≡◌, ◌∙◌, ap, refl, sym, Bool, true, false, ◌&&◌, ◌||◌, not, List, [], ◌∷◌, ◌++◌, map, filter, reverse}
use Rattle.std.specs.List.{flat_map}
use Rattle.std.proofs.lemmas.Bool.{false≢true}
use Rattle.std.proofs.lemmas.List.{append-nil, reverse-append}
use Rattle.def_chase.specs.Values.{Fact, same_fact}
use Rattle.def_chase.specs.Repository.{Change, Insert, Delete, has, inserted_after}
use Rattle.def_chase.proofs.Sets.{has-apply}
use Rattle.def_chase.proofs.Members.{has-filter}
use Rattle.def_provenance.specs.Puts.{Step, puts, inserted}
use Rattle.def_provenance.specs.Reasons.{Reason, explained, reason_at, sought_before}
use Rattle.def_provenance.specs.Notes.{Noted, note, noted, unless_none, notes_of, told_by}
use Rattle.def_provenance.specs.Laws.{NotesTell}

-- What is there after writes and was not there before is inserted by one of them.
was_inserted : (b : Bool) (ws : List Change) (t : Fact) → not b && inserted_after b ws t ≡ true → has (inserted ws) t ≡ true
was_inserted true ws t e = absurd (false≢true e)
was_inserted false [] t e = e
was_inserted false (Insert s ∷ ws) t e = by (same_fact t s) (λ f. was_inserted false ws t f) e
  where
    by : (c : Bool) → (inserted_after false ws t ≡ true → has (inserted ws) t ≡ true) → inserted_after (c || false) ws t ≡ true → (c || has (inserted ws) t) ≡ true
    by true rec e = refl
    by false rec e = rec e
was_inserted false (Delete s ∷ ws) t e = was_inserted false ws t e

-- So a test that holds of such tuples alone holds of the same ones among the inserted.
among_inserted : (h p : Bool) → (p ≡ true → h ≡ true) → h && p ≡ p
among_inserted true p f = refl
among_inserted false true f = f refl
among_inserted false false f = refl

put_inserted : (s : Step) (t : Fact) → puts s t ≡ true → has (inserted s.writes) t ≡ true
put_inserted s t e =
    was_inserted (has s.before t) s.writes t (ap (λ b. not (has s.before t) && b) (sym (has-apply s.before s.writes t)) ∙ e)

-- The noted tuples are those that the step puts.
pub put_noted : (s : Step) (t : Fact) → has (note s).puts t ≡ puts s t
put_noted s t = has-filter (puts s) (inserted s.writes) t ∙ among_inserted (has (inserted s.writes) t) (puts s t) (put_inserted s t)

filter_none : (xs : List Fact) → filter (λ t. false) xs ≡ []
filter_none [] = refl
filter_none (x ∷ xs) = filter_none xs

filter_all : (xs : List Fact) → filter (λ t. true) xs ≡ xs
filter_all [] = refl
filter_all (x ∷ xs) = ap (λ ys. x ∷ ys) (filter_all xs)

-- What is told of a step that puts these tuples, before what the rest tells.
abbrev telling : Step → (List Fact → List Reason) → (Fact → Bool) → List Fact → List Reason
telling s rest put sought =
    map (reason_at s) (filter put sought) ++ rest (sought_before put (map (reason_at s) (filter put sought)) sought)

skipped : (s : Step) (rest : List Fact → List Reason) (sought : List Fact) → telling s rest (λ t. false) sought ≡ rest sought
skipped s rest sought =
    (λ i. map (reason_at s) (filter_none sought i) ++ rest (sought_before (λ t. false) (map (reason_at s) (filter_none sought i)) sought))
    ∙ ap rest (filter_all sought)

tells : (ss : List Step) (sought : List Fact) → told_by (notes_of ss) sought ≡ explained ss sought
tells [] sought = refl
tells (s ∷ ss) sought = by (note s).puts (put_noted s) (λ later. tells ss later)
  where
    rest : List Fact → List Reason
    rest later = explained ss later

    by : (ps : List Fact) → ((t : Fact) → has ps t ≡ puts s t) → ((later : List Fact) → told_by (notes_of ss) later ≡ explained ss later)
        → told_by (unless_none ps (record { update = s.update; step = s.step; way = s.way; deleted = (note s).deleted; puts = ps }) ++ notes_of ss) sought ≡ explained (s ∷ ss) sought
    by [] e rec =
        rec sought
        ∙ (sym (skipped s (λ later. explained ss later) sought)
        ∙ (λ i. telling s (λ later. explained ss later) (λ t. e t i) sought))
    by (p ∷ ps) e rec =
        (λ i. telling s (λ later. rec later i) (λ t. e t i) sought)

-- ---- the last one first

flat_append : (xs ys : List Step) → flat_map noted (xs ++ ys) ≡ flat_map noted xs ++ flat_map noted ys
flat_append [] ys = refl
flat_append (x ∷ xs) ys = ap (λ zs. noted x ++ zs) (flat_append xs ys) ∙ sym (Rattle.std.proofs.Common.append_assoc (noted x) (flat_map noted xs) (flat_map noted ys))

one_reversed : (ps : List Fact) (n : Noted) → reverse (unless_none ps n) ≡ unless_none ps n
one_reversed [] n = refl
one_reversed (p ∷ ps) n = refl

notes_reversed : (ss : List Step) → reverse (notes_of ss) ≡ notes_of (reverse ss)
notes_reversed [] = refl
notes_reversed (s ∷ ss) =
    reverse-append (noted s) (notes_of ss)
    ∙ (λ i. notes_reversed ss i ++ one_reversed (note s).puts (note s) i)
    ∙ ap (λ ns. notes_of (reverse ss) ++ ns) (sym (append-nil (noted s)))
    ∙ sym (flat_append (reverse ss) (s ∷ []))
    ∙ ap notes_of (sym (reverse-append (s ∷ []) ss))

pub notes_tell : NotesTell
notes_tell ss sought = ap (λ ns. told_by ns sought) (notes_reversed ss) ∙ tells (reverse ss) sought
