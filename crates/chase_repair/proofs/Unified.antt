-- The step of an answer `unify`, by the substitution that the program has for the unifier.
use Rattle.std.proofs.Common.{◌≡◌, ℕ, ◌<◌, ap, sym, ◌∙◌, List, [], ◌∷◌, ◌++◌, map, length, get_or, Some, refl, arith}
use Rattle.std.specs.List.{flat_map, remove}
use Rattle.def_chase.specs.Values.{NullName, Datum, Fact}
use Rattle.def_chase.specs.Repository.{Change}
use Rattle.def_chase.specs.Mappings.{Rule}
use Rattle.def_chase.specs.Queries.{Occurs}
use Rattle.def_chase.specs.Unifier.{unifier}
use Rattle.def_chase.specs.Updates.{Choice, Unify}
use Rattle.base_types.specs.Listed.{Listed}
use Rattle.base_types.specs.declared.nulls.Null.{Null}
use Rattle.base_types.specs.declared.tuples.Tuple.{Tuple}
use Rattle.base_types.specs.Meanings.{null_of, fact_of}
use Rattle.base_types.specs.Maps.{images_of, moved_by}
use Rattle.chase_question.specs.declared.questions.Question.TheVariants.{Positive}
use Rattle.def_steps.specs.Attempts.{Repair, Phase, Asked, Attempt, Positive as PositiveMeant}
use Rattle.def_steps.specs.Questions.{candidate}
use Rattle.def_steps.specs.Rewriting.{in_order, rewrite, moved_nulls, next_atom}
use Rattle.def_steps.specs.Steps.{makes, gather, unify, step_in}
use Rattle.chase_repair.specs.Repairs.{Repairing, Gathering, Unifying as UnifyingMeant, phase_of, tree_in, unified, moved_repair}
use Rattle.chase_repair.specs.Stands.{Stand, Within, Moved, settled}
use Rattle.chase_repair.specs.Stages.{gathering_of, repair_of, repairing_of, unifying, waiting, AsksFirst}
use Rattle.chase_repair.specs.declared.stages.Gathering.{Gathering as Collected}
use Rattle.chase_repair.specs.declared.stages.Generation.{Generation}
use Rattle.chase_repair.specs.declared.stages.Stage.{Stage}

-- The step by a function that is the unifier, and by the nulls that it moves.
by_unifier : (ms : List Rule) (r : Repair) (t c : Fact) (f : Datum → Datum) (ns : List NullName) → f ≡ unifier t c → ns ≡ moved_nulls t c
    → gather ns (λ ts. makes (rewrite f (in_order ts)) (next_atom ms (moved_repair f r))) ≡ unify ms r t c
by_unifier ms r t c f ns e h = λ i. gather (h i) (λ ts. makes (rewrite (e i) (in_order ts)) (next_atom ms (moved_repair (e i) r)))

-- What the definition says of the answer at a stage.
abbrev pub said : List Rule → List Change → Generation → Stage → Choice → Attempt → Stand
said ms own g stage c P = settled own (phase_of (repairing_of g stage)) (step_in ms P (Some c) (phase_of (repairing_of g stage)))

at_question : (ms : List Rule) (own : List Change) (g : Generation) (stage : Stage) (m : ℕ) (t : Tuple) (cs : Listed Tuple) (c : Choice) (o : Fact) (P : Attempt) → repairing_of g stage ≡ waiting (repair_of g) (Positive m t cs) → c ≡ Unify o
    → said ms own g stage c P
    ≡ settled own (Asked (PositiveMeant (repair_of g) (fact_of t) (map fact_of cs.items))) (unify ms (repair_of g) (fact_of t) (candidate (fact_of t) (map fact_of cs.items) o))
at_question ms own g stage m t cs c o P is e = λ i. settled own (phase_of (is i)) (step_in ms P (Some (e i)) (phase_of (is i)))

no_nulls : (ns : List Null) → length ns ≡ 0 → map null_of ns ≡ []
no_nulls [] e = refl
no_nulls (n ∷ ns) e = absurd (omega arith)

-- Where no null moves the step ends at once.
pub ends_at_once : (ms : List Rule) (own own' : List Change) (g : Generation) (stage : Stage) (m : ℕ) (t : Tuple) (cs : Listed Tuple) (c : Choice) (o : Fact) (f : Datum → Datum) (ns : List Null) (es : List Tuple) (ph : Phase) → repairing_of g stage ≡ waiting (repair_of g) (Positive m t cs) → c ≡ Unify o
    → f ≡ unifier (fact_of t) (candidate (fact_of t) (map fact_of cs.items) o) → map null_of ns ≡ moved_nulls (fact_of t) (candidate (fact_of t) (map fact_of cs.items) o) → length ns ≡ 0 → es ≡ []
    → own' ≡ own ++ rewrite f (map fact_of es) → ph ≡ next_atom ms (moved_repair f (repair_of g)) → (P : Attempt) → Moved own' ph 0 ≡ said ms own g stage c P
ends_at_once ms own own' g stage m t cs c o f ns es ph is chosen e h none empty w p P =
    let tf : Fact = fact_of t in
    let s : Fact = candidate tf (map fact_of cs.items) o in
    let written : own' ≡ own ++ rewrite f [] = w ∙ ap (λ (l : List Tuple). own ++ rewrite f (map fact_of l)) empty in
    (λ i. Moved (written i) (p i) 0)
    ∙ ap (settled own (Asked (PositiveMeant (repair_of g) tf (map fact_of cs.items)))) (by_unifier ms (repair_of g) tf s f [] e (sym (no_nulls ns none) ∙ h))
    ∙ sym (at_question ms own g stage m t cs c o P is chosen)

-- The first null that moves is asked for.
pub begun : (images : List (NullName × Datum)) (ns later : List Null) (n : Null) (fs : List (Listed Tuple)) (G : Gathering) → 0 < length ns → n ≡ get_or ns 0 n → later ≡ remove ns 0 → fs ≡ []
    → G ≡ record { images = images; query = Occurs n.update n.place; later = map null_of later; found = flat_map (λ l. map fact_of l.items) fs } → AsksFirst images (map null_of ns) G
begun images [] later n fs G long first rest none whole = absurd (omega arith)
begun images (x ∷ xs) later n fs G long first rest none whole =
    whole ∙ (λ i. record { images = images; query = Occurs (first i).update (first i).place; later = map null_of (rest i); found = flat_map (λ l. map fact_of l.items) (none i) })

asked_first : (own : List Change) (p : Phase) (ms : List Rule) (r : Repair) (t : Fact) (cs : List Fact) (images : List (NullName × Datum)) (ns : List NullName) (G : Gathering) → AsksFirst images ns G
    → Within own p (tree_in ms (UnifyingMeant r t cs G)) ≡ settled own p (gather ns (λ ts. unified ms r images ts))
asked_first own p ms r t cs images [] G b = absurd b
asked_first own p ms r t cs images (n ∷ ns) G b = ap (λ (K : Gathering). Within own p (tree_in ms (UnifyingMeant r t cs K))) b

-- So the step of the answer is within its first query.
pub asks_first : (ms : List Rule) (own : List Change) (g : Generation) (stage after : Stage) (m : ℕ) (t : Tuple) (cs : Listed Tuple) (c : Choice) (o : Fact) (images : List (NullName × Datum)) (ns : List Null) (G : Collected) → repairing_of g stage ≡ waiting (repair_of g) (Positive m t cs) → c ≡ Unify o
    → moved_by (images_of images) ≡ unifier (fact_of t) (candidate (fact_of t) (map fact_of cs.items) o) → map null_of ns ≡ moved_nulls (fact_of t) (candidate (fact_of t) (map fact_of cs.items) o)
    → AsksFirst images (map null_of ns) (gathering_of G) → repairing_of g after ≡ unifying (repair_of g) (Positive m t cs) (gathering_of G) → (P : Attempt) → Within own (phase_of (repairing_of g after)) (tree_in ms (repairing_of g after)) ≡ said ms own g stage c P
asks_first ms own g stage after m t cs c o images ns G is chosen e h first on P =
    let tf : Fact = fact_of t in
    let p : Phase = Asked (PositiveMeant (repair_of g) tf (map fact_of cs.items)) in
    ap (λ (k : Repairing). Within own (phase_of k) (tree_in ms k)) on
    ∙ asked_first own p ms (repair_of g) tf (map fact_of cs.items) images (map null_of ns) (gathering_of G) first
    ∙ ap (settled own p) (by_unifier ms (repair_of g) tf (candidate tf (map fact_of cs.items) o) (moved_by (images_of images)) (map null_of ns) e h)
    ∙ sym (at_question ms own g stage m t cs c o P is chosen)
