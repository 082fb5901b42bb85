-- The step of `unify` once the tuples of one of its queries are found, and nulls are left to be asked for.
use Rattle.std.proofs.Common.{◌≡◌, ◌<◌, ap, sym, ◌∙◌, List, [], ◌∷◌, ◌++◌, map, length, refl, arith}
use Rattle.std.proofs.lemmas.List.{append-nil, append_assoc}
use Rattle.def_machine.specs.Trees.{Node}
use Rattle.def_chase.specs.Values.{NullName, Datum, Fact}
use Rattle.def_chase.specs.Repository.{Change}
use Rattle.def_chase.specs.Mappings.{Rule}
use Rattle.def_chase.specs.Queries.{Query, Occurs, Reply}
use Rattle.base_types.specs.Maps.{images_of, moved_by}
use Rattle.base_types.specs.Meanings.{null_of, fact_of}
use Rattle.chase_query.specs.Meanings.{query_of}
use Rattle.chase_question.specs.declared.questions.Question.{Question}
use Rattle.chase_question.specs.declared.questions.Question.TheVariants.{Positive, Negative}
use Rattle.def_steps.specs.Attempts.{Repair, Phase}
use Rattle.def_steps.specs.Rewriting.{in_order, rewrite, next_atom}
use Rattle.def_steps.specs.Steps.{gather, tuples_of}
use Rattle.chase_repair.specs.Repairs.{Repairing, Gathering, Unifying, phase_of, tree_in, unified, asking_next, moved_repair}
use Rattle.chase_repair.specs.Stands.{Moved, Within, branch, settled}
use Rattle.chase_repair.specs.Stages.{gathering_of, repair_of, unifying, repairing_of, IsUnified}
use Rattle.chase_repair.specs.declared.stages.Gathering.{Gathering as Collected}
use Rattle.chase_repair.specs.declared.stages.Generation.{Generation}
use Rattle.chase_repair.specs.declared.stages.Stage.{Stage}

asks_next : (ms : List Rule) (own : List Change) (p : Phase) (r : Repair) (t : Fact) (cs : List Fact) (images : List (NullName × Datum)) (q : Query) (later : List NullName) (found ts : List Fact) (a : Reply) → 0 < length later → ts ≡ tuples_of a
    → Within own p (tree_in ms (Unifying r t cs (asking_next later record { images = images; query = q; later = later; found = found } ts)))
    ≡ settled own p (branch (tree_in ms (Unifying r t cs record { images = images; query = q; later = later; found = found })) a)
asks_next ms own p r t cs images q [] found ts a h e = absurd (omega arith)
asks_next ms own p r t cs images q (n ∷ ns) found ts a h e =
    let same : (b : Reply) (us : List Fact) → (found ++ ts) ++ (tuples_of b ++ us) ≡ found ++ (tuples_of a ++ (tuples_of b ++ us)) =
    λ b us. append_assoc found ts (tuples_of b ++ us) ∙ ap (λ l. found ++ (l ++ (tuples_of b ++ us))) e in
    λ i. Within own p (Node (Occurs n.update n.place) (λ b. gather ns (λ us. unified ms r images (same b us i))))

by_question : (ms : List Rule) (own : List Change) (g : Generation) (q : Question) (u : Collected) (G : Gathering) (ts : List Fact) (a : Reply) → IsUnified g.mapping q → 0 < length u.later.items → G ≡ asking_next (gathering_of u).later (gathering_of u) ts → ts ≡ tuples_of a
    → Within own (phase_of (unifying (repair_of g) q G)) (tree_in ms (unifying (repair_of g) q G))
    ≡ settled own (phase_of (unifying (repair_of g) q (gathering_of u))) (branch (tree_in ms (unifying (repair_of g) q (gathering_of u))) a)
by_question ms own g (Negative n ts') u G ts a s h e f = absurd s
by_question ms own g (Positive n t cs) u G ts a s h e f =
    ap (λ K. Within own (phase_of (unifying (repair_of g) (Positive n t cs) K)) (tree_in ms (unifying (repair_of g) (Positive n t cs) K))) e
    ∙ asks_next ms own _ (repair_of g) (fact_of t) (map fact_of cs.items) (gathering_of u).images (gathering_of u).query (map null_of u.later.items) (gathering_of u).found ts a (long u.later.items h) f
  where
    long : (ns : List _) → 0 < length ns → 0 < length (map null_of ns)
    long [] h = absurd (omega arith)
    long (n ∷ ns) h = omega arith

-- The next null is asked for.
pub next_asked : (ms : List Rule) (own : List Change) (g : Generation) (stage : Stage) (q : Question) (u : Collected) (G : Gathering) (ts : List Fact) (a : Reply) → repairing_of g stage ≡ unifying (repair_of g) q (gathering_of u) → IsUnified g.mapping q → 0 < length u.later.items
    → G ≡ asking_next (gathering_of u).later (gathering_of u) ts → ts ≡ tuples_of a
    → Within own (phase_of (unifying (repair_of g) q G)) (tree_in ms (unifying (repair_of g) q G)) ≡ settled own (phase_of (repairing_of g stage)) (branch (tree_in ms (repairing_of g stage)) a)
next_asked ms own g stage q u G ts a is s h e f =
    by_question ms own g q u G ts a s h e f
    ∙ ap (λ (k : Repairing). settled own (phase_of k) (branch (tree_in ms k) a)) (sym is)

ends_by : (ms : List Rule) (own own' : List Change) (p ph : Phase) (r : Repair) (t : Fact) (cs : List Fact) (images : List (NullName × Datum)) (q : Query) (later : List NullName) (found ts all : List Fact) (a : Reply) → length later ≡ 0 → ts ≡ tuples_of a
    → all ≡ in_order (found ++ ts) → own' ≡ own ++ rewrite (moved_by (images_of images)) all → ph ≡ next_atom ms (moved_repair (moved_by (images_of images)) r)
    → Moved own' ph 0 ≡ settled own p (branch (tree_in ms (Unifying r t cs record { images = images; query = q; later = later; found = found })) a)
ends_by ms own own' p ph r t cs images q [] found ts all a none e f w h =
    let known : all ≡ in_order (found ++ (tuples_of a ++ [])) = f ∙ ap (λ l. in_order (found ++ l)) (e ∙ sym (append-nil (tuples_of a))) in
    let written = w ∙ ap (λ l. own ++ rewrite (moved_by (images_of images)) l) known in
    λ i. Moved (written i) (h i) 0
ends_by ms own own' p ph r t cs images q (n ∷ ns) found ts all a none e f w h = absurd (omega arith)

-- No null is left: the step ends.
pub ends_united : (ms : List Rule) (own own' : List Change) (ph : Phase) (g : Generation) (stage : Stage) (q : Question) (u : Collected) (ts all : List Fact) (a : Reply) → repairing_of g stage ≡ unifying (repair_of g) q (gathering_of u) → IsUnified g.mapping q
    → length u.later.items ≡ 0 → ts ≡ tuples_of a → all ≡ in_order ((gathering_of u).found ++ ts) → own' ≡ own ++ rewrite (moved_by (images_of u.sub)) all → ph ≡ next_atom ms (moved_repair (moved_by (images_of u.sub)) (repair_of g))
    → Moved own' ph 0 ≡ settled own (phase_of (repairing_of g stage)) (branch (tree_in ms (repairing_of g stage)) a)
ends_united ms own own' ph g stage (Negative n ts') u ts all a is s none e f w h = absurd s
ends_united ms own own' ph g stage (Positive n t cs) u ts all a is s none e f w h =
    ends_by ms own own' (phase_of (unifying (repair_of g) (Positive n t cs) (gathering_of u))) ph (repair_of g) (fact_of t) (map fact_of cs.items) u.sub (query_of u.query) (map null_of u.later.items) (gathering_of u).found ts all a (no_nulls u.later.items none) e f w h
    ∙ ap (λ (k : Repairing). settled own (phase_of k) (branch (tree_in ms k) a)) (sym is)
  where
    no_nulls : (ns : List _) → length ns ≡ 0 → length (map null_of ns) ≡ 0
    no_nulls [] h = refl
    no_nulls (n ∷ ns) h = absurd (omega arith)
