-- What copies of a repair's parts stand for.
use Rattle.std.proofs.Common.{◌≡◌, ℕ, ap, sym, ◌∙◌, refl, subst, List, [], ◌∷◌, ◌++◌, map, true}
use Rattle.std.specs.List.{list_all, flat_map}
use Rattle.def_chase.specs.Values.{Fact}
use Rattle.def_chase.specs.Specific.{more_specific}
use Rattle.base_types.specs.Listed.{Listed}
use Rattle.base_types.specs.declared.tuples.Tuple.{Tuple}
use Rattle.base_types.specs.Meanings.{null_of, fact_of}
use Rattle.chase_query.specs.Meanings.{query_of}
use Rattle.chase_question.specs.Inquiries.{Inquiry, PositiveInquiry, NegativeInquiry, inquiry_of}
use Rattle.chase_question.specs.declared.questions.Question.{Question}
use Rattle.chase_question.specs.declared.questions.Question.TheVariants.{Positive, Negative}
use Rattle.def_steps.specs.Attempts.{Repair}
use Rattle.chase_repair.specs.Stages.{repair_of, gathering_of, IsWaited, IsUnified, IsSound}
use Rattle.chase_repair.specs.declared.stages.Gathering.{Gathering}
use Rattle.chase_repair.specs.declared.stages.Generation.{Generation}
use Rattle.chase_repair.specs.declared.stages.Stage.{Stage}
use Rattle.chase_repair.specs.declared.stages.Stage.TheVariants.{Generating, Querying, Waiting, Unifying, Repaired}

-- ---- a question, by what it tells

-- What is asked is of the mapping in hand, and the candidates are more specific.
pub record Asks (n m : ℕ) (t : Fact) (cs : List Fact) : Type 0 where
  pub mapping : n ≡ m
  pub specific : list_all (λ s. more_specific s t) cs ≡ true

abbrev pub WaitsFor : ℕ → Inquiry → Type 0
WaitsFor n (PositiveInquiry m t cs) = Asks n m t cs
WaitsFor n (NegativeInquiry m ts) = Unit {0}

abbrev pub UnitedBy : ℕ → Inquiry → Type 0
UnitedBy n (PositiveInquiry m t cs) = Asks n m t cs
UnitedBy n (NegativeInquiry m ts) = ⊥

waits : (n : ℕ) (q : Question) → IsWaited n q → WaitsFor n (inquiry_of q)
waits n (Positive m t cs) h = record { mapping = h.mapping; specific = h.specific }
waits n (Negative m ts) h = tt

is_waited : (n : ℕ) (q : Question) → WaitsFor n (inquiry_of q) → IsWaited n q
is_waited n (Positive m t cs) h = record { mapping = h.mapping; specific = h.specific }
is_waited n (Negative m ts) h = tt

pub waited_same : (n : ℕ) (p q : Question) → inquiry_of p ≡ inquiry_of q → IsWaited n q → IsWaited n p
waited_same n p q e h = is_waited n p (subst (WaitsFor n) (sym e) (waits n q h))

unites : (n : ℕ) (q : Question) → IsUnified n q → UnitedBy n (inquiry_of q)
unites n (Positive m t cs) h = record { mapping = h.mapping; specific = h.specific }
unites n (Negative m ts) h = h

is_united : (n : ℕ) (q : Question) → UnitedBy n (inquiry_of q) → IsUnified n q
is_united n (Positive m t cs) h = record { mapping = h.mapping; specific = h.specific }
is_united n (Negative m ts) h = h

pub united_same : (n : ℕ) (p q : Question) → inquiry_of p ≡ inquiry_of q → IsUnified n q → IsUnified n p
united_same n p q e h = is_united n p (subst (UnitedBy n) (sym e) (unites n q h))

-- ---- the repair in hand

sound_by : (g h : Generation) (s : Stage) → g.mapping ≡ h.mapping → IsSound g s → IsSound h s
sound_by g h Generating e a = tt
sound_by g h (Querying q) e a = a
sound_by g h (Waiting q) e a = subst (λ n. IsWaited n q.value) e a
sound_by g h (Unifying q u) e a = subst (λ n. IsUnified n q.value) e a
sound_by g h Repaired e a = tt

pub copy_sound : (g h : Generation) (s k : Stage) → repair_of h ≡ repair_of g → ((x : Generation) → IsSound x s → IsSound x k) → IsSound g s → IsSound h k
copy_sound g h s k e f a = f h (sound_by g h s (sym (ap (λ (r : Repair). r.mapping) e)) a)

-- ---- the step of `unify`

-- The tuples of an answer.
abbrev pub facts : Listed Tuple → List Fact
facts a = map fact_of a.items

as_found : (as' : List (Listed Tuple)) → flat_map facts as' ≡ flat_map (λ l. l) (map facts as')
as_found [] = refl
as_found (a ∷ as') = ap (λ l. facts a ++ l) (as_found as')

pub gathering_same : (g k : Gathering) → g.sub ≡ k.sub → query_of g.query ≡ query_of k.query → g.later.items ≡ k.later.items → map facts g.found.items ≡ map facts k.found.items → gathering_of g ≡ gathering_of k
gathering_same g k a b c d =
    let found : flat_map facts g.found.items ≡ flat_map facts k.found.items = as_found g.found.items ∙ ap (flat_map (λ l. l)) d ∙ sym (as_found k.found.items) in
    λ i. record { images = a i; query = b i; later = map null_of (c i); found = found i }
