-- An operation that the relations of a session admit acts in time, so a session that grew by such operations is admissible.
use Rattle.std.proofs.Common.{arith, ◌≡◌, ap, refl, sym, subst, ℕ, suc, ◌≤◌, true, false, not, List, [], ◌∷◌, ◌++◌, map, length, append-nil}
use Rattle.std.specs.Prelude.{Option, Some, None, option_map, slice_get}
use Rattle.std.specs.List.{list_all}
use Rattle.std.proofs.lemmas.Bool.{and_parts}
use Rattle.std.proofs.lemmas.Bool.Decides.{nat_tests}
use Rattle.std.proofs.lemmas.Option.{none-some, same_Some}
use Rattle.def_chase.specs.Mappings.{Rule}
use Rattle.def_chase.specs.Updates.{Operation, Adds, Removes, Replaces, Enacts}
use Rattle.def_machine.specs.Effects.{Event, Effect}
use Rattle.def_machine.specs.Updates.{Settings}
use Rattle.def_steps.specs.Serial.{Request}
use Rattle.def_steps.specs.Timely.{acts_in_time, ActInTime}
use Rattle.def_history.specs.Admissible.{IsAdmissible}
use Rattle.def_history.specs.CoreLaws.{handed}
use Rattle.def_history.specs.Cores.{Ground, machine, session_over, entries_over, updates_after, effect_after, grown, IsLegalOver}
use Rattle.def_history.specs.Histories.{submissions}
use Rattle.def_history.specs.PlainEntries.{PlainEntry, plain_entry}
use Rattle.def_history.proofs.Keeping.{histories_are_kept}
use Rattle.def_history.proofs.Theorem.{any_order}
use Rattle.def_language.specs.Sessions.{RelationSchema, SessionData}
use Rattle.def_language.specs.Validity.{HasColumns, IsSession}
use Rattle.lang_session.specs.Admissible.{admits, fits_datum, has_columns}
use Rattle.lang_session.specs.Base.{base_violation}
use Rattle.lang_session.specs.Meanings.{requests_in}
use Rattle.lang_session.proofs.Suiting.{few_relations, no_force, timely}
use Rattle.core_laws.proofs.Checked.{timely_is_admissible}
use Rattle.core_laws.specs.Histories.{rules}
use Rattle.core_laws.specs.Live.{AreAdmitted, LiveGrows, LiveIsAdmissible, LiveIsSerial, over_with}

-- ---- what is admitted acts in time

no_test : false ≡ true → ⊥
no_test e = cc

-- a relation with a number of columns is one of the session
columns_there : (relations : List RelationSchema) (r columns : ℕ) → has_columns (slice_get relations r) columns ≡ true → HasColumns relations r columns
columns_there relations r columns e = by (slice_get relations r) refl e where
  by : (found : Option RelationSchema) → slice_get relations r ≡ found → has_columns found columns ≡ true → HasColumns relations r columns
  by None is e = absurd (no_test e)
  by (Some s) is e =
      let same : s.arity ≡ columns = grind (arith, e, nat_tests) in
      (s, is, same)

acts : (relations : List RelationSchema) (ms : List Rule) (u before : ℕ) (op : Operation) → length relations ≤ 128 → admits relations before op ≡ true → acts_in_time ms u op ≡ true
acts relations ms u before (Adds t) few e =
    let p = and_parts (has_columns (slice_get relations t.relation) (length t.values)) (list_all (fits_datum before) t.values) e in
    ap not (no_force relations t.relation (length t.values) few (columns_there relations t.relation (length t.values) p.0))
acts relations ms u before (Removes t) few e = refl
acts relations ms u before (Replaces n d) few e = refl
acts relations ms u before (Enacts place) few e = absurd (no_test e)

-- the operation as a request without answers
abbrev unanswered : Operation → Request
unanswered op = record { operation = op; answers = [] }

all_act : (relations : List RelationSchema) (ms : List Rule) (u : ℕ) (ops : List Operation) → length relations ≤ 128 → AreAdmitted relations ops → ActInTime ms u (map unanswered ops)
all_act relations ms u [] few h = tt
all_act relations ms u (op ∷ ops) few h = (acts relations ms u h.0.0 op few h.0.1, all_act relations ms (suc u) ops few h.1)

-- those after others that act in time
act_after : (ms : List Rule) (u : ℕ) (rs more : List Request) → ((n : ℕ) → ActInTime ms n more) → ActInTime ms u rs → ActInTime ms u (rs ++ more)
act_after ms u [] more acts h = acts u
act_after ms u (r ∷ rs) more acts h = (h.0, act_after ms (suc u) rs more acts h.1)

-- ---- the session

admissible_with : (s : SessionData) (budget : ℕ) (c : Settings) (ops : List Operation) → IsSession s → base_violation s ≡ None → 1 ≤ budget → AreAdmitted s.relations ops
    → IsAdmissible (rules s) budget (session_over (over_with s budget c ops))
admissible_with s budget c ops v meets some h =
    let rs = requests_in s ++ map unanswered ops in
    subst (λ (xs : List Request). IsAdmissible (rules s) budget (record { base = s.base; submissions = submissions (rules s) budget xs })) (append-nil rs)
    (timely_is_admissible budget s rs v meets some
    (act_after (rules s) 1 (requests_in s) (map unanswered ops) (λ n. all_act s.relations (rules s) n ops (few_relations s v) h) (timely s v).updates))

pub live_is_admissible : LiveIsAdmissible
live_is_admissible s g of =
    subst (λ (h : Ground). IsAdmissible h.rules h.budget (session_over h)) (sym of.over) (admissible_with s g.budget g.settings g.later of.valid of.meets of.some of.admitted)

more_admitted : (relations : List RelationSchema) (ops : List Operation) (before : ℕ) (op : Operation) → AreAdmitted relations ops → admits relations before op ≡ true → AreAdmitted relations (ops ++ op ∷ [])
more_admitted relations [] before op h e = ((before, e), tt)
more_admitted relations (x ∷ ops) before op h e = (h.0, more_admitted relations ops before op h.1 e)

pub live_grows : LiveGrows
live_grows s g before op of e =
    record {
      valid = of.valid;
      meets = of.meets;
      some = of.some;
      over = ap (λ (h : Ground). handed h op) of.over;
      admitted = more_admitted s.relations g.later before op of.admitted e;
    }

pub live_is_serial : LiveIsSerial
live_is_serial s g H of legal =
    any_order g.rules g.budget g.settings (session_over g) (entries_over g H) (updates_after g H) (live_is_admissible s g of) legal

-- ---- one event

-- what an allowed event leads to is legal
pub grown_legal : (g : Ground) (H : List PlainEntry) (e : Event (machine g)) (es : List PlainEntry) → 1 ≤ g.budget → IsLegalOver g H → grown g H e ≡ Some es → IsLegalOver g es
grown_legal g H e es some legal grows = by (effect_after g H e) refl grows where
  by : (o : Option (Effect (machine g))) → effect_after g H e ≡ o → option_map (λ (x : Effect (machine g)). H ++ plain_entry g.rules g.budget x.entry ∷ []) o ≡ Some es → IsLegalOver g es
  by None is h = absurd (none-some es h)
  by (Some x) is h = subst (IsLegalOver g) (same_Some (H ++ plain_entry g.rules g.budget x.entry ∷ []) es h) ((histories_are_kept g some).grows H e x legal is).legal
