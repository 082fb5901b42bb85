-- The numbers that a step of a history tells: attempts, updates and reads are few.
use Rattle.std.specs.Prelude.{slice_get, ◌*◌, ◌-◌, ◌&&◌, ◌==◌, cond, if◌then◌else◌, Option, None, pos, negsuc}
use Rattle.std.proofs.Common.{◌≡◌, ℕ, zero, suc, ◌+◌, ◌≤◌, ◌<◌, ap, refl, sym, ◌∙◌, subst, List, [], ◌∷◌, ◌++◌, map, take, drop, length, length-append, Bool, true, false, Some, arith}
use Rattle.std.specs.List.{list_all, AllByRecursion}
use Rattle.std.proofs.lemmas.Bool.{and_parts, eqb-true}
use Rattle.std.proofs.lemmas.List.{length-map}
use Rattle.std.proofs.lemmas.Option.{slice_get_within}
use Rattle.audit_claims.specs.Claimed.{HasWords, IsWord}
use Rattle.def_language.specs.Checks.{rules_of}
use Rattle.def_language.specs.Sessions.{RelationSchema, SessionData, SessionMapping}
use Rattle.def_language.specs.Validity.{HasColumns, IsOperation, IsRelation, IsSession}
use Rattle.def_history.specs.Cores.{session_over}
use Rattle.def_history.specs.PlainEntries.{plain_cause}
use Rattle.run_laws.proofs.Attempts.{reached_passing}
use Rattle.run_laws.proofs.Closed.{Closed, PhasePasses}
use Rattle.run_laws.proofs.Fitting.{columns_are, has_columns, names_mapping}
use Rattle.run_laws.proofs.Enacting.{session_acts}
use Rattle.def_machine.specs.Cascade.{Cause, Conflict, Depends, Member, has_number}
use Rattle.def_machine.specs.CauseLaw.{Holds, before_loss, members_of, stepped_at}
use Rattle.def_machine.specs.Effects.{Event, Steps, effect, is_spent, step_effect}
use Rattle.def_machine.specs.Histories.{Log, after, causes_in, empty_log}
use Rattle.def_machine.specs.Machine.{Machine}
use Rattle.def_machine.specs.Runs.{Reached, start, more}
use Rattle.def_machine.specs.Standings.{next_answer}
use Rattle.def_machine.specs.Steps.{next_step, stepped, val}
use Rattle.def_machine.specs.Trees.{log_of}
use Rattle.def_machine.specs.Updates.{Read, Session, Settings, Update, below, committed, is_over, trail}
use Rattle.def_machine.proofs.Caused.{cause_law}
use Rattle.def_machine.proofs.Legal.{effect_records}
use Rattle.def_machine.proofs.Places.{dropped_same, put_above}
use Rattle.def_machine.proofs.Serials.{counted}
use Rattle.def_chase.specs.Mappings.{Rule, force_relation}
use Rattle.def_chase.specs.Updates.{Operation, Adds, Removes, Replaces, Enacts, Choice}
use Rattle.def_chase.specs.Values.{Datum, Number, Text, Unknown, Fact}
use Rattle.def_chase.proofs.Bools.{differ, none_some, some_same}
use Rattle.def_chase.proofs.Searches.{all_at}
use Rattle.def_steps.specs.Attempts.{Attempt, Phase, Start, Look, Generate, Asked, Ended, Positive, Negative}
use Rattle.def_steps.specs.Chase.{caused, caused_chase}
use Rattle.def_steps.proofs.ChaseLaws.{chase_laws}
use Rattle.audit_claims.specs.Verdicts.{trial_of}
use Rattle.cmd_laws.proofs.Depths.{IsNarrow, IsNarrowPhase, few_asked, step_few}
use Rattle.cmd_laws.proofs.Suited.{suits}
use Rattle.cmd_laws.proofs.Utf8.{is_textual}
use Rattle.cmd_laws.proofs.Written.{acts_at, closed, few, handed, history, lower}

-- ---- tuples have at most 8 values

columns_few : (rs : List RelationSchema) → AllByRecursion IsRelation rs → (r n : ℕ) → HasColumns rs r n → n ≤ 8
columns_few rs all r n has = let few_are : has.0.arity ≤ 8 = (all_at IsRelation rs r has.0 all has.1).1 in let e = has.2 in omega (arith, e, few_are)

named_few : (ds : List Datum) → names_mapping ds ≡ true → length ds ≤ 8
named_few [] h = differ h
named_few (Number (pos n) ∷ []) h = omega arith
named_few (Number (pos n) ∷ d ∷ ds) h = differ h
named_few (Number (negsuc n) ∷ ds) h = differ h
named_few (Text w ∷ ds) h = differ h
named_few (Unknown m ∷ ds) h = differ h

suited_few : (rs : List RelationSchema) → AllByRecursion IsRelation rs → (t : Fact) → suits rs t ≡ true → length t.values ≤ 8
suited_few rs all t h = by (t.relation == force_relation) h
  where
    there : (o : Option RelationSchema) → slice_get rs t.relation ≡ o → columns_are (length t.values) o ≡ true → length t.values ≤ 8
    there None e g = differ g
    there (Some r) e g = columns_few rs all t.relation (length t.values) (r, e, eqb-true r.arity (length t.values) g)

    by : (b : Bool) → cond b (names_mapping t.values) (has_columns rs t.relation (length t.values) && list_all is_textual t.values) ≡ true → length t.values ≤ 8
    by true g = named_few t.values g
    by false g = there (slice_get rs t.relation) refl (and_parts (has_columns rs t.relation (length t.values)) (list_all is_textual t.values) g).0

operation_narrow : (rs : List RelationSchema) → AllByRecursion IsRelation rs → (n : ℕ) (op : Operation) → IsOperation rs n op → IsNarrow op
operation_narrow rs all n (Adds t) h = columns_few rs all t.relation (length t.values) h.0
operation_narrow rs all n (Removes t) h = columns_few rs all t.relation (length t.values) h.0
operation_narrow rs all n (Replaces m d) h = tt
operation_narrow rs all n (Enacts m) h = tt

phase_narrow : (rs : List RelationSchema) → AllByRecursion IsRelation rs → (ms : List Rule) (k : ℕ) (ph : Phase) → PhasePasses ms (λ n. is_textual) (λ n. suits rs) k ph → IsNarrowPhase ph
phase_narrow rs all ms k Start h = tt
phase_narrow rs all ms k Look h = tt
phase_narrow rs all ms k (Generate r) h = tt
phase_narrow rs all ms k (Asked (Positive r t cs)) h = suited_few rs all t h.1
phase_narrow rs all ms k (Asked (Negative n ts)) h = tt
phase_narrow rs all ms k (Ended o) h = tt

-- ---- lists

take_few : {A : Type 0} (k : ℕ) (xs : List A) → length (take k xs) ≤ k
take_few zero xs = omega arith
take_few (suc k) [] = omega arith
take_few (suc k) (x ∷ xs) = let b = take_few k xs in omega (arith, b)

committed_few : (N : Machine) (us : List (Update N)) → committed N us ≤ length us
committed_few N [] = omega arith
committed_few N (u ∷ us) = by (is_over N u) (committed_few N us)
  where
    by : (b : Bool) → committed N us ≤ length us → (if b then suc (committed N us) else 0) ≤ suc (length us)
    by true h = omega (arith, h)
    by false h = omega arith

members_low : (N : Machine) (ns : List ℕ) (n : ℕ) (us : List (Update N)) (i : ℕ) (m : Member N) → slice_get (members_of N ns n us) i ≡ Some m → m.number < n + length us
members_low N ns n [] i m h = absurd (none_some m h)
members_low N ns n (u ∷ us) i m h = by (has_number ns n) i h (λ j g. members_low N ns (suc n) us j m g)
  where
    by : (b : Bool) (j : ℕ) → slice_get ((if b then record { number = n; trail = trail N u } ∷ [] else []) ++ members_of N ns (suc n) us) j ≡ Some m
        → ((k : ℕ) → slice_get (members_of N ns (suc n) us) k ≡ Some m → m.number < suc n + length us) → m.number < n + suc (length us)
    by true zero g rest = let e : n ≡ m.number = ap (λ (x : Member N). x.number) (some_same _ m g) in omega (arith, e)
    by true (suc j) g rest = let b = rest j g in omega (arith, b)
    by false j g rest = let b = rest j g in omega (arith, b)

module _ (s : SessionData) (v : IsSession s) (B : ℕ) (some : 1 ≤ B) (c : Settings) where
  abbrev M : Machine
  M = caused_chase (rules_of s.mappings) B

  abbrev S : Session (caused_chase (rules_of s.mappings) B)
  S = session_over (trial_of s B c).over

  rules_few : length (rules_of s.mappings) ≤ 64
  rules_few = let most = v.mapping_count in omega (arith, most, length-map s.mappings (λ (m : SessionMapping). m.rule))

  -- ---- how much an attempt reads

  module _ (D : List Fact) (answers : List Choice) (u a : ℕ) (op : Operation) (narrow : IsNarrow op) (closed_for : Closed (rules_of s.mappings) op u a (λ n. is_textual) (λ n. suits s.relations)) (base : list_all (suits s.relations) D ≡ true) where
    logged : {P : Attempt} {log : List (Read M)} → Reached M D answers u a op P log → length log ≤ 128 * P.steps
    logged start = omega arith
    logged (more {P} {log} r going able) =
        let p = reached_passing caused (rules_of s.mappings) B D answers u a op (λ n. is_textual) (λ n. suits s.relations) closed_for base r in
        let so_far = logged r in
        let reads = log_of (val M op D P) (next_step M answers P) in
        let asked : length reads ≤ 128 =
        few_asked (val M op D P) 128 (next_step M answers P)
        (step_few (rules_of s.mappings) P (next_answer M answers P) P.phase rules_few (subst IsNarrow p.operation narrow) (phase_narrow s.relations v.relations (rules_of s.mappings) P.nulls P.phase p.phase)) in
        let read : M.Query × M.Reply → Read M = λ r. record { query = r.0; answer = r.1; own = length (M.own P) } in
        let all : length (log ++ map read reads) ≤ 128 * suc P.steps = omega (arith, so_far, asked, length-append log (map read reads), length-map reads read) in
        all

  module _ (most : B ≤ 300) (retries : c.retries ≤ 4) (done : List (Event M)) (l : Log M) (h : after M c S (empty_log M) done ≡ Some l) where
    updates_few : length l.updates ≤ 1000
    updates_few = let a = few s v B some c done l h in let b : length s.updates ≤ 1000 = v.update_count in omega (arith, a, b)

    log_few : (k : ℕ) (u : Update M) → slice_get l.updates k ≡ Some u → u.withdrawn ≡ false → length u.log ≤ 38400
    log_few k u e present =
        let r = (history s v B some c done l h).runs k u e present in
        let y = handed s v B some c done l h k u e in
        let first : 0 + k ≡ k = omega arith in
        let does : IsOperation s.relations k y.0.operation = subst (λ n. IsOperation s.relations n y.0.operation) first (acts_at s.relations 0 s.updates k y.0 (session_acts s v) y.1).0 in
        let narrow : IsNarrow u.operation = subst IsNarrow y.2 (operation_narrow s.relations v.relations k y.0.operation does) in
        let inside = slice_get_within l.updates k u e in
        let log = logged (below M S.base l.updates k) u.answers (suc k) u.attempt u.operation narrow (closed s v B some c done l h k u e) (lower s v B some c done l h k (omega (arith, inside))) r in
        let steps : u.state.steps ≤ B = (counted M (chase_laws caused (rules_of s.mappings) B some) r).0 in
        omega (arith, log, steps, most)

    -- ---- the causes of a step

    module _ (k : ℕ) (u : Update M) (found : slice_get l.updates k ≡ Some u) where
      above_same : (m : ℕ) → k < m → slice_get (before_loss M S.base l.updates (Steps (suc k))) m ≡ slice_get l.updates m
      above_same m far =
          ap (λ (o : Option (Update M)). slice_get (stepped_at M S.base l.updates k o) m) found ∙ by (is_spent (M.outcome (stepped M (below M S.base l.updates k) u).state))
        where
          by : (b : Bool) → slice_get (if b then l.updates else take k l.updates ++ stepped M (below M S.base l.updates k) u ∷ drop (suc k) l.updates) m ≡ slice_get l.updates m
          by true = refl
          by false =
              let inside = slice_get_within l.updates k u found in
              put_above l.updates (stepped M (below M S.base l.updates k) u) (drop (suc k) l.updates) k (m - suc k) m (omega (arith, far)) (omega (arith, inside))
              ∙ dropped_same l.updates (suc k) (m - suc k) m (omega (arith, far))

      -- a reader is an update above, and the read is in its log
      reader_few : (place : ℕ) (w : Update M) → slice_get (before_loss M S.base l.updates (Steps (suc k))) place ≡ Some w → w.withdrawn ≡ false → k < place → (place < 1000) × (length w.log ≤ 38400)
      reader_few place w there present far =
          let at = sym (above_same place far) ∙ there in
          let inside = slice_get_within l.updates place w at in
          (let all = updates_few in omega (arith, inside, all), log_few place w at present)

      cause_words : (members : List ℕ) (x : Cause M) → Holds M c.deps S.base (suc k) members (before_loss M S.base l.updates (Steps (suc k))) x → HasWords (plain_cause (rules_of s.mappings) B x)
      cause_words members (Conflict i r j old new) g =
          let few_are = reader_few g.place g.update g.there g.present (let a = g.above in let b = g.is_reader in omega (arith, a, b)) in
          let inside = slice_get_within g.update.log g.at g.read g.first.found in
          let low = slice_get_within l.updates k u found in
          let all = updates_few in (
            (let b = g.is_reader in omega (arith, b, few_are.0)),
            (let b = g.is_number in omega (arith, b, inside, few_are.1)),
            (let b = g.is_writer in omega (arith, b, low, all)),
          )
      cause_words members (Depends i r on) g =
          let few_are = reader_few g.place g.update g.there g.present (let a = g.above in let b = g.is_reader in omega (arith, a, b)) in
          let inside = slice_get_within g.update.log g.at g.read g.first.found in
          let low = members_low M members 1 (take g.place (before_loss M S.base l.updates (Steps (suc k)))) g.wrote.place g.wrote.member g.wrote.first.found in
          let short = take_few g.place (before_loss M S.base l.updates (Steps (suc k))) in (
            (let b = g.is_reader in omega (arith, b, few_are.0)),
            (let b = g.is_number in omega (arith, b, inside, few_are.1)),
            (let b = g.wrote.is_on in omega (arith, b, low, short, few_are.0)),
          )

      causes_words : (members : List ℕ) (xs : List (Cause M)) → AllByRecursion (Holds M c.deps S.base (suc k) members (before_loss M S.base l.updates (Steps (suc k)))) xs
          → AllByRecursion HasWords (map (plain_cause (rules_of s.mappings) B) xs)
      causes_words members [] all = tt
      causes_words members (x ∷ xs) all = (cause_words members x all.0, causes_words members xs all.1)

      -- The numbers of a step have at most 64 bits.
      pub step_counts : effect M c S l.updates (Steps (suc k)) ≡ Some (step_effect M c S l.updates k u)
          → IsWord u.attempt × IsWord (committed M (step_effect M c S l.updates k u).updates)
          × AllByRecursion HasWords (map (plain_cause (rules_of s.mappings) B) (causes_in (step_effect M c S l.updates k u).entry))
      step_counts f =
          let laws = chase_laws caused (rules_of s.mappings) B some in
          let tries : u.attempt ≤ suc c.retries = (history s v B some c done l h).attempts k u found in
          let long = (effect_records M laws c S l.updates (Steps (suc k)) (step_effect M c S l.updates k u) f).1 in
          let over = committed_few M (step_effect M c S l.updates k u).updates in
          let all = updates_few in (
            omega (arith, tries, retries),
            omega (arith, over, long, all),
            causes_words _ _ (cause_law M laws c S done l (Steps (suc k)) (step_effect M c S l.updates k u) v.base_order h f).hold,
          )
