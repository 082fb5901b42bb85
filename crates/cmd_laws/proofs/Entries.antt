-- The entries of a history without live answers and withdrawals can be printed.
use Rattle.std.specs.Prelude.{slice_get}
use Rattle.std.proofs.Common.{◌≡◌, ℕ, suc, ◌≤◌, ap, refl, sym, ◌∙◌, subst, List, [], map, length, true, Some, arith}
use Rattle.std.specs.List.{list_all, AllByRecursion}
use Rattle.std.proofs.lemmas.Option.{slice_get_within}
use Rattle.audit_claims.specs.Claimed.{IsPrintable}
use Rattle.def_language.specs.Checks.{rules_of}
use Rattle.def_language.specs.Sessions.{SessionData}
use Rattle.def_language.specs.Validity.{IsSession}
use Rattle.def_history.specs.Cores.{IsLegalOver, entries_over, session_over}
use Rattle.def_history.specs.PlainEntries.{PlainEntry, plain_entry}
use Rattle.def_machine.specs.Effects.{Admits, Steps, Delivers, Answers, Withdraws, Effect, Entry, admit_effect, deliver_effect, effect, may_deliver, may_step, step_effect}
use Rattle.def_machine.specs.Histories.{empty_log, event_of}
use Rattle.def_machine.specs.Machine.{Machine}
use Rattle.def_machine.specs.Recorded.{is_recorded}
use Rattle.def_machine.specs.Updates.{Session, Settings, Update}
use Rattle.def_machine.proofs.Basics.{some_of}
use Rattle.def_machine.proofs.Places.{allowed_is}
use Rattle.def_chase.proofs.Bools.{differ}
use Rattle.def_steps.specs.Chase.{caused_chase}
use Rattle.audit_claims.specs.Verdicts.{trial_of}
use Rattle.cmd_laws.proofs.Counts.{step_counts}
use Rattle.cmd_laws.proofs.Walked.{Each, plain_again, walked}
use Rattle.cmd_laws.proofs.Written.{few, step_texts, submitted}

module _ (s : SessionData) (v : IsSession s) (B : ℕ) (some : 1 ≤ B) (c : Settings) (most : B ≤ 300) (retries : c.retries ≤ 4) where
  abbrev M : Machine
  M = caused_chase (rules_of s.mappings) B

  abbrev S : Session (caused_chase (rules_of s.mappings) B)
  S = session_over (trial_of s B c).over

  abbrev Q : Entry (caused_chase (rules_of s.mappings) B) → Type 0
  Q x = IsPrintable s.relations (plain_entry (rules_of s.mappings) B x)

  -- the number of an update that is there
  among : (us : List (Update M)) (k : ℕ) (u : Update M) → length us ≤ length s.updates → slice_get us k ≡ Some u → suc k ≤ 1000
  among us k u few_are e = let b = slice_get_within us k u e in let all : length s.updates ≤ 1000 = v.update_count in omega (arith, b, few_are)

  each : Each M c S Q
  each done l Admits x h r f =
      let p = some_of (admit_effect M l.updates) (slice_get S.submissions (length l.updates)) x f in
      let y = submitted s v B some c s.updates (length l.updates) p.0 p.1 in
      let b = slice_get_within s.updates (length l.updates) y.0 y.1 in
      let all : length s.updates ≤ 1000 = v.update_count in
      let low : suc (length l.updates) ≤ 1000 = omega (arith, b) in
      subst (λ (z : Effect M). Q z.entry) p.2 (record { least = omega arith; most = low; parts = tt })
  each done l (Steps i) x h r f =
      let a = allowed_is l.updates i (may_step M c l.updates) (step_effect M c S l.updates) x f in
      let made = subst (λ n. effect M c S l.updates (Steps n) ≡ Some x) a.number f ∙ ap Some (sym a.made) in
      let counts = step_counts s v B some c most retries done l h a.place a.item a.found made in
      subst (λ (z : Effect M). Q z.entry) a.made
      (record {
        least = omega arith;
        most = among l.updates a.place a.item (few s v B some c done l h) a.found;
        parts = (counts.0, counts.1, counts.2, step_texts s v B some c done l h a.place a.item a.found a.may);
      })
  each done l (Delivers i) x h r f =
      let a = allowed_is l.updates i (may_deliver M c l.updates) (deliver_effect M c l.updates) x f in
      subst (λ (z : Effect M). Q z.entry) a.made (record { least = omega arith; most = among l.updates a.place a.item (few s v B some c done l h) a.found; parts = tt })
  each done l (Answers i y) x h r f = differ r
  each done l (Withdraws i) x h r f = differ r

  pub printable : (H : List PlainEntry) → IsLegalOver (trial_of s B c).over H → list_all is_recorded (map event_of (entries_over (trial_of s B c).over H)) ≡ true
      → AllByRecursion (IsPrintable s.relations) H
  printable H legal recorded =
      plain_again (rules_of s.mappings) B (IsPrintable s.relations) H (walked M c S Q each [] (empty_log M) refl tt (map event_of (entries_over (trial_of s B c).over H)) _ recorded legal)
