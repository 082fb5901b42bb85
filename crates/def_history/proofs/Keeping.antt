-- Entries as plain data and back, and histories of them.
use Rattle.std.proofs.Common.{◌≡◌, ◌∙◌, ap, refl, sym, subst, ℕ, ◌≤◌, List, [], ◌∷◌, ◌++◌, append_assoc, map, Some}
use Rattle.def_machine.specs.Machine.{Machine}
use Rattle.def_machine.specs.Updates.{Update, Submission, Session, Settings}
use Rattle.def_machine.specs.Cascade.{Cause, Conflict, Depends}
use Rattle.def_machine.specs.Effects.{Event, Entry, Admitted, Stepped, Delivered, Answered, Withdrew, Effect}
use Rattle.def_machine.specs.Histories.{Log, empty_log, after, event_of}
use Rattle.def_machine.specs.Recorded.{with_more}
use Rattle.def_machine.proofs.Prefixes.{legal_law}
use Rattle.def_machine.proofs.Recorded.{longer_law}
use Rattle.def_chase.specs.Mappings.{Rule}
use Rattle.def_chase.specs.Updates.{Operation}
use Rattle.def_steps.specs.Chase.{caused, caused_chase}
use Rattle.def_steps.specs.Serial.{Request}
use Rattle.def_steps.proofs.ChaseLaws.{chase_laws}
use Rattle.def_history.specs.Histories.{submissions, session_of, IsLegalHistory}
use Rattle.def_history.specs.PlainEntries.{PlainCause, InConflict, Dependent, PlainEntry, WasAdmitted, WasStepped, WasDelivered, WasAnswered, WasWithdrawn, plain_cause, plain_entry, cause_kept, entry_kept, EntriesArePlain}
use Rattle.def_history.specs.Cores.{Ground, machine, session_over, entries_over, updates_in, updates_after, IsLegalOver, effect_after}
use Rattle.def_history.specs.CoreLaws.{Leave, handed, AreOver, HistoriesAreKept}

-- ---- entries

cause_there : (ms : List Rule) (B : ℕ) (c : Cause (caused_chase ms B)) → cause_kept ms B (plain_cause ms B c) ≡ c
cause_there ms B (Conflict i r j old new) = refl
cause_there ms B (Depends i r on) = refl

cause_back : (ms : List Rule) (B : ℕ) (c : PlainCause) → plain_cause ms B (cause_kept ms B c) ≡ c
cause_back ms B (InConflict x) = refl
cause_back ms B (Dependent x) = refl

causes_there : (ms : List Rule) (B : ℕ) (cs : List (Cause (caused_chase ms B))) → map (cause_kept ms B) (map (plain_cause ms B) cs) ≡ cs
causes_there ms B [] = refl
causes_there ms B (c ∷ cs) = λ i. cause_there ms B c i ∷ causes_there ms B cs i

causes_back : (ms : List Rule) (B : ℕ) (cs : List PlainCause) → map (plain_cause ms B) (map (cause_kept ms B) cs) ≡ cs
causes_back ms B [] = refl
causes_back ms B (c ∷ cs) = λ i. cause_back ms B c i ∷ causes_back ms B cs i

pub entry_there : (ms : List Rule) (B : ℕ) (e : Entry (caused_chase ms B)) → entry_kept ms B (plain_entry ms B e) ≡ e
entry_there ms B (Admitted i) = refl
entry_there ms B (Stepped e) = λ i. Stepped (record { update = e.update; attempt = e.attempt; standing = e.standing; writes = e.writes; causes = causes_there ms B e.causes i; committed = e.committed })
entry_there ms B (Delivered i s) = refl
entry_there ms B (Answered i c s) = refl
entry_there ms B (Withdrew u cs n) = λ i. Withdrew u (causes_there ms B cs i) n

pub entry_back : (ms : List Rule) (B : ℕ) (e : PlainEntry) → plain_entry ms B (entry_kept ms B e) ≡ e
entry_back ms B (WasAdmitted i) = refl
entry_back ms B (WasStepped e) = λ i. WasStepped (record { update = e.update; attempt = e.attempt; standing = e.standing; writes = e.writes; causes = causes_back ms B e.causes i; committed = e.committed })
entry_back ms B (WasDelivered e) = refl
entry_back ms B (WasAnswered e) = refl
entry_back ms B (WasWithdrawn e) = λ i. WasWithdrawn (record { update = e.update; causes = causes_back ms B e.causes i; committed = e.committed })

pub entries_are_plain : EntriesArePlain
entries_are_plain = record { kept = entry_there; plain = entry_back }

-- ---- histories

entries_more : (g : Ground) (H : List PlainEntry) (e : Entry (machine g)) → entries_over g (H ++ plain_entry g.rules g.budget e ∷ []) ≡ entries_over g H ++ e ∷ []
entries_more g [] e = ap (λ d. d ∷ []) (entry_there g.rules g.budget e)
entries_more g (h ∷ H) e = ap (λ es. entry_kept g.rules g.budget h ∷ es) (entries_more g H e)

pub left_by : (g : Ground) (H : List PlainEntry) (us : List (Update (machine g))) → IsLegalHistory g.rules g.budget g.settings (session_over g) (entries_over g H) us → Leave g H us
left_by g H us h =
    let same : updates_after g H ≡ us = ap (updates_in (machine g)) h in
    record { legal = h ∙ ap (λ (vs : List (Update (machine g))). Some (record { updates = vs; entries = entries_over g H })) (sym same); leaves = same }

grown_by : (g : Ground) (some : 1 ≤ g.budget) (H : List PlainEntry) (e : Event (machine g)) (x : Effect (machine g)) → IsLegalOver g H → effect_after g H e ≡ Some x
    → Leave g (H ++ plain_entry g.rules g.budget x.entry ∷ []) x.updates
grown_by g some H e x h f =
    left_by g (H ++ plain_entry g.rules g.budget x.entry ∷ []) x.updates
    (subst (λ (es : List (Entry (machine g))). IsLegalHistory g.rules g.budget g.settings (session_over g) es x.updates) (sym (entries_more g H x.entry))
    ((legal_law (machine g) (chase_laws caused g.rules g.budget some) g.settings (session_over g)).grows (entries_over g H) (updates_after g H) e x h f))

more_handed : (ms : List Rule) (B : ℕ) (rs : List Request) (ops : List Operation) (op : Operation)
    → submissions ms B (rs ++ map (λ o. record { operation = o; answers = [] }) (ops ++ op ∷ [])) ≡ submissions ms B (rs ++ map (λ o. record { operation = o; answers = [] }) ops) ++ record { operation = op; answers = [] } ∷ []
more_handed ms B [] [] op = refl
more_handed ms B [] (o ∷ ops) op = ap (λ (xs : List (Submission (caused_chase ms B))). record { operation = o; answers = [] } ∷ xs) (more_handed ms B [] ops op)
more_handed ms B (r ∷ rs) ops op = ap (λ (xs : List (Submission (caused_chase ms B))). record { operation = r.operation; answers = r.answers } ∷ xs) (more_handed ms B rs ops op)

handed_by : (g : Ground) (H : List PlainEntry) (op : Operation) → IsLegalOver g H → Leave (handed g op) H (updates_after g H)
handed_by g H op h =
    let M = machine g in
    let longer = longer_law M g.settings (session_over g) (record { operation = op; answers = [] } ∷ []) (empty_log M) (record { updates = updates_after g H; entries = entries_over g H }) (map event_of (entries_over g H)) h in
    left_by (handed g op) H (updates_after g H)
    (subst (λ (xs : List (Submission M)). after M g.settings (record { base = g.base; submissions = xs }) (empty_log M) (map event_of (entries_over g H)) ≡ Some (record { updates = updates_after g H; entries = entries_over g H }))
    (sym (more_handed g.rules g.budget g.requests g.later op)) longer)

pub histories_are_kept : HistoriesAreKept
histories_are_kept g some = record {
  empty = left_by g [] [] refl;
  same = left_by g;
  grows = grown_by g some;
  handing = handed_by g;
}
