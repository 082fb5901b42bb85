-- Options that are alike make the same, and write the same.
use Rattle.std.proofs.Common.{◌≡◌, ◌∙◌, ℕ, Bool, List, ap, ap₂, sym, subst}
use Rattle.cmd_frame.specs.Devices.{Change}
use Rattle.cmd_frame.specs.Outputs.{OutputView}
use Rattle.cmd_plain.specs.Audited.{audited}
use Rattle.cmd_plain.specs.Asked.{asked}
use Rattle.cmd_plain.specs.Commands.{on_session, on_session_by}
use Rattle.cmd_plain.specs.Journaled.{journaled}
use Rattle.cmd_plain.specs.Runs.{kept, ran}
use Rattle.cmd_plain.specs.Written.{WroteWhatHolds}
use Rattle.cmd_threads.specs.Drilling.{drilling}
use Rattle.cmd_plain.specs.Explained.{explained}
use Rattle.def_machine.specs.Updates.{Deps as Test, Settings}
use Rattle.cmd_threads.specs.Runs.{running}
use Rattle.cmd_threads.specs.Written.{WroteRun}
use Rattle.cmd_words.specs.Alike.{AreAlike}
use Rattle.cmd_words.specs.declared.names.CommandName.{CommandName}
use Rattle.cmd_words.specs.declared.names.CommandName.TheVariants.{Run, Serial, Format, Save, Ask, Explain, Audit, Drill, Journal}
use Rattle.cmd_words.specs.declared.reading.Options.{Options}
use Rattle.youtopia.specs.Calls.{deps_of, makes, settings_in}
use Rattle.youtopia.specs.Promises.{HasQuery, Wrote}

abbrev settings_with : ℕ → Test → Settings
settings_with retries deps = record { retries = retries; deps = deps }

same_settings : (o p : Options) → AreAlike o p → settings_in o ≡ settings_in p
same_settings o p same = ap₂ settings_with same.retries (ap deps_of same.deps)

pub moved : (P : Bool → ℕ → Settings → Type 0) (t u : Bool) (m n : ℕ) (c d : Settings) → t ≡ u → m ≡ n → c ≡ d → P t m c → P u n d
moved P t u m n c d trace steps settings it =
    subst (λ (x : Settings). P u n x) settings (subst (λ (k : ℕ). P u k c) steps (subst (λ (b : Bool). P b m c) trace it))

-- what holds of a run with the one options holds with the other, and the other way round
pub run_like : (P : Bool → ℕ → Settings → Type 0) (o p : Options) → AreAlike o p → P o.trace o.steps (settings_in o) → P p.trace p.steps (settings_in p)
run_like P o p same it = moved P _ _ _ _ _ _ same.trace same.steps (same_settings o p same) it

pub run_back : (P : Bool → ℕ → Settings → Type 0) (o p : Options) → AreAlike o p → P p.trace p.steps (settings_in p) → P o.trace o.steps (settings_in o)
run_back P o p same it = moved P _ _ _ _ _ _ (sym same.trace) (sym same.steps) (sym (same_settings o p same)) it

drill_moved : (P : ℕ → ℕ → ℕ → Type 0) (a b c d e f : ℕ) → a ≡ b → c ≡ d → e ≡ f → P a c e → P b d f
drill_moved P a b c d e f steps count seed it =
    subst (λ (x : ℕ). P b d x) seed (subst (λ (x : ℕ). P b x e) count (subst (λ (x : ℕ). P x c e) steps it))

-- so with a drill
drill_like : (P : ℕ → ℕ → ℕ → Type 0) (o p : Options) → AreAlike o p → P o.steps o.count o.seed → P p.steps p.count p.seed
drill_like P o p same it = drill_moved P _ _ _ _ _ _ same.steps same.count same.seed it

pub drill_back : (P : ℕ → ℕ → ℕ → Type 0) (o p : Options) → AreAlike o p → P p.steps p.count p.seed → P o.steps o.count o.seed
drill_back P o p same it = drill_moved P _ _ _ _ _ _ (sym same.steps) (sym same.count) (sym same.seed) it

pub same_makes : (k : CommandName) (o p : Options) (input : List ℕ) (x : OutputView) → AreAlike o p → makes k o input x → makes k p input x
same_makes Ask o p input x same a =
    (a.0, (a.1.0, sym same.query ∙ a.1.1, a.1.2), subst (λ (n : ℕ). on_session (asked n a.0) input x) same.steps a.2)
same_makes Explain o p input x same a =
    (a.0, (a.1.0, sym same.tuple ∙ a.1.1, a.1.2), subst (λ (n : ℕ). on_session (explained n a.0) input x) same.steps a.2)
same_makes Run o p input x same a = run_like (λ trace n c. on_session_by (running trace n c) input x) o p same a
same_makes Serial o p input x same a = subst (λ (n : ℕ). on_session (ran n) input x) same.steps a
same_makes Save o p input x same a = subst (λ (n : ℕ). on_session (kept n) input x) same.steps a
same_makes Audit o p input x same a =
    subst (λ (c : Settings). audited p.steps c input x) (same_settings o p same) (subst (λ (n : ℕ). audited n (settings_in o) input x) same.steps a)
same_makes Drill o p input x same a = drill_like (λ n count seed. drilling n count seed input x) o p same a
same_makes Journal o p input x same a = subst (λ (n : ℕ). on_session (journaled n) input x) same.steps a
same_makes Format o p input x same a = a
same_makes _ o p input x same a = a

pub same_query : (k : CommandName) (o p : Options) → AreAlike o p → HasQuery k o → HasQuery k p
same_query Ask o p same has = (has.0, (has.1.0, sym same.query ∙ has.1.1, has.1.2))
same_query Explain o p same has = (has.0, (has.1.0, sym same.tuple ∙ has.1.1, has.1.2))
same_query Run o p same has = has
same_query _ o p same has = has

pub same_wrote : (k : CommandName) (o p : Options) (source out : Change) → AreAlike o p → Wrote k p source out → Wrote k o source out
same_wrote Run o p source out same it = run_back (λ trace n c. WroteRun trace n c source out) o p same it
same_wrote _ o p source out same it = subst (λ (n : ℕ). WroteWhatHolds n source out) (sym same.steps) it
