use Rattle.std.proofs.Common.{◌≡◌, ◌∙◌, map, Result, Ok, Err, IfOk}
use Rattle.def_language.specs.Checks.{rules_of}
use Rattle.lang_session.specs.Meanings.{request_of, requests_in, session_of, update_of}
use Rattle.run_serial.specs.Runs.{told_from}
use Rattle.run_serial.proofs.Onward.{told_whole}
use Rattle.run_serial.proofs.runs.serial_over.Goals as goal

if_ok_weaker : {T E : Type 0} {P Q : T → Type 0} (r : Result T E) → ((x : T) → P x → Q x) → IfOk r P → IfOk r Q
if_ok_weaker (Ok x) f h = f x h
if_ok_weaker (Err e) f h = h

pub returns : goal.returns
returns c =
    let s = session_of c.args.session.now in
    let ms : c.mappings_of-mappings.result ≡ rules_of s.mappings = c.mappings_of-mappings.ensures.rules in
    let base : c.args.base ≡ s.base = c.requires.base in
    let updates = c.as_slice-updates.ensures.items in
    let whole = told_whole s c.args.budget c.sessions_suit_the_chase.ensures c.base_holds.ensures c.serial_scopes_agree.ensures c.requires.valid c.requires.met c.is_within.ensures.some in
    let here : told_from c.mappings_of-mappings.result c.args.budget c.args.base 1 (map request_of (map update_of c.as_slice-updates.result.now)) ≡ told_from (rules_of s.mappings) c.args.budget s.base 1 (requests_in s) = cc in
    record { told = if_ok_weaker c.run.result (λ told e. e ∙ (here ∙ whole)) c.run.ensures.told }
