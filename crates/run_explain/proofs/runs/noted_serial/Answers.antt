use Rattle.std.proofs.Common.{◌≡◌, ◌∙◌, map}
use Rattle.def_language.specs.Checks.{rules_of}
use Rattle.lang_session.specs.Meanings.{request_of, requests_in, session_of, update_of}
use Rattle.run_serial.specs.Runs.{told_from}
use Rattle.run_serial.proofs.Onward.{told_whole}
use Rattle.run_explain.specs.Turns.{noted_from}
use Rattle.run_explain.proofs.Turning.{if_ok_weaker, noted_whole}
use Rattle.run_explain.proofs.runs.noted_serial.Goals as goal

pub returns-clause-told : goal.returns-clause-told
returns-clause-told c =
    let s = session_of c.args.session.now in
    let ms : c.mappings_of-mappings.result ≡ rules_of s.mappings = c.mappings_of-mappings.ensures.rules in
    let base : c.args.base ≡ s.base = c.requires.base in
    let updates = c.as_slice-updates.ensures.items in
    let whole = told_whole s c.args.budget c.sessions_suit_the_chase.ensures c.base_holds.ensures c.serial_scopes_agree.ensures c.requires.valid c.requires.met c.is_within.ensures.some in
    let here : told_from c.mappings_of-mappings.result c.args.budget c.args.base 1 (map request_of (map update_of c.as_slice-updates.result.now)) ≡ told_from (rules_of s.mappings) c.args.budget s.base 1 (requests_in s) = cc in
    if_ok_weaker c.run.result (λ run e. e ∙ (here ∙ whole)) c.run.ensures.told

pub returns-clause-noted : goal.returns-clause-noted
returns-clause-noted c =
    let s = session_of c.args.session.now in
    let ms : c.mappings_of-mappings.result ≡ rules_of s.mappings = c.mappings_of-mappings.ensures.rules in
    let base : c.args.base ≡ s.base = c.requires.base in
    let updates = c.as_slice-updates.ensures.items in
    let whole = noted_whole s c.args.budget c.sessions_suit_the_chase.ensures c.base_holds.ensures c.steps_agree_in_scopes.ensures c.requires.valid c.requires.met c.is_within.ensures.some in
    let here : noted_from c.mappings_of-mappings.result c.args.budget c.args.base 1 (map request_of (map update_of c.as_slice-updates.result.now)) ≡ noted_from (rules_of s.mappings) c.args.budget s.base 1 (requests_in s) = cc in
    if_ok_weaker c.run.result (λ run e. e ∙ (here ∙ whole)) c.run.ensures.noted
