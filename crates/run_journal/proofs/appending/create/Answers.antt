use Rattle.std.proofs.Common.{◌∙◌, ◌++◌, ◌∷◌, [], ◌+◌, ap, length, arith}
use Rattle.base_roll.specs.Format.{framed}
use Rattle.lang_session.specs.Meanings.{session_of}
use Rattle.run_journal.specs.Format.{IsOpening}
use Rattle.run_journal.proofs.Onwards.{created, created_text}
use Rattle.run_journal.proofs.appending.create.Goals as goal

pub returns-in-Ok-clause-made : goal.returns-in-Ok-clause-made
returns-in-Ok-clause-made g c =
    let s = session_of c.args.session.now in
    let opening : IsOpening s = record { session = c.requires.session; no_updates = c.requires.no_updates; short = omega (arith, ap length c.in_ok-payload.ensures.printed) } in
    created (g.D.Disk.state c.create.new.disk) s (c.len-in-Ok.result + 4) c.deref-2.result.now opening
    (c.deref-2.ensures.value ∙ c.in_ok-record.ensures ∙ ap (λ p. framed p ++ (0 ∷ [])) (c.deref.ensures.value ∙ c.in_ok-payload.ensures.printed))
    c.in-Ok.ensures.lasts c.in-Ok.ensures.bytes (omega (arith, ap length c.in_ok-payload.ensures.printed))

pub returns-in-Ok-clause-bytes : goal.returns-in-Ok-clause-bytes
returns-in-Ok-clause-bytes g c =
    c.in-Ok.ensures.bytes
    ∙ created_text (session_of c.args.session.now) c.deref-2.result.now (c.deref-2.ensures.value ∙ c.in_ok-record.ensures ∙ ap (λ p. framed p ++ (0 ∷ [])) (c.deref.ensures.value ∙ c.in_ok-payload.ensures.printed))
