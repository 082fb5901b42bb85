use Rattle.std.proofs.Common.{◌≡◌, ◌∙◌, ap, subst, List, ℕ, rules}
use Rattle.base_devices.specs.InMemory.{MemState, bytes_of}
use Rattle.run_journal.specs.Answers.{IsRecovered}
use Rattle.cmd_plain.proofs.RecoverOutputs.{whole_told}
use Rattle.cmd_plain.proofs.recovering.RecoverCommand.run.Goals as goal

pub returns-in-Ok : goal.returns-in-Ok
returns-in-Ok c =
    let copied : c.in_ok-to_vec.field-0.items ≡ c.args.input.now = search rules in
    let held : bytes_of c.in_ok-disk.disk ≡ c.args.input.now = ap (λ (d : MemState). bytes_of d) c.in_ok-disk.ensures ∙ copied in
    whole_told c.args.input.now c.in-Ok.recovered c.in_ok-whole_text-in-Ok.field-0.items
    (subst (λ (b : List ℕ). IsRecovered b c.in-Ok.recovered) held c.in-Ok.ensures.told) c.in_ok-whole_text-in-Ok.ensures
