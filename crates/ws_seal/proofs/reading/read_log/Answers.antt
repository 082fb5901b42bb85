use Rattle.std.proofs.Common.{◌∙◌, sym}
use Rattle.base_roll.proofs.Onwards.{on_ok}
use Rattle.ws_seal.specs.Answers.{LogTold}
use Rattle.ws_seal.proofs.Gates.{gate_of_log}
use Rattle.ws_seal.proofs.SoFar.{told_of_disk}
use Rattle.ws_seal.proofs.reading.read_log.Goals as goal

pub returns-clause-told : goal.returns-clause-told
returns-clause-told g c = told_of_disk LogTold (λ b h. h) (g.D.Disk.state c.args.disk.now) (g.D.Disk.state c.load_synced.new.disk) _ (c.deref.ensures.value ∙ c.in_ok-bytes.ensures.bytes) c.log_of.result c.log_of.ensures

pub returns-clause-lasts : goal.returns-clause-lasts
returns-clause-lasts g c = on_ok c.log_of.result c.in_ok-bytes.ensures.lasts

pub returns-clause-gate : goal.returns-clause-gate
returns-clause-gate g c = gate_of_log _ _ (c.deref.ensures.value ∙ c.in_ok-bytes.ensures.bytes ∙ sym c.load_synced.ensures.reads.same) c.log_of.result c.log_of.ensures
