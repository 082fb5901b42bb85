use Rattle.std.proofs.Common.{◌∙◌, sym}
use Rattle.base_roll.proofs.Onwards.{on_ok}
use Rattle.ws_seal.specs.Answers.{TailTold}
use Rattle.ws_seal.proofs.Gates.{gate_of_tail}
use Rattle.ws_seal.proofs.SoFar.{told_of_disk}
use Rattle.ws_seal.proofs.reading.read_tail.Goals as goal

pub returns-clause-told : goal.returns-clause-told
returns-clause-told g c = told_of_disk (TailTold c.args.mark.digits) (λ b h. h) (g.D.Disk.state c.args.disk.now) (g.D.Disk.state c.load_synced.new.disk) _ (c.deref.ensures.value ∙ c.in_ok-bytes.ensures.bytes) c.tail_of.result c.tail_of.ensures

pub returns-clause-lasts : goal.returns-clause-lasts
returns-clause-lasts g c = on_ok c.tail_of.result c.in_ok-bytes.ensures.lasts

pub returns-clause-gate : goal.returns-clause-gate
returns-clause-gate g c = gate_of_tail c.args.mark.digits _ _ (c.deref.ensures.value ∙ c.in_ok-bytes.ensures.bytes ∙ sym c.load_synced.ensures.reads.same) c.tail_of.result c.tail_of.ensures
