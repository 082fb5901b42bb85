use Rattle.base_roll.proofs.Onwards.{created, on_ok_then}
use Rattle.base_roll.proofs.appending.create.Goals as goal

pub returns-clause-bytes : goal.returns-clause-bytes
returns-clause-bytes g c =
    on_ok_then c.write_synced.result c.write_synced.ensures.written
    (created (g.D.Disk.state c.args.disk.now).bytes (g.D.Disk.state c.write_synced.new.disk).bytes c.args.text.now c.requires.empty)
