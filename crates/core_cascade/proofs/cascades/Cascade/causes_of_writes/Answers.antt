use Rattle.std.proofs.Common.{map}
use Rattle.base_types.specs.Meanings.{change_of}
use Rattle.core_cascade.specs.Meanings.{above_of}
use Rattle.core_cascade.proofs.Turns.{of_writes}
use Rattle.core_cascade.proofs.cascades.Cascade.causes_of_writes.Goals as goal

pub returns-clause-causes : goal.returns-clause-causes
returns-clause-causes c =
    of_writes (above_of c.args.self.now) (map change_of c.args.written.now) c.in_ok-lost.lost c.args.upper.now c.in_ok-found.found.items c.in_ok-lost.ensures.without c.in_ok-lost.ensures.members c.in_ok-found.ensures.found
