use Rattle.std.proofs.Common.{refl}
use Rattle.ws_names.proofs.Kept.{kept_pairs}
use Rattle.ws_names.proofs.names.Names.keep.Goals as goal

pub returns : goal.returns
returns c = record { kept = kept_pairs c.self.inside.drawn.items c.keep_first.new.drawn.items c.args.count c.args.self.now _ c.self.view_is refl c.keep_first.ensures.kept }
