use Rattle.std.proofs.Common.{◌++◌, ap, map}
use Rattle.base_types.specs.Contents.{changes_of}
use Rattle.base_types.specs.Meanings.{change_of}
use Rattle.chase_update.proofs.shared.unshared.Goals as goal

pub returns-in_default : goal.returns-in_default
returns-in_default c = record { first = λ all h. (changes_of all, ap (λ ws. map change_of ws ++ changes_of all) c.new.ensures.empty) }

pub returns-in-None : goal.returns-in-None
returns-in-None c = record { first = λ all h. (changes_of all, ap (λ ws. map change_of ws ++ changes_of all) c.new-in-None.ensures.empty) }
