use Rattle.std.proofs.Common.{sym, ap, ◌∙◌}
use Rattle.std.specs.List.{concat}
use Rattle.std.proofs.lemmas.List.{take_rest}
use Rattle.audit_claims.proofs.Lined.{whole}
use Rattle.audit_claims.proofs.parts.result_part.Goals as goal

pub returns-clause-rest : goal.returns-clause-rest
returns-clause-rest c = rw take_rest (sym (whole _) ∙ ap concat c.place_of-place.ensures.from)
