use Rattle.std.proofs.lemmas.List.{take_rest}
use Rattle.audit_claims.proofs.Lined.{after_found, session_found}
use Rattle.audit_claims.proofs.parts.session_part.Goals as goal

pub returns-clause-session : goal.returns-clause-session
returns-clause-session c =
    let next = rw take_rest at c.line_end.ensures.line in
    session_found c.args.input.now c.place_of-place.result c.line_end.result c.place_of-place.ensures.before c.place_of-place.ensures.from next

pub returns-clause-rest : goal.returns-clause-rest
returns-clause-rest c =
    let next = rw take_rest at c.line_end.ensures.line in
    rw take_rest (after_found c.args.input.now c.place_of-place.result c.line_end.result c.place_of-place.ensures.from next)
