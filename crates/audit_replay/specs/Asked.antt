-- What is searched for among an update's reads, over what determines their values.
use Rattle.std.specs.Prelude.{ℕ, List, map, Option}
use Rattle.base_types.specs.Contents.{rules_in}
use Rattle.base_types.specs.Meanings.{change_of, heading_of}
use Rattle.chase_query.specs.Meanings.{Read}
use Rattle.audit_replay.specs.Changes.{ChangeMeant, first_change_after}
use Rattle.audit_replay.specs.declared.changes.Reader.{Reader}

-- The first of these reads, after n others, that mentions one of the relations and has another value now.
abbrev pub changed_after : ℕ → Reader → List ℕ → List Read → Option ChangeMeant
changed_after n r relations rs =
    first_change_after n (rules_in r.mappings.now) relations (heading_of r.direction) r.below.now (map change_of r.own.now) rs
