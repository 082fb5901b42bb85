-- What audited updates mean: the updates of a history of the chase.
use Rattle.std.specs.Prelude.{◌≡◌, ℕ, suc, List, [], ◌∷◌, map, None}
use Rattle.base_types.specs.Meanings.{choice_of}
use Rattle.def_machine.specs.Updates.{Read, Update}
use Rattle.def_chase.specs.Mappings.{Rule}
use Rattle.chase_query.specs.Meanings.{Read as ReadMeant, reads_in}
use Rattle.def_steps.specs.Chase.{caused_chase}
use Rattle.audit_updates.specs.declared.updates.AuditedUpdate.{AuditedUpdate}

module _ (ms : List Rule) (B : ℕ) where
  -- A read, as the log of a history's update has it.
  abbrev pub logged : ReadMeant → Read (caused_chase ms B)
  logged r = record { query = r.query; answer = r.reply; own = r.own }

  -- The update that an audited update stands for.
  abbrev pub update_of : AuditedUpdate → Update (caused_chase ms B)
  update_of r =
      record {
        operation = r.program.attempt.operation;
        attempt = r.program.attempt.attempt;
        state = r.program.attempt;
        log = map logged (reads_in r.log.items);
        withdrawn = r.withdrawn;
        answers = map choice_of r.answers.items;
        inbox = map choice_of r.inbox.items;
      }

  -- The updates that the audited updates stand for.
  abbrev pub updates_of : List AuditedUpdate → List (Update (caused_chase ms B))
  updates_of rs = map update_of rs

-- The audited update stands for update n, between two steps.
pub record StandsAt (n : ℕ) (r : AuditedUpdate) : Type 0 where
  pub number : r.program.attempt.number ≡ n
  pub between : r.program.reading ≡ None

-- The audited updates stand for updates n, n + 1, .., each between two steps.
abbrev pub AreFrom : ℕ → List AuditedUpdate → Type 0
AreFrom n [] = Unit {0}
AreFrom n (r ∷ rs) = StandsAt n r × AreFrom (suc n) rs
