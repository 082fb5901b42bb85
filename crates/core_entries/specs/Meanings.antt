-- What standings, causes and entries mean, in the terms of histories.
use Rattle.std.specs.Prelude.{map}
use Rattle.core_entries.specs.declared.standings.Standing.{Standing as StandingOfProgram}
use Rattle.core_entries.specs.declared.standings.Standing.TheVariants as standings
use Rattle.core_entries.specs.declared.causes.Cause.{Cause}
use Rattle.core_entries.specs.declared.causes.Cause.TheVariants.{Conflict, Depends}
use Rattle.core_entries.specs.declared.entries.Entry.{Entry}
use Rattle.core_entries.specs.declared.entries.Entry.TheVariants as entries
use Rattle.def_machine.specs.Machine.{Done, Spent, Refused}
use Rattle.def_machine.specs.Standings.{Standing, Ready, Held, Paused, Missing, Misfit, Ended, Withdrawn}
use Rattle.base_types.specs.Meanings.{change_of, choice_of}
use Rattle.chase_query.specs.Meanings.{reply_of}
use Rattle.def_history.specs.PlainEntries.{PlainCause, InConflict, Dependent, PlainEntry, WasAdmitted, WasStepped, WasDelivered, WasAnswered, WasWithdrawn}

-- The standing that a `Standing` stands for.
abbrev pub standing_of : StandingOfProgram → Standing
standing_of standings.Ready = Ready
standing_of (standings.Held c) = Held c
standing_of standings.Pending = Paused Missing
standing_of standings.Misfit = Paused Misfit
standing_of standings.Done = Ended Done
standing_of standings.Spent = Ended Spent
standing_of standings.Refused = Ended Refused
standing_of standings.Withdrawn = Withdrawn

-- The cause that a `Cause` stands for.
abbrev pub cause_of : Cause → PlainCause
cause_of (Conflict reader read writer old new) =
    InConflict (record { reader = reader; read = read; writer = writer; old = reply_of old; new = reply_of new })
cause_of (Depends reader read on) = Dependent (record { reader = reader; read = read; on = on })

-- The entry that an `Entry` stands for.
abbrev pub entry_of : Entry → PlainEntry
entry_of (entries.Admitted update) = WasAdmitted update
entry_of (entries.Stepped update attempt standing writes causes committed) =
    WasStepped (record {
      update = update;
      attempt = attempt;
      standing = standing_of standing;
      writes = map change_of writes.items;
      causes = map cause_of causes.items;
      committed = committed;
    })
entry_of (entries.Delivered update standing) = WasDelivered (record { update = update; standing = standing_of standing })
entry_of (entries.Answered update choice standing) =
    WasAnswered (record { update = update; choice = choice_of choice; standing = standing_of standing })
entry_of (entries.Withdrawn update causes committed) =
    WasWithdrawn (record { update = update; causes = map cause_of causes.items; committed = committed })
