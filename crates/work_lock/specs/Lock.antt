-- Which lock it is.
use Rattle.atomic_table.specs.Seated.{TableId}
use Rattle.work_lock.specs.declared.lock.StampLock.{StampLock}

-- a lock's identity, which no other lock has
abbrev pub lock_id : {V E : Type 0} → StampLock V E → TableId
lock_id l = l.table.shared.table_id
