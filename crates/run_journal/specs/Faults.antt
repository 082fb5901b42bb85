-- The refusal of a journal that is opened, by the refusal of the disk.
use Rattle.base_devices.specs.declared.disks.DiskRefusal.{DiskRefusal}
use Rattle.base_devices.specs.declared.disks.DiskRefusal.TheVariants as refusals
use Rattle.run_journal.specs.declared.journals.RecoverFault.{RecoverFault}
use Rattle.run_journal.specs.declared.journals.RecoverFault.TheVariants as recovering

abbrev pub recover_fault : DiskRefusal → RecoverFault
recover_fault refusals.Failed = recovering.DiskFault
recover_fault refusals.Memory = recovering.Memory
