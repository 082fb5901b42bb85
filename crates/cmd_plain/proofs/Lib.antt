mod JournalOutputs
mod Journals
mod Performed
mod RecoverOutputs
mod Audits
mod Fronts
mod OneOutput
