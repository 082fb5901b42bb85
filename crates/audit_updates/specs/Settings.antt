-- What the settings of a core mean.
use Rattle.def_machine.specs.Updates as machine
use Rattle.audit_updates.specs.declared.settings.Deps.{Deps}
use Rattle.audit_updates.specs.declared.settings.Deps.TheVariants.{Precise, Coarse}
use Rattle.audit_updates.specs.declared.settings.Settings.{Settings}

-- The test that a `Deps` stands for.
abbrev pub deps_of : Deps → machine.Deps
deps_of Precise = machine.Precise
deps_of Coarse = machine.Coarse

-- The settings that a `Settings` stands for.
abbrev pub settings_of : Settings → machine.Settings
settings_of s = record { retries = s.retries; deps = deps_of s.deps }
