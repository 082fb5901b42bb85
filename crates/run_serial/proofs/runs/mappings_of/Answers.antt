use Rattle.std.proofs.Common.{◌∙◌, subst, sym}
use Rattle.std.proofs.lemmas.Simd.{map-map}
use Rattle.def_language.specs.Sessions.{SessionMapping}
use Rattle.base_limits.specs.Within.{AreWithin}
use Rattle.lang_schema.specs.Meanings.{session_mapping_of}
use Rattle.lang_session.specs.Meanings.{session_of}
use Rattle.run_serial.proofs.Limits.{session_within}
use Rattle.run_serial.proofs.runs.mappings_of.Goals as goal

pub of-requires : goal.of-requires
of-requires c =
    record {
      within =
          subst AreWithin (map-map (λ (m : SessionMapping). m.rule) session_mapping_of c.args.session.now.mappings.items)
          (session_within (session_of c.args.session.now) c.requires.valid);
    }

pub returns : goal.returns
returns c =
    record { rules = c.of.ensures.rules ∙ sym (map-map (λ (m : SessionMapping). m.rule) session_mapping_of c.args.session.now.mappings.items) }
