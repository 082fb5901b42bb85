use Rattle.std.proofs.Common.{◌≡◌, ◌++◌, ◌∷◌, [], map}
use Rattle.std.proofs.lemmas.List.{map_push}
use Rattle.std.proofs.lemmas.Result.{err_from_is_err_and}
use Rattle.base_types.specs.Meanings.{pattern_of as pattern_meant}
use Rattle.def_language.specs.Meaning.{pattern_of}
use Rattle.lang_schema.specs.Meanings.{atom_of}
use Rattle.lang_schema.proofs.Eached.{element, passes, fails, ends, nothing_left}
use Rattle.lang_schema.proofs.mappings.atoms_of.Goals as goal

pub returns-in_err-atom_of : goal.returns-in_err-atom_of
returns-in_err-atom_of c =
    let p = err_from_is_err_and c.from_residual.result c.from_residual.ensures.1 in
    rw (p.1, p.2) (fails c.in_err-atom_of.field-0.0 (pattern_of c.args.schema.now c.args.variables.now) (map pattern_meant c.loop-atom.found.items) (atom_of c.atom-item.result) _ _ _
    (element atom_of c.args.atoms.now c.loop-atom.atom-index c.atom-item.result c.loop-atom-test.true c.atom-item.is) c.loop-atom.invariant c.in_err-atom_of.ensures)

pub loop-atom-preserved : goal.loop-atom-preserved
loop-atom-preserved c =
    let grown : map pattern_meant c.push.new.self.items ≡ map pattern_meant c.loop-atom.found.items ++ pattern_meant c.in_ok-atom_of.field-0 ∷ [] = rw c.in_ok-push.ensures.ok (map_push pattern_meant c.loop-atom.found.items c.in_ok-atom_of.field-0) in
    rw grown (passes (pattern_of c.args.schema.now c.args.variables.now) (map pattern_meant c.loop-atom.found.items) (atom_of c.atom-item.result) _ _ (pattern_meant c.in_ok-atom_of.field-0) _
    (element atom_of c.args.atoms.now c.loop-atom.atom-index c.atom-item.result c.loop-atom-test.true c.atom-item.is) c.loop-atom.invariant c.in_ok-atom_of.ensures)

pub returns : goal.returns
returns c = ends (pattern_of c.args.schema.now c.args.variables.now) (map pattern_meant c.loop-atom.found.items) _ _ (nothing_left atom_of c.args.atoms.now c.loop-atom.atom-index c.loop-atom-test.false) c.loop-atom.invariant
