use Rattle.std.proofs.Common.{◌≡◌, ◌∙◌, ◌+◌, ap, sym, ℕ, List, true, false, Some, rules}
use Rattle.base_types.specs.Contents.{rules_in}
use Rattle.chase_query.specs.Meanings.{Read, read_of}
use Rattle.audit_replay.specs.Changes.{is_read_met, meets}
use Rattle.audit_replay.proofs.Numbered.{one_after}
use Rattle.audit_replay.proofs.losses.Losses.met_at.Goals as goal

pub returns-then-not-is_met : goal.returns-then-not-is_met
returns-then-not-is_met c =
    let ms = rules_in c.args.mappings.now in
    let m : c.is_met.result ≡ false = search rules in
    record {
      first =
          one_after (is_read_met ms c.args.self.now.relations.items) c.args.before (read_of c.args.read.now) false
          (ap (λ (ks : List ℕ). meets ms ks (read_of c.args.read.now).query) (sym c.as_slice.ensures.value) ∙ sym c.is_met.ensures.met ∙ m);
    }

pub returns : goal.returns
returns c =
    let ms = rules_in c.args.mappings.now in
    let m : c.is_met.result ≡ true = search rules in
    record {
      first =
          ap (λ (r : Read). Some (c.args.before + 1, r)) c.in_ok-copy.ensures.same
          ∙ one_after (is_read_met ms c.args.self.now.relations.items) c.args.before (read_of c.args.read.now) true
          (ap (λ (ks : List ℕ). meets ms ks (read_of c.args.read.now).query) (sym c.as_slice.ensures.value) ∙ sym c.is_met.ensures.met ∙ m);
    }
