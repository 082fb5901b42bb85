use Rattle.std.proofs.Common.{◌≡◌, ◌+◌, ◌∙◌, length, [], ◌∷◌, ◌++◌, ap, subst, List, ℕ, inl, inr, take, drop, arith}
use Rattle.std.proofs.lemmas.List.{length-take-le}
use Rattle.base_devices.specs.States.{LeavesOnly}
use Rattle.base_devices.specs.Torn.{IsTorn, range_of, written}
use Rattle.base_roll.specs.Logging.{IsBeingLogged}
use Rattle.base_roll.proofs.Leaving.{goes_on, leaves_on, weaker, failed_later}
use Rattle.base_roll.proofs.Onwards.{on_ok_then, still_within}
use Rattle.base_roll.proofs.TornBytes.{keeps_gate, tears_gate, record_after, gate_opened}
use Rattle.base_roll.proofs.logging.log_record.Goals as goal

pub write_synced-requires-2-clause-at : goal.write_synced-requires-2-clause-at
write_synced-requires-2-clause-at g c =
    omega (arith, still_within c.args.gate c.args.text.now (g.D.Disk.state c.args.disk.now).bytes c.requires.gate, ap (λ (xs : List ℕ). length xs) c.in_ok-write_synced.ensures.written)

pub returns-in_err-write_synced-clause-images : goal.returns-in_err-write_synced-clause-images
returns-in_err-write_synced-clause-images g c =
    weaker (IsTorn (range_of (c.args.gate + 1) c.args.text.now) (g.D.Disk.state c.args.disk.now).bytes) (IsBeingLogged c.args.gate c.args.text.now (g.D.Disk.state c.args.disk.now).bytes)
    (g.D.Disk.state c.args.disk.now) (g.D.Disk.state c.write_synced.new.disk)
    (λ bytes t. inl (keeps_gate c.args.gate c.args.text.now (g.D.Disk.state c.args.disk.now).bytes bytes c.requires.gate t)) c.write_synced.ensures.images

pub returns-clause-images : goal.returns-clause-images
returns-clause-images g c =
    let old : List ℕ = (g.D.Disk.state c.args.disk.now).bytes in
    let P : List ℕ → Type 0 = IsBeingLogged c.args.gate c.args.text.now old in
    let first : LeavesOnly (g.D.Disk.state c.args.disk.now) (g.D.Disk.state c.write_synced.new.disk) P =
    weaker (IsTorn (range_of (c.args.gate + 1) c.args.text.now) old) P (g.D.Disk.state c.args.disk.now) (g.D.Disk.state c.write_synced.new.disk)
    (λ bytes t. inl (keeps_gate c.args.gate c.args.text.now old bytes c.requires.gate t)) c.write_synced.ensures.images in
    let rb = record_after c.args.gate c.args.text.now old c.requires.gate in
    let is : (g.D.Disk.state c.write_synced.new.disk).bytes ≡ take c.args.gate old ++ (rb.0 ∷ (c.args.text.now ++ drop (c.args.gate + 1 + length c.args.text.now) old)) = c.in_ok-write_synced.ensures.written ∙ rb.1 in
    let long = length-take-le c.args.gate old (omega (arith, c.requires.gate)) in
    leaves_on P (g.D.Disk.state c.args.disk.now) (g.D.Disk.state c.write_synced.new.disk) (g.D.Disk.state c.write_synced-2.new.disk) first c.write_synced-2.ensures.time
    (weaker (IsTorn (range_of c.args.gate (1 ∷ [])) (g.D.Disk.state c.write_synced.new.disk).bytes) P (g.D.Disk.state c.write_synced.new.disk) (g.D.Disk.state c.write_synced-2.new.disk)
    (λ bytes t.
    let torn = tears_gate c.args.gate rb.0 (take c.args.gate old) c.args.text.now (drop (c.args.gate + 1 + length c.args.text.now) old) bytes long (subst (λ b. IsTorn (range_of c.args.gate (1 ∷ [])) b bytes) is t) in
    inr (torn.0, (torn.1, torn.2))) c.write_synced-2.ensures.images)

pub returns-clause-logged : goal.returns-clause-logged
returns-clause-logged g c =
    let old : List ℕ = (g.D.Disk.state c.args.disk.now).bytes in
    let rb = record_after c.args.gate c.args.text.now old c.requires.gate in
    let is : (g.D.Disk.state c.write_synced.new.disk).bytes ≡ take c.args.gate old ++ (rb.0 ∷ (c.args.text.now ++ drop (c.args.gate + 1 + length c.args.text.now) old)) = c.in_ok-write_synced.ensures.written ∙ rb.1 in
    let long = length-take-le c.args.gate old (omega (arith, c.requires.gate)) in
    on_ok_then c.write_synced-2.result c.write_synced-2.ensures.written
    (λ e. e ∙ ap (λ b. written c.args.gate (1 ∷ []) b) is ∙ gate_opened c.args.gate rb.0 (take c.args.gate old) (c.args.text.now ++ drop (c.args.gate + 1 + length c.args.text.now) old) long)

pub returns-clause-time : goal.returns-clause-time
returns-clause-time g c = goes_on (g.D.Disk.state c.args.disk.now) (g.D.Disk.state c.write_synced.new.disk) (g.D.Disk.state c.write_synced-2.new.disk) c.write_synced.ensures.time c.write_synced-2.ensures.time

pub returns-clause-reliable : goal.returns-clause-reliable
returns-clause-reliable g c = c.write_synced-2.ensures.reliable ∙ c.write_synced.ensures.reliable

pub returns-clause-failed : goal.returns-clause-failed
returns-clause-failed g c = λ h. failed_later (g.D.Disk.state c.args.disk.now) (g.D.Disk.state c.write_synced.new.disk) (g.D.Disk.state c.write_synced-2.new.disk) c.write_synced.ensures.later c.write_synced.ensures.reliable (c.write_synced-2.ensures.failed h)
