use Rattle.std.proofs.Common.{◌≡◌, ◌++◌, ◌∷◌, [], ◌∙◌, sym, subst}
use Rattle.base_devices.specs.States.{State}
use Rattle.base_roll.specs.Rolls.{IsAt}
use Rattle.ws_seal.specs.Seals.{payloads, sealed}
use Rattle.ws_seal.proofs.Appending.{appending, appended}
use Rattle.ws_seal.proofs.logs.Log.append.Goals as goal

pub returns-in_err-next-clause-images : goal.returns-in_err-next-clause-images
returns-in_err-next-clause-images g c = λ before m texts held.
    let old : State = g.D.Disk.state c.args.self.now.disk in
    let new : State = g.D.Disk.state c.append.new.disk in
    let at : IsAt before (payloads m texts) old c.with_gate_at-roll.result = subst (λ h. IsAt before (payloads m texts) old h) (sym c.with_gate_at-roll.ensures) held.at in
    let is : c.deref.result.now ≡ sealed c.args.self.now.mark.digits c.args.text.now = c.deref.ensures.value ∙ c.in_ok-payload.ensures.payload in
    appending before m texts c.args.self.now.mark.digits c.args.text.now c.deref.result.now held.mark_is is old new (c.append.ensures.images before (payloads m texts) at)

pub returns-clause-images : goal.returns-clause-images
returns-clause-images g c = λ before m texts held.
    let old : State = g.D.Disk.state c.args.self.now.disk in
    let new : State = g.D.Disk.state c.append.new.disk in
    let at : IsAt before (payloads m texts) old c.with_gate_at-roll.result = subst (λ h. IsAt before (payloads m texts) old h) (sym c.with_gate_at-roll.ensures) held.at in
    let is : c.deref.result.now ≡ sealed c.args.self.now.mark.digits c.args.text.now = c.deref.ensures.value ∙ c.in_ok-payload.ensures.payload in
    appending before m texts c.args.self.now.mark.digits c.args.text.now c.deref.result.now held.mark_is is old new (c.append.ensures.images before (payloads m texts) at)

pub returns-clause-acknowledged : goal.returns-clause-acknowledged
returns-clause-acknowledged g c = λ before m texts held.
    let old : State = g.D.Disk.state c.args.self.now.disk in
    let new : State = g.D.Disk.state c.append.new.disk in
    let at : IsAt before (payloads m texts) old c.with_gate_at-roll.result = subst (λ h. IsAt before (payloads m texts) old h) (sym c.with_gate_at-roll.ensures) held.at in
    let is : c.deref.result.now ≡ sealed c.args.self.now.mark.digits c.args.text.now = c.deref.ensures.value ∙ c.in_ok-payload.ensures.payload in
    appended before m texts c.args.self.now.mark.digits c.args.text.now c.deref.result.now held.mark_is is new c.gate-self.result c.in_ok-payload.mark.digits c.in_ok-payload.ensures.marked
    (subst (λ n. IsAt before (payloads m texts ++ c.deref.result.now ∷ []) new record { gate = n }) (sym c.gate-self.ensures) (c.in_ok-next.ensures.acknowledged before (payloads m texts) at))

pub returns-clause-hand : goal.returns-clause-hand
returns-clause-hand g c =
    let before = c.requires.hand.0 in
    let held = c.requires.hand.1 in
    let new : State = g.D.Disk.state c.append.new.disk in
    let at : IsAt before held (g.D.Disk.state c.args.self.now.disk) c.with_gate_at-roll.result = subst (λ h. IsAt before held (g.D.Disk.state c.args.self.now.disk) h) (sym c.with_gate_at-roll.ensures) c.requires.hand.2 in (
      before,
      held ++ c.deref.result.now ∷ [],
      subst (λ n. IsAt before (held ++ c.deref.result.now ∷ []) new record { gate = n }) (sym c.gate-self.ensures) (c.in_ok-next.ensures.acknowledged before held at),
    )
