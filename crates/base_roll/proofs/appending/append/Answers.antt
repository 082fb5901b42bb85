use Rattle.std.proofs.Common.{◌≡◌, ◌+◌, ◌∙◌, ◌<◌, ◌^◌, subst, ◌++◌, ◌∷◌, [], ap, sym, length, arith}
use Rattle.base_devices.specs.States.{State}
use Rattle.base_roll.specs.Format.{framed}
use Rattle.base_roll.specs.Rolls.{Hold, IsAt}
use Rattle.base_roll.proofs.Onwards.{unmoved, appending, appended, appended_text}
use Rattle.base_roll.proofs.appending.append.Goals as goal

pub returns-in_default-clause-images : goal.returns-in_default-clause-images
returns-in_default-clause-images g c = λ before payloads at. unmoved before (g.D.Disk.state c.args.disk.now) payloads c.args.payload.now c.args.roll at

pub returns-in-Err-clause-images : goal.returns-in-Err-clause-images
returns-in-Err-clause-images g c = λ before payloads at. unmoved before (g.D.Disk.state c.args.disk.now) payloads c.args.payload.now c.args.roll at

pub returns-in-Ok-log_record-clause-images : goal.returns-in-Ok-log_record-clause-images
returns-in-Ok-log_record-clause-images g c = λ before payloads at.
    let old : State = g.D.Disk.state c.args.disk.now in
    let hold : Hold = record { gate = c.roll.inside.gate } in
    let here : IsAt before payloads old hold = subst (IsAt before payloads old) (sym c.roll.view_is) at in
    let text : c.deref.result.now ≡ framed c.args.payload.now ++ (0 ∷ []) = c.deref.ensures.value ∙ c.in-Ok.ensures in
    let one : length c.args.payload.now < 2 ^ 32 = let fits = c.in-Some.ensures.some.1 in omega arith in
    appending before old (g.D.Disk.state c.log_record.new.disk) payloads c.args.payload.now c.deref.result.now hold here one text c.log_record.ensures.time c.log_record.ensures.images

pub returns-in-Err-Failed-clause-images : goal.returns-in-Err-Failed-clause-images
returns-in-Err-Failed-clause-images g c = λ before payloads at.
    let old : State = g.D.Disk.state c.args.disk.now in
    let hold : Hold = record { gate = c.roll.inside.gate } in
    let here : IsAt before payloads old hold = subst (IsAt before payloads old) (sym c.roll.view_is) at in
    let text : c.deref.result.now ≡ framed c.args.payload.now ++ (0 ∷ []) = c.deref.ensures.value ∙ c.in-Ok.ensures in
    let one : length c.args.payload.now < 2 ^ 32 = let fits = c.in-Some.ensures.some.1 in omega arith in
    appending before old (g.D.Disk.state c.log_record.new.disk) payloads c.args.payload.now c.deref.result.now hold here one text c.log_record.ensures.time c.log_record.ensures.images

pub returns-clause-images : goal.returns-clause-images
returns-clause-images g c = λ before payloads at.
    let old : State = g.D.Disk.state c.args.disk.now in
    let hold : Hold = record { gate = c.roll.inside.gate } in
    let here : IsAt before payloads old hold = subst (IsAt before payloads old) (sym c.roll.view_is) at in
    let text : c.deref.result.now ≡ framed c.args.payload.now ++ (0 ∷ []) = c.deref.ensures.value ∙ c.in-Ok.ensures in
    let one : length c.args.payload.now < 2 ^ 32 = let fits = c.in-Some.ensures.some.1 in omega arith in
    appending before old (g.D.Disk.state c.log_record.new.disk) payloads c.args.payload.now c.deref.result.now hold here one text c.log_record.ensures.time c.log_record.ensures.images

pub returns-in-Ok-log_record-clause-acknowledged : goal.returns-in-Ok-log_record-clause-acknowledged
returns-in-Ok-log_record-clause-acknowledged g c = λ before payloads at.
    let old : State = g.D.Disk.state c.args.disk.now in
    let hold : Hold = record { gate = c.roll.inside.gate } in
    let here : IsAt before payloads old hold = subst (IsAt before payloads old) (sym c.roll.view_is) at in
    let text : c.deref.result.now ≡ framed c.args.payload.now ++ (0 ∷ []) = c.deref.ensures.value ∙ c.in-Ok.ensures in
    let one : length c.args.payload.now < 2 ^ 32 = let fits = c.in-Some.ensures.some.1 in omega arith in
    appended before old (g.D.Disk.state c.log_record.new.disk) _ payloads c.args.payload.now c.deref.result.now hold here one text
    c.in-Ok-log_record.ensures.lasts c.in-Ok-log_record.ensures.logged (c.in-Some.ensures.some.0 ∙ ap (λ (h : Hold). h.gate + length c.args.payload.now + 5) (sym c.roll.view_is))

pub returns-in-Ok-log_record-clause-bytes : goal.returns-in-Ok-log_record-clause-bytes
returns-in-Ok-log_record-clause-bytes g c = λ before payloads at whole.
    let old : State = g.D.Disk.state c.args.disk.now in
    let hold : Hold = record { gate = c.roll.inside.gate } in
    let here : IsAt before payloads old hold = subst (IsAt before payloads old) (sym c.roll.view_is) at in
    let text : c.deref.result.now ≡ framed c.args.payload.now ++ (0 ∷ []) = c.deref.ensures.value ∙ c.in-Ok.ensures in
    appended_text before old (g.D.Disk.state c.log_record.new.disk) payloads c.args.payload.now c.deref.result.now hold here text whole c.in-Ok-log_record.ensures.logged
