use Rattle.std.proofs.Common.{◌∙◌, ap, Ok, Err}
use Rattle.work_lock.specs.Seats.{Place, seen_of}
use Rattle.work_desk.specs.declared.tickets.Next.TheVariants as next
use Rattle.work_desk.proofs.Passing.{saw_over}
use Rattle.work_desk.proofs.Counting.{turn_prefix, next_held, quiet_rests}
use Rattle.work_desk.proofs.desk.Desk.ask.Goals as goal

pub returns-in-Ok-Ticket-clause-holds : goal.returns-in-Ok-Ticket-clause-holds
returns-in-Ok-Ticket-clause-holds g c = record {
  place = c.next.ensures.place;
  seen = (let a = c.next.ensures.next in turn_prefix _ _ _ _ a.others _ _ a.then.adds);
  held = next_held _ _ _ c.next.result (Ok (next.Ticket c.in-Ok-Ticket.ticket)) _ _ (ap (λ (z : Place). z.number) c.next.ensures.place) (c.in-Ok-Ticket.is ∙ ap Ok c.in-Ok-Ticket.field-0-is) c.next.ensures.next;
}

pub returns-in-Ok-Delivered-clause-holds : goal.returns-in-Ok-Delivered-clause-holds
returns-in-Ok-Delivered-clause-holds g c = record {
  place = c.next.ensures.place;
  seen = (let a = c.next.ensures.next in turn_prefix _ _ _ _ a.others _ _ a.then.adds);
  held = next_held _ _ _ c.next.result (Ok (next.Delivered c.in-Ok-Delivered.field-0-0)) _ _ (ap (λ (z : Place). z.number) c.next.ensures.place) (c.in-Ok-Delivered.is ∙ ap Ok c.in-Ok-Delivered.field-0-is) c.next.ensures.next;
}

pub returns-in-Ok-Idle-clause-holds : goal.returns-in-Ok-Idle-clause-holds
returns-in-Ok-Idle-clause-holds g c = record {
  place = c.next.ensures.place;
  seen = (let a = c.next.ensures.next in turn_prefix _ _ _ _ a.others _ _ a.then.adds);
  held = next_held _ _ _ c.next.result (Ok (next.Idle c.in-Ok-Idle.field-0-0)) _ _ (ap (λ (z : Place). z.number) c.next.ensures.place) (c.in-Ok-Idle.is ∙ ap Ok c.in-Ok-Idle.field-0-is) c.next.ensures.next;
}

pub returns-in-Ok-Quiet-clause-holds : goal.returns-in-Ok-Quiet-clause-holds
returns-in-Ok-Quiet-clause-holds g c = record {
  place = c.next.ensures.place;
  seen = (let a = c.next.ensures.next in turn_prefix _ _ _ _ a.others _ _ a.then.adds);
  held = next_held _ _ _ c.next.result (Ok next.Quiet) _ _ (ap (λ (z : Place). z.number) c.next.ensures.place) (c.in-Ok-Quiet.is ∙ ap Ok c.in-Ok-Quiet.field-0-is) c.next.ensures.next;
}

pub returns-in-Ok-Quiet-clause-quiet : goal.returns-in-Ok-Quiet-clause-quiet
returns-in-Ok-Quiet-clause-quiet g c =
    let own = c.next.ensures.own in
    quiet_rests _ _ c.next.result _ c.next.new.seat (c.in-Ok-Quiet.is ∙ ap Ok c.in-Ok-Quiet.field-0-is) (saw_over _ _ own.later (seen_of c.next.new.seat) own.saw) c.next.ensures.next

pub returns-in-Err-clause-holds : goal.returns-in-Err-clause-holds
returns-in-Err-clause-holds g c = record {
  place = c.next.ensures.place;
  seen = (let a = c.next.ensures.next in turn_prefix _ _ _ _ a.others _ _ a.then.adds);
  held = next_held _ _ _ c.next.result (Err _) _ _ (ap (λ (z : Place). z.number) c.next.ensures.place) c.in-Err.is c.next.ensures.next;
}
