-- The record of a new desk.
use Rattle.std.specs.Prelude.{◌≡◌, List, [], ◌∷◌, length, Some, None}
use Rattle.def_machine.specs.Machine.{Machine}
use Rattle.def_machine.specs.Updates.{Update, Session, Settings}
use Rattle.def_machine.specs.Effects.{Entry}
use Rattle.def_machine.specs.Histories.{IsLegal}
use Rattle.def_record.specs.declared.item.Item.TheVariants.{Opened}
use Rattle.def_record.specs.Items.{Record, made}
use Rattle.def_record.specs.declared.item.Mark.TheVariants.{Opening}
use Rattle.def_record.specs.Marks.{entered, record_of}
use Rattle.def_record.specs.Records.{Now, now_of, IsRecord}

-- The opening and the entries that the core had, none of which has a maker.
abbrev pub opening : {M : Machine} → Settings → Session M → List (Entry M) → Record M
opening s S H = made (Opened (s, S) (length H)) None ∷ entered None H

-- The state after the opening.
abbrev pub opened_now : {M : Machine} → Settings → Session M → List (Entry M) → List (Update M) → Now M
opened_now s S H us = record { settings = s; session = S; opening = length H; updates = us; history = H; out = []; given = 0 }

pub record IsOpening (M : Machine) (s : Settings) (S : Session M) (H : List (Entry M)) (us : List (Update M)) : Type 0 where
  -- one mark stands for it
  pub mark : record_of (s, S) (made (Opening (length H)) None ∷ []) H ≡ opening s S H
  pub is : IsRecord (opening s S H)
  pub now : now_of (opening s S H) ≡ Some (opened_now s S H us)

-- This holds over every core.
abbrev pub OpeningLaw : Machine → Type 0
OpeningLaw M = (s : Settings) (S : Session M) (H : List (Entry M)) (us : List (Update M)) → IsLegal M s S H us → IsOpening M s S H us
