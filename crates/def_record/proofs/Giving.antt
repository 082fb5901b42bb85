-- A ticket that is out was given once, at the state that its stamp tells.
use Rattle.std.proofs.Common.{◌≡◌, ◌⊎◌, inl, inr, ⊎_elim, ℕ, suc, sym, refl, ap, subst, ◌∙◌, arith, ◌+◌, List, [], ◌∷◌, ◌++◌, append_assoc, take, drop, length, length-append, Option, Some, None, Bool, true, false, ◌&&◌, ◌==◌, not}
use Rattle.std.specs.Prelude.{if◌then◌else◌, option_map}
use Rattle.std.proofs.lemmas.Bool.{both_ways, and_parts}
use Rattle.std.proofs.lemmas.Option.{none-some, same_Some}
use Rattle.def_record.specs.declared.made.Made.{Made}
use Rattle.def_machine.specs.Machine.{Machine, Laws}
use Rattle.def_machine.specs.Updates.{Session, Settings, committed}
use Rattle.def_machine.specs.Standings.{standing, is_ready}
use Rattle.def_machine.specs.Effects.{Entry, Admitted, Stepped, Delivered, Answered, Withdrew}
use Rattle.def_machine.specs.Histories.{IsLegal}
use Rattle.def_record.specs.declared.item.Item.TheVariants.{Opened, Entered, Gave, Returned}
use Rattle.def_record.specs.Items.{ItemOf, Record, made, entries_in}
use Rattle.def_record.specs.Tickets.{Ticket, ticket_of, in_flight, without, with_step, using, tickets_after}
use Rattle.def_record.specs.Records.{Now, IsOpen, lowest_free, next_ticket, moved, after_items, opened_by, now_of, AllFollow, IsRecord}
use Rattle.def_history.specs.Spares.{AllSpare}
use Rattle.def_record.specs.Stays.{IsOut}
use Rattle.def_record.specs.Given.{StandsFor, GivenLaw}
use Rattle.def_record.proofs.Follows.{follow_split, after_join, record_split, record_first, history_after, open_moved}
use Rattle.def_record.proofs.Lowest.{lowest_passes}
use Rattle.def_record.proofs.Calling.{given_now, free_is}
use Rattle.def_record.proofs.Legality.{record_law}
use Rattle.def_record.proofs.Holding.{held_law}
use Rattle.def_record.proofs.Ending.{keeps_items}

take_first : {A : Type 0} (xs ys : List A) → take (length xs) (xs ++ ys) ≡ xs
take_first [] ys = refl
take_first (x ∷ xs) ys = ap (λ l. x ∷ l) (take_first xs ys)

drop_first : {A : Type 0} (xs ys : List A) → drop (length xs) (xs ++ ys) ≡ ys
drop_first [] ys = refl
drop_first (x ∷ xs) ys = drop_first xs ys

module _ (t : Ticket) where
  -- the ticket is one of these
  abbrev pub Among : List Ticket → Type 0
  Among [] = ⊥
  Among (x ∷ ts) = (x ≡ t) ⊎ Among ts

  among : (u : ℕ) (ts : List Ticket) → ticket_of u ts ≡ Some t → Among ts
  among u [] h = absurd (none-some t h)
  among u (x ∷ ts) h = by (x.update == u) h (among u ts)
    where
      by : (b : Bool) → (if b then Some x else ticket_of u ts) ≡ Some t → (ticket_of u ts ≡ Some t → Among ts) → (x ≡ t) ⊎ Among ts
      by true e k = inl (same_Some x t e)
      by false e k = inr (k e)

  unused_before : t.used ≡ false → (v j : ℕ) (ts : List Ticket) → Among (using v j ts) → Among ts
  unused_before free v j [] h = h
  unused_before free v j (x ∷ ts) h = by ((x.update == v) && (x.maker == j)) h (unused_before free v j ts)
    where
      by : (b : Bool) → ((if b then with_step x else x) ≡ t) ⊎ Among (using v j ts) → (Among (using v j ts) → Among ts) → (x ≡ t) ⊎ Among ts
      by true h k = ⊎_elim (λ (e : with_step x ≡ t). absurd (both_ways t.used free (sym (ap (λ (y : Ticket). y.used) e)))) (λ (a : Among (using v j ts)). inr (k a)) h
      by false h k = ⊎_elim (λ (e : x ≡ t). inl e) (λ (a : Among (using v j ts)). inr (k a)) h

  out_before : (n j : ℕ) (ts : List Ticket) → Among (without n j ts) → Among ts
  out_before n j [] h = h
  out_before n j (x ∷ ts) h = by ((x.number == n) && (x.maker == j)) h (out_before n j ts)
    where
      by : (b : Bool) → Among (if b then without n j ts else x ∷ without n j ts) → (Among (without n j ts) → Among ts) → (x ≡ t) ⊎ Among ts
      by true h k = inr (k h)
      by false h k = ⊎_elim (λ (e : x ≡ t). inl e) (λ (a : Among (without n j ts)). inr (k a)) h

  last_out : (ts : List Ticket) (r : Ticket) → Among (ts ++ r ∷ []) → Among ts ⊎ (r ≡ t)
  last_out [] r h = ⊎_elim (λ (e : r ≡ t). inr e) (λ (a : ⊥). absurd a) h
  last_out (x ∷ ts) r h =
      ⊎_elim (λ (e : x ≡ t). inl (inl e)) (λ (a : Among (ts ++ r ∷ [])). ⊎_elim (λ (b : Among ts). inl (inr b)) (λ (e : r ≡ t). inr e) (last_out ts r a)) h

  module _ {M : Machine} where
    before_entry : t.used ≡ false → (j : ℕ) (e : Entry M) (ts : List Ticket) → Among (tickets_after j e ts) → Among ts
    before_entry free j (Admitted i) ts h = h
    before_entry free j (Stepped d) ts h = unused_before free d.update j ts h
    before_entry free j (Delivered i s) ts h = h
    before_entry free j (Answered i c s) ts h = h
    before_entry free j (Withdrew i cs n) ts h = h

    -- the item by which the ticket is given
    abbrev gift : ItemOf M
    gift = Gave t.number t.update

    pub record IsGift (n : Now M) (x : ItemOf M) (maker : Option ℕ) : Type 0 where
      pub item : x ≡ gift
      pub maker_is : maker ≡ Some t.maker
      pub now : t ≡ next_ticket n t.number t.update t.maker

    back_item : t.used ≡ false → (n : Now M) (x : ItemOf M) (maker : Option ℕ) → Among (moved n x maker).out → Among n.out ⊎ IsGift n x maker
    back_item free n (Opened w k) maker h = inl h
    back_item free n (Entered e) None h = inl h
    back_item free n (Entered e) (Some j) h = inl (before_entry free j e n.out h)
    back_item free n (Gave number u) None h = inl h
    back_item free n (Gave number u) (Some j) h =
        ⊎_elim (λ (a : Among n.out). inl a)
        (λ (e : next_ticket n number u j ≡ t). inr (record {
          item = λ i. Gave (e i).number (e i).update;
          maker_is = λ i. Some (e i).maker;
          now = sym e ∙ (λ i. next_ticket n (e i).number (e i).update (e i).maker);
        }))
        (last_out n.out (next_ticket n number u j) h)
    back_item free n (Returned number) None h = inl h
    back_item free n (Returned number) (Some j) h = inl (out_before number j n.out h)

    -- the items up to the gift, and those after it
    pub record WasGiven (n : Now M) (is : Record M) : Type 0 where
      pub before : Record M
      pub rest : Record M
      pub parts : is ≡ before ++ made gift (Some t.maker) ∷ rest
      pub now : t ≡ next_ticket (after_items n before) t.number t.update t.maker

    back_items : t.used ≡ false → (n : Now M) (is : Record M) → Among (after_items n is).out → Among n.out ⊎ WasGiven n is
    back_items free n [] h = inl h
    back_items free n (i ∷ is) h =
        ⊎_elim
        (λ (a : Among (moved n i.entry i.maker).out). ⊎_elim (λ (b : Among n.out). inl b)
        (λ (g : IsGift n i.entry i.maker). inr (record { before = []; rest = is; parts = λ k. made (g.item k) (g.maker_is k) ∷ is; now = g.now }))
        (back_item free n i.entry i.maker a))
        (λ (w : WasGiven (moved n i.entry i.maker) is). inr (record { before = i ∷ w.before; rest = w.rest; parts = ap (λ (r : Record M). i ∷ r) w.parts; now = w.now }))
        (back_items free (moved n i.entry i.maker) is h)

    none_opened : (x : ItemOf M) (n : Now M) → opened_by x ≡ Some n → Among n.out → ⊥
    none_opened (Opened w k) n e h = subst (λ (m : Now M). Among m.out → ⊥) (same_Some _ _ e) (λ a. a) h
    none_opened (Entered d) n e h = none-some n e
    none_opened (Gave v u) n e h = none-some n e
    none_opened (Returned v) n e h = none-some n e

module _ (M : Machine) (L : Laws M) (t : Ticket) (free : t.used ≡ false) where
  -- a record in which the ticket was given at some item
  stands : (i : Made (ItemOf M)) (is : Record M) (n : Now M) (rec : IsRecord (i ∷ is)) → now_of (i ∷ is) ≡ Some n → IsOut t n → WasGiven t rec.0 is → StandsFor M n t
  stands i is n rec left out w =
      let b : Now M = after_items rec.0 w.before in
      let y : Made (ItemOf M) = made (Gave t.number t.update) (Some t.maker) in
      let head : Record M = i ∷ (w.before ++ y ∷ []) in
      let m : Now M = moved b (Gave t.number t.update) (Some t.maker) in
      let whole : head ++ w.rest ≡ i ∷ is = ap (λ (r : Record M). i ∷ r) (append_assoc w.before (y ∷ []) w.rest ∙ sym w.parts) in
      let rec_parts : IsRecord (head ++ w.rest) = subst (λ (r : Record M). IsRecord r) (sym whole) rec in
      let left_head : now_of head ≡ Some m = ap (option_map (λ (k : Now M). after_items k (w.before ++ y ∷ []))) rec.1 ∙ ap Some (after_join rec.0 w.before (y ∷ [])) in
      let f = (follow_split rec.0 w.before (y ∷ w.rest) (subst (λ (r : Record M). AllFollow rec.0 r) w.parts rec.3)).1 in
      let open_b : IsOpen b = f.0.0 in
      let open_m : IsOpen m = open_moved b (Gave t.number t.update) (Some t.maker) open_b in
      let lowest : lowest_free b ≡ Some t.update = f.0.2 in
      let out_m : IsOut t m = given_now t.update (next_ticket b t.number t.update t.maker) b.out refl (free_is M L b open_b t.update lowest) ∙ ap Some (sym w.now) in
      let split = record_split head w.rest m rec_parts left_head in
      let same : after_items m w.rest ≡ n = same_Some _ _ (sym split.1 ∙ (ap now_of whole ∙ left)) in
      let end : IsOut t (after_items m w.rest) = subst (λ (k : Now M). IsOut t k) (sym same) out in
      let kept = keeps_items L m w.rest open_m split.0 in
      let history : n.history ≡ b.history ++ entries_in w.rest = ap (λ (k : Now M). k.history) (sym same) ∙ history_after m w.rest in
      let settings : n.settings ≡ b.settings = ap (λ (k : Now M). k.settings) (sym same) ∙ kept.settings in
      let session : n.session ≡ b.session = ap (λ (k : Now M). k.session) (sym same) ∙ kept.session in
      let stamp : t.stamp ≡ length b.history = ap (λ (x : Ticket). x.stamp) w.now in
      let first : take t.stamp n.history ≡ b.history = (λ k. take (stamp k) (history k)) ∙ take_first b.history (entries_in w.rest) in
      let later : drop t.stamp n.history ≡ entries_in w.rest = (λ k. drop (stamp k) (history k)) ∙ drop_first b.history (entries_in w.rest) in
      let legal : IsLegal M b.settings b.session b.history b.updates = record_law M L head m (record_first head w.rest m rec_parts left_head) left_head in
      let p = lowest_passes M (λ j v. is_ready (standing M b.settings (committed M b.updates) j v) && not (in_flight j b.out)) 1 b.updates t.update lowest in
      let number : t.update ≡ suc p.place = omega (arith, p.number) in
      let ready : is_ready (standing M b.settings (committed M b.updates) t.update p.update) ≡ true = (and_parts _ _ p.passes).0 in
      let longer : length n.history ≡ length b.history + length (entries_in w.rest) = ap length history ∙ length-append b.history (entries_in w.rest) in
      record {
        stamped = omega (arith, stamp, longer);
        updates = b.updates;
        legal = subst (λ (k : Settings × Session M × List (Entry M)). IsLegal M k.0 k.1 k.2 b.updates) (λ k. (sym settings k, sym session k, sym first k)) legal;
        place = p.place;
        number = number;
        update = p.update;
        there = p.there;
        ready = (λ k. is_ready (standing M (settings k) (committed M b.updates) (sym number k) p.update)) ∙ ready;
        spared = subst (λ (es : List (Entry M)). AllSpare t.update es) (sym later) (held_law M L head w.rest m t rec_parts left_head open_m out_m free end);
      }

pub given_law : (M : Machine) → Laws M → GivenLaw M
given_law M L [] n t rec left out free = absurd rec
given_law M L (i ∷ is) n t rec left out free =
    let same : after_items rec.0 is ≡ n = same_Some _ _ (ap (option_map (λ (k : Now M). after_items k is)) (sym rec.1) ∙ left) in
    let here : Among t (after_items rec.0 is).out = subst (λ (k : Now M). Among t k.out) (sym same) (among t t.update n.out out) in
    ⊎_elim (λ (a : Among t rec.0.out). absurd (none_opened t i.entry rec.0 rec.1 a)) (λ (w : WasGiven t rec.0 is). stands M L t free i is n rec left out w) (back_items t free rec.0 is here)
