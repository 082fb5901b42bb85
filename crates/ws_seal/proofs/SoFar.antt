-- What has been read of a log's bytes, text by text.
use Rattle.std.specs.Prelude.{Result, Ok, Err}
use Rattle.std.proofs.Common.{◌≡◌, ℕ, suc, ◌+◌, ◌-◌, ◌<◌, ◌≤◌, ◌^◌, ◌⊎◌, inl, inr, ap, refl, ◌∙◌, sym, subst, List, [], ◌∷◌, ◌++◌, length, take, drop, arith, append_assoc, append-nil, length-append}
use Rattle.std.proofs.Math.Seq.{take-append_seam}
use Rattle.std.proofs.lemmas.List.{take-append-drop}
use Rattle.base_devices.specs.States.{State}
use Rattle.base_roll.specs.Format.{framed, opened, front}
use Rattle.base_roll.specs.Rolls.{BeginsWith, IsBroken, gate_of}
use Rattle.base_roll.proofs.Frames.{length_framed}
use Rattle.base_roll.proofs.Fronts.{begins_more}
use Rattle.ws_seal.specs.declared.types.Texts.{Texts}
use Rattle.ws_seal.specs.declared.types.Damage.TheVariants.{At, NotAsWritten}
use Rattle.ws_seal.specs.declared.types.ReadFault.{ReadFault}
use Rattle.ws_seal.specs.declared.types.ReadFault.TheVariants as reading
use Rattle.ws_seal.specs.Seals.{mark, sealed, payloads, last_mark, HasNoSeal}
use Rattle.ws_seal.specs.Logs.{opening, IsLogRead, IsHidden, IsHiddenAfter, IsRead, BreaksAt, IsForgedAt}
use Rattle.ws_seal.specs.Answers.{texts_of, GateTold, AfterTold, TailTold, LogTold, DiskTold}
use Rattle.ws_seal.proofs.Sealing.{payloads_more, last_more}

-- after the first bytes so many texts were read, sealed after the mark m, and the rest is to come
pub record IsSoFar (before m : List ℕ) (earlier texts : List (List ℕ)) (bytes rest last : List ℕ) : Type 0 where
  pub later : List (List ℕ)
  pub texts_are : texts ≡ earlier ++ later
  pub begins : BeginsWith before (payloads m later) bytes rest
  pub mark_is : last ≡ last_mark m later

pub begun : (start : ℕ) (m : List ℕ) (texts : List (List ℕ)) (bytes rest : List ℕ) → rest ≡ drop start bytes → IsSoFar (take start bytes) m texts texts bytes rest m
begun start m texts bytes rest e = record {
  later = [];
  texts_are = sym (append-nil texts);
  begins = record {
    short = tt;
    bytes = sym (take-append-drop start bytes) ∙ ap (λ xs. take start bytes ++ xs) (sym e) ∙ ap (λ xs. xs ++ rest) (sym (append-nil (take start bytes)));
  };
  mark_is = refl;
}

module _ (before m : List ℕ) (earlier texts : List (List ℕ)) (bytes rest last : List ℕ) (so : IsSoFar before m earlier texts bytes rest last) where
  -- a record whose payload begins with the mark that it ought to have
  pub more_read : (after payload text next more : List ℕ) (others : List (List ℕ)) → rest ≡ 1 ∷ after → after ≡ framed payload ++ more → length payload < 2 ^ 32
      → payload ≡ sealed last text → next ≡ mark last text → others ≡ texts ++ text ∷ [] → IsSoFar before m earlier others bytes more next
  more_read after payload text next more others e split small is marked kept =
      let there : rest ≡ opened payload ++ more = e ∙ ap (λ xs. 1 ∷ xs) split in
      let one : payload ≡ sealed (last_mark m so.later) text = is ∙ ap (λ x. sealed x text) so.mark_is in
      let longer : payloads m so.later ++ payload ∷ [] ≡ payloads m (so.later ++ text ∷ []) = ap (λ x. payloads m so.later ++ x ∷ []) one ∙ sym (payloads_more m so.later text) in
      record {
        later = so.later ++ text ∷ [];
        texts_are = kept ∙ ap (λ xs. xs ++ text ∷ []) so.texts_are ∙ append_assoc earlier so.later (text ∷ []);
        begins = subst (λ ps. BeginsWith before ps bytes more) longer
            (begins_more before bytes (payloads m so.later) payload more small (record { short = so.begins.short; bytes = so.begins.bytes ∙ ap (λ xs. front before (payloads m so.later) ++ xs) there }));
        mark_is = marked ∙ ap (λ x. mark x text) so.mark_is ∙ sym (last_more m so.later text);
      }

  gate_there : length bytes - length rest ≡ gate_of before (payloads m so.later)
  gate_there = omega (arith, ap length so.begins.bytes, length-append (front before (payloads m so.later)) rest)

  pub rest_within : length rest ≤ length bytes
  rest_within = omega (arith, ap length so.begins.bytes, length-append (front before (payloads m so.later)) rest)

  pub breaks : (place : ℕ) → place ≡ length bytes - length rest → IsBroken rest ⊎ IsHidden last rest → BreaksAt before m bytes place
  breaks place e (inl broken) = record { texts = so.later; rest = rest; begins = so.begins; place_is = e ∙ gate_there; broken = inl broken }
  breaks place e (inr hidden) = record { texts = so.later; rest = rest; begins = so.begins; place_is = e ∙ gate_there; broken = inr (subst (λ x. IsHidden x rest) so.mark_is hidden) }

  pub forged : (number : ℕ) (after payload more : List ℕ) → number ≡ length texts → rest ≡ 1 ∷ after → after ≡ framed payload ++ more → length payload < 2 ^ 32 → HasNoSeal last payload
      → (k : ℕ) × (number ≡ length earlier + k) × IsForgedAt before m bytes k
  forged number after payload more is e split small unsealed = (
    length so.later,
    is ∙ ap (λ (ts : List (List ℕ)). length ts) so.texts_are ∙ length-append earlier so.later,
    record {
      texts = so.later;
      payload = payload;
      rest = more;
      begins = record { short = so.begins.short; bytes = so.begins.bytes ∙ ap (λ xs. front before (payloads m so.later) ++ xs) (e ∙ ap (λ xs. 1 ∷ xs) split) };
      short = small;
      number_is = refl;
      unsealed = subst (λ x. HasNoSeal x payload) so.mark_is unsealed;
    },
  )

  same_byte : (x y : ℕ) (xs ys : List ℕ) → x ∷ xs ≡ y ∷ ys → xs ≡ ys
  same_byte x y xs ys e = cc

  pub at_closed : (byte gate : ℕ) (after : List ℕ) → rest ≡ byte ∷ after → (byte ≡ 1 → ⊥) → gate ≡ length bytes - length rest → (r : Result Texts ReadFault) → GateTold last after texts gate r
      → AfterTold before m earlier bytes r
  at_closed byte gate after e off place (Ok r) (same, at, marked, free) = (
    so.later,
    same ∙ so.texts_are,
    record {
      rest = rest;
      begins = so.begins;
      closed = (byte, after, e, off);
      not_hidden = λ (g, others, is, shut, hidden). free (subst (λ x. IsHiddenAfter x after) (sym so.mark_is) (subst (λ b. IsHiddenAfter (last_mark m so.later) b) (sym (same_byte byte g after others (sym e ∙ is))) hidden));
      gate_is = at ∙ place ∙ gate_there;
      mark_is = marked ∙ so.mark_is;
    },
  )
  at_closed byte gate after e off place (Err reading.DiskFault) h = absurd h
  at_closed byte gate after e off place (Err (reading.Damaged (At there))) (is, hidden) = breaks there (is ∙ place) (inr (byte, after, e, off, hidden))
  at_closed byte gate after e off place (Err (reading.Damaged (NotAsWritten number))) h = absurd h
  at_closed byte gate after e off place (Err reading.Memory) h = absurd h

-- ---- of the whole

pub tail_told : (m bytes : List ℕ) (r : Result Texts ReadFault) → AfterTold [] m [] bytes r → TailTold m bytes r
tail_told m bytes (Ok r) (texts, is, read) = subst (λ ts. IsRead [] m bytes ts r.gate r.mark.digits) (sym is) read
tail_told m bytes (Err reading.DiskFault) h = h
tail_told m bytes (Err (reading.Damaged (At place))) h = h
tail_told m bytes (Err (reading.Damaged (NotAsWritten number))) (k, is, forged) = let same : k ≡ number = omega arith in subst (λ n. IsForgedAt [] m bytes n) same forged
tail_told m bytes (Err reading.Memory) h = h

-- what stands before the place after the frame of the head
pub before_head : (bytes payload after head : List ℕ) (start : ℕ) → bytes ≡ framed payload ++ after → payload ≡ sealed [] head → start ≡ length payload + 4 → take start bytes ≡ opening head
before_head bytes payload after head start e is at =
    let long : start ≡ length (framed payload) = omega (arith, length_framed payload) in
    ap (take start) e ∙ ap (λ n. take n (framed payload ++ after)) long ∙ take-append_seam (framed payload) after ∙ ap framed is

pub head_within : (bytes payload after : List ℕ) → bytes ≡ framed payload ++ after → length payload + 4 ≤ length bytes
head_within bytes payload after e = omega (arith, ap length e, length-append (framed payload) after, length_framed payload)

pub log_told : (bytes payload after head before m : List ℕ) (texts : List (List ℕ)) → length payload < 2 ^ 32 → payload ≡ sealed [] head → before ≡ opening head → m ≡ mark [] head → texts ≡ head ∷ []
    → (r : Result Texts ReadFault) → AfterTold before m texts bytes r → LogTold bytes r
log_told bytes payload after head before m texts small is b e t (Ok r) (later, these, read) =
    let all : texts_of r ≡ head ∷ later = these ∙ ap (λ ts. ts ++ later) t in
    let here : IsRead (opening head) (mark [] head) bytes later r.gate r.mark.digits = subst (λ x. IsRead (opening head) x bytes later r.gate r.mark.digits) e (subst (λ x. IsRead x m bytes later r.gate r.mark.digits) b read) in
    let short : length (sealed [] head) < 2 ^ 32 = subst (λ (p : List ℕ). length p < 2 ^ 32) is small in
    subst (λ ts. IsLogRead bytes ts r.gate r.mark.digits) (sym all) (short, here)
log_told bytes payload after head before m texts small is b e t (Err reading.DiskFault) h = h
log_told bytes payload after head before m texts small is b e t (Err (reading.Damaged (At place))) h =
    inr (head, subst (λ x. BreaksAt (opening head) x bytes place) e (subst (λ x. BreaksAt x m bytes place) b h))
log_told bytes payload after head before m texts small is b e t (Err (reading.Damaged (NotAsWritten number))) (k, at, h) =
    let one : length texts ≡ 1 = ap (λ (ts : List (List ℕ)). length ts) t in
    let next : number ≡ suc k = omega arith in
    inr (head, k, next, subst (λ x. IsForgedAt (opening head) x bytes k) e (subst (λ x. IsForgedAt x m bytes k) b h))
log_told bytes payload after head before m texts small is b e t (Err reading.Memory) h = h

-- what is told of the bytes that a disk gave is told of the disk
pub told_of_disk : (told : List ℕ → Result Texts ReadFault → Type 0) → ((bytes : List ℕ) → told bytes (Err reading.DiskFault) → ⊥) → (before now : State) (bytes : List ℕ) → bytes ≡ before.bytes
    → (r : Result Texts ReadFault) → told bytes r → DiskTold told before now r
told_of_disk told never before now bytes e (Ok r) h = subst (λ b. told b (Ok r)) e h
told_of_disk told never before now bytes e (Err reading.DiskFault) h = absurd (never bytes h)
told_of_disk told never before now bytes e (Err (reading.Damaged damage)) h = subst (λ b. told b (Err (reading.Damaged damage))) e h
told_of_disk told never before now bytes e (Err reading.Memory) h = tt
