-- What a refused call and a refused command leave, in bytes.
use Rattle.std.specs.Prelude.{Option, None, Some}
use mathlib.Core.Path.{◌≡◌, refl, sym, ap, ◌∙◌}
use mathlib.Core.Logic.{◌≢◌, ◌↔◌}
use mathlib.Core.Bool.{Bool, true, false, cond, not}
use mathlib.Core.List.{List, [], ◌∷◌}
use Rattle.std.proofs.lemmas.Option.{none-some}
use Prim.Native.Nat.{ℕ, zero, suc, ◌+◌, ◌*◌, ◌≤◌, ◌<◌}
use native.Mathlib.Omega.{arith}
use lib.Dec.{ltb}
use lib.ListN.{length, drop, get_or}
use borrow.Author.Tests.{ltb-true, ltb-false, le-ltb, not-false}
use Rattle.wire.specs.Lists.{or_else}
use Rattle.wire.specs.Bytes.{part}
use Rattle.wire.specs.Replies.{laid_over}
use Rattle.wire.proofs.Lists.{impossible}
use Rattle.wire.proofs.ReplyLaying.{length_laid, drop_laid}
use Rattle.store.specs.Layout.{header_size, slot_size}
use Rattle.store.specs.Store.{Entry, Slot, Store, encode_slot, decode, encode, well_formed, slot_count}
use Rattle.store.specs.Time.{now_at, live}
use Rattle.store.proofs.Encode.{decode_valid, encode_decode, length_decode}
use Rattle.store.proofs.Places.{encode_at}
use Rattle.commands.specs.Refusal.{error_line, buffer_least, early_most}
use Rattle.wire.specs.Checks.{first_applying}
use Rattle.commands.specs.Execute.{exec, exec_bytes}
use Rattle.wire.proofs.Checks.{first_none}
use Rattle.commands.proofs.Refused.{refused_reply, early_refusal, refused_keeps_live}
use Rattle.commands.proofs.Keeps.{refused_valid}
use Rattle.commands.proofs.SomeReply.{exec_some}
use Rattle.commands.proofs.Fit.{reply_fits}
use Rattle.feeder.specs.declared.Feeder.{Feeder}
use Rattle.feeder.specs.Record.{Record}
use Rattle.feeder.specs.State.{waiting_in, is_left}
use Rattle.feeder.specs.Absorb.{absorb}
use Rattle.feeder.specs.Feed.{Answer, checks, refusing, doing, answering, feed}
use Rattle.feeder.specs.Calls.{Untouched}

-- ---- a refused call

pub refusing_leaves : (n : ℕ) (f : Feeder) (b buffer : List ℕ) → Untouched f b buffer (refusing n f b buffer)
unfolding refusing
refusing_leaves n f b buffer = record { used = refl; skipped = refl; replied = refl; feeder = refl; store = refl; same = refl }

-- a call's answer by the lowest number that applies
abbrev answer_by : Feeder → List ℕ → List ℕ → List ℕ → Option ℕ → Answer
answer_by f piece b buffer m = or_else m (answering (absorb (waiting_in f) piece) b buffer) (λ n. refusing n f b buffer)

pub refused_call : (f : Feeder) (piece b buffer : List ℕ) → (feed f piece b buffer).fed.refusal ≢ 0 → Untouched f b buffer (feed f piece b buffer)
unfolding feed or_else answering
refused_call f piece b buffer = go (first_applying (checks f b buffer))
  where
    go : (m : Option ℕ) → (answer_by f piece b buffer m).fed.refusal ≢ 0 → Untouched f b buffer (answer_by f piece b buffer m)
    go None h = absurd (h refl)
    go (Some n) h = refusing_leaves n f b buffer

-- ---- which calls are refused

-- refused with 1, 2 or 3 exactly as the table says, else not
abbrev pub Exactly : Feeder → List ℕ → List ℕ → ℕ → Type 0
Exactly f b buffer n =
    ((n ≡ 1) ↔ (is_left f ≡ false))
    × ((n ≡ 2) ↔ ((is_left f ≡ true) × (well_formed b ≡ false)))
    × ((n ≡ 3) ↔ ((is_left f ≡ true) × (well_formed b ≡ true) × (length buffer < buffer_least)))
    × ((n ≡ 0) ↔ ((is_left f ≡ true) × (well_formed b ≡ true) × (buffer_least ≤ length buffer)))

module _ (f : Feeder) (piece b buffer : List ℕ) where
  pub refused_exactly : Exactly f b buffer (feed f piece b buffer).fed.refusal
  unfolding feed checks first_applying or_else answering refusing
  refused_exactly = go (is_left f) (well_formed b) (ltb (length buffer) buffer_least) refl refl refl
    where
      go : (left well small : Bool) → is_left f ≡ left → well_formed b ≡ well → ltb (length buffer) buffer_least ≡ small
          → Exactly f b buffer
          (answer_by f piece b buffer (cond (not left) (Some 1) (cond (not well) (Some 2) (cond small (Some 3) None)))).fed.refusal
      go false well small p q r =
          ((λ h. p, λ h. refl), (λ h. impossible cc, λ h. impossible cc), (λ h. impossible cc, λ h. impossible cc), (λ h. impossible cc, λ h. impossible cc))
      go true false small p q r =
          ((λ h. impossible cc, λ h. impossible cc), (λ h. (p, q), λ h. refl), (λ h. impossible cc, λ h. impossible cc), (λ h. impossible cc, λ h. impossible cc))
      go true true true p q r =
          let l : length buffer < buffer_least = ltb-true (length buffer) buffer_least r in (
            (λ h. impossible cc, λ h. impossible cc),
            (λ h. impossible cc, λ h. impossible cc),
            (λ h. (p, q, l), λ h. refl),
            (λ h. impossible cc, λ h. impossible (omega arith)),
          )
      go true true false p q r =
          let l : buffer_least ≤ length buffer = ltb-false (length buffer) buffer_least r in (
            (λ h. impossible cc, λ h. impossible cc),
            (λ h. impossible cc, λ h. impossible cc),
            (λ h. impossible cc, λ h. impossible (omega arith)),
            (λ h. (p, q, l), λ h. refl),
          )

  -- a call that is not refused absorbs, and does the record that it completes
  pub accepted_call : (feed f piece b buffer).fed.refusal ≡ 0 → feed f piece b buffer ≡ answering (absorb (waiting_in f) piece) b buffer
  unfolding feed checks first_applying or_else
  accepted_call h = let fine = refused_exactly.3.0 h in rw (fine.0, fine.1, le-ltb (length buffer) buffer_least fine.2)

  -- ---- what is replied

  -- with no record completed nothing is replied, and with one something
  pub replied_exactly : (feed f piece b buffer).fed.refusal ≡ 0
      → ((feed f piece b buffer).fed.replied ≡ 0) ↔ ((absorb (waiting_in f) piece).completed ≡ None)
  unfolding answering doing or_else exec_bytes
  replied_exactly h = rw (accepted_call h) (go (absorb (waiting_in f) piece).completed)
    where
      go : (m : Option Record) → (length (doing m b).reply ≡ 0) ↔ (m ≡ None)
      go None = (λ e. refl, λ e. refl)
      go (Some r) = (λ e. impossible (omega (arith, exec_some r.clock r.command (decode b))), λ e. impossible cc)

  -- a record that is refused writes its line alone
  pub refused_writes : (feed f piece b buffer).fed.refusal ≡ 0 → (r : Record) → (absorb (waiting_in f) piece).completed ≡ Some r
      → (n : ℕ) → (exec r.clock r.command (decode b)).refusal ≡ Some n
      → ((feed f piece b buffer).buffer ≡ laid_over (error_line n) buffer) × ((feed f piece b buffer).fed.replied ≡ length (error_line n))
  unfolding answering doing or_else exec_bytes
  refused_writes h r c n e =
      rw (accepted_call h, c, refused_reply r.clock r.command (decode b) n e) (refl, refl)

-- a reply on a well-formed store fits
pub reply_short : (clock : ℕ) (command b : List ℕ) → well_formed b ≡ true → length (exec_bytes clock command b).reply ≤ buffer_least
unfolding exec_bytes
reply_short clock command b well = reply_fits clock command (decode b) (decode_valid b well)

doing_short : (m : Option Record) (b : List ℕ) → well_formed b ≡ true → length (doing m b).reply ≤ buffer_least
unfolding doing or_else
doing_short None b well = omega arith
doing_short (Some r) b well = reply_short r.clock r.command b well

-- a call of which no check applies has a well-formed store and a large buffer
none_refused : (f : Feeder) (b buffer : List ℕ) → first_applying (checks f b buffer) ≡ None → (well_formed b ≡ true) × (buffer_least ≤ length buffer)
unfolding checks
none_refused f b buffer e =
    let left = first_none _ _ e in
    let well = first_none _ _ left.1 in
    let large = first_none _ _ well.1 in
    (not-false (well_formed b) well.0, ltb-false (length buffer) buffer_least large.0)

pub buffer_length : (f : Feeder) (piece b buffer : List ℕ) → length (feed f piece b buffer).buffer ≡ length buffer
unfolding feed or_else answering refusing
buffer_length f piece b buffer = go (first_applying (checks f b buffer)) refl
  where
    go : (m : Option ℕ) → first_applying (checks f b buffer) ≡ m → length (answer_by f piece b buffer m).buffer ≡ length buffer
    go (Some n) e = refl
    go None e =
        let m : Option Record = (absorb (waiting_in f) piece).completed in
        let fine = none_refused f b buffer e in
        length_laid (doing m b).reply buffer (omega (arith, doing_short m b fine.0, fine.1))

-- the bytes beyond a reply are as they were
pub buffer_beyond : (f : Feeder) (piece b buffer : List ℕ)
    → let a = feed f piece b buffer in drop a.fed.replied a.buffer ≡ drop a.fed.replied buffer
unfolding feed or_else answering refusing
buffer_beyond f piece b buffer = go (first_applying (checks f b buffer))
  where
    go : (m : Option ℕ)
        → drop (answer_by f piece b buffer m).fed.replied (answer_by f piece b buffer m).buffer ≡ drop (answer_by f piece b buffer m).fed.replied buffer
    go None = drop_laid (doing (absorb (waiting_in f) piece).completed b).reply buffer
    go (Some n) = refl

-- with no record completed, store and buffer are as they were
pub no_record_keeps : (f : Feeder) (piece b buffer : List ℕ) → (absorb (waiting_in f) piece).completed ≡ None
    → ((feed f piece b buffer).store ≡ b) × ((feed f piece b buffer).buffer ≡ buffer)
unfolding feed or_else answering refusing
no_record_keeps f piece b buffer e = go (first_applying (checks f b buffer))
  where
    go : (m : Option ℕ) → ((answer_by f piece b buffer m).store ≡ b) × ((answer_by f piece b buffer m).buffer ≡ buffer)
    go None = unfold doing laid_over in rw e (refl, refl)
    go (Some n) = (refl, refl)

-- a reply lies in its buffer
pub reply_inside : (f : Feeder) (piece b buffer : List ℕ) → (feed f piece b buffer).fed.replied ≤ length buffer
unfolding feed or_else answering refusing
reply_inside f piece b buffer = go (first_applying (checks f b buffer)) refl
  where
    go : (m : Option ℕ) → first_applying (checks f b buffer) ≡ m → (answer_by f piece b buffer m).fed.replied ≤ length buffer
    go (Some n) e = omega arith
    go None e =
        let fine = none_refused f b buffer e in
        omega (arith, doing_short (absorb (waiting_in f) piece).completed b fine.0, fine.1)

-- ---- a refused command, in the store's bytes

-- 10 to 18 leave the store byte for byte
pub early_bytes : (clock : ℕ) (command b : List ℕ) (n : ℕ) → well_formed b ≡ true → (exec clock command (decode b)).refusal ≡ Some n → n ≤ early_most
    → (exec_bytes clock command b).store ≡ b
unfolding exec_bytes
early_bytes clock command b n well r l = ap encode (early_refusal clock command (decode b) n r l) ∙ encode_decode b well

-- a slot that holds an entry is one of the slots
held_inside : (ss : List Slot) (i : ℕ) (e : Entry) → get_or ss i None ≡ Some e → i < length ss
held_inside [] i e h = absurd (none-some e h)
held_inside (s ∷ ss) zero e h = omega arith
held_inside (s ∷ ss) (suc i) e h = omega (arith, held_inside ss i e h)

-- every live entry's slot is left byte for byte, whatever the refusal
pub live_bytes : (clock : ℕ) (command b : List ℕ) (n : ℕ) → well_formed b ≡ true → (exec clock command (decode b)).refusal ≡ Some n
    → (i : ℕ) (e : Entry) → i < slot_count b → get_or (decode b).slots i None ≡ Some e → live (now_at clock (decode b)) e ≡ true
    → part (header_size + slot_size * i) slot_size (exec_bytes clock command b).store ≡ part (header_size + slot_size * i) slot_size b
unfolding exec_bytes
live_bytes clock command b n well r i e l h alive =
    encode_at after (refused_valid clock command (decode b) n r (decode_valid b well)) i (held_inside after.slots i e kept)
    ∙ ap encode_slot (kept ∙ sym h)
    ∙ sym (encode_at (decode b) (decode_valid b well) i (rw (length_decode b) l))
    ∙ ap (part (header_size + slot_size * i) slot_size) (encode_decode b well)
  where
    after : Store
    after = (exec clock command (decode b)).store

    kept : get_or after.slots i None ≡ Some e
    kept = refused_keeps_live clock command (decode b) n r i e h alive
