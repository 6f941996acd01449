-- The replies about one field, as they are written: what each question is answered with, and that there is room for it.
use Rattle.std.specs.Prelude.{Option, None, Some}
use mathlib.Core.Path.{◌≡◌, refl, sym, ap, subst, ◌∙◌}
use mathlib.Core.Bool.{Bool, true, false}
use mathlib.Core.Logic.{◌⊎◌, inl, inr}
use mathlib.Core.List.{List, [], ◌∷◌, ◌++◌, flatten, append_assoc, append-nil}
use Prim.Native.Nat.{ℕ, ◌-◌, ◌/◌, ◌≤◌}
use native.Mathlib.Omega.{arith}
use lib.ListN.{length}
use Rattle.wire.specs.Lists.{or_else}
use Rattle.wire.specs.Replies.{nil, integer, number, bulk, header, array}
use Rattle.wire.specs.declared.integers.Signed.{Signed}
use Rattle.wire.specs.Promises.{signed_for, integer_of, Laid}
use Rattle.wire.proofs.IntegerSigns.{sign_said}
use Rattle.store.specs.Store.{Entry, Slot, decode, well_formed, holds, entry_at}
use Rattle.store.specs.Time.{key_exists, lowest_slot, entry_of}
use Rattle.store.specs.Promises.{Held}
use Rattle.store.specs.Valid.{Fits, FitsSlot}
use Rattle.store.proofs.Encode.{decode_valid}
use Rattle.store.proofs.Slots.{holds_none, entry_at_lowest, lowest_entry_none}
use Rattle.store.proofs.Finding.{named_held, found_at, found_nothing}
use Rattle.store.proofs.Changes.{held_entry}
use Rattle.commands.specs.declared.Question.{Question}
use Rattle.commands.specs.declared.Question.TheVariants.{Value, Length, Exists, Versioned, Version, Seconds, Milliseconds}
use Rattle.commands.specs.Effect.{time_left, reply}
use Rattle.commands.specs.Promises.{Looked, time_left_of, no_version_of, answer_most, answer_about}
use Rattle.commands.proofs.Replies.{answer_short}

-- ---- signs

-- An entry without expiry has no time left.
pub left_never : (now unit : ℕ) {x : Option ℕ} → x ≡ None → record { negative = true; magnitude = 1 } ≡ time_left_of now unit x
unfolding time_left_of time_left signed_for
left_never now unit h = rw h refl

-- What is left up to an instant, nothing of one that is over.
pub left_until : (now unit : ℕ) {x : Option ℕ} {t : ℕ} → x ≡ Some t → record { negative = false; magnitude = (t - now) / unit } ≡ time_left_of now unit x
unfolding time_left_of time_left signed_for
left_until now unit h = rw h refl

-- A missing field of a key that exists, and of one that does not.
pub version_missing : (now : ℕ) (k : List ℕ) (ss : List Slot) {r : Bool} → r ≡ key_exists now k ss → r ≡ true
    → record { negative = true; magnitude = 2 } ≡ no_version_of now k ss
unfolding no_version_of signed_for
version_missing now k ss h g = rw (← h, g) refl

pub key_missing : (now : ℕ) (k : List ℕ) (ss : List Slot) {r : Bool} → r ≡ key_exists now k ss → r ≡ false
    → record { negative = true; magnitude = 1 } ≡ no_version_of now k ss
unfolding no_version_of signed_for
key_missing now k ss h g = rw (← h, g) refl

-- ---- the entry of a slot

pub held_fits : {b : List ℕ} {i : ℕ} → Held b i → Fits (entry_at (decode b).slots i)
held_fits {b} {i} h = subst FitsSlot (held_entry (decode b).slots i h.held) ((decode_valid b h.well).fits i)

-- ---- room

-- There is room for what is replied of a slot's entry,
pub found_room : (time : ℕ) (q : Question) {b x : List ℕ} {i n : ℕ} → Held b i → answer_most ≤ n → reply time [] [] q (Some (entry_at (decode b).slots i)) ≡ x → length x ≤ n
found_room time q {b} {i = i} h l e = rw (← e) (omega (arith, (answer_short time [] [] q (Some (entry_at (decode b).slots i)) (held_fits h)).short))

-- and of a missing field.
pub missing_room : (time : ℕ) (ss : List Slot) (k : List ℕ) (q : Question) {x : List ℕ} {n : ℕ} → answer_most ≤ n → reply time ss k q None ≡ x → length x ≤ n
missing_room time ss k q l e = rw (← e) (omega (arith, (answer_short time ss k q None tt).short))

-- What is laid is the reply.
pub laid_reply : {x y d e : List ℕ} {r : ℕ} → x ≡ y → Laid y d e r → Laid x d e r
laid_reply h l = rw h l

-- ---- the reply where the field is there

module _ (time : ℕ) (e : Entry) {q : Question} where
  pub value_reply : {v : List ℕ} → q ≡ Value → v ≡ e.value → reply time [] [] q (Some e) ≡ bulk v
  unfolding reply or_else
  value_reply h g = rw (h, g) refl

  pub length_reply : {v : List ℕ} → q ≡ Length → v ≡ e.value → reply time [] [] q (Some e) ≡ number (length v)
  unfolding reply or_else
  length_reply h g = rw (h, g) refl

  pub exists_reply : q ≡ Exists → reply time [] [] q (Some e) ≡ number 1
  unfolding reply or_else
  exists_reply h = rw h refl

  pub versioned_reply : q ≡ Versioned → reply time [] [] q (Some e) ≡ array (bulk e.value ∷ number e.version ∷ [])
  unfolding reply or_else
  versioned_reply h = rw h refl

  pub version_reply : {n : ℕ} → q ≡ Version → n ≡ e.version → reply time [] [] q (Some e) ≡ number n
  unfolding reply or_else
  version_reply h g = rw (h, g) refl

  pub seconds_reply : {x : Option ℕ} {s : Signed} → q ≡ Seconds → x ≡ e.expiry → s ≡ time_left_of time 1000 x → reply time [] [] q (Some e) ≡ integer (integer_of s)
  unfolding reply or_else time_left_of
  seconds_reply h g f = rw (h, f, g, sign_said) refl

  pub milliseconds_reply : {x : Option ℕ} {s : Signed} → q ≡ Milliseconds → x ≡ e.expiry → s ≡ time_left_of time 1 x → reply time [] [] q (Some e) ≡ integer (integer_of s)
  unfolding reply or_else time_left_of
  milliseconds_reply h g f = rw (h, f, g, sign_said) refl

-- An array of two elements is its header and the elements.
pub pair_parts : (x y : List ℕ) → array (x ∷ y ∷ []) ≡ (header 2 ++ x) ++ y
unfolding array flatten
pair_parts x y = ap (λ z. header 2 ++ (x ++ z)) (append-nil y) ∙ sym (append_assoc (header 2) x y)

-- An array of value and version
pub pair_reply : {v w : List ℕ} {m n : ℕ} → v ≡ w → m ≡ n → array (bulk w ∷ number n ∷ []) ≡ (header 2 ++ bulk v) ++ number m
pair_reply {w = w} {n = n} g f = rw (g, f) (pair_parts (bulk w) (number n))

-- has room.
pub pair_room : {b v : List ℕ} {i m n : ℕ} → Held b i → answer_most ≤ n → v ≡ (entry_at (decode b).slots i).value → m ≡ (entry_at (decode b).slots i).version
    → length ((header 2 ++ bulk v) ++ number m) ≤ n
pair_room {b} {i = i} h l g f = found_room 0 Versioned h l (versioned_reply 0 (entry_at (decode b).slots i) refl ∙ pair_reply g f)

-- ---- the reply where the field is missing

module _ (time : ℕ) (ss : List Slot) (k : List ℕ) {q : Question} where
  pub no_value : (q ≡ Value) ⊎ (q ≡ Versioned) → reply time ss k q None ≡ nil
  unfolding reply or_else
  no_value (inl h) = rw h refl
  no_value (inr h) = rw h refl

  pub no_length : (q ≡ Length) ⊎ (q ≡ Exists) → reply time ss k q None ≡ number 0
  unfolding reply or_else
  no_length (inl h) = rw h refl
  no_length (inr h) = rw h refl

  pub no_version : {s : Signed} → q ≡ Version → s ≡ no_version_of time k ss → reply time ss k q None ≡ integer (integer_of s)
  unfolding reply or_else no_version_of
  no_version h g = rw (h, g, sign_said) refl

  pub no_time : (q ≡ Seconds) ⊎ (q ≡ Milliseconds) → reply time ss k q None ≡ integer (integer_of (record { negative = true; magnitude = 2 }))
  unfolding reply or_else integer_of
  no_time (inl h) = rw h refl
  no_time (inr h) = rw h refl

-- ---- the entry that was looked for

-- The reply about an entry does not look at the slots.
reply_found : (time : ℕ) (ss : List Slot) (k : List ℕ) (q : Question) (e : Entry) → reply time ss k q (Some e) ≡ reply time [] [] q (Some e)
unfolding reply or_else
reply_found time ss k Value e = refl
reply_found time ss k Length e = refl
reply_found time ss k Exists e = refl
reply_found time ss k Versioned e = refl
reply_found time ss k Version e = refl
reply_found time ss k Seconds e = refl
reply_found time ss k Milliseconds e = refl

module _ (b k f : List ℕ) {r : Option ℕ} (h : Looked b k f r) where
  -- A slot that was found holds an entry,
  pub looked_held : {i : ℕ} → well_formed b ≡ true → r ≡ Some i → Held b i
  looked_held {i} w e = named_held (holds k f) b i (holds_none k f) w (sym e ∙ h)

  -- that of the key and the field;
  pub looked_entry : {i : ℕ} → well_formed b ≡ true → r ≡ Some i → entry_of k f (decode b).slots ≡ Some (entry_at (decode b).slots i)
  looked_entry {i} w e =
      entry_at_lowest k f (decode b).slots i (found_at (lowest_slot (holds k f) (decode b).slots) i (sym e ∙ h))
      ∙ held_entry (decode b).slots i (looked_held w e).held

  -- where none was found, there is none.
  pub looked_missing : r ≡ None → entry_of k f (decode b).slots ≡ None
  looked_missing e = lowest_entry_none k f (decode b).slots (found_nothing (lowest_slot (holds k f) (decode b).slots) (sym e ∙ h))

  -- The answer to a question about the field, in both cases
  pub found_reply : (time : ℕ) (q : Question) {i : ℕ} → well_formed b ≡ true → r ≡ Some i
      → answer_about time b k q f ≡ reply time [] [] q (Some (entry_at (decode b).slots i))
  unfolding answer_about
  found_reply time q {i} w e = rw (looked_entry w e) (reply_found time (decode b).slots k q (entry_at (decode b).slots i))

  pub missing_reply : (time : ℕ) (q : Question) → r ≡ None → answer_about time b k q f ≡ reply time (decode b).slots k q None
  unfolding answer_about
  missing_reply time q e = ap (reply time (decode b).slots k q) (looked_missing e)
