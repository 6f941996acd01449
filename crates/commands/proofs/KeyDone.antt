-- What a command on the fields of a key comes to.
use mathlib.Core.Path.{◌≡◌, refl, sym, ap, subst, ◌∙◌}
use mathlib.Core.Bool.{Bool, true, false}
use mathlib.Core.List.{List, [], ◌∷◌, map}
use Prim.Native.Nat.{ℕ, ◌≤◌}
use native.Mathlib.Omega.{arith}
use borrow.Author.Tests.{le-ltb}
use lib.ListN.{length, drop}
use Rattle.wire.specs.Lists.{any, keep, or_else}
use Rattle.wire.specs.Words.{Word, word_at}
use Rattle.wire.specs.Replies.{number, array}
use Rattle.wire.specs.Promises.{Laid}
use Rattle.wire.proofs.Lists.{length_keep}
use Rattle.store.specs.Layout.{slots_most}
use Rattle.store.specs.Store.{Slot, Store, decode, well_formed, holds}
use Rattle.store.specs.Time.{of_key, live_of_key}
use Rattle.store.specs.Promises.{Holds}
use Rattle.store.proofs.Encode.{decode_valid}
use Rattle.commands.specs.declared.Question.{Question}
use Rattle.commands.specs.declared.Listing.{Listing}
use Rattle.commands.specs.declared.KeyDeed.{KeyDeed}
use Rattle.commands.specs.Command.{Command, key_of, fields_of}
use Rattle.commands.specs.Command.Command.{get_many, delete, count_held, count_live, list}
use Rattle.wire.specs.Checks.{first_applying}
use Rattle.commands.specs.Effect.{answer, effect}
use Rattle.commands.specs.Effect.Change.{remove}
use Rattle.commands.specs.Execute.{swept, passes, adds, added, room, late_checks, settle, run_on}
use Rattle.commands.specs.ParsePromises.{command_for}
use Rattle.commands.specs.Promises.{WithinLimits, Does, Deletes, answer_about, answers_of, listed_of}
use Rattle.commands.proofs.Settling.{does_answer}
use Rattle.commands.proofs.FieldSweeps.{dead_none}

-- what settles on bytes that hold the swept store settles on that store
module _ (now : ℕ) (c : Command) (s : Store) {b : List ℕ} (h : Holds b (swept now (key_of c) (fields_of c) s)) where
  pub swept_does : {after d x : List ℕ} {r : ℕ} → Does (settle now (effect now c (decode b).slots) (decode b)) after d x r
      → Does (run_on now c s) after d x r
  unfolding run_on
  swept_does {after} {d} {x} {r} w = subst (λ (t : Store). Does (settle now (effect now c t.slots) t) after d x r) h.means w

-- EXHMGET
pub does_many : (now : ℕ) (k : Word) (fs : List Word) (q : Question) (s : Store) {b d x : List ℕ} {r : ℕ} → Holds b (swept now k fs s)
    → Laid (array (answers_of now b k q fs)) d x r → Does (run_on now (get_many k fs q) s) b d x r
unfolding effect answer_about key_of fields_of
does_many now k fs q s h l = swept_does now (get_many k fs q) s h (does_answer now h.well l)

-- ---- EXHDEL

removes_pass : (k : Word) (fs : List Word) → any passes (map (remove k) fs) ≡ false
unfolding any passes
removes_pass k [] = refl
removes_pass k (f ∷ fs) = removes_pass k fs

removes_add : (k : Word) (fs : List Word) (ss : List Slot) → added (map (remove k) fs) ss ≡ 0
unfolding added adds
removes_add k [] ss = refl
removes_add k (f ∷ fs) ss = removes_add k fs ss

pub does_delete : (now : ℕ) (k : Word) (fs : List Word) (s : Store) {b after d x : List ℕ} {n r : ℕ} → Holds b (swept now k fs s)
    → Deletes k fs (decode b) after n → Laid (number n) d x r → Does (run_on now (delete k fs) s) after d x r
unfolding effect settle or_else late_checks first_applying key_of fields_of
does_delete now k fs s {b} h w l =
    swept_does now (delete k fs) s h
    (rw (removes_pass k fs, removes_add k fs (decode b).slots, le-ltb (room now (decode b).slots) 0 (omega arith))
    (record { laid = rw (← w.count) l; holds = w.store now }))

pub few_deleted : (b : List ℕ) {k : Word} {fs : List Word} {after : List ℕ} {n : ℕ} → well_formed b ≡ true → Deletes k fs (decode b) after n
    → n ≤ slots_most
few_deleted b {k} {fs} w h = omega (arith, h.count, length_keep (λ x. any (λ f. holds k f x) fs) (decode b).slots, (decode_valid b w).most)

-- ---- commands that name no field

module _ (now : ℕ) (k : Word) (b : List ℕ) (w : well_formed b ≡ true) {d x : List ℕ} {r : ℕ} where
  -- nothing is swept
  unswept : (c : Command) (y : List ℕ) → key_of c ≡ k → fields_of c ≡ [] → effect now c (decode b).slots ≡ answer y → Laid y d x r
      → Does (run_on now c (decode b)) b d x r
  unswept c y p q e l =
      swept_does now c (decode b)
      (record { means = sym (ap (λ (fs : List Word). swept now (key_of c) fs (decode b)) q ∙ dead_none now (key_of c) (decode b)); well = w })
      (rw e (does_answer now w l))

  pub does_held : {n : ℕ} → n ≡ length (keep (of_key k) (decode b).slots) → Laid (number n) d x r → Does (run_on now (count_held k) (decode b)) b d x r
  unfolding effect key_of fields_of
  does_held q l = unswept (count_held k) (number (length (keep (of_key k) (decode b).slots))) refl refl refl (rw (← q) l)

  pub does_live : {n : ℕ} → n ≡ length (keep (live_of_key now k) (decode b).slots) → Laid (number n) d x r
      → Does (run_on now (count_live k) (decode b)) b d x r
  unfolding effect key_of fields_of
  does_live q l = unswept (count_live k) (number (length (keep (live_of_key now k) (decode b).slots))) refl refl refl (rw (← q) l)

  pub does_list : (z : Listing) → Laid (array (listed_of now b k z)) d x r → Does (run_on now (list k z) (decode b)) b d x r
  unfolding effect key_of fields_of listed_of
  does_list z l = unswept (list k z) (array (listed_of now b k z)) refl refl refl l

-- a count of slots is no more than there are
pub few_counted : (p : Slot → Bool) (b : List ℕ) {n : ℕ} → well_formed b ≡ true → n ≡ length (keep p (decode b).slots) → n ≤ slots_most
few_counted p b w q = omega (arith, q, length_keep p (decode b).slots, (decode_valid b w).most)

-- equal deeds do the same
module _ (k : Word) (ws : List Word) {deed g : KeyDeed} (q : deed ≡ g) where
  pub does_deed : (now : ℕ) (s : Store) {after d x : List ℕ} {r : ℕ} → Does (run_on now (command_for k ws g) s) after d x r
      → Does (run_on now (command_for k ws deed) s) after d x r
  does_deed now s w = rw q w

  pub deed_within : WithinLimits (command_for k ws deed) → WithinLimits (command_for k ws g)
  deed_within w = rw q at w

-- word 1 is the key, and the fields follow it
module _ (ws : List Word) {k : Word} (p : k ≡ word_at 1 ws) (deed : KeyDeed) where
  words_same : command_for k (drop 2 ws) deed ≡ command_for (word_at 1 ws) (drop 2 ws) deed
  words_same = rw p

  pub does_words : (now : ℕ) (t : Store) {after d x : List ℕ} {r : ℕ}
      → Does (run_on now (command_for k (drop 2 ws) deed) t) after d x r
      → Does (run_on now (command_for (word_at 1 ws) (drop 2 ws) deed) t) after d x r
  does_words now t w = rw words_same at w

  pub words_within : WithinLimits (command_for (word_at 1 ws) (drop 2 ws) deed)
      → WithinLimits (command_for k (drop 2 ws) deed)
  words_within w = rw (← words_same) at w
