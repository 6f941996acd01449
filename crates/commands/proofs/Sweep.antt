-- What the sweep of the named dead entries leaves.
use Rattle.std.specs.Prelude.{None, Some}
use mathlib.Core.Path.{◌≡◌, refl, ap}
use mathlib.Core.Bool.{Bool, true, false, cond, not, ◌&&◌, and-false}
use mathlib.Core.List.{List, [], ◌∷◌, map}
use Prim.Native.Nat.{ℕ, suc}
use lib.ListN.{length, get_or}
use borrow.Author.Tests.{not-false}
use Rattle.wire.specs.Lists.{any, keep, or_else}
use Rattle.wire.specs.Bytes.{same}
use Rattle.wire.specs.Words.{Word}
use Rattle.wire.proofs.ByteLaws.{same_refl}
use Rattle.store.specs.Store.{Entry, Slot}
use Rattle.store.specs.Time.{live, live_slot, room_slot, entry_of, without}
use Rattle.store.specs.Valid.{AllFit, Apart}
use Rattle.store.proofs.Slots.{entry_some}
use Rattle.store.proofs.Without.{emptied, length_without, get_d_without, without_fits, without_apart, without_keeps, without_from, without_again}
use Rattle.commands.specs.Execute.{named_dead, sweep, room}

-- The sweep leaves as many slots as there were, slots that fit, and no two of one key and field.
module _ (now : ℕ) (k : Word) (fs : List Word) (ss : List Slot) where
  pub length_sweep : length (sweep now k fs ss) ≡ length ss
  unfolding sweep
  length_sweep = length_without (named_dead now k fs) ss

  pub sweep_fits : AllFit ss → AllFit (sweep now k fs ss)
  unfolding sweep
  sweep_fits = without_fits (named_dead now k fs) ss

  pub sweep_apart : Apart ss → Apart (sweep now k fs ss)
  unfolding sweep
  sweep_apart = without_apart (named_dead now k fs) ss

  -- A second one finds nothing.
  pub sweep_again : sweep now k fs (sweep now k fs ss) ≡ sweep now k fs ss
  unfolding sweep
  sweep_again = without_again (named_dead now k fs) ss

  -- An entry that stands in a slot then stood there before.
  pub sweep_from : (i : ℕ) (e : Entry) → get_or (sweep now k fs ss) i None ≡ Some e → get_or ss i None ≡ Some e
  unfolding sweep
  sweep_from = without_from (named_dead now k fs) ss

-- The sweep keeps every live entry in its slot.
pub sweep_keeps_live : (now : ℕ) (k : Word) (fs : List Word) (ss : List Slot) (i : ℕ) (e : Entry) → get_or ss i None ≡ Some e → live now e ≡ true
    → get_or (sweep now k fs ss) i None ≡ Some e
unfolding sweep named_dead
sweep_keeps_live now k fs ss i e h l = without_keeps (named_dead now k fs) ss i e h (simp (l, and-false))

emptied_some : (p : Entry → Bool) (s : Slot) (e : Entry) → emptied p s ≡ Some e → p e ≡ false
unfolding emptied or_else
emptied_some p None e h = cc
emptied_some p (Some x) e h = go (p x) refl h
  where
    go : (t : Bool) → p x ≡ t → cond t None (Some x) ≡ Some e → p e ≡ false
    go true q h = cc
    go false q h = let m : x ≡ e = cc in rw m at q

-- No named entry is dead after the sweep.
pub sweep_alive : (now : ℕ) (k : Word) (fs : List Word) (ss : List Slot) (i : ℕ) (e : Entry) → get_or (sweep now k fs ss) i None ≡ Some e
    → (same e.key k && any (same e.field) fs) ≡ true → live now e ≡ true
unfolding sweep named_dead
sweep_alive now k fs ss i e h n =
    let d : named_dead now k fs e ≡ false = emptied_some (named_dead now k fs) (get_or ss i None) e (rw (get_d_without (named_dead now k fs) ss i) at h) in
    not-false (live now e) (rw n at d)

-- So an entry that is found then is live.
pub found_alive : (now : ℕ) (k : Word) (fs : List Word) (ss : List Slot) (f : List ℕ) (e : Entry) → any (same f) fs ≡ true
    → entry_of k f (sweep now k fs ss) ≡ Some e → live now e ≡ true
found_alive now k fs ss f e n h =
    let t = entry_some k f (sweep now k fs ss) e h in
    sweep_alive now k fs ss t.slot e t.here (rw (t.named.key, t.named.field, same_refl k) n)

-- as many slots are kept by a test that a change of slots does not alter
keep_map : (p : Slot → Bool) (g : Slot → Slot) → ((s : Slot) → p (g s) ≡ p s) → (ss : List Slot)
    → length (keep p (map g ss)) ≡ length (keep p ss)
unfolding keep
keep_map p g h [] = refl
keep_map p g h (s ∷ ss) = rw (h s) (go (p s) (keep_map p g h ss))
  where
    go : (t : Bool) → length (keep p (map g ss)) ≡ length (keep p ss)
        → length (cond t (g s ∷ keep p (map g ss)) (keep p (map g ss))) ≡ length (cond t (s ∷ keep p ss) (keep p ss))
    go true e = ap suc e
    go false e = e

-- The sweep makes no room: a dead entry's slot was room before.
pub room_sweep : (now : ℕ) (k : Word) (fs : List Word) (ss : List Slot) → room now (sweep now k fs ss) ≡ room now ss
unfolding room sweep without named_dead room_slot live_slot or_else
room_sweep now k fs ss = keep_map (room_slot now) (λ s. or_else s None (λ e. cond (named_dead now k fs e) None (Some e))) each ss
  where
    each : (s : Slot) → room_slot now (or_else s None (λ e. cond (named_dead now k fs e) None (Some e))) ≡ room_slot now s
    each None = refl
    each (Some e) = go (same e.key k && any (same e.field) fs) (live now e) refl
      where
        go : (n l : Bool) → live now e ≡ l → room_slot now (cond (n && not l) None (Some e)) ≡ not l
        go true true q = rw q
        go true false q = refl
        go false l q = rw q
