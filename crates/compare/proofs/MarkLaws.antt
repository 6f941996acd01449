-- Marks and the newer of two slots, as the code finds them.
use Rattle.std.specs.Prelude.{Option, None, Some}
use Rattle.std.specs.Option.{option_eq}
use mathlib.Core.Path.{◌≡◌, refl, sym, ap, ◌∙◌}
use mathlib.Core.Bool.{Bool, true, false, ◌&&◌}
use mathlib.Core.List.{List}
use Prim.Native.Nat.{ℕ}
use lib.Dec.{eqb}
use Rattle.wire.specs.Lists.{every}
use Rattle.wire.specs.Bytes.{same}
use Rattle.store.specs.Store.{Entry, Slot, decode, well_formed}
use Rattle.store.proofs.Finding.{named_held}
use Rattle.compare.specs.declared.Pass.TheVariants as passes
use Rattle.compare.specs.Listing.{live_of, live_slot_of, same_expiry, agree, first_mark, second_mark}
use Rattle.compare.specs.Promises.{HeldIn, first_mark_for, second_mark_for, pass_mark}
use Rattle.compare.proofs.LiveEntries.{live_empty}

-- ---- entries that agree

pub agree_by : (e other : Entry) {p q : ℕ} (s v : Bool) {y z : Option ℕ} {x : Bool} → same e.value other.value ≡ s → p ≡ e.version → q ≡ other.version
    → eqb p q ≡ v → y ≡ e.expiry → z ≡ other.expiry → x ≡ option_eq eqb y z → (s && (v && x)) ≡ agree e other
unfolding agree every same_expiry
agree_by e other s v {y} {z} a p q b m n c = rw (a, ← p, ← q, ← m, ← n, b) (ap (λ t. s && (v && t)) (c ∙ go y z))
  where
    last : (t : Bool) → t ≡ (t && true)
    last true = refl
    last false = refl

    go : (a b : Option ℕ) → option_eq eqb a b ≡ (same_expiry a b && true)
    go None None = refl
    go None (Some t) = refl
    go (Some s) None = refl
    go (Some s) (Some t) = last (eqb s t)

-- ---- a slot that was found

-- a slot in which a name is live holds an entry
pub live_held : (b k f : List ℕ) (instant : ℕ) {found : Option ℕ} → well_formed b ≡ true → found ≡ live_slot_of instant k f (decode b).slots → HeldIn b found
unfolding live_slot_of
live_held b k f instant w h i e = named_held (live_of instant k f) b i (live_empty instant k f) w (sym e ∙ h)

-- ---- marks

module _ (instant : ℕ) (e : Entry) (other : List Slot) {found : Option ℕ} {r : Option ℕ} (h : found ≡ live_slot_of instant e.key e.field other) where
  pub mark_first : r ≡ first_mark_for e other found → r ≡ pass_mark passes.First instant other e
  unfolding pass_mark first_mark
  mark_first q = q ∙ rw h

  pub mark_second : r ≡ second_mark_for found → r ≡ pass_mark passes.Second instant other e
  unfolding pass_mark second_mark
  mark_second q = q ∙ rw h
