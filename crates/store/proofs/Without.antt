-- Laws of entries taken out of the slots: what is kept.
use Rattle.std.specs.Prelude.{None, Some}
use mathlib.Core.Path.{◌≡◌, refl, ap}
use mathlib.Core.Bool.{Bool, true, false, cond}
use mathlib.Core.List.{List, [], ◌∷◌}
use Prim.Native.Nat.{ℕ}
use lib.ListN.{length, get_or, length-map, get_or-map}
use Rattle.wire.specs.Lists.{or_else}
use Rattle.wire.proofs.Lists.{impossible}
use Rattle.store.specs.Store.{Entry, Slot, clash}
use Rattle.store.specs.Time.{without}
use Rattle.store.specs.Valid.{FitsSlot, AllFit, Apart}
use Rattle.store.proofs.Slots.{none_clash, clash_none}

-- a slot emptied if p holds of its entry
unfoldable pub emptied : (Entry → Bool) → Slot → Slot
emptied p s = or_else s None (λ e. cond (p e) None (Some e))

module _ (p : Entry → Bool) where
  -- what holds of a slot and of an empty one holds of the slot after it
  pub emptied_either : (P : Slot → Type 0) (s : Slot) → P None → P s → P (emptied p s)
  unfolding emptied or_else
  emptied_either P None q r = q
  emptied_either P (Some e) q r = go (p e)
    where
      go : (t : Bool) → P (cond t None (Some e))
      go true = q
      go false = r

  either_apart : (s t : Slot) → clash s t ≡ false → clash (emptied p s) (emptied p t) ≡ false
  either_apart s t h =
      emptied_either (λ x. clash x (emptied p t) ≡ false) s (none_clash (emptied p t)) (emptied_either (λ x. clash s x ≡ false) t (clash_none s) h)

  module _ (ss : List Slot) where
    -- as many slots as before
    pub length_without : length (without p ss) ≡ length ss
    unfolding without emptied
    length_without = length-map ss (emptied p)

    -- each slot is emptied if p holds of its entry
    pub get_d_without : (i : ℕ) → get_or (without p ss) i None ≡ emptied p (get_or ss i None)
    unfolding without emptied or_else
    get_d_without i = get_or-map (emptied p) ss i None

    -- slots that fit still fit
    pub without_fits : AllFit ss → AllFit (without p ss)
    without_fits a i = rw (get_d_without i) (emptied_either FitsSlot (get_or ss i None) tt (a i))

    -- no two slots of one name
    pub without_apart : Apart ss → Apart (without p ss)
    without_apart a i j l = rw (get_d_without i, get_d_without j) (either_apart (get_or ss i None) (get_or ss j None) (a i j l))

    -- an entry of which p does not hold keeps its slot
    pub without_keeps : (i : ℕ) (e : Entry) → get_or ss i None ≡ Some e → p e ≡ false → get_or (without p ss) i None ≡ Some e
    unfolding emptied or_else
    without_keeps i e h q = rw (get_d_without i, h, q)

    -- an entry that stands in a slot then stood there before
    pub without_from : (i : ℕ) (e : Entry) → get_or (without p ss) i None ≡ Some e → get_or ss i None ≡ Some e
    without_from i e h = go (get_or ss i None) (rw (get_d_without i) at h)
      where
        go : (s : Slot) → emptied p s ≡ Some e → s ≡ Some e
        go s = emptied_either (λ x. x ≡ Some e → s ≡ Some e) s (λ z. impossible cc) (λ z. z)

  -- to take the same entries out twice is to take them out once
  pub without_again : (ss : List Slot) → without p (without p ss) ≡ without p ss
  unfolding without or_else
  without_again [] = refl
  without_again (None ∷ ss) = ap (λ (t : List Slot). None ∷ t) (without_again ss)
  without_again (Some e ∷ ss) = go (p e) refl (without_again ss)
    where
      go : (t : Bool) → p e ≡ t → without p (without p ss) ≡ without p ss
          → or_else (cond t None (Some e)) None (λ e. cond (p e) None (Some e)) ∷ without p (without p ss) ≡ cond t None (Some e) ∷ without p ss
      go true q ih = rw ih
      go false q ih = rw (q, ih)
