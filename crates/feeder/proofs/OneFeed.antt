-- One feeding call of the code: the first refusal that applies, or the bytes taken and the record done, as the definition says.
use Rattle.std.specs.Prelude.{None, Some}
use mathlib.Core.Path.{◌≡◌, sym}
use mathlib.Core.Bool.{true, false, not}
use mathlib.Core.List.{List, [], ◌∷◌}
use Prim.Native.Nat.{ℕ, ◌≤◌, ◌<◌}
use lib.Dec.{ltb}
use lib.ListN.{length}
use Rattle.std.specs.Prelude.{Result, Err}
use borrow.Author.Tests.{lt-ltb, le-ltb, ltb-false, not-false}
use Rattle.wire.specs.Lists.{or_else}
use Rattle.store.specs.Store.{well_formed}
use Rattle.commands.specs.Refusal.{buffer_least}
use Rattle.wire.specs.Checks.{◌when◌, first_applying}
use Rattle.wire.proofs.Checks.{first_none}
use Rattle.feeder.specs.declared.Feeder.{Feeder}
use Rattle.feeder.specs.declared.Absorbed.{Absorbed}
use Rattle.feeder.specs.declared.Refusal.{Refusal}
use Rattle.feeder.specs.State.{waiting_in, is_left}
use Rattle.feeder.specs.Absorb.{absorb}
use Rattle.feeder.specs.Feed.{Answer, checks, refusing, answering, feed}
use Rattle.feeder.specs.Promises.{number_of, fed_for}

module _ (f : Feeder) (b buffer : List ℕ) where
  -- ---- which refusal applies

  pub not_left : is_left f ≡ false → Some 1 ≡ first_applying (checks f b buffer)
  unfolding checks first_applying
  not_left x = rw x

  pub not_well_formed : is_left f ≡ true → well_formed b ≡ false → Some 2 ≡ first_applying (checks f b buffer)
  unfolding checks first_applying
  not_well_formed x y = rw (x, y)

  pub too_small : is_left f ≡ true → well_formed b ≡ true → length buffer < buffer_least → Some 3 ≡ first_applying (checks f b buffer)
  unfolding checks first_applying
  too_small x y l = rw (x, y, lt-ltb (length buffer) buffer_least l)

  pub none_applies : is_left f ≡ true → well_formed b ≡ true → buffer_least ≤ length buffer → None ≡ first_applying (checks f b buffer)
  unfolding checks first_applying
  none_applies x y l = rw (x, y, le-ltb (length buffer) buffer_least l)

  -- where none applies
  abbrev pub Accepts : Type 0
  Accepts = (is_left f ≡ true) × (well_formed b ≡ true) × (buffer_least ≤ length buffer)

  pub accepts : None ≡ first_applying (checks f b buffer) → Accepts
  unfolding checks
  accepts e =
      let (left, e1) = first_none (1 when not (is_left f)) (2 when not (well_formed b) ∷ 3 when ltb (length buffer) buffer_least ∷ []) (sym e) in
      let (well, e2) = first_none (2 when not (well_formed b)) (3 when ltb (length buffer) buffer_least ∷ []) e1 in
      let (large, e3) = first_none (3 when ltb (length buffer) buffer_least) [] e2 in
      (not-false (is_left f) left, not-false (well_formed b) well, ltb-false (length buffer) buffer_least large)

  -- ---- the whole call

  module _ (piece : List ℕ) where
    pub refused_call : {r : Result Absorbed Refusal} (e : Refusal) → r ≡ Err e → Some (number_of e) ≡ first_applying (checks f b buffer)
        → record { fed = fed_for r f; store = b; buffer = buffer } ≡ feed f piece b buffer
    unfolding feed or_else refusing
    refused_call e h q = rw (h, ← q)

    pub fed_call : {x : Answer} → None ≡ first_applying (checks f b buffer) → x ≡ answering (absorb (waiting_in f) piece) b buffer
        → x ≡ feed f piece b buffer
    unfolding feed or_else
    fed_call e h = rw (← e) h

-- Which refusal applies, by the checks in turn.
pub ruleset which_applies = (not_left, not_well_formed, too_small, none_applies)
