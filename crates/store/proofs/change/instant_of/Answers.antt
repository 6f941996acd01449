use mathlib.Core.Path.{◌≡◌, refl, ◌∙◌}
use Prim.Native.Nat.{ℕ}
use Rattle.std.specs.Prelude.{Option, None, Some, unwrap_or}
use Rattle.store.specs.Store.{instant_of}
use Rattle.store.proofs.change.instant_of.Goals as goal

same : (x : Option ℕ) → unwrap_or x 0 ≡ instant_of x
unfolding instant_of
same None = refl
same (Some t) = refl

pub returns : goal.returns
returns c = c.unwrap_or.ensures ∙ same c.args.expiry
