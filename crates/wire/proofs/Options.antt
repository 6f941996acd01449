-- Laws of answers that may be missing.
use Rattle.std.specs.Prelude.{Option, None, Some, option_map}
use mathlib.Core.Path.{◌≡◌, refl}
use mathlib.Core.Bool.{Bool, true, false, cond}
use Rattle.std.proofs.lemmas.Option.{same_Some, none-some}
use Rattle.wire.specs.Lists.{only_if, or_else}

module _ {A : Type 0} where
  -- a value is given only where the test passes
  pub only_if_some : (t : Bool) {a b : A} → only_if t a ≡ Some b → (t ≡ true) × (a ≡ b)
  unfolding only_if
  only_if_some true h = (refl, same_Some _ _ h)
  only_if_some false h = absurd (none-some _ h)

  -- an answer behind a test is given only where the test passes
  pub cond_some : (t : Bool) {o : Option A} {b : A} → cond t o None ≡ Some b → (t ≡ true) × (o ≡ Some b)
  cond_some true h = (refl, h)
  cond_some false h = absurd (none-some _ h)

module _ {A B : Type 0} where
  -- a value was made of one that was there
  pub option_map_some : (f : A → B) (o : Option A) {b : B} → option_map f o ≡ Some b → (a : A) × (o ≡ Some a) × (f a ≡ b)
  option_map_some f None h = absurd (none-some _ h)
  option_map_some f (Some a) h = (a, refl, same_Some _ _ h)

  -- what is done with a value that was there
  pub or_else_some : (o : Option A) {f : A → Option B} {b : B} → or_else o None f ≡ Some b → (a : A) × (o ≡ Some a) × (f a ≡ Some b)
  unfolding or_else
  or_else_some None h = absurd (none-some _ h)
  or_else_some (Some a) h = (a, refl, h)
