-- What `?` hands on where a function is refused.
use Rattle.std.specs.Prelude.{Option, None, Some, Result, Ok, Err, IsErrAnd, ok_or}
use mathlib.Core.Path.{◌≡◌, ap, ◌∙◌}
use Rattle.wire.proofs.Lists.{impossible}
use Rattle.commands.specs.declared.refusal.Refusal.{Refusal}

module _ {T : Type 0} (r : Result T Refusal) {n : Refusal} (h : IsErrAnd r (λ m. m ≡ n)) where
  -- the refusal of the function that was called
  pub handed : r ≡ Err n
  handed = go r h
    where
      go : (s : Result T Refusal) → IsErrAnd s (λ m. m ≡ n) → s ≡ Err n
      go (Ok x) k = absurd k
      go (Err m) k = ap Err k

  -- the refusal that `ok_or` gives where there is no value
  pub handed_none : {A : Type 0} (o : Option A) {k : Refusal} → Err n ≡ ok_or o k → r ≡ Err k
  handed_none (Some x) e = impossible cc
  handed_none None {k} e = let q : n ≡ k = cc in handed ∙ ap Err q
