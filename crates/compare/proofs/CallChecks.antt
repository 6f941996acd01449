-- The refusals of the calls, as the code finds them.
use Rattle.std.specs.Prelude.{Option, None, Some, Result, Ok, Err, IsErrAnd}
use mathlib.Core.Path.{◌≡◌, sym, ◌∙◌}
use mathlib.Core.Bool.{Bool, true, false, ◌||◌}
use mathlib.Core.List.{List, [], ◌∷◌}
use Prim.Native.Nat.{ℕ, ◌≤◌, ◌<◌}
use native.Mathlib.Omega.{arith}
use lib.Dec.{leb, ltb}
use lib.ListN.{length}
use borrow.Author.Tests.{lt-ltb, le-ltb, not-false}
use Rattle.wire.specs.Lists.{or_else}
use Rattle.wire.specs.Checks.{◌when◌, first_applying}
use Rattle.wire.proofs.Checks.{first_none, first_append}
use Rattle.store.specs.Layout.{time_limit}
use Rattle.store.specs.Store.{clock_of, decode, well_formed}
use Rattle.store.proofs.Encode.{decode_valid}
use Rattle.compare.specs.declared.check.Refusal.{Refusal}
use Rattle.compare.specs.Listing.{listing}
use Rattle.compare.specs.Promises.{refusal_number, refused_as, compared_of}
use Rattle.compare.specs.Calls.{checks, output_least, listing_checks, Answer, refusing, answering, compare}
use Rattle.compare.proofs.ListingSize.{listing_short}

-- an instant earlier than a clock, or too late
abbrev pub out_of_range : List ℕ → List ℕ → ℕ → Bool
out_of_range first second instant = ltb instant (clock_of first) || (ltb instant (clock_of second) || leb time_limit instant)

module _ (first second : List ℕ) (instant : ℕ) where
  module _ {x : ℕ} (e : x ≡ clock_of first) where
    pub before_first : instant < x → true ≡ out_of_range first second instant
    before_first l = rw (← e, lt-ltb instant x l)

    module _ (l : x ≤ instant) {y : ℕ} (q : y ≡ clock_of second) where
      pub before_second : instant < y → true ≡ out_of_range first second instant
      before_second m = rw (← e, le-ltb instant x l, ← q, lt-ltb instant y m)

      pub after_both : y ≤ instant → leb time_limit instant ≡ out_of_range first second instant
      after_both m = rw (← e, le-ltb instant x l, ← q, le-ltb instant y m)

  pub damaged_first : well_formed first ≡ false → Some 2 ≡ first_applying (checks first second instant)
  unfolding checks first_applying
  damaged_first h = rw h

  module _ (w : well_formed first ≡ true) where
    pub damaged_second : well_formed second ≡ false → Some 2 ≡ first_applying (checks first second instant)
    unfolding checks first_applying
    damaged_second h = rw (w, h)

    module _ (v : well_formed second ≡ true) where
      pub out_of_range_lem : out_of_range first second instant ≡ true → Some 11 ≡ first_applying (checks first second instant)
      unfolding checks first_applying
      out_of_range_lem h = rw (w, v, h)

      pub in_range : out_of_range first second instant ≡ false → None ≡ first_applying (checks first second instant)
      unfolding checks first_applying
      in_range h = rw (w, v, h)

-- ---- what the checks' result says

-- both stores are well formed, and none of the checks applies
pub record Passed (first second : List ℕ) (instant : ℕ) : Type 0 where
  pub well : well_formed first ≡ true
  pub also_well : well_formed second ≡ true
  pub range : out_of_range first second instant ≡ false
  pub clear : first_applying (checks first second instant) ≡ None

pub passed : (first second : List ℕ) (instant : ℕ) → first_applying (checks first second instant) ≡ None → Passed first second instant
unfolding checks
passed first second instant h =
    let a = first_none _ _ h in
    let b = first_none _ _ a.1 in
    let c = first_none _ _ b.1 in
    record { well = not-false (well_formed first) a.0; also_well = not-false (well_formed second) b.0; range = c.0; clear = h }

pub ok_passed : {first second : List ℕ} {instant : ℕ} {T : Type 0} {r : Result T Refusal} {x : T} → refused_as r ≡ first_applying (checks first second instant)
    → r ≡ Ok x → Passed first second instant
unfolding refused_as
ok_passed {first} {second} {instant} h e = passed first second instant (sym h ∙ rw e)

pub err_refused : {o : Option ℕ} {T : Type 0} {r : Result T Refusal} {e : Refusal} → refused_as r ≡ o → r ≡ Err e → o ≡ Some (refusal_number e)
unfolding refused_as
err_refused h e = sym h ∙ rw e

-- ---- the listing's call

-- a refusal that was handed on
pub handed_on : (r : Result ℕ Refusal) (e : Refusal) → IsErrAnd r (λ m. m ≡ e) → compared_of r ≡ record { refusal = refusal_number e; written = 0 }
unfolding compared_of
handed_on (Ok n) e h = absurd h
handed_on (Err m) e h = rw h

module _ (first second : List ℕ) (instant : ℕ) (out : List ℕ) where
  pub listing_checks_lem : first_applying (listing_checks first second instant out)
      ≡ or_else (first_applying (checks first second instant)) (first_applying (3 when ltb (length out) output_least ∷ [])) Some
  unfolding listing_checks
  listing_checks_lem = first_append (checks first second instant) (3 when ltb (length out) output_least ∷ [])

  pub compare_refused : {n : ℕ} → first_applying (checks first second instant) ≡ Some n → refusing n out ≡ compare first second instant out
  unfolding compare or_else
  compare_refused h = rw (listing_checks_lem, h)

  module _ (p : Passed first second instant) where
    pub compare_short : length out < output_least → refusing 3 out ≡ compare first second instant out
    unfolding compare or_else first_applying
    compare_short l = rw (listing_checks_lem, p.clear, lt-ltb (length out) output_least l)

    -- the listing fits the output
    pub listing_inside : output_least ≤ length out → length (listing instant (decode first) (decode second)) ≤ length out
    listing_inside l = omega (arith, l, listing_short instant (decode first) (decode second) (decode_valid first p.well) (decode_valid second p.also_well))

    pub compare_listed : output_least ≤ length out → {a : Answer} → a ≡ answering (listing instant (decode first) (decode second)) out → a ≡ compare first second instant out
    unfolding compare or_else first_applying
    compare_listed l h = h ∙ rw (listing_checks_lem, p.clear, le-ltb (length out) output_least l)
