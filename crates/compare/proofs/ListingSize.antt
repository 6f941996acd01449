-- The listing of two valid stores is no longer than 12,000 bytes.
use Rattle.std.specs.Prelude.{Option, None, Some}
use mathlib.Core.Bool.{Bool, true, false, cond}
use mathlib.Core.List.{List, [], ◌∷◌, flatten}
use Prim.Native.Nat.{ℕ, suc, ◌+◌, ◌*◌, ◌^◌, ◌≤◌, ◌<◌}
use native.Mathlib.Nat.{mul-suc}
use native.Mathlib.Omega.{arith}
use lib.ListN.{length, length-append}
use Rattle.wire.specs.Lists.{or_else}
use Rattle.wire.specs.Bytes.{text}
use Rattle.wire.proofs.IntegerDigits.{length_natural_text}
use Rattle.store.specs.Store.{Entry, Slot, Store}
use Rattle.store.specs.Time.{live}
use Rattle.store.specs.Valid.{Fits, FitsSlot, AllFit, Valid}
use Rattle.compare.specs.Listing.{first_mark, second_mark, Line, line_of, lines_from, lines, spaced, line_text, listing_of, listing}
use Rattle.compare.proofs.LineTexts.{listing_append}

length_spaced : (d n : ℕ) → 1 ≤ d → n < 10 ^ d → length (spaced n) ≤ d + 1
unfolding spaced text
length_spaced d n one small = omega (arith, length_natural_text d n one small)

-- a line about a slot has at most 12 bytes: its mark, two numbers below 100, one below 1,000, three spaces and the newline
length_line : (l : Line) → Fits l.entry → l.slot < 1000 → length (line_text l) ≤ 12
unfolding line_text text
length_line l f s =
    simp length-append
    (omega (
      arith,
      length_spaced 2 (length l.entry.key) (omega arith) (omega (arith, f.short.key)),
      length_spaced 2 (length l.entry.field) (omega arith) (omega (arith, f.short.field)),
      length_spaced 3 l.slot (omega arith) s,
    ))

module _ (instant : ℕ) (mark : Entry → Option ℕ) where
  length_slot : (i : ℕ) (s : Slot) → FitsSlot s → i < 1000 → length (listing_of (line_of instant mark i s)) ≤ 12
  unfolding line_of listing_of flatten or_else
  length_slot i None f l = omega arith
  length_slot i (Some e) f l = go (live instant e) (mark e)
    where
      go : (t : Bool) (o : Option ℕ) → length (listing_of (cond t (or_else o [] (λ m. record { mark = m; entry = e; slot = i } ∷ [])) [])) ≤ 12
      go true None = omega arith
      go true (Some m) = simp length-append (omega (arith, length_line (record { mark = m; entry = e; slot = i }) f l))
      go false o = omega arith

  length_slots : (i : ℕ) (ss : List Slot) → AllFit ss → i + length ss ≤ 1000 → length (listing_of (lines_from instant mark i ss)) ≤ 12 * length ss
  unfolding lines_from listing_of flatten
  length_slots i [] f l = omega arith
  length_slots i (s ∷ ss) f l =
      rw (listing_append (line_of instant mark i s) (lines_from instant mark (suc i) ss), length-append, mul-suc)
      (omega (arith, length_slot i s (f 0) (omega arith), length_slots (suc i) ss (λ j. f (suc j)) (omega arith)))

pub listing_short : (instant : ℕ) (first second : Store) → Valid first → Valid second → length (listing instant first second) ≤ 12000
unfolding listing lines
listing_short instant first second a b =
    let here = length_slots instant (first_mark instant second.slots) 0 first.slots a.fits (omega (arith, a.most)) in
    let there = length_slots instant (second_mark instant first.slots) 0 second.slots b.fits (omega (arith, b.most)) in
    rw (listing_append, length-append) (omega (arith, a.most, b.most, here, there))
