-- The first record of a stream: where it stands is settled by the bytes up to its end, and none of fewer bytes.
use Rattle.std.specs.Prelude.{Option, None, Some}
use mathlib.Core.Path.{◌≡◌, refl, ap, ◌∙◌}
use mathlib.Core.List.{List, [], ◌∷◌, ◌++◌, cons-ne-nil}
use Prim.Native.Nat.{ℕ, ◌+◌, ◌-◌, ◌≤◌}
use native.Mathlib.Omega.{arith}
use lib.ListN.{length, drop}
use Rattle.wire.proofs.Lists.{impossible}
use Rattle.feeder.specs.Record.{Head, head_of, record_of, command_at, command_most}
use Rattle.feeder.specs.Record.Head.{skip, whole, wait}
use Rattle.feeder.specs.Stream.{ended, skipping, divided_at, divide_after, divide}
use Rattle.feeder.specs.Absorb.{Place, later, placed_at, first_record, end_of}
use Rattle.feeder.proofs.RecordHead.{told, head_more, whole_fits, whole_most, skip_fewer, whole_fewer}

-- the first record of a stream stands after bytes to skip
pub data First : List ℕ → Place → Type 0 where
  here : {b : ℕ} {s : List ℕ} {n : ℕ} → head_of (b ∷ s) ≡ whole n → First (b ∷ s) (record { at = 0; size = n })
  there : {b : ℕ} {s : List ℕ} {p : Place} → head_of (b ∷ s) ≡ skip → First s p → First (b ∷ s) (later p)

-- a stream with no record: bytes to skip, and then a rest that waits
pub data NoFirst : List ℕ → Type 0 where
  ends : NoFirst []
  waits : {b : ℕ} {s : List ℕ} → head_of (b ∷ s) ≡ wait → NoFirst (b ∷ s)
  skips : {b : ℕ} {s : List ℕ} → head_of (b ∷ s) ≡ skip → NoFirst s → NoFirst (b ∷ s)

-- firstRecord finds the first record
pub first_found : (s : List ℕ) (p : Place) → first_record s ≡ Some p → First s p
unfolding first_record placed_at
first_found [] p e = impossible cc
first_found (b ∷ s) p e = go (head_of (b ∷ s)) refl (first_record s) e (first_found s)
  where
    go : (h : Head) → head_of (b ∷ s) ≡ h → (m : Option Place) → placed_at h m ≡ Some p
        → ((q : Place) → m ≡ Some q → First s q) → First (b ∷ s) p
    go skip x None e ih = impossible cc
    go skip x (Some q) e ih =
        let z : later q ≡ p = cc in
        rw z at (there x (ih q refl))
    go (whole n) x m e ih =
        let z : record { at = 0; size = n } ≡ p = cc in
        rw z at (here x)
    go wait x m e ih = impossible cc

-- or there is none
pub none_found : (s : List ℕ) → first_record s ≡ None → NoFirst s
unfolding first_record placed_at
none_found [] e = ends
none_found (b ∷ s) e = go (head_of (b ∷ s)) refl (first_record s) e (none_found s)
  where
    go : (h : Head) → head_of (b ∷ s) ≡ h → (m : Option Place) → placed_at h m ≡ None → (m ≡ None → NoFirst s) → NoFirst (b ∷ s)
    go skip x None e ih = skips x (ih refl)
    go skip x (Some q) e ih = impossible cc
    go (whole n) x m e ih = impossible cc
    go wait x m e ih = waits x

-- the first record is what firstRecord finds
pub found_first : {s : List ℕ} {p : Place} → First s p → first_record s ≡ Some p
unfolding first_record placed_at
found_first (here h) = rw h
found_first (there h f) = rw (h, found_first f)

-- with no first record a division has no record
pub none_records : {s : List ℕ} → NoFirst s → (divide s).records ≡ []
unfolding divide divide_after divided_at
none_records ends = refl
none_records (waits h) = rw h
none_records (skips h f) = rw h (none_records f)

-- and skips all up to its rest
pub none_rest : {s : List ℕ} → NoFirst s → (divide s).rest ≡ drop (divide s).skipped s
unfolding divide divide_after divided_at
none_rest ends = refl
none_rest (waits h) = rw h
none_rest (skips h f) = rw h (none_rest f)

pub none_skipped : {s : List ℕ} → NoFirst s → (divide s).skipped ≤ length s
unfolding divide divide_after divided_at
none_skipped ends = omega arith
none_skipped (waits h) = rw h (omega arith)
none_skipped (skips h f) = rw h (omega (arith, none_skipped f))

-- the first record lies in s
pub first_fits : {s : List ℕ} {p : Place} → First s p → end_of p ≤ length s
first_fits (here {b = b} {s = s} {n = n} h) = omega (arith, whole_fits (b ∷ s) n h)
first_fits (there h f) = omega (arith, first_fits f)

-- its command is short
pub first_most : {s : List ℕ} {p : Place} → First s p → p.size ≤ command_most
first_most (here {b = b} {s = s} {n = n} h) = whole_most (b ∷ s) n h
first_most (there h f) = first_most f

-- it stays the first whatever follows
pub first_more : {s : List ℕ} {p : Place} (u : List ℕ) → First s p → First (s ++ u) p
unfolding told
first_more u (here {b = b} {s = s} h) = here (head_more (b ∷ s) u (omega arith) (rw h) ∙ h)
first_more u (there {b = b} {s = s} h f) = there (head_more (b ∷ s) u (omega arith) (rw h) ∙ h) (first_more u f)

-- it is the first of any fewer bytes that reach its end
pub first_fewer : (s u : List ℕ) (p : Place) → First (s ++ u) p → end_of p ≤ length s → First s p
first_fewer [] u p f l = impossible (omega arith)
first_fewer (b ∷ s) u p (here {n = n} h) l = here (whole_fewer n (b ∷ s) u (omega arith) h)
first_fewer (b ∷ s) u p (there {p = q} h f) l =
    there (skip_fewer (b ∷ s) u (omega arith) h) (first_fewer s u q f (omega arith))

-- a record's own bytes after its first are passed over
passed_over : (s : List ℕ) → divide_after (length s) s ≡ ended []
unfolding divide_after
passed_over [] = refl
passed_over (b ∷ s) = passed_over s

-- a stream that ends with its first record: that record, all before it skipped, nothing waits
pub first_divides : {s : List ℕ} {p : Place} → First s p → end_of p ≡ length s
    → divide s ≡ record { records = record_of p.size (drop p.at s) ∷ []; skipped = p.at; rest = [] }
unfolding divide divide_after divided_at
first_divides (here {b = b} {s = s} {n = n} h) l =
    let k : command_at - 1 + n ≡ length s = omega arith in
    rw h (rw k (rw (passed_over s)))
first_divides (there {b = b} {s = s} {p = p} h f) l = rw h (ap skipping (first_divides f (omega arith)))

-- a stream with a first record does not wait whole
pub first_not_waiting : {s : List ℕ} {p : Place} → First s p → (divide s).records ≡ [] → ⊥
unfolding divide divide_after divided_at
first_not_waiting (here {b = b} {s = s} {n = n} h) e =
    let g : record_of n (b ∷ s) ∷ (divide_after (command_at - 1 + n) s).records ≡ [] = rw h at e in
    cons-ne-nil (record_of n (b ∷ s)) (divide_after (command_at - 1 + n) s).records g
first_not_waiting (there h f) e = first_not_waiting f (rw h at e)
