-- A stream is its parts joined, and then the rest; the single bytes among them are those skipped, and the records are those of the division.
use mathlib.Core.Path.{◌≡◌, refl, sym, ap, ◌∙◌}
use mathlib.Core.Bool.{Bool, true, false, cond, not, ◌||◌}
use mathlib.Core.List.{List, [], ◌∷◌, ◌++◌, append_assoc, flat_map}
use Prim.Native.Nat.{ℕ, zero, suc, ◌+◌, ◌-◌, ◌≤◌, zero-le}
use native.Mathlib.Nat.{zero-add, not-suc-le-zero}
use native.Mathlib.Omega.{arith}
use lib.Dec.{ltb, eqb}
use lib.ListN.{length, take, drop, get_or, take-append-drop}
use lib.Seq.{take-add}
use borrow.Author.Tests.{eqb-true, not-false}
use Rattle.wire.specs.Lists.{keep}
use Rattle.wire.proofs.Lists.{impossible}
use Rattle.wire.specs.Bytes.{Bytes, to_le, part}
use Rattle.wire.proofs.ByteLaws.{bytes_tail}
use Rattle.store.proofs.Pieces.{length_part, number_back}
use Rattle.feeder.specs.Record.{Record, Head, head_of, record_of, record_bytes, command_length, first_mark, second_mark, clock_at, length_at, command_at, command_most}
use Rattle.feeder.specs.Record.Head.{skip, whole, wait}
use Rattle.feeder.specs.Stream.{divided_at, divide_after, divide}
use Rattle.feeder.specs.Parts.{parts_at, parts_after, parts, part_bytes, records_of, is_stray, record_sizes}
use Rattle.feeder.proofs.RecordHead.{whole_fits}

-- ---- how many, and which

parts_skipped : (k : ℕ) (s : List ℕ) → length (keep is_stray (parts_after k s)) ≡ (divide_after k s).skipped
unfolding parts_after parts_at divide_after divided_at keep is_stray
parts_skipped k [] = refl
parts_skipped (suc k) (b ∷ s) = parts_skipped k s
parts_skipped zero (b ∷ s) = go (head_of (b ∷ s)) (λ k. parts_skipped k s)
  where
    go : (h : Head) → ((k : ℕ) → length (keep is_stray (parts_after k s)) ≡ (divide_after k s).skipped)
        → length (keep is_stray (parts_at h (b ∷ s) (λ k. parts_after k s))) ≡ (divided_at h (b ∷ s) (λ k. divide_after k s)).skipped
    go skip ih = ap suc (ih 0)
    go (whole n) ih = ih (command_at - 1 + n)
    go wait ih = refl

parts_records : (k : ℕ) (s : List ℕ) → flat_map records_of (parts_after k s) ≡ (divide_after k s).records
unfolding parts_after parts_at divide_after divided_at flat_map records_of
parts_records k [] = refl
parts_records (suc k) (b ∷ s) = parts_records k s
parts_records zero (b ∷ s) = go (head_of (b ∷ s)) (λ k. parts_records k s)
  where
    go : (h : Head) → ((k : ℕ) → flat_map records_of (parts_after k s) ≡ (divide_after k s).records)
        → flat_map records_of (parts_at h (b ∷ s) (λ k. parts_after k s)) ≡ (divided_at h (b ∷ s) (λ k. divide_after k s)).records
    go skip ih = ih 0
    go (whole n) ih = ap (λ (rs : List Record). record_of n (b ∷ s) ∷ rs) (ih (command_at - 1 + n))
    go wait ih = refl

-- ---- the bytes of a record

-- what a whole head says of its bytes
record Marked (s : List ℕ) (n : ℕ) : Type 0 where
  first : get_or s 0 0 ≡ first_mark
  second : get_or s 1 0 ≡ second_mark
  size : command_length s ≡ n

whole_marked : (s : List ℕ) (n : ℕ) → head_of s ≡ whole n → Marked s n
unfolding head_of
whole_marked s n =
    go (not (eqb (get_or s 0 0) first_mark)) (ltb (length s) 2) (not (eqb (get_or s 1 0) second_mark)) (ltb (length s) command_at)
    (ltb (command_length s) 1 || ltb command_most (command_length s)) (ltb (length s) (command_at + command_length s)) refl refl
  where
    go : (a b c d e f : Bool) → not (eqb (get_or s 0 0) first_mark) ≡ a → not (eqb (get_or s 1 0) second_mark) ≡ c
        → cond a skip (cond b wait (cond c skip (cond d wait (cond e skip (cond f wait (whole (command_length s))))))) ≡ whole n → Marked s n
    go true b c d e f p q h = impossible cc
    go false true c d e f p q h = impossible cc
    go false false true d e f p q h = impossible cc
    go false false false true e f p q h = impossible cc
    go false false false false true f p q h = impossible cc
    go false false false false false true p q h = impossible cc
    go false false false false false false p q h =
        record {
          first = eqb-true (get_or s 0 0) first_mark (not-false (eqb (get_or s 0 0) first_mark) p);
          second = eqb-true (get_or s 1 0) second_mark (not-false (eqb (get_or s 1 0) second_mark) q);
          size = cc;
        }

mark_bytes : (s : List ℕ) → 2 ≤ length s → get_or s 0 0 ≡ first_mark → get_or s 1 0 ≡ second_mark → first_mark ∷ second_mark ∷ [] ≡ take 2 s
mark_bytes [] l p q = impossible (omega arith)
mark_bytes (x ∷ []) l p q = impossible (omega arith)
mark_bytes (x ∷ y ∷ s) l p q = rw (p, q)

-- they are the record as it is sent
whole_bytes : (s : List ℕ) (n : ℕ) → Bytes s → head_of s ≡ whole n → record_bytes (record_of n s) ≡ take (command_at + n) s
unfolding record_bytes record_of
whole_bytes s n bs h =
    rw (length_part command_at n s fits, number_back clock_at 8 s (omega (arith, fits)) bs, length_back)
    (ap (λ (mark : List ℕ). mark ++ part clock_at 8 s ++ part length_at 2 s ++ part command_at n s)
    (mark_bytes s (omega (arith, fits)) m.first m.second)
    ∙ sym joined)
  where
    m : Marked s n
    m = whole_marked s n h

    fits : command_at + n ≤ length s
    fits = whole_fits s n h

    length_back : to_le 2 n ≡ part length_at 2 s
    length_back = rw (← m.size) (unfold command_length in number_back length_at 2 s (omega (arith, fits)) bs)

    joined : take (command_at + n) s ≡ take 2 s ++ part clock_at 8 s ++ part length_at 2 s ++ part command_at n s
    joined = unfold part in rw (take-add command_at n s, take-add length_at 2 s, take-add clock_at 8 s)

-- ---- joined

parts_joined : (k : ℕ) (s : List ℕ) → k ≤ length s → Bytes s → flat_map part_bytes (parts_after k s) ++ (divide_after k s).rest ≡ drop k s
unfolding parts_after parts_at divide_after divided_at flat_map part_bytes
parts_joined zero [] l bs = refl
parts_joined (suc k) [] l bs = absurd (not-suc-le-zero l)
parts_joined (suc k) (b ∷ s) l bs = parts_joined k s (omega arith) (bytes_tail b s bs)
parts_joined zero (b ∷ s) l bs = go (head_of (b ∷ s)) refl (λ k l. parts_joined k s l (bytes_tail b s bs))
  where
    go : (h : Head) → head_of (b ∷ s) ≡ h → ((k : ℕ) → k ≤ length s → flat_map part_bytes (parts_after k s) ++ (divide_after k s).rest ≡ drop k s)
        → flat_map part_bytes (parts_at h (b ∷ s) (λ k. parts_after k s)) ++ (divided_at h (b ∷ s) (λ k. divide_after k s)).rest ≡ b ∷ s
    go skip p ih = ap (λ (x : List ℕ). b ∷ x) (ih 0 zero-le)
    go (whole n) p ih =
        let fits : command_at + n ≤ suc (length s) = whole_fits (b ∷ s) n p in
        let same : command_at + n ≡ suc (command_at - 1 + n) = omega arith in
        append_assoc (record_bytes (record_of n (b ∷ s))) (flat_map part_bytes (parts_after (command_at - 1 + n) s)) (divide_after (command_at - 1 + n) s).rest
        ∙ rw (whole_bytes (b ∷ s) n bs p, ih (command_at - 1 + n) (omega arith))
        (rw same (ap (λ (x : List ℕ). b ∷ x) (take-append-drop (command_at - 1 + n) s)))
    go wait p ih = refl

-- ---- counted

counted_after : (k : ℕ) (s : List ℕ) → k ≤ length s
    → length s ≡ k + ((divide_after k s).skipped + record_sizes (divide_after k s).records + length (divide_after k s).rest)
unfolding divide_after divided_at record_sizes record_of
counted_after zero [] l = refl
counted_after (suc k) [] l = absurd (not-suc-le-zero l)
counted_after (suc k) (b ∷ s) l = omega (arith, counted_after k s (omega arith))
counted_after zero (b ∷ s) l = go (head_of (b ∷ s)) refl (λ k. counted_after k s)
  where
    go : (h : Head) → head_of (b ∷ s) ≡ h
        → ((k : ℕ) → k ≤ length s
        → length s ≡ k + ((divide_after k s).skipped + record_sizes (divide_after k s).records + length (divide_after k s).rest))
        → suc (length s)
        ≡ 0 + ((divided_at h (b ∷ s) (λ k. divide_after k s)).skipped + record_sizes (divided_at h (b ∷ s) (λ k. divide_after k s)).records
        + length (divided_at h (b ∷ s) (λ k. divide_after k s)).rest)
    go skip p ih = omega (arith, ih 0 zero-le)
    go (whole n) p ih =
        let fits : command_at + n ≤ suc (length s) = whole_fits (b ∷ s) n p in
        let size : length (part command_at n (b ∷ s)) ≡ n = length_part command_at n (b ∷ s) fits in
        omega (arith, size, ih (command_at - 1 + n) (omega arith))
    go wait p ih = omega arith

pub every_counted : (s : List ℕ) → length s ≡ (divide s).skipped + record_sizes (divide s).records + length (divide s).rest
unfolding divide
every_counted s = rw zero-add at (counted_after 0 s zero-le)

-- ---- all of it

pub in_parts : (s : List ℕ) → Bytes s
    → (flat_map part_bytes (parts s) ++ (divide s).rest ≡ s)
    × (length (keep is_stray (parts s)) ≡ (divide s).skipped)
    × (flat_map records_of (parts s) ≡ (divide s).records)
unfolding parts divide
in_parts s bs = (parts_joined 0 s zero-le bs, parts_skipped 0 s, parts_records 0 s)
