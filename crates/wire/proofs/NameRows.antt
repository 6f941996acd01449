-- Names: capitals, and the rows of a table.
use Rattle.std.specs.Prelude.{Option, None, Some}
use mathlib.Core.Path.{◌≡◌, refl, sym, ◌∙◌}
use mathlib.Core.Bool.{Bool, true, false, cond}
use mathlib.Core.List.{List, map}
use Prim.Native.Nat.{ℕ, suc, ◌+◌, ◌-◌, ◌*◌, ◌≤◌, ◌<◌}
use native.Mathlib.Numerals.{add-one}
use native.Mathlib.Omega.{arith}
use Rattle.std.proofs.lemmas.Bool.Decides.{nat_tests}
use Rattle.std.specs.Bool.{MatchBool}
use Rattle.std.specs.Char.{to_ascii_uppercase}
use lib.ListN.{length, get_or, take, drop, length-map, get_or-map}
use Rattle.wire.specs.Bytes.{part, same, upper}
use Rattle.wire.specs.Promises.{row_size, name_in, row_from}
use Rattle.wire.proofs.ByteLoops.{same_back}
use Rattle.wire.proofs.Lists.{impossible}

-- ---- capitals

-- the library's capital of a letter
pub upper_is : (b : ℕ) → to_ascii_uppercase b ≡ upper b
unfolding upper
upper_is b = grind (arith, nat_tests)

-- a word's capitals are as many as its letters, and each is its letter's
pub length_upper : (word : List ℕ) → length (map upper word) ≡ length word
length_upper word = length-map word upper

pub upper_at : (word : List ℕ) (i : ℕ) → get_or (map upper word) i 0 ≡ upper (get_or word i 0)
unfolding upper
upper_at word i = get_or-map upper word i 0

-- A word spells a name where they agree at each place, counted from the last.
pub spelled : (word name : List ℕ) (r : Bool) → length word ≡ length name
    → MatchBool r ((k : ℕ) → k < length word → to_ascii_uppercase (get_or word (length word - 1 - k) 0) ≡ get_or name (length name - 1 - k) 0)
    ((k : ℕ) × (k < length word) × (to_ascii_uppercase (get_or word (length word - 1 - k) 0) ≡ get_or name (length name - 1 - k) 0 → ⊥))
    → r ≡ same (map upper word) name
spelled word name true l e =
    same_back (map upper word) name true (length_upper word ∙ l) (rw (length_upper word) (λ k h. upper_at word (length word - 1 - k) ∙ sym (upper_is (get_or word (length word - 1 - k) 0)) ∙ e k h))
spelled word name false l d =
    same_back (map upper word) name false (length_upper word ∙ l)
    (rw (length_upper word) (d.0, d.1, λ e. d.2 (upper_is (get_or word (length word - 1 - d.0) 0) ∙ sym (upper_at word (length word - 1 - d.0)) ∙ e)))

-- ---- rows

-- the name of a row is the part of the table behind the row's length
name_part : (table : List ℕ) (i : ℕ) → take (row_size * i + 1 + get_or table (row_size * i) 0 - (row_size * i + 1)) (drop (row_size * i + 1) table) ≡ name_in table i
unfolding name_in part
name_part table i =
    let e : row_size * i + 1 + get_or table (row_size * i) 0 - (row_size * i + 1) ≡ get_or table (row_size * i) 0 = omega arith in
    rw e

module _ (table w : List ℕ) (rows i : ℕ) where
  module _ (l : i < rows) (r : Bool)
      (test : r ≡ same (map upper w) (take (row_size * i + 1 + get_or table (row_size * i) 0 - (row_size * i + 1)) (drop (row_size * i + 1) table))) where
    -- the rows from row i on are that row and the later ones
    row_on : row_from (rows - i) i table w ≡ cond r (Some i) (row_from (rows - (i + 1)) (i + 1) table w)
    unfolding row_from
    row_on =
        let e : rows - i ≡ suc (rows - (i + 1)) = omega arith in
        rw (test, name_part table i, e, add-one i)

    -- the word spells the row's name
    pub row_hit : r ≡ true → row_from (rows - i) i table w ≡ Some i
    row_hit h = row_on ∙ rw h

    -- it does not
    pub row_skip : r ≡ false → row_from (rows - i) i table w ≡ row_from (rows - (i + 1)) (i + 1) table w
    row_skip h = row_on ∙ rw h

  pub row_end : rows ≤ i → row_from (rows - i) i table w ≡ None
  unfolding row_from
  row_end l =
      let e : rows - i ≡ 0 = omega arith in
      rw e

-- ---- what a search found

pub row_nothing : (o : Option ℕ) → o ≡ None → o ≡ None
row_nothing None h = refl
row_nothing (Some k) h = impossible cc

pub row_at : (o : Option ℕ) (k : ℕ) → o ≡ Some k → o ≡ Some k
row_at None k h = impossible cc
row_at (Some j) k h = cc
