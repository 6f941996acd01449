-- The replies of refused commands and those about one field: their bytes, and how many there are.
use Rattle.std.specs.Prelude.{Option, None, Some, unwrap_or}
use mathlib.Core.Path.{◌≡◌, refl}
use mathlib.Core.Bool.{Bool, true, false, cond, ◌&&◌}
use mathlib.Core.List.{List, [], ◌∷◌}
use Prim.Native.Nat.{◌<◌, ◌^◌, ℕ, zero, suc, ◌-◌, ◌*◌, ◌/◌, ◌≤◌, ◌+◌}
use lib.Pow.{are_bytes}
use lib.Dec.{leb, eqb}
use lib.IntN.{ℤ, pos, negsuc, ◌+ℤ◌}
use lib.ListN.{length, get_or}
use native.Mathlib.Omega.{arith}
use borrow.Author.Tests.{leb-true, not-false}
use Rattle.wire.specs.Lists.{all, or_else}
use Rattle.wire.specs.Bytes.{text}
use Rattle.wire.specs.Integers.{lowest64, highest64, within}
use Rattle.wire.specs.Words.{Word}
use Rattle.wire.specs.Replies.{nil, line, integer, number, bulk, array}
use Rattle.wire.proofs.Lists.{and_left, and_right}
use Rattle.wire.proofs.ReplyLaws.{bytes_nil, bytes_integer, bytes_bulk, bytes_array, length_number, length_bulk, length_array, length_nil, length_integer, length_integer64}
use Rattle.store.specs.Layout.{time_limit}
use Rattle.store.specs.Store.{Entry, Slot, instant_of}
use Rattle.store.specs.Time.{key_exists}
use Rattle.store.specs.Valid.{Fits, FitsSlot}
use Rattle.commands.specs.declared.Question.{Question}
use Rattle.commands.specs.declared.Question.TheVariants.{Value, Length, Exists, Versioned, Version, Seconds, Milliseconds}
use Rattle.commands.specs.Refusal.{RefusalRow, table, line_in, error_line}
use Rattle.commands.specs.Command.{Deed}
use Rattle.commands.specs.Command.Deed.{assign, increment, expire, persist, renumber, ask}
use Rattle.commands.specs.Effect.{Effect, barred, set_effect, counted, increment_effect, has_expiry, expire_effect, persist_effect, renumber_effect, time_left, reply, deed_effect}
use Rattle.commands.specs.Promises.{answer_most}
use Rattle.commands.proofs.Sound.{Bounded}

-- At most so many, so at most more
pub loosen : {a : ℕ} {r : List ℕ} (b : ℕ) → a ≤ b → Bounded a r → Bounded b r
loosen b l h = record { short = omega (arith, h.short); bytes = h.bytes }

-- a line of the table is at most as long as the longest
line_short : (most : ℕ) (rows : List RefusalRow) (n : ℕ) → all (λ r. leb (length (line r.reply)) most && are_bytes (line r.reply)) rows ≡ true
    → Bounded most (line_in rows n)
unfolding line_in all
line_short most [] n h = record { short = omega arith; bytes = refl }
line_short most (r ∷ rs) n h =
    let t = leb (length (line r.reply)) most in
    let u = are_bytes (line r.reply) in
    let v = all (λ q. leb (length (line q.reply)) most && are_bytes (line q.reply)) rs in
    let w : (t && u) ≡ true = and_left (t && u) v h in
    go (eqb r.number n) (record { short = leb-true (length (line r.reply)) most (and_left t u w); bytes = and_right t u w })
    (line_short most rs n (and_right (t && u) v h))
  where
    go : (e : Bool) → Bounded most (line r.reply) → Bounded most (line_in rs n) → Bounded most (cond e (line r.reply) (line_in rs n))
    go true a b = a
    go false a b = b

-- The reply of a refused command has at most 60 bytes.
pub error_short : (n : ℕ) → Bounded 60 (error_line n)
unfolding error_line table all line text
error_short n = line_short 60 table n refl

-- ---- one field

pub value_short : (e : Entry) → Fits e → Bounded 71 (bulk e.value)
value_short e h =
    record {
      short = omega (arith, length_bulk 2 e.value (omega arith) (omega (arith, h.short.value)), h.short.value);
      bytes = bytes_bulk e.value h.value_bytes;
    }

pub field_short : (e : Entry) → Fits e → Bounded 39 (bulk e.field)
field_short e h =
    record {
      short = omega (arith, length_bulk 2 e.field (omega arith) (omega (arith, h.short.field)), h.short.field);
      bytes = bytes_bulk e.field h.field_bytes;
    }

nil_short : Bounded 5 nil
nil_short = record { short = omega (arith, length_nil); bytes = bytes_nil }

number_short : (d n : ℕ) → 1 ≤ d → n < 10 ^ d → Bounded (d + 3) (number n)
number_short d n one small = record { short = length_number d n one small; bytes = bytes_integer (pos n) }

version_short : (e : Entry) → Fits e → Bounded 13 (number e.version)
version_short e h = number_short 10 e.version (omega arith) (omega (arith, h.version))

-- -1 and -2
minus_short : (n : ℕ) → n ≤ 1 → Bounded 5 (integer (negsuc n))
minus_short n h = record { short = length_integer 1 (negsuc n) (omega arith) (omega arith); bytes = bytes_integer (negsuc n) }

pub few_short : (n : ℕ) → n ≤ 999 → Bounded 6 (number n)
few_short n h = number_short 3 n (omega arith) (omega arith)

left_short : (now unit : ℕ) (x : Option ℕ) → ((n : ℕ) → n / unit ≤ n) → instant_of x ≤ time_limit → Bounded 16 (integer (time_left now unit x))
unfolding time_left instant_of
left_short now unit None d h = loosen 16 (omega arith) (minus_short 0 (omega arith))
left_short now unit (Some t) d h = number_short 13 ((t - now) / unit) (omega arith) (omega (arith, d (t - now)))

-- An array of elements of at most m bytes each
pub array_short : (d m : ℕ) (xs : List (List ℕ)) → 1 ≤ d → length xs < 10 ^ d
    → ((i : ℕ) → Bounded m (get_or xs i [])) → Bounded (d + 3 + m * length xs) (array xs)
array_short d m xs one small each =
    record { short = length_array d m xs one small (λ i. (each i).short); bytes = bytes_array xs (λ i. (each i).bytes) }

-- A reply about one field has at most `answer_most` bytes.
pub answer_short : (now : ℕ) (ss : List Slot) (k : Word) (q : Question) (found : Option Entry) → FitsSlot found
    → Bounded answer_most (reply now ss k q found)
unfolding reply or_else
answer_short now ss k Value None h = loosen answer_most (omega arith) nil_short
answer_short now ss k Value (Some e) h = loosen answer_most (omega arith) (value_short e h)
answer_short now ss k Length None h = loosen answer_most (omega arith) (few_short 0 (omega arith))
answer_short now ss k Length (Some e) h = loosen answer_most (omega arith) (few_short (length e.value) (omega (arith, h.short.value)))
answer_short now ss k Exists None h = loosen answer_most (omega arith) (few_short 0 (omega arith))
answer_short now ss k Exists (Some e) h = loosen answer_most (omega arith) (few_short 1 (omega arith))
answer_short now ss k Versioned None h = loosen answer_most (omega arith) nil_short
answer_short now ss k Versioned (Some e) h =
    loosen answer_most (omega arith) (array_short 1 71 (bulk e.value ∷ number e.version ∷ []) (omega arith) (omega arith) each)
  where
    each : (i : ℕ) → Bounded 71 (get_or (bulk e.value ∷ number e.version ∷ []) i [])
    each zero = value_short e h
    each (suc zero) = loosen 71 (omega arith) (version_short e h)
    each (suc (suc i)) = record { short = omega arith; bytes = refl }
answer_short now ss k Version None h = go (key_exists now k ss)
  where
    go : (t : Bool) → Bounded answer_most (integer (cond t (negsuc 1) (negsuc 0)))
    go true = loosen answer_most (omega arith) (minus_short 1 (omega arith))
    go false = loosen answer_most (omega arith) (minus_short 0 (omega arith))
answer_short now ss k Version (Some e) h = loosen answer_most (omega arith) (version_short e h)
answer_short now ss k Seconds None h = loosen answer_most (omega arith) (minus_short 1 (omega arith))
answer_short now ss k Seconds (Some e) h = loosen answer_most (omega arith) (left_short now 1000 e.expiry (λ n. omega arith) h.expiry)
answer_short now ss k Milliseconds None h = loosen answer_most (omega arith) (minus_short 1 (omega arith))
answer_short now ss k Milliseconds (Some e) h = loosen answer_most (omega arith) (left_short now 1 e.expiry (λ n. omega arith) h.expiry)

-- the one of two effects that is taken replies in at most as many bytes
either_short : (most : ℕ) (t : Bool) (a b : Effect) → Bounded most a.reply → Bounded most b.reply → Bounded most (cond t a b).reply
either_short most true a b h g = h
either_short most false a b h g = g

one_most : (found : Option Entry) → or_else found 1 (λ e. 0) ≤ 999
unfolding or_else
one_most None = omega arith
one_most (Some e) = omega arith

-- What is done with one field is replied in at most `answer_most` bytes.
pub deed_short : (now : ℕ) (ss : List Slot) (k f : Word) (d : Deed) (found : Option Entry) → FitsSlot found
    → (deed_effect now ss k f d found).overflows ≡ false → Bounded answer_most (deed_effect now ss k f d found).reply
unfolding deed_effect set_effect increment_effect expire_effect persist_effect renumber_effect or_else
deed_short now ss k f (assign v c n t) found h o =
    either_short answer_most (barred c found) _ _ (loosen answer_most (omega arith) (minus_short 0 (omega arith)))
    (loosen answer_most (omega arith) (few_short (or_else found 1 (λ e. 0)) (one_most found)))
deed_short now ss k f (increment a l g n t) found h o =
    let sum : ℤ = unwrap_or (counted found) (pos 0) +ℤ a in
    let w : within lowest64 highest64 sum ≡ true =
    and_left (within lowest64 highest64 sum) (within l g sum) (not-false (within lowest64 highest64 sum && within l g sum) o) in
    record { short = omega (arith, length_integer64 sum w); bytes = bytes_integer sum }
deed_short now ss k f (expire t n) None h o = loosen answer_most (omega arith) (few_short 0 (omega arith))
deed_short now ss k f (expire t n) (Some e) h o = loosen answer_most (omega arith) (few_short 1 (omega arith))
deed_short now ss k f persist None h o = loosen answer_most (omega arith) (few_short 0 (omega arith))
deed_short now ss k f persist (Some e) h o =
    either_short answer_most (has_expiry e.expiry) _ _ (loosen answer_most (omega arith) (few_short 1 (omega arith)))
    (loosen answer_most (omega arith) (few_short 0 (omega arith)))
deed_short now ss k f (renumber v) None h o = loosen answer_most (omega arith) (few_short 0 (omega arith))
deed_short now ss k f (renumber v) (Some e) h o = loosen answer_most (omega arith) (few_short 1 (omega arith))
deed_short now ss k f (ask q) found h o = answer_short now ss k q found h
