-- Every reply fits in 56,000 bytes.
use Rattle.std.specs.Prelude.{None, Some}
use mathlib.Core.Path.{◌≡◌, refl}
use mathlib.Core.Bool.{Bool, true, false, cond}
use mathlib.Core.List.{List, [], ◌∷◌, ◌++◌, map, flat_map, flatten}
use Prim.Native.Nat.{◌+◌, ℕ, zero, suc, ◌*◌, ◌≤◌}
use lib.ListN.{length, get_or, length-append, length-map}
use native.Mathlib.Omega.{arith}
use Rattle.wire.specs.Lists.{any, keep, or_else}
use Rattle.wire.specs.Bytes.{text}
use Rattle.wire.specs.Words.{Word}
use Rattle.wire.specs.Replies.{header, line, number, bulk, array}
use Rattle.wire.proofs.ByteLaws.{bytes_append}
use Rattle.wire.proofs.Lists.{length_keep}
use Rattle.wire.proofs.ReplyLaws.{bytes_header, length_header, flatten_append}
use Rattle.store.specs.Layout.{slots_most}
use Rattle.store.specs.Store.{Entry, Slot, Store, holds}
use Rattle.store.specs.Time.{now_at, entry_of, of_key, live_of_key}
use Rattle.store.specs.Valid.{Fits, FitsSlot, AllFit, Valid}
use Rattle.commands.specs.declared.Listing.{Listing}
use Rattle.commands.specs.declared.Listing.TheVariants.{Fields, Values, Both}
use Rattle.commands.specs.Refusal.{buffer_least}
use Rattle.commands.specs.Command.{Command, key_of, fields_of}
use Rattle.commands.specs.Command.Command.{on_field, set_many, get_many, delete, count_held, count_live, list}
use Rattle.commands.specs.Effect.{reply, listed, listed_slot, effect}
use Rattle.commands.specs.Execute.{Outcome, exec}
use Rattle.commands.specs.Promises.{answer_most, fields_most}
use Rattle.commands.proofs.Went.{Went, went, swept_by}
use Rattle.commands.proofs.Went.Went.{early, late, done}
use Rattle.commands.proofs.Full.{proper}
use Rattle.commands.proofs.Replies.{loosen, error_short, value_short, field_short, few_short, array_short, answer_short, deed_short}
use Rattle.commands.proofs.Sound.{Bounded, parse_few}
use Rattle.commands.proofs.Writes.{found_fits}
use Rattle.commands.proofs.Sweep.{sweep_fits, length_sweep}

-- the most elements that a listing shows and the bytes of them: a field and a value of each entry, with the lengths and line ends around them
abbrev pub elements_most : ℕ
elements_most = 2 * slots_most

abbrev listed_most : ℕ
listed_most = 110 * slots_most

-- the most bytes of an array of answers about fields, and of any reply
abbrev many_most : ℕ
many_most = fields_most * answer_most + 5

abbrev reply_most : ℕ
reply_most = listed_most + 7

-- Lists one after the other.
join_short : {a b : ℕ} (r t : List ℕ) → Bounded a r → Bounded b t → Bounded (a + b) (r ++ t)
join_short r t h g = record { short = rw (length-append r t) (omega (arith, h.short, g.short)); bytes = bytes_append r t h.bytes g.bytes }

empty_short : Bounded 0 []
empty_short = record { short = omega arith; bytes = refl }

-- a list of elements, and their bytes together
record Listed (n most : ℕ) (xs : List (List ℕ)) : Type 0 where
  count : length xs ≤ n
  sum : Bounded most (flatten xs)

-- the elements that one entry gives: at most two, of at most 110 bytes together
listed_entry : (l : Listing) (e : Entry) → Fits e → Listed 2 110 (listed l e)
unfolding listed flatten
listed_entry Fields e h = record { count = omega arith; sum = loosen 110 (omega arith) (join_short (bulk e.field) [] (field_short e h) empty_short) }
listed_entry Values e h = record { count = omega arith; sum = loosen 110 (omega arith) (join_short (bulk e.value) [] (value_short e h) empty_short) }
listed_entry Both e h =
    record {
      count = omega arith;
      sum = join_short (bulk e.field) (bulk e.value ++ []) (field_short e h) (join_short (bulk e.value) [] (value_short e h) empty_short);
    }

listed_slot_lem : (l : Listing) (s : Slot) → FitsSlot s → Listed 2 110 (listed_slot l s)
unfolding listed_slot or_else flatten
listed_slot_lem l None h = record { count = omega arith; sum = loosen 110 (omega arith) empty_short }
listed_slot_lem l (Some e) h = listed_entry l e h

-- the elements that slots give: at most two a slot, of at most 110 bytes together
listed_slots : (l : Listing) (p : Slot → Bool) (ss : List Slot) → AllFit ss
    → Listed (2 * length ss) (110 * length ss) (flat_map (listed_slot l) (keep p ss))
unfolding flat_map keep flatten
listed_slots l p [] h = record { count = omega arith; sum = empty_short }
listed_slots l p (s ∷ ss) h = go (p s) (listed_slot_lem l s (h 0)) (listed_slots l p ss (λ i. h (suc i)))
  where
    go : (t : Bool) → Listed 2 110 (listed_slot l s) → Listed (2 * length ss) (110 * length ss) (flat_map (listed_slot l) (keep p ss))
        → Listed (2 * suc (length ss)) (110 * suc (length ss)) (flat_map (listed_slot l) (cond t (s ∷ keep p ss) (keep p ss)))
    go true a b =
        record {
          count = rw (length-append (listed_slot l s) (flat_map (listed_slot l) (keep p ss))) (omega (arith, a.count, b.count));
          sum = rw (flatten_append (listed_slot l s) (flat_map (listed_slot l) (keep p ss)))
              (loosen (110 * suc (length ss)) (omega arith)
              (join_short (flatten (listed_slot l s)) (flatten (flat_map (listed_slot l) (keep p ss))) a.sum b.sum));
        }
    go false a b = record { count = omega (arith, b.count); sum = loosen (110 * suc (length ss)) (omega arith) b.sum }

count_short : (p : Slot → Bool) (ss : List Slot) → length ss ≤ slots_most → Bounded 6 (number (length (keep p ss)))
count_short p ss n = few_short (length (keep p ss)) (omega (arith, length_keep p ss))

ok_short : Bounded 5 (line "+OK")
unfolding line text
ok_short = record { short = omega arith; bytes = refl }

map_short : (most : ℕ) (g : Word → List ℕ) (fs : List Word) → ((f : Word) → Bounded most (g f)) → (i : ℕ) → Bounded most (get_or (map g fs) i [])
map_short most g [] h i = loosen most (omega arith) empty_short
map_short most g (f ∷ fs) h zero = h f
map_short most g (f ∷ fs) h (suc i) = map_short most g fs h i

-- an array of at most 62 replies about one field
many_short : (g : Word → List ℕ) (fs : List Word) → length fs ≤ fields_most → ((f : Word) → Bounded answer_most (g f)) → Bounded many_most (array (map g fs))
many_short g fs few h =
    let n : length (map g fs) ≡ length fs = length-map fs g in
    loosen many_most (omega arith) (array_short 2 answer_most (map g fs) (omega arith) (omega arith) (map_short answer_most g fs h))

-- an array of at most 1,000 elements
list_short : (xs : List (List ℕ)) → Listed elements_most listed_most xs → Bounded reply_most (array xs)
unfolding array
list_short xs h =
    join_short (header (length xs)) (flatten xs)
    (record { short = length_header 4 (length xs) (omega arith) (omega (arith, h.count)); bytes = bytes_header (length xs) })
    h.sum

-- An accepted command that is not refused replies in at most 55,007 bytes.
pub effect_short : (now : ℕ) (c : Command) (ss : List Slot) → AllFit ss → length ss ≤ slots_most → length (fields_of c) ≤ fields_most
    → (effect now c ss).overflows ≡ false → Bounded reply_most (effect now c ss).reply
unfolding effect fields_of
effect_short now (on_field k f d) ss h n few o = loosen reply_most (omega arith) (deed_short now ss k f d (entry_of k f ss) (found_fits k f ss h) o)
effect_short now (set_many k ps) ss h n few o = loosen reply_most (omega arith) ok_short
effect_short now (get_many k fs q) ss h n few o =
    loosen reply_most (omega arith)
    (many_short (λ f. reply now ss k q (entry_of k f ss)) fs few (λ f. answer_short now ss k q (entry_of k f ss) (found_fits k f ss h)))
effect_short now (delete k fs) ss h n few o = loosen reply_most (omega arith) (count_short (λ s. any (λ f. holds k f s) fs) ss n)
effect_short now (count_held k) ss h n few o = loosen reply_most (omega arith) (count_short (of_key k) ss n)
effect_short now (count_live k) ss h n few o = loosen reply_most (omega arith) (count_short (live_of_key now k) ss n)
effect_short now (list k l) ss h n few o =
    let a = listed_slots l (live_of_key now k) ss h in
    list_short (flat_map (listed_slot l) (keep (live_of_key now k) ss))
    (record { count = omega (arith, a.count); sum = loosen listed_most (omega arith) a.sum })

exec_short : (clock : ℕ) (command : List ℕ) (s : Store) → Valid s → Bounded reply_most (exec clock command s).reply
exec_short clock command s v = go (went clock command s)
  where
    go : {o : Outcome} → Went clock command s o → Bounded reply_most o.reply
    go (early n p) = loosen reply_most (omega arith) (error_short n)
    go (late c n p l) = loosen reply_most (omega arith) (error_short n)
    go (done c p l) =
        effect_short (now_at clock s) c (swept_by (now_at clock s) c s) (sweep_fits (now_at clock s) (key_of c) (fields_of c) s.slots v.fits)
        (omega (arith, length_sweep (now_at clock s) (key_of c) (fields_of c) s.slots, v.most))
        (parse_few (now_at clock s) clock command c p)
        (proper (now_at clock s) c s l).0.bounded

-- Every reply fits in the least buffer.
pub reply_fits : (clock : ℕ) (command : List ℕ) (s : Store) → Valid s → length (exec clock command s).reply ≤ buffer_least
reply_fits clock command s v = omega (arith, (exec_short clock command s v).short)
