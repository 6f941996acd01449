-- Loops over the fields that the words of a command name: what is left does the same.
use mathlib.Core.Path.{◌≡◌, refl, sym, ap, ◌∙◌}
use mathlib.Core.Bool.{true}
use mathlib.Core.List.{List, [], ◌∷◌, ◌++◌, map, flatten}
use Prim.Native.Nat.{ℕ, suc, ◌+◌, ◌-◌, ◌*◌, ◌/◌, ◌≤◌, ◌<◌}
use native.Mathlib.Numerals.{add-one}
use native.Mathlib.Omega.{arith}
use lib.ListN.{length, drop, length-map, length-drop, drop_of_length-le}
use lib.Seq.{drop-cons, get_or-drop, drop-drop}
use Rattle.wire.specs.Lists.{keep, or_else}
use Rattle.wire.specs.Words.{Word, word_at}
use Rattle.wire.specs.Replies.{header, array}
use Rattle.wire.specs.Promises.{Laid}
use Rattle.wire.proofs.Lists.{length_keep}
use Rattle.wire.proofs.ReplyLaying.{laid_length}
use Rattle.wire.proofs.ReplyLaws.{length_header}
use Rattle.store.specs.Layout.{slots_most}
use Rattle.store.specs.Store.{Slot, Store, decode, well_formed}
use Rattle.store.specs.Time.{live_of_key}
use Rattle.store.specs.Promises.{Holds}
use Rattle.store.proofs.Encode.{decode_valid}
use Rattle.commands.specs.declared.Question.{Question}
use Rattle.commands.specs.declared.Listing.{Listing}
use Rattle.commands.specs.declared.Listing.TheVariants.{Fields, Values, Both}
use Rattle.commands.specs.Refusal.{buffer_least}
use Rattle.commands.specs.Command.{fields_of}
use Rattle.commands.specs.Parse.{pairs_of}
use Rattle.commands.specs.Command.Command.{get_many, list}
use Rattle.commands.specs.Effect.{change_all, effect}
use Rattle.commands.specs.Effect.Change.{remove}
use Rattle.commands.specs.Execute.{swept}
use Rattle.commands.specs.Promises.{answer_most, answer_about, answers_of, fields_most, listed_of, width_of, Removes, Deletes, firsts, each_first, fields_in}
use Rattle.commands.proofs.Fit.{effect_short, elements_most}
use Rattle.wire.proofs.Elements.{Next}
use Rattle.commands.proofs.ListedSlots.{shown_count}
use Rattle.commands.proofs.FieldSweeps.{named, keep_unnamed, dead_more, dead_none, count_more}

-- the words from place i on
unfoldable pub words_from : List Word → ℕ → List Word
words_from ws i = drop i ws

module _ (ws : List Word) (i : ℕ) where
  pub next_word : i < length ws → {f : Word} → f ≡ word_at i ws → words_from ws i ≡ f ∷ words_from ws (i + 1)
  unfolding words_from word_at
  next_word l q = drop-cons ws i [] l ∙ rw (q, add-one)

  pub no_word : length ws ≤ i → words_from ws i ≡ []
  unfolding words_from
  no_word l = drop_of_length-le ws {i = i} l

  pub length_from : length (words_from ws i) ≡ length ws - i
  unfolding words_from
  length_from = length-drop i ws

-- ---- each first of so many words

module _ (step : ℕ) (ws : List Word) where
  -- those from number i on
  unfoldable pub firsts_from : ℕ → List Word
  firsts_from i = firsts step (length ws / step - i) (drop (step * i) ws)

  pub all_firsts : firsts_from 0 ≡ each_first step ws
  unfolding firsts_from each_first
  all_firsts =
      let z : step * 0 ≡ 0 = omega arith in
      let n : length ws / step - 0 ≡ length ws / step = omega arith in
      rw (z, n) refl

  pub next_first : (i : ℕ) → i < length ws / step → {f : Word} → f ≡ word_at (step * i) ws
      → firsts_from i ≡ f ∷ firsts_from (i + 1)
  unfolding firsts_from firsts word_at
  next_first i l q =
      let n : length ws / step - i ≡ suc (length ws / step - (i + 1)) = omega arith in
      let m : step * i + step ≡ step * (i + 1) = omega arith in
      let z : step * i + 0 ≡ step * i = omega arith in
      rw (n, q, get_or-drop (step * i) ws 0 [], drop-drop step (step * i) ws, m, z) refl

  pub no_first : (i : ℕ) → length ws / step ≤ i → firsts_from i ≡ []
  unfolding firsts_from firsts
  no_first i l = let n : length ws / step - i ≡ 0 = omega arith in rw n

-- one by one they are all, two by two the fields of pairs
pub each_word : (ws : List Word) → each_first 1 ws ≡ ws
unfolding each_first firsts word_at
each_word [] = refl
each_word (w ∷ ws) = let n : length (w ∷ ws) / 1 ≡ suc (length ws / 1) = omega arith in rw n (ap (λ (z : List Word). w ∷ z) (each_word ws))

pub each_field : (ws : List Word) → each_first 2 ws ≡ fields_in ws
unfolding each_first firsts word_at fields_in pairs_of
each_field [] = refl
each_field (w ∷ []) = refl
each_field (w ∷ v ∷ ws) = let n : length (w ∷ v ∷ ws) / 2 ≡ suc (length ws / 2) = omega arith in rw n (ap (λ (z : List Word). w ∷ z) (each_field ws))

-- ---- the dead entries are removed

-- of fields, some are left
pub record Sweeping (now : ℕ) (k : Word) (fields left : List Word) (before after : List ℕ) : Type 0 where
  pub well : well_formed after ≡ true
  pub same : swept now k left (decode after) ≡ swept now k fields (decode before)

module _ {now : ℕ} {k : Word} {fields left : List Word} {b d : List ℕ} (s : Sweeping now k fields left b d) where
  pub sweeping_on : {f : Word} {more : List Word} → left ≡ f ∷ more → {e : List ℕ} → Holds e (swept now k (f ∷ []) (decode d))
      → Sweeping now k fields more b e
  sweeping_on {f} {more} q h =
      record {
        well = h.well;
        same =
            ap (swept now k more) h.means
            ∙ sym (dead_more now k f more (decode d))
            ∙ ap (λ (fs : List Word). swept now k fs (decode d)) (sym q)
            ∙ s.same;
      }

  pub sweeping_ends : left ≡ [] → Holds d (swept now k fields (decode b))
  sweeping_ends q =
      record {
        means = sym (dead_none now k (decode d)) ∙ ap (λ (fs : List Word). swept now k fs (decode d)) (sym q) ∙ s.same;
        well = s.well;
      }

-- ---- the entries are removed

-- of fields, some are left, and m entries are gone
pub record Deleting (k : Word) (fields left : List Word) (before after : List ℕ) (m : ℕ) : Type 0 where
  pub well : well_formed after ≡ true
  pub clock : (decode after).clock ≡ (decode before).clock
  pub slots : (now : ℕ) → change_all now (map (remove k) left) (decode after).slots ≡ change_all now (map (remove k) fields) (decode before).slots
  pub total : m + length (keep (named k left) (decode after).slots) ≡ length (keep (named k fields) (decode before).slots)

pub deleting_begins : {k : Word} {fields : List Word} {b : List ℕ} → well_formed b ≡ true → Deleting k fields fields b b 0
deleting_begins w = record { well = w; clock = refl; slots = λ now. refl; total = omega arith }

module _ {k : Word} {fields left : List Word} {b d : List ℕ} {m : ℕ} (s : Deleting k fields left b d m) where
  -- at most as many as there are slots
  pub deleting_few : well_formed b ≡ true → m ≤ slots_most
  deleting_few w = omega (arith, s.total, length_keep (named k fields) (decode b).slots, (decode_valid b w).most)

  pub deleting_on : {f : Word} {more : List Word} → left ≡ f ∷ more → {e : List ℕ} {r : ℕ} → Removes k f (decode d) e r
      → Deleting k fields more b e (m + r)
  unfolding change_all
  deleting_on {f} {more} q {e} h =
      let after : (now : ℕ) → (decode e).slots ≡ _ = λ now. ap (λ (t : Store). t.slots) (h.store now).means in
      record {
        well = (h.store 0).well;
        clock = ap (λ (t : Store). t.clock) (h.store 0).means ∙ s.clock;
        slots = λ now.
            ap (change_all now (map (remove k) more)) (after now)
            ∙ ap (λ (fs : List Word). change_all now (map (remove k) fs) (decode d).slots) (sym q)
            ∙ s.slots now;
        total =
            omega (
              arith,
              h.count,
              ap (λ (ss : List Slot). length (keep (named k more) ss)) (after 0),
              count_more k f more 0 (decode d).slots,
              ap (λ (fs : List Word). length (keep (named k fs) (decode d).slots)) q,
              s.total,
            );
      }

  pub deleting_ends : left ≡ [] → Deletes k fields (decode b) d m
  unfolding change_all
  deleting_ends q =
      record {
        store = λ now.
            record {
              means = λ j. record {
                clock = s.clock j;
                slots = (ap (λ (fs : List Word). change_all now (map (remove k) fs) (decode d).slots) (sym q) ∙ s.slots now) j;
              };
              well = s.well;
            };
        count =
            omega (
              arith,
              s.total,
              ap (λ (fs : List Word). length (keep (named k fs) (decode d).slots)) q,
              ap length (keep_unnamed k (decode d).slots),
            );
      }

-- ---- the header of an array

module _ {n : ℕ} (few : n ≤ elements_most) where
  pub header_room : {m : ℕ} → buffer_least ≤ m → length (header n) ≤ m
  header_room big = omega (arith, length_header 4 n (omega arith) (omega arith))

  -- what follows it begins within the buffer
  pub header_inside : {d e : List ℕ} {a : ℕ} → buffer_least ≤ length d → Laid (header n) d e a → a ≤ length e
  header_inside big l = omega (arith, l.size, header_room big, laid_length l (header_room big))

-- ---- an answer about each field

-- the answers from place i on
unfoldable pub answers_from : (Word → List ℕ) → List Word → ℕ → List ℕ
answers_from g ws i = flatten (map g (words_from ws i))

module _ (g : Word → List ℕ) (ws : List Word) where
  pub answers_next : (i : ℕ) → i < length ws → {f : Word} → f ≡ word_at i ws
      → Next (answers_from g ws i) (g f) (answers_from g ws (i + 1))
  unfolding answers_from flatten
  answers_next i l q = record { parts = rw (next_word ws i l q) }

  pub answers_over : (i : ℕ) → length ws ≤ i → answers_from g ws i ≡ []
  unfolding answers_from flatten
  answers_over i l = rw (no_word ws i l)

  -- the header, and then the answers
  pub answers_begin : header (length ws) ++ flatten (map g ws) ≡ array (map g ws)
  unfolding array
  answers_begin = rw (length-map ws g)

-- have room, and then there is room for one answer more
module _ (now : ℕ) (b : List ℕ) (k : Word) (q : Question) (ws : List Word)
    (w : well_formed b ≡ true) (few : length ws ≤ fields_most) {n : ℕ} (big : buffer_least ≤ n) where
  pub answers_spare : answer_most + length (header (length ws) ++ flatten (answers_of now b k q ws)) ≤ n
  unfolding effect fields_of answer_about
  answers_spare =
      rw (answers_begin (answer_about now b k q) ws)
      (omega (
        arith,
        (effect_short now (get_many k ws q) (decode b).slots (decode_valid b w).fits (decode_valid b w).most
            few refl).short,
      ))

  pub answers_room : length (header (length ws) ++ flatten (answers_of now b k q ws)) ≤ n
  answers_room = omega (arith, answers_spare)

-- ---- what a listing shows

module _ (now : ℕ) (b : List ℕ) (k : Word) (l : Listing) {m w : ℕ} (p : m ≡ length (keep (live_of_key now k) (decode b).slots)) (q : w ≡ width_of l) where
  -- the header, and then the elements
  pub entries_begin : header (m * w) ++ flatten (listed_of now b k l) ≡ array (listed_of now b k l)
  unfolding array listed_of live_of_key or_else
  entries_begin = rw (p, q, ← shown_count l (live_of_key now k) (decode b).slots refl)

  -- have room
  pub entries_room : well_formed b ≡ true → {n : ℕ} → buffer_least ≤ n → length (header (m * w) ++ flatten (listed_of now b k l)) ≤ n
  unfolding effect fields_of listed_of
  entries_room v big =
      rw entries_begin
      (omega (arith, (effect_short now (list k l) (decode b).slots (decode_valid b v).fits (decode_valid b v).most (omega arith) refl).short))

  -- and are few
  pub entries_few : well_formed b ≡ true → m * w ≤ elements_most
  unfolding width_of
  entries_few v = go l q
    where
      few : m ≤ slots_most
      few = omega (arith, p, length_keep (live_of_key now k) (decode b).slots, (decode_valid b v).most)

      go : (x : Listing) → w ≡ width_of x → m * w ≤ elements_most
      go Fields e = rw e (omega (arith, few))
      go Values e = rw e (omega (arith, few))
      go Both e = rw e (omega (arith, few))
