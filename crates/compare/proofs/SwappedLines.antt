-- The stores swapped: the `<` lines become the `>` lines.
use Rattle.std.specs.Prelude.{Option, None, Some}
use mathlib.Core.Path.{◌≡◌, refl, ap, ◌∙◌}
use mathlib.Core.Bool.{Bool, true, false, cond, not}
use mathlib.Core.List.{List, [], ◌∷◌, ◌++◌, map, map-append, append-nil}
use Prim.Native.Nat.{ℕ, suc}
use Rattle.wire.specs.Lists.{keep, only_if, or_else}
use Rattle.store.specs.Store.{Entry, Slot, entry_at}
use Rattle.store.specs.Time.{live}
use Rattle.compare.specs.Listing.{live_slot_of, agree, only_first, only_second, different, first_mark, second_mark, Line, line_of, lines_from, lines}
use Rattle.compare.specs.Claims.{line, has_mark, remarked}

-- what is kept of lists one after the other
keep_append : (p : Line → Bool) (ls ms : List Line) → keep p (ls ++ ms) ≡ keep p ls ++ keep p ms
unfolding keep
keep_append p [] ms = refl
keep_append p (l ∷ ls) ms = go (p l) (keep_append p ls ms)
  where
    go : (t : Bool) → keep p (ls ++ ms) ≡ keep p ls ++ keep p ms → cond t (l ∷ keep p (ls ++ ms)) (keep p (ls ++ ms)) ≡ cond t (l ∷ keep p ls) (keep p ls) ++ keep p ms
    go true h = ap (λ (x : List Line). l ∷ x) h
    go false h = h

-- ---- what a mark is

module _ (instant : ℕ) (other : List Slot) (e : Entry) where
  -- of one slot: a `<` line of the first pass where there is a `>` line of the second, else none
  kept : (i : ℕ) → map (remarked only_second) (keep (has_mark only_first) (or_else (first_mark instant other e) [] (λ m. line m e i ∷ [])))
      ≡ keep (has_mark only_second) (or_else (second_mark instant other e) [] (λ m. line m e i ∷ []))
  unfolding first_mark second_mark or_else only_if keep has_mark
  kept i = go (live_slot_of instant e.key e.field other)
    where
      agreed : (t : Bool) → map (remarked only_second) (keep (has_mark only_first) (or_else (only_if (not t) different) [] (λ m. line m e i ∷ []))) ≡ []
      agreed true = refl
      agreed false = refl

      go : (o : Option ℕ) → map (remarked only_second) (keep (has_mark only_first) (or_else (or_else o (Some only_first) (λ j. only_if (not (agree e (entry_at other j))) different)) [] (λ m. line m e i ∷ [])))
          ≡ keep (has_mark only_second) (or_else (or_else {B = Option ℕ} o (Some only_second) (λ j. None)) [] (λ m. line m e i ∷ []))
      go None = refl
      go (Some j) = agreed (agree e (entry_at other j))

  -- the first pass has no `>` line, the second no `<` line
  not_second : (i : ℕ) → keep (has_mark only_second) (or_else (first_mark instant other e) [] (λ m. line m e i ∷ [])) ≡ []
  unfolding first_mark or_else only_if keep has_mark
  not_second i = go (live_slot_of instant e.key e.field other)
    where
      agreed : (t : Bool) → keep (has_mark only_second) (or_else (only_if (not t) different) [] (λ m. line m e i ∷ [])) ≡ []
      agreed true = refl
      agreed false = refl

      go : (o : Option ℕ) → keep (has_mark only_second) (or_else (or_else o (Some only_first) (λ j. only_if (not (agree e (entry_at other j))) different)) [] (λ m. line m e i ∷ [])) ≡ []
      go None = refl
      go (Some j) = agreed (agree e (entry_at other j))

  not_first : (i : ℕ) → keep (has_mark only_first) (or_else (second_mark instant other e) [] (λ m. line m e i ∷ [])) ≡ []
  unfolding second_mark or_else keep has_mark
  not_first i = go (live_slot_of instant e.key e.field other)
    where
      go : (o : Option ℕ) → keep (has_mark only_first) (or_else (or_else {B = Option ℕ} o (Some only_second) (λ j. None)) [] (λ m. line m e i ∷ [])) ≡ []
      go None = refl
      go (Some j) = refl

-- ---- all slots

module _ (instant : ℕ) (other : List Slot) where
  kept_slot : (i : ℕ) (s : Slot) → map (remarked only_second) (keep (has_mark only_first) (line_of instant (first_mark instant other) i s))
      ≡ keep (has_mark only_second) (line_of instant (second_mark instant other) i s)
  unfolding line_of keep
  kept_slot i None = refl
  kept_slot i (Some e) = go (live instant e)
    where
      go : (t : Bool) → map (remarked only_second) (keep (has_mark only_first) (cond t (or_else (first_mark instant other e) [] (λ m. line m e i ∷ [])) []))
          ≡ keep (has_mark only_second) (cond t (or_else (second_mark instant other e) [] (λ m. line m e i ∷ [])) [])
      go true = kept instant other e i
      go false = refl

  kept_slots : (i : ℕ) (ss : List Slot) → map (remarked only_second) (keep (has_mark only_first) (lines_from instant (first_mark instant other) i ss))
      ≡ keep (has_mark only_second) (lines_from instant (second_mark instant other) i ss)
  unfolding lines_from keep
  kept_slots i [] = refl
  kept_slots i (s ∷ ss) =
      rw (
        keep_append (has_mark only_first) (line_of instant (first_mark instant other) i s) (lines_from instant (first_mark instant other) (suc i) ss),
        keep_append (has_mark only_second) (line_of instant (second_mark instant other) i s) (lines_from instant (second_mark instant other) (suc i) ss),
        map-append (remarked only_second) (keep (has_mark only_first) (line_of instant (first_mark instant other) i s)) (keep (has_mark only_first) (lines_from instant (first_mark instant other) (suc i) ss)),
        kept_slot i s,
        kept_slots (suc i) ss,
      )

-- what no slot gives, no slots give
none_kept : (instant : ℕ) (p : Line → Bool) (mark : Entry → Option ℕ) → ((e : Entry) (i : ℕ) → keep p (or_else (mark e) [] (λ m. line m e i ∷ [])) ≡ [])
    → (i : ℕ) (ss : List Slot) → keep p (lines_from instant mark i ss) ≡ []
unfolding lines_from line_of keep
none_kept instant p mark h i [] = refl
none_kept instant p mark h i (s ∷ ss) = keep_append p (line_of instant mark i s) (lines_from instant mark (suc i) ss) ∙ rw (slot s, none_kept instant p mark h (suc i) ss)
  where
    one : (e : Entry) (t : Bool) → keep p (cond t (or_else (mark e) [] (λ m. line m e i ∷ [])) []) ≡ []
    one e true = h e i
    one e false = refl

    slot : (s : Slot) → keep p (line_of instant mark i s) ≡ []
    slot None = refl
    slot (Some e) = one e (live instant e)

pub swapped : (instant : ℕ) (first second : List Slot)
    → map (remarked only_second) (keep (has_mark only_first) (lines instant first second)) ≡ keep (has_mark only_second) (lines instant second first)
unfolding lines
swapped instant first second =
    rw (
      keep_append (has_mark only_first) (lines_from instant (first_mark instant second) 0 first) (lines_from instant (second_mark instant first) 0 second),
      keep_append (has_mark only_second) (lines_from instant (first_mark instant first) 0 second) (lines_from instant (second_mark instant second) 0 first),
      none_kept instant (has_mark only_first) (second_mark instant first) (not_first instant first) 0 second,
      none_kept instant (has_mark only_second) (first_mark instant first) (not_second instant first) 0 second,
      append-nil,
    )
    (kept_slots instant second 0 first)
