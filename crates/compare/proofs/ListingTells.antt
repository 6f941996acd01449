-- What a listing tells of two stores: each line, the empty listing, and the keys and fields marked `~`.
use Rattle.std.specs.Prelude.{Option, None, Some}
use mathlib.Core.Path.{◌≡◌, refl, sym, ◌∙◌}
use mathlib.Core.Logic.{◌⊎◌, inl, inr, ◌↔◌}
use mathlib.Core.Bool.{Bool, true, false, cond, not}
use mathlib.Core.List.Memᴰ
use mathlib.Core.List.{List, [], ◌∷◌, ◌++◌, flatten, Memᴰ}
use Prim.Native.Nat.{ℕ, suc, ◌+◌}
use native.Mathlib.Omega.{arith}
use lib.Dec.{ltb, eqb}
use lib.ListN.{length}
use borrow.Author.Tests.{lt-ltb}
use Rattle.wire.specs.Lists.{all, or_else}
use Rattle.wire.specs.Bytes.{text}
use Rattle.wire.specs.Integers.{natural_text}
use Rattle.wire.proofs.IntegerDigits.{text_natural, value_text}
use Rattle.wire.proofs.Lists.{and_both, impossible}
use Rattle.store.specs.Store.{Entry, Slot, Store}
use Rattle.store.specs.Time.{live}
use Rattle.store.specs.Valid.{Apart}
use Rattle.compare.specs.Listing.{only_first, only_second, different, first_mark, second_mark, Line, line_of, lines_from, lines, spaced, line_text, listing_of, listing}
use Rattle.compare.specs.Claims.{LiveAt, LiveIn, SameLive, SameName, Missing, Changed, line, has_mark, ascending, InOrder, Spelled, Written, MarkedDifferent}
use Rattle.compare.proofs.ListedLines.{live_once, Lists, listed_lists, lists_listed, FirstMarked, first_marked, SecondMarked, second_marked, missing_first, missing_second, changed_first}
use Rattle.compare.proofs.ListedLines.FirstMarked.{alone, changed, alike}
use Rattle.compare.proofs.ListedLines.SecondMarked.{unmatched, matched}

-- ---- what a mark says

first_says : (instant : ℕ) (e : Entry) (other : List Slot) {o : Option ℕ} (m : ℕ) → FirstMarked instant e other o → o ≡ Some m
    → ((m ≡ only_first) × Missing instant other e) ⊎ ((m ≡ different) × Changed instant other e)
first_says instant e other m (alone x) h = inl (cc, x)
first_says instant e other m (changed x) h = inr (cc, x)
first_says instant e other m (alike x) h = impossible cc

second_says : (instant : ℕ) (e : Entry) (other : List Slot) {o : Option ℕ} (m : ℕ) → SecondMarked instant e other o → o ≡ Some m
    → (m ≡ only_second) × Missing instant other e
second_says instant e other m (unmatched x) h = (cc, x)
second_says instant e other m (matched g i n) h = impossible cc

-- ---- what a line says

module _ (instant : ℕ) (first second : List Slot) where
  -- it is about a slot of the first store, or of the second
  unfoldable pub InFirst : Line → Type 0
  InFirst l =
      LiveAt instant first l.slot l.entry
      × (((l.mark ≡ only_first) × Missing instant second l.entry) ⊎ ((l.mark ≡ different) × Changed instant second l.entry))

  unfoldable pub InSecond : Line → Type 0
  InSecond l = LiveAt instant second l.slot l.entry × (l.mark ≡ only_second) × Missing instant first l.entry

  numbered : (mark : Entry → Option ℕ) (ss : List Slot) (l : Line) (q : Lists instant mark 0 ss l) → LiveAt instant ss l.slot l.entry
  numbered mark ss l q =
      let n : q.place ≡ l.slot = omega (arith, q.number) in
      rw n at q.at

  pub line_says : (l : Line) → Memᴰ l (lines instant first second) → InFirst l ⊎ InSecond l
  unfolding lines InFirst InSecond
  line_says l m = go (Memᴰ.append_cases (lines_from instant (first_mark instant second) 0 first) m)
    where
      go : Memᴰ l (lines_from instant (first_mark instant second) 0 first) ⊎ Memᴰ l (lines_from instant (second_mark instant first) 0 second) → InFirst l ⊎ InSecond l
      go (inl d) =
          let q = listed_lists instant (first_mark instant second) 0 first l d in
          inl (numbered (first_mark instant second) first l q, first_says instant l.entry second l.mark (first_marked instant l.entry second) q.marked)
      go (inr d) =
          let q = listed_lists instant (second_mark instant first) 0 second l d in
          let r = second_says instant l.entry first l.mark (second_marked instant l.entry first) q.marked in
          inr (numbered (second_mark instant first) second l q, r.0, r.1)

  pub marks_known : (l : Line) → Memᴰ l (lines instant first second) → (l.mark ≡ only_first) ⊎ ((l.mark ≡ only_second) ⊎ (l.mark ≡ different))
  unfolding InFirst InSecond
  marks_known l m = go (line_says l m)
    where
      go : InFirst l ⊎ InSecond l → (l.mark ≡ only_first) ⊎ ((l.mark ≡ only_second) ⊎ (l.mark ≡ different))
      go (inl (a, inl q)) = inl q.0
      go (inl (a, inr q)) = inr (inr q.0)
      go (inr q) = inr (inl q.1)

  -- and back
  from_zero : (mark : Entry → Option ℕ) (ss : List Slot) (i : ℕ) (e : Entry) (m : ℕ) → LiveAt instant ss i e → mark e ≡ Some m → Memᴰ (line m e i) (lines_from instant mark 0 ss)
  from_zero mark ss i e m a h =
      let n : 0 + i ≡ i = omega arith in
      rw n at (lists_listed instant mark 0 ss i e m a h)

  in_first : (i : ℕ) (e : Entry) (m : ℕ) → LiveAt instant first i e → first_mark instant second e ≡ Some m → Memᴰ (line m e i) (lines instant first second)
  unfolding lines
  in_first i e m a h =
      Memᴰ.append_left {s = lines_from instant (first_mark instant second) 0 first} (lines_from instant (second_mark instant first) 0 second) (from_zero (first_mark instant second) first i e m a h)

  in_second : (i : ℕ) (e : Entry) → LiveAt instant second i e → Missing instant first e → Memᴰ (line only_second e i) (lines instant first second)
  unfolding lines
  in_second i e a h =
      Memᴰ.append_right (lines_from instant (first_mark instant second) 0 first) (from_zero (second_mark instant first) second i e only_second a (missing_second instant e first h))

  pub only_first_lem : (e : Entry) (i : ℕ) → Memᴰ (line only_first e i) (lines instant first second) ↔ (LiveAt instant first i e × Missing instant second e)
  unfolding InFirst InSecond
  only_first_lem e i = (λ m. go (line_says (line only_first e i) m), λ q. in_first i e only_first q.0 (missing_first instant e second q.1))
    where
      go : InFirst (line only_first e i) ⊎ InSecond (line only_first e i) → LiveAt instant first i e × Missing instant second e
      go (inl (a, inl q)) = (a, q.1)
      go (inl (a, inr q)) = absurd (omega (arith, q.0))
      go (inr q) = absurd (omega (arith, q.1))

  pub only_second_lem : (e : Entry) (i : ℕ) → Memᴰ (line only_second e i) (lines instant first second) ↔ (LiveAt instant second i e × Missing instant first e)
  unfolding InFirst InSecond
  only_second_lem e i = (λ m. go (line_says (line only_second e i) m), λ q. in_second i e q.0 q.1)
    where
      go : InFirst (line only_second e i) ⊎ InSecond (line only_second e i) → LiveAt instant second i e × Missing instant first e
      go (inl (a, inl q)) = absurd (omega (arith, q.0))
      go (inl (a, inr q)) = absurd (omega (arith, q.0))
      go (inr q) = (q.0, q.2)

  pub only_changed : Apart second → (e : Entry) (i : ℕ) → Memᴰ (line different e i) (lines instant first second) ↔ (LiveAt instant first i e × Changed instant second e)
  unfolding InFirst InSecond
  only_changed a e i = (λ m. go (line_says (line different e i) m), λ q. in_first i e different q.0 (changed_first instant e second a q.1))
    where
      go : InFirst (line different e i) ⊎ InSecond (line different e i) → LiveAt instant first i e × Changed instant second e
      go (inl (x, inl q)) = absurd (omega (arith, q.0))
      go (inl (x, inr q)) = (x, q.1)
      go (inr q) = absurd (omega (arith, q.1))

-- ---- the empty listing

no_lines : (ls : List Line) → ((l : Line) → Memᴰ l ls → ⊥) → ls ≡ []
no_lines [] h = refl
no_lines (l ∷ ls) h = absurd (h l (Memᴰ.head refl))

-- a line's text is not empty
no_text : (ls : List Line) → listing_of ls ≡ [] → ls ≡ []
unfolding listing_of flatten line_text
no_text [] h = refl
no_text (l ∷ ls) h = impossible cc

module _ (instant : ℕ) (first second : List Slot) (v : Apart first) (w : Apart second) where
  own : (e : Entry) → SameName e e
  own e = record { key = refl; field = refl }

  -- no line: what is live in the first store is live in the second, and back
  alike_there : lines instant first second ≡ [] → (e : Entry) → LiveIn instant first e → LiveIn instant second e
  alike_there h e i = go (first_mark instant second e) (first_marked instant e second) refl
    where
      go : (o : Option ℕ) → FirstMarked instant e second o → first_mark instant second e ≡ o → LiveIn instant second e
      go o (alone x) q = absurd (Memᴰ.not-nil (rw h at (in_first instant first second i.slot e only_first i.at q)))
      go o (changed x) q = absurd (Memᴰ.not-nil (rw h at (in_first instant first second i.slot e different i.at q)))
      go o (alike x) q = x

  alike_back : lines instant first second ≡ [] → (e : Entry) → LiveIn instant second e → LiveIn instant first e
  alike_back h e i = go (second_marked instant e first)
    where
      go : {o : Option ℕ} → SecondMarked instant e first o → LiveIn instant first e
      go (unmatched x) = absurd (Memᴰ.not-nil (rw h at (in_second instant first second i.slot e i.at x)))
      go (matched g j n) =
          let z : e ≡ g = live_once instant second w e g i (alike_there h g j) n in
          rw z j

  same_no_line : SameLive instant first second → (l : Line) → Memᴰ l (lines instant first second) → ⊥
  unfolding InFirst InSecond
  same_no_line h l m = go (line_says instant first second l m)
    where
      go : InFirst instant first second l ⊎ InSecond instant first second l → ⊥
      go (inl (a, inl q)) = q.1 l.entry ((h l.entry).0 (record { slot = l.slot; at = a })) (own l.entry)
      go (inl (a, inr q)) =
          let c = q.1 in
          c.changed (live_once instant second w l.entry c.other ((h l.entry).0 (record { slot = l.slot; at = a })) c.live c.named)
      go (inr (a, q, x)) = x l.entry ((h l.entry).1 (record { slot = l.slot; at = a })) (own l.entry)

  pub same_exactly : (lines instant first second ≡ []) ↔ SameLive instant first second
  same_exactly = (λ h e. (alike_there h e, alike_back h e), λ h. no_lines (lines instant first second) (same_no_line h))

  -- ---- the keys and fields marked `~`

  pub marked_swaps : (k f : List ℕ) → MarkedDifferent instant first second k f → MarkedDifferent instant second first k f
  marked_swaps k f m =
      let q = (only_changed instant first second w m.entry m.slot).0 m.listed in
      let c = q.1 in
      record {
        entry = c.other;
        slot = c.live.slot;
        listed =
            (only_changed instant second first v c.other c.live.slot).1 (
              c.live.at,
              record {
                other = m.entry;
                live = record { slot = m.slot; at = q.0 };
                named = record { key = sym c.named.key; field = sym c.named.field };
                changed = λ z. c.changed (sym z);
              },
            );
        key = sym c.named.key ∙ m.key;
        field = sym c.named.field ∙ m.field;
      }

pub empty_exactly : (instant : ℕ) (first second : Store) → Apart first.slots → Apart second.slots
    → (listing instant first second ≡ []) ↔ SameLive instant first.slots second.slots
unfolding listing listing_of flatten
empty_exactly instant first second v w =
    let e = same_exactly instant first.slots second.slots v w in
    (λ h. e.0 (no_text (lines instant first.slots second.slots) h), λ s. rw (e.1 s))

-- ---- the order of lines

all_members : (p : Line → Bool) (ls : List Line) → ((l : Line) → Memᴰ l ls → p l ≡ true) → all p ls ≡ true
unfolding all
all_members p [] h = refl
all_members p (l ∷ ls) h = and_both (h l (Memᴰ.head refl)) (all_members p ls (λ m d. h m (Memᴰ.tail d)))

module _ (instant : ℕ) (mark : Entry → Option ℕ) where
  -- later slots have higher numbers
  above : (i : ℕ) (ss : List Slot) → all (λ m. ltb i m.slot) (lines_from instant mark (suc i) ss) ≡ true
  above i ss = all_members (λ m. ltb i m.slot) (lines_from instant mark (suc i) ss) (λ l d. lt-ltb i l.slot (omega (arith, (listed_lists instant mark (suc i) ss l d).number)))

  ascend : (i : ℕ) (ss : List Slot) → ascending (lines_from instant mark i ss) ≡ true
  unfolding lines_from line_of ascending or_else
  ascend i [] = refl
  ascend i (None ∷ ss) = ascend (suc i) ss
  ascend i (Some e ∷ ss) = go (live instant e) (mark e) (ascend (suc i) ss)
    where
      go : (t : Bool) (o : Option ℕ) → ascending (lines_from instant mark (suc i) ss) ≡ true
          → ascending (cond t (or_else o [] (λ m. line m e i ∷ [])) [] ++ lines_from instant mark (suc i) ss) ≡ true
      go true None h = h
      go true (Some m) h = and_both (above i ss) h
      go false o h = h

pub ordered : (instant : ℕ) (first second : List Slot) → InOrder (lines instant first second)
unfolding lines has_mark
ordered instant first second =
    record {
      firsts = lines_from instant (first_mark instant second) 0 first;
      seconds = lines_from instant (second_mark instant first) 0 second;
      parts = refl;
      not_second = all_members (λ l. not (has_mark only_second l)) (lines_from instant (first_mark instant second) 0 first) not_second;
      all_second = all_members (has_mark only_second) (lines_from instant (second_mark instant first) 0 second) all_second;
      ordered = ascend instant (first_mark instant second) 0 first;
      also_ordered = ascend instant (second_mark instant first) 0 second;
    }
  where
    other : (m : ℕ) → (m ≡ only_first) ⊎ (m ≡ different) → not (eqb m only_second) ≡ true
    other m (inl h) = rw h refl
    other m (inr h) = rw h refl

    which : (m : ℕ) {A B : Type 0} → ((m ≡ only_first) × A) ⊎ ((m ≡ different) × B) → (m ≡ only_first) ⊎ (m ≡ different)
    which m (inl q) = inl q.0
    which m (inr q) = inr q.0

    not_second : (l : Line) → Memᴰ l (lines_from instant (first_mark instant second) 0 first) → not (eqb l.mark only_second) ≡ true
    not_second l d =
        let q = listed_lists instant (first_mark instant second) 0 first l d in
        other l.mark (which l.mark (first_says instant l.entry second l.mark (first_marked instant l.entry second) q.marked))

    all_second : (l : Line) → Memᴰ l (lines_from instant (second_mark instant first) 0 second) → eqb l.mark only_second ≡ true
    all_second l d =
        let q = listed_lists instant (second_mark instant first) 0 second l d in
        rw (second_says instant l.entry first l.mark (second_marked instant l.entry first) q.marked).0 refl

-- ---- the text

spelled : (l : Line) → Spelled l (line_text l)
unfolding line_text spaced text
spelled l =
    record {
      key = natural_text (length l.entry.key);
      field = natural_text (length l.entry.field);
      slot = natural_text l.slot;
      whole = refl;
      key_plain = text_natural (length l.entry.key);
      key_length = value_text (length l.entry.key);
      field_plain = text_natural (length l.entry.field);
      field_length = value_text (length l.entry.field);
      slot_plain = text_natural l.slot;
      slot_number = value_text l.slot;
    }

pub written : (ls : List Line) → Written ls (listing_of ls)
unfolding listing_of flatten
written [] = Written.nothing
written (l ∷ ls) = Written.next (spelled l) (written ls)
