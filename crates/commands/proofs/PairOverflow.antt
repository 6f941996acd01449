-- The versions that an EXHMSET would write pass their largest exactly where the code's test of the fields says so, also where the store is too full.
use Rattle.std.specs.Prelude.{Option, None, Some}
use mathlib.Core.Path.{◌≡◌, refl, sym, ap, subst, ◌∙◌}
use mathlib.Core.Bool.{Bool, true, false, cond, ◌||◌, and-false}
use mathlib.Core.List.{List, [], ◌∷◌, map}
use Prim.Native.Nat.{ℕ, suc, ◌+◌, ◌≤◌}
use native.Mathlib.Omega.{arith}
use borrow.Author.Tests.{le-ltb}
use lib.Dec.{ltb, eqb}
use lib.ListN.{length, get_or, set}
use Rattle.wire.specs.Lists.{any, keep, or_else}
use Rattle.wire.specs.Bytes.{same}
use Rattle.wire.specs.Words.{Word, words_most}
use Rattle.wire.proofs.Lists.{or_late, both_ways}
use Rattle.wire.proofs.ByteLaws.{same_refl, same_true, same_sym}
use Rattle.store.specs.Layout.{version_most}
use Rattle.store.specs.Store.{Entry, Slot, holds}
use Rattle.store.specs.Time.{before, live, live_slot, empty_slot, dead_slot, lowest_slot, slot_for, entry_of, put}
use Rattle.store.specs.Valid.{Apart}
use Rattle.store.proofs.Slots.{Stands, entry_some, entry_none, entry_is, lowest_entry_none}
use Rattle.store.proofs.Put.{put_apart, put_keeps, put_nowhere, put_entry, slot_place, get_d_set}
use Rattle.commands.specs.Command.{Pair}
use Rattle.commands.specs.Effect.{next_version, next_expiry, written, writes_of}
use Rattle.commands.specs.Execute.{passes}
use Rattle.commands.specs.Promises.{held_version, version_in, times_in, overflowing, pair_entry}
use Rattle.commands.proofs.Names.{named}

or_swap : (a b c : Bool) → a || (b || c) ≡ b || (a || c)
or_swap true true c = refl
or_swap true false c = refl
or_swap false b c = refl

-- ---- a version raised

-- the versions where a field is written once
abbrev raised : Word → (Word → ℕ) → Word → ℕ
raised f version g = cond (same g f) (version f + 1) (version g)

-- a field written once now, and the others after it, or all of its times together: some version passes in both
pub overflow_raised : (f : Word) (version : Word → ℕ) (fs : List Word)
    → (ltb version_most (version f + suc (times_in f fs)) || overflowing version fs) ≡ (ltb version_most (version f + 1) || overflowing (raised f version) fs)
unfolding overflowing times_in keep
overflow_raised f version [] = refl
overflow_raised f version (g ∷ gs) = go (same g f) refl (overflow_raised f version gs)
  where
    often : ℕ
    often = length (keep (λ h. same h f) gs)

    go : (t : Bool) → same g f ≡ t
        → (ltb version_most (version f + suc often) || overflowing version gs) ≡ (ltb version_most (version f + 1) || overflowing (raised f version) gs)
        → (ltb version_most (version f + suc (length (cond t (g ∷ keep (λ h. same h f) gs) (keep (λ h. same h f) gs))))
        || (ltb version_most (version g + suc (times_in g gs)) || overflowing version gs))
        ≡ (ltb version_most (version f + 1)
        || (ltb version_most (cond t (version f + 1) (version g) + suc (times_in g gs)) || overflowing (raised f version) gs))
    go true q ih =
        let e : g ≡ f = same_true g f q in
        let n : version f + 1 + suc often ≡ version f + suc (suc often) = omega arith in
        rw (e, ih, n) (or_swap (ltb version_most (version f + suc (suc often))) (ltb version_most (version f + 1)) (overflowing (raised f version) gs))
    go false q ih =
        or_swap (ltb version_most (version f + suc often)) (ltb version_most (version g + suc (times_in g gs))) (overflowing version gs)
        ∙ rw ih (or_swap (ltb version_most (version g + suc (times_in g gs))) (ltb version_most (version f + 1)) (overflowing (raised f version) gs))

-- ---- what a pair does to the other fields

module _ (now : ℕ) (e : Entry) (ss : List Slot) (a : Apart ss) (g : Word) (d : same e.field g ≡ false)
    (alive : (x : Entry) → entry_of e.key g ss ≡ Some x → live now x ≡ true) where
  -- the entry of another field stays
  stays : (x : Entry) → entry_of e.key g ss ≡ Some x → entry_of e.key g (put now e ss) ≡ Some x
  unfolding live_slot or_else holds
  stays x h =
      let s : Stands e.key g ss x = entry_some e.key g ss x h in
      let away : holds e.key e.field (get_or ss s.slot None) ≡ false =
      rw s.here (simp (s.named.field, same_sym g e.field ∙ d, and-false)) in
      let kept : get_or (put now e ss) s.slot None ≡ Some x = put_keeps now e ss s.slot (rw s.here (alive x h)) away ∙ s.here in
      subst (λ (k : Word). entry_of k g (put now e ss) ≡ Some x) s.named.key
      (subst (λ (f : Word). entry_of x.key f (put now e ss) ≡ Some x) s.named.field
      (entry_is (put now e ss) s.slot x (put_apart now e ss a) kept))

  -- a missing one is missing
  gone : entry_of e.key g ss ≡ None → entry_of e.key g (put now e ss) ≡ None
  unfolding put or_else holds
  gone h = go (slot_for now e.key e.field ss) refl
    where
      at_slot : (i : ℕ) → slot_for now e.key e.field ss ≡ Some i → (o : Option Entry) → entry_of e.key g (set ss i (Some e)) ≡ o → o ≡ None
      at_slot i q None r = refl
      at_slot i q (Some y) r =
          let s : Stands e.key g (set ss i (Some e)) y = entry_some e.key g (set ss i (Some e)) y r in
          absurd (other s (eqb s.slot i) (sym (get_d_set ss i (Some e) (slot_place now e.key e.field ss i q).inside s.slot) ∙ s.here))
        where
          other : (s : Stands e.key g (set ss i (Some e)) y) → (t : Bool) → cond t (Some e) (get_or ss s.slot None) ≡ Some y → ⊥
          other s true z = let m : e ≡ y = cc in both_ways (rw (ap (λ (w : Entry). w.field) m, s.named.field, same_refl g) refl) d
          other s false z = both_ways (rw (z, s.named.key, s.named.field, same_refl e.key, same_refl g) refl) (entry_none e.key g ss h s.slot)

      go : (o : Option ℕ) → slot_for now e.key e.field ss ≡ o → entry_of e.key g (or_else o ss (λ i. set ss i (Some e))) ≡ None
      go None q = h
      go (Some i) q = at_slot i q (entry_of e.key g (set ss i (Some e))) refl

  pub other_entry : entry_of e.key g (put now e ss) ≡ entry_of e.key g ss
  other_entry = go (entry_of e.key g ss) refl
    where
      go : (o : Option Entry) → entry_of e.key g ss ≡ o → entry_of e.key g (put now e ss) ≡ o
      go None h = gone h
      go (Some x) h = stays x h

-- ---- the pairs

-- two versions are the same, or both far below the largest though they are raised m times
data Near (m a b : ℕ) : Type 0 where
  equal : a ≡ b → Near m a b
  small : a + m ≤ 100 → b + m ≤ 100 → Near m a b

near_fewer : {m a b : ℕ} → Near (suc m) a b → Near m a b
near_fewer (equal e) = equal e
near_fewer (small p q) = small (omega arith) (omega arith)

near_raised : {m a b : ℕ} → Near (suc m) a b → Near m (a + 1) (b + 1)
near_raised (equal e) = equal (ap (λ (n : ℕ). n + 1) e)
near_raised (small p q) = small (omega arith) (omega arith)

near_missing : {m a : ℕ} → m ≤ words_most → Near (suc m) a 0 → Near m (a + 1) 0
near_missing l (equal e) = small (omega arith) (omega arith)
near_missing l (small p q) = small (omega arith) (omega arith)

-- they pass the largest together
near_passes : {m a b : ℕ} → Near (suc m) a b → ltb version_most (b + 1) ≡ ltb version_most (a + 1)
near_passes (equal e) = rw e
near_passes {a = a} {b = b} (small p q) = le-ltb version_most (b + 1) (omega arith) ∙ sym (le-ltb version_most (a + 1) (omega arith))

abbrev fields_of : List Pair → List Word
fields_of ps = map (λ p. p.field) ps

-- slots in which no named field is dead, and versions that are near those of the slots
record Tracks (now : ℕ) (k : Word) (ps : List Pair) (ss : List Slot) (version : Word → ℕ) : Type 0 where
  apart : Apart ss
  alive : (g : Word) → named g (fields_of ps) ≡ true → (x : Entry) → entry_of k g ss ≡ Some x → live now x ≡ true
  near : (g : Word) → named g (fields_of ps) ≡ true → Near (length ps) (version g) (version_in k ss g)

pub next_is : (k : Word) (p : Pair) (ss : List Slot) → (pair_entry k p.field p.value ss).version ≡ version_in k ss p.field + 1
unfolding written next_version version_in held_version or_else
next_is k p ss = go (entry_of k p.field ss)
  where
    go : (o : Option Entry) → or_else o 1 (λ e. e.version + 1) ≡ or_else o 0 (λ e. e.version) + 1
    go None = refl
    go (Some e) = refl

slot_missing : (now : ℕ) (k f : Word) (ss : List Slot) → slot_for now k f ss ≡ None → entry_of k f ss ≡ None
unfolding slot_for or_else
slot_missing now k f ss h = lowest_entry_none k f ss (go (lowest_slot (holds k f) ss) h)
  where
    go : (o : Option ℕ) → or_else o (or_else (lowest_slot empty_slot ss) (lowest_slot (dead_slot now) ss) Some) Some ≡ None → o ≡ None
    go None q = refl
    go (Some i) q = cc

module _ (now : ℕ) (k : Word) (p : Pair) (ps : List Pair) (ss : List Slot) (version : Word → ℕ)
    (few : length ps ≤ words_most) (s : Tracks now k (p ∷ ps) ss version) where
  own : Entry
  own = pair_entry k p.field p.value ss

  later : (g : Word) → named g (fields_of ps) ≡ true → named g (fields_of (p ∷ ps)) ≡ true
  unfolding any
  later g n = or_late (same p.field g) n

  first : named p.field (fields_of (p ∷ ps)) ≡ true
  unfolding any
  first = rw (same_refl p.field)

  other : (g : Word) → named g (fields_of ps) ≡ true → same p.field g ≡ false → entry_of k g (put now own ss) ≡ entry_of k g ss
  unfolding own written
  other g n d = other_entry now own ss s.apart g d (λ x h. s.alive g (later g n) x h)

  -- its own field afterwards: the entry that was put, or none, where there was none
  itself : (P : Option Entry → Type 0) → P (Some own) → (entry_of k p.field ss ≡ None → P None) → P (entry_of k p.field (put now own ss))
  unfolding own written
  itself P here nowhere = go (slot_for now k p.field ss) refl
    where
      go : (o : Option ℕ) → slot_for now k p.field ss ≡ o → P (entry_of k p.field (put now own ss))
      go None q =
          let missing : entry_of k p.field ss ≡ None = slot_missing now k p.field ss q in
          rw (put_nowhere now own ss q, missing) (nowhere missing)
      go (Some i) q = rw (put_entry now own ss i s.apart q) here

  near_own : Near (length ps) (raised p.field version p.field) (version_in k (put now own ss) p.field)
  unfolding version_in held_version or_else own
  near_own =
      rw (same_refl p.field)
      (itself (λ o. Near (length ps) (version p.field + 1) (held_version o))
      (subst (Near (length ps) (version p.field + 1)) (sym (next_is k p ss)) (near_raised (s.near p.field first)))
      (λ u. near_missing few (subst (Near (suc (length ps)) (version p.field)) (ap held_version u) (s.near p.field first))))

  tracks_after : Tracks now k ps (put now own ss) (raised p.field version)
  unfolding own written next_expiry live before version_in
  tracks_after =
      record {
        apart = put_apart now own ss s.apart;
        alive = λ g n. alive_at g n (same p.field g) refl;
        near = λ g n. near_at g n (same p.field g) refl;
      }
    where
      alive_at : (g : Word) → named g (fields_of ps) ≡ true → (t : Bool) → same p.field g ≡ t → (x : Entry)
          → entry_of k g (put now own ss) ≡ Some x → live now x ≡ true
      alive_at g n true q x h =
          let e : p.field ≡ g = same_true p.field g q in
          itself (λ o. o ≡ Some x → live now x ≡ true) (λ z. let m : own ≡ x = cc in rw (← m) refl) (λ u z. cc)
          (ap (λ (w : Word). entry_of k w (put now own ss)) e ∙ h)
      alive_at g n false q x h = s.alive g (later g n) x (sym (other g n q) ∙ h)

      near_at : (g : Word) → named g (fields_of ps) ≡ true → (t : Bool) → same p.field g ≡ t
          → Near (length ps) (raised p.field version g) (version_in k (put now own ss) g)
      near_at g n true q =
          let e : p.field ≡ g = same_true p.field g q in
          subst (λ (h : Word). Near (length ps) (raised p.field version h) (version_in k (put now own ss) h)) e near_own
      near_at g n false q =
          rw (same_sym g p.field ∙ q, ap held_version (other g n q)) (near_fewer (s.near g (later g n)))

-- Some version that the pairs write passes its largest exactly where the fields' versions, each raised as often as it is named, do.
passing : (now : ℕ) (k : Word) (ps : List Pair) (ss : List Slot) (version : Word → ℕ) → length ps ≤ words_most → Tracks now k ps ss version
    → any passes (writes_of now k ps ss) ≡ overflowing version (fields_of ps)
unfolding any passes writes_of overflowing own
passing now k [] ss version l s = refl
passing now k (p ∷ ps) ss version l s =
    let few : length ps ≤ words_most = omega arith in
    rw (
      passing now k ps (put now (pair_entry k p.field p.value ss) ss) (raised p.field version) few (tracks_after now k p ps ss version few s),
      next_is k p ss,
      near_passes (s.near p.field (first now k p ps ss version few s)),
    )
    (sym (overflow_raised p.field version (fields_of ps)))

pub pairs_overflow : (now : ℕ) (k : Word) (ps : List Pair) (ss : List Slot) → length ps ≤ words_most → Apart ss
    → ((g : Word) → named g (map (λ p. p.field) ps) ≡ true → (x : Entry) → entry_of k g ss ≡ Some x → live now x ≡ true)
    → any passes (writes_of now k ps ss) ≡ overflowing (version_in k ss) (map (λ p. p.field) ps)
pairs_overflow now k ps ss l a alive = passing now k ps ss (version_in k ss) l (record { apart = a; alive = alive; near = λ g n. equal refl })
