-- Which lines a listing has: each line by what the two stores hold, with no search.
use Rattle.std.specs.Prelude.{Option, None, Some}
use mathlib.Core.Path.{◌≡◌, refl, sym, ap, ◌∙◌}
use mathlib.Core.Logic.{◌⊎◌, inl, inr}
use mathlib.Core.Bool.{Bool, true, false, cond, not, ◌&&◌}
use mathlib.Core.List.Memᴰ
use mathlib.Core.List.{List, [], ◌∷◌, Memᴰ}
use Prim.Native.Nat.{ℕ, zero, suc, ◌+◌}
use native.Mathlib.Omega.{arith}
use lib.Dec.{eqb}
use lib.ListN.{get_or}
use borrow.Author.Tests.{eqb-true, eq-eqb}
use Rattle.wire.specs.Lists.{every, only_if, or_else}
use Rattle.wire.specs.Bytes.{same}
use Rattle.wire.proofs.Lists.{and_left, and_right, both_ways, impossible}
use Rattle.wire.proofs.ByteLaws.{same_true, same_refl}
use Rattle.store.specs.Store.{Entry, Slot, entry_at}
use Rattle.store.specs.Time.{live, live_slot}
use Rattle.store.specs.Valid.{Apart}
use Rattle.store.proofs.Slots.{Named, holds_named, holds_own}
use Rattle.compare.specs.Listing.{live_of, live_slot_of, same_expiry, agree, only_first, only_second, different, first_mark, second_mark, Line, line_of, lines_from}
use Rattle.compare.specs.Claims.{LiveAt, LiveIn, SameName, Missing, Changed, line}
use Rattle.compare.proofs.LiveEntries.{live_holds, live_lives, live_both, live_here, live_nowhere, live_only}

-- ---- entries that agree

expiry_same : (x y : Option ℕ) → same_expiry x y ≡ true → x ≡ y
unfolding same_expiry
expiry_same None None h = refl
expiry_same None (Some t) h = impossible cc
expiry_same (Some s) None h = impossible cc
expiry_same (Some s) (Some t) h = ap Some (eqb-true s t h)

expiry_own : (x : Option ℕ) → same_expiry x x ≡ true
unfolding same_expiry
expiry_own None = refl
expiry_own (Some t) = eq-eqb t t refl

-- two entries of one name that agree are the same, and an entry agrees with itself
pub agree_same : (e other : Entry) → SameName e other → agree e other ≡ true → e ≡ other
unfolding agree every
agree_same e other n h = λ i. record { key = n.key i; field = n.field i; value = value i; version = version i; expiry = expiry i }
  where
    rest : (eqb e.version other.version && (same_expiry e.expiry other.expiry && true)) ≡ true
    rest = and_right (same e.value other.value) (eqb e.version other.version && (same_expiry e.expiry other.expiry && true)) h

    value : e.value ≡ other.value
    value = same_true e.value other.value (and_left (same e.value other.value) (eqb e.version other.version && (same_expiry e.expiry other.expiry && true)) h)

    version : e.version ≡ other.version
    version = eqb-true e.version other.version (and_left (eqb e.version other.version) (same_expiry e.expiry other.expiry && true) rest)

    expiry : e.expiry ≡ other.expiry
    expiry =
        expiry_same e.expiry other.expiry
        (and_left (same_expiry e.expiry other.expiry) true (and_right (eqb e.version other.version) (same_expiry e.expiry other.expiry && true) rest))

pub agree_own : (e : Entry) → agree e e ≡ true
unfolding agree every
agree_own e = rw (same_refl e.value, eq-eqb e.version e.version refl, expiry_own e.expiry)

-- ---- the live entry of a name

pub entry_here_lem : (ss : List Slot) (j : ℕ) (g : Entry) → get_or ss j None ≡ Some g → entry_at ss j ≡ g
unfolding entry_at or_else
entry_here_lem ss j g h = rw h

module _ (instant : ℕ) (e : Entry) (ss : List Slot) where
  -- a slot of it: an entry stands there, live, with that name
  live_entry : (s : Slot) → live_of instant e.key e.field s ≡ true → (g : Entry) × (s ≡ Some g) × (live instant g ≡ true) × SameName e g
  unfolding live_slot or_else
  live_entry None h = both_ways (live_lives instant e.key e.field None h) refl
  live_entry (Some g) h =
      let n : Named e.key e.field g = holds_named e.key e.field g (live_holds instant e.key e.field (Some g) h) in
      (g, refl, live_lives instant e.key e.field (Some g) h, record { key = sym n.key; field = sym n.field })

  -- what the search gives
  pub search_some : (j : ℕ) → live_slot_of instant e.key e.field ss ≡ Some j → (g : Entry) × LiveAt instant ss j g × SameName e g × (entry_at ss j ≡ g)
  search_some j h =
      let q = live_entry (get_or ss j None) (live_here instant e.key e.field ss j h) in
      (q.0, record { here = q.1; live = q.2 }, q.3, entry_here_lem ss j q.0 q.1)

  named_live : (g : Entry) → SameName e g → live instant g ≡ true → live_of instant e.key e.field (Some g) ≡ true
  unfolding live_slot or_else
  named_live g n l = live_both instant e.key e.field (Some g) (rw (n.key, n.field) (holds_own g)) l

  pub search_none : live_slot_of instant e.key e.field ss ≡ None → Missing instant ss e
  search_none h g i n =
      both_ways (rw i.at.here (named_live g n i.at.live)) (live_nowhere instant e.key e.field ss h i.slot)

  pub missing_none : Missing instant ss e → live_slot_of instant e.key e.field ss ≡ None
  missing_none m = go (live_slot_of instant e.key e.field ss) refl
    where
      go : (o : Option ℕ) → live_slot_of instant e.key e.field ss ≡ o → o ≡ None
      go None q = refl
      go (Some j) q =
          let g = search_some j q in
          absurd (m g.0 (record { slot = j; at = g.1 }) g.2)

  -- where no two slots have one name, a live entry of the name is what the search gives
  pub search_only : Apart ss → (g : Entry) (i : LiveIn instant ss g) → SameName e g → live_slot_of instant e.key e.field ss ≡ Some i.slot
  search_only a g i n = live_only instant e.key e.field ss i.slot a (rw i.at.here (named_live g n i.at.live))

-- two live entries of one name are one
pub live_once : (instant : ℕ) (ss : List Slot) → Apart ss → (d e : Entry) → LiveIn instant ss d → LiveIn instant ss e → SameName d e → d ≡ e
live_once instant ss a d e x y n =
    let p = search_only instant d ss a d x (record { key = refl; field = refl }) in
    let q = search_only instant d ss a e y n in
    let z : x.slot ≡ y.slot = cc in
    let w : Some d ≡ Some e = sym x.at.here ∙ rw z y.at.here in
    cc

-- ---- the lines of slots numbered from a number on

-- slot number from + place holds a live entry that gets the line's mark
pub record Lists (instant : ℕ) (mark : Entry → Option ℕ) (from : ℕ) (ss : List Slot) (l : Line) : Type 0 where
  pub place : ℕ
  pub number : l.slot ≡ from + place
  pub at : LiveAt instant ss place l.entry
  pub marked : mark l.entry ≡ Some l.mark

module _ (instant : ℕ) (mark : Entry → Option ℕ) where
  -- the line of one slot
  one_lists : (i : ℕ) (s : Slot) (l : Line) → Memᴰ l (line_of instant mark i s) → (l.slot ≡ i) × (s ≡ Some l.entry) × (live instant l.entry ≡ true) × (mark l.entry ≡ Some l.mark)
  unfolding line_of or_else
  one_lists i None l m = absurd (Memᴰ.not-nil m)
  one_lists i (Some e) l m = go (live instant e) (mark e) refl refl m
    where
      go : (t : Bool) (o : Option ℕ) → live instant e ≡ t → mark e ≡ o → Memᴰ l (cond t (or_else o [] (λ n. record { mark = n; entry = e; slot = i } ∷ [])) [])
          → (l.slot ≡ i) × (Some e ≡ Some l.entry) × (live instant l.entry ≡ true) × (mark l.entry ≡ Some l.mark)
      go true None p q d = absurd (Memᴰ.not-nil d)
      go true (Some n) p q d =
          let z : l ≡ record { mark = n; entry = e; slot = i } = Memᴰ.eq_of_singleton d in
          (rw z refl, rw z refl, rw z p, rw z q)
      go false o p q d = absurd (Memᴰ.not-nil d)

  lists_one : (i : ℕ) (e : Entry) (m : ℕ) → live instant e ≡ true → mark e ≡ Some m → Memᴰ (line m e i) (line_of instant mark i (Some e))
  unfolding line_of or_else
  lists_one i e m l h = rw (l, h) (Memᴰ.head refl)

  pub listed_lists : (from : ℕ) (ss : List Slot) (l : Line) → Memᴰ l (lines_from instant mark from ss) → Lists instant mark from ss l
  unfolding lines_from
  listed_lists from [] l m = absurd (Memᴰ.not-nil m)
  listed_lists from (s ∷ ss) l m = go (Memᴰ.append_cases (line_of instant mark from s) m) (listed_lists (suc from) ss l)
    where
      go : Memᴰ l (line_of instant mark from s) ⊎ Memᴰ l (lines_from instant mark (suc from) ss)
          → (Memᴰ l (lines_from instant mark (suc from) ss) → Lists instant mark (suc from) ss l) → Lists instant mark from (s ∷ ss) l
      go (inl d) r =
          let q = one_lists from s l d in
          record { place = 0; number = omega (arith, q.0); at = record { here = q.1; live = q.2 }; marked = q.3 }
      go (inr d) r =
          let q = r d in
          record { place = suc q.place; number = omega (arith, q.number); at = record { here = q.at.here; live = q.at.live }; marked = q.marked }

  pub lists_listed : (from : ℕ) (ss : List Slot) (j : ℕ) (e : Entry) (m : ℕ) → LiveAt instant ss j e → mark e ≡ Some m → Memᴰ (line m e (from + j)) (lines_from instant mark from ss)
  unfolding lines_from
  lists_listed from [] j e m a h = let z : None ≡ Some e = a.here in impossible cc
  lists_listed from (s ∷ ss) zero e m a h =
      let n : from + 0 ≡ from = omega arith in
      rw n (Memᴰ.append_left {s = line_of instant mark from s} (lines_from instant mark (suc from) ss) (rw a.here (lists_one from e m a.live h)))
  lists_listed from (s ∷ ss) (suc j) e m a h =
      let n : from + suc j ≡ suc from + j = omega arith in
      rw n (Memᴰ.append_right (line_of instant mark from s) (lists_listed (suc from) ss j e m (record { here = a.here; live = a.live }) h))

-- ---- the marks

module _ (instant : ℕ) (e : Entry) (other : List Slot) where
  -- the first store's entry by what the second has
  pub data FirstMarked : Option ℕ → Type 0 where
    alone : Missing instant other e → FirstMarked (Some only_first)
    changed : Changed instant other e → FirstMarked (Some different)
    alike : LiveIn instant other e → FirstMarked None

  pub first_marked : FirstMarked (first_mark instant other e)
  unfolding first_mark or_else only_if
  first_marked = go (live_slot_of instant e.key e.field other) refl
    where
      pick : (j : ℕ) (g : Entry) → LiveAt instant other j g → SameName e g → (t : Bool) → agree e g ≡ t → FirstMarked (only_if (not t) different)
      pick j g a n true q = alike (record { slot = j; at = rw (agree_same e g n q) a })
      pick j g a n false q = changed (record { other = g; live = record { slot = j; at = a }; named = n; changed = λ z. both_ways (rw z (agree_own g)) q })

      go : (o : Option ℕ) → live_slot_of instant e.key e.field other ≡ o → FirstMarked (or_else o (Some only_first) (λ j. only_if (not (agree e (entry_at other j))) different))
      go None q = alone (search_none instant e other q)
      go (Some j) q =
          let g = search_some instant e other j q in
          rw g.3 (pick j g.0 g.1 g.2 (agree e g.0) refl)

  -- the second's by what the first has
  pub data SecondMarked : Option ℕ → Type 0 where
    unmatched : Missing instant other e → SecondMarked (Some only_second)
    matched : (g : Entry) → LiveIn instant other g → SameName e g → SecondMarked None

  pub second_marked : SecondMarked (second_mark instant other e)
  unfolding second_mark or_else
  second_marked = go (live_slot_of instant e.key e.field other) refl
    where
      go : (o : Option ℕ) → live_slot_of instant e.key e.field other ≡ o → SecondMarked (or_else o (Some only_second) (λ j. None))
      go None q = unmatched (search_none instant e other q)
      go (Some j) q =
          let g = search_some instant e other j q in
          matched g.0 (record { slot = j; at = g.1 }) g.2

  -- and back
  pub missing_first : Missing instant other e → first_mark instant other e ≡ Some only_first
  unfolding first_mark or_else
  missing_first m = rw (missing_none instant e other m)

  pub missing_second : Missing instant other e → second_mark instant other e ≡ Some only_second
  unfolding second_mark or_else
  missing_second m = rw (missing_none instant e other m)

  module _ (a : Apart other) where
    found : (g : Entry) (i : LiveIn instant other g) → SameName e g → first_mark instant other e ≡ only_if (not (agree e g)) different
    unfolding first_mark or_else
    found g i n = rw (search_only instant e other a g i n, entry_here_lem other i.slot g i.at.here)

    pub changed_first : Changed instant other e → first_mark instant other e ≡ Some different
    unfolding only_if
    changed_first c = found c.other c.live c.named ∙ go (agree e c.other) refl
      where
        go : (t : Bool) → agree e c.other ≡ t → only_if (not t) different ≡ Some different
        go true q = absurd (c.changed (agree_same e c.other c.named q))
        go false q = refl
