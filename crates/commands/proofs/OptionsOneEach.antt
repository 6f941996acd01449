-- Options that do not conflict: at most one of each group, and of groups that the command allows.
use Rattle.std.specs.Prelude.{Option, None, Some, option_map, unwrap_or}
use mathlib.Core.Path.{◌≡◌, refl, sym}
use mathlib.Core.Bool.{Bool, true, false, cond, ◌&&◌, ◌||◌}
use mathlib.Core.List.{List, [], ◌∷◌}
use Prim.Native.Nat.{ℕ}
use borrow.Author.Tests.{eqb-true, eq-eqb, ne_eqb}
use lib.Dec.{eqb}
use Rattle.wire.specs.Lists.{all, any, or_else}
use Rattle.wire.specs.Bytes.{spells}
use Rattle.wire.specs.Words.{Word}
use Rattle.wire.proofs.Lists.{and_left, and_right, and_both, or_left, or_right, both_ways, impossible}
use Rattle.commands.specs.Options.{OptionKind, Range, OptionRow, Given, ◌with◌, options, group, operand_range, option_named, scan, conflicting, given_of}

-- ---- what a scan finds

-- every option that was given is of a kind of which P holds
abbrev pub Each : (OptionKind → Type 0) → List Given → Type 0
Each P [] = Unit {0}
Each P (g ∷ gs) = P g.kind × Each P gs

abbrev Found : (OptionKind → Type 0) → Option (List Given) → Type 0
Found P None = Unit {0}
Found P (Some gs) = Each P gs

abbrev Pending : (OptionKind → Type 0) → Option OptionKind → Type 0
Pending P None = Unit {0}
Pending P (Some m) = P m

-- every row is of a kind of which P holds
abbrev pub EachRow : (OptionKind → Type 0) → List OptionRow → Type 0
EachRow P [] = Unit {0}
EachRow P (r ∷ rs) = P r.kind × EachRow P rs

any_row : (rows : List OptionRow) → EachRow (λ m. Unit {0}) rows
any_row [] = tt
any_row (r ∷ rs) = (tt, any_row rs)

module _ (P : OptionKind → Type 0) where
  -- what a word names is the kind of a row, and its group is allowed
  pub named_row : (al : List ℕ) (rows : List OptionRow) → EachRow P rows → (w : Word) (m : OptionKind) → option_named rows al w ≡ Some m
      → P m × (any (eqb (group m)) al ≡ true)
  unfolding option_named
  named_row al [] p w m e = impossible cc
  named_row al (r ∷ rs) p w m e = go (spells r.name w) (any (eqb (group r.kind)) al) refl (named_row al rs p.1 w m) e
    where
      go : (t a : Bool) → any (eqb (group r.kind)) al ≡ a → (option_named rs al w ≡ Some m → P m × (any (eqb (group m)) al ≡ true))
          → cond (t && a) (Some r.kind) (option_named rs al w) ≡ Some m → P m × (any (eqb (group m)) al ≡ true)
      go true true q later e =
          let s : r.kind ≡ m = cc in
          (rw s at p.0, rw s at q)
      go true false q later e = later e
      go false a q later e = later e

  one_more : (x : Given) → P x.kind → (o : Option (List Given)) → Found P o → Found P (option_map (λ gs. x ∷ gs) o)
  one_more x h None k = tt
  one_more x h (Some gs) k = (h, k)

  pub each_given : (n : ℕ) (gs : List Given) → Each P gs → (g : Given) → given_of n gs ≡ Some g → P g.kind
  unfolding given_of
  each_given n [] e g h = impossible cc
  each_given n (x ∷ xs) e g h = go (eqb (group x.kind) n) (each_given n xs e.1 g) h
    where
      go : (t : Bool) → (given_of n xs ≡ Some g → P g.kind) → cond t (Some x) (given_of n xs) ≡ Some g → P g.kind
      go true later q =
          let m : x ≡ g = cc in
          rw m at e.0
      go false later q = later q

  -- a scan finds only what the table names
  module _ (al : List ℕ) (named : (w : Word) (m : OptionKind) → option_named options al w ≡ Some m → P m) where
    scan_each : (o : Option OptionKind) (ws : List Word) → Pending P o → Found P (scan al o ws)
    unfolding scan or_else
    scan_each None [] h = tt
    scan_each (Some m) [] h = tt
    scan_each (Some m) (w ∷ ws) h = one_more (m with w) h (scan al None ws) (scan_each None ws tt)
    scan_each None (w ∷ ws) h = go (option_named options al w) refl (scan_each None ws tt) (λ m. scan_each (Some m) ws)
      where
        at : (m : OptionKind) → P m → (o : Option Range) → Found P (scan al None ws) → (P m → Found P (scan al (Some m) ws))
            → Found P (or_else o (option_map (λ gs. m with [] ∷ gs) (scan al None ws)) (λ r. scan al (Some m) ws))
        at m q None bare after = one_more (m with []) q (scan al None ws) bare
        at m q (Some r) bare after = after q

        go : (o : Option OptionKind) → option_named options al w ≡ o → Found P (scan al None ws) → ((m : OptionKind) → P m → Found P (scan al (Some m) ws))
            → Found P (or_else o None λ m. or_else (operand_range m) (option_map (λ gs. m with [] ∷ gs) (scan al None ws)) (λ r. scan al (Some m) ws))
        go None e bare after = tt
        go (Some m) e bare after = at m (named w m e) (operand_range m) bare (after m)

    pub scanned_each : (ws : List Word) → Each P (unwrap_or (scan al None ws) [])
    scanned_each ws = go (scan al None ws) (scan_each None ws tt)
      where
        go : (o : Option (List Given)) → Found P o → Each P (unwrap_or o [])
        go None h = tt
        go (Some gs) h = h

-- ---- groups that are allowed

module _ (al : List ℕ) where
  -- whether an option's group is allowed
  unfoldable pub permitted : Given → Bool
  permitted g = any (eqb (group g.kind)) al

  each_permitted : (gs : List Given) → Each (λ m. any (eqb (group m)) al ≡ true) gs → all permitted gs ≡ true
  unfolding all permitted
  each_permitted [] h = refl
  each_permitted (g ∷ gs) h = and_both h.0 (each_permitted gs h.1)

  -- a scan finds only options of groups that are allowed
  pub scan_allowed : (ws : List Word) → or_else (scan al None ws) true (all permitted) ≡ true
  unfolding or_else
  scan_allowed ws = go (scan al None ws) (scan_each (λ m. any (eqb (group m)) al ≡ true) al named None ws tt)
    where
      named : (w : Word) (m : OptionKind) → option_named options al w ≡ Some m → any (eqb (group m)) al ≡ true
      named w m e = (named_row (λ k. Unit {0}) al options (any_row options) w m e).1

      go : (o : Option (List Given)) → Found (λ m. any (eqb (group m)) al ≡ true) o → or_else o true (all permitted) ≡ true
      go None h = refl
      go (Some gs) h = each_permitted gs h

-- ---- one option a group

-- two tests that pass together
iff_same : (a b : Bool) → (a ≡ true → b ≡ true) → (b ≡ true → a ≡ true) → a ≡ b
iff_same true b f g = sym (f refl)
iff_same false true f g = g refl
iff_same false false f g = refl

-- what holds of each group of a list holds of one that is among them
all_any : (q : ℕ → Bool) (al : List ℕ) (n : ℕ) → all q al ≡ true → any (eqb n) al ≡ true → q n ≡ true
unfolding all any
all_any q [] n h m = absurd (both_ways m refl)
all_any q (a ∷ al) n h m = go (eqb n a) refl m (all_any q al n (and_right (q a) (all q al) h))
  where
    go : (t : Bool) → eqb n a ≡ t → t || any (eqb n) al ≡ true → (any (eqb n) al ≡ true → q n ≡ true) → q n ≡ true
    go true e m later = rw (eqb-true n a e) (and_left (q a) (all q al) h)
    go false e m later = later m

all_each : {q : ℕ → Bool} → ((n : ℕ) → q n ≡ true) → (ns : List ℕ) → all q ns ≡ true
unfolding all
all_each h [] = refl
all_each h (n ∷ ns) = and_both (h n) (all_each h ns)

-- none of a group
none_of : (n : ℕ) (gs : List Given) → any (λ h. eqb n (group h.kind)) gs ≡ false → given_of n gs ≡ None
unfolding any given_of
none_of n [] h = refl
none_of n (g ∷ gs) h =
    rw
    (ne_eqb (group g.kind) n (λ e. both_ways (eq-eqb n (group g.kind) (sym e)) (or_left (eqb n (group g.kind)) (any (λ h. eqb n (group h.kind)) gs) h)))
    (none_of n gs (or_right (eqb n (group g.kind)) (any (λ h. eqb n (group h.kind)) gs) h))

module _ (p : Given → Bool) where
  given_all : (n : ℕ) (gs : List Given) → all p gs ≡ true → or_else (given_of n gs) true p ≡ true
  unfolding all given_of or_else
  given_all n [] h = refl
  given_all n (g ∷ gs) h = go (eqb (group g.kind) n) (given_all n gs (and_right (p g) (all p gs) h))
    where
      go : (t : Bool) → or_else (given_of n gs) true p ≡ true → or_else (cond t (Some g) (given_of n gs)) true p ≡ true
      go true later = and_left (p g) (all p gs) h
      go false later = later

  module _ (al : List ℕ) where
    all_given : (gs : List Given) → conflicting gs ≡ false → all (permitted al) gs ≡ true
        → ((n : ℕ) → any (eqb n) al ≡ true → or_else (given_of n gs) true p ≡ true) → all p gs ≡ true
    unfolding all given_of or_else conflicting permitted
    all_given [] c m h = refl
    all_given (g ∷ gs) c m h =
        let same : Given → Bool = λ k. eqb (group g.kind) (group k.kind) in
        let this : Bool = any (eqb (group g.kind)) al in
        let rest : Bool = all (permitted al) gs in
        and_both
        (rw (eq-eqb (group g.kind) (group g.kind) refl) at (h (group g.kind) (and_left this rest m)))
        (all_given gs (or_right (any same gs) (conflicting gs) c) (and_right this rest m)
        (λ n a. go n (eqb (group g.kind) n) refl (h n a) (none_of (group g.kind) gs (or_left (any same gs) (conflicting gs) c))))
      where
        go : (n : ℕ) (t : Bool) → eqb (group g.kind) n ≡ t → or_else (cond t (Some g) (given_of n gs)) true p ≡ true → given_of (group g.kind) gs ≡ None
            → or_else (given_of n gs) true p ≡ true
        go n true e k z = rw (← eqb-true (group g.kind) n e, z)
        go n false e k z = k

    -- what holds of all options that were given holds of the one of each group
    pub all_groups : (o : Option (List Given)) → or_else o true conflicting ≡ false → or_else o true (all (permitted al)) ≡ true
        → all p (unwrap_or o []) ≡ all (λ n. or_else (given_of n (unwrap_or o [])) true p) al
    unfolding or_else
    all_groups None c m = both_ways refl c
    all_groups (Some gs) c m =
        iff_same
        (all p gs)
        (all (λ n. or_else (given_of n gs) true p) al)
        (λ h. all_each (λ n. given_all n gs h) al)
        (λ h. all_given gs c m (λ n a. all_any (λ k. or_else (given_of k gs) true p) al n h a))
