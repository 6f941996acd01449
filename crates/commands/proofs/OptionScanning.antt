-- The scan of the options, one option after the other.
use Rattle.std.specs.List.{list_any}
use Rattle.std.specs.Prelude.{Option, None, Some, option_map, is_some, Ok, Err}
use mathlib.Core.Path.{◌≡◌, refl, sym, ap, subst, ◌∙◌}
use mathlib.Core.Bool.{Bool, true, false, cond, not, ◌||◌}
use mathlib.Core.List.{List, [], ◌∷◌, ◌++◌, append_assoc, append-nil, map}
use Prim.Native.Nat.{ℕ, suc, ◌+◌, ◌≤◌, ◌<◌}
use native.Mathlib.Numerals.{add-one}
use native.Mathlib.Omega.{arith}
use borrow.Author.Tests.{not-true, not-false, eq-eqb, eqb-true, eqb-false}
use denote.Enum.Bare.{sameb}
use denote.Enum.Declared.{tag_of}
use lib.Dec.{eqb}
use lib.ListN.{length, get_or, drop, set, get_or-replicate, drop_of_length-le}
use lib.Seq.{drop-cons, get_or-set_same, get_or-set_other}
use Rattle.wire.specs.Lists.{any, only_if, or_else}
use Rattle.wire.specs.Words.{Word, word_at}
use Rattle.wire.specs.Promises.{row_named, next_of}
use Rattle.wire.proofs.Lists.{or_left, or_right, or_neither, or_late, impossible}
use Rattle.wire.proofs.ByteLaws.{eqb_sym}
use Rattle.wire.proofs.WordPlaces.{next_end, next_at}
use Rattle.commands.specs.declared.refusal.Refusal.{Refusal}
use Rattle.commands.specs.declared.refusal.Refusal.TheVariants.{Syntax}
use Rattle.commands.specs.declared.options.ScannedOptions as scanned
use Rattle.commands.specs.Options.{OptionKind, Range, Given, ◌with◌, options, group, group_count, operand_range, option_named, scan, conflicting, given_of}
use Rattle.commands.specs.contracts.table.OptionGroup.{the_type}
use Rattle.commands.specs.declared.table.OptionGroup.{OptionGroup}
use Rattle.commands.specs.declared.table.OptionGroup.TheVariants as groups
use Rattle.commands.specs.declared.table.OptionKind as kind
use Rattle.commands.specs.declared.table.OptionKind.TheVariants as kinds
use Rattle.commands.specs.TablePromises.{kind_meant, group_number, option_table, option_of}
use Rattle.commands.specs.ParsePromises.{given_by, given_list, given_at, WithOption, FoundOption, Scanned}
use Rattle.commands.proofs.TableRows.{meant, option_row}

-- ---- the groups that are allowed

-- the number of a group is its place among the groups
tag_numbered : (g : OptionGroup) → tag_of the_type g ≡ group_number g
unfolding group_number
tag_numbered groups.Expiry = refl
tag_numbered groups.Condition = refl
tag_numbered groups.Version = refl
tag_numbered groups.Min = refl
tag_numbered groups.Max = refl
tag_numbered groups.NoExp = refl

pub takes_any : (g : OptionGroup) (gs : List OptionGroup) → list_any (λ h. sameb the_type h g) gs ≡ any (eqb (group_number g)) (map group_number gs)
unfolding any
takes_any g [] = refl
takes_any g (h ∷ gs) = rw (tag_numbered h, tag_numbered g, eqb_sym (group_number h) (group_number g), takes_any g gs)

-- ---- options that were given

any_last : {A : Type 0} (p : A → Bool) (xs : List A) (y : A) → any p xs ≡ false → p y ≡ false → any p (xs ++ (y ∷ [])) ≡ false
unfolding any
any_last p [] y h e = or_neither e refl
any_last p (x ∷ xs) y h e = or_neither (or_left (p x) (any p xs) h) (any_last p xs y (or_right (p x) (any p xs) h) e)

any_then : {A : Type 0} (p : A → Bool) (xs : List A) (y : A) (more : List A) → p y ≡ true → any p (xs ++ (y ∷ more)) ≡ true
unfolding any
any_then p [] y more e = rw e
any_then p (x ∷ xs) y more e = or_late (p x) (any_then p xs y more e)

module _ (x : Given) where
  -- none of its group was given before
  given_same : (gs : List Given) → given_of (group x.kind) gs ≡ None → given_of (group x.kind) (gs ++ (x ∷ [])) ≡ Some x
  unfolding given_of
  given_same [] h = rw (eq-eqb (group x.kind) (group x.kind) refl)
  given_same (y ∷ gs) h = go (eqb (group y.kind) (group x.kind)) (given_same gs) h
    where
      go : (t : Bool) → (given_of (group x.kind) gs ≡ None → given_of (group x.kind) (gs ++ (x ∷ [])) ≡ Some x)
          → cond t (Some y) (given_of (group x.kind) gs) ≡ None → cond t (Some y) (given_of (group x.kind) (gs ++ (x ∷ []))) ≡ Some x
      go true later h = impossible cc
      go false later h = later h

  given_other : (n : ℕ) (gs : List Given) → eqb (group x.kind) n ≡ false → given_of n (gs ++ (x ∷ [])) ≡ given_of n gs
  unfolding given_of
  given_other n [] h = rw h
  given_other n (y ∷ gs) h = rw (given_other n gs h)

  conflict_none : (gs : List Given) → conflicting gs ≡ false → given_of (group x.kind) gs ≡ None → conflicting (gs ++ (x ∷ [])) ≡ false
  unfolding conflicting given_of any
  conflict_none [] h e = refl
  conflict_none (y ∷ gs) h e =
      let p : Given → Bool = λ z. eqb (group y.kind) (group z.kind) in
      go
      (eqb (group y.kind) (group x.kind))
      refl
      (any_last p gs x (or_left (any p gs) (conflicting gs) h))
      (conflict_none gs (or_right (any p gs) (conflicting gs) h))
      e
    where
      go : (t : Bool) → eqb (group y.kind) (group x.kind) ≡ t
          → (eqb (group y.kind) (group x.kind) ≡ false → any (λ z. eqb (group y.kind) (group z.kind)) (gs ++ (x ∷ [])) ≡ false)
          → (given_of (group x.kind) gs ≡ None → conflicting (gs ++ (x ∷ [])) ≡ false)
          → cond t (Some y) (given_of (group x.kind) gs) ≡ None
          → any (λ z. eqb (group y.kind) (group z.kind)) (gs ++ (x ∷ [])) || conflicting (gs ++ (x ∷ [])) ≡ false
      go true q this later e = impossible cc
      go false q this later e = or_neither (this q) (later e)

  -- a second one of a group conflicts, whatever follows
  conflict_again : (gs more : List Given) (z : Given) → given_of (group x.kind) gs ≡ Some z → conflicting (gs ++ (x ∷ more)) ≡ true
  unfolding conflicting given_of
  conflict_again [] more z e = impossible cc
  conflict_again (y ∷ gs) more z e =
      go
      (eqb (group y.kind) (group x.kind))
      refl
      (any_then (λ u. eqb (group y.kind) (group u.kind)) gs x more)
      (conflict_again gs more z)
      e
    where
      go : (t : Bool) → eqb (group y.kind) (group x.kind) ≡ t
          → (eqb (group y.kind) (group x.kind) ≡ true → any (λ u. eqb (group y.kind) (group u.kind)) (gs ++ (x ∷ more)) ≡ true)
          → (given_of (group x.kind) gs ≡ Some z → conflicting (gs ++ (x ∷ more)) ≡ true)
          → cond t (Some y) (given_of (group x.kind) gs) ≡ Some z
          → any (λ u. eqb (group y.kind) (group u.kind)) (gs ++ (x ∷ more)) || conflicting (gs ++ (x ∷ more)) ≡ true
      go true q this later e = rw (this q)
      go false q this later e = or_late (any (λ u. eqb (group y.kind) (group u.kind)) (gs ++ (x ∷ more))) (later e)

-- ---- one option

module _ (al : List ℕ) (w : Word) (ws : List Word) where
  scan_unknown : option_named options al w ≡ None → scan al None (w ∷ ws) ≡ None
  unfolding scan or_else
  scan_unknown e = rw e

  -- an option: it takes no operand, or the next word is its operand
  module _ (m : OptionKind) (e : option_named options al w ≡ Some m) where
    abbrev bare : Option (List Given)
    bare = option_map (λ gs. m with [] ∷ gs) (scan al None ws)

    scan_bare : is_some (operand_range m) ≡ false → scan al None (w ∷ ws) ≡ bare
    unfolding scan or_else
    scan_bare h = rw e (go (operand_range m) h)
      where
        go : (o : Option Range) → is_some o ≡ false → or_else o bare (λ r. scan al (Some m) ws) ≡ bare
        go None h = refl
        go (Some r) h = impossible cc

    scan_operand : is_some (operand_range m) ≡ true → scan al None (w ∷ ws) ≡ scan al (Some m) ws
    unfolding scan or_else
    scan_operand h = rw e (go (operand_range m) h)
      where
        go : (o : Option Range) → is_some o ≡ true → or_else o bare (λ r. scan al (Some m) ws) ≡ scan al (Some m) ws
        go None h = impossible cc
        go (Some r) h = refl

-- the option at word i
module _ (al : List ℕ) (ws : List Word) (i : ℕ) (l : i < length ws) where
  here : drop i ws ≡ word_at i ws ∷ drop (suc i) ws
  unfolding word_at
  here = drop-cons ws i [] l

  none_here : option_named options al (word_at i ws) ≡ None → scan al None (drop i ws) ≡ None
  none_here e = rw here (scan_unknown al (word_at i ws) (drop (suc i) ws) e)

  module _ (m : OptionKind) (e : option_named options al (word_at i ws) ≡ Some m) where
    -- it takes no operand
    scan_alone : is_some (operand_range m) ≡ false
        → scan al None (drop i ws) ≡ option_map (λ gs. m with cond (is_some (operand_range m)) (word_at i ws) [] ∷ gs) (scan al None (drop (i + 1) ws))
    scan_alone h = rw (here, h, add-one i) (scan_bare al (word_at i ws) (drop (suc i) ws) m e h)

    -- its operand is the next word
    scan_both : is_some (operand_range m) ≡ true → suc i < length ws
        → scan al None (drop i ws) ≡ option_map (λ gs. m with cond (is_some (operand_range m)) (word_at (suc i) ws) [] ∷ gs) (scan al None (drop (suc i + 1) ws))
    unfolding scan word_at
    scan_both h room =
        let next : drop (suc i) ws ≡ word_at (suc i) ws ∷ drop (suc (suc i)) ws = drop-cons ws (suc i) [] room in
        rw (here, scan_operand al (word_at i ws) (drop (suc i) ws) m e h, next, h, add-one (suc i))

    -- its operand is missing
    scan_short : is_some (operand_range m) ≡ true → length ws ≤ suc i → scan al None (drop i ws) ≡ None
    unfolding scan
    scan_short h short =
        let past : drop (suc i) ws ≡ [] = drop_of_length-le ws {i = suc i} short in
        rw (here, scan_operand al (word_at i ws) (drop (suc i) ws) m e h, past)

-- ---- the code at word i: w is the word, and the code looked for its row

abbrev kind_of : ℕ → OptionKind
kind_of k = (option_of k).kind

-- a word names option k, which the code found
record Naming (w : Word) (o : kind.OptionKind) : Type 0 where
  k : ℕ
  number : row_named option_table w ≡ Some k
  said : kind_meant o ≡ kind_of k

module _ (ws : List Word) (allowed : List ℕ) (i : ℕ) {count : ℕ} (size : length ws ≡ count) (l : i < count)
    {w : Word} (ew : w ≡ word_at i ws) (row : Option kind.OptionKind) (er : option_map kind_meant row ≡ option_map kind_of (row_named option_table w)) where
  inside : i < length ws
  inside = omega arith

  found_so : {r : Option kind.OptionKind} → row ≡ r → option_map kind_of (row_named option_table (word_at i ws)) ≡ option_map kind_meant r
  found_so h = rw ew at (sym er ∙ ap (option_map kind_meant) h)

  -- it names no option
  pub option_unknown : row ≡ None → scan allowed None (drop i ws) ≡ None
  unfolding or_else
  option_unknown h = none_here allowed ws i inside (option_row (word_at i ws) allowed ∙ go (row_named option_table (word_at i ws)) (found_so h))
    where
      go : (r : Option ℕ) → option_map kind_of r ≡ None → or_else r None (λ k. meant (word_at i ws) allowed (option_of k)) ≡ None
      go None q = refl
      go (Some k) q = impossible cc

  -- it names an option
  module _ (o : kind.OptionKind) (h : row ≡ Some o) where
    naming : Naming (word_at i ws) o
    naming = go (row_named option_table (word_at i ws)) refl (found_so h)
      where
        go : (r : Option ℕ) → row_named option_table (word_at i ws) ≡ r → option_map kind_of r ≡ Some (kind_meant o) → Naming (word_at i ws) o
        go None e q = impossible cc
        go (Some k) e q = record { k = k; number = e; said = cc }

    abbrev m : OptionKind
    m = kind_meant o

    named_so : option_named options allowed (word_at i ws) ≡ only_if (any (eqb (group m)) allowed) m
    unfolding or_else
    named_so = option_row (word_at i ws) allowed ∙ (rw naming.number) ∙ ap (λ (n : OptionKind). only_if (any (eqb (group n)) allowed) n) (sym naming.said)

    module _ {g : ℕ} (eg : g ≡ group m) {t : Bool} (et : t ≡ any (eqb g) allowed) where
      taken_so : any (eqb (group m)) allowed ≡ t
      taken_so = rw (← eg) (sym et)

      -- of a group that is not allowed
      pub option_barred : not t ≡ true → scan allowed None (drop i ws) ≡ None
      unfolding only_if
      option_barred z = none_here allowed ws i inside (named_so ∙ rw (taken_so, not-true t z))

      -- of one that is
      module _ (a : not t ≡ false) {b : Bool} (eb : b ≡ is_some (operand_range m)) where
        known_so : option_named options allowed (word_at i ws) ≡ Some m
        unfolding only_if
        known_so = named_so ∙ rw (taken_so, not-false t a)

        -- it takes no operand
        pub option_bare : not b ≡ true → FoundOption ws allowed i o i
        unfolding given_by
        option_bare z =
            record {
              left = scan_alone allowed ws i inside m known_so (sym eb ∙ not-true b z);
              after = omega arith;
              inside = inside;
            }

        -- it takes one; the code looked for the word after it
        module _ (z : not b ≡ false) {next : Option ℕ} (ee : next ≡ next_of count (i + 1)) where
          -- which is not there
          pub option_short : next ≡ None → scan allowed None (drop i ws) ≡ None
          option_short q = scan_short allowed ws i inside m known_so (sym eb ∙ not-false b z) (omega (arith, next_end count (i + 1) ee q))

          -- which is there
          pub option_found : (last : ℕ) → next ≡ Some last → FoundOption ws allowed i o last
          unfolding given_by
          option_found last q =
              let at : (last ≡ i + 1) × (i + 1 < count) = next_at count (i + 1) last ee q in
              let n : suc i ≡ last = omega arith in
              record {
                left = rw n at (scan_both allowed ws i inside m known_so (sym eb ∙ not-false b z) (omega arith));
                after = omega arith;
                inside = omega arith;
              }

-- ---- the loop

-- The words up to i were scanned: what is left does the same as all words after the options found, none of which conflict, and which the code has by their groups.
pub record Scanning (ws : List Word) (allowed : List ℕ) (from i : ℕ) (r : scanned.ScannedOptions) : Type 0 where
  pub found : List Given
  pub left : scan allowed None (drop from ws) ≡ option_map (λ more. found ++ more) (scan allowed None (drop i ws))
  pub clean : conflicting found ≡ false
  pub entries : (g : ℕ) → g < group_count → given_of g found ≡ given_at ws r g

-- an option that was given is there
here_if : {A : Type 0} (o : Option A) → is_some o ≡ true → (z : A) × (o ≡ Some z)
here_if None e = impossible cc
here_if (Some z) e = (z, refl)

none_if : {A : Type 0} (o : Option A) → is_some o ≡ false → o ≡ None
none_if None e = refl
none_if (Some z) e = impossible cc

-- each option is of one of the groups
kind_grouped : (k : kind.OptionKind) → group (kind_meant k) < group_count
unfolding kind_meant group
kind_grouped (kinds.Expires u) = omega arith
kind_grouped kinds.KeepTtl = omega arith
kind_grouped (kinds.Only c) = omega arith
kind_grouped (kinds.Versioned v) = omega arith
kind_grouped kinds.Min = omega arith
kind_grouped kinds.Max = omega arith
kind_grouped kinds.NoExp = omega arith

-- what the code has of a group is given where it has something
pub mapped_some : {A B : Type 0} (f : A → B) (o : Option A) → is_some (option_map f o) ≡ is_some o
mapped_some f None = refl
mapped_some f (Some a) = refl

pub flag_some : {A : Type 0} (a : A) (t : Bool) → is_some (cond t (Some a) None) ≡ t
flag_some a true = refl
flag_some a false = refl

pub ruleset given_rules = (mapped_some, flag_some)

-- to compute with an option in the place of its group
unfoldable pub placing : Unit {0}
unfolding kind_meant group operand_range given_by
placing = tt

map_none : (o : Option (List Given)) → o ≡ option_map (λ more. [] ++ more) o
map_none None = refl
map_none (Some gs) = refl

map_last : (gs : List Given) (x : Given) (o : Option (List Given))
    → option_map (λ more. gs ++ more) (option_map (λ more. x ∷ more) o) ≡ option_map (λ more. (gs ++ (x ∷ [])) ++ more) o
map_last gs x None = refl
map_last gs x (Some more) = ap Some (sym (append_assoc gs (x ∷ []) more))

pub scanning_begins : (ws : List Word) (allowed : List ℕ) (from : ℕ)
    → Scanning ws allowed from from (record { expiry = None; condition = None; version = None; min = None; max = None; no_exp = false })
unfolding conflicting given_of
scanning_begins ws allowed from =
    record {
      found = [];
      left = map_none (scan allowed None (drop from ws));
      clean = refl;
      entries = λ g l. sym (get_or-replicate {A = Option Given} group_count g None None l);
    }

module _ {ws : List Word} {allowed : List ℕ} {from i : ℕ} {r : scanned.ScannedOptions} (s : Scanning ws allowed from i r) where
  -- the scan of what is left fails
  pub scanning_fails : {n : Refusal} → (n ≡ Syntax) × (scan allowed None (drop i ws) ≡ None) → Scanned ws allowed from (Err n)
  unfolding or_else
  scanning_fails (e, fails) = (e, rw (s.left, fails))

  -- all words were scanned
  pub scanning_ends : {count : ℕ} → length ws ≡ count → count ≤ i → Scanned ws allowed from (Ok r)
  unfolding scan or_else
  scanning_ends size l =
      let past : drop i ws ≡ [] = drop_of_length-le ws {i = i} (omega arith) in
      let all : scan allowed None (drop from ws) ≡ Some s.found = s.left ∙ rw (past, append-nil) in
      record { clean = rw all s.clean; given = λ g b. rw all (s.entries g b) }

  -- an option was found
  module _ {k : kind.OptionKind} {last : ℕ} (f : FoundOption ws allowed i k last) where
    abbrev g : ℕ
    g = group (kind_meant k)

    abbrev x : Given
    x = given_by ws k last

    member_so : group x.kind ≡ g
    unfolding given_by
    member_so = refl

    -- of a group that was given before
    pub scanning_again : true ≡ is_some (given_at ws r g) → Scanned ws allowed from (Err Syntax)
    unfolding or_else
    scanning_again b = (refl, rw (s.left, f.left) (go (scan allowed None (drop (last + 1) ws))))
      where
        here : (z : Given) × (given_at ws r g ≡ Some z)
        here = here_if (given_at ws r g) (sym b)

        before : given_of (group x.kind) s.found ≡ Some here.0
        before = rw member_so (s.entries g (kind_grouped k) ∙ here.1)

        go : (o : Option (List Given)) → or_else (option_map (λ more. s.found ++ more) (option_map (λ gs. x ∷ gs) o)) true conflicting ≡ true
        go None = refl
        go (Some more) = conflict_again x s.found more _ before

    -- of another group
    module _ (free : false ≡ is_some (given_at ws r g)) where
      none_before : given_of (group x.kind) s.found ≡ None
      none_before = rw member_so (s.entries g (kind_grouped k) ∙ none_if (given_at ws r g) (sym free))

      module _ (next : scanned.ScannedOptions) (w : WithOption r k last next) where
        entry : (h : ℕ) → given_at ws next h ≡ get_or (set (given_list ws r) g (Some x)) h None
        entry h = ap (λ (l : List (Option Given)). get_or l h None) (w ws)

        next_entries : (h : ℕ) → h < group_count → given_of h (s.found ++ (x ∷ [])) ≡ given_at ws next h
        next_entries h b = go (eqb g h) refl
          where
            go : (t : Bool) → eqb g h ≡ t → given_of h (s.found ++ (x ∷ [])) ≡ given_at ws next h
            go true q =
                let e : g ≡ h = eqb-true g h q in
                let this : given_of g (s.found ++ (x ∷ [])) ≡ Some x = rw member_so at (given_same x s.found none_before) in
                subst (λ (n : ℕ). given_of n (s.found ++ (x ∷ [])) ≡ given_at ws next n) e (this ∙ sym (get_or-set_same (given_list ws r) g (Some x) None (kind_grouped k)) ∙ sym (entry g))
            go false q =
                let ne : h ≡ g → ⊥ = λ e. eqb-false g h q (sym e) in
                let other : eqb (group x.kind) h ≡ false = rw member_so q in
                given_other x h s.found other ∙ s.entries h b ∙ sym (get_or-set_other (given_list ws r) g h (Some x) None ne) ∙ sym (entry h)

        -- it is one option more
        pub scanning_on : Scanning ws allowed from (last + 1) next
        scanning_on =
            record {
              found = s.found ++ (x ∷ []);
              left =
                  s.left
                  ∙ ap (option_map (λ more. s.found ++ more)) f.left
                  ∙ map_last s.found x (scan allowed None (drop (last + 1) ws));
              clean = conflict_none x s.found s.clean none_before;
              entries = next_entries;
            }
