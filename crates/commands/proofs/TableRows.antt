-- What the number of a row means: rows of names, the commands and the options.
use Rattle.std.specs.Prelude.{Option, None, Some, option_map}
use mathlib.Core.Path.{◌≡◌, refl, sym, ap, ◌∙◌}
use mathlib.Core.Bool.{Bool, true, false, cond, not, ◌&&◌}
use mathlib.Core.List.{List, [], ◌∷◌, ◌++◌, map, flat_map, append_assoc}
use Rattle.std.proofs.lemmas.Option.{none-some}
use Prim.Native.Nat.{ℕ, zero, suc, ◌+◌, ◌-◌, ◌*◌, ◌/◌, ◌≤◌, ◌<◌}
use Prim.Native.String.{String}
use native.Mathlib.Omega.{arith}
use borrow.Author.Tests.{ltb-true, not-true}
use lib.Dec.{ltb, eqb}
use lib.ListN.{length, get_or, drop, length-append, length-drop}
use lib.Seq.{get_or_at, get_or-append-add, drop_at, take-append_seam}
use Rattle.wire.specs.Lists.{all, any, only_if, or_else}
use Rattle.wire.specs.Bytes.{part, same, text, upper, spells}
use Rattle.wire.specs.Words.{Word}
use Rattle.wire.specs.Promises.{row_size, name_in, row_from, row_named, Table}
use Rattle.wire.proofs.Lists.{and_left, and_right}
use Rattle.wire.proofs.NameRows.{row_at}
use Rattle.wire.proofs.ByteLaws.{same_true}
use Rattle.commands.specs.Options.{OptionRow, OptionKind, ◌means◌, options, option_count, group, option_named}
use Rattle.commands.specs.Options.OptionKind.{no_exp}
use Rattle.commands.specs.Parse.{CommandRow, row, commands, command_count, command_named}
use Rattle.commands.specs.Parse.Count.{at_least}
use Rattle.commands.specs.Parse.Form.{set_form}
use Rattle.commands.specs.TablePromises.{filler, name_row, unit_meant, form_meant, count_meant, row_parts, row_meant, command_table, command_of, version_meant, kind_meant, option_table, option_of}
use Rattle.commands.specs.declared.table.CommandRow as code
use Rattle.commands.proofs.Computing.{computing}

-- to compute with the tables
unfoldable pub tables : Unit {0}
unfolding computing name_row unit_meant form_meant count_meant command_of option_of version_meant kind_meant
tables = tt

-- a number that is none of the first k is beyond them
unfoldable pub NoneOf : ℕ → ℕ → Type 0
NoneOf zero n = Unit {0}
NoneOf (suc k) n = NoneOf k n × (n ≡ k → ⊥)

pub none_of : (k n : ℕ) → NoneOf k n → k ≤ n
unfolding NoneOf
none_of zero n h = omega arith
none_of (suc k) n h = omega (arith, none_of k n h.0, h.1)

-- ---- rows of names

-- a name fits its row
abbrev pub ShortName : String → Type 0
ShortName t = length (text t) < row_size

filler_length : length (text filler) ≡ 15
unfolding text
filler_length = refl

module _ (t : String) (short : ShortName t) where
  length_row : length (name_row t) ≡ row_size
  unfolding name_row
  length_row =
      let fill : length (drop (length (text t)) (text filler)) ≡ 15 - length (text t) = rw (length-drop, filler_length) in
      rw length-append (omega (arith, fill))

  -- the name of the row after i rows
  name_row_lem : (before after : List ℕ) (i : ℕ) → length before ≡ row_size * i → name_in (before ++ (name_row t ++ after)) i ≡ text t
  unfolding name_in part name_row
  name_row_lem before after i n =
      let size : ℕ = length (text t) in
      let fill : List ℕ = drop size (text filler) in
      let rest : List ℕ = (text t ++ fill) ++ after in
      let here : get_or (before ++ size ∷ rest) (row_size * i) 0 ≡ size = get_or_at before size rest 0 (row_size * i) n in
      let front : length (before ++ (size ∷ [])) ≡ row_size * i + 1 = rw length-append (omega arith) in
      let split : before ++ size ∷ rest ≡ (before ++ (size ∷ [])) ++ rest = sym (append_assoc before (size ∷ []) rest) in
      let behind : drop (row_size * i + 1) (before ++ size ∷ rest) ≡ rest = rw split (drop_at (before ++ (size ∷ [])) rest (row_size * i + 1) front) in
      rw (here, behind, append_assoc (text t) fill after) (take-append_seam (text t) (fill ++ after))

module _ {A : Type 0} (name : A → String) where
  unfoldable pub table_of : List A → List ℕ
  table_of rows = flat_map (λ r. name_row (name r)) rows

  -- the first row whose name a word spells, and its number, counted from i
  unfoldable pub named : List A → Word → Option A
  named [] w = None
  named (r ∷ rs) w =
      let later : Option A = named rs w in
      cond (spells (name r) w) (Some r) later

  unfoldable number_from : ℕ → List A → Word → Option ℕ
  number_from i [] w = None
  number_from i (r ∷ rs) w =
      let later : Option ℕ = number_from (suc i) rs w in
      cond (spells (name r) w) (Some i) later

  abbrev fits : A → Bool
  fits r = ltb (length (text (name r))) row_size

  unfoldable pub all_fit : List A → Bool
  all_fit rows = all fits rows

  module _ (r : A) (rs : List A) (h : all_fit (r ∷ rs) ≡ true) where
    row_fits : fits r ≡ true
    unfolding all_fit all
    row_fits = and_left (fits r) (all_fit rs) h

    later_fit : all_fit rs ≡ true
    unfolding all_fit all
    later_fit = and_right (fits r) (all_fit rs) h

    row_short : ShortName (name r)
    row_short = ltb-true (length (text (name r))) row_size row_fits

    row_length : length (name_row (name r)) ≡ row_size
    row_length = length_row (name r) row_short

    -- what stands behind the row
    row_after : (n m : ℕ) → n ≡ row_size + m → get_or (table_of (r ∷ rs)) n 0 ≡ get_or (table_of rs) m 0
    unfolding table_of flat_map
    row_after n m e =
        let bytes : List ℕ = name_row (name r) in
        let at : n ≡ length bytes + m = omega (arith, row_length) in
        rw at (get_or-append-add bytes (table_of rs) m 0)

    -- the length of its name stands at its start
    row_first : get_or (table_of (r ∷ rs)) 0 0 < row_size
    unfolding table_of flat_map name_row
    row_first = row_short

  -- the rows of the bytes are the rows of the list
  rows_from : (rows : List A) (w : Word) (before : List ℕ) (i : ℕ) → length before ≡ row_size * i → all_fit rows ≡ true
      → row_from (length rows) i (before ++ table_of rows) w ≡ number_from i rows w
  unfolding row_from number_from table_of flat_map spells
  rows_from [] w before i n h = refl
  rows_from (r ∷ rs) w before i n h =
      let bytes : List ℕ = name_row (name r) in
      let size : length (before ++ bytes) ≡ row_size * suc i = rw length-append (omega (arith, row_length r rs h)) in
      let later : row_from (length rs) (suc i) ((before ++ bytes) ++ table_of rs) w ≡ number_from (suc i) rs w = rows_from rs w (before ++ bytes) (suc i) size (later_fit r rs h) in
      let assoc : (before ++ bytes) ++ table_of rs ≡ before ++ (bytes ++ table_of rs) = append_assoc before bytes (table_of rs) in
      rw (name_row_lem (name r) (row_short r rs h) before (table_of rs) i n, ← assoc, later)

  length_table : (rows : List A) → all_fit rows ≡ true → length (table_of rows) ≡ row_size * length rows
  unfolding table_of flat_map
  length_table [] h = refl
  length_table (r ∷ rs) h = rw length-append (omega (arith, row_length r rs h, length_table rs (later_fit r rs h)))

  pub table_rows : (rows : List A) → all_fit rows ≡ true → length (table_of rows) / row_size ≡ length rows
  table_rows rows h = omega (arith, length_table rows h)

  row_number : (rows : List A) (w : Word) → all_fit rows ≡ true → row_named (table_of rows) w ≡ number_from 0 rows w
  unfolding row_named
  row_number rows w h = rw (table_rows rows h) (rows_from rows w [] 0 refl h)

  short_from : (rows : List A) (i : ℕ) → all_fit rows ≡ true → get_or (table_of rows) (row_size * i) 0 < row_size
  unfolding table_of flat_map
  short_from [] i h = omega arith
  short_from (r ∷ rs) zero h = row_first r rs h
  short_from (r ∷ rs) (suc i) h = omega (arith, short_from rs i (later_fit r rs h), row_after r rs h (row_size * suc i) (row_size * i) (omega arith))

  pub table_of_lem : (rows : List A) → all_fit rows ≡ true → Table (table_of rows)
  table_of_lem rows h = record { whole = omega (arith, length_table rows h); short = λ i. short_from rows i h }

  -- a number says the row
  number_row : (rows before : List A) (w : Word) (i : ℕ) (d : A) → length before ≡ i
      → option_map (λ k. get_or (before ++ rows) k d) (number_from i rows w) ≡ named rows w
  unfolding number_from named
  number_row [] before w i d n = refl
  number_row (r ∷ rs) before w i d n =
      go
      (spells (name r) w)
      (get_or_at before r rs d i n)
      (rw (append_assoc before (r ∷ []) rs) at (number_row rs (before ++ (r ∷ [])) w (suc i) d (rw length-append (omega arith))))
    where
      go : (t : Bool) → get_or (before ++ r ∷ rs) i d ≡ r → option_map (λ k. get_or (before ++ r ∷ rs) k d) (number_from (suc i) rs w) ≡ named rs w
          → option_map (λ k. get_or (before ++ r ∷ rs) k d) (cond t (Some i) (number_from (suc i) rs w)) ≡ cond t (Some r) (named rs w)
      go true e later = ap Some e
      go false e later = later

  pub row_named_lem : (rows : List A) (w : Word) (d : A) → all_fit rows ≡ true
      → option_map (λ k. get_or rows k d) (row_named (table_of rows) w) ≡ named rows w
  row_named_lem rows w d h = rw (row_number rows w h) (number_row rows [] w 0 d refl)

  -- a number is below the count of the rows
  number_below : (rows : List A) (w : Word) (i k : ℕ) → number_from i rows w ≡ Some k → k < i + length rows
  unfolding number_from
  number_below [] w i k e = absurd (none-some k e)
  number_below (r ∷ rs) w i k e = go (spells (name r) w) (number_below rs w (suc i) k) e
    where
      go : (t : Bool) → (number_from (suc i) rs w ≡ Some k → k < suc i + length rs) → cond t (Some i) (number_from (suc i) rs w) ≡ Some k → k < i + suc (length rs)
      go true later e =
          let q : i ≡ k = cc in
          omega arith
      go false later e = omega (arith, later e)

  pub number_inside : (rows : List A) (w : Word) (k : ℕ) → all_fit rows ≡ true → row_named (table_of rows) w ≡ Some k → k < length rows
  number_inside rows w k h e = omega (arith, number_below rows w 0 k (rw (row_number rows w h) at e))

-- ---- the tables

commands_fit : all_fit (λ r. r.name) commands ≡ true
unfolding all_fit tables
commands_fit = refl

options_fit : all_fit (λ r. r.name) options ≡ true
unfolding all_fit tables
options_fit = refl

-- as many rows as there are said to be
commands_counted : length commands ≡ command_count
unfolding commands
commands_counted = refl

options_counted : length options ≡ option_count
unfolding options
options_counted = refl

-- the bytes of the rows are a table
pub command_table_lem : Table command_table
unfolding table_of command_table
command_table_lem = table_of_lem (λ r. r.name) commands commands_fit

pub option_table_lem : Table option_table
unfolding table_of option_table
option_table_lem = table_of_lem (λ r. r.name) options options_fit

-- ---- what a row's number means

command_named_lem : (rows : List CommandRow) (w : Word) → command_named rows w ≡ named (λ r. r.name) rows w
unfolding command_named named
command_named_lem [] w = refl
command_named_lem (r ∷ rs) w = rw (command_named_lem rs w)

-- the command of a word is the row of its number
pub command_row : (w : Word) → command_named commands w ≡ option_map command_of (row_named command_table w)
unfolding table_of command_table command_of
command_row w = command_named_lem commands w ∙ sym (row_named_lem (λ r. r.name) commands w (row "EXHSET" (at_least 4) set_form) commands_fit)

command_below : (w : Word) (i : ℕ) → row_named command_table w ≡ Some i → i < command_count
unfolding table_of command_table
command_below w i e = omega (arith, commands_counted, number_inside (λ r. r.name) commands w i commands_fit e)

-- what the code says of the row that it found
pub row_found : (w : Word) {r : Option ℕ} → r ≡ row_named command_table w → (i : ℕ) → r ≡ Some i → (c : code.CommandRow) → row_meant c ≡ row_parts (command_of i)
    → option_map row_meant (Some c) ≡ option_map row_parts (command_named commands w)
row_found w er i h c e = rw (command_row w, ← er, h, e)

pub row_not_found : (w : Word) {r : Option ℕ} → r ≡ row_named command_table w → r ≡ None → option_map row_meant None ≡ option_map row_parts (command_named commands w)
row_not_found w er h = rw (command_row w, ← er, h)

pub command_number : (w : Word) {r : Option ℕ} → r ≡ row_named command_table w → (i : ℕ) → r ≡ Some i → i < command_count
command_number w e i h = command_below w i (row_at (row_named command_table w) i (sym e ∙ h))

-- no name is another's
unfoldable distinct : List OptionRow → Bool
distinct [] = true
distinct (r ∷ rs) = all (λ q. not (same (text r.name) (text q.name))) rs && distinct rs

options_distinct : distinct options ≡ true
unfolding distinct computing
options_distinct = refl

module _ (w : Word) (allowed : List ℕ) where
  -- a word that spells one name spells none of the others
  spelled_once : (r : OptionRow) (rs : List OptionRow) → spells r.name w ≡ true → all (λ q. not (same (text r.name) (text q.name))) rs ≡ true
      → option_named rs allowed w ≡ None
  unfolding option_named all spells
  spelled_once r [] e h = refl
  spelled_once r (q ∷ rs) e h =
      let n : map upper w ≡ text r.name = same_true (map upper w) (text r.name) e in
      let this : Bool = not (same (text r.name) (text q.name)) in
      let rest : Bool = all (λ p. not (same (text r.name) (text p.name))) rs in
      rw (n, not-true (same (text r.name) (text q.name)) (and_left this rest h)) (spelled_once r rs e (and_right this rest h))

  abbrev pub meant : OptionRow → Option OptionKind
  meant r = only_if (any (eqb (group r.kind)) allowed) r.kind

  option_named_lem : (rows : List OptionRow) → distinct rows ≡ true → option_named rows allowed w ≡ or_else (named (λ r. r.name) rows w) None meant
  unfolding option_named named distinct or_else only_if
  option_named_lem [] h = refl
  option_named_lem (r ∷ rs) h =
      let others : Bool = all (λ q. not (same (text r.name) (text q.name))) rs in
      go
      (spells r.name w)
      (any (eqb (group r.kind)) allowed)
      refl
      refl
      (λ e. spelled_once r rs e (and_left others (distinct rs) h))
      (option_named_lem rs (and_right others (distinct rs) h))
    where
      go : (t a : Bool) → spells r.name w ≡ t → any (eqb (group r.kind)) allowed ≡ a → (spells r.name w ≡ true → option_named rs allowed w ≡ None)
          → option_named rs allowed w ≡ or_else (named (λ q. q.name) rs w) None meant
          → cond (t && a) (Some r.kind) (option_named rs allowed w) ≡ or_else (cond t (Some r) (named (λ q. q.name) rs w)) None meant
      go true true e f once later = rw f
      go true false e f once later = rw f (once e)
      go false a e f once later = later

  -- the option of a word is the row of its number, where its group is allowed
  pub option_row : option_named options allowed w ≡ or_else (row_named option_table w) None (λ i. meant (option_of i))
  unfolding table_of option_table option_of or_else
  option_row =
      option_named_lem options options_distinct
      ∙ ap (λ o. or_else o None meant) (sym (row_named_lem (λ r. r.name) options w ("NOEXP" means no_exp) options_fit))
      ∙ go (row_named option_table w)
    where
      go : (o : Option ℕ) → or_else (option_map option_of o) None meant ≡ or_else o None (λ i. meant (option_of i))
      go None = refl
      go (Some i) = refl

option_below : (w : Word) (i : ℕ) → row_named option_table w ≡ Some i → i < option_count
unfolding table_of option_table
option_below w i e = omega (arith, options_counted, number_inside (λ r. r.name) options w i options_fit e)

pub option_number : (w : Word) {r : Option ℕ} → r ≡ row_named option_table w → (i : ℕ) → r ≡ Some i → i < option_count
option_number w e i h = option_below w i (row_at (row_named option_table w) i (sym e ∙ h))
