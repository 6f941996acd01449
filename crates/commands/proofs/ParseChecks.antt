-- What a command's checks say, and the ways in which its bytes are read.
use Rattle.std.specs.Prelude.{Option, None, Some, unwrap_or}
use mathlib.Core.Path.{◌≡◌, refl}
use mathlib.Core.Bool.{Bool, true, false, cond, not, ◌&&◌}
use mathlib.Core.List.{List, []}
use Prim.Native.Nat.{ℕ, ◌≤◌, ◌<◌}
use lib.Dec.{leb, eqb}
use lib.ListN.{length}
use native.Mathlib.Omega.{arith}
use borrow.Author.Tests.{leb-true, leb-false}
use Rattle.wire.specs.Lists.{all, any, or_else}
use Rattle.wire.proofs.Lists.{impossible}
use Rattle.wire.specs.Words.{Word, words_of, word_at}
use Rattle.store.specs.Layout.{time_limit}
use Rattle.commands.specs.Refusal.{table, early_least, early_most}
use Rattle.wire.specs.Checks.{first_applying}
use Rattle.wire.proofs.Checks.{first_none, first_number, first_between}
use Rattle.commands.specs.Command.{Command}
use Rattle.commands.specs.Options.{Given, conflicting, readable, readable_operand}
use Rattle.commands.specs.Parse.{Form, Count, CommandRow, Parsed, commands, command_named, count_fits, number_range, too_long, is_zero, deed_versioning, beyond, deed_lifetime, on_deed, later_checks, checks, scanned_of, said_by, checks_of, parse_words, parse}
use Rattle.commands.specs.Parse.Parsed.{refused, accepted}

-- ---- the checks of a command

-- A command that these checks refuse is refused with one of 13 to 18.
pub checks_number : (form : Form) (count : Count) (ws : List Word) (scanned : Option (List Given)) (c : Command) (n : ℕ)
    → first_applying (checks form count ws scanned c) ≡ Some n → (13 ≤ n) × (n ≤ early_most)
unfolding checks later_checks all
checks_number form count ws scanned c n h = first_between 13 early_most (checks form count ws scanned c) n refl h

-- what is known where none of 13 to 18 applies
pub record Clear (form : Form) (count : Count) (ws : List Word) (scanned : Option (List Given)) (c : Command) : Type 0 where
  pub counted : not (count_fits count (length ws)) ≡ false
  pub short : too_long c ≡ false
  pub clean : or_else scanned true conflicting ≡ false
  pub readable : not (or_else (number_range form) true (λ r. readable r (word_at 3 ws)) && all readable_operand (unwrap_or scanned [])) ≡ false
  pub versioned : on_deed (λ d. is_zero (deed_versioning d)) c ≡ false
  pub timed : on_deed (λ d. beyond (deed_lifetime d)) c ≡ false

-- Where none of 13 to 18 is given, none applies.
pub checks_clear : (form : Form) (count : Count) (ws : List Word) (scanned : Option (List Given)) (c : Command)
    → first_applying (checks form count ws scanned c) ≡ None → Clear form count ws scanned c
unfolding checks later_checks
checks_clear form count ws scanned c h =
    let a = first_none _ _ h in
    let b = first_none _ _ a.1 in
    let d = first_none _ _ b.1 in
    let e = first_none _ _ d.1 in
    let f = first_none _ _ e.1 in
    let g = first_none _ _ f.1 in
    record { counted = a.0; short = b.0; clean = d.0; readable = e.0; versioned = f.0; timed = g.0 }

-- ---- the ways in which a command is read

-- not the protocol's array, the clock out of range, no command of that name, refused by 13 to 18, or accepted
pub data Reads (now clock : ℕ) (s : List ℕ) : Parsed → Type 0 where
  damaged : words_of s ≡ None → Reads now clock s (refused 10)
  clock_out : (ws : List Word) → words_of s ≡ Some ws → time_limit ≤ clock → Reads now clock s (refused 11)
  unknown : (ws : List Word) → words_of s ≡ Some ws → clock < time_limit → command_named commands (word_at 0 ws) ≡ None → Reads now clock s (refused 12)
  checked :
      (ws : List Word) (r : CommandRow) (n : ℕ) → words_of s ≡ Some ws → clock < time_limit → command_named commands (word_at 0 ws) ≡ Some r
      → first_applying (checks_of now r ws) ≡ Some n → Reads now clock s (refused n)
  passed :
      (ws : List Word) (r : CommandRow) → words_of s ≡ Some ws → clock < time_limit → command_named commands (word_at 0 ws) ≡ Some r
      → first_applying (checks_of now r ws) ≡ None → Reads now clock s (accepted (said_by now r.form ws))

reads_row : (now clock : ℕ) (s : List ℕ) (ws : List Word) (r : CommandRow) → words_of s ≡ Some ws → clock < time_limit
    → command_named commands (word_at 0 ws) ≡ Some r → Reads now clock s (parse_words now r ws)
unfolding parse_words or_else
reads_row now clock s ws r w k m = go (first_applying (checks_of now r ws)) refl
  where
    go : (o : Option ℕ) → first_applying (checks_of now r ws) ≡ o → Reads now clock s (or_else o (accepted (said_by now r.form ws)) refused)
    go None e = passed ws r w k m e
    go (Some n) e = checked ws r n w k m e

reads_named : (now clock : ℕ) (s : List ℕ) (ws : List Word) → words_of s ≡ Some ws → clock < time_limit
    → Reads now clock s (or_else (command_named commands (word_at 0 ws)) (refused 12) λ r. parse_words now r ws)
unfolding or_else
reads_named now clock s ws w k = go (command_named commands (word_at 0 ws)) refl
  where
    go : (o : Option CommandRow) → command_named commands (word_at 0 ws) ≡ o → Reads now clock s (or_else o (refused 12) λ r. parse_words now r ws)
    go None e = unknown ws w k e
    go (Some r) e = reads_row now clock s ws r w k e

-- Every command is read in one of the five ways.
pub reads : (now clock : ℕ) (s : List ℕ) → Reads now clock s (parse now clock s)
unfolding parse or_else
reads now clock s = go (words_of s) refl
  where
    at : (ws : List Word) (t : Bool) → words_of s ≡ Some ws → leb time_limit clock ≡ t
        → Reads now clock s (cond t (refused 11) (or_else (command_named commands (word_at 0 ws)) (refused 12) λ r. parse_words now r ws))
    at ws true e f = clock_out ws e (leb-true time_limit clock f)
    at ws false e f = reads_named now clock s ws e (leb-false time_limit clock f)

    go : (o : Option (List Word)) → words_of s ≡ o
        → Reads now clock s
        (or_else o (refused 10) λ ws.
        cond (leb time_limit clock) (refused 11)
        (or_else (command_named commands (word_at 0 ws)) (refused 12) λ r. parse_words now r ws))
    go None e = damaged e
    go (Some ws) e = at ws (leb time_limit clock) e refl

reads_refused : {now clock : ℕ} {s : List ℕ} {p : Parsed} (n : ℕ) → Reads now clock s p → p ≡ refused n → (early_least ≤ n) × (n ≤ early_most)
reads_refused n (damaged w) e = let m : n ≡ 10 = cc in omega arith
reads_refused n (clock_out ws w k) e = let m : n ≡ 11 = cc in omega arith
reads_refused n (unknown ws w k m) e = let m : n ≡ 12 = cc in omega arith
reads_refused {now} n (checked ws r k w c m l) e =
    let b : (13 ≤ k) × (k ≤ early_most) = checks_number r.form r.count ws (scanned_of r.form ws) (said_by now r.form ws) k l in
    let m : k ≡ n = cc in
    omega arith
reads_refused n (passed ws r w k m l) e = impossible cc

-- A command that is refused when it is read is refused with one of 10 to 18.
pub parse_refused : (now clock : ℕ) (s : List ℕ) (n : ℕ) → parse now clock s ≡ refused n → (early_least ≤ n) × (n ≤ early_most)
parse_refused now clock s n e = reads_refused n (reads now clock s) e

-- a number that has a line
unfoldable pub is_refusal : ℕ → Bool
is_refusal n = any (λ r. eqb r.number n) table

reads_known : {now clock : ℕ} {s : List ℕ} {p : Parsed} (n : ℕ) → Reads now clock s p → p ≡ refused n → is_refusal n ≡ true
unfolding is_refusal any table checks later_checks all
reads_known n (damaged w) e = let m : n ≡ 10 = cc in rw m
reads_known n (clock_out ws w k) e = let m : n ≡ 11 = cc in rw m
reads_known n (unknown ws w k m) e = let m : n ≡ 12 = cc in rw m
reads_known {now} n (checked ws r k w c m l) e =
    let m : k ≡ n = cc in
    rw m at (first_number is_refusal (checks_of now r ws) k refl l)
reads_known n (passed ws r w k m l) e = impossible cc

-- The number has a line.
pub parse_known : (now clock : ℕ) (s : List ℕ) (n : ℕ) → parse now clock s ≡ refused n → is_refusal n ≡ true
parse_known now clock s n e = reads_known n (reads now clock s) e

-- what an accepted command has passed
pub record Accepted (now clock : ℕ) (s : List ℕ) (c : Command) : Type 0 where
  pub words : List Word
  pub row : CommandRow
  pub split : words_of s ≡ Some words
  pub early : clock < time_limit
  pub named : command_named commands (word_at 0 words) ≡ Some row
  pub clear : first_applying (checks_of now row words) ≡ None
  pub built : said_by now row.form words ≡ c

-- An accepted command has passed them.
pub parse_accepted : (now clock : ℕ) (s : List ℕ) (c : Command) → parse now clock s ≡ accepted c → Accepted now clock s c
parse_accepted now clock s c = go (reads now clock s)
  where
    go : {p : Parsed} → Reads now clock s p → p ≡ accepted c → Accepted now clock s c
    go (damaged w) e = impossible cc
    go (clock_out ws w k) e = impossible cc
    go (unknown ws w k m) e = impossible cc
    go (checked ws r n w k m l) e = impossible cc
    go (passed ws r w k m l) e =
        record { words = ws; row = r; split = w; early = k; named = m; clear = l; built = cc }
