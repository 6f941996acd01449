-- What the claims about commands speak of.
use Rattle.std.specs.Prelude.{Option, None, Some, unwrap_or, is_some}
use Rattle.std.specs.Prelude.{◌≡◌, ◌⊎◌, Bool, true, false, cond, not, ◌&&◌, List, [], ◌∷◌, ℕ, ◌≤◌, ◌<◌, leb}
use Rattle.wire.specs.Lists.{any, or_else}
use Rattle.wire.specs.Bytes.{same}
use Rattle.wire.specs.Words.{Word, word_at, words_of}
use Rattle.store.specs.Layout.{time_limit}
use Rattle.store.specs.Store.{Entry, Slot, Store}
use Rattle.store.specs.Time.{live, entry_of}
use Rattle.wire.specs.Checks.{Check, ◌when◌}
use Rattle.commands.specs.Command.{Deed, Pair, Command, key_of, fields_of}
use Rattle.commands.specs.Command.Deed.{assign, increment, expire, persist, renumber, ask}
use Rattle.commands.specs.Parse.{CommandRow, commands, command_named, checks_of}
use Rattle.commands.specs.Effect.{Effect, barred}
use Rattle.commands.specs.Execute.{passes, room, exec}

-- a check of a number applies
unfoldable pub Applies : ℕ → List Check → Type 0
Applies n [] = ⊥
Applies n (c ∷ cs) = ((c.number ≡ n) × (c.applies ≡ true)) ⊎ Applies n cs

-- "10: not RESP as above; 11: record clock 4,102,444,800,000 or more; 12: unknown name"; then 13 to 18 of a command whose name is known
unfoldable pub early_checks : ℕ → ℕ → List ℕ → List Check
early_checks now clock s =
    let ws : List Word = unwrap_or (words_of s) [] in
    let row : Option CommandRow = command_named commands (word_at 0 ws) in
    10 when not (is_some (words_of s))
    ∷ 11 when leb time_limit clock
    ∷ 12 when not (is_some row)
    ∷ or_else row [] (λ r. checks_of now r ws)

-- "The lowest number that applies"
pub record LowestOf (cs : List Check) (n : ℕ) : Type 0 where
  pub applies : Applies n cs
  pub least : (m : ℕ) → Applies m cs → n ≤ m

-- none of 20 to 23 applies
pub record Proper (e : Effect) : Type 0 where
  pub fresh : e.stale ≡ false
  pub integral : e.not_integer ≡ false
  pub bounded : e.overflows ≡ false
  pub numbered : any passes e.changes ≡ false

-- whether a command names an entry, by its key and its field
abbrev pub names : Command → Entry → Bool
names c e = same e.key (key_of c) && any (same e.field) (fields_of c)

-- the value of the last pair of a field
unfoldable pub last_of : Word → List Pair → Option Word
last_of f [] = None
last_of f (p ∷ ps) = or_else (last_of f ps) (cond (same p.field f) (Some p.value) None) Some

-- the entry of a key and a field has a value, and no expiry
pub record Written (k f v : Word) (ss : List Slot) : Type 0 where
  pub entry : Entry
  pub here : entry_of k f ss ≡ Some entry
  pub value : entry.value ≡ v
  pub expiry : entry.expiry ≡ None

-- the entry of a key and a field has a version
pub record Numbered (k f : Word) (v : ℕ) (ss : List Slot) : Type 0 where
  pub entry : Entry
  pub here : entry_of k f ss ≡ Some entry
  pub version : entry.version ≡ v

-- a deed that takes VER, ABS or GT and does not write its field: an EXHSET that NX or XX bars, an expiry setter of a missing field. The last three
-- take none of them.
unfoldable pub idle : Deed → Option Entry → Bool
idle (assign v c n t) found = barred c found
idle (increment a l g n t) found = false
idle (expire t n) found = not (is_some found)
idle persist found = true
idle (renumber v) found = true
idle (ask q) found = true

-- at the store's own clock a field is live without expiry at a version below v, or missing while a slot is empty or dead
pub data Behind (k f : Word) (v : ℕ) (s : Store) : Type 0 where
  below : (e : Entry) → entry_of k f s.slots ≡ Some e → e.expiry ≡ None → e.version < v → Behind k f v s
  missing : ((e : Entry) → entry_of k f s.slots ≡ Some e → live s.clock e ≡ false) → 1 ≤ room s.clock s.slots → Behind k f v s

-- a record of the stream
pub record Step : Type 0 where
  pub clock : ℕ
  pub command : List ℕ

-- the store after records, one after another
unfoldable pub exec_all : List Step → Store → Store
exec_all [] s = s
exec_all (r ∷ rs) s = exec_all rs (exec r.clock r.command s).store
