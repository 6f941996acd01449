-- What each command does to the slots and replies (01, "Versions (000)" and "Command by command"). The named dead entries have been removed
-- before, so an entry that is found is live.
use Rattle.std.specs.Prelude.{Option, None, Some, unwrap_or, is_some}
use Rattle.std.specs.Prelude.{Bool, true, false, cond, not, ◌&&◌, ℕ, ◌+◌, ◌-◌, ◌/◌, leb, eqb, ℤ, pos, negsuc, ◌+ℤ◌, length}
use mathlib.Core.List.{List, [], ◌∷◌, map, flat_map}
use Rattle.wire.specs.Lists.{any, keep, or_else}
use Rattle.wire.specs.Bytes.{same}
use Rattle.wire.specs.Integers.{read_integer, lowest64, highest64, within, integer_text}
use Rattle.wire.specs.Words.{Word}
use Rattle.wire.specs.Replies.{line, nil, integer, number, bulk, array}
use Rattle.store.specs.Store.{Entry, entry, with_version, with_expiry, Slot, holds}
use Rattle.store.specs.Time.{key_exists, of_key, live_of_key, entry_of, put, without}
use Rattle.commands.specs.declared.Versioning.{Versioning}
use Rattle.commands.specs.declared.Versioning.TheVariants.{Next, Match, Exactly, Above}
use Rattle.commands.specs.declared.Lifetime.{Lifetime}
use Rattle.commands.specs.declared.Lifetime.TheVariants.{Clear, Keep, Until}
use Rattle.commands.specs.declared.Condition.{Condition}
use Rattle.commands.specs.declared.Condition.TheVariants.{Always, Missing, Live}
use Rattle.commands.specs.declared.Question.{Question}
use Rattle.commands.specs.declared.Question.TheVariants.{Value, Length, Exists, Versioned, Version, Seconds, Milliseconds}
use Rattle.commands.specs.declared.Listing.{Listing}
use Rattle.commands.specs.declared.Listing.TheVariants.{Fields, Values, Both}
use Rattle.commands.specs.Command.{Deed, Pair, Command}
use Rattle.commands.specs.Command.Deed.{assign, increment, expire, persist, renumber, ask}
use Rattle.commands.specs.Command.Command.{on_field, set_many, get_many, delete, count_held, count_live, list}

-- ---- effects

-- a change of the slots: an entry is written in its place, or the entry of a key and a field is removed
pub data Change : Type 0 where
  write : Entry → Change
  remove : (key field : Word) → Change

-- what a command would do: whether 20, 21 and 22 refuse it, the changes in order, and the reply. 23 and 24 follow from the changes.
pub record Effect : Type 0 where
  pub stale : Bool
  pub not_integer : Bool
  pub overflows : Bool
  pub changes : List Change
  pub reply : List ℕ

-- a reply and no change
abbrev pub answer : List ℕ → Effect
answer r = record { stale = false; not_integer = false; overflows = false; changes = []; reply = r }

-- one entry written, with a reply, unless its version is stale
abbrev pub writing : Bool → Entry → List ℕ → Effect
writing old e r = record { stale = old; not_integer = false; overflows = false; changes = write e ∷ []; reply = r }

unfoldable pub change : ℕ → Change → List Slot → List Slot
change now (write e) ss = put now e ss
change now (remove k f) ss = without (λ e. same e.key k && same e.field f) ss

unfoldable pub change_all : ℕ → List Change → List Slot → List Slot
change_all now [] ss = ss
change_all now (c ∷ cs) ss = change_all now cs (change now c ss)

-- ---- versions

-- "No VER or ABS: a missing field gets 1, a live one its version plus 1." "VER v: .. else as above." "ABS v: version v" M-100: "the given version must
-- be greater than the stored one and becomes the version"; "A missing field takes it as its version." M-101: "With VER 0 a missing field gets 1 and a
-- live one its version plus 1."
unfoldable pub next_version : Versioning → Option Entry → ℕ
next_version Next found = or_else found 1 (λ e. e.version + 1)
next_version (Match v) found = or_else found 1 (λ e. e.version + 1)
next_version (Exactly v) found = v
next_version (Above v) found = v

-- "VER v: if the field is live with a version other than 0 and v differs, refusal 20" M-100: "a GT not greater than a live field's version is 20"
-- M-101: "a VER of 0 makes no version check. Here 004 decides, not 000", in place of 01's "A VER of 0 is compared like any other."
unfoldable pub is_stale : Versioning → Option Entry → Bool
is_stale Next found = false
is_stale (Match v) found = or_else found false (λ e. not (eqb v 0) && not (eqb e.version 0) && not (eqb e.version v))
is_stale (Exactly v) found = false
is_stale (Above v) found = or_else found false (λ e. leb v e.version)

-- "The four expiry setters change the version only when VER or ABS is given." M-100: GT is taken there too. M-101: VER 0 is given like any VER
unfoldable pub setter_version : Versioning → Entry → ℕ
setter_version Next e = e.version
setter_version (Match v) e = next_version (Match v) (Some e)
setter_version (Exactly v) e = next_version (Exactly v) (Some e)
setter_version (Above v) e = next_version (Above v) (Some e)

-- ---- one field

-- "Expiry is cleared unless an option sets it or KEEPTTL keeps it."
unfoldable pub next_expiry : Lifetime → Option Entry → Option ℕ
next_expiry Clear found = None
next_expiry Keep found = or_else found None (λ e. e.expiry)
next_expiry (Until t) found = Some t

-- "NX on a live field or XX on a missing one: reply -1"
unfoldable pub barred : Condition → Option Entry → Bool
barred Always found = false
barred Missing found = is_some found
barred Live found = not (is_some found)

unfoldable pub written : Word → Word → Word → Versioning → Lifetime → Option Entry → Entry
written k f v n t found =
    entry k f v (next_version n found) (next_expiry t found)

-- "New 1, overwritten 0."
unfoldable pub set_effect : Word → Word → Word → Condition → Versioning → Lifetime → Option Entry → Effect
set_effect k f v c n t found =
    cond (barred c found)
    (answer (integer (negsuc 0)))
    (writing (is_stale n found) (written k f v n t found) (number (or_else found 1 (λ e. 0))))

-- "A missing field counts as 0."
unfoldable pub counted : Option Entry → Option ℤ
counted found = or_else found (Some (pos 0)) (λ e. read_integer lowest64 highest64 e.value)

-- "The sum is stored as a plain integer's text and replied as a number."
unfoldable pub increment_effect : Word → Word → ℤ → ℤ → ℤ → Versioning → Lifetime → Option Entry → Effect
increment_effect k f amount least greatest n t found =
    let sum : ℤ = unwrap_or (counted found) (pos 0) +ℤ amount in
    record {
      stale = is_stale n found;
      not_integer = not (is_some (counted found));
      overflows = not (within lowest64 highest64 sum && within least greatest sum);
      changes = write (written k f (integer_text sum) n t found) ∷ [];
      reply = integer sum;
    }

-- "missing 0 (before 20), else 1"
unfoldable pub expire_effect : ℕ → Versioning → Option Entry → Effect
expire_effect t n found =
    or_else found (answer (number 0)) λ e.
    writing (is_stale n found)
    (with_version (setter_version n e) (with_expiry (Some t) e))
    (number 1)

unfoldable pub has_expiry : Option ℕ → Bool
has_expiry None = false
has_expiry (Some t) = true

-- "EXHPERSIST: 1 if an expiry was removed, else 0."
unfoldable pub persist_effect : Option Entry → Effect
persist_effect found =
    or_else found (answer (number 0)) λ e.
    cond (has_expiry e.expiry)
    (writing false (with_expiry None e) (number 1))
    (answer (number 0))

-- "EXHSETVER (0 allowed): missing 0, else 1."
unfoldable pub renumber_effect : ℕ → Option Entry → Effect
renumber_effect v found =
    or_else found (answer (number 0)) λ e.
    writing false (with_version v e) (number 1)

-- "EXHPTTL: missing -2, no expiry -1, else expiry less now. EXHTTL: .. that difference divided by 1,000 and rounded down."
unfoldable pub time_left : ℕ → ℕ → Option ℕ → ℤ
time_left now unit None = negsuc 0
time_left now unit (Some t) = pos ((t - now) / unit)

-- "EXHGET, EXHSTRLEN, EXHEXISTS: missing gives nil, 0, 0. EXHGETWITHVER: nil, or an array of value and version." "EXHVER: no such key -1, no
-- such field -2, else the version."
unfoldable pub reply : ℕ → List Slot → Word → Question → Option Entry → List ℕ
reply now ss k Value found = or_else found nil (λ e. bulk e.value)
reply now ss k Length found = number (or_else found 0 (λ e. length e.value))
reply now ss k Exists found = number (or_else found 0 (λ e. 1))
reply now ss k Versioned found = or_else found nil (λ e. array (bulk e.value ∷ number e.version ∷ []))
reply now ss k Version found =
    integer (or_else found (cond (key_exists now k ss) (negsuc 1) (negsuc 0)) (λ e. pos e.version))
reply now ss k Seconds found = integer (or_else found (negsuc 1) (λ e. time_left now 1000 e.expiry))
reply now ss k Milliseconds found = integer (or_else found (negsuc 1) (λ e. time_left now 1 e.expiry))

unfoldable pub deed_effect : ℕ → List Slot → Word → Word → Deed → Option Entry → Effect
deed_effect now ss k f (assign v c n t) found = set_effect k f v c n t found
deed_effect now ss k f (increment a l g n t) found = increment_effect k f a l g n t found
deed_effect now ss k f (expire t n) found = expire_effect t n found
deed_effect now ss k f persist found = persist_effect found
deed_effect now ss k f (renumber v) found = renumber_effect v found
deed_effect now ss k f (ask q) found = answer (reply now ss k q found)

-- ---- many fields

-- "EXHMSET key, pairs: plain EXHSET of each pair in order": the entries written, each on the slots that the earlier ones leave
unfoldable pub writes_of : ℕ → Word → List Pair → List Slot → List Change
writes_of now k [] ss = []
writes_of now k (p ∷ ps) ss =
    let e : Entry = written k p.field p.value Next Clear (entry_of k p.field ss) in
    write e ∷ writes_of now k ps (put now e ss)

unfoldable pub listed : Listing → Entry → List (List ℕ)
listed Fields e = bulk e.field ∷ []
listed Values e = bulk e.value ∷ []
listed Both e = bulk e.field ∷ bulk e.value ∷ []

unfoldable pub listed_slot : Listing → Slot → List (List ℕ)
listed_slot l s = or_else s [] (listed l)

-- ---- all commands

-- EXHDEL replies the "number of live entries removed", EXHLEN counts "held entries, dead too; with NOEXP live ones"; EXHKEYS, EXHVALS and
-- EXHGETALL list "live entries in slot order"
unfoldable pub effect : ℕ → Command → List Slot → Effect
effect now (on_field k f d) ss = deed_effect now ss k f d (entry_of k f ss)
effect now (set_many k ps) ss =
    record {
      stale = false;
      not_integer = false;
      overflows = false;
      changes = writes_of now k ps ss;
      reply = line "+OK";
    }
effect now (get_many k fs q) ss = answer (array (map (λ f. reply now ss k q (entry_of k f ss)) fs))
effect now (delete k fs) ss =
    record {
      stale = false;
      not_integer = false;
      overflows = false;
      changes = map (remove k) fs;
      reply = number (length (keep (λ s. any (λ f. holds k f s) fs) ss));
    }
effect now (count_held k) ss = answer (number (length (keep (of_key k) ss)))
effect now (count_live k) ss = answer (number (length (keep (live_of_key now k) ss)))
effect now (list k l) ss = answer (array (flat_map (listed_slot l) (keep (live_of_key now k) ss)))
