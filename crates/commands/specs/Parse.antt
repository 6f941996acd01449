-- From a command's bytes to what it says, or to the lowest of the refusals 10 to 18. Each check looks at the whole command.
use Rattle.std.specs.Prelude.{Option, None, Some, unwrap_or, is_some}
use Rattle.std.specs.Prelude.{Bool, true, false, cond, not, ◌&&◌, ◌||◌, List, [], ◌∷◌, ℕ, ◌%◌, leb, ltb, eqb, length, drop}
use Prim.Native.String.{String}
use Rattle.wire.specs.Lists.{all, any, or_else}
use Rattle.wire.specs.Bytes.{spells}
use Rattle.wire.specs.Integers.{lowest64, highest64}
use Rattle.wire.specs.Words.{Word, word_at, words_of}
use Rattle.store.specs.Layout.{key_most, field_most, value_most, time_limit}
use Rattle.commands.specs.declared.Versioning.{Versioning}
use Rattle.commands.specs.declared.Versioning.TheVariants.{Next, Match, Exactly, Above}
use Rattle.commands.specs.declared.Lifetime.{Lifetime}
use Rattle.commands.specs.declared.Lifetime.TheVariants.{Clear, Keep, Until}
use Rattle.commands.specs.declared.Question.{Question}
use Rattle.commands.specs.declared.Question.TheVariants.{Value, Length, Exists, Versioned, Version, Seconds, Milliseconds}
use Rattle.commands.specs.declared.Listing.{Listing}
use Rattle.commands.specs.declared.Listing.TheVariants.{Fields, Values, Both}
use Rattle.wire.specs.Checks.{Check, ◌when◌, first_applying}
use Rattle.commands.specs.Command.{Deed, Pair, Command, key_of, fields_of, values_of}
use Rattle.commands.specs.Command.Deed.{assign, increment, expire, persist, renumber, ask}
use Rattle.commands.specs.Command.Command.{on_field, set_many, get_many, delete, count_held, count_live, list}
use Rattle.commands.specs.Options.{Range, times, versions, signed64, readable, number_in, natural_in, TimeUnit, instant, in_seconds, in_ms, Given, scan, conflicting, readable_operand, given_of, lifetime, condition, versioning, bound_in, expiry_group, condition_group, version_group, min_group, max_group, no_exp_group}

-- ---- the commands

-- commands of one form differ in a unit, a question or a listing
pub data Form : Type 0 where
  set_form : Form
  set_many_form : Form
  increment_form : Form
  expire_form : TimeUnit → Form
  persist_form : Form
  renumber_form : Form
  ask_form : Question → Form
  get_many_form : Question → Form
  delete_form : Form
  count_form : Form
  list_form : Listing → Form

-- how many words a command has, its name counted
pub data Count : Type 0 where
  exactly : ℕ → Count
  at_least : ℕ → Count
  even_from : ℕ → Count

pub record CommandRow : Type 0 where
  pub name : String
  pub count : Count
  pub form : Form

abbrev pub row : String → Count → Form → CommandRow
row n c f = record { name = n; count = c; form = f }

-- "Word counts: KEYS, VALS, GETALL 2; .." "EXHEXPIRE, EXHEXPIREAT, EXHPEXPIRE and EXHPEXPIREAT read their time as EX, EXAT, PX and PXAT do."
unfoldable pub commands : List CommandRow
commands =
    row "EXHSET" (at_least 4) set_form
    ∷ row "EXHMSET" (even_from 4) set_many_form
    ∷ row "EXHINCRBY" (at_least 4) increment_form
    ∷ row "EXHEXPIRE" (at_least 4) (expire_form (in_seconds true))
    ∷ row "EXHEXPIREAT" (at_least 4) (expire_form (in_seconds false))
    ∷ row "EXHPEXPIRE" (at_least 4) (expire_form (in_ms true))
    ∷ row "EXHPEXPIREAT" (at_least 4) (expire_form (in_ms false))
    ∷ row "EXHPERSIST" (exactly 3) persist_form
    ∷ row "EXHSETVER" (exactly 4) renumber_form
    ∷ row "EXHPTTL" (exactly 3) (ask_form Milliseconds)
    ∷ row "EXHTTL" (exactly 3) (ask_form Seconds)
    ∷ row "EXHVER" (exactly 3) (ask_form Version)
    ∷ row "EXHGET" (exactly 3) (ask_form Value)
    ∷ row "EXHSTRLEN" (exactly 3) (ask_form Length)
    ∷ row "EXHEXISTS" (exactly 3) (ask_form Exists)
    ∷ row "EXHGETWITHVER" (exactly 3) (ask_form Versioned)
    ∷ row "EXHMGET" (at_least 3) (get_many_form Value)
    ∷ row "EXHMGETWITHVER" (at_least 3) (get_many_form Versioned)
    ∷ row "EXHDEL" (at_least 3) delete_form
    ∷ row "EXHLEN" (at_least 2) count_form
    ∷ row "EXHKEYS" (exactly 2) (list_form Fields)
    ∷ row "EXHVALS" (exactly 2) (list_form Values)
    ∷ row "EXHGETALL" (exactly 2) (list_form Both)
    ∷ []

abbrev pub command_count : ℕ
command_count = 23

unfoldable pub command_named : List CommandRow → Word → Option CommandRow
command_named [] w = None
command_named (r ∷ rs) w =
    let later : Option CommandRow = command_named rs w in
    cond (spells r.name w) (Some r) later

unfoldable pub count_fits : Count → ℕ → Bool
count_fits (exactly k) n = eqb n k
count_fits (at_least k) n = leb k n
count_fits (even_from k) n = leb k n && eqb (n % 2) 0

-- the groups of options that a command takes, and the words among which they stand
unfoldable pub allowed : Form → List ℕ
allowed set_form = expiry_group ∷ condition_group ∷ version_group ∷ []
allowed set_many_form = []
allowed increment_form = expiry_group ∷ version_group ∷ min_group ∷ max_group ∷ []
allowed (expire_form u) = version_group ∷ []
allowed persist_form = []
allowed renumber_form = []
allowed (ask_form q) = []
allowed (get_many_form q) = []
allowed delete_form = []
allowed count_form = no_exp_group ∷ []
allowed (list_form l) = []

unfoldable pub option_words : Form → List Word → List Word
option_words set_form ws = drop 4 ws
option_words set_many_form ws = []
option_words increment_form ws = drop 4 ws
option_words (expire_form u) ws = drop 4 ws
option_words persist_form ws = []
option_words renumber_form ws = []
option_words (ask_form q) ws = []
option_words (get_many_form q) ws = []
option_words delete_form ws = []
option_words count_form ws = drop 2 ws
option_words (list_form l) ws = []

-- the range of the fourth word, where that is a number
unfoldable pub number_range : Form → Option Range
number_range set_form = None
number_range set_many_form = None
number_range increment_form = Some signed64
number_range (expire_form u) = Some times
number_range persist_form = None
number_range renumber_form = Some versions
number_range (ask_form q) = None
number_range (get_many_form q) = None
number_range delete_form = None
number_range count_form = None
number_range (list_form l) = None

-- ---- what the words say

unfoldable pub pairs_of : List Word → List Pair
pairs_of [] = []
pairs_of (f ∷ []) = []
pairs_of (f ∷ v ∷ ws) = record { field = f; value = v } ∷ pairs_of ws

-- the command that words and options say; words that are not there count as empty
unfoldable pub build : ℕ → Form → List Word → List Given → Command
build now set_form ws gs =
    on_field (word_at 1 ws) (word_at 2 ws) (assign (word_at 3 ws) (condition gs) (versioning gs) (lifetime now gs))
build now set_many_form ws gs = set_many (word_at 1 ws) (pairs_of (drop 2 ws))
build now increment_form ws gs =
    on_field
    (word_at 1 ws)
    (word_at 2 ws)
    (increment
    (number_in signed64 (word_at 3 ws))
    (bound_in min_group lowest64 gs)
    (bound_in max_group highest64 gs)
    (versioning gs)
    (lifetime now gs))
build now (expire_form u) ws gs =
    on_field (word_at 1 ws) (word_at 2 ws) (expire (instant now u (word_at 3 ws)) (versioning gs))
build now persist_form ws gs = on_field (word_at 1 ws) (word_at 2 ws) persist
build now renumber_form ws gs = on_field (word_at 1 ws) (word_at 2 ws) (renumber (natural_in versions (word_at 3 ws)))
build now (ask_form q) ws gs = on_field (word_at 1 ws) (word_at 2 ws) (ask q)
build now (get_many_form q) ws gs = get_many (word_at 1 ws) (drop 2 ws) q
build now delete_form ws gs = delete (word_at 1 ws) (drop 2 ws)
build now count_form ws gs = cond (is_some (given_of no_exp_group gs)) (count_live (word_at 1 ws)) (count_held (word_at 1 ws))
build now (list_form l) ws gs = list (word_at 1 ws) l

-- ---- the checks

-- 14: "key, field or value too long"
unfoldable pub too_long : Command → Bool
too_long c =
    ltb key_most (length (key_of c))
    || any (λ f. ltb field_most (length f)) (fields_of c)
    || any (λ v. ltb value_most (length v)) (values_of c)

-- 17: "ABS 0"; M-100: "GT 0 is 17"
unfoldable pub is_zero : Versioning → Bool
is_zero Next = false
is_zero (Match v) = false
is_zero (Exactly v) = eqb v 0
is_zero (Above v) = eqb v 0

unfoldable pub deed_versioning : Deed → Versioning
deed_versioning (assign v c n t) = n
deed_versioning (increment a l g n t) = n
deed_versioning (expire t n) = n
deed_versioning persist = Next
deed_versioning (renumber v) = Next
deed_versioning (ask q) = Next

-- 18: "instant above 4,102,444,800,000"
unfoldable pub beyond : Lifetime → Bool
beyond Clear = false
beyond Keep = false
beyond (Until t) = ltb time_limit t

unfoldable pub deed_lifetime : Deed → Lifetime
deed_lifetime (assign v c n t) = t
deed_lifetime (increment a l g n t) = t
deed_lifetime (expire t n) = Until t
deed_lifetime persist = Clear
deed_lifetime (renumber v) = Clear
deed_lifetime (ask q) = Clear

-- what a command does with its one field, if it has just one
unfoldable pub on_deed : (Deed → Bool) → Command → Bool
on_deed test (on_field k f d) = test d
on_deed test (set_many k ps) = false
on_deed test (get_many k fs q) = false
on_deed test (delete k fs) = false
on_deed test (count_held k) = false
on_deed test (count_live k) = false
on_deed test (list k l) = false

-- 15: "option unknown, repeated or conflicting; a missing operand is refused as 15"; 16: "a number not plain or out of range"
unfoldable pub later_checks : Form → List Word → Option (List Given) → Command → List Check
later_checks form ws scanned c =
    15 when or_else scanned true conflicting
    ∷ 16 when not (or_else (number_range form) true (λ r. readable r (word_at 3 ws)) && all readable_operand (unwrap_or scanned []))
    ∷ 17 when on_deed (λ d. is_zero (deed_versioning d)) c
    ∷ 18 when on_deed (λ d. beyond (deed_lifetime d)) c
    ∷ []

-- 13: "word count"
unfoldable pub checks : Form → Count → List Word → Option (List Given) → Command → List Check
checks form count ws scanned c =
    13 when not (count_fits count (length ws))
    ∷ 14 when too_long c
    ∷ later_checks form ws scanned c

-- the options that a command of a form gives, none where they are damaged, and what the command says with them
abbrev pub scanned_of : Form → List Word → Option (List Given)
scanned_of f ws = scan (allowed f) None (option_words f ws)

abbrev pub said_by : ℕ → Form → List Word → Command
said_by now f ws = build now f ws (unwrap_or (scanned_of f ws) [])

-- the checks 13 to 18 of a command of a row
abbrev pub checks_of : ℕ → CommandRow → List Word → List Check
checks_of now r ws = checks r.form r.count ws (scanned_of r.form ws) (said_by now r.form ws)

-- a command, or the number of the refusal
pub data Parsed : Type 0 where
  refused : ℕ → Parsed
  accepted : Command → Parsed

unfoldable pub parse_words : ℕ → CommandRow → List Word → Parsed
parse_words now r ws = or_else (first_applying (checks_of now r ws)) (accepted (said_by now r.form ws)) refused

-- 10: "not RESP as above"; 11: "record clock 4,102,444,800,000 or more"; 12: "unknown name"
unfoldable pub parse : ℕ → ℕ → List ℕ → Parsed
parse now clock s =
    or_else (words_of s) (refused 10) λ ws.
    cond (leb time_limit clock) (refused 11)
    (or_else (command_named commands (word_at 0 ws)) (refused 12) λ r. parse_words now r ws)
