-- What the functions that parse a command ask and answer, in the terms of the other definitions.
use Rattle.std.specs.Prelude.{Option, None, Some, option_map, option_and_then, unwrap_or, is_some, Result, Ok, Err, ok_or}
use Rattle.std.specs.Prelude.{◌≡◌, Bool, true, false, cond, not, ◌&&◌, ◌||◌, List, [], ◌∷◌, ℕ, ◌+◌, ◌*◌, ◌≤◌, ◌<◌, ltb, eqb, length, drop, get_or, set}
use Rattle.wire.specs.Lists.{any, or_else}
use Rattle.wire.specs.Integers.{read_integer, lowest64, highest64}
use Rattle.wire.specs.Words.{Word, word_at, words_of}
use Rattle.wire.specs.declared.integers.Signed.{Signed}
use Rattle.wire.specs.Promises.{integer_of, signed_for}
use Rattle.store.specs.Layout.{field_most, value_most}
use Rattle.commands.specs.declared.FieldDeed.{FieldDeed}
use Rattle.commands.specs.declared.FieldDeed.TheVariants as fieldDeeds
use Rattle.commands.specs.declared.KeyDeed.{KeyDeed}
use Rattle.commands.specs.declared.KeyDeed.TheVariants as keyDeeds
use Rattle.commands.specs.declared.refusal.Refusal.{Refusal}
use Rattle.commands.specs.declared.refusal.Refusal.TheVariants as refusals
use Rattle.commands.specs.declared.Parsed.{Parsed}
use Rattle.commands.specs.declared.Parsed.TheVariants as parses
use Rattle.commands.specs.declared.Lifetime.{Lifetime}
use Rattle.commands.specs.declared.Lifetime.TheVariants as lifetimes
use Rattle.commands.specs.declared.Versioning.{Versioning}
use Rattle.commands.specs.declared.Versioning.TheVariants as versionings
use Rattle.commands.specs.declared.Stamping.{Stamping}
use Rattle.commands.specs.declared.Sum.{Sum}
use Rattle.commands.specs.declared.table.TimeUnit.{TimeUnit}
use Rattle.commands.specs.declared.table.OptionKind as code
use Rattle.commands.specs.declared.options.ExpiryOption.{ExpiryOption}
use Rattle.commands.specs.declared.options.ExpiryOption.TheVariants as expiries
use Rattle.commands.specs.declared.options.VersionGiven.{VersionGiven}
use Rattle.commands.specs.declared.options.PlacedOption.{PlacedOption}
use Rattle.commands.specs.declared.options.ScannedOptions.{ScannedOptions}
use Rattle.wire.specs.Checks.{Check, ◌when◌, first_applying}
use Rattle.commands.specs.Command.{Deed, Command}
use Rattle.commands.specs.Command.Deed.{assign, increment, expire, persist, renumber, ask}
use Rattle.commands.specs.Command.Command.{on_field, set_many, get_many, delete, count_held, count_live, list}
use Rattle.commands.specs.Options.OptionKind.{expires, keep_ttl, only, versioned, bound, no_exp}
use Rattle.commands.specs.Options.{Given, ◌with◌, min_group, max_group, group, group_count, operand_range, scan, conflicting, readable_operand, given_of, lifetime_of, versioning_of}
use Rattle.commands.specs.Parse as P
use Rattle.commands.specs.Parse.{Form, pairs_of, beyond, allowed, option_words, build, later_checks, is_zero}
use Rattle.commands.specs.TablePromises.{unit_meant, version_meant, kind_meant}

-- ---- words

-- the words of a command, none where it is damaged
pub record Divided (s : List ℕ) (ws : List Word) : Type 0 where
  pub words : words_of s ≡ cond (eqb (length ws) 0) None (Some ws)

-- ---- the lines of refusals

-- the number of each refusal
unfoldable pub refusal_number : Refusal → ℕ
refusal_number refusals.Protocol = 10
refusal_number refusals.ClockOutOfRange = 11
refusal_number refusals.UnknownCommand = 12
refusal_number refusals.WrongArgumentCount = 13
refusal_number refusals.TooLong = 14
refusal_number refusals.Syntax = 15
refusal_number refusals.NotInteger = 16
refusal_number refusals.InvalidVersion = 17
refusal_number refusals.InvalidExpireTime = 18
refusal_number refusals.StaleVersion = 20
refusal_number refusals.HashNotInteger = 21
refusal_number refusals.SumOverflow = 22
refusal_number refusals.VersionOverflow = 23
refusal_number refusals.StoreFull = 24

-- an answer with the number of its refusal
unfoldable pub by_number : {T : Type 0} → Result T Refusal → Result T ℕ
by_number (Ok x) = Ok x
by_number (Err r) = Err (refusal_number r)

-- ---- options that were given

-- an option as it was given, with the number of its last word, its operand if it takes one
unfoldable pub given_by : List Word → code.OptionKind → ℕ → Given
given_by ws k last = kind_meant k with cond (is_some (operand_range (kind_meant k))) (word_at last ws) []

-- the options of the groups as the code has them
abbrev pub expiry_given : List Word → ExpiryOption → Given
expiry_given ws (expiries.Expires u n) = expires (unit_meant u) with word_at n ws
expiry_given ws expiries.KeepTtl = keep_ttl with []

abbrev pub version_given : List Word → VersionGiven → Given
version_given ws v = versioned (version_meant v.option) with word_at v.operand ws

abbrev pub given_list : List Word → ScannedOptions → List (Option Given)
given_list ws r =
    option_map (expiry_given ws) r.expiry
    ∷ option_map (λ c. only c with []) r.condition
    ∷ option_map (version_given ws) r.version
    ∷ option_map (λ n. bound min_group with word_at n ws) r.min
    ∷ option_map (λ n. bound max_group with word_at n ws) r.max
    ∷ cond r.no_exp (Some (no_exp with [])) None
    ∷ []

abbrev pub given_at : List Word → ScannedOptions → ℕ → Option Given
given_at ws r g = get_or (given_list ws r) g None

-- one option more, in the place of its group
abbrev pub WithOption : ScannedOptions → code.OptionKind → ℕ → ScannedOptions → Type 0
WithOption r k last next = (ws : List Word) → given_list ws next ≡ set (given_list ws r) (group (kind_meant k)) (Some (given_by ws k last))

-- an option stands at word i: what is left of a scan there is that option, and what is left behind its last word
pub record FoundOption (ws : List Word) (allowed : List ℕ) (i : ℕ) (kind : code.OptionKind) (last : ℕ) : Type 0 where
  pub left : scan allowed None (drop i ws)
      ≡ option_map (λ gs. given_by ws kind last ∷ gs) (scan allowed None (drop (last + 1) ws))
  pub after : i ≤ last
  pub inside : last < length ws

-- what the code found there; a scan fails where it refuses
abbrev pub FoundBy : List Word → List ℕ → ℕ → Result PlacedOption Refusal → Type 0
FoundBy ws allowed i (Ok x) = FoundOption ws allowed i x.kind x.last
FoundBy ws allowed i (Err r) = (r ≡ refusals.Syntax) × (scan allowed None (drop i ws) ≡ None)

-- a scan of the words from one on that is not refused, and what it found
pub record CleanScan (ws : List Word) (allowed : List ℕ) (from : ℕ) (r : ScannedOptions) : Type 0 where
  pub clean : or_else (scan allowed None (drop from ws)) true conflicting ≡ false
  pub given : (g : ℕ) → g < group_count → given_of g (unwrap_or (scan allowed None (drop from ws)) []) ≡ given_at ws r g

-- what a scan answers
abbrev pub Scanned : List Word → List ℕ → ℕ → Result ScannedOptions Refusal → Type 0
Scanned ws allowed from (Ok r) = CleanScan ws allowed from r
Scanned ws allowed from (Err n) = (n ≡ refusals.Syntax) × (or_else (scan allowed None (drop from ws)) true conflicting ≡ true)

-- ---- what the options say

-- the instant of a number in a unit
unfoldable pub instant_in : TimeUnit → ℕ → ℕ → ℕ
instant_in unit n time = cond (unit_meant unit).from_now (time + (unit_meant unit).ms * n) ((unit_meant unit).ms * n)

-- what an option of the expiry group says, and what one of the version group says
unfoldable pub lifetime_by : ℕ → Option Given → Lifetime
lifetime_by time x = or_else x lifetimes.Clear (λ g. lifetime_of time g.kind g.operand)

unfoldable pub version_by : Option Given → Versioning
version_by x = or_else x versionings.Next (λ g. versioning_of g.kind g.operand)

-- whether an option's number, if it was given and takes one, is read
unfoldable pub read_of : Option Given → Bool
read_of x = or_else x true readable_operand

-- what they say where their numbers are read
unfoldable pub timed_for : ℕ → Option Given → Result Lifetime Refusal
timed_for time x = cond (read_of x) (Ok (lifetime_by time x)) (Err refusals.NotInteger)

unfoldable pub versioned_for : Option Given → Result Versioning Refusal
versioned_for x = cond (read_of x) (Ok (version_by x)) (Err refusals.NotInteger)

-- what the options of the expiry and of the version group say, or the lowest of 16 to 18 that they are refused with
unfoldable pub term_checks : ℕ → Option Given → Option Given → List Check
term_checks time x y =
    16 when not (read_of x && read_of y)
    ∷ 17 when is_zero (version_by y)
    ∷ 18 when beyond (lifetime_by time x)
    ∷ []

unfoldable pub terms_for : ℕ → Option Given → Option Given → Result Stamping ℕ
terms_for time x y = or_else (first_applying (term_checks time x y)) (Ok (record { versioning = version_by y; lifetime = lifetime_by time x })) Err

-- the number of MIN or MAX, or an end where it is not given
unfoldable pub bound_for : Signed → List Word → Option ℕ → Option Signed
bound_for unbounded ws x = or_else x (Some unbounded) (λ n. option_map signed_for (read_integer lowest64 highest64 (word_at n ws)))

-- what EXHINCRBY adds and its bounds, where all three are integers
unfoldable pub sum_for : Option Signed → Option Signed → Option Signed → Result Sum Refusal
sum_for a l g =
    let bounded : Signed → Signed → Option Sum = λ x y. option_map (λ z. record { amount = x; least = y; greatest = z }) g in
    ok_or (option_and_then (λ x. option_and_then (bounded x) l) a) refusals.NotInteger

-- the ends of signed 64 bits, as sign and magnitude
abbrev pub lowest_signed : Signed
lowest_signed = record { negative = true; magnitude = 0x8000_0000_0000_0000 }

abbrev pub highest_signed : Signed
highest_signed = record { negative = false; magnitude = 0x7fff_ffff_ffff_ffff }

-- what EXHINCRBY adds and its bounds: word 3, MIN and MAX
unfoldable pub sum_of : List Word → ScannedOptions → Result Sum Refusal
sum_of ws r =
    sum_for (option_map signed_for (read_integer lowest64 highest64 (word_at 3 ws))) (bound_for lowest_signed ws r.min) (bound_for highest_signed ws r.max)

-- ---- lengths of words

-- a word from word 2 on is longer than a field may be
unfoldable pub any_over : List Word → Bool
any_over ws = any (λ f. ltb field_most (length f)) (drop 2 ws)

-- a pair from word 2 on has a field or a value that is too long
unfoldable pub pair_over : List Word → Bool
pair_over ws = any (λ p. ltb field_most (length p.field) || ltb value_most (length p.value)) (pairs_of (drop 2 ws))

-- ---- a parsed command

-- what is done with a field, where v is the value that the command brings
unfoldable pub deed_of : Word → FieldDeed → Deed
deed_of v (fieldDeeds.Assign c s) = assign v c s.versioning s.lifetime
deed_of v (fieldDeeds.Increment s t) =
    increment (integer_of s.amount) (integer_of s.least) (integer_of s.greatest) t.versioning t.lifetime
deed_of v (fieldDeeds.Expire t n) = expire t n
deed_of v fieldDeeds.Persist = persist
deed_of v (fieldDeeds.Renumber n) = renumber n
deed_of v (fieldDeeds.Ask q) = ask q

-- what is done with the fields of a key, where ws are the words after it
unfoldable pub command_for : Word → List Word → KeyDeed → Command
command_for k ws keyDeeds.SetMany = set_many k (pairs_of ws)
command_for k ws (keyDeeds.GetMany q) = get_many k ws q
command_for k ws keyDeeds.Delete = delete k ws
command_for k ws keyDeeds.CountHeld = count_held k
command_for k ws keyDeeds.CountLive = count_live k
command_for k ws (keyDeeds.List l) = list k l

-- what the code's parsed command says of its words
unfoldable pub meant : List Word → Result Parsed Refusal → P.Parsed
meant ws (Ok (parses.OnField d)) = P.Parsed.accepted (on_field (word_at 1 ws) (word_at 2 ws) (deed_of (word_at 3 ws) d))
meant ws (Ok (parses.OnKey d)) = P.Parsed.accepted (command_for (word_at 1 ws) (drop 2 ws) d)
meant ws (Err r) = P.Parsed.refused (refusal_number r)

-- checks 15 to 18 of a command of a form
unfoldable pub parse_rest : ℕ → Form → List Word → P.Parsed
parse_rest time form ws =
    let scanned : Option (List Given) = scan (allowed form) None (option_words form ws) in
    let c : Command = build time form ws (unwrap_or scanned []) in
    or_else (first_applying (later_checks form ws scanned c)) (P.Parsed.accepted c) P.Parsed.refused
