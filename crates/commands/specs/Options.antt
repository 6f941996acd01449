-- Options: "Names and option words are read without regard to case. Options follow the fixed words in any order; each at most once."
use Rattle.std.specs.Prelude.{Option, None, Some, option_map, unwrap_or, is_some}
use Rattle.std.specs.Prelude.{Bool, true, false, cond, ◌&&◌, ◌||◌, List, [], ◌∷◌, ℕ, ◌+◌, ◌*◌, eqb, ℤ, pos, nat_abs}
use Prim.Native.String.{String}
use Rattle.wire.specs.Lists.{any, or_else}
use Rattle.wire.specs.Bytes.{spells}
use Rattle.wire.specs.Integers.{read_integer, lowest64, highest64}
use Rattle.wire.specs.Words.{Word}
use Rattle.store.specs.Layout.{time_limit, version_most}
use Rattle.commands.specs.declared.Versioning.{Versioning}
use Rattle.commands.specs.declared.Versioning.TheVariants.{Next, Match, Exactly, Above}
use Rattle.commands.specs.declared.Lifetime.{Lifetime}
use Rattle.commands.specs.declared.Lifetime.TheVariants.{Clear, Keep, Until}
use Rattle.commands.specs.declared.Condition.{Condition}
use Rattle.commands.specs.declared.Condition.TheVariants.{Always, Missing, Live}

-- ---- numbers among the words

-- the range of a number: "Times are plain, 0 to 4,102,444,800,000; versions plain, 0 to their largest."
pub record Range : Type 0 where
  pub least : ℤ
  pub greatest : ℤ

abbrev pub times : Range
times = record { least = pos 0; greatest = pos time_limit }

abbrev pub versions : Range
versions = record { least = pos 0; greatest = pos version_most }

abbrev pub signed64 : Range
signed64 = record { least = lowest64; greatest = highest64 }

unfoldable pub read_in : Range → Word → Option ℤ
read_in r w = read_integer r.least r.greatest w

unfoldable pub readable : Range → Word → Bool
readable r w = is_some (read_in r w)

-- the number of a word, 0 where it is not in its range (refusal 16 has been given then)
unfoldable pub number_in : Range → Word → ℤ
number_in r w = unwrap_or (read_in r w) (pos 0)

unfoldable pub natural_in : Range → Word → ℕ
natural_in r w = nat_abs (number_in r w)

-- "EX and EXAT are seconds, PX and PXAT ms; EX and PX count from now."
pub record TimeUnit : Type 0 where
  pub ms : ℕ
  pub from_now : Bool

unfoldable pub instant : ℕ → TimeUnit → Word → ℕ
instant now u w = cond u.from_now (now + u.ms * natural_in times w) (u.ms * natural_in times w)

-- ---- the options

-- what an option says; EX, EXAT, PX and PXAT carry their unit, VER, ABS and GT what their number becomes, MIN and MAX their group
pub data OptionKind : Type 0 where
  expires : TimeUnit → OptionKind
  keep_ttl : OptionKind
  only : Condition → OptionKind
  versioned : (ℕ → Versioning) → OptionKind
  bound : ℕ → OptionKind
  no_exp : OptionKind

pub record OptionRow : Type 0 where
  pub name : String
  pub kind : OptionKind

infix 70 ◌means◌
abbrev pub ◌means◌ : String → OptionKind → OptionRow
n means m = record { name = n; kind = m }

abbrev pub in_seconds : Bool → TimeUnit
in_seconds b = record { ms = 1000; from_now = b }

abbrev pub in_ms : Bool → TimeUnit
in_ms b = record { ms = 1; from_now = b }

-- "at most one of EX, EXAT, PX, PXAT, KEEPTTL; of NX, XX; of VER, ABS": options of one group exclude one another, and one excludes itself. M-100:
-- "GT joins VER and ABS: at most one."
abbrev pub expiry_group : ℕ
expiry_group = 0

abbrev pub condition_group : ℕ
condition_group = 1

abbrev pub version_group : ℕ
version_group = 2

abbrev pub min_group : ℕ
min_group = 3

abbrev pub max_group : ℕ
max_group = 4

abbrev pub no_exp_group : ℕ
no_exp_group = 5

abbrev pub group_count : ℕ
group_count = 6

unfoldable pub options : List OptionRow
options =
    "EX" means expires (in_seconds true)
    ∷ "EXAT" means expires (in_seconds false)
    ∷ "PX" means expires (in_ms true)
    ∷ "PXAT" means expires (in_ms false)
    ∷ "KEEPTTL" means keep_ttl
    ∷ "NX" means only Missing
    ∷ "XX" means only Live
    ∷ "VER" means versioned Match
    ∷ "ABS" means versioned Exactly
    ∷ "GT" means versioned Above
    ∷ "MIN" means bound min_group
    ∷ "MAX" means bound max_group
    ∷ "NOEXP" means no_exp
    ∷ []

abbrev pub option_count : ℕ
option_count = 13

unfoldable pub group : OptionKind → ℕ
group (expires u) = expiry_group
group keep_ttl = expiry_group
group (only c) = condition_group
group (versioned f) = version_group
group (bound n) = n
group no_exp = no_exp_group

-- the range of an option's operand, where it takes one
unfoldable pub operand_range : OptionKind → Option Range
operand_range (expires u) = Some times
operand_range keep_ttl = None
operand_range (only c) = None
operand_range (versioned f) = Some versions
operand_range (bound n) = Some signed64
operand_range no_exp = None

-- the option that a word names, among the groups that a command allows
unfoldable pub option_named : List OptionRow → List ℕ → Word → Option OptionKind
option_named [] allowed w = None
option_named (r ∷ rs) allowed w =
    let later : Option OptionKind = option_named rs allowed w in
    cond (spells r.name w && any (eqb (group r.kind)) allowed) (Some r.kind) later

-- an option as it was given; the operand is empty where it takes none
pub record Given : Type 0 where
  pub kind : OptionKind
  pub operand : Word

infix 70 ◌with◌
abbrev pub ◌with◌ : OptionKind → Word → Given
m with w = record { kind = m; operand = w }

-- The options among the words, none where one is unknown or lacks its operand. "A word after an option that takes one is its operand,
-- whatever it says." The second argument is an option whose operand comes next.
unfoldable pub scan : List ℕ → Option OptionKind → List Word → Option (List Given)
scan allowed None [] = Some []
scan allowed (Some m) [] = None
scan allowed (Some m) (w ∷ ws) = option_map (λ gs. m with w ∷ gs) (scan allowed None ws)
scan allowed None (w ∷ ws) =
    or_else (option_named options allowed w) None λ m.
    let bare : Option (List Given) = option_map (λ gs. m with [] ∷ gs) (scan allowed None ws) in
    or_else (operand_range m) bare (λ r. scan allowed (Some m) ws)

-- "repeated or conflicting": two of one group
unfoldable pub conflicting : List Given → Bool
conflicting [] = false
conflicting (g ∷ gs) = any (λ h. eqb (group g.kind) (group h.kind)) gs || conflicting gs

-- whether an option's operand, if it takes one, is a number of its range
unfoldable pub readable_operand : Given → Bool
readable_operand g = or_else (operand_range g.kind) true (λ r. readable r g.operand)

-- ---- what the options say

-- the option of a group that was given
unfoldable pub given_of : ℕ → List Given → Option Given
given_of n [] = None
given_of n (g ∷ gs) =
    let later : Option Given = given_of n gs in
    cond (eqb (group g.kind) n) (Some g) later

-- "Expiry is cleared unless an option sets it or KEEPTTL keeps it."
unfoldable pub lifetime_of : ℕ → OptionKind → Word → Lifetime
lifetime_of now (expires u) w = Until (instant now u w)
lifetime_of now keep_ttl w = Keep
lifetime_of now (only c) w = Clear
lifetime_of now (versioned f) w = Clear
lifetime_of now (bound n) w = Clear
lifetime_of now no_exp w = Clear

unfoldable pub condition_of : OptionKind → Condition
condition_of (expires u) = Always
condition_of keep_ttl = Always
condition_of (only c) = c
condition_of (versioned f) = Always
condition_of (bound n) = Always
condition_of no_exp = Always

unfoldable pub versioning_of : OptionKind → Word → Versioning
versioning_of (expires u) w = Next
versioning_of keep_ttl w = Next
versioning_of (only c) w = Next
versioning_of (versioned f) w = f (natural_in versions w)
versioning_of (bound n) w = Next
versioning_of no_exp w = Next

unfoldable pub lifetime : ℕ → List Given → Lifetime
lifetime now gs = or_else (given_of expiry_group gs) Clear (λ g. lifetime_of now g.kind g.operand)

unfoldable pub condition : List Given → Condition
condition gs = or_else (given_of condition_group gs) Always (λ g. condition_of g.kind)

unfoldable pub versioning : List Given → Versioning
versioning gs = or_else (given_of version_group gs) Next (λ g. versioning_of g.kind g.operand)

-- MIN and MAX, the ends of signed 64 bits where they are not given
unfoldable pub bound_in : ℕ → ℤ → List Given → ℤ
bound_in n unbounded gs = or_else (given_of n gs) unbounded (λ g. number_in signed64 g.operand)
