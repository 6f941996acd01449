-- What the code's tables of commands and options hold, computed from the definitions: the forms of its contracts.
use Rattle.std.specs.Prelude.{true, false, ℕ, length, drop, get_or}
use mathlib.Core.List.{List, ◌∷◌, ◌++◌, flat_map}
use Prim.Native.String.{String}
use Rattle.wire.specs.Bytes.{text}
use Rattle.commands.specs.declared.Versioning.{Versioning}
use Rattle.commands.specs.declared.Versioning.TheVariants as versionings
use Rattle.commands.specs.declared.table.TimeUnit.{TimeUnit}
use Rattle.commands.specs.declared.table.TimeUnit.TheVariants as units
use Rattle.commands.specs.declared.table.Form.{Form}
use Rattle.commands.specs.declared.table.Form.TheVariants as forms
use Rattle.commands.specs.declared.table.WordCount.{WordCount}
use Rattle.commands.specs.declared.table.WordCount.TheVariants as counts
use Rattle.commands.specs.declared.table.CommandRow.{CommandRow}
use Rattle.commands.specs.declared.table.VersionOption.{VersionOption}
use Rattle.commands.specs.declared.table.VersionOption.TheVariants as versions
use Rattle.commands.specs.declared.table.OptionKind.{OptionKind}
use Rattle.commands.specs.declared.table.OptionKind.TheVariants as kinds
use Rattle.commands.specs.declared.table.OptionGroup.{OptionGroup}
use Rattle.commands.specs.declared.table.OptionGroup.TheVariants as groups
use Rattle.commands.specs.Options as O
use Rattle.commands.specs.Options.{in_seconds, in_ms, ◌means◌, options, expiry_group, condition_group, version_group, min_group, max_group, no_exp_group}
use Rattle.commands.specs.Options.OptionKind.{expires, keep_ttl, only, versioned, bound, no_exp}
use Rattle.commands.specs.Parse as P
use Rattle.commands.specs.Parse.{row, commands}
use Rattle.commands.specs.Parse.Count.{exactly, at_least, even_from}
use Rattle.commands.specs.Parse.Form.{set_form, set_many_form, increment_form, expire_form, persist_form, renumber_form, ask_form, get_many_form, delete_form, count_form, list_form}

-- a row of a table: the name's length, the name, and letters that fill it
abbrev pub filler : String
filler = "abcdefghijklmno"

unfoldable pub name_row : String → List ℕ
name_row t = length (text t) ∷ (text t ++ drop (length (text t)) (text filler))

-- ---- the table of commands

-- what the code's units, forms and counts of words say
unfoldable pub unit_meant : TimeUnit → O.TimeUnit
unit_meant units.SecondsFromNow = in_seconds true
unit_meant units.Seconds = in_seconds false
unit_meant units.MillisecondsFromNow = in_ms true
unit_meant units.Milliseconds = in_ms false

unfoldable pub form_meant : Form → P.Form
form_meant forms.Set = set_form
form_meant forms.SetMany = set_many_form
form_meant forms.Increment = increment_form
form_meant (forms.Expire u) = expire_form (unit_meant u)
form_meant forms.Persist = persist_form
form_meant forms.Renumber = renumber_form
form_meant (forms.Ask q) = ask_form q
form_meant (forms.GetMany q) = get_many_form q
form_meant forms.Delete = delete_form
form_meant forms.Count = count_form
form_meant (forms.List l) = list_form l

unfoldable pub count_meant : WordCount → P.Count
count_meant (counts.Exactly k) = exactly k
count_meant (counts.AtLeast k) = at_least k
count_meant (counts.EvenFrom k) = even_from k

-- a row without its name: of the definition, and of the code
abbrev pub row_parts : P.CommandRow → P.Form × P.Count
row_parts r = (r.form, r.count)

abbrev pub row_meant : CommandRow → P.Form × P.Count
row_meant r = (form_meant r.form, count_meant r.count)

-- the least number of words
unfoldable pub least_of : P.Count → ℕ
least_of (exactly k) = k
least_of (at_least k) = k
least_of (even_from k) = k

unfoldable pub command_table : List ℕ
command_table = flat_map (λ r. name_row r.name) commands

-- a command by its number in the table; past its end EXHSET
unfoldable pub command_of : ℕ → P.CommandRow
command_of i = get_or commands i (row "EXHSET" (at_least 4) set_form)

-- ---- the table of options

-- what the code's options say
unfoldable pub version_meant : VersionOption → ℕ → Versioning
version_meant versions.Match = versionings.Match
version_meant versions.Exactly = versionings.Exactly
version_meant versions.Above = versionings.Above

unfoldable pub kind_meant : OptionKind → O.OptionKind
kind_meant (kinds.Expires u) = expires (unit_meant u)
kind_meant kinds.KeepTtl = keep_ttl
kind_meant (kinds.Only c) = only c
kind_meant (kinds.Versioned v) = versioned (version_meant v)
kind_meant kinds.Min = bound min_group
kind_meant kinds.Max = bound max_group
kind_meant kinds.NoExp = no_exp

-- the number of a group of options
unfoldable pub group_number : OptionGroup → ℕ
group_number groups.Expiry = expiry_group
group_number groups.Condition = condition_group
group_number groups.Version = version_group
group_number groups.Min = min_group
group_number groups.Max = max_group
group_number groups.NoExp = no_exp_group

unfoldable pub option_table : List ℕ
option_table = flat_map (λ r. name_row r.name) options

-- an option by its number in the table; past its end NOEXP
unfoldable pub option_of : ℕ → O.OptionRow
option_of i = get_or options i ("NOEXP" means no_exp)
