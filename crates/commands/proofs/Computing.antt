-- To compute with the definitions of commands: whoever unfolds `computing` unfolds them all, and those of the crates below.
use Rattle.wire.specs.Words.{word_at}
use Rattle.store.proofs.Computing as store
use Rattle.commands.specs.Claims.{last_of, idle, exec_all}
use Rattle.commands.specs.Command.{key_of, fields_of, deed_values, values_of}
use Rattle.commands.specs.Effect.{change, change_all, next_version, is_stale, setter_version, next_expiry, barred, written, set_effect, counted, increment_effect, expire_effect, has_expiry, persist_effect, renumber_effect, time_left, reply, deed_effect, writes_of, listed, listed_slot, effect}
use Rattle.commands.specs.Examples.{into, spaced, performed, given, expected, marked_examples, worked_cases, command_cases, change_request_cases}
use Rattle.commands.specs.Execute.{named_dead, sweep, passes, writes, adds, added, room, late_checks, settle, run_on, run, perform, exec, exec_bytes}
use Rattle.commands.specs.Options.{read_in, readable, number_in, natural_in, instant, options, group, operand_range, option_named, scan, conflicting, readable_operand, given_of, lifetime_of, condition_of, versioning_of, lifetime, condition, versioning, bound_in}
use Rattle.commands.specs.Parse.{commands, command_named, count_fits, allowed, option_words, number_range, pairs_of, build, too_long, is_zero, deed_versioning, beyond, deed_lifetime, on_deed, later_checks, checks, parse_words, parse}
use Rattle.commands.specs.Refusal.{table, line_in, error_line}

unfoldable pub computing : Unit {0}
unfolding store.computing last_of idle exec_all key_of fields_of deed_values values_of change change_all next_version is_stale setter_version next_expiry barred written set_effect counted increment_effect expire_effect has_expiry persist_effect renumber_effect time_left reply deed_effect writes_of listed listed_slot effect into spaced performed given expected marked_examples worked_cases command_cases change_request_cases named_dead sweep passes writes adds added room late_checks settle run_on run perform exec exec_bytes read_in readable number_in natural_in instant options group operand_range option_named scan conflicting readable_operand given_of lifetime_of condition_of versioning_of lifetime condition versioning bound_in commands command_named count_fits allowed option_words number_range word_at pairs_of build too_long is_zero deed_versioning beyond deed_lifetime on_deed later_checks checks parse_words parse table line_in error_line
computing = tt
