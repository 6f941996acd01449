-- To compute with the definitions of wire: whoever unfolds `computing` unfolds them all.
use mathlib.Core.List.{flatten, flat_map}
use Rattle.wire.specs.Bytes.{from_le, to_le, part, padded, all_zero, same, text, upper, spells}
use Rattle.wire.specs.Checks.{first_applying}
use Rattle.wire.specs.Integers.{is_digit, value_from, value, is_natural, is_negated, read_plain, within, read_integer, read_natural, digits, natural_text, integer_text}
use Rattle.wire.specs.Lists.{every, all, any, keep, is_empty, only_if, or_else}
use Rattle.wire.specs.Replies.{line, nil, integer, bulk, header, array, resp_of, laid_over}
use Rattle.wire.specs.Words.{before_cr, from_cr, read_count, read_word, read_words, words_of}

unfoldable pub computing : Unit {0}
unfolding flatten flat_map first_applying from_le to_le part padded all_zero same text upper spells is_digit value_from value is_natural is_negated read_plain within read_integer read_natural digits natural_text integer_text every all any keep is_empty only_if or_else line nil integer bulk header array resp_of laid_over before_cr from_cr read_count read_word read_words words_of
computing = tt
