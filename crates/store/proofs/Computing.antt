-- To compute with the definitions of store: whoever unfolds `computing` unfolds them all, and those of the crates below.
use Rattle.wire.proofs.Computing as wire
use Rattle.store.specs.Layout.{value_start}
use Rattle.store.specs.Store.{entry_at, decode_expiry, decode_entry, decode_slot, slots_in, slot_count, slot_bytes, clock_of, decode, state_of, instant_of, encode_entry, encode_slot, encode, zero_beyond, length_tests, expiry_tests, place_tests, held_well, slot_well, holds, clash, distinct, size_tests, header_tests, well_formed}
use Rattle.store.specs.Time.{now_at, before, live, live_slot, dead_slot, empty_slot, room_slot, of_key, live_of_key, key_exists, lowest_slot, entry_of, slot_for, put, without}
use Rattle.store.specs.Search.{skipped, run_compared, slot_compared, compared}
use Rattle.store.specs.Promises.{searched}
use Rattle.store.specs.Examples.{store_for, search_given, search_expected, search_rows}

unfoldable pub computing : Unit {0}
unfolding wire.computing value_start entry_at decode_expiry decode_entry decode_slot slots_in slot_count slot_bytes clock_of decode state_of instant_of encode_entry encode_slot encode zero_beyond length_tests expiry_tests place_tests held_well slot_well holds clash distinct size_tests header_tests well_formed now_at before live live_slot dead_slot empty_slot room_slot of_key live_of_key key_exists lowest_slot entry_of slot_for put without skipped run_compared slot_compared compared searched store_for search_given search_expected search_rows
computing = tt
