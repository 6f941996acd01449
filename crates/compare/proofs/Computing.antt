-- To compute with the definitions of compare: whoever unfolds `computing` unfolds them all, and those of the crates below.
use Rattle.store.proofs.Computing as store
use Rattle.compare.specs.Listing.{live_of, live_slot_of, same_expiry, agree, first_mark, second_mark, line_of, lines_from, lines, spaced, line_text, listing_of, listing}
use Rattle.compare.specs.Newer.{newer_of, newer_slot, place_of, part_at}
use Rattle.compare.specs.Calls.{checks, listing_checks, compare, newer_in}
use Rattle.compare.specs.Examples.{listing_given, listing_expected, listing_rows, newer_given, newer_expected, newer_rows, call_given, call_expected, call_rows}

unfoldable pub computing : Unit {0}
unfolding store.computing live_of live_slot_of same_expiry agree first_mark second_mark line_of lines_from lines spaced line_text listing_of listing newer_of newer_slot place_of part_at checks listing_checks compare newer_in listing_given listing_expected listing_rows newer_given newer_expected newer_rows call_given call_expected call_rows
computing = tt
