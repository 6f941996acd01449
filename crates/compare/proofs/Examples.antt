-- The definitions give every row of the request's example and the cases beside it.
use mathlib.Core.Path.{◌≡◌, refl}
use mathlib.Core.List.{map}
use Rattle.compare.specs.Examples.{listing_given, listing_expected, listing_rows, newer_given, newer_expected, newer_rows, call_given, call_expected, call_rows}
use Rattle.compare.proofs.Computing.{computing}

-- listings
pub listing_rows_lem : map listing_given listing_rows ≡ map listing_expected listing_rows
unfolding computing
listing_rows_lem = refl

-- the newer value, its refusals too
pub newer_rows_lem : map newer_given newer_rows ≡ map newer_expected newer_rows
unfolding computing
newer_rows_lem = refl

-- the listing's call, its refusals too
pub call_rows_lem : map call_given call_rows ≡ map call_expected call_rows
unfolding computing
call_rows_lem = refl
