-- The definitions give every row of M-103's searches, in stores that are well formed.
use mathlib.Core.Path.{◌≡◌, refl}
use mathlib.Core.Bool.{true}
use mathlib.Core.List.{map}
use Rattle.wire.specs.Lists.{all}
use Rattle.store.specs.Store.{encode, well_formed}
use Rattle.store.specs.Examples.{store_for, search_given, search_expected, search_rows}
use Rattle.store.proofs.Computing.{computing}

pub search_rows_lem : map search_given search_rows ≡ map search_expected search_rows
unfolding computing
search_rows_lem = refl

pub search_stores : all (λ r. well_formed (encode (store_for r))) search_rows ≡ true
unfolding computing
search_stores = refl
