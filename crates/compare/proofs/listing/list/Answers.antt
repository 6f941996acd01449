use native.Mathlib.Omega.{arith}
use Rattle.wire.proofs.ReplyLaying.{laid_length}
use Rattle.compare.specs.Promises.{refusal_number, compared_of}
use Rattle.compare.proofs.CallChecks.{ok_passed, err_refused, compare_refused, compare_short, compare_listed, listing_inside, handed_on}
use Rattle.compare.proofs.listing.list.Goals as goal

pub returns-in_err-check_call : goal.returns-in_err-check_call
returns-in_err-check_call c =
    rw (handed_on c.from_residual.result _ c.from_residual.ensures.1) (compare_refused _ _ _ _ (err_refused c.check_call.ensures c.in_err-check_call.was))

pub returns-then-out-lt-OUTPUT_LEAST : goal.returns-then-out-lt-OUTPUT_LEAST
unfolding compared_of refusal_number
returns-then-out-lt-OUTPUT_LEAST c =
    compare_short _ _ _ _ (ok_passed c.check_call.ensures c.in_ok-check_call.was) (omega (arith, c.if-out-lt-OUTPUT_LEAST.true))

pub put_listing-requires-clause-first_value : goal.put_listing-requires-clause-first_value
put_listing-requires-clause-first_value c =
    let p = ok_passed c.check_call.ensures c.in_ok-check_call.was in
    (p.well, p.also_well)

pub put_listing-requires-clause-second_in_bounds : goal.put_listing-requires-clause-second_in_bounds
put_listing-requires-clause-second_in_bounds c =
    listing_inside _ _ _ _ (ok_passed c.check_call.ensures c.in_ok-check_call.was) (omega (arith, c.if-out-lt-OUTPUT_LEAST.false))

pub shape_of-out : goal.shape_of-out
shape_of-out c =
    laid_length c.put_listing.ensures (listing_inside _ _ _ _ (ok_passed c.check_call.ensures c.in_ok-check_call.was)
    (omega (arith, c.if-out-lt-OUTPUT_LEAST.false)))

pub returns : goal.returns
unfolding compared_of
returns c =
    compare_listed _ _ _ _ (ok_passed c.check_call.ensures c.in_ok-check_call.was) (omega (arith, c.if-out-lt-OUTPUT_LEAST.false))
    (rw (c.put_listing.ensures.size, c.put_listing.ensures.bytes))
