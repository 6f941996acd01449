use Rattle.compare.proofs.MarkLaws.{live_held}
use Rattle.compare.proofs.CallChecks.{ok_passed, err_refused}
use Rattle.compare.proofs.NewerPlaces.{newer_refused, newer_found}
use Rattle.compare.proofs.newer.newer_in.Goals as goal

pub returns-in-Err : goal.returns-in-Err
returns-in-Err c = rw c.number.ensures (newer_refused _ _ c.args.key.now c.args.field.now _ (err_refused c.check_call.ensures c.in-Err.is))

pub live_near-left-requires : goal.live_near-left-requires
live_near-left-requires c = (ok_passed c.check_call.ensures c.in_default.is).well

pub live_near-right-requires : goal.live_near-right-requires
live_near-right-requires c = (ok_passed c.check_call.ensures c.in_default.is).also_well

pub newer_of-requires : goal.newer_of-requires
newer_of-requires c =
    let p = ok_passed c.check_call.ensures c.in_default.is in
    (live_held _ _ _ c.args.instant p.well c.live_near-left.ensures, live_held _ _ _ c.args.instant p.also_well c.live_near-right.ensures)

pub returns : goal.returns
returns c = newer_found _ _ _ _ _ (ok_passed c.check_call.ensures c.in_default.is) c.live_near-left.ensures c.live_near-right.ensures c.newer_of.ensures
