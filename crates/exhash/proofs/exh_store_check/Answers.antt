use Rattle.exhash.proofs.exh_store_check.Goals as goal

pub returns-then-well_formed : goal.returns-then-well_formed
returns-then-well_formed c = rw (← c.well_formed-2.ensures, c.if-well_formed.true)

pub returns : goal.returns
returns c = rw (← c.well_formed-2.ensures, c.if-well_formed.false)
