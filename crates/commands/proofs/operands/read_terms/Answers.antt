use Rattle.commands.proofs.Handing.{handed}
use Rattle.commands.proofs.Parsing.{terms_untimed, terms_unversioned, terms_zero, terms_beyond, terms_both}
use Rattle.commands.proofs.operands.read_terms.Goals as goal

pub returns-in_err-until : goal.returns-in_err-until
returns-in_err-until c =
    rw (handed c.from_residual.result c.from_residual.ensures.1) (terms_untimed c.args.time _ _ c.lifetime.ensures c.in_err-until.was)

pub returns-in_err-version : goal.returns-in_err-version
returns-in_err-version c =
    rw (handed c.from_residual-in_err-version.result c.from_residual-in_err-version.ensures.1)
    (terms_unversioned c.args.time _ _ c.lifetime.ensures c.versioning.ensures c.in_ok-until.was c.in_err-version.was)

pub returns-then-is_zero : goal.returns-then-is_zero
returns-then-is_zero c =
    terms_zero c.args.time _ _ c.lifetime.ensures c.versioning.ensures c.in_ok-until.was c.in_ok-version.was c.is_zero.ensures c.if-is_zero.true

pub returns-then-is_beyond : goal.returns-then-is_beyond
returns-then-is_beyond c =
    terms_beyond c.args.time _ _ c.lifetime.ensures c.versioning.ensures c.in_ok-until.was c.in_ok-version.was c.is_zero.ensures c.if-is_zero.false c.is_beyond.ensures c.if-is_beyond.true

pub returns : goal.returns
returns c =
    terms_both c.args.time _ _ c.lifetime.ensures c.versioning.ensures c.in_ok-until.was c.in_ok-version.was c.is_zero.ensures c.if-is_zero.false c.is_beyond.ensures c.if-is_beyond.false
