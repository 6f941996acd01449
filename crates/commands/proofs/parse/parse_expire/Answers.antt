use Rattle.store.specs.Layout.{time_limit}
use Rattle.commands.proofs.Handing.{handed, handed_none}
use Rattle.commands.proofs.OperandWords.{natural_value, natural_refused}
use Rattle.commands.proofs.Parsing.{not_clean, ready}
use Rattle.commands.proofs.ParseFamilies.{expire_takes, expire_unread, expire_unversioned, expire_zero, expire_beyond, expire_done}
use Rattle.commands.proofs.parse.parse_expire.Goals as goal

pub returns-in_err-options : goal.returns-in_err-options
returns-in_err-options c =
    rw (handed c.from_residual.result c.from_residual.ensures.1) (not_clean (expire_takes c.args.unit) _ c.in_err-options.ensures c.args.time)

pub returns-in_err-n : goal.returns-in_err-n
returns-in_err-n c =
    let no = c.in_err-n.ensures in
    rw (handed_none c.from_residual-in_err-n.result c.from_residual-in_err-n.ensures.1 _ no.value)
    (expire_unread c.args.time c.args.unit (ready (expire_takes c.args.unit) _ c.in_ok-options.ensures) (natural_refused time_limit c.word.ensures c.read_natural.ensures no.ok_part))

pub returns-in_err-versioning : goal.returns-in_err-versioning
returns-in_err-versioning c =
    rw (handed c.from_residual-in_err-versioning.result c.from_residual-in_err-versioning.ensures.1)
    (expire_unversioned c.args.time c.args.unit (ready (expire_takes c.args.unit) _ c.in_ok-options.ensures) c.versioning.ensures c.in_err-versioning.was)

pub returns-then-is_zero : goal.returns-then-is_zero
returns-then-is_zero c =
    expire_zero c.args.time c.args.unit (ready (expire_takes c.args.unit) _ c.in_ok-options.ensures) c.versioning.ensures (natural_value time_limit c.word.ensures c.read_natural.ensures c.in_ok-n.n c.in_ok-n.ensures.ok_part).0 c.in_ok-versioning.was c.is_zero.ensures c.if-is_zero.true

pub instant-instant-requires : goal.instant-instant-requires
instant-instant-requires c =
    ((natural_value time_limit c.word.ensures c.read_natural.ensures c.in_ok-n.n c.in_ok-n.ensures.ok_part).1, c.requires)

pub returns-then-instant-gt-TIME_LIMIT : goal.returns-then-instant-gt-TIME_LIMIT
returns-then-instant-gt-TIME_LIMIT c =
    expire_beyond c.args.time c.args.unit (ready (expire_takes c.args.unit) _ c.in_ok-options.ensures) c.versioning.ensures (natural_value time_limit c.word.ensures c.read_natural.ensures c.in_ok-n.n c.in_ok-n.ensures.ok_part).0 c.in_ok-versioning.was c.is_zero.ensures c.if-is_zero.false c.instant-instant.ensures c.if-instant-gt-TIME_LIMIT.true

pub returns : goal.returns
returns c =
    expire_done c.args.time c.args.unit (ready (expire_takes c.args.unit) _ c.in_ok-options.ensures) c.versioning.ensures (natural_value time_limit c.word.ensures c.read_natural.ensures c.in_ok-n.n c.in_ok-n.ensures.ok_part).0 c.in_ok-versioning.was c.is_zero.ensures c.if-is_zero.false c.instant-instant.ensures c.if-instant-gt-TIME_LIMIT.false
