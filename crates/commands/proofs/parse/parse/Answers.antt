use mathlib.Core.Path.{sym, ◌∙◌}
use native.Mathlib.Omega.{arith}
use Rattle.commands.proofs.Handing.{handed_none}
use Rattle.commands.proofs.ParseFromBytes.{parse_10, parse_11, parse_12, parse_13, parse_14, parse_rest_lem}
use Rattle.commands.proofs.parse.parse.Goals as goal

pub returns-then-len-eq0 : goal.returns-then-len-eq0
returns-then-len-eq0 c s d = parse_10 d c.args.time c.args.clock (sym c.len.ensures.value ∙ c.if-len-eq0.true)

pub returns-then-clock-ge-TIME_LIMIT : goal.returns-then-clock-ge-TIME_LIMIT
returns-then-clock-ge-TIME_LIMIT c s d = parse_11 d c.args.time c.args.clock (λ e. c.if-len-eq0.false (c.len.ensures.value ∙ e)) (omega (arith, c.if-clock-ge-TIME_LIMIT.true))

pub returns-in_err-row : goal.returns-in_err-row
returns-in_err-row c s d =
    let no = c.in_err-row.ensures in
    rw (handed_none c.from_residual.result c.from_residual.ensures.1 _ no.value)
    (parse_12 d c.args.time c.args.clock (λ e. c.if-len-eq0.false (c.len.ensures.value ∙ e)) (omega arith) c.word.ensures _ c.command_named.ensures no.ok_part)

pub returns-then-not-count_fits : goal.returns-then-not-count_fits
returns-then-not-count_fits c s d =
    parse_13 d c.args.time c.args.clock (λ e. c.if-len-eq0.false (c.len.ensures.value ∙ e)) (omega arith) c.word.ensures _ c.command_named.ensures c.in_ok-row.row c.in_ok-row.ensures.ok_part (rw c.len-2.ensures.value at c.count_fits.ensures) c.if-not-count_fits.true-raw

pub returns-then-too_long : goal.returns-then-too_long
returns-then-too_long c s d =
    parse_14 d c.args.time c.args.clock (λ e. c.if-len-eq0.false (c.len.ensures.value ∙ e)) (omega arith) c.word.ensures _ c.command_named.ensures c.in_ok-row.row c.in_ok-row.ensures.ok_part (rw c.len-2.ensures.value at c.count_fits.ensures) c.if-not-count_fits.false-raw c.too_long.ensures c.if-too_long.true

pub parse_row-requires : goal.parse_row-requires
parse_row-requires c = c.requires (omega arith)

pub returns : goal.returns
returns c s d =
    parse_rest_lem d c.args.time c.args.clock (λ e. c.if-len-eq0.false (c.len.ensures.value ∙ e)) (omega arith) c.word.ensures _ c.command_named.ensures c.in_ok-row.row c.in_ok-row.ensures.ok_part (rw c.len-2.ensures.value at c.count_fits.ensures) c.if-not-count_fits.false-raw c.too_long.ensures c.if-too_long.false _ c.parse_row.ensures
