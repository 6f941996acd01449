use mathlib.Core.Path.{sym, ap, ◌∙◌}
use Rattle.std.specs.Prelude.{is_some}
use Rattle.store.specs.Store.{decode}
use Rattle.store.specs.Time.{live_of_key, key_exists}
use Rattle.store.proofs.Finding.{any_lowest, lowest_begin}
use Rattle.store.proofs.find.key_exists.Goals as goal

pub returns : goal.returns
unfolding key_exists
returns c =
    let p = live_of_key c.args.time c.args.key.now in
    let ss = (decode c.args.store.now).slots in
    c.is_some.ensures ∙ ap is_some (c.next_live.ensures ∙ lowest_begin p ss) ∙ sym (any_lowest p ss)
