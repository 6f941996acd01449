use mathlib.Core.Path.{refl}
use native.Mathlib.Omega.{arith}
use Rattle.wire.proofs.ReplyLaying.{laid_none}
use Rattle.commands.specs.Promises.{listed_of}
use Rattle.wire.proofs.Elements.{going_begins, going_on_lem, going_within, going_ends, going_length, going_start, going_room}
use Rattle.commands.proofs.ListedSlots.{shown_from, next_live, live_held, live_few, live_later, shown_next, shown_end}
use Rattle.commands.proofs.key.put_listed.Goals as goal

pub loop-i-init : goal.loop-i-init
unfolding shown_from listed_of
loop-i-init c = going_begins (laid_none _) refl c.requires.1

pub slice_bounds-put_entry-count : goal.slice_bounds-put_entry-count
slice_bounds-put_entry-count c = going_start c.loop-i.invariant

pub slice_bounds-put_entry-start : goal.slice_bounds-put_entry-start
slice_bounds-put_entry-start c = going_start c.loop-i.invariant

pub put_entry-at-requires : goal.put_entry-at-requires
put_entry-at-requires c =
    let n = next_live c.requires.0 (rw c.new-sought.ensures at c.in-Some.ensures) in
    (live_held n, going_room c.loop-i.invariant (shown_next n _))

pub overflow_add-at : goal.overflow_add-at
overflow_add-at c =
    let n = next_live c.requires.0 (rw c.new-sought.ensures at c.in-Some.ensures) in
    omega (arith, going_within c.loop-i.invariant (shown_next n _) c.put_entry-at.ensures)

pub overflow_add-from : goal.overflow_add-from
overflow_add-from c = omega (arith, live_few (next_live c.requires.0 (rw c.new-sought.ensures at c.in-Some.ensures)))

pub loop-i-smaller : goal.loop-i-smaller
loop-i-smaller c = omega (arith, live_later (next_live c.requires.0 (rw c.new-sought.ensures at c.in-Some.ensures)))

pub loop-i-preserved : goal.loop-i-preserved
loop-i-preserved c = going_on_lem c.loop-i.invariant (shown_next (next_live c.requires.0 (rw c.new-sought.ensures at c.in-Some.ensures)) _) c.put_entry-at.ensures

pub shape_of-out : goal.shape_of-out
shape_of-out c = going_length c.loop-i.invariant

pub returns : goal.returns
returns c = going_ends c.loop-i.invariant (shown_end _ _ _ _ _ (rw c.new-sought.ensures at c.in_default.ensures))
