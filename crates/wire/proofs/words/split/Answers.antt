use mathlib.Core.Path.{refl, sym, ◌∙◌}
use native.Mathlib.Omega.{arith}
use lib.ListN.{length-set}
use Rattle.wire.proofs.WordPlaces.{progress_begins, progress_goes_on, progress_damaged, places_past, places_headless, places_none, places_all}
use Rattle.wire.proofs.words.split.Goals as goal

pub returns-in_default : goal.returns-in_default
returns-in_default c = places_headless (sym c.in_default.is ∙ c.read_count.ensures)

pub loop-i-init : goal.loop-i-init
loop-i-init c =
    let head = sym c.in-Some.is ∙ c.read_count.ensures in
    let now = progress_begins {places = c.args.places.now} head in
    (now, refl, λ l e. places_past now head l e)

pub returns-in_default-read_word : goal.returns-in_default-read_word
returns-in_default-read_word c =
    places_none (sym c.in-Some.is ∙ c.read_count.ensures)
    (progress_damaged c.loop-i.invariant.0 c.loop-i-test.true (sym c.in_default-read_word.is ∙ c.read_word.ensures))

pub loop-i-preserved : goal.loop-i-preserved
loop-i-preserved c =
    let inv = c.loop-i.invariant in
    let now = progress_goes_on inv.0 c.loop-i-test.true (omega arith) (sym c.in-Some-read_word.is ∙ c.read_word.ensures) in
    (now, rw length-set inv.1, λ l e. places_past now (sym c.in-Some.is ∙ c.read_count.ensures) l e)

pub returns : goal.returns
returns c = places_all (sym c.in-Some.is ∙ c.read_count.ensures) c.loop-i.invariant.0 (omega (arith, c.loop-i.invariant.1)) c.loop-i-test.false (omega arith)
