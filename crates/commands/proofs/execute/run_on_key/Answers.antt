use native.Mathlib.Omega.{arith}
use Rattle.store.specs.Store.{decode}
use lib.ListN.{length-drop}
use Rattle.commands.proofs.KeyDone.{does_words, words_within}
use Rattle.commands.proofs.ExecuteDone.{clock_does}
use Rattle.commands.proofs.execute.run_on_key.Goals as goal

pub on_key-requires : goal.on_key-requires
on_key-requires c =
    (record { few = rw (c.after.ensures.value, length-drop) (omega (arith, c.after.ensures.most)); well = c.set_clock.ensures.well; room = c.requires.1.room }, rw c.after.ensures.value (words_within c.args.words.now c.word-key.ensures c.args.deed c.requires.2))

pub returns : goal.returns
returns c =
    clock_does c.args.time _ (decode c.args.bytes.now) c.set_clock.ensures (does_words c.args.words.now c.word-key.ensures c.args.deed c.args.time _ (rw c.after.ensures.value at c.on_key.ensures))
