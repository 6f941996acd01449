use Rattle.commands.proofs.ExecuteDone.{places_size, places_divided, does_exec}
use Rattle.commands.proofs.execute.execute.Goals as goal

pub slice_bounds-run_words-end : goal.slice_bounds-run_words-end
slice_bounds-run_words-end c = places_size c.split-count.ensures

pub run_words-replied-requires : goal.run_words-replied-requires
run_words-replied-requires c = record { command_value = (c.split-count.ensures.within, places_divided c.split-count.ensures); store_value = c.requires }

pub returns : goal.returns
returns c = does_exec c.args.clock c.args.command.now c.args.store.now c.run_words-replied.ensures
