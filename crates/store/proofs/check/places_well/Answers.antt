use native.Mathlib.Omega.{arith}
use Rattle.store.proofs.SlotChecks.{key_fits, field_fits, value_fits, places_bits}
use Rattle.store.proofs.check.places_well.Goals as goal

pub padding-key-requires : goal.padding-key-requires
padding-key-requires c = record { at_bound = omega arith; size_whole = omega arith; used_bound = key_fits c.args.t.now c.requires }

pub padding-field-requires : goal.padding-field-requires
padding-field-requires c = record { at_bound = omega arith; size_whole = omega arith; used_bound = field_fits c.args.t.now c.requires }

pub padding-value-requires : goal.padding-value-requires
padding-value-requires c = record { at_bound = omega arith; size_whole = omega arith; used_bound = value_fits c.args.t.now c.requires }

pub returns : goal.returns
returns c = places_bits c.args.t.now c.padding-key.result c.padding-field.result c.padding-value.result c.padding-key.ensures c.padding-field.ensures c.padding-value.ensures
