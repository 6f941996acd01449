use native.Mathlib.Omega.{arith}
use Rattle.wire.proofs.ByteLaws.{bytes_intro}
use Rattle.store.specs.Store.{instant_of}
use Rattle.commands.proofs.FieldDeeds.{sought_held}
use Rattle.commands.proofs.PairLoops.{version_sought, placed_pair}
use Rattle.commands.proofs.pairs.place_pair.Goals as goal

pub held_version-version-requires : goal.held_version-version-requires
held_version-version-requires c = sought_held (record { well = c.requires.well; looked = c.named_near-own.ensures })

pub overflow_add-version : goal.overflow_add-version
overflow_add-version c = omega (arith, version_sought (record { well = c.requires.well; looked = c.named_near-own.ensures }) c.held_version-version.ensures, c.requires.version)

pub place-requires : goal.place-requires
unfolding instant_of
place-requires c = (
  c.named_near-own.ensures,
  c.requires.well,
  record {
    short = c.requires.short;
    version = omega (arith, version_sought (record { well = c.requires.well; looked = c.named_near-own.ensures }) c.held_version-version.ensures, c.requires.version);
    expiry = omega arith;
    key_bytes = bytes_intro c.args.key.now (λ i. (c.type_inv.key i).fits);
    field_bytes = bytes_intro c.args.field.now (λ i. (c.type_inv.field i).fits);
    value_bytes = bytes_intro c.args.value.now (λ i. (c.type_inv.value i).fits);
  },
)

pub returns : goal.returns
returns c = placed_pair _ _ _ _ _ (version_sought (record { well = c.requires.well; looked = c.named_near-own.ensures }) c.held_version-version.ensures) c.place.ensures
