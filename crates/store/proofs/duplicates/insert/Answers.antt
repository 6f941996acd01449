use Rattle.store.proofs.BloomFilter.{place_scaled, place_inside, name_told, name_written}
use Rattle.store.proofs.duplicates.insert.Goals as goal

pub offset_bounds-filter-i : goal.offset_bounds-filter-i
offset_bounds-filter-i c = record { fits = place_scaled c.args.name c.args.filter.now c.requires }

pub bounds-filter-i : goal.bounds-filter-i
bounds-filter-i c = place_inside c.args.name c.args.filter.now c.requires

pub offset_bounds-filter-i-2 : goal.offset_bounds-filter-i-2
offset_bounds-filter-i-2 c = record { fits = place_scaled c.args.name c.args.filter.now c.requires }

pub bounds-filter-i-2 : goal.bounds-filter-i-2
bounds-filter-i-2 c = place_inside c.args.name c.args.filter.now c.requires

pub returns : goal.returns
returns c = record { value = name_told c.args.name c.args.filter.now; filter_after = name_written c.args.name c.args.filter.now }
