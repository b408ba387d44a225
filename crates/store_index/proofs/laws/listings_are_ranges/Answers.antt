use Rattle.store_index.proofs.ListedRecords.{listings_are_ranges}
use Rattle.store_index.proofs.laws.listings_are_ranges.Goals as goal

pub returns : goal.returns
returns c = listings_are_ranges
