use Rattle.store_laws.proofs.Requests.RangeProofs.{ranges_rise, ranges_are_exact}
use Rattle.store_laws.proofs.laws_of_requests.ranges_show_their_records.Goals as goal

pub returns : goal.returns
returns c = record { order = ranges_rise; exact = ranges_are_exact }
