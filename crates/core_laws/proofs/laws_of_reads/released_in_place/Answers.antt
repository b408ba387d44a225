use Rattle.core_laws.proofs.PlainReads.InPlace.{plain_in_place, again_in_place, answers_in_place, wins_in_place}
use Rattle.core_laws.proofs.laws_of_reads.released_in_place.Goals as goal

pub returns : goal.returns
returns c = record { plain = plain_in_place; again = again_in_place; answers = answers_in_place; wins = wins_in_place }
