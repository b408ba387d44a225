use Rattle.namespace_laws.proofs.Images.Hearing.{answers_are_images, replies_are_heard_bare}
use Rattle.namespace_laws.proofs.laws_of_images.answers_are_images.Goals as goal

pub returns : goal.returns
returns c = record { answers = answers_are_images; heard = replies_are_heard_bare }
