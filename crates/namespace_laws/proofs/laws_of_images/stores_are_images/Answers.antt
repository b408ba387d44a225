use Rattle.namespace_laws.proofs.Images.Images.{stores_are_images}
use Rattle.namespace_laws.proofs.Images.Moving.{lines_move_the_image}
use Rattle.namespace_laws.proofs.Images.OneImage.{images_tell_their_stores}
use Rattle.namespace_laws.proofs.laws_of_images.stores_are_images.Goals as goal

pub returns : goal.returns
returns c = record { begun = stores_are_images; goes_on = lines_move_the_image; one = images_tell_their_stores }
