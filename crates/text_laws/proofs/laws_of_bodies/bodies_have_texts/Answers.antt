use Rattle.text_laws.proofs.Bodies.Replies.{answer_bytes, item_bytes, statuses}
use Rattle.text_laws.proofs.laws_of_bodies.bodies_have_texts.Goals as goal

pub returns : goal.returns
returns c = record { answers = answer_bytes; messages = item_bytes; statuses = statuses }
