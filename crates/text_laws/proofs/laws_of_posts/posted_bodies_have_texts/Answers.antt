use Rattle.text_laws.proofs.Posts.Requests.{requests_fit, refusals_fit}
use Rattle.text_laws.proofs.laws_of_posts.posted_bodies_have_texts.Goals as goal

pub returns : goal.returns
returns c = record { requests = requests_fit; refusals = refusals_fit }
