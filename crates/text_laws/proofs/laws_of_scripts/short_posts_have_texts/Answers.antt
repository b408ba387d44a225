use Rattle.text_laws.proofs.Scripts.Posts.{posts_have}
use Rattle.text_laws.proofs.laws_of_scripts.short_posts_have_texts.Goals as goal

pub returns : goal.returns
returns c = posts_have
