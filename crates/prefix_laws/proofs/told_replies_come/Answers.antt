use Rattle.prefix_laws.proofs.Fetched.{told_come, asked_comes}
use Rattle.prefix_laws.proofs.told_replies_come.Goals as goal

pub returns : goal.returns
returns c = record { told = told_come; asked = asked_comes }
