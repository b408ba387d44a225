-- How often the reading of an answer has failed.
use Rattle.std.specs.Prelude.{ℕ}
use Rattle.member_links.specs.declared.answer.SocketAnswer.{SocketAnswer}
use Rattle.member_links.specs.declared.answer.SocketAnswer.TheVariants as answer

abbrev pub faults_of : {R : Type 0} → SocketAnswer R → ℕ
faults_of (answer.Call call) = call.faults
faults_of (answer.Stream stream) = stream.faults
