use Rattle.namespace_laws.proofs.Images.Images.{proxies_stay_under, calls_go_under, streams_go_under}
use Rattle.namespace_laws.proofs.laws_of_images.worlds_speak_under_their_namespace.Goals as goal

pub returns : goal.returns
returns c = record { proxies = proxies_stay_under; calls = calls_go_under; streams = streams_go_under }
