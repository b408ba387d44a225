-- What serves, and who shows figures, may cross threads, since who looks at the machine may.
use denote.Param.Send.{sendable}
use Rattle.std.proofs.Crossing.{crosses}
use Rattle.part_threads.proofs.Crossing.{lookout_send}
use Rattle.metrics_pages.proofs.pages.Pages.TheSendSync as pages
use Rattle.etcd_proxy.proofs.shown.TellerOf.TheSendSync as teller
use Rattle.etcd_proxy.proofs.system.SystemOf.TheSendSync as system
use Rattle.etcd_proxy.proofs.shop.ShopSystem.TheSendSync as shop
use Rattle.etcd_proxy.proofs.main.Goals as goal

pub begin_all-requires-in-Ok-enders_of-2-send-W : goal.begin_all-requires-in-Ok-enders_of-2-send-W
begin_all-requires-in-Ok-enders_of-2-send-W g c κs = search (sendable, crosses, pages.the_send, teller.the_send, lookout_send) depth 20

pub spawner_of-requires-send-E : goal.spawner_of-requires-send-E
spawner_of-requires-send-E g c κs = search (sendable, crosses, system.the_send, lookout_send) depth 20

pub shops_of-requires-send-E : goal.shops_of-requires-send-E
shops_of-requires-send-E g c κs = search (sendable, crosses, shop.the_send) depth 20
