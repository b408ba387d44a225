-- The store of every world is the image of a store of bare keys.
use Rattle.std.proofs.Common.{◌≡◌, ℕ, ◌-◌, ◌==◌, Bool, true, false, cond, List, map, Option, None, Some, sym, ◌∙◌, ap, slice_get}
use Rattle.std.proofs.lemmas.Option.{slice_get-map}
use Rattle.std.specs.Option.{option_map}
use Rattle.etcd_types.specs.declared.request.WatchAsk.{WatchAsk}
use Rattle.store_model.specs.declared.watch.OpenWatch.{OpenWatch}
use Rattle.store_model.specs.State.{State, starting}
use Rattle.store_laws.specs.Lives.Lives.{lived}
use Rattle.proxy_model.specs.Wrapped.{watch_under}
use Rattle.namespace_laws.specs.Stored.Stored.{stored_watch}
use Rattle.namespace_laws.proofs.Stored.Lives.{lives_are_stored}
use Rattle.world_model.specs.Places.{nth}
use Rattle.namespace_laws.specs.Images.Worlds.{ProxiesStayUnder, CallsGoUnder, StreamsGoUnder, StoresAreImages}
use Rattle.namespace_laws.proofs.Images.WorldsUnder.{place_so, worlds_under, call_under}

pub stores_are_images : StoresAreImages
stores_are_images lines w e =
    let h = (worlds_under lines w e).store in
    record { steps = h.steps; keys = h.keys; store = h.store ∙ lives_are_stored w.namespace w.members h.steps h.keys }

pub proxies_stay_under : ProxiesStayUnder
proxies_stay_under lines w p x e at = let h = place_so w p x at (worlds_under lines w e) in record { namespace = h.namespace; named = h.core }

pub calls_go_under : CallsGoUnder
calls_go_under lines w number call e at = call_under w number call at (worlds_under lines w e)

-- each watch of the image is one of the store, under the namespace
watch_of_image : (ns : List ℕ) (o : Option OpenWatch) (watch : OpenWatch) → option_map (stored_watch ns) o ≡ Some watch → (bare : WatchAsk) × (watch.ask ≡ watch_under ns bare)
watch_of_image ns None watch e = absurd (cc)
watch_of_image ns (Some x) watch e = let same : watch ≡ stored_watch ns x = cc in (x.ask, ap (λ (y : OpenWatch). y.ask) same)

nth_of_image : (ns : List ℕ) (xs : List OpenWatch) (number : ℕ) (watch : OpenWatch) → nth (map (stored_watch ns) xs) number ≡ Some watch → (bare : WatchAsk) × (watch.ask ≡ watch_under ns bare)
nth_of_image ns xs number watch e = by_number (number == 0) e
  where
    by_number : (b : Bool) → cond b None (slice_get (map (stored_watch ns) xs) (number - 1)) ≡ Some watch → (bare : WatchAsk) × (watch.ask ≡ watch_under ns bare)
    by_number true t = absurd (cc)
    by_number false t = watch_of_image ns (slice_get xs (number - 1)) watch (sym (slice_get-map (stored_watch ns) xs (number - 1)) ∙ t)

pub streams_go_under : StreamsGoUnder
streams_go_under lines w number watch e at =
    let h = stores_are_images lines w e in
    nth_of_image w.namespace (lived (starting w.members) h.steps).watches number watch (ap (λ (s : State). nth s.watches number) (sym h.store) ∙ at)
