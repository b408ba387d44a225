-- A message of the leasing stream that comes to a proxy shows what the view was told, and names owners.
use Rattle.std.proofs.Common.{◌≡◌, ℕ, true, false, List, [], ◌∷◌, Some, Ok, refl, sym, ◌∙◌, ap, subst}
use Rattle.etcd_types.proofs.Bools.{and_both}
use Rattle.etcd_types.specs.declared.key_range.KeyRange.{KeyRange}
use Rattle.etcd_types.specs.declared.record.Header.{Header}
use Rattle.etcd_types.specs.declared.watch.Event.{Event}
use Rattle.etcd_types.specs.declared.watch.WatchItem.{WatchItem}
use Rattle.etcd_types.specs.declared.watch.WatchItem.TheVariants as item
use Rattle.proxy_model.specs.Prefixes.{leasing_range}
use Rattle.proxy_model.specs.Unwrapped.{Unwrapped, item_without}
use Rattle.store_model.specs.State.{State}
use Rattle.namespace_laws.proofs.Stored.Back.{items_unwrap}
use Rattle.core_model.specs.declared.settings.Settings.{Settings}
use Rattle.core_model.specs.ClockWork.{clock_work}
use Rattle.core_model.specs.State.{Opening}
use Rattle.core_model.specs.Step.{opening_at}
use Rattle.core_fits.specs.Fits.{EachOf}
use Rattle.cache_laws.specs.Moves.View.{View}
use Rattle.cache_laws.specs.Store.StoreView.{Stands}
use Rattle.row_laws.specs.Notices.{AreTold}
use Rattle.core_moves.specs.Clients.{TellsItem}
use Rattle.owner_fits.specs.Names.{change_named, events_named, ItemNames}
use Rattle.owner_fits.proofs.Hearing.{clock_prefix}
use Rattle.world_model.specs.Places.{nth, place_at}
use Rattle.world_model.specs.State.{Place, OpenedStream, World}
use Rattle.bridge_laws.specs.Messages.{IsTold, AreEvents, MessageShown, StreamShown}
use Rattle.bridge_laws.specs.Shown.{PlaceShown, Shown}
use Rattle.turn_laws.proofs.Clocked.{clock_leasing, clock_settings}
use Rattle.turn_laws.proofs.OwnerEvents.{ChangeFits, event_fits}

-- what is asked of all events of a message
pub record EventsFit (v : View) (p : List ℕ) (es : List Event) : Type 0 where
  pub told : AreTold v p es
  pub named : events_named p es ≡ true

events_fit : (holder : ℕ → ℕ) (p : List ℕ) (s : State) (v : View) (from : ℕ) (es : List Event) → Stands holder p s v → EachOf (IsTold s.history (leasing_range p) from) es → EventsFit v p es
events_fit holder p s v from [] h t = record { told = tt; named = refl }
events_fit holder p s v from (e ∷ es) h t =
    let x = t.0 in
    let f : ChangeFits v p e.change = subst (ChangeFits v p) x.2 (event_fits holder p s v from x.0 h x.1) in
    let rest = events_fit holder p s v from es h t.1 in
    record { told = (f.told, rest.told); named = and_both (change_named p e.change) _ f.named rest.named }

one_message : (b c : WatchItem) → ◌≡◌ {A = Unwrapped WatchItem} (Ok b) (Ok c) → b ≡ c
one_message b c e = cc

-- the stream is one of this place's, and the message its first that waits
module _ (holder : ℕ → ℕ) (w : World) (h : Shown holder w) (p : ℕ) (x : Place) (at : place_at w p ≡ Some x) (number : ℕ) (s : OpenedStream) (i : WatchItem) (rest : List WatchItem) (there : nth w.streams number ≡ Some s)
    (mine : s.proxy ≡ p) (lives : s.life ≡ x.life) (lasts : s.ended ≡ false) (waits : s.waiting ≡ i ∷ rest) where
  k : PlaceShown w.namespace w.leasing h.view h.forms p x
  k = h.places p x at

  fits : (o : Opening) (hd : Header) (events : List Event) → opening_at s.own x.core.leasing ≡ Some o → item_without w.namespace i ≡ Ok (item.Events hd events) → EventsFit h.view w.leasing events
  fits o hd events opens e =
      let t : StreamShown w.namespace h.bare number s = h.streams number s there in
      let m : MessageShown w.namespace h.bare.history t.watch.ask.range i = (subst (EachOf (MessageShown w.namespace h.bare.history t.watch.ask.range)) waits t.waiting).0 in
      let is : m.0 ≡ item.Events hd events = one_message m.0 (item.Events hd events) (sym (items_unwrap w.namespace m.0) ∙ ap (item_without w.namespace) (sym m.1) ∙ e) in
      let range : t.watch.ask.range ≡ leasing_range w.leasing = h.watched p x number s at there o t.watch mine lives lasts opens t.at in
      let events' : AreEvents h.bare.history (leasing_range w.leasing) (item.Events hd events) = subst (λ (r : KeyRange). AreEvents h.bare.history r (item.Events hd events)) range (subst (AreEvents h.bare.history t.watch.ask.range) is m.2) in
      events_fit holder w.leasing h.bare h.view events'.0 events h.stands events'.1

  -- behind the clock work
  pub view_tells : TellsItem h.view (clock_work x.clock x.core) s.own i
  view_tells o hd events opens due e =
      let d = clock_work x.clock x.core in
      let ns : d.settings.namespace ≡ w.namespace = ap (λ (t : Settings). t.namespace) (clock_settings x.clock x.core) ∙ k.namespace in
      let f = fits o hd events (ap (opening_at s.own) (sym (clock_leasing x.clock x.core)) ∙ opens) (ap (λ (n : List ℕ). item_without n i) (sym ns) ∙ e) in
      subst (λ (q : List ℕ). AreTold h.view q events) (sym (clock_prefix x.clock x.core ∙ k.prefix)) f.told

  pub item_names : ItemNames x.core s.own i
  item_names o hd events opens due e =
      ap (λ (q : List ℕ). events_named q events) k.prefix ∙ (fits o hd events opens (ap (λ (n : List ℕ). item_without n i) (sym k.namespace) ∙ e)).named
