-- Of no watch of a script is anything held back.
use Rattle.std.proofs.Common.{◌≡◌, ℕ, ◌==◌, ◌<◌, ◌^◌, ◌++◌, Bool, true, false, cond, subst, List, [], ◌∷◌, length, map, filter, Some, Ok, refl, ap, sym, ◌∙◌}
use Rattle.etcd_types.specs.declared.request.WatchAsk.{WatchAsk}
use Rattle.etcd_types.specs.declared.watch.Change.{Change}
use Rattle.etcd_types.specs.declared.watch.Event.{Event}
use Rattle.proxy_model.specs.Prefixes.{under}
use Rattle.script_text.specs.declared.line.Line.{Line}
use Rattle.watch_model.specs.Joining.{watched_range}
use Rattle.watch_model.specs.Lookups.{place_stream, watch_at, own_next}
use Rattle.watch_model.specs.Queues.{queued_events}
use Rattle.watch_model.specs.State.{Watch}
use Rattle.watch_model.specs.Story.{is_between, between, changes, wanted, WatchOk, story_of}
use Rattle.watch_laws.proofs.Seating.{found}
use Rattle.world_model.specs.Lives.{life, asked_as}
use Rattle.world_model.specs.Places.{place_at}
use Rattle.world_model.specs.Received.{is_from, history_events, stored_change, TellsFront}
use Rattle.world_model.specs.State.{Place, World}
use Rattle.world_model.specs.Transcript.{transcript, world_behind}
use Rattle.held_laws.specs.Laws.{is_below, HoldsNothingBack}
use Rattle.core_laws.proofs.Watches.Holding.{watch_itself}
use Rattle.held_laws.proofs.Places.{got_of, taken_of, Known, PlaceOk}
use Rattle.held_laws.proofs.Pushes.{Whole}
use Rattle.script_text.specs.declared.item.Item.{Item}
use Rattle.etcd_types.specs.declared.request.Request.TheVariants as request
use Rattle.held_laws.proofs.Counting.{all_tell, tells_front}
use Rattle.held_laws.proofs.Items.{queued-append}
use Rattle.held_laws.proofs.Records.{in_span}
use Rattle.held_laws.proofs.Told.{HasTold, told-append}
use Rattle.store_model.specs.Events.{events_after, passes, change_passes}
use Rattle.store_model.specs.History.{History}
use Rattle.held_laws.proofs.Runs.{whole_of, behind_script}
use Rattle.held_laws.proofs.Stories.{story_by}
use Rattle.held_laws.proofs.Telling.{in_turn, own_only, own_or_whole, own_strips, whole_strips, told_is, history_changes}

pub each_stored : (namespace : List ℕ) (es : List Event) → map (λ e. stored_change namespace e.change) es ≡ map (stored_change namespace) (changes es)
each_stored namespace [] = refl
each_stored namespace (e ∷ es) = ap (λ (l : List Change). stored_change namespace e.change ∷ l) (each_stored namespace es)

-- the history's events of a watch below a revision
history_span : (namespace : List ℕ) (whole : History) (ask : WatchAsk) (start next : ℕ)
    → filter (is_below next) (history_events whole namespace ask start) ≡ filter (passes ask) (filter (in_span start next) (events_after (under namespace (watched_range ask.range)) [] whole))
history_span namespace whole ask start next = in_turn (is_from start) (passes ask) (is_below next) (events_after (under namespace (watched_range ask.range)) [] whole)

changes_filter : (p : Change → Bool) (es : List Event) → changes (filter (λ e. p e.change) es) ≡ filter p (changes es)
changes_filter p [] = refl
changes_filter p (e ∷ es) = elim (p e.change) as (λ b. changes (cond b (e ∷ filter (λ e. p e.change) es) (filter (λ e. p e.change) es)) ≡ cond b (e.change ∷ filter p (changes es)) (filter p (changes es))) [
  | true ↦ ap (λ (l : List Change). e.change ∷ l) (changes_filter p es)
  | false ↦ changes_filter p es
]

span_changes : (ask : WatchAsk) (start next : ℕ) (es : List Event) → changes (filter (passes ask) (filter (in_span start next) es)) ≡ wanted ask (between start next (changes es))
span_changes ask start next es = changes_filter (change_passes ask) (filter (in_span start next) es) ∙ ap (wanted ask) (changes_filter (is_between start next) es)

-- the events and the changes of a watch that a proxy knows, by both stories
pub record AllKnown (items : List Item) (whole : Whole) (namespace : List ℕ) (p ticket next : ℕ) (v : Watch) : Type 0 where
  pub ask : WatchAsk
  pub asked : asked_as p ticket (life p items) ≡ Some (request.Watch ask)
  pub same : v.ask ≡ record ask { range = watched_range ask.range }
  pub start : (ask.start == 0) ≡ false → v.start ≡ ask.start
  pub records :
      TellsFront whole.items ask namespace (queued_events (taken_of p items ticket) ++ queued_events v.queue)
      (filter (is_below next) (history_events whole.history namespace ask v.start))
  pub all :
      map (λ e. stored_change namespace e.change) (queued_events (taken_of p items ticket) ++ queued_events v.queue)
      ≡ map (λ e. e.change) (filter (is_below next) (history_events whole.history namespace ask v.start))

pub all_known : (namespace : List ℕ) (whole : Whole) (items : List Item) (p : ℕ) (x : Place) (ticket : ℕ) (v : Watch) → PlaceOk namespace whole (own_only namespace) items p x → PlaceOk namespace whole (own_or_whole namespace) items p x
    → watch_at ticket x.core.watches.watches ≡ Some v → AllKnown items whole namespace p ticket (own_next x.core.watches.streams v) v
all_known namespace whole items p x ticket v one two there =
    let ws = x.core.watches.watches in
    let next = own_next x.core.watches.streams v in
    let ticket_is = watch_itself ticket ws v there in
    let known = found (Known p (life p items) x.tickets) ticket ws v there one.watches in
    let first = found (λ u. WatchOk (story_by (own_only namespace) namespace whole) (got_of p items u.ticket) (place_stream x.core.watches.streams u.place) u) ticket ws v there one.holds.holds.watches in
    let second = found (λ u. WatchOk (story_by (own_or_whole namespace) namespace whole) (got_of p items u.ticket) (place_stream x.core.watches.streams u.place) u) ticket ws v there two.holds.holds.watches in
    let told = got_of p items v.ticket ++ queued_events v.queue in
    let has = found (HasTold whole namespace (taken_of p items)) ticket ws v there one.told in
    let taken = taken_of p items v.ticket in
    let every = told-append whole namespace v.ask taken v.queue has.0 has.1 in
    let all = told_is namespace whole v.ask v.start next (changes told) first.kept second.kept in
    let events = events_after (under namespace v.ask.range) [] whole.history in
    let each = all_tell whole namespace v.ask v.start next (taken ++ v.queue) every (ap (λ (es : List Event). map (stored_change namespace) (changes es)) (queued-append taken v.queue) ∙ all ∙ sym (span_changes v.ask v.start next events)) in
    let here : TellsFront whole.items known.ask namespace (queued_events taken ++ queued_events v.queue) (filter (passes v.ask) (filter (in_span v.start next) events)) =
    subst (λ (es : List Event). TellsFront whole.items known.ask namespace es (filter (passes v.ask) (filter (in_span v.start next) events))) (queued-append taken v.queue)
    (tells_front whole.items known.ask v.ask.prev_kv namespace (queued_events (taken ++ v.queue)) _ (ap (λ (a : WatchAsk). a.prev_kv) known.same) each) in
    record {
      ask = known.ask;
      asked = ap (λ (t : ℕ). asked_as p t (life p items)) (sym ticket_is) ∙ known.asked;
      same = known.same;
      start = λ z. (known.start z).0;
      records =
          subst (λ (es : List Event). TellsFront whole.items known.ask namespace (queued_events (taken_of p items ticket) ++ queued_events v.queue) es)
          (ap (λ (a : WatchAsk). filter (passes a) (filter (in_span v.start next) (events_after (under namespace a.range) [] whole.history))) known.same ∙ sym (history_span namespace whole.history known.ask v.start next))
          (subst (λ (t : ℕ). TellsFront whole.items known.ask namespace (queued_events (taken_of p items t) ++ queued_events v.queue) (filter (passes v.ask) (filter (in_span v.start next) events))) ticket_is here);
      all =
          ap (λ (t : ℕ). map (λ e. stored_change namespace e.change) (got_of p items t ++ queued_events v.queue)) (sym ticket_is)
          ∙ each_stored namespace told ∙ all
          ∙ ap (λ (a : WatchAsk). wanted a (between v.start next (story_of whole.history (under namespace a.range)))) known.same
          ∙ sym (history_changes namespace whole.history known.ask v.start next);
    }

pub holds_nothing_back : (lines : List Line) (w : World) (p : ℕ) (x : Place) (ticket : ℕ) (v : Watch) → length lines < 2 ^ 60 → world_behind lines ≡ Ok (Some w) → place_at w p ≡ Some x → watch_at ticket x.core.watches.watches ≡ Some v
    → HoldsNothingBack (transcript lines) w p ticket (own_next x.core.watches.streams v) v
holds_nothing_back lines w p x ticket v n e at there =
    let one = (behind_script own_only own_strips lines w n e).ok.places p x at in
    let two = (behind_script own_or_whole whole_strips lines w n e).ok.places p x at in
    let k = all_known w.namespace (whole_of lines w) (transcript lines) p x ticket v one two there in
    record { ask = k.ask; asked = k.asked; start = k.start; records = k.records; all = k.all }
