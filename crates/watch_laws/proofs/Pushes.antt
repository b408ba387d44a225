-- What a store pushes of a history shows the records before as they were.
use Rattle.std.proofs.Common.{◌≡◌, ℕ, ◌-◌, Bool, true, false, cond, ◌||◌, nat_le, nat_lt, List, [], ◌++◌, take, drop, filter, Option, None, Some, ap, sym, subst, ◌∙◌}
use Rattle.std.proofs.lemmas.List.{take-append-drop}
use Rattle.std.proofs.lemmas.List.Elements.{All-filter, All-map, All-contains_itself, Contains-append_left, Contains-append_right}
use Rattle.std.specs.List.{All, Contains, slice_index_or}
use Rattle.etcd_types.specs.declared.record.Kv.{Kv}
use Rattle.etcd_types.specs.declared.key_range.KeyRange.{KeyRange}
use Rattle.etcd_types.specs.declared.request.WatchAsk.{WatchAsk}
use Rattle.etcd_types.specs.declared.watch.Event.{Event}
use Rattle.store_model.specs.History.{History}
use Rattle.store_model.specs.Events.{events_after, events, event_revision, passes, visible_prev, told_event, watch_events}
use Rattle.watch_laws.specs.Items.{IsShown}
use Rattle.watch_laws.proofs.Histories.{events-append}

-- those from a revision on are of all of them, in each history that goes on
among_all : (h more : History) (range : KeyRange) (from : ℕ) → All (Contains (events_after range [] (h ++ more))) (events h range from)
among_all h more range from k d l =
    let sooner = take (from - 2) h in
    let later = drop (from - 2) h in
    let all = events_after range [] h in
    let e = slice_index_or (events h range from) k d in
    let here : Contains (events h range from) e = All-contains_itself (events h range from) k d l in
    let whole : all ≡ events_after range [] sooner ++ events h range from = ap (events_after range []) (sym (take-append-drop (from - 2) h)) ∙ events-append range [] sooner later in
    let mine : Contains all e = subst (λ (es : List Event). Contains es e) (sym whole) (Contains-append_right (events_after range [] sooner) (events h range from) e here) in
    subst (λ (es : List Event). Contains es e) (sym (events-append range [] h more)) (Contains-append_left all (events_after range h more) e mine)

shows : (h : History) (compacted : ℕ) (ask : WatchAsk) (range : KeyRange) (e : Event) → Contains (events_after range [] h) e → IsShown h ask.prev_kv (told_event compacted ask e)
shows h compacted ask range e c = record {
  before = λ kv f. (range, subst (Contains (events_after range [] h)) (same (asked ask.prev_kv e.prev kv f)) c);
  asked = λ q. ap (λ b. cond b (visible_prev compacted (event_revision e) e.prev) None) q;
}
  where
    visible : (o : Option Kv) (kv : Kv) → visible_prev compacted (event_revision e) o ≡ Some kv → o ≡ Some kv
    visible None kv f = f
    visible (Some v) kv f =
        elim (nat_lt compacted (event_revision e) || nat_le compacted v.modified) as (λ b. cond b (Some v) None ≡ Some kv → Some v ≡ Some kv) [
          | true ↦ λ g. g
          | false ↦ λ g. absurd (cc)
        ] f

    asked : (b : Bool) (o : Option Kv) (kv : Kv) → cond b (visible_prev compacted (event_revision e) o) None ≡ Some kv → o ≡ Some kv
    asked true o kv f = visible o kv f
    asked false o kv f = absurd (cc)

    same : {kv : Kv} → e.prev ≡ Some kv → e ≡ record { change = e.change; prev = Some kv }
    same f = λ i. record { change = e.change; prev = f i }

pub pushes_are_shown : (h more : History) (compacted : ℕ) (ask : WatchAsk) (from : ℕ) → All (IsShown (h ++ more) ask.prev_kv) (watch_events h compacted ask from)
pushes_are_shown h more compacted ask from =
    let es = events h ask.range from in
    let kept = All-filter (passes ask) (Contains (events_after ask.range [] (h ++ more))) es (among_all h more ask.range from) in
    All-map (IsShown (h ++ more) ask.prev_kv) (told_event compacted ask) (filter (passes ask) es) (λ k d l. shows (h ++ more) compacted ask ask.range _ (kept k d l))
