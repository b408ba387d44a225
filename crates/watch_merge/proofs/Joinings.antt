-- A join by its cases.
use Rattle.std.proofs.Common.{◌≡◌, ℕ, Bool, Option, None, Some, Result, Ok, Err, OnOk, ap, sym, ◌∙◌}
use Rattle.etcd_types.specs.declared.record.Header.{Header}
use Rattle.watch_model.specs.State.{Stream, Watch, Broadcasts}
use Rattle.watch_model.specs.Lookups.{with_new_watch}
use Rattle.watch_model.specs.Joining.{joined_as, seated, seated_as, seated_at, stream_to_join}

pub fresh_joins : {A E : Type 0} (r : Result A E) (b c : Broadcasts) (last : Header) (w : Watch) → stream_to_join b.streams w.ask.range w.next last.revision ≡ None
    → OnOk r ((l : Header) → c ≡ joined_as b (seated_at b.streams b.given b.step l w None)) → OnOk r (c ≡ joined_as b (seated b.streams b.given b.step last w))
fresh_joins (Ok x) b c last w e h = h last ∙ sym (ap (λ (o : Option Stream). joined_as b (seated_at b.streams b.given b.step last w o)) e)
fresh_joins (Err x) b c last w e h = tt

pub standing_joins : (b c : Broadcasts) (last : Header) (w : Watch) (s : Stream) (next : ℕ) (created : Bool) → stream_to_join b.streams w.ask.range w.next last.revision ≡ Some s → next ≡ s.stream.next → created ≡ s.stream.created
    → c ≡ record b { watches = with_new_watch (seated_as last s.number next created w) b.watches } → c ≡ joined_as b (seated b.streams b.given b.step last w)
standing_joins b c last w s next created e n k h =
    h ∙ (λ i. record b { watches = with_new_watch (seated_as last s.number (n i) (k i) w) b.watches }) ∙ sym (ap (λ (o : Option Stream). joined_as b (seated_at b.streams b.given b.step last w o)) e)
