-- What the items of a script tell of streams is what its world has of them.
use Rattle.std.proofs.Common.{◌≡◌, ℕ, ◌+◌, ◌-◌, ◌==◌, Bool, true, false, cond, ◌&&◌, ◌||◌, List, [], ◌∷◌, ◌++◌, length, Option, None, Some, refl, sym, ◌∙◌, ap, subst, arith}
use Rattle.std.proofs.lemmas.List.{length-append, length-set}
use Rattle.std.proofs.lemmas.List.Folds.{list_any-append}
use Rattle.etcd_types.proofs.Bools.{or_false, or_true}
use Rattle.etcd_types.specs.declared.request.Request.{Request}
use Rattle.etcd_types.specs.declared.watch.WatchItem.{WatchItem}
use Rattle.etcd_types.specs.declared.watch.WatchItem.TheVariants as message
use Rattle.script_text.specs.declared.item.Item.{Item}
use Rattle.script_text.specs.declared.item.Item.TheVariants as item
use Rattle.world_model.specs.Places.{nth, with_nth, ended}
use Rattle.world_model.specs.State.{OpenedStream}
use Rattle.world_model.specs.Streams.{with_message}
use Rattle.world_model.specs.Streams as world
use Rattle.audit_model.specs.Streams.{is_opening, streams_opened, opener_of, ends, has_ended, is_cancellation, cancels, has_cancelled}
use Rattle.core_laws.proofs.Steps.Lists.{number_itself, number_turned}
use Rattle.session_laws.proofs.Lists.{nth_next}
use Rattle.ledger_laws.proofs.Calls.{pushed_each, changed_each}
use Rattle.ledger_laws.proofs.Telling.{or_later, later_none, opener-append, streams-append}

abbrev pub proxy_of : Option OpenedStream → Option ℕ
proxy_of None = None
proxy_of (Some s) = Some s.proxy

abbrev pub ended_by : Option OpenedStream → Bool
ended_by None = false
ended_by (Some s) = s.ended

abbrev pub cancelled_by : Option OpenedStream → Bool
cancelled_by None = false
cancelled_by (Some s) = s.cancelled

-- of the stream of this number, or of there being none
pub record StreamSays (items : List Item) (n : ℕ) (o : Option OpenedStream) : Type 0 where
  pub opener : opener_of n items ≡ proxy_of o
  pub ended : has_ended n items ≡ ended_by o
  pub cancelled : has_cancelled n items ≡ cancelled_by o

-- of all of them
pub record StreamsSay (items : List Item) (streams : List OpenedStream) : Type 0 where
  pub count : streams_opened items ≡ length streams
  pub each : (n : ℕ) → StreamSays items n (nth streams n)

-- ---- an item that tells nothing of it

pub record StreamUntold (n : ℕ) (i : Item) : Type 0 where
  pub opener : opener_of n (i ∷ []) ≡ None
  pub ended : ends n i ≡ false
  pub cancelled : cancels n i ≡ false

stream_on : (items : List Item) (i : Item) (n : ℕ) (o : Option OpenedStream) → StreamUntold n i → StreamSays items n o → StreamSays (items ++ i ∷ []) n o
stream_on items i n o u h = record {
  opener = opener-append n items (i ∷ []) ∙ ap (or_later (opener_of n items)) u.opener ∙ later_none (opener_of n items) ∙ h.opener;
  ended = list_any-append (ends n) items (i ∷ []) ∙ ap (λ b. has_ended n items || (b || false)) u.ended ∙ or_false (has_ended n items) ∙ h.ended;
  cancelled = list_any-append (cancels n) items (i ∷ []) ∙ ap (λ b. has_cancelled n items || (b || false)) u.cancelled ∙ or_false (has_cancelled n items) ∙ h.cancelled;
}

-- it opens and ends no stream, and pushes nothing into one
abbrev pub is_no_stream : Item → Bool
is_no_stream (item.Opened p stream member q) = false
is_no_stream (item.Closed p stream) = false
is_no_stream (item.Pushed stream message) = false
is_no_stream (item.Cut stream) = false
is_no_stream _ = true

no_stream : (n : ℕ) (i : Item) → is_no_stream i ≡ true → StreamUntold n i × (is_opening i ≡ false)
no_stream n (item.Opened p stream member q) e = absurd (cc)
no_stream n (item.Closed p stream) e = absurd (cc)
no_stream n (item.Pushed stream message) e = absurd (cc)
no_stream n (item.Cut stream) e = absurd (cc)
no_stream n _ e = (record { opener = refl; ended = refl; cancelled = refl }, refl)

-- one item more that opens none
more_streams : (items : List Item) (i : Item) (streams : List OpenedStream) → is_opening i ≡ false → streams_opened items ≡ length streams → streams_opened (items ++ i ∷ []) ≡ length streams
more_streams items i streams e h = streams-append items (i ∷ []) ∙ ap (λ b. streams_opened items + length (cond b (i ∷ []) [])) e ∙ none_more (streams_opened items) ∙ h
  where
    none_more : (k : ℕ) → k + 0 ≡ k
    none_more k = omega arith

pub streams_on : (items : List Item) (i : Item) (streams : List OpenedStream) → is_no_stream i ≡ true → StreamsSay items streams → StreamsSay (items ++ i ∷ []) streams
streams_on items i streams e h = record {
  count = more_streams items i streams (no_stream 0 i e).1 h.count;
  each = λ n. stream_on items i n (nth streams n) (no_stream n i e).0 (h.each n);
}

-- ---- a stream is opened

pub streams_opened_on : (items : List Item) (streams : List OpenedStream) (new : OpenedStream) (member : ℕ) (q : Request) → new.ended ≡ false → new.cancelled ≡ false → StreamsSay items streams
    → StreamsSay (items ++ item.Opened new.proxy (length streams + 1) member q ∷ []) (streams ++ new ∷ [])
streams_opened_on items streams new member q unended going h = record {
  count = streams-append items (i ∷ []) ∙ ap (λ (k : ℕ). k + 1) h.count ∙ sym (length-append streams (new ∷ []));
  each = pushed_each (StreamSays (items ++ i ∷ [])) streams new itself (λ n e. stream_on items i n (nth streams n) (others n e) (h.each n));
}
  where
    number : ℕ
    number = length streams + 1

    i : Item
    i = item.Opened new.proxy number member q

    none : StreamSays items number None
    none = subst (StreamSays items number) (nth_next streams) (h.each number)

    others : (n : ℕ) → (n == number) ≡ false → StreamUntold n i
    others n e = record { opener = ap (λ b. cond b (Some new.proxy) None) (number_turned n number e); ended = refl; cancelled = refl }

    itself : StreamSays (items ++ i ∷ []) number (Some new)
    itself = record {
      opener = opener-append number items (i ∷ []) ∙ ap (λ (o : Option ℕ). or_later o (cond (number == number) (Some new.proxy) None)) none.opener ∙ ap (λ b. cond b (Some new.proxy) None) (number_itself number);
      ended = list_any-append (ends number) items (i ∷ []) ∙ ap (λ b. b || (false || false)) none.ended ∙ sym unended;
      cancelled = list_any-append (cancels number) items (i ∷ []) ∙ ap (λ b. b || (false || false)) none.cancelled ∙ sym going;
    }

-- ---- one of them is changed

changed_streams : (items : List Item) (i : Item) (streams : List OpenedStream) (number : ℕ) (s t : OpenedStream) → is_opening i ≡ false → nth streams number ≡ Some s → ((n : ℕ) → (n == number) ≡ false → StreamUntold n i)
    → StreamSays (items ++ i ∷ []) number (Some t) → StreamsSay items streams → StreamsSay (items ++ i ∷ []) (with_nth streams number t)
changed_streams items i streams number s t e at others itself h = record {
  count = more_streams items i streams e h.count ∙ sym (length-set streams (number - 1) t);
  each = changed_each (StreamSays (items ++ i ∷ [])) streams number s t at itself (λ n d. stream_on items i n (nth streams n) (others n d) (h.each n));
}

-- a change of what waits alone
pub streams_moved_on : (items : List Item) (i : Item) (streams : List OpenedStream) (number : ℕ) (s t : OpenedStream) → is_no_stream i ≡ true → nth streams number ≡ Some s → t.proxy ≡ s.proxy → t.ended ≡ s.ended → t.cancelled ≡ s.cancelled
    → StreamsSay items streams → StreamsSay (items ++ i ∷ []) (with_nth streams number t)
streams_moved_on items i streams number s t e at proxy same still h =
    changed_streams items i streams number s t (no_stream 0 i e).1 at (λ n d. (no_stream n i e).0)
    (stream_on items i number (Some t) (no_stream number i e).0 (record { opener = was.opener ∙ ap (λ (k : ℕ). Some k) (sym proxy); ended = was.ended ∙ sym same; cancelled = was.cancelled ∙ sym still })) h
  where
    was : StreamSays items number (Some s)
    was = subst (StreamSays items number) at (h.each number)

-- ---- it ends

-- the item says that it was cut, or closed
pub data Ends (number : ℕ) : Item → Type 0 where
  cuts : Ends number (item.Cut number)
  closes : (p : ℕ) → Ends number (item.Closed p number)

ends_none : (number : ℕ) (i : Item) → Ends number i → is_opening i ≡ false
ends_none number _ cuts = refl
ends_none number _ (closes p) = refl

ends_untold : (n number : ℕ) (i : Item) → Ends number i → (n == number) ≡ false → StreamUntold n i
ends_untold n number _ cuts e = record { opener = refl; ended = number_turned n number e; cancelled = refl }
ends_untold n number _ (closes p) e = record { opener = refl; ended = number_turned n number e; cancelled = refl }

ends_itself : (items : List Item) (number : ℕ) (s : OpenedStream) (i : Item) → Ends number i → StreamSays items number (Some s) → StreamSays (items ++ i ∷ []) number (Some (ended s))
ends_itself items number s _ cuts was = record {
  opener = opener-append number items (item.Cut number ∷ []) ∙ later_none (opener_of number items) ∙ was.opener;
  ended = list_any-append (ends number) items (item.Cut number ∷ []) ∙ ap (λ b. has_ended number items || (b || false)) (number_itself number) ∙ or_true (has_ended number items);
  cancelled = list_any-append (cancels number) items (item.Cut number ∷ []) ∙ or_false (has_cancelled number items) ∙ was.cancelled;
}
ends_itself items number s _ (closes p) was = record {
  opener = opener-append number items (item.Closed p number ∷ []) ∙ later_none (opener_of number items) ∙ was.opener;
  ended = list_any-append (ends number) items (item.Closed p number ∷ []) ∙ ap (λ b. has_ended number items || (b || false)) (number_itself number) ∙ or_true (has_ended number items);
  cancelled = list_any-append (cancels number) items (item.Closed p number ∷ []) ∙ or_false (has_cancelled number items) ∙ was.cancelled;
}

pub streams_ended_on : (items : List Item) (streams : List OpenedStream) (number : ℕ) (s : OpenedStream) (i : Item) → Ends number i → nth streams number ≡ Some s → StreamsSay items streams
    → StreamsSay (items ++ i ∷ []) (with_nth streams number (ended s))
streams_ended_on items streams number s i k at h =
    changed_streams items i streams number s (ended s) (ends_none number i k) at (λ n d. ends_untold n number i k d)
    (ends_itself items number s i k (subst (StreamSays items number) at (h.each number))) h

-- ---- a message is pushed into it

same_test : (i : WatchItem) → is_cancellation i ≡ world.is_cancellation i
same_test (message.Created h) = refl
same_test (message.Events h es) = refl
same_test (message.Canceled h compaction) = refl

pub streams_pushed_on : (items : List Item) (streams : List OpenedStream) (number : ℕ) (s : OpenedStream) (m : WatchItem) → nth streams number ≡ Some s → s.cancelled ≡ false → StreamsSay items streams
    → StreamsSay (items ++ item.Pushed number m ∷ []) (with_nth streams number (with_message m s))
streams_pushed_on items streams number s m at going h =
    changed_streams items i streams number s (with_message m s) refl at others itself h
  where
    i : Item
    i = item.Pushed number m

    was : StreamSays items number (Some s)
    was = subst (StreamSays items number) at (h.each number)

    others : (n : ℕ) → (n == number) ≡ false → StreamUntold n i
    others n e = record { opener = refl; ended = refl; cancelled = ap (λ b. b && is_cancellation m) (number_turned n number e) }

    itself : StreamSays (items ++ i ∷ []) number (Some (with_message m s))
    itself = record {
      opener = opener-append number items (i ∷ []) ∙ later_none (opener_of number items) ∙ was.opener;
      ended = list_any-append (ends number) items (i ∷ []) ∙ or_false (has_ended number items) ∙ was.ended;
      cancelled = list_any-append (cancels number) items (i ∷ []) ∙ ap (λ b. b || (((number == number) && is_cancellation m) || false)) (was.cancelled ∙ going)
          ∙ ap (λ b. (b && is_cancellation m) || false) (number_itself number) ∙ or_false (is_cancellation m) ∙ same_test m;
    }
