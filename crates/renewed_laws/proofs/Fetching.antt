-- The replies that stand ready are fetched: each is what stood at its request, and what is known of the others stays known.
use Rattle.std.proofs.Common.{◌≡◌, ℕ, zero, suc, length, Option, None, Some, Result, Ok, Err, refl, ◌∙◌}
use Rattle.core_model.specs.declared.event.CoreEvent.TheVariants as event
use Rattle.core_model.specs.declared.event.Outcome.{Outcome}
use Rattle.core_model.specs.declared.event.Outcome.TheVariants as outcome
use Rattle.core_model.specs.declared.event.StepFault.{StepFault}
use Rattle.core_model.specs.Fits.{CoreOk}
use Rattle.core_model.specs.State.{Core}
use Rattle.core_model.specs.Step.{stepped}
use Rattle.core_model.specs.Takes.{ready}
use Rattle.core_laws.proofs.Steps.Stepping.{steps_keep}
use Rattle.world_model.specs.Gains.{Replies, Fetched, with_reply, fetched_as, fetched_if, fetched, all_fetched}
use Rattle.world_model.specs.Places.{with_core}
use Rattle.world_model.specs.State.{Place}
use Rattle.keep_laws.proofs.Rows.{All}
use Rattle.keep_laws.proofs.Steps.{stepped_all}
use Rattle.renewed_laws.proofs.Calls.{other_counts}
use Rattle.renewed_laws.proofs.Replies.{ReplyOk, RepliesOk, each_put, told_take}
use Rattle.renewed_laws.proofs.Rows.{Row, row_lasts}
use Rattle.renewed_laws.proofs.Stories.{Life}

-- nothing else of the place changes
pub record FetchedOk (l : Life) (x : Place) (f : Fetched) : Type 0 where
  pub core : CoreOk f.place.core
  pub calls : f.place.calls ≡ x.calls
  pub count : f.place.core.calls ≡ x.core.calls
  pub rows : All (Row l) f.place.core.asks
  pub replies : RepliesOk l f.replies

on : (l : Life) (x y : Place) (f : Fetched) → y.calls ≡ x.calls → y.core.calls ≡ x.core.calls → FetchedOk l y f → FetchedOk l x f
on l x y f c n h = record { core = h.core; calls = h.calls ∙ c; count = h.count ∙ n; rows = h.rows; replies = h.replies }

-- a fetch tells nothing, and brings nothing
rows_fetched : (l : Life) (ticket now : ℕ) (c : Core) → CoreOk c → All (Row l) c.asks → All (Row l) (stepped c (event.Take ticket) now).core.asks
rows_fetched l ticket now c ok t = stepped_all (Row l) (Row l) (row_lasts l) (record { turns = λ a h. h; lasts = row_lasts l }) (event.Take ticket) now c ok (λ w. tt) t

-- a core that is right, of which all is known
abbrev Stands : Life → Place → Type 0
Stands l x = CoreOk x.core × All (Row l) x.core.asks

pub fetched_ok : (l : Life) (n : ℕ) (x : Place) (got : Replies) → CoreOk x.core × All (Row l) x.core.asks → RepliesOk l got → FetchedOk l x (fetched n x got)
fetched_ok l zero x got h t = record { core = h.0; calls = refl; count = refl; rows = h.1; replies = t }
fetched_ok l (suc n) x got h t = by (ready x.core) (λ y g k u. fetched_ok l n y g k u)
  where
    by_outcome : (ticket : ℕ) (y : Place) (r : Result Outcome StepFault) → (stepped x.core (event.Take ticket) x.clock).outcome ≡ r → y.calls ≡ x.calls → y.core.calls ≡ x.core.calls → Stands l y
        → ((y : Place) (g : Replies) → Stands l y → RepliesOk l g → FetchedOk l y (fetched n y g)) → FetchedOk l x (fetched_as (fetched n) y ticket got r)
    by_outcome ticket y (Ok (outcome.Replied a)) e c m k more =
        on l x y (fetched n y (with_reply ticket a got)) c m (more y (with_reply ticket a got) k (each_put (ReplyOk l.namespace l.told l.proxy) ticket a got (told_take l x.core ticket x.clock a h.1 e) t))
    by_outcome ticket y (Ok outcome.Waiting) e c m k more = record { core = k.0; calls = c; count = m; rows = k.1; replies = t }
    by_outcome ticket y (Ok outcome.Pending) e c m k more = record { core = k.0; calls = c; count = m; rows = k.1; replies = t }
    by_outcome ticket y (Ok outcome.Noted) e c m k more = record { core = k.0; calls = c; count = m; rows = k.1; replies = t }
    by_outcome ticket y (Ok (outcome.Item i)) e c m k more = record { core = k.0; calls = c; count = m; rows = k.1; replies = t }
    by_outcome ticket y (Ok (outcome.Job j)) e c m k more = record { core = k.0; calls = c; count = m; rows = k.1; replies = t }
    by_outcome ticket y (Err f) e c m k more = record { core = k.0; calls = c; count = m; rows = k.1; replies = t }

    by : (o : Option ℕ) → ((y : Place) (g : Replies) → Stands l y → RepliesOk l g → FetchedOk l y (fetched n y g)) → FetchedOk l x (fetched_if (fetched n) x got o)
    by None more = record { core = h.0; calls = refl; count = refl; rows = h.1; replies = t }
    by (Some ticket) more =
        by_outcome ticket (with_core x (stepped x.core (event.Take ticket) x.clock).core) (stepped x.core (event.Take ticket) x.clock).outcome refl refl (other_counts x.core (event.Take ticket) x.clock refl)
        (steps_keep x.core (event.Take ticket) x.clock tt h.0, rows_fetched l ticket x.clock x.core h.0 h.1) more

pub all_fetched_ok : (l : Life) (x : Place) (got : Replies) → CoreOk x.core → All (Row l) x.core.asks → RepliesOk l got → FetchedOk l x (all_fetched x got)
all_fetched_ok l x got ok rows t = fetched_ok l (length x.core.asks) x got (ok, rows) t
