-- Behind the clock work of a step: the view sees the proxy, and what the proxy holds is what the store has.
use Rattle.std.proofs.Common.{◌≡◌, ◌≢◌, ℕ, true, List, Option, sym, ◌∙◌, ap, subst}
use Rattle.etcd_types.specs.declared.record.Kv.{Kv}
use Rattle.proxy_model.specs.Keyed.{at}
use Rattle.read_model.specs.Fits.{is_owned}
use Rattle.core_model.specs.declared.event.CoreEvent.{CoreEvent}
use Rattle.core_model.specs.ClockWork.{clock_work}
use Rattle.core_model.specs.Fits.{is_standing}
use Rattle.core_model.specs.Lookups.{live_number}
use Rattle.core_model.specs.State.{Core}
use Rattle.core_fits.proofs.Prefix.{clock_prefix}
use Rattle.cache_laws.specs.Moves.View.{View, live}
use Rattle.row_laws.specs.Laws.{IsLive}
use Rattle.cache_laws.specs.Store.StoreView.{is_client}
use Rattle.core_moves.specs.Sees.{ground_in, Moves}
use Rattle.core_moves.proofs.Clocks.{clocks_move}
use Rattle.core_moves.proofs.Terms.{seat_is_live}
use Rattle.event_moves.specs.Events.{HasEvent}
use Rattle.event_moves.proofs.Behind.{IsBehind, clock_behind, has_number}
use Rattle.event_moves.proofs.Has.{still_has}
use Rattle.middle_laws.specs.Seen.{IsSeen}
use Rattle.middle_laws.specs.Laws.{KeptRecordsAreTrue}
use Rattle.middle_laws.proofs.Grounds.{held_same, is_live_in, standing_lives, held_owned, owned_stands, ownable_client}

module _ (holder : ℕ → ℕ) (v : View) (p now : ℕ) (own : ℕ → ℕ) (c : Core) (e : CoreEvent) (s : IsSeen holder v p now own c e) where
  pub clocked : Moves holder v p now own (clock_work now c)
  clocked = clocks_move holder v p now own (is_standing c.seat) c s.ok.reads.ground s.sees s.inv

  pub behind : IsBehind now (clock_work now c)
  behind = clock_behind now c s.ok s.fits s.owners

  pub session_lives : IsLive clocked.after p (live_number (clock_work now c).seat now)
  session_lives = seat_is_live clocked.after p now own (clock_work now c) (has_number (clock_work now c).seat behind.seat.1) clocked.sees

  pub event_had : HasEvent holder clocked.after p own (clock_work now c) e
  event_had = still_has holder v clocked.after p clocked.alike own (clock_work now c) e s.event

  -- the store's records are as they were
  pub records_stay : (k : List ℕ) (kv : Option Kv) → clocked.after.kvs k ≡ kv → v.kvs k ≡ kv
  records_stay k kv f = sym (ap (λ (r : List ℕ → Option Kv). r k) clocked.alike.kvs) ∙ f

  -- where a key is owned, the session is live, and clients may name the key

  pub owned_lives : (k : List ℕ) → is_owned (at (clock_work now c).own.entries k) ≡ true → live clocked.after p ≢ 0
  owned_lives k t =
      let d = clock_work now c in
      let st : is_standing d.seat ≡ true = owned_stands (is_standing d.seat) d.own.entries behind.ok.reads.ground.owned k t in
      is_live_in clocked.after p (live_number d.seat now) session_lives (standing_lives d.seat now st behind.live)

  pub owned_client : (k : List ℕ) → is_owned (at (clock_work now c).own.entries k) ≡ true → is_client c.own.waits.prefix k ≡ true
  owned_client k t = subst (λ (x : List ℕ). is_client x k ≡ true) (clock_prefix now c) (ownable_client _ k (behind.owners.entries.owned k t))

pub kept_records_are_true : KeptRecordsAreTrue
kept_records_are_true holder v p now own c e s k x f h =
    let m = clocked holder v p now own c e s in
    let t = held_owned (at (clock_work now c).own.entries k) x f h in
    record {
      same = records_stay holder v p now own c e s k x.kv (held_same holder m.after p own (ground_in (clock_work now c)) m.inv m.sees.row (owned_lives holder v p now own c e s k t) k x f h);
      client = owned_client holder v p now own c e s k t;
    }
