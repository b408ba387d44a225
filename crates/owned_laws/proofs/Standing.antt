-- What is known before a step of a proxy, and that a step that lets an owned key be keeps what items tell of it.
use Rattle.std.proofs.Common.{◌≡◌, ℕ, ◌+◌, ◌<◌, ◌≤◌, true, List, [], ◌∷◌, ◌++◌, Option, None, Some, refl, sym, ◌∙◌, ap, arith}
use Rattle.std.specs.List.{list_all}
use Rattle.proxy_model.specs.declared.lease.Entry.{Entry}
use Rattle.proxy_model.specs.declared.lease.Phase.TheVariants.{Held}
use Rattle.proxy_model.specs.Keyed.{is_in_order}
use Rattle.core_model.specs.declared.event.CoreEvent.{CoreEvent}
use Rattle.core_model.specs.ClockWork.{clock_work}
use Rattle.core_model.specs.DueJobs.{first_job}
use Rattle.core_model.specs.Fits.{CoreOk, Agrees}
use Rattle.core_model.specs.State.{Core}
use Rattle.core_model.specs.Step.{stepped}
use Rattle.core_fits.proofs.Prefix.{clock_prefix}
use Rattle.core_laws.proofs.Steps.Middle.{clock_whole}
use Rattle.core_laws.proofs.Steps.Whole.{of_ok}
use Rattle.owner_fits.specs.Laws.{OwnersFit}
use Rattle.step_moves.proofs.Walk.{clock_fit}
use Rattle.script_text.specs.declared.item.Item.{Item}
use Rattle.world_model.specs.declared.sent_call.SentCall.{SentCall}
use Rattle.world_model.specs.Places.{place_at}
use Rattle.world_model.specs.State.{Place, World}
use Rattle.session_laws.proofs.Turns.{bound_of}
use Rattle.cached_laws.proofs.Steps.{owners_behind, clock_settings}
use Rattle.cached_laws.proofs.Worlds.{ProxyTold, AllTold, Beside}
use Rattle.owned_laws.specs.OwnWrites.{OwnWrite}
use Rattle.owned_laws.specs.Owned.{Owning, asks, sends, owns, write_asked, write_sent}
use Rattle.owned_laws.proofs.Carrying.{Carry, call_on, less_later, ProxyOwned, AllOwned, outs_more, plain_so}
use Rattle.owned_laws.proofs.Cores.{CoreSo, Stands}
use Rattle.owned_laws.proofs.Kept.{HasCall, Kept, KeysOk, Rescinded, OutsOk, asking_steps, sending_steps, writing_steps}
use Rattle.owned_laws.proofs.Late.{AllOther}
use Rattle.owned_laws.proofs.Modes.{AllAlone, behind_as}
use Rattle.owned_laws.proofs.Steps.{Leaves, steps_so, stands}
use Rattle.owned_laws.proofs.Told.{told_calm, is_calm}
use Rattle.owned_laws.proofs.Ways.{plain, present, asking, sending_as, holds, writes_own}

-- what is known before a step of the proxy
pub record Before (namespace : List ℕ) (items : List Item) (w : World) (p : ℕ) (x : Place) : Type 0 where
  pub beside : Beside namespace items w
  pub proxies : AllTold items w (bound_of w)
  pub keys : AllOwned items w (bound_of w)
  pub there : place_at w p ≡ Some x

module _ {namespace : List ℕ} {items : List Item} {w : World} {p : ℕ} {x : Place} (known : Before namespace items w p x) where
  abbrev next : ℕ
  next = bound_of w + 1

  abbrev lea : List ℕ
  lea = w.leasing

  abbrev nsp : List ℕ
  nsp = w.namespace

  abbrev d : Core
  d = clock_work x.clock x.core

  pub later : bound_of w ≤ bound_of w + 1
  later = omega arith

  pub here : ProxyTold nsp lea (bound_of w) items w.streams p x
  here = known.proxies.places p x known.there

  pub mine : ProxyOwned nsp lea (bound_of w) items w.calls p x
  mine = known.keys p x known.there

  pub core_ok : CoreOk x.core
  core_ok = (known.beside.ok.places p x known.there).core

  pub agrees : Agrees d
  agrees = (clock_whole 0 x.clock x.core (of_ok x.core core_ok).mid).mid.agrees

  pub owners : OwnersFit d
  owners = owners_behind x.clock x.core core_ok (known.beside.owners p x known.there)

  pub due : Stands d (first_job d)
  due = stands d agrees owners

  pub prefix_is : d.own.waits.prefix ≡ lea
  prefix_is = clock_prefix x.clock x.core ∙ here.prefix

  pub named : d.settings.namespace ≡ nsp
  named = ap (λ (s : Rattle.core_model.specs.declared.settings.Settings.Settings). s.namespace) (clock_settings x.clock x.core) ∙ (known.beside.ok.places p x known.there).namespace_is ∙ sym known.beside.ok.namespace_is

  pub order : is_in_order d.own.entries ≡ true
  order = (clock_fit x.core.own.waits.prefix x.clock x.core mine.order).0

  -- what comes lets the owner's writes be
  abbrev pub Spares : CoreEvent → List ℕ → ℕ → ℕ → OwnWrite → List OwnWrite → Option ℕ → Type 0
  Spares e k n create v vs own = (alone : AllAlone k (behind_as (v ∷ vs))) (entry : Entry) → entry.create ≡ create → CoreSo (writes_own k n v vs own alone entry) d → Leaves (writes_own k n v vs own alone entry) d e

  -- and an owned key
  abbrev pub Lets : CoreEvent → List ℕ → ℕ → Owning → Type 0
  Lets e k t (asks vs) = AllOther e vs × (((alone : AllAlone k (behind_as vs)) → CoreSo (asking k t vs alone) d → Leaves (asking k t vs alone) d e) × (CoreSo (present k vs) d → Leaves (present k vs) d e))
  Lets e k t (sends number n vs) = AllOther e vs × ((m : ℕ) → HasCall w.calls p x.life number m → (alone : AllAlone k (behind_as vs)) → CoreSo (sending_as k m n vs alone) d → Leaves (sending_as k m n vs alone) d e)
  Lets e k t (owns n create) = (entry : Entry) (held : entry.phase ≡ Held) → entry.create ≡ create → n < bound_of w → CoreSo (holds k n entry held) d → Leaves (holds k n entry held) d e
  Lets e k t (write_asked n create v vs) = AllOther e (v ∷ vs) × (n < bound_of w → Spares e k n create v vs None)
  Lets e k t (write_sent n create v vs number) = AllOther e (v ∷ vs) × ((m : ℕ) → HasCall w.calls p x.life number m → n < bound_of w → Spares e k n create v vs (Some m))

  pub keep : (e : CoreEvent) (k : List ℕ) (t : ℕ) (o : Owning) (after : List SentCall) → Carry w.calls after → Lets e k t o → Kept w.calls (bound_of w) p x.life x.clock k t o x.core → Kept after next p x.life x.clock k t o (stepped x.core e x.clock).core
  keep e k t (asks vs) after c l s = record { clients = s.clients; so = asking_steps k t vs x.core e x.clock core_ok due l.0 l.1.0 l.1.1 s.so }
  keep e k t (sends number n vs) after c l s = record {
    own = s.own;
    call = call_on w.calls after p x.life number s.own c s.call;
    below = less_later n (bound_of w) next s.below later;
    clients = s.clients;
    so = sending_steps k s.own n vs x.core e x.clock core_ok due l.0 (l.1 s.own s.call) s.so;
  }
  keep e k t (owns n create) after c l s = (
    less_later n (bound_of w) next s.0 later,
    record { entry = s.1.entry; held = s.1.held; created = s.1.created; so = steps_so (holds k n s.1.entry s.1.held) ((λ c. refl), refl) x.core e x.clock due (l s.1.entry s.1.held s.1.created s.0) s.1.so },
  )
  keep e k t (write_asked n create v vs) after c l s = record { below = less_later n (bound_of w) next s.below later; clients = s.clients; so = writing_steps k n create v vs None x.core e x.clock core_ok due l.0 (l.1 s.below) s.so }
  keep e k t (write_sent n create v vs number) after c l s = record {
    own = s.own;
    call = call_on w.calls after p x.life number s.own c s.call;
    below = less_later n (bound_of w) next s.below later;
    clients = s.clients;
    so = writing_steps k n create v vs (Some s.own) x.core e x.clock core_ok due l.0 (l.1 s.own s.call s.below) s.so;
  }

  -- items that tell nothing
  pub calm_keys : (e : CoreEvent) (own : List Item) (after : List SentCall) → list_all (is_calm p) own ≡ true → Carry w.calls after → ((k : List ℕ) (t : ℕ) (o : Owning) → Lets e k t o) → KeysOk nsp lea next after (items ++ own) p x.life x.clock (stepped x.core e x.clock).core
  calm_keys e own after q c l k t o f = keep e k t o after c (l k t o) (mine.keys k t o (sym (told_calm nsp lea k p t items own q) ∙ f))

  pub outs_by : (e : CoreEvent) (own : List Item) → Leaves (plain [] (Rescinded nsp lea (items ++ own) p)) d e → OutsOk nsp lea (items ++ own) p (stepped x.core e x.clock).core
  outs_by e own l =
      let T = Rescinded nsp lea (items ++ own) p in
      (steps_so (plain [] T) ((λ c. refl), refl) x.core e x.clock due (λ s. l) (plain_so T x.core (outs_more nsp lea items own p x.core.own.waits.out mine.outs)) tt tt).0.outs
