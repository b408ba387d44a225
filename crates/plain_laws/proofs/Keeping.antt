-- With leasing off, behind each prefix of a script: in each proxy no request waits for a key, and each ok reply that stands ready, but a
-- keepalive's, is named by an item of the proxy's life.
use Rattle.std.proofs.Common.{◌≡◌, ℕ, Bool, true, List, ◌++◌, append_assoc, length, Some, refl, sym, ◌∙◌, ap, subst}
use Rattle.etcd_types.specs.Keys.{is_empty}
use Rattle.core_model.specs.declared.event.CoreEvent.{CoreEvent}
use Rattle.core_model.specs.declared.event.CoreEvent.TheVariants as event
use Rattle.core_model.specs.declared.settings.Settings.{Settings}
use Rattle.core_model.specs.Fits.{CoreOk}
use Rattle.core_model.specs.State.{Core, first_core}
use Rattle.core_model.specs.Step.{stepped}
use Rattle.core_laws.proofs.Steps.Stepping.{steps_keep}
use Rattle.core_fits.proofs.CallRows.{CoreHas}
use Rattle.script_text.specs.declared.item.Item.{Item}
use Rattle.script_text.specs.declared.line.Line.{Line}
use Rattle.world_model.specs.Gains.{all_fetched}
use Rattle.world_model.specs.Lives.{world_of, life, is_named}
use Rattle.world_model.specs.Places.{place_at}
use Rattle.world_model.specs.State.{Place, World}
use Rattle.held_laws.proofs.Worlds.{no_place}
use Rattle.renewed_laws.proofs.Lives.{Lives, life_on}
use Rattle.renewed_laws.proofs.Worlds.{WorldOk}
use Rattle.prefix_laws.proofs.Places.{fetched_so, AllNamed, named_front, named_on, step_named, fetch_named, named_kept}
use Rattle.prefix_laws.proofs.Prefixes.{IsKept}
use Rattle.prefix_laws.proofs.Turning.{named_by, PlaceGoes, stays, begins, steps, line_goes}
use Rattle.reply_laws.specs.Named.{AreNamed}
use Rattle.plain_laws.proofs.Cores.{Unread, Nowhere, IsPlain, ReadyNamed, step_plain, ready_named}
use Rattle.plain_laws.proofs.Worlds.{AllLease, line_leases}

pub record PlaceReady (items : List Item) (q : ℕ) (c : Core) : Type 0 where
  pub plain : IsPlain c
  pub ready : ReadyNamed (named_by q (life q items)) c

pub record PlainWorld (items : List Item) (w : World) : Type 0 where
  pub front : (more : List Item) → world_of (items ++ more) ≡ (w.namespace, w.leasing)
  pub named : AllNamed items w
  pub leases : AllLease w w.leasing
  pub ready : is_empty w.leasing ≡ true → (q : ℕ) (x : Place) → place_at w q ≡ Some x → PlaceReady items q x.core

-- the life goes on
pub ready_on : (q : ℕ) (items more : List Item) (c : Core) → Lives q more → ReadyNamed (named_by q (life q items)) c → ReadyNamed (named_by q (life q (items ++ more))) c
ready_on q items more c quiet h ticket reply r k = ap (is_named q ticket) (life_on q items more quiet) ∙ named_front q ticket (life q items) more (h ticket reply r k)

-- behind a step, and its items
pub step_ready : (q : ℕ) (items own : List Item) (c : Core) (e : CoreEvent) (now : ℕ) → CoreOk c → Lives q own → AreNamed (named_by q (life q items)) c → PlaceReady items q c → PlaceReady (items ++ own) q (stepped c e now).core
step_ready q items own c e now ok quiet n h = record {
  plain = step_plain c e now h.plain;
  ready = ready_named (named_by q (life q (items ++ own))) c e now ok h.plain (named_on q items own c quiet n) (ready_on q items own c quiet h.ready);
}

-- a fetch keeps all of it
abbrev Whole : List Item → ℕ → Core → Type 0
Whole items q c = (CoreOk c × AreNamed (named_by q (life q items)) c) × PlaceReady items q c

fetch_ready : (q : ℕ) (items : List Item) (c : Core) (ticket now : ℕ) → Whole items q c → Whole items q (stepped c (event.Take ticket) now).core
fetch_ready q items c ticket now h = (
  fetch_named (named_by q (life q items)) c ticket now h.0,
  record { plain = step_plain c (event.Take ticket) now h.1.plain; ready = ready_named (named_by q (life q items)) c (event.Take ticket) now h.0.0 h.1.plain h.0.1 h.1.ready },
)

nothing_ready : (named : ℕ → Bool) (s : Settings) → ReadyNamed named (first_core s)
nothing_ready named s ticket reply r k = absurd (let e = r.there in cc)

place_ready : (namespace : List ℕ) (items gained : List Item) (w : World) → WorldOk namespace items w → PlainWorld items w → is_empty w.leasing ≡ true
    → (q : ℕ) (y : Place) → is_empty y.core.own.waits.prefix ≡ true → PlaceGoes w gained q y → PlaceReady (items ++ gained) q y.core
place_ready namespace items gained w h so off q y empty (stays x at same quiet) =
    let k = so.ready off q x at in
    subst (PlaceReady (items ++ gained) q) (sym same) (record { plain = k.plain; ready = ready_on q items gained x.core quiet k.ready })
place_ready namespace items gained w h so off q y empty (begins s same) = record {
  plain = record { off = empty; waits = subst (λ (c : Core). CoreHas Unread Nowhere c) (sym same) (tt, tt) };
  ready = subst (ReadyNamed (named_by q (life q (items ++ gained)))) (sym same) (nothing_ready (named_by q (life q (items ++ gained))) s);
}
place_ready namespace items gained w h so off q y empty (steps x z e told own rest at heard core is split a b sends) =
    let ok = (h.places q x at).core in
    let stood : Whole (items ++ own) q z.core =
    subst (Whole (items ++ own) q) (sym core) ((steps_keep x.core e x.clock heard ok, step_named q items own x.core e x.clock ok a sends (so.named q x at)), step_ready q items own x.core e x.clock ok a (so.named q x at) (so.ready off q x at)) in
    let t = (fetched_so (Whole (items ++ own) q) (fetch_ready q (items ++ own)) (length z.core.asks) z told stood).1 in
    let later : PlaceReady ((items ++ own) ++ rest) q (all_fetched z told).place.core = record { plain = t.plain; ready = ready_on q (items ++ own) rest (all_fetched z told).place.core b t.ready } in
    let same : (items ++ own) ++ rest ≡ items ++ gained = append_assoc items own rest ∙ ap (λ (xs : List Item). items ++ xs) (sym split) in
    subst (λ (xs : List Item). PlaceReady xs q y.core) same (subst (λ (v : Place). PlaceReady ((items ++ own) ++ rest) q v.core) (sym is) later)

pub plain_kept : (script : List Line) → IsKept script PlainWorld
plain_kept script = record {
  begins = λ members namespace leasing. record {
    front = λ more. refl;
    named = (named_kept script).begins members namespace leasing;
    leases = λ q x e. no_place x e;
    ready = λ off q x e. no_place x e;
  };
  goes_on = λ namespace items w l gained n e h so.
      let k = line_leases namespace items w l gained e h in
      record {
        front = λ more. ap world_of (append_assoc items gained more) ∙ so.front (gained ++ more) ∙ (λ i. (sym k.names.namespace i, sym k.names.leasing i));
        named = (named_kept script).goes_on namespace items w l gained n e h so.named;
        leases = λ q x at. k.places so.leases q x at ∙ sym k.names.leasing;
        ready = λ off q x at.
            let empty : is_empty w.leasing ≡ true = ap (λ (p : List ℕ). is_empty p) (sym k.names.leasing) ∙ off in
            place_ready namespace items gained w h so empty q x (ap (λ (p : List ℕ). is_empty p) (k.places so.leases q x at) ∙ empty) (line_goes namespace items w l gained e h q x at);
      };
}
