-- Part by part: what is this proxy's own is given up, and the key's reads have their stages.
use Rattle.std.proofs.Common.{◌≡◌, true, map, Option, None, is_some, sym, ◌∙◌, ap, subst}
use Rattle.proxy_model.specs.declared.lease.Entry.{Entry}
use Rattle.proxy_model.specs.declared.ownership.Claim.TheVariants.{OwnedBy}
use Rattle.proxy_model.specs.declared.ownership.Owner.{Owner}
use Rattle.proxy_model.specs.Keyed.{at}
use Rattle.known_asks.specs.Changes.{staged_by}
use Rattle.read_core.specs.Readers.{readers_stage}
use Rattle.read_model.specs.Acquires.{acquire_done, found_own}
use Rattle.read_model.specs.Fits.{ReadsOk}
use Rattle.read_model.specs.PlainRead.{shown, called}
use Rattle.read_model.specs.State.{Reads, Moment}
use Rattle.read_steps.specs.Parts.{reads, held_entries}
use Rattle.read_steps.proofs.Winning.{no_entry, owned_reads}
use Rattle.read_steps.proofs.reads.Reads.give_way.Goals as goal

pub end_acquire-requires : goal.end_acquire-requires
end_acquire-requires c =
    let r = reads c.self.inside.table.entries c.self.inside.waits c.self.inside.acquires c.self.inside.asks in
    let fit = subst (λ (x : Reads). ReadsOk c.requires.fit.0 x) (sym c.self.view_is) c.requires.fit.1 in
    let held = subst (λ (x : Reads). is_some (at x.acquires c.args.key.now) ≡ true) (sym c.self.view_is) c.requires.acquire in
    no_entry c.requires.fit.0 r c.args.key.now fit held

pub returns-clause-ok : goal.returns-clause-ok
returns-clause-ok c = λ held.
    let r = reads c.self.inside.table.entries c.self.inside.waits c.self.inside.acquires c.self.inside.asks in
    let m : Moment = record { now = c.m.inside.now; session = c.m.inside.session; created = c.m.inside.created; header = c.m.inside.header } in
    let k = c.args.key.now in
    let h = c.args.header in
    let fit = subst (λ (x : Reads). ReadsOk c.requires.fit.0 x) (sym c.self.view_is) c.requires.fit.1 in
    let acquire = subst (λ (x : Reads). is_some (at x.acquires k) ≡ true) (sym c.self.view_is) c.requires.acquire in
    let kv = c.as_ref.ensures.value in
    let found = c.entry_found.ensures ∙ ap (λ (o : Option Owner). found_own m.session o None) c.as_ref-2.ensures.value in
    (λ i. reads
    ((c.in_ok-end_acquire.ensures.entries ∙ ap (λ (e : Option Entry). held_entries k e r.own.entries) found) i)
    (c.in_ok-end_acquire.ensures.waits i)
    (c.in_ok-end_acquire.ensures.acquires i)
    ((c.in_ok-end_acquire.ensures.asks ∙ c.in_ok-changes.ensures ∙ (λ j. map (staged_by (readers_stage k (shown h (kv j)) (called (c.step.ensures j)))) r.asks)) i))
    ∙ owned_reads c.requires.fit.0 m k held h c.args.kv c.args.owner r fit acquire
    ∙ ap (λ (x : Moment). acquire_done x k held h (OwnedBy c.args.kv c.args.owner) r) c.m.view_is
    ∙ ap (acquire_done c.args.m.now k held h (OwnedBy c.args.kv c.args.owner)) c.self.view_is
