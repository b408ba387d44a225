-- Part by part: the key has its entry, and its reads their stages.
use Rattle.std.proofs.Common.{◌≡◌, true, map, Some, is_some, sym, ◌∙◌, ap, subst}
use Rattle.proxy_model.specs.declared.lease.Entry.{Entry}
use Rattle.proxy_model.specs.declared.ownership.Claim.TheVariants.{Acquired}
use Rattle.proxy_model.specs.Keyed.{at, with_at}
use Rattle.known_asks.specs.Changes.{staged_by}
use Rattle.read_core.specs.Readers.{readers_stage, joined_stage}
use Rattle.read_model.specs.Acquires.{acquire_done}
use Rattle.read_model.specs.Fits.{ReadsOk}
use Rattle.read_model.specs.PlainRead.{shown}
use Rattle.read_model.specs.State.{Reads, Moment}
use Rattle.read_steps.specs.Parts.{reads}
use Rattle.read_steps.proofs.Winning.{no_entry, won_reads}
use Rattle.read_steps.proofs.reads.Reads.win.Goals as goal

pub end_acquire-requires : goal.end_acquire-requires
end_acquire-requires c =
    let r = reads c.self.inside.table.entries c.self.inside.waits c.self.inside.acquires c.self.inside.asks in
    let fit = subst (λ (x : Reads). ReadsOk c.requires.fit.0 x) (sym c.self.view_is) c.requires.fit.1 in
    let held = subst (λ (x : Reads). is_some (at x.acquires c.args.key.now) ≡ true) (sym c.self.view_is) c.requires.acquire in
    no_entry c.requires.fit.0 r c.args.key.now fit held

pub returns-clause-ok : goal.returns-clause-ok
returns-clause-ok c =
    let r = reads c.self.inside.table.entries c.self.inside.waits c.self.inside.acquires c.self.inside.asks in
    let m : Moment = record { now = c.m.inside.now; session = c.m.inside.session; created = c.m.inside.created; header = c.m.inside.header } in
    let k = c.args.key.now in
    let h = c.args.header in
    let fit = subst (λ (x : Reads). ReadsOk c.requires.fit.0 x) (sym c.self.view_is) c.requires.fit.1 in
    let acquire = subst (λ (x : Reads). is_some (at x.acquires k) ≡ true) (sym c.self.view_is) c.requires.acquire in
    let kv = c.as_ref.ensures.value in
    (λ i. reads
    ((c.in_ok-end_acquire.ensures.entries ∙ ap (λ (e : Entry). with_at r.own.entries k (Some e)) c.entry_won-entry.ensures) i)
    (c.in_ok-end_acquire.ensures.waits i)
    (c.in_ok-end_acquire.ensures.acquires i)
    ((c.in_ok-end_acquire.ensures.asks ∙ c.in_ok-changes.ensures ∙ (λ j. map (staged_by (readers_stage k (shown h (kv j)) (joined_stage (c.header_if.ensures j) (kv j) (c.step.ensures j)))) r.asks)) i))
    ∙ won_reads c.requires.fit.0 m k c.args.held h c.args.create c.args.kv r fit acquire
    ∙ ap (λ (x : Moment). acquire_done x k c.args.held h (Acquired c.args.create c.args.kv) r) c.m.view_is
    ∙ ap (acquire_done c.args.m.now k c.args.held h (Acquired c.args.create c.args.kv)) c.self.view_is
