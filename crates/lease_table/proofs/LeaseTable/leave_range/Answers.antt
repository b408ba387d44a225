-- One more row of the range is given up, and behind the last one there is none.
use Rattle.std.proofs.Common.{◌≡◌, arith, true, false, sym, ap, ◌∙◌}
use Rattle.etcd_types.specs.Ranges.{lowest}
use Rattle.proxy_model.specs.declared.lease.Entry.{Entry}
use Rattle.proxy_model.specs.Keyed.{Keyed}
use Rattle.proxy_model.specs.LeaseTable.{Table, given_up}
use Rattle.proxy_model.proofs.KeyedLaws.{to_T}
use Rattle.slot_rows.specs.Roomy.{changed_in}
use Rattle.lease_table.specs.Starts.{is_in}
use Rattle.lease_table.proofs.Starts.{partly, partly-start, partly_more, partly-last, past-start, past_more, in-length, in-partly}
use Rattle.lease_table.proofs.LeaseTable.leave_range.Goals as goal

pub loop-self-init : goal.loop-self-init
loop-self-init c =
    let es = c.args.self.now.entries in
    let r = c.args.range.now in
    record {
      table = ap (λ (fs : Keyed Entry). record c.args.self.now { entries = fs }) (partly-start r es c.start-place.result c.start-place.ensures);
      past = past-start (lowest r) es c.start-place.result c.start-place.ensures;
    }

pub turn_at-requires : goal.turn_at-requires
turn_at-requires c = in-length c.args.range.now c.loop-self.self.entries c.loop-self.place (sym c.is_in.ensures ∙ c.loop-self-test.true)

pub loop-self-preserved : goal.loop-self-preserved
loop-self-preserved c =
    let es = c.args.self.now.entries in
    let r = c.args.range.now in
    let i = c.loop-self.place in
    let here : is_in r (partly r es i) i ≡ true = sym (ap (λ (t : Table). is_in r t.entries i) c.loop-self.invariant.table) ∙ sym c.is_in.ensures ∙ c.loop-self-test.true in
    record {
      table =
          c.turn_at.ensures
          ∙ ap (λ (t : Table). record t { entries = changed_in t.entries i given_up }) c.loop-self.invariant.table
          ∙ ap (λ (fs : Keyed Entry). record c.args.self.now { entries = fs }) (partly_more r es i here);
      past = past_more (lowest r) es i (to_T _ c.len-count.ensures.in_order) c.loop-self.invariant.past;
    }

pub overflow_add-place : goal.overflow_add-place
overflow_add-place c =
    let es = c.args.self.now.entries in
    let r = c.args.range.now in
    let i = c.loop-self.place in
    let here : is_in r (partly r es i) i ≡ true = sym (ap (λ (t : Table). is_in r t.entries i) c.loop-self.invariant.table) ∙ sym c.is_in.ensures ∙ c.loop-self-test.true in
    let l = in-partly r es i here in
    let same = c.len-count.ensures.all in omega (arith, l, same)

pub loop-self-smaller : goal.loop-self-smaller
loop-self-smaller c =
    let es = c.args.self.now.entries in
    let r = c.args.range.now in
    let i = c.loop-self.place in
    let here : is_in r (partly r es i) i ≡ true = sym (ap (λ (t : Table). is_in r t.entries i) c.loop-self.invariant.table) ∙ sym c.is_in.ensures ∙ c.loop-self-test.true in
    let l = in-partly r es i here in omega (arith, l)

pub returns : goal.returns
returns c =
    let es = c.args.self.now.entries in
    let r = c.args.range.now in
    let i = c.loop-self.place in
    let out : is_in r (partly r es i) i ≡ false = sym (ap (λ (t : Table). is_in r t.entries i) c.loop-self.invariant.table) ∙ sym c.is_in.ensures ∙ c.loop-self-test.false in
    c.loop-self.invariant.table ∙ ap (λ (fs : Keyed Entry). record c.args.self.now { entries = fs }) (partly-last r es i (to_T _ c.len-count.ensures.in_order) c.loop-self.invariant.past out)
