-- The ticket is new, so there is a gap for it in the index; the row's number is above all.
use Rattle.std.proofs.Common.{◌≡◌, ◌≤◌, None, List, ℕ, length, sym, ap, subst, ◌∙◌}
use Rattle.std.specs.List.{remove}
use Rattle.numbered_rows.specs.Numbered.{Numbered}
use Rattle.numbered_rows.specs.Places.{IsPlace, IsGap}
use Rattle.numbered_rows.proofs.Places.{at-place}
use Rattle.read_model.specs.declared.asked.Asked.{Asked}
use Rattle.core_model.specs.Lookups.{ask_at}
use Rattle.ask_tables.specs.Marks.{is_narrow}
use Rattle.known_asks.proofs.Tickets.{new_ticket, fits-added}
use Rattle.known_asks.proofs.Moves.{marked-added, marks_free}
use Rattle.known_asks.proofs.Alls.{all-append}
use Rattle.known_asks.proofs.Undone.{put_and_taken}
use Rattle.known_asks.proofs.asks.Asks.push.Goals as goal

pub unreachable-requires : goal.unreachable-requires
unreachable-requires c =
    let absent = subst (λ (s : List Asked). ask_at c.args.ask.ticket s ≡ None) (sym c.self.view_is) c.requires in
    let none = new_ticket _ _ c.args.ask.ticket c.self.invariant.fits.indexed absent in
    let place : IsPlace c.self.inside.index c.args.ask.ticket c.in_default.field-0 = subst (λ (t : Numbered ℕ). IsPlace t c.args.ask.ticket c.in_default.field-0) c.as_slice.ensures c.in_default.ensures.found in
    let there = at-place _ _ _ (0, 0) place in
    cc

pub put-requires : goal.put-requires
put-requires c =
    let absent = subst (λ (s : List Asked). ask_at c.args.ask.ticket s ≡ None) (sym c.self.view_is) c.requires in
    let none = new_ticket _ _ c.args.ask.ticket c.self.invariant.fits.indexed absent in
    marks_free c.self.inside.rows.items c.self.inside.index c.self.inside.next c.self.inside.tables c.args.ask c.self.invariant.fits none c.self.invariant.marked

pub invariant_of-self-in-Err-put : goal.invariant_of-self-in-Err-put
invariant_of-self-in-Err-put c =
    let within : c.in-Err.gap ≤ length c.self.inside.index = subst (λ (t : Numbered ℕ). c.in-Err.gap ≤ length t) c.as_slice.ensures c.in-Err.ensures.up_to_end in
    let index : c.remove.new.self ≡ c.self.inside.index = c.remove.ensures ∙ ap (λ (t : Numbered ℕ). remove t c.in-Err.gap) c.in_ok-insert.ensures.ok ∙ put_and_taken c.self.inside.index c.in-Err.gap (c.args.ask.ticket, c.self.inside.next) within in
    rw (c.in_ok-reserve.ensures.items, index, c.in-Err-put.ensures.err) c.self.invariant

pub invariant_of-self-2 : goal.invariant_of-self-2
invariant_of-self-2 c =
    let absent = subst (λ (s : List Asked). ask_at c.args.ask.ticket s ≡ None) (sym c.self.view_is) c.requires in
    let none = new_ticket _ _ c.args.ask.ticket c.self.invariant.fits.indexed absent in
    let gap : IsGap c.self.inside.index c.args.ask.ticket c.in-Err.gap = subst (λ (t : Numbered ℕ). IsGap t c.args.ask.ticket c.in-Err.gap) c.as_slice.ensures c.in-Err.ensures.absent in
    let rows = rw (c.unwrap.ensures, c.in_ok-reserve.ensures.items) at c.push.ensures.items in
    rw (rows, c.in_ok-insert.ensures.ok) (record {
      marked = rw c.in_default-put.ensures.ok (marked-added c.self.inside.rows.items c.self.inside.index c.self.inside.next c.self.inside.tables c.args.ask c.self.invariant.fits none c.self.invariant.marked);
      fits = fits-added _ _ c.self.inside.next _ c.args.ask c.self.invariant.fits none gap;
      narrow = all-append is_narrow c.self.inside.rows.items c.self.inside.next c.args.ask c.self.invariant.narrow c.in_default-put.ensures.narrow;
    })
