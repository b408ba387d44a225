use Rattle.std.proofs.Common.{◌≡◌, ℕ, List, [], Option, None, filter, sym, ◌∙◌, ap}
use Rattle.std.specs.Option.{unwrap_or, option_copied}
use Rattle.store_model.specs.Leases.{all_keys, is_attached}
use Rattle.store_index.specs.Maps.{Entries, left_by, shown_by}
use Rattle.store_index.specs.Leases.{linked_keys}
use Rattle.store_index.proofs.LeaseLemmas.{attached_from, none_ordered}
use Rattle.store_index.proofs.leased.LeasedVersions.attached.Goals as goal

pub returns-in_ok-attached-in-Some-clause-shown : goal.returns-in_ok-attached-in-Some-clause-shown
returns-in_ok-attached-in-Some-clause-shown c =
    let listed : linked_keys c.self.inside.leases c.args.lease ≡ c.in-Some.keys.now =
    ap (λ (o : Option (List (List ℕ))). unwrap_or o []) (sym c.of.ensures ∙ ap option_copied c.in-Some.is) in
    c.in_ok-attached-in-Some.ensures.shown
    ∙ attached_from c.args.lease c.self.inside.versions c.self.inside.leases c.in-Some.keys.now c.requires c.is_empty.ensures.ordered c.self.invariant listed
    c.in_ok-attached-in-Some.ensures.ordered
    ∙ ap (λ (es : Entries). filter (is_attached c.args.lease) (shown_by (left_by None) all_keys es)) c.self.view_is

pub returns-in-None-clause-shown : goal.returns-in-None-clause-shown
returns-in-None-clause-shown c =
    let listed : linked_keys c.self.inside.leases c.args.lease ≡ [] =
    ap (λ (o : Option (List (List ℕ))). unwrap_or o []) (sym c.of.ensures ∙ ap option_copied c.in-None.is) in
    c.new-in-None.ensures
    ∙ attached_from c.args.lease c.self.inside.versions c.self.inside.leases [] c.requires c.is_empty.ensures.ordered c.self.invariant listed none_ordered
    ∙ ap (λ (es : Entries). filter (is_attached c.args.lease) (shown_by (left_by None) all_keys es)) c.self.view_is
