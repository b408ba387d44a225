-- Counting the items of a generated script one by one.
use Rattle.std.specs.Prelude.{ℕ, ◌+◌, Bool, false, not, ◌&&◌, if◌then◌else◌, List, [], ◌∷◌, ◌++◌, Option, Some, count_by}
use Rattle.std.specs.declared.cmp.Ordering.{Ordering}
use Rattle.std.specs.BTreeSet.{BTreeSet, contains, insert_key}
use Rattle.std.specs.Ordering.{nat_cmp, ordering_then}
use Rattle.etcd_types.specs.declared.request.Request.{Request}
use Rattle.replay_counts.specs.declared.tally.Tally.{Tally}
use Rattle.script_text.specs.declared.item.Item.{Item}
use Rattle.script_text.specs.declared.item.Item.TheVariants as item
use Rattle.world_model.specs.Generated.{Summary, is_plain_read}

-- A proxy and a ticket.
abbrev pub Named : Type 0
Named = ℕ × ℕ

abbrev pub named_cmp : Named → Named → Ordering
named_cmp x y = ordering_then (nat_cmp x.0 y.0) (nat_cmp x.1 y.1)

abbrev pub is_in : BTreeSet Named → Named → Bool
is_in names name = contains named_cmp names name

abbrev pub with_name : BTreeSet Named → Named → BTreeSet Named
with_name names name = record { keys = insert_key named_cmp names.keys name }

abbrev pub no_names : BTreeSet Named
no_names = record { keys = [] }

abbrev pub no_tally : Tally
no_tally = record { asked = 0; replies = []; asks = no_names; reads = no_names; sent = no_names }

abbrev pub with_read_if : Bool → BTreeSet Named → Named → BTreeSet Named
with_read_if b names name = if b then with_name names name else names

-- what was asked first under a ticket counts
abbrev pub asked_first : Bool → Tally → Named → Request → Tally
asked_first seen t name q =
    if seen then t
    else record t { asks = with_name t.asks name; reads = with_read_if (is_plain_read (Some q)) t.reads name }

abbrev pub noted : Tally → Item → Tally
noted t (item.Asked p ticket q) =
    asked_first (is_in t.asks (p, ticket)) (record t { asked = t.asked + 1 }) (p, ticket) q
noted t (item.Reply p ticket a) = record t { replies = t.replies ++ (p, ticket) ∷ [] }
noted t (item.Sent p call member ticket q) = record t { sent = with_name t.sent (p, ticket) }
noted t _ = t

abbrev pub noted_all : Tally → List Item → Tally
noted_all t [] = t
noted_all t (i ∷ items) = noted_all (noted t i) items

-- a plain read that no call names
abbrev pub is_unsent_name : Tally → Named → Bool
is_unsent_name t name = is_in t.reads name && not (is_in t.sent name)

abbrev pub unsent_of : Tally → ℕ
unsent_of t = count_by (is_unsent_name t) t.replies
