-- What is kept of an item tells what the item tells.
use Rattle.std.proofs.Common.{◌≡◌, ℕ, zero, suc, Bool, true, false, cond, ◌==◌, ◌&&◌, List, [], ◌∷◌, ◌++◌, map, Option, None, Some, refl, sym, ◌∙◌, ap}
use Rattle.std.specs.Option.{option_map, unwrap_or}
use Rattle.std.specs.Prelude.{slice_get}
use Rattle.std.proofs.lemmas.List.{map-append}
use Rattle.etcd_types.specs.declared.request.Request.{Request}
use Rattle.script_text.specs.declared.item.Item.{Item}
use Rattle.script_text.specs.declared.item.Item.TheVariants as item
use Rattle.audit_model.specs.Order.{members_of}
use Rattle.world_model.specs.Lives.{namespace_of}
use Rattle.audit_lives.specs.Finds.{asked_in, call_in, found_or, members_in, opener_in, sender_in, told_by, told_of}
use Rattle.audit_lives.specs.Given.{executed_in, message_revision, namespace_in, pushed_in, reply_revision}
use Rattle.audit_lives.specs.Keeps.{answer_in, call_in as kept_call, first_kept, keep_of, keeps, kept_by, kept_in, kept_of, members_in as kept_members, message_in, namespace_in as kept_namespace, opener_in as kept_opener, request_in, sender_in as kept_sender}
use Rattle.audit_lives.specs.declared.kept.Kept.{Kept}
use Rattle.audit_lives.proofs.Found.{count_or, first_found, members_found}
use Rattle.audit_lives.proofs.GivenItems.{bytes_or, namespace_found}

-- ---- at a place

in_place : {A : Type 0} (g : Kept → Option A) (f : Item → Option A) → ((i : Item) → g (keep_of i) ≡ f i) → (items : List Item) (n : ℕ) → kept_in g (slice_get (map keep_of items) n) ≡ told_of f (slice_get items n)
in_place g f same [] n = refl
in_place g f same (i ∷ items) zero = same i
in_place g f same (i ∷ items) (suc n) = in_place g f same items n

by_place : {A : Type 0} (g : Kept → Option A) (f : Item → Option A) → ((i : Item) → g (keep_of i) ≡ f i) → (items : List Item) (o : Option ℕ) → kept_by g (keeps items) o ≡ told_by f items o
by_place g f same items None = refl
by_place g f same items (Some n) = in_place g f same items n

kept_is : {A : Type 0} (g : Kept → Option A) (f : Item → Option A) → ((i : Item) → g (keep_of i) ≡ f i) → (ks : List Kept) (items : List Item) (o : Option ℕ) → ks ≡ keeps items → kept_by g ks o ≡ told_by f items o
kept_is g f same ks items o k = ap (λ (xs : List Kept). kept_by g xs o) k ∙ by_place g f same items o

-- ---- what is looked up

asked_same : (p ticket : ℕ) (i : Item) → request_in p ticket (keep_of i) ≡ asked_in p ticket i
asked_same p ticket (item.Asked q t r) = refl
asked_same p ticket i = refl

pub request_is : (p ticket : ℕ) (ks : List Kept) (items : List Item) (o : Option ℕ) → ks ≡ keeps items → kept_by (request_in p ticket) ks o ≡ told_by (asked_in p ticket) items o
request_is p ticket ks items o k = kept_is (request_in p ticket) (asked_in p ticket) (asked_same p ticket) ks items o k

sender_same : (call : ℕ) (i : Item) → kept_sender call (keep_of i) ≡ sender_in call i
sender_same call (item.Sent p number member ticket q) = refl
sender_same call i = refl

pub kept_sender_is : (call : ℕ) (ks : List Kept) (items : List Item) (o : Option ℕ) → ks ≡ keeps items → kept_by (kept_sender call) ks o ≡ told_by (sender_in call) items o
kept_sender_is call ks items o k = kept_is (kept_sender call) (sender_in call) (sender_same call) ks items o k

opener_same : (stream : ℕ) (i : Item) → kept_opener stream (keep_of i) ≡ opener_in stream i
opener_same stream (item.Opened p number member q) = refl
opener_same stream i = refl

pub kept_opener_is : (stream : ℕ) (ks : List Kept) (items : List Item) (o : Option ℕ) → ks ≡ keeps items → kept_by (kept_opener stream) ks o ≡ told_by (opener_in stream) items o
kept_opener_is stream ks items o k = kept_is (kept_opener stream) (opener_in stream) (opener_same stream) ks items o k

call_same : (i : Item) → kept_call (keep_of i) ≡ call_in i
call_same (item.Sent p number member ticket q) = refl
call_same i = refl

pub call_is : (ks : List Kept) (items : List Item) (o : Option ℕ) → ks ≡ keeps items → kept_by kept_call ks o ≡ told_by call_in items o
call_is ks items o k = kept_is kept_call call_in call_same ks items o k

-- ---- revisions

mapped : {A B : Type 0} (r : A → B) (f : Item → Option A) (items : List Item) (o : Option ℕ) → told_by (λ i. option_map r (f i)) items o ≡ option_map r (told_by f items o)
mapped r f items None = refl
mapped r f items (Some n) = at_place (slice_get items n)
  where
    at_place : (o : Option Item) → told_of (λ i. option_map r (f i)) o ≡ option_map r (told_of f o)
    at_place None = refl
    at_place (Some i) = refl

either : {A B : Type 0} (r : A → B) (b : Bool) (x : A) → cond b (Some (r x)) None ≡ option_map r (cond b (Some x) None)
either r true x = refl
either r false x = refl

answer_same : (call : ℕ) (i : Item) → answer_in call (keep_of i) ≡ option_map reply_revision (executed_in call i)
answer_same call (item.Executed number answer) = either reply_revision (number == call) answer
answer_same call i = refl

pub answer_revision_is : (call : ℕ) (ks : List Kept) (items : List Item) (o : Option ℕ) → ks ≡ keeps items → kept_by (answer_in call) ks o ≡ option_map reply_revision (told_by (executed_in call) items o)
answer_revision_is call ks items o k =
    kept_is (answer_in call) (λ i. option_map reply_revision (executed_in call i)) (answer_same call) ks items o k ∙ mapped reply_revision (executed_in call) items o

message_same : (stream : ℕ) (i : Item) → message_in stream (keep_of i) ≡ option_map message_revision (pushed_in stream i)
message_same stream (item.Pushed number message) = either message_revision (number == stream) message
message_same stream i = refl

pub message_revision_is : (stream : ℕ) (ks : List Kept) (items : List Item) (o : Option ℕ) → ks ≡ keeps items → kept_by (message_in stream) ks o ≡ option_map message_revision (told_by (pushed_in stream) items o)
message_revision_is stream ks items o k =
    kept_is (message_in stream) (λ i. option_map message_revision (pushed_in stream i)) (message_same stream) ks items o k ∙ mapped message_revision (pushed_in stream) items o

-- ---- the world's

members_same : (i : Item) → kept_members (keep_of i) ≡ members_in i
members_same (item.World members namespace leasing) = refl
members_same i = refl

namespace_same : (i : Item) → kept_namespace (keep_of i) ≡ namespace_in i
namespace_same (item.World members namespace leasing) = refl
namespace_same i = refl

first_same : {A : Type 0} (g : Kept → Option A) (f : Item → Option A) → ((i : Item) → g (keep_of i) ≡ f i) → (items : List Item) → first_kept g (keeps items) ≡ first_found f items
first_same g f same [] = refl
first_same g f same (i ∷ items) = λ j. found_or (same i j) (first_same g f same items j)

counted : (o : Option ℕ) → unwrap_or o 0 ≡ count_or o 0
counted None = refl
counted (Some n) = refl

named : (o : Option (List ℕ)) → unwrap_or o [] ≡ bytes_or o []
named None = refl
named (Some n) = refl

pub members_are : (ks : List Kept) (items : List Item) → ks ≡ keeps items → unwrap_or (first_kept kept_members ks) 0 ≡ members_of items
members_are ks items k =
    counted (first_kept kept_members ks)
    ∙ ap (λ (xs : List Kept). count_or (first_kept kept_members xs) 0) k
    ∙ ap (λ (o : Option ℕ). count_or o 0) (first_same kept_members members_in members_same items)
    ∙ members_found items

pub namespace_is : (ks : List Kept) (items : List Item) → ks ≡ keeps items → unwrap_or (first_kept kept_namespace ks) [] ≡ namespace_of items
namespace_is ks items k =
    named (first_kept kept_namespace ks)
    ∙ ap (λ (xs : List Kept). bytes_or (first_kept kept_namespace xs) []) k
    ∙ ap (λ (o : Option (List ℕ)). bytes_or o []) (first_same kept_namespace namespace_in namespace_same items)
    ∙ namespace_found items

-- one more is kept
pub keeps_more : (ks : List Kept) (items : List Item) (i : Item) → ks ≡ keeps items → ks ++ keep_of i ∷ [] ≡ keeps (items ++ i ∷ [])
keeps_more ks items i k = ap (λ (xs : List Kept). xs ++ keep_of i ∷ []) k ∙ sym (map-append keep_of items (i ∷ []))
