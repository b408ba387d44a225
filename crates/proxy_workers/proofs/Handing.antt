-- A part that was handed over, as the follower that it is.
use Rattle.std.proofs.Common.{◌≡◌, ℕ, ◌≤◌, Bool, true, false, List, [], ◌∷◌, Option, None, subst}
use Rattle.outside.specs.Calls.{Adds as Tells, Handed}
use Rattle.outside.specs.Faults.{Rose}
use Rattle.outside.specs.declared.parts.Part.{Part}
use Rattle.etcd_types.specs.declared.request.Request.{Request}
use Rattle.core_model.specs.declared.event.CoreEvent.{CoreEvent}
use Rattle.core_model.specs.declared.event.CoreEvent.TheVariants.{Cut}
use Rattle.server_model.specs.Steps.{Step}
use Rattle.server_model.specs.declared.ends.WorkEnd.{WorkEnd}
use Rattle.server_model.specs.Calls.{call_of}
use Rattle.server_model.specs.Working.{IsAt, IsFed, IsHandedOver, follower}
use Rattle.server_model.proofs.Works.{was_begun, was_refused}
use Rattle.proxy_workers.specs.Handed.{IsFollower}

-- what was fed, from another name of what was told before
pub fed_since : (worn : Type 0) (event : CoreEvent) (first end : Option WorkEnd) (a b c : Option (List Step)) → b ≡ a → IsFed worn event first b c end → IsFed worn event first a c end
fed_since worn event first end a b c e f = subst (λ (x : Option (List Step)). IsFed worn event first x c end) e f

-- the part under another name
part_as : {P C : Type 0} (a b : Option (List (Handed (Part P C)))) (x y : Part P C) (started : Bool) → x ≡ y → Tells a b (record { part = x; started = started } ∷ [])
    → Tells a b (record { part = y; started = started } ∷ [])
part_as {P} {C} a b x y started e t = subst (λ (z : Part P C). Tells a b (record { part = z; started = started } ∷ [])) e t

pub begun_as : {P C H : Type 0} (home_of : P → H) (home : H) (worn : Type 0) (host : List ℕ) (stream member : ℕ) (request : Request) (part : Part P C) (a b : Option (List Step))
    (told told' : Option (List (Handed (Part P C)))) (n m : ℕ) → IsFollower home_of home host stream member request part → b ≡ a
    → Tells told told' (record { part = part; started = true } ∷ []) → n ≤ m → IsHandedOver worn host (IsAt home_of home) stream member request a b told told' n m None
begun_as {P} {C} {H} home_of home worn host stream member request part a b told told' n m f same t le =
    was_begun worn host (IsAt home_of home) stream member request a b told told' n m f.0 f.1 same
    (part_as told told' part (follower {P = P} {C = C} f.0 stream member (call_of host request)) true f.2 t) le

pub refused_as : {P C H : Type 0} (home_of : P → H) (home : H) (worn : Type 0) (host : List ℕ) (stream member : ℕ) (request : Request) (end : Option WorkEnd) (part : Part P C) (a b : Option (List Step))
    (told told' : Option (List (Handed (Part P C)))) (n m : ℕ) → IsFollower home_of home host stream member request part
    → Tells told told' (record { part = part; started = false } ∷ []) → n ≤ m → Rose n m
    → IsFed worn (Cut stream) None a b end → IsHandedOver worn host (IsAt home_of home) stream member request a b told told' n m end
refused_as {P} {C} {H} home_of home worn host stream member request end part a b told told' n m f t le rose r =
    was_refused worn host (IsAt home_of home) stream member request end a b told told' n m f.0 f.1
    (part_as told told' part (follower {P = P} {C = C} f.0 stream member (call_of host request)) false f.2 t) le rose r
