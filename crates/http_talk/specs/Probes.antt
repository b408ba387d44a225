-- Probes: what a client asks of a server itself, by GET or HEAD of paths that the JSON mapping doesn't know, as etcd serves them.
use Rattle.std.specs.Prelude.{◌≡◌, ℕ, Bool, true, false, not, ◌||◌, List, Option, None, Some, if◌then◌else◌, codes, nat_eq}
use Rattle.std.specs.Cmp.Lexicographic.{pointwise}
use Rattle.http_wire.specs.declared.message.Head.{Head}
use Rattle.http_talk.specs.declared.probes.Probe.{Probe}
use Rattle.http_talk.specs.declared.probes.Probe.TheVariants.{Version, Health}
use Rattle.http_talk.specs.declared.ready.Ready.{Ready}

-- a method that only reads (RFC 9110, section 9.2.1)
abbrev pub only_reads : List ℕ → Bool
only_reads method = pointwise nat_eq method (codes "GET") || pointwise nat_eq method (codes "HEAD")

-- which probe a request is, if one
abbrev pub probe_of : Head → Option Probe
probe_of head =
    if not (only_reads head.method) then None
    else if pointwise nat_eq head.path (codes "/version") then Some Version
    else if pointwise nat_eq head.path (codes "/health") then Some Health
    else None

-- the API that is served is that of etcd 3.4
abbrev pub version_reply : Ready
version_reply = record { status = 200; body = codes "{\"etcdserver\":\"3.4.0\",\"etcdcluster\":\"3.4.0\"}" }

-- whether the cluster answers
abbrev pub health_reply : Bool → Ready
health_reply true = record { status = 200; body = codes "{\"health\":\"true\"}" }
health_reply false = record { status = 503; body = codes "{\"health\":\"false\"}" }

-- the answer to a probe where the cluster answers or doesn't
abbrev pub probed : Probe → Bool → Ready
probed Version answers = version_reply
probed Health answers = health_reply answers

abbrev pub probed_by : Option Probe → Bool → Option Ready
probed_by None answers = None
probed_by (Some probe) answers = Some (probed probe answers)

-- an object that answers probes, by whether the cluster answers at the time, and nothing else
abbrev pub GivesProbes : Head → List ℕ → Option Ready → Type 0
GivesProbes head body given = (answers : Bool) × (given ≡ probed_by (probe_of head) answers)
