-- Calls of etcd's API on the cluster itself that are answered beside the JSON mapping, which knows neither of their paths (etcd API reference,
-- services Cluster and Maintenance). A proxy is told as the cluster's one member, as etcd's own grpc-proxy does, so that clients don't go round it.
use Rattle.std.specs.Prelude.{◌≡◌, ℕ, Bool, not, ◌||◌, ◌++◌, List, Option, None, Some, if◌then◌else◌, codes, nat_eq}
use Rattle.std.specs.Cmp.Lexicographic.{pointwise}
use Rattle.std.specs.Fmt.{decimal}
use Rattle.etcd_types.specs.declared.answer.Answer.TheVariants.{Refused}
use Rattle.etcd_types.specs.declared.answer.Refusal.{Refusal}
use Rattle.etcd_types.specs.declared.code.TheConstants.{UNAVAILABLE}
use Rattle.etcd_types.specs.declared.record.Header.{Header}
use Rattle.http_wire.specs.declared.message.Head.{Head}
use Rattle.http_talk.specs.Aliases.{v3_path}
use Rattle.http_talk.specs.Forms.{string_text, body_by}
use Rattle.http_talk.specs.Probes.{probe_of, probed}
use Rattle.http_talk.specs.declared.cluster.ClusterAsk.{ClusterAsk}
use Rattle.http_talk.specs.declared.cluster.ClusterAsk.TheVariants.{Members, Status}
use Rattle.http_talk.specs.declared.cluster.OwnMember.{OwnMember}
use Rattle.http_talk.specs.declared.form.RefusalForm.{RefusalForm}
use Rattle.http_talk.specs.declared.probes.Probe.{Probe}
use Rattle.http_talk.specs.declared.ready.Ready.{Ready}

-- which of them a path is, if one
abbrev pub named : List ℕ → Option ClusterAsk
named path =
    if pointwise nat_eq path (codes "/v3/cluster/member/list") then Some Members
    else if pointwise nat_eq path (codes "/v3/maintenance/status") then Some Status
    else None

-- which of them a request is, if one; below `/v3beta` stand the same ones
abbrev pub cluster_ask_of : Head → Option ClusterAsk
cluster_ask_of head = if not (pointwise nat_eq head.method (codes "POST")) || head.encoded then None else named (v3_path head.path)

-- ---- the list of members

-- the header of a member's reply, which is empty where none came yet
abbrev pub header_text : Option Header → List ℕ
header_text None = codes "{}"
header_text (Some h) =
    codes "{\"cluster_id\":\"" ++ decimal h.cluster ++ codes "\",\"member_id\":\"" ++ decimal h.member ++ codes "\",\"raft_term\":\"" ++ decimal h.term ++ codes "\"}"

-- one member, to which clients and other members come at the same address
unfoldable pub member_text : OwnMember → List ℕ
member_text own =
    codes "{\"name\":" ++ string_text own.name ++ codes ",\"peerURLs\":[" ++ string_text own.url ++ codes "],\"clientURLs\":[" ++ string_text own.url ++ codes "]}"

unfoldable pub members_text : OwnMember → Option Header → List ℕ
members_text own header = codes "{\"header\":" ++ header_text header ++ codes ",\"members\":[" ++ member_text own ++ codes "]}"

abbrev pub members_reply : OwnMember → Option Header → Ready
members_reply own header = record { status = 200; body = members_text own header }

-- ---- a call that is passed on

-- no member answers it
abbrev pub unanswered : Refusal
unanswered = record { code = UNAVAILABLE; text = codes "proxy: no member answers" }

abbrev pub unanswered_reply : RefusalForm → Ready
unanswered_reply form = record { status = 503; body = body_by form (Refused unanswered) }

-- ---- what a server answers itself

-- probes by whether the cluster answers at the time, the list of members by the newest header that came, and the status of a member as that
-- member answers it, of which nothing is said here; no other request
abbrev pub GivesFor : OwnMember → Option Probe → Option ClusterAsk → Option Ready → Type 0
GivesFor own (Some probe) ask given = (answers : Bool) × (given ≡ Some (probed probe answers))
GivesFor own None (Some Members) given = (header : Option Header) × (given ≡ Some (members_reply own header))
GivesFor own None (Some Status) given = (ready : Ready) × (given ≡ Some ready)
GivesFor own None None given = given ≡ None

abbrev pub GivesOwn : OwnMember → Head → List ℕ → Option Ready → Type 0
GivesOwn own head body given = GivesFor own (probe_of head) (cluster_ask_of head) given
