-- The answer to a put that asked for nothing else, as etcd writes it: the header alone, its fields in the order of `ResponseHeader`
-- (etcd API reference, and its JSON gateway). Only private clauses cite it.
use Rattle.std.specs.Prelude.{ℕ, List, ◌++◌, codes, None, decimal}
use Rattle.etcd_types.specs.declared.record.Header.{Header}
use Rattle.etcd_types.specs.declared.answer.Body.TheVariants as body
use Rattle.etcd_types.specs.declared.answer.Reply.{Reply}

abbrev pub plain_reply : Header → Reply
plain_reply h = record { header = h; body = body.Put None }

-- the texts of the cluster's, the member's, the revision's and the term's number, with what stands round them
abbrev pub text_with : List ℕ → List ℕ → List ℕ → List ℕ → List ℕ
text_with cluster member revision term =
    codes "{\"header\":{\"cluster_id\":\""
    ++ (cluster ++ (codes "\",\"member_id\":\"" ++ (member ++ (codes "\",\"revision\":\"" ++ (revision ++ (codes "\",\"raft_term\":\"" ++ (term ++ codes "\"}}")))))))

abbrev pub plain_text : Header → List ℕ
plain_text h = text_with (decimal h.cluster) (decimal h.member) (decimal h.revision) (decimal h.term)
