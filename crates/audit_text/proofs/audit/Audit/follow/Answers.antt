-- What was made goes on by one item, or begins with it.
use Rattle.audit_text.proofs.Rules.{begun, followed, if_err, on_ok, refused_first, refused_so}
use Rattle.audit_text.proofs.audit.Audit.follow.Goals as goal

pub returns-in-Some-clause-taken : goal.returns-in-Some-clause-taken
returns-in-Some-clause-taken c =
    on_ok c.follow.result (λ t before st.
    followed before c.args.item.now c.in-Some.made c.follow.new.self c.args.self.now.made c.in-Some.is st.made c.args.self.now.given st.gave (t before)) c.follow.ensures.taken

pub returns-in-Some-clause-fault : goal.returns-in-Some-clause-fault
returns-in-Some-clause-fault c =
    if_err c.follow.result (λ f r before st.
    refused_so before c.args.item.now c.in-Some.made c.args.self.now.made f c.in-Some.is st.made c.args.self.now.given st.gave (r before)) c.follow.ensures.fault

pub returns-in-None-clause-taken : goal.returns-in-None-clause-taken
returns-in-None-clause-taken c =
    on_ok c.begin.result (λ t before st. begun before c.args.item.now c.args.self.now.made c.begin.new.self.made c.in-None.is st.made t) c.begin.ensures.taken

pub returns-in-None-clause-fault : goal.returns-in-None-clause-fault
returns-in-None-clause-fault c =
    if_err c.begin.result (λ f r before st. refused_first before c.args.item.now c.args.self.now.made f c.in-None.is st.made r) c.begin.ensures.fault
