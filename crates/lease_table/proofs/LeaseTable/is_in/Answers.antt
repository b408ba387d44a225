-- The row at the place, where there is one.
use Rattle.std.proofs.Common.{◌≡◌, ◌<◌, ◌≤◌, ℕ, List, length, nat_lt, false, ap, ◌∙◌, arith}
use Rattle.std.proofs.lemmas.Bool.Decides.{nat_tests}
use Rattle.proxy_model.specs.declared.lease.Entry.{Entry}
use Rattle.proxy_model.specs.LeaseTable.{Table}
use Rattle.lease_table.specs.Starts.{is_in}
use Rattle.lease_table.proofs.Starts.{in-some, in-none}
use Rattle.lease_table.proofs.LeaseTable.is_in.Goals as goal

pub returns-then-place-len : goal.returns-then-place-len
returns-then-place-len c =
    let es = c.self.inside.rows.rows in
    let n = c.args.place in
    let row : List ℕ × Entry = c.row.result.now in
    let count = c.len.ensures.all in
    let l : n < length es = omega (arith, count, c.if-place-len.true) in
    c.contains.ensures ∙ in-some c.args.range.now es n row l c.row.ensures ∙ ap (λ (t : Table). is_in c.args.range.now t.entries n) c.self.view_is

pub returns-else-place-len : goal.returns-else-place-len
returns-else-place-len c =
    let es = c.self.inside.rows.rows in
    let n = c.args.place in
    let count = c.len.ensures.all in
    let behind = c.if-place-len.false in
    let l : length es ≤ n = omega (arith, count, behind) in
    let no : nat_lt n c.len.result ≡ false = grind (arith, nat_tests) in
    no ∙ in-none c.args.range.now es n l ∙ ap (λ (t : Table). is_in c.args.range.now t.entries n) c.self.view_is
