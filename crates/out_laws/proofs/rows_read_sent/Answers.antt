use Rattle.out_laws.proofs.Rows.{rows_read_sent}
use Rattle.out_laws.proofs.rows_read_sent.Goals as goal

pub returns : goal.returns
returns c = rows_read_sent
