use Rattle.api_request.proofs.transactions.put_operand.Goals as goal

pub returns-in_ok-put_number-in-Create : goal.returns-in_ok-put_number-in-Create
returns-in_ok-put_number-in-Create c = rw c.in-Create.is c.in_ok-put_number-in-Create.ensures.ok
