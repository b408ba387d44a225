-- The tests of a transaction are those of its lists.
use Rattle.store_model.proofs.RefusalLemmas.{exceeds_is_txn, lacks_key_is_txn, repeats_key_is_txn}

pub ruleset of_transactions = (exceeds_is_txn, lacks_key_is_txn, repeats_key_is_txn)
