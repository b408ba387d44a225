-- Operations run alike on two states of which the same is kept, however their transactions nest.
use Rattle.std.proofs.Common.{◌≡◌, ℕ, ◌+◌, ◌==◌, ◌&&◌, not, cond, true, false, List, Err, refl, ◌∙◌, ap, subst}
use Rattle.std.specs.List.{list_all}
use Rattle.etcd_types.specs.declared.operation.Compare.{Compare}
use Rattle.etcd_types.specs.declared.operation.Op.{Op, Row_of-Op, end_of-Op, more_of-Op}
use Rattle.etcd_types.specs.declared.operation.Op.TheVariants.{Range, Put, Delete, Txn'}
use Rattle.store_model.specs.declared.history.KeyChange.{KeyChange}
use Rattle.store_model.specs.Refusals.{lease_not_found}
use Rattle.store_model.specs.History.{History, newest, with_revision}
use Rattle.store_model.specs.State.{State}
use Rattle.store_model.specs.Reads.{read}
use Rattle.store_model.specs.Compares.{holds_of, all_hold}
use Rattle.store_model.specs.Transactions.{unchanged, has_lease, put_on, delete_all, answered, first_then, run, run_row}
use Rattle.compaction_laws.specs.Laws.{OperationsByKept}
use Rattle.compaction_laws.proofs.Reading.{AgreeFrom, kept_agree, now_agrees, grown_agrees, ranges_agree, reads_agree}

compares_agree : (c : ℕ) (h g : History) → AgreeFrom c h g → (compares : List Compare) → all_hold h compares ≡ all_hold g compares
compares_agree c h g a compares = λ i. list_all (λ one. holds_of one (ranges_agree c h g a one.range i)) compares

-- the state with another history
abbrev pub on : State → History → State
on s g = record s { history = g }

mutual
  pub runs_agree : (s : State) (g : History) → AgreeFrom s.compacted s.history g → (op : Op) (made : List KeyChange) → run s op made ≡ run (on s g) op made
  runs_agree s g a (Range ask) made =
      let b = grown_agrees s.compacted s.history g a made in
      ap (unchanged made)
      (reads_agree s.compacted (with_revision s.history made) (with_revision g made) b (newest (with_revision s.history made)) ask
      ∙ ap (λ n. read (with_revision g made) (n + 1) s.compacted ask) b.as_long)
  runs_agree s g a (Put ask) made =
      ap (λ old. cond (not (ask.lease == 0) && not (has_lease s.leases ask.lease)) (Err lease_not_found) (put_on ask made old))
      (now_agrees s.compacted (with_revision s.history made) (with_revision g made) (grown_agrees s.compacted s.history g a made) ask.key)
  runs_agree s g a (Delete ask) made =
      ap (delete_all ask made)
      (ranges_agree s.compacted (with_revision s.history made) (with_revision g made) (grown_agrees s.compacted s.history g a made) ask.range)
  runs_agree s g a (Txn' compare m success n failure) made =
      λ i. cond (compares_agree s.compacted (with_revision s.history made) (with_revision g made) (grown_agrees s.compacted s.history g a made) compare i)
      (answered true (rows_agree s g a success made i)) (answered false (rows_agree s g a failure made i))

  rows_agree : {m : _} (s : State) (g : History) → AgreeFrom s.compacted s.history g → (ops : Row_of-Op m) (made : List KeyChange)
      → run_row s ops made ≡ run_row (on s g) ops made
  rows_agree s g a end_of-Op made = refl
  rows_agree s g a (more_of-Op op rest) made = λ i. first_then (runs_agree s g a op made i) (λ next. rows_agree s g a rest next i)

pub operations_by_kept : OperationsByKept
operations_by_kept s t a op made =
    subst (λ (u : State). run s op made ≡ run u op made) a.rest
    (runs_agree s t.history (kept_agree s.compacted s.history t.history a.history) op made)
