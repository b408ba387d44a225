-- The transcript of every script is true.
use Rattle.std.proofs.Common.{◌≡◌, ◌<◌, ◌≤◌, ◌^◌, List, [], ◌∷◌, length, Ok, sym, subst, arith}
use Rattle.replay_model.specs.Progress.{Progress, progress, finished}
use Rattle.replay_model.specs.declared.limits.TheConstants.{MOST_LINES}
use Rattle.replay_model.proofs.FewLines.{progress_few, finished_few}
use Rattle.replay_model.proofs.Transcripts.{progress_has, finished_has, items_are}
use Rattle.received_laws.proofs.Receiving.{receives}
use Rattle.renewed_laws.specs.Renewals.{AnswersShowBytes, KeepalivesRenew}
use Rattle.executed_laws.specs.Executed.{RepliesAreExecuted}
use Rattle.executed_laws.proofs.Told.{replies_executed}
use Rattle.acquired_laws.proofs.Whole.{each_script_acquires}
use Rattle.cached_laws.specs.Reads.{MustAcquire}
use Rattle.cause_laws.specs.Causes.{EachReplyHasACause}
use Rattle.cause_laws.specs.Timeouts.{TimeoutsAreDue, OthersAreInTime, NoneWaitsTooLong}
use Rattle.cause_laws.proofs.Worlds.{replies_caused, timeouts_due, others_in_time, requests_end}
use Rattle.owned_laws.specs.Caches.{MustCache, SnapshotsAreAnswered}
use Rattle.owned_laws.proofs.Whole.{each_script_caches, each_script_answers_snapshots}
use Rattle.once_laws.specs.Once.{RanOnce}
use Rattle.once_laws.proofs.Once.{writes_run_once}
use Rattle.renewed_laws.proofs.Lines.{keepalives_renew}
use Rattle.script_text.specs.declared.item.Item.{Item}
use Rattle.script_text.specs.declared.line.Line.{Line}
use Rattle.script_text.proofs.ItemLaws.{item_again}
use Rattle.text_laws.specs.Items.Texts.{Each, AreRead, HaveTextsAsMade}
use Rattle.text_laws.proofs.Items.ReadLines as made
use Rattle.text_laws.specs.Scripts.Whole.{HasText}
use Rattle.text_laws.proofs.Scripts.Scripts.{scripts_have_texts}
use Rattle.truth_laws.specs.Snapshots.{UnsentSnapshotsAreTrue}
use Rattle.truth_laws.proofs.Scripts.{unsent_reads, unsent_snapshots}
use Rattle.prefix_laws.proofs.Idle.{scripts_leave_none}
use Rattle.prefix_laws.proofs.Shared.{scripts_share}
use Rattle.world_laws.proofs.TrueAnswers.{answers_are_the_stores, messages_are_the_stores}
use Rattle.world_model.specs.Answers.{AnswersAreTheStores, MessagesAreTheStores}
use Rattle.world_model.specs.Reads.{UnsentReadsAreTrue}
use Rattle.world_model.specs.Received.{WatchesReceive}
use Rattle.world_model.specs.Transcript.{transcript, world_behind}
use Rattle.watch_stories.specs.Stories.{TakenAreOfStories}
use Rattle.watch_stories.proofs.Scripts.{takes_are}
use Rattle.transcript_laws.specs.Truth.{IsReadBack, IsTrueTranscript, EachTranscriptIsTrue}
use Rattle.transcript_laws.proofs.Clocks.{clocks_below}
use Rattle.transcript_laws.proofs.Shown.{texts_show_bytes}
use Rattle.transcript_laws.proofs.Worlds.{progress_world, finished_world}

-- far fewer lines are taken than would pass the numbers of revisions
few_lines : (lines : List Line) → length lines ≤ MOST_LINES → length lines < 2 ^ 60
few_lines lines few = omega (arith, few)

read_back : (items : List Item) → Each HasText items → Each IsReadBack items
read_back [] h = tt
read_back (i ∷ items) h = ((h.0, item_again i h.0), read_back items h.1)

is_true : (p : Progress) → p.items ≡ transcript p.lines → world_behind p.lines ≡ Ok p.world → length p.lines ≤ MOST_LINES → AreRead 1 p.lines → HaveTextsAsMade p.items → Each HasText p.items → IsTrueTranscript p
is_true p is behind few read made texts = record {
  items = is;
  answers = subst AnswersAreTheStores (sym is) (answers_are_the_stores p.lines);
  messages = subst MessagesAreTheStores (sym is) (messages_are_the_stores p.lines);
  watches = subst WatchesReceive (sym is) (receives p.lines (few_lines p.lines few));
  stories = subst TakenAreOfStories (sym is) (takes_are p.lines (few_lines p.lines few));
  renewals = subst KeepalivesRenew (sym is) (keepalives_renew p.lines shown);
  replies = subst RepliesAreExecuted (sym is) (replies_executed p.lines shown);
  once = subst RanOnce (sym is) (writes_run_once p.lines shown);
  causes = subst EachReplyHasACause (sym is) (replies_caused p.lines (clocks_below 1 p.lines read) (few_lines p.lines few) shown);
  timeouts = subst TimeoutsAreDue (sym is) (timeouts_due p.lines (clocks_below 1 p.lines read) (few_lines p.lines few) shown);
  timely = subst OthersAreInTime (sym is) (others_in_time p.lines (clocks_below 1 p.lines read) (few_lines p.lines few) shown);
  ended = subst NoneWaitsTooLong (sym is) (requests_end p.lines (clocks_below 1 p.lines read) (few_lines p.lines few) shown);
  reads = subst UnsentReadsAreTrue (sym is) (unsent_reads p.lines (few_lines p.lines few) shown);
  snapshots = subst UnsentSnapshotsAreTrue (sym is) (unsent_snapshots p.lines (few_lines p.lines few) shown);
  acquires = subst MustAcquire (sym is) (each_script_acquires p.lines (clocks_below 1 p.lines read) (few_lines p.lines few) shown);
  caches = subst MustCache (sym is) (each_script_caches p.lines (clocks_below 1 p.lines read) (few_lines p.lines few) shown);
  answered = subst SnapshotsAreAnswered (sym is) (each_script_answers_snapshots p.lines (clocks_below 1 p.lines read) (few_lines p.lines few) shown);
  idle = scripts_leave_none p.lines p.world shown behind;
  shared = scripts_share p.lines p.world shown behind;
  texts = read_back p.items texts;
}
  where
    shown : AnswersShowBytes (transcript p.lines)
    shown = subst AnswersShowBytes is (texts_show_bytes p.items made texts)

pub transcripts_are_true : EachTranscriptIsTrue
transcripts_are_true bytes = record {
  whole = is_true (progress bytes) (items_are (progress bytes) (progress_has bytes)) (progress_world bytes) (progress_few bytes) (made.lines_were_read bytes).whole (made.scripts_have_texts bytes).whole (scripts_have_texts bytes).whole;
  all = is_true (finished bytes) (items_are (finished bytes) (finished_has bytes)) (finished_world bytes) (finished_few bytes) (made.lines_were_read bytes).all (made.scripts_have_texts bytes).all (scripts_have_texts bytes).all;
}
