-- What a replay makes of a script's bytes keeps the rules.
use Rattle.std.proofs.Common.{◌≡◌, inl, inr, ℕ, ◌+◌, ◌<◌, ◌≤◌, ◌^◌, nat_le, true, cond, ◌&&◌, List, [], ◌∷◌, ◌++◌, length, refl, sym, ◌∙◌, ap, subst, arith}
use Rattle.std.specs.List.{list_all}
use Rattle.etcd_types.proofs.Bools.{and_first, and_both}
use Rattle.etcd_types.specs.Keys.{is_empty}
use Rattle.audit_input.proofs.ItemTexts.{audited_takes}
use Rattle.audit_input.specs.Texts.{AreTextsOf, TakesOr}
use Rattle.audit_model.specs.Audited.{audited}
use Rattle.audit_model.specs.Broken.{Meets}
use Rattle.audited_replays.specs.Rules.{has_members}
use Rattle.audited_replays.proofs.Whole.{rules_kept}
use Rattle.renewed_laws.specs.Renewals.{AnswersShowBytes}
use Rattle.replay_model.specs.declared.ending.Ending.TheVariants as ending
use Rattle.replay_model.specs.Progress.{Progress, progress, finished}
use Rattle.replay_model.specs.declared.limits.TheConstants.{MOST_LINES}
use Rattle.line_texts.proofs.Feeds.{transcripts_cut}
use Rattle.replay_model.specs.Script.{whole_lines}
use Rattle.replay_model.specs.Transcript.{transcript_text}
use Rattle.replay_model.proofs.FewLines.{progress_few, finished_few}
use Rattle.replay_model.proofs.Transcripts.{progress_has, finished_has, items_are}
use Rattle.script_text.specs.declared.item.Item.{Item}
use Rattle.script_text.specs.declared.line.Line.{Line}
use Rattle.script_text.specs.declared.line.Line.TheVariants as line
use Rattle.script_text.specs.Items.{is_item}
use Rattle.script_text.specs.Lines.{world, is_line}
use Rattle.text_laws.specs.Items.Texts.{Each, AreRead, HaveTextsAsMade}
use Rattle.text_laws.proofs.Items.Parts.{parts_of}
use Rattle.text_laws.proofs.Items.ReadLines as made
use Rattle.text_laws.specs.Scripts.Whole.{HasText}
use Rattle.text_laws.proofs.Scripts.Scripts.{scripts_have_texts}
use Rattle.transcript_laws.proofs.Shown.{texts_show_bytes}
use Rattle.world_model.specs.Transcript.{transcript}
use Rattle.audited_scripts.specs.Scripts.{EachScriptKeepsTheRules, IsTaken, EachReplayIsTaken, AuditsTakeReplays}

-- a world that was read has 1 to 9 members
members_so : (n : ℕ) (l : Line) → is_line n l ≡ true → has_members l ≡ true
unfolding world
members_so n (line.World members namespace leasing) e = and_first (nat_le 1 members && nat_le members 9) _ (parts_of n (line.World members namespace leasing) e)
members_so n (line.Start p) e = refl
members_so n (line.Clock p millis) e = refl
members_so n (line.Ask p t q) e = refl
members_so n (line.Post p t path body) e = refl
members_so n (line.Tick p) e = refl
members_so n (line.Send p) e = refl
members_so n (line.Exec call) e = refl
members_so n (line.Answer call) e = refl
members_so n (line.Lose call) e = refl
members_so n (line.Push stream) e = refl
members_so n (line.Deliver stream) e = refl
members_so n (line.Cut stream) e = refl
members_so n (line.Take p t) e = refl
members_so n (line.Leave p t) e = refl
members_so n (line.Expire lease) e = refl
members_so n (line.Apply member revision) e = refl
members_so n (line.Progress stream) e = refl

all_members : (n : ℕ) (lines : List Line) → AreRead n lines → list_all has_members lines ≡ true
all_members n [] h = refl
all_members n (l ∷ lines) h = and_both (has_members l) (list_all has_members lines) (members_so n l h.0) (all_members (n + 1) lines h.1)

few_lines : (lines : List Line) → length lines ≤ MOST_LINES → length lines < 2 ^ 60
few_lines lines few = omega (arith, few)

keeps : (p : Progress) → p.items ≡ transcript p.lines → length p.lines ≤ MOST_LINES → AreRead 1 p.lines → HaveTextsAsMade p.items → Each HasText p.items → Meets p.items
keeps p is few read made' texts =
    subst Meets (sym is) (rules_kept p.lines (all_members 1 p.lines read) (few_lines p.lines few) (subst AnswersShowBytes is (texts_show_bytes p.items made' texts)))

pub scripts_keep : EachScriptKeepsTheRules
scripts_keep bytes = record {
  whole = keeps (progress bytes) (items_are (progress bytes) (progress_has bytes)) (progress_few bytes) (made.lines_were_read bytes).whole (made.scripts_have_texts bytes).whole (scripts_have_texts bytes).whole;
  all = keeps (finished bytes) (items_are (finished bytes) (finished_has bytes)) (finished_few bytes) (made.lines_were_read bytes).all (made.scripts_have_texts bytes).all (scripts_have_texts bytes).all;
}

all_items : (items : List Item) → Each HasText items → list_all is_item items ≡ true
all_items [] h = refl
all_items (i ∷ items) h = and_both (is_item i) (list_all is_item items) h.0 (all_items items h.1)

texts_of : (items : List Item) → list_all is_item items ≡ true → AreTextsOf (transcript_text items) items
texts_of items e =
    let c = transcripts_cut items e in
    let text = transcript_text items in
    record { lines = ap (λ (b : List ℕ). cond (is_empty b) (whole_lines text) (whole_lines text ++ b ∷ [])) c.begun ∙ c.whole; texts = e }

taken : (items : List Item) → list_all is_item items ≡ true → Meets items → IsTaken (transcript_text items)
taken items e m = by (audited_takes (transcript_text items) items (texts_of items e) m)
  where
    by : TakesOr (audited (transcript_text items)) items → IsTaken (transcript_text items)
    by (inl k) = inl (record { bytes = transcript_text items; told = refl; taken = k.0 })
    by (inr k) = inr k

pub replays_taken : EachReplayIsTaken
replays_taken script = record {
  whole = taken (progress script).items (all_items (progress script).items (scripts_have_texts script).whole) (scripts_keep script).whole;
  all = taken (finished script).items (all_items (finished script).items (scripts_have_texts script).all) (scripts_keep script).all;
}

-- a replay's output
pub audits_take : AuditsTakeReplays
audits_take left left' written ending.Open r = subst IsTaken (sym r.writes) (replays_taken r.read).all
audits_take left left' written (ending.Refused number why) r = subst IsTaken (sym r.writes) (replays_taken (r.before ++ r.piece)).all
audits_take left left' written ending.PastLimit r = subst IsTaken (sym r.writes) (replays_taken (r.before ++ r.piece)).all
