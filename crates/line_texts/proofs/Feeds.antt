-- No text of an item has a line feed, so the text of a transcript is cut into the texts of its items.
use Rattle.std.proofs.Common.{◌≡◌, ℕ, Bool, true, false, not, cond, ◌==◌, List, [], ◌∷◌, ◌++◌, append_assoc, refl, ◌∙◌, ap}
use Rattle.std.specs.List.{list_all, join_with_byte}
use Rattle.std.proofs.lemmas.List.Folds.{list_all-append}
use Rattle.etcd_types.proofs.Bools.{and_first, and_second, and_both}
use Rattle.replay_model.specs.Script.{line_feed, onto_first, whole_lines, begun_from, begun_line}
use Rattle.replay_model.specs.Transcript.{transcript_text}
use Rattle.script_text.specs.declared.item.Item.{Item}
use Rattle.script_text.specs.Items.{item_form, item_text, is_item}
use Rattle.text_model.specs.Forms.{Word}
use Rattle.text_model.proofs.Laws.{lacks, are_clean}
use Rattle.line_texts.specs.Texts.{TranscriptsAreCut}
use Rattle.line_texts.proofs.ItemLaws.{item_form-IsForm}

joined_lack : (ws : List Word) → are_clean 10 ws ≡ true → lacks 10 (join_with_byte 32 ws) ≡ true
joined_lack [] e = refl
joined_lack (w ∷ []) e = and_first (lacks 10 w) true e
joined_lack (w ∷ v ∷ vs) e =
    list_all-append (λ b. not (b == 10)) w (32 ∷ join_with_byte 32 (v ∷ vs))
    ∙ and_both (lacks 10 w) (lacks 10 (join_with_byte 32 (v ∷ vs))) (and_first (lacks 10 w) (are_clean 10 (v ∷ vs)) e) (joined_lack (v ∷ vs) (and_second (lacks 10 w) (are_clean 10 (v ∷ vs)) e))

item_lacks : (i : Item) → is_item i ≡ true → lacks 10 (item_text i) ≡ true
unfolding item_text is_item
item_lacks i e = joined_lack (item_form.spell i) (item_form-IsForm.part.clean i e)

is_other : (b : Bool) → not b ≡ true → b ≡ false
is_other true e = absurd (cc)
is_other false e = refl

-- a line without line feed, and behind its line feed the rest
cut_at : (w rest : List ℕ) → lacks 10 w ≡ true → whole_lines (w ++ line_feed ∷ rest) ≡ w ∷ whole_lines rest
cut_at [] rest e = refl
cut_at (b ∷ bs) rest e =
    let no = is_other (b == 10) (and_first (not (b == 10)) (lacks 10 bs) e) in
    ap (λ c. cond c ([] ∷ whole_lines (bs ++ line_feed ∷ rest)) (onto_first b (whole_lines (bs ++ line_feed ∷ rest)))) no ∙ ap (onto_first b) (cut_at bs rest (and_second (not (b == 10)) (lacks 10 bs) e))

begun_at : (w rest : List ℕ) → lacks 10 w ≡ true → begun_line (w ++ line_feed ∷ rest) ≡ begun_line rest
begun_at [] rest e = by (whole_lines rest)
  where
    by : (ls : List (List ℕ)) → begun_from line_feed ls (begun_line rest) ≡ begun_line rest
    by [] = refl
    by (l ∷ ls) = refl
begun_at (b ∷ bs) rest e =
    let all = and_second (not (b == 10)) (lacks 10 bs) e in
    ap (λ (ls : List (List ℕ)). begun_from b ls (begun_line (bs ++ line_feed ∷ rest))) (cut_at bs rest all) ∙ begun_at bs rest all

pub transcripts_cut : TranscriptsAreCut
transcripts_cut [] e = record { whole = refl; begun = refl }
transcripts_cut (i ∷ items) e =
    let text = item_text i in
    let rest = transcript_text items in
    let lacks_it = item_lacks i (and_first (is_item i) (list_all is_item items) e) in
    let more = transcripts_cut items (and_second (is_item i) (list_all is_item items) e) in
    let same : transcript_text (i ∷ items) ≡ text ++ line_feed ∷ rest = append_assoc text (line_feed ∷ []) rest in
    record {
      whole = ap whole_lines same ∙ cut_at text rest lacks_it ∙ ap (λ (ls : List (List ℕ)). text ∷ ls) more.whole;
      begun = ap begun_line same ∙ begun_at text rest lacks_it ∙ more.begun;
    }
