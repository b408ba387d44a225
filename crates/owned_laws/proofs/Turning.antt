-- A turn of a proxy: what items tell of its owned keys goes on being so.
use Rattle.std.proofs.Common.{◌≡◌, ℕ, ◌+◌, Bool, true, false, List, [], ◌∷◌, ◌++◌, append_assoc, Option, None, Some, Result, Ok, refl, sym, ◌∙◌, subst}
use Rattle.std.specs.List.{list_all}
use Rattle.etcd_types.specs.declared.answer.Answer.{Answer}
use Rattle.etcd_types.specs.declared.request.Request.{Request}
use Rattle.etcd_types.specs.declared.request.Request.TheVariants as request
use Rattle.etcd_types.specs.declared.watch.WatchItem.{WatchItem}
use Rattle.proxy_model.specs.Wrapped.{request_under}
use Rattle.core_model.specs.declared.event.CoreEvent.{CoreEvent}
use Rattle.core_model.specs.declared.event.CoreEvent.TheVariants as event
use Rattle.core_model.specs.declared.event.Job.{Job}
use Rattle.core_model.specs.declared.event.Job.TheVariants as job
use Rattle.core_model.specs.declared.event.Outcome.{Outcome}
use Rattle.core_model.specs.declared.event.Outcome.TheVariants as outcome
use Rattle.core_model.specs.declared.event.StepFault.{StepFault}
use Rattle.core_model.specs.ClockWork.{clock_work}
use Rattle.core_model.specs.DueJobs.{first_job}
use Rattle.core_model.specs.Sending.{next_call}
use Rattle.core_model.specs.State.{Core}
use Rattle.core_model.specs.Step.{stepped}
use Rattle.script_text.specs.declared.item.Item.{Item}
use Rattle.script_text.specs.declared.item.Item.TheVariants as item
use Rattle.world_model.specs.declared.sent_call.SentCall.{SentCall}
use Rattle.world_model.specs.Gains.{Replies, line_if}
use Rattle.world_model.specs.Places.{nth, with_nth, is_among}
use Rattle.world_model.specs.Sends.{closed_in}
use Rattle.world_model.specs.State.{Place, OpenedStream, World, word}
use Rattle.world_laws.proofs.Effects.{Turn, ticks, asks_it, posts_it, calls, opens, closes, answers, loses, delivers, cuts, takes, waits, leaves}
use Rattle.renewed_laws.proofs.Gains.{stepped_to}
use Rattle.session_laws.proofs.Items.{clock-append}
use Rattle.session_laws.proofs.Steps.{gave}
use Rattle.session_laws.proofs.Turns.{bound_of}
use Rattle.wait_model.specs.Writes.{has_ticket}
use Rattle.owned_laws.specs.Owned.{Owning, asks, sends, owns, write_asked, write_sent, has_write}
use Rattle.owned_laws.proofs.Carrying.{no_true, carry_itself}
use Rattle.owned_laws.proofs.Standing.{Before, mine, Lets, keep, calm_keys, outs_by}
use Rattle.owned_laws.proofs.Hearing.{tick_lets, ask_keys, item_keys, plain_passes}
use Rattle.owned_laws.proofs.Ending.{lost_keys, answered_keys}
use Rattle.owned_laws.proofs.Sending.{sent_keys, sent_outs}
use Rattle.owned_laws.proofs.Cores.{GoesOut}
use Rattle.owned_laws.proofs.Kept.{KeysOk, Rescinded, OutsOk}
use Rattle.owned_laws.proofs.Late.{AsksOther, all_other, behind_apart, there_apart, part_misses, all_apart}
use Rattle.owned_laws.proofs.Modes.{Mode}
use Rattle.owned_laws.proofs.Sent.{writes_out}
use Rattle.owned_laws.proofs.Steps.{Leaves, plain_ends}
use Rattle.owned_laws.proofs.Told.{told_calm, told_left, is_calm}
use Rattle.owned_laws.proofs.Ways.{plain, present, asking, sending_as, holds, writes_own}

module _ {namespace : List ℕ} {items : List Item} {w : World} {p : ℕ} {x : Place} (known : Before namespace items w p x) where
  abbrev next : ℕ
  next = bound_of w + 1

  abbrev lea : List ℕ
  lea = w.leasing

  abbrev nsp : List ℕ
  nsp = w.namespace

  abbrev d : Core
  d = clock_work x.clock x.core

  -- what is sent and isn't a call is no write's or entry's
  no_writes : (j : Job) → (stepped x.core event.Work x.clock).outcome ≡ Ok (outcome.Job (Some j)) → ((n m t : ℕ) (r : Request) → j ≡ job.Call n m t r → ⊥) → (M : Mode) → GoesOut M (first_job d) d
  no_writes j is n M f s e t =
      absurd (n (next_call d) d.members.current s.due.ticket (request_under d.settings.namespace s.due.request) (same j (job.Call (next_call d) d.members.current s.due.ticket (request_under d.settings.namespace s.due.request)) (sym (gave x.core event.Work x.clock (outcome.Job (Some j)) is).1 ∙ writes_out x.clock d s f e)))
    where
      same : (i k : Job) → ◌≡◌ {A = Result Outcome StepFault} (Ok (outcome.Job (Some i))) (Ok (outcome.Job (Some k))) → i ≡ k
      same i k e = cc

  quiet_work : ((M : Mode) → GoesOut M (first_job d) d) → (k : List ℕ) (t : ℕ) (o : Owning) → Lets known event.Work k t o
  quiet_work f k t (asks vs) = (all_other event.Work (λ i. tt) vs, ((λ a s. f (asking k t vs a)), (λ s. f (present k vs))))
  quiet_work f k t (sends c m vs) = (all_other event.Work (λ i. tt) vs, λ n v a s. f (sending_as k n m vs a))
  quiet_work f k t (owns m create) = λ e i c u s. f (holds k m e i)
  quiet_work f k t (write_asked m create v vs) = (all_other event.Work (λ i. tt) (v ∷ vs), λ l a e c s. f (writes_own k m v vs None a e))
  quiet_work f k t (write_sent m create v vs number) = (all_other event.Work (λ i. tt) (v ∷ vs), λ n h l a e c s. f (writes_own k m v vs (Some n) a e))

  -- events that let every key be
  free_lets : (e : CoreEvent) → ((i : ℕ) → AsksOther e i) → ((M : Mode) → Leaves M d e) → (k : List ℕ) (t : ℕ) (o : Owning) → Lets known e k t o
  free_lets e a f k t (asks vs) = (all_other e a vs, ((λ b s. f (asking k t vs b)), (λ s. f (present k vs))))
  free_lets e a f k t (sends c m vs) = (all_other e a vs, λ n v b s. f (sending_as k n m vs b))
  free_lets e a f k t (owns m create) = λ y i c u s. f (holds k m y i)
  free_lets e a f k t (write_asked m create v vs) = (all_other e a (v ∷ vs), λ l b y c s. f (writes_own k m v vs None b y))
  free_lets e a f k t (write_sent m create v vs number) = (all_other e a (v ∷ vs), λ n h l b y c s. f (writes_own k m v vs (Some n) b y))

  -- a client leaves, but none of theirs
  left_lets : (k : List ℕ) (t : ℕ) (o : Owning) (ticket : ℕ) → has_write ticket o ≡ false → Lets known (event.Leave ticket) k t o
  left_lets k t (asks vs) ticket h = (all_other (event.Leave ticket) (λ i. tt) vs, ((λ a s. ((λ c. part_misses (has_ticket ticket) vs c (behind_apart ticket vs h)), tt)), (λ s. ((λ c. tt), there_apart k ticket vs h))))
  left_lets k t (sends c m vs) ticket h = (all_other (event.Leave ticket) (λ i. tt) vs, λ n v a s. ((λ c. behind_apart ticket vs h), tt))
  left_lets k t (owns m create) ticket h = λ y i c u s. ((λ c. tt), tt)
  left_lets k t (write_asked m create v vs) ticket h = (all_other (event.Leave ticket) (λ i. tt) (v ∷ vs), λ l a y c s. (all_apart ticket v vs None h, tt))
  left_lets k t (write_sent m create v vs number) ticket h = (all_other (event.Leave ticket) (λ i. tt) (v ∷ vs), λ n g l a y c s. (all_apart ticket v vs (Some n) h, tt))

  left_keys : (ticket : ℕ) → KeysOk nsp lea next w.calls (items ++ item.Left p ticket ∷ []) p x.life x.clock (stepped x.core (event.Leave ticket) x.clock).core
  left_keys ticket k t o f = let u = told_left nsp lea k p t items ticket o f in keep known (event.Leave ticket) k t o w.calls (carry_itself w.calls) (left_lets k t o ticket u.1) ((mine known).keys k t o u.0)

  taken_calm : (c : Bool) (ticket : ℕ) (i : WatchItem) → list_all (is_calm p) (item.Taken p ticket i ∷ line_if c p ticket i) ≡ true
  taken_calm true ticket i = refl
  taken_calm false ticket i = refl

  pub record Behind (own : List Item) (v : World) (c : Core) : Type 0 where
    pub outs : OutsOk nsp lea (items ++ own) p c
    pub keys : KeysOk nsp lea next v.calls (items ++ own) p x.life x.clock c

  closed_calls : (number : ℕ) (o : Option OpenedStream) → (closed_in w number o).calls ≡ w.calls
  closed_calls number None = refl
  closed_calls number (Some s) = refl

  -- a turn that is neither an answer nor a loss
  abbrev pub IsEnd : List Item → Type 0
  IsEnd (item.Answered number ∷ rest) = ⊥
  IsEnd (item.Lost number ∷ rest) = ⊥
  IsEnd _ = Unit {0}

  pub turn_owned : (e : CoreEvent) (o : Outcome) (v : World) (z : Place) (own : List Item) (told : Replies) → IsEnd own → (stepped x.core e x.clock).outcome ≡ Ok o → Turn w p (stepped_to x e) e o v z own told → Behind own v (stepped x.core e x.clock).core
  turn_owned _ _ _ _ _ _ n is (ticks o) = record { outs = outs_by known (event.Tick (word w)) (item.Ticked p ∷ []) tt; keys = calm_keys known (event.Tick (word w)) (item.Ticked p ∷ []) w.calls refl (carry_itself w.calls) (tick_lets known) }
  turn_owned _ _ _ _ _ _ n is (asks_it ticket q o f) = record { outs = outs_by known (event.Ask ticket q (word w)) (item.Asked p ticket q ∷ []) (λ r y. no_true y); keys = ask_keys known items ticket (word w) q o (λ k t. refl) refl is }
  turn_owned _ _ _ _ _ _ n is (posts_it ticket path body q o f) = record {
    outs = outs_by known (event.Ask ticket q (word w)) (item.Posted p ticket path body ∷ item.Asked p ticket q ∷ []) (λ r y. no_true y);
    keys = subst (λ (xs : List Item). KeysOk nsp lea next w.calls xs p x.life x.clock (stepped x.core (event.Ask ticket q (word w)) x.clock).core) (append_assoc items (item.Posted p ticket path body ∷ []) (item.Asked p ticket q ∷ []))
        (ask_keys known (items ++ item.Posted p ticket path body ∷ []) ticket (word w) q o (λ k t. told_calm nsp lea k p t items (item.Posted p ticket path body ∷ []) refl) (clock-append p 0 items (item.Posted p ticket path body ∷ [])) is);
  }
  turn_owned _ _ _ _ _ _ n is (calls own member ticket q) = record { outs = sent_outs known own member ticket q is; keys = sent_keys known own member ticket q is }
  turn_owned _ _ _ _ _ _ n is (opens own member ask) =
      let f = no_writes (job.Begin own member (request.Watch ask)) is (λ a c t r e. absurd (cc)) in
      record { outs = outs_by known event.Work _ (f (plain [] (Rescinded nsp lea (items ++ _) p))); keys = calm_keys known event.Work _ w.calls refl (carry_itself w.calls) (quiet_work f) }
  turn_owned _ _ _ _ _ _ n is (closes own number e) =
      let f = no_writes (job.Close own) is (λ a c t r e. absurd (cc)) in
      record {
        outs = outs_by known event.Work (item.Closed p number ∷ []) (f (plain [] (Rescinded nsp lea (items ++ item.Closed p number ∷ []) p)));
        keys = subst (λ (cs : List SentCall). KeysOk nsp lea next cs (items ++ item.Closed p number ∷ []) p x.life x.clock (stepped x.core event.Work x.clock).core) (sym (closed_calls number (nth w.streams number)))
            (calm_keys known event.Work (item.Closed p number ∷ []) w.calls refl (carry_itself w.calls) (quiet_work f));
      }
  turn_owned _ _ _ _ _ _ n is (answers number call a o e f) = absurd n
  turn_owned _ _ _ _ _ _ n is (loses number call o e) = absurd n
  turn_owned _ _ _ _ _ _ n is (delivers number s i rest o a c e f j) = record {
    outs = outs_by known (event.Item s.own i) (item.Delivered number ∷ []) (plain_passes known number s i rest a c e f j (Rescinded nsp lea (items ++ item.Delivered number ∷ []) p));
    keys = item_keys known number s i rest a c e f j;
  }
  turn_owned _ _ _ _ _ _ n is (cuts number s o a c e f) = record { outs = outs_by known (event.Cut s.own) (item.Cut number ∷ []) tt; keys = calm_keys known (event.Cut s.own) (item.Cut number ∷ []) w.calls refl (carry_itself w.calls) (free_lets (event.Cut s.own) (λ i. tt) (λ M. tt)) }
  turn_owned _ _ _ _ _ _ n is (takes ticket i) = record {
    outs = outs_by known (event.Take ticket) (item.Taken p ticket i ∷ line_if (is_among x.posted ticket) p ticket i) tt;
    keys = calm_keys known (event.Take ticket) (item.Taken p ticket i ∷ line_if (is_among x.posted ticket) p ticket i) w.calls (taken_calm (is_among x.posted ticket) ticket i) (carry_itself w.calls) (free_lets (event.Take ticket) (λ i. tt) (λ M. tt));
  }
  turn_owned _ _ _ _ _ _ n is (waits ticket o f) = record { outs = outs_by known (event.Take ticket) (item.Pending p ticket ∷ []) tt; keys = calm_keys known (event.Take ticket) (item.Pending p ticket ∷ []) w.calls refl (carry_itself w.calls) (free_lets (event.Take ticket) (λ i. tt) (λ M. tt)) }
  turn_owned _ _ _ _ _ _ n is (leaves ticket o) = record { outs = outs_by known (event.Leave ticket) (item.Left p ticket ∷ []) ((λ c. tt), tt); keys = left_keys ticket }

  pub lost_owned : (number : ℕ) (call : SentCall) (v : World) → v.calls ≡ with_nth w.calls number (record call { settled = true }) → nth w.calls number ≡ Some call → call.proxy ≡ p → call.life ≡ x.life → Behind (item.Lost number ∷ []) v (stepped x.core (event.Lost call.own) x.clock).core
  lost_owned number call v c e its lived = record {
    outs = outs_by known (event.Lost call.own) (item.Lost number ∷ []) (plain_ends [] (Rescinded nsp lea (items ++ item.Lost number ∷ []) p) d call.own);
    keys = subst (λ (cs : List SentCall). KeysOk nsp lea next cs (items ++ item.Lost number ∷ []) p x.life x.clock (stepped x.core (event.Lost call.own) x.clock).core) (sym c) (lost_keys known number call e its lived);
  }

  pub answered_owned : (number : ℕ) (call : SentCall) (a : Answer) (o : Outcome) (v : World) → v.calls ≡ with_nth w.calls number (record call { settled = true }) → nth w.calls number ≡ Some call → call.proxy ≡ p → call.life ≡ x.life → call.executed ≡ Some a
      → (stepped x.core (event.Answer call.own a) x.clock).outcome ≡ Ok o → Behind (item.Answered number ∷ []) v (stepped x.core (event.Answer call.own a) x.clock).core
  answered_owned number call a o v c e its lived ran is = record {
    outs = outs_by known (event.Answer call.own a) (item.Answered number ∷ []) (plain_ends [] (Rescinded nsp lea (items ++ item.Answered number ∷ []) p) d call.own);
    keys = subst (λ (cs : List SentCall). KeysOk nsp lea next cs (items ++ item.Answered number ∷ []) p x.life x.clock (stepped x.core (event.Answer call.own a) x.clock).core) (sym c) (answered_keys known number call a o e its lived ran is);
  }
