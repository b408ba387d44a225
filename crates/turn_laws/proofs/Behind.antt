-- What is known of the world behind a script: of its streams by what watches hold, and of answers by the store's images.
use Rattle.std.proofs.Common.{◌≡◌, ℕ, ◌≤◌, List, Option, Some, Ok, sym, ◌∙◌, ap, subst}
use Rattle.etcd_types.specs.declared.answer.Answer.{Answer}
use Rattle.etcd_types.specs.declared.answer.Answer.TheVariants as answer
use Rattle.etcd_types.specs.declared.watch.Change.{Change}
use Rattle.core_model.specs.Heard.{heard}
use Rattle.script_text.specs.declared.item.Item.{Item}
use Rattle.script_text.specs.declared.line.Line.{Line}
use Rattle.store_model.specs.State.{starting}
use Rattle.store_model.specs.Step.{exec}
use Rattle.store_laws.specs.Lives.Lives.{lived}
use Rattle.world_model.specs.State.{Place, World}
use Rattle.world_model.specs.Transcript.{world_behind}
use Rattle.held_laws.proofs.Pushes.{Whole}
use Rattle.held_laws.proofs.Runs.{behind_script}
use Rattle.held_laws.proofs.Telling.{own_only, own_strips}
use Rattle.held_laws.proofs.Worlds.{one_place, WorldOk}
use Rattle.namespace_laws.proofs.Images.Hearing.{answers_are_images}
use Rattle.turn_laws.specs.Known.{StreamsKnown, AnswersKnown, WorldsAreKnown}
use Rattle.turn_laws.proofs.Answering.{heard_bare}
use Rattle.turn_laws.proofs.Created.{answers_are_created}
use Rattle.turn_laws.proofs.WriteCalls.{IsCreated}

streams_known : (namespace : List ℕ) (whole : Whole) (f : Change → Option Change) (items : List Item) (w : World) → WorldOk namespace whole f items w → StreamsKnown w
streams_known namespace whole f items w h = record {
  many = h.many;
  given = λ number s x there at lives.
      let k = h.streams number s there in
      let one : x ≡ k.place = one_place x k.place (sym at ∙ k.at) in
      subst (λ (y : Place). s.own ≤ y.core.watches.given) (sym one) (k.ok (lives ∙ ap (λ (y : Place). y.life) one)).given;
  apart = λ p x at. (h.places p x at).holds.apart;
  numbers = λ p x at. (h.places p x at).holds.holds.numbers;
}

answers_known : (lines : List Line) (w : World) → world_behind lines ≡ Ok (Some w) → AnswersKnown w
answers_known lines w e number call a reply there is hears =
    let i = answers_are_images lines w number call a e there is in
    let b : Answer = (exec (lived (starting w.members) i.before) call.member i.bare).1 in
    let same : b ≡ answer.Done reply = heard_bare w.namespace b (answer.Done reply) (ap (heard w.namespace) (sym i.answer) ∙ hears) in
    subst IsCreated same (answers_are_created (lived (starting w.members) i.before) call.member i.bare)

pub worlds_are_known : WorldsAreKnown
worlds_are_known lines w few e = record {
  streams = streams_known w.namespace _ (own_only w.namespace) _ w (behind_script own_only own_strips lines w few e).ok;
  answers = answers_known lines w e;
}
