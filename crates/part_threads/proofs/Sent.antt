-- A proxy may cross threads, since each type that it is made of may: requests and answers first, then what waits, then the machine.
-- Each fact is written out by what the type has, field by field, since a search takes minutes over types of this size.
use denote.RattleType.{RattleType}
use denote.Builtin as builtin
use denote.Enum.Declared as enum
use denote.Param.Send.{IsSend, AllSend, EachSend, plain_send, struct_send, enum_send, recorded_send, view_send}
use denote.Struct.Declared as struct
use denote.Struct.Tuple.{Tuple, tuple_type}
use Rattle.std.specs.Prelude.{◌∷◌, []}
use Rattle.std.proofs.Crossing.{Box-send, Vec-send}
use Rattle.std.proofs.alloc.Global.TheSendSync as heap
use Rattle.std.proofs.option.Option.TheSendSync as option
use Rattle.etcd_types.proofs.operation.Op.TheLaws.TheKnot as op-knot
use Rattle.etcd_types.proofs.answer.Body.TheLaws.TheKnot as body-knot
use Rattle.etcd_types.proofs.bytes.Bytes.TheSendSync as bytes
use Rattle.etcd_types.proofs.list.List.TheSendSync as list
use Rattle.etcd_types.proofs.key_range.KeyRange.TheSendSync as key-range
use Rattle.etcd_types.proofs.operation.Compare.TheSendSync as compare
use Rattle.etcd_types.proofs.operation.DeleteAsk.TheSendSync as delete-ask
use Rattle.etcd_types.proofs.operation.PutAsk.TheSendSync as put-ask
use Rattle.etcd_types.proofs.operation.RangeAsk.TheSendSync as range-ask
use Rattle.etcd_types.proofs.request.WatchAsk.TheSendSync as watch-ask
use Rattle.etcd_types.proofs.record.Kv.TheSendSync as kv
use Rattle.etcd_types.proofs.record.Header.TheSendSync as header
use Rattle.etcd_types.proofs.answer.Refusal.TheSendSync as refusal
use Rattle.wait_model.proofs.sending.Sending.TheSendSync as sending
use Rattle.wait_model.proofs.wait.WaitCall.TheSendSync as wait-call
use Rattle.wait_model.proofs.write.WriteStage.TheSendSync as write-stage
use Rattle.keyed_rows.proofs.Rows.TheSendSync as rows
use Rattle.end_rows.proofs.EndRows.TheSendSync as ends
use Rattle.ask_tables.proofs.tables.Tables.TheSendSync as tables
use Rattle.lease_table.proofs.LeaseTable.TheSendSync as lease-table
use Rattle.acquire_rows.proofs.acquires.Acquires.TheSendSync as acquires
use Rattle.revoke_core.proofs.rests.Left.TheSendSync as left
use Rattle.calls_out.proofs.calls.Calls.TheSendSync as calls
use Rattle.watch_merge.proofs.broadcasts.Broadcasts.TheSendSync as broadcasts
use Rattle.namespace_keys.proofs.namespace.Namespace.TheSendSync as namespace
use Rattle.member_order.proofs.Members.TheSendSync as members
use Rattle.core_parts.proofs.seat.Seat.TheSendSync as seat
use Rattle.core_parts.proofs.opening.Opening.TheSendSync as opening
use Rattle.proxy_core.proofs.woken.Woken.TheSendSync as woken
use Rattle.etcd_types.specs.contracts.bytes.Bytes as bytes-of
use Rattle.etcd_types.specs.contracts.key_range.KeyRange as key-range-of
use Rattle.etcd_types.specs.contracts.operation.Compare as compare-of
use Rattle.etcd_types.specs.contracts.operation.TxnAsk as txn-of
use Rattle.etcd_types.specs.contracts.record.Kv as kv-of
use Rattle.etcd_types.specs.contracts.request.Request as request
use Rattle.etcd_types.specs.contracts.answer.Body as body
use Rattle.etcd_types.specs.contracts.answer.Reply as reply
use Rattle.etcd_types.specs.contracts.answer.Answer as answer
use Rattle.wait_model.specs.contracts.sending.Sending as sending-of
use Rattle.wait_model.specs.contracts.wait.WaitCall as wait-call-of
use Rattle.wait_model.specs.contracts.write.Write as write
use Rattle.read_model.specs.contracts.asked.Verdict as verdict
use Rattle.read_model.specs.contracts.asked.Stage as stage
use Rattle.read_model.specs.contracts.asked.Asked as asked
use Rattle.revoke_core.specs.contracts.rests.Left as left-of
use Rattle.revoke_core.specs.contracts.waits.Waits as waits
use Rattle.revoke_core.specs.contracts.waits.Waits.TheInside as waits-inside
use Rattle.known_asks.specs.contracts.asks.Asks as asks
use Rattle.known_asks.specs.contracts.asks.Asks.TheInside as asks-inside
use Rattle.read_steps.specs.contracts.reads.Reads as reads
use Rattle.read_steps.specs.contracts.reads.Reads.TheInside as reads-inside
use Rattle.core_parts.specs.contracts.seat.Seat as seat-of
use Rattle.core_parts.specs.contracts.opening.Opening as opening-of
use Rattle.core_machine.specs.contracts.machine.Machine as machine
use Rattle.core_machine.specs.contracts.machine.Machine.TheInside as machine-inside
use Rattle.proxy_core.specs.contracts.proxy.Core as core
use Rattle.proxy_core.specs.contracts.proxy.Core.TheInside as core-inside

-- ---- a declared type, as another's field and by itself
one : {R : RattleType} → IsSend R → AllSend (R ∷ [])
one r = (r, tt)

two : {R S : RattleType} → IsSend R → IsSend S → AllSend (R ∷ S ∷ [])
two r s = (r, (s, tt))

struct_field : (T : struct.Declared) → AllSend (struct.fields T) → IsSend (struct.field T).row
struct_field T s = struct_send (struct.shape T) s

struct_row : (T : struct.Declared) → AllSend (struct.fields T) → IsSend (struct.row T)
struct_row T s = recorded_send (struct.field T).row T.D T.to T.to_one (struct_field T s)

enum_field : (T : enum.Declared) → EachSend (enum.variants T) → IsSend (enum.field T).row
enum_field T s = enum_send (enum.shape T) s

enum_row : (T : enum.Declared) → EachSend (enum.variants T) → IsSend (enum.row T)
enum_row T s = recorded_send (enum.field T).row T.D T.to T.to_one (enum_field T s)

abbrev pair : RattleType → RattleType → RattleType
pair A B = Tuple (A ∷ B ∷ [])

pair_row : (A B : RattleType) → IsSend A → IsSend B → IsSend (pair A B)
pair_row A B a b = struct_row (tuple_type (A ∷ B ∷ [])) (two a b)

number : IsSend builtin.u64
number = plain_send _ _ _ _ _

count : IsSend builtin.u32
count = plain_send _ _ _ _ _

signed : IsSend builtin.i64
signed = plain_send _ _ _ _ _

flag : IsSend builtin.bool
flag = plain_send _ _ _ _ _

-- ---- requests and answers
txn_field : IsSend (txn-of.the_field).row
txn_field = op-knot.send-TxnAsk range-ask.the_field_send put-ask.the_field_send delete-ask.the_field_send (list.the_send compare-of.the_row compare.the_send) list.the_send

request_field : IsSend (request.the_field).row
request_field = enum_field request.the_type (
  one range-ask.the_field_send,
  (
    one put-ask.the_field_send,
    (
      one delete-ask.the_field_send,
      (
        one txn_field,
        (
          two number flag,
          (
            two number number,
            (one number, (one number, (two number flag, (tt, (one watch-ask.the_field_send, tt))))),
          ),
        ),
      ),
    ),
  ),
)

body_field : IsSend (body.the_field).row
body_field = body-knot.send-Body number flag (list.the_send kv-of.the_row kv.the_send) (option.the_field_send kv-of.the_row kv.the_send) list.the_send signed
    (list.the_send bytes-of.the_row bytes.the_send) (list.the_send builtin.u64 number)

answer_field : IsSend (answer.the_field).row
answer_field = enum_field answer.the_type (one (struct_field reply.the_type (two header.the_field_send body_field)), (one refusal.the_field_send, tt))

-- ---- what waits
verdict_field : IsSend (verdict.the_field).row
verdict_field = enum_field verdict.the_type (one answer_field, (tt, (tt, (tt, tt))))

stage_field : IsSend (stage.the_field).row
stage_field = enum_field stage.the_type
    (one sending.the_field_send, (tt, (tt, (tt, (tt, (one (option.the_field_send sending-of.the_row sending.the_send), (one verdict_field, tt)))))))

asked_send : IsSend asked.the_row
asked_send = struct_row asked.the_type (number, (request_field, (number, (number, (number, (number, (stage_field, tt)))))))

write_send : IsSend write.the_row
write_send = struct_row write.the_type (number, (request_field, (list.the_send key-range-of.the_row key-range.the_send, (write-stage.the_field_send, tt))))

waits_send : IsSend waits.the_row
waits_send = view_send waits-inside.the_row _ _ _ _ (struct_row waits-inside.the_type (
  heap.the_field_send,
  (
    bytes.the_send,
    (
      number,
      (
        Vec-send write.the_row write_send,
        (
          rows.the_send builtin.bool flag,
          (
            rows.the_send builtin.u64 number,
            (Vec-send wait-call-of.the_row wait-call.the_send, one (option.the_field_send left-of.the_row left.the_send)),
          ),
        ),
      ),
    ),
  ),
))

asks_send : IsSend asks.the_row
asks_send = view_send asks-inside.the_row _ _ _ _ (struct_row asks-inside.the_type (
  Vec-send (pair builtin.u64 asked.the_row) (pair_row builtin.u64 asked.the_row number asked_send),
  (ends.the_send (pair builtin.u64 builtin.u64) (pair_row builtin.u64 builtin.u64 number number), two tables.the_field_send number),
))

reads_send : IsSend reads.the_row
reads_send = view_send reads-inside.the_row _ _ _ _
    (struct_row reads-inside.the_type (heap.the_field_send, (lease-table.the_send, (waits_send, two acquires.the_send asks_send))))

-- ---- the machine
machine_send : IsSend machine.the_row
machine_send = view_send machine-inside.the_row _ _ _ _ (struct_row machine-inside.the_type (
  heap.the_field_send,
  (
    count,
    (
      namespace.the_send,
      (
        bytes.the_send,
        (
          number,
          (
            members.the_send,
            (
              header.the_field_send,
              (
                option.the_field_send seat-of.the_row seat.the_send,
                (
                  option.the_field_send opening-of.the_row opening.the_send,
                  (
                    key-range.the_field_send,
                    (
                      option.the_field_send key-range-of.the_row key-range.the_send,
                      (reads_send, (calls.the_send, (number, two number broadcasts.the_send))),
                    ),
                  ),
                ),
              ),
            ),
          ),
        ),
      ),
    ),
  ),
))

pub core_send : IsSend core.the_row
core_send = view_send core-inside.the_row _ _ _ _ (struct_row core-inside.the_type (two (Box-send machine.the_row machine_send) woken.the_field_send))
