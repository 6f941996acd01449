-- The customer's three demands over the definitions: the page to open first. Each theorem has one plain sentence above it; the proofs are laws
-- of the other files. `exec` is one record on what a store holds, `exec_bytes` the same on its bytes, `meaning` demand 3's definition of a whole
-- stream, `absorb` the bytes that one call takes, `feed` one feeding call. The definitions speak of lists of numbers: where a theorem asks for
-- `Bytes` or `AllBytes`, the numbers are below 256, as the elements of the code's slices always are. A `Valid` store is one that well-formed bytes hold
-- (`store_bytes_only`, `store_read_back`). What a command on one field says of its version is `deed_versioning`: `Next` nothing, `Match v` VER v, `Exactly v` ABS v,
-- `Above v` GT v.
use Rattle.std.specs.Prelude.{None, Some}
use mathlib.Core.Path.{◌≡◌, refl, sym, ap, ◌∙◌}
use mathlib.Core.Logic.{◌≢◌, ◌⊎◌, ◌↔◌}
use mathlib.Core.Bool.{true, false, not}
use mathlib.Core.List.{List, [], ◌∷◌, ◌++◌, map, flatten, flat_map, Mem}
use Prim.Native.Nat.{ℕ, suc, ◌+◌, ◌*◌, ◌^◌, ◌≤◌, ◌<◌}
use Prim.Native.String.{String}
use lib.IntN.{ℤ, pos}
use lib.ListN.{length, drop, get_or}
use Rattle.wire.specs.Lists.{any, keep}
use Rattle.wire.specs.Bytes.{Bytes, part, text}
use Rattle.wire.specs.Integers.{lowest64, highest64, within, read_integer, integer_text}
use Rattle.wire.specs.Words.{Word, words_most, words_of, crlf}
use Rattle.wire.specs.Replies.{line, number, resp_of, laid_over}
use Rattle.wire.proofs.IntegerLaws.{read_text, text_read, read_within}
use Rattle.wire.proofs.WordLaws.{words_resp_of, resp_of_words, words_count}
use Rattle.store.specs.Layout.{header_size, slot_size, key_most, field_most, value_most, version_most, time_limit}
use Rattle.store.specs.Store.{Entry, entry, Slot, Store, with_clock, decode, encode, well_formed, slot_count}
use Rattle.store.specs.Time.{now_at, live, entry_of}
use Rattle.store.specs.Valid.{Valid}
use Rattle.store.proofs.Encode.{decode_encode, encode_decode, encode_well, decode_valid}
use Rattle.commands.specs.Refusal.{RefusalRow, table, error_line, buffer_least, early_least, early_most, late_least, late_most}
use Rattle.commands.specs.declared.Versioning.TheVariants.{Next, Match, Above}
use Rattle.commands.specs.declared.Lifetime.{Lifetime}
use Rattle.commands.specs.declared.Lifetime.TheVariants.{Clear}
use Rattle.commands.specs.declared.Condition.{Condition}
use Rattle.commands.specs.declared.Condition.TheVariants.{Always}
use Rattle.commands.specs.Command.{Deed, Command, Pair, key_of, fields_of}
use Rattle.commands.specs.Command.Deed.{assign, increment, expire}
use Rattle.commands.specs.Command.Command.{on_field, set_many}
use Rattle.commands.specs.Options.{TimeUnit, instant}
use Rattle.commands.specs.Parse.{row, commands, command_named, deed_versioning, parse}
use Rattle.commands.specs.Parse.Count.{at_least}
use Rattle.commands.specs.Parse.Form.{expire_form}
use Rattle.commands.specs.Parse.Parsed.{refused, accepted}
use Rattle.commands.specs.Effect.{effect, change_all}
use Rattle.commands.specs.Execute.{sweep, swept, writes, room, added, late_checks, exec, exec_bytes}
use Rattle.commands.specs.Claims.{early_checks, LowestOf, Proper, names, last_of, Written, Numbered, idle, Behind, Step, exec_all}
use Rattle.commands.specs.Examples.{given, expected, marked_examples, worked_cases, command_cases, change_request_cases}
use Rattle.commands.proofs.Examples as commandExamples
use Rattle.commands.proofs.Refused.{protocol_exactly, refusal_number, refusal_row, late_refusal_lem, refused_keeps_live}
use Rattle.commands.proofs.Exactly.{early_exactly, early_lowest, late_exactly, done_gives, dead_as_missing}
use Rattle.commands.proofs.Sweep.{room_sweep}
use Rattle.commands.proofs.Others.{others_kept, others_from}
use Rattle.commands.proofs.AllOrNone.{all_set}
use Rattle.commands.proofs.GivenVersion.{sent_assign, sent_increment, sent_expire}
use Rattle.commands.proofs.VersionOption.{given_writes_unless}
use Rattle.commands.proofs.Forward.{above_forward, above_stale_exactly, above_never_passes, greater_wins}
use Rattle.commands.proofs.VersionCheck.{match_stale_exactly, match_next, zero_never_stale, zero_overflows_exactly, assigns_as_none, increments_as_none, set_live, set_largest, set_none}
use Rattle.commands.proofs.Clock.{clock_is_now, clock_forward_all, dead_at_clock, dead_stays_dead}
use Rattle.commands.proofs.Full.{full_exactly, full_accepted, done_exactly}
use Rattle.commands.proofs.SomeReply.{exec_some, refused_said}
use Rattle.commands.proofs.Keeps.{exec_bytes_well, exec_bytes_means, exec_bytes_length}
use Rattle.feeder.specs.declared.Feeder.{Feeder}
use Rattle.feeder.specs.Record.{Record, first_mark, second_mark, command_at, command_most, command_length, record_bytes}
use Rattle.feeder.specs.Stream.{ended, skipping, recording, divide, do_all}
use Rattle.feeder.specs.Parts.{parts, part_bytes, records_of, is_stray, record_sizes}
use Rattle.feeder.specs.State.{state_of, fresh, waiting_in, is_left}
use Rattle.feeder.specs.Absorb.{absorb}
use Rattle.feeder.specs.Pieces.{untaken, next, absorb_all, Uses}
use Rattle.feeder.specs.Feed.{feed}
use Rattle.feeder.specs.Calls.{Call, AllBytes, Total, Ran, begin, call_all, answer_to, accepted_pieces, done_for, uncut, Untouched, Answered, offering_all}
use Rattle.feeder.specs.Examples.{worked_streams}
use Rattle.feeder.specs.Examples as streams
use Rattle.feeder.proofs.Examples as streamExamples
use Rattle.feeder.proofs.StreamDivide.{rest_waits}
use Rattle.feeder.proofs.StreamParts as streamParts
use Rattle.feeder.proofs.RecordRead.{record_read, stray_skipped}
use Rattle.feeder.proofs.StateLeft.{left_exactly}
use Rattle.feeder.proofs.Refusals as refusals
use Rattle.feeder.proofs.ListOfPieces as pieces
use Rattle.feeder.proofs.ListOfCalls as calls

-- ════ Demand 1: refusals

-- That nothing traps is no theorem here: `Feeder::feed` and every exported function (crates/exhash) have no `requires`, and the checker proves of
-- each function that it returns, with no index out of range and no sum that wraps.

-- A call is refused with 1 exactly if its state is none that feeding leaves, with 2 exactly if it is one and the store is not well formed, with 3
-- exactly if both are fine and the buffer is under 56,000 bytes; otherwise the answer is 0.
pub refused_exactly : (f : Feeder) (piece b buffer : List ℕ)
    → let n = (feed f piece b buffer).fed.refusal in
    ((n ≡ 1) ↔ (is_left f ≡ false))
    × ((n ≡ 2) ↔ ((is_left f ≡ true) × (well_formed b ≡ false)))
    × ((n ≡ 3) ↔ ((is_left f ≡ true) × (well_formed b ≡ true) × (length buffer < buffer_least)))
    × ((n ≡ 0) ↔ ((is_left f ≡ true) × (well_formed b ≡ true) × (buffer_least ≤ length buffer)))
refused_exactly = refusals.refused_exactly

-- The states that feeding leaves are those of what waits after some bytes.
pub left_exactly_if : (f : Feeder) → (is_left f ≡ true) ↔ ((s : List ℕ) × Bytes s × (f ≡ state_of (divide s).rest))
left_exactly_if = left_exactly

-- A refused call uses no byte, skips none, replies nothing, hands its state back and changes no lent memory, whatever it got.
pub refused_call : (f : Feeder) (piece b buffer : List ℕ) → (feed f piece b buffer).fed.refusal ≢ 0 → Untouched f b buffer (feed f piece b buffer)
refused_call = refusals.refused_call

-- A record is refused with 10 exactly if its command is not RESP.
pub protocol_exactly_if : (clock : ℕ) (command : List ℕ) (s : Store) → ((exec clock command s).refusal ≡ Some 10) ↔ (words_of command ≡ None)
protocol_exactly_if = protocol_exactly

-- A record is refused with one of 10 to 18 exactly if parsing its command gives that number.
pub early_exactly_if : (clock : ℕ) (command : List ℕ) (s : Store) (n : ℕ) → n ≤ early_most
    → ((exec clock command s).refusal ≡ Some n) ↔ (parse (now_at clock s) clock command ≡ refused n)
early_exactly_if = early_exactly

-- That number is the lowest of 10 to 18 that applies.
pub early_lowest_if : (clock : ℕ) (command : List ℕ) (s : Store) (n : ℕ) → n ≤ early_most
    → ((exec clock command s).refusal ≡ Some n) ↔ LowestOf (early_checks (now_at clock s) clock command) n
early_lowest_if = early_lowest

-- Of a command that passes them the refusal is the lowest number of 20 to 24 that applies.
pub late_exactly_if : (clock : ℕ) (command : List ℕ) (s : Store) (c : Command) → parse (now_at clock s) clock command ≡ accepted c
    → let left = sweep (now_at clock s) (key_of c) (fields_of c) s.slots in
    (n : ℕ) → ((exec clock command s).refusal ≡ Some n) ↔ LowestOf (late_checks (now_at clock s) (effect (now_at clock s) c left) left) n
late_exactly_if = late_exactly

-- The number of a refused command is one of 10 to 18 or of 20 to 24.
pub refusal_numbered : (clock : ℕ) (command : List ℕ) (s : Store) (n : ℕ) → (exec clock command s).refusal ≡ Some n
    → ((early_least ≤ n) × (n ≤ early_most)) ⊎ ((late_least ≤ n) × (n ≤ late_most))
refusal_numbered = refusal_number

-- A row of the table has that number; its line is the row's text and CR LF.
pub refusal_in_table : (clock : ℕ) (command : List ℕ) (s : Store) (n : ℕ) → (exec clock command s).refusal ≡ Some n
    → (r : RefusalRow) × Mem r table × (r.number ≡ n) × (error_line n ≡ text r.reply ++ crlf)
unfolding line
refusal_in_table = refusal_row

-- A record replies the line of a number exactly if it is refused with that number.
pub refused_line : (clock : ℕ) (command : List ℕ) (s : Store) (n : ℕ)
    → ((exec clock command s).reply ≡ error_line n) ↔ ((exec clock command s).refusal ≡ Some n)
refused_line = refused_said

-- After a call whose record is refused with n the reply buffer is n's line laid over what it held, and the reply is as long as the line.
pub refused_buffer : (f : Feeder) (piece b buffer : List ℕ) → (feed f piece b buffer).fed.refusal ≡ 0
    → (r : Record) → (absorb (waiting_in f) piece).completed ≡ Some r → (n : ℕ) → (exec r.clock r.command (decode b)).refusal ≡ Some n
    → ((feed f piece b buffer).buffer ≡ laid_over (error_line n) buffer) × ((feed f piece b buffer).fed.replied ≡ length (error_line n))
refused_buffer = refusals.refused_writes

-- A command refused by 10 to 18 leaves the store byte for byte, its clock too.
pub early_refusal_leaves : (clock : ℕ) (command b : List ℕ) (n : ℕ) → well_formed b ≡ true → (exec clock command (decode b)).refusal ≡ Some n
    → n ≤ early_most → (exec_bytes clock command b).store ≡ b
early_refusal_leaves = refusals.early_bytes

-- Any other refusal is one of 20 to 24; it sets the clock and removes the named dead entries, and does nothing else.
pub late_refusal_leaves : (clock : ℕ) (command : List ℕ) (s : Store) (n : ℕ) → (exec clock command s).refusal ≡ Some n → early_most < n
    → (c : Command)
    × (parse (now_at clock s) clock command ≡ accepted c)
    × ((exec clock command s).store ≡ swept (now_at clock s) (key_of c) (fields_of c) (with_clock (now_at clock s) s))
    × (late_least ≤ n)
    × (n ≤ late_most)
late_refusal_leaves = late_refusal_lem

-- A refused command keeps every entry that is live at its now, in its slot.
pub refused_keeps : (clock : ℕ) (command : List ℕ) (s : Store) (n : ℕ) → (exec clock command s).refusal ≡ Some n
    → (i : ℕ) (e : Entry) → get_or s.slots i None ≡ Some e → live (now_at clock s) e ≡ true
    → get_or (exec clock command s).store.slots i None ≡ Some e
refused_keeps = refused_keeps_live

-- The bytes of such a slot are as they were.
pub refused_keeps_bytes : (clock : ℕ) (command b : List ℕ) (n : ℕ) → well_formed b ≡ true → (exec clock command (decode b)).refusal ≡ Some n
    → (i : ℕ) (e : Entry) → i < slot_count b → get_or (decode b).slots i None ≡ Some e → live (now_at clock (decode b)) e ≡ true
    → part (header_size + slot_size * i) slot_size (exec_bytes clock command b).store ≡ part (header_size + slot_size * i) slot_size b
refused_keeps_bytes = refusals.live_bytes

-- ════ Demand 1: stray bytes

-- A byte is skipped if it isn't 45, or it and the next aren't the mark, or the mark stands and L is out of range.
pub stray_skipped_if : (x : ℕ) (s : List ℕ)
    → (x ≢ first_mark)
    ⊎ (((1 ≤ length s) × (get_or s 0 0 ≢ second_mark))
    ⊎ ((command_at ≤ suc (length s)) × ((command_length (x ∷ s) < 1) ⊎ (command_most < command_length (x ∷ s)))))
    → divide (x ∷ s) ≡ skipping (divide s)
stray_skipped_if = stray_skipped

-- A record as it is sent, with 1 to 1,024 bytes of command, is read as that record, and reading goes on after it.
pub record_read_back : (r : Record) → r.clock < 256 ^ 8 → 1 ≤ length r.command → length r.command ≤ command_most
    → (s : List ℕ) → divide (record_bytes r ++ s) ≡ recording r (divide s)
record_read_back = record_read

-- The rest, read alone, all waits.
pub rest_all_waits : (s : List ℕ) → divide (divide s).rest ≡ ended (divide s).rest
rest_all_waits = rest_waits

-- A stream is as long as the bytes skipped, 12 and its command's length for each record, and the rest.
pub every_byte_counted : (s : List ℕ) → length s ≡ (divide s).skipped + record_sizes (divide s).records + length (divide s).rest
every_byte_counted = streamParts.every_counted

-- A stream of bytes is its parts joined in order, each one skipped byte or the bytes of one record, and then the rest; the single bytes number
-- `skipped`, and the records among the parts are `records`.
pub stream_in_parts : (s : List ℕ) → Bytes s
    → (flat_map part_bytes (parts s) ++ (divide s).rest ≡ s)
    × (length (keep is_stray (parts s)) ≡ (divide s).skipped)
    × (flat_map records_of (parts s) ≡ (divide s).records)
stream_in_parts = streamParts.in_parts

-- The paper's worked streams: replies, bytes skipped, rest and store.
pub worked_streams_lem : map streams.given worked_streams ≡ map streams.expected worked_streams
worked_streams_lem = streamExamples.worked_streams_lem

-- ════ Demand 2: commands

-- Every record leaves a well-formed store well formed.
pub stays_well_formed : (clock : ℕ) (command b : List ℕ) → Bytes command → well_formed b ≡ true
    → well_formed (exec_bytes clock command b).store ≡ true
stays_well_formed = exec_bytes_well

-- The bytes that a record leaves in a well-formed store hold what the definition of the record gives.
pub bytes_mean : (clock : ℕ) (command b : List ℕ) → Bytes command → well_formed b ≡ true
    → decode (exec_bytes clock command b).store ≡ (exec clock command (decode b)).store
bytes_mean = exec_bytes_means

-- The reply is the definition's.
pub bytes_reply : (clock : ℕ) (command b : List ℕ) → (exec_bytes clock command b).reply ≡ (exec clock command (decode b)).reply
unfolding exec_bytes
bytes_reply clock command b = refl

-- The store's bytes are as many as before.
pub bytes_as_many : (clock : ℕ) (command b : List ℕ) → Bytes command → well_formed b ≡ true
    → length (exec_bytes clock command b).store ≡ length b
bytes_as_many = exec_bytes_length

-- A command that passes checks 10 to 18 and is not refused replies what its effect says, sets the clock to now and makes the effect's changes on the
-- slots without the named dead entries.
pub done_gives_effect : (clock : ℕ) (command : List ℕ) (s : Store) (c : Command) → parse (now_at clock s) clock command ≡ accepted c
    → (exec clock command s).refusal ≡ None
    → let left = sweep (now_at clock s) (key_of c) (fields_of c) s.slots in
    let e = effect (now_at clock s) c left in
    ((exec clock command s).reply ≡ e.reply)
    × ((exec clock command s).store ≡ record { clock = now_at clock s; slots = change_all (now_at clock s) e.changes left })
done_gives_effect = done_gives

-- ════ Demand 2: store full

-- Store full is said only of a command that passes checks 10 to 18.
pub full_only_if : (clock : ℕ) (command : List ℕ) (s : Store) → (exec clock command s).refusal ≡ Some 24
    → (c : Command) × (parse (now_at clock s) clock command ≡ accepted c)
full_only_if = full_accepted

-- Of such a command it is said exactly if none of 20 to 23 applies and fewer slots are empty or dead than the command would add fields.
pub full_exactly_if : (clock : ℕ) (command : List ℕ) (s : Store) (c : Command) → parse (now_at clock s) clock command ≡ accepted c
    → let left = sweep (now_at clock s) (key_of c) (fields_of c) s.slots in
    let e = effect (now_at clock s) c left in
    ((exec clock command s).refusal ≡ Some 24) ↔ (Proper e × (room (now_at clock s) left < added e.changes left))
full_exactly_if = full_exactly

-- Such a command is done exactly if none of 20 to 23 applies and at least as many slots are empty or dead as it would add fields.
pub done_exactly_if : (clock : ℕ) (command : List ℕ) (s : Store) (c : Command) → parse (now_at clock s) clock command ≡ accepted c
    → let left = sweep (now_at clock s) (key_of c) (fields_of c) s.slots in
    let e = effect (now_at clock s) c left in
    ((exec clock command s).refusal ≡ None) ↔ (Proper e × (added e.changes left ≤ room (now_at clock s) left))
done_exactly_if = done_exactly

-- The slots that are empty or dead after the named dead entries are gone are as many as before.
pub room_as_before : (now : ℕ) (c : Command) (ss : List Slot) → room now (sweep now (key_of c) (fields_of c) ss) ≡ room now ss
room_as_before now c = room_sweep now (key_of c) (fields_of c)

-- ════ Demand 2: what a command touches

-- An EXHMSET that is not refused leaves every field that it names with the value of the field's last pair and no expiry: all. One that is refused
-- does nothing with them: none (`late_refusal_leaves`).
pub all_or_none : (clock : ℕ) (command : List ℕ) (s : Store) (k : Word) (ps : List Pair) → Valid s
    → parse (now_at clock s) clock command ≡ accepted (set_many k ps) → (exec clock command s).refusal ≡ None
    → (f v : Word) → last_of f ps ≡ Some v → Written k f v (exec clock command s).store.slots
all_or_none clock command s k ps valid = all_set clock command s k ps valid.apart

-- A command changes no live entry that it does not name.
pub others_stay : (clock : ℕ) (command : List ℕ) (s : Store) (c : Command) → parse (now_at clock s) clock command ≡ accepted c
    → (i : ℕ) (e : Entry) → get_or s.slots i None ≡ Some e → live (now_at clock s) e ≡ true → names c e ≡ false
    → get_or (exec clock command s).store.slots i None ≡ Some e
others_stay = others_kept

-- An entry that a command does not name and that stands in a slot after it stood there before: nothing unnamed appears or wakes.
pub others_were : (clock : ℕ) (command : List ℕ) (s : Store) (c : Command) → parse (now_at clock s) clock command ≡ accepted c
    → (i : ℕ) (e : Entry) → names c e ≡ false → get_or (exec clock command s).store.slots i None ≡ Some e → get_or s.slots i None ≡ Some e
others_were = others_from

-- A dead entry that a command names is as good as missing: the record's whole outcome is the one without it.
pub dead_is_missing : (clock : ℕ) (command : List ℕ) (s : Store) (c : Command) → parse (now_at clock s) clock command ≡ accepted c
    → exec clock command s ≡ exec clock command (swept (now_at clock s) (key_of c) (fields_of c) s)
dead_is_missing = dead_as_missing

-- ════ Demand 2: VER, ABS and GT

-- The effect of a command with VER, ABS or GT writes its field, unless it is an EXHSET that NX or XX bars or an expiry setter of a missing field.
pub option_writes_unless : (clock : ℕ) (command : List ℕ) (s : Store) (k f : Word) (d : Deed)
    → parse (now_at clock s) clock command ≡ accepted (on_field k f d) → deed_versioning d ≢ Next
    → let left = sweep (now_at clock s) k (f ∷ []) s.slots in
    any (writes k f) (effect (now_at clock s) (on_field k f d) left).changes ≡ not (idle d (entry_of k f left))
unfolding key_of fields_of
option_writes_unless clock command s k f d p given = given_writes_unless clock command s k f d (deed_versioning d) given p refl

-- ════ Demand 2: a version that only moves forward (M-100)

-- A command with GT v that is not refused and writes its field leaves it at version v; and where the field was live it was below v.
pub gt_only_forward : (clock : ℕ) (command : List ℕ) (s : Store) (k f : Word) (d : Deed) (v : ℕ) → Valid s
    → parse (now_at clock s) clock command ≡ accepted (on_field k f d) → deed_versioning d ≡ Above v → (exec clock command s).refusal ≡ None
    → let e = effect (now_at clock s) (on_field k f d) (sweep (now_at clock s) k (f ∷ []) s.slots) in
    any (writes k f) e.changes ≡ true
    → Numbered k f v (exec clock command s).store.slots
    × ((x : Entry) → entry_of k f s.slots ≡ Some x → live (now_at clock s) x ≡ true → x.version < v)
unfolding key_of fields_of
gt_only_forward clock command s k f d v valid p g = above_forward clock command s k f d v p g valid.apart

-- A command with GT v is refused with 20 exactly if its field is live at v or above, and no NX bars it.
pub gt_stale_exactly_if : (clock : ℕ) (command : List ℕ) (s : Store) (k f : Word) (d : Deed) (v : ℕ) → Valid s
    → parse (now_at clock s) clock command ≡ accepted (on_field k f d) → deed_versioning d ≡ Above v
    → ((exec clock command s).refusal ≡ Some 20)
    ↔ ((x : Entry) × (entry_of k f s.slots ≡ Some x) × (live (now_at clock s) x ≡ true) × (idle d (Some x) ≡ false) × (v ≤ x.version))
gt_stale_exactly_if clock command s k f d v valid p g = above_stale_exactly clock command s k f d v p g valid.apart

-- No command with GT is refused with 23.
pub gt_never_overflows : (clock : ℕ) (command : List ℕ) (s : Store) (k f : Word) (d : Deed) (v : ℕ)
    → parse (now_at clock s) clock command ≡ accepted (on_field k f d) → deed_versioning d ≡ Above v → (exec clock command s).refusal ≢ Some 23
gt_never_overflows = above_never_passes

-- The later count wins. Two EXHSETs past checks 10 to 18 set one field, with GT v and GT w, v below w, and neither a condition nor an expiry
-- option, at any clocks. At the store's own clock the field is live without expiry at a version below v, or missing while a slot is empty or dead.
-- Then in both orders the field ends with the value that came with GT w, at version w, without expiry.
pub later_count_wins : (first second : Step) (s : Store) (k f x y : Word) (v w : ℕ) → Valid s
    → parse (now_at first.clock s) first.clock first.command ≡ accepted (on_field k f (assign x Always (Above v) Clear))
    → parse (now_at second.clock s) second.clock second.command ≡ accepted (on_field k f (assign y Always (Above w) Clear))
    → v < w → Behind k f v s
    → (entry_of k f (exec_all (first ∷ second ∷ []) s).slots ≡ Some (entry k f y w None))
    × (entry_of k f (exec_all (second ∷ first ∷ []) s).slots ≡ Some (entry k f y w None))
later_count_wins first second s k f x y v w valid = greater_wins first second s k f x y v w valid.apart

-- ════ Demand 2: VER 0 is not compared (M-101)

-- VER v with no other option, as it is sent, with nothing too long, too late or out of range, is read as just that: by EXHSET, by EXHINCRBY, and by a
-- name that the table has as an expiry setter.
pub ver_as_sent : (now clock : ℕ) (k f : Word) (v : ℕ) → clock < time_limit → length k ≤ key_most → length f ≤ field_most → v ≤ version_most
    → let sent : Word → Word → List ℕ = λ name x. resp_of (name ∷ k ∷ f ∷ x ∷ text "VER" ∷ integer_text (pos v) ∷ []) in
    ((x : Word) → length x ≤ value_most → parse now clock (sent (text "EXHSET") x) ≡ accepted (on_field k f (assign x Always (Match v) Clear)))
    × ((z : ℤ) → within lowest64 highest64 z ≡ true
    → parse now clock (sent (text "EXHINCRBY") (integer_text z)) ≡ accepted (on_field k f (increment z lowest64 highest64 (Match v) Clear)))
    × ((name : String) (u : TimeUnit) (n : ℕ) → command_named commands (text name) ≡ Some (row name (at_least 4) (expire_form u))
    → let t = integer_text (pos n) in
    n ≤ time_limit → instant now u t ≤ time_limit → parse now clock (sent (text name) t) ≡ accepted (on_field k f (expire (instant now u t) (Match v))))
ver_as_sent now clock k f v c lk lf lv =
    (sent_assign now clock k f v c lk lf lv, sent_increment now clock k f v c lk lf lv, sent_expire now clock k f v c lk lf lv)

-- No command with VER 0 is refused with 20, on any store, at any clock.
pub ver_0_never_stale : (clock : ℕ) (command : List ℕ) (s : Store) (k f : Word) (d : Deed)
    → parse (now_at clock s) clock command ≡ accepted (on_field k f d) → deed_versioning d ≡ Match 0 → (exec clock command s).refusal ≢ Some 20
ver_0_never_stale = zero_never_stale

-- An EXHSET or EXHINCRBY past checks 10 to 18 with VER v that is not refused with 20 has the outcome of a command that says the same with no version
-- option.
pub ver_as_none : (clock : ℕ) (command plain : List ℕ) (s : Store) (k f : Word) (v : ℕ)
    → ((x : Word) (c : Condition) (t : Lifetime) → parse (now_at clock s) clock command ≡ accepted (on_field k f (assign x c (Match v) t))
    → parse (now_at clock s) clock plain ≡ accepted (on_field k f (assign x c Next t)) → (exec clock command s).refusal ≢ Some 20
    → exec clock command s ≡ exec clock plain s)
    × ((a l g : ℤ) (t : Lifetime) → parse (now_at clock s) clock command ≡ accepted (on_field k f (increment a l g (Match v) t))
    → parse (now_at clock s) clock plain ≡ accepted (on_field k f (increment a l g Next t)) → (exec clock command s).refusal ≢ Some 20
    → exec clock command s ≡ exec clock plain s)
ver_as_none clock command plain s k f v = (assigns_as_none clock command plain s k f v, increments_as_none clock command plain s k f v)

-- So one with VER 0 always has.
pub ver_0_as_none : (clock : ℕ) (command plain : List ℕ) (s : Store) (k f : Word)
    → ((x : Word) (c : Condition) (t : Lifetime) → parse (now_at clock s) clock command ≡ accepted (on_field k f (assign x c (Match 0) t))
    → parse (now_at clock s) clock plain ≡ accepted (on_field k f (assign x c Next t)) → exec clock command s ≡ exec clock plain s)
    × ((a l g : ℤ) (t : Lifetime) → parse (now_at clock s) clock command ≡ accepted (on_field k f (increment a l g (Match 0) t))
    → parse (now_at clock s) clock plain ≡ accepted (on_field k f (increment a l g Next t)) → exec clock command s ≡ exec clock plain s)
unfolding deed_versioning
ver_0_as_none clock command plain s k f =
    let both = ver_as_none clock command plain s k f 0 in (
      λ x c t p q. both.0 x c t p q (ver_0_never_stale clock command s k f (assign x c (Match 0) t) p refl),
      λ a l g t p q. both.1 a l g t p q (ver_0_never_stale clock command s k f (increment a l g (Match 0) t) p refl),
    )

-- An expiry setter with VER v that is not refused with 20, of a live field below the largest version, replies 1 and leaves the field with its value,
-- its version plus 1 and the given expiry; at the largest version it is refused with 23. Of a missing or dead field any setter with VER replies 0, and
-- the field is missing then.
pub ver_setter : (clock : ℕ) (command : List ℕ) (s : Store) (k f : Word) (t v : ℕ) → Valid s
    → parse (now_at clock s) clock command ≡ accepted (on_field k f (expire t (Match v)))
    → let o = exec clock command s in
    ((x : Entry) → entry_of k f s.slots ≡ Some x → live (now_at clock s) x ≡ true → o.refusal ≢ Some 20
    → (x.version < version_most
    → (o.refusal ≡ None) × (o.reply ≡ number 1) × (entry_of k f o.store.slots ≡ Some (entry k f x.value (x.version + 1) (Some t))))
    × (x.version ≡ version_most → o.refusal ≡ Some 23))
    × (((x : Entry) → entry_of k f s.slots ≡ Some x → live (now_at clock s) x ≡ false)
    → (o.refusal ≡ None) × (o.reply ≡ number 0) × (entry_of k f o.store.slots ≡ None))
ver_setter clock command s k f t v valid p = (
  λ x q l r.
      (set_live clock command s k f t v p valid.apart x q l r, set_largest clock command s k f t v p valid.apart x q l r),
  set_none clock command s k f t v p valid.apart,
)

-- A command with VER 0 is refused with 23 exactly if its field is live at the largest version, no NX bars it, and neither 21 nor 22 applies.
pub ver_0_overflows_exactly_if : (clock : ℕ) (command : List ℕ) (s : Store) (k f : Word) (d : Deed) → Valid s
    → parse (now_at clock s) clock command ≡ accepted (on_field k f d) → deed_versioning d ≡ Match 0
    → let e = effect (now_at clock s) (on_field k f d) (sweep (now_at clock s) k (f ∷ []) s.slots) in
    ((exec clock command s).refusal ≡ Some 23)
    ↔ ((x : Entry)
    × (entry_of k f s.slots ≡ Some x)
    × (live (now_at clock s) x ≡ true)
    × (idle d (Some x) ≡ false)
    × (x.version ≡ version_most)
    × (e.not_integer ≡ false)
    × (e.overflows ≡ false))
unfolding key_of fields_of
ver_0_overflows_exactly_if clock command s k f d valid p g = zero_overflows_exactly clock command s k f d p g valid.apart valid.fits

-- A command with VER v is refused with 20 exactly if v is not 0, its field is live at a version that is neither 0 nor v, and no NX bars it.
pub ver_stale_exactly_if : (clock : ℕ) (command : List ℕ) (s : Store) (k f : Word) (d : Deed) (v : ℕ) → Valid s
    → parse (now_at clock s) clock command ≡ accepted (on_field k f d) → deed_versioning d ≡ Match v
    → ((exec clock command s).refusal ≡ Some 20)
    ↔ ((x : Entry)
    × (entry_of k f s.slots ≡ Some x)
    × (live (now_at clock s) x ≡ true)
    × (idle d (Some x) ≡ false)
    × (v ≢ 0)
    × (x.version ≢ 0)
    × (x.version ≢ v))
ver_stale_exactly_if clock command s k f d v valid p g = match_stale_exactly clock command s k f d v p g valid.apart

-- A command with VER v that is not refused and writes its field leaves a live one at its version plus 1, and a missing or dead one at 1.
pub ver_next_version : (clock : ℕ) (command : List ℕ) (s : Store) (k f : Word) (d : Deed) (v : ℕ) → Valid s
    → parse (now_at clock s) clock command ≡ accepted (on_field k f d) → deed_versioning d ≡ Match v → (exec clock command s).refusal ≡ None
    → let e = effect (now_at clock s) (on_field k f d) (sweep (now_at clock s) k (f ∷ []) s.slots) in
    any (writes k f) e.changes ≡ true
    → let after = (exec clock command s).store.slots in
    ((x : Entry) → entry_of k f s.slots ≡ Some x → live (now_at clock s) x ≡ true → Numbered k f (x.version + 1) after)
    × (((x : Entry) → entry_of k f s.slots ≡ Some x → live (now_at clock s) x ≡ false) → Numbered k f 1 after)
unfolding key_of fields_of
ver_next_version clock command s k f d v valid p g = match_next clock command s k f d v p g valid.apart

-- ════ Demand 2: time

-- A command that passes checks 10 to 18 sets the clock to now.
pub clock_set : (clock : ℕ) (command : List ℕ) (s : Store) (c : Command) → parse (now_at clock s) clock command ≡ accepted c
    → (exec clock command s).store.clock ≡ now_at clock s
clock_set = clock_is_now

-- No records take the clock back.
pub clock_never_back : (rs : List Step) (s : Store) → s.clock ≤ (exec_all rs s).clock
clock_never_back = clock_forward_all

-- An entry that is dead at the now of a record past checks 10 to 18 is live at no later record, whatever clock that record brings.
pub dead_for_good : (r : Step) (rs : List Step) (next : Step) (s : Store) (c : Command) (e : Entry)
    → parse (now_at r.clock s) r.clock r.command ≡ accepted c → live (now_at r.clock s) e ≡ false
    → live (now_at next.clock (exec_all (r ∷ rs) s)) e ≡ false
dead_for_good = dead_stays_dead

-- An entry that is dead at the store's own clock is live at no later record, whatever clock that record brings: a slow handset cannot wake it.
pub dead_stays : (rs : List Step) (next : Step) (s : Store) (e : Entry) → live s.clock e ≡ false
    → live (now_at next.clock (exec_all rs s)) e ≡ false
dead_stays = dead_at_clock

-- ════ Demands 1 and 2: replies and buffers

-- No reply is empty.
pub reply_not_empty : (clock : ℕ) (command : List ℕ) (s : Store) → 1 ≤ length (exec clock command s).reply
reply_not_empty = exec_some

-- A call that is not refused has reply length 0 exactly if it completes no record.
pub replied_exactly_if : (f : Feeder) (piece b buffer : List ℕ) → (feed f piece b buffer).fed.refusal ≡ 0
    → ((feed f piece b buffer).fed.replied ≡ 0) ↔ ((absorb (waiting_in f) piece).completed ≡ None)
replied_exactly_if = refusals.replied_exactly

-- No reply on a well-formed store is longer than 56,000 bytes.
pub reply_fits : (clock : ℕ) (command b : List ℕ) → well_formed b ≡ true → length (exec_bytes clock command b).reply ≤ buffer_least
reply_fits = refusals.reply_short

-- A call's reply lies in its buffer.
pub reply_in_buffer : (f : Feeder) (piece b buffer : List ℕ) → (feed f piece b buffer).fed.replied ≤ length buffer
reply_in_buffer = refusals.reply_inside

-- The buffer's bytes beyond the reply are as they were.
pub beyond_reply : (f : Feeder) (piece b buffer : List ℕ)
    → let a = feed f piece b buffer in drop a.fed.replied a.buffer ≡ drop a.fed.replied buffer
beyond_reply = refusals.buffer_beyond

-- With no record completed, store and buffer are as they were.
pub no_record_keeps_all : (f : Feeder) (piece b buffer : List ℕ) → (absorb (waiting_in f) piece).completed ≡ None
    → ((feed f piece b buffer).store ≡ b) × ((feed f piece b buffer).buffer ≡ buffer)
no_record_keeps_all = refusals.no_record_keeps

-- The buffer has as many bytes as before.
pub buffer_stays : (f : Feeder) (piece b buffer : List ℕ) → length (feed f piece b buffer).buffer ≡ length buffer
buffer_stays = refusals.buffer_length

-- ════ Demand 2: rows

-- P1 to P14: each refusal's number, each reply, and the clock and the slots at the end.
pub marked_examples_lem : map given marked_examples ≡ map expected marked_examples
marked_examples_lem = commandExamples.marked_examples_lem

-- The paper's other worked cases.
pub worked_cases_lem : map given worked_cases ≡ map expected worked_cases
worked_cases_lem = commandExamples.worked_cases_lem

-- Every command and option of paper 01 done, and every refusal from 11 on.
pub command_cases_lem : map given command_cases ≡ map expected command_cases
command_cases_lem = commandExamples.command_cases_lem

-- The rows of paper 02, request by request.
pub change_request_cases_lem : map given change_request_cases ≡ map expected change_request_cases
change_request_cases_lem = commandExamples.change_request_cases_lem

-- ════ Demand 3: any list of calls

-- The stream's half, with no store and no buffer. After any list of absorbing calls from no byte waiting, the records handed out in order, the
-- total skipped and the bytes left waiting are those that the division gives for the bytes used, joined.
pub demand_3_stream : (ps : List (List ℕ)) → (absorb_all untaken ps).divided ≡ divide (absorb_all untaken ps).used
demand_3_stream = pieces.pieces_divide

-- Each next absorbing call uses as many bytes as the paper says, and at least one if its piece isn't empty.
pub demand_3_stream_each : (ps : List (List ℕ)) (piece : List ℕ)
    → let used = (next (absorb_all untaken ps) piece).used in
    Uses (absorb_all untaken ps).used piece used × (1 ≤ length piece → 1 ≤ used)
demand_3_stream_each ps piece = (pieces.pieces_use ps piece, pieces.pieces_use_some ps piece)

module _ (b : List ℕ) (well : well_formed b ≡ true) where
  -- The records' half. Any list of feeding calls from a fresh feeder comes to what absorbing the pieces of its calls that are not refused comes
  -- to, with the records handed out done in order and their replies joined.
  pub demand_3_records : (cs : List Call) → AllBytes cs → call_all (begin b) cs ≡ done_for b (absorb_all untaken (accepted_pieces cs))
  demand_3_records = calls.calls_done b well

  -- From any well-formed store and a fresh feeder, after any list of calls with any pieces and any buffers, refused calls included: the joined
  -- replies, the total skipped, the bytes left waiting and the whole store are those of the definition for the bytes used, joined.
  pub demand_3 : (cs : List Call) → AllBytes cs → call_all (begin b) cs ≡ uncut (call_all (begin b) cs).used b
  demand_3 cs bytes =
      rw (demand_3_records cs bytes)
      (unfold done_for in calls.halves_uncut b well (absorb_all untaken (accepted_pieces cs)) (demand_3_stream (accepted_pieces cs)))

  -- The same for answers instead of the definition: whatever a program does with calls whose answers meet the promise of `Feeder::feed` (its
  -- `ensures` in crates/feeder/src/feed.rt, which the checker ties to the code), each with the state that the last one handed back and the store as
  -- it left it, comes to the uncut answer.
  pub demand_3_promised : {cs : List Call} {t : Total} → AllBytes cs → Ran (begin b) cs t → t ≡ uncut t.used b
  demand_3_promised {cs} bytes r =
      let e = calls.ran_as_called r in
      e ∙ demand_3 cs bytes ∙ ap (λ (u : Total). uncut u.used b) (sym e)

  -- Each next call is refused only with 3, exactly if its buffer is under 56,000 bytes, and then changes nothing; 1 and 2 are never answered.
  -- Else it uses as many bytes as the paper says, and at least one if its piece isn't empty.
  pub demand_3_each : (cs : List Call) → AllBytes cs → (c : Call) → Answered (call_all (begin b) cs) c (answer_to (call_all (begin b) cs) c)
  demand_3_each cs bytes c =
      rw (demand_3_records cs bytes)
      (calls.call_answered b well (absorb_all untaken (accepted_pieces cs)) (calls.end_reached b well cs bytes) c)

  -- Cutting a stream anywhere and offering each piece until it is used up, whatever buffer of at least 56,000 bytes each call brings, uses the whole
  -- stream, so it gives the uncut answer.
  pub demand_3_cut : (buffers : ℕ → List ℕ) → ((k : ℕ) → buffer_least ≤ length (buffers k)) → (pieces : List (List ℕ)) → ((i : ℕ) → Bytes (get_or pieces i []))
      → call_all (begin b) (offering_all buffers pieces (begin b)) ≡ uncut (flatten pieces) b
  unfolding begin fresh done_for do_all untaken
  demand_3_cut buffers large pieces bytes =
      demand_3 (offering_all buffers pieces (begin b)) (calls.offering_all_bytes buffers pieces (begin b) bytes)
      ∙ ap (λ (s : List ℕ). uncut s b) (calls.offering_all_used b well buffers large pieces untaken bytes (calls.untaken_reached b well))

-- ════ Round trips

-- An integer's text is read back.
pub integer_read_back : (lo hi z : ℤ) → within lo hi z ≡ true → read_integer lo hi (integer_text z) ≡ Some z
integer_read_back = read_text

-- A text that is read as an integer is that integer's text, and the integer is within the bounds.
pub integer_text_only : (lo hi : ℤ) (s : List ℕ) (z : ℤ) → read_integer lo hi s ≡ Some z → (integer_text z ≡ s) × (within lo hi z ≡ true)
integer_text_only lo hi s z h = (text_read lo hi s z h, read_within lo hi s z h)

-- The words of a command are read back.
pub words_read_back : (ws : List Word) → 1 ≤ length ws → length ws ≤ words_most → words_of (resp_of ws) ≡ Some ws
words_read_back = words_resp_of

-- A command that is read is the array of its words, 1 to 64 of them.
pub words_array_only : (s : List ℕ) (ws : List Word) → words_of s ≡ Some ws → (s ≡ resp_of ws) × (1 ≤ length ws) × (length ws ≤ words_most)
words_array_only s ws h = (resp_of_words s ws h, (words_count s ws h).0, (words_count s ws h).1)

-- What a valid store holds is read back from its bytes, which are well formed.
pub store_read_back : (s : Store) → Valid s → (well_formed (encode s) ≡ true) × (decode (encode s) ≡ s)
store_read_back s v = (encode_well s v, decode_encode s v)

-- Well-formed bytes are those of what they hold, which is valid.
pub store_bytes_only : (b : List ℕ) → well_formed b ≡ true → Valid (decode b) × (encode (decode b) ≡ b)
store_bytes_only b well = (decode_valid b well, encode_decode b well)
