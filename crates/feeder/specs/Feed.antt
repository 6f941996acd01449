-- One feeding call (01, "The record" and refusals 1 to 3): checked, its bytes absorbed, and the record that they complete done.
use Rattle.std.specs.Prelude.{Option}
use Rattle.std.specs.Prelude.{not, List, [], ◌∷◌, ℕ, ltb, length}
use Rattle.wire.specs.Lists.{or_else}
use Rattle.wire.specs.Replies.{laid_over}
use Rattle.store.specs.Store.{well_formed}
use Rattle.commands.specs.Refusal.{buffer_least}
use Rattle.wire.specs.Checks.{Check, ◌when◌, first_applying}
use Rattle.commands.specs.Execute.{Done, exec_bytes}
use Rattle.feeder.specs.declared.Feeder.{Feeder}
use Rattle.feeder.specs.declared.Fed.{Fed}
use Rattle.feeder.specs.Record.{Record}
use Rattle.feeder.specs.State.{state_of, waiting_in, is_left}
use Rattle.feeder.specs.Absorb.{Absorbing, absorb}

-- a call's answer, with the store and the reply buffer as it leaves them
pub record Answer : Type 0 where
  pub fed : Fed
  pub store : List ℕ
  pub buffer : List ℕ

-- 1: "feeder state no feeding leaves"; 2: "store not well formed"; 3: "reply buffer under 56,000 bytes"
unfoldable pub checks : Feeder → List ℕ → List ℕ → List Check
checks f b buffer =
    1 when not (is_left f)
    ∷ 2 when not (well_formed b)
    ∷ 3 when ltb (length buffer) buffer_least
    ∷ []

-- "A refused call has reply length 0, skips none and hands its state back as it came."
abbrev pub unfed : ℕ → Feeder → Fed
unfed n f = record { refusal = n; used = 0; skipped = 0; replied = 0; feeder = f }

-- "1 to 3 use and skip no byte and change nothing."
unfoldable pub refusing : ℕ → Feeder → List ℕ → List ℕ → Answer
refusing n f b buffer = record { fed = unfed n f; store = b; buffer = buffer }

-- the record completed is done; with none, the store stays and nothing is replied
unfoldable pub doing : Option Record → List ℕ → Done
doing completed b = or_else completed (record { reply = []; store = b }) (λ r. exec_bytes r.clock r.command b)

-- "Reply bytes go at the buffer's start; those beyond keep their contents. With no record completed, store and buffer keep theirs."
unfoldable pub answering : Absorbing → List ℕ → List ℕ → Answer
answering a b buffer =
    let done : Done = doing a.completed b in
    record {
      fed =
          record {
            refusal = 0;
            used = a.used;
            skipped = a.skipped;
            replied = length done.reply;
            feeder = state_of a.rest;
          };
      store = done.store;
      buffer = laid_over done.reply buffer;
    }

-- "A call takes the state, a piece, the store and a reply buffer." "The lowest number that applies is given."
unfoldable pub feed : Feeder → List ℕ → List ℕ → List ℕ → Answer
feed f piece b buffer =
    or_else (first_applying (checks f b buffer)) (answering (absorb (waiting_in f) piece) b buffer) (λ n. refusing n f b buffer)
