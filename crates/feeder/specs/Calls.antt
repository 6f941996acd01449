-- A list of calls (demand 3): "Each call gets the state that the last one handed back and the store as it left it, and nobody else writes
-- the store meanwhile." "A piece and a reply buffer are any bytes of any length, each call's own."
use Rattle.std.specs.Prelude.{◌≡◌, cond, List, [], ◌∷◌, ◌++◌, ℕ, zero, suc, ◌+◌, ◌≤◌, ◌<◌, ltb, length, take, drop}
use Rattle.wire.specs.Bytes.{Bytes}
use Rattle.commands.specs.Execute.{Done}
use Rattle.feeder.specs.declared.Feeder.{Feeder}
use Rattle.feeder.specs.Stream.{do_all, Meaning, meaning}
use Rattle.feeder.specs.State.{state_of, fresh}
use Rattle.feeder.specs.Pieces.{Taken, Uses}
use Rattle.commands.specs.Refusal.{buffer_least}
use Rattle.feeder.specs.Feed.{Answer, feed}

pub record Call : Type 0 where
  pub piece : List ℕ
  pub buffer : List ℕ

abbrev pub AllBytes : List Call → Type 0
AllBytes [] = Unit {0}
AllBytes (c ∷ cs) = Bytes c.piece × AllBytes cs

-- what a list of calls comes to: the bytes used, joined in order; the joined replies; the total skipped; state and store at the end
pub record Total : Type 0 where
  pub used : List ℕ
  pub replies : List ℕ
  pub skipped : ℕ
  pub feeder : Feeder
  pub store : List ℕ

-- "Take any well-formed store and a fresh feeder."
unfoldable pub begin : List ℕ → Total
begin b = record { used = []; replies = []; skipped = 0; feeder = fresh; store = b }

-- "A call's reply is the start of its buffer, as long as its reply length, taken when it returns."
unfoldable pub tally : Total → Call → Answer → Total
tally t c a =
    record {
      used = t.used ++ take a.fed.used c.piece;
      replies = t.replies ++ take a.fed.replied a.buffer;
      skipped = t.skipped + a.fed.skipped;
      feeder = a.fed.feeder;
      store = a.store;
    }

unfoldable pub answer_to : Total → Call → Answer
answer_to t c = feed t.feeder c.piece t.store c.buffer

unfoldable pub call_all : Total → List Call → Total
call_all t [] = t
call_all t (c ∷ cs) = call_all (tally t c (answer_to t c)) cs

-- the pieces of the calls that are not refused, in order
unfoldable pub accepted_pieces : List Call → List (List ℕ)
accepted_pieces [] = []
accepted_pieces (c ∷ cs) = cond (ltb (length c.buffer) buffer_least) (accepted_pieces cs) (c.piece ∷ accepted_pieces cs)

-- what calls come to whose absorbing came to t: the records handed out are done in order, and their replies are joined
unfoldable pub done_for : List ℕ → Taken → Total
done_for b t =
    let done : Done = do_all t.divided.records b in
    record {
      used = t.used;
      replies = done.reply;
      skipped = t.divided.skipped;
      feeder = state_of t.divided.rest;
      store = done.store;
    }

-- What a program may have done: a list of calls, each with the state and the store that the one before left, whose answers are any that meet the
-- promise of `Feeder::feed`. That promise, the `ensures` of `Feeder::feed` in src/feed.rt, is the equation asked for here; so what `feed` answers
-- is such an answer.
pub data Ran : Total → List Call → Total → Type 0 where
  ended : {t : Total} → Ran t [] t
  called : {t u : Total} {c : Call} {cs : List Call} (a : Answer) → a ≡ feed t.feeder c.piece t.store c.buffer
      → Ran (tally t c a) cs u → Ran t (c ∷ cs) u

-- what demand 3's definition gives for one uncut stream: "the joined replies, the total of bytes skipped, the bytes left waiting and the
-- whole store"; the state holds the waiting bytes, with zero after them
unfoldable pub uncut : List ℕ → List ℕ → Total
uncut s b =
    let m : Meaning = meaning s b in
    record { used = s; replies = m.replies; skipped = m.skipped; feeder = state_of m.rest; store = m.store }

-- "A refused call uses no byte and changes no lent memory." "A refused call has reply length 0, skips none and hands its state back as it came."
pub record Untouched (f : Feeder) (b buffer : List ℕ) (a : Answer) : Type 0 where
  pub used : a.fed.used ≡ 0
  pub skipped : a.fed.skipped ≡ 0
  pub replied : a.fed.replied ≡ 0
  pub feeder : a.fed.feeder ≡ f
  pub store : a.store ≡ b
  pub same : a.buffer ≡ buffer

-- what is said of each call of a list, where t is what the calls before it have come to: only 3 is ever answered, exactly if the reply buffer
-- is too small, and then nothing changes; else the call uses the paper's number of bytes, "at least one, if its piece isn't empty and its
-- reply buffer isn't under the stated size".
pub record Answered (t : Total) (c : Call) (a : Answer) : Type 0 where
  pub refused : length c.buffer < buffer_least → (a.fed.refusal ≡ 3) × Untouched t.feeder t.store c.buffer a
  pub accepted : buffer_least ≤ length c.buffer → a.fed.refusal ≡ 0
  pub uses : buffer_least ≤ length c.buffer → Uses t.used c.piece a.fed.used
  pub some_used : buffer_least ≤ length c.buffer → 1 ≤ length c.piece → 1 ≤ a.fed.used

-- ---- "Cutting a stream anywhere and offering each piece until it is used up is one such list."

-- What is left of a piece is offered until it is used up, in at most n calls; the buffers are those of the calls, in order.
unfoldable pub offering : ℕ → (ℕ → List ℕ) → List ℕ → Total → List Call
offering zero buffers piece t = []
offering (suc n) buffers [] t = []
offering (suc n) buffers (b ∷ s) t =
    let c : Call = record { piece = b ∷ s; buffer = buffers 0 } in
    c ∷ offering n (λ k. buffers (suc k)) (drop (answer_to t c).fed.used (b ∷ s)) (tally t c (answer_to t c))

-- the pieces of a stream in order: as many calls as a piece has bytes are enough for it
unfoldable pub offering_all : (ℕ → List ℕ) → List (List ℕ) → Total → List Call
offering_all buffers [] t = []
offering_all buffers (p ∷ ps) t =
    let cs : List Call = offering (length p) buffers p t in
    cs ++ offering_all (λ k. buffers (length cs + k)) ps (call_all t cs)
