-- Lists of feeding calls. The records' half of demand 3: what the calls come to is what their absorbing comes to, with the records that it
-- hands out done in order. With the stream's half, of ListOfPieces, that is demand 3.
use Rattle.std.specs.Prelude.{option_to_list, Option, None, Some}
use mathlib.Core.Path.{◌≡◌, refl, sym, ap, ◌∙◌}
use mathlib.Core.Bool.{Bool, true, false, cond}
use mathlib.Core.List.{List, [], ◌∷◌, ◌++◌, append_assoc, append-nil, flatten}
use Prim.Native.Nat.{ℕ, zero, suc, ◌+◌, ◌-◌, ◌≤◌, ◌<◌}
use native.Mathlib.Nat.{add-zero}
use native.Mathlib.Omega.{arith}
use lib.Dec.{ltb}
use lib.ListN.{length, take, drop, get_or, length-drop, take-append-drop}
use lib.Seq.{take_all}
use borrow.Author.Tests.{ltb-true, ltb-false}
use Rattle.wire.proofs.Lists.{impossible}
use Rattle.wire.specs.Lists.{or_else}
use Rattle.wire.specs.Bytes.{Bytes}
use Rattle.wire.proofs.ByteLaws.{bytes_append, bytes_take, bytes_drop, bytes_part, bytes_tail}
use Rattle.wire.proofs.ReplyLaying.{take_laid}
use Rattle.store.specs.Store.{well_formed}
use Rattle.commands.specs.Refusal.{buffer_least}
use Rattle.wire.specs.Checks.{first_applying}
use Rattle.commands.specs.Execute.{exec_bytes}
use Rattle.commands.proofs.Keeps.{exec_bytes_well}
use Rattle.feeder.specs.Record.{Record, Head, head_of, record_of, command_at}
use Rattle.feeder.specs.Record.Head.{skip, whole, wait}
use Rattle.feeder.specs.Stream.{divided_at, divide_after, divide, do_all, meaning}
use Rattle.feeder.specs.State.{state_of, fresh, is_left}
use Rattle.feeder.specs.Absorb.{Absorbing}
use Rattle.feeder.specs.Pieces.{Taken, untaken, counted, next, absorb_all}
use Rattle.feeder.specs.Feed.{Answer, checks, refusing, doing, answering, feed}
use Rattle.feeder.specs.Calls.{Call, AllBytes, Total, Ran, begin, tally, answer_to, call_all, accepted_pieces, done_for, uncut, Answered, offering, offering_all}
use Rattle.feeder.specs.Calls.Ran.{ended, called}
use Rattle.feeder.proofs.StreamDivide.{do_more}
use Rattle.feeder.proofs.StateLeft.{waiting_back, rest_left}
use Rattle.feeder.proofs.ListOfPieces.{Divides, next_divides, next_uses, next_some, untaken_divides}
use Rattle.feeder.proofs.Refusals.{refusing_leaves}

-- ---- records done

-- the records of bytes keep a store well formed
records_well : (k : ℕ) (s : List ℕ) → Bytes s → (b : List ℕ) → well_formed b ≡ true
    → well_formed (do_all (divide_after k s).records b).store ≡ true
unfolding divide_after divided_at do_all record_of
records_well k [] bs b well = well
records_well (suc k) (x ∷ s) bs b well = records_well k s (bytes_tail x s bs) b well
records_well zero (x ∷ s) bs b well = go (head_of (x ∷ s)) (λ k. records_well k s (bytes_tail x s bs))
  where
    go : (h : Head) → ((k : ℕ) (b : List ℕ) → well_formed b ≡ true → well_formed (do_all (divide_after k s).records b).store ≡ true)
        → well_formed (do_all (divided_at h (x ∷ s) (λ k. divide_after k s)).records b).store ≡ true
    go skip ih = ih 0 b well
    go (whole n) ih =
        let r : Record = record_of n (x ∷ s) in
        ih (command_at - 1 + n) (exec_bytes r.clock r.command b).store
        (exec_bytes_well r.clock r.command b (bytes_part command_at n (x ∷ s) bs) well)
    go wait ih = well

-- the record of one call
do_one : (m : Option Record) (b : List ℕ) → do_all (option_to_list m) b ≡ doing m b
unfolding do_all doing or_else
do_one None b = refl
do_one (Some r) b = rw append-nil

-- a call that absorbs and does adds what it absorbs, its record done
answered_adds : (b : List ℕ) (t : Taken) (c : Call) (a : Absorbing)
    → tally (done_for b t) c (answering a (done_for b t).store c.buffer) ≡ done_for b (counted t c.piece a)
unfolding tally answering done_for counted
answered_adds b t c a =
    let before : List ℕ = (do_all t.divided.records b).store in
    rw (
      do_more t.divided.records (option_to_list a.completed) b,
      do_one a.completed before,
      take_laid (doing a.completed before).reply c.buffer,
    )

-- a refused call adds nothing
refused_adds : (t : Total) (c : Call) → tally t c (refusing 3 t.feeder t.store c.buffer) ≡ t
unfolding tally refusing
refused_adds t c = rw (append-nil t.used, append-nil t.replies, add-zero)

-- ---- lists taken apart

-- calls in two goes
call_more : (t : Total) (cs ds : List Call) → call_all t (cs ++ ds) ≡ call_all (call_all t cs) ds
unfolding call_all
call_more t [] ds = refl
call_more t (c ∷ cs) ds = call_more (tally t c (answer_to t c)) cs ds

join_bytes : (cs ds : List Call) → AllBytes cs → AllBytes ds → AllBytes (cs ++ ds)
join_bytes [] ds p q = q
join_bytes (c ∷ cs) ds p q = (p.0, join_bytes cs ds p.1 q)

-- the calls that offer bytes bring bytes
offering_bytes : (n : ℕ) (buffers : ℕ → List ℕ) (piece : List ℕ) (t : Total) → Bytes piece → AllBytes (offering n buffers piece t)
unfolding offering
offering_bytes zero buffers piece t bs = tt
offering_bytes (suc n) buffers [] t bs = tt
offering_bytes (suc n) buffers (x ∷ s) t bs =
    let c : Call = record { piece = x ∷ s; buffer = buffers 0 } in
    let u : ℕ = (answer_to t c).fed.used in
    (bs, offering_bytes n (λ k. buffers (suc k)) (drop u (x ∷ s)) (tally t c (answer_to t c)) (bytes_drop u (x ∷ s) bs))

pub offering_all_bytes : (buffers : ℕ → List ℕ) (ps : List (List ℕ)) (t : Total) → ((i : ℕ) → Bytes (get_or ps i [])) → AllBytes (offering_all buffers ps t)
unfolding offering_all
offering_all_bytes buffers [] t bs = tt
offering_all_bytes buffers (p ∷ ps) t bs =
    let cs : List Call = offering (length p) buffers p t in
    let later : ℕ → List ℕ = λ k. buffers (length cs + k) in
    join_bytes cs (offering_all later ps (call_all t cs)) (offering_bytes (length p) buffers p t (bs 0))
    (offering_all_bytes later ps (call_all t cs) (λ i. bs (suc i)))

-- ---- one call after a list of calls

-- a number is not below another and at least it
clash {ℓ} : {A : Type ℓ} {m n : ℕ} → m < n → n ≤ m → A
clash l h = impossible (omega arith)

-- what absorbing calls have come to is the division of the bytes used, and these are bytes
pub record Reached (t : Taken) : Type 0 where
  pub divides : Divides t
  pub bytes : Bytes t.used

-- one call more; a refused one takes nothing
abbrev after : Taken → Call → Taken
after t c = cond (ltb (length c.buffer) buffer_least) t (counted t c.piece (next t c.piece))

accepts : (t : Taken) (c : Call) (cs : List Call) → absorb_all (after t c) (accepted_pieces cs) ≡ absorb_all t (accepted_pieces (c ∷ cs))
unfolding absorb_all accepted_pieces
accepts t c cs = go (ltb (length c.buffer) buffer_least)
  where
    go : (small : Bool)
        → absorb_all (cond small t (counted t c.piece (next t c.piece))) (accepted_pieces cs)
        ≡ absorb_all t (cond small (accepted_pieces cs) (c.piece ∷ accepted_pieces cs))
    go true = refl
    go false = refl

after_reached : (t : Taken) (c : Call) → Reached t → Bytes c.piece → Reached (after t c)
unfolding counted
after_reached t c r bs = go (ltb (length c.buffer) buffer_least)
  where
    u : ℕ
    u = (next t c.piece).used

    go : (small : Bool) → Reached (cond small t (counted t c.piece (next t c.piece)))
    go true = r
    go false =
        record {
          divides = next_divides t r.divides c.piece;
          bytes = bytes_append t.used (take u c.piece) r.bytes (bytes_take u c.piece bs);
        }

module _ (b : List ℕ) (well : well_formed b ≡ true) where
  module _ (t : Taken) (r : Reached t) (c : Call) where
    abbrev refusal : Answer
    refusal = refusing 3 (done_for b t).feeder (done_for b t).store c.buffer

    abbrev answer : Answer
    answer = answering (next t c.piece) (done_for b t).store c.buffer

    -- 1 and 2 are not answered
    answered : answer_to (done_for b t) c ≡ cond (ltb (length c.buffer) buffer_least) refusal answer
    unfolding answer_to feed checks first_applying or_else done_for next
    answered =
        rw (left, store_well, waiting_back t.divided.rest) (go (ltb (length c.buffer) buffer_least))
      where
        left : is_left (state_of t.divided.rest) ≡ true
        left = rw r.divides (rest_left t.used r.bytes)

        store_well : well_formed (do_all t.divided.records b).store ≡ true
        store_well = rw r.divides (unfold divide in records_well 0 t.used r.bytes b well)

        go : (small : Bool)
            → or_else (cond small (Some 3) None) answer (λ n. refusing n (done_for b t).feeder (done_for b t).store c.buffer)
            ≡ cond small refusal answer
        go true = refl
        go false = refl

    -- what is said of the next call
    pub call_answered : Answered (done_for b t) c (answer_to (done_for b t) c)
    unfolding done_for
    call_answered = rw answered (go (ltb (length c.buffer) buffer_least) refl)
      where
        go : (small : Bool) → ltb (length c.buffer) buffer_least ≡ small → Answered (done_for b t) c (cond small refusal answer)
        go true e =
            let l : length c.buffer < buffer_least = ltb-true (length c.buffer) buffer_least e in
            record {
              refused = λ h. (unfold refusing in refl, refusing_leaves 3 (done_for b t).feeder (done_for b t).store c.buffer);
              accepted = λ h. clash l h;
              uses = λ h. clash l h;
              some_used = λ h p. clash l h;
            }
        go false e =
            record {
              refused = λ h. clash h (ltb-false (length c.buffer) buffer_least e);
              accepted = λ h. unfold answering in refl;
              uses = λ h. unfold answering in next_uses t r.divides c.piece;
              some_used = λ h p. unfold answering in next_some t r.divides c.piece p;
            }

    -- what the calls with it have come to
    call_done : tally (done_for b t) c (answer_to (done_for b t) c) ≡ done_for b (after t c)
    call_done = rw answered (go (ltb (length c.buffer) buffer_least))
      where
        go : (small : Bool)
            → tally (done_for b t) c (cond small refusal answer) ≡ done_for b (cond small t (counted t c.piece (next t c.piece)))
        go true = refused_adds (done_for b t) c
        go false = answered_adds b t c (next t c.piece)

  -- ---- lists of calls

  pub untaken_reached : Reached untaken
  untaken_reached = record { divides = untaken_divides; bytes = unfold untaken in refl }

  -- the calls' absorbing, and then its records done, for any list of calls
  pub all_done : (t : Taken) → Reached t → (cs : List Call) → AllBytes cs
      → (call_all (done_for b t) cs ≡ done_for b (absorb_all t (accepted_pieces cs))) × Reached (absorb_all t (accepted_pieces cs))
  unfolding call_all absorb_all accepted_pieces
  all_done t r [] bs = (refl, r)
  all_done t r (c ∷ cs) bs =
      rw (call_done t r c, ← (accepts t c cs)) (all_done (after t c) (after_reached t c r bs.0) cs bs.1)

  -- from the start
  module _ (cs : List Call) (bytes : AllBytes cs) where
    abbrev end : Taken
    end = absorb_all untaken (accepted_pieces cs)

    pub end_reached : Reached end
    end_reached = (all_done untaken untaken_reached cs bytes).1

    -- The records' half: the calls come to what their absorbing comes to, with its records done in order.
    pub calls_done : call_all (begin b) cs ≡ done_for b end
    unfolding begin fresh done_for do_all untaken
    calls_done = (all_done untaken untaken_reached cs bytes).0

  -- the two halves together
  pub halves_uncut : (t : Taken) → Divides t → done_for b t ≡ uncut t.used b
  unfolding done_for uncut meaning
  halves_uncut t d = rw d

  -- ---- offering pieces until they are used up

  -- n calls use a piece of at most n bytes up
  abbrev UsedUp : ℕ → (ℕ → List ℕ) → Type 0
  UsedUp n buffers =
      (piece : List ℕ) (t : Taken) → length piece ≤ n → Bytes piece → Reached t
      → (call_all (done_for b t) (offering n buffers piece (done_for b t))).used ≡ t.used ++ piece

  -- one call leaves less of a piece
  offering_one : (n : ℕ) (buffers : ℕ → List ℕ) → buffer_least ≤ length (buffers 0) → UsedUp n (λ k. buffers (suc k))
      → (x : ℕ) (s : List ℕ) (t : Taken) → length s ≤ n → Bytes (x ∷ s) → Reached t
      → (call_all (done_for b t) (offering (suc n) buffers (x ∷ s) (done_for b t))).used ≡ t.used ++ (x ∷ s)
  unfolding offering call_all
  offering_one n buffers large later x s t l bs r =
      rw (call_done t r c) (later (drop u (x ∷ s)) (after t c) fewer (bytes_drop u (x ∷ s) bs) (after_reached t c r bs))
      ∙ added
      ∙ append_assoc t.used (take u (x ∷ s)) (drop u (x ∷ s))
      ∙ ap (λ (y : List ℕ). t.used ++ y) (take-append-drop u (x ∷ s))
    where
      c : Call
      c = record { piece = x ∷ s; buffer = buffers 0 }

      u : ℕ
      u = (answer_to (done_for b t) c).fed.used

      added : (after t c).used ++ drop u (x ∷ s) ≡ t.used ++ take u (x ∷ s) ++ drop u (x ∷ s)
      added = unfold done_for tally in ap (λ (y : Total). y.used ++ drop u (x ∷ s)) (sym (call_done t r c))

      fewer : length (drop u (x ∷ s)) ≤ n
      fewer =
          let Some : 1 ≤ u = (call_answered t r c).some_used large (omega arith) in
          rw (length-drop u (x ∷ s)) (omega arith)

  offering_used : (n : ℕ) (buffers : ℕ → List ℕ) → ((k : ℕ) → buffer_least ≤ length (buffers k)) → UsedUp n buffers
  unfolding offering call_all
  offering_used zero buffers large piece t l bs r =
      let e : piece ≡ [] = sym (take_all 0 piece l) in
      rw e (unfold done_for in sym (append-nil t.used))
  offering_used (suc n) buffers large piece t l bs r = go piece l bs (offering_used n (λ k. buffers (suc k)) (λ k. large (suc k)))
    where
      go : (p : List ℕ) → length p ≤ suc n → Bytes p → UsedUp n (λ k. buffers (suc k))
          → (call_all (done_for b t) (offering (suc n) buffers p (done_for b t))).used ≡ t.used ++ p
      go [] l bs later = unfold done_for in sym (append-nil t.used)
      go (x ∷ s) l bs later = offering_one n buffers (large 0) later x s t (omega arith) bs r

  -- the pieces of a stream are used up
  pub offering_all_used : (buffers : ℕ → List ℕ) → ((k : ℕ) → buffer_least ≤ length (buffers k))
      → (ps : List (List ℕ)) (t : Taken) → ((i : ℕ) → Bytes (get_or ps i [])) → Reached t
      → (call_all (done_for b t) (offering_all buffers ps (done_for b t))).used ≡ t.used ++ flatten ps
  unfolding offering_all flatten
  offering_all_used buffers large [] t bs r = unfold call_all done_for in sym (append-nil t.used)
  offering_all_used buffers large (p ∷ ps) t bs r =
      rw (call_more (done_for b t) cs (offering_all later ps (call_all (done_for b t) cs)), first.0)
      (offering_all_used later (λ k. large (length cs + k)) ps (absorb_all t (accepted_pieces cs)) (λ i. bs (suc i)) first.1)
      ∙ ap (λ (s : List ℕ). s ++ flatten ps) used
      ∙ append_assoc t.used p (flatten ps)
    where
      cs : List Call
      cs = offering (length p) buffers p (done_for b t)

      later : ℕ → List ℕ
      later = λ k. buffers (length cs + k)

      first : (call_all (done_for b t) cs ≡ done_for b (absorb_all t (accepted_pieces cs))) × Reached (absorb_all t (accepted_pieces cs))
      first = all_done t r cs (offering_bytes (length p) buffers p (done_for b t) (bs 0))

      used : (absorb_all t (accepted_pieces cs)).used ≡ t.used ++ p
      used =
          unfold done_for in
          ap (λ (x : Total). x.used) (sym first.0) ∙ offering_used (length p) buffers large p t (omega arith) (bs 0) r

-- ---- calls as they ran

-- calls whose answers are those that are promised come to what the definition says
pub ran_as_called : {t u : Total} {cs : List Call} → Ran t cs u → u ≡ call_all t cs
unfolding call_all answer_to
ran_as_called ended = refl
ran_as_called {t} {cs = c ∷ cs} (called a e r) = ran_as_called r ∙ ap (λ (x : Answer). call_all (tally t c x) cs) e
