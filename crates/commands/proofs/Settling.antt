-- How an effect settles: what is replied and what the store then holds, by the first of 20 to 24 that applies.
use Rattle.std.specs.Prelude.{Option, None, Some, Result, Ok, Err, ⊤}
use mathlib.Core.Path.{◌≡◌, refl, ap, ◌∙◌}
use mathlib.Core.Bool.{Bool, true, false, cond, not, ◌||◌}
use mathlib.Core.List.{List, [], ◌∷◌}
use Prim.Native.Nat.{ℕ, ◌≤◌, ◌<◌}
use lib.Dec.{ltb}
use lib.ListN.{get_or}
use native.Mathlib.Omega.{arith}
use borrow.Author.Tests.{lt-ltb, le-ltb}
use Rattle.wire.specs.Lists.{any, or_else}
use Rattle.wire.specs.Integers.{lowest64, highest64, within}
use Rattle.wire.specs.Replies.{integer}
use Rattle.wire.specs.declared.integers.Signed.{Signed}
use Rattle.wire.specs.Promises.{integer_of, Laid}
use Rattle.wire.proofs.Lists.{impossible, any_at, both_ways}
use Rattle.store.specs.Layout.{version_most}
use Rattle.store.specs.Store.{Entry, Slot, Store, with_slots, decode, well_formed, holds}
use Rattle.store.specs.Time.{before, live, live_slot, room_slot, slot_for, put}
use Rattle.store.specs.Promises.{Holds, with_slot}
use Rattle.store.proofs.Put.{Place, slot_place}
use Rattle.store.proofs.Finding.{found_at, found_nothing}
use Rattle.commands.specs.declared.Question.{Question}
use Rattle.commands.specs.declared.refusal.Refusal.{Refusal}
use Rattle.commands.specs.declared.refusal.Refusal.TheVariants.{StaleVersion, HashNotInteger, SumOverflow, VersionOverflow, StoreFull}
use Rattle.commands.specs.declared.field.Settled.{Settled}
use Rattle.commands.specs.declared.field.Settled.TheVariants as settleds
use Rattle.wire.specs.Checks.{◌when◌, first_applying}
use Rattle.commands.specs.Effect.{Effect, answer, writing, change, change_all}
use Rattle.commands.specs.Effect.Change.{write}
use Rattle.commands.specs.Execute.{Outcome, refused_with, done_with, settle, passes, adds, added, room, late_checks}
use Rattle.commands.specs.Refusal.{error_line}
use Rattle.commands.specs.ParsePromises.{refusal_number}
use Rattle.commands.specs.Promises.{Does, Wrote, Settles, Changes, settled_reply, tellable, look_for, versioned, refused_as}
use Rattle.wire.proofs.Checks.{check_applies, check_passed}
use Rattle.commands.proofs.Room.{keep_set_less, slot_none}
use Rattle.commands.proofs.Acts.{holds_self}

-- ---- settled

-- a reply that is no question
module _ {o : Outcome} {before after : List ℕ} (h : Holds after o.store) where
  refused_settles : (r : Refusal) (about : Question → List ℕ) → o.reply ≡ error_line (refusal_number r) → Settles about o before after (Err r)
  unfolding tellable settled_reply
  refused_settles r about e = record { reply = e; told = refl; holds = h; asked = λ q x. cc }

  replied_settles : (z : Signed) → within lowest64 highest64 (integer_of z) ≡ true → (about : Question → List ℕ)
      → o.reply ≡ settled_reply about (Ok (settleds.Replied z)) → Settles about o before after (Ok (settleds.Replied z))
  unfolding tellable
  replied_settles z k about e = record { reply = e; told = k; holds = h; asked = λ q x. cc }

-- Equal effects settle alike.
pub changes_as : (time : ℕ) {E D : Effect} {b after : List ℕ} {r : Result Settled Refusal} → E ≡ D → Changes time D b after r → Changes time E b after r
changes_as time h w = rw h w

-- ---- refused, or nothing to change

module _ (time : ℕ) (E : Effect) {b : List ℕ} (w : well_formed b ≡ true) where
  changes_refused : (r : Refusal) → first_applying (late_checks time E (decode b).slots) ≡ Some (refusal_number r) → Changes time E b b (Err r)
  unfolding settle or_else
  changes_refused r h about = rw h (refused_settles (holds_self w) r about refl)

  -- 20 applies
  pub changes_stale : E.stale ≡ true → Changes time E b b (Err StaleVersion)
  unfolding late_checks refusal_number
  changes_stale h = changes_refused StaleVersion (check_applies 20 _ h)

  module _ (f : E.stale ≡ false) where
    -- 21 is the first
    pub changes_unread : E.not_integer ≡ true → Changes time E b b (Err HashNotInteger)
    unfolding late_checks refusal_number
    changes_unread h = changes_refused HashNotInteger (check_passed 20 _ f ∙ check_applies 21 _ h)

    -- 22 is the first
    pub changes_overflow : E.not_integer ≡ false → E.overflows ≡ true → Changes time E b b (Err SumOverflow)
    unfolding late_checks refusal_number
    changes_overflow g h =
        changes_refused SumOverflow (check_passed 20 _ f ∙ check_passed 21 _ g ∙ check_applies 22 _ h)

answer_clear : (time : ℕ) (y : List ℕ) (ss : List Slot) → first_applying (late_checks time (answer y) ss) ≡ None
unfolding late_checks first_applying any added
answer_clear time y ss = rw (le-ltb (room time ss) 0 (omega arith)) refl

-- A reply and no change.
pub answer_settle : (time : ℕ) (y : List ℕ) (s : Store) → settle time (answer y) s ≡ done_with y s
unfolding settle or_else change_all
answer_settle time y s = rw (answer_clear time y s.slots) refl

pub does_answer : (time : ℕ) {b y d x : List ℕ} {r : ℕ} → well_formed b ≡ true → Laid y d x r → Does (settle time (answer y) (decode b)) b d x r
does_answer time {b} {y} w l = rw (answer_settle time y (decode b)) (record { laid = l; holds = holds_self w })

pub changes_answer : (time : ℕ) (z : Signed) {b : List ℕ} → well_formed b ≡ true → within lowest64 highest64 (integer_of z) ≡ true
    → Changes time (answer (integer (integer_of z))) b b (Ok (settleds.Replied z))
unfolding settled_reply
changes_answer time z {b} w k about = rw (answer_settle time (integer (integer_of z)) (decode b)) (replied_settles (holds_self w) z k about refl)

-- ---- one entry written

-- a name that is given a slot, though none holds it, finds room
slot_room : (time : ℕ) (k f : List ℕ) (ss : List Slot) (i : ℕ) → slot_for time k f ss ≡ Some i → any (holds k f) ss ≡ false → 1 ≤ room time ss
unfolding room room_slot live_slot live before or_else
slot_room time k f ss i h n =
    omega (arith, keep_set_less (room_slot time) None (Some (versioned 0)) ss i p.inside (rw (go (live_slot time (get_or ss i None)) refl) refl) refl)
  where
    p : Place time k f ss i
    p = slot_place time k f ss i h

    go : (t : Bool) → live_slot time (get_or ss i None) ≡ t → live_slot time (get_or ss i None) ≡ false
    go true q = both_ways (p.own q) (any_at (holds k f) ss None n i p.inside)
    go false q = q

module _ (time : ℕ) (e : Entry) (y : List ℕ) (ss : List Slot) where
  late_of : Option ℕ
  late_of = first_applying (late_checks time (writing false e y) ss)

  -- only 23 and 24 can refuse it
  late_write : late_of ≡ first_applying (23 when any passes (write e ∷ []) ∷ 24 when ltb (room time ss) (added (write e ∷ []) ss) ∷ [])
  unfolding late_of late_checks
  late_write = check_passed 20 _ refl ∙ check_passed 21 _ refl ∙ check_passed 22 _ refl

  passing : version_most < e.version → late_of ≡ Some 23
  unfolding any passes
  passing h = late_write ∙ check_applies 23 _ (rw (lt-ltb version_most e.version h))

  module _ (l : e.version ≤ version_most) where
    late_last : late_of ≡ first_applying (24 when ltb (room time ss) (added (write e ∷ []) ss) ∷ [])
    unfolding any passes
    late_last = late_write ∙ check_passed 23 _ (rw (le-ltb version_most e.version l))

    full : slot_for time e.key e.field ss ≡ None → late_of ≡ Some 24
    unfolding any added adds
    full h = let n = slot_none time e.key e.field ss h in late_last ∙ check_applies 24 [] (rw (n.0, n.1))

    clear : (i : ℕ) → slot_for time e.key e.field ss ≡ Some i → late_of ≡ None
    unfolding first_applying any added adds
    clear i h = late_last ∙ check_passed 24 [] (go (any (holds e.key e.field) ss) refl)
      where
        go : (t : Bool) → any (holds e.key e.field) ss ≡ t → ltb (room time ss) (cond (not (t || false)) 1 0) ≡ false
        go true q = le-ltb (room time ss) 0 (omega arith)
        go false q = le-ltb (room time ss) 1 (slot_room time e.key e.field ss i h q)

-- what a write comes to, by its outcome
wrote : (time : ℕ) (e : Entry) (b : List ℕ) (o : Outcome) {after : List ℕ} {r : Result ⊤ Refusal} → settle time (writing false e []) (decode b) ≡ o
    → refused_as r ≡ o.refusal → Holds after o.store → Wrote time e b after r
wrote time e b o h q x = record { answer = rw h q; holds = rw h x }

module _ (time : ℕ) (e : Entry) {b : List ℕ} (w : well_formed b ≡ true) where
  -- Its version passes the largest.
  pub wrote_passes : version_most < e.version → Wrote time e b b (Err VersionOverflow)
  unfolding settle or_else late_of refused_as refusal_number
  wrote_passes h = wrote time e b (refused_with 23 (decode b)) (rw (passing time e [] (decode b).slots h) refl) refl (holds_self w)

  module _ (l : e.version ≤ version_most) where
    -- There is no place for it.
    pub wrote_full : None ≡ look_for time e.key e.field (decode b).slots → Wrote time e b b (Err StoreFull)
    unfolding settle or_else late_of refused_as refusal_number look_for
    wrote_full h =
        let given = found_nothing (slot_for time e.key e.field (decode b).slots) h in
        wrote time e b (refused_with 24 (decode b)) (rw (full time e [] (decode b).slots l given) refl) refl (holds_self w)

    -- It stands in its place.
    pub wrote_done : {i : ℕ} {d : List ℕ} → Some i ≡ look_for time e.key e.field (decode b).slots
        → Holds d (with_slot i (Some e) (decode b)) → {x : ⊤} → Wrote time e b d (Ok x)
    unfolding settle or_else late_of refused_as look_for change_all change put
    wrote_done {i} h x =
        let given = found_at (slot_for time e.key e.field (decode b).slots) i h in
        wrote time e b (done_with [] (with_slot i (Some e) (decode b))) (rw (clear time e [] (decode b).slots l i given, given) refl) refl x

-- A write that is replied with an integer settles as it went.
module _ (time : ℕ) (e : Entry) (z : Signed) (b : List ℕ) where
  abbrev late : Option ℕ
  late = first_applying (late_checks time (writing false e []) (decode b).slots)

  abbrev done : List ℕ → Outcome
  done y = done_with y (with_slots (change_all time (write e ∷ []) (decode b).slots) (decode b))

  pub wrote_replied : within lowest64 highest64 (integer_of z) ≡ true → {after : List ℕ} {x : ⊤} → Wrote time e b after (Ok x)
      → Changes time (writing false e (integer (integer_of z))) b after (Ok (settleds.Replied z))
  unfolding settle or_else refused_as late_checks settled_reply
  wrote_replied k {after} h about = go late h.answer h.holds
    where
      go : (o : Option ℕ) → None ≡ (or_else o (done []) (λ m. refused_with m (decode b))).refusal
          → Holds after (or_else o (done []) (λ m. refused_with m (decode b))).store
          → Settles about (or_else o (done (integer (integer_of z))) (λ m. refused_with m (decode b))) b after (Ok (settleds.Replied z))
      go None a s = replied_settles s z k about refl
      go (Some m) a s = impossible cc

  pub wrote_refused : {after : List ℕ} {r : Refusal} → Wrote time e b after (Err r) → Changes time (writing false e (integer (integer_of z))) b after (Err r)
  unfolding settle or_else refused_as late_checks settled_reply
  wrote_refused {after} {r} h about = go late h.answer h.holds
    where
      go : (o : Option ℕ) → Some (refusal_number r) ≡ (or_else o (done []) (λ m. refused_with m (decode b))).refusal
          → Holds after (or_else o (done []) (λ m. refused_with m (decode b))).store
          → Settles about (or_else o (done (integer (integer_of z))) (λ m. refused_with m (decode b))) b after (Err r)
      go None a s = impossible cc
      go (Some m) a s = let n : m ≡ refusal_number r = cc in refused_settles s r about (ap error_line n)
