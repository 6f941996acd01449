-- A command on one field: the look for it, its deed on what that leaves, and the reply.
use Rattle.std.specs.Prelude.{Option, Result, Ok, Err}
use mathlib.Core.Path.{◌≡◌, refl, subst, ◌∙◌}
use mathlib.Core.Bool.{Bool, true, false, ◌||◌}
use mathlib.Core.List.{List, [], ◌∷◌}
use Prim.Native.Nat.{ℕ, ◌≤◌}
use native.Mathlib.Omega.{arith}
use lib.Dec.{ltb}
use lib.ListN.{length}
use borrow.Author.Tests.{ltb-false}
use Rattle.wire.specs.Lists.{any}
use Rattle.wire.specs.Integers.{within}
use Rattle.wire.specs.Replies.{integer}
use Rattle.wire.specs.declared.integers.Signed.{Signed}
use Rattle.wire.specs.Promises.{integer_of, Laid}
use Rattle.wire.proofs.Lists.{or_left, or_right}
use Rattle.store.specs.Layout.{key_most, field_most, value_most, time_limit}
use Rattle.store.specs.Store.{Entry, Store, decode}
use Rattle.store.specs.Promises.{Holds}
use Rattle.commands.specs.declared.Versioning.{Versioning}
use Rattle.commands.specs.declared.Condition.{Condition}
use Rattle.commands.specs.declared.Condition.TheVariants.{Always}
use Rattle.commands.specs.declared.Question.{Question}
use Rattle.commands.specs.declared.Sum.{Sum}
use Rattle.commands.specs.declared.FieldDeed.{FieldDeed}
use Rattle.commands.specs.declared.FieldDeed.TheVariants as deeds
use Rattle.commands.specs.declared.Stamping.{Stamping}
use Rattle.commands.specs.declared.refusal.Refusal.{Refusal}
use Rattle.commands.specs.declared.field.Settled.{Settled}
use Rattle.commands.specs.declared.field.Settled.TheVariants as settleds
use Rattle.commands.specs.Refusal.{buffer_least, error_line}
use Rattle.commands.specs.Command.{Deed, key_of, fields_of, values_of, deed_values}
use Rattle.commands.specs.Command.Deed.{assign, increment, expire}
use Rattle.commands.specs.Command.Command.{on_field}
use Rattle.commands.specs.Parse.{too_long, beyond, deed_lifetime, on_deed}
use Rattle.commands.specs.Effect.{Effect, barred, set_effect, increment_effect, expire_effect, persist_effect, renumber_effect, deed_effect, effect}
use Rattle.commands.specs.Execute.{settle, run_on, swept}
use Rattle.commands.specs.ParsePromises.{refusal_number, deed_of}
use Rattle.commands.specs.Promises.{Looked, Sought, Storable, WithinLimits, Does, Settles, Changes, answer_most, answer_about, answers_about, entry_for, settled_reply, tellable}
use Rattle.commands.proofs.Acts.{holds_self}
use Rattle.commands.proofs.VersionPlans.{barred_is}
use Rattle.commands.proofs.Settling.{answer_settle, changes_as, changes_answer}
use Rattle.commands.proofs.FieldDeeds.{may_integer, sought_entry}

-- ---- what the checks leave

-- a key and a field that are not too long, and no value that is
short_names : (k f : List ℕ) (d : Deed) → too_long (on_field k f d) ≡ false
    → (length k ≤ key_most) × (length f ≤ field_most) × (any (λ w. ltb value_most (length w)) (deed_values d) ≡ false)
unfolding too_long key_of fields_of values_of any
short_names k f d h =
    let tooKey : Bool = ltb key_most (length k) in
    let tooField : Bool = ltb field_most (length f) || false in
    let tooValue : Bool = any (λ w. ltb value_most (length w)) (deed_values d) in
    let a : (tooKey || tooField) ≡ false = or_left (tooKey || tooField) tooValue h in (
      ltb-false key_most (length k) (or_left tooKey tooField a),
      ltb-false field_most (length f) (or_left (ltb field_most (length f)) false (or_right tooKey tooField a)),
      or_right (tooKey || tooField) tooValue h,
    )

module _ {k f : List ℕ} (v : List ℕ) {deed : FieldDeed} (p : WithinLimits (on_field k f (deed_of v deed))) where
  pub limits_assign : {c : Condition} {s : Stamping} → deed ≡ deeds.Assign c s → Storable k f v s.lifetime
  unfolding deed_of deed_values any on_deed deed_lifetime
  limits_assign {c} {s} e =
      let q : WithinLimits (on_field k f (assign v c s.versioning s.lifetime)) = rw e at p in
      let a = short_names k f (assign v c s.versioning s.lifetime) q.short in
      record {
        short = record { key = a.0; field = a.1; value = ltb-false value_most (length v) (or_left (ltb value_most (length v)) false a.2) };
        lifetime = q.timed;
      }

  pub limits_increment : {u : Sum} {s : Stamping} → deed ≡ deeds.Increment u s → Storable k f [] s.lifetime
  unfolding deed_of on_deed deed_lifetime
  limits_increment {u} {s} e =
      let d : Deed = increment (integer_of u.amount) (integer_of u.least) (integer_of u.greatest) s.versioning s.lifetime in
      let q : WithinLimits (on_field k f d) = rw e at p in
      let a = short_names k f d q.short in
      record { short = record { key = a.0; field = a.1; value = omega arith }; lifetime = q.timed }

  pub limits_expire : {t : ℕ} {n : Versioning} → deed ≡ deeds.Expire t n → t ≤ time_limit
  unfolding deed_of on_deed deed_lifetime beyond
  limits_expire {t} {n} e =
      let q : WithinLimits (on_field k f (expire t n)) = rw e at p in
      ltb-false time_limit t q.timed

-- ---- the deed

always_free : (o : Option Entry) → barred Always o ≡ false
unfolding barred
always_free o = refl

module _ (time : ℕ) (v : List ℕ) {b k f : List ℕ} {found : Option ℕ} (s : Sought b k f found) (deed : FieldDeed) where
  -- what a deed on one field does
  abbrev deed_effect_in : Effect
  deed_effect_in = effect time (on_field k f (deed_of v deed)) (decode b).slots

  -- what settles an equal effect settles it
  settled_as : {E : Effect} {after : List ℕ} {r : Result Settled Refusal} → deed_effect_in ≡ E → Changes time E b after r
      → Settles (answers_about time after k f) (settle time deed_effect_in (decode b)) b after r
  settled_as {after = after} e w = changes_as time e w (answers_about time after k f)

  module _ {c : Condition} {st : Stamping} (e : deed ≡ deeds.Assign c st) {q : Bool} (h : q ≡ barred c (entry_for [] found)) where
    assign_as : deed_effect_in ≡ set_effect k f v c st.versioning st.lifetime (entry_for (decode b).slots found)
    unfolding effect deed_effect deed_of
    assign_as = rw (e, sought_entry s) refl

    pub settled_barred : q ≡ true
        → Settles (answers_about time b k f) (settle time deed_effect_in (decode b)) b b (Ok (settleds.Replied (record { negative = true; magnitude = 1 })))
    unfolding set_effect integer_of within
    settled_barred y =
        settled_as (assign_as ∙ rw (barred_is c (decode b).slots found h, y) refl) (changes_answer time (record { negative = true; magnitude = 1 }) s.well refl)

    pub settled_assign : q ≡ false → {after : List ℕ} {r : Result Settled Refusal} → Changes time (set_effect k f v Always st.versioning st.lifetime (entry_for (decode b).slots found)) b after r
        → Settles (answers_about time after k f) (settle time deed_effect_in (decode b)) b after r
    unfolding set_effect
    settled_assign y w = settled_as (assign_as ∙ rw (barred_is c (decode b).slots found h, y, always_free) refl) w

  pub settled_increment : {u : Sum} {st : Stamping} → deed ≡ deeds.Increment u st → {after : List ℕ} {r : Result Settled Refusal}
      → Changes time (increment_effect k f (integer_of u.amount) (integer_of u.least) (integer_of u.greatest) st.versioning st.lifetime (entry_for (decode b).slots found)) b after r
      → Settles (answers_about time after k f) (settle time deed_effect_in (decode b)) b after r
  unfolding effect deed_effect deed_of
  settled_increment e w = settled_as (rw (e, sought_entry s) refl) w

  pub settled_expire : {t : ℕ} {n : Versioning} → deed ≡ deeds.Expire t n → {after : List ℕ} {r : Result Settled Refusal}
      → ((u : ℕ) → Changes u (expire_effect t n (entry_for (decode b).slots found)) b after r)
      → Settles (answers_about time after k f) (settle time deed_effect_in (decode b)) b after r
  unfolding effect deed_effect deed_of
  settled_expire e w = settled_as (rw (e, sought_entry s) refl) (w time)

  pub settled_persist : deed ≡ deeds.Persist → {after : List ℕ} {r : Result Settled Refusal}
      → ((u : ℕ) → Changes u (persist_effect (entry_for (decode b).slots found)) b after r)
      → Settles (answers_about time after k f) (settle time deed_effect_in (decode b)) b after r
  unfolding effect deed_effect deed_of
  settled_persist e w = settled_as (rw (e, sought_entry s) refl) (w time)

  pub settled_renumber : {n : ℕ} → deed ≡ deeds.Renumber n → {after : List ℕ} {r : Result Settled Refusal}
      → ((u : ℕ) → Changes u (renumber_effect n (entry_for (decode b).slots found)) b after r)
      → Settles (answers_about time after k f) (settle time deed_effect_in (decode b)) b after r
  unfolding effect deed_effect deed_of
  settled_renumber e w = settled_as (rw (e, sought_entry s) refl) (w time)

  -- A question changes nothing.
  pub settled_ask : {q : Question} → deed ≡ deeds.Ask q
      → Settles (answers_about time b k f) (settle time deed_effect_in (decode b)) b b (Ok (settleds.Asked q))
  unfolding effect deed_effect deed_of settled_reply tellable answer_about
  settled_ask {q} e =
      rw (e, answer_settle time (answer_about time b k q f) (decode b))
      (record { reply = refl; told = refl; holds = holds_self s.well; asked = λ x y. refl })

-- ---- the reply

module _ {settled : Result Settled Refusal} (told : tellable settled ≡ true) {m : ℕ} (l : answer_most ≤ m) where
  pub room_replied : {z : Signed} → settled ≡ Ok (settleds.Replied z) → length (integer (integer_of z)) ≤ m
  unfolding tellable
  room_replied {z} e = may_integer (integer_of z) (rw e at told) l

module _ (about : Question → List ℕ) {settled : Result Settled Refusal} {d x : List ℕ} {r : ℕ} where
  pub laid_replied : {z : Signed} → settled ≡ Ok (settleds.Replied z) → Laid (integer (integer_of z)) d x r → Laid (settled_reply about settled) d x r
  unfolding settled_reply
  laid_replied e l = rw e l

  pub laid_refused : {n : Refusal} → settled ≡ Err n → Laid (error_line (refusal_number n)) d x r → Laid (settled_reply about settled) d x r
  unfolding settled_reply
  laid_refused e l = rw e l

  pub laid_asked : {q : Question} → settled ≡ Ok (settleds.Asked q) → Laid (about q) d x r → Laid (settled_reply about settled) d x r
  unfolding settled_reply
  laid_asked e l = rw e l

-- ---- the command

-- The least buffer has room for every reply about one field.
pub reply_room : {n : ℕ} → buffer_least ≤ n → answer_most ≤ n
reply_room l = omega arith

-- What a look found was looked for in a well-formed store,
pub looked_sought : {b k f : List ℕ} {s : Store} {found : Option ℕ} → Holds b s → Looked b k f found → Sought b k f found
looked_sought h l = record { well = h.well; looked = l }

-- and still is after a question.
pub still_sought : {b after k f : List ℕ} {found : Option ℕ} → Sought b k f found → after ≡ b → Sought after k f found
still_sought s e = rw e s

-- The look, the deed and the reply are the command.
pub field_settled : (time : ℕ) (k f v : List ℕ) (deed : FieldDeed) (s : Store) {b after d x : List ℕ} {r : Result Settled Refusal} {n : ℕ}
    → Holds b (swept time k (f ∷ []) s)
    → Settles (answers_about time after k f) (settle time (effect time (on_field k f (deed_of v deed)) (decode b).slots) (decode b)) b after r
    → Laid (settled_reply (answers_about time after k f) r) d x n
    → Does (run_on time (on_field k f (deed_of v deed)) s) after d x n
unfolding run_on key_of fields_of
field_settled time k f v deed s {after = after} {d} {x} {n = n} h w l =
    subst (λ u. Does (settle time (effect time (on_field k f (deed_of v deed)) u.slots) u) after d x n) h.means
    (record { laid = rw w.reply l; holds = w.holds })
