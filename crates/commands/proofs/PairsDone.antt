-- What an EXHMSET comes to.
use Rattle.std.specs.Prelude.{Some, Result, Ok, Err}
use mathlib.Core.Path.{◌≡◌, refl, sym, ap, ◌∙◌}
use mathlib.Core.Bool.{Bool, true, false, cond}
use mathlib.Core.List.{List}
use Prim.Native.Nat.{ℕ, ◌≤◌}
use native.Mathlib.Omega.{arith}
use lib.Dec.{ltb}
use lib.ListN.{length}
use Rattle.wire.specs.Lists.{any, or_else}
use Rattle.wire.specs.Words.{Word, words_most}
use Rattle.wire.specs.Replies.{line}
use Rattle.wire.specs.Promises.{Laid}
use Rattle.store.specs.Store.{Entry, Slot, Store, decode}
use Rattle.store.specs.Time.{live, entry_of}
use Rattle.store.specs.Promises.{Holds}
use Rattle.store.proofs.Encode.{decode_valid}
use Rattle.commands.specs.declared.refusal.Refusal.{Refusal}
use Rattle.commands.specs.declared.refusal.Refusal.TheVariants.{VersionOverflow, StoreFull}
use Rattle.commands.specs.Command.{Pair, key_of, fields_of}
use Rattle.commands.specs.Command.Command.{set_many}
use Rattle.commands.specs.Parse.{pairs_of}
use Rattle.commands.specs.Effect.{Change, writes_of, effect}
use Rattle.commands.specs.Refusal.{error_line}
use Rattle.wire.specs.Checks.{first_applying}
use Rattle.commands.specs.Execute.{swept, passes, room, added, late_checks, settle, run_on}
use Rattle.commands.specs.ParsePromises.{refusal_number}
use Rattle.commands.specs.Promises.{Does, WithinLimits, fields_in, version_in, overflowing, missing, survey_of, Placing, with_all}
use Rattle.commands.proofs.Acts.{holds_self}
use Rattle.commands.proofs.Sound.{pair_count}
use Rattle.commands.proofs.Names.{named, named_flip, added_missing}
use Rattle.commands.proofs.Sweep.{found_alive}
use Rattle.commands.proofs.KeyDone.{swept_does}
use Rattle.commands.proofs.PairOverflow.{pairs_overflow}

-- bytes without the dead entries that an EXHMSET names
module _ (now : ℕ) (k : Word) (ws : List Word) (s : Store) {b : List ℕ} (h : Holds b (swept now k (fields_in ws) s)) where
  abbrev pairs : List Pair
  pairs = pairs_of ws

  abbrev slots : List Slot
  slots = (decode b).slots

  -- what is written
  abbrev changes : List Change
  changes = writes_of now k pairs slots

  -- what is held of its fields is live
  alive : (g : Word) → named g (fields_in ws) ≡ true → (x : Entry) → entry_of k g slots ≡ Some x → live now x ≡ true
  alive g n x q =
      found_alive now k (fields_in ws) s.slots g x (named_flip g (fields_in ws) ∙ n)
      (ap (λ (t : Store). entry_of k g t.slots) (sym h.means) ∙ q)

  -- what settles on the bytes is what the command does with the store
  settles : {after d x : List ℕ} {r : ℕ} → Does (settle now (effect now (set_many k pairs) slots) (decode b)) after d x r
      → Does (run_on now (set_many k pairs) s) after d x r
  unfolding key_of fields_of fields_in
  settles = swept_does now (set_many k pairs) s h

  module _ (few : length ws ≤ words_most) {v : Result ℕ Refusal} (survey : v ≡ survey_of k (fields_in ws) slots) where
    -- 23 applies where the survey says so
    passing_is : any passes changes ≡ overflowing (version_in k slots) (fields_in ws)
    unfolding fields_in
    passing_is = pairs_overflow now k pairs slots (omega (arith, pair_count ws)) (decode_valid b h.well).apart alive

    -- 23
    pub many_over : {n : Refusal} → v ≡ Err n → {d x : List ℕ} {r : ℕ} → Laid (error_line (refusal_number n)) d x r → Does (run_on now (set_many k pairs) s) b d x r
    unfolding settle or_else late_checks first_applying effect survey_of refusal_number
    many_over {n} q {d} {x} {r} l =
        let over = go (overflowing (version_in k slots) (fields_in ws)) (sym q ∙ survey) in
        settles (rw (passing_is ∙ over.0) (record { laid = rw over.1 at l; holds = holds_self h.well }))
      where
        go : (t : Bool) → Err n ≡ cond t (Err VersionOverflow) (Ok (missing k (fields_in ws) slots)) → (t ≡ true) × (n ≡ VersionOverflow)
        go true e = (refl, cc)
        go false e = (cc, cc)

    module _ {n : ℕ} (q : v ≡ Ok n) where
      told : (any passes changes ≡ false) × (added changes slots ≡ n)
      unfolding survey_of fields_in
      told = go (overflowing (version_in k slots) (fields_in ws)) refl (sym q ∙ survey)
        where
          go : (t : Bool) → overflowing (version_in k slots) (fields_in ws) ≡ t
              → Ok n ≡ cond t (Err VersionOverflow) (Ok (missing k (fields_in ws) slots))
              → (any passes changes ≡ false) × (added changes slots ≡ n)
          go true w e = (cc, cc)
          go false w e = let m : missing k (fields_in ws) slots ≡ n = cc in (passing_is ∙ w, added_missing now k pairs slots slots ∙ m)

      -- the pairs can be written
      pub many_placing : WithinLimits (set_many k pairs) → Placing now k pairs b
      many_placing p = record { well = h.well; short = p.short; numbered = told.0 }

      module _ {full : Bool} (e : full ≡ ltb (room now slots) n) where
        -- 24
        pub many_full : full ≡ true → {d x : List ℕ} {r : ℕ} → Laid (error_line (refusal_number StoreFull)) d x r → Does (run_on now (set_many k pairs) s) b d x r
        unfolding settle or_else late_checks first_applying effect refusal_number
        many_full g l = settles (rw (told.0, told.1, ← e, g) (record { laid = l; holds = holds_self h.well }))

        -- +OK
        pub many_done : full ≡ false → {after : List ℕ} → Holds after (with_all now k pairs (decode b)) → {d x : List ℕ} {r : ℕ} → Laid (line "+OK") d x r
            → Does (run_on now (set_many k pairs) s) after d x r
        unfolding settle or_else late_checks first_applying effect with_all
        many_done g w l = settles (rw (told.0, told.1, ← e, g) (record { laid = l; holds = w }))
