-- From what a command's function does to what `exec_bytes` says.
use Rattle.std.specs.Prelude.{None, Some, Result, Ok, Err}
use mathlib.Core.Path.{◌≡◌, refl, sym, ap, subst, ◌∙◌}
use mathlib.Core.Bool.{Bool, true, false, cond}
use mathlib.Core.List.{List, [], ◌∷◌}
use Prim.Native.Nat.{ℕ, ◌%◌, ◌≤◌, ◌<◌}
use native.Mathlib.Omega.{arith}
use borrow.Author.Tests.{leb-true, eqb-true, not-false}
use lib.Dec.{leb, eqb}
use lib.ListN.{length, take, drop}
use lib.Seq.{length-take-le}
use Rattle.wire.specs.Lists.{all}
use Rattle.wire.specs.Bytes.{spells}
use Rattle.wire.specs.Words.{Word, words_of, word_at}
use Rattle.wire.specs.Promises.{Laid, words_in, Places}
use Rattle.wire.proofs.Lists.{impossible, and_left, and_right}
use Rattle.wire.proofs.WordPlaces.{length_words}
use Rattle.store.specs.Layout.{time_limit}
use Rattle.store.specs.Store.{Store, with_clock, decode, encode, well_formed}
use Rattle.store.specs.Time.{now_at}
use Rattle.store.specs.Promises.{Holds}
use Rattle.store.proofs.Encode.{encode_decode, decode_valid}
use Rattle.commands.specs.declared.FieldDeed.{FieldDeed}
use Rattle.commands.specs.declared.KeyDeed.{KeyDeed}
use Rattle.commands.specs.declared.refusal.Refusal.{Refusal}
use Rattle.commands.specs.declared.Parsed.{Parsed}
use Rattle.commands.specs.declared.Parsed.TheVariants as parses
use Rattle.commands.specs.Refusal.{buffer_least, error_line}
use Rattle.commands.specs.Command.{Command}
use Rattle.commands.specs.Command.Command.{on_field}
use Rattle.commands.specs.Parse as P
use Rattle.commands.specs.Parse.{commands, command_named, count_fits, parse, scanned_of, said_by}
use Rattle.commands.specs.Parse.Parsed.{refused, accepted}
use Rattle.commands.specs.Execute.{run_on, run, perform, exec, exec_bytes}
use Rattle.commands.specs.TablePromises.{least_of}
use Rattle.commands.specs.ParsePromises.{Divided, refusal_number, meant, deed_of, command_for}
use Rattle.commands.specs.Promises.{Does, Replied, Opened, WithinLimits}
use Rattle.commands.proofs.Acts.{holds_self}
use Rattle.commands.proofs.ParseChecks.{checks_clear, parse_accepted}
use Rattle.commands.proofs.Sound.{parse_clock}
use Rattle.commands.proofs.Keeps.{now_early}

-- what is done on what the bytes mean is done on the bytes
pub does_exec : (clock : ℕ) (command b : List ℕ) {after d x : List ℕ} {r : ℕ} → Does (exec clock command (decode b)) after d x r
    → Replied (exec_bytes clock command b) after d x (record { replied = r })
unfolding exec_bytes
does_exec clock command b {after} w =
    record {
      size = w.laid.size;
      stored = sym (encode_decode after w.holds.well) ∙ ap encode w.holds.means;
      bytes = w.laid.bytes;
    }

-- The places that a command's split answers are those of its words.
module _ {s : List ℕ} {places : List (List ℕ)} {count : ℕ} (h : Places s places count) where
  pub places_size : count ≡ length (take count places)
  places_size = sym (length-take-le count places h.room)

  pub places_divided : Divided s (words_in s (take count places))
  places_divided = record { words = rw (length_words s (take count places), ← places_size) h.words }

-- a command on a store whose clock was set
pub clock_does : (now : ℕ) (c : Command) (s : Store) {b after d x : List ℕ} {r : ℕ} → Holds b (with_clock now s) → Does (run_on now c (decode b)) after d x r → Does (run now c s) after d x r
unfolding run
clock_does now c s {b} {after} {d} {x} {r} h w = subst (λ (t : Store). Does (run_on now c t) after d x r) h.means w

-- now is below the limit where the record's clock is
pub now_soon : (clock : ℕ) (b : List ℕ) → well_formed b ≡ true → {time : ℕ} → time ≡ now_at clock (decode b) → clock < time_limit → time < time_limit
now_soon clock b w t l = rw t (now_early clock (decode b) (decode_valid b w).clock l)

-- ---- how many words a command has

least_fits : (c : P.Count) (n : ℕ) → count_fits c n ≡ true → least_of c ≤ n
unfolding least_of count_fits
least_fits (P.Count.exactly k) n h = omega (arith, eqb-true n k h)
least_fits (P.Count.at_least k) n h = leb-true k n h
least_fits (P.Count.even_from k) n h = leb-true k n (and_left (leb k n) (eqb (n % 2) 0) h)

-- what holds of every row holds of the row of a name
named_all : (p : P.CommandRow → Bool) (rs : List P.CommandRow) (w : Word) (r : P.CommandRow) → all p rs ≡ true → command_named rs w ≡ Some r → p r ≡ true
unfolding all command_named
named_all p [] w r h e = cc
named_all p (x ∷ xs) w r h e = go (spells x.name w) e (named_all p xs w r (and_right (p x) (all p xs) h))
  where
    go : (t : Bool) → cond t (Some x) (command_named xs w) ≡ Some r → (command_named xs w ≡ Some r → p r ≡ true) → p r ≡ true
    go true q later = let z : x ≡ r = cc in rw (← z) (and_left (p x) (all p xs) h)
    go false q later = later q

-- an accepted command has at leastOf two words
two_words : (time clock : ℕ) (s : List ℕ) (c : Command) (ws : List Word) → parse time clock s ≡ accepted c → words_of s ≡ Some ws → 2 ≤ length ws
unfolding least_of all
two_words time clock s c ws e v =
    let a = parse_accepted time clock s c e in
    let r = a.row in
    let k = checks_clear r.form r.count a.words (scanned_of r.form a.words) (said_by time r.form a.words) a.clear in
    let n : a.words ≡ ws = some_same (sym a.split ∙ v) in
    let l : least_of r.count ≤ length a.words = least_fits r.count (length a.words) (not-false (count_fits r.count (length a.words)) k.counted) in
    let two : leb 2 (least_of r.count) ≡ true = named_all (λ x. leb 2 (least_of x.count)) commands (word_at 0 a.words) r table_least a.named in
    omega (arith, leb-true 2 (least_of r.count) two, l, ap length n)
  where
    table_least : all (λ x. leb 2 (least_of x.count)) commands ≡ true
    table_least = unfold commands in refl

    some_same : {x y : List Word} → Some x ≡ Some y → x ≡ y
    some_same q = cc

-- ---- what was parsed

-- an accepted command
module _ (clock : ℕ) (command b : List ℕ) (w : well_formed b ≡ true) {time : ℕ} (t : time ≡ now_at clock (decode b)) (c : Command) (e : parse time clock command ≡ accepted c) where
  accepted_limits : WithinLimits c
  accepted_limits =
      let a = parse_accepted time clock command c e in
      let r = a.row in
      let k = checks_clear r.form r.count a.words (scanned_of r.form a.words) (said_by time r.form a.words) a.clear in
      record { short = rw a.built at k.short; timed = rw a.built at k.timed }

  accepted_time : time < time_limit
  accepted_time = now_soon clock b w t (parse_clock time clock command c e)

  accepted_done : {after d x : List ℕ} {r : ℕ} → Does (run time c (decode b)) after d x r → Does (exec clock command (decode b)) after d x r
  unfolding exec perform
  accepted_done x = rw (← t, e) x

module _ (clock : ℕ) (command b : List ℕ) (w : well_formed b ≡ true) (ws : List Word) {time : ℕ} (t : time ≡ now_at clock (decode b)) {p : Result Parsed Refusal} (m : meant ws p ≡ parse time clock command) where
  -- its refusal
  said_refused : {n : Refusal} → p ≡ Err n → parse time clock command ≡ refused (refusal_number n)
  unfolding meant
  said_refused q = sym m ∙ ap (meant ws) q

  pub refusal_done : {n : Refusal} {d x : List ℕ} {r : ℕ} → p ≡ Err n → Laid (error_line (refusal_number n)) d x r → Does (exec clock command (decode b)) b d x r
  unfolding exec perform
  refusal_done {n} q l = rw (← t, said_refused q) (record { laid = l; holds = holds_self w })

  module _ {d : FieldDeed} (q : p ≡ Ok (parses.OnField d)) where
    abbrev field_command : Command
    field_command = on_field (word_at 1 ws) (word_at 2 ws) (deed_of (word_at 3 ws) d)

    on_field_lem : parse time clock command ≡ accepted field_command
    unfolding meant
    on_field_lem = sym m ∙ ap (meant ws) q

    pub field_limits : WithinLimits field_command
    field_limits = accepted_limits clock command b w t field_command on_field_lem

    pub field_opened : {o : List ℕ} → buffer_least ≤ length o → Opened time b o
    field_opened l = record { well = w; soon = accepted_time clock command b w t field_command on_field_lem; room = l }

    pub field_done : {after o x : List ℕ} {r : ℕ} → Does (run time field_command (decode b)) after o x r → Does (exec clock command (decode b)) after o x r
    field_done h = accepted_done clock command b w t field_command on_field_lem h

  module _ {d : KeyDeed} (q : p ≡ Ok (parses.OnKey d)) where
    abbrev key_command : Command
    key_command = command_for (word_at 1 ws) (drop 2 ws) d

    on_key : parse time clock command ≡ accepted key_command
    unfolding meant
    on_key = sym m ∙ ap (meant ws) q

    pub key_limits : WithinLimits key_command
    key_limits = accepted_limits clock command b w t key_command on_key

    pub key_opened : {o : List ℕ} → buffer_least ≤ length o → Opened time b o
    key_opened l = record { well = w; soon = accepted_time clock command b w t key_command on_key; room = l }

    pub key_words : Divided command ws → 2 ≤ length ws
    key_words h = go (eqb (length ws) 0) refl
      where
        go : (z : Bool) → eqb (length ws) 0 ≡ z → 2 ≤ length ws
        go true y =
            let a = parse_accepted time clock command key_command on_key in
            let e : None ≡ Some a.words = sym (h.words ∙ rw y) ∙ a.split in
            impossible cc
        go false y = two_words time clock command key_command ws on_key (h.words ∙ rw y)

    pub key_done : {after o x : List ℕ} {r : ℕ} → Does (run time key_command (decode b)) after o x r → Does (exec clock command (decode b)) after o x r
    key_done h = accepted_done clock command b w t key_command on_key h

-- ---- the words that a command's function is handed

module _ (d : FieldDeed) {k f v k₂ f₂ v₂ : Word} (a : k ≡ k₂) (b : f ≡ f₂) (c : v ≡ v₂) where
  pub field_requires : WithinLimits (on_field k₂ f₂ (deed_of v₂ d)) → WithinLimits (on_field k f (deed_of v d))
  field_requires h = rw (a, b, c) h

  pub field_does : (now : ℕ) (s : Store) {b₀ after o x : List ℕ} {r : ℕ} → Holds b₀ (with_clock now s)
      → Does (run_on now (on_field k f (deed_of v d)) (decode b₀)) after o x r → Does (run now (on_field k₂ f₂ (deed_of v₂ d)) s) after o x r
  field_does now s h w = clock_does now (on_field k₂ f₂ (deed_of v₂ d)) s h (rw (a, b, c) at w)
