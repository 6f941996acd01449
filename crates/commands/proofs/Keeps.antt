-- Every record leaves a valid store valid.
use Rattle.std.specs.Prelude.{Some}
use mathlib.Core.Path.{◌≡◌, refl, ap, ◌∙◌}
use mathlib.Core.Bool.{true}
use mathlib.Core.List.{List}
use Prim.Native.Nat.{ℕ, ◌<◌}
use lib.ListN.{length}
use native.Mathlib.Omega.{arith}
use Rattle.wire.specs.Bytes.{Bytes}
use Rattle.wire.proofs.Lists.{impossible}
use Rattle.store.specs.Layout.{time_limit}
use Rattle.store.specs.Store.{Store, decode, well_formed}
use Rattle.store.specs.Time.{now_at}
use Rattle.store.specs.Valid.{AllFit, Apart, Valid}
use Rattle.store.proofs.Encode.{decode_valid, encode_well, decode_encode, encode_decode, length_encode}
use Rattle.commands.specs.Command.{Command, key_of, fields_of}
use Rattle.commands.specs.Parse.{parse}
use Rattle.commands.specs.Parse.Parsed.{accepted}
use Rattle.commands.specs.Execute.{Outcome, exec, exec_bytes}
use Rattle.commands.specs.Claims.{Proper}
use Rattle.commands.proofs.Went.{Went, went, swept_by, effect_on}
use Rattle.commands.proofs.Went.Went.{early, late, done}
use Rattle.commands.proofs.Sweep.{length_sweep, sweep_fits, sweep_apart}
use Rattle.commands.proofs.Full.{proper}
use Rattle.commands.proofs.Sound.{parse_sound, parse_clock}
use Rattle.commands.proofs.Writes.{length_changes, changes_fit, changes_apart, effect_writable}

-- Every record leaves as many slots as there were.
pub exec_count : (clock : ℕ) (command : List ℕ) (s : Store) → length (exec clock command s).store.slots ≡ length s.slots
exec_count clock command s = go (went clock command s)
  where
    go : {o : Outcome} → Went clock command s o → length o.store.slots ≡ length s.slots
    go (early n p) = refl
    go (late c n p l) = length_sweep (now_at clock s) (key_of c) (fields_of c) s.slots
    go (done c p l) =
        length_changes (now_at clock s) (effect_on (now_at clock s) c s).changes (swept_by (now_at clock s) c s)
        ∙ length_sweep (now_at clock s) (key_of c) (fields_of c) s.slots

pub now_early : (clock : ℕ) (s : Store) → s.clock < time_limit → clock < time_limit → now_at clock s < time_limit
unfolding now_at
now_early clock s h k = omega arith

exec_clock : (clock : ℕ) (command : List ℕ) (s : Store) → s.clock < time_limit → (exec clock command s).store.clock < time_limit
exec_clock clock command s h = go (went clock command s)
  where
    soon : (c : Command) → parse (now_at clock s) clock command ≡ accepted c → now_at clock s < time_limit
    soon c p = now_early clock s h (parse_clock (now_at clock s) clock command c p)

    go : {o : Outcome} → Went clock command s o → o.store.clock < time_limit
    go (early n p) = h
    go (late c n p l) = soon c p
    go (done c p l) = soon c p

-- No record leaves two slots of one key and field.
pub exec_apart : (clock : ℕ) (command : List ℕ) (s : Store) → Apart s.slots → Apart (exec clock command s).store.slots
exec_apart clock command s h = go (went clock command s)
  where
    go : {o : Outcome} → Went clock command s o → Apart o.store.slots
    go (early n p) = h
    go (late c n p l) = sweep_apart (now_at clock s) (key_of c) (fields_of c) s.slots h
    go (done c p l) =
        changes_apart (now_at clock s) (effect_on (now_at clock s) c s).changes (swept_by (now_at clock s) c s)
        (sweep_apart (now_at clock s) (key_of c) (fields_of c) s.slots h)

-- Every record leaves slots that fit.
pub exec_fits : (clock : ℕ) (command : List ℕ) (s : Store) → Bytes command → AllFit s.slots → AllFit (exec clock command s).store.slots
exec_fits clock command s b h = go (went clock command s)
  where
    go : {o : Outcome} → Went clock command s o → AllFit o.store.slots
    go (early n p) = h
    go (late c n p l) = sweep_fits (now_at clock s) (key_of c) (fields_of c) s.slots h
    go (done c p l) =
        let r : Proper (effect_on (now_at clock s) c s) = (proper (now_at clock s) c s l).0 in
        let f : AllFit (swept_by (now_at clock s) c s) = sweep_fits (now_at clock s) (key_of c) (fields_of c) s.slots h in
        changes_fit (now_at clock s) (effect_on (now_at clock s) c s).changes (swept_by (now_at clock s) c s) r.numbered
        (effect_writable (now_at clock s) c (swept_by (now_at clock s) c s) (parse_sound (now_at clock s) clock command c b p) f r.bounded)
        f

-- A refused one does whatever its command's elements are: it writes none of them.
refused_fits : (clock : ℕ) (command : List ℕ) (s : Store) (n : ℕ) → (exec clock command s).refusal ≡ Some n → AllFit s.slots
    → AllFit (exec clock command s).store.slots
refused_fits clock command s n r h = go (went clock command s) r
  where
    go : {o : Outcome} → Went clock command s o → o.refusal ≡ Some n → AllFit o.store.slots
    go (early k p) e = h
    go (late c k p l) e = sweep_fits (now_at clock s) (key_of c) (fields_of c) s.slots h
    go (done c p l) e = impossible cc

-- A record that leaves slots that fit leaves a valid store valid.
fits_valid : (clock : ℕ) (command : List ℕ) (s : Store) → AllFit (exec clock command s).store.slots → Valid s → Valid (exec clock command s).store
fits_valid clock command s h v =
    record {
      clock = exec_clock clock command s v.clock;
      least = omega (arith, exec_count clock command s, v.least);
      most = omega (arith, exec_count clock command s, v.most);
      fits = h;
      apart = exec_apart clock command s v.apart;
    }

-- Every record leaves a valid store valid, refused or not.
pub exec_valid : (clock : ℕ) (command : List ℕ) (s : Store) → Bytes command → Valid s → Valid (exec clock command s).store
exec_valid clock command s b v = fits_valid clock command s (exec_fits clock command s b v.fits) v

pub refused_valid : (clock : ℕ) (command : List ℕ) (s : Store) (n : ℕ) → (exec clock command s).refusal ≡ Some n → Valid s
    → Valid (exec clock command s).store
refused_valid clock command s n r v = fits_valid clock command s (refused_fits clock command s n r v.fits) v

module _ (clock : ℕ) (command b : List ℕ) (h : Bytes command) (w : well_formed b ≡ true) where
  after_valid : Valid (exec clock command (decode b)).store
  after_valid = exec_valid clock command (decode b) h (decode_valid b w)

  -- Every record leaves a well-formed store well-formed.
  pub exec_bytes_well : well_formed (exec_bytes clock command b).store ≡ true
  unfolding exec_bytes
  exec_bytes_well = encode_well (exec clock command (decode b)).store after_valid

  -- The bytes that it leaves mean what `exec` says.
  pub exec_bytes_means : decode (exec_bytes clock command b).store ≡ (exec clock command (decode b)).store
  unfolding exec_bytes
  exec_bytes_means = decode_encode (exec clock command (decode b)).store after_valid

  -- It leaves as many bytes as there were.
  pub exec_bytes_length : length (exec_bytes clock command b).store ≡ length b
  unfolding exec_bytes
  exec_bytes_length =
      omega (
        arith,
        length_encode (exec clock command (decode b)).store after_valid,
        exec_count clock command (decode b),
        length_encode (decode b) (decode_valid b w),
        ap length (encode_decode b w),
      )
