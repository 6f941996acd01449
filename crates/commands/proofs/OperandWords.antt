-- What the options of a command say, by what they say in their groups and the numbers of their operands' words.
use Rattle.std.specs.Prelude.{Option, None, Some, option_map, Ok, Err}
use mathlib.Core.Path.{◌≡◌, refl, sym, ◌∙◌}
use mathlib.Core.List.{List}
use Prim.Native.Nat.{ℕ, ◌≤◌}
use lib.IntN.{ℤ, pos, nat_abs}
use Rattle.wire.specs.declared.integers.Signed.{Signed}
use Rattle.wire.specs.Lists.{or_else}
use Rattle.wire.specs.Integers.{read_integer, read_natural, lowest64, highest64}
use Rattle.wire.specs.Words.{Word, word_at}
use Rattle.wire.specs.Promises.{signed_for}
use Rattle.wire.proofs.Lists.{impossible}
use Rattle.wire.proofs.IntegerLaws.{natural_read, read_natural_most}
use Rattle.wire.proofs.IntegerSigns.{read_value, read_refused}
use Rattle.store.specs.Layout.{time_limit, version_most}
use Rattle.commands.specs.declared.refusal.Refusal.TheVariants.{NotInteger}
use Rattle.commands.specs.declared.table.TimeUnit.{TimeUnit}
use Rattle.commands.specs.declared.options.ExpiryOption.{ExpiryOption}
use Rattle.commands.specs.declared.options.ExpiryOption.TheVariants as expiries
use Rattle.commands.specs.declared.options.VersionGiven.{VersionGiven}
use Rattle.commands.specs.declared.Lifetime.TheVariants as lifetimes
use Rattle.commands.specs.declared.Versioning.TheVariants as versionings
use Rattle.commands.specs.Options.{operand_range, read_in, readable, number_in, natural_in, instant, readable_operand, lifetime_of, versioning_of}
use Rattle.commands.specs.TablePromises.{unit_meant, version_meant}
use Rattle.commands.specs.ParsePromises.{expiry_given, version_given, instant_in, lifetime_by, version_by, read_of, timed_for, versioned_for, bound_for}

-- ---- numbers

-- what reading the bytes v of a word w answered
module _ (hi : ℕ) {v w : Word} {r : Option ℕ} (ev : v ≡ w) (er : r ≡ read_natural hi v) where
  -- a number that was read
  pub natural_value : (n : ℕ) → r ≡ Some n → (read_integer (pos 0) (pos hi) w ≡ Some (pos n)) × (n ≤ hi)
  natural_value n h =
      let read : read_natural hi w ≡ Some n = read_value (read_natural hi w) (sym (rw ev at (sym er ∙ h))) in
      (natural_read hi w n read, read_natural_most hi w n read)

  -- a word that is no number
  pub natural_refused : r ≡ None → read_integer (pos 0) (pos hi) w ≡ None
  unfolding read_natural
  natural_refused h = unmapped (read_integer (pos 0) (pos hi) w) (read_refused (read_natural hi w) (sym (rw ev at (sym er ∙ h))))
    where
      unmapped : (o : Option ℤ) → option_map nat_abs o ≡ None → o ≡ None
      unmapped None q = refl
      unmapped (Some z) q = impossible cc

-- ---- the expiry

-- the instant of a number that was read
pub instant_read : (time : ℕ) (unit : TimeUnit) (w : Word) (n : ℕ) → read_integer (pos 0) (pos time_limit) w ≡ Some (pos n) → instant time (unit_meant unit) w ≡ instant_in unit n time
unfolding instant instant_in natural_in number_in read_in
instant_read time unit w n e = rw e

module _ (ws : List Word) (time : ℕ) {x : Option ExpiryOption} where
  pub lifetime_none : x ≡ None → Ok lifetimes.Clear ≡ timed_for time (option_map (expiry_given ws) x)
  unfolding timed_for read_of lifetime_by or_else
  lifetime_none e = rw e

  pub lifetime_keep : x ≡ Some expiries.KeepTtl → Ok lifetimes.Keep ≡ timed_for time (option_map (expiry_given ws) x)
  unfolding timed_for read_of lifetime_by or_else readable_operand operand_range lifetime_of
  lifetime_keep e = rw e

  module _ {unit : TimeUnit} {operand : ℕ} (e : x ≡ Some (expiries.Expires unit operand)) where
    pub lifetime_refused : read_integer (pos 0) (pos time_limit) (word_at operand ws) ≡ None → Err NotInteger ≡ timed_for time (option_map (expiry_given ws) x)
    unfolding timed_for read_of or_else readable_operand operand_range readable read_in
    lifetime_refused q = rw (e, q)

    pub lifetime_until : (n : ℕ) {t : ℕ} → read_integer (pos 0) (pos time_limit) (word_at operand ws) ≡ Some (pos n) → t ≡ instant_in unit n time
        → Ok (lifetimes.Until t) ≡ timed_for time (option_map (expiry_given ws) x)
    unfolding timed_for read_of lifetime_by or_else readable_operand operand_range readable read_in lifetime_of
    lifetime_until n q t = rw (e, t, ← instant_read time unit (word_at operand ws) n q, q)

-- ---- the version

module _ (ws : List Word) {x : Option VersionGiven} where
  pub versioning_none : x ≡ None → Ok versionings.Next ≡ versioned_for (option_map (version_given ws) x)
  unfolding versioned_for read_of version_by or_else
  versioning_none e = rw e

  module _ {o : VersionGiven} (e : x ≡ Some o) where
    pub versioning_refused : read_integer (pos 0) (pos version_most) (word_at o.operand ws) ≡ None → Err NotInteger ≡ versioned_for (option_map (version_given ws) x)
    unfolding versioned_for read_of or_else readable_operand operand_range readable read_in
    versioning_refused q = rw (e, q)

    pub versioning_read : (n : ℕ) → read_integer (pos 0) (pos version_most) (word_at o.operand ws) ≡ Some (pos n) → Ok (version_meant o.option n) ≡ versioned_for (option_map (version_given ws) x)
    unfolding versioned_for read_of version_by or_else readable_operand operand_range readable read_in versioning_of natural_in number_in
    versioning_read n q = rw (e, q)

-- ---- the bounds

module _ (unbounded : Signed) (ws : List Word) {x : Option ℕ} where
  pub bound_none : x ≡ None → Some unbounded ≡ bound_for unbounded ws x
  unfolding bound_for or_else
  bound_none e = rw e

  pub bound_read : {n : ℕ} {r : Option Signed} → x ≡ Some n → r ≡ option_map signed_for (read_integer lowest64 highest64 (word_at n ws)) → r ≡ bound_for unbounded ws x
  unfolding bound_for or_else
  bound_read e q = rw e q
