-- What decides a version, an expiry and a condition, said of plain values: each case of the code, and that they are the field's.
use Rattle.std.specs.Prelude.{Option, None, Some}
use mathlib.Core.Path.{◌≡◌, refl, sym}
use mathlib.Core.Logic.{◌≢◌}
use mathlib.Core.Bool.{Bool, false, not}
use mathlib.Core.List.{List, []}
use Prim.Native.Nat.{ℕ, ◌≤◌, ◌<◌}
use lib.Dec.{leb, eqb}
use native.Mathlib.Omega.{arith}
use borrow.Author.Tests.{lt-leb, ne_eqb}
use Rattle.wire.specs.Lists.{or_else}
use Rattle.store.specs.Store.{Entry, Slot}
use Rattle.commands.specs.declared.Versioning.{Versioning}
use Rattle.commands.specs.declared.Versioning.TheVariants.{Next, Match, Exactly, Above}
use Rattle.commands.specs.declared.Lifetime.{Lifetime}
use Rattle.commands.specs.declared.Lifetime.TheVariants.{Clear, Keep, Until}
use Rattle.commands.specs.declared.Condition.{Condition}
use Rattle.commands.specs.declared.Condition.TheVariants.{Always, Missing, Live}
use Rattle.commands.specs.Effect.{is_stale, next_version, setter_version, next_expiry, barred}
use Rattle.commands.specs.Promises.{entry_for, held_version, held_expiry, versioned, expiring}

-- ---- the cases

module _ {n : Versioning} (v : ℕ) where
  pub match_stale : {w : ℕ} → n ≡ Match w → 1 ≤ w → v ≢ 0 → not (eqb v w) ≡ is_stale n (Some (versioned v))
  unfolding is_stale or_else
  match_stale {w} h l d = rw (h, ne_eqb w 0 (omega arith), ne_eqb v 0 d) refl

  pub match_zero : {w : ℕ} → n ≡ Match w → 1 ≤ w → v ≡ 0 → not (eqb v 0) ≡ is_stale n (Some (versioned v))
  unfolding is_stale or_else
  match_zero {w} h l z = rw (h, z, ne_eqb w 0 (omega arith)) refl

  pub match_none : {w least : ℕ} → n ≡ Match w → w ≡ 0 → w < least → leb least w ≡ is_stale n (Some (versioned v))
  unfolding is_stale or_else
  match_none {w} {least} h z l = rw (lt-leb least w l, h, z) refl

  pub above_stale : {w : ℕ} → n ≡ Above w → leb w v ≡ is_stale n (Some (versioned v))
  unfolding is_stale or_else
  above_stale h = rw h refl

-- ---- they are the field's

stale_held : (n : Versioning) (e : Entry) → is_stale n (Some (versioned e.version)) ≡ is_stale n (Some e)
unfolding is_stale or_else
stale_held Next e = refl
stale_held (Match v) e = refl
stale_held (Exactly v) e = refl
stale_held (Above v) e = refl

-- of a missing field nothing is stale
pub missing_fresh : (n : Versioning) → false ≡ is_stale n None
unfolding is_stale or_else
missing_fresh Next = refl
missing_fresh (Match v) = refl
missing_fresh (Exactly v) = refl
missing_fresh (Above v) = refl

version_held : (n : Versioning) (found : Option Entry) → next_version n (Some (versioned (held_version found))) ≡ next_version n found
unfolding next_version held_version or_else
version_held Next None = refl
version_held Next (Some e) = refl
version_held (Match v) None = refl
version_held (Match v) (Some e) = refl
version_held (Exactly v) found = refl
version_held (Above v) found = refl

pub setter_held : (n : Versioning) (e : Entry) → setter_version n (versioned e.version) ≡ setter_version n e
unfolding setter_version next_version or_else
setter_held Next e = refl
setter_held (Match v) e = refl
setter_held (Exactly v) e = refl
setter_held (Above v) e = refl

expiry_held : (t : Lifetime) (found : Option Entry) → next_expiry t (Some (expiring (held_expiry found))) ≡ next_expiry t found
unfolding next_expiry held_expiry or_else
expiry_held Clear found = refl
expiry_held Keep None = refl
expiry_held Keep (Some e) = refl
expiry_held (Until i) found = refl

barred_held : (c : Condition) (ss : List Slot) (r : Option ℕ) → barred c (entry_for [] r) ≡ barred c (entry_for ss r)
unfolding barred entry_for
barred_held Always ss r = refl
barred_held Missing ss (Some i) = refl
barred_held Missing ss None = refl
barred_held Live ss (Some i) = refl
barred_held Live ss None = refl

-- ---- so what the code decides is what the definitions say

pub stale_is : (e : Entry) (n : Versioning) {v : ℕ} {t : Bool} → v ≡ e.version → t ≡ is_stale n (Some (versioned v)) → t ≡ is_stale n (Some e)
stale_is e n h q = rw (q, h) (stale_held n e)

module _ (found : Option Entry) where
  pub version_is : (n : Versioning) {v m : ℕ} → v ≡ held_version found → m ≡ next_version n (Some (versioned v)) → m ≡ next_version n found
  version_is n h q = rw (q, h) (version_held n found)

  pub expiry_is : (t : Lifetime) {x y : Option ℕ} → x ≡ held_expiry found → y ≡ next_expiry t (Some (expiring x)) → y ≡ next_expiry t found
  expiry_is t h q = rw (q, h) (expiry_held t found)

pub barred_is : (c : Condition) (ss : List Slot) (r : Option ℕ) {t : Bool} → t ≡ barred c (entry_for [] r) → barred c (entry_for ss r) ≡ t
barred_is c ss r q = rw q (sym (barred_held c ss r))
