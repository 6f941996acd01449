-- One slot's bytes, written place by place.
use Rattle.std.specs.Prelude.{Option}
use mathlib.Core.Path.{◌≡◌, refl, sym, ap, ◌∙◌}
use mathlib.Core.List.{List, [], ◌∷◌, ◌++◌, flatten, append_assoc, append-nil}
use Prim.Native.Nat.{ℕ, zero, suc, ◌+◌, ◌-◌, ◌%◌, ◌≤◌}
use native.Mathlib.Omega.{arith}
use lib.ListN.{length, take, drop, set, replicate, length-append, length-set, length-drop}
use lib.Seq.{take_all, take-append_seam, drop-drop, length-take-le}
use borrow.Rule.Slice.PartMut.{mid_of, put_mid, same_len_mid}
use Rattle.wire.specs.Bytes.{to_le, part, padded}
use Rattle.wire.specs.Replies.{laid_over}
use Rattle.wire.proofs.ByteLaws.{length_padded}
use Rattle.store.specs.Layout.{slot_size, key_length_at, field_length_at, value_length_at, version_size, expiry_size, key_at, key_most, field_at, field_most, value_at, value_most}
use Rattle.store.specs.Store.{Entry, encode_entry, state_of, instant_of}
use Rattle.store.specs.Promises.{Writable, stamped, stamped_bytes}

-- ---- a place

-- it is cleared and bytes are laid over it: the bytes with zero after them
pub padded_over : (x s t u : List ℕ) → t ≡ replicate (length s) 0 → u ≡ laid_over x t → u ≡ padded (length s) x
unfolding padded laid_over
padded_over x s t u p q = rw (q, p) (ap (λ (l : List ℕ). x ++ l) (drop_replicate (length x) (length s)))
  where
    drop_replicate : (m n : ℕ) → drop m (replicate {A = ℕ} n 0) ≡ replicate (n - m) 0
    drop_replicate zero n = let z : n - 0 ≡ n = omega arith in rw z
    drop_replicate (suc m) zero = let z : 0 - suc m ≡ 0 = omega arith in rw z
    drop_replicate (suc m) (suc n) = let z : suc n - suc m ≡ n - m = omega arith in rw z (drop_replicate m n)

-- ---- state, version and expiry

-- written one after the other
pub stamp_written : (t : List ℕ) (n : ℕ) (x : Option ℕ) (b z : ℕ) (u w : List ℕ) → length t ≡ slot_size → b ≡ state_of x → z ≡ instant_of x
    → u ≡ to_le (length (mid_of 4 4 (set t 0 b))) n
    → w ≡ to_le (length (mid_of 8 8 (put_mid 4 4 (set t 0 b) u))) z
    → put_mid 8 8 (put_mid 4 4 (set t 0 b) u) w ≡ stamped_bytes n x t
unfolding stamped_bytes part to_le
stamp_written [] n x b z u w l p o q r = absurd (omega arith)
stamp_written (a ∷ []) n x b z u w l p o q r = absurd (omega arith)
stamp_written (a ∷ a₁ ∷ []) n x b z u w l p o q r = absurd (omega arith)
stamp_written (a ∷ a₁ ∷ a₂ ∷ []) n x b z u w l p o q r = absurd (omega arith)
stamp_written (a ∷ a₁ ∷ a₂ ∷ a₃ ∷ t) n x b z u w l p o q r =
    let four : length (take 4 t) ≡ 4 = length-take-le 4 t (omega arith) in
    let v : u ≡ to_le 4 n = q ∙ ap (λ (m : ℕ). to_le m n) four in
    let eight : length (take 8 (drop 4 t)) ≡ 8 = length-take-le 8 (drop 4 t) (rw length-drop (omega arith)) in
    let s : w ≡ to_le 8 (instant_of x) = r ∙ rw (v, eight, o) in
    rw (v, s, p, drop-drop 8 4 t)

-- a slot's bytes keep their number
pub stamp_size : (t : List ℕ) (k f v : ℕ) (u : List ℕ) → length t ≡ slot_size → length u ≡ length (set (set (set t key_length_at k) 2 f) 3 v) → length u ≡ slot_size
stamp_size t k f v u n e = e ∙ rw (length-set, length-set, length-set) n

-- an entry's bytes stamped anew are those of the entry stamped anew
pub stamp_entry : (e : Entry) (n : ℕ) (x : Option ℕ) → stamped_bytes n x (encode_entry e) ≡ encode_entry (stamped n x e)
unfolding stamped_bytes encode_entry flatten to_le part
stamp_entry e n x = refl

-- ---- all places

-- a slot's bytes begin with w
record Begun (w t : List ℕ) : Type 0 where
  size : length t ≡ slot_size
  bytes : take (length w) t ≡ w

-- one place more
begun_more : {w t y : List ℕ} (a k : ℕ) (s : List ℕ) → Begun w t → length w ≡ a → a + k ≤ slot_size → length s ≤ k → y ≡ padded (length (mid_of a k t)) s
    → Begun (w ++ padded k s) (put_mid a k t y)
begun_more {w} {t} {y} a k s g n m l q =
    let e : length (mid_of a k t) ≡ k = length-take-le k (drop a t) (rw length-drop (omega (arith, g.size))) in
    let p : y ≡ padded k s = q ∙ ap (λ (z : ℕ). padded z s) e in
    let front : take a t ≡ w = rw (← n) g.bytes in
    record {
      size = same_len_mid a k t y (rw (p, e) (length_padded k s l)) ∙ g.size;
      bytes = rw (p, front, ← append_assoc w (padded k s) (drop k (drop a t))) (take-append_seam (w ++ padded k s) (drop k (drop a t)));
    }

-- the last place
begun_all : {w t : List ℕ} → Begun w t → length w ≡ slot_size → t ≡ w
begun_all {w} {t} g n = sym (take_all (length w) t (omega (arith, g.size))) ∙ g.bytes

-- the first 16 bytes
fixed : Entry → List ℕ
fixed e = state_of e.expiry ∷ length e.key ∷ length e.field ∷ length e.value ∷ (to_le version_size e.version ++ to_le expiry_size (instant_of e.expiry))

module _ (e : Entry) (t u : List ℕ) (h : Writable t e.key e.field e.value)
    (q : u ≡ stamped_bytes e.version e.expiry (set (set (set t key_length_at (length e.key % 256)) field_length_at (length e.field % 256)) value_length_at (length e.value % 256))) where
  -- the lengths and the stamp are the first 16 bytes
  begun : Begun (fixed e) u
  unfolding fixed to_le stamped_bytes part
  begun = go t h.size q
    where
      k : length e.key % 256 ≡ length e.key
      k = omega (arith, h.short.key)

      f : length e.field % 256 ≡ length e.field
      f = omega (arith, h.short.field)

      v : length e.value % 256 ≡ length e.value
      v = omega (arith, h.short.value)

      go : (t : List ℕ) → length t ≡ slot_size
          → u ≡ stamped_bytes e.version e.expiry (set (set (set t key_length_at (length e.key % 256)) field_length_at (length e.field % 256)) value_length_at (length e.value % 256))
          → Begun (fixed e) u
      go [] l q = absurd (omega arith)
      go (a ∷ []) l q = absurd (omega arith)
      go (a ∷ a₁ ∷ []) l q = absurd (omega arith)
      go (a ∷ a₁ ∷ a₂ ∷ []) l q = absurd (omega arith)
      go (a ∷ a₁ ∷ a₂ ∷ a₃ ∷ t) l q = rw (q, k, f, v) (record { size = rw length-drop (omega arith); bytes = refl })

  -- an entry's bytes, whatever the slot held
  pub entry_written : (y₁ y₂ y₃ : List ℕ) → y₁ ≡ padded (length (mid_of key_at key_most u)) e.key
      → y₂ ≡ padded (length (mid_of field_at field_most (put_mid key_at key_most u y₁))) e.field
      → y₃ ≡ padded (length (mid_of value_at value_most (put_mid field_at field_most (put_mid key_at key_most u y₁) y₂))) e.value
      → put_mid value_at value_most (put_mid field_at field_most (put_mid key_at key_most u y₁) y₂) y₃ ≡ encode_entry e
  unfolding fixed to_le encode_entry flatten
  entry_written y₁ y₂ y₃ q₁ q₂ q₃ =
      let k : length (padded key_most e.key) ≡ key_most = length_padded key_most e.key h.short.key in
      let f : length (padded field_most e.field) ≡ field_most = length_padded field_most e.field h.short.field in
      let v : length (padded value_most e.value) ≡ value_most = length_padded value_most e.value h.short.value in
      let n₁ : length (fixed e ++ padded key_most e.key) ≡ field_at = rw (length-append, k) in
      let n₂ : length ((fixed e ++ padded key_most e.key) ++ padded field_most e.field) ≡ value_at = rw (length-append, n₁, f) in
      let n₃ : length (((fixed e ++ padded key_most e.key) ++ padded field_most e.field) ++ padded value_most e.value) ≡ slot_size = rw (length-append, n₂, v) in
      let g₁ : Begun (fixed e ++ padded key_most e.key) (put_mid key_at key_most u y₁) = begun_more key_at key_most e.key begun refl (omega arith) h.short.key q₁ in
      let g₂ : Begun ((fixed e ++ padded key_most e.key) ++ padded field_most e.field) (put_mid field_at field_most (put_mid key_at key_most u y₁) y₂) = begun_more field_at field_most e.field g₁ n₁ (omega arith) h.short.field q₂ in
      begun_all (begun_more value_at value_most e.value g₂ n₂ (omega arith) h.short.value q₃) n₃ ∙ simp (append_assoc, append-nil)
