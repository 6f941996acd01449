-- Every number of the store's layout, by its name (01, "The store's bytes").
use Rattle.std.specs.Prelude.{ℕ, ◌+◌, ◌*◌}

-- "A store is 16+128·n bytes, n from 1 to 500. First 8: the latest clock, low first; next 8: zero."
abbrev pub header_size : ℕ
header_size = 16

abbrev pub slot_size : ℕ
slot_size = 128

abbrev pub slots_most : ℕ
slots_most = 500

abbrev pub clock_size : ℕ
clock_size = 8

abbrev pub reserved_size : ℕ
reserved_size = 8

-- "Each slot: state .., key length (at most 16), field length (at most 32), value length (at most 64), these four one byte each, version
-- (4 bytes), expiry in ms (8 bytes ..), key 16, field 32, value 64."
abbrev pub state_at : ℕ
state_at = 0

abbrev pub key_length_at : ℕ
key_length_at = 1

abbrev pub field_length_at : ℕ
field_length_at = 2

abbrev pub value_length_at : ℕ
value_length_at = 3

abbrev pub version_at : ℕ
version_at = 4

abbrev pub version_size : ℕ
version_size = 4

abbrev pub expiry_at : ℕ
expiry_at = 8

abbrev pub expiry_size : ℕ
expiry_size = 8

abbrev pub key_at : ℕ
key_at = 16

abbrev pub key_most : ℕ
key_most = 16

abbrev pub field_at : ℕ
field_at = 32

abbrev pub field_most : ℕ
field_most = 32

abbrev pub value_at : ℕ
value_at = 64

abbrev pub value_most : ℕ
value_most = 64

-- where the value of slot i begins in the store's bytes
unfoldable pub value_start : ℕ → ℕ
value_start i = header_size + slot_size * i + value_at

-- the three states of a slot: "0 empty, 1 held, 2 held with expiry"
abbrev pub empty_state : ℕ
empty_state = 0

abbrev pub held_state : ℕ
held_state = 1

abbrev pub expiring_state : ℕ
expiring_state = 2

-- "at most 4,102,444,800,000"; "The latest clock is below 4,102,444,800,000."
abbrev pub time_limit : ℕ
time_limit = 4_102_444_800_000

-- "Largest version 4,294,967,295."
abbrev pub version_most : ℕ
version_most = 4_294_967_295
