-- A stream's division in two goes: the division of s ++ u is that of s, and then that of what waited after s with u after it.
use mathlib.Core.Path.{◌≡◌, refl, sym, ap}
use mathlib.Core.Bool.{true}
use mathlib.Core.List.{List, [], ◌∷◌, ◌++◌, append_assoc}
use Prim.Native.Nat.{ℕ, zero, suc, ◌+◌, ◌-◌, ◌≤◌, zero-le}
use native.Mathlib.Nat.{zero-add, suc-add, not-suc-le-zero}
use native.Mathlib.Omega.{arith}
use lib.ListN.{length, drop}
use Rattle.wire.specs.Bytes.{Bytes}
use Rattle.wire.proofs.ByteLaws.{bytes_drop}
use Rattle.commands.specs.Execute.{exec_bytes}
use Rattle.feeder.specs.Record.{Record, Head, head_of, record_of, command_at}
use Rattle.feeder.specs.Record.Head.{skip, whole, wait}
use Rattle.feeder.specs.Stream.{Division, ended, skipping, recording, divided_at, divide_after, divide, do_all}
use Rattle.feeder.specs.State.{waiting_most}
use Rattle.feeder.proofs.RecordHead.{told, head_more, record_more, whole_fits, wait_short}

-- one division after another
abbrev pub joined : Division → Division → Division
joined d e = record { records = d.records ++ e.records; skipped = d.skipped + e.skipped; rest = e.rest }

-- d, and then what waited after it with u
abbrev pub going_on : Division → List ℕ → Division
going_on d u = joined d (divide (d.rest ++ u))

join_ended : (s : List ℕ) (e : Division) → joined (ended s) e ≡ e
join_ended s e = rw zero-add

join_skipping : (d e : Division) → joined (skipping d) e ≡ skipping (joined d e)
join_skipping d e = rw suc-add

pub divide_after_more : (k : ℕ) (s u : List ℕ) → k ≤ length s → divide_after k (s ++ u) ≡ going_on (divide_after k s) u
unfolding divide_after divide divided_at told
divide_after_more zero [] u l = sym (join_ended [] (divide u))
divide_after_more (suc k) [] u l = absurd (not-suc-le-zero l)
divide_after_more (suc k) (b ∷ s) u l = divide_after_more k s u (omega arith)
divide_after_more zero (b ∷ s) u l = go (head_of (b ∷ s)) refl (λ k. divide_after_more k s u)
  where
    stays : told (head_of (b ∷ s)) ≡ true → head_of (b ∷ s ++ u) ≡ head_of (b ∷ s)
    stays = head_more (b ∷ s) u (omega arith)

    go : (h : Head) → head_of (b ∷ s) ≡ h → ((k : ℕ) → k ≤ length s → divide_after k (s ++ u) ≡ going_on (divide_after k s) u)
        → divided_at (head_of (b ∷ s ++ u)) (b ∷ s ++ u) (λ k. divide_after k (s ++ u))
        ≡ going_on (divided_at h (b ∷ s) (λ k. divide_after k s)) u
    go skip p ih =
        rw (stays (rw p)) (rw p (rw (ih 0 zero-le) (sym (join_skipping (divide_after 0 s) (divide ((divide_after 0 s).rest ++ u))))))
    go (whole n) p ih =
        let fits : command_at + n ≤ suc (length s) = whole_fits (b ∷ s) n p in
        rw (stays (rw p)) (rw p (rw (record_more n (b ∷ s) u fits) (ap (recording (record_of n (b ∷ s))) (ih (command_at - 1 + n) (omega arith)))))
    go wait p ih = sym (join_ended (b ∷ s) (divide (b ∷ s ++ u)))

-- the key law: a stream in two pieces
pub divide_more : (s u : List ℕ) → divide (s ++ u) ≡ going_on (divide s) u
unfolding divide
divide_more s u = divide_after_more 0 s u zero-le

-- ---- what waits

-- what is said of the rest of a division holds if it holds of no bytes, and of bytes of s whose head waits
pub rest_is : (P : List ℕ → Type 0) → P [] → (k : ℕ) (s : List ℕ)
    → ((i : ℕ) → head_of (drop i s) ≡ wait → P (drop i s)) → P (divide_after k s).rest
unfolding divide_after divided_at
rest_is P none k [] waits = none
rest_is P none (suc k) (b ∷ s) waits = rest_is P none k s (λ i. waits (suc i))
rest_is P none zero (b ∷ s) waits = go (head_of (b ∷ s)) refl (λ k. rest_is P none k s (λ i. waits (suc i)))
  where
    go : (h : Head) → head_of (b ∷ s) ≡ h → ((k : ℕ) → P (divide_after k s).rest) → P (divided_at h (b ∷ s) (λ k. divide_after k s)).rest
    go skip p ih = ih 0
    go (whole n) p ih = ih (command_at - 1 + n)
    go wait p ih = waits 0 p

-- bytes whose head waits all wait
pub all_wait : (s : List ℕ) → head_of s ≡ wait → divide s ≡ ended s
unfolding divide divide_after divided_at
all_wait [] h = refl
all_wait (b ∷ s) h = rw h

-- read alone, the rest waits
pub rest_waits : (s : List ℕ) → divide (divide s).rest ≡ ended (divide s).rest
unfolding divide divide_after
rest_waits s = rest_is (λ r. divide r ≡ ended r) refl 0 s (λ i h. all_wait (drop i s) h)

-- at most 1,035 bytes wait
pub rest_short : (s : List ℕ) → length (divide s).rest ≤ waiting_most
unfolding divide
rest_short s = rest_is (λ r. length r ≤ waiting_most) (omega arith) 0 s (λ i h. omega (arith, wait_short (drop i s) h))

pub rest_bytes : (s : List ℕ) → Bytes s → Bytes (divide s).rest
unfolding divide
rest_bytes s bs = rest_is Bytes refl 0 s (λ i h. bytes_drop i s bs)

-- ---- records done in two goes

pub do_more : (rs qs : List Record) (b : List ℕ)
    → do_all (rs ++ qs) b
    ≡ record { reply = (do_all rs b).reply ++ (do_all qs (do_all rs b).store).reply; store = (do_all qs (do_all rs b).store).store }
unfolding do_all
do_more [] qs b = refl
do_more (r ∷ rs) qs b = rw (do_more rs qs (exec_bytes r.clock r.command b).store) (rw append_assoc)
