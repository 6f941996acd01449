-- P1 to P14 ("Marked presses"), the papers' other worked cases about commands, and those of the change requests, as rows of texts. proofs/Examples
-- shows that the definitions give every row.
use Rattle.std.specs.Prelude.{Option, None, Some, unwrap_or}
use Rattle.std.specs.Prelude.{cond, List, [], ◌∷◌, map, ℕ, eqb}
use Prim.Native.String.{String}
use Rattle.wire.specs.Bytes.{text}
use Rattle.wire.specs.Words.{Word}
use Rattle.wire.specs.Replies.{resp_of}
use Rattle.store.specs.Store as stored
use Rattle.store.specs.Store.{Slot, Store}
use Rattle.commands.specs.Execute.{Outcome, exec}

-- ---- rows

-- a command typed with single spaces between its words
unfoldable pub into : ℕ → List Word → List Word
into c [] = (c ∷ []) ∷ []
into c (w ∷ ws) = (c ∷ w) ∷ ws

unfoldable pub spaced : List ℕ → List Word
spaced [] = [] ∷ []
spaced (c ∷ s) = cond (eqb c 32) ([] ∷ spaced s) (into c (spaced s))

-- a record's clock and its command; the number of its refusal, 0 where it is not refused, and the reply that it must get
pub record Request : Type 0 where
  pub clock : ℕ
  pub command : String
  pub number : ℕ
  pub reply : String

abbrev pub request : ℕ → String → String → Request
request c t r = record { clock = c; command = t; number = 0; reply = r }

abbrev pub refusal : ℕ → String → ℕ → String → Request
refusal c t n r = record { clock = c; command = t; number = n; reply = r }

abbrev pub entry : String → String → String → ℕ → Option ℕ → Slot
entry k f v n x = Some (stored.entry (text k) (text f) (text v) n x)

-- requests in order on a store of two empty slots with clock 0, and what its clock and its two slots then are
pub record Case : Type 0 where
  pub name : String
  pub requests : List Request
  pub clock : ℕ
  pub first : Slot
  pub second : Slot

abbrev pub case : String → List Request → ℕ → Slot → Slot → Case
case n ps c s t = record { name = n; requests = ps; clock = c; first = s; second = t }

-- the numbers of the refusals and the replies in order, and the store at the end
pub record Observed : Type 0 where
  pub numbers : List ℕ
  pub replies : List (List ℕ)
  pub store : Store

unfoldable pub performed : List Request → Store → Observed
performed [] s = record { numbers = []; replies = []; store = s }
performed (p ∷ ps) s =
    let o : Outcome = exec p.clock (resp_of (spaced (text p.command))) s in
    let later : Observed = performed ps o.store in
    record { numbers = unwrap_or o.refusal 0 ∷ later.numbers; replies = o.reply ∷ later.replies; store = later.store }

unfoldable pub given : Case → Observed
given r = performed r.requests (record { clock = 0; slots = None ∷ None ∷ [] })

unfoldable pub expected : Case → Observed
expected r =
    record {
      numbers = map (λ p. p.number) r.requests;
      replies = map (λ p. text p.reply) r.requests;
      store = record { clock = r.clock; slots = r.first ∷ r.second ∷ [] };
    }

-- ---- "Marked presses. To be proved: key m, two slots, a fresh store a case."

unfoldable pub marked_examples : List Case
marked_examples =
    case "P1: absent, EXHSET m a 1 VER 9: 1, version 1"
    (request 1000 "EXHSET m a 1 VER 9" ":1\r\n" ∷ request 1000 "EXHVER m a" ":1\r\n" ∷ [])
    1000 (entry "m" "a" "1" 1 None) None
    ∷ case "P2: then VER 2: 20"
    (request 1000 "EXHSET m a 1 VER 9" ":1\r\n" ∷ refusal 1000 "EXHSET m a 1 VER 2" 20 "-ERR update version is stale\r\n" ∷ [])
    1000 (entry "m" "a" "1" 1 None) None
    ∷ case "P3: instead VER 1: 0, version 2"
    (request 1000 "EXHSET m a 1 VER 9" ":1\r\n" ∷ request 1000 "EXHSET m a 1 VER 1" ":0\r\n" ∷ request 1000 "EXHVER m a" ":2\r\n" ∷ [])
    1000 (entry "m" "a" "1" 2 None) None
    ∷ case "P4: clock 1000, EXHSET m b 1 PX 500; at 1499 PTTL 1, TTL 0; at 1500 EXHGET nil, then EXHLEN 0"
    (request 1000 "EXHSET m b 1 PX 500" ":1\r\n"
    ∷ request 1499 "EXHPTTL m b" ":1\r\n"
    ∷ request 1499 "EXHTTL m b" ":0\r\n"
    ∷ request 1500 "EXHGET m b" "$-1\r\n"
    ∷ request 1500 "EXHLEN m" ":0\r\n"
    ∷ [])
    1500 None None
    ∷ case "P5: the same, but at 1500 EXHLEN first: 1; NOEXP 0"
    (request 1000 "EXHSET m b 1 PX 500" ":1\r\n"
    ∷ request 1500 "EXHLEN m" ":1\r\n"
    ∷ request 1500 "EXHLEN m NOEXP" ":0\r\n"
    ∷ [])
    1500 (entry "m" "b" "1" 1 (Some 1500)) None
    ∷ case "P6: a and b live, EXHSET m c 1: 24, both kept"
    (request 1000 "EXHSET m a 1" ":1\r\n"
    ∷ request 1000 "EXHSET m b 1" ":1\r\n"
    ∷ refusal 1000 "EXHSET m c 1" 24 "-ERR store is full\r\n"
    ∷ [])
    1000 (entry "m" "a" "1" 1 None) (entry "m" "b" "1" 1 None)
    ∷ case "P7: b dead: 1, c in b's slot"
    (request 1000 "EXHSET m a 1" ":1\r\n"
    ∷ request 1000 "EXHSET m b 1 PX 500" ":1\r\n"
    ∷ request 1500 "EXHSET m c 1" ":1\r\n"
    ∷ [])
    1500 (entry "m" "a" "1" 1 None) (entry "m" "c" "1" 1 None)
    ∷ case "P8: absent, INCRBY 5 MIN 6: 22, still absent"
    (refusal 1000 "EXHINCRBY m a 5 MIN 6" 22 "-ERR increment or decrement would overflow\r\n" ∷ request 1000 "EXHEXISTS m a" ":0\r\n" ∷ [])
    1000 None None
    ∷ case "P9: 9223372036854775807 plus 1: 22"
    (request 1000 "EXHSET m a 9223372036854775807" ":1\r\n"
    ∷ refusal 1000 "EXHINCRBY m a 1" 22 "-ERR increment or decrement would overflow\r\n"
    ∷ [])
    1000 (entry "m" "a" "9223372036854775807" 1 None) None
    ∷ case "P10: stored -0: 21"
    (request 1000 "EXHSET m a -0" ":1\r\n" ∷ refusal 1000 "EXHINCRBY m a 1" 21 "-ERR hash value is not an integer\r\n" ∷ [])
    1000 (entry "m" "a" "-0" 1 None) None
    ∷ case "P11: EXHSET m a 1 EX NX: 16"
    (refusal 1000 "EXHSET m a 1 EX NX" 16 "-ERR value is not an integer or out of range\r\n" ∷ [])
    0 None None
    ∷ case "P12: a live, SETVER 0, then EXHSET m a 1 VER 7: 0, version 1"
    (request 1000 "EXHSET m a 1" ":1\r\n"
    ∷ request 1000 "EXHSETVER m a 0" ":1\r\n"
    ∷ request 1000 "EXHSET m a 1 VER 7" ":0\r\n"
    ∷ request 1000 "EXHVER m a" ":1\r\n"
    ∷ [])
    1000 (entry "m" "a" "1" 1 None) None
    ∷ case "P13: record at 900 after one at 1000: now is 1000"
    (request 1000 "EXHSET m a 1 PX 500" ":1\r\n" ∷ request 900 "EXHPTTL m a" ":500\r\n" ∷ request 900 "EXHSET m b 1 PX 100" ":1\r\n" ∷ [])
    1000 (entry "m" "a" "1" 1 (Some 1500)) (entry "m" "b" "1" 1 (Some 1100))
    ∷ case "P14: EXHMSET m a 1 a 2: +OK, version 2"
    (request 1000 "EXHMSET m a 1 a 2" "+OK\r\n" ∷ request 1000 "EXHVER m a" ":2\r\n" ∷ [])
    1000 (entry "m" "a" "2" 2 None) None
    ∷ []

-- ---- "EXHGETALL of a=1, b=22, whole", and "What trainees' programs got away with"

unfoldable pub worked_cases : List Case
worked_cases =
    case "EXHGETALL of a=1, b=22, whole"
    (request 1000 "EXHMSET m a 1 b 22" "+OK\r\n" ∷ request 1000 "EXHGETALL m" "*4\r\n$1\r\na\r\n$1\r\n1\r\n$1\r\nb\r\n$2\r\n22\r\n" ∷ [])
    1000 (entry "m" "a" "1" 1 None) (entry "m" "b" "22" 1 None)
    ∷ case "A dead entry is not removed before check 15, and the clock is kept"
    (request 1000 "EXHSET m b 1 PX 500" ":1\r\n" ∷ refusal 1500 "EXHSET m b 2 SOON" 15 "-ERR syntax error\r\n" ∷ [])
    1000 (entry "m" "b" "1" 1 (Some 1500)) None
    ∷ case "Of an EXHMSET that finds the store full nothing is stored"
    (refusal 1000 "EXHMSET m a 1 b 2 c 3" 24 "-ERR store is full\r\n" ∷ [])
    1000 None None
    ∷ case "VER is not compared on a dead entry"
    (request 1000 "EXHSET m b 1 PX 500" ":1\r\n" ∷ request 1500 "EXHSET m b 2 VER 9" ":1\r\n" ∷ [])
    1500 (entry "m" "b" "2" 1 None) None
    ∷ case "A refusal that lies after 18 removes the named dead entry and sets the clock"
    (request 1000 "EXHSET m a 1" ":1\r\n"
    ∷ request 1000 "EXHSET m b 1 PX 500" ":1\r\n"
    ∷ refusal 1500 "EXHMSET m b 1 c 2" 24 "-ERR store is full\r\n"
    ∷ [])
    1500 (entry "m" "a" "1" 1 None) None
    ∷ []

-- ---- every command and every option of paper 01 done, and every refusal from 11 to 24: what the paper's own rows leave out

unfoldable pub command_cases : List Case
command_cases =
    case "Questions about a live field"
    (request 1000 "EXHSET m a hello PX 2500" ":1\r\n"
    ∷ request 1000 "exhget m a" "$5\r\nhello\r\n"
    ∷ request 1000 "EXHSTRLEN m a" ":5\r\n"
    ∷ request 1000 "EXHEXISTS m a" ":1\r\n"
    ∷ request 1000 "EXHGETWITHVER m a" "*2\r\n$5\r\nhello\r\n:1\r\n"
    ∷ request 1000 "EXHVER m a" ":1\r\n"
    ∷ request 1000 "EXHTTL m a" ":2\r\n"
    ∷ request 1000 "EXHPTTL m a" ":2500\r\n"
    ∷ [])
    1000 (entry "m" "a" "hello" 1 (Some 3500)) None
    ∷ case "Questions about a missing field"
    (request 1000 "EXHVER m a" ":-1\r\n"
    ∷ request 1000 "EXHSET m b 1" ":1\r\n"
    ∷ request 1000 "EXHVER m a" ":-2\r\n"
    ∷ request 1000 "EXHGET m a" "$-1\r\n"
    ∷ request 1000 "EXHSTRLEN m a" ":0\r\n"
    ∷ request 1000 "EXHEXISTS m a" ":0\r\n"
    ∷ request 1000 "EXHGETWITHVER m a" "$-1\r\n"
    ∷ request 1000 "EXHTTL m a" ":-2\r\n"
    ∷ request 1000 "EXHPTTL m b" ":-1\r\n"
    ∷ [])
    1000 (entry "m" "b" "1" 1 None) None
    ∷ case "Many fields: in the order named, nil where missing; a field named twice is removed once"
    (request 1000 "EXHMSET m a 1 b 22" "+OK\r\n"
    ∷ request 1000 "EXHMGET m b c a" "*3\r\n$2\r\n22\r\n$-1\r\n$1\r\n1\r\n"
    ∷ request 1000 "EXHMGETWITHVER m c a" "*2\r\n$-1\r\n*2\r\n$1\r\n1\r\n:1\r\n"
    ∷ request 1000 "EXHKEYS m" "*2\r\n$1\r\na\r\n$1\r\nb\r\n"
    ∷ request 1000 "EXHVALS m" "*2\r\n$1\r\n1\r\n$2\r\n22\r\n"
    ∷ request 1000 "EXHGETALL m" "*4\r\n$1\r\na\r\n$1\r\n1\r\n$1\r\nb\r\n$2\r\n22\r\n"
    ∷ request 1000 "EXHLEN m" ":2\r\n"
    ∷ request 1000 "EXHDEL m a c a" ":1\r\n"
    ∷ request 1000 "EXHKEYS n" "*0\r\n"
    ∷ [])
    1000 None (entry "m" "b" "22" 1 None)
    ∷ case "EXHINCRBY: a missing field counts as 0; the sum within MIN and MAX; ABS sets the version"
    (request 1000 "EXHINCRBY m a 5" ":5\r\n"
    ∷ request 1000 "EXHINCRBY m a -7 MIN -2 MAX 9 EX 2" ":-2\r\n"
    ∷ refusal 1000 "EXHINCRBY m a 12 MAX 9" 22 "-ERR increment or decrement would overflow\r\n"
    ∷ request 1000 "EXHINCRBY m a 1 ABS 7 KEEPTTL" ":-1\r\n"
    ∷ [])
    1000 (entry "m" "a" "-1" 7 (Some 3000)) None
    ∷ case "The setters: 1, and 0 where missing; the version moves only with VER or ABS"
    (request 1000 "EXHSET m a 1" ":1\r\n"
    ∷ request 1000 "EXHEXPIRE m a 9" ":1\r\n"
    ∷ request 1000 "EXHPTTL m a" ":9000\r\n"
    ∷ request 1000 "EXHEXPIREAT m a 3 VER 1" ":1\r\n"
    ∷ request 1000 "EXHPTTL m a" ":2000\r\n"
    ∷ refusal 1000 "EXHPEXPIRE m a 50 VER 1" 20 "-ERR update version is stale\r\n"
    ∷ request 1000 "EXHPEXPIRE m a 50 ABS 6" ":1\r\n"
    ∷ request 1000 "EXHPEXPIREAT m b 5000 VER 9" ":0\r\n"
    ∷ request 1000 "EXHVER m a" ":6\r\n"
    ∷ [])
    1000 (entry "m" "a" "1" 6 (Some 1050)) None
    ∷ case "EXHPERSIST: 1 if an expiry was removed; EXHSETVER: 0 where missing"
    (request 1000 "EXHSET m a 1 PXAT 5000" ":1\r\n"
    ∷ request 1000 "EXHPERSIST m a" ":1\r\n"
    ∷ request 1000 "EXHPERSIST m a" ":0\r\n"
    ∷ request 1000 "EXHSETVER m a 9" ":1\r\n"
    ∷ request 1000 "EXHSETVER m b 9" ":0\r\n"
    ∷ [])
    1000 (entry "m" "a" "1" 9 None) None
    ∷ case "NX, XX, KEEPTTL, EX, EXAT and ABS of EXHSET"
    (request 1000 "EXHSET m a 1 XX" ":-1\r\n"
    ∷ request 1000 "EXHSET m a 1 NX EX 9" ":1\r\n"
    ∷ request 1000 "EXHSET m a 2 NX VER 5" ":-1\r\n"
    ∷ request 1000 "EXHSET m a 2 XX KEEPTTL ABS 4" ":0\r\n"
    ∷ request 1000 "EXHSET m b 3 exat 2 ver 1" ":1\r\n"
    ∷ [])
    1000 (entry "m" "a" "2" 4 (Some 10000)) (entry "m" "b" "3" 1 (Some 2000))
    ∷ case "An instant at or before now is stored, dead at once; a dead field is removed by whatever names it"
    (request 1000 "EXHSET m a 1" ":1\r\n"
    ∷ request 2000 "EXHPEXPIREAT m a 1500" ":1\r\n"
    ∷ request 900 "EXHLEN m" ":1\r\n"
    ∷ request 900 "EXHLEN m NOEXP" ":0\r\n"
    ∷ request 900 "EXHPERSIST m a" ":0\r\n"
    ∷ [])
    2000 None None
    ∷ case "11 to 18 leave the clock and the dead entry"
    (request 1000 "EXHSET m a 1 PX 5" ":1\r\n"
    ∷ refusal 4102444800000 "EXHGET m a" 11 "-ERR clock out of range\r\n"
    ∷ refusal 2000 "EXHSCAN m a" 12 "-ERR unknown command\r\n"
    ∷ refusal 2000 "EXHGET m a b" 13 "-ERR wrong number of arguments\r\n"
    ∷ refusal 2000 "EXHGET mmmmmmmmmmmmmmmmm a" 14 "-ERR too long\r\n"
    ∷ refusal 2000 "EXHSET m a 1 NX XX" 15 "-ERR syntax error\r\n"
    ∷ refusal 2000 "EXHSET m a 1 VER" 15 "-ERR syntax error\r\n"
    ∷ refusal 2000 "EXHINCRBY m a 01" 16 "-ERR value is not an integer or out of range\r\n"
    ∷ refusal 2000 "EXHSET m a 1 ABS 0" 17 "-ERR invalid version\r\n"
    ∷ refusal 2000 "EXHEXPIRE m a 4102444800" 18 "-ERR invalid expire time\r\n"
    ∷ [])
    1000 (entry "m" "a" "1" 1 (Some 1005)) None
    ∷ case "23 at the largest version"
    (request 1000 "EXHSET m a 1 ABS 4294967295" ":1\r\n"
    ∷ refusal 2000 "EXHSET m a 2" 23 "-ERR version overflow\r\n"
    ∷ [])
    2000 (entry "m" "a" "1" 4294967295 None) None
    ∷ case "21; 24, where a repeated field is counted once"
    (request 1000 "EXHSET m a x" ":1\r\n"
    ∷ refusal 1000 "EXHINCRBY m a 1" 21 "-ERR hash value is not an integer\r\n"
    ∷ request 1000 "EXHMSET m b 1 b 2" "+OK\r\n"
    ∷ refusal 1000 "EXHSET m c 1" 24 "-ERR store is full\r\n"
    ∷ [])
    1000 (entry "m" "a" "x" 1 None) (entry "m" "b" "2" 2 None)
    ∷ []

-- ---- the rows of paper 02, request by request

unfoldable pub change_request_cases : List Case
change_request_cases =
    case "M-100: a missing, GT 5: 1, version 5; then GT 5: 20; then GT 6: 0, version 6; then EXHINCRBY with GT 7 and EXHPEXPIRE with GT 8"
    (request 1000 "EXHSET m a 1 GT 5" ":1\r\n"
    ∷ request 1000 "EXHVER m a" ":5\r\n"
    ∷ refusal 1000 "EXHSET m a 1 GT 5" 20 "-ERR update version is stale\r\n"
    ∷ request 1000 "EXHSET m a 1 GT 6" ":0\r\n"
    ∷ request 1000 "EXHVER m a" ":6\r\n"
    ∷ request 1000 "EXHINCRBY m a 1 GT 7" ":2\r\n"
    ∷ request 1000 "EXHVER m a" ":7\r\n"
    ∷ request 1000 "EXHPEXPIRE m a 500 GT 8" ":1\r\n"
    ∷ [])
    1000 (entry "m" "a" "2" 8 (Some 1500)) None
    ∷ case "M-100: any greater version is taken, by EXHSET, EXHINCRBY and each setter, from version 0 too"
    (request 1000 "EXHSET m a 1 GT 5" ":1\r\n"
    ∷ request 1000 "EXHSET m a 1 GT 9" ":0\r\n"
    ∷ request 1000 "EXHINCRBY m a 1 GT 20" ":2\r\n"
    ∷ request 1000 "EXHEXPIRE m a 9 GT 30" ":1\r\n"
    ∷ request 1000 "EXHEXPIREAT m a 9 GT 44" ":1\r\n"
    ∷ request 1000 "EXHPEXPIRE m a 500 GT 60" ":1\r\n"
    ∷ request 1000 "EXHPEXPIREAT m a 5000 GT 77" ":1\r\n"
    ∷ request 1000 "EXHVER m a" ":77\r\n"
    ∷ request 1000 "EXHSETVER m a 0" ":1\r\n"
    ∷ request 1000 "EXHPEXPIRE m a 600 GT 7" ":1\r\n"
    ∷ [])
    1000 (entry "m" "a" "2" 7 (Some 1600)) None
    ∷ case "M-100: GT beside the options of the other groups"
    (request 1000 "EXHSET m a 1 GT 3 NX PX 500" ":1\r\n"
    ∷ request 1000 "EXHSET m a 2 XX KEEPTTL GT 30" ":0\r\n"
    ∷ request 1000 "EXHPTTL m a" ":500\r\n"
    ∷ request 1000 "EXHINCRBY m a 1 MIN 0 GT 50 MAX 9 EX 9" ":3\r\n"
    ∷ request 1000 "EXHSET m b 1 EXAT 9 GT 4" ":1\r\n"
    ∷ request 1000 "EXHSET m b 2 GT 8 PXAT 5000" ":0\r\n"
    ∷ [])
    1000 (entry "m" "a" "3" 50 (Some 10000)) (entry "m" "b" "2" 8 (Some 5000))
    ∷ case "M-100: a missing field takes it as its version, EXHINCRBY too; a dead one is missing"
    (request 1000 "EXHINCRBY m a 3 GT 4" ":3\r\n"
    ∷ request 1000 "EXHSET m b 1 ABS 9 PX 500" ":1\r\n"
    ∷ request 1500 "EXHSET m b 2 GT 3" ":1\r\n"
    ∷ [])
    1500 (entry "m" "a" "3" 4 None) (entry "m" "b" "2" 3 None)
    ∷ case "M-100: the setters reply 0 where the field is missing, and make none"
    (request 1000 "EXHEXPIRE m a 9 GT 3" ":0\r\n"
    ∷ request 1000 "EXHEXPIREAT m a 9 GT 3" ":0\r\n"
    ∷ request 1000 "EXHPEXPIRE m a 500 GT 3" ":0\r\n"
    ∷ request 1000 "EXHPEXPIREAT m a 5000 GT 3" ":0\r\n"
    ∷ [])
    1000 None None
    ∷ case "M-100: 20 on EXHINCRBY and on each setter, equal included; NX that replies -1 comes before it"
    (request 1000 "EXHSET m a 1 ABS 8" ":1\r\n"
    ∷ refusal 1000 "EXHINCRBY m a 1 GT 8" 20 "-ERR update version is stale\r\n"
    ∷ refusal 1000 "EXHEXPIRE m a 9 GT 8" 20 "-ERR update version is stale\r\n"
    ∷ refusal 1000 "EXHEXPIREAT m a 9 GT 7" 20 "-ERR update version is stale\r\n"
    ∷ refusal 1000 "EXHPEXPIRE m a 500 GT 8" 20 "-ERR update version is stale\r\n"
    ∷ refusal 1000 "EXHPEXPIREAT m a 5000 GT 1" 20 "-ERR update version is stale\r\n"
    ∷ request 1000 "EXHSET m a 2 NX GT 8" ":-1\r\n"
    ∷ [])
    1000 (entry "m" "a" "1" 8 None) None
    ∷ case "M-100: GT 0: 17, where the field is missing and with NX on a live one"
    (refusal 1000 "EXHSET m a 1 GT 0" 17 "-ERR invalid version\r\n"
    ∷ request 1000 "EXHSET m a 1" ":1\r\n"
    ∷ refusal 2000 "EXHSET m a 2 NX GT 0" 17 "-ERR invalid version\r\n"
    ∷ refusal 2000 "EXHINCRBY m a 1 GT 0" 17 "-ERR invalid version\r\n"
    ∷ refusal 2000 "EXHPEXPIRE m a 500 GT 0" 17 "-ERR invalid version\r\n"
    ∷ refusal 2000 "EXHPEXPIRE m b 500 GT 0" 17 "-ERR invalid version\r\n"
    ∷ [])
    1000 (entry "m" "a" "1" 1 None) None
    ∷ case "M-100: GT 3 VER 3: 15; at most one of VER, ABS and GT, once, with its operand, and only where VER is taken; 16 as for a version"
    (refusal 1000 "EXHSET m a 1 GT 3 VER 3" 15 "-ERR syntax error\r\n"
    ∷ refusal 1000 "EXHSET m a 1 ABS 3 GT 3" 15 "-ERR syntax error\r\n"
    ∷ refusal 1000 "EXHSET m a 1 GT 3 GT 3" 15 "-ERR syntax error\r\n"
    ∷ refusal 1000 "EXHINCRBY m a 1 GT" 15 "-ERR syntax error\r\n"
    ∷ refusal 1000 "EXHLEN m GT 3" 15 "-ERR syntax error\r\n"
    ∷ refusal 1000 "EXHSET m a 1 GT 03" 16 "-ERR value is not an integer or out of range\r\n"
    ∷ refusal 1000 "EXHSET m a 1 GT 4294967296" 16 "-ERR value is not an integer or out of range\r\n"
    ∷ refusal 1000 "EXHEXPIRE m a 9 GT VER" 16 "-ERR value is not an integer or out of range\r\n"
    ∷ [])
    0 None None
    ∷ case "M-100: EXHSETVER m a 0, then GT 1: accepted"
    (request 1000 "EXHSET m a 1" ":1\r\n"
    ∷ request 1000 "EXHSETVER m a 0" ":1\r\n"
    ∷ request 1000 "EXHSET m a 2 gt 1" ":0\r\n"
    ∷ [])
    1000 (entry "m" "a" "2" 1 None) None
    ∷ case "M-100: GT 4294967295, then a plain EXHSET: 23"
    (request 1000 "EXHSET m a 1 GT 4294967295" ":1\r\n"
    ∷ refusal 1000 "EXHSET m a 2" 23 "-ERR version overflow\r\n"
    ∷ refusal 1000 "EXHSET m a 2 GT 4294967295" 20 "-ERR update version is stale\r\n"
    ∷ [])
    1000 (entry "m" "a" "1" 4294967295 None) None
    ∷ case "M-100, source 001: version 3, GT 3 and GT 2 stale, GT 4: 0, version 4, abs 2: version 2"
    (request 1000 "EXHSET k1 f1 v1 ABS 3" ":1\r\n"
    ∷ refusal 1000 "EXHSET k1 f1 v1 GT 3" 20 "-ERR update version is stale\r\n"
    ∷ refusal 1000 "EXHSET k1 f1 v1 GT 2" 20 "-ERR update version is stale\r\n"
    ∷ request 1000 "EXHSET k1 f1 v1 GT 4" ":0\r\n"
    ∷ request 1000 "EXHVER k1 f1" ":4\r\n"
    ∷ request 1000 "EXHSET k1 f1 v1 abs 2" ":0\r\n"
    ∷ request 1000 "EXHVER k1 f1" ":2\r\n"
    ∷ [])
    1000 (entry "k1" "f1" "v1" 2 None) None
    ∷ case "M-100: of two counts the one with the greater GT is left, in both orders"
    (request 1000 "EXHSET m a 1 GT 1" ":1\r\n"
    ∷ request 1000 "EXHSET m a 2 GT 2" ":0\r\n"
    ∷ request 1000 "EXHSET m b 2 GT 2" ":1\r\n"
    ∷ refusal 1000 "EXHSET m b 1 GT 1" 20 "-ERR update version is stale\r\n"
    ∷ [])
    1000 (entry "m" "a" "2" 2 None) (entry "m" "b" "2" 2 None)
    ∷ case "M-101: a live at version 3, EXHSET m a 1 VER 0: 0, version 4"
    (request 1000 "EXHSET m a 7 ABS 3" ":1\r\n"
    ∷ request 1000 "EXHSET m a 1 VER 0" ":0\r\n"
    ∷ request 1000 "EXHVER m a" ":4\r\n"
    ∷ [])
    1000 (entry "m" "a" "1" 4 None) None
    ∷ case "M-101: a missing field gets 1, by EXHSET and EXHINCRBY; a dead one is missing"
    (request 1000 "EXHSET m a 1 VER 0" ":1\r\n"
    ∷ request 1000 "EXHSET m b 1 ABS 9 PX 500" ":1\r\n"
    ∷ request 1500 "EXHINCRBY m b 3 VER 0" ":3\r\n"
    ∷ [])
    1500 (entry "m" "a" "1" 1 None) (entry "m" "b" "3" 1 None)
    ∷ case "M-101: a live one gets its version plus 1, by EXHSET, EXHINCRBY and each setter, whatever its version"
    (request 1000 "EXHSET m a 1 ABS 7" ":1\r\n"
    ∷ request 1000 "EXHSET m a 2 VER 0" ":0\r\n"
    ∷ request 1000 "EXHVER m a" ":8\r\n"
    ∷ request 1000 "EXHINCRBY m a 1 ver 0" ":3\r\n"
    ∷ request 1000 "EXHVER m a" ":9\r\n"
    ∷ request 1000 "EXHEXPIRE m a 9 VER 0" ":1\r\n"
    ∷ request 1000 "EXHVER m a" ":10\r\n"
    ∷ request 1000 "EXHSETVER m a 20" ":1\r\n"
    ∷ request 1000 "EXHEXPIREAT m a 9 VER 0" ":1\r\n"
    ∷ request 1000 "EXHVER m a" ":21\r\n"
    ∷ request 1000 "EXHPEXPIRE m a 500 VER 0" ":1\r\n"
    ∷ request 1000 "EXHVER m a" ":22\r\n"
    ∷ request 1000 "EXHPEXPIREAT m a 5000 VER 0" ":1\r\n"
    ∷ [])
    1000 (entry "m" "a" "3" 23 (Some 5000)) None
    ∷ case "M-101: a live field at version 0 goes to 1, with a setter too"
    (request 1000 "EXHSET m a 1" ":1\r\n"
    ∷ request 1000 "EXHSETVER m a 0" ":1\r\n"
    ∷ request 1000 "EXHSET m a 2 VER 0" ":0\r\n"
    ∷ request 1000 "EXHSET m b 1" ":1\r\n"
    ∷ request 1000 "EXHSETVER m b 0" ":1\r\n"
    ∷ request 1000 "EXHPEXPIRE m b 500 VER 0" ":1\r\n"
    ∷ [])
    1000 (entry "m" "a" "2" 1 None) (entry "m" "b" "1" 1 (Some 1500))
    ∷ case "M-101: the setters reply 0 where the field is missing, and make none"
    (request 1000 "EXHEXPIRE m a 9 VER 0" ":0\r\n"
    ∷ request 1000 "EXHEXPIREAT m a 9 VER 0" ":0\r\n"
    ∷ request 1000 "EXHPEXPIRE m a 500 VER 0" ":0\r\n"
    ∷ request 1000 "EXHPEXPIREAT m a 5000 VER 0" ":0\r\n"
    ∷ [])
    1000 None None
    ∷ case "M-101: at the largest version 23, on each command; at the one before it VER 0 is taken"
    (request 1000 "EXHSET m a 1 ABS 4294967295" ":1\r\n"
    ∷ refusal 1000 "EXHSET m a 2 VER 0" 23 "-ERR version overflow\r\n"
    ∷ refusal 1000 "EXHINCRBY m a 1 VER 0" 23 "-ERR version overflow\r\n"
    ∷ refusal 1000 "EXHEXPIRE m a 9 VER 0" 23 "-ERR version overflow\r\n"
    ∷ refusal 1000 "EXHEXPIREAT m a 9 VER 0" 23 "-ERR version overflow\r\n"
    ∷ refusal 1000 "EXHPEXPIRE m a 500 VER 0" 23 "-ERR version overflow\r\n"
    ∷ refusal 1000 "EXHPEXPIREAT m a 5000 VER 0" 23 "-ERR version overflow\r\n"
    ∷ request 1000 "EXHSET m a 2 NX VER 0" ":-1\r\n"
    ∷ request 1000 "EXHSET m b 1 ABS 4294967294" ":1\r\n"
    ∷ request 1000 "EXHSET m b 2 VER 0" ":0\r\n"
    ∷ [])
    1000 (entry "m" "a" "1" 4294967295 None) (entry "m" "b" "2" 4294967295 None)
    ∷ case "M-101: a VER of 1 or more is compared as before, also after a VER 0"
    (request 1000 "EXHSET m a 1 ABS 3" ":1\r\n"
    ∷ refusal 1000 "EXHSET m a 2 VER 1" 20 "-ERR update version is stale\r\n"
    ∷ refusal 1000 "EXHINCRBY m a 1 VER 2" 20 "-ERR update version is stale\r\n"
    ∷ refusal 1000 "EXHEXPIRE m a 9 VER 1" 20 "-ERR update version is stale\r\n"
    ∷ refusal 1000 "EXHEXPIREAT m a 9 VER 4" 20 "-ERR update version is stale\r\n"
    ∷ refusal 1000 "EXHPEXPIRE m a 500 VER 1" 20 "-ERR update version is stale\r\n"
    ∷ refusal 1000 "EXHPEXPIREAT m a 5000 VER 2" 20 "-ERR update version is stale\r\n"
    ∷ request 1000 "EXHSET m a 2 VER 0" ":0\r\n"
    ∷ refusal 1000 "EXHSET m a 3 VER 3" 20 "-ERR update version is stale\r\n"
    ∷ request 1000 "EXHSET m a 4 VER 4" ":0\r\n"
    ∷ request 1000 "EXHSET m b 1 VER 1" ":1\r\n"
    ∷ request 1000 "EXHINCRBY m b 1 VER 1" ":2\r\n"
    ∷ refusal 1000 "EXHINCRBY m b 1 VER 1" 20 "-ERR update version is stale\r\n"
    ∷ [])
    1000 (entry "m" "a" "4" 5 None) (entry "m" "b" "2" 2 None)
    ∷ case "M-101: a large VER is compared like a small one, and only 0 is read as 0; VER 0 at a large version"
    (request 1000 "EXHSET m a 1 ABS 4294967294" ":1\r\n"
    ∷ refusal 1000 "EXHSET m a 2 VER 4294967295" 20 "-ERR update version is stale\r\n"
    ∷ refusal 1000 "EXHINCRBY m a 1 VER 10" 20 "-ERR update version is stale\r\n"
    ∷ refusal 1000 "EXHPEXPIRE m a 500 VER 4294967293" 20 "-ERR update version is stale\r\n"
    ∷ refusal 1000 "EXHSET m a 2 VER 4294967296" 16 "-ERR value is not an integer or out of range\r\n"
    ∷ refusal 1000 "EXHSET m a 2 VER -0" 16 "-ERR value is not an integer or out of range\r\n"
    ∷ request 1000 "EXHSET m a 2 VER 4294967294" ":0\r\n"
    ∷ refusal 1000 "EXHSET m a 3 VER 4294967295" 23 "-ERR version overflow\r\n"
    ∷ request 1000 "EXHSET m b 1 ABS 1000000" ":1\r\n"
    ∷ request 1000 "EXHEXPIRE m b 9 VER 0" ":1\r\n"
    ∷ [])
    1000 (entry "m" "a" "2" 4294967295 None) (entry "m" "b" "1" 1000001 (Some 10000))
    ∷ case "M-101: VER 0 beside the options of the other groups"
    (request 1000 "EXHSET m a 1 VER 0 NX PX 500" ":1\r\n"
    ∷ request 1000 "EXHSET m a 2 XX KEEPTTL VER 0" ":0\r\n"
    ∷ request 1000 "EXHSET m a 9 NX VER 0" ":-1\r\n"
    ∷ request 1000 "EXHSET m b 1 XX VER 0" ":-1\r\n"
    ∷ request 1000 "EXHINCRBY m a 1 MIN 0 VER 0 MAX 9 KEEPTTL" ":3\r\n"
    ∷ request 1000 "EXHSET m b 1 VER 0 EX 9" ":1\r\n"
    ∷ [])
    1000 (entry "m" "a" "3" 3 (Some 1500)) (entry "m" "b" "1" 1 (Some 10000))
    ∷ case "M-101: the other refusals of a command with VER 0 are as they were"
    (refusal 1000 "EXHSET m a 1 VER 0 ABS 1" 15 "-ERR syntax error\r\n"
    ∷ refusal 1000 "EXHSET m a 1 VER 0 VER 0" 15 "-ERR syntax error\r\n"
    ∷ refusal 1000 "EXHSET m a 1 VER 00" 16 "-ERR value is not an integer or out of range\r\n"
    ∷ refusal 1000 "EXHSET m a 1 VER 0 EX 4102444800" 18 "-ERR invalid expire time\r\n"
    ∷ request 1000 "EXHSET m a x VER 0" ":1\r\n"
    ∷ refusal 1000 "EXHINCRBY m a 1 VER 0" 21 "-ERR hash value is not an integer\r\n"
    ∷ request 1000 "EXHSET m b 5 VER 0" ":1\r\n"
    ∷ refusal 1000 "EXHINCRBY m b 1 MAX 5 VER 0" 22 "-ERR increment or decrement would overflow\r\n"
    ∷ refusal 1000 "EXHSET m c 1 VER 0" 24 "-ERR store is full\r\n"
    ∷ [])
    1000 (entry "m" "a" "x" 1 None) (entry "m" "b" "5" 1 None)
    ∷ []
