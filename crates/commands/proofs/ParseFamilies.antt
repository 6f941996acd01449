-- Each family of commands, from the scan of its options to what it says.
use Rattle.std.specs.Prelude.{Result, Ok, Err, Option, None, Some, option_map, unwrap_or, is_some}
use mathlib.Core.Path.{◌≡◌, refl, sym, ap, ◌∙◌}
use mathlib.Core.Bool.{Bool, true, false, cond, ◌&&◌, and-true, and-false}
use mathlib.Core.List.{List, [], ◌∷◌}
use Prim.Native.Nat.{ℕ, ◌≤◌, ◌<◌}
use native.Mathlib.Omega.{arith}
use borrow.Author.Tests.{lt-ltb, le-ltb}
use lib.IntN.{ℤ, pos}
use lib.ListN.{drop}
use Rattle.wire.specs.declared.integers.Signed.{Signed}
use Rattle.wire.specs.Lists.{all, or_else}
use Rattle.wire.specs.Integers.{read_integer, lowest64, highest64}
use Rattle.wire.specs.Words.{Word, word_at}
use Rattle.wire.specs.Promises.{integer_of, signed_for}
use Rattle.wire.proofs.Lists.{impossible}
use Rattle.store.specs.Layout.{time_limit, version_most}
use Rattle.commands.specs.declared.Condition.{Condition}
use Rattle.commands.specs.declared.Versioning.{Versioning}
use Rattle.commands.specs.declared.Question.{Question}
use Rattle.commands.specs.declared.Listing.{Listing}
use Rattle.commands.specs.declared.Sum.{Sum}
use Rattle.commands.specs.declared.FieldDeed.TheVariants as fieldDeeds
use Rattle.commands.specs.declared.KeyDeed.TheVariants as keyDeeds
use Rattle.commands.specs.declared.Parsed.TheVariants as parses
use Rattle.commands.specs.declared.Stamping.{Stamping}
use Rattle.commands.specs.declared.refusal.Refusal.{Refusal}
use Rattle.commands.specs.declared.refusal.Refusal.TheVariants.{NotInteger, InvalidVersion, InvalidExpireTime}
use Rattle.commands.specs.declared.options.ScannedOptions.{ScannedOptions}
use Rattle.commands.specs.declared.table.TimeUnit.{TimeUnit}
use Rattle.commands.specs.declared.table.OptionGroup.TheVariants as groups
use Rattle.commands.specs.declared.Condition.TheVariants as conditions
use Rattle.commands.specs.Options.{◌with◌}
use Rattle.commands.specs.Options.OptionKind.{no_exp}
use Rattle.commands.specs.Command.{Deed, Command}
use Rattle.commands.specs.Command.Deed.{persist, ask}
use Rattle.commands.specs.Command.Command.{on_field, set_many, get_many, delete, count_live, count_held, list}
use Rattle.commands.specs.Options.{signed64, expiry_group, version_group, min_group, max_group, no_exp_group, operand_range, scan, conflicting, given_of, read_in, readable, number_in, natural_in, instant, bound_in}
use Rattle.commands.specs.Parse.{Form, allowed, option_words, number_range, pairs_of, build, is_zero, deed_versioning, beyond, deed_lifetime, on_deed, said_by}
use Rattle.commands.specs.Parse.Form.{set_form, set_many_form, increment_form, expire_form, persist_form, renumber_form, ask_form, get_many_form, delete_form, count_form, list_form}
use Rattle.commands.specs.Parse.Parsed.{accepted}
use Rattle.commands.specs.TablePromises.{unit_meant, group_number}
use Rattle.commands.specs.ParsePromises.{given_at, instant_in, read_of, by_number, versioned_for, terms_for, sum_for, lowest_signed, highest_signed, bound_for, sum_of, parse_rest, deed_of, command_for, meant}
use Rattle.commands.proofs.OperandWords.{instant_read}
use Rattle.commands.proofs.OptionScanning.{flag_some}
use Rattle.commands.proofs.Parsing.{given_in, unclean, all_read, rest_16, rest_17, rest_18, rest_said, Takes, Ready, version_said, version_refused, terms_refused, terms_said, condition_said, condition_read, no_exp_read, has_read, integer_read, integer_value, bound_readable, bound_said}

-- the option of a group that a command of a form was given
abbrev given_option : Form → ℕ → List Word → Bool
given_option f n ws = read_of (given_of n (given_in f ws))

-- ---- EXHSET

pub set_takes : Takes set_form (groups.Expiry ∷ groups.Condition ∷ groups.Version ∷ []) 4
unfolding allowed option_words group_number
set_takes = record { groups = refl; words = λ ws. refl }

module _ (time : ℕ) {ws : List Word} {r : ScannedOptions} (y : Ready set_form ws r)
    (m : Result Stamping Refusal) (em : by_number m ≡ terms_for time (given_at ws r expiry_group) (given_at ws r version_group)) where
  set_left : all_read set_form ws ≡ given_option set_form expiry_group ws && given_option set_form version_group ws
  unfolding allowed number_range or_else all operand_range
  set_left = y.read ∙ rw (condition_read y, and-true (given_option set_form version_group ws))

  pub set_refused : {n : Refusal} → m ≡ Err n → meant ws (Err n) ≡ parse_rest time set_form ws
  unfolding build on_deed deed_versioning deed_lifetime
  set_refused q = terms_refused y time m em set_left refl refl q

  pub set_done : {s : Stamping} → m ≡ Ok s → {c : Condition} → c ≡ unwrap_or r.condition conditions.Always
      → meant ws (Ok (parses.OnField (fieldDeeds.Assign c s))) ≡ parse_rest time set_form ws
  unfolding build on_deed deed_versioning deed_lifetime meant deed_of
  set_done q ec =
      let (said, e) = terms_said y time m em set_left refl refl q in
      rw (ec, ← condition_said y, ← e) said

-- ---- EXHINCRBY

sum_refused : (a l g : Option Signed) {n : Refusal} → sum_for a l g ≡ Err n → (has_read a && (has_read l && has_read g) ≡ false) × (n ≡ NotInteger)
unfolding sum_for has_read
sum_refused (Some x) (Some y) (Some z) e = impossible cc
sum_refused (Some x) (Some y) None e = (refl, cc)
sum_refused (Some x) None g e = (refl, cc)
sum_refused None l g e = (refl, cc)

pub sum_value : (a l g : Option Signed) (s : Sum) → sum_for a l g ≡ Ok s
    → (a ≡ Some s.amount) × (l ≡ Some s.least) × (g ≡ Some s.greatest)
unfolding sum_for
sum_value (Some x) (Some y) (Some z) s e =
    let q : ◌≡◌ {A = Sum} (record { amount = x; least = y; greatest = z }) s = cc in
    (rw (← q), rw (← q), rw (← q))
sum_value (Some x) (Some y) None s e = impossible cc
sum_value (Some x) None g s e = impossible cc
sum_value None l g s e = impossible cc

-- what the code answers at each of the three
pub sum_0 : (a l g : Option Signed) → a ≡ None → Err NotInteger ≡ sum_for a l g
unfolding sum_for
sum_0 a l g e = rw e

pub sum_1 : (a l g : Option Signed) (x : Signed) → a ≡ Some x → l ≡ None → Err NotInteger ≡ sum_for a l g
unfolding sum_for
sum_1 a l g x e f = rw (e, f)

pub sum_2 : (a l g : Option Signed) (x y : Signed) → a ≡ Some x → l ≡ Some y → g ≡ None → Err NotInteger ≡ sum_for a l g
unfolding sum_for
sum_2 a l g x y e f h = rw (e, f, h)

pub sum_3 : (a l g : Option Signed) (x y z : Signed) → a ≡ Some x → l ≡ Some y → g ≡ Some z
    → Ok (record { amount = x; least = y; greatest = z }) ≡ sum_for a l g
unfolding sum_for
sum_3 a l g x y z e f h = rw (e, f, h)

-- a test that fails among five
one_fails : (r a b c d : Bool) → r && (c && d) ≡ false → r && (a && (b && (c && (d && true)))) ≡ false
one_fails false a b c d e = refl
one_fails true a b false d e = simp and-false
one_fails true a b true false e = simp and-false
one_fails true a b true true e = impossible cc

pub increment_takes : Takes increment_form (groups.Expiry ∷ groups.Version ∷ groups.Min ∷ groups.Max ∷ []) 4
unfolding allowed option_words group_number
increment_takes = record { groups = refl; words = λ ws. refl }

module _ (time : ℕ) {ws : List Word} {r : ScannedOptions} (y : Ready increment_form ws r) where
  abbrev number_read : ℕ → Bool
  number_read n = given_option increment_form n ws

  abbrev amount : Option ℤ
  amount = read_integer lowest64 highest64 (word_at 3 ws)

  abbrev low : Option Signed
  low = bound_for lowest_signed ws r.min

  abbrev high : Option Signed
  high = bound_for highest_signed ws r.max

  increment_all : all_read increment_form ws
      ≡ is_some amount && (number_read expiry_group && (number_read version_group && (number_read min_group && (number_read max_group && true))))
  unfolding allowed number_range or_else all readable read_in
  increment_all = ap (λ b. is_some amount && b) y.read

  low_read : has_read low ≡ number_read min_group
  low_read = bound_readable y min_group (omega arith) r.min refl lowest_signed

  high_read : has_read high ≡ number_read max_group
  high_read = bound_readable y max_group (omega arith) r.max refl highest_signed

  module _ {x : Result Sum Refusal} (ex : x ≡ sum_of ws r) where
    pub increment_unread : {n : Refusal} → x ≡ Err n → meant ws (Err n) ≡ parse_rest time increment_form ws
    unfolding sum_of
    increment_unread q =
        let no-sum = sum_refused (option_map signed_for amount) low high (sym ex ∙ q) in
        rw no-sum.1
        (rest_16 time increment_form ws y.clean
        (increment_all
        ∙ one_fails (is_some amount) (number_read expiry_group) (number_read version_group) (number_read min_group) (number_read max_group)
        (rw (integer_read amount, low_read, high_read) at no-sum.0)))

    module _ {sum : Sum} (es : x ≡ Ok sum) (m : Result Stamping Refusal) (em : by_number m ≡ terms_for time (given_at ws r expiry_group) (given_at ws r version_group)) where
      parts : (option_map signed_for amount ≡ Some sum.amount) × (low ≡ Some sum.least) × (high ≡ Some sum.greatest)
      unfolding sum_of
      parts = sum_value (option_map signed_for amount) low high sum (sym ex ∙ es)

      increment_left : all_read increment_form ws ≡ number_read expiry_group && number_read version_group
      unfolding has_read
      increment_left =
          let a : is_some amount ≡ true = sym (integer_read amount) ∙ rw parts.0 in
          let b : number_read min_group ≡ true = sym low_read ∙ rw parts.1 in
          let c : number_read max_group ≡ true = sym high_read ∙ rw parts.2 in
          increment_all ∙ rw (a, b, c, and-true (number_read version_group))

      pub increment_refused : {n : Refusal} → m ≡ Err n → meant ws (Err n) ≡ parse_rest time increment_form ws
      unfolding build on_deed deed_versioning deed_lifetime
      increment_refused q = terms_refused y time m em increment_left refl refl q

      amount_said : number_in signed64 (word_at 3 ws) ≡ integer_of sum.amount
      unfolding number_in read_in
      amount_said = integer_value amount sum.amount parts.0

      low_said : bound_in min_group lowest64 (given_in increment_form ws) ≡ integer_of sum.least
      unfolding integer_of
      low_said = bound_said y min_group (omega arith) r.min refl lowest_signed parts.1

      high_said : bound_in max_group highest64 (given_in increment_form ws) ≡ integer_of sum.greatest
      unfolding integer_of
      high_said = bound_said y max_group (omega arith) r.max refl highest_signed parts.2

      pub increment_done : {s : Stamping} → m ≡ Ok s → meant ws (Ok (parses.OnField (fieldDeeds.Increment sum s))) ≡ parse_rest time increment_form ws
      unfolding build on_deed deed_versioning deed_lifetime meant deed_of
      increment_done q =
          let (said, e) = terms_said y time m em increment_left refl refl q in
          rw (← amount_said, ← low_said, ← high_said, ← e) said

-- ---- EXHEXPIRE, EXHEXPIREAT, EXHPEXPIRE, EXHPEXPIREAT

abbrev expiring : TimeUnit → Form
expiring unit = expire_form (unit_meant unit)

pub expire_takes : (unit : TimeUnit) → Takes (expire_form (unit_meant unit)) (groups.Version ∷ []) 4
unfolding allowed option_words group_number
expire_takes unit = record { groups = refl; words = λ ws. refl }

module _ (time : ℕ) (unit : TimeUnit) {ws : List Word} {r : ScannedOptions} (y : Ready (expire_form (unit_meant unit)) ws r) where
  abbrev number : Option ℤ
  number = read_integer (pos 0) (pos time_limit) (word_at 3 ws)

  expire_all : all_read (expiring unit) ws ≡ is_some number && (given_option (expiring unit) version_group ws && true)
  unfolding allowed number_range or_else all readable read_in
  expire_all = ap (λ b. is_some number && b) y.read

  pub expire_unread : number ≡ None → meant ws (Err NotInteger) ≡ parse_rest time (expiring unit) ws
  expire_unread e = rest_16 time (expiring unit) ws y.clean (expire_all ∙ rw e)

  module _ {v : Result Versioning Refusal} (ev : v ≡ versioned_for (given_at ws r version_group)) where
    pub expire_unversioned : {n : Refusal} → v ≡ Err n → meant ws (Err n) ≡ parse_rest time (expiring unit) ws
    expire_unversioned q =
        let no = version_refused y ev q in
        rw no.1 (rest_16 time (expiring unit) ws y.clean (expire_all ∙ rw (no.0, and-false (is_some number))))

    module _ {k : ℕ} (ek : number ≡ Some (pos k)) {n : Versioning} (en : v ≡ Ok n) where
      expire_read : all_read (expiring unit) ws ≡ true
      expire_read = expire_all ∙ rw (ek, (version_said y ev en).0)

      pub expire_zero : {b : Bool} → b ≡ is_zero n → b ≡ true → meant ws (Err InvalidVersion) ≡ parse_rest time (expiring unit) ws
      unfolding build on_deed deed_versioning
      expire_zero e q = rest_17 time (expiring unit) ws y.clean expire_read (rw (version_said y ev en).1 (sym e ∙ q))

      module _ {b : Bool} (eb : b ≡ is_zero n) (qb : b ≡ false) {t : ℕ} (et : t ≡ instant_in unit k time) where
        expire_nonzero : on_deed (λ d. is_zero (deed_versioning d)) (said_by time (expiring unit) ws) ≡ false
        unfolding build on_deed deed_versioning
        expire_nonzero = rw (version_said y ev en).1 (sym eb ∙ qb)

        expire_instant : instant time (unit_meant unit) (word_at 3 ws) ≡ t
        expire_instant = instant_read time unit (word_at 3 ws) k ek ∙ sym et

        pub expire_beyond : time_limit < t → meant ws (Err InvalidExpireTime) ≡ parse_rest time (expiring unit) ws
        unfolding build on_deed deed_lifetime beyond
        expire_beyond l = rest_18 time (expiring unit) ws y.clean expire_read expire_nonzero (rw expire_instant (lt-ltb time_limit t l))

        pub expire_done : t ≤ time_limit → meant ws (Ok (parses.OnField (fieldDeeds.Expire t n))) ≡ parse_rest time (expiring unit) ws
        unfolding build on_deed deed_lifetime beyond meant deed_of
        expire_done l =
            rw (← expire_instant, ← (version_said y ev en).1)
            (rest_said time (expiring unit) ws y.clean expire_read expire_nonzero (rw expire_instant (le-ltb time_limit t l)))

-- ---- EXHSETVER

module _ (time : ℕ) (ws : List Word) where
  renumber_clean : unclean renumber_form ws ≡ false
  unfolding allowed option_words scan or_else conflicting
  renumber_clean = refl

  pub renumber_unread : read_integer (pos 0) (pos version_most) (word_at 3 ws) ≡ None → meant ws (Err NotInteger) ≡ parse_rest time renumber_form ws
  unfolding number_range or_else readable read_in
  renumber_unread e = rest_16 time renumber_form ws renumber_clean (rw e)

  pub renumber_done : (n : ℕ) → read_integer (pos 0) (pos version_most) (word_at 3 ws) ≡ Some (pos n) → meant ws (Ok (parses.OnField (fieldDeeds.Renumber n))) ≡ parse_rest time renumber_form ws
  unfolding allowed option_words scan number_range or_else readable read_in all build meant deed_of natural_in number_in on_deed deed_versioning is_zero deed_lifetime beyond
  renumber_done n e = rw e at (rest_said time renumber_form ws renumber_clean (rw e) refl refl)

-- ---- EXHLEN

pub count_takes : Takes count_form (groups.NoExp ∷ []) 2
unfolding allowed option_words group_number
count_takes = record { groups = refl; words = λ ws. refl }

module _ (time : ℕ) {ws : List Word} {r : ScannedOptions} (y : Ready count_form ws r) where
  count_read : all_read count_form ws ≡ true
  unfolding allowed number_range or_else all operand_range
  count_read = y.read ∙ rw (no_exp_read y)

  abbrev counted : Bool → Command
  counted t = cond t (count_live (word_at 1 ws)) (count_held (word_at 1 ws))

  count_said : (t : Bool) → is_some (given_of no_exp_group (given_in count_form ws)) ≡ t → accepted (counted t) ≡ parse_rest time count_form ws
  unfolding build on_deed
  count_said t e =
      rw (← e)
      (rest_said time count_form ws y.clean count_read
      (no_deed (λ d. is_zero (deed_versioning d)) (is_some (given_of no_exp_group (given_in count_form ws))))
      (no_deed (λ d. beyond (deed_lifetime d)) (is_some (given_of no_exp_group (given_in count_form ws)))))
    where
      no_deed : (test : Deed → Bool) (b : Bool) → on_deed test (counted b) ≡ false
      no_deed test true = refl
      no_deed test false = refl

  pub count_live_lem : r.no_exp ≡ true → meant ws (Ok (parses.OnKey keyDeeds.CountLive)) ≡ parse_rest time count_form ws
  unfolding meant command_for
  count_live_lem e = count_said true (rw (y.given no_exp_group (omega arith)) (flag_some (no_exp with []) r.no_exp ∙ e))

  pub count_held_lem : r.no_exp ≡ false → meant ws (Ok (parses.OnKey keyDeeds.CountHeld)) ≡ parse_rest time count_form ws
  unfolding meant command_for
  count_held_lem e = count_said false (rw (y.given no_exp_group (omega arith)) (flag_some (no_exp with []) r.no_exp ∙ e))

-- ---- commands of fixed words with no number among them

module _ (time : ℕ) (ws : List Word) where
  -- a form that has no options and no number
  fixed : (f : Form) → option_words f ws ≡ [] → number_range f ≡ None → (c : Command) → build time f ws [] ≡ c
      → on_deed (λ d. is_zero (deed_versioning d)) c ≡ false → on_deed (λ d. beyond (deed_lifetime d)) c ≡ false → accepted c ≡ parse_rest time f ws
  unfolding scan or_else conflicting all
  fixed f words number c ec z b =
      let scanned : scan (allowed f) None (option_words f ws) ≡ Some [] = rw words in
      let said : said_by time f ws ≡ c = rw scanned ec in
      rw (← said) (rest_said time f ws (rw scanned) (rw (scanned, number)) (rw said z) (rw said b))

  pub fixed_pairs : meant ws (Ok (parses.OnKey keyDeeds.SetMany)) ≡ parse_rest time set_many_form ws
  unfolding option_words number_range build on_deed meant command_for
  fixed_pairs = fixed set_many_form refl refl (set_many (word_at 1 ws) (pairs_of (drop 2 ws))) refl refl refl

  pub fixed_persist : meant ws (Ok (parses.OnField fieldDeeds.Persist)) ≡ parse_rest time persist_form ws
  unfolding option_words number_range build on_deed deed_versioning is_zero deed_lifetime beyond meant deed_of
  fixed_persist = fixed persist_form refl refl (on_field (word_at 1 ws) (word_at 2 ws) persist) refl refl refl

  pub fixed_ask : (q : Question) → meant ws (Ok (parses.OnField (fieldDeeds.Ask q))) ≡ parse_rest time (ask_form q) ws
  unfolding option_words number_range build on_deed deed_versioning is_zero deed_lifetime beyond meant deed_of
  fixed_ask q = fixed (ask_form q) refl refl (on_field (word_at 1 ws) (word_at 2 ws) (ask q)) refl refl refl

  pub fixed_many : (q : Question) → meant ws (Ok (parses.OnKey (keyDeeds.GetMany q))) ≡ parse_rest time (get_many_form q) ws
  unfolding option_words number_range build on_deed meant command_for
  fixed_many q = fixed (get_many_form q) refl refl (get_many (word_at 1 ws) (drop 2 ws) q) refl refl refl

  pub fixed_delete : meant ws (Ok (parses.OnKey keyDeeds.Delete)) ≡ parse_rest time delete_form ws
  unfolding option_words number_range build on_deed meant command_for
  fixed_delete = fixed delete_form refl refl (delete (word_at 1 ws) (drop 2 ws)) refl refl refl

  pub fixed_list : (l : Listing) → meant ws (Ok (parses.OnKey (keyDeeds.List l))) ≡ parse_rest time (list_form l) ws
  unfolding option_words number_range build on_deed meant command_for
  fixed_list l = fixed (list_form l) refl refl (list (word_at 1 ws) l) refl refl refl

-- the commands that have no options and no number
pub ruleset fixed_forms = (fixed_pairs, fixed_persist, fixed_ask, fixed_many, fixed_delete, fixed_list)
