-- From the words of a command to what it says: checks 15 to 18, and what the options that were given say.
use Rattle.std.specs.Prelude.{Option, None, Some, option_map, unwrap_or, is_some, Result, Ok, Err}
use mathlib.Core.Path.{◌≡◌, refl, sym, ap, ◌∙◌}
use mathlib.Core.Bool.{Bool, true, false, cond, not, ◌&&◌}
use mathlib.Core.List.{List, [], map}
use Prim.Native.Nat.{ℕ, ◌<◌}
use native.Mathlib.Omega.{arith}
use lib.IntN.{ℤ, pos}
use lib.ListN.{drop}
use Rattle.wire.specs.declared.integers.Signed.{Signed}
use Rattle.wire.specs.Lists.{all, or_else}
use Rattle.wire.specs.Integers.{read_integer, lowest64, highest64}
use Rattle.wire.specs.Words.{Word, word_at}
use Rattle.wire.specs.Promises.{signed_for, integer_of}
use Rattle.wire.proofs.Lists.{impossible}
use Rattle.wire.proofs.IntegerSigns.{sign_said}
use Rattle.commands.specs.declared.Condition.{Condition}
use Rattle.commands.specs.declared.Condition.TheVariants as conditions
use Rattle.commands.specs.declared.Lifetime.{Lifetime}
use Rattle.commands.specs.declared.Versioning.{Versioning}
use Rattle.commands.specs.declared.Stamping.{Stamping}
use Rattle.commands.specs.declared.refusal.Refusal.{Refusal}
use Rattle.commands.specs.declared.refusal.Refusal.TheVariants.{Syntax, NotInteger, InvalidVersion, InvalidExpireTime}
use Rattle.commands.specs.declared.table.OptionGroup.{OptionGroup}
use Rattle.commands.specs.declared.options.ScannedOptions.{ScannedOptions}
use Rattle.wire.specs.Checks.{first_applying}
use Rattle.commands.specs.Options.{◌with◌, Given, signed64, expiry_group, condition_group, version_group, group_count, operand_range, scan, conflicting, given_of, read_in, readable, number_in, readable_operand, condition_of, lifetime, versioning, condition, bound_in, no_exp_group}
use Rattle.commands.specs.Options.OptionKind.{only, bound, no_exp}
use Rattle.commands.specs.Parse.{Form, allowed, option_words, number_range, is_zero, deed_versioning, beyond, deed_lifetime, on_deed, later_checks, scanned_of, said_by}
use Rattle.commands.specs.Parse.Parsed.{refused, accepted}
use Rattle.commands.specs.TablePromises.{group_number}
use Rattle.commands.specs.ParsePromises.{refusal_number, by_number, given_at, CleanScan, Scanned, lifetime_by, version_by, read_of, timed_for, versioned_for, term_checks, terms_for, bound_for, parse_rest, meant}
use Rattle.wire.proofs.Checks.{check_applies, check_passed, checks_end}
use Rattle.commands.proofs.OptionsOneEach.{scan_allowed, all_groups}

-- ---- checks 15 to 18

-- the options of a command of a form, and the command that they and its words say
abbrev pub given_in : Form → List Word → List Given
given_in f ws = unwrap_or (scanned_of f ws) []

-- the tests of 15 to 18; the one of 16 passes where all numbers are read
abbrev pub unclean : Form → List Word → Bool
unclean f ws = or_else (scanned_of f ws) true conflicting

abbrev pub all_read : Form → List Word → Bool
all_read f ws = or_else (number_range f) true (λ r. readable r (word_at 3 ws)) && all readable_operand (given_in f ws)

abbrev pub zero_version : ℕ → Form → List Word → Bool
zero_version time f ws = on_deed (λ d. is_zero (deed_versioning d)) (said_by time f ws)

abbrev pub too_late : ℕ → Form → List Word → Bool
too_late time f ws = on_deed (λ d. beyond (deed_lifetime d)) (said_by time f ws)

-- each number is reached by passing the checks before it
module _ (time : ℕ) (f : Form) (ws : List Word) where
  abbrev refusal : Option ℕ
  refusal = first_applying (later_checks f ws (scanned_of f ws) (said_by time f ws))

  rest_refused : (n : Refusal) → refusal ≡ Some (refusal_number n) → meant ws (Err n) ≡ parse_rest time f ws
  unfolding meant parse_rest or_else
  rest_refused n e = rw e

  rest_passed : refusal ≡ None → accepted (said_by time f ws) ≡ parse_rest time f ws
  unfolding parse_rest or_else
  rest_passed e = rw e

  pub rest_15 : unclean f ws ≡ true → meant ws (Err Syntax) ≡ parse_rest time f ws
  unfolding later_checks refusal_number
  rest_15 a = rest_refused Syntax (check_applies _ _ a)

  module _ (a : unclean f ws ≡ false) where
    pub rest_16 : all_read f ws ≡ false → meant ws (Err NotInteger) ≡ parse_rest time f ws
    unfolding later_checks refusal_number
    rest_16 b = rest_refused NotInteger (check_passed _ _ a ∙ check_applies _ _ (ap not b))

    module _ (b : all_read f ws ≡ true) where
      pub rest_17 : zero_version time f ws ≡ true → meant ws (Err InvalidVersion) ≡ parse_rest time f ws
      unfolding later_checks refusal_number
      rest_17 c = rest_refused InvalidVersion (check_passed _ _ a ∙ check_passed _ _ (ap not b) ∙ check_applies _ _ c)

      module _ (c : zero_version time f ws ≡ false) where
        pub rest_18 : too_late time f ws ≡ true → meant ws (Err InvalidExpireTime) ≡ parse_rest time f ws
        unfolding later_checks refusal_number
        rest_18 d = rest_refused InvalidExpireTime (check_passed _ _ a ∙ check_passed _ _ (ap not b) ∙ check_passed _ _ c ∙ check_applies _ _ d)

        pub rest_said : too_late time f ws ≡ false → accepted (said_by time f ws) ≡ parse_rest time f ws
        unfolding later_checks refusal_number
        rest_said d = rest_passed (check_passed _ _ a ∙ check_passed _ _ (ap not b) ∙ check_passed _ _ c ∙ check_passed _ _ d ∙ checks_end)

-- ---- what a scan found

-- the groups and the words from which a form takes options
pub record Takes (f : Form) (al : List OptionGroup) (from : ℕ) : Type 0 where
  pub groups : allowed f ≡ map group_number al
  pub words : (ws : List Word) → option_words f ws ≡ drop from ws

-- A scan that is clean: the options of the groups stand in the code's arrays, and all numbers are read where each group's is.
pub record Ready (f : Form) (ws : List Word) (r : ScannedOptions) : Type 0 where
  pub clean : unclean f ws ≡ false
  pub given : (g : ℕ) → g < group_count → given_of g (given_in f ws) ≡ given_at ws r g
  pub read : all readable_operand (given_in f ws) ≡ all (λ n. read_of (given_of n (given_in f ws))) (allowed f)

module _ {f : Form} {al : List OptionGroup} {from : ℕ} (k : Takes f al from) (ws : List Word) where
  same_scan : scan (map group_number al) None (drop from ws) ≡ scanned_of f ws
  same_scan = rw (k.groups, k.words ws)

  pub not_clean : {n : Refusal} → Scanned ws (map group_number al) from (Err n) → (time : ℕ) → meant ws (Err n) ≡ parse_rest time f ws
  not_clean (e, h) time = rw e (rest_15 time f ws (rw same_scan at h))

  pub ready : {r : ScannedOptions} → CleanScan ws (map group_number al) from r → Ready f ws r
  unfolding or_else read_of
  ready s =
      let clean : unclean f ws ≡ false = rw same_scan at s.clean in
      record {
        clean = clean;
        given = λ g l. rw same_scan at (s.given g l);
        read = all_groups readable_operand (allowed f) (scanned_of f ws) clean (scan_allowed (allowed f) (option_words f ws));
      }

-- ---- what the code read

-- an answer is a value where the numbers are read, and a refusal where they are not
answer_value : {T : Type 0} (b : Bool) (a l : T) → cond b (Ok a) (Err NotInteger) ≡ Ok l → (b ≡ true) × (a ≡ l)
answer_value true a l k = (refl, cc)
answer_value false a l k = impossible cc

answer_refused : {T : Type 0} (b : Bool) (a : T) {n : Refusal} → cond b (Ok a) (Err NotInteger) ≡ Err n → (b ≡ false) × (n ≡ NotInteger)
answer_refused true a k = impossible cc
answer_refused false a k = (refl, cc)

module _ (time : ℕ) (x : Option Given) {t : Result Lifetime Refusal} (e : t ≡ timed_for time x) where
  timed_value : {l : Lifetime} → t ≡ Ok l → (read_of x ≡ true) × (lifetime_by time x ≡ l)
  unfolding timed_for
  timed_value {l} h = answer_value (read_of x) (lifetime_by time x) l (sym e ∙ h)

  timed_refused : {n : Refusal} → t ≡ Err n → (read_of x ≡ false) × (n ≡ NotInteger)
  unfolding timed_for
  timed_refused h = answer_refused (read_of x) (lifetime_by time x) (sym e ∙ h)

module _ (x : Option Given) {v : Result Versioning Refusal} (e : v ≡ versioned_for x) where
  versioned_value : {n : Versioning} → v ≡ Ok n → (read_of x ≡ true) × (version_by x ≡ n)
  unfolding versioned_for
  versioned_value {n} h = answer_value (read_of x) (version_by x) n (sym e ∙ h)

  versioned_refused : {n : Refusal} → v ≡ Err n → (read_of x ≡ false) × (n ≡ NotInteger)
  unfolding versioned_for
  versioned_refused h = answer_refused (read_of x) (version_by x) (sym e ∙ h)

-- what the code answers of both, x of the expiry and y of the version
module _ (time : ℕ) (x y : Option Given) where
  terms_given : (n : Refusal) → first_applying (term_checks time x y) ≡ Some (refusal_number n) → by_number (Err n) ≡ terms_for time x y
  unfolding terms_for or_else by_number
  terms_given n e = rw e

  terms_passed : first_applying (term_checks time x y) ≡ None → by_number (Ok (record { versioning = version_by y; lifetime = lifetime_by time x })) ≡ terms_for time x y
  unfolding terms_for or_else by_number
  terms_passed e = rw e

  module _ {t : Result Lifetime Refusal} (et : t ≡ timed_for time x) where
    pub terms_untimed : {n : Refusal} → t ≡ Err n → by_number (Err n) ≡ terms_for time x y
    unfolding term_checks refusal_number
    terms_untimed q =
        let no = timed_refused time x et q in
        rw no.1 (terms_given NotInteger (check_applies _ _ (rw no.0)))

    module _ {v : Result Versioning Refusal} (ev : v ≡ versioned_for y) {l : Lifetime} (el : t ≡ Ok l) where
      pub terms_unversioned : {n : Refusal} → v ≡ Err n → by_number (Err n) ≡ terms_for time x y
      unfolding term_checks refusal_number
      terms_unversioned q =
          let no = versioned_refused y ev q in
          rw no.1 (terms_given NotInteger (check_applies _ _ (rw ((timed_value time x et el).0, no.0))))

      module _ {n : Versioning} (en : v ≡ Ok n) where
        both_read : not (read_of x && read_of y) ≡ false
        both_read = rw ((timed_value time x et el).0, (versioned_value y ev en).0)

        zero_so : {b : Bool} (t : Bool) → b ≡ is_zero n → b ≡ t → is_zero (version_by y) ≡ t
        zero_so t e q = rw (versioned_value y ev en).1 (sym e ∙ q)

        late_so : {b : Bool} (t : Bool) → b ≡ beyond l → b ≡ t → beyond (lifetime_by time x) ≡ t
        late_so t e q = rw (timed_value time x et el).1 (sym e ∙ q)

        pub terms_zero : {b : Bool} → b ≡ is_zero n → b ≡ true → by_number (Err InvalidVersion) ≡ terms_for time x y
        unfolding term_checks refusal_number
        terms_zero e q = terms_given InvalidVersion (check_passed _ _ both_read ∙ check_applies _ _ (zero_so true e q))

        module _ {b : Bool} (eb : b ≡ is_zero n) (qb : b ≡ false) where
          pub terms_beyond : {d : Bool} → d ≡ beyond l → d ≡ true → by_number (Err InvalidExpireTime) ≡ terms_for time x y
          unfolding term_checks refusal_number
          terms_beyond e q = terms_given InvalidExpireTime (check_passed _ _ both_read ∙ check_passed _ _ (zero_so false eb qb) ∙ check_applies _ _ (late_so true e q))

          pub terms_both : {d : Bool} → d ≡ beyond l → d ≡ false → by_number (Ok (record { versioning = n; lifetime = l })) ≡ terms_for time x y
          unfolding term_checks refusal_number
          terms_both e q =
              rw (← (timed_value time x et el).1, ← (versioned_value y ev en).1)
              (terms_passed (check_passed _ _ both_read ∙ check_passed _ _ (zero_so false eb qb) ∙ check_passed _ _ (late_so false e q) ∙ checks_end))

-- whether an integer was read
unfoldable pub has_read : Option Signed → Bool
has_read (Some z) = true
has_read None = false

pub integer_read : (o : Option ℤ) → has_read (option_map signed_for o) ≡ is_some o
unfolding has_read
integer_read None = refl
integer_read (Some z) = refl

pub integer_value : (o : Option ℤ) (z : Signed) → option_map signed_for o ≡ Some z → unwrap_or o (pos 0) ≡ integer_of z
integer_value None z e = impossible cc
integer_value (Some k) z e =
    let q : signed_for k ≡ z = cc in
    rw (← q) (sym (sign_said k))

-- ---- what the options say, where a scan is clean

module _ {f : Form} {ws : List Word} {r : ScannedOptions} (y : Ready f ws r) where
  abbrev found : ℕ → Option Given
  found n = given_of n (given_in f ws)

  module _ {v : Result Versioning Refusal} (e : v ≡ versioned_for (given_at ws r version_group)) where
    pub version_said : {n : Versioning} → v ≡ Ok n → (read_of (found version_group) ≡ true) × (versioning (given_in f ws) ≡ n)
    unfolding versioning version_by
    version_said h = versioned_value (found version_group) (rw (y.given version_group (omega arith)) e) h

    pub version_refused : {n : Refusal} → v ≡ Err n → (read_of (found version_group) ≡ false) × (n ≡ NotInteger)
    version_refused h = versioned_refused (found version_group) (rw (y.given version_group (omega arith)) e) h

  pub condition_said : condition (given_in f ws) ≡ unwrap_or r.condition conditions.Always
  unfolding condition condition_of or_else
  condition_said = rw (y.given condition_group (omega arith)) (go r.condition)
    where
      go : (x : Option Condition) → or_else (option_map (λ c. only c with []) x) conditions.Always (λ g. condition_of g.kind) ≡ unwrap_or x conditions.Always
      go None = refl
      go (Some c) = refl

  -- what takes no operand has none to be read
  pub condition_read : read_of (found condition_group) ≡ true
  unfolding read_of or_else readable_operand operand_range
  condition_read = rw (y.given condition_group (omega arith)) (go r.condition)
    where
      go : (x : Option Condition) → read_of (option_map (λ c. only c with []) x) ≡ true
      go None = refl
      go (Some c) = refl

  pub no_exp_read : read_of (found no_exp_group) ≡ true
  unfolding read_of or_else readable_operand operand_range
  no_exp_read = rw (y.given no_exp_group (omega arith)) (go r.no_exp)
    where
      go : (t : Bool) → read_of (cond t (Some (no_exp with [])) None) ≡ true
      go true = refl
      go false = refl

  -- a bound that was read, or that was not given: x is the number of its operand's word
  module _ (n : ℕ) (l : n < group_count) (x : Option ℕ) (m : given_at ws r n ≡ option_map (λ k. bound n with word_at k ws) x) (u : Signed) where
    abbrev number : ℕ → Option ℤ
    number k = read_integer lowest64 highest64 (word_at k ws)

    pub bound_readable : has_read (bound_for u ws x) ≡ read_of (found n)
    unfolding bound_for read_of or_else readable_operand operand_range readable read_in has_read
    bound_readable = go x ∙ ap read_of (sym m ∙ sym (y.given n l))
      where
        go : (z : Option ℕ) → has_read (bound_for u ws z) ≡ read_of (option_map (λ k. bound n with word_at k ws) z)
        go None = refl
        go (Some k) = integer_read (number k)

    pub bound_said : {z : Signed} → bound_for u ws x ≡ Some z → bound_in n (integer_of u) (given_in f ws) ≡ integer_of z
    unfolding bound_for bound_in or_else number_in read_in
    bound_said {z} e = rw (y.given n l ∙ m) (go x e)
      where
        go : (t : Option ℕ) → bound_for u ws t ≡ Some z → or_else (option_map (λ k. bound n with word_at k ws) t) (integer_of u) (λ g. number_in signed64 g.operand) ≡ integer_of z
        go None k = let same : u ≡ z = cc in rw same
        go (Some j) k = integer_value (number j) z k

  -- what the options say of the version and the expiry, where these two are what is left to be read
  module _ (time : ℕ) (m : Result Stamping Refusal) (e : by_number m ≡ terms_for time (given_at ws r expiry_group) (given_at ws r version_group))
      (left : all_read f ws ≡ read_of (found expiry_group) && read_of (found version_group))
      (zero : zero_version time f ws ≡ is_zero (versioning (given_in f ws))) (late : too_late time f ws ≡ beyond (lifetime time (given_in f ws))) where
    abbrev outcome : Option ℕ
    outcome = first_applying (term_checks time (found expiry_group) (found version_group))

    -- the checks from 16 on are those of the terms
    rest_terms : parse_rest time f ws ≡ or_else outcome (accepted (said_by time f ws)) refused
    unfolding parse_rest later_checks term_checks versioning version_by lifetime lifetime_by
    rest_terms =
        let same : refusal time f ws ≡ outcome = check_passed _ _ y.clean ∙ rw (left, zero, late) in
        rw same

    abbrev stamping : Stamping
    stamping = record { versioning = versioning (given_in f ws); lifetime = lifetime time (given_in f ws) }

    terms_so : by_number m ≡ or_else outcome (Ok stamping) Err
    unfolding terms_for versioning version_by lifetime lifetime_by
    terms_so = rw (y.given expiry_group (omega arith), y.given version_group (omega arith)) e

    pub terms_refused : {n : Refusal} → m ≡ Err n → meant ws (Err n) ≡ parse_rest time f ws
    unfolding or_else meant by_number
    terms_refused {n} h = rw rest_terms (go outcome (sym terms_so ∙ ap by_number h))
      where
        go : (o : Option ℕ) → or_else o (Ok stamping) Err ≡ Err (refusal_number n)
            → refused (refusal_number n) ≡ or_else o (accepted (said_by time f ws)) refused
        go None k = impossible cc
        go (Some j) k = cc

    pub terms_said : {s : Stamping} → m ≡ Ok s → (accepted (said_by time f ws) ≡ parse_rest time f ws) × (stamping ≡ s)
    unfolding or_else by_number
    terms_said {s} h = rw rest_terms (go outcome (sym terms_so ∙ ap by_number h))
      where
        go : (o : Option ℕ) → or_else o (Ok stamping) Err ≡ Ok s → (accepted (said_by time f ws) ≡ or_else o (accepted (said_by time f ws)) refused) × (stamping ≡ s)
        go None k = (refl, cc)
        go (Some j) k = impossible cc
