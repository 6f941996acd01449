-- From a command's bytes to the checks of its row.
use Rattle.std.specs.Prelude.{Option, None, Some, option_map, Result, Err}
use mathlib.Core.Path.{◌≡◌, refl, sym, ap, ◌∙◌}
use mathlib.Core.Bool.{Bool, true, false, not}
use mathlib.Core.List.{List}
use Prim.Native.Nat.{ℕ, ◌≤◌, ◌<◌}
use borrow.Author.Tests.{not-true, not-false, le-leb, lt-leb, ne_eqb}
use lib.ListN.{length}
use Rattle.wire.specs.Lists.{or_else}
use Rattle.wire.specs.Words.{Word, words_of, word_at}
use Rattle.store.specs.Layout.{time_limit}
use Rattle.commands.specs.declared.table.CommandRow.{CommandRow}
use Rattle.commands.specs.declared.Parsed.{Parsed}
use Rattle.commands.specs.declared.refusal.Refusal.{Refusal}
use Rattle.commands.specs.declared.refusal.Refusal.TheVariants.{Protocol, ClockOutOfRange, UnknownCommand, WrongArgumentCount, TooLong}
use Rattle.wire.specs.Checks.{first_applying}
use Rattle.commands.specs.Command.{Command}
use Rattle.commands.specs.Options.{Given}
use Rattle.commands.specs.Parse as P
use Rattle.commands.specs.Parse.{Form, Count, commands, command_named, count_fits, build, too_long, later_checks, checks, parse_words, scanned_of, said_by}
use Rattle.commands.specs.Parse.Parsed.{refused, accepted}
use Rattle.commands.specs.TablePromises.{form_meant, count_meant, row_parts, row_meant}
use Rattle.commands.specs.ParsePromises.{Divided, refusal_number, parse_rest, meant}
use Rattle.wire.proofs.Checks.{check_applies, check_passed}
use Rattle.commands.proofs.Parsing.{given_in}

-- ---- checks 13 and 14

module _ (time : ℕ) (f : Form) (n : Count) (ws : List Word) where
  abbrev said : Command
  said = said_by time f ws

  abbrev refusal : Option ℕ
  refusal = first_applying (checks f n ws (scanned_of f ws) said)

  -- what the words of a command of this form and this count come to
  abbrev parsed : P.Parsed
  parsed = or_else refusal (accepted said) refused

  words_refused : (k : ℕ) → refusal ≡ Some k → parsed ≡ refused k
  unfolding or_else
  words_refused k e = rw e

  words_13 : count_fits n (length ws) ≡ false → parsed ≡ refused 13
  unfolding checks
  words_13 a = words_refused 13 (check_applies _ _ (ap not a))

  module _ (a : count_fits n (length ws) ≡ true) where
    words_14 : too_long said ≡ true → parsed ≡ refused 14
    unfolding checks
    words_14 b = words_refused 14 (check_passed _ _ (ap not a) ∙ check_applies _ _ b)

    words_rest : too_long said ≡ false → parsed ≡ parse_rest time f ws
    unfolding parse_rest checks
    words_rest b =
        let passed : refusal ≡ first_applying (later_checks f ws (scanned_of f ws) said) = check_passed _ _ (ap not a) ∙ check_passed _ _ b in
        rw passed

-- parsing looks at a row's form and its count
parsed_parts : (time : ℕ) (ws : List Word) (o : Option P.CommandRow) → or_else o (refused 12) (λ r. parse_words time r ws) ≡ or_else (option_map row_parts o) (refused 12) (λ p. parsed time p.0 p.1 ws)
unfolding or_else parse_words
parsed_parts time ws None = refl
parsed_parts time ws (Some r) = refl

-- ---- the bytes of a command

module _ {s : List ℕ} {ws : List Word} (p : Divided s ws) (time clock : ℕ) where
  pub parse_10 : length ws ≡ 0 → meant ws (Err Protocol) ≡ P.parse time clock s
  unfolding meant refusal_number P.parse or_else
  parse_10 e =
      let damaged : words_of s ≡ None = p.words ∙ rw e in
      rw damaged

  module _ (n : length ws ≡ 0 → ⊥) where
    whole : words_of s ≡ Some ws
    whole = p.words ∙ rw (ne_eqb (length ws) 0 n)

    pub parse_11 : time_limit ≤ clock → meant ws (Err ClockOutOfRange) ≡ P.parse time clock s
    unfolding meant refusal_number P.parse or_else
    parse_11 l = rw (whole, le-leb time_limit clock l)

    module _ (l : clock < time_limit) {w : Word} (ew : w ≡ word_at 0 ws) (r : Option CommandRow) (er : option_map row_meant r ≡ option_map row_parts (command_named commands w)) where
      named : P.parse time clock s ≡ or_else (option_map row_meant r) (refused 12) (λ p. parsed time p.0 p.1 ws)
      unfolding P.parse or_else
      named = rw (whole, lt-leb time_limit clock l, er, ew) (parsed_parts time ws (command_named commands (word_at 0 ws)))

      pub parse_12 : r ≡ None → meant ws (Err UnknownCommand) ≡ P.parse time clock s
      unfolding meant refusal_number or_else
      parse_12 h = sym (named ∙ rw h)

      module _ (row : CommandRow) (h : r ≡ Some row) where
        known : P.parse time clock s ≡ parsed time (form_meant row.form) (count_meant row.count) ws
        unfolding or_else
        known = named ∙ rw h

        pub parse_13 : {b : Bool} → b ≡ count_fits (count_meant row.count) (length ws) → not b ≡ true → meant ws (Err WrongArgumentCount) ≡ P.parse time clock s
        unfolding meant refusal_number
        parse_13 {b} e q = sym (known ∙ words_13 time (form_meant row.form) (count_meant row.count) ws (sym e ∙ not-true b q))

        module _ {b : Bool} (eb : b ≡ count_fits (count_meant row.count) (length ws)) (qb : not b ≡ false)
            {d : Bool} (ed : (time : ℕ) (gs : List Given) → d ≡ too_long (build time (form_meant row.form) ws gs)) where
          fits : count_fits (count_meant row.count) (length ws) ≡ true
          fits = sym eb ∙ not-false b qb

          pub parse_14 : d ≡ true → meant ws (Err TooLong) ≡ P.parse time clock s
          unfolding meant refusal_number
          parse_14 q = sym (known ∙ words_14 time (form_meant row.form) (count_meant row.count) ws fits (sym (ed time (given_in (form_meant row.form) ws)) ∙ q))

          pub parse_rest_lem : d ≡ false → (x : Result Parsed Refusal) → meant ws x ≡ parse_rest time (form_meant row.form) ws → meant ws x ≡ P.parse time clock s
          parse_rest_lem q x e = e ∙ sym (known ∙ words_rest time (form_meant row.form) (count_meant row.count) ws fits (sym (ed time (given_in (form_meant row.form) ws)) ∙ q))
