-- What an accepted command says of its field's version, that a command without an expiry option says the same at any time, and how VER is read.
use Rattle.std.specs.Prelude.{Option, None, Some, unwrap_or, is_some}
use mathlib.Core.Path.{◌≡◌, refl}
use mathlib.Core.Bool.{Bool, true, false, cond}
use mathlib.Core.List.{List, [], ◌∷◌}
use Prim.Native.Nat.{ℕ, ◌≤◌, ◌<◌}
use Prim.Native.String.{String}
use lib.Dec.{leb}
use lib.IntN.{ℤ, pos, negsuc, nat_abs}
use lib.ListN.{length}
use native.Mathlib.Omega.{arith}
use borrow.Author.Tests.{leb-true, le-leb, lt-leb, le-ltb}
use Rattle.wire.specs.Lists.{all, any, or_else}
use Rattle.wire.specs.Bytes.{text, spells, upper, same}
use Rattle.wire.specs.Integers.{read_integer, within, integer_text, lowest64, highest64}
use Rattle.wire.specs.Words.{Word, word_at}
use Rattle.wire.specs.Replies.{resp_of}
use Rattle.wire.proofs.Lists.{impossible, and_right, both_ways}
use Rattle.wire.proofs.IntegerLaws.{read_text, read_within}
use Rattle.wire.proofs.WordLaws.{words_resp_of}
use Rattle.store.specs.Layout.{key_most, field_most, value_most, time_limit, version_most}
use Rattle.commands.specs.declared.Versioning.{Versioning}
use Rattle.commands.specs.declared.Versioning.TheVariants.{Next, Match, Above}
use Rattle.commands.specs.declared.Lifetime.TheVariants.{Clear}
use Rattle.commands.specs.declared.Condition.{Condition}
use Rattle.commands.specs.declared.Condition.TheVariants.{Always}
use Rattle.wire.specs.Checks.{first_applying}
use Rattle.commands.specs.Command.{Deed, key_of, fields_of, deed_values, values_of}
use Rattle.commands.specs.Command.Deed.{assign, increment, expire}
use Rattle.commands.specs.Command.Command.{on_field, count_held, count_live}
use Rattle.commands.specs.Options.{TimeUnit, OptionKind, Given, versions, read_in, readable, number_in, natural_in, instant, options, group, operand_range, option_named, scan, conflicting, readable_operand, expiry_group, version_group, no_exp_group, given_of, lifetime_of, versioning_of, lifetime, condition, versioning, bound_in}
use Rattle.commands.specs.Options.OptionKind.{expires, keep_ttl, only, versioned, bound, no_exp}
use Rattle.commands.specs.Parse.{Form, row, commands, command_named, count_fits, allowed, option_words, number_range, build, too_long, is_zero, deed_versioning, beyond, deed_lifetime, on_deed, later_checks, checks, scanned_of, said_by, parse_words, parse}
use Rattle.commands.specs.Parse.Count.{at_least}
use Rattle.commands.specs.Parse.Form.{set_form, set_many_form, increment_form, expire_form, persist_form, renumber_form, ask_form, get_many_form, delete_form, count_form, list_form}
use Rattle.commands.specs.Parse.Parsed.{accepted}
use Rattle.commands.proofs.ParseChecks.{parse_accepted}
use Rattle.commands.proofs.OptionsOneEach.{Each, EachRow, named_row, each_given, scanned_each}

-- ---- GT's number is a version

-- a kind whose GT is its operand's number
abbrev GivesOperand : OptionKind → Type 0
GivesOperand (expires u) = Unit {0}
GivesOperand keep_ttl = Unit {0}
GivesOperand (only c) = Unit {0}
GivesOperand (versioned f) = (n v : ℕ) → f n ≡ Above v → n ≡ v
GivesOperand (bound n) = Unit {0}
GivesOperand no_exp = Unit {0}

options_give : EachRow GivesOperand options
unfolding options
options_give = (tt, (tt, (tt, (tt, (tt, (tt, (tt, ((λ n v e. impossible cc), ((λ n v e. impossible cc), ((λ n v e. cc), (tt, (tt, (tt, tt)))))))))))))

number_most : (w : Word) → natural_in versions w ≤ version_most
unfolding natural_in number_in read_in within
number_most w = go (read_integer (pos 0) (pos version_most) w) refl
  where
    go : (o : Option ℤ) → read_integer (pos 0) (pos version_most) w ≡ o → nat_abs (unwrap_or o (pos 0)) ≤ version_most
    go None e = omega arith
    go (Some (pos n)) e = leb-true n version_most (and_right (leb 0 n) (leb n version_most) (read_within (pos 0) (pos version_most) w (pos n) e))
    go (Some (negsuc n)) e = both_ways (read_within (pos 0) (pos version_most) w (negsuc n) e) refl

kind_most : (m : OptionKind) (w : Word) (v : ℕ) → GivesOperand m → versioning_of m w ≡ Above v → v ≤ version_most
unfolding versioning_of
kind_most (expires u) w v p e = impossible cc
kind_most keep_ttl w v p e = impossible cc
kind_most (only c) w v p e = impossible cc
kind_most (versioned f) w v p e = rw (p (natural_in versions w) v e) at (number_most w)
kind_most (bound n) w v p e = impossible cc
kind_most no_exp w v p e = impossible cc

versioning_most : (gs : List Given) (v : ℕ) → Each GivesOperand gs → versioning gs ≡ Above v → v ≤ version_most
unfolding versioning or_else
versioning_most gs v p = go (given_of version_group gs) refl
  where
    go : (o : Option Given) → given_of version_group gs ≡ o → or_else o Next (λ g. versioning_of g.kind g.operand) ≡ Above v → v ≤ version_most
    go None q e = impossible cc
    go (Some g) q e = kind_most g.kind g.operand v (each_given GivesOperand version_group gs p g q) e

-- The version that an accepted command gives with GT is at most the largest.
pub above_most : (now clock : ℕ) (s : List ℕ) (k f : Word) (d : Deed) (v : ℕ) → parse now clock s ≡ accepted (on_field k f d) → deed_versioning d ≡ Above v
    → v ≤ version_most
unfolding build deed_versioning
above_most now clock s k f d v h n =
    let a = parse_accepted now clock s (on_field k f d) h in
    let al : List ℕ = allowed a.row.form in
    go a.row.form (unwrap_or (scanned_of a.row.form a.words) [])
    (scanned_each GivesOperand al (λ w m e. (named_row GivesOperand al options options_give w m e).0) (option_words a.row.form a.words))
    a.words
    a.built
  where
    go : (form : Form) (gs : List Given) → Each GivesOperand gs → (ws : List Word) → build now form ws gs ≡ on_field k f d → v ≤ version_most
    go set_form gs p ws e = let q : versioning gs ≡ Above v = cc in versioning_most gs v p q
    go set_many_form gs p ws e = impossible cc
    go increment_form gs p ws e = let q : versioning gs ≡ Above v = cc in versioning_most gs v p q
    go (expire_form u) gs p ws e = let q : versioning gs ≡ Above v = cc in versioning_most gs v p q
    go persist_form gs p ws e = impossible cc
    go renumber_form gs p ws e = impossible cc
    go (ask_form q) gs p ws e = impossible cc
    go (get_many_form q) gs p ws e = impossible cc
    go delete_form gs p ws e = impossible cc
    go count_form gs p ws e = none_named_lem (is_some (given_of no_exp_group gs)) e
      where
        none_named_lem : (t : Bool) → cond t (count_live (word_at 1 ws)) (count_held (word_at 1 ws)) ≡ on_field k f d → v ≤ version_most
        none_named_lem true q = impossible cc
        none_named_lem false q = impossible cc
    go (list_form l) gs p ws e = impossible cc

-- ---- a command without an expiry option, at any time

clear_anytime : (now later : ℕ) (m : OptionKind) (w : Word) → lifetime_of now m w ≡ Clear → lifetime_of later m w ≡ Clear
unfolding lifetime_of
clear_anytime now later (expires u) w e = impossible cc
clear_anytime now later keep_ttl w e = impossible cc
clear_anytime now later (only c) w e = refl
clear_anytime now later (versioned f) w e = refl
clear_anytime now later (bound n) w e = refl
clear_anytime now later no_exp w e = refl

lifetime_anytime : (now later : ℕ) (gs : List Given) → lifetime now gs ≡ Clear → lifetime later gs ≡ Clear
unfolding lifetime or_else
lifetime_anytime now later gs = go (given_of expiry_group gs)
  where
    go : (o : Option Given) → or_else o Clear (λ g. lifetime_of now g.kind g.operand) ≡ Clear
        → or_else o Clear (λ g. lifetime_of later g.kind g.operand) ≡ Clear
    go None e = refl
    go (Some g) e = clear_anytime now later g.kind g.operand e

module _ (k f x : Word) (c : Condition) (n : Versioning) where
  build_anytime : (now later : ℕ) (form : Form) (ws : List Word) (gs : List Given) → build now form ws gs ≡ on_field k f (assign x c n Clear)
      → build later form ws gs ≡ on_field k f (assign x c n Clear)
  unfolding build
  build_anytime now later set_form ws gs e =
      let l : lifetime now gs ≡ Clear = cc in
      rw (lifetime_anytime now later gs l) (rw l at e)
  build_anytime now later set_many_form ws gs e = impossible cc
  build_anytime now later increment_form ws gs e = impossible cc
  build_anytime now later (expire_form u) ws gs e = impossible cc
  build_anytime now later persist_form ws gs e = impossible cc
  build_anytime now later renumber_form ws gs e = impossible cc
  build_anytime now later (ask_form q) ws gs e = impossible cc
  build_anytime now later (get_many_form q) ws gs e = impossible cc
  build_anytime now later delete_form ws gs e = impossible cc
  build_anytime now later count_form ws gs e = go (is_some (given_of no_exp_group gs)) e
    where
      go : (t : Bool) → cond t (count_live (word_at 1 ws)) (count_held (word_at 1 ws)) ≡ on_field k f (assign x c n Clear)
          → cond t (count_live (word_at 1 ws)) (count_held (word_at 1 ws)) ≡ on_field k f (assign x c n Clear)
      go t q = q
  build_anytime now later (list_form l) ws gs e = impossible cc

  -- An EXHSET without an expiry option that is accepted at one time is accepted at any, and says the same.
  pub parse_anytime : (now later clock : ℕ) (s : List ℕ) → parse now clock s ≡ accepted (on_field k f (assign x c n Clear))
      → parse later clock s ≡ accepted (on_field k f (assign x c n Clear))
  unfolding parse parse_words or_else
  parse_anytime now later clock s h =
      let a = parse_accepted now clock s (on_field k f (assign x c n Clear)) h in
      let form : Form = a.row.form in
      let again : said_by later form a.words ≡ on_field k f (assign x c n Clear) =
      build_anytime now later form a.words (unwrap_or (scanned_of form a.words) []) a.built in
      let clear : first_applying (checks form a.row.count a.words (scanned_of form a.words) (on_field k f (assign x c n Clear))) ≡ None =
      rw a.built at a.clear in
      rw a.split (rw (lt-leb time_limit clock a.early) (rw a.named (rw again (rw clear refl))))

-- ---- VER as it is sent

-- to compute what words say, with the numbers among them left as texts
parsing : Unit {0}
unfolding parse parse_words or_else command_named commands spells upper same text word_at checks later_checks scan option_named options operand_range option_words allowed group build too_long key_of fields_of values_of deed_values count_fits conflicting readable_operand readable read_in number_in natural_in versioning condition lifetime given_of versioning_of bound_in is_zero deed_versioning beyond deed_lifetime on_deed first_applying any all number_range
parsing = tt

natural_read : (most n : ℕ) → n ≤ most → read_integer (pos 0) (pos most) (integer_text (pos n)) ≡ Some (pos n)
unfolding within
natural_read most n l = read_text (pos 0) (pos most) (pos n) (rw (le-leb 0 n (omega arith), le-leb n most l) refl)

module _ (now clock : ℕ) (k f : Word) (v : ℕ) (c : clock < time_limit) (lk : length k ≤ key_most) (lf : length f ≤ field_most) (lv : v ≤ version_most) where
  abbrev sent : Word → Word → List Word
  sent name x = name ∷ k ∷ f ∷ x ∷ text "VER" ∷ integer_text (pos v) ∷ []

  -- An EXHSET with VER v and no other option, as it is sent, is read as just that,
  pub sent_assign : (x : Word) → length x ≤ value_most
      → parse now clock (resp_of (sent (text "EXHSET") x)) ≡ accepted (on_field k f (assign x Always (Match v) Clear))
  unfolding parsing
  sent_assign x lx =
      rw (words_resp_of (sent (text "EXHSET") x) (omega arith) (omega arith), lt-leb time_limit clock c, le-ltb key_most (length k) lk, le-ltb field_most (length f) lf)
      (rw (le-ltb value_most (length x) lx, natural_read version_most v lv) refl)

  -- and so are an EXHINCRBY
  pub sent_increment : (z : ℤ) → within lowest64 highest64 z ≡ true
      → parse now clock (resp_of (sent (text "EXHINCRBY") (integer_text z))) ≡ accepted (on_field k f (increment z lowest64 highest64 (Match v) Clear))
  unfolding parsing
  sent_increment z inside =
      rw (words_resp_of (sent (text "EXHINCRBY") (integer_text z)) (omega arith) (omega arith), lt-leb time_limit clock c)
      (rw (le-ltb key_most (length k) lk, le-ltb field_most (length f) lf, read_text lowest64 highest64 z inside, natural_read version_most v lv) refl)

  -- and an expiry setter.
  pub sent_expire : (name : String) (u : TimeUnit) (n : ℕ) → command_named commands (text name) ≡ Some (row name (at_least 4) (expire_form u)) → n ≤ time_limit
      → instant now u (integer_text (pos n)) ≤ time_limit
      → parse now clock (resp_of (sent (text name) (integer_text (pos n)))) ≡ accepted (on_field k f (expire (instant now u (integer_text (pos n))) (Match v)))
  unfolding parsing
  sent_expire name u n named ln li =
      rw (words_resp_of (sent (text name) (integer_text (pos n))) (omega arith) (omega arith), lt-leb time_limit clock c, named)
      (rw (le-ltb key_most (length k) lk, le-ltb field_most (length f) lf, natural_read time_limit n ln, natural_read version_most v lv)
      (rw (le-ltb time_limit (instant now u (integer_text (pos n))) li) refl))
