-- One absorbing call: the division of what waited and of the bytes used says it all.
use Rattle.std.specs.Prelude.{option_to_list, Option, None, Some}
use mathlib.Core.Path.{◌≡◌, refl, sym, ap, ◌∙◌}
use mathlib.Core.Logic.{◌⊎◌, inl, inr}
use mathlib.Core.Bool.{Bool, true, false}
use mathlib.Core.List.{List, [], ◌∷◌, ◌++◌, append_assoc}
use Rattle.std.proofs.lemmas.Option.{none-some, same_Some}
use Prim.Native.Nat.{ℕ, ◌+◌, ◌-◌, ◌≤◌, ◌<◌}
use native.Mathlib.Omega.{arith}
use lib.Dec.{ltb}
use lib.ListN.{length, take, drop, length-append, length-take, length-drop, take-append-drop}
use lib.Seq.{take-take, drop-append-le, take-length}
use borrow.Author.Tests.{ltb-true, ltb-false}
use Rattle.wire.specs.Lists.{or_else}
use Rattle.feeder.specs.Record.{record_of, command_at}
use Rattle.feeder.specs.Stream.{Division, ended, divide}
use Rattle.feeder.specs.Absorb.{used_most, Place, first_record, end_of, offered, Absorbing, keeping, completing, absorb}
use Rattle.feeder.proofs.RecordHead.{record_more}
use Rattle.feeder.proofs.FirstRecord.{First, first_found, found_first, none_found, none_records, first_fits, first_more, first_fewer, first_divides, first_not_waiting}

-- what one call adds, as a division
abbrev pub division_of : Absorbing → Division
division_of a = record { records = option_to_list a.completed; skipped = a.skipped; rest = a.rest }

-- what a call comes to, where w waited
pub record Took (w piece : List ℕ) (a : Absorbing) : Type 0 where
  pub within : a.used ≤ length (offered piece)
  pub none_before : (v : ℕ) → v < a.used → (divide (w ++ take v piece)).records ≡ []
  pub stops : (a.used ≡ length (offered piece)) ⊎ (length (divide (w ++ take a.used piece)).records ≡ 1)
  pub some_used : 1 ≤ length piece → 1 ≤ a.used
  pub divides : division_of a ≡ divide (w ++ take a.used piece)

module _ (w piece : List ℕ) where
  abbrev all : List ℕ
  all = w ++ offered piece

  -- the bytes used of a piece are of those offered
  used_offered : (v : ℕ) → v ≤ length (offered piece) → take v piece ≡ take v (offered piece)
  unfolding offered
  used_offered v h =
      let l : v ≤ used_most = omega (arith, length-take used_most piece) in
      sym (take-take v used_most piece l)

  all_offered : take (length (offered piece)) piece ≡ offered piece
  all_offered = used_offered (length (offered piece)) (omega arith) ∙ take-length (offered piece)

  -- before the end of the first record there is none
  early : (v : ℕ) → v ≤ length (offered piece) → ((q : Place) → First all q → length w + v < end_of q)
      → (divide (w ++ take v piece)).records ≡ []
  early v h no_first = go (first_record (w ++ take v piece)) refl
    where
      whole_again : w ++ take v piece ++ drop v (offered piece) ≡ all
      whole_again = rw (append_assoc, used_offered v h, take-append-drop v (offered piece))

      go : (m : Option Place) → first_record (w ++ take v piece) ≡ m → (divide (w ++ take v piece)).records ≡ []
      go None e = none_records (none_found (w ++ take v piece) e)
      go (Some q) e =
          let f : First (w ++ take v piece) q = first_found (w ++ take v piece) q e in
          let g : First all q = rw whole_again at (first_more (drop v (offered piece)) f) in
          absurd (late (no_first q g) (first_fits f))
        where
          late : length w + v < end_of q → end_of q ≤ length (w ++ take v piece) → ⊥
          late a c = omega (arith, length-append w (take v piece), length-take v piece)

  -- no record is completed: all is used, and what is left waits
  kept : first_record all ≡ None → Took w piece (keeping all (length (offered piece)))
  unfolding keeping
  kept e =
      record {
        within = omega arith;
        none_before = λ v l. early v (omega arith) (λ q f. absurd (none-some q (sym e ∙ found_first f)));
        stops = inl refl;
        some_used = λ l. omega (arith, offers l);
        divides = rw all_offered (sym (λ i. record { records = none_records (none_found all e) i; skipped = (divide all).skipped; rest = (divide all).rest }));
      }
    where
      offers : 1 ≤ length piece → 1 ≤ length (offered piece)
      offers l = unfold offered in rw (length-take used_most piece) (omega arith)

  module _ (waits : divide w ≡ ended w) (p : Place) (f : First all p) where
    -- its end lies in the piece
    pub beyond : length w < end_of p
    beyond = go (ltb (length w) (end_of p)) refl
      where
        go : (t : Bool) → ltb (length w) (end_of p) ≡ t → length w < end_of p
        go true e = ltb-true (length w) (end_of p) e
        go false e =
            let g : First w p = first_fewer w (offered piece) p f (ltb-false (length w) (end_of p) e) in
            absurd (first_not_waiting g (rw waits))

    inside : end_of p - length w ≤ length (offered piece)
    inside = omega (arith, first_fits f, length-append w (offered piece))

    -- the bytes up to its end are that record, all before it skipped, and nothing waits
    up_to_end : divide (w ++ take (end_of p - length w) piece)
        ≡ record { records = record_of p.size (drop p.at all) ∷ []; skipped = p.at; rest = [] }
    up_to_end = rw (used_offered (end_of p - length w) inside) (first_divides front ends ∙ rw same_record)
      where
        x : List ℕ
        x = w ++ take (end_of p - length w) (offered piece)

        u : List ℕ
        u = drop (end_of p - length w) (offered piece)

        again : x ++ u ≡ all
        again = rw (append_assoc, take-append-drop (end_of p - length w) (offered piece))

        ends : end_of p ≡ length x
        ends = rw (length-append, length-take) (omega (arith, beyond, inside))

        front : First x p
        front = first_fewer x u p (rw again f) (omega (arith, ends))

        same_record : record_of p.size (drop p.at all) ≡ record_of p.size (drop p.at x)
        same_record =
            let low : p.at ≤ length x = omega (arith, ends) in
            let room : command_at + p.size ≤ length (drop p.at x) = rw length-drop (omega (arith, ends)) in
            ap (λ (s : List ℕ). record_of p.size (drop p.at s)) (sym again)
            ∙ ap (record_of p.size) (drop-append-le p.at x u low)
            ∙ record_more p.size (drop p.at x) u room

    -- a record is completed
    completed : Took w piece (completing all (length w) p)
    unfolding completing
    completed =
        record {
          within = inside;
          none_before = λ v l. early v (omega (arith, inside)) (λ q g. first_end v l q g);
          stops = inr (rw up_to_end);
          some_used = λ l. omega (arith, beyond);
          divides = sym up_to_end;
        }
      where
        first_end : (v : ℕ) → v < end_of p - length w → (q : Place) → First all q → length w + v < end_of q
        first_end v l q g =
            let e : p ≡ q = same_Some p q (sym (found_first f) ∙ found_first g) in
            rw (← e) (omega arith)

  -- every call
  pub took : divide w ≡ ended w → Took w piece (absorb w piece)
  unfolding absorb or_else
  took waits = go (first_record all) refl
    where
      go : (m : Option Place) → first_record all ≡ m
          → Took w piece (or_else m (keeping all (length (offered piece))) (λ p. completing all (length w) p))
      go None e = kept e
      go (Some p) e = completed waits p (first_found all p e)
