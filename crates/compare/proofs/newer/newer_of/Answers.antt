use native.Mathlib.Omega.{arith}
use borrow.Author.Tests.{le-leb, lt-leb}
use Rattle.compare.specs.Newer.{newer_of}
use Rattle.compare.proofs.newer.newer_of.Goals as goal

pub version-requires : goal.version-requires
version-requires c = c.requires.0 _ c.in-Some-Some.is-0

pub version-requires-in-Some-Some : goal.version-requires-in-Some-Some
version-requires-in-Some-Some c = c.requires.1 _ c.in-Some-Some.is-1

pub returns-in-None-None : goal.returns-in-None-None
unfolding newer_of
returns-in-None-None c = rw (c.in-None-None.is-0, c.in-None-None.is-1)

pub returns-in-None-Some : goal.returns-in-None-Some
unfolding newer_of
returns-in-None-Some c = rw (c.in-None-Some.is-0, c.in-None-Some.is-1)

pub returns-in-Some-None : goal.returns-in-Some-None
unfolding newer_of
returns-in-Some-None c = rw (c.in-Some-None.is-0, c.in-Some-None.is-1)

pub returns-then-version : goal.returns-then-version
unfolding newer_of
returns-then-version c =
    rw (
      c.in-Some-Some.is-0,
      c.in-Some-Some.is-1,
      ← c.version.ensures,
      ← c.version-in-Some-Some.ensures,
      lt-leb c.version-in-Some-Some.result
          c.version.result (omega (arith, c.if-version.true)),
    )

pub returns-else-version : goal.returns-else-version
unfolding newer_of
returns-else-version c =
    rw (
      c.in-Some-Some.is-0,
      c.in-Some-Some.is-1,
      ← c.version.ensures,
      ← c.version-in-Some-Some.ensures,
      le-leb c.version-in-Some-Some.result
          c.version.result (omega (arith, c.if-version.false)),
    )
