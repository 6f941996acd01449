use mathlib.Core.Path.{refl, sym, ◌∙◌}
use mathlib.Core.Bool.{true, false}
use Rattle.wire.proofs.Lists.{both_ways}
use Rattle.compare.proofs.MarkLaws.{agree_by}
use Rattle.compare.proofs.live.agree.Goals.{then-equal, else-equal}
use Rattle.compare.proofs.live.agree.Goals as goal

pub returns-then-version : goal.returns-then-version
returns-then-version c =
    elim c.if-equal.branch [
      | then-equal w ↦ agree_by _ _ true true (rw (← c.value.ensures, ← c.value-2.ensures)
          (sym c.equal.ensures ∙ w.if-equal.true)) w.version.ensures w.version-then-equal.ensures (sym w.value-is ∙ c.if-version.true) c.expiry.ensures
          c.expiry-then-version.ensures c.eq.ensures
      | else-equal w ↦ both_ways c.if-version.true (w.value-is ∙ w.if-equal.false)
    ]

pub returns-else-version : goal.returns-else-version
returns-else-version c =
    elim c.if-equal.branch [
      | then-equal w ↦ c.if-version.false ∙ agree_by _ _ true false
          (rw (← c.value.ensures, ← c.value-2.ensures) (sym c.equal.ensures ∙ w.if-equal.true)) w.version.ensures w.version-then-equal.ensures
          (sym w.value-is ∙ c.if-version.false) refl refl refl
      | else-equal w ↦ c.if-version.false ∙ agree_by _ _ false _
          (rw (← c.value.ensures, ← c.value-2.ensures) (sym c.equal.ensures ∙ w.if-equal.false)) refl refl refl refl refl refl
    ]
