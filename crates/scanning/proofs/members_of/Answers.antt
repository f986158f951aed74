-- The members still to come decide; the set so far is one of recorders 1 to 8. Assumes nothing.
use Rattle.std.proofs.Common.{◌≡◌, ◌-◌, length, drop, take, sym, ap, ap₂, arith, ◌∙◌, length-drop}
use Rattle.std.proofs.lemmas.List.{take_all}
use borrow.Author.Tests.{true-eqb, false-eqb}
use Rattle.story.specs.Sets.{members_from}
use Rattle.story.proofs.SetsLaws.{member-small}
use Rattle.scanning.specs.Scanned.{value_of}
use Rattle.story.specs.Numbers.{value}
use Rattle.scanning.proofs.ValuesAt.{members-off, members-on, members-closed, members-ill, members-short}
use Rattle.scanning.proofs.members_of.Goals as goal
use Rattle.scanning.proofs.members_of.Goals.{else-c-eq125-via-then-c-eq125+else-is_empty, else-c-eq125-via-else-c-eq125}

pub returns-in_err-mask : goal.returns-in_err-mask
returns-in_err-mask c =
    let l = c.loop-rest in
    ap value_of c.from_residual.ensures
    ∙ sym (l.invariant.1 ∙ members-off l.rest.now l.mask c.in-len2-up.len_at_least c.in_err-mask.ensures)

pub returns-then-is_empty : goal.returns-then-is_empty
returns-then-is_empty c =
    let l = c.loop-rest in
    let f = l.rest.now in
    let p = c.in_ok-mask.ensures in
    let tail : take (length f - 2) (drop 2 f) ≡ drop 2 f = take_all (length f - 2) (drop 2 f) (omega (arith, length-drop 2 f)) in
    let none : length (drop 2 f) ≡ 0 = ap length (sym tail) ∙ true-eqb _ 0 c.if-is_empty.ensures in
    ap value p.1 ∙ sym (l.invariant.1 ∙ members-closed f l.mask c.in-len2-up.len_at_least p.0 c.if-c-eq125.true none)

pub returns-then-c-ne44 : goal.returns-then-c-ne44
returns-then-c-ne44 c =
    let l = c.loop-rest in
    let f = l.rest.now in
    let p = c.in_ok-mask.ensures in
    let tail : take (length f - 2) (drop 2 f) ≡ drop 2 f = take_all (length f - 2) (drop 2 f) (omega (arith, length-drop 2 f)) in
    sym
    (l.invariant.1
    ∙ members-ill f l.mask c.in-len2-up.len_at_least p.0 c.if-c-ne44.true
    (λ h k.
    elim c.else-c-eq125.branch [
      | else-c-eq125-via-then-c-eq125+else-is_empty w ↦ false-eqb _ 0 w.if-is_empty.ensures (ap length tail ∙ k)
      | else-c-eq125-via-else-c-eq125 w ↦ w.if-c-eq125.false h
    ]))

pub loop-rest-preserved : goal.loop-rest-preserved
loop-rest-preserved c =
    let l = c.loop-rest in
    let f = l.rest.now in
    let p = c.in_ok-mask.ensures in
    let tail : take (length f - 2) (drop 2 f) ≡ drop 2 f = take_all (length f - 2) (drop 2 f) (omega (arith, length-drop 2 f)) in (
      omega (arith, p.1, member-small l.mask _ l.invariant.0 p.0),
      l.invariant.1 ∙ members-on f l.mask c.in-len2-up.len_at_least p.0 c.if-c-ne44.false ∙ ap₂ members_from (sym p.1) (sym tail),
    )

pub returns : goal.returns
returns c =
    let l = c.loop-rest in
    sym (l.invariant.1 ∙ members-short l.rest.now l.mask (omega arith))
