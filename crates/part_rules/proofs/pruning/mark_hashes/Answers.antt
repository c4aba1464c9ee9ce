use Rattle.std.proofs.Common.{ℕ, Some, refl, ap, sym, arith}
use Rattle.std.proofs.lemmas.Int.{ints}
use Rattle.part_rules.proofs.Marks.{MarksBelow-none, MarksBelow-more, Marks-below}
use Rattle.part_rules.proofs.pruning.mark_hashes.Goals as goal

pub loop-key-init : goal.loop-key-init
loop-key-init c = MarksBelow-none _ c.args.interval.now _ _ _ (omega (arith, ints)) refl

pub loop-key-preserved : goal.loop-key-preserved
loop-key-preserved c =
    MarksBelow-more _ c.args.interval.now _ _ c.hash_of.result c.args.marks.now c.loop-key.marks _ c.loop-key.invariant
    (omega (arith, ints)) (omega (arith, ints)) (ap (λ (n : ℕ). Some n) (sym c.hash_of.ensures.value)) (omega (arith, c.hash_of.ensures.within)) refl

pub returns : goal.returns
returns c = Marks-below _ c.args.interval.now _ c.args.marks.now c.loop-key.marks c.loop-key.invariant (omega (arith, ints))

pub returns-2 : goal.returns-2
returns-2 c =
    Marks-below _ c.args.interval.now _ c.args.marks.now _
    (MarksBelow-more _ c.args.interval.now _ _ c.hash_of.result c.args.marks.now c.loop-key.marks _ c.loop-key.invariant
    (omega (arith, ints)) refl (ap (λ (n : ℕ). Some n) (sym c.hash_of.ensures.value)) (omega (arith, c.hash_of.ensures.within)) refl)
    (omega (arith, ints))
