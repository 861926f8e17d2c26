-- `next` keeps what the iterator says of itself. Invariant: what is still to be given is what was to be given. Measure: the characters left.
use Rattle.std.proofs.Common.{rules}
use Rattle.typed.proofs.Scanning.{met, goes, gives, stops, cut_off, over, shorter}
use Rattle.typed.proofs.scan.ScanIterator.next.Goals as goal

pub loop-c-preserved : goal.loop-c-preserved
loop-c-preserved c = goes c.loop-c.invariant (met _ _ _ _ _ c.in-Some.ensures.lookup.3 c.step_of-step.ensures) c.in-To.is

pub returns-in-Whole : goal.returns-in-Whole
returns-in-Whole c =
    let steps = gives c.loop-c.invariant (met _ _ _ _ _ c.in-Some.ensures.lookup.3 c.step_of-step.ensures) c.in-Whole.is in
    let less = shorter steps in
    record { steps = steps; goes = search rules }

pub returns-in-Stop : goal.returns-in-Stop
returns-in-Stop c =
    let steps = stops c.loop-c.invariant (met _ _ _ _ _ c.in-Some.ensures.lookup.3 c.step_of-step.ensures) c.in-Stop.is in
    let less = shorter steps in
    record { steps = steps; goes = search rules }

pub returns-in_default-state : goal.returns-in_default-state
returns-in_default-state c =
    record { steps = over _ _ _ c.loop-c.invariant c.in_default.ensures.lookup.3 c.in_default-state.not-Half; goes = search rules }

pub returns : goal.returns
returns c =
    let steps = cut_off _ _ _ c.loop-c.invariant c.in_default.ensures.lookup.3 c.in-Half.is c.at.ensures in
    let less = shorter steps in
    record { steps = steps; goes = search rules }
