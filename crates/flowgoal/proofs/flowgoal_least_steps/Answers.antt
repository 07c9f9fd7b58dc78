use Rattle.flowgoal.proofs.flowgoal_least_steps.Goals as goal

pub returns : goal.returns
returns c =
    record { answer = c.least_steps.result; promised = rw (c.new-x.ensures, c.new-y.ensures) at c.least_steps.ensures; number = c.number.ensures }
