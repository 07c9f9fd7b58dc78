use Rattle.flowgoal.proofs.flowgoal_join.Goals as goal

pub returns : goal.returns
returns c =
    record { answer = c.join.result; promised = c.join.ensures; number = c.number.ensures }
