use Rattle.flowgoal.proofs.flowgoal_canonical.Goals as goal

pub returns : goal.returns
returns c =
    record { answer = c.canonical.result; promised = c.canonical.ensures; number = c.number.ensures }
