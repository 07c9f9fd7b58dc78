use Rattle.flowgoal.proofs.flowgoal_flows.Goals as goal

pub returns : goal.returns
returns c =
    record { answer = c.flow.result; promised = rw (c.new-x.ensures, c.new-y.ensures, c.new.ensures) at c.flow.ensures; number = c.number.ensures }
