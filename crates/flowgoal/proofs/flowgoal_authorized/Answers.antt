use Rattle.flowgoal.proofs.flowgoal_authorized.Goals as goal

pub returns : goal.returns
returns c =
    record { answer = c.authorization.result; promised = rw (c.new-x.ensures, c.new-y.ensures, c.new.ensures) at c.authorization.ensures; number = c.number.ensures }
