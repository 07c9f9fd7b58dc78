use Rattle.flowgoal.proofs.flowgoal_check.Goals as goal

pub returns : goal.returns
returns c =
    record { answer = c.goal_question.result; promised = c.goal_question.ensures; number = c.number.ensures }
