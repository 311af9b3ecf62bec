use Rattle.judge.proofs.DueAnswers.{due_holds}
use Rattle.judge.proofs.judge.due_answers_stand.Goals as goal

pub returns : goal.returns
returns g c = λ f s. due_holds g.S.Strategy f s
