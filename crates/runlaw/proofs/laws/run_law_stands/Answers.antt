use Rattle.runlaw.proofs.Runs.{law_holds}
use Rattle.runlaw.proofs.laws.run_law_stands.Goals as goal

pub returns : goal.returns
returns g c = λ f s. law_holds g.S.Strategy f s
