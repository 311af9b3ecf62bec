use Rattle.runlaw.proofs.Runs.{law_holds}
use Rattle.judge.proofs.Breaches.{law_decided}
use Rattle.judge.proofs.judge.Judge.keeps_law.Goals as goal

pub returns : goal.returns
returns g c =
    let st = g.S.Strategy in
    let self = c.args.self.now in
    let f = self.sheet in
    record {
      law = λ s h judged heads. law_decided st f s h self.verdict c.is_clean.result c.is_clean.ensures judged.told heads;
      cleared = λ s h m judged went.
          let law = law_holds st f s h m went in
          (law_decided st f s h self.verdict c.is_clean.result c.is_clean.ensures judged.told law.heads).1 law;
    }
