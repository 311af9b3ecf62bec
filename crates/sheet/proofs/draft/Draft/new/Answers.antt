use Rattle.std.proofs.Common.{rules}
use Rattle.std.proofs.lemmas.Simd.{pick_l_whole}
use Rattle.sheet.proofs.draft.Draft.new.Goals as goal

pub returns : goal.returns
returns c = pick_l_whole 0 c.args.figures 22 (search rules)
