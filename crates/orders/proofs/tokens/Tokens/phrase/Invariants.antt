use Rattle.std.proofs.Common.{List, ◌∷◌, map, length}
use Rattle.orders.specs.Tokens.{Part}
use Rattle.orders.specs.Lines.{fixed, Form, Verdict, slots_of}
use Rattle.orders.specs.Reading.{left, behind, Reads}
use Rattle.orders.proofs.tokens.Tokens.phrase.Given as goal

-- what is left of the phrase is to be read from here
abbrev pub invariant-loop-token : goal.invariant-loop-token
invariant-loop-token l = (f : Form) (fs : List Form) (v : Verdict) → Reads v (behind (map (λ (p : Part). fixed p.text) (left l.wanted)) (f ∷ fs)) l.self → Reads v (behind (slots_of l.words) (f ∷ fs)) l.initial.self

abbrev pub decreases-loop-token : goal.decreases-loop-token
decreases-loop-token l = length (left l.wanted)
