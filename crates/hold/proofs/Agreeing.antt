-- No row differs exactly where all agree.
use Rattle.std.specs.Prelude.{◌≡◌, ℕ, ◌+◌, Bool, true, false, cond, ◌&&◌, List, [], ◌∷◌, ◌==◌}
use Rattle.std.specs.List.{list_all}
use Rattle.std.proofs.Common.{refl, arith, ap, ◌∙◌, zero-add}
use Rattle.std.proofs.lemmas.Bool.Decides.{nat_tests}
use Rattle.hold.specs.Rows.{Rows, agree, differing, capped}

one_more : (b : Bool) (d : ℕ) (t : Bool) → (capped d == 0) ≡ t → (capped (cond b 0 1 + d) == 0) ≡ (b && t)
one_more true d t e = ap (λ n. capped n == 0) (zero-add d) ∙ e
one_more false d t e = grind (arith, nat_tests)

pub none_differs : (rs : List Rows) → (capped (differing rs) == 0) ≡ list_all agree rs
none_differs [] = refl
none_differs (r ∷ rs) = one_more (agree r) (differing rs) (list_all agree rs) (none_differs rs)
