-- A line is taken exactly if its tokens are those of one of the six lines.
use Rattle.std.proofs.Common.{◌≡◌, ℕ, ◌+◌, ◌≤◌, Bool, true, false, cond, ◌&&◌, ltb, leb, List, [], ◌∷◌, ◌++◌, map, length, Some, None, Ok, Err, codes, Option, sym, refl, ap, ◌∙◌, subst, ⊎_elim, arith}
use Rattle.std.specs.List.{prefix_len}
use Rattle.std.proofs.lemmas.Slice.Eq.{bytes_eq-Decides}
use Rattle.std.proofs.lemmas.Bool.{and_parts, and_from, cases_Bool, false≢true, cond-true, cond-false, le-leb, leb-true, le-ltb, ltb-false}
use Rattle.orders.specs.declared.fault.ReaderFault.{ReaderFault}
use Rattle.orders.specs.declared.fault.OrderFault.{OrderFault}
use Rattle.orders.specs.declared.fault.OrderFault.TheVariants.{Cycle as OutsideRange}
use Rattle.orders.specs.declared.order.Order.{Order}
use Rattle.orders.specs.declared.order.Order.TheVariants.{Central, Local, Cycle, Off, Status, Cycles}
use Rattle.orders.specs.Tokens.{Part, part, known, tokens_from, tokens_of}
use Rattle.orders.specs.Lines.{Slot, fixed, value, Meaning, orders, sets_cycle, Form, Verdict, lines, all_digits, number, takes, spelt, found, last_part, longest_shared, place_after, verdict, order_by, cycle_order}
use Rattle.orders.specs.Orders.{Check, length_check, byte_check, after, line_order, order_of}
use Rattle.orders.specs.Laws.{all_known, Good, texts_of, Spells}
use Rattle.orders.proofs.Spaces.{texts}

-- The table asks only for the texts of the tokens.
abbrev spelt_by : List Slot → List (List ℕ) → Bool
spelt_by [] [] = true
spelt_by [] (t ∷ ts) = false
spelt_by (s ∷ ss) [] = false
spelt_by (s ∷ ss) (t ∷ ts) = takes s t && spelt_by ss ts

abbrev found_by : List Form → List (List ℕ) → Option Meaning
found_by [] ts = None
found_by (f ∷ fs) ts = cond (spelt_by f.slots ts) (Some f.meaning) (found_by fs ts)

abbrev last_text : List ℕ → List (List ℕ) → List ℕ
last_text seen [] = seen
last_text seen (t ∷ ts) = last_text t ts

spelt_texts : (ss : List Slot) (ps : List Part) → spelt ss ps ≡ spelt_by ss (texts ps)
spelt_texts [] [] = refl
spelt_texts [] (p ∷ ps) = refl
spelt_texts (s ∷ ss) [] = refl
spelt_texts (s ∷ ss) (p ∷ ps) = ap (λ b. takes s p.text && b) (spelt_texts ss ps)

found_texts : (fs : List Form) (ps : List Part) → found fs ps ≡ found_by fs (texts ps)
found_texts [] ps = refl
found_texts (f ∷ fs) ps = λ i. cond (spelt_texts f.slots ps i) (Some f.meaning) (found_texts fs ps i)

last_text_lem : (seen : Part) (ps : List Part) → (last_part seen ps).text ≡ last_text seen.text (texts ps)
last_text_lem seen [] = refl
last_text_lem seen (p ∷ ps) = last_text_lem p ps

last_push : (seen : List ℕ) (ts : List (List ℕ)) (t : List ℕ) → last_text seen (ts ++ t ∷ []) ≡ t
last_push seen [] t = refl
last_push seen (u ∷ ts) t = last_push u ts t

-- what a line's slots spell
fixed_spelt : (ws : List Part) (ts : List (List ℕ)) → spelt_by (map (λ (p : Part). fixed p.text) ws) ts ≡ true → ts ≡ texts ws
fixed_spelt [] [] h = refl
fixed_spelt [] (t ∷ ts) h = absurd (false≢true h)
fixed_spelt (w ∷ ws) [] h = absurd (false≢true h)
fixed_spelt (w ∷ ws) (t ∷ ts) h = let p = and_parts _ _ h in λ i. sym ((bytes_eq-Decides w.text t).0 p.0) i ∷ fixed_spelt ws ts p.1 i

value_spelt : (ws : List Part) (ts : List (List ℕ)) → spelt_by (map (λ (p : Part). fixed p.text) ws ++ value ∷ []) ts ≡ true → (ds : List ℕ) × (ts ≡ texts ws ++ ds ∷ []) × (all_digits ds ≡ true)
value_spelt [] [] h = absurd (false≢true h)
value_spelt [] (t ∷ []) h = (t, refl, (and_parts _ _ h).0)
value_spelt [] (t ∷ u ∷ ts) h = absurd (false≢true (and_parts (all_digits t) false h).1)
value_spelt (w ∷ ws) [] h = absurd (false≢true h)
value_spelt (w ∷ ws) (t ∷ ts) h =
    let p = and_parts _ _ h in
    let k = value_spelt ws ts p.1 in
    (k.0, λ i. sym ((bytes_eq-Decides w.text t).0 p.0) i ∷ k.1 i, k.2)

-- what follows of each line that the texts spell follows of the meaning that is found
module _ (ts : List (List ℕ)) (P : Meaning → Type 0) where
  abbrev OfEach : List Form → Type 0
  OfEach [] = Unit {0}
  OfEach (f ∷ fs) = (spelt_by f.slots ts ≡ true → P f.meaning) × OfEach fs

  found_each : (fs : List Form) → OfEach fs → (m : Meaning) → found_by fs ts ≡ Some m → P m
  found_each [] h m e = absurd cc
  found_each (f ∷ fs) h m e = go (spelt_by f.slots ts) refl (λ k. found_each fs h.1 m k) e
    where
      go : (b : Bool) → spelt_by f.slots ts ≡ b → (found_by fs ts ≡ Some m → P m) → cond b (Some f.meaning) (found_by fs ts) ≡ Some m → P m
      go true s rest e = let q : f.meaning ≡ m = cc in subst P q (h.0 s)
      go false s rest e = rest e

no_order : (f : OrderFault) (o : Order) → ◌≡◌ {A = Verdict} (Err f) (Ok o) → ⊥
no_order f o e = cc

in_range_lem : (n place : ℕ) (o : Order) → cycle_order n place ≡ Ok o → (Cycle n ≡ o) × (4 ≤ n) × (n ≤ 120)
in_range_lem n place o h = go (leb 4 n && leb n 120) refl h
  where
    go : (b : Bool) → (leb 4 n && leb n 120) ≡ b → cond b (Ok (Cycle n)) (Err (OutsideRange place)) ≡ Ok o → (Cycle n ≡ o) × (4 ≤ n) × (n ≤ 120)
    go true e k = let p = and_parts (leb 4 n) (leb n 120) e in let q : Cycle n ≡ o = cc in (q, leb-true 4 n p.0, leb-true n 120 p.1)
    go false e k = absurd (no_order _ o k)

-- a meaning that gives an order, with the last text at some place
abbrev Gives : List (List ℕ) → Order → Meaning → Type 0
Gives ts o m = (place : ℕ) → order_by m (part (last_text [] ts) place) ≡ Ok o → Spells o ts

plainly : (ts : List (List ℕ)) (o k : Order) → Spells k ts → Gives ts o (orders k)
plainly ts o k s place e = let q : k ≡ o = cc in subst (λ x. Spells x ts) q s

by_value : (ts : List (List ℕ)) (o : Order) → (ds : List ℕ) × (ts ≡ texts_of (codes "PA, AM=F.1, CY=") ++ ds ∷ []) × (all_digits ds ≡ true) → Gives ts o sets_cycle
by_value ts o s place e =
    let ds = s.0 in
    let last : last_text [] ts ≡ ds = ap (last_text []) s.1 ∙ last_push [] (texts_of (codes "PA, AM=F.1, CY=")) ds in
    let k = in_range_lem (number ds) place o (sym (ap (λ w. cycle_order (number w) place) last) ∙ e) in
    subst (λ x. Spells x ts) k.0 (ds, s.1, s.2, refl, k.1, k.2)

six : (ts : List (List ℕ)) (o : Order) → OfEach ts (Gives ts o) lines
unfolding lines
six ts o = (
  λ h. plainly ts o Central (fixed_spelt (tokens_of (codes "PA, AM=PIL, AF=PF/0")) ts h),
  (
    λ h. plainly ts o Local (fixed_spelt (tokens_of (codes "PA, AM=PIL, AF=PF/1")) ts h),
    (
      λ h. by_value ts o (value_spelt (tokens_of (codes "PA, AM=F.1, CY=")) ts h),
      (
        λ h. plainly ts o Off (fixed_spelt (tokens_of (codes "PM, EXTNORM")) ts h),
        (
          λ h. plainly ts o Status (fixed_spelt (tokens_of (codes "P")) ts h),
          (
            λ h. plainly ts o Cycles (fixed_spelt (tokens_of (codes "PE")) ts h),
            tt,
          ),
        ),
      ),
    ),
  ),
)

-- every byte is good just if the good ones at the front are all
all_known_lem : (xs : List ℕ) → all_known xs ≡ true → length xs ≤ prefix_len known xs
all_known_lem [] h = omega arith
all_known_lem (x ∷ xs) h =
    let p = and_parts (known x) (all_known xs) h in
    omega (arith, cond-true (known x) (1 + prefix_len known xs) 0 p.0, all_known_lem xs p.1)

known_all : (xs : List ℕ) → length xs ≤ prefix_len known xs → all_known xs ≡ true
known_all [] h = refl
known_all (x ∷ xs) h =
    ⊎_elim
    (λ e. and_from (known x) (all_known xs) e (known_all xs (omega (arith, cond-true (known x) (1 + prefix_len known xs) 0 e))))
    (λ e. absurd (omega (arith, cond-false (known x) (1 + prefix_len known xs) 0 e)))
    (cases_Bool (known x))

-- an order comes past both checks
past_checks : (a b : Check) (v : Verdict) (o : Order) → after a (after b v) ≡ Ok o → (a ≡ Ok tt) × (b ≡ Ok tt) × (v ≡ Ok o)
past_checks (Ok x) (Ok y) v o h = (refl, refl, h)
past_checks (Ok x) (Err f) v o h = absurd (no_order _ o h)
past_checks (Err f) b v o h = absurd (no_order _ o h)

passed : (t : Bool) (f : ReaderFault) → ◌≡◌ {A = Check} (cond t (Ok tt) (Err f)) (Ok tt) → t ≡ true
passed true f h = refl
passed false f h = cc

not_failed : (t : Bool) (f : ReaderFault) → ◌≡◌ {A = Check} (cond t (Err f) (Ok tt)) (Ok tt) → t ≡ false
not_failed true f h = cc
not_failed false f h = refl

good : (line : List ℕ) → length_check line ≡ Ok tt → byte_check line ≡ Ok tt → Good line
good line h k =
    let p = and_parts (leb 1 (length line)) (leb (length line) 80) (passed (leb 1 (length line) && leb (length line) 80) _ h) in
    (leb-true 1 (length line) p.0, leb-true (length line) 80 p.1, known_all line (ltb-false (prefix_len known line) (length line) (not_failed _ _ k)))

checked : (line : List ℕ) (v : Verdict) → Good line → after (length_check line) (after (byte_check line) v) ≡ v
checked line v g =
    ap (λ c. after c (after (byte_check line) v)) (cond-true (leb 1 (length line) && leb (length line) 80) _ _ (and_from (leb 1 (length line)) (leb (length line) 80) (le-leb 1 (length line) g.0) (le-leb (length line) 80 g.1))) ∙
    ap (λ c. after c v) (cond-false (ltb (prefix_len known line) (length line)) _ _ (le-ltb (prefix_len known line) (length line) (all_known_lem line g.2)))

-- the last token of a line, or none
abbrev final : List ℕ → Part
final line = last_part (part [] 0) (tokens_of line)

final_text : (line : List ℕ) (m : Meaning) → order_by m (final line) ≡ order_by m (part (last_text [] (texts_of line)) (final line).place)
final_text line m = ap (λ w. order_by m (part w (final line).place)) (last_text_lem (part [] 0) (tokens_of line))

pub taken_only : (line : List ℕ) (o : Order) → order_of line ≡ Ok o → Good line × Spells o (texts_of line)
taken_only line o h = let k = past_checks (length_check line) (byte_check line) (line_order line) o h in (good line k.0 k.1, go (found_by lines (texts_of line)) refl (sym (ap (λ m. verdict m (final line) stray) (found_texts lines (tokens_of line))) ∙ k.2))
  where
    stray : ℕ
    stray = place_after (longest_shared lines (tokens_of line)) (tokens_of line) (length line)

    go : (x : Option Meaning) → found_by lines (texts_of line) ≡ x → verdict x (final line) stray ≡ Ok o → Spells o (texts_of line)
    go None e v = absurd (no_order _ o v)
    go (Some m) e v = found_each (texts_of line) (Gives (texts_of line) o) lines (six (texts_of line) o) m e (final line).place (sym (final_text line m) ∙ v)

-- a good line whose tokens are found in the table gives what that line means
reads : (line : List ℕ) (m : Meaning) → Good line → found_by lines (texts_of line) ≡ Some m → order_of line ≡ order_by m (final line)
reads line m g e =
    checked line (line_order line) g ∙
    ap (λ x. verdict x (final line) (place_after (longest_shared lines (tokens_of line)) (tokens_of line) (length line))) (found_texts lines (tokens_of line) ∙ e)

pub taken : (line : List ℕ) (o : Order) → Good line → Spells o (texts_of line) → order_of line ≡ Ok o
unfolding lines tokens_from
taken line Central g s = reads line (orders Central) g (ap (found_by lines) s)
taken line Local g s = reads line (orders Local) g (ap (found_by lines) s)
taken line (Cycle n) g s =
    let ds = s.0 in
    let place = (final line).place in
    let value_found : found_by lines (texts_of line) ≡ Some sets_cycle = ap (found_by lines) s.1 ∙ cond-true (all_digits ds && true) _ _ (and_from (all_digits ds) true s.2 refl) in
    let last : last_text [] (texts_of line) ≡ ds = ap (last_text []) s.1 in
    reads line sets_cycle g value_found ∙ final_text line sets_cycle ∙ ap (λ w. cycle_order (number w) place) last ∙ ap (λ k. cycle_order k place) s.3 ∙
    cond-true (leb 4 n && leb n 120) _ _ (and_from (leb 4 n) (leb n 120) (le-leb 4 n s.4) (le-leb n 120 s.5))
taken line Off g s = reads line (orders Off) g (ap (found_by lines) s)
taken line Status g s = reads line (orders Status) g (ap (found_by lines) s)
taken line Cycles g s = reads line (orders Cycles) g (ap (found_by lines) s)

pub same_order : (l m : List ℕ) (o : Order) → Good m → texts_of l ≡ texts_of m → order_of l ≡ Ok o → order_of m ≡ Ok o
same_order l m o g e h = taken m o g (subst (Spells o) e (taken_only l o h).1)
