-- The flow that ALINEA moves fits 64 bits: a gain of at most 200, times a difference of two 32-bit numbers, and a 32-bit flow.
use Rattle.std.proofs.Common.{◌≡◌, ℕ, zero, suc, ◌+◌, ◌*◌, ◌^◌, ◌<◌, ◌≤◌, ℤ, pos, negsuc, ◌+ℤ◌, ◌-ℤ◌, ◌*ℤ◌, neg_ℤ, ◌≤ℤ◌, ap, ◌∙◌, mul-le-mul_right, arith, w64, to_z, of_z}
use lib.Signed.{mag}
use Rattle.std.proofs.lemmas.Int.{ints, to_z-of_z}
use Rattle.strategy.specs.Alinea.{moved_flow}

-- a number as a 64-bit word has it
abbrev pub word : ℤ → ℤ
word z = to_z w64 (of_z w64 z)

pub word_is : (z : ℤ) → mag z < 2 ^ 63 → word z ≡ z
word_is z h = to_z-of_z w64 z (record { sfits = h })

-- a number between -h and h
small : (h : ℕ) (z : ℤ) → neg_ℤ (pos h) ≤ℤ z → z ≤ℤ pos h → mag z < h + 1
small h (pos n) low high = omega (arith, ints)
small h (negsuc n) low high = omega (arith, ints)

negated_small : (n h : ℕ) → n < h → mag (neg_ℤ (pos n)) < h
negated_small zero h l = l
negated_small (suc n) h l = omega arith

product_small : (gain : ℕ) (z : ℤ) → gain ≤ 200 → mag z < 2 ^ 33 → mag (pos gain *ℤ z) < 2 ^ 42
product_small gain (pos n) g l = let m : gain * n ≤ 200 * n = mul-le-mul_right n g in omega arith
product_small gain (negsuc n) g l =
    let m : gain * suc n ≤ 200 * suc n = mul-le-mul_right (suc n) g in negated_small (gain * suc n) (2 ^ 42) (omega arith)

sum_small : (q : ℕ) (z : ℤ) → q < 2 ^ 32 → mag z < 2 ^ 42 → mag (pos q +ℤ z) < 2 ^ 63
sum_small q (pos n) h l = omega arith
sum_small q (negsuc n) h l =
    let s = small 8796093022208 (pos q +ℤ negsuc n) (omega (arith, ints)) (omega (arith, ints)) in omega arith

room_small : (critical occupancy : ℕ) → critical < 2 ^ 32 → occupancy < 2 ^ 32 → mag (pos critical -ℤ pos occupancy) < 2 ^ 33
room_small critical occupancy ha hb =
    let s = small 4294967296 (pos critical -ℤ pos occupancy) (omega (arith, ints)) (omega (arith, ints)) in omega arith

word_pos : (a : ℤ) (n : ℕ) → a ≡ pos n → n < 2 ^ 32 → word a ≡ pos n
word_pos a n e h = ap word e ∙ word_is (pos n) (omega arith)

-- a flow f, a gain g and the room below the critical occupancy, as the code has them
pub record Moving (f g room : ℤ) (flow gain critical occupancy : ℕ) : Type 0 where
  pub flow_is : f ≡ pos flow
  pub gain_is : g ≡ pos gain
  pub room_is : room ≡ pos critical -ℤ pos occupancy
  pub gain_most : gain ≤ 200
  pub flow_fits : flow < 2 ^ 32
  pub critical_fits : critical < 2 ^ 32
  pub occupancy_fits : occupancy < 2 ^ 32

module _ (f g room : ℤ) (flow gain critical occupancy : ℕ) (m : Moving f g room flow gain critical occupancy) where
  gained_small : mag (pos gain *ℤ (pos critical -ℤ pos occupancy)) < 2 ^ 42
  gained_small = product_small gain (pos critical -ℤ pos occupancy) m.gain_most (room_small critical occupancy m.critical_fits m.occupancy_fits)

  gained : word g *ℤ word room ≡ pos gain *ℤ (pos critical -ℤ pos occupancy)
  gained =
      let l : gain ≤ 200 = m.gain_most in
      let h = room_small critical occupancy m.critical_fits m.occupancy_fits in
      ap (λ x. x *ℤ word room) (word_pos g gain m.gain_is (omega arith)) ∙
      ap (λ x. pos gain *ℤ x) (ap word m.room_is ∙ word_is (pos critical -ℤ pos occupancy) (omega arith))

  moved : word f +ℤ word (word g *ℤ word room) ≡ moved_flow gain critical flow occupancy
  moved =
      let h = gained_small in
      ap (λ x. x +ℤ word (word g *ℤ word room)) (word_pos f flow m.flow_is m.flow_fits) ∙
      ap (λ x. pos flow +ℤ x) (ap word gained ∙ word_is (pos gain *ℤ (pos critical -ℤ pos occupancy)) (omega arith))

  moved_small : mag (moved_flow gain critical flow occupancy) < 2 ^ 63
  moved_small = sum_small flow (pos gain *ℤ (pos critical -ℤ pos occupancy)) m.flow_fits gained_small

  pub moved_is : word (word f +ℤ word (word g *ℤ word room)) ≡ moved_flow gain critical flow occupancy
  moved_is = ap word moved ∙ word_is (moved_flow gain critical flow occupancy) moved_small
