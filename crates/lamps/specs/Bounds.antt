-- Every word stands for a set of 0 to 7, and every set of 0 to 7 has a word.
use Rattle.std.specs.Prelude.{◌≡◌, refl, Bool, true, false, cond, ℕ, zero, suc, ◌^◌, ◌≤◌, ◌<◌, leb}
use Rattle.std.proofs.Common.{arith, mod-lt, mod-eq_of_lt}
use Rattle.lamps.specs.declared.colour.Lamp.TheVariants.{Red, FixedAmber, FlashingAmber}
use Rattle.lamps.specs.Words.{relay_set, current_of, current_set, current_word}

pub relay_within : (word : ℕ) → relay_set word < 8
relay_within word = mod-lt word (omega arith)

pub relay_every : (lit : ℕ) → lit < 8 → (word : ℕ) × (word < 2 ^ 32) × (relay_set word ≡ lit)
relay_every lit h = (lit, omega arith, mod-eq_of_lt h)

-- a lamp adds its number at most
part_most : (lit : Bool) (number : ℕ) → cond lit number 0 ≤ number
part_most true number = omega arith
part_most false number = omega arith

pub current_within : (word : ℕ) → current_set word < 8
current_within word =
    omega (arith, part_most (leb 20 (current_of word Red)) 1, part_most (leb 20 (current_of word FixedAmber)) 2, part_most (leb 20 (current_of word FlashingAmber)) 4)

-- the current of 20 in the bytes of a word is read back, set by set
pub current_reads_back : (lit : ℕ) → lit < 8 → current_set (current_word lit) ≡ lit
current_reads_back zero h = refl
current_reads_back (suc zero) h = refl
current_reads_back (suc (suc zero)) h = refl
current_reads_back (suc (suc (suc zero))) h = refl
current_reads_back (suc (suc (suc (suc zero)))) h = refl
current_reads_back (suc (suc (suc (suc (suc zero))))) h = refl
current_reads_back (suc (suc (suc (suc (suc (suc zero)))))) h = refl
current_reads_back (suc (suc (suc (suc (suc (suc (suc zero))))))) h = refl
current_reads_back (suc (suc (suc (suc (suc (suc (suc (suc n)))))))) h = absurd (omega arith)

pub current_every : (lit : ℕ) → lit < 8 → (word : ℕ) × (word < 2 ^ 32) × (current_set word ≡ lit)
current_every lit h = (current_word lit, omega arith, current_reads_back lit h)
