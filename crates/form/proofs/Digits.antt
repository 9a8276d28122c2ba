-- What an encoder's shifts and masks write, as digits: `simp digits` brings an encoder's bytes and its row's bytes to one form,
-- in which each byte is  16 * (a / 16^j % 16) + b / 16^k % 16.
use Rattle.std.proofs.Common.{◌≡◌, ℕ, suc, ◌+◌, ◌-◌, ◌*◌, ◌/◌, ◌%◌, ◌^◌, ◌<◌, ◌≤◌, Bool, true, false, ◌&&◌, ltb, ℤ, pos, negsuc, nat_abs, sym, refl, ap, ◌∙◌, add-zero, mod-eq_of_lt, zero-add, arith, w16, w32, w64, SFits, to_z, of_z}
use lib.Bits.{bit_and, bit_or, and_mask, or_shifted}
use lib.Signed.{shr_z}
use Rattle.std.proofs.lemmas.Nat.{mod_below}
use Rattle.std.proofs.lemmas.Int.{to_z-of_z, to_z_pos}
use Rattle.operand.specs.declared.reg.Reg.{Reg}
use Rattle.operand.specs.Registers.{is_float, vr}
use Rattle.refusal.specs.Numbers.{wrap}
use Rattle.form.proofs.Tests.{right, ltb_is}

-- The encoder's side.

-- `n & 0x0f`
pub and15 : (n : ℕ) → bit_and n 15 ≡ n % 16
and15 n = and_mask n 4

-- `n & 0xff`, a byte of two digits; after it `n >> k` has the digit k / 4 on
pub byte : (n : ℕ) → bit_and n 255 ≡ 16 * (n / 16 % 16) + n % 16
byte n = and_mask n 8 ∙ omega arith

pub past_1 : (n : ℕ) → n / 16 / 16 ≡ n / 256
past_1 n = omega arith

pub past_2 : (n : ℕ) → n / 256 / 16 ≡ n / 4096
past_2 n = omega arith

pub past_3 : (n : ℕ) → n / 4096 / 16 ≡ n / 65536
past_3 n = omega arith

pub past_4 : (n : ℕ) → n / 65536 / 16 ≡ n / 1048576
past_4 n = omega arith

pub past_6 : (n : ℕ) → n / 16777216 / 16 ≡ n / 268435456
past_6 n = omega arith

-- `(n & 0x0f) << 4`
pub shl4 : (n : ℕ) → n % 16 * 16 % 256 ≡ 16 * (n % 16)
shl4 n = omega arith

or16 : (a b : ℕ) → b < 16 → bit_or (16 * a) b ≡ 16 * a + b
or16 a b h =
    let e : 16 * a ≡ a * 16 = omega arith in
    ap (λ (x : ℕ). bit_or x b) e ∙ or_shifted a 4 b h ∙ omega arith

-- `a << 4 | b`, of two digits
pub or_digits : (a b : ℕ) → bit_or (16 * (a % 16)) (b % 16) ≡ 16 * (a % 16) + b % 16
or_digits a b = or16 (a % 16) (b % 16) (omega arith)

-- the same, of a digit and a number that is known to be one
pub or_digit : (a b : ℕ) → b < 16 → bit_or (16 * (a % 16)) b ≡ 16 * (a % 16) + b
or_digit a b h = or16 (a % 16) b h

-- The row's side: a field is cut to its kind's bits, and then to digits.

-- digit 0 is `n / 1 % 16`
pub div_one : (n : ℕ) → n / 1 ≡ n
div_one n = omega arith

pub cut_4_0 : (n : ℕ) → n % 16 % 16 ≡ n % 16
cut_4_0 n = omega arith

pub cut_5_0 : (n : ℕ) → n % 32 % 16 ≡ n % 16
cut_5_0 n = omega arith

pub cut_8_0 : (n : ℕ) → n % 256 % 16 ≡ n % 16
cut_8_0 n = omega arith

pub cut_8_1 : (n : ℕ) → n % 256 / 16 % 16 ≡ n / 16 % 16
cut_8_1 n = omega arith

pub cut_12_0 : (n : ℕ) → n % 4096 % 16 ≡ n % 16
cut_12_0 n = omega arith

pub cut_12_1 : (n : ℕ) → n % 4096 / 16 % 16 ≡ n / 16 % 16
cut_12_1 n = omega arith

pub cut_12_2 : (n : ℕ) → n % 4096 / 256 % 16 ≡ n / 256 % 16
cut_12_2 n = omega arith

pub cut_16_0 : (n : ℕ) → n % 65536 % 16 ≡ n % 16
cut_16_0 n = omega arith

pub cut_16_1 : (n : ℕ) → n % 65536 / 16 % 16 ≡ n / 16 % 16
cut_16_1 n = omega arith

pub cut_16_2 : (n : ℕ) → n % 65536 / 256 % 16 ≡ n / 256 % 16
cut_16_2 n = omega arith

pub cut_16_3 : (n : ℕ) → n % 65536 / 4096 % 16 ≡ n / 4096 % 16
cut_16_3 n = omega arith

pub cut_20_0 : (n : ℕ) → n % 1048576 % 16 ≡ n % 16
cut_20_0 n = omega arith

pub cut_20_1 : (n : ℕ) → n % 1048576 / 16 % 16 ≡ n / 16 % 16
cut_20_1 n = omega arith

pub cut_20_2 : (n : ℕ) → n % 1048576 / 256 % 16 ≡ n / 256 % 16
cut_20_2 n = omega arith

pub cut_20_3 : (n : ℕ) → n % 1048576 / 4096 % 16 ≡ n / 4096 % 16
cut_20_3 n = omega arith

pub cut_20_4 : (n : ℕ) → n % 1048576 / 65536 % 16 ≡ n / 65536 % 16
cut_20_4 n = omega arith

pub cut_32_0 : (n : ℕ) → n % 4294967296 % 16 ≡ n % 16
cut_32_0 n = omega arith

pub cut_32_1 : (n : ℕ) → n % 4294967296 / 16 % 16 ≡ n / 16 % 16
cut_32_1 n = omega arith

pub cut_32_2 : (n : ℕ) → n % 4294967296 / 256 % 16 ≡ n / 256 % 16
cut_32_2 n = omega arith

pub cut_32_3 : (n : ℕ) → n % 4294967296 / 4096 % 16 ≡ n / 4096 % 16
cut_32_3 n = omega arith

pub cut_32_4 : (n : ℕ) → n % 4294967296 / 65536 % 16 ≡ n / 65536 % 16
cut_32_4 n = omega arith

pub cut_32_5 : (n : ℕ) → n % 4294967296 / 1048576 % 16 ≡ n / 1048576 % 16
cut_32_5 n = omega arith

pub cut_32_6 : (n : ℕ) → n % 4294967296 / 16777216 % 16 ≡ n / 16777216 % 16
cut_32_6 n = omega arith

pub cut_32_7 : (n : ℕ) → n % 4294967296 / 268435456 % 16 ≡ n / 268435456 % 16
cut_32_7 n = omega arith

-- a byte that is written as it is
pub whole_byte : (n : ℕ) → n < 256 → 16 * (n / 16 % 16) + n % 16 ≡ n
whole_byte n h = omega arith

-- a vector register's number
pub vr_whole : (r : Reg) → vr r ≡ true → r.number % 32 ≡ r.number
unfolding vr
vr_whole r e = let h = ltb_is r.number 32 (right (is_float r.class) (ltb r.number 32) e) in mod-eq_of_lt h

-- Signed numbers.

-- `z.cast_unsigned()` of an `i16`
pub bits_16 : (z : ℤ) → SFits w16 z → of_z w16 (to_z w16 (of_z w16 z)) ≡ wrap 16 z
bits_16 z h = ap (of_z w16) (to_z-of_z w16 z h) ∙ bits z h where
  bits : (z : ℤ) → SFits w16 z → of_z w16 z ≡ wrap 16 z
  bits (pos n) h = let l = h.sfits in omega arith
  bits (negsuc n) h = let l = h.sfits in let e : n % 65536 ≡ n = omega arith in omega arith

-- `((z >> 1) & 0xffff_ffff) as u32` of an `i64`
pub half_32 : (z : ℤ) → SFits w64 z → nat_abs (to_z w64 (bit_and (of_z w64 (shr_z (to_z w64 (of_z w64 z)) 2)) 4294967295)) ≡ wrap 32 (shr_z z 2)
half_32 z h =
    ap (λ (y : ℤ). nat_abs (to_z w64 (bit_and (of_z w64 (shr_z y 2)) 4294967295))) (to_z-of_z w64 z h)
    ∙ ap (λ (n : ℕ). nat_abs (to_z w64 n)) (and_mask (of_z w64 (shr_z z 2)) 32)
    ∙ ap nat_abs (to_z_pos w64 (of_z w64 (shr_z z 2) % 4294967296) (let k = mod_below (of_z w64 (shr_z z 2)) 4294967296 (omega arith) in omega arith))
    ∙ low z h where
      low : (z : ℤ) → SFits w64 z → of_z w64 (shr_z z 2) % 4294967296 ≡ wrap 32 (shr_z z 2)
      low (pos n) h = refl
      low (negsuc n) h = let l = h.sfits in omega arith

-- `((z >> 1) & 0xffff) as u16` of an `i32`
pub half_16 : (z : ℤ) → SFits w32 z → nat_abs (to_z w32 (bit_and (of_z w32 (shr_z (to_z w32 (of_z w32 z)) 2)) 65535)) ≡ wrap 16 (shr_z z 2)
half_16 z h =
    ap (λ (y : ℤ). nat_abs (to_z w32 (bit_and (of_z w32 (shr_z y 2)) 65535))) (to_z-of_z w32 z h)
    ∙ ap (λ (n : ℕ). nat_abs (to_z w32 n)) (and_mask (of_z w32 (shr_z z 2)) 16)
    ∙ ap nat_abs (to_z_pos w32 (of_z w32 (shr_z z 2) % 65536) (let k = mod_below (of_z w32 (shr_z z 2)) 65536 (omega arith) in omega arith))
    ∙ low z h where
      low : (z : ℤ) → SFits w32 z → of_z w32 (shr_z z 2) % 65536 ≡ wrap 16 (shr_z z 2)
      low (pos n) h = refl
      low (negsuc n) h = let l = h.sfits in omega arith

pub ruleset digits = (and15, byte, past_1, past_2, past_3, past_4, past_6, shl4, or_digits, or_digit, add-zero, zero-add, div_one, cut_4_0, cut_5_0, cut_8_0, cut_8_1, cut_12_0, cut_12_1, cut_12_2, cut_16_0, cut_16_1, cut_16_2, cut_16_3, cut_20_0, cut_20_1, cut_20_2, cut_20_3, cut_20_4, cut_32_0, cut_32_1, cut_32_2, cut_32_3, cut_32_4, cut_32_5, cut_32_6, cut_32_7, whole_byte, vr_whole, half_16)

-- a byte of `n.to_be_bytes()`
pub mod_byte : (n : ℕ) → n % 256 ≡ 16 * (n / 16 % 16) + n % 16
mod_byte n = omega arith

-- what `to_be_bytes` gives, as digits: after `digits`, since a field's cut is no byte
pub ruleset bytes = (mod_byte, past_2, past_4, past_6, add-zero, zero-add)
