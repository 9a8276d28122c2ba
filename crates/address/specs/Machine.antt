-- What the machine does with an address: the effect of the four helpers, and the address that an instruction reaches.
use Rattle.std.specs.Prelude.{◌≡◌, ℕ, Bool, cond, ◌&&◌, ◌||◌, List, [], ◌∷◌, ◌++◌, ℤ, pos, ◌+ℤ◌, Some, None, Option, ◌==◌, ◌≢◌, slice_index_or, unsigned_abs}
use Rattle.form.specs.declared.Form.{Form}
use Rattle.form.specs.declared.Form.TheVariants.{RilA, RilB, Rs, Rsy, Rx, Rxy, Si, Sil, Siy, Vrx}
use Rattle.form.specs.Form.{same_form}
use Rattle.refusal.specs.Refusals.{when_some}
use Rattle.form.specs.declared.instr.Placed.{Placed}
use Rattle.address.specs.Convention.{zero_reg, Convention}
use Rattle.address.specs.Address.{bxd12, bxd20, label, constant, symbol, Mode, real, virtual, adjustment}
use Rattle.refusal.specs.Numbers.{wrap, signed}
use Rattle.book.specs.declared.target.Target.{Target}
use Rattle.book.specs.declared.target.Target.TheVariants.{Label as to_label, Symbol as to_symbol}

-- the integer registers' contents, each modulo 2^64
abbrev pub Registers : Type 0
Registers = ℕ → ℤ

abbrev pub word : ℤ → ℤ
word z = pos (wrap 64 z)

-- register 0 as a base or an index reads as zero
abbrev pub content : Registers → ℕ → ℤ
content g r = cond (r == zero_reg) (pos 0) (g r)

abbrev pub set_register : Registers → ℕ → ℤ → Registers
set_register g r z = λ q. cond (q == r) (word z) (g q)

-- The address that an access names. Places are told from the section's start; `load` is the address where that is loaded.
abbrev pub named : (Target → Option ℤ) → ℤ → Registers → Mode → Option ℤ
named where_is load g (real (bxd12 base index disp flags)) = Some (content g base.number +ℤ content g index.number +ℤ disp)
named where_is load g (real (bxd20 base index disp flags)) = Some (content g base.number +ℤ content g index.number +ℤ disp)
named where_is load g (real (label l)) = when_some (λ p. load +ℤ p) (where_is (to_label l))
named where_is load g (real (constant c)) = None
named where_is load g (real (symbol n offset flags)) = when_some (λ p. load +ℤ p) (where_is (to_symbol n offset))
named where_is load g (virtual v) = Some (content g v.base.number +ℤ v.off +ℤ adjustment v)

-- The address that an instruction reaches: which of its operands say so.
pub data Addressing : Type 0 where
  based : ℕ → ℕ → Addressing  -- base and displacement
  indexed : ℕ → ℕ → ℕ → Addressing  -- base, index and displacement
  relative : ℕ → Addressing  -- a distance from the instruction

abbrev pub addressings : List (Form × Addressing)
addressings =
    (Rx, indexed 1 2 3)
    ∷ (Rxy, indexed 1 2 3)
    ∷ (Vrx, indexed 1 2 3)
    ∷ (Rs, based 2 3)
    ∷ (Rsy, based 2 3)
    ∷ (Si, based 0 1)
    ∷ (Siy, based 0 1)
    ∷ (Sil, based 0 1)
    ∷ (RilB, relative 1)
    ∷ []

abbrev pub look_up : Form → List (Form × Addressing) → Option Addressing
look_up f [] = None
look_up f (p ∷ ps) = cond (same_form f p.0) (Some p.1) (look_up f ps)

-- operand k, and the number of the register that it is
abbrev pub operand : Placed → ℕ → ℤ
operand i k = slice_index_or i.instr.operands k (pos 0)

abbrev pub register : Placed → ℕ → ℕ
register i k = unsigned_abs (operand i k)

abbrev pub reached_by : ℤ → Registers → Placed → Addressing → ℤ
reached_by load g i (based b d) = content g (register i b) +ℤ operand i d
reached_by load g i (indexed b x d) = content g (register i b) +ℤ content g (register i x) +ℤ operand i d
reached_by load g i (relative d) = load +ℤ pos i.place +ℤ operand i d

abbrev pub reached : ℤ → Registers → Placed → Option ℤ
reached load g i = when_some (reached_by load g i) (look_up i.instr.form addressings)

-- The helpers.
abbrev pub is_instr : Form → ℕ → Placed → Bool
is_instr f o i = same_form i.instr.form f && i.instr.opcode == o

-- LGFI sets its register to a sign-extended number; LA, LAY and LARL set it to the address reached; no other instruction is known here
abbrev pub executed : ℤ → Placed → Registers → Option Registers
executed load i g =
    cond (is_instr RilA 0xC01 i) (Some (set_register g (register i 0) (signed 32 (unsigned_abs (operand i 1)))))
    (cond (is_instr Rx 0x41 i || is_instr Rxy 0xE371 i || is_instr RilB 0xC00 i) (when_some (set_register g (register i 0)) (reached load g i))
    None)

abbrev pub then_run : (Registers → Option Registers) → Option Registers → Option Registers
then_run f None = None
then_run f (Some g) = f g

abbrev pub run : ℤ → List Placed → Registers → Option Registers
run load [] g = Some g
run load (i ∷ is) g = then_run (run load is) (executed load i g)

-- From these registers the helpers run, and then the access reaches the address named, modulo 2^64. No register changes but the temporary.
pub record ReachesFrom (C : Convention) (where_is : Target → Option ℤ) (m : Mode) (helpers : List Placed) (access : Placed) (load : ℤ) (g : Registers) : Type 0 where
  pub after : Registers
  pub runs : run load helpers g ≡ Some after
  pub there : ℤ
  pub reaches : reached load after access ≡ Some there
  pub address : ℤ
  pub names : named where_is load g m ≡ Some address
  pub same : word there ≡ word address
  pub others : (r : ℕ) → (r ≢ C.temporary) → after r ≡ g r

-- the instructions of an access: from any registers, loaded anywhere, they reach the address named
pub record Reaches (C : Convention) (where_is : Target → Option ℤ) (m : Mode) (is : List Placed) : Type 0 where
  pub helpers : List Placed
  pub access : Placed
  pub all_of_them : is ≡ helpers ++ access ∷ []
  pub from : (load : ℤ) (g : Registers) → ReachesFrom C where_is m helpers access load g
