-- What finalizing an address is for: after its helpers the form that is left, which the instruction has, names the same place.
use Rattle.std.specs.Prelude.{◌≡◌, ℕ, Bool, true, not, ◌&&◌, ◌||◌, List, [], ◌∷◌, ℤ, Some, None, Option, ◌≢◌}
use Rattle.refusal.specs.Refusals.{when_some}
use Rattle.book.specs.declared.target.Target.{Target}
use Rattle.address.specs.declared.args.MemArg.{MemArg}
use Rattle.address.specs.declared.args.MemInstType.{MemInstType}
use Rattle.address.specs.declared.frame.Frame.{Frame}
use Rattle.address.specs.Convention.{Convention, lawful_convention}
use Rattle.address.specs.Address.{Address, bxd12, bxd20, label, constant, symbol, Mode, real, mode, Helper, lgfi, load_address, list_of, indexed, finalize, finalize_refusal}
use Rattle.address.specs.Machine.{Registers, word, set_register, named, then_run}

-- whether the instruction has a form for this address
abbrev pub permits : MemInstType → Address → Bool
permits mi (bxd12 base index disp flags) = mi.have_d12 && (mi.have_index || not (indexed index))
permits mi (bxd20 base index disp flags) = mi.have_d20 && (mi.have_index || not (indexed index))
permits mi (label l) = mi.have_pcrel
permits mi (constant c) = mi.have_pcrel
permits mi (symbol n offset flags) = mi.have_pcrel && (mi.have_unaligned_pcrel || flags.aligned)

-- what a helper is for: its register becomes the number, or the place that the address names
abbrev pub effect : (Target → Option ℤ) → ℤ → Helper → Registers → Option Registers
effect where_is load (lgfi rd n) g = Some (set_register g rd.number n)
effect where_is load (load_address rd a) g = when_some (set_register g rd.number) (named where_is load g (real a))

abbrev pub effects : (Target → Option ℤ) → ℤ → List Helper → Registers → Option Registers
effects where_is load [] g = Some g
effects where_is load (h ∷ hs) g = then_run (effects where_is load hs) (effect where_is load h g)

-- from registers g the helpers run, and then `a` names the place z, modulo 2^64; no register changes but the temporary
pub record LeadsTo (C : Convention) (where_is : Target → Option ℤ) (load : ℤ) (g : Registers) (hs : List Helper) (a : Address) (z : ℤ) : Type 0 where
  pub after : Registers
  pub runs : effects where_is load hs g ≡ Some after
  pub there : ℤ
  pub reaches : named where_is load after (real a) ≡ Some there
  pub same : word there ≡ word z
  pub others : (r : ℕ) → (r ≢ C.temporary) → after r ≡ g r

-- the helpers and then the form stand for the address, wherever that is
pub record StandsFor (C : Convention) (mi : MemInstType) (md : Mode) (hs : List Helper) (a : Address) : Type 0 where
  pub permitted : permits mi a ≡ true
  pub leads : (where_is : Target → Option ℤ) (load : ℤ) (g : Registers) (z : ℤ) → named where_is load g md ≡ Some z → LeadsTo C where_is load g hs a z

abbrev pub FinalizingStands : Type 0
FinalizingStands =
    (C : Convention) → lawful_convention C ≡ true →
    (mi : MemInstType) (fr : Frame) (m : MemArg) → finalize_refusal C mi fr m ≡ None →
    StandsFor C mi (mode C fr m) (list_of (finalize C mi fr m).0) (finalize C mi fr m).1
