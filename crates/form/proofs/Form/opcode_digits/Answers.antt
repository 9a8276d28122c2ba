use Rattle.std.proofs.Common.{refl}
use Rattle.form.specs.Form.{opcode_digits}
use Rattle.form.proofs.Arms.{three, four}
use Rattle.form.proofs.Form.opcode_digits.Goals as goal

pub returns-in-Rr : goal.returns-in-Rr
returns-in-Rr c = four opcode_digits refl refl refl refl c.in-Rr.is

pub returns-in-RiA : goal.returns-in-RiA
returns-in-RiA c = three opcode_digits refl refl refl c.in-RiA.is

pub returns-in-RilA : goal.returns-in-RilA
returns-in-RilA c = three opcode_digits refl refl refl c.in-RilA.is

pub returns-in-E : goal.returns-in-E
returns-in-E c = three opcode_digits refl refl refl c.in-E.is

pub returns-in-RrfAb : goal.returns-in-RrfAb
returns-in-RrfAb c = three opcode_digits refl refl refl c.in-RrfAb.is

pub returns-in-RieA : goal.returns-in-RieA
returns-in-RieA c = four opcode_digits refl refl refl refl c.in-RieA.is

pub returns-in-Rsy : goal.returns-in-Rsy
returns-in-Rsy c = three opcode_digits refl refl refl c.in-Rsy.is

pub returns-in-VriA : goal.returns-in-VriA
returns-in-VriA c = four opcode_digits refl refl refl refl c.in-VriA.is

pub returns-in-VrrA : goal.returns-in-VrrA
returns-in-VrrA c = three opcode_digits refl refl refl c.in-VrrA.is

pub returns-in-VrrD : goal.returns-in-VrrD
returns-in-VrrD c = three opcode_digits refl refl refl c.in-VrrD.is

pub returns-in-VrsA : goal.returns-in-VrsA
returns-in-VrsA c = four opcode_digits refl refl refl refl c.in-VrsA.is
