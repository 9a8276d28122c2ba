use Rattle.std.proofs.Common.{sym, refl, ap}
use Rattle.form.specs.Form.{row}
use Rattle.codec.proofs.row.row.Goals as goal

pub returns-in-E : goal.returns-in-E
returns-in-E c = record { is = ap row (sym c.in-E.is); low = refl }

pub returns-in-RiA : goal.returns-in-RiA
returns-in-RiA c = record { is = ap row (sym c.in-RiA.is); low = refl }

pub returns-in-RiB : goal.returns-in-RiB
returns-in-RiB c = record { is = ap row (sym c.in-RiB.is); low = refl }

pub returns-in-RiC : goal.returns-in-RiC
returns-in-RiC c = record { is = ap row (sym c.in-RiC.is); low = refl }

pub returns-in-RieA : goal.returns-in-RieA
returns-in-RieA c = record { is = ap row (sym c.in-RieA.is); low = refl }

pub returns-in-RieD : goal.returns-in-RieD
returns-in-RieD c = record { is = ap row (sym c.in-RieD.is); low = refl }

pub returns-in-RieF : goal.returns-in-RieF
returns-in-RieF c = record { is = ap row (sym c.in-RieF.is); low = refl }

pub returns-in-RieG : goal.returns-in-RieG
returns-in-RieG c = record { is = ap row (sym c.in-RieG.is); low = refl }

pub returns-in-RilA : goal.returns-in-RilA
returns-in-RilA c = record { is = ap row (sym c.in-RilA.is); low = refl }

pub returns-in-RilB : goal.returns-in-RilB
returns-in-RilB c = record { is = ap row (sym c.in-RilB.is); low = refl }

pub returns-in-RilC : goal.returns-in-RilC
returns-in-RilC c = record { is = ap row (sym c.in-RilC.is); low = refl }

pub returns-in-Rr : goal.returns-in-Rr
returns-in-Rr c = record { is = ap row (sym c.in-Rr.is); low = refl }

pub returns-in-Rrd : goal.returns-in-Rrd
returns-in-Rrd c = record { is = ap row (sym c.in-Rrd.is); low = refl }

pub returns-in-Rre : goal.returns-in-Rre
returns-in-Rre c = record { is = ap row (sym c.in-Rre.is); low = refl }

pub returns-in-RrfAb : goal.returns-in-RrfAb
returns-in-RrfAb c = record { is = ap row (sym c.in-RrfAb.is); low = refl }

pub returns-in-RrfCde : goal.returns-in-RrfCde
returns-in-RrfCde c = record { is = ap row (sym c.in-RrfCde.is); low = refl }

pub returns-in-Rs : goal.returns-in-Rs
returns-in-Rs c = record { is = ap row (sym c.in-Rs.is); low = refl }

pub returns-in-Rsy : goal.returns-in-Rsy
returns-in-Rsy c = record { is = ap row (sym c.in-Rsy.is); low = refl }

pub returns-in-Rx : goal.returns-in-Rx
returns-in-Rx c = record { is = ap row (sym c.in-Rx.is); low = refl }

pub returns-in-Rxy : goal.returns-in-Rxy
returns-in-Rxy c = record { is = ap row (sym c.in-Rxy.is); low = refl }

pub returns-in-Si : goal.returns-in-Si
returns-in-Si c = record { is = ap row (sym c.in-Si.is); low = refl }

pub returns-in-Sil : goal.returns-in-Sil
returns-in-Sil c = record { is = ap row (sym c.in-Sil.is); low = refl }

pub returns-in-Siy : goal.returns-in-Siy
returns-in-Siy c = record { is = ap row (sym c.in-Siy.is); low = refl }

pub returns-in-VriA : goal.returns-in-VriA
returns-in-VriA c = record { is = ap row (sym c.in-VriA.is); low = refl }

pub returns-in-VriB : goal.returns-in-VriB
returns-in-VriB c = record { is = ap row (sym c.in-VriB.is); low = refl }

pub returns-in-VriC : goal.returns-in-VriC
returns-in-VriC c = record { is = ap row (sym c.in-VriC.is); low = refl }

pub returns-in-VriK : goal.returns-in-VriK
returns-in-VriK c = record { is = ap row (sym c.in-VriK.is); low = refl }

pub returns-in-VrrA : goal.returns-in-VrrA
returns-in-VrrA c = record { is = ap row (sym c.in-VrrA.is); low = refl }

pub returns-in-VrrB : goal.returns-in-VrrB
returns-in-VrrB c = record { is = ap row (sym c.in-VrrB.is); low = refl }

pub returns-in-VrrC : goal.returns-in-VrrC
returns-in-VrrC c = record { is = ap row (sym c.in-VrrC.is); low = refl }

pub returns-in-VrrD : goal.returns-in-VrrD
returns-in-VrrD c = record { is = ap row (sym c.in-VrrD.is); low = refl }

pub returns-in-VrrE : goal.returns-in-VrrE
returns-in-VrrE c = record { is = ap row (sym c.in-VrrE.is); low = refl }

pub returns-in-VrrF : goal.returns-in-VrrF
returns-in-VrrF c = record { is = ap row (sym c.in-VrrF.is); low = refl }

pub returns-in-VrsA : goal.returns-in-VrsA
returns-in-VrsA c = record { is = ap row (sym c.in-VrsA.is); low = refl }

pub returns-in-VrsB : goal.returns-in-VrsB
returns-in-VrsB c = record { is = ap row (sym c.in-VrsB.is); low = refl }

pub returns-in-VrsC : goal.returns-in-VrsC
returns-in-VrsC c = record { is = ap row (sym c.in-VrsC.is); low = refl }

pub returns-in-Vrx : goal.returns-in-Vrx
returns-in-Vrx c = record { is = ap row (sym c.in-Vrx.is); low = refl }
