use Rattle.std.proofs.Common.{refl, ◌∙◌, rules, w16, w32}
use Rattle.std.proofs.lemmas.Int.{to_z-of_z}
use Rattle.form.specs.declared.Form.TheVariants.{E, RiA, RiB, RiC, RieA, RieD, RieF, RieG, RilA, Rr, Rrd, Rre, RrfAb, RrfCde, Rs, Rsy, Rx, Rxy, Si, Sil, Siy, VriA, VriB, VriC, VriK, VrrA, VrrB, VrrC, VrrD, VrrE, VrrF, VrsA, VrsB, VrsC, Vrx}
use Rattle.codec.proofs.Forming.{by_encoder, by_halves, next, reg, nat, int}
use Rattle.codec.proofs.encode.formed.Goals as goal

pub returns-in-E : goal.returns-in-E
returns-in-E c =
    c.new.ensures
    ∙ by_encoder c.args.instr.now.form E c.args.instr.now.opcode c.args.instr.now.operands c.in-E.is (search rules) c.requires c.enc_e.result _ c.enc_e.ensures
    refl

pub returns-in-RiA : goal.returns-in-RiA
returns-in-RiA c =
    c.new-in-RiA.ensures
    ∙ by_encoder c.args.instr.now.form RiA c.args.instr.now.opcode c.args.instr.now.operands c.in-RiA.is (search rules) c.requires c.enc_ri_a.result _ c.enc_ri_a.ensures
    (next (reg c.general.ensures) (next (nat c.half.ensures) refl))

pub returns-in-RiB : goal.returns-in-RiB
returns-in-RiB c =
    c.new-in-RiB.ensures
    ∙ by_encoder c.args.instr.now.form RiB c.args.instr.now.opcode c.args.instr.now.operands c.in-RiB.is (search rules) c.requires c.enc_ri_b.result _ c.enc_ri_b.ensures
    (next (reg c.general-in-RiB.ensures) (next (int (to_z-of_z w32 c.distance.result (record { sfits = c.distance.type_inv }) ∙ c.distance.ensures)) refl))

pub returns-in-RiC : goal.returns-in-RiC
returns-in-RiC c =
    c.new-in-RiC.ensures
    ∙ by_encoder c.args.instr.now.form RiC c.args.instr.now.opcode c.args.instr.now.operands c.in-RiC.is (search rules) c.requires c.enc_ri_c.result _ c.enc_ri_c.ensures
    (next (nat c.byte.ensures) (next (int (to_z-of_z w32 c.distance-in-RiC.result (record { sfits = c.distance-in-RiC.type_inv }) ∙ c.distance-in-RiC.ensures)) refl))

pub returns-in-RieA : goal.returns-in-RieA
returns-in-RieA c =
    c.new-in-RieA.ensures
    ∙ by_encoder c.args.instr.now.form RieA c.args.instr.now.opcode c.args.instr.now.operands c.in-RieA.is (search rules) c.requires c.enc_rie_a.result _ c.enc_rie_a.ensures
    (next (reg c.general-in-RieA.ensures) (next (nat c.half-in-RieA.ensures) (next (nat c.byte-in-RieA.ensures) refl)))

pub returns-in-RieD : goal.returns-in-RieD
returns-in-RieD c =
    c.new-in-RieD.ensures
    ∙ by_encoder c.args.instr.now.form RieD c.args.instr.now.opcode c.args.instr.now.operands c.in-RieD.is (search rules) c.requires c.enc_rie_d.result _ c.enc_rie_d.ensures
    (next (reg c.general-in-RieD.ensures) (next (reg c.general-in-RieD-2.ensures) (next (nat c.half-in-RieD.ensures) refl)))

pub returns-in-RieF : goal.returns-in-RieF
returns-in-RieF c =
    c.new-in-RieF.ensures
    ∙ by_encoder c.args.instr.now.form RieF c.args.instr.now.opcode c.args.instr.now.operands c.in-RieF.is (search rules) c.requires c.enc_rie_f.result _ c.enc_rie_f.ensures
    (next (reg c.general-in-RieF.ensures) (next (reg c.general-in-RieF-2.ensures) (next (nat c.byte-in-RieF.ensures) (next (nat c.byte-in-RieF-2.ensures) (next (nat c.byte-in-RieF-3.ensures) refl)))))

pub returns-in-RieG : goal.returns-in-RieG
returns-in-RieG c =
    c.new-in-RieG.ensures
    ∙ by_encoder c.args.instr.now.form RieG c.args.instr.now.opcode c.args.instr.now.operands c.in-RieG.is (search rules) c.requires c.enc_rie_g.result _ c.enc_rie_g.ensures
    (next (reg c.general-in-RieG.ensures) (next (nat c.half-in-RieG.ensures) (next (nat c.byte-in-RieG.ensures) refl)))

pub returns-in-RilA : goal.returns-in-RilA
returns-in-RilA c =
    c.new-in-RilA.ensures
    ∙ by_encoder c.args.instr.now.form RilA c.args.instr.now.opcode c.args.instr.now.operands c.in-RilA.is (search rules) c.requires c.enc_ril_a.result _ c.enc_ril_a.ensures
    (next (reg c.general-in-RilA.ensures) (next (nat c.word.ensures) refl))

pub returns-in-RilB : goal.returns-in-RilB
returns-in-RilB c =
    c.new-in-RilB.ensures
    ∙ by_halves c.args.instr.now.form c.args.instr.now.opcode c.args.instr.now.operands c.in-RilB.is (search rules) c.requires c.enc_ril_a-in-RilB.result _ c.enc_ril_a-in-RilB.ensures
    (next (reg c.general-in-RilB.ensures) (next (nat c.halved.ensures) refl))

pub returns-in-Rr : goal.returns-in-Rr
returns-in-Rr c =
    c.new-in-Rr.ensures
    ∙ by_encoder c.args.instr.now.form Rr c.args.instr.now.opcode c.args.instr.now.operands c.in-Rr.is (search rules) c.requires c.enc_rr.result _ c.enc_rr.ensures
    (next (reg c.general-in-Rr.ensures) (next (reg c.general-in-Rr-2.ensures) refl))

pub returns-in-Rrd : goal.returns-in-Rrd
returns-in-Rrd c =
    c.new-in-Rrd.ensures
    ∙ by_encoder c.args.instr.now.form Rrd c.args.instr.now.opcode c.args.instr.now.operands c.in-Rrd.is (search rules) c.requires c.enc_rrd.result _ c.enc_rrd.ensures
    (next (reg c.vector.ensures) (next (reg c.vector-in-Rrd.ensures) (next (reg c.vector-in-Rrd-2.ensures) refl)))

pub returns-in-Rre : goal.returns-in-Rre
returns-in-Rre c =
    c.new-in-Rre.ensures
    ∙ by_encoder c.args.instr.now.form Rre c.args.instr.now.opcode c.args.instr.now.operands c.in-Rre.is (search rules) c.requires c.enc_rre.result _ c.enc_rre.ensures
    (next (reg c.general-in-Rre.ensures) (next (reg c.general-in-Rre-2.ensures) refl))

pub returns-in-RrfAb : goal.returns-in-RrfAb
returns-in-RrfAb c =
    c.new-in-RrfAb.ensures
    ∙ by_encoder c.args.instr.now.form RrfAb c.args.instr.now.opcode c.args.instr.now.operands c.in-RrfAb.is (search rules) c.requires c.enc_rrf_ab.result _ c.enc_rrf_ab.ensures
    (next (reg c.general-in-RrfAb.ensures) (next (reg c.general-in-RrfAb-2.ensures) (next (reg c.general-in-RrfAb-3.ensures) (next (nat c.byte-in-RrfAb.ensures) refl))))

pub returns-in-RrfCde : goal.returns-in-RrfCde
returns-in-RrfCde c =
    c.new-in-RrfCde.ensures
    ∙ by_encoder c.args.instr.now.form RrfCde c.args.instr.now.opcode c.args.instr.now.operands c.in-RrfCde.is (search rules) c.requires c.enc_rrf_cde.result _ c.enc_rrf_cde.ensures
    (next (reg c.general-in-RrfCde.ensures) (next (reg c.general-in-RrfCde-2.ensures) (next (nat c.byte-in-RrfCde.ensures) (next (nat c.byte-in-RrfCde-2.ensures) refl))))

pub returns-in-Rs : goal.returns-in-Rs
returns-in-Rs c =
    c.new-in-Rs.ensures
    ∙ by_encoder c.args.instr.now.form Rs c.args.instr.now.opcode c.args.instr.now.operands c.in-Rs.is (search rules) c.requires c.enc_rs.result _ c.enc_rs.ensures
    (next (reg c.general-in-Rs.ensures) (next (reg c.general-in-Rs-2.ensures) (next (reg c.general-in-Rs-3.ensures) (next (nat c.word-in-Rs.ensures) refl))))

pub returns-in-Rsy : goal.returns-in-Rsy
returns-in-Rsy c =
    c.new-in-Rsy.ensures
    ∙ by_encoder c.args.instr.now.form Rsy c.args.instr.now.opcode c.args.instr.now.operands c.in-Rsy.is (search rules) c.requires c.enc_rsy.result _ c.enc_rsy.ensures
    (next (reg c.general-in-Rsy.ensures) (next (reg c.general-in-Rsy-2.ensures) (next (reg c.general-in-Rsy-3.ensures) (next (nat c.word-in-Rsy.ensures) refl))))

pub returns-in-Rx : goal.returns-in-Rx
returns-in-Rx c =
    c.new-in-Rx.ensures
    ∙ by_encoder c.args.instr.now.form Rx c.args.instr.now.opcode c.args.instr.now.operands c.in-Rx.is (search rules) c.requires c.enc_rx.result _ c.enc_rx.ensures
    (next (reg c.general-in-Rx.ensures) (next (reg c.general-in-Rx-2.ensures) (next (reg c.general-in-Rx-3.ensures) (next (nat c.word-in-Rx.ensures) refl))))

pub returns-in-Rxy : goal.returns-in-Rxy
returns-in-Rxy c =
    c.new-in-Rxy.ensures
    ∙ by_encoder c.args.instr.now.form Rxy c.args.instr.now.opcode c.args.instr.now.operands c.in-Rxy.is (search rules) c.requires c.enc_rxy.result _ c.enc_rxy.ensures
    (next (reg c.general-in-Rxy.ensures) (next (reg c.general-in-Rxy-2.ensures) (next (reg c.general-in-Rxy-3.ensures) (next (nat c.word-in-Rxy.ensures) refl))))

pub returns-in-Si : goal.returns-in-Si
returns-in-Si c =
    c.new-in-Si.ensures
    ∙ by_encoder c.args.instr.now.form Si c.args.instr.now.opcode c.args.instr.now.operands c.in-Si.is (search rules) c.requires c.enc_si.result _ c.enc_si.ensures
    (next (reg c.general-in-Si.ensures) (next (nat c.word-in-Si.ensures) (next (nat c.byte-in-Si.ensures) refl)))

pub returns-in-Sil : goal.returns-in-Sil
returns-in-Sil c =
    c.new-in-Sil.ensures
    ∙ by_encoder c.args.instr.now.form Sil c.args.instr.now.opcode c.args.instr.now.operands c.in-Sil.is (search rules) c.requires c.enc_sil.result _ c.enc_sil.ensures
    (next (reg c.general-in-Sil.ensures) (next (nat c.word-in-Sil.ensures) (next (int (to_z-of_z w16 c.short.result (record { sfits = c.short.type_inv }) ∙ c.short.ensures)) refl)))

pub returns-in-Siy : goal.returns-in-Siy
returns-in-Siy c =
    c.new-in-Siy.ensures
    ∙ by_encoder c.args.instr.now.form Siy c.args.instr.now.opcode c.args.instr.now.operands c.in-Siy.is (search rules) c.requires c.enc_siy.result _ c.enc_siy.ensures
    (next (reg c.general-in-Siy.ensures) (next (nat c.word-in-Siy.ensures) (next (nat c.byte-in-Siy.ensures) refl)))

pub returns-in-VriA : goal.returns-in-VriA
returns-in-VriA c =
    c.new-in-VriA.ensures
    ∙ by_encoder c.args.instr.now.form VriA c.args.instr.now.opcode c.args.instr.now.operands c.in-VriA.is (search rules) c.requires c.enc_vri_a.result _ c.enc_vri_a.ensures
    (next (reg c.vector-in-VriA.ensures) (next (nat c.half-in-VriA.ensures) (next (nat c.byte-in-VriA.ensures) refl)))

pub returns-in-VriB : goal.returns-in-VriB
returns-in-VriB c =
    c.new-in-VriB.ensures
    ∙ by_encoder c.args.instr.now.form VriB c.args.instr.now.opcode c.args.instr.now.operands c.in-VriB.is (search rules) c.requires c.enc_vri_b.result _ c.enc_vri_b.ensures
    (next (reg c.vector-in-VriB.ensures) (next (nat c.byte-in-VriB.ensures) (next (nat c.byte-in-VriB-2.ensures) (next (nat c.byte-in-VriB-3.ensures) refl))))

pub returns-in-VriC : goal.returns-in-VriC
returns-in-VriC c =
    c.new-in-VriC.ensures
    ∙ by_encoder c.args.instr.now.form VriC c.args.instr.now.opcode c.args.instr.now.operands c.in-VriC.is (search rules) c.requires c.enc_vri_c.result _ c.enc_vri_c.ensures
    (next (reg c.vector-in-VriC.ensures) (next (nat c.half-in-VriC.ensures) (next (reg c.vector-in-VriC-2.ensures) (next (nat c.byte-in-VriC.ensures) refl))))

pub returns-in-VriK : goal.returns-in-VriK
returns-in-VriK c =
    c.new-in-VriK.ensures
    ∙ by_encoder c.args.instr.now.form VriK c.args.instr.now.opcode c.args.instr.now.operands c.in-VriK.is (search rules) c.requires c.enc_vri_k.result _ c.enc_vri_k.ensures
    (next (nat c.byte-in-VriK.ensures) (next (reg c.vector-in-VriK.ensures) (next (reg c.vector-in-VriK-2.ensures) (next (reg c.vector-in-VriK-3.ensures) (next (reg c.vector-in-VriK-4.ensures) refl)))))

pub returns-in-VrrA : goal.returns-in-VrrA
returns-in-VrrA c =
    c.new-in-VrrA.ensures
    ∙ by_encoder c.args.instr.now.form VrrA c.args.instr.now.opcode c.args.instr.now.operands c.in-VrrA.is (search rules) c.requires c.enc_vrr_a.result _ c.enc_vrr_a.ensures
    (next (reg c.vector-in-VrrA.ensures) (next (reg c.vector-in-VrrA-2.ensures) (next (nat c.byte-in-VrrA.ensures) (next (nat c.byte-in-VrrA-2.ensures) (next (nat c.byte-in-VrrA-3.ensures) refl)))))

pub returns-in-VrrB : goal.returns-in-VrrB
returns-in-VrrB c =
    c.new-in-VrrB.ensures
    ∙ by_encoder c.args.instr.now.form VrrB c.args.instr.now.opcode c.args.instr.now.operands c.in-VrrB.is (search rules) c.requires c.enc_vrr_b.result _ c.enc_vrr_b.ensures
    (next (reg c.vector-in-VrrB.ensures) (next (reg c.vector-in-VrrB-2.ensures) (next (reg c.vector-in-VrrB-3.ensures) (next (nat c.byte-in-VrrB.ensures) (next (nat c.byte-in-VrrB-2.ensures) refl)))))

pub returns-in-VrrC : goal.returns-in-VrrC
returns-in-VrrC c =
    c.new-in-VrrC.ensures
    ∙ by_encoder c.args.instr.now.form VrrC c.args.instr.now.opcode c.args.instr.now.operands c.in-VrrC.is (search rules) c.requires c.enc_vrr_c.result _ c.enc_vrr_c.ensures
    (next (reg c.vector-in-VrrC.ensures) (next (reg c.vector-in-VrrC-2.ensures) (next (reg c.vector-in-VrrC-3.ensures) (next (nat c.byte-in-VrrC.ensures) (next (nat c.byte-in-VrrC-2.ensures) (next (nat c.byte-in-VrrC-3.ensures) refl))))))

pub returns-in-VrrD : goal.returns-in-VrrD
returns-in-VrrD c =
    c.new-in-VrrD.ensures
    ∙ by_encoder c.args.instr.now.form VrrD c.args.instr.now.opcode c.args.instr.now.operands c.in-VrrD.is (search rules) c.requires c.enc_vrr_d.result _ c.enc_vrr_d.ensures
    (next (reg c.vector-in-VrrD.ensures) (next (reg c.vector-in-VrrD-2.ensures) (next (reg c.vector-in-VrrD-3.ensures) (next (reg c.vector-in-VrrD-4.ensures) (next (nat c.byte-in-VrrD.ensures) (next (nat c.byte-in-VrrD-2.ensures) refl))))))

pub returns-in-VrrE : goal.returns-in-VrrE
returns-in-VrrE c =
    c.new-in-VrrE.ensures
    ∙ by_encoder c.args.instr.now.form VrrE c.args.instr.now.opcode c.args.instr.now.operands c.in-VrrE.is (search rules) c.requires c.enc_vrr_e.result _ c.enc_vrr_e.ensures
    (next (reg c.vector-in-VrrE.ensures) (next (reg c.vector-in-VrrE-2.ensures) (next (reg c.vector-in-VrrE-3.ensures) (next (reg c.vector-in-VrrE-4.ensures) (next (nat c.byte-in-VrrE.ensures) (next (nat c.byte-in-VrrE-2.ensures) refl))))))

pub returns-in-VrrF : goal.returns-in-VrrF
returns-in-VrrF c =
    c.new-in-VrrF.ensures
    ∙ by_encoder c.args.instr.now.form VrrF c.args.instr.now.opcode c.args.instr.now.operands c.in-VrrF.is (search rules) c.requires c.enc_vrr_f.result _ c.enc_vrr_f.ensures
    (next (reg c.vector-in-VrrF.ensures) (next (reg c.general-in-VrrF.ensures) (next (reg c.general-in-VrrF-2.ensures) refl)))

pub returns-in-VrsA : goal.returns-in-VrsA
returns-in-VrsA c =
    c.new-in-VrsA.ensures
    ∙ by_encoder c.args.instr.now.form VrsA c.args.instr.now.opcode c.args.instr.now.operands c.in-VrsA.is (search rules) c.requires c.enc_vrs_a.result _ c.enc_vrs_a.ensures
    (next (reg c.vector-in-VrsA.ensures) (next (reg c.general-in-VrsA.ensures) (next (nat c.word-in-VrsA.ensures) (next (reg c.vector-in-VrsA-2.ensures) (next (nat c.byte-in-VrsA.ensures) refl)))))

pub returns-in-VrsB : goal.returns-in-VrsB
returns-in-VrsB c =
    c.new-in-VrsB.ensures
    ∙ by_encoder c.args.instr.now.form VrsB c.args.instr.now.opcode c.args.instr.now.operands c.in-VrsB.is (search rules) c.requires c.enc_vrs_b.result _ c.enc_vrs_b.ensures
    (next (reg c.vector-in-VrsB.ensures) (next (reg c.general-in-VrsB.ensures) (next (nat c.word-in-VrsB.ensures) (next (reg c.general-in-VrsB-2.ensures) (next (nat c.byte-in-VrsB.ensures) refl)))))

pub returns-in-VrsC : goal.returns-in-VrsC
returns-in-VrsC c =
    c.new-in-VrsC.ensures
    ∙ by_encoder c.args.instr.now.form VrsC c.args.instr.now.opcode c.args.instr.now.operands c.in-VrsC.is (search rules) c.requires c.enc_vrs_c.result _ c.enc_vrs_c.ensures
    (next (reg c.general-in-VrsC.ensures) (next (reg c.general-in-VrsC-2.ensures) (next (nat c.word-in-VrsC.ensures) (next (reg c.vector-in-VrsC.ensures) (next (nat c.byte-in-VrsC.ensures) refl)))))

pub returns-in-Vrx : goal.returns-in-Vrx
returns-in-Vrx c =
    c.new-in-Vrx.ensures
    ∙ by_encoder c.args.instr.now.form Vrx c.args.instr.now.opcode c.args.instr.now.operands c.in-Vrx.is (search rules) c.requires c.enc_vrx.result _ c.enc_vrx.ensures
    (next (reg c.vector-in-Vrx.ensures) (next (reg c.general-in-Vrx.ensures) (next (reg c.general-in-Vrx-2.ensures) (next (nat c.word-in-Vrx.ensures) (next (nat c.byte-in-Vrx.ensures) refl)))))
