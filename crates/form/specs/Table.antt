-- The code's tables of forms, in the words of the rows.
use Rattle.std.specs.Prelude.{ℕ, List, [], ◌∷◌, codes}
use Rattle.form.specs.declared.Form.{Form}
use Rattle.form.specs.declared.Form.TheVariants.{E, RiA, RiB, RiC, RieA, RieD, RieF, RieG, RilA, RilB, RilC, Rr, Rrd, Rre, RrfAb, RrfCde, Rs, Rsy, Rx, Rxy, Si, Sil, Siy, VriA, VriB, VriC, VriK, VrrA, VrrB, VrrC, VrrD, VrrE, VrrF, VrsA, VrsB, VrsC, Vrx}
use Rattle.form.specs.declared.table.OpcodeDigits.{OpcodeDigits}
use Rattle.form.specs.declared.table.OpcodeDigits.TheVariants.{Two, Three, FourFront, FourEnds}

-- the places of the opcode's digits
abbrev pub places : OpcodeDigits → List ℕ
places Two = 0 ∷ 1 ∷ []
places Three = 0 ∷ 1 ∷ 3 ∷ []
places FourFront = 0 ∷ 1 ∷ 2 ∷ 3 ∷ []
places FourEnds = 0 ∷ 1 ∷ 10 ∷ 11 ∷ []

abbrev pub form_text : Form → List ℕ
form_text E = codes "E"
form_text RiA = codes "RI-a"
form_text RiB = codes "RI-b"
form_text RiC = codes "RI-c"
form_text RieA = codes "RIE-a"
form_text RieD = codes "RIE-d"
form_text RieF = codes "RIE-f"
form_text RieG = codes "RIE-g"
form_text RilA = codes "RIL-a"
form_text RilB = codes "RIL-b"
form_text RilC = codes "RIL-c"
form_text Rr = codes "RR"
form_text Rrd = codes "RRD"
form_text Rre = codes "RRE"
form_text RrfAb = codes "RRF-ab"
form_text RrfCde = codes "RRF-cde"
form_text Rs = codes "RS"
form_text Rsy = codes "RSY"
form_text Rx = codes "RX"
form_text Rxy = codes "RXY"
form_text Si = codes "SI"
form_text Sil = codes "SIL"
form_text Siy = codes "SIY"
form_text VriA = codes "VRI-a"
form_text VriB = codes "VRI-b"
form_text VriC = codes "VRI-c"
form_text VriK = codes "VRI-k"
form_text VrrA = codes "VRR-a"
form_text VrrB = codes "VRR-b"
form_text VrrC = codes "VRR-c"
form_text VrrD = codes "VRR-d"
form_text VrrE = codes "VRR-e"
form_text VrrF = codes "VRR-f"
form_text VrsA = codes "VRS-a"
form_text VrsB = codes "VRS-b"
form_text VrsC = codes "VRS-c"
form_text Vrx = codes "VRX"
