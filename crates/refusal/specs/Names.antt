-- Refusals as text.
use Rattle.std.specs.Prelude.{ℕ, List, ◌++◌, codes, decimal}
use Rattle.refusal.specs.declared.Reason.{Reason}
use Rattle.refusal.specs.declared.Reason.TheVariants.{Buffer, Kind, Misfit, Clash, Opcode, Operand, Frame, Temporary, Unbound, Far, Form, Label, Odd, Constant, Full, Room, Cut, Unknown, Unused, Memory}
use Rattle.refusal.specs.declared.Layer.{Layer}
use Rattle.refusal.specs.declared.Layer.TheVariants as layer
use Rattle.refusal.specs.declared.Refusal.{Refusal}
use Rattle.refusal.specs.Refusals.{number_of}

abbrev pub reason_text : Reason → List ℕ
reason_text Buffer = codes "BUFFER"
reason_text Kind = codes "KIND"
reason_text Misfit = codes "MISFIT"
reason_text Clash = codes "CLASH"
reason_text Opcode = codes "OPCODE"
reason_text Operand = codes "OPERAND"
reason_text Frame = codes "FRAME"
reason_text Temporary = codes "TEMPORARY"
reason_text Unbound = codes "UNBOUND"
reason_text Far = codes "FAR"
reason_text Form = codes "FORM"
reason_text Label = codes "LABEL"
reason_text Odd = codes "ODD"
reason_text Constant = codes "CONSTANT"
reason_text Full = codes "FULL"
reason_text Room = codes "ROOM"
reason_text Cut = codes "CUT"
reason_text Unknown = codes "UNKNOWN"
reason_text Unused = codes "UNUSED"
reason_text Memory = codes "MEMORY"

abbrev pub layer_text : Layer → List ℕ
layer_text layer.Field = codes "field"
layer_text layer.Form = codes "form"
layer_text layer.Address = codes "address"
layer_text layer.Reading = codes "reading"
layer_text layer.Section = codes "section"

-- as "6 OPERAND at byte 12 (form)"
abbrev pub refusal_text : Refusal → List ℕ
refusal_text r =
    decimal (number_of r.reason) ++ (codes " " ++ (reason_text r.reason ++ (codes " at byte " ++ (decimal r.place ++ (codes " (" ++ (layer_text r.layer ++ codes ")"))))))
