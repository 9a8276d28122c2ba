-- The calls that write the routine, one after another, and what each leaves.
use Rattle.std.specs.Prelude.{false, List, [], ◌∷◌, replicate, ℤ, pos, Some, None, Ok}
use Rattle.form.specs.declared.Form.TheVariants.{RiC, Rr}
use Rattle.book.specs.declared.target.Slot.TheVariants.{Waiting as waiting, Bound as bound}
use Rattle.address.specs.declared.args.MemArg.{MemArg}
use Rattle.address.specs.declared.args.MemArg.TheVariants.{Symbol}
use Rattle.address.specs.declared.frame.Frame.{Frame}
use Rattle.address.specs.declared.access.Access.{Access}
use Rattle.address.specs.declared.access.Access.TheVariants.{Mem}
use Rattle.address.specs.Convention.{standard, int_reg}
use Rattle.address.specs.Address.{trusted}
use Rattle.address.specs.Access.{plan}
use Rattle.address.specs.Aimed.{to_put, to_branch}
use Rattle.law.specs.Inventory.{Event, put, put_to_label, access, reserve, bind}
use Rattle.law.specs.Section.{State, opened, written, relabelled}
use Rattle.client.specs.Routine.{routine_entries}

abbrev pub load : Access
load = Mem (int_reg 2) None None (Some 0xC48)

abbrev pub word : MemArg
word = Symbol 0 (pos 8) trusted

abbrev pub no_frame : Frame
no_frame =
    record {
      incoming_args_size = 0;
      clobber_size = 0;
      fixed_frame_storage_size = 0;
      stackslots_size = 0;
      outgoing_args_size = 0;
      nominal_sp_offset = 0;
      outgoing_sp_offset = 0;
    }

abbrev pub return_operands : List ℤ
return_operands = pos 15 ∷ pos 14 ∷ pos 0 ∷ pos 0 ∷ pos 0 ∷ pos 0 ∷ []

abbrev pub routine_events : List Event
routine_events =
    reserve (Ok 0)
    ∷ put_to_label RiC 0xA74 (pos 8) 0 (Ok tt)
    ∷ access load false word no_frame (Ok tt)
    ∷ bind 0 (Ok tt)
    ∷ put Rr 0x07 return_operands (Ok tt)
    ∷ []

-- what each call leaves

abbrev pub at_start : State
at_start = opened routine_entries (replicate 12 0)

abbrev pub reserved : State
reserved = relabelled at_start (waiting ∷ [])

abbrev pub branched : State
branched = written reserved (to_branch RiC 0xA74 (pos 8) 0)

abbrev pub loaded : State
loaded = written branched (plan standard load false word no_frame).items

abbrev pub bound_there : State
bound_there = relabelled loaded (bound 10 ∷ [])

abbrev pub routine_state : State
routine_state = written bound_there (to_put Rr 0x07 return_operands)
