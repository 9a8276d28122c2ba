-- The window of a call: the frame with another outgoing offset.
use Rattle.std.specs.Prelude.{ℕ}
use Rattle.address.specs.declared.frame.Frame.{Frame}

-- the same frame but for its outgoing offset
abbrev pub with_outgoing : Frame → ℕ → Frame
with_outgoing fr at =
    record {
      incoming_args_size = fr.incoming_args_size;
      clobber_size = fr.clobber_size;
      fixed_frame_storage_size = fr.fixed_frame_storage_size;
      stackslots_size = fr.stackslots_size;
      outgoing_args_size = fr.outgoing_args_size;
      nominal_sp_offset = fr.nominal_sp_offset;
      outgoing_sp_offset = at;
    }
