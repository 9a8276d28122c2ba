use Rattle.address.specs.Convention.{standard}
use Rattle.address.specs.declared.frame.Frame as frame
use Rattle.finalize.proofs.Finalizing.{load_not, load_done}
use Rattle.finalize.proofs.finalize.load.Goals as goal

no_frame : frame.Frame
no_frame = record { incoming_args_size = 0; clobber_size = 0; fixed_frame_storage_size = 0; stackslots_size = 0; outgoing_args_size = 0; nominal_sp_offset = 0; outgoing_sp_offset = 0 }

pub returns-then-not-need_load_address : goal.returns-then-not-need_load_address
returns-then-not-need_load_address c =
    load_not c.args.mi c.args.first c.args.mem c.in_order.result c.in_order.ensures c.if-not-need_load_address.ensures

pub returns : goal.returns
returns c =
    load_done c.args.mi c.args.first c.args.mem c.reg.result c.writable_spilltmp_reg-rd.result c.get_flags-flags.result c.in_order-2.result no_frame
    c.writable_spilltmp_reg-rd.ensures c.in_order-2.ensures c.reg.ensures (c.get_flags-flags.ensures standard no_frame) c.if-not-need_load_address.ensures
