use Rattle.std.proofs.lemmas.Result.{err_from_is_err_and}
use Rattle.address.specs.Convention.{standard}
use Rattle.finalize.proofs.Finalizing.{steps_first, steps_last, steps_done}
use Rattle.finalize.proofs.finalize.finalize_steps.Goals as goal

pub returns-in_err-first : goal.returns-in_err-first
returns-in_err-first c =
    let p = err_from_is_err_and c.from_residual.result c.from_residual.ensures.1 in
    rw (p.1, p.2) (steps_first standard c.args.mi c.args.frame.now c.args.mem.now _ _ c.in_err-first.ensures)

pub returns-in_err-widen : goal.returns-in_err-widen
returns-in_err-widen c =
    let p = err_from_is_err_and c.from_residual-in_err-widen.result c.from_residual-in_err-widen.ensures.1 in
    rw (p.1, p.2) (steps_last standard c.args.mi c.args.frame.now c.args.mem.now c.in_ok-first.first c.in_ok-first.mem _ c.load-mem.result.0 _ _ c.in_ok-first.ensures c.load-mem.ensures c.in_err-widen.ensures)

pub returns : goal.returns
returns c =
    steps_done standard c.args.mi c.args.frame.now c.args.mem.now c.in_ok-first.first c.in_ok-first.mem _ c.load-mem.result.0 _ c.in_ok-first.ensures c.load-mem.ensures c.in_ok-widen.ensures
