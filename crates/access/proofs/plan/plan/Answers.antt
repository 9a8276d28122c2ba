use Rattle.std.proofs.Common.{rules}
use Rattle.std.proofs.lemmas.Result.{err_from_is_err_and, IfOk-from_err}
use Rattle.access.proofs.Planning.{helped, plan_err, plan_done, plan_never, plan_reaches}
use Rattle.access.proofs.plan.plan.Goals as goal

pub returns-in_err-helpers : goal.returns-in_err-helpers
returns-in_err-helpers c =
    let p = err_from_is_err_and c.from_residual.result c.from_residual.ensures.1 in
    let r = c.args.request.now in
    record {
      writes = rw (p.1, p.2) (plan_err r.access r.may_trap r.mem r.frame.now c.args.lost_label _ _ _ c.in_err-helpers.ensures);
      reaches = IfOk-from_err c.from_residual.result _ c.from_residual.ensures.0;
    }

pub returns-in_err-access : goal.returns-in_err-access
returns-in_err-access c =
    let r = c.args.request.now in
    absurd (plan_never r.access r.may_trap r.mem r.frame.now c.args.lost_label c.in_ok-helpers.helpers c.in_ok-helpers.left c.in_ok-helpers.ensures (rw c.in_err-access.ensures.ok_part at c.accessing.ensures))

pub returns : goal.returns
returns c =
    let r = c.args.request.now in
    let f = helped _ c.in_ok-helpers.helpers.first c.and_then.result c.and_then.ensures (λ h k. search rules) in
    let s = helped _ c.in_ok-helpers.helpers.second c.and_then-2.result c.and_then-2.ensures (λ h k. search rules) in
    let w = plan_done r.access r.may_trap r.mem r.frame.now c.args.lost_label c.in_ok-helpers.helpers c.in_ok-helpers.left c.in_ok-helpers.ensures
    c.and_then.result c.and_then-2.result c.in_ok-access.access f s (rw c.in_ok-access.ensures.ok_part at c.accessing.ensures) in
    record { writes = w; reaches = plan_reaches r.access r.may_trap r.mem r.frame.now c.args.lost_label c.in_ok-helpers.helpers c.in_ok-helpers.left c.in_ok-helpers.ensures _ w }
