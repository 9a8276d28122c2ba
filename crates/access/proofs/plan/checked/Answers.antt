use Rattle.std.proofs.Common.{sym, ◌∙◌}
use Rattle.std.proofs.lemmas.Result.{err_from_is_err_and}
use Rattle.access.proofs.Planning.{refused_before, refused_lost, refused_odd, refused_constant, accepted}
use Rattle.access.proofs.plan.checked.Goals as goal

pub returns-in_err-left : goal.returns-in_err-left
returns-in_err-left c =
    let r = c.args.request.now in
    let f = sym (c.fits.ensures r.frame.now) ∙ c.if-not-fits.false in
    let p = err_from_is_err_and c.from_residual.result c.from_residual.ensures.1 in
    rw (p.1, p.2) (refused_before r.access r.may_trap r.mem r.frame.now c.args.lost_label _ c.permitted-mi.ensures f _ _ c.in_err-left.ensures)

pub returns-then-lost_label : goal.returns-then-lost_label
returns-then-lost_label c =
    let r = c.args.request.now in
    let f = sym (c.fits.ensures r.frame.now) ∙ c.if-not-fits.false in
    refused_lost r.access r.may_trap r.mem r.frame.now c.args.lost_label _ c.permitted-mi.ensures f _ c.in_ok-left.ensures _ c.if-lost_label.true

pub returns-then-odd_offset : goal.returns-then-odd_offset
returns-then-odd_offset c =
    let r = c.args.request.now in
    let f = sym (c.fits.ensures r.frame.now) ∙ c.if-not-fits.false in
    refused_odd r.access r.may_trap r.mem r.frame.now c.args.lost_label _ c.permitted-mi.ensures f _ c.in_ok-left.ensures _ c.if-lost_label.false (c.if-odd_offset.ensures r.frame.now)

pub returns-then-is_constant : goal.returns-then-is_constant
returns-then-is_constant c =
    let r = c.args.request.now in
    let f = sym (c.fits.ensures r.frame.now) ∙ c.if-not-fits.false in
    refused_constant r.access r.may_trap r.mem r.frame.now c.args.lost_label _ c.permitted-mi.ensures f _ c.in_ok-left.ensures _ c.if-lost_label.false (c.if-odd_offset.ensures r.frame.now) (c.if-is_constant.ensures r.frame.now)

pub returns : goal.returns
returns c =
    let r = c.args.request.now in
    let f = sym (c.fits.ensures r.frame.now) ∙ c.if-not-fits.false in
    accepted r.access r.may_trap r.mem r.frame.now c.args.lost_label _ c.permitted-mi.ensures f _ c.in_ok-left.ensures c.if-lost_label.false (c.if-odd_offset.ensures r.frame.now) (c.if-is_constant.ensures r.frame.now)
