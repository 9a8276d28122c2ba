use Rattle.std.proofs.Common.{sym, refl, ap}
use Rattle.catalogue.specs.Listed.{entries_in}
use Rattle.catalogue_law.proofs.Basics.{ok_err}
use Rattle.section.specs.State.{state, numbered, plain}
use Rattle.client.proofs.Accepted.{Bound, first_label, up_to_bind, emitted}
use Rattle.client.proofs.emit.Goals as goal

pub returns-in_err-promise : goal.returns-in_err-promise
returns-in_err-promise c =
    absurd (ok_err refl (sym (first_label c.requires (c.in_err-promise.ensures.step (entries_in c.args.catalogue.now)))))

pub unreachable-requires : goal.unreachable-requires
unreachable-requires c =
    let es = entries_in c.args.catalogue.now in
    let b : Bound (state c.args.section.now es c.args.code.now) c.put_to_label-branch.result c.access-loaded.result (plain c.bind.result) (state c.bind.new.self es c.access-loaded.new.code) =
    up_to_bind {s1 = state c.reserve.new.self es c.args.code.now} {s2 = state c.put_to_label-branch.new.self es c.put_to_label-branch.new.code}
    {s3 = state c.access-loaded.new.self es c.access-loaded.new.code} {t = state c.bind.new.self es c.access-loaded.new.code} {bind_answer = plain c.bind.result} c.requires (ap numbered c.in_ok-promise.was) c.label-label.ensures (c.reserve.ensures.step es) c.put_to_label-branch.ensures.step c.access-loaded.ensures.step
    (c.bind.ensures.step es) in
    absurd (ok_err b.bind_taken (ap plain c.in-Err.is))

pub returns-in_err-branch : goal.returns-in_err-branch
returns-in_err-branch c =
    let es = entries_in c.args.catalogue.now in
    let b : Bound (state c.args.section.now es c.args.code.now) c.put_to_label-branch.result c.access-loaded.result (plain c.bind.result) (state c.bind.new.self es c.access-loaded.new.code) =
    up_to_bind {s1 = state c.reserve.new.self es c.args.code.now} {s2 = state c.put_to_label-branch.new.self es c.put_to_label-branch.new.code}
    {s3 = state c.access-loaded.new.self es c.access-loaded.new.code} {t = state c.bind.new.self es c.access-loaded.new.code} {bind_answer = plain c.bind.result} c.requires (ap numbered c.in_ok-promise.was) c.label-label.ensures (c.reserve.ensures.step es) c.put_to_label-branch.ensures.step c.access-loaded.ensures.step
    (c.bind.ensures.step es) in
    absurd (ok_err b.branch_taken c.in_err-branch.was)

pub returns-in_err-loaded : goal.returns-in_err-loaded
returns-in_err-loaded c =
    let es = entries_in c.args.catalogue.now in
    let b : Bound (state c.args.section.now es c.args.code.now) c.put_to_label-branch.result c.access-loaded.result (plain c.bind.result) (state c.bind.new.self es c.access-loaded.new.code) =
    up_to_bind {s1 = state c.reserve.new.self es c.args.code.now} {s2 = state c.put_to_label-branch.new.self es c.put_to_label-branch.new.code}
    {s3 = state c.access-loaded.new.self es c.access-loaded.new.code} {t = state c.bind.new.self es c.access-loaded.new.code} {bind_answer = plain c.bind.result} c.requires (ap numbered c.in_ok-promise.was) c.label-label.ensures (c.reserve.ensures.step es) c.put_to_label-branch.ensures.step c.access-loaded.ensures.step
    (c.bind.ensures.step es) in
    absurd (ok_err b.load_taken c.in_err-loaded.was)

pub returns : goal.returns
returns c =
    let es = entries_in c.args.catalogue.now in
    let b : Bound (state c.args.section.now es c.args.code.now) c.put_to_label-branch.result c.access-loaded.result (plain c.bind.result) (state c.bind.new.self es c.access-loaded.new.code) =
    up_to_bind {s1 = state c.reserve.new.self es c.args.code.now} {s2 = state c.put_to_label-branch.new.self es c.put_to_label-branch.new.code}
    {s3 = state c.access-loaded.new.self es c.access-loaded.new.code} {t = state c.bind.new.self es c.access-loaded.new.code} {bind_answer = plain c.bind.result} c.requires (ap numbered c.in_ok-promise.was) c.label-label.ensures (c.reserve.ensures.step es) c.put_to_label-branch.ensures.step c.access-loaded.ensures.step
    (c.bind.ensures.step es) in
    let e = emitted {t = state c.put.new.self es c.put.new.code} b c.put.ensures.step in
    record { accepted = e.accepted; leaves = e.leaves; run = e.run }
