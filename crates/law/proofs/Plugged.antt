-- The law, with what is proved of reading and writing one instruction and of accesses.
use Rattle.std.proofs.Common.{◌≡◌, true}
use Rattle.address.specs.Access.{plan}
use Rattle.address.specs.Convention.{Convention, lawful_convention}
use Rattle.inversion.proofs.Inversion.{inversion}
use Rattle.address_law.proofs.Reaching.{reaches_if, target_found}
use Rattle.law.specs.Law.{Law}
use Rattle.law.proofs.Accepted.{access_accepted}
use Rattle.law.proofs.Faithfulness.{ReachesWritten, law}

reaches_written : (C : Convention) (lc : lawful_convention C ≡ true) → ReachesWritten C lc
reaches_written C lc s a may_trap m fr ok where_is aims from =
    let t = access_accepted C s (plan C a may_trap m fr) ok in
    reaches_if C lc a may_trap m fr t.no_constant t.temporary t.near t.form where_is (target_found C lc where_is a may_trap m fr aims) from

pub law_holds : Law
law_holds = law inversion.0 inversion.1 reaches_written
