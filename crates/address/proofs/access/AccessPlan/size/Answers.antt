use Rattle.std.proofs.Common.{[], ◌∷◌, ◌++◌, Some, arith}
use Rattle.address.specs.Held.{listed}
use Rattle.address.proofs.Sizes.{listed_small, size_append}
use Rattle.address.proofs.access.AccessPlan.size.Goals as goal

pub overflow_add-result : goal.overflow_add-result
overflow_add-result c = omega (arith, c.size_of.ensures, c.size_of-2.ensures, listed_small)

pub overflow_add-result-2 : goal.overflow_add-result-2
overflow_add-result-2 c = omega (arith, c.size_of.ensures, c.size_of-2.ensures, c.size_of-3.ensures, listed_small, listed_small (Some c.args.self.now.access))

pub returns : goal.returns
returns c =
    let p = c.args.self.now in
    let a = size_append (listed p.first ++ listed p.second) (p.access ∷ []) in
    let b = size_append (listed p.first) (listed p.second) in
    omega (arith, c.size_of.ensures, c.size_of-2.ensures, c.size_of-3.ensures)
